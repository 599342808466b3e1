-- Groups at the front of a file, and what the file keeps.
use Rattle.std.proofs.Common.{◌≡◌, ◌≢◌, inl, inr, ℕ, zero, suc, ◌+◌, ◌<◌, ◌≤◌, Bool, true, false, List, [], ◌∷◌, ◌++◌, length, take, drop, Option, Some, None, refl, sym, ◌∙◌, ap, arith, append_assoc, length-append, take-append-drop}
use Rattle.std.specs.Prelude.{nat_le, ◌==◌, unwrap_or}
use Rattle.std.proofs.lemmas.Bool.{cases_lt, le-leb, ne_eqb}
use Rattle.std.proofs.lemmas.Bool.Decides.{nat_tests}
use Rattle.std.proofs.lemmas.List.{append-nil, take_at, drop_at, take-append-le, length-take-le}
use Rattle.gated_file.specs.Opened.{begins}
use Rattle.gated_file.specs.Groups.{Form, Kept, NotOurs, Damaged, Groups, with_group, followed, kept_behind, kept_from, kept, groups_of, onto, IsFront, IsReadable}

-- bytes in front of a gate are skipped
skipped : (form : Form) (state at : ℕ) (front rest : List ℕ) → kept_behind form (length front) state at (front ++ rest) ≡ kept_behind form 0 state (at + length front) rest
unfolding kept_behind
skipped form state at [] rest = let same : at + 0 ≡ at = omega arith in ap (λ (n : ℕ). kept_behind form 0 state n rest) (sym same)
skipped form state at (x ∷ front) rest =
    let same : at + 1 + length front ≡ at + length (x ∷ front) = omega arith in
    skipped form state (at + 1) front rest ∙ ap (λ (n : ℕ). kept_behind form 0 state n rest) same

-- a gate that isn't open ends the groups
pub closed : (form : Form) (state at gate : ℕ) (rest : List ℕ) → gate ≢ 1 → kept_behind form 0 state at (gate ∷ rest) ≡ Groups []
unfolding kept_behind
closed form state at gate rest shut = let test : (gate == 1) ≡ false = ne_eqb gate 1 shut in rw test refl

-- an open gate that no group follows
pub damaged : (form : Form) (state at : ℕ) (rest : List ℕ) → form.read state rest ≡ None → kept_behind form 0 state at (1 ∷ rest) ≡ Damaged at
unfolding kept_behind
damaged form state at rest none = ap (λ (o : Option ℕ). followed at rest (λ size. kept_behind form size (form.next state (take size rest)) (at + 1) rest) o) none

-- an open gate with a group behind it
pub opened : (form : Form) (state at : ℕ) (group : List ℕ) (gate : ℕ) (rest : List ℕ) → IsReadable form state group
    → kept_behind form 0 state at (1 ∷ (group ++ gate ∷ rest)) ≡ with_group group (kept_behind form 0 (form.next state group) (at + 1 + length group) (gate ∷ rest))
unfolding kept_behind
opened form state at group gate rest readable =
    let part : take (length group) (group ++ gate ∷ rest) ≡ group = take_at group (gate ∷ rest) (length group) refl in
    ap (λ (o : Option ℕ). followed at (group ++ gate ∷ rest) (λ size. kept_behind form size (form.next state (take size (group ++ gate ∷ rest))) (at + 1) (group ++ gate ∷ rest)) o) (readable gate rest)
    ∙ ap (λ (g : List ℕ). with_group g (kept_behind form (length group) (form.next state g) (at + 1) (group ++ gate ∷ rest))) part
    ∙ ap (λ (k : Kept). with_group group k) (skipped form (form.next state group) (at + 1) group (gate ∷ rest))

onto-push : (gs : List (List ℕ)) (g : List ℕ) (rest : Kept) → onto gs (with_group g rest) ≡ onto (gs ++ g ∷ []) rest
onto-push [] g rest = refl
onto-push (h ∷ gs) g rest = ap (λ (k : Kept). with_group h k) (onto-push gs g rest)

onto-groups : (gs hs : List (List ℕ)) → onto gs (Groups hs) ≡ Groups (gs ++ hs)
onto-groups [] hs = refl
onto-groups (g ∷ gs) hs = ap (λ (k : Kept). with_group g k) (onto-groups gs hs)

pub onto-damaged : (gs : List (List ℕ)) (at : ℕ) → onto gs (Damaged at) ≡ Damaged at
onto-damaged [] at = refl
onto-damaged (g ∷ gs) at = ap (λ (k : Kept). with_group g k) (onto-damaged gs at)

-- no groups: the bytes before the first gate
pub front_none : (form : Form) → length form.magic ≡ 8 → IsFront form form.first [] form.magic
front_none form eight = record {
  ours = ap (λ (n : ℕ). take n form.magic) (sym eight) ∙ take_whole form.magic;
  long = omega (arith, eight);
  keeps = λ gate rest. ap (kept_behind form 0 form.first 8) (drop_at form.magic (gate ∷ rest) 8 eight) ∙ ap (λ (n : ℕ). kept_behind form 0 form.first n (gate ∷ rest)) (sym eight);
}
  where
    take_whole : (l : List ℕ) → take (length l) l ≡ l
    take_whole [] = refl
    take_whole (x ∷ l) = ap (λ (r : List ℕ). x ∷ r) (take_whole l)

-- one group more
pub front_goes_on : (form : Form) (state : ℕ) (gs : List (List ℕ)) (front group : List ℕ) → IsFront form state gs front → IsReadable form state group
    → IsFront form (form.next state group) (gs ++ group ∷ []) (front ++ 1 ∷ group)
front_goes_on form state gs front group is readable = record {
  ours = take-append-le 8 front (1 ∷ group) is.long ∙ is.ours;
  long = omega (arith, is.long, length-append front (1 ∷ group));
  keeps = λ gate rest.
      let place : length front + 1 + length group ≡ length (front ++ 1 ∷ group) = omega (arith, length-append front (1 ∷ group)) in
      ap (λ (l : List ℕ). kept_from form l) (append_assoc front (1 ∷ group) (gate ∷ rest))
      ∙ is.keeps 1 (group ++ gate ∷ rest)
      ∙ ap (onto gs) (opened form state (length front) group gate rest readable ∙ ap (λ (n : ℕ). with_group group (kept_behind form 0 (form.next state group) n (gate ∷ rest))) place)
      ∙ onto-push gs group (kept_behind form 0 (form.next state group) (length (front ++ 1 ∷ group)) (gate ∷ rest));
}

-- a closed gate behind groups at the front
pub keeps_closed : (form : Form) (state : ℕ) (gs : List (List ℕ)) (front : List ℕ) (gate : ℕ) (rest : List ℕ) → IsFront form state gs front → gate ≢ 1
    → kept_from form (front ++ gate ∷ rest) ≡ Groups gs
keeps_closed form state gs front gate rest is shut =
    is.keeps gate rest ∙ ap (onto gs) (closed form state (length front) gate rest shut) ∙ onto-groups gs [] ∙ ap Groups (append-nil gs)

-- bytes that begin with others pass the test
begins_itself : (first rest : List ℕ) → begins first (first ++ rest) ≡ true
begins_itself [] rest = refl
begins_itself (x ∷ first) rest = let same : (x == x) ≡ true = grind (arith, nat_tests) in rw (same, begins_itself first rest) refl

is_ours : (form : Form) (file : List ℕ) → take 8 file ≡ form.magic → begins form.magic file ≡ true
is_ours form file ours =
    let split : file ≡ form.magic ++ drop 8 file = sym (take-append-drop 8 file) ∙ ap (λ (l : List ℕ). l ++ drop 8 file) ours in
    ap (begins form.magic) split ∙ begins_itself form.magic (drop 8 file)

pub kept_short : (form : Form) (file : List ℕ) → length file ≤ 9 → kept form file ≡ Groups []
unfolding kept
kept_short form file short = let test : nat_le (length file) 9 ≡ true = le-leb _ _ short in rw test refl

-- a file of more than 9 bytes that begins as it should
pub kept_long : (form : Form) (file : List ℕ) → 9 < length file → take 8 file ≡ form.magic → kept form file ≡ kept_from form file
unfolding kept
kept_long form file long ours =
    let more : nat_le (length file) 9 ≡ false = grind (arith, nat_tests) in
    let test = is_ours form file ours in
    rw (more, test) refl

-- and one that begins otherwise
pub kept_other : (form : Form) (file : List ℕ) → 9 < length file → begins form.magic file ≡ false → kept form file ≡ NotOurs
unfolding kept
kept_other form file long test =
    let more : nat_le (length file) 9 ≡ false = grind (arith, nat_tests) in
    rw (more, test) refl

-- a front with no more than the eight bytes has no groups
none_short : (form : Form) (state : ℕ) (gs : List (List ℕ)) (front : List ℕ) → IsFront form state gs front → length front ≡ 8 → gs ≡ []
none_short form state gs front is eight =
    let told : Groups gs ≡ Groups [] = sym (keeps_closed form state gs front 0 [] is (omega arith)) ∙ ap (kept_behind form 0 form.first 8) (drop_at front (0 ∷ []) 8 eight) ∙ closed form form.first 8 0 [] (omega arith) in
    same (ap groups_of told)
  where
    same : Some gs ≡ Some [] → gs ≡ []
    same e = ap (λ (o : Option (List (List ℕ))). unwrap_or o []) e

-- groups at the front and a gate that isn't open, whatever stands behind it
pub groups_closed : (form : Form) (state : ℕ) (gs : List (List ℕ)) (front : List ℕ) (gate : ℕ) (rest : List ℕ) → IsFront form state gs front → gate ≢ 1 → groups_of (kept form (front ++ gate ∷ rest)) ≡ Some gs
groups_closed form state gs front gate rest is shut = elim (cases_lt 9 (length file)) [
  | inr short ↦
      let eight : length front ≡ 8 = omega (arith, is.long, short, length-append front (gate ∷ rest)) in
      ap groups_of (kept_short form file short) ∙ ap Some (sym (none_short form state gs front is eight))
  | inl long ↦ ap groups_of (kept_long form file long ours ∙ keeps_closed form state gs front gate rest is shut)
]
  where
    file : List ℕ
    file = front ++ gate ∷ rest

    ours : take 8 file ≡ form.magic
    ours = take-append-le 8 front (gate ∷ rest) is.long ∙ is.ours
