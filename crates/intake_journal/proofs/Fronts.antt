-- Groups at the front of a file, and what the file keeps.
use Rattle.std.proofs.Common.{◌≡◌, ◌≢◌, ℕ, ◌+◌, ◌<◌, ◌≤◌, true, false, List, [], ◌∷◌, ◌++◌, length, take, drop, Option, Some, refl, sym, ◌∙◌, ap, arith, append_assoc, length-append, take-append-drop}
use Rattle.std.specs.Prelude.{Bool, nat_le, ◌||◌}
use Rattle.std.proofs.lemmas.Bool.{le-leb}
use Rattle.std.proofs.lemmas.Bool.Decides.{nat_tests}
use Rattle.std.proofs.lemmas.List.{append-nil, drop_at}
use Rattle.zbx_types.specs.declared.entries.Entry.{Entry}
use Rattle.gated_file.specs.Opened.{begins}
use Rattle.zbx_types.specs.Bases.{empty_base}
use Rattle.zbx_types.specs.declared.base.Base.{Base}
use Rattle.intake_journal.specs.Kept.{Kept, Groups, magic, first_gate, group_behind, with_group, followed, kept_behind, kept_from, kept, beginning_of, kept_as}
use Rattle.intake_journal.specs.declared.format.Beginning.TheVariants.{Begun}
use Rattle.intake_journal.specs.Settled.{onto, IsFront, count_entries}
use Rattle.intake_journal.specs.declared.format.Group.{Group}

-- bytes in front of a gate are skipped
pub skipped : (at : ℕ) (front : List ℕ) (rest : List ℕ) → kept_behind (length front) at (front ++ rest) ≡ kept_behind 0 (at + length front) rest
unfolding kept_behind
skipped at [] rest = let same : at + 0 ≡ at = omega arith in ap (λ (n : ℕ). kept_behind 0 n rest) (sym same)
skipped at (x ∷ front) rest =
    let same : at + 1 + length front ≡ at + length (x ∷ front) = omega arith in
    skipped (at + 1) front rest ∙ ap (λ (n : ℕ). kept_behind 0 n rest) same

-- a gate that isn't open ends the groups
pub closed : (at gate : ℕ) (rest : List ℕ) → gate ≢ 1 → kept_behind 0 at (gate ∷ rest) ≡ Groups []
unfolding kept_behind
closed at gate rest shut = grind (arith, nat_tests)

-- an open gate with a group behind it
pub opened : (at size : ℕ) (entries : List Entry) (group : List ℕ) (rest : List ℕ) → length group ≡ size + 8 → group_behind at (group ++ rest) ≡ Some (size, entries)
    → kept_behind 0 at (1 ∷ (group ++ rest)) ≡ with_group (record { at = at; entries = entries }) (kept_behind 0 (at + (size + 9)) rest)
unfolding kept_behind
opened at size entries group rest long is =
    let places : at + 1 + length group ≡ at + (size + 9) = omega (arith, long) in
    ap (λ (o : Option (ℕ × List Entry)). followed at (λ n. kept_behind n (at + 1) (group ++ rest)) o) is
    ∙ ap (λ (n : ℕ). with_group (record { at = at; entries = entries }) (kept_behind n (at + 1) (group ++ rest))) (sym long)
    ∙ ap (λ (k : Kept). with_group (record { at = at; entries = entries }) k) (skipped (at + 1) group rest ∙ ap (λ (n : ℕ). kept_behind 0 n rest) places)

pub onto-push : (gs : List Group) (g : Group) (rest : Kept) → onto gs (with_group g rest) ≡ onto (gs ++ g ∷ []) rest
onto-push [] g rest = refl
onto-push (h ∷ gs) g rest = ap (λ (k : Kept). with_group h k) (onto-push gs g rest)

pub onto-groups : (gs hs : List Group) → onto gs (Groups hs) ≡ Groups (gs ++ hs)
onto-groups [] hs = refl
onto-groups (g ∷ gs) hs = ap (λ (k : Kept). with_group g k) (onto-groups gs hs)

pub count_entries-push : (gs : List Group) (g : Group) → count_entries (gs ++ g ∷ []) ≡ count_entries gs + length g.entries
count_entries-push [] g = omega arith
count_entries-push (h ∷ gs) g = omega (arith, count_entries-push gs g)

or_true : (a : Bool) → (a || true) ≡ true
or_true true = refl
or_true false = refl

-- a file that begins with the magic of a journal without a base
pub beginning_plain : (file : List ℕ) → begins magic file ≡ true → beginning_of file ≡ Begun first_gate empty_base
unfolding beginning_of
beginning_plain file ours = rw (ours, or_true (nat_le (length file) 9)) refl

-- and a short one
pub beginning_short : (file : List ℕ) → length file ≤ 9 → beginning_of file ≡ Begun first_gate empty_base
unfolding beginning_of
beginning_short file short = let test : nat_le (length file) 9 ≡ true = le-leb _ _ short in rw test refl

-- bytes up to a first gate, by which a journal begins whatever stands there
pub front_bare : (first : ℕ) (base : Base) (front : List ℕ) → 8 ≤ first → length front ≡ first → ((gate : ℕ) (rest : List ℕ) → beginning_of (front ++ gate ∷ rest) ≡ Begun first base) → IsFront first [] front
front_bare first base front behind long begins = record {
  base = base;
  begins = begins;
  behind = behind;
  long = omega (arith, long);
  keeps = λ gate rest. ap (λ (l : List ℕ). kept_behind 0 first l) (drop_at front (gate ∷ rest) first long) ∙ ap (λ (n : ℕ). kept_behind 0 n (gate ∷ rest)) (sym long);
}

-- the magic alone
pub front_none : IsFront first_gate [] magic
front_none = front_bare 8 empty_base magic (omega arith) refl (λ gate rest. beginning_plain (magic ++ gate ∷ rest) refl)

-- one group more
pub front_goes_on : (first : ℕ) (gs : List Group) (front : List ℕ) (at size : ℕ) (entries : List Entry) (group : List ℕ) → IsFront first gs front → at ≡ length front → length group ≡ size + 8
    → ((gate : ℕ) (rest : List ℕ) → group_behind at (group ++ gate ∷ rest) ≡ Some (size, entries)) → IsFront first (gs ++ record { at = at; entries = entries } ∷ []) (front ++ 1 ∷ group)
front_goes_on first gs front at size entries group is at_is long behind = record {
  base = is.base;
  begins = λ gate rest. ap beginning_of (append_assoc front (1 ∷ group) (gate ∷ rest)) ∙ is.begins 1 (group ++ gate ∷ rest);
  behind = is.behind;
  long = omega (arith, is.long, length-append front (1 ∷ group));
  keeps = λ gate rest. keeps gate rest;
}
  where
    g : Group
    g = record { at = at; entries = entries }

    place : at + (size + 9) ≡ length (front ++ 1 ∷ group)
    place = omega (arith, at_is, long, length-append front (1 ∷ group))

    keeps : (gate : ℕ) (rest : List ℕ) → kept_behind 0 first (drop first ((front ++ 1 ∷ group) ++ gate ∷ rest)) ≡ onto (gs ++ g ∷ []) (kept_behind 0 (length (front ++ 1 ∷ group)) (gate ∷ rest))
    keeps gate rest =
        ap (λ (l : List ℕ). kept_from first l) (append_assoc front (1 ∷ group) (gate ∷ rest))
        ∙ is.keeps 1 (group ++ gate ∷ rest)
        ∙ ap (λ (n : ℕ). onto gs (kept_behind 0 n (1 ∷ (group ++ gate ∷ rest)))) (sym at_is)
        ∙ ap (λ (k : Kept). onto gs k) (opened at size entries group (gate ∷ rest) long (behind gate rest) ∙ ap (λ (n : ℕ). with_group g (kept_behind 0 n (gate ∷ rest))) place)
        ∙ onto-push gs g (kept_behind 0 (length (front ++ 1 ∷ group)) (gate ∷ rest))

-- a closed gate behind groups at the front
pub keeps_closed : (first : ℕ) (gs : List Group) (front : List ℕ) (gate : ℕ) (rest : List ℕ) → IsFront first gs front → gate ≢ 1 → kept_from first (front ++ gate ∷ rest) ≡ Groups gs
keeps_closed first gs front gate rest is shut =
    is.keeps gate rest ∙ ap (λ (k : Kept). onto gs k) (closed (length front) gate rest shut) ∙ onto-groups gs [] ∙ ap Groups (append-nil gs)

-- bytes that begin with the magic pass its test
magic_test : (rest : List ℕ) → begins magic (magic ++ rest) ≡ true
magic_test rest = refl

pub is_ours : (file : List ℕ) → take 8 file ≡ magic → begins magic file ≡ true
is_ours file ours =
    let split : file ≡ magic ++ drop 8 file = sym (take-append-drop 8 file) ∙ ap (λ (l : List ℕ). l ++ drop 8 file) ours in
    ap (λ (l : List ℕ). begins magic l) split ∙ magic_test (drop 8 file)

-- a file of more than 9 bytes keeps what stands behind its beginning
pub kept_by : (file : List ℕ) → 9 < length file → kept file ≡ kept_as (beginning_of file) file
unfolding kept
kept_by file long = let more : nat_le (length file) 9 ≡ false = grind (arith, nat_tests) in rw more refl

pub kept_begun : (file : List ℕ) (first : ℕ) (base : Base) → 9 < length file → beginning_of file ≡ Begun first base → kept file ≡ kept_from first file
kept_begun file first base long begun = kept_by file long ∙ ap (λ b. kept_as b file) begun

-- one that begins with the magic of a journal without a base
pub kept_long : (file : List ℕ) → 9 < length file → take 8 file ≡ magic → kept file ≡ kept_from first_gate file
kept_long file long ours = kept_begun file first_gate empty_base long (beginning_plain file (is_ours file ours))
