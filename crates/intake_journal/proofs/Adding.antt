-- What a file keeps while a group is added, and once it is there.
use Rattle.std.proofs.Common.{◌≡◌, ◌≢◌, inl, inr, ℕ, ◌≤◌, true, List, [], ◌∷◌, ◌++◌, length, get_or, Option, Some, None, IfSome, refl, sym, ◌∙◌, ap, arith, length-append, true≢false}
use Rattle.std.specs.Prelude.{is_some, nat_le, unwrap_or}
use Rattle.std.proofs.lemmas.Bool.{cases_lt, le-leb}
use Rattle.std.proofs.lemmas.List.{drop_at}
use Rattle.outside.specs.Disk.{DiskTells}
use Rattle.intake_journal.specs.Kept.{Fresh, Groups, kept_behind, kept, groups_of, base_at, base_in}
use Rattle.intake_journal.specs.Settled.{IsFront, IsDurable, IsSettled}
use Rattle.intake_journal.specs.declared.format.Group.{Group}
use Rattle.intake_journal.specs.declared.state.State.{State}
use Rattle.intake_journal.specs.declared.state.State.TheVariants.{Reading, Ready, Broken}
use Rattle.intake_journal.proofs.Fronts.{keeps_closed, closed, kept_begun}

pub fresh : (file : List ℕ) → length file ≤ 9 → kept file ≡ Fresh
unfolding kept
fresh file short = let test : nat_le (length file) 9 ≡ true = le-leb _ _ short in rw test refl

-- a front that ends at the first gate has no groups
none_short : (first : ℕ) (gs : List Group) (front : List ℕ) → IsFront first gs front → length front ≡ first → gs ≡ []
none_short first gs front is none =
    let told : Groups gs ≡ Groups [] = sym (keeps_closed first gs front 0 [] is (omega arith)) ∙ ap (λ (l : List ℕ). kept_behind 0 first l) (drop_at front (0 ∷ []) first none) ∙ closed first 0 [] (omega arith) in
    same (ap groups_of told)
  where
    same : Some gs ≡ Some [] → gs ≡ []
    same e = ap (λ (o : Option (List Group)). unwrap_or o []) e

-- groups at the front and a gate that isn't open, whatever stands behind it
pub groups_closed : (first : ℕ) (gs : List Group) (front : List ℕ) (gate : ℕ) (rest : List ℕ) → IsFront first gs front → gate ≢ 1 → groups_of (kept (front ++ gate ∷ rest)) ≡ Some gs
groups_closed first gs front gate rest is shut = elim (cases_lt 9 (length file)) [
  | inr short ↦
      let none : length front ≡ first = omega (arith, is.behind, is.long, short, length-append front (gate ∷ rest)) in
      ap groups_of (fresh file short) ∙ ap Some (sym (none_short first gs front is none))
  | inl long ↦ ap groups_of (kept_begun file first is.base long (is.begins gate rest) ∙ keeps_closed first gs front gate rest is shut)
]
  where
    file : List ℕ
    file = front ++ gate ∷ rest

-- and the base, whatever the gate
pub base_front : (first : ℕ) (gs : List Group) (front : List ℕ) (gate : ℕ) (rest : List ℕ) (is : IsFront first gs front) → base_in (front ++ gate ∷ rest) ≡ is.base
base_front first gs front gate rest is = ap base_at (is.begins gate rest)

-- where the old bytes are told, the new ones are
pub told_too : {A B : Type 0} (old : Option A) (new : Option B) (P : B → Type 0) → is_some new ≡ is_some old → ((a : A) → old ≡ Some a → (b : B) → new ≡ Some b → P b) → IfSome new P
told_too old None P same has = tt
told_too None (Some b) P same has = absurd (true≢false same)
told_too (Some a) (Some b) P same has = has a refl b refl

-- what a journal knows that isn't being read nor broken
pub ready_of : (state : State) (disk : DiskTells) (first at entries : ℕ) → state ≢ Reading → state ≢ Broken → IsSettled state disk first at entries → IfSome disk.bytes (λ b. IsDurable disk first at entries b × (get_or b at 1 ≢ 1))
ready_of Reading disk first at entries read broken settled = absurd (read refl)
ready_of Ready disk first at entries read broken settled = settled
ready_of Broken disk first at entries read broken settled = absurd (broken refl)

-- and what such a one is settled by
pub settled_of : (state : State) (disk : DiskTells) (first at entries : ℕ) → state ≢ Reading → IfSome disk.bytes (λ b. IsDurable disk first at entries b × (get_or b at 1 ≢ 1)) → IsSettled state disk first at entries
settled_of Reading disk first at entries read ready = absurd (read refl)
settled_of Ready disk first at entries read ready = ready
settled_of Broken disk first at entries read ready = tt
