-- Laws of what a stop leaves in a run's journal.
use Rattle.std.proofs.Common.{◌≡◌, ◌⊎◌, ⊎_elim, ℕ, ◌≤◌, List, refl, sym, ◌∙◌, arith, inl, inr, true≢false}
use Rattle.std.specs.Prelude.{Option, Some, None, IfSome, is_some}
use Rattle.zbx_types.specs.declared.base.Base.{Base}
use Rattle.zbx_types.specs.declared.entries.Numbered.{Numbered}
use Rattle.outside.specs.Causes.{Rose}
use Rattle.outside.specs.Disk.{DiskTells, IsLawful, LeavesOnly}
use Rattle.intake_journal.proofs.Openings.{and_then}
use Rattle.intake_front.specs.Fronted.{Keeps, KeepsEither, IsKept}
use Rattle.intake_front.specs.declared.answer.Stop.{Stop}
use Rattle.intake_front.specs.declared.answer.Stop.TheVariants as stop
use Rattle.journal_opening.specs.Journals.{KeepsSome, IsEither, Journals}
use Rattle.journal_opening.proofs.Leaving.{leaves_more, rose_since}

-- where one is told, so is the other
pub both_told : (o o' : Option (List ℕ)) (P : List ℕ → Type 0) (Q : Type 0) → is_some o' ≡ is_some o → IfSome o' P → ((b : List ℕ) → P b → Q) → IfSome o (λ _. Q)
both_told None o' P Q told is goes = tt
both_told (Some a) None P Q told is goes = absurd (true≢false (sym told))
both_told (Some a) (Some b) P Q told is goes = goes b is

some_more : (base : Base) (A B : List Numbered → Type 0) (c : List ℕ) → ((es : List Numbered) → A es → B es) → KeepsSome base A c → KeepsSome base B c
some_more base A B c goes (es, among, keeps) = (es, goes es among, keeps)

-- and so may be the entries
pub journals_more : (also : List ℕ → Type 0) (old new : DiskTells) (base : Base) (A B : List Numbered → Type 0) (s : Option Stop) (entries : List Numbered) → ((es : List Numbered) → A es → B es)
    → Journals also old new base A s entries → Journals also old new base B s entries
journals_more also old new base A B s entries goes j = record {
  left = more old.bytes j.left;
  fault = j.fault;
  kept = j.kept;
  later = j.later;
  told = j.told;
}
  where
    more : (o : Option (List ℕ)) → IfSome o (λ _. LeavesOnly old new (λ c. also c ⊎ KeepsSome base A c)) → IfSome o (λ _. LeavesOnly old new (λ c. also c ⊎ KeepsSome base B c))
    more None l = tt
    more (Some b) l = leaves_more old new _ _ (λ c. ⊎_elim (λ p. inl p) (λ k. inr (some_more base A B c goes k))) l

-- before anything is journaled
pub journals_none : (disk : DiskTells) (base : Base) (A : List Numbered → Type 0) (entries : List Numbered) → IsLawful disk → A entries → IsKept disk base entries
    → Journals (λ c. ⊥) disk disk base A None entries
journals_none disk base A entries lawful among kept = record {
  left = here disk.bytes kept;
  fault = λ none. absurd (cc);
  kept = λ other. kept;
  later = omega arith;
  told = refl;
}
  where
    here : (o : Option (List ℕ)) → IfSome o (λ b. Keeps base entries b × ((c : List ℕ) → disk.images c → Keeps base entries c)) → IfSome o (λ _. LeavesOnly disk disk (λ c. ⊥ ⊎ KeepsSome base A c))
    here None k = tt
    here (Some b) k = record { later = omega arith; each = λ c left. inr (entries, among, k.1 c (lawful.only_now c left)); before = λ t c le left. inl left }

-- and then more is
pub journals_on : (also : List ℕ → Type 0) (old mid new : DiskTells) (base : Base) (A B C : List Numbered → Type 0) (s t : Option Stop) (entries entries' : List Numbered)
    → ((es : List Numbered) → A es → C es) → ((es : List Numbered) → B es → C es)
    → Journals also old mid base A s entries → Journals (λ c. ⊥) mid new base B t entries'
    → Journals also old new base C t entries'
journals_on also old mid new base A B C s t entries entries' first_goes then_goes first then = record {
  left = joined old.bytes mid.bytes first.told first.left then.left;
  fault = λ is. rose_since old.faults mid.faults new.faults first.later (then.fault is);
  kept = then.kept;
  later = omega (arith, first.later, then.later);
  told = then.told ∙ first.told;
}
  where
    joined : (o o' : Option (List ℕ)) → is_some o' ≡ is_some o → IfSome o (λ _. LeavesOnly old mid (λ c. also c ⊎ KeepsSome base A c)) → IfSome o' (λ _. LeavesOnly mid new (λ c. ⊥ ⊎ KeepsSome base B c))
        → IfSome o (λ _. LeavesOnly old new (λ c. also c ⊎ KeepsSome base C c))
    joined None o' told l l' = tt
    joined (Some b) None told l l' = absurd (true≢false (sym told))
    joined (Some b) (Some b') told l l' =
        and_then old mid new (λ c. also c ⊎ KeepsSome base C c) (λ c. ⊥ ⊎ KeepsSome base B c)
        (leaves_more old mid _ _ (λ c. ⊎_elim (λ p. inl p) (λ k. inr (some_more base A C c first_goes k))) l) l'
        (λ c. ⊎_elim (λ none. absurd none) (λ k. inr (some_more base B C c then_goes k)))

-- an event's append
pub journals_event : (old new : DiskTells) (base : Base) (before after entries : List Numbered) (s : Option Stop)
    → IfSome old.bytes (λ _. LeavesOnly old new (KeepsEither base before after)) → (s ≡ Some stop.DiskFault → Rose old.faults new.faults)
    → ((s ≡ Some stop.DiskFault → ⊥) → IsKept new base entries) → old.faults ≤ new.faults → is_some new.bytes ≡ is_some old.bytes
    → Journals (λ c. ⊥) old new base (IsEither before after) s entries
journals_event old new base before after entries s left fault kept later told = record {
  left = either old.bytes left;
  fault = fault;
  kept = kept;
  later = later;
  told = told;
}
  where
    among : (c : List ℕ) → KeepsEither base before after c → ⊥ ⊎ KeepsSome base (IsEither before after) c
    among c (inl keeps) = inr (before, inl refl, keeps)
    among c (inr keeps) = inr (after, inr refl, keeps)

    either : (o : Option (List ℕ)) → IfSome o (λ _. LeavesOnly old new (KeepsEither base before after)) → IfSome o (λ _. LeavesOnly old new (λ c. ⊥ ⊎ KeepsSome base (IsEither before after) c))
    either None l = tt
    either (Some b) l = leaves_more old new _ _ among l
