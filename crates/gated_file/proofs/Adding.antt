-- What a file keeps while a group is added, and once it is there.
use Rattle.std.proofs.Common.{◌≡◌, ◌≢◌, inl, inr, ⊎_elim, ℕ, ◌+◌, ◌<◌, true, List, [], ◌∷◌, ◌++◌, length, get_or, take, drop, Option, Some, None, IfSome, refl, sym, ◌∙◌, ap, subst, arith, append_assoc, length-append, take-append-drop, true≢false}
use Rattle.std.specs.Prelude.{is_some}
use Rattle.std.proofs.lemmas.Bool.{cases_eq}
use Rattle.std.proofs.lemmas.List.{take_at, take_more, drop_more, get_or_at, length-take}
use Rattle.outside.specs.Disk.{DiskTells, overwritten, Only, LeavesOnly}
use Rattle.gated_file.specs.Around.{IsAround}
use Rattle.gated_file.specs.Groups.{Form, kept, groups_of, IsFront, IsReadable, IsReady, KeepsBeforeOrAfter}
use Rattle.gated_file.proofs.Torn.{behind, opened_is}
use Rattle.gated_file.proofs.Moments.{if_some, told_of}
use Rattle.gated_file.proofs.Openings.{leaves_less}
use Rattle.gated_file.proofs.Fronts.{groups_closed, front_goes_on}

module _ (form : Form) (disk : DiskTells) (at state : ℕ) (gs : List (List ℕ)) (b : List ℕ) (is : IsReady form disk at state gs b) where
  abbrev front : List ℕ
  front = take at b

  front_length : length front ≡ at
  front_length = omega (arith, length-take at b, is.gate)

  split : b ≡ front ++ get_or b at 1 ∷ drop (at + 1) b
  split = sym (take-append-drop at b) ∙ ap (λ (l : List ℕ). front ++ l) (drop_more b at 1 is.gate)

  -- what a file that is ready keeps
  pub ready_keeps : groups_of (kept form b) ≡ Some gs
  ready_keeps = ap (λ (l : List ℕ). groups_of (kept form l)) split ∙ groups_closed form state gs front (get_or b at 1) (drop (at + 1) b) is.front is.shut

  module _ (group : List ℕ) (readable : IsReadable form state group) where
    abbrev block : List ℕ
    block = group ++ 0 ∷ []

    abbrev longer : List ℕ
    longer = front ++ 1 ∷ group

    abbrev all : List (List ℕ)
    all = gs ++ group ∷ []

    is_front : IsFront form (form.next state group) all longer
    is_front = front_goes_on form state gs front group is.front readable

    behind_block : (rest : List ℕ) → front ++ 1 ∷ (block ++ rest) ≡ longer ++ 0 ∷ rest
    behind_block rest =
        ap (λ (l : List ℕ). front ++ 1 ∷ l) (append_assoc group (0 ∷ []) rest)
        ∙ sym (append_assoc front (1 ∷ group) (0 ∷ rest))

    -- behind an open gate the group counts
    counts : (rest : List ℕ) → groups_of (kept form (front ++ 1 ∷ (block ++ rest))) ≡ Some all
    counts rest = ap (λ (l : List ℕ). groups_of (kept form l)) (behind_block rest) ∙ groups_closed form (form.next state group) all longer 0 rest is_front (omega arith)

    -- what a crash leaves keeps the groups before, or these with the new one
    pub around_keeps : (c : List ℕ) → IsAround b at block c → KeepsBeforeOrAfter form gs group c
    around_keeps c (inl same) =
        let whole : c ≡ front ++ get_or b at 1 ∷ same.0 = same.1 ∙ ap (λ (l : List ℕ). l ++ same.0) (take_more b at 1 is.gate) ∙ append_assoc front (get_or b at 1 ∷ []) same.0 in
        inl (ap (λ (l : List ℕ). groups_of (kept form l)) whole ∙ groups_closed form state gs front (get_or b at 1) same.0 is.front is.shut)
    around_keeps c (inr there) = elim (cases_eq there.0 1) [
      | inl one ↦ inr (ap (λ (l : List ℕ). groups_of (kept form l)) (there.2 ∙ ap (λ (n : ℕ). front ++ n ∷ (block ++ there.1)) one) ∙ counts there.1)
      | inr other ↦ inl (ap (λ (l : List ℕ). groups_of (kept form l)) there.2 ∙ groups_closed form state gs front there.0 (block ++ there.1) is.front other)
    ]

    abbrev finished : List ℕ
    finished = overwritten (overwritten b (at + 1) block) at (1 ∷ [])

    finished_is : finished ≡ front ++ 1 ∷ (block ++ behind b at block is.gate)
    finished_is = opened_is b at block is.gate

    -- the file with the group is ready again
    pub finished_ready : (new : DiskTells) → Only finished new → IsReady form new (at + 1 + length group) (form.next state group) all finished
    finished_ready new only =
        let end = at + 1 + length group in
        let rest = behind b at block is.gate in
        let long : length longer ≡ end = omega (arith, front_length, length-append front (1 ∷ group)) in
        let whole : finished ≡ longer ++ 0 ∷ rest = finished_is ∙ behind_block rest in
        let head : take end finished ≡ longer = ap (λ (l : List ℕ). take end l) whole ∙ take_at longer (0 ∷ rest) end long in
        let gate : get_or finished end 1 ≡ 0 = ap (λ (l : List ℕ). get_or l end 1) whole ∙ get_or_at longer 0 rest 1 end long in
        record {
          front = subst (IsFront form (form.next state group) all) (sym head) is_front;
          gate = omega (arith, ap length whole, long, length-append longer (0 ∷ rest));
          shut = omega (arith, gate);
          durable = only;
        }

-- where the old bytes are told, the new ones are
pub told_too : {A B : Type 0} (old : Option A) (new : Option B) (P : B → Type 0) → is_some new ≡ is_some old → ((a : A) → old ≡ Some a → (b : B) → new ≡ Some b → P b) → IfSome new P
told_too old None P same has = tt
told_too None (Some b) P same has = absurd (true≢false same)
told_too (Some a) (Some b) P same has = has a refl b refl

module _ (form : Form) (old new : DiskTells) (at state : ℕ) (gs : List (List ℕ)) (group : List ℕ) (readable : IsReadable form state group)
    (ready : IfSome old.bytes (IsReady form old at state gs)) where
  known : (b : List ℕ) → old.bytes ≡ Some b → IsReady form old at state gs b
  known b is = told_of old.bytes b (IsReady form old at state gs) is ready

  abbrev Writes : Type 0
  Writes = IfSome old.bytes (λ b. new.bytes ≡ Some (overwritten (overwritten b (at + 1) (group ++ 0 ∷ [])) at (1 ∷ [])))

  -- once a group is put behind the gate, the file is ready again
  pub ready_after : Writes → is_some new.bytes ≡ is_some old.bytes → IfSome new.bytes (λ b. Only b new)
      → IfSome new.bytes (IsReady form new (at + 1 + length group) (form.next state group) (gs ++ group ∷ []))
  ready_after writes told durable = told_too old.bytes new.bytes _ told (λ b is after new_is.
      let k = known b is in
      let file = finished form old at state gs b k group readable in
      let written : new.bytes ≡ Some file = told_of old.bytes b (λ f. new.bytes ≡ Some (overwritten (overwritten f (at + 1) (group ++ 0 ∷ [])) at (1 ∷ []))) is writes in
      let only : Only file new = told_of new.bytes file (λ f. Only f new) written durable in
      told_of (Some file) after (IsReady form new (at + 1 + length group) (form.next state group) (gs ++ group ∷ [])) (sym written ∙ new_is)
      (finished_ready form old at state gs b k group readable new only))

  -- at each moment of it
  pub moments_after : IfSome old.bytes (λ b. at < length b → Only b old → LeavesOnly old new (IsAround b at (group ++ 0 ∷ [])))
      → IfSome old.bytes (λ b. LeavesOnly old new (KeepsBeforeOrAfter form gs group))
  moments_after around = if_some old.bytes _ (λ b is.
      let k = known b is in
      let told = told_of old.bytes b (λ f. at < length f → Only f old → LeavesOnly old new (IsAround f at (group ++ 0 ∷ []))) is around k.gate k.durable in
      leaves_less old new (IsAround b at (group ++ 0 ∷ [])) (KeepsBeforeOrAfter form gs group) (around_keeps form old at state gs b k group readable) told)
