-- What a file keeps while one or several groups are put behind its gate at once, and once they are there.
use Rattle.std.proofs.Common.{◌≡◌, ◌≢◌, ◌⊎◌, inl, inr, ℕ, ◌+◌, ◌<◌, true, List, [], ◌∷◌, ◌++◌, length, get_or, take, drop, Option, Some, None, IfSome, refl, sym, ◌∙◌, ap, subst, arith, append_assoc, length-append, take-append-drop}
use Rattle.std.specs.Prelude.{is_some}
use Rattle.std.proofs.lemmas.Bool.{cases_eq}
use Rattle.std.proofs.lemmas.List.{take_at, take_more, drop_more, get_or_at, length-take}
use Rattle.outside.specs.Disk.{DiskTells, overwritten, Only}
use Rattle.gated_file.specs.Around.{IsAround}
use Rattle.gated_file.specs.Groups.{Form, kept, groups_of, IsFront, IsReady}
use Rattle.gated_file.proofs.Torn.{behind, opened_is}
use Rattle.gated_file.proofs.Fronts.{groups_closed}

module _ (form : Form) (disk : DiskTells) (at state : ℕ) (gs : List (List ℕ)) (b : List ℕ) (is : IsReady form disk at state gs b) where
  abbrev front : List ℕ
  front = take at b

  front_length : length front ≡ at
  front_length = omega (arith, length-take at b, is.gate)

  module _ (inner : List ℕ) (then : ℕ) (all : List (List ℕ)) (is_front : IsFront form then all (take at b ++ 1 ∷ inner)) where
    abbrev block : List ℕ
    block = inner ++ 0 ∷ []

    abbrev longer : List ℕ
    longer = front ++ 1 ∷ inner

    behind_block : (rest : List ℕ) → front ++ 1 ∷ (block ++ rest) ≡ longer ++ 0 ∷ rest
    behind_block rest =
        ap (λ (l : List ℕ). front ++ 1 ∷ l) (append_assoc inner (0 ∷ []) rest)
        ∙ sym (append_assoc front (1 ∷ inner) (0 ∷ rest))

    -- behind an open gate the groups count
    counts : (rest : List ℕ) → groups_of (kept form (front ++ 1 ∷ (block ++ rest))) ≡ Some all
    counts rest = ap (λ (l : List ℕ). groups_of (kept form l)) (behind_block rest) ∙ groups_closed form then all longer 0 rest is_front (omega arith)

    -- what a crash leaves keeps the groups before, or all of them
    pub around_keeps : (c : List ℕ) → IsAround b at block c → (groups_of (kept form c) ≡ Some gs) ⊎ (groups_of (kept form c) ≡ Some all)
    around_keeps c (inl same) =
        let whole : c ≡ front ++ get_or b at 1 ∷ same.0 = same.1 ∙ ap (λ (l : List ℕ). l ++ same.0) (take_more b at 1 is.gate) ∙ append_assoc front (get_or b at 1 ∷ []) same.0 in
        inl (ap (λ (l : List ℕ). groups_of (kept form l)) whole ∙ groups_closed form state gs front (get_or b at 1) same.0 is.front is.shut)
    around_keeps c (inr there) = elim (cases_eq there.0 1) [
      | inl one ↦ inr (ap (λ (l : List ℕ). groups_of (kept form l)) (there.2 ∙ ap (λ (n : ℕ). front ++ n ∷ (block ++ there.1)) one) ∙ counts there.1)
      | inr other ↦ inl (ap (λ (l : List ℕ). groups_of (kept form l)) there.2 ∙ groups_closed form state gs front there.0 (block ++ there.1) is.front other)
    ]

    abbrev pub finished : List ℕ
    finished = overwritten (overwritten b (at + 1) block) at (1 ∷ [])

    finished_is : finished ≡ front ++ 1 ∷ (block ++ behind b at block is.gate)
    finished_is = opened_is b at block is.gate

    -- the file with the groups is ready again
    pub finished_ready : (new : DiskTells) → Only finished new → IsReady form new (at + 1 + length inner) then all finished
    finished_ready new only =
        let end = at + 1 + length inner in
        let rest = behind b at block is.gate in
        let long : length longer ≡ end = omega (arith, front_length, length-append front (1 ∷ inner)) in
        let whole : finished ≡ longer ++ 0 ∷ rest = finished_is ∙ behind_block rest in
        let head : take end finished ≡ longer = ap (λ (l : List ℕ). take end l) whole ∙ take_at longer (0 ∷ rest) end long in
        let gate : get_or finished end 1 ≡ 0 = ap (λ (l : List ℕ). get_or l end 1) whole ∙ get_or_at longer 0 rest 1 end long in
        record {
          front = subst (IsFront form then all) (sym head) is_front;
          gate = omega (arith, ap length whole, long, length-append longer (0 ∷ rest));
          shut = omega (arith, gate);
          durable = only;
        }
