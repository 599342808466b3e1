-- What a file keeps while groups in a row are added, and once they are there.
use Rattle.std.proofs.Common.{◌≡◌, ◌≢◌, inl, inr, ⊎_elim, ℕ, ◌+◌, ◌<◌, ◌≤◌, List, [], ◌∷◌, ◌++◌, length, get_or, take, drop, Option, Some, IfSome, sym, ◌∙◌, ap, subst, arith, append_assoc, length-append, take-append-drop}
use Rattle.std.specs.Prelude.{is_some}
use Rattle.std.specs.List.{All}
use Rattle.std.proofs.lemmas.Bool.{cases_eq}
use Rattle.std.proofs.lemmas.List.{take_at, take_more, drop_more, get_or_at, length-take}
use Rattle.outside.specs.Disk.{DiskTells, overwritten, Only, LeavesOnly}
use Rattle.zbx_types.specs.declared.entries.Entry.{Entry}
use Rattle.gated_file.specs.Around.{IsAround}
use Rattle.intake_journal.specs.Kept.{longest_journal, kept, groups_of, base_in}
use Rattle.intake_journal.specs.Settled.{IsFront, IsDurable}
use Rattle.intake_journal.specs.Block.{opened_bytes, placed, count_all, added_all, KeepsNoneOrAll, IsReadable}
use Rattle.intake_journal.specs.declared.format.Group.{Group}
use Rattle.gated_file.proofs.Torn.{behind, opened_is}
use Rattle.gated_file.proofs.Moments.{if_some, told_of}
use Rattle.gated_file.proofs.Openings.{leaves_less}
use Rattle.intake_journal.proofs.Adding.{groups_closed, base_front, told_too}
use Rattle.intake_journal.proofs.Blocks.{front_with, count_entries-placed}

module _ (disk : DiskTells) (first at entries : ℕ) (b : List ℕ) (is : IsDurable disk first at entries b) (shut : get_or b at 1 ≢ 1) (groups : List (List Entry))
    (readable : All IsReadable groups) (within : at + length (opened_bytes groups) + 1 ≤ longest_journal) (block : List ℕ) (shape : 1 ∷ block ≡ opened_bytes groups ++ 0 ∷ []) where
  abbrev gs : List Group
  gs = is.groups

  abbrev front : List ℕ
  front = take at b

  front_length : length front ≡ at
  front_length = omega (arith, length-take at b, is.gate)

  abbrev longer : List ℕ
  longer = front ++ opened_bytes groups

  abbrev all : List Group
  all = gs ++ placed at groups

  is_front : IsFront first all longer
  is_front = subst (λ (n : ℕ). IsFront first (gs ++ placed n groups) longer) front_length (front_with first gs front groups is.front readable (omega (arith, front_length, within)))

  split : b ≡ front ++ get_or b at 1 ∷ drop (at + 1) b
  split = sym (take-append-drop at b) ∙ ap (λ (l : List ℕ). front ++ l) (drop_more b at 1 is.gate)

  before : groups_of (kept b) ≡ Some gs
  before = ap (λ (l : List ℕ). groups_of (kept l)) split ∙ groups_closed first gs front (get_or b at 1) (drop (at + 1) b) is.front shut

  behind_block : (rest : List ℕ) → front ++ 1 ∷ (block ++ rest) ≡ longer ++ 0 ∷ rest
  behind_block rest =
      ap (λ (l : List ℕ). front ++ (l ++ rest)) shape
      ∙ ap (λ (l : List ℕ). front ++ l) (append_assoc (opened_bytes groups) (0 ∷ []) rest)
      ∙ sym (append_assoc front (opened_bytes groups) (0 ∷ rest))

  -- behind an open gate all groups count
  counts : (rest : List ℕ) → groups_of (kept (front ++ 1 ∷ (block ++ rest))) ≡ added_all at groups (groups_of (kept b))
  counts rest =
      ap (λ (l : List ℕ). groups_of (kept l)) (behind_block rest)
      ∙ groups_closed first all longer 0 rest is_front (omega arith)
      ∙ ap (λ (o : Option (List Group)). added_all at groups o) (sym before)

  -- what a crash leaves keeps the groups before, or these with all of the new ones
  pub around_keeps : (c : List ℕ) → IsAround b at block c → KeepsNoneOrAll (groups_of (kept b)) at groups c
  around_keeps c (inl same) =
      let whole : c ≡ front ++ get_or b at 1 ∷ same.0 = same.1 ∙ ap (λ (l : List ℕ). l ++ same.0) (take_more b at 1 is.gate) ∙ append_assoc front (get_or b at 1 ∷ []) same.0 in
      inl (ap (λ (l : List ℕ). groups_of (kept l)) whole ∙ groups_closed first gs front (get_or b at 1) same.0 is.front shut ∙ sym before)
  around_keeps c (inr there) = elim (cases_eq there.0 1) [
    | inl one ↦ inr (ap (λ (l : List ℕ). groups_of (kept l)) (there.2 ∙ ap (λ (n : ℕ). front ++ n ∷ (block ++ there.1)) one) ∙ counts there.1)
    | inr other ↦ inl (ap (λ (l : List ℕ). groups_of (kept l)) there.2 ∙ groups_closed first gs front there.0 (block ++ there.1) is.front other ∙ sym before)
  ]

  same_base : (gate : ℕ) (rest : List ℕ) → base_in (front ++ gate ∷ rest) ≡ base_in b
  same_base gate rest = base_front first gs front gate rest is.front ∙ sym (ap (λ (l : List ℕ). base_in l) split ∙ base_front first gs front (get_or b at 1) (drop (at + 1) b) is.front)

  -- and the base from before
  pub around_base : (c : List ℕ) → IsAround b at block c → base_in c ≡ base_in b
  around_base c (inl same) =
      let whole : c ≡ front ++ get_or b at 1 ∷ same.0 = same.1 ∙ ap (λ (l : List ℕ). l ++ same.0) (take_more b at 1 is.gate) ∙ append_assoc front (get_or b at 1 ∷ []) same.0 in
      ap (λ (l : List ℕ). base_in l) whole ∙ same_base (get_or b at 1) same.0
  around_base c (inr there) = ap (λ (l : List ℕ). base_in l) there.2 ∙ same_base there.0 (block ++ there.1)

  -- at each moment
  pub moments_keep : (old new : DiskTells) → LeavesOnly old new (IsAround b at block) → LeavesOnly old new (KeepsNoneOrAll (groups_of (kept b)) at groups)
  moments_keep old new around = record {
    later = around.later;
    each = λ c left. around_keeps c (around.each c left);
    before = λ t c le left. ⊎_elim (λ was. inl was) (λ now. inr (around_keeps c now)) (around.before t c le left);
  }

  abbrev pub finished : List ℕ
  finished = overwritten (overwritten b (at + 1) block) at (1 ∷ [])

  finished_is : finished ≡ front ++ 1 ∷ (block ++ behind b at block is.gate)
  finished_is = opened_is b at block is.gate

  -- the file with the groups
  pub finished_keeps : groups_of (kept finished) ≡ added_all at groups (groups_of (kept b))
  finished_keeps = ap (λ (l : List ℕ). groups_of (kept l)) finished_is ∙ counts (behind b at block is.gate)

  -- and with the base from before
  pub finished_base : base_in finished ≡ base_in b
  finished_base = ap (λ (l : List ℕ). base_in l) finished_is ∙ same_base 1 (block ++ behind b at block is.gate)

  -- the journal goes on behind the groups
  pub finished_settled : (new : DiskTells) → Only finished new → IsDurable new first (at + length (opened_bytes groups)) (entries + count_all groups) finished × (get_or finished (at + length (opened_bytes groups)) 1 ≢ 1)
  finished_settled new only =
      let end = at + length (opened_bytes groups) in
      let rest = behind b at block is.gate in
      let long : length longer ≡ end = omega (arith, front_length, length-append front (opened_bytes groups)) in
      let whole : finished ≡ longer ++ 0 ∷ rest = finished_is ∙ behind_block rest in
      let head : take end finished ≡ longer = ap (λ (l : List ℕ). take end l) whole ∙ take_at longer (0 ∷ rest) end long in
      let gate : get_or finished end 1 ≡ 0 = ap (λ (l : List ℕ). get_or l end 1) whole ∙ get_or_at longer 0 rest 1 end long in (
        record {
          groups = all;
          front = subst (IsFront first all) (sym head) is_front;
          count = omega (arith, is.count, count_entries-placed gs at groups);
          gate = omega (arith, ap length whole, long, length-append longer (0 ∷ rest));
          durable = only;
        },
        omega (arith, gate),
      )

module _ (old new : DiskTells) (first at entries : ℕ) (groups : List (List Entry))
    (readable : All IsReadable groups) (within : at + length (opened_bytes groups) + 1 ≤ longest_journal)
    (ready : IfSome old.bytes (λ b. IsDurable old first at entries b × (get_or b at 1 ≢ 1))) (block : List ℕ) (shape : 1 ∷ block ≡ opened_bytes groups ++ 0 ∷ []) where
  known : (b : List ℕ) → old.bytes ≡ Some b → IsDurable old first at entries b × (get_or b at 1 ≢ 1)
  known b is = told_of old.bytes b (λ f. IsDurable old first at entries f × (get_or f at 1 ≢ 1)) is ready

  abbrev Writes : Type 0
  Writes = IfSome old.bytes (λ b. new.bytes ≡ Some (overwritten (overwritten b (at + 1) block) at (1 ∷ [])))

  written : Writes → (b : List ℕ) → old.bytes ≡ Some b → new.bytes ≡ Some (overwritten (overwritten b (at + 1) block) at (1 ∷ []))
  written writes b is = told_of old.bytes b (λ f. new.bytes ≡ Some (overwritten (overwritten f (at + 1) block) at (1 ∷ []))) is writes

  -- the groups before, and the new ones
  pub kept_after_all : Writes → IfSome old.bytes (λ b. IfSome new.bytes (λ c. groups_of (kept c) ≡ added_all at groups (groups_of (kept b))))
  kept_after_all writes = if_some old.bytes _ (λ b is.
      let k = known b is in
      subst (λ (o : Option (List ℕ)). IfSome o (λ c. groups_of (kept c) ≡ added_all at groups (groups_of (kept b)))) (sym (written writes b is)) (finished_keeps old first at entries b k.0 k.1 groups readable within block shape))

  -- the base before
  pub base_after_all : Writes → IfSome old.bytes (λ b. IfSome new.bytes (λ c. base_in c ≡ base_in b))
  base_after_all writes = if_some old.bytes _ (λ b is.
      let k = known b is in
      subst (λ (o : Option (List ℕ)). IfSome o (λ c. base_in c ≡ base_in b)) (sym (written writes b is)) (finished_base old first at entries b k.0 k.1 groups readable within block shape))

  -- the journal goes on behind the groups
  pub ready_after_all : Writes → is_some new.bytes ≡ is_some old.bytes → IfSome new.bytes (λ b. Only b new)
      → IfSome new.bytes (λ b. IsDurable new first (at + length (opened_bytes groups)) (entries + count_all groups) b × (get_or b (at + length (opened_bytes groups)) 1 ≢ 1))
  ready_after_all writes told durable = told_too old.bytes new.bytes _ told (λ b is after new_is.
      let k = known b is in
      let file = finished old first at entries b k.0 k.1 groups readable within block shape in
      let only : Only file new = told_of new.bytes file (λ f. Only f new) (written writes b is) durable in
      let done : IfSome (Some file) (λ f. IsDurable new first (at + length (opened_bytes groups)) (entries + count_all groups) f × (get_or f (at + length (opened_bytes groups)) 1 ≢ 1)) = finished_settled old first at entries b k.0 k.1 groups readable within block shape new only in
      subst (λ (o : Option (List ℕ)). IfSome o (λ f. IsDurable new first (at + length (opened_bytes groups)) (entries + count_all groups) f × (get_or f (at + length (opened_bytes groups)) 1 ≢ 1))) (sym (written writes b is) ∙ new_is) done)

  -- at each moment of it
  pub moments_after_all : IfSome old.bytes (λ b. at < length b → Only b old → LeavesOnly old new (IsAround b at block))
      → IfSome old.bytes (λ b. LeavesOnly old new (KeepsNoneOrAll (groups_of (kept b)) at groups))
  moments_after_all around = if_some old.bytes _ (λ b is.
      let k = known b is in
      let told = told_of old.bytes b (λ f. at < length f → Only f old → LeavesOnly old new (IsAround f at block)) is around k.0.gate k.0.durable in
      moments_keep old first at entries b k.0 k.1 groups readable within block shape old new told)

  pub base_moments_all : IfSome old.bytes (λ b. at < length b → Only b old → LeavesOnly old new (IsAround b at block))
      → IfSome old.bytes (λ b. LeavesOnly old new (λ c. base_in c ≡ base_in b))
  base_moments_all around = if_some old.bytes _ (λ b is.
      let k = known b is in
      let told = told_of old.bytes b (λ f. at < length f → Only f old → LeavesOnly old new (IsAround f at block)) is around k.0.gate k.0.durable in
      leaves_less old new (IsAround b at block) (λ c. base_in c ≡ base_in b) (around_base old first at entries b k.0 k.1 groups readable within block shape) told)
