-- What a journal keeps once a block is appended, and what a crash may leave until then.
use Rattle.std.proofs.Common.{◌≡◌, inl, inr, ⊎_elim, ℕ, ◌+◌, List, [], ◌∷◌, ◌++◌, length, Option, Some, None, IfSome, refl, sym, ◌∙◌, ap, subst, arith, length-append}
use Rattle.std.specs.Prelude.{is_some}
use Rattle.std.specs.List.{flat_map}
use Rattle.std.specs.Option.{option_map}
use Rattle.std.proofs.lemmas.Grind.{flat_map-append}
use Rattle.zbx_types.specs.declared.base.Base.{Base}
use Rattle.zbx_types.specs.declared.entries.Entry.{Entry}
use Rattle.zbx_types.specs.declared.entries.Numbered.{Numbered}
use Rattle.outside.specs.Disk.{DiskTells, IsLawful, Only, LeavesOnly}
use Rattle.intake_journal.specs.Bytes.{entries_bytes}
use Rattle.intake_journal.specs.Kept.{kept, base_in, groups_of}
use Rattle.intake_journal.specs.Block.{opened_bytes, placed, count_all, added_all, KeepsNoneOrAll}
use Rattle.intake_journal.specs.Settled.{Journaled}
use Rattle.intake_journal.specs.declared.format.Group.{Group}
use Rattle.gated_file.proofs.Moments.{if_some, told_of, started}
use Rattle.intake_journal.proofs.Adding.{told_too}
use Rattle.intake_front.specs.Intake.{numbered_from, with_group, numbered_behind}
use Rattle.intake_front.specs.Fronted.{numbered_of, Keeps, KeepsEither, HasJournaled, IsKept, all_of}
use Rattle.intake_front.proofs.Numbers.{length_numbered, numbered-append}

pub count_of : (block : List (List Entry)) → length (all_of block) ≡ count_all block
count_of [] = refl
count_of (es ∷ block) = omega (arith, length-append es (all_of block), count_of block)

placed_are : (at : ℕ) (block : List (List Entry)) → flat_map (λ (g : Group). g.entries) (placed at block) ≡ all_of block
placed_are at [] = refl
placed_are at (es ∷ block) = ap (λ (l : List Entry). es ++ l) (placed_are (at + (length (entries_bytes es) + 9)) block)

-- the groups of a block behind others
module _ (number at : ℕ) (block : List (List Entry)) where
  numbered_added : (gs : List Group) (entries : List Numbered) → numbered_of number gs ≡ entries → numbered_of number (gs ++ placed at block) ≡ with_group number entries (all_of block)
  numbered_added gs entries is =
      let before = flat_map (λ (g : Group). g.entries) gs in
      let all : flat_map (λ (g : Group). g.entries) (gs ++ placed at block) ≡ before ++ all_of block = flat_map-append _ gs (placed at block) ∙ ap (λ (l : List Entry). before ++ l) (placed_are at block) in
      let count : number + 1 + length before ≡ number + length entries + 1 = omega (arith, length_numbered (number + 1) before, ap length is) in
      ap (numbered_from (number + 1)) all ∙ numbered-append (number + 1) before (all_of block)
      ∙ ap (λ (n : ℕ). numbered_from (number + 1) before ++ numbered_from n (all_of block)) count
      ∙ ap (λ (l : List Numbered). l ++ numbered_from (number + length entries + 1) (all_of block)) is

  added_keep : (o : Option (List Group)) (entries : List Numbered) → option_map (numbered_of number) o ≡ Some entries
      → option_map (numbered_of number) (added_all at block o) ≡ Some (with_group number entries (all_of block))
  added_keep None entries is = absurd (cc)
  added_keep (Some gs) entries is = let same : numbered_of number gs ≡ entries = cc in ap Some (numbered_added gs entries same)

-- a file keeps a base and entries, by its groups
pub keeps_by : (base : Base) (entries : List Numbered) (b : List ℕ) → base_in b ≡ base → option_map (numbered_of base.number) (groups_of (kept b)) ≡ Some entries → Keeps base entries b
keeps_by base entries b is are = (is, ap (λ (k : Base). option_map (numbered_of k.number) (groups_of (kept b))) is ∙ are)

groups_by : (base : Base) (entries : List Numbered) (b : List ℕ) → Keeps base entries b → option_map (numbered_of base.number) (groups_of (kept b)) ≡ Some entries
groups_by base entries b keeps = ap (λ (k : Base). option_map (numbered_of k.number) (groups_of (kept b))) (sym keeps.0) ∙ keeps.1

module _ (base : Base) (at : ℕ) (block : List (List Entry)) (entries : List Numbered) (b c : List ℕ) (is : Keeps base entries b) (same_base : base_in c ≡ base_in b) where
  abbrev all : List Numbered
  all = with_group base.number entries (all_of block)

  -- what a file keeps once a block was added
  pub keeps_more : groups_of (kept c) ≡ added_all at block (groups_of (kept b)) → Keeps base all c
  keeps_more added =
      keeps_by base all c (same_base ∙ is.0)
      (ap (λ (o : Option (List Group)). option_map (numbered_of base.number) o) added ∙ added_keep base.number at block (groups_of (kept b)) entries (groups_by base entries b is))

  -- what a crash leaves while a block is added
  pub keeps_either : KeepsNoneOrAll (groups_of (kept b)) at block c → KeepsEither base entries all c
  keeps_either (inl same) =
      inl (keeps_by base entries c (same_base ∙ is.0) (ap (λ (o : Option (List Group)). option_map (numbered_of base.number) o) same ∙ groups_by base entries b is))
  keeps_either (inr added) = inr (keeps_more added)

-- moments of which each leaves P leave Q, where that follows
pub leaves_as : (old new : DiskTells) (P Q : List ℕ → Type 0) → ((c : List ℕ) → P c → Q c) → LeavesOnly old new P → LeavesOnly old new Q
leaves_as old new P Q follows left = record {
  later = left.later;
  each = λ c s. follows c (left.each c s);
  before = λ t c le s. ⊎_elim (λ was. inl was) (λ now. inr (follows c now)) (left.before t c le s);
}

-- moments of which each leaves P and each leaves Q
leaves_both : (old new : DiskTells) (P Q R : List ℕ → Type 0) → ((c : List ℕ) → P c → Q c → R c) → LeavesOnly old new P → LeavesOnly old new Q → LeavesOnly old new R
leaves_both old new P Q R follows p q = record {
  later = p.later;
  each = λ c s. follows c (p.each c s) (q.each c s);
  before = λ t c le s. ⊎_elim (λ was. inl was) (λ here. ⊎_elim (λ was. inl was) (λ there. inr (follows c here there)) (q.before t c le s)) (p.before t c le s);
}

module _ {D : Type 0} (tells : D → DiskTells) where
  -- each crash leaves what a journal has
  pub kept_of : (journal : Journaled D) (base : Base) (entries : List Numbered) (size : ℕ) → HasJournaled tells journal entries size → journal.base ≡ base → IsKept (tells journal.disk) base entries
  kept_of journal base entries size has same = if_some (tells journal.disk).bytes _ (λ b is.
      let own : Keeps journal.base entries b = told_of (tells journal.disk).bytes b (Keeps journal.base entries) is has.keeps in
      let keeps : Keeps base entries b = subst (λ (k : Base). Keeps k entries b) same own in
      let only : Only b (tells journal.disk) = told_of (tells journal.disk).bytes b (λ b. Only b (tells journal.disk)) is has.durable in
      (keeps, λ c image. subst (Keeps base entries) (sym (only c image)) keeps))

  -- a journal that was left alone
  pub leaves_same : ((disk : D) → IsLawful (tells disk)) → (journal : Journaled D) (entries after : List Numbered) (size : ℕ)
      → HasJournaled tells journal entries size → IfSome (tells journal.disk).bytes (λ _. LeavesOnly (tells journal.disk) (tells journal.disk) (KeepsEither journal.base entries after))
  leaves_same lawful journal entries after size has = if_some (tells journal.disk).bytes _ (λ b is.
      let keeps : Keeps journal.base entries b = told_of (tells journal.disk).bytes b (Keeps journal.base entries) is has.keeps in
      let only : Only b (tells journal.disk) = told_of (tells journal.disk).bytes b (λ b. Only b (tells journal.disk)) is has.durable in
      let each : (c : List ℕ) → (tells journal.disk).images c → KeepsEither journal.base entries after c = λ c image. inl (subst (Keeps journal.base entries) (sym (only c image)) keeps) in
      (started (KeepsEither journal.base entries after) (tells journal.disk) (lawful journal.disk) each).moments)

  module _ (old new : Journaled D) (block : List (List Entry)) (entries : List Numbered) (size : ℕ) (has : HasJournaled tells old entries size) where
    abbrev behind : List Numbered
    behind = with_group old.base.number entries (all_of block)

    abbrev NoneOrAll : List ℕ → List ℕ → Type 0
    NoneOrAll b = KeepsNoneOrAll (groups_of (kept b)) old.at block

    keeps_at : (b : List ℕ) → (tells old.disk).bytes ≡ Some b → Keeps old.base entries b
    keeps_at b is = told_of (tells old.disk).bytes b (Keeps old.base entries) is has.keeps

    -- a block that is appended
    pub leaves_either : IfSome (tells old.disk).bytes (λ b. LeavesOnly (tells old.disk) (tells new.disk) (NoneOrAll b))
        → IfSome (tells old.disk).bytes (λ b. LeavesOnly (tells old.disk) (tells new.disk) (λ c. base_in c ≡ base_in b))
        → IfSome (tells old.disk).bytes (λ _. LeavesOnly (tells old.disk) (tells new.disk) (KeepsEither old.base entries behind))
    leaves_either left same = if_some (tells old.disk).bytes _ (λ b is.
        let groups = told_of (tells old.disk).bytes b (λ b. LeavesOnly (tells old.disk) (tells new.disk) (NoneOrAll b)) is left in
        let bases = told_of (tells old.disk).bytes b (λ b. LeavesOnly (tells old.disk) (tells new.disk) (λ c. base_in c ≡ base_in b)) is same in
        leaves_both (tells old.disk) (tells new.disk) (NoneOrAll b) (λ c. base_in c ≡ base_in b) (KeepsEither old.base entries behind)
        (λ c none_or_all same_base. keeps_either old.base old.at block entries b c (keeps_at b is) same_base none_or_all) groups bases)

    -- a block that was appended
    pub has_more : new.at ≡ old.at + length (opened_bytes block) → new.entries ≡ old.entries + count_all block → new.base ≡ old.base
        → IfSome (tells old.disk).bytes (λ b. IfSome (tells new.disk).bytes (λ c. groups_of (kept c) ≡ added_all old.at block (groups_of (kept b))))
        → IfSome (tells old.disk).bytes (λ b. IfSome (tells new.disk).bytes (λ c. base_in c ≡ base_in b))
        → IfSome (tells new.disk).bytes (λ c. Only c (tells new.disk)) → is_some (tells new.disk).bytes ≡ is_some (tells old.disk).bytes
        → HasJournaled tells new behind (size + length (opened_bytes block))
    has_more at count base added same durable told = record {
      count = omega (arith, has.count, count, count_of block, length-append entries (numbered_behind old.base.number entries (all_of block)), length_numbered (old.base.number + length entries + 1) (all_of block));
      size_is = omega (arith, has.size_is, at);
      keeps = subst (λ (k : Base). IfSome (tells new.disk).bytes (Keeps k behind)) (sym base)
          (told_too (tells old.disk).bytes (tells new.disk).bytes (Keeps old.base behind) told (λ b is c is_new.
          let more = told_of (tells old.disk).bytes b (λ b. IfSome (tells new.disk).bytes (λ c. groups_of (kept c) ≡ added_all old.at block (groups_of (kept b)))) is added in
          let bases = told_of (tells old.disk).bytes b (λ b. IfSome (tells new.disk).bytes (λ c. base_in c ≡ base_in b)) is same in
          keeps_more old.base old.at block entries b c (keeps_at b is) (told_of (tells new.disk).bytes c (λ c. base_in c ≡ base_in b) is_new bases)
          (told_of (tells new.disk).bytes c (λ c. groups_of (kept c) ≡ added_all old.at block (groups_of (kept b))) is_new more)));
      durable = durable;
    }
