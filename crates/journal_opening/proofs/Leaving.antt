-- Laws of what a crash leaves in a run's journal.
use Rattle.std.proofs.Common.{◌≡◌, ⊎_elim, ℕ, ◌≤◌, List, Option, Some, None, arith, inl, inr, ap, ◌∙◌}
use Rattle.std.specs.Prelude.{IfSome, is_some}
use Rattle.outside.specs.Causes.{Rose}
use Rattle.outside.specs.Disk.{DiskTells, IsLawful, LeavesOnly}
use Rattle.gated_file.specs.Moments.{IsAsBefore}
use Rattle.intake_journal.specs.Settled.{KeepsAsOneOf}
use Rattle.journal_opening.specs.Recovered.{GoesOn}

-- a count rose since an earlier moment
pub rose_since : (a b c : ℕ) → a ≤ b → Rose b c → Rose a c
rose_since a b c later rose = omega (arith, later, rose)

-- what a crash leaves may be more
pub leaves_more : (old new : DiskTells) (P Q : List ℕ → Type 0) → ((c : List ℕ) → P c → Q c) → LeavesOnly old new P → LeavesOnly old new Q
leaves_more old new P Q goes l = record {
  later = l.later;
  each = λ c left. goes c (l.each c left);
  before = λ t c le left. ⊎_elim (λ past. inl past) (λ p. inr (goes c p)) (l.before t c le left);
}

-- a disk that was gone on with, and was only read then, was gone on with
pub read_later : (old mid new : DiskTells) → IsLawful mid → is_some mid.bytes ≡ is_some old.bytes → old.faults ≤ mid.faults → IfSome old.bytes (λ _. LeavesOnly old mid (KeepsAsOneOf old)) → IsAsBefore mid new → mid.faults ≤ new.faults
    → GoesOn old new
read_later old mid new law told one moments before two = record {
  told = ap is_some before.same ∙ told;
  later = omega (arith, one, two);
  moments = go old.bytes moments;
}
  where
    on : LeavesOnly old mid (KeepsAsOneOf old) → LeavesOnly old new (KeepsAsOneOf old)
    on a = record {
      later = omega (arith, a.later, before.moments.later);
      each = λ c since. ⊎_elim (λ past. a.each c past) (λ image. a.each c (law.counts_now old.moment c a.later image)) (before.moments.before old.moment c a.later since);
      before = λ t c le since.
          ⊎_elim (λ past. a.before t c le past) (λ image. inr (a.each c (law.counts_now old.moment c a.later image))) (before.moments.before t c (omega (arith, le, a.later)) since);
    }

    go : (o : Option (List ℕ)) → IfSome o (λ _. LeavesOnly old mid (KeepsAsOneOf old)) → IfSome o (λ _. LeavesOnly old new (KeepsAsOneOf old))
    go None a = a
    go (Some b) a = on a
