-- What is printed of a status.
use Rattle.std.proofs.Common.{◌≡◌, ◌≢◌, ℕ, List, refl, sym, subst}
use Rattle.outside.specs.Tells.{SinkTells}
use Rattle.alert_queue.specs.declared.types.NoteMark.{NoteMark}
use Rattle.server_words.specs.declared.status.Status.{Status}
use Rattle.server_words.specs.declared.status.Status.TheVariants as status
use Rattle.whole_texts.specs.Writes.{GrewByFront}
use Rattle.server_jobs.specs.Reports.{line_of, cut_short, Prints}

cut : (s : Status) (marks : List NoteMark) (k k' : SinkTells) → s ≢ status.PrintFault → GrewByFront k k' (line_of s marks) → Prints (cut_short s) marks k k'
cut status.Ok marks k k' other grew = grew
cut status.PrintFault marks k k' other grew = absurd (other refl)
cut _ marks k k' other grew = grew

-- a line that wasn't printed whole
pub printed_cut : (s ended : Status) (marks : List NoteMark) (k k' : SinkTells) (bytes : List ℕ) → s ≢ status.PrintFault → ended ≡ cut_short s → bytes ≡ line_of s marks → GrewByFront k k' bytes → Prints ended marks k k'
printed_cut s ended marks k k' bytes other ended_is is grew =
    subst (λ (t : Status). Prints t marks k k') (sym ended_is) (cut s marks k k' other (subst (λ (b : List ℕ). GrewByFront k k' b) is grew))
