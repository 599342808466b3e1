-- A copy over disks is one over disks that tell no image.
use Rattle.std.proofs.Common.{ℕ, List, Option, Some, None, arith}
use Rattle.std.specs.Prelude.{IfSome}
use Rattle.outside.specs.Disk.{DiskTells, Only, LeavesOnly}
use Rattle.outside.specs.Tells.{SinkTells}
use Rattle.zbx_types.specs.declared.base.Base.{Base}
use Rattle.intake_journal.specs.Based.{HasBase}
use Rattle.server_words.specs.declared.status.Status.{Status}
use Rattle.server_words.specs.declared.status.Status.TheVariants as status
use Rattle.journal_copy.specs.Copies.{Disks, IsCopied, IsTooLarge, EndsBy, EndsPrinted, AreLeft, IsCopy}
use Rattle.journal_copy.specs.State.{OfState}
use Rattle.zabbix_server.specs.Program.{FileSeen, disk_of, disks_of, IsCopyOf}

-- what a disk tells but for its images
abbrev file_of : DiskTells → FileSeen
file_of d = record { file = d.bytes; faults = d.faults }

abbrev untold : Disks → Disks
untold d = disks_of (file_of d.from) (file_of d.from') (file_of d.into) (file_of d.into')

-- of a disk without images a crash leaves nothing
nothing_left : (old new : FileSeen) (P : List ℕ → Type 0) → LeavesOnly (disk_of old) (disk_of new) P
nothing_left old new P = record { later = omega arith; each = λ c none. absurd none; before = λ t c le none. absurd none }

journal_left : (old new : FileSeen) (P : List ℕ → Type 0) (o : Option (List ℕ)) → IfSome o (λ _. LeavesOnly (disk_of old) (disk_of new) P)
journal_left old new P None = tt
journal_left old new P (Some b) = nothing_left old new P

copy_left : (old new : FileSeen) (P : List ℕ → List ℕ → Type 0) (o : Option (List ℕ)) → IfSome o (λ b. Only b (disk_of old) → LeavesOnly (disk_of old) (disk_of new) (P b))
copy_left old new P None = tt
copy_left old new P (Some b) = λ only. nothing_left old new (P b)

left_too : (d : Disks) → AreLeft d → AreLeft (untold d)
left_too d l = record {
  journal = journal_left (file_of d.from) (file_of d.from') _ d.from.bytes;
  copy = copy_left (file_of d.into) (file_of d.into') _ d.into.bytes;
  journal_told = l.journal_told;
  copy_told = l.copy_told;
  journal_later = l.journal_later;
  copy_later = l.copy_later;
}

holds_too : (disk : DiskTells) (state : Base) (o : Option (List ℕ)) → IfSome o (λ c. HasBase state c × Only c disk) → IfSome o (λ c. HasBase state c × Only c (disk_of (file_of disk)))
holds_too disk state None holds = tt
holds_too disk state (Some c) holds = (holds.0, λ b none. absurd none)

copied_too : (d : Disks) (number lines : ℕ) → OfState d.from.bytes (IsCopied d number lines) → OfState d.from.bytes (IsCopied (untold d) number lines)
copied_too d number lines (found, finds, accepted, some, is) = (
  found,
  finds,
  accepted,
  some,
  record { fits = is.fits; empty = is.empty; holds = holds_too d.into' _ d.into'.bytes is.holds; number_is = is.number_is; lines_are = is.lines_are },
)

large_too : (d : Disks) (entries bytes : ℕ) → OfState d.from.bytes (IsTooLarge d entries bytes) → OfState d.from.bytes (IsTooLarge (untold d) entries bytes)
large_too d entries bytes (found, finds, accepted, some, is) =
    (found, finds, accepted, some, record { large = is.large; none = is.none; size = is.size; empty = is.empty })

by_too : (words : List (List ℕ)) (d : Disks) (number lines : ℕ) (s : Status) → EndsBy words d number lines s → EndsBy words (untold d) number lines s
by_too words d number lines status.Ok ends = (ends.0, copied_too d number lines ends.1)
by_too words d number lines (status.Full entries bytes) ends = (ends.0, large_too d entries bytes ends.1)
by_too words d number lines _ ends = ends

ends_too : (words : List (List ℕ)) (d : Disks) (number lines : ℕ) (print print' : SinkTells) (s : Status) → EndsPrinted words d number lines print print' s → EndsPrinted words (untold d) number lines print print' s
ends_too words d number lines print print' status.PrintFault ends = (ends.0, by_too words d number lines status.Ok ends.1)
ends_too words d number lines print print' status.Ok ends = by_too words d number lines status.Ok ends
ends_too words d number lines print print' (status.Full entries bytes) ends = by_too words d number lines (status.Full entries bytes) ends
ends_too words d number lines print print' _ ends = ends

pub copy_too : (words : List (List ℕ)) (d : Disks) (print print' : SinkTells) (s : Status) → IsCopy words d print print' s → IsCopyOf words (file_of d.from) (file_of d.into) print s
copy_too words d print print' s is = (
  file_of d.from',
  file_of d.into',
  print',
  record { number = is.number; lines = is.lines; ends = ends_too words d is.number is.lines print print' s is.ends; prints = is.prints; left = left_too d is.left },
)
