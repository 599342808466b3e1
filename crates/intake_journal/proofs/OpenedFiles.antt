-- A journal of a file that was opened.
use Rattle.std.proofs.Common.{◌≡◌, ℕ, List, [], length, take, drop, Option, IfSome, refl, sym, ap, ◌∙◌}
use Rattle.std.specs.Prelude.{is_some}
use Rattle.outside.specs.Disk.{DiskTells}
use Rattle.zbx_types.specs.declared.base.Base.{Base}
use Rattle.gated_file.proofs.Moments.{if_some, told_of}
use Rattle.intake_journal.specs.Ahead.{IsAhead}
use Rattle.intake_journal.specs.Opened.{IsOpened}
use Rattle.intake_journal.specs.Settled.{IsDurable}
use Rattle.intake_journal.specs.declared.ahead.Ahead.{Ahead}
use Rattle.intake_journal.specs.declared.format.Beginning.{Beginning}
use Rattle.intake_journal.specs.declared.format.Beginning.TheVariants.{Begun}
use Rattle.intake_journal.proofs.Adding.{told_too}

-- nothing of it was read
pub begun_durable : (old : Option (List ℕ)) (new : DiskTells) (it : Beginning) (first : ℕ) (base : Base) → it ≡ Begun first base → is_some new.bytes ≡ is_some old
    → IfSome old (λ b. IfSome new.bytes (λ c. (f : ℕ) (e : Base) → it ≡ Begun f e → IsOpened new f b c)) → IfSome new.bytes (IsDurable new first first 0)
begun_durable old new it first base begun told opened = told_too old new.bytes _ told (λ b is c now.
    let known = told_of new.bytes c (λ l. (f : ℕ) (e : Base) → it ≡ Begun f e → IsOpened new f b l) now (told_of old b (λ l. IfSome new.bytes (λ c. (f : ℕ) (e : Base) → it ≡ Begun f e → IsOpened new f l c)) is opened) first base begun in
    record { groups = []; front = known.front; count = refl; gate = known.gate; durable = known.durable })

-- and nothing ahead
pub none_ahead : (ahead : Ahead) (file : Option (List ℕ)) → ahead.bytes ≡ [] → IsAhead ahead file
none_ahead ahead file none = if_some file _ (λ b is. none ∙ sym (ap (λ (l : List ℕ). take (length l) (drop ahead.at b)) none))
