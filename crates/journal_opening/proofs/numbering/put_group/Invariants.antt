use Rattle.std.proofs.Common.{◌≡◌, ◌++◌, map, take, All}
use Rattle.journal_opening.specs.Replayed.{flat, IsFlat, texts_in}
use Rattle.journal_opening.proofs.numbering.put_group.Given as goal

-- the texts of the entries so far are accepted, and their configurations are added
abbrev pub invariant-loop-entry : goal.invariant-loop-entry
invariant-loop-entry l = record {
  all : All IsFlat (texts_in (take l.entry-index l.entries));
  confs_are : l.confs.items ≡ l.fn.confs.items ++ map flat (texts_in (take l.entry-index l.entries));
}
