use Rattle.std.proofs.Common.{◌≡◌, drop}
use Rattle.alert_run.specs.Fields.{fields_from, fields_of}
use Rattle.alert_run.proofs.fields.fields_of.Given as goal

abbrev pub invariant-loop-byte : goal.invariant-loop-byte
invariant-loop-byte l = fields_from l.split (drop l.byte-index l.line) ≡ fields_of l.line
