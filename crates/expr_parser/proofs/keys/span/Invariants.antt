use Rattle.std.proofs.Common.{◌≡◌, ◌≤◌}
use Rattle.expr_parser.specs.Staying.{KeyLeads}
use Rattle.expr_parser.proofs.keys.span.Given as goal

abbrev pub invariant-loop-byte : goal.invariant-loop-byte
invariant-loop-byte l = record {
  count : l.count ≡ l.byte-index;
  few : l.count ≤ l.most;
  leads : KeyLeads l.fn.from l.fn.rest l.byte-index l.spot;
}
