use Rattle.std.proofs.Common.{◌≡◌, ◌++◌, ◌∷◌, [], drop}
use Rattle.json_text.specs.Parts.{IsGrown}
use Rattle.json_text.specs.Written.{escaped, in_quotes}
use Rattle.json_text.proofs.writing.put_quoted.Given as goal

abbrev pub invariant-loop-byte : goal.invariant-loop-byte
invariant-loop-byte l = record {
  rest : l.out ++ (escaped (drop l.byte-index l.text) ++ 34 ∷ []) ≡ l.fn.out ++ in_quotes l.text;
  grown : IsGrown l.fn.out l.out;
}
