use Rattle.std.proofs.Common.{arith, ◌++◌}
use Rattle.std.proofs.lemmas.Result.{on_ok_weaker}
use Rattle.json_text.specs.Written.{in_quotes}
use Rattle.json_text.proofs.WrittenLemmas.{grown_on, grown_by, byte_on, text_end}
use Rattle.json_text.proofs.writing.put_quoted.Goals as goal

pub loop-byte-preserved : goal.loop-byte-preserved
loop-byte-preserved c = record {
  rest = byte_on (c.args.out.now ++ in_quotes c.args.text.now) c.loop-byte.out c.put_byte.new.out c.args.text.now c.loop-byte.byte-index (omega arith) c.loop-byte.invariant.rest c.in_ok-put_byte.ensures.ok;
  grown = grown_on c.args.out.now c.loop-byte.out c.put_byte.new.out c.loop-byte.invariant.grown (grown_by c.loop-byte.out c.put_byte.new.out _ c.in_ok-put_byte.ensures.ok);
}

pub returns-clause-ok : goal.returns-clause-ok
returns-clause-ok c = on_ok_weaker c.extend-2.result (λ e. text_end (c.args.out.now ++ in_quotes c.args.text.now) c.loop-byte.out c.extend-2.new.self c.args.text.now c.loop-byte.byte-index (omega arith) c.loop-byte.invariant.rest e) c.extend-2.ensures.ok
