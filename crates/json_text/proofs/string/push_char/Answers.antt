use Rattle.std.proofs.Common.{arith}
use Rattle.byte_grammar.proofs.Utf8Texts.{two as encode_two, three as encode_three, four as encode_four}
use Rattle.json_text.proofs.string.push_char.Goals as goal

pub returns-then-code-lt2048 : goal.returns-then-code-lt2048
returns-then-code-lt2048 c = rw (encode_two c.args.code (omega arith) (omega arith)) c.extend-then-code-lt2048.ensures.ok

pub returns-then-code-lt65536 : goal.returns-then-code-lt65536
returns-then-code-lt65536 c = rw (encode_three c.args.code (omega arith) (omega arith)) c.extend-then-code-lt65536.ensures.ok

pub returns-else-code-lt65536 : goal.returns-else-code-lt65536
returns-else-code-lt65536 c = rw (encode_four c.args.code (omega arith)) c.extend-else-code-lt65536.ensures.ok
