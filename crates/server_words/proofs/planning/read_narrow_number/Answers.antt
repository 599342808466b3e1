use Rattle.std.specs.Str.Parse.{ParsesUnsigned, ExplainsUnsignedError, HasUnsignedDigitsIfOk}
use Rattle.clap.specs.Words.{found_of}
use Rattle.server_words.proofs.Rows.{number_of_rows}
use Rattle.server_words.proofs.planning.read_narrow_number.Goals as goal

pub returns : goal.returns
returns c = number_of_rows _ 32 (λ text x. ParsesUnsigned 32 10 text x × ExplainsUnsignedError 10 text x × HasUnsignedDigitsIfOk text x)
    (found_of c.args.matches.now) c.args.name.now c.get_one.result (λ text x gives. gives.0) c.get_one.ensures.none c.get_one.ensures.value
