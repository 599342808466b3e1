use Rattle.std.proofs.Common.{◌≡◌, true, sym}
use Rattle.std.specs.Str.{is_utf8}
use Rattle.std.proofs.lemmas.Str.{is_utf8-from_IsUtf8}
use Rattle.sender_json.proofs.reading.gather_body.Goals as goal

pub returns-in-Ok-read_text : goal.returns-in-Ok-read_text
returns-in-Ok-read_text g c =
    let valid : is_utf8 c.args.body.now ≡ true = is_utf8-from_IsUtf8 c.args.body.now c.in-Ok.ensures.cases.1 in
    rw (valid, ← c.in-Ok.ensures.cases.0) (sym c.in-Ok-read_text.ensures.ok)
