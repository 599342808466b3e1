use Rattle.std.proofs.Common.{rules, ◌≡◌, None, Some}
use Rattle.std.specs.Str.{bytes_eq}
use Rattle.zbx_types.specs.Numerals.{read_number}
use Rattle.zbx_types.specs.Written.{written}
use Rattle.base_laws.specs.FitsBase.{IsWritten}
use Rattle.base_state.proofs.Pairs.{no}
use Rattle.base_state.proofs.Parts.{not_written, is_written}
use Rattle.base_state.proofs.fitting_items.is_written.Goals as goal

pub returns-in-None : goal.returns-in-None
returns-in-None c =
    let none : read_number c.args.text.now ≡ None = search rules in
    no (IsWritten c.args.text.now) (not_written c.args.text.now none)

pub returns-in_ok-write-in-Some : goal.returns-in_ok-write-in-Some
returns-in_ok-write-in-Some c =
    let read : read_number c.args.text.now ≡ Some c.in-Some.number = search rules in
    let same : c.same_text.result ≡ bytes_eq (written c.in-Some.number) c.args.text.now = search rules in
    is_written c.args.text.now c.in-Some.number c.same_text.result read same
