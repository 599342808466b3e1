use Rattle.std.proofs.Common.{rules, ◌≡◌, ◌≤◌}
use Rattle.zbx_types.specs.declared.items.ValueType.TheVariants as type
use Rattle.base_laws.specs.FitsBase.{IsWritten}
use Rattle.base_state.specs.Fitting.{FitsValue}
use Rattle.base_state.proofs.Pairs.{ok_well}
use Rattle.base_state.proofs.Parts.{number_value}
use Rattle.base_state.proofs.fitting_items.value_fits.Goals as goal

pub returns-in-Number : goal.returns-in-Number
returns-in-Number c =
    let is : c.args.value_type ≡ type.Number = search rules in
    let upto : c.args.value.now.number ≤ c.args.number = search rules in
    let by : c.args.value.now.time ≤ c.args.now = search rules in
    let both = number_value c.args.value_type c.args.number c.args.now c.args.value.now is upto by in
    ok_well c.is_written.result (IsWritten c.args.value.now.value) (FitsValue c.args.value_type c.args.number c.args.now c.args.value.now) both.0 both.1 c.is_written.ensures
