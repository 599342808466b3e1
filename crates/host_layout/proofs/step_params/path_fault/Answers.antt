use Rattle.std.proofs.Common.{◌∙◌, ap, sym}
use Rattle.host_layout.specs.Prepared.{path_fault}
use Rattle.host_layout.proofs.PathFaults.{told}
use Rattle.host_layout.proofs.step_params.path_fault.Goals as goal

pub returns-in_ok-place_of-in-Err : goal.returns-in_ok-place_of-in-Err
returns-in_ok-place_of-in-Err c =
    sym
    (ap path_fault (sym c.as_bytes.ensures)
    ∙ told c.as_bytes.result.now c.in-Err.error c.in_ok-place_of-in-Err.field-0 c.in-Err.ensures.none c.in-Err.ensures.place c.in_ok-place_of-in-Err.ensures)
