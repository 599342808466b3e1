use Rattle.std.proofs.Common.{false, refl}
use Rattle.syncer_gate.specs.declared.touched.Touched.{Touched}
use Rattle.syncer_gate.proofs.TouchLemmas.{meets_none}
use Rattle.syncer_gate.proofs.touched.Touched.new.Goals as goal

pub returns : goal.returns
returns c = λ feet e.
    let t : Touched = record { any = false; all = false; lone = c.new.result; items = c.new-2.result; triggers = c.new-3.result; marks = c.new-4.result } in
    meets_none feet t e refl refl c.new.ensures.items c.new-2.ensures c.new-3.ensures c.new-4.ensures
