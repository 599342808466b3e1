use Rattle.std.proofs.Common.{false, refl}
use Rattle.syncer_gate.specs.declared.touched.Touched.{Touched}
use Rattle.syncer_gate.proofs.TouchLemmas.{meets_none}
use Rattle.syncer_gate.proofs.touched.Touched.clear.Goals as goal

pub returns : goal.returns
returns c = λ feet e.
    let t : Touched = record { any = false; all = false; lone = c.clear.new.self; items = c.clear-2.new.self; triggers = c.clear-3.new.self; marks = c.clear-4.new.self } in
    meets_none feet t e refl refl c.clear.ensures.items c.clear-2.ensures c.clear-3.ensures c.clear-4.ensures
