use Rattle.host_layout.specs.Elements.{placed_host}
use Rattle.host_layout.proofs.PassLemmas.{owned_host}
use Rattle.host_layout.proofs.passes.visit_host.Goals as goal

pub returns : goal.returns
returns g c =
    rw (owned_host c.args.raw.now (placed_host c.args.place c.args.host.now) c.in_ok-owner.owner c.in_ok-owner.ensures.owner c.in_ok-owner.ensures.macros)
    c.visit_owned.ensures
