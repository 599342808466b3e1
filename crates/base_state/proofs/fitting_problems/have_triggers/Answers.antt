use Rattle.std.proofs.Common.{rules, ◌≡◌, ◌∙◌, ap, sym, map, append-nil, eqb-true, eq-eqb, length}
use Rattle.trigger_state.specs.Carry.{gone_of}
use Rattle.base_state.specs.Fitting.{opened}
use Rattle.base_state.proofs.Housed.{have_triggers}
use Rattle.base_state.proofs.fitting_problems.have_triggers.Goals as goal

pub returns : goal.returns
returns c =
    let all : c.as_slice.result.now ≡ map opened c.args.problems.now = search rules in
    let gone : c.in_ok-carried.carried.gone ≡ gone_of c.args.conf.now (map opened c.args.problems.now) = c.in_ok-carried.ensures.gone ∙ ap (gone_of c.args.conf.now) (append-nil c.as_slice.result.now ∙ all) in
    let long : c.len.result ≡ length c.in_ok-carried.carried.gone = c.len.ensures in
    let both = have_triggers c.args.conf.now c.args.problems.now c.in_ok-carried.carried.gone gone in
    ((λ t. both.0 (sym long ∙ eqb-true c.len.result 0 t)), (λ e. eq-eqb c.len.result 0 (long ∙ both.1 e)))
