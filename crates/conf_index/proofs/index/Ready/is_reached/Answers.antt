use Rattle.std.proofs.Common.{rules, ◌≡◌, Bool, Option, Some, None, ap}
use Rattle.zbx_types.specs.Ids.{at_id}
use Rattle.trigger_state.specs.Stages.{Stage}
use Rattle.conf_index.proofs.Reaches.{reached_is}
use Rattle.conf_index.proofs.index.Ready.is_reached.Goals as goal

pub returns-in-None : goal.returns-in-None
returns-in-None c = λ trigger there.
    let none : Option Bool = None in
    let found : at_id c.self.inside.indexes.triggers.rules.reached c.args.id ≡ none = search rules in
    reached_is c.args.self.now.conf c.self.inside.stage.conf c.self.inside.indexes.triggers.rules.reached c.args.id trigger none (ap (λ (s : Stage). s.conf) c.self.view_is) c.self.invariant.by_reach found there

pub returns-in-Some : goal.returns-in-Some
returns-in-Some c = λ trigger there.
    let some : Option Bool = Some c.in-Some.reached.now in
    let found : at_id c.self.inside.indexes.triggers.rules.reached c.args.id ≡ some = search rules in
    reached_is c.args.self.now.conf c.self.inside.stage.conf c.self.inside.indexes.triggers.rules.reached c.args.id trigger some (ap (λ (s : Stage). s.conf) c.self.view_is) c.self.invariant.by_reach found there
