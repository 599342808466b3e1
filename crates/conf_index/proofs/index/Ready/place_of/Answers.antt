use Rattle.std.proofs.Common.{◌≡◌, ◌∙◌, ◌-◌, ℕ, List, [], ap, subst, map, get_or}
use Rattle.trigger_state.specs.Stages.{Stage}
use Rattle.zbx_types.specs.declared.triggers.Trigger.{Trigger}
use Rattle.conf_index.specs.Asked.{places_of, AreAsked}
use Rattle.conf_index.proofs.Asking.{asked_at}
use Rattle.conf_index.proofs.index.Ready.place_of.Goals as goal

pub returns : goal.returns
returns c = λ trigger call there at.
    let triggers : c.self.inside.stage.conf.triggers ≡ c.args.self.now.conf.triggers = ap (λ (s : Stage). s.conf.triggers) c.self.view_is in
    let patterns : c.self.inside.patterns ≡ c.args.self.now.conf.patterns = c.self.invariant.by_place ∙ ap (λ (s : Stage). s.conf.patterns) c.self.view_is in
    let rows : c.row.result.now ≡ get_or (map (places_of c.args.self.now.conf.patterns) c.args.self.now.conf.triggers) (c.args.id - 1) [] =
    c.row.ensures ∙ c.self.invariant.by_call c.saturating_sub.result ∙ ap (λ n. get_or (map (places_of c.self.inside.patterns) c.self.inside.stage.conf.triggers) n []) c.saturating_sub.ensures
    ∙ ap (λ (ps : List (List ℕ)). get_or (map (places_of ps) c.self.inside.stage.conf.triggers) (c.args.id - 1) []) patterns ∙ ap (λ (ts : List Trigger). get_or (map (places_of c.args.self.now.conf.patterns) ts) (c.args.id - 1) []) triggers in
    let asked : AreAsked c.args.self.now.conf.patterns c.args.self.now.conf.triggers =
    subst (λ (ts : List Trigger). AreAsked c.args.self.now.conf.patterns ts) triggers (subst (λ (ps : List (List ℕ)). AreAsked ps c.self.inside.stage.conf.triggers) patterns c.self.invariant.asked.asked) in
    asked_at c.args.self.now.conf.patterns c.args.self.now.conf.triggers c.row.result.now c.place_in.result c.args.id c.args.place trigger call rows c.place_in.ensures asked there at
