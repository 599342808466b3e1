use Rattle.std.proofs.Common.{◌++◌, ◌-◌, ap, ◌∙◌, sym}
use Rattle.preprocess.specs.Visits.{Arrival, memory_in}
use Rattle.preprocess.specs.Cached.{visits_shown}
use Rattle.preprocess.specs.Walks.{walk}
use Rattle.preprocess.proofs.Visiting.{first_taken}
use Rattle.preprocess.proofs.visit.visits.Goals as goal

pub returns-clause-shown : goal.returns-clause-shown
returns-clause-shown c =
    let arrival : Arrival = record { item = c.args.item; time = c.args.time; number = c.args.number; value = c.args.value.now } in
    c.in_ok-go_through.ensures.shown
    ∙ ap (λ made. visits_shown made ++ walk c.args.conf.now (memory_in c.args.memories.now) c.args.time c.args.number c.saturating_sub.result c.args.item c.args.value.now) c.new-visits.ensures
    ∙ ap (λ down. walk c.args.conf.now (memory_in c.args.memories.now) c.args.time c.args.number down c.args.item c.args.value.now) c.saturating_sub.ensures
    ∙ ap (λ down. walk c.args.conf.now (memory_in c.args.memories.now) c.args.time c.args.number (down - 1) c.args.item c.args.value.now) c.len.ensures
    ∙ first_taken c.args.conf.now (memory_in c.args.memories.now) arrival (sym c.takes.ensures ∙ c.if-not-takes.false)
