use Rattle.std.proofs.Common.{◌≡◌, ◌+◌, ℕ, false, List, drop, sym, ◌∙◌, ap}
use Rattle.std.proofs.lemmas.List.{drop-drop}
use Rattle.alert_queue.specs.Lanes.{Laned}
use Rattle.alert_queue.proofs.lane.Lane.pass.Goals as goal

pub returns : goal.returns
returns c =
    let i = c.self.inside in
    let over : List ℕ → Laned = λ (left : List ℕ). record { left = left; failed = 0; limit = i.limit; interval = i.interval; is_open = false; due = 0 } in
    let next : drop (i.at + 1) i.notes.items ≡ drop 1 (drop i.at i.notes.items) = sym (drop-drop 1 i.at i.notes.items) in
    ap over next ∙ ap (λ (v : Laned). record v { left = drop 1 v.left; failed = 0; is_open = false; due = 0 }) c.self.view_is
