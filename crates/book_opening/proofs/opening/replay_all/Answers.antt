use Rattle.std.proofs.Common.{◌≡◌, ◌<◌, ◌≤◌, ◌+◌, ◌∷◌, ◌++◌, ◌∙◌, List, length, take, drop, sym, ap, subst, arith}
use Rattle.trigger_state.specs.Stages.{Stage}
use Rattle.zbx_types.specs.declared.entries.Numbered.{Numbered}
use Rattle.entry_step.specs.Log.{log_of}
use Rattle.book_opening.specs.Opening.{IsSound, IsReplayed, epochs_of}
use Rattle.book_opening.proofs.Replaying.{next_log, next_left, next_sound, taken_all, epochs_some}
use Rattle.book_opening.proofs.Comparing.{left_on, replayed_at}
use Rattle.book_opening.proofs.opening.replay_all.Goals as goal

pub replay_one-requires : goal.replay_one-requires
replay_one-requires g c = record {
  some = λ yes.
      let flat = g.S.StartName.flat in
      let i = c.loop-entry.entry-index in
      let kept = c.args.kept.now in
      let e = c.entry-item.result in
      let rest : drop i kept ≡ e ∷ drop (i + 1) kept = next_left kept i e c.loop-entry-test.true ∙ ap (λ (x : Numbered). x ∷ drop (i + 1) kept) (sym c.entry-item.is) in
      let some = epochs_some flat e (drop (i + 1) kept) yes in
      let long = ap (λ (es : List Stage). length es) (c.loop-entry.invariant.epochs ∙ ap (epochs_of flat) rest) in
      let counted = c.loop-entry.invariant.counted in
      omega arith;
}

pub loop-entry-preserved : goal.loop-entry-preserved
loop-entry-preserved g c =
    let flat = g.S.StartName.flat in
    let base = g.S.StartName.base in
    let outbox = g.O.Sink.tells c.args.outbox.now in
    let meanwhile = g.O.Sink.tells c.loop-entry.outbox in
    let left = c.loop-entry.invariant.left in
    let i = c.loop-entry.entry-index in
    let kept = c.args.kept.now in
    let below : i < length kept = c.loop-entry-test.true in
    let e = c.entry-item.result in
    let next = next_log kept i e below ∙ ap (λ (x : Numbered). x ∷ log_of (take i kept)) (sym c.entry-item.is) in
    let rest : drop i kept ≡ e ∷ drop (i + 1) kept = next_left kept i e below ∙ ap (λ (x : Numbered). x ∷ drop (i + 1) kept) (sym c.entry-item.is) in
    let epochs = c.loop-entry.invariant.epochs ∙ ap (epochs_of flat) rest in record {
      replayed = λ log sound first.
          let before = log_of (take i kept) ++ log in
          subst (λ (es : List Numbered). IsReplayed flat base (es ++ log) outbox c.replay_one.new.so_far) (sym next)
          (replayed_at flat base (e ∷ before) meanwhile outbox c.replay_one.new.so_far (sym left.bytes) (sym left.size)
          (c.in_ok-replay_one.ensures.replayed before (drop (i + 1) kept)
          (subst (λ (x : Numbered). IsSound flat base (x ∷ before)) (sym c.entry-item.is) (next_sound flat base kept log i e below sound)) epochs
          (replayed_at flat base before outbox meanwhile c.loop-entry.so_far left.bytes left.size (c.loop-entry.invariant.replayed log sound first))));
      epochs = c.in_ok-replay_one.ensures.epochs (drop (i + 1) kept) epochs;
      counted = c.in_ok-replay_one.ensures.len c.loop-entry.invariant.counted;
      left = left_on outbox meanwhile (g.O.Sink.tells c.replay_one.new.outbox) left c.replay_one.ensures.left;
    }

pub returns-clause-replayed : goal.returns-clause-replayed
returns-clause-replayed g c = λ log sound first.
    let past = c.loop-entry-test.false in
    let all : length c.args.kept.now ≤ c.loop-entry.entry-index = omega arith in
    subst (λ (es : List Numbered). IsReplayed g.S.StartName.flat g.S.StartName.base (log_of es ++ log) (g.O.Sink.tells c.args.outbox.now) c.loop-entry.so_far) (taken_all c.args.kept.now c.loop-entry.entry-index all)
    (c.loop-entry.invariant.replayed log sound first)
