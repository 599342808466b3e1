use Rattle.std.proofs.Common.{◌≡◌, ◌≢◌, ◌<◌, ◌++◌, ◌∙◌, [], List, length, refl, sym, ap, subst, arith}
use Rattle.zbx_types.specs.declared.base.Base.{Base}
use Rattle.zbx_types.specs.declared.entries.Numbered.{Numbered}
use Rattle.trigger_state.specs.Stages.{Stage}
use Rattle.entry_step.specs.Log.{log_of}
use Rattle.base_laws.specs.FitsBase.{FitsBase}
use Rattle.book_opening.specs.Opening.{IsFirst, IsSound, IsReplayed, epochs_of, replayed_of}
use Rattle.book_opening.specs.Tally.{tally_of}
use Rattle.book_opening.proofs.Beginning.{first_epoch, first_fits_base, first_is_first, later_epochs, some_kept, begun}
use Rattle.book_opening.proofs.Comparing.{replayed_at}
use Rattle.book_opening.proofs.opening.begin.Goals as goal

pub next_epoch-requires : goal.next_epoch-requires
next_epoch-requires g c =
    let some = first_epoch g.S.StartName.flat g.S.StartName.base g.S.StartName.kept c.requires.sound c.requires.begun in
    let long = ap (λ (es : List Stage). length es) c.requires.epochs in
    omega (arith, some, long, c.from-epochs.ensures.1, c.args.epochs.ok.0)

pub begin-requires-clause-fits : goal.begin-requires-clause-fits
begin-requires-clause-fits g c =
    subst (λ (b : Base). b.text ≢ [] → FitsBase c.next_epoch.result.conf b) (sym c.requires.base)
    (first_fits_base g.S.StartName.flat g.S.StartName.base g.S.StartName.kept c.next_epoch.result c.from-epochs.result.items c.next_epoch.new.epochs.items c.requires.sound.base_is (c.from-epochs.ensures.0 ∙ c.requires.epochs) c.next_epoch.ensures.next)

pub begin-requires-clause-first : goal.begin-requires-clause-first
begin-requires-clause-first g c =
    first_is_first g.S.StartName.flat g.S.StartName.base g.S.StartName.kept c.next_epoch.result c.from-epochs.result.items c.next_epoch.new.epochs.items c.requires.sound c.requires.begun (c.from-epochs.ensures.0 ∙ c.requires.epochs) c.next_epoch.ensures.next

pub behind_first-rest-requires : goal.behind_first-rest-requires
behind_first-rest-requires g c = λ none.
    subst (λ (es : List Numbered). 0 < length es) (sym c.requires.kept)
    (some_kept g.S.StartName.flat g.S.StartName.base g.S.StartName.kept (sym (ap (λ (b : Base). b.text) c.requires.base) ∙ none) c.requires.begun)

pub replay_all-requires-clause-epochs : goal.replay_all-requires-clause-epochs
replay_all-requires-clause-epochs g c =
    let flat = g.S.StartName.flat in
    let base = g.S.StartName.base in
    let kept = g.S.StartName.kept in
    let rest : c.behind_first-rest.result.now ≡ replayed_of base.text kept = c.behind_first-rest.ensures ∙ ap (λ (b : Base). replayed_of b.text c.args.kept.now) c.requires.base ∙ ap (replayed_of base.text) c.requires.kept in
    later_epochs flat base kept c.next_epoch.result c.from-epochs.result.items c.next_epoch.new.epochs.items c.requires.sound c.requires.begun (c.from-epochs.ensures.0 ∙ c.requires.epochs) c.next_epoch.ensures.next
    ∙ ap (epochs_of flat) (sym rest)

pub replay_all-requires-clause-len : goal.replay_all-requires-clause-len
replay_all-requires-clause-len g c =
    let long = ap (λ (es : List Stage). length es) c.next_epoch.ensures.next in
    let same = ap (λ (es : List Stage). length es) c.from-epochs.ensures.0 in
    omega (arith, long, same, c.next_epoch.ensures.len, c.from-epochs.ensures.1, c.args.epochs.ok.0)

pub returns-in_ok-settled-in-Ok-clause-replayed : goal.returns-in_ok-settled-in-Ok-clause-replayed
returns-in_ok-settled-in-Ok-clause-replayed g c =
    let flat = g.S.StartName.flat in
    let base = g.S.StartName.base in
    let kept = g.S.StartName.kept in
    let asked = g.O.Sink.tells c.differs.new.self in
    let rest : c.behind_first-rest.result.now ≡ replayed_of base.text kept = c.behind_first-rest.ensures ∙ ap (λ (b : Base). replayed_of b.text c.args.kept.now) c.requires.base ∙ ap (replayed_of base.text) c.requires.kept in
    let first =
    begun flat base kept asked c.next_epoch.result c.from-epochs.result.items c.next_epoch.new.epochs.items _ c.requires.sound c.requires.begun (c.from-epochs.ensures.0 ∙ c.requires.epochs) c.next_epoch.ensures.next
    (subst (λ (b : Base). IsFirst b.text b c.next_epoch.result c.in_ok-present.present) c.requires.base c.in_ok-present.ensures.first) (c.behind-tally.ensures ∙ ap (λ (b : Base). tally_of b.lines []) c.requires.base) refl c.new-missing.ensures in
    let split : log_of kept ≡ log_of c.behind_first-rest.result.now ++ first.0 = first.1 ∙ ap (λ (es : List Numbered). log_of es ++ first.0) (sym rest) in
    c.in_ok-settled-in-Ok.ensures.replayed flat base (log_of kept) (g.O.Sink.tells c.args.outbox.now)
    (replayed_at flat base (log_of kept) asked (g.O.Sink.tells c.args.outbox.now) c.replay_all.new.so_far (sym c.differs.ensures.bytes) (sym c.differs.ensures.size)
    (subst (λ (log : List Numbered). IsReplayed flat base log asked c.replay_all.new.so_far) (sym split)
    (c.in-Ok.ensures.replayed first.0 (subst (IsSound flat base) split c.requires.sound) first.2)))
