use Rattle.std.proofs.Common.{◌≡◌, ℕ, Bool, Option, ◌+◌, ◌++◌, [], ◌∷◌, List, length, sym, ◌∙◌, ap, subst, arith}
use Rattle.std.specs.Prelude.{◌||◌}
use Rattle.zbx_types.specs.declared.entries.Entry.{Entry}
use Rattle.zbx_types.specs.declared.entries.Numbered.{Numbered}
use Rattle.intake_journal.specs.Block.{opened_bytes}
use Rattle.intake_front.specs.Intake.{Handled, numbered_from, numbered_behind, with_group, ticked, offered}
use Rattle.intake_front.specs.Fronted.{limits_of, staged_with}
use Rattle.intake_front.specs.Staging.{groups_in, IsStagedAs}
use Rattle.intake_front.specs.Waiting.{has_tick, first_with}
use Rattle.intake_front.specs.declared.answer.Answer.{Answer}
use Rattle.intake_front.specs.declared.batch.First.{First}
use Rattle.intake_front.specs.declared.settling.Settled.{Settled}
use Rattle.intake_front.proofs.Offers.{Says, settles}
use Rattle.intake_front.proofs.Batches.{taken_by}
use Rattle.intake_front.proofs.offering.offer.Goals as goal

pub returns-clause-taken : goal.returns-clause-taken
returns-clause-taken g c =
    let journal = c.args.journal.now in
    let i = c.args.held.now in
    let b = c.args.batch.now in
    let made = c.args.draft in
    let both = c.in-Ok.both in
    let k = c.prepared.new.batch in
    let t = c.settle-ticks.result in
    let says : ℕ → Handled = λ s. offered (limits_of journal s) i c.args.ticks made c.args.last in
    let view = c.held.view_is in
    let first : c.held.inside.before + length c.as_slice.result.now + 1 ≡ i.before + length i.entries + 1 =
    omega (arith, ap (λ (l : List Numbered). length l) c.as_slice.ensures.value, ap (λ v. length v.entries) view, ap (λ v. v.before) view) in
    let added : both.1 ≡ numbered_behind i.before i.entries (c.args.ticks ++ made.group) =
    c.in-Ok.ensures.added ∙ ap (λ n. numbered_from n (c.as_slice-2.result.now ++ c.as_slice-3.result.now)) first
    ∙ ap (λ (l : List Entry). numbered_behind i.before i.entries (l ++ c.as_slice-3.result.now)) c.as_slice-2.ensures ∙ ap (λ (l : List Entry). numbered_behind i.before i.entries (c.args.ticks ++ l)) c.as_slice-3.ensures in
    let staged =
    subst (λ (l : List Entry). IsStagedAs journal b.block l made.group k.block both.0) c.as_slice-2.ensures
    (subst (λ (l : List Entry). IsStagedAs journal b.block c.as_slice-2.result.now l k.block both.0) c.as_slice-3.ensures c.in-Ok.ensures.staged) in
    let P : Settled → Type 0 = λ s. Says i s.ticks s.group says s.now s.fault × (k.block ≡ staged_with (staged_with b.block s.ticks) s.group) in
    let done = subst P (sym c.settle-ticks.ensures.value) (settles journal b.block i c.requires.stands c.args.ticks made c.args.last k.block both.1 both.0 added c.requires.last staged) in
    let items = c.prepared.ensures.answers in
    taken_by journal i _ b c.push.new.self t.ticks t.group says t.now t.fault c.requires.stands c.requires.batch (c.push.ensures.block ∙ done.1) done.0
    (record {
      now = ap (λ v. v.now) view;
      peers = ap (λ v. v.peers) view;
      tick = c.half_behind-held-inside.ensures i (sym (ap (λ v. v.tick) view)) (sym (ap (λ v. v.now) view)) ∙ ap (λ (l : List Entry). (ticked i l).tick) c.as_slice-6.ensures;
      before = ap (λ v. v.before) view;
      entries = c.enter-2.ensures.items ∙ ap (λ (l : List Numbered). with_group c.held.inside.before l t.group) (c.enter.ensures.items ∙ ap (λ (l : List Numbered). with_group c.held.inside.before l t.ticks) (c.prepared.ensures.entries ∙ ap (λ v. v.entries) view))
          ∙ ap (λ (n : ℕ). with_group n (with_group n i.entries t.ticks) t.group) (ap (λ v. v.before) view);
      bytes = c.bytes_with-held-inside.ensures ∙ ap (λ (bl : List (List Entry)). journal.at + length (opened_bytes bl) + 1) (sym c.push.ensures.block);
      groups = omega (arith, ap (λ v. v.groups) view, c.groups_of.ensures.value, c.groups_of-2.ensures.value, ap groups_in c.as_slice-7.ensures, ap groups_in c.as_slice-8.ensures);
    })
    (c.push.ensures.answers ∙ ap (λ (l : List Answer). l ++ t.now ∷ []) items)
    (c.push.ensures.first ∙ ap (λ (f : Option First). first_with f (length k.answers.items) t.fault) c.prepared.ensures.first ∙ ap (λ (l : List Answer). first_with b.first (length l) t.fault) items)
    (c.push.ensures.mark ∙ c.prepared.ensures.mark)
    (c.push.ensures.ticked ∙ c.ticked_with-batch.ensures ∙ ap (λ (x : Bool). x || has_tick c.as_slice-4.result.now || has_tick c.as_slice-5.result.now) c.prepared.ensures.ticked
    ∙ ap (λ (l : List Entry). b.is_ticked || has_tick l || has_tick c.as_slice-5.result.now) c.as_slice-4.ensures
    ∙ ap (λ (l : List Entry). b.is_ticked || has_tick t.ticks || has_tick l) c.as_slice-5.ensures)
