use Rattle.std.proofs.Common.{◌+◌, ◌++◌, List, [], ◌∷◌, length, take, sym, ◌∙◌, ap, arith, length-append}
use Rattle.zbx_types.specs.declared.entries.Entry.{Entry}
use Rattle.zbx_types.specs.declared.entries.Numbered.{Numbered}
use Rattle.intake_front.specs.Intake.{numbered_from}
use Rattle.intake_front.proofs.Misfits.{take_next}
use Rattle.intake_front.proofs.Numbers.{numbered_more}
use Rattle.intake_front.proofs.settling.number.Goals as goal

pub loop-entry-preserved : goal.loop-entry-preserved
loop-entry-preserved c =
    let es = c.args.group.now in
    let i = c.loop-entry.entry-index in
    let e = c.entry-item.result in
    let before = c.args.made.now in
    let so_far = c.loop-entry.invariant in
    let next = take_next es i e c.loop-entry-test.true c.entry-item.is in
    let more = c.in_ok-push.ensures.ok ∙ ap (λ (x : Entry). c.loop-entry.made ++ record { number = c.args.first + length c.as_slice.result.now; entry = x } ∷ []) c.in_ok-copy.ensures in
    record {
      made = numbered_more c.args.first (c.args.first + length c.as_slice.result.now) before c.loop-entry.made c.push.new.self (take i es) e so_far.made (ap (λ (l : List Numbered). c.args.first + length l) c.as_slice.ensures) more
          ∙ ap (λ (l : List Entry). before ++ numbered_from (c.args.first + length before) l) (sym next);
      count = omega (arith, so_far.count, ap (λ (l : List Numbered). length l) more, length-append c.loop-entry.made (record { number = c.args.first + length c.as_slice.result.now; entry = e } ∷ []));
    }
