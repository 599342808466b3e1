use Rattle.std.proofs.Common.{◌≡◌, ◌∙◌, ◌<◌, ◌-◌, true, length, slice_index_or, slice_set, refl, arith, length-set}
use Rattle.alert_queue.specs.declared.types.Mark.TheVariants.{Done}
use Rattle.alert_queue.specs.declared.types.NoteMark.{NoteMark}
use Rattle.server_jobs.proofs.Starting.{note_low, note_high, one_marked}
use Rattle.server_jobs.proofs.queueing.marked_in.Goals as goal

abbrev none : NoteMark
none = record { note = 0; mark = Done }

pub overflow_sub-mark : goal.overflow_sub-mark
overflow_sub-mark c =
    let inside : c.loop-mark.mark-index < length c.args.marks.now = omega arith in
    note_low c.args.marks.now c.loop-mark.mark-index none c.requires.once inside

pub index_mut-requires : goal.index_mut-requires
index_mut-requires c =
    let inside : c.loop-mark.mark-index < length c.args.marks.now = omega arith in
    let low = note_low c.args.marks.now c.loop-mark.mark-index none c.requires.once inside in
    let high = note_high c.args.marks.now c.loop-mark.mark-index c.args.total none c.requires.within inside in
    let count : length c.loop-mark.marked.items ≡ c.args.total = c.loop-mark.invariant.count in
    omega (arith, low, high, count)

pub loop-mark-preserved : goal.loop-mark-preserved
loop-mark-preserved c =
    let marks = c.args.marks.now in let i = c.loop-mark.mark-index in let items = c.loop-mark.marked.items in
    let inside : i < length marks = omega arith in
    let mark : NoteMark = slice_index_or marks i none in
    let low = note_low marks i none c.requires.once inside in
    let high = note_high marks i c.args.total none c.requires.within inside in
    record {
      count = length-set items (mark.note - 1) true ∙ c.loop-mark.invariant.count;
      each = one_marked c.args.total i items (slice_set items (mark.note - 1) true) marks mark none inside refl low high c.loop-mark.invariant.count c.loop-mark.invariant.each refl;
    }
