use Rattle.std.proofs.Common.{◌≡◌, ◌∙◌, ◌+◌, ◌-◌, ◌++◌, ◌∷◌, ◌&&◌, [], false, inl, inr, sym, ap, arith, drop, get_or, append_assoc, append-nil}
use Rattle.std.specs.Prelude.{nat_lt}
use Rattle.std.proofs.lemmas.Bool.{le-ltb, and_left, and_right}
use Rattle.footprint.specs.Feet.{told_by}
use Rattle.syncer_gate.specs.declared.marks.Mark.TheVariants.{Pending}
use Rattle.syncer_gate.specs.Chosen.{picked}
use Rattle.syncer_gate.specs.Stamped.{meets}
use Rattle.syncer_gate.proofs.ChoiceLemmas.{pending_is, picked_over, picked_past, picked_other, picked_taken, picked_skipped, picked_done}
use Rattle.syncer_gate.proofs.choice.pick.Goals as goal

pub loop-place-init : goal.loop-place-init
loop-place-init c =
    ap (λ ns. ns ++ picked (told_by c.args.feet.now) (meets (told_by c.args.feet.now) c.args.touched.now) c.args.looks c.args.limit (drop c.args.low c.args.marks.now) (drop c.args.low c.args.entries.now)) c.new-made.ensures
    ∙ picked_done (told_by c.args.feet.now) (meets (told_by c.args.feet.now) c.args.touched.now) c.args.looks c.args.limit c.args.low c.args.marks.now c.args.entries.now c.requires.size c.requires.done

pub returns-then-left-eq0 : goal.returns-then-left-eq0
returns-then-left-eq0 c =
    let l = c.loop-place.left in
    let r = c.loop-place.room in
    let over : (nat_lt 0 l && nat_lt 0 r) ≡ false = elim c.then-left-eq0.either [
      | inl a ↦ and_left (nat_lt 0 l) (nat_lt 0 r) (le-ltb 0 l (omega arith))
      | inr b ↦ let z = b.1 in and_right (nat_lt 0 l) (nat_lt 0 r) (le-ltb 0 r (omega arith))
    ] in
    let p = c.loop-place.place in
    sym (ap (λ ns. c.loop-place.made ++ ns) (picked_over (told_by c.args.feet.now) (meets (told_by c.args.feet.now) c.loop-place.touched) l r (drop p c.args.marks.now) (drop p c.args.entries.now) over) ∙ append-nil c.loop-place.made)
    ∙ c.loop-place.invariant

pub loop-place-preserved-then-not-is_pending : goal.loop-place-preserved-then-not-is_pending
loop-place-preserved-then-not-is_pending c =
    ap (λ ns. c.loop-place.made ++ ns)
    (sym (picked_other (told_by c.args.feet.now) (meets (told_by c.args.feet.now) c.loop-place.touched) c.loop-place.left c.loop-place.room c.args.marks.now c.args.entries.now c.loop-place.place
    c.loop-place-test.true c.requires.size (sym c.is_pending.ensures ∙ c.if-not-is_pending.true)))
    ∙ c.loop-place.invariant

pub loop-place-preserved-then-branch : goal.loop-place-preserved-then-branch
loop-place-preserved-then-branch c =
    let F = told_by c.args.feet.now in
    ap (λ ns. c.loop-place.made ++ ns)
    (sym (picked_skipped F (meets F c.loop-place.touched) (meets F c.skips.new.touched) c.loop-place.left c.loop-place.room c.args.marks.now c.args.entries.now c.loop-place.place c.index-entries-place.result c.in_ok-skips.field-0
    c.loop-place-test.true c.requires.size (pending_is (get_or c.args.marks.now c.loop-place.place Pending) (sym c.is_pending.ensures ∙ c.if-not-is_pending.false)) c.index-entries-place.is (omega (arith, c.if-left-eq0.false)) (omega (arith, c.if-room-eq0.false))
    c.in_ok-skips.ensures.answer c.in_ok-skips.ensures.noted c.if-branch.true))
    ∙ c.loop-place.invariant

pub loop-place-preserved : goal.loop-place-preserved
loop-place-preserved c =
    let F = told_by c.args.feet.now in
    let p = c.loop-place.place in
    let rest = picked F (meets F c.skips.new.touched) (c.loop-place.left - 1) (c.loop-place.room - 1) (drop (p + 1) c.args.marks.now) (drop (p + 1) c.args.entries.now) in
    ap (λ ns. ns ++ rest) c.in_ok-push.ensures.ok
    ∙ append_assoc c.loop-place.made (c.index-entries-place.result.number ∷ []) rest
    ∙ ap (λ ns. c.loop-place.made ++ ns)
    (sym (picked_taken F (meets F c.loop-place.touched) (meets F c.skips.new.touched) c.loop-place.left c.loop-place.room c.args.marks.now c.args.entries.now p c.index-entries-place.result c.in_ok-skips.field-0
    c.loop-place-test.true c.requires.size (pending_is (get_or c.args.marks.now p Pending) (sym c.is_pending.ensures ∙ c.if-not-is_pending.false)) c.index-entries-place.is (omega (arith, c.if-left-eq0.false)) (omega (arith, c.if-room-eq0.false))
    c.in_ok-skips.ensures.answer c.in_ok-skips.ensures.noted c.if-branch.false))
    ∙ c.loop-place.invariant

pub returns : goal.returns
returns c =
    let p = c.loop-place.place in
    sym (ap (λ ns. c.loop-place.made ++ ns) (picked_past (told_by c.args.feet.now) (meets (told_by c.args.feet.now) c.loop-place.touched) c.loop-place.left c.loop-place.room p c.args.marks.now (drop p c.args.entries.now) (omega (arith, c.loop-place-test.false))) ∙ append-nil c.loop-place.made)
    ∙ c.loop-place.invariant
