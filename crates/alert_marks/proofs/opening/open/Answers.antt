use Rattle.std.proofs.Common.{◌≡◌, ◌∙◌, true, false, List, [], ℕ, Some, sym, ap, map, rules}
use Rattle.std.specs.Prelude.{option_map}
use Rattle.std.proofs.lemmas.Result.{IfOk-weaker}
use Rattle.outside.specs.Disk.{LeavesOnly}
use Rattle.gated_file.specs.Groups.{Kept, Damaged, kept_from, groups_of}
use Rattle.gated_file.specs.Opened.{is_ours, made_ready, IsAsOneOf}
use Rattle.gated_file.proofs.Moments.{if_some, told_of}
use Rattle.gated_file.proofs.Openings.{leaves_less}
use Rattle.alert_marks.specs.Marks.{mark_form, listed, marks_in, KeepsAsOneOf}
use Rattle.alert_marks.proofs.Opened.{fresh, ready_same, ready_damaged, not_ours, keeps_as, opening_moments}
use Rattle.alert_marks.proofs.opening.open.Goals as goal

pub returns-in-Ok-true-clause-kept : goal.returns-in-Ok-true-clause-kept
returns-in-Ok-true-clause-kept g c =
    let tells = g.D.Disk.tells in
    let d0 = tells c.args.disk.now in let d1 = tells c.prepare.new.disk in
    let test : c.in-Ok-true.field-0 ≡ true = search rules in
    IfOk-weaker c.read_marks.result _ _ (λ list keeps. if_some d0.bytes _ (λ b is.
    let made : d1.bytes ≡ Some (made_ready fresh b) = told_of d0.bytes b (λ l. c.in-Ok-true.field-0 ≡ true → d1.bytes ≡ Some (made_ready fresh l)) is c.in-Ok-true.ensures.ready test in
    let there = told_of d1.bytes (made_ready fresh b) (λ l. marks_in l ≡ Some list.list.items) made keeps in
    ap (λ (k : Kept). option_map (listed 0 []) (groups_of k)) (sym (ready_same b)) ∙ there)) c.read_marks.ensures.kept

pub returns-in-Ok-true-clause-damaged : goal.returns-in-Ok-true-clause-damaged
returns-in-Ok-true-clause-damaged g c at e =
    let tells = g.D.Disk.tells in
    let d0 = tells c.args.disk.now in let d1 = tells c.prepare.new.disk in
    let test : c.in-Ok-true.field-0 ≡ true = search rules in
    if_some d0.bytes _ (λ b is.
    let made : d1.bytes ≡ Some (made_ready fresh b) = told_of d0.bytes b (λ l. c.in-Ok-true.field-0 ≡ true → d1.bytes ≡ Some (made_ready fresh l)) is c.in-Ok-true.ensures.ready test in
    let ours : is_ours fresh b ≡ true = sym (told_of d0.bytes b (λ l. c.in-Ok-true.field-0 ≡ is_ours fresh l) is c.in-Ok-true.ensures.ours) ∙ test in
    ready_damaged b at ours (told_of d1.bytes (made_ready fresh b) (λ l. kept_from mark_form l ≡ Damaged at) made (c.read_marks.ensures.damaged at e)))

pub returns-in-Ok-true-clause-any_moment : goal.returns-in-Ok-true-clause-any_moment
returns-in-Ok-true-clause-any_moment g c =
    let tells = g.D.Disk.tells in
    let d0 = tells c.args.disk.now in let d1 = tells c.prepare.new.disk in
    if_some d0.bytes _ (λ b is.
    opening_moments d0 d1 (tells c.read_marks.new.disk) (g.met.D.Disk.lawful c.prepare.new.disk) (told_of d0.bytes b (λ _. LeavesOnly d0 d1 (IsAsOneOf d0)) is c.prepare.ensures.any_moment) c.read_marks.ensures.before)

pub returns-in-Ok-false-clause-not_ours : goal.returns-in-Ok-false-clause-not_ours
returns-in-Ok-false-clause-not_ours g c e =
    let tells = g.D.Disk.tells in
    let d0 = tells c.args.disk.now in let d1 = tells c.prepare.new.disk in
    let test : c.in-Ok-false.field-0 ≡ false = search rules in
    if_some d0.bytes _ (λ b is. not_ours b (sym (told_of d0.bytes b (λ l. c.in-Ok-false.field-0 ≡ is_ours fresh l) is c.in-Ok-false.ensures.ours) ∙ test))

pub returns-in-Ok-false-clause-any_moment : goal.returns-in-Ok-false-clause-any_moment
returns-in-Ok-false-clause-any_moment g c =
    let tells = g.D.Disk.tells in
    let d0 = tells c.args.disk.now in let d1 = tells c.prepare.new.disk in
    if_some d0.bytes _ (λ b is. leaves_less d0 d1 (IsAsOneOf d0) (KeepsAsOneOf d0) (keeps_as d0) (told_of d0.bytes b (λ _. LeavesOnly d0 d1 (IsAsOneOf d0)) is c.prepare.ensures.any_moment))

pub returns-in-Err-clause-any_moment : goal.returns-in-Err-clause-any_moment
returns-in-Err-clause-any_moment g c =
    let tells = g.D.Disk.tells in
    let d0 = tells c.args.disk.now in let d1 = tells c.prepare.new.disk in
    if_some d0.bytes _ (λ b is. leaves_less d0 d1 (IsAsOneOf d0) (KeepsAsOneOf d0) (keeps_as d0) (told_of d0.bytes b (λ _. LeavesOnly d0 d1 (IsAsOneOf d0)) is c.prepare.ensures.any_moment))
