use Rattle.std.proofs.Common.{◌≡◌, ◌∙◌, false, List, [], ◌∷◌, ◌++◌, IfSome, sym, ap, subst, rules}
use Rattle.outside.specs.Disk.{LeavesOnly}
use Rattle.alert_queue.specs.declared.types.NoteMark.{NoteMark}
use Rattle.alert_marks.specs.Marks.{EachKeeps, KeepsBeforeOrWith, has_mark}
use Rattle.alert_marks.proofs.Marking.{moments_same, settled_keeps}
use Rattle.alert_marks.proofs.marks.Marks.add.Goals as goal

pub returns-then-self-ge-MOST_BYTES-clause-any_moment :
    goal.returns-then-self-ge-MOST_BYTES-clause-any_moment
returns-then-self-ge-MOST_BYTES-clause-any_moment g c going =
    let tells = g.D.Disk.tells in let j = c.self.inside in
    subst (λ v. IfSome (tells v.disk).bytes (λ _. LeavesOnly (tells v.disk) (tells v.disk) (KeepsBeforeOrWith v.list c.args.mark))) c.self.view_is
    (moments_same (tells j.disk) j.at j.is_numbered j.list.items c.args.mark (g.met.D.Disk.lawful j.disk) (λ _. c.self.invariant (ap (λ v. v.is_broken) c.self.view_is ∙ going)))

pub returns-then-is_err-clause-any_moment : goal.returns-then-is_err-clause-any_moment
returns-then-is_err-clause-any_moment g c going =
    let tells = g.D.Disk.tells in let j = c.self.inside in
    subst (λ v. IfSome (tells v.disk).bytes (λ _. LeavesOnly (tells v.disk) (tells j.disk) (KeepsBeforeOrWith v.list c.args.mark))) c.self.view_is
    (moments_same (tells j.disk) j.at j.is_numbered j.list.items c.args.mark (g.met.D.Disk.lawful j.disk) (λ _. c.self.invariant (ap (λ v. v.is_broken) c.self.view_is ∙ going)))

pub returns-in-Ok-clause-durable : goal.returns-in-Ok-clause-durable
returns-in-Ok-clause-durable g c =
    let j = c.self.inside in
    let free : has_mark j.list.items c.args.mark.note ≡ false = subst (λ v. has_mark v.list c.args.mark.note ≡ false) (sym c.self.view_is) c.requires.free in
    let whole : j.list.items ++ c.args.mark ∷ [] ≡ c.push.new.self.items = search rules in
    subst (EachKeeps (g.D.Disk.tells c.put.new.disk)) whole
    (settled_keeps (g.D.Disk.tells c.put.new.disk) _ _ (j.list.items ++ c.args.mark ∷ []) (c.in-Ok.ensures.settled j.list.items free (λ _. c.self.invariant c.if-self.false)))
