use Rattle.std.proofs.Common.{◌≡◌, ℕ, List, IfSome, sym, subst}
use Rattle.alert_marks.proofs.Opened.{ok_both, read_kept}
use Rattle.alert_marks.proofs.opening.read_marks.Goals as goal

pub returns-in-Ok-clause-kept : goal.returns-in-Ok-clause-kept
returns-in-Ok-clause-kept g c =
    let old = g.D.Disk.tells c.args.disk.now in let new = g.D.Disk.tells c.read_all.new.disk in
    let told = subst (λ (l : List ℕ). IfSome old.bytes (λ b. l ≡ b)) (sym c.deref.ensures.value) c.in-Ok.ensures.told in
    ok_both c.read_groups.result _ _ _ (λ marks read shut. read_kept old new c.read_all.ensures.before c.requires c.deref.result.now told marks read shut) c.read_groups.ensures.read c.read_groups.ensures.shut
