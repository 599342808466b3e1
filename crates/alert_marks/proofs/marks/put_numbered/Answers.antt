use Rattle.std.proofs.Common.{◌≡◌, ℕ, ◌+◌, ◌<◌, true, false, List, [], ◌∷◌, ◌++◌, length, take, Some, IfSome, subst, arith}
use Rattle.outside.specs.Disk.{LeavesOnly, Only, overwritten}
use Rattle.gated_file.specs.Around.{IsAround}
use Rattle.alert_marks.specs.Marks.{group_of, IsFiled, IsSettled}
use Rattle.alert_marks.proofs.Marking.{on_both, inner_numbered, IsInner, settled_after, moments_with}
use Rattle.alert_marks.proofs.marks.put_numbered.Goals as goal

pub returns-clause-settled : goal.returns-clause-settled
returns-clause-settled g c marks free settled =
    let old = g.D.Disk.tells c.args.disk.now in let new = g.D.Disk.tells c.keep.new.disk in
    let m = c.args.mark in let at = c.args.at in
    let fits : (b : List ℕ) (f : IsFiled old at true marks b) → IsInner f.state f.groups (take at b) (group_of c.args.mark) marks m =
    λ b f. inner_numbered f.state f.groups (take at b) marks m f.ready.front f.lists c.numbered_block.ensures.small c.requires.some free f.coded in
    let place : at + 1 + 5 ≡ at + 6 = omega arith in
    subst (λ (n : ℕ). IsSettled false new n true (marks ++ m ∷ [])) place
    (settled_after old new at true marks m (group_of c.args.mark) settled fits
    (subst (λ (l : List ℕ). IfSome old.bytes (λ b. new.bytes ≡ Some (overwritten (overwritten b (at + 1) l) at (1 ∷ [])))) c.numbered_block.ensures.bytes c.in_ok-keep.ensures.kept) c.keep.ensures.told c.in_ok-keep.ensures.durable)

pub returns-clause-any_moment : goal.returns-clause-any_moment
returns-clause-any_moment g c marks free settled =
    let old = g.D.Disk.tells c.args.disk.now in let new = g.D.Disk.tells c.keep.new.disk in
    let m = c.args.mark in let at = c.args.at in
    let fits : (b : List ℕ) (f : IsFiled old at true marks b) → IsInner f.state f.groups (take at b) (group_of c.args.mark) marks m =
    λ b f. inner_numbered f.state f.groups (take at b) marks m f.ready.front f.lists c.numbered_block.ensures.small c.requires.some free f.coded in
    moments_with old new at true marks m (group_of c.args.mark) settled fits
    (subst (λ (l : List ℕ). IfSome old.bytes (λ b. at < length b → Only b old → LeavesOnly old new (IsAround b at l))) c.numbered_block.ensures.bytes c.keep.ensures.any_moment)

pub returns-in_err-keep-clause-any_moment : goal.returns-in_err-keep-clause-any_moment
returns-in_err-keep-clause-any_moment g c marks free settled =
    let old = g.D.Disk.tells c.args.disk.now in let new = g.D.Disk.tells c.keep.new.disk in
    let m = c.args.mark in let at = c.args.at in
    let fits : (b : List ℕ) (f : IsFiled old at true marks b) → IsInner f.state f.groups (take at b) (group_of c.args.mark) marks m =
    λ b f. inner_numbered f.state f.groups (take at b) marks m f.ready.front f.lists c.numbered_block.ensures.small c.requires.some free f.coded in
    moments_with old new at true marks m (group_of c.args.mark) settled fits
    (subst (λ (l : List ℕ). IfSome old.bytes (λ b. at < length b → Only b old → LeavesOnly old new (IsAround b at l))) c.numbered_block.ensures.bytes c.keep.ensures.any_moment)
