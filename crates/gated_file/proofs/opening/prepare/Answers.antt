use Rattle.std.proofs.Common.{◌≡◌, ◌∙◌, ℕ, ◌<◌, ◌≤◌, true, inl, List, length, Some, Option, IfSome, refl, sym, subst, arith}
use Rattle.std.specs.Prelude.{take}
use Rattle.std.proofs.lemmas.Result.{IfOk-weaker}
use Rattle.outside.specs.Disk.{overwritten, Only, LeavesOnly}
use Rattle.gated_file.specs.Opened.{begins, made_ready, IsAsOneOf}
use Rattle.gated_file.proofs.Moments.{if_some, told_of, started, stays}
use Rattle.gated_file.proofs.Openings.{and_then, short_as, anew_is, short_ours, long_ours, long_ready}
use Rattle.gated_file.proofs.opening.prepare.Goals as goal

pub returns-in_err-make_anew-clause-any_moment : goal.returns-in_err-make_anew-clause-any_moment
returns-in_err-make_anew-clause-any_moment g c = if_some (g.D.Disk.tells c.args.disk.now).bytes _ (λ b is.
    let tells = g.D.Disk.tells in
    let d0 = tells c.args.disk.now in let d1 = tells c.sync.new.self in let d2 = tells c.len.new.self in
    let told : d2.bytes ≡ Some b = c.len.ensures.bytes ∙ c.sync.ensures.bytes ∙ is in
    let size : c.in_ok-len.field-0 ≡ length b = told_of d1.bytes b (λ l. c.in_ok-len.field-0 ≡ length l) (c.sync.ensures.bytes ∙ is) c.in_ok-len.ensures.length in
    let only : Only b d2 = λ f now. told_of d0.bytes b (λ l. Only l d1) is c.in_ok-sync.ensures.durable f (c.len.ensures.crash f now) in
    let P = IsAsOneOf d0 in
    let s0 = started P d0 (g.met.D.Disk.lawful c.args.disk.now) (λ f now. (f, now, inl refl)) in
    let s1 = stays P d0 d0 d1 s0 c.sync.ensures.time c.sync.ensures.crash in
    let s2 = stays P d0 d1 d2 s1 c.len.ensures.time c.len.ensures.crash in
    let image = told_of d0.bytes b d0.images is (g.met.D.Disk.lawful c.args.disk.now).reads_as in
    let short : length b ≤ 9 = omega (arith, size, c.if-branch-le9.true) in
    let more = told_of d2.bytes b (λ l. length l ≤ 9 → Only l d2 → LeavesOnly d2 (tells c.make_anew.new.disk) (λ f. length f ≤ 9)) told c.make_anew.ensures.any_moment short only in
    and_then d0 d2 (tells c.make_anew.new.disk) P (λ f. length f ≤ 9) s2.moments more (short_as d0 b image short))

pub returns-then-branch-le9-clause-any_moment : goal.returns-then-branch-le9-clause-any_moment
returns-then-branch-le9-clause-any_moment g c = if_some (g.D.Disk.tells c.args.disk.now).bytes _ (λ b is.
    let tells = g.D.Disk.tells in
    let d0 = tells c.args.disk.now in let d1 = tells c.sync.new.self in let d2 = tells c.len.new.self in
    let told : d2.bytes ≡ Some b = c.len.ensures.bytes ∙ c.sync.ensures.bytes ∙ is in
    let size : c.in_ok-len.field-0 ≡ length b = told_of d1.bytes b (λ l. c.in_ok-len.field-0 ≡ length l) (c.sync.ensures.bytes ∙ is) c.in_ok-len.ensures.length in
    let only : Only b d2 = λ f now. told_of d0.bytes b (λ l. Only l d1) is c.in_ok-sync.ensures.durable f (c.len.ensures.crash f now) in
    let P = IsAsOneOf d0 in
    let s0 = started P d0 (g.met.D.Disk.lawful c.args.disk.now) (λ f now. (f, now, inl refl)) in
    let s1 = stays P d0 d0 d1 s0 c.sync.ensures.time c.sync.ensures.crash in
    let s2 = stays P d0 d1 d2 s1 c.len.ensures.time c.len.ensures.crash in
    let image = told_of d0.bytes b d0.images is (g.met.D.Disk.lawful c.args.disk.now).reads_as in
    let short : length b ≤ 9 = omega (arith, size, c.if-branch-le9.true) in
    let more = told_of d2.bytes b (λ l. length l ≤ 9 → Only l d2 → LeavesOnly d2 (tells c.make_anew.new.disk) (λ f. length f ≤ 9)) told c.make_anew.ensures.any_moment short only in
    and_then d0 d2 (tells c.make_anew.new.disk) P (λ f. length f ≤ 9) s2.moments more (short_as d0 b image short))

pub returns-then-branch-le9-clause-ours : goal.returns-then-branch-le9-clause-ours
returns-then-branch-le9-clause-ours g c = if_some (g.D.Disk.tells c.args.disk.now).bytes _ (λ b is.
    let tells = g.D.Disk.tells in
    let d0 = tells c.args.disk.now in let d1 = tells c.sync.new.self in let d2 = tells c.len.new.self in
    let told : d2.bytes ≡ Some b = c.len.ensures.bytes ∙ c.sync.ensures.bytes ∙ is in
    let size : c.in_ok-len.field-0 ≡ length b = told_of d1.bytes b (λ l. c.in_ok-len.field-0 ≡ length l) (c.sync.ensures.bytes ∙ is) c.in_ok-len.ensures.length in
    let short : length b ≤ 9 = omega (arith, size, c.if-branch-le9.true) in
    short_ours b c.args.fresh.now short)

pub returns-then-branch-le9-clause-ready : goal.returns-then-branch-le9-clause-ready
returns-then-branch-le9-clause-ready g c = if_some (g.D.Disk.tells c.args.disk.now).bytes _ (λ b is.
    let tells = g.D.Disk.tells in
    let d0 = tells c.args.disk.now in let d1 = tells c.sync.new.self in let d2 = tells c.len.new.self in
    let told : d2.bytes ≡ Some b = c.len.ensures.bytes ∙ c.sync.ensures.bytes ∙ is in
    let size : c.in_ok-len.field-0 ≡ length b = told_of d1.bytes b (λ l. c.in_ok-len.field-0 ≡ length l) (c.sync.ensures.bytes ∙ is) c.in_ok-len.ensures.length in
    let short : length b ≤ 9 = omega (arith, size, c.if-branch-le9.true) in
    let d3 = tells c.make_anew.new.disk in
    let made : d3.bytes ≡ Some (overwritten b 0 c.args.fresh.now) = told_of d2.bytes b (λ l. d3.bytes ≡ Some (overwritten l 0 c.args.fresh.now)) told c.in_ok-make_anew.ensures.made in
    λ yes. subst (λ (l : List ℕ). d3.bytes ≡ Some l) (anew_is b c.args.fresh.now c.requires short) made)

pub returns-clause-any_moment : goal.returns-clause-any_moment
returns-clause-any_moment g c = if_some (g.D.Disk.tells c.args.disk.now).bytes _ (λ b is.
    let tells = g.D.Disk.tells in
    let d0 = tells c.args.disk.now in let d1 = tells c.sync.new.self in let d2 = tells c.len.new.self in
    let told : d2.bytes ≡ Some b = c.len.ensures.bytes ∙ c.sync.ensures.bytes ∙ is in
    let size : c.in_ok-len.field-0 ≡ length b = told_of d1.bytes b (λ l. c.in_ok-len.field-0 ≡ length l) (c.sync.ensures.bytes ∙ is) c.in_ok-len.ensures.length in
    let only : Only b d2 = λ f now. told_of d0.bytes b (λ l. Only l d1) is c.in_ok-sync.ensures.durable f (c.len.ensures.crash f now) in
    let P = IsAsOneOf d0 in
    let s0 = started P d0 (g.met.D.Disk.lawful c.args.disk.now) (λ f now. (f, now, inl refl)) in
    let s1 = stays P d0 d0 d1 s0 c.sync.ensures.time c.sync.ensures.crash in
    let s2 = stays P d0 d1 d2 s1 c.len.ensures.time c.len.ensures.crash in
    and_then d0 d2 (tells c.is_like.new.disk) P d2.images s2.moments c.is_like.ensures.before.moments (λ f now. s2.now f now))

pub returns-clause-ours : goal.returns-clause-ours
returns-clause-ours g c = IfOk-weaker c.is_like.result _ _ (λ ours is_ours. if_some (g.D.Disk.tells c.args.disk.now).bytes _ (λ b is.
    let tells = g.D.Disk.tells in
    let d0 = tells c.args.disk.now in let d1 = tells c.sync.new.self in let d2 = tells c.len.new.self in
    let told : d2.bytes ≡ Some b = c.len.ensures.bytes ∙ c.sync.ensures.bytes ∙ is in
    let size : c.in_ok-len.field-0 ≡ length b = told_of d1.bytes b (λ l. c.in_ok-len.field-0 ≡ length l) (c.sync.ensures.bytes ∙ is) c.in_ok-len.ensures.length in
    let long : 9 < length b = omega (arith, size, c.if-branch-le9.false) in
    let test : ours ≡ begins (take 8 c.args.fresh.now) b = told_of d2.bytes b (λ l. ours ≡ begins (take 8 c.args.fresh.now) l) told is_ours in
    test ∙ long_ours b c.args.fresh.now long)) c.is_like.ensures.ours

pub returns-clause-ready : goal.returns-clause-ready
returns-clause-ready g c = IfOk-weaker c.is_like.result _ _ (λ ours is_ours. if_some (g.D.Disk.tells c.args.disk.now).bytes _ (λ b is.
    let tells = g.D.Disk.tells in
    let d0 = tells c.args.disk.now in let d1 = tells c.sync.new.self in let d2 = tells c.len.new.self in
    let told : d2.bytes ≡ Some b = c.len.ensures.bytes ∙ c.sync.ensures.bytes ∙ is in
    let size : c.in_ok-len.field-0 ≡ length b = told_of d1.bytes b (λ l. c.in_ok-len.field-0 ≡ length l) (c.sync.ensures.bytes ∙ is) c.in_ok-len.ensures.length in
    let long : 9 < length b = omega (arith, size, c.if-branch-le9.false) in
    let d3 = tells c.is_like.new.disk in
    λ yes. subst (λ (l : List ℕ). d3.bytes ≡ Some l) (long_ready b c.args.fresh.now long) (c.is_like.ensures.before.same ∙ told))) c.is_like.ensures.ours

pub returns-clause-durable : goal.returns-clause-durable
returns-clause-durable g c = IfOk-weaker c.is_like.result _ _ (λ ours is_ours yes.
    let tells = g.D.Disk.tells in
    let d0 = tells c.args.disk.now in let d1 = tells c.sync.new.self in let d2 = tells c.len.new.self in let d3 = tells c.is_like.new.disk in
    let same : d3.bytes ≡ d0.bytes = c.is_like.ensures.before.same ∙ c.len.ensures.bytes ∙ c.sync.ensures.bytes in
    if_some d3.bytes _ (λ b is.
    λ f now. told_of d0.bytes b (λ l. Only l d1) (sym same ∙ is) c.in_ok-sync.ensures.durable f (c.len.ensures.crash f (c.is_like.ensures.before.no_others f now)))) c.is_like.ensures.ours
