use Rattle.std.proofs.Common.{◌≡◌, ◌∙◌, ℕ, ◌<◌, ◌≤◌, List, [], ◌∷◌, ◌++◌, length, Some, Option, IfSome, refl, sym, ap, subst, arith}
use Rattle.std.proofs.lemmas.Result.{IfOk-weaker}
use Rattle.outside.specs.Disk.{overwritten, Only, LeavesOnly}
use Rattle.zbx_types.specs.declared.base.Base.{Base}
use Rattle.intake_journal.specs.Kept.{magic, beginning_of}
use Rattle.intake_journal.specs.declared.format.Beginning.TheVariants.{Begun}
use Rattle.intake_journal.specs.Opened.{IsOpened}
use Rattle.intake_journal.specs.Settled.{KeepsAsOneOf}
use Rattle.gated_file.proofs.Moments.{if_some, told_of, started, stays}
use Rattle.intake_journal.proofs.Beginnings.{first_in, long_opened}
use Rattle.intake_journal.proofs.Fronts.{beginning_short}
use Rattle.intake_journal.proofs.Openings.{and_then, short_keeps, anew_opened}
use Rattle.intake_journal.proofs.opening.prepare.Goals as goal

pub returns-in_err-make_anew-clause-any_moment : goal.returns-in_err-make_anew-clause-any_moment
returns-in_err-make_anew-clause-any_moment g c = if_some (g.D.Disk.tells c.args.disk.now).bytes _ (λ b is.
    let tells = g.D.Disk.tells in
    let d0 = tells c.args.disk.now in let d1 = tells c.sync.new.self in let d2 = tells c.len.new.self in
    let told : d2.bytes ≡ Some b = c.len.ensures.bytes ∙ c.sync.ensures.bytes ∙ is in
    let only : Only b d2 = λ f now. told_of d0.bytes b (λ l. Only l d1) is c.in_ok-sync.ensures.durable f (c.len.ensures.crash f now) in
    let size : c.in_ok-held.held ≡ length b = told_of d1.bytes b (λ l. c.in_ok-held.held ≡ length l) (c.sync.ensures.bytes ∙ is) c.in_ok-held.ensures.length in
    let P = KeepsAsOneOf d0 in
    let s0 = started P d0 (g.met.D.Disk.lawful c.args.disk.now) (λ f now. (f, now, refl, refl)) in
    let s1 = stays P d0 d0 d1 s0 c.sync.ensures.time c.sync.ensures.crash in
    let s2 = stays P d0 d1 d2 s1 c.len.ensures.time c.len.ensures.crash in
    let image = told_of d0.bytes b d0.images is (g.met.D.Disk.lawful c.args.disk.now).reads_as in
    let short : length b ≤ 9 = omega (arith, size, c.if-held-le9.true) in
    let more = told_of d2.bytes b (λ l. length l ≤ 9 → Only l d2 → LeavesOnly d2 (tells c.make_anew.new.disk) (λ f. length f ≤ 9)) told c.make_anew.ensures.any_moment short only in
    and_then d0 d2 (tells c.make_anew.new.disk) P (λ f. length f ≤ 9) s2.moments more (short_keeps d0 b image short))

pub returns-then-held-le9-clause-any_moment : goal.returns-then-held-le9-clause-any_moment
returns-then-held-le9-clause-any_moment g c = if_some (g.D.Disk.tells c.args.disk.now).bytes _ (λ b is.
    let tells = g.D.Disk.tells in
    let d0 = tells c.args.disk.now in let d1 = tells c.sync.new.self in let d2 = tells c.len.new.self in
    let told : d2.bytes ≡ Some b = c.len.ensures.bytes ∙ c.sync.ensures.bytes ∙ is in
    let only : Only b d2 = λ f now. told_of d0.bytes b (λ l. Only l d1) is c.in_ok-sync.ensures.durable f (c.len.ensures.crash f now) in
    let size : c.in_ok-held.held ≡ length b = told_of d1.bytes b (λ l. c.in_ok-held.held ≡ length l) (c.sync.ensures.bytes ∙ is) c.in_ok-held.ensures.length in
    let P = KeepsAsOneOf d0 in
    let s0 = started P d0 (g.met.D.Disk.lawful c.args.disk.now) (λ f now. (f, now, refl, refl)) in
    let s1 = stays P d0 d0 d1 s0 c.sync.ensures.time c.sync.ensures.crash in
    let s2 = stays P d0 d1 d2 s1 c.len.ensures.time c.len.ensures.crash in
    let image = told_of d0.bytes b d0.images is (g.met.D.Disk.lawful c.args.disk.now).reads_as in
    let short : length b ≤ 9 = omega (arith, size, c.if-held-le9.true) in
    let more = told_of d2.bytes b (λ l. length l ≤ 9 → Only l d2 → LeavesOnly d2 (tells c.make_anew.new.disk) (λ f. length f ≤ 9)) told c.make_anew.ensures.any_moment short only in
    and_then d0 d2 (tells c.make_anew.new.disk) P (λ f. length f ≤ 9) s2.moments more (short_keeps d0 b image short))

pub returns-then-held-le9-clause-begins : goal.returns-then-held-le9-clause-begins
returns-then-held-le9-clause-begins g c = if_some (g.D.Disk.tells c.args.disk.now).bytes _ (λ b is.
    let tells = g.D.Disk.tells in
    let d0 = tells c.args.disk.now in let d1 = tells c.sync.new.self in let d2 = tells c.len.new.self in
    let size : c.in_ok-held.held ≡ length b = told_of d1.bytes b (λ l. c.in_ok-held.held ≡ length l) (c.sync.ensures.bytes ∙ is) c.in_ok-held.ensures.length in
    let short : length b ≤ 9 = omega (arith, size, c.if-held-le9.true) in
    ap (λ (base : Base). Begun 8 base) c.empty.ensures ∙ sym (beginning_short b short))

pub returns-then-held-le9-clause-opened : goal.returns-then-held-le9-clause-opened
returns-then-held-le9-clause-opened g c = if_some (g.D.Disk.tells c.args.disk.now).bytes _ (λ b is.
    let tells = g.D.Disk.tells in
    let d0 = tells c.args.disk.now in let d1 = tells c.sync.new.self in let d2 = tells c.len.new.self in
    let told : d2.bytes ≡ Some b = c.len.ensures.bytes ∙ c.sync.ensures.bytes ∙ is in
    let only : Only b d2 = λ f now. told_of d0.bytes b (λ l. Only l d1) is c.in_ok-sync.ensures.durable f (c.len.ensures.crash f now) in
    let size : c.in_ok-held.held ≡ length b = told_of d1.bytes b (λ l. c.in_ok-held.held ≡ length l) (c.sync.ensures.bytes ∙ is) c.in_ok-held.ensures.length in
    let short : length b ≤ 9 = omega (arith, size, c.if-held-le9.true) in
    let file = overwritten b 0 (magic ++ 0 ∷ []) in
    let d3 = tells c.make_anew.new.disk in
    let made : d3.bytes ≡ Some file = told_of d2.bytes b (λ l. d3.bytes ≡ Some (overwritten l 0 (magic ++ 0 ∷ []))) told c.in_ok-make_anew.ensures.made in
    let durable = told_of d3.bytes file (λ l. Only l d3) made c.in_ok-make_anew.ensures.durable in
    let opened : IfSome (Some file) (λ f. (first : ℕ) (base : Base) → Begun 8 c.empty.result ≡ Begun first base → IsOpened d3 first b f) = λ first base e. subst (λ (n : ℕ). IsOpened d3 n b file) (ap first_in e) (anew_opened d3 b short durable) in
    subst (λ (o : Option (List ℕ)). IfSome o (λ f. (first : ℕ) (base : Base) → Begun 8 c.empty.result ≡ Begun first base → IsOpened d3 first b f)) (sym made) opened)

pub returns-clause-any_moment : goal.returns-clause-any_moment
returns-clause-any_moment g c = if_some (g.D.Disk.tells c.args.disk.now).bytes _ (λ b is.
    let tells = g.D.Disk.tells in
    let d0 = tells c.args.disk.now in let d1 = tells c.sync.new.self in let d2 = tells c.len.new.self in
    let told : d2.bytes ≡ Some b = c.len.ensures.bytes ∙ c.sync.ensures.bytes ∙ is in
    let only : Only b d2 = λ f now. told_of d0.bytes b (λ l. Only l d1) is c.in_ok-sync.ensures.durable f (c.len.ensures.crash f now) in
    let size : c.in_ok-held.held ≡ length b = told_of d1.bytes b (λ l. c.in_ok-held.held ≡ length l) (c.sync.ensures.bytes ∙ is) c.in_ok-held.ensures.length in
    let P = KeepsAsOneOf d0 in
    let s0 = started P d0 (g.met.D.Disk.lawful c.args.disk.now) (λ f now. (f, now, refl, refl)) in
    let s1 = stays P d0 d0 d1 s0 c.sync.ensures.time c.sync.ensures.crash in
    let s2 = stays P d0 d1 d2 s1 c.len.ensures.time c.len.ensures.crash in
    and_then d0 d2 (tells c.read_beginning.new.disk) P d2.images s2.moments c.read_beginning.ensures.before.moments (λ f now. s2.now f now))

pub returns-clause-begins : goal.returns-clause-begins
returns-clause-begins g c = IfOk-weaker c.read_beginning.result _ _ (λ it told_it. if_some (g.D.Disk.tells c.args.disk.now).bytes _ (λ b is.
    let tells = g.D.Disk.tells in
    let d0 = tells c.args.disk.now in let d1 = tells c.sync.new.self in let d2 = tells c.len.new.self in
    let told : d2.bytes ≡ Some b = c.len.ensures.bytes ∙ c.sync.ensures.bytes ∙ is in
    let size : c.in_ok-held.held ≡ length b = told_of d1.bytes b (λ l. c.in_ok-held.held ≡ length l) (c.sync.ensures.bytes ∙ is) c.in_ok-held.ensures.length in
    told_of d2.bytes b (λ l. c.in_ok-held.held ≡ length l → it ≡ beginning_of l) told told_it size)) c.read_beginning.ensures.told

pub returns-clause-opened : goal.returns-clause-opened
returns-clause-opened g c = IfOk-weaker c.read_beginning.result _ _ (λ it told_it. if_some (g.D.Disk.tells c.args.disk.now).bytes _ (λ b is.
    let tells = g.D.Disk.tells in
    let d0 = tells c.args.disk.now in let d1 = tells c.sync.new.self in let d2 = tells c.len.new.self in
    let told : d2.bytes ≡ Some b = c.len.ensures.bytes ∙ c.sync.ensures.bytes ∙ is in
    let size : c.in_ok-held.held ≡ length b = told_of d1.bytes b (λ l. c.in_ok-held.held ≡ length l) (c.sync.ensures.bytes ∙ is) c.in_ok-held.ensures.length in
    let long : 9 < length b = omega (arith, size, c.if-held-le9.false) in
    let begins : it ≡ beginning_of b = told_of d2.bytes b (λ l. c.in_ok-held.held ≡ length l → it ≡ beginning_of l) told told_it size in
    let d3 = tells c.read_beginning.new.disk in
    let only : Only b d3 = λ f now. told_of d0.bytes b (λ l. Only l d1) is c.in_ok-sync.ensures.durable f (c.len.ensures.crash f (c.read_beginning.ensures.before.no_others f now)) in
    let told_then : d3.bytes ≡ Some b = c.read_beginning.ensures.before.same ∙ told in
    let opened : IfSome (Some b) (λ f. (first : ℕ) (base : Base) → it ≡ Begun first base → IsOpened d3 first b f) = λ first base e. long_opened d3 b first base long (sym begins ∙ e) only in
    subst (λ (o : Option (List ℕ)). IfSome o (λ f. (first : ℕ) (base : Base) → it ≡ Begun first base → IsOpened d3 first b f)) (sym told_then) opened)) c.read_beginning.ensures.told
