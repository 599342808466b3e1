use Rattle.std.proofs.Common.{rules, ◌≡◌, ◌++◌, List, ℕ, IfOk, true, codes, refl, subst}
use Rattle.agent_json.specs.Checks.{told, checks_text, framed_within}
use Rattle.agent_json.proofs.Telling.{told_listed}
use Rattle.agent_json.proofs.listing.checks.Goals as goal

pub returns : goal.returns
returns c =
    let begun : List ℕ = codes "{\"response\":\"success\",\"data\":[" in
    let made : c.put_checks.new.body ≡ begun ++ told c.args.host true c.args.conf.now.items = search rules in
    let text : c.extend.new.self ≡ checks_text c.args.conf.now c.args.host = told_listed c.args.conf.now c.args.host begun c.put_checks.new.body c.extend.new.self refl made c.in_ok-extend.ensures.ok in
    subst (λ (t : List ℕ). IfOk c.framed.result (λ bytes. bytes ≡ framed_within t)) text c.framed.ensures
