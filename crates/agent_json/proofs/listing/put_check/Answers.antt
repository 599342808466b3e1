use Rattle.std.proofs.Common.{rules, ◌≡◌, ◌++◌}
use Rattle.std.specs.Fmt.{decimal}
use Rattle.agent_json.proofs.Commas.{check_added}
use Rattle.agent_json.proofs.listing.put_check.Goals as goal

pub returns : goal.returns
returns c =
    let counted : c.push_decimal.new.self ≡ c.extend-2.new.self ++ decimal c.args.item.now.delay = search rules in
    check_added c.args.item.now c.args.body.now c.extend.new.self c.put_quoted.new.body c.extend-2.new.self c.push_decimal.new.self c.extend-3.new.self
    c.in_ok-extend.ensures.ok c.in_ok-put_quoted.ensures c.in_ok-extend-2.ensures.ok counted c.in_ok-extend-3.ensures.ok
