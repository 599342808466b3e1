use Rattle.std.proofs.Common.{rules, ◌≡◌}
use Rattle.sender_json.specs.Replies.{reply_text}
use Rattle.sender_json.proofs.LengthLemmas.{length-reply_text}
use Rattle.sender_json.proofs.replying.reply.Goals as goal

pub framed-requires : goal.framed-requires
framed-requires c =
    let body : c.as_slice.result.now ≡ reply_text c.args.processed c.args.failed c.args.spent = search rules in
    rw body (length-reply_text c.args.processed c.args.failed c.args.spent c.ranges.processed.fits c.ranges.failed.fits c.ranges.spent.fits)
