use Rattle.std.proofs.Common.{drop, length, ◌-◌}
use Rattle.std.proofs.lemmas.Option.{IfSome_then}
use Rattle.gated_file.proofs.Pieces.{read_more}
use Rattle.gated_file.proofs.whole.read_on.Goals as goal

pub returns-clause-content : goal.returns-clause-content
returns-clause-content g c = IfSome_then (g.D.Disk.tells c.args.disk.now).bytes c.in_ok-more.ensures.content
    (λ b content before. read_more b c.args.into.now c.read.new.into (drop (length c.args.into.now - c.args.count) (drop c.args.count c.args.into.now)) c.args.at c.args.count c.in_ok-more.more c.requires.room c.in_ok-more.ensures.bound content before)
