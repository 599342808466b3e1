use Rattle.std.specs.Prelude.{is_ok}
use Rattle.book.specs.Progress.{IsBlank}
use Rattle.book.proofs.Batches.{all_pushed}
use Rattle.book.proofs.inputs.put_by.Goals as goal

pub returns : goal.returns
returns c = λ stage cache all holds. all_pushed (IsBlank stage cache) c.args.spare.now.items c.push.new.self.items c.args.scratch (is_ok c.push.result) c.push.ensures.items all holds
