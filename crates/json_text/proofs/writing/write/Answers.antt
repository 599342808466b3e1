use Rattle.json_text.specs.Trees.{json_of}
use Rattle.json_text.proofs.Again.{again}
use Rattle.json_text.proofs.writing.write.Goals as goal

pub returns-in-Ok-clause-reads_back : goal.returns-in-Ok-clause-reads_back
returns-in-Ok-clause-reads_back c = λ text g. again text (json_of c.args.tree.now) g

pub returns-in-Err-clause-reads_back : goal.returns-in-Err-clause-reads_back
returns-in-Err-clause-reads_back c = λ text g. again text (json_of c.args.tree.now) g
