use Rattle.std.proofs.Common.{ℕ, List, sym, subst, rules}
use Rattle.zbx_types.specs.Trees.{tree_of}
use Rattle.expr_parser.specs.Grammar.{IsExpr}
use Rattle.expr_parser.proofs.Complete.{one}
use Rattle.expr_text.proofs.WrittenTrees.{written_again}
use Rattle.expr_text.proofs.writing.write.Goals as goal

pub returns-clause-text : goal.returns-clause-text
returns-clause-text c = search rules

pub returns-clause-reads_back : goal.returns-clause-reads_back
returns-clause-reads_back c from h n =
    let e = tree_of c.args.parsed.now.expr in
    let ks = c.args.parsed.now.calls in
    subst (λ (t : List ℕ). IsExpr t e ks) (sym (returns-clause-text c)) (written_again from e ks h n)

pub returns-clause-no_other : goal.returns-clause-no_other
returns-clause-no_other c from h n e ks g =
    let same = one c.put_expr.new.out (tree_of c.args.parsed.now.expr) e c.args.parsed.now.calls ks (returns-clause-reads_back c from h n) g in
    (sym same.0, sym same.1)
