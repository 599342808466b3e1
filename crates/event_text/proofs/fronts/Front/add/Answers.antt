use Rattle.std.proofs.Common.{◌++◌, sym, subst}
use Rattle.event_text.specs.Cuts.{Arrives}
use Rattle.event_text.proofs.CutLemmas.{added}
use Rattle.event_text.proofs.fronts.Front.add.Goals as goal

pub returns : goal.returns
returns c = λ limit behind whole arrives.
    subst (λ t. Arrives limit c.keep-left.result.1 t behind whole) (sym c.in_ok-push_str.ensures.ok)
    (added limit c.in-Some.left c.keep-left.result.1 c.args.self.now.made c.args.more.now c.keep-left.result.0.now behind whole c.keep-left.ensures
    (subst (λ l. Arrives limit l c.args.self.now.made (c.args.more.now ++ behind) whole) c.in-Some.is arrives))
