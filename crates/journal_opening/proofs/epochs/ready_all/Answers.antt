use Rattle.std.proofs.Common.{◌≡◌, [], ◌∷◌, ◌++◌, map, sym, ap, ◌∙◌, subst, append_assoc}
use Rattle.std.specs.Prelude.{Contains}
use Rattle.std.specs.Vec.Iter.{into_iter_items}
use Rattle.trigger_state.specs.Stages.{first_stage}
use Rattle.journal_opening.proofs.MadeReady.{one_unready, among_first, among_rest}
use Rattle.journal_opening.proofs.epochs.ready_all.Goals as goal

pub loop-conf-init : goal.loop-conf-init
loop-conf-init c =
    let left : into_iter_items c.into_iter-conf-iterator.result ≡ c.args.confs.items = c.into_iter-conf-iterator.ensures.into_iter_gives.0 in
    record {
      made = ap (λ l. l ++ map first_stage (into_iter_items c.into_iter-conf-iterator.result)) c.new-epochs.ensures.items ∙ ap (map first_stage) left;
      among = λ conf in_left. subst (λ l. Contains l conf) left in_left;
    }

pub loop-conf-preserved : goal.loop-conf-preserved
loop-conf-preserved c =
    let i = c.loop-conf.invariant in
    let before = c.loop-conf.epochs.items in
    let rest = into_iter_items c.next.new.self in
    let conf = c.in-Some.conf in
    let left : into_iter_items c.loop-conf.conf-iterator ≡ conf ∷ rest = c.in-Some.ensures.steps.0 in
    record {
      made = ap (λ l. l ++ map first_stage rest) c.in-Ok.ensures.ok ∙ append_assoc before (first_stage conf ∷ []) (map first_stage rest) ∙ ap (λ l. before ++ map first_stage l) (sym left) ∙ i.made;
      among = λ other in_rest. i.among other (subst (λ l. Contains l other) (sym left) (among_rest conf rest other in_rest));
    }

pub returns-in-Err-clause-err : goal.returns-in-Err-clause-err
returns-in-Err-clause-err c =
    let conf = c.in-Some.conf in
    let rest = into_iter_items c.next.new.self in
    let left : into_iter_items c.loop-conf.conf-iterator ≡ conf ∷ rest = c.in-Some.ensures.steps.0 in
    one_unready c.args.confs.items conf c.in-Err.status (c.loop-conf.invariant.among conf (subst (λ l. Contains l conf) (sym left) (among_first conf rest))) c.in-Err.ensures.err
