use Rattle.std.proofs.Common.{◌∙◌}
use Rattle.std.proofs.lemmas.Result.{IfOk-weaker}
use Rattle.clap.specs.Words.{app_of}
use Rattle.server_words.proofs.Ranges.{plan_within}
use Rattle.server_words.proofs.Rows.{plan_found, plan_refused}
use Rattle.server_words.proofs.planning.plan_for.Goals as goal

pub returns-in-Ok-try_get_matches_from-clause-ok :
    goal.returns-in-Ok-try_get_matches_from-clause-ok
returns-in-Ok-try_get_matches_from-clause-ok c =
    let e = c.in-Ok-try_get_matches_from.ensures in
    let found = plan_found c.args.call (app_of c.in-Ok.command) c.args.words.now c.in-Ok-try_get_matches_from.matches c.in-Ok.ensures e.matches e.kinds in
    IfOk-weaker c.planned.result _ _ (λ plan is. found ∙ is) c.planned.ensures.ok

pub returns-in-Ok-try_get_matches_from-clause-within :
    goal.returns-in-Ok-try_get_matches_from-clause-within
returns-in-Ok-try_get_matches_from-clause-within c =
    let e = c.in-Ok-try_get_matches_from.ensures in
    let found = plan_found c.args.call (app_of c.in-Ok.command) c.args.words.now c.in-Ok-try_get_matches_from.matches c.in-Ok.ensures e.matches e.kinds in
    IfOk-weaker c.planned.result _ _ (λ plan is. plan_within c.args.call c.args.words.now plan (found ∙ is)) c.planned.ensures.ok

pub returns-in-Ok-try_get_matches_from-clause-usage :
    goal.returns-in-Ok-try_get_matches_from-clause-usage
returns-in-Ok-try_get_matches_from-clause-usage c =
    let e = c.in-Ok-try_get_matches_from.ensures in
    let found = plan_found c.args.call (app_of c.in-Ok.command) c.args.words.now c.in-Ok-try_get_matches_from.matches c.in-Ok.ensures e.matches e.kinds in
    λ usage. found ∙ c.planned.ensures.usage usage

pub returns : goal.returns
returns c = record {
  ok = tt;
  within = tt;
  usage = λ usage. plan_refused c.args.call (app_of c.in-Ok.command) c.args.words.now c.in-Err.error c.in-Ok.ensures c.in-Err.ensures.kinds
      (λ spent. c.in_default-kind.not-OutOfMemory (c.kind.ensures ∙ spent));
}
