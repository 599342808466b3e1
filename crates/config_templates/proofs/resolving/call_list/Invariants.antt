use Rattle.std.proofs.Common.{◌≡◌, map}
use Rattle.std.specs.List.{list_any}
use Rattle.config_templates.specs.Expressions.{call_of, id_of, is_misread, call_cause, first_cause}
use Rattle.config_templates.specs.Scopes.{seen_by}
use Rattle.config_templates.proofs.resolving.call_list.Given as goal

abbrev pub invariant-loop-call : goal.invariant-loop-call
invariant-loop-call l = record {
  calls : l.list.calls ≡ map (λ c. call_of c (seen_by l.scope l.owner c)) l.yielded;
  items : l.list.call_items ≡ map (λ c. id_of (seen_by l.scope l.owner c)) l.yielded;
  misread : l.list.misread ≡ list_any (λ c. is_misread c (seen_by l.scope l.owner c)) l.yielded;
  cause : l.list.cause ≡ first_cause (λ c. call_cause c (seen_by l.scope l.owner c)) l.yielded;
}
