-- What a trigger's two expressions mean, one after the other.
use Rattle.std.proofs.Common.{◌≡◌, List, ◌++◌, Option, Result, Ok, Err, sym, subst}
use Rattle.std.specs.Prelude.{codes}
use Rattle.zbx_types.specs.declared.calls.Call.{Call}
use Rattle.macro_text.specs.Expanded.{expanded}
use Rattle.macro_text.specs.declared.macros.Macro.{Macro}
use Rattle.config_read.specs.declared.raw.RawTrigger.{RawTrigger}
use Rattle.host_layout.specs.Answers.{Fails, GivesAs}
use Rattle.config_templates.specs.Expressions.{Resolved, Meant, resolved_at, with_recovery, meant_by}
use Rattle.config_templates.specs.Meanings.{meant_now}
use Rattle.host_layout.specs.Places.{Flaw, Placed, ◌>>=◌}
use Rattle.config_templates.specs.Referenced.{Looked}
use Rattle.host_layout.specs.declared.fault.FlatError.{FlatError}
use Rattle.host_layout.specs.declared.fault.FlatError.TheVariants.{Refused, OutOfMemory}
use Rattle.config_templates.specs.declared.resolving.Meaning.{Meaning}

fails : {A B : Type 0} (e : FlatError) (first : Result A Flaw) (k : A → Result B Flaw) → Fails e first → Fails e (first >>= k)
fails OutOfMemory first k h = tt
fails (Refused path cause) (Ok a) k h = absurd cc
fails (Refused path cause) (Err f) k h = cc

module _ (look : Call → Option Looked) (macros : List Macro) (p : Placed RawTrigger) where
  -- without an expression nothing is meant
  pub meant_fails : (e : FlatError) → Fails e (resolved_at look (p.path ++ codes "/expression") (expanded macros p.body.expression)) → Fails e (meant_by look macros p)
  meant_fails e h = fails e (resolved_at look (p.path ++ codes "/expression") (expanded macros p.body.expression)) _ h

  -- behind the expression, what the recovery expression adds is meant
  pub meant_gives : (r : Result Meaning FlatError) (e : Resolved) → resolved_at look (p.path ++ codes "/expression") (expanded macros p.body.expression) ≡ Ok e
      → GivesAs meant_now r (with_recovery p.body.recovery (resolved_at look (p.path ++ codes "/recovery_expression") (expanded macros p.body.recovery_expression)) e) → GivesAs meant_now r (meant_by look macros p)
  meant_gives r e h g = subst (λ (x : Result Resolved Flaw). GivesAs meant_now r (x >>= with_recovery p.body.recovery (resolved_at look (p.path ++ codes "/recovery_expression") (expanded macros p.body.recovery_expression)))) (sym h) g
