-- A document that is laid out.
use Rattle.std.proofs.Common.{◌≡◌, ℕ, List, refl, ap, sym, subst}
use Rattle.std.specs.Prelude.{Result, Ok, Err, Option, Some, None}
use Rattle.std.specs.Option.{option_or}
use Rattle.json_form.specs.Faults.{Fault}
use Rattle.zbx_types.specs.declared.conf.Conf.{Conf}
use Rattle.zbx_types.specs.declared.items.Item.{Item}
use Rattle.zbx_types.specs.declared.triggers.Trigger.{Trigger}
use Rattle.config_templates.specs.declared.triggers.Found.{Found}
use Rattle.host_layout.specs.Patterns.{Pattern}
use Rattle.config_templates.specs.Triggers.{triggers_of}
use Rattle.config_templates.specs.Depends.{depending}
use Rattle.config_templates.specs.NamedHosts.{unknown_hosts}
use Rattle.config_templates.proofs.Linked.{bound_fails, told_fails}
use Rattle.config_read.specs.declared.raw.RawConf.{RawConf}
use Rattle.host_layout.specs.declared.fault.FlatError.{FlatError}
use Rattle.host_layout.specs.declared.fault.FlatError.TheVariants.{Refused, OutOfMemory}
use Rattle.host_layout.specs.Answers.{Fails, Tells, GivesAs}
use Rattle.config_templates.specs.Flat.{laid_out}
use Rattle.config_templates.specs.Laid.{behind_items, behind_links}
use Rattle.host_layout.specs.Linked.{link_faults}
use Rattle.host_layout.specs.Links.{unknown_links, cycles}
use Rattle.host_layout.specs.Places.{Flaw, unless, ◌>>=◌}
use Rattle.host_layout.specs.Places.Flaw.{refused}

first_fails : (e : FlatError) (f : Fault) → Tells e (Some f) → Fails {A = Conf} e (Err (refused f))
first_fails OutOfMemory f t = tt
first_fails (Refused path cause) f t = let e : f ≡ record { path = path; cause = cause } = cc in ap (λ (g : Fault). Err (refused g)) e

none_told : (e : FlatError) (laid : Result Conf Flaw) → Tells e None → Fails e laid
none_told OutOfMemory laid t = tt
none_told (Refused path cause) laid t = absurd cc

second_fails : (e : FlatError) (cyclic : Option Fault) (raw : RawConf) (k : RawConf → Result Conf Flaw) → Tells e cyclic → Fails e (unless raw cyclic >>= k)
second_fails e (Some f) raw k t = first_fails e f t
second_fails e None raw k t = none_told e (k raw) t

faults_fail : (e : FlatError) (unknown : Option Fault) (cyclic : RawConf → Option Fault) (raw : RawConf) (k : RawConf → Result Conf Flaw)
    → Tells e (option_or unknown (cyclic raw)) → Fails e (unless raw unknown >>= (λ r. unless r (cyclic r) >>= k))
faults_fail e (Some f) cyclic raw k t = first_fails e f t
faults_fail e None cyclic raw k t = second_fails e (cyclic raw) raw k t

pub links_fail : (e : FlatError) (text : List ℕ) (raw : RawConf) → Tells e (link_faults raw) → Fails e (laid_out text raw)
unfolding laid_out
links_fail e text raw t = faults_fail e (unknown_links raw) cycles raw _ t

laid_as : (text : List ℕ) (raw : RawConf) → unknown_links raw ≡ None → cycles raw ≡ None → laid_out text raw ≡ behind_links text raw
unfolding laid_out
laid_as text raw u c = rw (u, c) refl

-- where the links are right, a call gives what is laid out behind them
pub lists_give : {L : Type 0} (seen : L → Conf) (text : List ℕ) (raw : RawConf) (r : Result L FlatError) → unknown_links raw ≡ None → cycles raw ≡ None → GivesAs seen r (behind_links text raw) → GivesAs seen r (laid_out text raw)
lists_give seen text raw r u c h = subst (λ laid. GivesAs seen r laid) (sym (laid_as text raw u c)) h

module _ (text : List ℕ) (raw : RawConf) (items : List Item) (patterns : List Pattern) (found : Found) (f : triggers_of raw items patterns ≡ Ok found) where
  -- a dependency is at fault
  pub dependings_fail : (e : FlatError) → Fails e (depending raw found.triggers) → Fails e (behind_items text raw items patterns)
  dependings_fail e d = rw f (bound_fails e (depending raw found.triggers) _ d)

  -- a host that is named isn't there
  pub hosts_fail : (triggers : List Trigger) → depending raw found.triggers ≡ Ok triggers → (e : FlatError) → Tells e (unknown_hosts raw) → Fails e (behind_items text raw items patterns)
  hosts_fail triggers d e t = rw (f, d) (told_fails e (unknown_hosts raw) raw _ t)
