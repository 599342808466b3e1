-- The texts of refusals.
use Rattle.std.specs.Prelude.{ℕ, List, codes}
use Rattle.agent_json.specs.declared.refusing.ChecksRefusal.{ChecksRefusal}
use Rattle.agent_json.specs.declared.refusing.ChecksRefusal.TheVariants.{UnknownHost, NotMonitored, TooManyItems}

-- the reply to an agent that isn't told which items it is to bring
abbrev pub refusal_text : ChecksRefusal → List ℕ
refusal_text UnknownHost = codes "{\"response\":\"failed\",\"info\":\"unknown host\"}"
refusal_text NotMonitored = codes "{\"response\":\"failed\",\"info\":\"host not monitored\"}"
refusal_text TooManyItems = codes "{\"response\":\"failed\",\"info\":\"too many items\"}"
