-- What an agent is told that asks which items it is to bring.
use Rattle.std.specs.Prelude.{ℕ, List, Option, Some, None, if◌then◌else◌}
use Rattle.std.specs.Option.{option_and_then}
use Rattle.zbx_types.specs.Frames.{frame}
use Rattle.zbx_types.specs.Ids.{at_id}
use Rattle.zbx_types.specs.declared.conf.Conf.{Conf}
use Rattle.agent_json.specs.Checks.{checks_text, framed_within}
use Rattle.agent_json.specs.Replies.{refusal_text}
use Rattle.agent_json.specs.declared.refusing.ChecksRefusal.TheVariants.{UnknownHost, NotMonitored, TooManyItems}
use Rattle.conf_index.specs.Names.{host_named}
use Rattle.intake_front.specs.Taking.{is_enabled_host}

-- the answer in a frame, or that there are too many items for one
abbrev pub or_too_many : Option (List ℕ) → List ℕ
or_too_many None = frame (refusal_text TooManyItems)
or_too_many (Some bytes) = bytes

-- what the agent of a host is told, where there is such a host and it is monitored
unfoldable pub told_host : Conf → Option ℕ → List ℕ
told_host conf None = frame (refusal_text UnknownHost)
told_host conf (Some host) =
    if is_enabled_host (at_id conf.hosts host) then or_too_many (framed_within (checks_text conf host))
    else frame (refusal_text NotMonitored)

-- what an agent is told that gives the name of its host
unfoldable pub told : Conf → Option (List ℕ) → List ℕ
told conf name = told_host conf (option_and_then (host_named conf) name)
