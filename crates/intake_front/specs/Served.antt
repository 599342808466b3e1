-- What a list of events makes, one after another up to the first that stops.
use Rattle.std.specs.Prelude.{ℕ, List, [], ◌∷◌, ◌++◌, length, Option, Some, None}
use Rattle.std.specs.Option.{option_to_list}
use Rattle.zbx_types.specs.declared.conf.Conf.{Conf}
use Rattle.outside.specs.declared.event.WireEvent.{WireEvent}
use Rattle.intake_front.specs.Intake.{Limits, Intake, Handled, handled}
use Rattle.intake_front.specs.declared.answer.Reply.{Reply}
use Rattle.intake_front.specs.declared.answer.Stop.{Stop}

-- the intake after the events, the replies in order, the connections that were closed in order, each with how many of
-- these replies stood before its closing, and what stopped
pub record Served : Type 0 where
  pub intake : Intake
  pub replies : List Reply
  pub shut : List (ℕ × ℕ)
  pub stop : Option Stop

-- the closing of a connection, if any, with how many replies stood before it
abbrev pub closing : ℕ → Option ℕ → List (ℕ × ℕ)
closing before None = []
closing before (Some conn) = (conn, before) ∷ []

-- with what one more event does: its reply stands before the closing of its connection
abbrev pub grown : Served → Handled → Served
grown s h =
    let replies = s.replies ++ option_to_list h.answer.reply in
    record {
      intake = h.intake;
      replies = replies;
      shut = s.shut ++ closing (length replies) h.answer.shut;
      stop = h.answer.stop;
    }

-- one event more, unless one has stopped
abbrev pub served_on : Option Stop → Limits → Conf → Served → WireEvent → Served
served_on (Some reason) limits conf s e = s
served_on None limits conf s e = grown s (handled limits conf s.intake e)

-- a list of events more
abbrev pub served_from : Limits → Conf → Served → List WireEvent → Served
served_from limits conf s [] = s
served_from limits conf s (e ∷ es) = served_from limits conf (served_on s.stop limits conf s e) es

-- what the events make of an intake
abbrev pub served : Limits → Conf → Intake → List WireEvent → Served
served limits conf i events =
    served_from limits conf (record { intake = i; replies = []; shut = []; stop = None }) events
