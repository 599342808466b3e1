-- Events that are taken together: what they are answered with, and what a front holds of them until its commit.
use Rattle.std.specs.Prelude.{◌≡◌, ◌<◌, ℕ, ◌+◌, not, nat_lt, Bool, false, ◌&&◌, List, [], ◌∷◌, ◌++◌, length, reverse, Option, Some, None, is_some}
use Rattle.std.specs.List.{list_any}
use Rattle.zbx_types.specs.declared.conf.Conf.{Conf}
use Rattle.zbx_types.specs.declared.entries.Entry.{Entry}
use Rattle.outside.specs.declared.event.WireEvent.{WireEvent}
use Rattle.agent_json.specs.Checks.{tells_items}
use Rattle.entry_step.specs.Log.{tick_of}
use Rattle.intake_journal.specs.Block.{opened_bytes}
use Rattle.intake_front.specs.Intake.{Limits, Intake, Handled, handled}
use Rattle.intake_front.specs.Fronted.{Fronted, limits_of, all_of}
use Rattle.intake_front.specs.declared.answer.Answer.{Answer}
use Rattle.intake_front.specs.declared.answer.Reply.{Reply}
use Rattle.intake_front.specs.declared.answer.Stop.{Stop}
use Rattle.intake_front.specs.declared.answer.Stop.TheVariants as stop

-- the intake after events, what each of them was answered with, and what stopped
pub record Answered : Type 0 where
  pub intake : Intake
  pub answers : List Answer
  pub stop : Option Stop

-- with what one more event does
abbrev pub answered_more : Answered → Handled → Answered
answered_more a h = record { intake = h.intake; answers = a.answers ++ h.answer ∷ []; stop = h.answer.stop }

-- one event more, unless one has stopped
abbrev pub answered_on : Option Stop → Limits → Conf → Answered → WireEvent → Answered
answered_on (Some reason) limits conf a e = a
answered_on None limits conf a e = answered_more a (handled limits conf a.intake e)

-- a list of events more
abbrev pub answered_from : Limits → Conf → Answered → List WireEvent → Answered
answered_from limits conf a [] = a
answered_from limits conf a (e ∷ es) = answered_from limits conf (answered_on a.stop limits conf a e) es

-- what events are answered with, one after another up to the first that stops
abbrev pub answered : Limits → Conf → Intake → List WireEvent → Answered
answered limits conf i events = answered_from limits conf (record { intake = i; answers = []; stop = None }) events

-- a front holds nothing that waits for a commit
pub record IsIdle {D : Type 0} (front : Fronted D) : Type 0 where
  pub kept_is : front.kept ≡ front.intake.entries
  pub no_block : front.block ≡ []
  pub no_answers : front.answers ≡ []
  pub no_failing : front.failing ≡ []

-- An idle front with this intake has taken these events, and holds back what they are answered with: where their
-- groups are kept, and where the disk refuses the first of these groups, at which the events stop.
pub record HasTaken {D : Type 0} (conf : Conf) (begun : Intake) (events : List WireEvent)
    (front : Fronted D) : Type 0 where
  pub kept_is : front.kept ≡ begun.entries
  pub entries_are : front.intake.entries ≡ (answered (limits_of front.journal 0) conf begun events).intake.entries
  pub answers_are : front.answers ≡ (answered (limits_of front.journal 0) conf begun events).answers
  pub failing_are : front.failing ≡ (answered (limits_of front.journal (begun.groups + 1)) conf begun events).answers
  pub none : front.block ≡ [] → (answered (limits_of front.journal (begun.groups + 1)) conf begun events ≡ answered
      (limits_of front.journal 0) conf begun events)
      × ((answered (limits_of front.journal 0) conf begun events).intake.groups ≡ begun.groups)
  pub some : 0 < length front.block → ((answered (limits_of front.journal (begun.groups + 1)) conf begun
      events).intake.entries ≡ begun.entries)
      × ((answered (limits_of front.journal (begun.groups + 1)) conf begun events).stop ≡ Some stop.DiskFault)

-- so many bytes of groups are enough for a commit: 1 MiB
abbrev pub longest_wait : ℕ
longest_wait = 1048576

-- there is a reply, and it tells an agent its items
abbrev pub has_list : Option Reply → Bool
has_list None = false
has_list (Some reply) = tells_items reply.bytes

-- the first of these answers has such a reply
abbrev pub begins_with_list : List Answer → Bool
begins_with_list [] = false
begins_with_list (answer ∷ answers) = has_list answer.reply

-- one more event may be taken before the commit: the groups that wait have fewer bytes, no Tick is among them, and the
-- last answer that waits tells no agent its items
abbrev pub goes_on : List (List Entry) → List Answer → Bool
goes_on block answers =
    nat_lt (length (opened_bytes block)) longest_wait && not
    (list_any (λ entry. is_some (tick_of entry)) (all_of block)) && not (begins_with_list (reverse answers))
