-- What a wire event does: the entries that it numbers and journals, and the reply to its sender.
use Rattle.std.specs.Prelude.{◌≡◌, ◌≤◌, ℕ, ◌+◌, ◌-◌, ◌/◌, ◌^◌, min, max, nat_lt, ◌==◌, ◌||◌, Bool, true, false, List, [], ◌∷◌, ◌++◌, length, Option, Some, None, if◌then◌else◌}
use Rattle.std.specs.Option.{option_or, option_map}
use Rattle.std.specs.Str.{bytes_eq}
use Rattle.zbx_types.specs.Frames.{frame}
use Rattle.zbx_types.specs.declared.base.Base.{Base}
use Rattle.zbx_types.specs.declared.conf.Conf.{Conf}
use Rattle.zbx_types.specs.declared.entries.Entry.{Entry}
use Rattle.zbx_types.specs.declared.entries.Entry.TheVariants.{Config, Value, Tick}
use Rattle.zbx_types.specs.declared.entries.Numbered.{Numbered}
use Rattle.outside.specs.Script.{moment_at}
use Rattle.outside.specs.declared.event.WireEvent.{WireEvent}
use Rattle.outside.specs.declared.event.WireEvent.TheVariants.{Opened, Piece, Ended, Broke, Quiet, Closed}
use Rattle.intake_journal.specs.Bytes.{entries_bytes}
use Rattle.wire_core.specs.Peers.{Peers, no_peers, turn_of, after_event}
use Rattle.wire_core.specs.declared.turn.Turn.{Turn}
use Rattle.wire_core.specs.declared.turn.Turn.TheVariants as turn
use Rattle.sender_json.specs.Replies.{reply_text, refusal_text}
use Rattle.sender_json.specs.declared.asked.Asked.{Asked}
use Rattle.agent_json.specs.declared.request.AgentAsked.{AgentAsked}
use Rattle.entry_laws.specs.InForce.{conf_behind, FitsLog, HasBegun, IsFull, text_in}
use Rattle.entry_step.specs.Log.{last_moment, log_of, moment_from, tick_of}
use Rattle.entry_step.specs.Start.{Start}
use Rattle.intake_front.specs.Asking.{ask_of, taken_ask}
use Rattle.intake_front.specs.Telling.{told}
use Rattle.intake_front.specs.declared.asking.Ask.{Ask}
use Rattle.intake_front.specs.declared.asking.Ask.TheVariants as ask
use Rattle.intake_front.specs.declared.answer.Answer.{Answer}
use Rattle.intake_front.specs.declared.answer.Reply.{Reply}
use Rattle.intake_front.specs.declared.answer.Stop.{Stop}
use Rattle.intake_front.specs.declared.answer.Stop.TheVariants as stop
use Rattle.intake_front.specs.declared.drafts.Draft.{Draft}
use Rattle.intake_front.specs.declared.gathering.Taken.{Taken}

-- What a run may journal: the most entries and the most bytes, and the number of the group that the disk refuses,
-- counted from 1 in the run, or 0 where it refuses none.
pub record Limits : Type 0 where
  pub max_entries : ℕ
  pub max_bytes : ℕ
  pub stop : ℕ

-- The intake between two events: the moment that the events have reached, the half minute of the last Tick, the
-- connections that are there, the number of the entry before all of the journal's, or 0 where there is none, the entries
-- in the order of their numbers, the journal's bytes up to and with the gate behind its last group, and how many groups
-- were kept in this run.
pub record Intake : Type 0 where
  pub now : ℕ
  pub tick : Option ℕ
  pub peers : Peers
  pub before : ℕ
  pub entries : List Numbered
  pub bytes : ℕ
  pub groups : ℕ

-- what an event leaves, and what is answered
pub record Handled : Type 0 where
  pub intake : Intake
  pub answer : Answer

-- entries with the numbers from this one on
abbrev pub numbered_from : ℕ → List Entry → List Numbered
numbered_from number [] = []
numbered_from number (entry ∷ rest) = record { number = number; entry = entry } ∷ numbered_from (number + 1) rest

-- a group with the numbers behind entries, before all of which an entry with this number stands
abbrev pub numbered_behind : ℕ → List Numbered → List Entry → List Numbered
numbered_behind before entries group = numbered_from (before + length entries + 1) group

-- entries with a group behind them
abbrev pub with_group : ℕ → List Numbered → List Entry → List Numbered
with_group before entries group = entries ++ numbered_behind before entries group

-- a journal's bytes with a group more
abbrev pub bytes_with : ℕ → List Entry → ℕ
bytes_with bytes group = bytes + length (entries_bytes group) + 9

-- a Tick is due where there was none, or its half minute is over
abbrev pub is_due : Option ℕ → ℕ → Bool
is_due None half = true
is_due (Some last) half = nat_lt last half

-- the half minute of a moment
abbrev pub half_minute : ℕ → ℕ
half_minute now = now / 30000000000

-- the Tick that is due at a moment, given the half minute of the last one
abbrev pub ticks_at : Option ℕ → ℕ → List Entry
ticks_at last now = if is_due last (half_minute now) then Tick now ∷ [] else []

-- no entries, and what the connection gets
abbrev pub only : Option Reply → Option ℕ → Draft
only reply shut = record { group = []; reply = reply; failing = None; shut = shut }

-- the reply of a connection
abbrev pub replying : ℕ → List ℕ → Option Reply
replying conn bytes = Some (record { conn = conn; bytes = bytes })

-- the reply that counts values, and tells the nanoseconds since a moment as microseconds
abbrev pub counting : ℕ → ℕ → ℕ → ℕ → ℕ → Option Reply
counting conn processed failed now since = replying conn (frame (reply_text processed failed ((now - since) / 1000)))

-- the values that are taken, of so many, are one group; the reply counts them and the others, or all as failed where the
-- group isn't kept
unfoldable pub counted : ℕ → ℕ → ℕ → List Entry → ℕ → Draft
counted now conn since group total = record {
  group = group;
  reply = counting conn (length group) (total - length group) now since;
  failing = counting conn 0 total now since;
  shut = Some conn;
}

-- what a body asks is answered: the values that it brings, of which these are taken, are counted; an agent is told its
-- items, and no entry is made; any other body is refused by its reply
unfoldable pub answered_taken : Conf → ℕ → ℕ → ℕ → Ask Taken Taken → Draft
answered_taken conf now conn since (ask.Refused why) = only (replying conn (frame (refusal_text why))) (Some conn)
answered_taken conf now conn since (ask.Values taken) = counted now conn since taken.group taken.total
answered_taken conf now conn since (ask.Checks host) = only (replying conn (told conf host)) (Some conn)
answered_taken conf now conn since (ask.Data taken) = counted now conn since taken.group taken.total

-- what a body asks is answered, with the values that are taken at a moment
unfoldable pub answered_ask : Conf → ℕ → ℕ → ℕ → Ask (List Asked) (List AgentAsked) → Draft
answered_ask conf now conn since a = answered_taken conf now conn since (taken_ask conf now a)

-- what is made at a moment of what an event meant for its connection
unfoldable pub turned : Conf → ℕ → Turn → Draft
turned conf now turn.Nothing = only None None
turned conf now (turn.Shut conn) = only None (Some conn)
turned conf now (turn.Whole conn body since) = answered_ask conf now conn since (ask_of body)

-- Closed is the last event
abbrev pub stop_of : WireEvent → Option Stop
stop_of (Closed at) = Some stop.Closed
stop_of (Opened conn at) = None
stop_of (Piece conn bytes at) = None
stop_of (Ended conn at) = None
stop_of (Broke conn at) = None
stop_of (Quiet at) = None

-- why the group with this number isn't kept, with which the journal would have so many entries and bytes: it would
-- pass a limit, or the disk refuses it
unfoldable pub refused_at : Limits → ℕ → ℕ → ℕ → Option Stop
refused_at limits entries bytes number =
    if nat_lt limits.max_entries entries || nat_lt limits.max_bytes bytes then Some (stop.Full entries bytes)
    else if number == limits.stop then Some stop.DiskFault
    else None

-- why one more group isn't kept; a number of bytes that has no place in 64 bits is told as 2^64 - 1
abbrev pub refused_more : Limits → Intake → List Entry → Option Stop
refused_more limits i group =
    refused_at limits (length i.entries + length group) (min (bytes_with i.bytes group) (2 ^ 64 - 1)) (i.groups + 1)

-- why a group that is offered isn't kept; no entries are no group
abbrev pub refused : Limits → Intake → List Entry → Option Stop
refused limits i [] = None
refused limits i (e ∷ es) = refused_more limits i (e ∷ es)

-- the intake with one more group
abbrev pub kept_more : Intake → List Entry → Intake
kept_more i group =
    record i { entries = with_group i.before i.entries group; bytes = bytes_with i.bytes group; groups = i.groups + 1 }

-- the intake with a group that is kept
abbrev pub kept_with : Intake → List Entry → Intake
kept_with i [] = i
kept_with i (e ∷ es) = kept_more i (e ∷ es)

-- the same where it is the Tick of the intake's moment
abbrev pub ticked : Intake → List Entry → Intake
ticked i [] = i
ticked i (e ∷ es) = record (kept_more i (e ∷ es)) { tick = Some (half_minute i.now) }

-- nothing is answered but why no event is taken any more
abbrev pub stopping : Stop → Answer
stopping s = record { reply = None; shut = None; added = []; stop = Some s }

-- what an event does behind its Tick, where its group is kept, or why it isn't
abbrev pub values_offered : Intake → List Numbered → Draft → Option Stop → Option Stop → Handled
values_offered i ticks made last None = record {
  intake = kept_with i made.group;
  answer =
      record {
        reply = made.reply;
        shut = made.shut;
        added = ticks ++ numbered_behind i.before i.entries made.group;
        stop = last;
      };
}
values_offered i ticks made last (Some s) =
    record { intake = i; answer = record { reply = made.failing; shut = made.shut; added = ticks; stop = Some s } }

-- what an event does behind the Tick that was kept
unfoldable pub behind_tick : Limits → Intake → List Numbered → Draft → Option Stop → Handled
behind_tick limits i ticks made last = values_offered i ticks made last (refused limits i made.group)

-- what an event does where its Tick is kept, or why it isn't: then the event isn't handled
abbrev pub tick_offered : Limits → Intake → List Entry → Draft → Option Stop → Option Stop → Handled
tick_offered limits i ticks made last None =
    behind_tick limits (ticked i ticks) (numbered_behind i.before i.entries ticks) made last
tick_offered limits i ticks made last (Some s) = record { intake = i; answer = stopping s }

-- what an event does whose Tick and whose group are offered, one after the other
unfoldable pub offered : Limits → Intake → List Entry → Draft → Option Stop → Handled
offered limits i ticks made last = tick_offered limits i ticks made last (refused limits i ticks)

-- the intake once an event has come, before its groups are offered: time never goes back
abbrev pub come_to : Intake → WireEvent → Intake
come_to i e = let now = max i.now (moment_at e) in record i { now = now; peers = after_event i.peers now e }

-- What an event does.
unfoldable pub handled : Limits → Conf → Intake → WireEvent → Handled
handled limits conf i e =
    let now = max i.now (moment_at e) in
    offered limits (come_to i e) (ticks_at i.tick now) (turned conf now (turn_of i.peers now e)) (stop_of e)

-- the moment of a log's last Tick, where this is that of the last one before it
abbrev pub last_tick : Option ℕ → List Numbered → Option ℕ
last_tick before [] = before
last_tick before (e ∷ log) = option_or (tick_of e.entry) (last_tick before log)

-- the half minute of the last Tick, with one more entry
abbrev pub half_with : Option ℕ → Entry → Option ℕ
half_with last entry = option_or (option_map half_minute (tick_of entry)) last

-- the intake of a run that goes on behind these entries, which stand on a base: no connection is there
abbrev pub resumed : Base → List Numbered → ℕ → Intake
resumed base entries bytes = record {
  now = moment_from base.now (log_of entries);
  tick = option_map half_minute (last_tick base.last_tick (log_of entries));
  peers = no_peers;
  before = base.number;
  entries = entries;
  bytes = bytes;
  groups = 0;
}

-- a configuration at a moment, as a group
abbrev pub config_group : ℕ → List ℕ → List Entry
config_group now text = Config now text ∷ []

-- the text of an entry, where it is a Config
abbrev pub config_text : Entry → Option (List ℕ)
config_text (Config now text) = Some text
config_text (Value now item time value) = None
config_text (Tick now) = None

-- the text of the last configuration of a log on a base of this text: that of the last Config, or that of the base
abbrev pub last_text : List ℕ → List Numbered → Option (List ℕ)
last_text before [] = text_in before
last_text before (e ∷ log) = option_or (config_text e.entry) (last_text before log)

-- there is a text, and it is this one
abbrev pub is_text : List ℕ → Option (List ℕ) → Bool
is_text text None = false
is_text text (Some found) = bytes_eq found text

-- the last configuration has this text, with one more entry
abbrev pub is_text_with : Bool → List ℕ → Entry → Bool
is_text_with before text (Config now found) = bytes_eq found text
is_text_with before text (Value now item time value) = before
is_text_with before text (Tick now) = before

-- a configuration as a group behind entries, at the moment that they have reached: this one where there are none
abbrev pub config_behind : ℕ → List ℕ → List Numbered → List Entry
config_behind before text kept = config_group (moment_from before (log_of kept)) text

-- the group with which a run goes on behind entries that were kept on a base: the configuration, unless the last one has
-- this very text
abbrev pub opening_group : Base → List ℕ → List Numbered → List Entry
opening_group base text kept =
    if is_text text (last_text base.text (log_of kept)) then [] else config_behind base.now text kept

-- the intake of a run that goes on behind kept entries with such a group, which is journaled where it has entries
abbrev pub resumed_with : Base → List Numbered → ℕ → List Entry → Intake
resumed_with base kept bytes [] = resumed base kept bytes
resumed_with base kept bytes (e ∷ es) =
    resumed base (with_group base.number kept (e ∷ es)) (bytes_with bytes (e ∷ es))

-- the intake of a run with a configuration of this text, whose journal kept these entries on a base and has so many
-- bytes: where the last configuration has another text, or there is none, this one is journaled
abbrev pub start : Base → List ℕ → List Numbered → ℕ → Intake
start base text kept bytes = resumed_with base kept bytes (opening_group base text kept)

-- The entries are a full log that fits its start, which has begun; this configuration is in force behind them, and none
-- is later than the moment that the events have reached. `flat` tells the configuration that a text stands for.
pub record IsSound (flat : List ℕ → Conf) (ground : Start) (conf : Conf) (i : Intake) : Type 0 where
  pub number : i.before ≡ ground.number
  pub full : IsFull ground (log_of i.entries)
  pub fits : FitsLog flat ground (log_of i.entries)
  pub in_force : conf_behind flat ground (log_of i.entries) ≡ conf
  pub moments : last_moment ground (log_of i.entries) ≤ i.now
  pub begun : HasBegun ground (log_of i.entries)
