-- The words of the command line, as `clap` reads a simple command, and their plan.
use Rattle.std.specs.Prelude.{ℕ, Bool, true, false, not, ◌&&◌, List, [], ◌∷◌, Option, Some, None, is_some, option_and_then, option_map, unwrap_or, if◌then◌else◌, codes, nat_lt, nat_le, ◌≤◌, ◌^◌, ◌-◌}
use Rattle.std.specs.Str.{bytes_eq}
use Rattle.std.specs.Str.Parse.{digits_value, without_leading_plus}
use Rattle.clap.specs.Words.{App, Row, Rule, new_app, new_rule, with_rule, matches_of, fault_of, first_of, one_of}
use Rattle.clap.specs.Walk.{is_empty}
use Rattle.clap.specs.ValueTests.{is_numeral}
use Rattle.clap.specs.declared.builder.value_parser.ValueParser.TheVariants as vp
use Rattle.server_words.specs.declared.words.Plan.{Plan}
use Rattle.server_words.specs.declared.planning.Numbers.{Numbers}
use Rattle.server_words.specs.declared.planning.RunTexts.{RunTexts}
use Rattle.server_words.specs.declared.planning.JobTexts.{JobTexts}
use Rattle.server_words.specs.declared.words.Mode.{Mode}
use Rattle.server_words.specs.declared.words.Mode.TheVariants.{Feed, Serve, Workload, Alerts, Checkpoint}
use Rattle.server_words.specs.declared.words.Call.{Call}
use Rattle.server_words.specs.declared.words.Call.TheVariants.{Run, Alerting, Copying}

-- the most syncers, turns, entries, tries of a message, alert sessions and values of a workload that a plan may ask for
abbrev pub most_syncers : ℕ
most_syncers = 16

abbrev pub most_turns : ℕ
most_turns = 1000000000

abbrev pub most_entries : ℕ
most_entries = 4000000

abbrev pub most_attempts : ℕ
most_attempts = 100

abbrev pub most_sessions : ℕ
most_sessions = 16

abbrev pub most_values : ℕ
most_values = 1000000

-- an option with a value, by its name
abbrev pub option : List ℕ → Rule
option name = record (new_rule name) { long = Some name }

-- one that has to be there
abbrev pub needed : List ℕ → Rule
needed name = record (option name) { required = true }

-- one that has this value where it isn't there
abbrev pub with_default : List ℕ → List ℕ → Rule
with_default name value = record (option name) { defaults = value ∷ [] }

-- one whose value is a number from the least to the most
abbrev pub number : List ℕ → List ℕ → ℕ → ℕ → Rule
number name value least most = record (with_default name value) { parser = Some (vp.Unsigned least most) }

-- the command before its options; its words have no program's name before them
abbrev pub bare_app : App
bare_app = let app = new_app (codes "zabbix_server") in record app { top = record app.top { no_binary_name = true } }

-- the command with its mode and the texts of a run
abbrev pub input_app : App
input_app = with_rule (with_rule (with_rule (with_rule (with_rule bare_app
    (needed (codes "mode"))) (option (codes "config"))) (option (codes "listen")))
    (option (codes "script"))) (option (codes "journal"))

-- the command with all its texts
abbrev pub text_app : App
text_app = with_rule (with_rule (with_rule (with_rule (with_rule input_app
    (option (codes "progress"))) (option (codes "command"))) (option (codes "media"))) (option (codes "into")))
    (with_default (codes "outbox") (codes "-"))

-- the command with its texts, and the numbers that limit a run
abbrev pub limit_app : App
limit_app = with_rule (with_rule (with_rule text_app
    (number (codes "syncers") (codes "4") 0 most_syncers)) (number (codes "turns") (codes "1000000000") 1 most_turns))
    (number (codes "max-entries") (codes "4000000") 1 most_entries)

-- the command: its texts and its numbers
abbrev pub server_app : App
server_app = with_rule (with_rule (with_rule (with_rule limit_app
    (number (codes "number") (codes "1") 0 (2 ^ 64 - 1))) (number (codes "attempts") (codes "3") 1 most_attempts))
    (number (codes "sessions") (codes "1") 1 most_sessions)) (number (codes "values") (codes "1000") 1 most_values)

-- the mode of this name
abbrev pub mode_of : List ℕ → Option Mode
mode_of name = if bytes_eq name (codes "feed") then Some Feed
    else if bytes_eq name (codes "serve") then Some Serve
    else if bytes_eq name (codes "workload") then Some Workload
    else if bytes_eq name (codes "alerts") then Some Alerts
    else if bytes_eq name (codes "checkpoint") then Some Checkpoint else None

-- a mode is one of a call's
abbrev pub is_mode_of : Call → Mode → Bool
is_mode_of Run Feed = true
is_mode_of Run Serve = true
is_mode_of Run Workload = true
is_mode_of Run Alerts = false
is_mode_of Run Checkpoint = false
is_mode_of Alerting Feed = false
is_mode_of Alerting Serve = false
is_mode_of Alerting Workload = false
is_mode_of Alerting Alerts = true
is_mode_of Alerting Checkpoint = false
is_mode_of Copying Feed = false
is_mode_of Copying Serve = false
is_mode_of Copying Workload = false
is_mode_of Copying Alerts = false
is_mode_of Copying Checkpoint = true

-- the number that a text writes, where an unsigned type of so many bits holds it
abbrev pub number_of : ℕ → List ℕ → Option ℕ
number_of bits text =
    let digits = without_leading_plus text in
    if is_numeral digits && nat_lt (digits_value 10 digits) (2 ^ bits) then Some (digits_value 10 digits) else None

-- a number from the least to the most
abbrev pub within : ℕ → ℕ → ℕ → Option ℕ
within least most n = if nat_le least n && nat_le n most then Some n else None

-- the number of an option
abbrev pub number_in : ℕ → ℕ → ℕ → List ℕ → List Row → Option ℕ
number_in bits least most name rows =
    option_and_then (within least most) (option_and_then (number_of bits) (one_of name rows))

-- what a mode needs is there
abbrev pub has_needed : Mode → List Row → Bool
has_needed Feed rows = is_some (first_of (codes "config") rows) && is_some (first_of (codes "script") rows)
has_needed Serve rows = is_some (first_of (codes "config") rows) && is_some (first_of (codes "listen") rows)
has_needed Workload rows = true
has_needed Alerts rows = is_some (first_of (codes "progress") rows) && is_some (first_of (codes "command") rows)
    && not (bytes_eq (unwrap_or (first_of (codes "outbox") rows) (codes "-")) (codes "-"))
has_needed Checkpoint rows = is_some (first_of (codes "journal") rows) && is_some (first_of (codes "into") rows)

-- the numbers of the options
abbrev pub numbers_in : List Row → Option Numbers
numbers_in rows =
    option_and_then (λ syncers.
    option_and_then (λ turns.
    option_and_then (λ max_entries.
    option_and_then (λ number.
    option_and_then (λ attempts.
    option_and_then (λ sessions.
    option_map (λ values. record { syncers = syncers; turns = turns; max_entries = max_entries; number = number; attempts = attempts; sessions = sessions; values = values })
    (number_in 64 1 most_values (codes "values") rows))
    (number_in 32 1 most_sessions (codes "sessions") rows))
    (number_in 32 1 most_attempts (codes "attempts") rows))
    (number_in 64 0 (2 ^ 64 - 1) (codes "number") rows))
    (number_in 64 1 most_entries (codes "max-entries") rows))
    (number_in 64 1 most_turns (codes "turns") rows))
    (number_in 32 0 most_syncers (codes "syncers") rows)

-- the texts of a run
abbrev pub run_texts : List Row → RunTexts
run_texts rows = record {
  config = first_of (codes "config") rows;
  script = first_of (codes "script") rows;
  listen = first_of (codes "listen") rows;
  journal = first_of (codes "journal") rows;
}

-- the texts of alerts and of a copy
abbrev pub job_texts : List Row → JobTexts
job_texts rows = record {
  progress = first_of (codes "progress") rows;
  command = first_of (codes "command") rows;
  media = first_of (codes "media") rows;
  into = first_of (codes "into") rows;
}

-- the plan with this mode and these numbers, and with the texts of the options
abbrev pub plan_with : List Row → Mode → Numbers → Plan
plan_with rows mode numbers = record {
  mode = mode;
  config = first_of (codes "config") rows;
  script = first_of (codes "script") rows;
  listen = first_of (codes "listen") rows;
  journal = first_of (codes "journal") rows;
  outbox = unwrap_or (first_of (codes "outbox") rows) [];
  syncers = numbers.syncers;
  turns = numbers.turns;
  max_entries = numbers.max_entries;
  number = numbers.number;
  values = numbers.values;
  progress = first_of (codes "progress") rows;
  command = first_of (codes "command") rows;
  attempts = numbers.attempts;
  media = first_of (codes "media") rows;
  into = first_of (codes "into") rows;
  sessions = numbers.sessions;
}

-- the plan that the options ask of a call, or none where the mode is another one's, or one is missing that it needs
abbrev pub plan_in : Call → List Row → Option Plan
plan_in call rows =
    option_and_then (λ mode. if is_mode_of call mode && has_needed mode rows then option_map (plan_with rows mode) (numbers_in rows) else None)
    (option_and_then mode_of (first_of (codes "mode") rows))

-- the words are those of the command, as `clap` takes them
abbrev pub is_taken : List (List ℕ) → Bool
is_taken words = is_empty (fault_of server_app words)

-- the plan of a list of words for a call, or none where they aren't the command's
unfoldable pub plan_for : Call → List (List ℕ) → Option Plan
plan_for call words = if is_taken words then plan_in call (matches_of server_app words) else None

-- the plan of a list of words for the server's run
abbrev pub plan_of : List (List ℕ) → Option Plan
plan_of words = plan_for Run words

-- the plan of a list of words for alerts
abbrev pub alerts_plan_of : List (List ℕ) → Option Plan
alerts_plan_of words = plan_for Alerting words

-- the plan of a list of words for a copy of a journal
abbrev pub checkpoint_plan_of : List (List ℕ) → Option Plan
checkpoint_plan_of words = plan_for Copying words

-- the numbers of a plan are those that may be asked for
pub record IsWithin (plan : Plan) : Type 0 where
  pub syncers : plan.syncers ≤ most_syncers
  pub turns : (1 ≤ plan.turns) × (plan.turns ≤ most_turns)
  pub entries : (1 ≤ plan.max_entries) × (plan.max_entries ≤ most_entries)
  pub attempts : (1 ≤ plan.attempts) × (plan.attempts ≤ most_attempts)
  pub sessions : (1 ≤ plan.sessions) × (plan.sessions ≤ most_sessions)
  pub values : (1 ≤ plan.values) × (plan.values ≤ most_values)
