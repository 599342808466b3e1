-- Values that are taken have at most 65,535 bytes.
use Rattle.std.proofs.Common.{◌≡◌, ℕ, ◌≤◌, Bool, true, false, not, List, [], ◌∷◌, length, refl, sym, subst, arith}
use Rattle.std.specs.Prelude.{◌&&◌, if◌then◌else◌, option_and_then, Option, Some, None, nat_le, Result, Ok, Err}
use Rattle.std.specs.List.{All}
use Rattle.std.proofs.lemmas.Bool.Decides.{nat_tests}
use Rattle.std.proofs.lemmas.List.Elements.{All-nil, All-cons, All-append}
use Rattle.std.proofs.lemmas.List.Concat.{flat_map-cons}
use Rattle.zbx_types.specs.Ids.{at_id}
use Rattle.zbx_types.specs.Limits.{longest_value}
use Rattle.zbx_types.specs.declared.conf.Conf.{Conf}
use Rattle.zbx_types.specs.declared.entries.Entry.{Entry}
use Rattle.agent_json.specs.declared.request.AgentAsked.{AgentAsked}
use Rattle.sender_json.specs.declared.asked.Asked.{Asked}
use Rattle.sender_json.specs.declared.asked.Clock.{Clock}
use Rattle.sender_json.specs.declared.asked.Clock.TheVariants as clock
use Rattle.maintenance.specs.Suppression.{is_collected}
use Rattle.conf_index.specs.Names.{host_named, item_keyed}
use Rattle.intake_journal.specs.Bytes.{HasShortValue}
use Rattle.wire_core.specs.declared.turn.Turn.{Turn}
use Rattle.wire_core.specs.declared.turn.Turn.TheVariants as turn
use Rattle.intake_front.specs.Asking.{ask_of}
use Rattle.intake_front.specs.Intake.{counted, answered_taken, answered_ask, turned}
use Rattle.intake_front.specs.declared.asking.Ask.{Ask}
use Rattle.intake_front.specs.declared.asking.Ask.TheVariants as ask
use Rattle.intake_front.specs.declared.drafts.Draft.{Draft}
use Rattle.intake_front.specs.Taking.{clocked, valued, keyed, hosted, supported, taken_of, agent_taken_of, entry_in, group_by, is_enabled_host, is_enabled_item, comes_from, not_from, is_unsupported}
use Rattle.intake_front.specs.declared.origin.Origin.{Origin}
use Rattle.intake_front.specs.declared.origin.Origin.TheVariants.{Sender}
use Rattle.intake_front.specs.declared.refusal.ValueRefusal.{ValueRefusal}
use Rattle.intake_front.specs.declared.refusal.ValueRefusal.TheVariants.{Disabled, InMaintenance, BadValue}

abbrev AllShort : List Entry → Type 0
AllShort group = All HasShortValue group

-- what a refusal leaves out needs no proof
unless : (b : Bool) (cause : ValueRefusal) (r : Result Entry ValueRefusal) → AllShort (entry_in r) → AllShort (entry_in (if b then Err cause else r))
unless true cause r h = All-nil HasShortValue
unless false cause r h = h

only_where : (b : Bool) (cause : ValueRefusal) (r : Result Entry ValueRefusal) → (b ≡ true → AllShort (entry_in r)) → AllShort (entry_in (if b then r else Err cause))
only_where true cause r h = h refl
only_where false cause r h = All-nil HasShortValue

clocked_short : (now item : ℕ) (value : List ℕ) (c : Clock) → length value ≤ longest_value → AllShort (entry_in (clocked now item value c))
unfolding clocked
clocked_short now item value clock.Absent le = All-cons HasShortValue _ [] le (All-nil HasShortValue)
clocked_short now item value clock.Bad le = All-nil HasShortValue
clocked_short now item value (clock.At time) le = All-cons HasShortValue _ [] le (All-nil HasShortValue)

within : (n : ℕ) → nat_le n longest_value ≡ true → n ≤ longest_value
within n h = grind (arith, nat_tests)

module _ (conf : Conf) (now : ℕ) where
  valued_short : (item : ℕ) (c : Clock) (value : Option (List ℕ)) → AllShort (entry_in (valued now item c value))
  unfolding valued
  valued_short item c None = All-nil HasShortValue
  valued_short item c (Some value) = only_where (nat_le (length value) longest_value) BadValue (clocked now item value c) (λ h. clocked_short now item value c (within (length value) h))

  keyed_short : (origin : Origin) (asked : Asked) (host : ℕ) (item : Option ℕ) → AllShort (entry_in (keyed conf now origin asked host item))
  unfolding keyed
  keyed_short origin asked host None = All-nil HasShortValue
  keyed_short origin asked host (Some item) =
      let there = at_id conf.items item in
      let value = valued now item asked.clock asked.value in
      let collected = if not (is_collected conf host now) then Err InMaintenance else value in
      unless (not (is_enabled_host (at_id conf.hosts host) && is_enabled_item there)) Disabled (if not (comes_from origin there) then Err (not_from origin) else collected)
      (unless (not (comes_from origin there)) (not_from origin) collected
      (unless (not (is_collected conf host now)) InMaintenance value (valued_short item asked.clock asked.value)))

  hosted_short : (origin : Origin) (asked : Asked) (host : Option ℕ) → AllShort (entry_in (hosted conf now origin asked host))
  unfolding hosted
  hosted_short origin asked None = All-nil HasShortValue
  hosted_short origin asked (Some host) = keyed_short origin asked host (option_and_then (item_keyed conf host) asked.key)

  supported_short : (unsupported : Bool) (r : Result Entry ValueRefusal) → AllShort (entry_in r) → AllShort (entry_in (supported unsupported r))
  supported_short true (Ok entry) h = All-nil HasShortValue
  supported_short false (Ok entry) h = h
  supported_short unsupported (Err cause) h = All-nil HasShortValue

  taken_short : (origin : Origin) (asked : Asked) → AllShort (entry_in (taken_of conf now origin asked))
  unfolding taken_of
  taken_short origin asked = supported_short (is_unsupported origin) _ (hosted_short origin asked (option_and_then (host_named conf) asked.host))

all_short : {A : Type 0} (taken : A → Result Entry ValueRefusal) → ((one : A) → AllShort (entry_in (taken one))) → (all : List A) → AllShort (group_by taken all)
all_short taken short [] = All-nil HasShortValue
all_short taken short (one ∷ rest) =
    subst (All HasShortValue) (sym (flat_map-cons (λ a. entry_in (taken a)) one rest))
    (All-append HasShortValue (entry_in (taken one)) (group_by taken rest) (short one) (all_short taken short rest))

module _ (conf : Conf) (now : ℕ) where
  ask_short : (conn since : ℕ) (a : Ask (List Asked) (List AgentAsked)) → AllShort (answered_ask conf now conn since a).group
  unfolding answered_ask answered_taken counted
  ask_short conn since (ask.Refused why) = All-nil HasShortValue
  ask_short conn since (ask.Values all) = all_short (taken_of conf now Sender) (taken_short conf now Sender) all
  ask_short conn since (ask.Checks host) = All-nil HasShortValue
  ask_short conn since (ask.Data all) = all_short (agent_taken_of conf now) (λ one. taken_short conf now _ one.asked) all

  turn_short : (t : Turn) → AllShort (turned conf now t).group
  unfolding turned
  turn_short turn.Nothing = All-nil HasShortValue
  turn_short (turn.Shut conn) = All-nil HasShortValue
  turn_short (turn.Whole conn body since) = ask_short conn since (ask_of body)

  pub turned_short : (t : Turn) (draft : Draft) → draft ≡ turned conf now t → All HasShortValue draft.group
  turned_short t draft is = subst (λ (d : Draft). All HasShortValue d.group) (sym is) (turn_short t)
