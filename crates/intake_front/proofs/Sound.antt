-- What events keep of the intake's entries.
use Rattle.std.proofs.Common.{◌≡◌, ℕ, ◌+◌, ◌≤◌, max, Bool, true, false, not, List, [], ◌∷◌, ◌++◌, length, refl, ap, sym, ◌∙◌, subst, arith, append_assoc, append-nil, length-append}
use Rattle.std.specs.Prelude.{◌&&◌, if◌then◌else◌, option_and_then, Option, Some, None, nat_le, Result, Ok, Err, IfOk, OnOk}
use Rattle.std.specs.List.{All}
use Rattle.std.proofs.lemmas.List.{reverse-append, length-reverse}
use Rattle.std.specs.Option.{option_or}
use Rattle.std.proofs.lemmas.Slice.Eq.{bytes_eq-Decides}
use Rattle.std.proofs.lemmas.List.Elements.{All-nil, All-cons, All-head, All-tail, All-append}
use Rattle.std.proofs.lemmas.List.Concat.{flat_map-cons}
use Rattle.zbx_types.specs.Ids.{at_id}
use Rattle.zbx_types.specs.Items.{is_trapper_kind, is_received_kind}
use Rattle.zbx_types.specs.Limits.{longest_value}
use Rattle.zbx_types.specs.declared.base.Base.{Base}
use Rattle.zbx_types.specs.declared.conf.Conf.{Conf}
use Rattle.zbx_types.specs.declared.items.Item.{Item}
use Rattle.zbx_types.specs.declared.items.ItemKind.{ItemKind}
use Rattle.zbx_types.specs.declared.items.ItemKind.TheVariants as kinds
use Rattle.zbx_types.specs.declared.entries.Entry.{Entry}
use Rattle.zbx_types.specs.declared.entries.Entry.TheVariants.{Config, Value, Tick}
use Rattle.zbx_types.specs.declared.entries.Numbered.{Numbered}
use Rattle.outside.specs.Script.{moment_at}
use Rattle.outside.specs.declared.event.WireEvent.{WireEvent}
use Rattle.wire_core.specs.Peers.{turn_of}
use Rattle.wire_core.specs.declared.turn.Turn.{Turn}
use Rattle.wire_core.specs.declared.turn.Turn.TheVariants as turn
use Rattle.sender_json.specs.declared.asked.Asked.{Asked}
use Rattle.sender_json.specs.declared.asked.Clock.{Clock}
use Rattle.sender_json.specs.declared.asked.Clock.TheVariants as clock
use Rattle.agent_json.specs.Checks.{is_active_kind}
use Rattle.agent_json.specs.declared.request.AgentAsked.{AgentAsked}
use Rattle.intake_front.specs.declared.asking.Ask.{Ask}
use Rattle.intake_front.specs.declared.asking.Ask.TheVariants as ask
use Rattle.intake_front.specs.declared.origin.Origin.{Origin}
use Rattle.intake_front.specs.declared.origin.Origin.TheVariants.{Sender, Agent}
use Rattle.intake_front.specs.Asking.{ask_of}
use Rattle.zbx_types.specs.Entries.{moment_of}
use Rattle.entry_laws.specs.InForce.{conf_behind, conf_with, FitsOn, FitsBehind, FitsLog, HasBegun, IsFull, text_in}
use Rattle.entry_step.specs.Log.{last_moment, log_of, moment_from, is_config, is_taking, IsFitting}
use Rattle.entry_step.specs.Start.{Start}
use Rattle.maintenance.specs.Suppression.{is_collected}
use Rattle.conf_index.specs.Names.{host_named, item_keyed}
use Rattle.intake_front.specs.Taking.{clocked, valued, keyed, hosted, supported, taken_of, agent_taken_of, entry_in, group_by, is_enabled_host, is_enabled_item, comes_from, not_from, is_unsupported}
use Rattle.intake_front.specs.Intake.{Limits, Intake, numbered_from, with_group, is_due, half_minute, ticks_at, counted, answered_taken, answered_ask, turned, kept_with, ticked, values_offered, behind_tick, tick_offered, offered, refused, numbered_behind, bytes_with, resumed, stop_of, handled, config_text, last_text, is_text, config_behind, resumed_with, start, IsSound}
use Rattle.intake_front.specs.Standing.{StandsFor}
use Rattle.zbx_types.specs.declared.memory.OutOfMemory.{OutOfMemory}
use Rattle.intake_front.specs.declared.answer.Answer.{Answer}
use Rattle.intake_front.specs.declared.answer.Stop.{Stop}
use Rattle.intake_front.specs.declared.drafts.Draft.{Draft}
use Rattle.intake_front.specs.declared.refusal.ValueRefusal.{ValueRefusal}
use Rattle.intake_front.specs.declared.refusal.ValueRefusal.TheVariants.{Disabled, InMaintenance, BadValue}

-- an entry that is taken at a moment: it is no Config, and fits
pub record IsTakenAt (conf : Conf) (now : ℕ) (e : Entry) : Type 0 where
  pub moment : moment_of e ≡ now
  pub plain : is_config e ≡ false
  pub fitting : IsFitting conf e

-- entries on a start that are sound at a moment
record EntriesSoundAt (flat : List ℕ → Conf) (ground : Start) (conf : Conf) (now : ℕ) (entries : List Numbered) : Type 0 where
  full : IsFull ground (log_of entries)
  fits : FitsLog flat ground (log_of entries)
  in_force : conf_behind flat ground (log_of entries) ≡ conf
  moments : last_moment ground (log_of entries) ≤ now
  begun : HasBegun ground (log_of entries)

-- an entry fits behind a log that has begun
fits_behind : (ground : Start) (conf : Conf) (log : List Numbered) (e : Entry) → HasBegun ground log → last_moment ground log ≤ moment_of e → IsFitting conf e → FitsBehind conf ground log e
fits_behind ground conf [] e some later fitting = on ground.stage.conf.text some
  where
    on : (text : List ℕ) → 1 ≤ length text + 0 → FitsOn text conf ground.moment e
    on [] none = absurd (omega arith)
    on (byte ∷ text) some = (later, fitting)
fits_behind ground conf (a ∷ log) e some later fitting = (later, fitting)

-- an entry that is no Config leaves the configuration in force
plain_conf : (flat : List ℕ → Conf) (conf : Conf) (e : Entry) → is_config e ≡ false → conf_with flat conf e ≡ conf
plain_conf flat conf (Config now text) plain = absurd (cc)
plain_conf flat conf (Value now item time value) plain = refl
plain_conf flat conf (Tick now) plain = refl

module _ (flat : List ℕ → Conf) (ground : Start) (conf : Conf) (now : ℕ) where
  stand_one : (entries : List Numbered) (e : Entry) → EntriesSoundAt flat ground conf now entries → IsTakenAt conf now e
      → EntriesSoundAt flat ground conf now (entries ++ record { number = ground.number + length entries + 1; entry = e } ∷ [])
  stand_one entries e s t =
      let one : Numbered = record { number = ground.number + length entries + 1; entry = e } in
      let log : log_of (entries ++ one ∷ []) ≡ one ∷ log_of entries = reverse-append entries (one ∷ []) in
      let numbered : ground.number + length entries + 1 ≡ ground.number + length (log_of entries) + 1 = omega (arith, length-reverse entries) in
      let later : last_moment ground (log_of entries) ≤ moment_of e = rw t.moment s.moments in
      let fitting : IsFitting (conf_behind flat ground (log_of entries)) e = rw s.in_force t.fitting in
      record {
        full = rw log (s.full, numbered);
        fits = rw log (s.fits, fits_behind ground (conf_behind flat ground (log_of entries)) (log_of entries) e s.begun later fitting);
        in_force = ap (conf_behind flat ground) log ∙ plain_conf flat (conf_behind flat ground (log_of entries)) e t.plain ∙ s.in_force;
        moments = rw (log, t.moment) (omega arith);
        begun = rw log (omega arith);
      }

  stand_group : (entries : List Numbered) (group : List Entry) → EntriesSoundAt flat ground conf now entries → All (IsTakenAt conf now) group
      → EntriesSoundAt flat ground conf now (with_group ground.number entries group)
  stand_group entries [] s all = rw append-nil s
  stand_group entries (e ∷ rest) s all =
      let P : Entry → Type 0 = IsTakenAt conf now in
      let one : Numbered = record { number = ground.number + length entries + 1; entry = e } in
      let more = stand_group (entries ++ one ∷ []) rest (stand_one entries e s (All-head P e rest all)) (All-tail P e rest all) in
      let next : ground.number + length (entries ++ one ∷ []) + 1 ≡ ground.number + length entries + 1 + 1 = omega (arith, length-append entries (one ∷ [])) in
      let joined : (entries ++ one ∷ []) ++ numbered_from (ground.number + length entries + 1 + 1) rest ≡ with_group ground.number entries (e ∷ rest) = append_assoc entries (one ∷ []) _ in
      subst (EntriesSoundAt flat ground conf now) (ap (λ n. (entries ++ one ∷ []) ++ numbered_from n rest) next ∙ joined) more

-- what a refusal leaves out needs no proof
unless : (P : Entry → Type 0) (b : Bool) (cause : ValueRefusal) (r : Result Entry ValueRefusal) → (b ≡ false → All P (entry_in r)) → All P (entry_in (if b then Err cause else r))
unless P true cause r h = All-nil P
unless P false cause r h = h refl

only_where : (P : Entry → Type 0) (b : Bool) (cause : ValueRefusal) (r : Result Entry ValueRefusal) → All P (entry_in r) → All P (entry_in (if b then r else Err cause))
only_where P true cause r h = h
only_where P false cause r h = All-nil P

module _ (conf : Conf) (now : ℕ) where
  clocked_fits : (item : ℕ) (value : List ℕ) (c : Clock) → is_taking (at_id conf.items item) ≡ true → All (IsTakenAt conf now) (entry_in (clocked now item value c))
  unfolding clocked
  clocked_fits item value clock.Absent fits = All-cons (IsTakenAt conf now) _ [] (record { moment = refl; plain = refl; fitting = (fits, omega arith) }) (All-nil (IsTakenAt conf now))
  clocked_fits item value clock.Bad fits = All-nil (IsTakenAt conf now)
  clocked_fits item value (clock.At time) fits = All-cons (IsTakenAt conf now) _ [] (record { moment = refl; plain = refl; fitting = (fits, omega arith) }) (All-nil (IsTakenAt conf now))

  valued_fits : (item : ℕ) (c : Clock) (value : Option (List ℕ)) → is_taking (at_id conf.items item) ≡ true → All (IsTakenAt conf now) (entry_in (valued now item c value))
  unfolding valued
  valued_fits item c None fits = All-nil (IsTakenAt conf now)
  valued_fits item c (Some value) fits = only_where (IsTakenAt conf now) (nat_le (length value) longest_value) BadValue (clocked now item value c) (clocked_fits item value c fits)

both_true : (a b : Bool) → not (a && b) ≡ false → b ≡ true
both_true true true h = refl
both_true true false h = absurd (cc)
both_true false b h = absurd (cc)

trapper_received : (kind : ItemKind) → not (is_trapper_kind kind) ≡ false → is_received_kind kind ≡ true
trapper_received kinds.Trapper h = refl
trapper_received kinds.Dependent h = absurd (cc)
trapper_received kinds.Active h = absurd (cc)

active_received : (kind : ItemKind) → not (is_active_kind kind) ≡ false → is_received_kind kind ≡ true
active_received kinds.Trapper h = absurd (cc)
active_received kinds.Dependent h = absurd (cc)
active_received kinds.Active h = refl

-- an enabled item whose values may come from a sender or an agent takes values
taking : (origin : Origin) (o : Option Item) → is_enabled_item o ≡ true → not (comes_from origin o) ≡ false → is_taking o ≡ true
taking origin None enabled takes = absurd (cc)
taking Sender (Some item) enabled takes = rw (trapper_received item.kind takes) enabled
taking (Agent unsupported) (Some item) enabled takes = rw (active_received item.kind takes) enabled

module _ (conf : Conf) (now : ℕ) where
  keyed_fits : (origin : Origin) (asked : Asked) (host : ℕ) (item : Option ℕ) → All (IsTakenAt conf now) (entry_in (keyed conf now origin asked host item))
  unfolding keyed
  keyed_fits origin asked host None = All-nil (IsTakenAt conf now)
  keyed_fits origin asked host (Some item) =
      let P : Entry → Type 0 = IsTakenAt conf now in
      let there = at_id conf.items item in
      unless P (not (is_enabled_host (at_id conf.hosts host) && is_enabled_item there)) Disabled _ (λ enabled.
      unless P (not (comes_from origin there)) (not_from origin) _ (λ takes.
      unless P (not (is_collected conf host now)) InMaintenance _ (λ collected.
      valued_fits conf now item asked.clock asked.value (taking origin there (both_true (is_enabled_host (at_id conf.hosts host)) (is_enabled_item there) enabled) takes))))

  hosted_fits : (origin : Origin) (asked : Asked) (host : Option ℕ) → All (IsTakenAt conf now) (entry_in (hosted conf now origin asked host))
  unfolding hosted
  hosted_fits origin asked None = All-nil (IsTakenAt conf now)
  hosted_fits origin asked (Some host) = keyed_fits origin asked host (option_and_then (item_keyed conf host) asked.key)

  supported_fits : (unsupported : Bool) (r : Result Entry ValueRefusal) → All (IsTakenAt conf now) (entry_in r) → All (IsTakenAt conf now) (entry_in (supported unsupported r))
  supported_fits true (Ok entry) h = All-nil (IsTakenAt conf now)
  supported_fits false (Ok entry) h = h
  supported_fits unsupported (Err cause) h = All-nil (IsTakenAt conf now)

  taken_fits : (origin : Origin) (asked : Asked) → All (IsTakenAt conf now) (entry_in (taken_of conf now origin asked))
  unfolding taken_of
  taken_fits origin asked = supported_fits (is_unsupported origin) _ (hosted_fits origin asked (option_and_then (host_named conf) asked.host))

  group_fits : {A : Type 0} (taken : A → Result Entry ValueRefusal) → ((one : A) → All (IsTakenAt conf now) (entry_in (taken one))) → (all : List A) → All (IsTakenAt conf now) (group_by taken all)
  group_fits taken each [] = All-nil (IsTakenAt conf now)
  group_fits taken each (one ∷ rest) =
      subst (All (IsTakenAt conf now)) (sym (flat_map-cons (λ a. entry_in (taken a)) one rest))
      (All-append (IsTakenAt conf now) (entry_in (taken one)) (group_by taken rest) (each one) (group_fits taken each rest))

  ask_fits : (conn since : ℕ) (a : Ask (List Asked) (List AgentAsked)) → All (IsTakenAt conf now) (answered_ask conf now conn since a).group
  unfolding answered_ask answered_taken counted
  ask_fits conn since (ask.Refused why) = All-nil (IsTakenAt conf now)
  ask_fits conn since (ask.Values all) = group_fits (taken_of conf now Sender) (taken_fits Sender) all
  ask_fits conn since (ask.Checks host) = All-nil (IsTakenAt conf now)
  ask_fits conn since (ask.Data all) = group_fits (agent_taken_of conf now) (λ one. taken_fits (Agent one.unsupported) one.asked) all

  pub turned_fits : (t : Turn) → All (IsTakenAt conf now) (turned conf now t).group
  unfolding turned
  turned_fits turn.Nothing = All-nil (IsTakenAt conf now)
  turned_fits (turn.Shut conn) = All-nil (IsTakenAt conf now)
  turned_fits (turn.Whole conn body since) = ask_fits conn since (ask_of body)

  pub tick_fits : (due : Bool) → All (IsTakenAt conf now) (if due then Tick now ∷ [] else [])
  tick_fits true = All-cons (IsTakenAt conf now) (Tick now) [] (record { moment = refl; plain = refl; fitting = tt }) (All-nil (IsTakenAt conf now))
  tick_fits false = All-nil (IsTakenAt conf now)

-- an intake that has reached a moment, with entries that are sound then
record SoundAt (flat : List ℕ → Conf) (ground : Start) (conf : Conf) (now : ℕ) (i : Intake) : Type 0 where
  reached : i.now ≡ now
  number : i.before ≡ ground.number
  entries : EntriesSoundAt flat ground conf now i.entries

module _ (flat : List ℕ → Conf) (ground : Start) (conf : Conf) (now : ℕ) where
  kept_stands : (i : Intake) (group : List Entry) → SoundAt flat ground conf now i → All (IsTakenAt conf now) group → SoundAt flat ground conf now (kept_with i group)
  kept_stands i [] s all = s
  kept_stands i (e ∷ es) s all = record {
    reached = s.reached;
    number = s.number;
    entries = subst (λ (n : ℕ). EntriesSoundAt flat ground conf now (with_group n i.entries (e ∷ es))) (sym s.number) (stand_group flat ground conf now i.entries (e ∷ es) s.entries all);
  }

  ticked_stands : (i : Intake) (ticks : List Entry) → SoundAt flat ground conf now i → All (IsTakenAt conf now) ticks → SoundAt flat ground conf now (ticked i ticks)
  ticked_stands i [] s all = s
  ticked_stands i (e ∷ es) s all = record {
    reached = s.reached;
    number = s.number;
    entries = subst (λ (n : ℕ). EntriesSoundAt flat ground conf now (with_group n i.entries (e ∷ es))) (sym s.number) (stand_group flat ground conf now i.entries (e ∷ es) s.entries all);
  }

  values_stand : (i : Intake) (ticks : List Numbered) (made : Draft) (last o : Option Stop) → SoundAt flat ground conf now i → All (IsTakenAt conf now) made.group
      → SoundAt flat ground conf now (values_offered i ticks made last o).intake
  values_stand i ticks made last None s all = kept_stands i made.group s all
  values_stand i ticks made last (Some reason) s all = s

  tick_stands : (limits : Limits) (i : Intake) (ticks : List Entry) (made : Draft) (last o : Option Stop) → SoundAt flat ground conf now i → All (IsTakenAt conf now) ticks → All (IsTakenAt conf now) made.group
      → SoundAt flat ground conf now (tick_offered limits i ticks made last o).intake
  unfolding behind_tick
  tick_stands limits i ticks made last None s all behind = values_stand (ticked i ticks) (numbered_behind i.before i.entries ticks) made last (refused limits (ticked i ticks) made.group) (ticked_stands i ticks s all) behind
  tick_stands limits i ticks made last (Some reason) s all behind = s

  offered_stands : (limits : Limits) (i : Intake) (ticks : List Entry) (made : Draft) (last : Option Stop) → SoundAt flat ground conf now i → All (IsTakenAt conf now) ticks → All (IsTakenAt conf now) made.group
      → SoundAt flat ground conf now (offered limits i ticks made last).intake
  unfolding offered
  offered_stands limits i ticks made last s all behind = tick_stands limits i ticks made last (refused limits i ticks) s all behind

-- the text of the last configuration tells the one in force
text_next : (flat : List ℕ → Conf) (conf : Conf) (last : Option (List ℕ)) (text : List ℕ) (e : Entry) → (last ≡ Some text → conf ≡ flat text) → option_or (config_text e) last ≡ Some text
    → conf_with flat conf e ≡ flat text
text_next flat conf last text (Config now found) before is = let same : found ≡ text = cc in ap flat same
text_next flat conf last text (Value now item time value) before is = before is
text_next flat conf last text (Tick now) before is = before is

is_text_some : (text : List ℕ) (o : Option (List ℕ)) → is_text text o ≡ true → o ≡ Some text
is_text_some text None is = absurd (cc)
is_text_some text (Some found) is = ap Some ((bytes_eq-Decides found text).0 is)

-- a run that begins is sound, and so is one that goes on behind a full log that fits
module _ (flat : List ℕ → Conf) (ground : Start) (base : Base) (conf : Conf) (text : List ℕ) (of : flat text ≡ conf) (stands : StandsFor flat base ground) where
  text_conf : (log : List Numbered) → last_text base.text log ≡ Some text → conf_behind flat ground log ≡ flat text
  text_conf [] is = stands.of_text text (ap text_in stands.text ∙ is)
  text_conf (e ∷ log) is = text_next flat (conf_behind flat ground log) (last_text base.text log) text e.entry (λ h. text_conf log h) is

  -- a log has begun that has a configuration
  text_begun : (log : List Numbered) → last_text base.text log ≡ Some text → HasBegun ground log
  text_begun [] is = on base.text stands.text is
    where
      on : (t : List ℕ) → ground.stage.conf.text ≡ t → text_in t ≡ Some text → 1 ≤ length ground.stage.conf.text + 0
      on [] same is = absurd (cc)
      on (byte ∷ t) same is = omega (arith, ap length same)
  text_begun (e ∷ log) is = omega arith

  same_moment : (log : List Numbered) → last_moment ground log ≡ moment_from base.now log
  same_moment log = ap (λ (m : ℕ). moment_from m log) stands.moment

  config_fits : (log : List Numbered) → FitsBehind (conf_behind flat ground log) ground log (Config (moment_from base.now log) text)
  config_fits [] = on ground.stage.conf.text refl
    where
      on : (t : List ℕ) → ground.stage.conf.text ≡ t → FitsOn t ground.stage.conf ground.moment (Config base.now text)
      on [] none = (refl, sym stands.moment ∙ stands.first none)
      on (byte ∷ t) some = (omega (arith, stands.moment), tt)
  config_fits (e ∷ log) = (omega arith, tt)

  -- the configuration behind entries
  sound_more : (kept : List Numbered) (bytes : ℕ) → IsFull ground (log_of kept) → FitsLog flat ground (log_of kept)
      → IsSound flat ground conf (resumed base (with_group base.number kept (config_behind base.now text kept)) bytes)
  sound_more kept bytes full fits =
      let e = Config (moment_from base.now (log_of kept)) text in
      let one : Numbered = record { number = base.number + length kept + 1; entry = e } in
      let log : log_of (kept ++ one ∷ []) ≡ one ∷ log_of kept = reverse-append kept (one ∷ []) in
      let numbered : base.number + length kept + 1 ≡ ground.number + length (log_of kept) + 1 = omega (arith, stands.number, length-reverse kept) in
      record {
        number = sym stands.number;
        full = rw log (full, numbered);
        fits = rw log (fits, config_fits (log_of kept));
        in_force = ap (conf_behind flat ground) log ∙ of;
        moments = omega (arith, same_moment (log_of (kept ++ one ∷ [])));
        begun = rw log (omega arith);
      }

  -- the entries alone, where the last configuration has this text
  sound_same : (kept : List Numbered) (bytes : ℕ) → is_text text (last_text base.text (log_of kept)) ≡ true → IsFull ground (log_of kept) → FitsLog flat ground (log_of kept)
      → IsSound flat ground conf (resumed base kept bytes)
  sound_same kept bytes same full fits =
      let last = is_text_some text (last_text base.text (log_of kept)) same in
      record {
        number = sym stands.number;
        full = full;
        fits = fits;
        in_force = text_conf (log_of kept) last ∙ of;
        moments = omega (arith, same_moment (log_of kept));
        begun = text_begun (log_of kept) last;
      }

  sound_start : (kept : List Numbered) (bytes : ℕ) → IsFull ground (log_of kept) → FitsLog flat ground (log_of kept) → IsSound flat ground conf (start base text kept bytes)
  sound_start kept bytes full fits = go (is_text text (last_text base.text (log_of kept))) refl
    where
      go : (b : Bool) → is_text text (last_text base.text (log_of kept)) ≡ b → IsSound flat ground conf (resumed_with base kept bytes (if b then [] else config_behind base.now text kept))
      go true same = sound_same kept bytes same full fits
      go false other = sound_more kept (bytes_with bytes (config_behind base.now text kept)) full fits

  pub kept_start : (entries : List Numbered) (bytes : ℕ) (i : Intake) → i ≡ start base text entries bytes → IsFull ground (log_of entries) → FitsLog flat ground (log_of entries) → IsSound flat ground conf i
  kept_start entries bytes i is full fits = subst (IsSound flat ground conf) (sym is) (sound_start entries bytes full fits)

-- an event keeps the intake sound
pub sound_handled : (limits : Limits) (flat : List ℕ → Conf) (ground : Start) (conf : Conf) (i : Intake) (e : WireEvent) → IsSound flat ground conf i → IsSound flat ground conf (handled limits conf i e).intake
unfolding handled
sound_handled limits flat ground conf i e s =
    let now = max i.now (moment_at e) in
    let begun : EntriesSoundAt flat ground conf now i.entries = let before = s.moments in record { full = s.full; fits = s.fits; in_force = s.in_force; moments = omega arith; begun = s.begun } in
    let t = turn_of i.peers now e in
    let all = offered_stands flat ground conf now limits _ (ticks_at i.tick now) (turned conf now t) (stop_of e) (record { reached = refl; number = s.number; entries = begun }) (tick_fits conf now (is_due i.tick (half_minute now))) (turned_fits conf now t) in
    record { number = all.number; full = all.entries.full; fits = all.entries.fits; in_force = all.entries.in_force; moments = omega (arith, all.reached, all.entries.moments); begun = all.entries.begun }

-- what an event leaves is as sound as what was there
pub kept : (limits : Limits) (flat : List ℕ → Conf) (ground : Start) (conf : Conf) (old new : Intake) (e : WireEvent) → new ≡ (handled limits conf old e).intake → IsSound flat ground conf old → IsSound flat ground conf new
kept limits flat ground conf old new e is s = subst (IsSound flat ground conf) (sym is) (sound_handled limits flat ground conf old e s)

pub kept_after : (conf : Conf) (i j : Intake) (e : WireEvent) (limits : Option Stop → Limits) (result : Result Answer OutOfMemory) → IfOk result (λ a. j ≡ (handled (limits a.stop) conf i e).intake)
    → OnOk result ((flat : List ℕ → Conf) (ground : Start) → IsSound flat ground conf i → IsSound flat ground conf j)
kept_after conf i j e limits (Ok a) is = λ flat ground sound. kept (limits a.stop) flat ground conf i j e is sound
kept_after conf i j e limits (Err refused) is = tt
