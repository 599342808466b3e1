-- Laws of how a whole run ends.
use Rattle.std.proofs.Common.{◌≡◌, ◌⊎◌, ⊎_elim, ℕ, ◌+◌, ◌-◌, ◌==◌, ◌≤◌, ◌<◌, [], ◌∷◌, ◌++◌, append-nil, take, All, Contains, slice_get, if◌then◌else◌, Bool, true, false, true≢false, List, length, Option, Some, None, refl, sym, ap, ◌∙◌, subst, arith, inl, inr}
use Rattle.std.specs.Prelude.{Ok, IfSome, IsSome, IsSomeAnd, is_some, chars}
use Rattle.zbx_types.specs.declared.causes.Cause.{Cause}
use Rattle.zbx_types.specs.declared.base.Base.{Base}
use Rattle.zbx_types.specs.declared.conf.Conf.{Conf}
use Rattle.zbx_types.specs.declared.entries.Numbered.{Numbered}
use Rattle.outside.specs.Causes.{Rose}
use Rattle.outside.specs.Tells.{WireTells}
use Rattle.config_templates.specs.Flat.{flat_of}
use Rattle.intake_journal.specs.Kept.{base_in}
use Rattle.intake_front.specs.Fronted.{Keeps}
use Rattle.entry_laws.specs.InForce.{texts_on}
use Rattle.intake_front.specs.declared.answer.Stop.{Stop}
use Rattle.intake_front.specs.declared.answer.Stop.TheVariants as stop
use Rattle.server_words.specs.declared.words.Plan.{Plan}
use Rattle.server_words.specs.declared.status.Counts.{Counts}
use Rattle.server_words.specs.declared.status.Status.{Status}
use Rattle.server_words.specs.declared.status.Status.TheVariants as status
use Rattle.server_words.specs.Words.{plan_of}
use Rattle.host_layout.specs.Places.{refuse}
use Rattle.std.proofs.lemmas.List.Elements.{All-get_or, All-contains}
use Rattle.std.proofs.lemmas.Option.{slice_get_within, get_or_from_slice_get}
use Rattle.regex_syntax.specs.Grammar.{read}
use Rattle.regex.specs.Patterns.{default_config}
use Rattle.zbx_types.specs.Ids.{at_id}
use Rattle.pattern_set.specs.Patterns.{IsPattern, IsNoPattern}
use Rattle.journal_opening.specs.Patterns.{HasFlawAt, HoldsBrace}
use Rattle.journal_opening.specs.Opening.{IsAccepted, HasRoomAtOpening, KeptText, opening_intake, opening_lines}
use Rattle.journal_opening.specs.Recovered.{Found, FoundGroups, found_entries}
use Rattle.journal_opening.specs.Replayed.{flat}
use Rattle.journal_opening.specs.Reasons.{Bars, IsSeen, NamesOutbox}
use Rattle.book_opening.specs.Outgoing.{IsMendable}
use Rattle.server_run.specs.Statuses.{Ending, at_limit, at_full, YieldsTo, EndsPrinted}
use Rattle.server_run.specs.Stops.{refusing}
use Rattle.server_run.specs.Events.{Doing}
use Rattle.server_run.specs.Runs.{Objects, Configured, Refuses, IsBarred, Finished, Followed, limits_by}
use Rattle.std.specs.Option.{option_to_list}
use Rattle.std.proofs.Math.Seq.{take-append-add}
use Rattle.outside.specs.declared.event.WireEvent.{WireEvent}
use Rattle.intake_front.specs.Intake.{Limits, Intake}
use Rattle.intake_front.specs.Served.{Served, served_on, served_from, served}
use Rattle.server_run.proofs.Handling.{served_from-append}
use Rattle.server_run.proofs.Barring.{bars_one, found_one, not_barred, outbox_only, kept_flat}
use Rattle.journal_opening.proofs.Beginning.{flat_is}
use Rattle.server_run.proofs.Runs.{same_flaw}

-- what holds of a run that began, and of one that didn't
pub either_way : {A : Type 0} (began : Bool) → (began ≡ true → A) → (began ≡ false → A) → A
either_way true if_began if_not = if_began refl
either_way false if_began if_not = if_not refl

plan_same : (words : List (List ℕ)) (a b : Plan) → plan_of words ≡ Some a → plan_of words ≡ Some b → a ≡ b
plan_same words a b p q = cc

conf_same : (text : List ℕ) (a b : Conf) → flat_of text ≡ Ok a → flat_of text ≡ Ok b → a ≡ b
conf_same text a b p q = cc

told_text : (source : Option (List ℕ)) (text t : List ℕ) → source ≡ Some text → IfSome source (λ all. t ≡ all) → t ≡ text
told_text None text t is told = absurd (cc)
told_text (Some x) text t is told = told ∙ some_same x text is
  where
    some_same : (a b : List ℕ) → Some a ≡ Some b → a ≡ b
    some_same a b e = cc

-- the configuration of a run is that of its source's text
config_same : (words : List (List ℕ)) (source : Option (List ℕ)) (plan : Plan) (conf conf' : Conf) (text : List ℕ) → Configured words source plan conf → source ≡ Some text → flat_of text ≡ Ok conf' → conf ≡ conf'
config_same words source plan conf conf' text c is found =
    let same = told_text source text conf.text is c.text_is in
    conf_same text conf conf' (ap flat_of (sym same) ∙ c.conf_is) found

some_text : (a b : List ℕ) → Some a ≡ Some b → a ≡ b
some_text a b e = cc

-- what was found in the file of a run was found in that file
found_same : (file : Option (List ℕ)) (b : List ℕ) (found : Found) → file ≡ Some b → FoundGroups file found → FoundGroups (Some b) found
found_same file b found is finds = subst (λ o. FoundGroups o found) is finds

-- what is said of the text that a source told is said of that text
of_source : (source : Option (List ℕ)) (text : List ℕ) (P : List ℕ → Type 0) → source ≡ Some text → IfSome source P → P text
of_source None text P is p = absurd (cc)
of_source (Some x) text P is p = subst P (some_text x text is) p

-- a text that is refused isn't flat
flat_not : (text : List ℕ) (conf : Conf) (path : List ℕ) (cause : Cause) → flat_of text ≡ Ok conf → flat_of text ≡ refuse path cause → ⊥
flat_not text conf path cause found refused = cc

-- so no text of a base or of a Config that a file keeps is, where what it keeps is accepted
pub kept_not_refused : (file : Option (List ℕ)) (path : List ℕ) (cause : Cause) → KeptText file (λ text. flat_of text ≡ refuse path cause) → ⊥
kept_not_refused file path cause why = let kept = kept_flat file (λ text. flat_of text ≡ refuse path cause) why in flat_not kept.0 (flat kept.0) path cause kept.1 kept.2

module _ (words : List (List ℕ)) (before after : Objects) (plan : Plan) (text : List ℕ) (conf : Conf) (b : List ℕ)
    (plan_is : plan_of words ≡ Some plan) (source_is : before.source ≡ Some text) (conf_is : flat_of text ≡ Ok conf) (file_is : before.disk.bytes ≡ Some b) where
  -- what bars a run is said of this plan, this configuration and this file
  bar_here : (s : Status) → IsBarred words before s → Bars conf plan.max_entries (Some b) before.outbox s
  bar_here s (plan', conf', c, why) =
      let same = config_same words before.source plan' conf' conf text c source_is conf_is in
      let plans : plan' ≡ plan = plan_same words plan' plan c.plan_is plan_is in
      subst (λ o. Bars conf plan.max_entries o before.outbox s) file_is
      (subst (λ (p : Plan). Bars conf p.max_entries before.disk.bytes before.outbox s) plans (subst (λ (k : Conf). Bars k plan'.max_entries before.disk.bytes before.outbox s) same why))

  -- two things that bar a run are one
  same_bar : (t : Status) → Bars conf plan.max_entries (Some b) before.outbox t → IsSeen before.outbox t → (s : Status) → IsBarred words before s → s ≡ t
  same_bar t bars seen s barred = bars_one conf plan.max_entries before.outbox b s t seen (bar_here s barred) bars

  -- room for the configuration is said of this plan and this configuration
  room_here : (plan' : Plan) (conf' : Conf) (found : Found) → Configured words before.source plan' conf' → HasRoomAtOpening plan'.max_entries conf' found → HasRoomAtOpening plan.max_entries conf found
  room_here plan' conf' found c room =
      subst (λ (p : Plan). HasRoomAtOpening p.max_entries conf found) (plan_same words plan' plan c.plan_is plan_is)
      (subst (λ (k : Conf). HasRoomAtOpening plan'.max_entries k found) (config_same words before.source plan' conf' conf text c source_is conf_is) room)

  -- what bars a run that didn't begin is its status, or another fault stood before it
  pub bars_unbegun : (t : Status) → Bars conf plan.max_entries (Some b) before.outbox t → IsSeen before.outbox t → (s : Status) → Refuses words before after s → (s ≡ t) ⊎ (YieldsTo s ⊎ (NamesOutbox t × (s ≡ status.OutboxFault)))
  bars_unbegun t bars seen status.Usage (inl none) = absurd (cc)
  bars_unbegun t bars seen status.SourceFault (inl why) = inr (inl (inl refl))
  bars_unbegun t bars seen status.OutOfMemory why = inr (inl (inr (inr (inl refl))))
  bars_unbegun t bars seen (status.PatternRefused path) why = inr (inl (inr (inr (inr tt))))
  bars_unbegun t bars seen (status.PatternTooLarge path) why = inr (inl (inr (inr (inr tt))))
  bars_unbegun t bars seen (status.ConfigRefused path cause) (inl why) = absurd (flat_not text conf path cause conf_is (of_source before.source text (λ x. flat_of x ≡ refuse path cause) source_is why.1))
  bars_unbegun t bars seen (status.ConfigRefused path cause) (inr why) = absurd (kept_not_refused before.disk.bytes path cause why.3)
  bars_unbegun t bars seen status.DiskFault (inr why) = inr (inl (inr (inl refl)))
  bars_unbegun t bars seen status.OutboxFault (inr (plan', conf', c, (found, finds, accepted, room, rose))) =
      inr (inr (outbox_only conf plan.max_entries before.outbox b found (found_same before.disk.bytes b found file_is finds) accepted (room_here plan' conf' found c room) t bars, refl))
  bars_unbegun t bars seen status.NotOurs (inr why) = inl (same_bar t bars seen status.NotOurs why)
  bars_unbegun t bars seen status.Unfinished (inr why) = inl (same_bar t bars seen status.Unfinished why)
  bars_unbegun t bars seen (status.Damaged at) (inr why) = inl (same_bar t bars seen (status.Damaged at) why)
  bars_unbegun t bars seen (status.OutboxBehind told base) (inr why) = inl (same_bar t bars seen (status.OutboxBehind told base) why)
  bars_unbegun t bars seen (status.OutboxAhead told count) (inr why) = inl (same_bar t bars seen (status.OutboxAhead told count) why)
  bars_unbegun t bars seen (status.OutboxDiffers at) (inr why) = inl (same_bar t bars seen (status.OutboxDiffers at) why)
  bars_unbegun t bars seen (status.Full entries bytes) (inr why) = inl (same_bar t bars seen (status.Full entries bytes) why)
  bars_unbegun t bars seen _ (inl none) = absurd none
  bars_unbegun t bars seen _ (inr why) = absurd why.3

  -- a run that began isn't barred
  pub bars_begun : (t : Status) → Bars conf plan.max_entries (Some b) before.outbox t → IsSeen before.outbox t → (s : Status) (entries : List Numbered) (IsTold : Counts → Type 0) → Followed words before after s entries IsTold → ⊥
  bars_begun t bars seen s entries IsTold f =
      let same = config_same words before.source f.plan f.conf conf text f.configured source_is conf_is in
      let bars' : Bars f.conf plan.max_entries (Some b) before.outbox t = subst (λ (c : Conf). Bars c plan.max_entries (Some b) before.outbox t) (sym same) bars in
      let room : HasRoomAtOpening plan.max_entries f.conf f.found = subst (λ (p : Plan). HasRoomAtOpening p.max_entries f.conf f.found) (plan_same words f.plan plan f.configured.plan_is plan_is) f.room in
      not_barred f.conf plan.max_entries before.outbox b f.found (found_same before.disk.bytes b f.found file_is f.finds) f.accepted room t f.mendable (inr seen) bars'

module _ (words : List (List ℕ)) (before after : Objects) (entries : List Numbered) (IsTold : Counts → Type 0) where
  -- a run that ended by a fault of its disk
  pub disk_fault : (s : Status) → s ≡ status.DiskFault → Followed words before after s entries IsTold → Rose before.disk.faults after.disk.faults
  disk_fault s is f =
      let g : Followed words before after status.DiskFault entries IsTold = subst (λ t. Followed words before after t entries IsTold) is f in
      g.finished.journaled.fault g.finished.ends.0

  -- a run whose disk didn't fail leaves its entries, behind the base that the file had
  pub keeps_at_end : (s : Status) → Followed words before after s entries IsTold → (Rose before.disk.faults after.disk.faults → ⊥) → IfSome before.disk.bytes (λ b. IfSome after.disk.bytes (Keeps (base_in b) entries))
  keeps_at_end s f none = behind before.disk.bytes f.finds (first after.disk.bytes (f.finished.journaled.kept (λ is. none (f.finished.journaled.fault is))))
    where
      first : (o : Option (List ℕ)) → IfSome o (λ b. Keeps f.found.base entries b × ((c : List ℕ) → after.disk.images c → Keeps f.found.base entries c)) → IfSome o (Keeps f.found.base entries)
      first None k = tt
      first (Some b) k = k.0

      behind : (o : Option (List ℕ)) → FoundGroups o f.found → IfSome after.disk.bytes (Keeps f.found.base entries) → IfSome o (λ b. IfSome after.disk.bytes (Keeps (base_in b) entries))
      behind None finds k = tt
      behind (Some b) finds k = subst (λ (x : Base). IfSome after.disk.bytes (Keeps x entries)) (sym finds.0) k

-- ---- completeness

-- what holds of all holds of the one with an id
all_at : {A : Type 0} (P : A → Type 0) (xs : List A) (k : ℕ) (x : A) → All P xs → slice_get xs k ≡ Some x → P x
all_at P xs k x all e = subst P (get_or_from_slice_get xs k x x e) (All-get_or P xs k x (slice_get_within xs k x e) all)

all_with_id : {A : Type 0} (P : A → Type 0) (xs : List A) (id : ℕ) (x : A) → All P xs → at_id xs id ≡ Some x → P x
unfolding at_id
all_with_id P xs id x all is = by (id == 0) is
  where
    by : (b : Bool) → (if b then None else slice_get xs (id - 1)) ≡ Some x → P x
    by true e = absurd (cc)
    by false e = all_at P xs (id - 1) x all e

deep_or_not : {A : Type 0} (o : Option A) (depth : A → ℕ) (limit : ℕ) → IsSomeAnd o (λ a. depth a ≤ limit) → (o ≡ None) ⊎ IfSome o (λ a. limit < depth a) → ⊥
deep_or_not None depth limit none flaw = none
deep_or_not (Some a) depth limit within (inl is) = absurd (cc)
deep_or_not (Some a) depth limit within (inr above) = omega (arith, within, above)

-- a text isn't both a pattern and none
no_pattern : (pattern : List ℕ) → IsPattern pattern → IsNoPattern pattern → ⊥
no_pattern pattern is flaw = deep_or_not (read default_config (chars pattern)) (λ p. p.0.depth) default_config.nest_limit is flaw

module _ (words : List (List ℕ)) (before after : Objects) (plan : Plan) (text : List ℕ) (conf : Conf) (b : List ℕ) (found : Found)
    (plan_is : plan_of words ≡ Some plan) (source_is : before.source ≡ Some text) (conf_is : flat_of text ≡ Ok conf) (file_is : before.disk.bytes ≡ Some b)
    (finds : FoundGroups (Some b) found) (accepted : IsAccepted found) (room : HasRoomAtOpening plan.max_entries conf found)
    (kept_patterns : All (λ kept_text. All IsPattern (flat kept_text).patterns) (texts_on found.base.text (found_entries found))) (mendable : IsMendable found.base.lines before.outbox (opening_lines conf found))
    (seen : (before.outbox.held ≡ found.base.lines) ⊎ IsSome before.outbox.bytes)
    (source_well : Rose before.source_faults after.source_faults → ⊥) (disk_well : Rose before.disk.faults after.disk.faults → ⊥) (outbox_well : Rose before.outbox.faults after.outbox.faults → ⊥)
    (patterns : All IsPattern conf.patterns) where
  seen_at : (s : Status) → (before.outbox.held ≡ found.base.lines) ⊎ IsSeen before.outbox s
  seen_at s = ⊎_elim (λ none. inl none) (λ told. inr (at s told)) seen
    where
      at : (s : Status) → IsSome before.outbox.bytes → IsSeen before.outbox s
      at (status.OutboxDiffers place) told = told
      at _ told = tt

  -- what is accepted isn't barred
  isnt_barred : (s : Status) → IsBarred words before s → ⊥
  isnt_barred s barred =
      not_barred conf plan.max_entries before.outbox b found finds accepted room s mendable (seen_at s) (bar_here words before after plan text conf b plan_is source_is conf_is file_is s barred)

  -- nor has a pattern of a kept text a flaw
  not_flawed : (path : List ℕ) → KeptText before.disk.bytes (HasFlawAt IsNoPattern path) → ⊥
  not_flawed path (h, finds', accepted', kept_text, among, u) =
      let same : h ≡ found = found_one b h found (found_same before.disk.bytes b h file_is finds') finds in
      let here : All IsPattern (flat kept_text).patterns = All-contains (λ t. All IsPattern (flat t).patterns) (texts_on found.base.text (found_entries found)) kept_text kept_patterns
      (subst (λ (x : Found). Contains (texts_on x.base.text (found_entries x)) kept_text) same among) in
      no_pattern u.flawed.pattern (all_with_id IsPattern u.conf.patterns u.flawed.place u.flawed.pattern (subst (λ (k : Conf). All IsPattern k.patterns) (flat_is kept_text u.conf u.conf_is) here) u.flawed.pattern_is) u.flawed.flaw

  -- so its run begins, unless memory is refused or a pattern is too large
  pub begins_well : (s : Status) → Refuses words before after s → (s ≡ status.OutOfMemory) ⊎ ((path : List ℕ) × (s ≡ status.PatternTooLarge path))
  begins_well status.Usage (inl none) = absurd (cc)
  begins_well status.SourceFault (inl why) = absurd (source_well why.1)
  begins_well status.OutOfMemory why = inl refl
  begins_well (status.PatternTooLarge path) why = inr (path, refl)
  begins_well (status.PatternRefused path) (inr why) = absurd (not_flawed path why.3)
  begins_well (status.PatternRefused path) (inl why) = absurd (flawed (of_source before.source text (HasFlawAt IsNoPattern path) source_is why.1))
    where
      flawed : HasFlawAt IsNoPattern path text → ⊥
      flawed u =
          let same = conf_same text conf u.conf conf_is u.conf_is in
          no_pattern u.flawed.pattern (all_with_id IsPattern u.conf.patterns u.flawed.place u.flawed.pattern (subst (λ (k : Conf). All IsPattern k.patterns) same patterns) u.flawed.pattern_is) u.flawed.flaw
  begins_well (status.ConfigRefused path cause) (inl why) = absurd (flat_not text conf path cause conf_is (of_source before.source text (λ x. flat_of x ≡ refuse path cause) source_is why.1))
  begins_well (status.ConfigRefused path cause) (inr why) = absurd (kept_not_refused before.disk.bytes path cause why.3)
  begins_well status.DiskFault (inr why) = absurd (disk_well why.3)
  begins_well status.OutboxFault (inr (plan', conf', c, (h, found', accepted', room', rose))) = absurd (outbox_well rose)
  begins_well status.NotOurs (inr why) = absurd (isnt_barred status.NotOurs why)
  begins_well status.Unfinished (inr why) = absurd (isnt_barred status.Unfinished why)
  begins_well (status.Damaged at) (inr why) = absurd (isnt_barred (status.Damaged at) why)
  begins_well (status.OutboxBehind told base) (inr why) = absurd (isnt_barred (status.OutboxBehind told base) why)
  begins_well (status.OutboxAhead told count) (inr why) = absurd (isnt_barred (status.OutboxAhead told count) why)
  begins_well (status.OutboxDiffers at) (inr why) = absurd (isnt_barred (status.OutboxDiffers at) why)
  begins_well (status.Full entries bytes) (inr why) = absurd (isnt_barred (status.Full entries bytes) why)
  begins_well _ (inl none) = absurd none
  begins_well _ (inr why) = absurd why.3

-- ---- a run that began and was to be closed

stays_stopped : (l : Limits) (conf : Conf) (s : Served) (r : Stop) (es : List WireEvent) → s.stop ≡ Some r → served_from l conf s es ≡ s
stays_stopped l conf s r [] is = refl
stays_stopped l conf s r (e ∷ es) is = ap (λ (t : Served). served_from l conf t es) (on_stopped s.stop is) ∙ stays_stopped l conf s r es is
  where
    on_stopped : (o : Option Stop) → o ≡ Some r → served_on o l conf s e ≡ s
    on_stopped None is = absurd (cc)
    on_stopped (Some x) is = refl

-- a run that is stopped stays so, whatever follows
stop_front : (l : Limits) (conf : Conf) (i : Intake) (a b : List WireEvent) (r : Stop) → (served l conf i a).stop ≡ Some r → (served l conf i (a ++ b)).stop ≡ Some r
stop_front l conf i a b r is =
    let start : Served = record { intake = i; replies = []; shut = []; stop = None } in
    ap (λ (t : Served). t.stop) (served_from-append l conf start a b ∙ stays_stopped l conf (served l conf i a) r b is) ∙ is

-- the first events, within the turns
within_turns : (turns : ℕ) (a b : List WireEvent) → length a ≤ turns → take turns (a ++ b) ≡ a ++ take (turns - length a) b
within_turns turns a b few = let all : turns ≡ length a + (turns - length a) = omega (arith, few) in ap (λ n. take n (a ++ b)) all ∙ take-append-add a b (turns - length a)

module _ (limits : Limits) (conf : Conf) (recovered : List Numbered) (begun : Intake) (entries : List Numbered) (turns : ℕ) (did : Doing) (wire wire' : WireTells) (all : List WireEvent)
    (left : wire.left ≡ Some all) (closes : (served (refusing limits 0) conf begun (take turns all)).stop ≡ Some stop.Closed) where
  told_of_all : {e : Ending} (f : Finished limits conf recovered begun entries turns did wire wire' e) → (rest : List WireEvent) × (all ≡ f.handled ++ rest)
  told_of_all f = by _ wire.left left f.told
    where
      some_list : (x y : List WireEvent) → Some x ≡ Some y → x ≡ y
      some_list x y e = cc

      by : (P : List WireEvent → Type 0) (o : Option (List WireEvent)) → o ≡ Some all → IfSome o (λ x. (rest : List WireEvent) × (x ≡ f.handled ++ (option_to_list f.lost ++ rest)) × P rest) → (rest : List WireEvent) × (all ≡ f.handled ++ rest)
      by P None is told = absurd (cc)
      by P (Some x) is told = (option_to_list f.lost ++ told.0, sym (some_list x all is) ∙ told.1)

  not_refused : {e : Ending} (f : Finished limits conf recovered begun entries turns did wire wire' e) (o : Option Stop) → (served (refusing limits f.refused) conf begun f.handled).stop ≡ o → (o ≡ Some stop.DiskFault → ⊥)
      → (served (refusing limits 0) conf begun f.handled).stop ≡ o
  not_refused f o is other = ⊎_elim (λ none. subst (λ n. (served (refusing limits n) conf begun f.handled).stop ≡ o) none is) (λ fault. absurd (other (sym is ∙ fault))) f.refused_is

  -- it doesn't end by the limit of turns
  pub not_at_limit : Finished limits conf recovered begun entries turns did wire wire' at_limit → ⊥
  not_at_limit f =
      let rest = told_of_all f in
      let none : (served (refusing limits 0) conf begun f.handled).stop ≡ None = not_refused f None f.ends.1 (λ e. cc) in
      let count : length f.handled ≤ turns = omega (arith, f.ends.0) in
      let empty : turns - length f.handled ≡ 0 = omega (arith, f.ends.0) in
      let taken : take turns all ≡ f.handled = ap (take turns) rest.1 ∙ within_turns turns f.handled rest.0 count ∙ ap (λ n. f.handled ++ take n rest.0) empty ∙ append-nil f.handled in
      let closed : (served (refusing limits 0) conf begun f.handled).stop ≡ Some stop.Closed = ap (λ es. (served (refusing limits 0) conf begun es).stop) (sym taken) ∙ closes in
      cc

  -- nor by a full journal
  pub not_full : (a b : ℕ) → Finished limits conf recovered begun entries turns did wire wire' (at_full a b) → ⊥
  not_full a b f =
      let rest = told_of_all f in
      let full : (served (refusing limits 0) conf begun f.handled).stop ≡ Some (stop.Full a b) = not_refused f (Some (stop.Full a b)) f.ends.0 (λ e. cc) in
      let few : length f.handled ≤ turns = omega (arith, f.few) in
      let taken : take turns all ≡ f.handled ++ take (turns - length f.handled) rest.0 = ap (take turns) rest.1 ∙ within_turns turns f.handled rest.0 few in
      let stays = stop_front (refusing limits 0) conf begun f.handled (take (turns - length f.handled) rest.0) (stop.Full a b) full in
      let closed : (served (refusing limits 0) conf begun (f.handled ++ take (turns - length f.handled) rest.0)).stop ≡ Some stop.Closed = ap (λ es. (served (refusing limits 0) conf begun es).stop) (sym taken) ∙ closes in
      cc

-- a fault that a run ended with came before it was printed
pub fault_before : (s ended t : Status) → EndsPrinted s ended → ended ≡ t → (t ≡ status.OutOfMemory → ⊥) → (t ≡ status.PrintFault → ⊥) → s ≡ t
fault_before s ended t (own, inl same) is spent cut = sym same ∙ is
fault_before s ended t (own, inr (inl none)) is spent cut = absurd (spent (sym is ∙ none))
fault_before s ended t (own, inr (inr (printed, well))) is spent cut = absurd (cut (sym is ∙ printed))

module _ (words : List (List ℕ)) (before after : Objects) (entries : List Numbered) (IsTold : Counts → Type 0) (plan : Plan) (text : List ℕ) (conf : Conf) (b : List ℕ) (found : Found) (all : List WireEvent)
    (plan_is : plan_of words ≡ Some plan) (source_is : before.source ≡ Some text) (conf_is : flat_of text ≡ Ok conf) (file_is : before.disk.bytes ≡ Some b) (finds : FoundGroups (Some b) found) (left : before.wire.left ≡ Some all)
    (closes : (served (limits_by plan) conf (opening_intake conf found) (take plan.turns all)).stop ≡ Some stop.Closed) where
  closes_too : {s : Status} (f : Followed words before after s entries IsTold)
      → (served (refusing (limits_by f.plan) 0) f.conf (opening_intake f.conf f.found) (take f.plan.turns all)).stop ≡ Some stop.Closed
  closes_too f =
      let plans : plan ≡ f.plan = plan_same words plan f.plan plan_is f.configured.plan_is in
      let confs : conf ≡ f.conf = sym (config_same words before.source f.plan f.conf conf text f.configured source_is conf_is) in
      let same : found ≡ f.found = found_one b found f.found finds (found_same before.disk.bytes b f.found file_is f.finds) in
      subst (λ (p : Plan). (served (limits_by p) f.conf (opening_intake f.conf f.found) (take p.turns all)).stop ≡ Some stop.Closed) plans
      (subst (λ (k : Conf). (served (limits_by plan) k (opening_intake k f.found) (take plan.turns all)).stop ≡ Some stop.Closed) confs
      (subst (λ (x : Found). (served (limits_by plan) conf (opening_intake conf x) (take plan.turns all)).stop ≡ Some stop.Closed) same closes))

  -- a run whose wire is to be closed ends well, unless an object failed or memory was refused
  pub ends_well : (s : Status) → (s ≡ status.WireFault → ⊥) → (s ≡ status.DiskFault → ⊥) → (s ≡ status.OutboxFault → ⊥) → (s ≡ status.PrintFault → ⊥) → Followed words before after s entries IsTold
      → (s ≡ status.Ok) ⊎ (s ≡ status.OutOfMemory)
  ends_well status.Ok no_wire no_disk no_outbox no_print f = inl refl
  ends_well status.OutOfMemory no_wire no_disk no_outbox no_print f = inr refl
  ends_well status.WireFault no_wire no_disk no_outbox no_print f = absurd (no_wire refl)
  ends_well status.DiskFault no_wire no_disk no_outbox no_print f = absurd (no_disk refl)
  ends_well status.OutboxFault no_wire no_disk no_outbox no_print f = absurd (no_outbox refl)
  ends_well status.PrintFault no_wire no_disk no_outbox no_print f = absurd (no_print refl)
  ends_well status.TurnLimit no_wire no_disk no_outbox no_print f =
      absurd (not_at_limit (limits_by f.plan) f.conf (found_entries f.found) (opening_intake f.conf f.found) entries f.plan.turns _ before.wire after.wire all left (closes_too f) f.finished)
  ends_well (status.Full x y) no_wire no_disk no_outbox no_print f =
      absurd (not_full (limits_by f.plan) f.conf (found_entries f.found) (opening_intake f.conf f.found) entries f.plan.turns _ before.wire after.wire all left (closes_too f) x y f.finished)
  ends_well _ no_wire no_disk no_outbox no_print f = absurd f.finished.ends

-- ---- refusals that hang on the words and the configuration alone

unplanned : (words : List (List ℕ)) (source : Option (List ℕ)) (plan : Plan) (conf : Conf) → plan_of words ≡ None → Configured words source plan conf → ⊥
unplanned words source plan conf none c = let is = c.plan_is in cc

not_flat : (words : List (List ℕ)) (source : Option (List ℕ)) (text : List ℕ) → source ≡ Some text → (path : List ℕ) (cause : Cause) → flat_of text ≡ refuse path cause → (plan : Plan) (conf : Conf) → Configured words source plan conf → ⊥
not_flat words source text is path cause refused plan conf c =
    let same = told_text source text conf.text is c.text_is in
    flat_not text conf path cause (ap flat_of (sym same) ∙ c.conf_is) refused

module _ (words : List (List ℕ)) (before after : Objects) where
  abbrev Refused_as : Status → Type 0
  Refused_as s = Refuses words before after s

  -- where the words have no plan
  pub no_plan : plan_of words ≡ None → (s : Status) → Refused_as s → (s ≡ status.Usage) ⊎ (s ≡ status.OutOfMemory)
  no_plan none status.Usage why = inl refl
  no_plan none status.OutOfMemory why = inr refl
  no_plan none s (inr why) = absurd (unplanned words before.source why.0 why.1 none why.2)
  no_plan none status.SourceFault (inl why) = absurd (true≢false (sym why.0 ∙ ap is_some none))
  no_plan none (status.PatternRefused path) (inl why) = absurd (true≢false (sym why.0 ∙ ap is_some none))
  no_plan none (status.PatternTooLarge path) (inl why) = absurd (true≢false (sym why.0 ∙ ap is_some none))
  no_plan none (status.ConfigRefused path cause) (inl why) = absurd (true≢false (sym why.0 ∙ ap is_some none))
  no_plan none _ (inl why) = absurd why

  -- where the text is refused
  pub refused_text : (text : List ℕ) → before.source ≡ Some text → (path : List ℕ) (cause : Cause) → flat_of text ≡ refuse path cause → (s : Status) → Refused_as s
      → (s ≡ status.ConfigRefused path cause) ⊎ ((s ≡ status.SourceFault) ⊎ ((s ≡ status.Usage) ⊎ (s ≡ status.OutOfMemory)))
  refused_text text is path cause refused status.Usage why = inr (inr (inl refl))
  refused_text text is path cause refused status.OutOfMemory why = inr (inr (inr refl))
  refused_text text is path cause refused status.SourceFault why = inr (inl refl)
  refused_text text is path cause refused s (inr why) = absurd (not_flat words before.source text is path cause refused why.0 why.1 why.2)
  refused_text text is path cause refused (status.PatternRefused path') (inl why) = let u = of_source before.source text (HasFlawAt IsNoPattern path') is why.1 in absurd (flat_not text u.conf path cause u.conf_is refused)
  refused_text text is path cause refused (status.PatternTooLarge path') (inl why) = let u = of_source before.source text (HasFlawAt HoldsBrace path') is why.1 in absurd (flat_not text u.conf path cause u.conf_is refused)
  refused_text text is path cause refused (status.ConfigRefused path' cause') (inl why) =
      let other = of_source before.source text (λ x. flat_of x ≡ refuse path' cause') is why.1 in
      inl (same_flaw path' path cause' cause (sym other ∙ refused))
  refused_text text is path cause refused _ (inl why) = absurd why

-- a run that began was configured
module _ (words : List (List ℕ)) (before after : Objects) (s : Status) (entries : List Numbered) (IsTold : Counts → Type 0) (f : Followed words before after s entries IsTold) where
  pub begun_planned : plan_of words ≡ None → ⊥
  begun_planned none = unplanned words before.source f.plan f.conf none f.configured

  pub begun_flat : (text : List ℕ) → before.source ≡ Some text → (path : List ℕ) (cause : Cause) → flat_of text ≡ refuse path cause → ⊥
  begun_flat text is path cause refused = not_flat words before.source text is path cause refused f.plan f.conf f.configured
