-- An event that comes to an intake, and what it makes.
use Rattle.std.proofs.Common.{◌≡◌, ◌≢◌, ℕ, ◌≤◌, max, List, length, take, Option, Some, None, refl, sym, ◌∙◌, ap, subst}
use Rattle.std.specs.Prelude.{Result, Ok, Err, MatchResult}
use Rattle.zbx_types.specs.declared.conf.Conf.{Conf}
use Rattle.zbx_types.specs.declared.entries.Entry.{Entry}
use Rattle.zbx_types.specs.declared.entries.Numbered.{Numbered}
use Rattle.zbx_types.specs.declared.memory.OutOfMemory.{OutOfMemory}
use Rattle.outside.specs.Script.{moment_at}
use Rattle.outside.specs.declared.event.WireEvent.{WireEvent}
use Rattle.outside.specs.declared.event.WireEvent.TheVariants.{Opened, Piece, Ended, Broke, Quiet, Closed}
use Rattle.wire_core.specs.Peers.{Peers, turn_of, after_event}
use Rattle.wire_core.specs.declared.turn.Turn.{Turn}
use Rattle.intake_journal.specs.Based.{most_counted}
use Rattle.intake_journal.specs.Settled.{Journaled}
use Rattle.intake_front.specs.Intake.{Intake, Handled, ticks_at, turned, stop_of, come_to, offered, handled, with_group}
use Rattle.intake_front.specs.Fronted.{limits_of, all_of}
use Rattle.intake_front.specs.Staging.{FollowsBlock}
use Rattle.intake_front.specs.Waiting.{HasFirst, IsBatch, FirstBy, IsTaken, IsLeft}
use Rattle.intake_front.specs.declared.answer.Answer.{Answer}
use Rattle.intake_front.specs.declared.answer.Stop.{Stop}
use Rattle.intake_front.specs.declared.answer.Stop.TheVariants as stop
use Rattle.intake_front.specs.declared.batch.Batch.{Batch}
use Rattle.intake_front.specs.declared.batch.First.{First}
use Rattle.intake_front.specs.declared.batch.Mark.{Mark}
use Rattle.intake_front.specs.declared.drafts.Draft.{Draft}

-- an event alone is no fault of the disk
pub stop_plain : (e : WireEvent) (last : Option Stop) → last ≡ stop_of e → last ≢ Some stop.DiskFault
stop_plain (Closed at) last is fault = absurd (cc)
stop_plain (Opened conn at) last is fault = absurd (cc)
stop_plain (Piece conn bytes at) last is fault = absurd (cc)
stop_plain (Ended conn at) last is fault = absurd (cc)
stop_plain (Broke conn at) last is fault = absurd (cc)
stop_plain (Quiet at) last is fault = absurd (cc)

-- two intakes with the same entries, bytes, Tick and groups
pub record IsAs (i j : Intake) : Type 0 where
  pub before : j.before ≡ i.before
  pub entries : j.entries ≡ i.entries
  pub bytes : j.bytes ≡ i.bytes
  pub tick : j.tick ≡ i.tick
  pub groups : j.groups ≡ i.groups

pub stands_as : {D : Type 0} (journal : Journaled D) (block : List (List Entry)) (i j : Intake) → IsAs i j → FollowsBlock journal block i → FollowsBlock journal block j
stands_as journal block i j as_i is = record { count = is.count ∙ sym (ap (λ (es : List Numbered). length es) as_i.entries); size_is = is.size_is ∙ sym as_i.bytes }

first_as : (i j : Intake) (mark : Mark) (block : List (List Entry)) (answers : List Answer) (first : Option First) → IsAs i j → HasFirst i mark block answers first → HasFirst j mark block answers first
first_as i j mark block answers None as_i has = (has.0, has.1 ∙ sym as_i.tick, has.2 ∙ sym as_i.groups)
first_as i j mark block answers (Some first) as_i has = has

pub batch_as : (i j : Intake) (b : Batch) → IsAs i j → IsBatch i b → IsBatch j b
batch_as i j b as_i is = record {
  counted = subst (λ (n : ℕ). n ≤ most_counted) (sym as_i.before) is.counted;
  entries_are = subst (λ (n : ℕ). j.entries ≡ with_group n (take b.mark.kept j.entries) (all_of b.block)) (sym as_i.before)
      (subst (λ (es : List Numbered). es ≡ with_group i.before (take b.mark.kept es) (all_of b.block)) (sym as_i.entries) is.entries_are);
  size_is = as_i.bytes ∙ is.size_is;
  few = is.few;
  within = subst (λ (es : List Numbered). b.mark.kept ≤ length es) (sym as_i.entries) is.within;
  first_is = first_as i j b.mark b.block b.answers.items b.first as_i is.first_is;
  ticked = is.ticked;
}

-- an event for which no memory was to be had changed none of these
pub left_as : (i j : Intake) (b : Batch) → IsAs i j → IsBatch i b → IsLeft i j b b
left_as i j b as_i is = record { entries = as_i.entries; number = as_i.before; block = refl; answers = refl; first = refl; mark = refl; batch = batch_as i j b as_i is }

-- an intake to which an event came, by its parts
come_is : (n : ℕ) (t : Option ℕ) (p : Peers) (before : ℕ) (es : List Numbered) (b g : ℕ) (e : WireEvent) (now : ℕ) (peers : Peers) → now ≡ max n (moment_at e) → peers ≡ after_event p now e
    → (let i : Intake = record { now = now; tick = t; peers = peers; before = before; entries = es; bytes = b; groups = g } in i) ≡ come_to (record { now = n; tick = t; peers = p; before = before; entries = es; bytes = b; groups = g }) e
come_is n t p before es b g e now peers now_is peers_is =
    let all : peers ≡ after_event p (max n (moment_at e)) e = peers_is ∙ ap (λ (m : ℕ). after_event p m e) now_is in
    ap (λ (m : ℕ). (let i : Intake = record { now = m; tick = t; peers = peers; before = before; entries = es; bytes = b; groups = g } in i)) now_is
    ∙ ap (λ (q : Peers). (let i : Intake = record { now = max n (moment_at e); tick = t; peers = q; before = before; entries = es; bytes = b; groups = g } in i)) all

first_come : (i : Intake) (e : WireEvent) (answers : List Answer) (says : ℕ → Handled) (first after : Option First) → FirstBy (come_to i e) answers says first after → FirstBy i answers says first after
first_come i e answers says (Some before) after by = by
first_come i e answers says None None by = by
first_come i e answers says None (Some first) by = by

-- what was done with an event
abbrev pub Did : Intake → Intake → Batch → Batch → (ℕ → Handled) → Result (Option Stop) OutOfMemory → Type 0
Did i j b c says result = MatchResult result (IsTaken i j b c says) (λ _. IsLeft i j b c)

come_did : (i j : Intake) (b c : Batch) (e : WireEvent) (says : ℕ → Handled) (result : Result (Option Stop) OutOfMemory) → Did (come_to i e) j b c says result → Did i j b c says result
come_did i j b c e says (Ok s) did = record {
  after = did.after;
  number = did.number;
  answers = did.answers;
  stops = did.stops;
  no_fault = did.no_fault;
  first = first_come i e b.answers.items says b.first c.first did.first;
  mark = did.mark;
  batch = did.batch;
}
come_did i j b c e says (Err refused) did = record { entries = did.entries; number = did.number; block = did.block; answers = did.answers; first = did.first; mark = did.mark; batch = did.batch }

module _ {D : Type 0} (journal : Journaled D) (conf : Conf) where
  -- an event that has come and whose groups were offered was handled
  received : (i mid j : Intake) (b c : Batch) (e : WireEvent) (ticks : List Entry) (made : Draft) (last : Option Stop) (result : Result (Option Stop) OutOfMemory) → mid ≡ come_to i e
      → ticks ≡ ticks_at i.tick (max i.now (moment_at e)) → made ≡ turned conf (max i.now (moment_at e)) (turn_of i.peers (max i.now (moment_at e)) e) → last ≡ stop_of e
      → Did mid j b c (λ s. offered (limits_of journal s) mid ticks made last) result → Did i j b c (λ s. handled (limits_of journal s) conf i e) result
  unfolding handled
  received i mid j b c e ticks made last result at ticks_is made_is last_is is =
      let now = max i.now (moment_at e) in
      let k = subst (λ (m : Intake). Did m j b c (λ s. offered (limits_of journal s) m ticks made last) result) at is in
      let l = subst (λ (t : List Entry). Did (come_to i e) j b c (λ s. offered (limits_of journal s) (come_to i e) t made last) result) ticks_is k in
      let m = subst (λ (d : Draft). Did (come_to i e) j b c (λ s. offered (limits_of journal s) (come_to i e) (ticks_at i.tick now) d last) result) made_is l in
      let n = subst (λ (o : Option Stop). Did (come_to i e) j b c (λ s. offered (limits_of journal s) (come_to i e) (ticks_at i.tick now) (turned conf now (turn_of i.peers now e)) o) result) last_is m in
      come_did i j b c e (λ s. handled (limits_of journal s) conf i e) result n

  -- the same by the parts of the intake
  pub received_parts : (n : ℕ) (t : Option ℕ) (p : Peers) (before : ℕ) (es : List Numbered) (size g : ℕ) (i j : Intake) (b c : Batch) (e : WireEvent) (now : ℕ) (peers : Peers) (turn : Turn)
      (ticks : List Entry) (made : Draft) (last : Option Stop) (result : Result (Option Stop) OutOfMemory) → now ≡ max n (moment_at e) → peers ≡ after_event p now e → turn ≡ turn_of p now e
      → ticks ≡ ticks_at t now → made ≡ turned conf now turn → last ≡ stop_of e
      → (let v : Intake = record { now = n; tick = t; peers = p; before = before; entries = es; bytes = size; groups = g } in v) ≡ i
      → (let mid : Intake = record { now = now; tick = t; peers = peers; before = before; entries = es; bytes = size; groups = g } in Did mid j b c (λ s. offered (limits_of journal s) mid ticks made last) result)
      → Did i j b c (λ s. handled (limits_of journal s) conf i e) result
  received_parts n t p before es size g i j b c e now peers turn ticks made last result now_is peers_is turn_is ticks_is made_is last_is is given =
      let v : Intake = record { now = n; tick = t; peers = p; before = before; entries = es; bytes = size; groups = g } in
      let mid : Intake = record { now = now; tick = t; peers = peers; before = before; entries = es; bytes = size; groups = g } in
      let all = made_is ∙ ap (turned conf now) turn_is ∙ ap (λ (m : ℕ). turned conf m (turn_of p m e)) now_is in
      subst (λ (w : Intake). Did w j b c (λ s. handled (limits_of journal s) conf w e) result) is
      (received v mid j b c e ticks made last result (come_is n t p before es size g e now peers now_is peers_is) (ticks_is ∙ ap (ticks_at t) now_is) all last_is given)
