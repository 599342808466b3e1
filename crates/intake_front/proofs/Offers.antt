-- What becomes of an event's groups, by what the journal has room for.
use Rattle.std.proofs.Common.{◌≡◌, ◌≢◌, ℕ, ◌+◌, ◌-◌, ◌<◌, Bool, true, false, List, [], ◌∷◌, ◌++◌, length, take, Option, Some, None, refl, sym, ◌∙◌, ap, arith, append-nil, length-append}
use Rattle.std.proofs.Math.Seq.{take-append_seam}
use Rattle.std.specs.Prelude.{if◌then◌else◌, ◌==◌, min, ◌^◌}
use Rattle.std.proofs.lemmas.Bool.{ne_eqb, eq-eqb}
use Rattle.zbx_types.specs.declared.entries.Entry.{Entry}
use Rattle.zbx_types.specs.declared.entries.Numbered.{Numbered}
use Rattle.intake_journal.specs.Block.{entries_with_all, bytes_with_all, passes_with_all}
use Rattle.intake_journal.specs.Settled.{Journaled}
use Rattle.intake_journal.proofs.Staged.{count-push, more_long}
use Rattle.intake_front.specs.Intake.{Intake, Handled, numbered_from, numbered_behind, with_group, bytes_with, refused_at, refused, kept_with, ticked, stopping, values_offered, behind_tick, tick_offered, offered}
use Rattle.intake_front.specs.Fronted.{limits_of, staged_with}
use Rattle.intake_front.specs.Staging.{refused_by, FollowsBlock, IsStagedAs, fault_at, settled}
use Rattle.intake_front.specs.declared.answer.Answer.{Answer}
use Rattle.intake_front.specs.declared.answer.Stop.{Stop}
use Rattle.intake_front.specs.declared.answer.Stop.TheVariants as stop
use Rattle.intake_front.specs.declared.drafts.Draft.{Draft}
use Rattle.intake_front.specs.declared.staging.Staged.{Staged}
use Rattle.intake_front.specs.declared.staging.Staged.TheVariants.{Both, OnlyTick, Neither}
use Rattle.intake_front.proofs.Numbers.{length_numbered, numbered-append}

-- why a group isn't kept for which the journal has room, or hasn't
abbrev pub or_fault : Bool → Option Stop → Option Stop
or_fault fails None = if fails then Some stop.DiskFault else None
or_fault fails (Some full) = Some full

choice : (passes : Bool) (entries bytes entries' bytes' : ℕ) (fails : Bool) → entries ≡ entries' → bytes ≡ bytes'
    → (if passes then Some (stop.Full entries bytes) else if fails then Some stop.DiskFault else None) ≡ or_fault fails (if passes then Some (stop.Full entries' bytes') else None)
choice true entries bytes entries' bytes' fails e b = cc
choice false entries bytes entries' bytes' fails e b = refl

-- a group is refused where the journal hasn't room for it, or the disk refuses it
pub refused_is : {D : Type 0} (journal : Journaled D) (block : List (List Entry)) (i : Intake) (s : ℕ) (e : Entry) (es : List Entry) → FollowsBlock journal block i
    → refused (limits_of journal s) i (e ∷ es) ≡ or_fault (i.groups + 1 == s) (refused_by journal block (e ∷ es))
unfolding refused_at
refused_is journal block i s e es is =
    let more = block ++ (e ∷ es) ∷ [] in
    let entries : length i.entries + length (e ∷ es) ≡ entries_with_all journal more = omega (arith, is.count, count-push block (e ∷ es)) in
    let bytes : min (bytes_with i.bytes (e ∷ es)) (2 ^ 64 - 1) ≡ bytes_with_all journal more = omega (arith, is.size_is, more_long block (e ∷ es)) in
    ap (λ (n : ℕ). refused_at (limits_of journal s) n (min (bytes_with i.bytes (e ∷ es)) (2 ^ 64 - 1)) (i.groups + 1)) entries
    ∙ ap (λ (n : ℕ). refused_at (limits_of journal s) (entries_with_all journal more) n (i.groups + 1)) bytes
    ∙ choice (passes_with_all journal more) _ _ _ _ (i.groups + 1 == s) refl refl

-- with no disk that refuses one, a group for which there is room is kept
pub accepted : {D : Type 0} (journal : Journaled D) (block : List (List Entry)) (i : Intake) (group : List Entry) → FollowsBlock journal block i → refused_by journal block group ≡ None
    → refused (limits_of journal 0) i group ≡ None
accepted journal block i [] is room = refl
accepted journal block i (e ∷ es) is room =
    let later : (i.groups + 1 == 0) ≡ false = ne_eqb (i.groups + 1) 0 (λ h. absurd (omega (arith, h))) in
    refused_is journal block i 0 e es is ∙ ap (or_fault (i.groups + 1 == 0)) room ∙ ap (λ (b : Bool). if b then Some stop.DiskFault else None) later

-- whatever the disk does, a group for which there is none isn't
pub refused_full : {D : Type 0} (journal : Journaled D) (block : List (List Entry)) (i : Intake) (s : ℕ) (group : List Entry) (full : Stop) → FollowsBlock journal block i → refused_by journal block group ≡ Some full
    → refused (limits_of journal s) i group ≡ Some full
refused_full journal block i s [] full is room = absurd (cc)
refused_full journal block i s (e ∷ es) full is room = refused_is journal block i s e es is ∙ ap (or_fault (i.groups + 1 == s)) room

-- the next group, where the disk refuses it
pub faulted : {D : Type 0} (journal : Journaled D) (block : List (List Entry)) (i : Intake) (e : Entry) (es : List Entry) → FollowsBlock journal block i → refused_by journal block (e ∷ es) ≡ None
    → refused (limits_of journal (i.groups + 1)) i (e ∷ es) ≡ Some stop.DiskFault
faulted journal block i e es is room =
    refused_is journal block i (i.groups + 1) e es is ∙ ap (or_fault (i.groups + 1 == i.groups + 1)) room ∙ ap (λ (b : Bool). if b then Some stop.DiskFault else None) (eq-eqb (i.groups + 1) (i.groups + 1) refl)

-- no room is told by Full alone
never_fault : {D : Type 0} (journal : Journaled D) (block : List (List Entry)) (group : List Entry) → refused_by journal block group ≡ Some stop.DiskFault → ⊥
never_fault journal block [] is = absurd (cc)
never_fault journal block (e ∷ es) is = one_of (passes_with_all journal (block ++ (e ∷ es) ∷ [])) _ _ is
  where
    one_of : (b : Bool) (n m : ℕ) → (if b then Some (stop.Full n m) else None) ≡ Some stop.DiskFault → ⊥
    one_of true n m same = absurd (cc)
    one_of false n m same = absurd (cc)

pub stands_ticked : {D : Type 0} (journal : Journaled D) (block : List (List Entry)) (i : Intake) (ticks : List Entry) → FollowsBlock journal block i → FollowsBlock journal (staged_with block ticks) (ticked i ticks)
stands_ticked journal block i [] is = is
stands_ticked journal block i (e ∷ es) is =
    let group = e ∷ es in
    record {
      count = omega (arith, is.count, count-push block group, length-append i.entries (numbered_behind i.before i.entries group), length_numbered (i.before + length i.entries + 1) group);
      size_is = omega (arith, is.size_is, more_long block group);
    }

-- the numbers of entries behind two groups, one after the other
both_numbered : (before : ℕ) (entries : List Numbered) (a b : List Entry)
    → numbered_behind before entries a ++ numbered_behind before (with_group before entries a) b ≡ numbered_behind before entries (a ++ b)
both_numbered before entries a b =
    let first = before + length entries + 1 in
    let next : before + length (with_group before entries a) + 1 ≡ first + length a = omega (arith, length-append entries (numbered_behind before entries a), length_numbered first a) in
    ap (λ (n : ℕ). numbered_behind before entries a ++ numbered_from n b) next ∙ sym (numbered-append first a b)

pub ticked_before : (i : Intake) (ticks : List Entry) → (ticked i ticks).before ≡ i.before
ticked_before i [] = refl
ticked_before i (e ∷ es) = refl

pub ticked_entries : (i : Intake) (ticks : List Entry) → (ticked i ticks).entries ≡ with_group i.before i.entries ticks
ticked_entries i [] = sym (append-nil i.entries)
ticked_entries i (e ∷ es) = refl

-- the numbers of a group that stands in front of another
pub front_numbered : (before : ℕ) (entries : List Numbered) (a b : List Entry) → take (length a) (numbered_behind before entries (a ++ b)) ≡ numbered_behind before entries a
front_numbered before entries a b =
    let n = before + length entries + 1 in
    ap (λ (k : ℕ). take k (numbered_from n (a ++ b))) (sym (length_numbered n a)) ∙ ap (take (length (numbered_from n a))) (numbered-append n a b) ∙ take-append_seam (numbered_from n a) (numbered_from (n + length a) b)

module _ {D : Type 0} (journal : Journaled D) (block : List (List Entry)) (i : Intake) (is : FollowsBlock journal block i) (ticks : List Entry) (made : Draft) (last : Option Stop) where
  -- both groups are kept
  pub all_kept : refused_by journal block ticks ≡ None → refused_by journal (staged_with block ticks) made.group ≡ None
      → offered (limits_of journal 0) i ticks made last ≡ record {
        intake = kept_with (ticked i ticks) made.group;
        answer = record { reply = made.reply; shut = made.shut; added = numbered_behind i.before i.entries (ticks ++ made.group); stop = last };
      }
  unfolding offered behind_tick
  all_kept room room_behind =
      let l = limits_of journal 0 in
      let t = ticked i ticks in
      let before = numbered_behind i.before i.entries ticks in
      let added : before ++ numbered_behind t.before t.entries made.group ≡ numbered_behind i.before i.entries (ticks ++ made.group) =
      ap (λ (n : ℕ). before ++ numbered_behind n t.entries made.group) (ticked_before i ticks)
      ∙ ap (λ (es : List Numbered). before ++ numbered_behind i.before es made.group) (ticked_entries i ticks) ∙ both_numbered i.before i.entries ticks made.group in
      ap (tick_offered l i ticks made last) (accepted journal block i ticks is room)
      ∙ ap (values_offered t before made last) (accepted journal (staged_with block ticks) t made.group (stands_ticked journal block i ticks is) room_behind)
      ∙ ap (λ (x : List Numbered). (let h : Handled = record { intake = kept_with t made.group; answer = record { reply = made.reply; shut = made.shut; added = x; stop = last } } in h)) added

  -- there is no room for the Tick
  pub tick_full : (s : ℕ) (full : Stop) → refused_by journal block ticks ≡ Some full → offered (limits_of journal s) i ticks made last ≡ record { intake = i; answer = stopping full }
  unfolding offered
  tick_full s full room = ap (tick_offered (limits_of journal s) i ticks made last) (refused_full journal block i s ticks full is room)

  -- there is none for the values behind it
  pub values_full : (full : Stop) → refused_by journal block ticks ≡ None → refused_by journal (staged_with block ticks) made.group ≡ Some full
      → offered (limits_of journal 0) i ticks made last ≡ record {
        intake = ticked i ticks;
        answer = record { reply = made.failing; shut = made.shut; added = numbered_behind i.before i.entries ticks; stop = Some full };
      }
  unfolding offered behind_tick
  values_full full room room_behind =
      let t = ticked i ticks in
      let before = numbered_behind i.before i.entries ticks in
      ap (tick_offered (limits_of journal 0) i ticks made last) (accepted journal block i ticks is room)
      ∙ ap (values_offered t before made last) (refused_full journal (staged_with block ticks) t 0 made.group full (stands_ticked journal block i ticks is) room_behind)

-- what an event comes to where the disk refuses its first group, beside what it comes to where none is refused
abbrev pub FaultIs : Intake → Handled → Handled → List Entry → List Entry → Option Answer → Type 0
FaultIs i now fault ticks group None = (fault ≡ now) × (ticks ≡ []) × (group ≡ [])
FaultIs i now fault ticks group (Some a) = (fault ≡ record { intake = i; answer = a }) × (a.stop ≡ Some stop.DiskFault) × (0 < length ticks + length group)

module _ {D : Type 0} (journal : Journaled D) (block : List (List Entry)) (i : Intake) (is : FollowsBlock journal block i) where
  tick_faulted : (t : Entry) (ts : List Entry) (made : Draft) (last : Option Stop) → refused_by journal block (t ∷ ts) ≡ None
      → offered (limits_of journal (i.groups + 1)) i (t ∷ ts) made last ≡ record { intake = i; answer = stopping stop.DiskFault }
  unfolding offered
  tick_faulted t ts made last room = ap (tick_offered (limits_of journal (i.groups + 1)) i (t ∷ ts) made last) (faulted journal block i t ts is room)

  -- behind no Tick it is the values that are refused, for whatever reason
  values_refused : (s : ℕ) (made : Draft) (last : Option Stop) (o : Option Stop) → refused (limits_of journal s) i made.group ≡ o → offered (limits_of journal s) i [] made last ≡ values_offered i [] made last o
  unfolding offered behind_tick
  values_refused s made last o is = ap (values_offered i [] made last) is

  none_refused : (s : ℕ) (made : Draft) → made.group ≡ [] → refused (limits_of journal s) i made.group ≡ None
  none_refused s made none = ap (refused (limits_of journal s) i) none

  -- where there is room for both
  pub fault_both : (ticks group : List Entry) (made : Draft) (last : Option Stop) → made.group ≡ group → refused_by journal block ticks ≡ None → refused_by journal (staged_with block ticks) group ≡ None
      → FaultIs i (offered (limits_of journal 0) i ticks made last) (offered (limits_of journal (i.groups + 1)) i ticks made last) ticks group (fault_at ticks group made.failing made.shut)
  fault_both [] [] made last same room room_behind =
      (values_refused (i.groups + 1) made last None (none_refused (i.groups + 1) made same) ∙ sym (values_refused 0 made last None (none_refused 0 made same)), refl, refl)
  fault_both [] (g ∷ gs) made last same room room_behind =
      (values_refused (i.groups + 1) made last (Some stop.DiskFault) (ap (refused (limits_of journal (i.groups + 1)) i) same ∙ faulted journal block i g gs is room_behind), refl, omega arith)
  fault_both (t ∷ ts) group made last same room room_behind = (tick_faulted t ts made last room, refl, omega arith)

  -- where there is room for the Tick alone
  pub fault_tick : (ticks : List Entry) (made : Draft) (last : Option Stop) (full : Stop) → refused_by journal block ticks ≡ None → refused_by journal (staged_with block ticks) made.group ≡ Some full
      → FaultIs i (offered (limits_of journal 0) i ticks made last) (offered (limits_of journal (i.groups + 1)) i ticks made last) ticks [] (fault_at ticks [] None None)
  fault_tick [] made last full room room_behind = (
    values_refused (i.groups + 1) made last (Some full) (refused_full journal block i (i.groups + 1) made.group full is room_behind)
        ∙ sym (values_refused 0 made last (Some full) (refused_full journal block i 0 made.group full is room_behind)),
    refl,
    refl,
  )
  fault_tick (t ∷ ts) made last full room room_behind = (tick_faulted t ts made last room, refl, omega arith)

-- what an event does that enters these groups and is answered so, by the number of the group that the disk refuses
pub record Says (i : Intake) (ticks group : List Entry) (says : ℕ → Handled) (now : Answer) (fault : Option Answer) : Type 0 where
  pub now_is : says 0 ≡ record { intake = kept_with (ticked i ticks) group; answer = now }
  pub fault_is : FaultIs i (says 0) (says (i.groups + 1)) ticks group fault
  pub goes_on : now.stop ≢ Some stop.DiskFault

module _ {D : Type 0} (journal : Journaled D) (block : List (List Entry)) (i : Intake) (is : FollowsBlock journal block i) (ticks : List Entry) (made : Draft) (last : Option Stop)
    (after : List (List Entry)) (added : List Numbered) where
  abbrev Settles : Staged → Type 0
  Settles s =
      let t = settled s ticks made last added in
      Says i t.ticks t.group (λ n. offered (limits_of journal n) i ticks made last) t.now t.fault × (after ≡ staged_with (staged_with block t.ticks) t.group)

  full_only : (group : List Entry) (b : List (List Entry)) (full : Stop) → refused_by journal b group ≡ Some full → Some full ≢ Some stop.DiskFault
  full_only group b full room same = never_fault journal b group (room ∙ same)

  -- what was staged of an event is what it enters, and its answers are those of that
  pub settles : (s : Staged) → added ≡ numbered_behind i.before i.entries (ticks ++ made.group) → last ≢ Some stop.DiskFault → IsStagedAs journal block ticks made.group after s → Settles s
  settles Both added_is plain staged = (
    record {
      now_is = all_kept journal block i is ticks made last staged.0 staged.1
          ∙ ap (λ (x : List Numbered). (let h : Handled = record { intake = kept_with (ticked i ticks) made.group; answer = record { reply = made.reply; shut = made.shut; added = x; stop = last } } in h)) (sym added_is);
      fault_is = fault_both journal block i is ticks made.group made last refl staged.0 staged.1;
      goes_on = plain;
    },
    staged.2,
  )
  settles (OnlyTick full) added_is plain staged =
      let cut : take (length ticks) added ≡ numbered_behind i.before i.entries ticks = ap (take (length ticks)) added_is ∙ front_numbered i.before i.entries ticks made.group in (
        record {
          now_is = values_full journal block i is ticks made last full staged.0 staged.1
              ∙ ap (λ (x : List Numbered). (let h : Handled = record { intake = ticked i ticks; answer = record { reply = made.failing; shut = made.shut; added = x; stop = Some full } } in h)) (sym cut);
          fault_is = fault_tick journal block i is ticks made last full staged.0 staged.1;
          goes_on = full_only made.group (staged_with block ticks) full staged.1;
        },
        staged.2,
      )
  settles (Neither full) added_is plain staged = (
    record {
      now_is = tick_full journal block i is ticks made last 0 full staged.0;
      fault_is = (tick_full journal block i is ticks made last (i.groups + 1) full staged.0 ∙ sym (tick_full journal block i is ticks made last 0 full staged.0), refl, refl);
      goes_on = full_only ticks block full staged.0;
    },
    staged.1,
  )
