-- Laws of what events do over a journal whose disk refuses a group or none.
use Rattle.std.proofs.Common.{◌≡◌, ℕ, ◌+◌, ◌≤◌, ◌<◌, max, Bool, true, false, List, [], ◌∷◌, ◌++◌, length, refl, sym, ap, ◌∙◌, subst, arith, append_assoc, append-nil, true≢false}
use Rattle.std.specs.Prelude.{Option, Some, None, ◌==◌, ◌||◌, nat_lt, if◌then◌else◌}
use Rattle.std.proofs.lemmas.Bool.{ne_eqb}
use Rattle.zbx_types.specs.declared.conf.Conf.{Conf}
use Rattle.zbx_types.specs.declared.entries.Entry.{Entry}
use Rattle.zbx_types.specs.declared.entries.Numbered.{Numbered}
use Rattle.outside.specs.declared.event.WireEvent.{WireEvent}
use Rattle.outside.specs.declared.event.WireEvent.TheVariants as event
use Rattle.intake_front.specs.declared.answer.Stop.{Stop}
use Rattle.intake_front.specs.declared.answer.Stop.TheVariants as stop
use Rattle.std.specs.List.{All}
use Rattle.std.proofs.lemmas.List.Elements.{All-head, All-tail}
use Rattle.entry_step.specs.Each.{Each}
use Rattle.entry_laws.specs.InForce.{IsPlain}
use Rattle.entry_step.proofs.Members.{each_append}
use Rattle.entry_step.specs.Start.{Start}
use Rattle.wire_core.specs.Peers.{turn_of}
use Rattle.outside.specs.Script.{moment_at}
use Rattle.intake_front.proofs.Sound.{IsTakenAt, turned_fits, tick_fits, sound_handled}
use Rattle.intake_front.specs.Intake.{Limits, Intake, Handled, IsSound, numbered_from, numbered_behind, is_due, half_minute, ticks_at, turned, come_to, refused_at, refused, kept_with, ticked, stop_of, values_offered, behind_tick, tick_offered, offered, handled}
use Rattle.intake_front.specs.Served.{Served, grown, served_on, served_from, served}
use Rattle.server_run.specs.Stops.{refusing}

-- ---- a disk that refuses a later group changes nothing

choose : (full zero at : Bool) (x : Stop) → zero ≡ false → ((if full then Some x else if zero then Some stop.DiskFault else None) ≡ None → at ≡ false)
    → (if full then Some x else if at then Some stop.DiskFault else None) ≡ (if full then Some x else if zero then Some stop.DiskFault else None)
choose true zero at x none later = refl
choose false false false x none later = refl
choose false false true x none later = absurd (true≢false (later refl))
choose false true at x none later = absurd (true≢false none)

refused_at_same : (limits : Limits) (entries bytes number n : ℕ) → (refused_at (refusing limits 0) entries bytes (number + 1) ≡ None → number + 1 < n)
    → refused_at (refusing limits n) entries bytes (number + 1) ≡ refused_at (refusing limits 0) entries bytes (number + 1)
unfolding refused_at
refused_at_same limits entries bytes number n later =
    choose (nat_lt limits.max_entries entries || nat_lt limits.max_bytes bytes) (number + 1 == 0) (number + 1 == n) (stop.Full entries bytes)
    (ne_eqb (number + 1) 0 (λ e. omega (arith, e))) (λ none. ne_eqb (number + 1) n (λ e. omega (arith, e, later none)))

refused_same : (limits : Limits) (i : Intake) (group : List Entry) (n : ℕ) → (refused (refusing limits 0) i group ≡ None → (kept_with i group).groups < n)
    → refused (refusing limits n) i group ≡ refused (refusing limits 0) i group
refused_same limits i [] n later = refl
refused_same limits i (e ∷ es) n later = refused_at_same limits _ _ i.groups n later

kept_groups : (i : Intake) (group : List Entry) → i.groups ≤ (kept_with i group).groups
kept_groups i [] = omega arith
kept_groups i (e ∷ es) = omega arith

ticked_groups : (i : Intake) (ticks : List Entry) → (ticked i ticks).groups ≡ (kept_with i ticks).groups
ticked_groups i [] = refl
ticked_groups i (e ∷ es) = refl

values_groups : (i : Intake) (ticks : List Numbered) (made : _) (last o : Option Stop) → i.groups ≤ (values_offered i ticks made last o).intake.groups
values_groups i ticks made last None = kept_groups i made.group
values_groups i ticks made last (Some s) = omega arith

behind_groups : (limits : Limits) (i : Intake) (ticks : List Numbered) (made : _) (last : Option Stop) → i.groups ≤ (behind_tick limits i ticks made last).intake.groups
unfolding behind_tick
behind_groups limits i ticks made last = values_groups i ticks made last (refused limits i made.group)

behind_same : (limits : Limits) (i : Intake) (ticks : List Numbered) (made : _) (last : Option Stop) (n : ℕ) → (behind_tick (refusing limits 0) i ticks made last).intake.groups < n
    → behind_tick (refusing limits n) i ticks made last ≡ behind_tick (refusing limits 0) i ticks made last
unfolding behind_tick
behind_same limits i ticks made last n less =
    ap (values_offered i ticks made last) (refused_same limits i made.group n (λ none. subst (λ o. (values_offered i ticks made last o).intake.groups < n) none less))

tick_groups : (limits : Limits) (i : Intake) (ticks : List Entry) (made : _) (last o : Option Stop) → i.groups ≤ (tick_offered limits i ticks made last o).intake.groups
tick_groups limits i ticks made last None = omega (arith, kept_groups i ticks, ticked_groups i ticks, behind_groups limits (ticked i ticks) (numbered_behind i.before i.entries ticks) made last)
tick_groups limits i ticks made last (Some s) = omega arith

ticks_same : (limits : Limits) (i : Intake) (ticks : List Entry) (made : _) (last : Option Stop) (n : ℕ)
    → (tick_offered (refusing limits 0) i ticks made last (refused (refusing limits 0) i ticks)).intake.groups < n → refused (refusing limits n) i ticks ≡ refused (refusing limits 0) i ticks
ticks_same limits i ticks made last n less = refused_same limits i ticks n (λ none.
    let kept : (tick_offered (refusing limits 0) i ticks made last None).intake.groups < n = subst (λ o. (tick_offered (refusing limits 0) i ticks made last o).intake.groups < n) none less in
    omega (arith, kept, ticked_groups i ticks, behind_groups (refusing limits 0) (ticked i ticks) (numbered_behind i.before i.entries ticks) made last))

by_tick : (limits : Limits) (i : Intake) (ticks : List Entry) (made : _) (last : Option Stop) (n : ℕ) (o : Option Stop) → (tick_offered (refusing limits 0) i ticks made last o).intake.groups < n
    → tick_offered (refusing limits n) i ticks made last o ≡ tick_offered (refusing limits 0) i ticks made last o
by_tick limits i ticks made last n None less = behind_same limits (ticked i ticks) (numbered_behind i.before i.entries ticks) made last n less
by_tick limits i ticks made last n (Some s) less = refl

offered_same : (limits : Limits) (i : Intake) (ticks : List Entry) (made : _) (last : Option Stop) (n : ℕ) → (offered (refusing limits 0) i ticks made last).intake.groups < n
    → offered (refusing limits n) i ticks made last ≡ offered (refusing limits 0) i ticks made last
unfolding offered
offered_same limits i ticks made last n less =
    ap (tick_offered (refusing limits n) i ticks made last) (ticks_same limits i ticks made last n less) ∙ by_tick limits i ticks made last n (refused (refusing limits 0) i ticks) less

offered_groups : (limits : Limits) (i : Intake) (ticks : List Entry) (made : _) (last : Option Stop) → i.groups ≤ (offered limits i ticks made last).intake.groups
unfolding offered
offered_groups limits i ticks made last = tick_groups limits i ticks made last (refused limits i ticks)

handled_groups : (limits : Limits) (conf : Conf) (i : Intake) (e : WireEvent) → i.groups ≤ (handled limits conf i e).intake.groups
unfolding handled
handled_groups limits conf i e = offered_groups limits _ _ _ _

handled_same : (limits : Limits) (conf : Conf) (i : Intake) (e : WireEvent) (n : ℕ) → (handled (refusing limits 0) conf i e).intake.groups < n
    → handled (refusing limits n) conf i e ≡ handled (refusing limits 0) conf i e
unfolding handled
handled_same limits conf i e n less = offered_same limits _ _ _ _ n less

on_groups : (o : Option Stop) (limits : Limits) (conf : Conf) (s : Served) (e : WireEvent) → s.intake.groups ≤ (served_on o limits conf s e).intake.groups
on_groups (Some x) limits conf s e = omega arith
on_groups None limits conf s e = handled_groups limits conf s.intake e

from_groups : (limits : Limits) (conf : Conf) (s : Served) (es : List WireEvent) → s.intake.groups ≤ (served_from limits conf s es).intake.groups
from_groups limits conf s [] = omega arith
from_groups limits conf s (e ∷ es) = omega (arith, on_groups s.stop limits conf s e, from_groups limits conf (served_on s.stop limits conf s e) es)

on_same : (o : Option Stop) (limits : Limits) (conf : Conf) (s : Served) (e : WireEvent) (n : ℕ) → (served_on o (refusing limits 0) conf s e).intake.groups < n
    → served_on o (refusing limits n) conf s e ≡ served_on o (refusing limits 0) conf s e
on_same (Some x) limits conf s e n less = refl
on_same None limits conf s e n less = ap (grown s) (handled_same limits conf s.intake e n less)

from_same : (limits : Limits) (conf : Conf) (s : Served) (es : List WireEvent) (n : ℕ) → (served_from (refusing limits 0) conf s es).intake.groups < n
    → served_from (refusing limits n) conf s es ≡ served_from (refusing limits 0) conf s es
from_same limits conf s [] n less = refl
from_same limits conf s (e ∷ es) n less =
    let next = served_on s.stop (refusing limits 0) conf s e in
    let here = on_same s.stop limits conf s e n (omega (arith, less, from_groups (refusing limits 0) conf next es)) in
    ap (λ t. served_from (refusing limits n) conf t es) here ∙ from_same limits conf next es n less

-- a disk that refuses a group behind those of some events changes nothing of these
pub served_same : (limits : Limits) (conf : Conf) (i : Intake) (es : List WireEvent) (n : ℕ) → (served (refusing limits 0) conf i es).intake.groups < n
    → served (refusing limits n) conf i es ≡ served (refusing limits 0) conf i es
served_same limits conf i es n less = from_same limits conf (record { intake = i; replies = []; shut = []; stop = None }) es n less

pub served_from-append : (limits : Limits) (conf : Conf) (s : Served) (a b : List WireEvent) → served_from limits conf s (a ++ b) ≡ served_from limits conf (served_from limits conf s a) b
served_from-append limits conf s [] b = refl
served_from-append limits conf s (e ∷ es) b = served_from-append limits conf (served_on s.stop limits conf s e) es b

-- the groups of some events, and of these with more
pub front_groups : (limits : Limits) (conf : Conf) (i : Intake) (a b : List WireEvent) → (served limits conf i a).intake.groups ≤ (served limits conf i (a ++ b)).intake.groups
front_groups limits conf i a b =
    let start : Served = record { intake = i; replies = []; shut = []; stop = None } in
    subst (λ (s : Served). (served limits conf i a).intake.groups ≤ s.intake.groups) (sym (served_from-append limits conf start a b)) (from_groups limits conf (served limits conf i a) b)

-- ---- entries grow, by Values and Ticks

abbrev Grows : Intake → Intake → Type 0
Grows old new = (more : List Numbered) × (new.entries ≡ old.entries ++ more) × Each IsPlain more

stays : (i : Intake) → Grows i i
stays i = ([], sym (append-nil i.entries), tt)

grows_on : (a b c : Intake) → Grows a b → Grows b c → Grows a c
grows_on a b c p q = (p.0 ++ q.0, q.1 ∙ ap (λ l. l ++ q.0) p.1 ∙ append_assoc a.entries p.0 q.0, each_append IsPlain p.0 q.0 p.2 q.2)

module _ (conf : Conf) (now : ℕ) where
  abbrev AllTaken : List Entry → Type 0
  AllTaken group = All (IsTakenAt conf now) group

  taken_plain : (n : ℕ) (group : List Entry) → AllTaken group → Each IsPlain (numbered_from n group)
  taken_plain n [] all = tt
  taken_plain n (e ∷ es) all = ((All-head (IsTakenAt conf now) e es all).plain, taken_plain (n + 1) es (All-tail (IsTakenAt conf now) e es all))

  kept_grows : (i : Intake) (group : List Entry) → AllTaken group → Grows i (kept_with i group)
  kept_grows i [] all = stays i
  kept_grows i (e ∷ es) all = (numbered_behind i.before i.entries (e ∷ es), refl, taken_plain (i.before + length i.entries + 1) (e ∷ es) all)

  ticked_grows : (i : Intake) (ticks : List Entry) → AllTaken ticks → Grows i (ticked i ticks)
  ticked_grows i [] all = stays i
  ticked_grows i (e ∷ es) all = (numbered_behind i.before i.entries (e ∷ es), refl, taken_plain (i.before + length i.entries + 1) (e ∷ es) all)

  values_grow : (i : Intake) (ticks : List Numbered) (made : _) (last o : Option Stop) (h : Handled) → h ≡ values_offered i ticks made last o → AllTaken made.group → Grows i h.intake
  values_grow i ticks made last None h is all = subst (λ (x : Handled). Grows i x.intake) (sym is) (kept_grows i made.group all)
  values_grow i ticks made last (Some s) h is all = subst (λ (x : Handled). Grows i x.intake) (sym is) (stays i)

  behind_grow : (limits : Limits) (i : Intake) (ticks : List Numbered) (made : _) (last : Option Stop) (h : Handled) → h ≡ behind_tick limits i ticks made last → AllTaken made.group → Grows i h.intake
  unfolding behind_tick
  behind_grow limits i ticks made last h is all = values_grow i ticks made last (refused limits i made.group) h is all

  tick_grow : (limits : Limits) (i : Intake) (ticks : List Entry) (made : _) (last o : Option Stop) (h : Handled) → h ≡ tick_offered limits i ticks made last o → AllTaken ticks → AllTaken made.group → Grows i h.intake
  tick_grow limits i ticks made last None h is all values =
      grows_on i (ticked i ticks) h.intake (ticked_grows i ticks all) (behind_grow limits (ticked i ticks) (numbered_behind i.before i.entries ticks) made last h is values)
  tick_grow limits i ticks made last (Some s) h is all values = subst (λ (x : Handled). Grows i x.intake) (sym is) (stays i)

  offered_grow : (limits : Limits) (i : Intake) (ticks : List Entry) (made : _) (last : Option Stop) (h : Handled) → h ≡ offered limits i ticks made last → AllTaken ticks → AllTaken made.group → Grows i h.intake
  unfolding offered
  offered_grow limits i ticks made last h is all values = tick_grow limits i ticks made last (refused limits i ticks) h is all values

-- an event's entries stand behind those that were there, and none is a Config
pub grows : (limits : Limits) (conf : Conf) (i : Intake) (e : WireEvent) → (more : List Numbered) × ((handled limits conf i e).intake.entries ≡ i.entries ++ more) × Each IsPlain more
unfolding handled
grows limits conf i e =
    let now = max i.now (moment_at e) in
    let t = turn_of i.peers now e in
    offered_grow conf now limits (come_to i e) (ticks_at i.tick now) (turned conf now t) (stop_of e) _ refl (tick_fits conf now (is_due i.tick (half_minute now))) (turned_fits conf now t)

on_grow : (o : Option Stop) (limits : Limits) (conf : Conf) (s : Served) (e : WireEvent) → Grows s.intake (served_on o limits conf s e).intake
on_grow (Some x) limits conf s e = stays s.intake
on_grow None limits conf s e = grows limits conf s.intake e

from_grow : (limits : Limits) (conf : Conf) (s : Served) (es : List WireEvent) → Grows s.intake (served_from limits conf s es).intake
from_grow limits conf s [] = stays s.intake
from_grow limits conf s (e ∷ es) =
    let next = served_on s.stop limits conf s e in grows_on s.intake next.intake (served_from limits conf next es).intake (on_grow s.stop limits conf s e) (from_grow limits conf next es)

-- and so do those of a list of events
pub served_plain : (limits : Limits) (conf : Conf) (i : Intake) (es : List WireEvent) → (more : List Numbered) × ((served limits conf i es).intake.entries ≡ i.entries ++ more) × Each IsPlain more
served_plain limits conf i es = from_grow limits conf (record { intake = i; replies = []; shut = []; stop = None }) es

-- ---- entries stay whole and fit

module _ (flat : List ℕ → Conf) (ground : Start) where
  on_sound : (o : Option Stop) (limits : Limits) (conf : Conf) (s : Served) (e : WireEvent) → IsSound flat ground conf s.intake → IsSound flat ground conf (served_on o limits conf s e).intake
  on_sound (Some x) limits conf s e sound = sound
  on_sound None limits conf s e sound = sound_handled limits flat ground conf s.intake e sound

  from_sound : (limits : Limits) (conf : Conf) (s : Served) (es : List WireEvent) → IsSound flat ground conf s.intake → IsSound flat ground conf (served_from limits conf s es).intake
  from_sound limits conf s [] sound = sound
  from_sound limits conf s (e ∷ es) sound = from_sound limits conf (served_on s.stop limits conf s e) es (on_sound s.stop limits conf s e sound)

  -- what events make of a sound intake is one
  pub served_sound : (limits : Limits) (conf : Conf) (i : Intake) (es : List WireEvent) → IsSound flat ground conf i → IsSound flat ground conf (served limits conf i es).intake
  served_sound limits conf i es sound = from_sound limits conf (record { intake = i; replies = []; shut = []; stop = None }) es sound

-- ---- a disk that refuses no group stops nothing

chosen : (full at : Bool) (a b : ℕ) → at ≡ false → (if full then Some (stop.Full a b) else if at then Some stop.DiskFault else None) ≡ Some stop.DiskFault → ⊥
chosen true at a b isnt fault = cc
chosen false true a b isnt fault = absurd (true≢false isnt)
chosen false false a b isnt fault = cc

refused_at_none : (limits : Limits) (entries bytes number : ℕ) → refused_at (refusing limits 0) entries bytes (number + 1) ≡ Some stop.DiskFault → ⊥
unfolding refused_at
refused_at_none limits entries bytes number fault =
    chosen (nat_lt limits.max_entries entries || nat_lt limits.max_bytes bytes) (number + 1 == 0) entries bytes (ne_eqb (number + 1) 0 (λ e. omega (arith, e))) fault

refused_none : (limits : Limits) (i : Intake) (group : List Entry) → refused (refusing limits 0) i group ≡ Some stop.DiskFault → ⊥
refused_none limits i [] fault = cc
refused_none limits i (e ∷ es) fault = refused_at_none limits _ _ i.groups fault

values_stop : (i : Intake) (ticks : List Numbered) (made : _) (last o : Option Stop) → (last ≡ Some stop.DiskFault → ⊥) → (o ≡ Some stop.DiskFault → ⊥)
    → (values_offered i ticks made last o).answer.stop ≡ Some stop.DiskFault → ⊥
values_stop i ticks made last None other none fault = other fault
values_stop i ticks made last (Some s) other none fault = none fault

behind_stop : (limits : Limits) (i : Intake) (ticks : List Numbered) (made : _) (last : Option Stop) → (last ≡ Some stop.DiskFault → ⊥)
    → (behind_tick (refusing limits 0) i ticks made last).answer.stop ≡ Some stop.DiskFault → ⊥
unfolding behind_tick
behind_stop limits i ticks made last other fault = values_stop i ticks made last (refused (refusing limits 0) i made.group) other (refused_none limits i made.group) fault

tick_stop : (limits : Limits) (i : Intake) (ticks : List Entry) (made : _) (last o : Option Stop) → (last ≡ Some stop.DiskFault → ⊥) → (o ≡ Some stop.DiskFault → ⊥)
    → (tick_offered (refusing limits 0) i ticks made last o).answer.stop ≡ Some stop.DiskFault → ⊥
tick_stop limits i ticks made last None other none fault = behind_stop limits (ticked i ticks) (numbered_behind i.before i.entries ticks) made last other fault
tick_stop limits i ticks made last (Some s) other none fault = none fault

offered_stop : (limits : Limits) (i : Intake) (ticks : List Entry) (made : _) (last : Option Stop) → (last ≡ Some stop.DiskFault → ⊥)
    → (offered (refusing limits 0) i ticks made last).answer.stop ≡ Some stop.DiskFault → ⊥
unfolding offered
offered_stop limits i ticks made last other fault = tick_stop limits i ticks made last (refused (refusing limits 0) i ticks) other (refused_none limits i ticks) fault

no_event_faults : (e : WireEvent) → stop_of e ≡ Some stop.DiskFault → ⊥
no_event_faults (event.Closed at) fault = cc
no_event_faults (event.Opened conn at) fault = cc
no_event_faults (event.Piece conn bytes at) fault = cc
no_event_faults (event.Ended conn at) fault = cc
no_event_faults (event.Broke conn at) fault = cc
no_event_faults (event.Quiet at) fault = cc

handled_stop : (limits : Limits) (conf : Conf) (i : Intake) (e : WireEvent) → (handled (refusing limits 0) conf i e).answer.stop ≡ Some stop.DiskFault → ⊥
unfolding handled
handled_stop limits conf i e fault = offered_stop limits _ _ _ _ (no_event_faults e) fault

on_stop : (o : Option Stop) (limits : Limits) (conf : Conf) (s : Served) (e : WireEvent) → (s.stop ≡ Some stop.DiskFault → ⊥) → (served_on o (refusing limits 0) conf s e).stop ≡ Some stop.DiskFault → ⊥
on_stop (Some x) limits conf s e other fault = other fault
on_stop None limits conf s e other fault = handled_stop limits conf s.intake e fault

from_stop : (limits : Limits) (conf : Conf) (s : Served) (es : List WireEvent) → (s.stop ≡ Some stop.DiskFault → ⊥) → (served_from (refusing limits 0) conf s es).stop ≡ Some stop.DiskFault → ⊥
from_stop limits conf s [] other fault = other fault
from_stop limits conf s (e ∷ es) other fault = from_stop limits conf (served_on s.stop (refusing limits 0) conf s e) es (on_stop s.stop limits conf s e other) fault

-- events don't stop by a fault of a disk that refuses no group
pub served_stop : (limits : Limits) (conf : Conf) (i : Intake) (es : List WireEvent) → (served (refusing limits 0) conf i es).stop ≡ Some stop.DiskFault → ⊥
served_stop limits conf i es fault = from_stop limits conf (record { intake = i; replies = []; shut = []; stop = None }) es (λ none. cc) fault
