-- How events add to the intake's entries, and when they stop.
use Rattle.std.proofs.Common.{◌≡◌, ℕ, ◌≤◌, List, [], ◌∷◌, ◌++◌, length, take, refl, sym, ◌∙◌, ap, arith, append_assoc, append-nil, length-append}
use Rattle.std.proofs.Math.Seq.{take-append_seam}
use Rattle.std.specs.Prelude.{Option, Some, None}
use Rattle.zbx_types.specs.declared.conf.Conf.{Conf}
use Rattle.zbx_types.specs.declared.entries.Entry.{Entry}
use Rattle.zbx_types.specs.declared.entries.Numbered.{Numbered}
use Rattle.outside.specs.declared.event.WireEvent.{WireEvent}
use Rattle.outside.specs.declared.event.WireEvent.TheVariants.{Opened, Piece, Ended, Broke, Quiet, Closed}
use Rattle.intake_front.specs.Intake.{Limits, Intake, Handled, numbered_behind, kept_with, ticked, values_offered, behind_tick, tick_offered, offered, refused, handled, stop_of}
use Rattle.intake_front.specs.declared.answer.Stop.{Stop}
use Rattle.intake_front.specs.declared.answer.Stop.TheVariants as stop
use Rattle.intake_front.specs.declared.drafts.Draft.{Draft}

kept_grows : (i : Intake) (group : List Entry) → (kept_with i group).entries ≡ i.entries ++ numbered_behind i.before i.entries group
kept_grows i [] = sym (append-nil i.entries)
kept_grows i (e ∷ es) = refl

ticked_grows : (i : Intake) (ticks : List Entry) → (ticked i ticks).entries ≡ i.entries ++ numbered_behind i.before i.entries ticks
ticked_grows i [] = sym (append-nil i.entries)
ticked_grows i (e ∷ es) = refl

-- what was added stands behind entries
abbrev Grows : List Numbered → Handled → Type 0
Grows entries h = h.intake.entries ≡ entries ++ h.answer.added

values_grow : (i : Intake) (before : List Numbered) (ticks : List Numbered) (made : Draft) (last o : Option Stop) → i.entries ≡ before ++ ticks → Grows before (values_offered i ticks made last o)
values_grow i before ticks made last None is =
    let behind = numbered_behind i.before i.entries made.group in
    kept_grows i made.group ∙ ap (λ (es : List Numbered). es ++ behind) is ∙ append_assoc before ticks behind
values_grow i before ticks made last (Some reason) is = is

tick_grows : (limits : Limits) (i : Intake) (ticks : List Entry) (made : Draft) (last o : Option Stop) → Grows i.entries (tick_offered limits i ticks made last o)
unfolding behind_tick
tick_grows limits i ticks made last None = values_grow (ticked i ticks) i.entries (numbered_behind i.before i.entries ticks) made last (refused limits (ticked i ticks) made.group) (ticked_grows i ticks)
tick_grows limits i ticks made last (Some reason) = sym (append-nil i.entries)

offered_grows : (limits : Limits) (i : Intake) (ticks : List Entry) (made : Draft) (last : Option Stop) → Grows i.entries (offered limits i ticks made last)
unfolding offered
offered_grows limits i ticks made last = tick_grows limits i ticks made last (refused limits i ticks)

-- an event adds what it answers behind the entries, and changes none of them
pub grows : (limits : Limits) (conf : Conf) (i : Intake) (e : WireEvent) → (handled limits conf i e).intake.entries ≡ i.entries ++ (handled limits conf i e).answer.added
unfolding handled
grows limits conf i e = offered_grows limits _ _ _ (stop_of e)

-- the entries that were there stand at the front
pub begins : (limits : Limits) (conf : Conf) (i : Intake) (e : WireEvent)
    → (length i.entries ≤ length (handled limits conf i e).intake.entries) × (take (length i.entries) (handled limits conf i e).intake.entries ≡ i.entries)
begins limits conf i e =
    let added = (handled limits conf i e).answer.added in
    let more = grows limits conf i e in
    (rw more (omega (arith, length-append i.entries added)), rw more (take-append_seam i.entries added))

-- an event that isn't refused stops where it is Closed
pub closed_of : (e : WireEvent) → stop_of e ≡ Some stop.Closed → (at : ℕ) × (e ≡ Closed at)
closed_of (Closed at) is = (at, refl)
closed_of (Opened conn at) is = absurd (cc)
closed_of (Piece conn bytes at) is = absurd (cc)
closed_of (Ended conn at) is = absurd (cc)
closed_of (Broke conn at) is = absurd (cc)
closed_of (Quiet at) is = absurd (cc)
