-- The connection that is of a kind for longest, found one after another.
use Rattle.std.proofs.Common.{◌≡◌, ◌<◌, ◌≤◌, ℕ, ◌+◌, Bool, true, false, Option, Some, None, IfSome, nat_lt, nat_eq, slice_index_or, if◌then◌else◌, refl, sym, ap, subst, ◌∙◌, true≢false, arith}
use Rattle.std.proofs.lemmas.Map.Views.{IfSome-lookup_from_All}
use Rattle.wire_mio.specs.declared.peer.Stage.{Stage}
use Rattle.wire_mio.specs.declared.peer.Stage.TheVariants as stage
use Rattle.wire_mio.specs.declared.peer.Kind.{Kind}
use Rattle.wire_mio.specs.declared.peer.Kind.TheVariants as kind
use Rattle.wire_mio.proofs.Telling.{changed_live}
use Rattle.wire_mio.specs.Tables.{Table, Held, is_kind, is_active, longest_silence, all_in, held_in, Changes, KeepsLive, IsSince, IsAt, HasNo, IsLongestBelow, earlier_of, is_live, is_open, parted_at, ending_at, is_closing, is_over}

-- what holds below a number and at it holds below the next
pub below_or_at : (P : ℕ → Type 0) (i : ℕ) → ((n : ℕ) → n < i → P n) → P i → (n : ℕ) → n < i + 1 → P n
below_or_at P i below at n less = by (nat_lt n i) refl
  where
    by : (b : Bool) → nat_lt n i ≡ b → P n
    by true e = below n (grind arith)
    by false e = let is : i ≡ n = grind arith in subst P is at

-- one more that isn't of this kind leaves what was found
pass : (k : Kind) (t : Table) (i : ℕ) (found : Option (ℕ × ℕ)) → IsLongestBelow k t i found → IsAt k t i None → IsLongestBelow k t (i + 1) found
pass k t i None below isnt = λ n d less. below_or_at (λ m. is_kind k t.moment (slice_index_or (all_in t) m d) ≡ false) i (λ m l. below m d l) (isnt d) n less
pass k t i (Some f) below isnt = (below.0, λ n d less. below_or_at (λ m. is_kind k t.moment (slice_index_or (all_in t) m d) ≡ true → f.1 ≤ (slice_index_or (all_in t) m d).since) i (λ m l. below.1 m d l) (λ of. absurd (true≢false (sym of ∙ isnt d))) n less)

-- the next one counts where none was found, or an earlier one
pub longest_next : (k : Kind) (t : Table) (i : ℕ) (found next : Option (ℕ × ℕ)) → IsLongestBelow k t i found → IsAt k t i next → IsLongestBelow k t (i + 1) (earlier_of found next)
longest_next k t i None None below at = pass k t i None below at
longest_next k t i (Some f) None below at = pass k t i (Some f) below at
longest_next k t i None (Some n) below at = (at.0, λ m d less. below_or_at (λ j. is_kind k t.moment (slice_index_or (all_in t) j d) ≡ true → n.1 ≤ (slice_index_or (all_in t) j d).since) i (λ j l of. absurd (true≢false (sym of ∙ below j d l))) (λ of. subst (λ s. n.1 ≤ s) (sym (at.1 d)) (omega arith)) m less)
longest_next k t i (Some f) (Some n) below at = by (nat_lt n.1 f.1) refl
  where
    by : (b : Bool) → nat_lt n.1 f.1 ≡ b → IsLongestBelow k t (i + 1) (if b then Some n else Some f)
    by true e = (at.0, λ m d less. below_or_at (λ j. is_kind k t.moment (slice_index_or (all_in t) j d) ≡ true → n.1 ≤ (slice_index_or (all_in t) j d).since) i (λ j l of. let least : f.1 ≤ (slice_index_or (all_in t) j d).since = below.1 j d l of in grind arith) (λ of. subst (λ s. n.1 ≤ s) (sym (at.1 d)) (omega arith)) m less)
    by false e = (below.0, λ m d less. below_or_at (λ j. is_kind k t.moment (slice_index_or (all_in t) j d) ≡ true → f.1 ≤ (slice_index_or (all_in t) j d).since) i (λ j l. below.1 j d l) (λ of. subst (λ s. f.1 ≤ s) (sym (at.1 d)) (grind arith)) m less)

-- where one is of a kind, not none is
pub one_is : (k : Kind) (t : Table) (conn since : ℕ) → IsSince k t conn since → HasNo k t → ⊥
one_is k t conn since there none = true≢false (sym there.2 ∙ subst (λ o. IfSome o (λ h. is_kind k t.moment h ≡ false)) there.1 (IfSome-lookup_from_All (λ h. is_kind k t.moment h ≡ false) (nat_eq conn) t.entries none))

-- a connection that doesn't give its place at once, whose end wasn't seen, and of which a byte came no earlier than of one that
-- was silent for no longer than may be
pub active_of : (moment since : ℕ) (h : Held) → is_kind kind.Parted moment h ≡ false → is_kind kind.Closing moment h ≡ false → is_kind kind.Ending moment h ≡ false → (is_kind kind.Open moment h ≡ true → since ≤ h.since) → (since + longest_silence < moment → ⊥) → is_active moment h ≡ true
active_of moment since h parted closing ending longest silence = grind arith

-- one of a kind that is over isn't open
pub over_not_open : (k : Kind) (moment : ℕ) (h : Held) → is_over k ≡ true → is_kind k moment h ≡ true → is_open h.stage ≡ false
over_not_open kind.Open moment h over of = absurd (true≢false (sym over))
over_not_open kind.Ending moment h over of = by h.stage of
  where
    by : (s : Stage) → ending_at moment h.since s ≡ true → is_open s ≡ false
    by stage.Open e = sym e
    by stage.Ended e = refl
    by stage.Closing e = refl
    by stage.Closed e = refl
    by stage.Left e = refl
over_not_open kind.Parted moment h over of = by h.stage of
  where
    by : (s : Stage) → parted_at moment h.since s ≡ true → is_open s ≡ false
    by stage.Open e = sym e
    by stage.Ended e = refl
    by stage.Closing e = refl
    by stage.Closed e = refl
    by stage.Left e = refl
over_not_open kind.Closing moment h over of = by h.stage of
  where
    by : (s : Stage) → is_closing s ≡ true → is_open s ≡ false
    by stage.Open e = sym e
    by stage.Ended e = refl
    by stage.Closing e = refl
    by stage.Closed e = refl
    by stage.Left e = refl

-- where one goes of a kind that is over, as many are open as before, and the same
pub over_goes : (k : Kind) (t new : Table) (conn since : ℕ) → IsSince k t conn since → is_over k ≡ true → Changes conn None t new → KeepsLive t new
over_goes k t new conn since there over changes = changed_live conn None t new changes (sym (ap is_live there.1 ∙ over_not_open k t.moment there.0 over there.2))

-- one of the open ones is open
pub open_is_live : (t : Table) (conn since : ℕ) → IsSince kind.Open t conn since → is_live (held_in t conn) ≡ true
open_is_live t conn since there = ap is_live there.1 ∙ there.2
