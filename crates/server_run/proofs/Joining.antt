-- Laws of events that follow others: what both make, from what each makes.
use Rattle.std.proofs.Common.{◌≡◌, ◌⊎◌, ⊎_elim, ◌≤◌, ℕ, ◌+◌, ◌<◌, List, [], ◌∷◌, ◌++◌, length, refl, sym, ap, ap₂, ◌∙◌, subst, append_assoc, append-nil, length-append, arith, inl, inr}
use Rattle.std.specs.Prelude.{Option, Some, None}
use Rattle.std.specs.Option.{option_to_list}
use Rattle.std.proofs.lemmas.List.{map-append}
use Rattle.zbx_types.specs.declared.conf.Conf.{Conf}
use Rattle.zbx_types.specs.declared.entries.Numbered.{Numbered}
use Rattle.outside.specs.Tells.{WireTells}
use Rattle.outside.specs.declared.event.WireEvent.{WireEvent}
use Rattle.intake_front.specs.Intake.{Limits, Intake, Handled, handled}
use Rattle.intake_front.specs.Served.{Served, closing, grown, served_on, served_from, served}
use Rattle.intake_front.specs.Fronted.{refused_group}
use Rattle.intake_front.specs.declared.answer.Reply.{Reply}
use Rattle.intake_front.specs.declared.answer.Stop.{Stop}
use Rattle.intake_front.specs.declared.answer.Stop.TheVariants as stop
use Rattle.server_run.specs.Events.{Gave, HasGiven}
use Rattle.server_run.specs.Sending.{counted_from}
use Rattle.server_run.specs.Statuses.{Ending, anywhere, LeftIs}
use Rattle.server_run.specs.Stops.{refusing, RunsOn, IsReached}
use Rattle.server_run.proofs.Sending.{counted_closing}
use Rattle.server_run.proofs.Handling.{served_from-append, served_same, front_groups}

-- ---- what the wire gave

pub gave_none : (left : Option (List WireEvent)) → Gave left left [] None anywhere
gave_none None = tt
gave_none (Some all) = (all, refl, refl)

-- the events that a wire told, and more
pub gave_both : (ending : Ending) (lost : Option WireEvent) (left left' left'' : Option (List WireEvent)) (a b : List WireEvent)
    → Gave left left' a None anywhere → Gave left' left'' b lost ending → Gave left left'' (a ++ b) lost ending
gave_both ending lost None left' left'' a b p q = tt
gave_both ending lost (Some all) left' left'' a b p q =
    let next : (rest : List WireEvent) × (p.0 ≡ b ++ (option_to_list lost ++ rest)) × LeftIs ending lost left'' rest = subst (λ l. Gave l left'' b lost ending) p.2 q in
    (next.0, p.1 ∙ (ap (λ r. a ++ r) next.1 ∙ sym (append_assoc a b (option_to_list lost ++ next.0))), next.2)

pub given_none : (w : WireTells) → HasGiven w w [] None anywhere
given_none w = record { given = omega arith; told = gave_none w.left; sent_stays = refl; sends_stay = refl; closed_stays = refl; unsent_stays = refl }

pub given_both : (w0 w1 w2 : WireTells) (a b : List WireEvent) (lost : Option WireEvent) (ending : Ending) → HasGiven w0 w1 a None anywhere → HasGiven w1 w2 b lost ending → HasGiven w0 w2 (a ++ b) lost ending
given_both w0 w1 w2 a b lost ending p q = record {
  given = omega (arith, p.given, q.given, length-append a b);
  told = gave_both ending lost w0.left w1.left w2.left a b p.told q.told;
  sent_stays = q.sent_stays ∙ p.sent_stays;
  sends_stay = q.sends_stay ∙ p.sends_stay;
  closed_stays = q.closed_stays ∙ p.closed_stays;
  unsent_stays = q.unsent_stays ∙ p.unsent_stays;
}

-- ---- the last of some events

pub no_last : {A : Type 0} (front : List A) (last : A) → [] ≡ front ++ last ∷ [] → ⊥
no_last front last is = omega (arith, ap length is, length-append front (last ∷ []))

-- before the last stand the same
pub same_front_of : {A : Type 0} (a b : List A) (x y : A) → a ++ x ∷ [] ≡ b ++ y ∷ [] → a ≡ b
same_front_of [] [] x y is = refl
same_front_of [] (z ∷ b) x y is = absurd (omega (arith, ap length is, length-append b (y ∷ [])))
same_front_of (z ∷ a) [] x y is = absurd (omega (arith, ap length is, length-append a (x ∷ [])))
same_front_of (z ∷ a) (w ∷ b) x y is =
    let heads : z ≡ w = cc in
    let tails : a ++ x ∷ [] ≡ b ++ y ∷ [] = cc in
    ap₂ (λ h t. h ∷ t) heads (same_front_of a b x y tails)

empty_of : {A : Type 0} (l : List A) → length l ≤ 0 → l ≡ []
empty_of [] few = refl
empty_of (x ∷ l) few = absurd (omega (arith, few))

-- the last of two lists behind one another is that of the second, or that of the first where the second is empty
pub last_of_both : {A : Type 0} (xs ys front : List A) (last : A) → xs ++ ys ≡ front ++ last ∷ [] → (xs ≡ front ++ last ∷ []) ⊎ ((more : List A) × (ys ≡ more ++ last ∷ []) × (front ≡ xs ++ more))
last_of_both [] ys front last is = inr (front, is, refl)
last_of_both (x ∷ xs) ys [] last is =
    let none : xs ≡ [] = empty_of xs (omega (arith, ap length is, length-append xs ys)) in
    let same : x ≡ last = cc in
    inl (ap₂ (λ h t. h ∷ t) same none)
last_of_both (x ∷ xs) ys (z ∷ front) last is =
    let heads : x ≡ z = cc in
    let tails : xs ++ ys ≡ front ++ last ∷ [] = cc in
    ⊎_elim (λ first. inl (ap₂ (λ h t. h ∷ t) heads first)) (λ more. inr (more.0, more.1, ap₂ (λ h t. h ∷ t) (sym heads) more.2)) (last_of_both xs ys front last tails)

-- ---- what the events make

-- before any event
abbrev pub before_all : Intake → Served
before_all i = record { intake = i; replies = []; shut = []; stop = None }

-- what events make, behind these replies and closings
abbrev pub behind : List Reply → List (ℕ × ℕ) → Served → Served
behind replies shut s = record { intake = s.intake; replies = replies ++ s.replies; shut = shut ++ counted_from (length replies) s.shut; stop = s.stop }

grown_behind : (r : List Reply) (c : List (ℕ × ℕ)) (s : Served) (h : Handled) → grown (behind r c s) h ≡ behind r c (grown s h)
grown_behind r c s h =
    let one = option_to_list h.answer.reply in
    let replies : (r ++ s.replies) ++ one ≡ r ++ (s.replies ++ one) = append_assoc r s.replies one in
    let count : length ((r ++ s.replies) ++ one) ≡ length r + length (s.replies ++ one) = ap (λ (l : List Reply). length l) replies ∙ length-append r (s.replies ++ one) in
    let last : closing (length ((r ++ s.replies) ++ one)) h.answer.shut ≡ counted_from (length r) (closing (length (s.replies ++ one)) h.answer.shut) =
    ap (λ n. closing n h.answer.shut) count ∙ sym (counted_closing (length r) (length (s.replies ++ one)) h.answer.shut) in
    let shut : (c ++ counted_from (length r) s.shut) ++ closing (length ((r ++ s.replies) ++ one)) h.answer.shut ≡ c ++ counted_from (length r) (s.shut ++ closing (length (s.replies ++ one)) h.answer.shut) =
    ap (λ l. (c ++ counted_from (length r) s.shut) ++ l) last ∙ append_assoc c (counted_from (length r) s.shut) (counted_from (length r) (closing (length (s.replies ++ one)) h.answer.shut))
    ∙ ap (λ l. c ++ l) (sym (map-append (λ (x : ℕ × ℕ). (x.0, length r + x.1)) s.shut (closing (length (s.replies ++ one)) h.answer.shut))) in
    ap₂ (λ (x : List Reply) (y : List (ℕ × ℕ)). record { intake = h.intake; replies = x; shut = y; stop = h.answer.stop }) replies shut

on_behind : (o : Option Stop) (l : Limits) (conf : Conf) (r : List Reply) (c : List (ℕ × ℕ)) (s : Served) (e : WireEvent) → served_on o l conf (behind r c s) e ≡ behind r c (served_on o l conf s e)
on_behind None l conf r c s e = grown_behind r c s (handled l conf s.intake e)
on_behind (Some x) l conf r c s e = refl

from_behind : (l : Limits) (conf : Conf) (r : List Reply) (c : List (ℕ × ℕ)) (s : Served) (es : List WireEvent) → served_from l conf (behind r c s) es ≡ behind r c (served_from l conf s es)
from_behind l conf r c s [] = refl
from_behind l conf r c s (e ∷ es) = ap (λ (t : Served). served_from l conf t es) (on_behind s.stop l conf r c s e) ∙ from_behind l conf r c (served_on s.stop l conf s e) es

is_behind : (s : Served) → s.stop ≡ None → s ≡ behind s.replies s.shut (before_all s.intake)
is_behind s none =
    ap₂ (λ (x : List Reply) (y : List (ℕ × ℕ)). record { intake = s.intake; replies = x; shut = y; stop = s.stop }) (sym (append-nil s.replies)) (sym (append-nil s.shut))
    ∙ ap (λ (o : Option Stop). record { intake = s.intake; replies = s.replies ++ []; shut = s.shut ++ []; stop = o }) none

-- what events make and more behind them, of which none stopped
pub served_both : (l : Limits) (conf : Conf) (i : Intake) (a b : List WireEvent) → (served l conf i a).stop ≡ None
    → served l conf i (a ++ b) ≡ behind (served l conf i a).replies (served l conf i a).shut (served l conf (served l conf i a).intake b)
served_both l conf i a b none =
    let s = served l conf i a in
    served_from-append l conf (before_all i) a b ∙ ap (λ (t : Served). served_from l conf t b) (is_behind s none) ∙ from_behind l conf s.replies s.shut (before_all s.intake) b

-- the same where more begin at an intake that events came to
pub served_then : (l : Limits) (conf : Conf) (i now : Intake) (a b : List WireEvent) → (served l conf i a).stop ≡ None → now ≡ (served l conf i a).intake
    → served l conf i (a ++ b) ≡ behind (served l conf i a).replies (served l conf i a).shut (served l conf now b)
served_then l conf i now a b none is =
    served_both l conf i a b none ∙ ap (λ (x : Intake). behind (served l conf i a).replies (served l conf i a).shut (served l conf x b)) (sym is)

-- ---- a disk that refuses a group of the later ones

-- what some events make where the disk refuses no group, they make where it refuses the next one
pub same_before : (limits : Limits) (conf : Conf) (begun now : Intake) (taken : List WireEvent) (s : Option Stop) → now ≡ (served (refusing limits 0) conf begun taken).intake
    → served (refusing limits (refused_group now s)) conf begun taken ≡ served (refusing limits 0) conf begun taken
same_before limits conf begun now taken None is = refl
same_before limits conf begun now taken (Some stop.Closed) is = refl
same_before limits conf begun now taken (Some stop.DiskFault) is = served_same limits conf begun taken (now.groups + 1) (omega (arith, ap (λ (i : Intake). i.groups) is))
same_before limits conf begun now taken (Some (stop.Full entries bytes)) is = refl

-- a group is refused only by a fault of the disk
pub refused_is : (i : Intake) (s : Option Stop) → (refused_group i s ≡ 0) ⊎ (s ≡ Some stop.DiskFault)
refused_is i None = inl refl
refused_is i (Some stop.Closed) = inl refl
refused_is i (Some stop.DiskFault) = inr refl
refused_is i (Some (stop.Full entries bytes)) = inl refl

module _ (limits : Limits) (conf : Conf) (recovered : List Numbered) (begun : Intake) (a b : List WireEvent) (n : ℕ) (same : served (refusing limits n) conf begun a ≡ served (refusing limits 0) conf begun a) where
  -- what events reached, they reach with more behind them
  pub reached_before : (less : (es : List WireEvent) (more : List WireEvent) → a ≡ es ++ more → served (refusing limits n) conf begun es ≡ served (refusing limits 0) conf begun es)
      → (es : List Numbered) → IsReached (refusing limits 0) conf recovered begun a es → IsReached (refusing limits n) conf recovered begun (a ++ b) es
  reached_before less es (inl is) = inl is
  reached_before less es (inr (inl (first, rest, all, is))) =
      inr (inl (first, rest ++ b, ap (λ l. l ++ b) all ∙ append_assoc first rest b, is ∙ ap (λ (s : Served). s.intake.entries) (sym (less first rest all))))
  reached_before less es (inr (inr is)) = inr (inl (a, b, refl, is ∙ ap (λ (s : Served). s.intake.entries) (sym same)))

  -- and so they do what those behind them reached
  pub reached_then : (now : Intake) → now ≡ (served (refusing limits 0) conf begun a).intake → (served (refusing limits 0) conf begun a).stop ≡ None
      → (es : List Numbered) → IsReached (refusing limits n) conf now.entries now b es → IsReached (refusing limits n) conf recovered begun (a ++ b) es
  reached_then now is none es (inl start) = inr (inl (a, b, refl, start ∙ ap (λ (i : Intake). i.entries) is ∙ ap (λ (s : Served). s.intake.entries) (sym same)))
  reached_then now is none es (inr (inl (first, rest, all, entries))) =
      let here : now ≡ (served (refusing limits n) conf begun a).intake = is ∙ ap (λ (s : Served). s.intake) (sym same) in
      let running : (served (refusing limits n) conf begun a).stop ≡ None = ap (λ (s : Served). s.stop) same ∙ none in
      inr (inl (a ++ first, rest, ap (λ l. a ++ l) all ∙ sym (append_assoc a first rest), entries ∙ ap (λ (s : Served). s.intake.entries) (sym (served_then (refusing limits n) conf begun now a first running here))))
  reached_then now is none es (inr (inr entries)) = inr (inr (entries ∙ ap (λ (s : Served). s.intake.entries) (sym (served_then (refusing limits 0) conf begun now a b none is))))

-- events in front of those that came to an intake make the same where the disk refuses its next group
pub same_front : (limits : Limits) (conf : Conf) (begun now : Intake) (taken : List WireEvent) (s : Option Stop) → now ≡ (served (refusing limits 0) conf begun taken).intake
    → (es more : List WireEvent) → taken ≡ es ++ more → served (refusing limits (refused_group now s)) conf begun es ≡ served (refusing limits 0) conf begun es
same_front limits conf begun now taken None is es more all = refl
same_front limits conf begun now taken (Some stop.Closed) is es more all = refl
same_front limits conf begun now taken (Some stop.DiskFault) is es more all =
    let bound : (served (refusing limits 0) conf begun es).intake.groups < now.groups + 1 =
    omega (arith, front_groups (refusing limits 0) conf begun es more, ap (λ (l : List WireEvent). (served (refusing limits 0) conf begun l).intake.groups) all, ap (λ (i : Intake). i.groups) is) in
    served_same limits conf begun es (now.groups + 1) bound
same_front limits conf begun now taken (Some (stop.Full entries bytes)) is es more all = refl

-- events that stop only at their last, behind others that do: the same holds of all
pub runs_on_both : (limits : Limits) (conf : Conf) (begun now : Intake) (a b : List WireEvent) → (served (refusing limits 0) conf begun a).stop ≡ None → now ≡ (served (refusing limits 0) conf begun a).intake
    → RunsOn limits conf begun a → RunsOn limits conf now b → RunsOn limits conf begun (a ++ b)
runs_on_both limits conf begun now a b running is first then = λ front last all.
    ⊎_elim (λ there. first front last there)
    (λ more. ap (λ (es : List WireEvent). (served (refusing limits 0) conf begun es).stop) more.2 ∙ ap (λ (s : Served). s.stop) (served_then (refusing limits 0) conf begun now a more.0 running is) ∙ then more.0 last more.1)
    (last_of_both a b front last all)
