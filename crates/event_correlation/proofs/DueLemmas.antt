-- What closes at the rule at a place, out of the places of first rules.
use Rattle.std.proofs.Common.{◌≡◌, ◌∙◌, ℕ, zero, suc, ◌+◌, ◌<◌, Bool, true, false, not, ◌&&◌, ◌||◌, cond, List, [], ◌∷◌, ◌++◌, map, length, get_or, take, drop, Option, Some, None, refl, sym, ap, append_assoc, arith}
use Rattle.std.specs.Prelude.{◌==◌, filter}
use Rattle.std.specs.List.{list_any, position_from, cons_option}
use Rattle.std.proofs.lemmas.Bool.{eq-eqb, ne_eqb}
use Rattle.std.proofs.Math.Seq.{take-suc, drop-cons}
use Rattle.zbx_types.specs.Records.{event_of}
use Rattle.zbx_types.specs.declared.entries.EventId.{EventId}
use Rattle.zbx_types.specs.declared.entries.Rec.{Rec}
use Rattle.zbx_types.specs.declared.rules.Rule.{Rule}
use Rattle.event_correlation.specs.Closings.{closes_old, closes_first, closed_from}
use Rattle.event_correlation.specs.Due.{due_at, due_of, events_at}
use Rattle.event_correlation.specs.declared.due.Due.{Due}

-- the events that the rules from a place on close
abbrev pub rest_closed : (Rule → Rec → Bool) → List Rec → ℕ → List Rule → List EventId
rest_closed m old place rules = map event_of (closed_from m old (take place rules) (drop place rules))

-- a place is the named one
abbrev is_place : ℕ → Option ℕ → Bool
is_place n None = false
is_place n (Some m) = m == n

early_head : (b : Bool) (n from : ℕ) (rest : Option ℕ) → n < from → is_place n rest ≡ false → is_place n (cond b (Some from) rest) ≡ false
early_head true n from rest h e = ne_eqb from n (λ same. absurd (omega arith))
early_head false n from rest h e = e

too_early : {X : Type 0} (p : X → Bool) (n from : ℕ) (xs : List X) → n < from → is_place n (position_from p from xs) ≡ false
too_early p n from [] h = refl
too_early p n from (x ∷ xs) h = early_head (p x) n from (position_from p (from + 1) xs) h (too_early p n (from + 1) xs (omega arith))

zero_head : (b : Bool) (from : ℕ) (rest : Option ℕ) → is_place (from + 0) rest ≡ false → is_place (from + 0) (cond b (Some from) rest) ≡ b
zero_head true from rest e = eq-eqb from (from + 0) (omega arith)
zero_head false from rest e = e

suc_head : (b : Bool) (from k : ℕ) (rest : Option ℕ) (q r : Bool) → is_place (from + suc k) rest ≡ (not q && r) → is_place (from + suc k) (cond b (Some from) rest) ≡ (not (b || q) && r)
suc_head true from k rest q r e = ne_eqb from (from + suc k) (λ same. absurd (omega arith))
suc_head false from k rest q r e = e

place_from : {X : Type 0} (p : X → Bool) (from k : ℕ) (xs : List X) (d : X) → k < length xs → is_place (from + k) (position_from p from xs) ≡ (not (list_any p (take k xs)) && p (get_or xs k d))
place_from p from k [] d h = absurd (omega arith)
place_from p from zero (x ∷ xs) d h = zero_head (p x) from (position_from p (from + 1) xs) (too_early p (from + 0) (from + 1) xs (omega arith))
place_from p from (suc k) (x ∷ xs) d h =
    let e : from + 1 + k ≡ from + suc k = omega arith in
    let short : k < length xs = omega arith in
    suc_head (p x) from k (position_from p (from + 1) xs) (list_any p (take k xs)) (p (get_or xs k d)) (rw e at (place_from p (from + 1) k xs d short))

-- the first element that passes stands at a place: it passes, and none before it does
first_place : {X : Type 0} (p : X → Bool) (k : ℕ) (xs : List X) (d : X) → k < length xs → is_place k (position_from p 0 xs) ≡ (not (list_any p (take k xs)) && p (get_or xs k d))
first_place p k xs d h = let e : 0 + k ≡ k = omega arith in rw e at (place_from p 0 k xs d h)

map_head : {X Y : Type 0} (f : X → Y) (b : Bool) (x : X) (xs : List X) → map f (cond b (x ∷ xs) xs) ≡ cond b (f x ∷ map f xs) (map f xs)
map_head f true x xs = refl
map_head f false x xs = refl

events_head : (place : ℕ) (o : Rec) (at : Option ℕ) (rest : List Due) → events_at place (cons_option (due_at o at) rest) ≡ cond (is_place place at) (event_of o ∷ events_at place rest) (events_at place rest)
events_head place o None rest = refl
events_head place o (Some n) rest = map_head (λ (one : Due). one.event) (n == place) (record { place = n; event = event_of o }) (filter (λ one. one.place == place) rest)

-- what closes at the rule at a place is what that rule closes first
closes_at : (m : Rule → Rec → Bool) (rules : List Rule) (place : ℕ) (d : Rule) → place < length rules → (old : List Rec)
    → events_at place (due_of m rules old) ≡ map event_of (filter (closes_first m (take place rules) (get_or rules place d)) old)
closes_at m rules place d h [] = refl
closes_at m rules place d h (o ∷ os) =
    let first = first_place (closes_old m o) place rules d h in
    let head = events_head place o (position_from (closes_old m o) 0 rules) (due_of m rules os) in
    let rest = closes_at m rules place d h os in
    let made = map_head event_of (closes_first m (take place rules) (get_or rules place d) o) o (filter (closes_first m (take place rules) (get_or rules place d)) os) in
    head ∙ (rw (first, rest) (sym made))

map_append : {X Y : Type 0} (f : X → Y) (xs ys : List X) → map f (xs ++ ys) ≡ map f xs ++ map f ys
map_append f [] ys = refl
map_append f (x ∷ xs) ys = ap (λ zs. f x ∷ zs) (map_append f xs ys)

-- the rules from a place on close what closes at the place, and then what those behind it close
pub rest_step : (m : Rule → Rec → Bool) (old : List Rec) (place : ℕ) (rules : List Rule) (d : Rule) → place < length rules
    → rest_closed m old place rules ≡ events_at place (due_of m rules old) ++ rest_closed m old (suc place) rules
rest_step m old place rules d h =
    let here = get_or rules place d in
    let split = drop-cons rules place d h in
    let grown = take-suc rules place d h in
    let at = closes_at m rules place d h old in
    let joined = map_append event_of (filter (closes_first m (take place rules) here) old) (closed_from m old (take place rules ++ here ∷ []) (drop (suc place) rules)) in
    ap (λ rest. map event_of (closed_from m old (take place rules) rest)) split ∙ joined ∙ rw (at, grown) refl

pub step_kept : (m : Rule → Rec → Bool) (old : List Rec) (place : ℕ) (rules : List Rule) (whole closed next : List EventId) (due : List Due) → place < length rules
    → due ≡ due_of m rules old → next ≡ closed ++ events_at place due → closed ++ rest_closed m old place rules ≡ whole → next ++ rest_closed m old (place + 1) rules ≡ whole
step_kept m old place [] whole closed next due below e f kept = absurd (omega arith)
step_kept m old place (rule ∷ rules) whole closed next due below e f kept =
    let up : place + 1 ≡ suc place = omega arith in
    let here = rest_step m old place (rule ∷ rules) rule below in
    let regrouped = append_assoc closed (events_at place (due_of m (rule ∷ rules) old)) (rest_closed m old (suc place) (rule ∷ rules)) in
    rw (up, f, e) (regrouped ∙ sym (ap (λ rest. closed ++ rest) here) ∙ kept)
