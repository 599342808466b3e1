-- Patterns at their places.
use Rattle.std.proofs.Common.{◌≡◌, ℕ, ◌+◌, ◌<◌, ◌≤◌, Bool, true, false, not, List, length, get_or, Some, None, cond, refl, ap, ◌∙◌, inl, inr, ◌⊎◌, arith, Contains, unwrap_or, option_map}
use Rattle.std.specs.List.{position_or_len}
use Rattle.std.specs.Str.{bytes_eq}
use Rattle.std.proofs.lemmas.Bool.{cases_lt, lt-ltb}
use Rattle.std.proofs.lemmas.List.Sums.{prefix_len_passes, prefix_len_stops}
use Rattle.std.proofs.lemmas.Slice.Eq.{bytes_eq-Decides}
use Rattle.zbx_types.specs.Ids.{at_id}
use Rattle.pattern_set.specs.Places.{place_of}
use Rattle.pattern_set.proofs.Placing.{at_next}

-- whether a text is this one
abbrev pub is_it : List ℕ → List ℕ → Bool
is_it text other = bytes_eq other text

passes : (b : Bool) → not b ≡ false → b ≡ true
passes true h = refl
passes false h = cc

-- the first place of a text that is there lies no further than another one of its
not_beyond : (texts : List (List ℕ)) (text : List ℕ) (k : ℕ) → get_or texts k text ≡ text → position_or_len (is_it text) texts ≤ k
not_beyond texts text k same = go (cases_lt k (position_or_len (is_it text) texts))
  where
    found : is_it text (get_or texts k text) ≡ true
    found = (bytes_eq-Decides (get_or texts k text) text).1 same

    go : (k < position_or_len (is_it text) texts) ⊎ (position_or_len (is_it text) texts ≤ k) → position_or_len (is_it text) texts ≤ k
    go (inl below) = absurd (let other = prefix_len_passes (λ x. not (is_it text x)) texts k text below in let both = rw found at other in cc)
    go (inr le) = le

-- the pattern at the place of a text that is there is that text
pub placed : (texts : List (List ℕ)) (text : List ℕ) → Contains texts text → at_id texts (place_of text texts) ≡ Some text
placed texts text h =
    let first = position_or_len (is_it text) texts in
    let within : first < length texts = omega (arith, not_beyond texts text h.0 h.2, h.1) in
    let here : get_or texts first text ≡ text = (bytes_eq-Decides (get_or texts first text) text).0 (passes _ (prefix_len_stops (λ x. not (is_it text x)) texts text within)) in
    let place : place_of text texts ≡ first + 1 = ap (λ b. unwrap_or (option_map (λ index. index + 1) (cond b (Some first) None)) 0) (lt-ltb first (length texts) within) in
    ap (at_id texts) place ∙ at_next texts first text within ∙ ap Some here
