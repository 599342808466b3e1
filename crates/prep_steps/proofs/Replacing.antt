-- Laws of texts in which each occurrence of another is replaced.
use Rattle.std.proofs.Common.{◌≡◌, ℕ, zero, suc, ◌-◌, ◌<◌, ◌≢◌, Bool, true, false, List, [], ◌∷◌, ◌++◌, length, drop, nat_eq, cond, refl, ap, subst, ◌∙◌, arith, Option, Some, None, MatchOption, Bor}
use Rattle.std.specs.List.{starts_with}
use Rattle.std.specs.Str.Pattern.{LacksTextAt, FindsText, SplitsAroundMatch}
use Rattle.std.proofs.lemmas.Bool.Decides.{Decides-eqb}
use Rattle.std.proofs.lemmas.Slice.Eq.{starts_is}
use Rattle.std.proofs.lemmas.Str.Pattern.{split_text_parts}
use Rattle.prep_steps.specs.Words.{replaced_behind}

begins : (text search : List ℕ) → starts_with nat_eq text search ≡ true → text ≡ search ++ drop (length search) text
begins text search h = (starts_is Decides-eqb text search (starts_with nat_eq text search) refl).0 h

does_begin : (text search rest : List ℕ) → text ≡ search ++ rest → starts_with nat_eq text search ≡ true
does_begin text search rest e = (starts_is Decides-eqb text search (starts_with nat_eq text search) refl).1 rest e

-- a text that doesn't begin with another one
does_not_begin : (text search : List ℕ) → ((rest : List ℕ) → text ≢ search ++ rest) → starts_with nat_eq text search ≡ false
does_not_begin text search h = go (starts_with nat_eq text search) refl
  where
    go : (b : Bool) → starts_with nat_eq text search ≡ b → starts_with nat_eq text search ≡ false
    go true e = absurd (h (drop (length search) text) (begins text search e))
    go false e = e

-- the rest of an occurrence is left out
rest_left_out : (search other front behind : List ℕ) → replaced_behind (length front) search other (front ++ behind) ≡ replaced_behind zero search other behind
unfolding replaced_behind
rest_left_out search other [] behind = refl
rest_left_out search other (c ∷ front) behind = rest_left_out search other front behind

-- no occurrence: nothing is replaced
pub none_replaced : (search other text : List ℕ) → ((front behind : List ℕ) → text ≢ front ++ (search ++ behind)) → replaced_behind zero search other text ≡ text
unfolding replaced_behind
none_replaced search other [] h = refl
none_replaced search other (c ∷ rest) h =
    ap (λ b. cond b (other ++ replaced_behind (length search - 1) search other rest) (c ∷ replaced_behind zero search other rest)) (does_not_begin (c ∷ rest) search (h []))
    ∙ ap (λ t. c ∷ t) (none_replaced search other rest (λ front behind e. h (c ∷ front) behind (ap (λ t. c ∷ t) e)))

-- an occurrence at the front
front_replaced : (d : ℕ) (ds other behind : List ℕ)
    → replaced_behind zero (d ∷ ds) other ((d ∷ ds) ++ behind) ≡ other ++ replaced_behind zero (d ∷ ds) other behind
unfolding replaced_behind
front_replaced d ds other behind =
    ap (λ b. cond b (other ++ replaced_behind (length (d ∷ ds) - 1) (d ∷ ds) other (ds ++ behind)) (d ∷ replaced_behind zero (d ∷ ds) other (ds ++ behind))) (does_begin ((d ∷ ds) ++ behind) (d ∷ ds) behind refl)
    ∙ ap (λ n. other ++ replaced_behind n (d ∷ ds) other (ds ++ behind)) (less (length ds))
    ∙ ap (λ t. other ++ t) (rest_left_out (d ∷ ds) other ds behind)
  where
    less : (n : ℕ) → suc n - 1 ≡ n
    less n = omega arith

-- the first occurrence
pub first_replaced : (search other front behind : List ℕ) → 0 < length search
    → ((i : ℕ) → i < length front → LacksTextAt search (front ++ (search ++ behind)) i)
    → replaced_behind zero search other (front ++ (search ++ behind)) ≡ front ++ (other ++ replaced_behind zero search other behind)
unfolding replaced_behind
first_replaced [] other front behind some h = absurd (omega arith)
first_replaced (d ∷ ds) other [] behind some h = front_replaced d ds other behind
first_replaced (d ∷ ds) other (c ∷ front) behind some h =
    ap (λ b. cond b (other ++ replaced_behind (length (d ∷ ds) - 1) (d ∷ ds) other (front ++ ((d ∷ ds) ++ behind))) (c ∷ replaced_behind zero (d ∷ ds) other (front ++ ((d ∷ ds) ++ behind))))
    (does_not_begin (c ∷ (front ++ ((d ∷ ds) ++ behind))) (d ∷ ds) (h 0 (omega arith)))
    ∙ ap (λ t. c ∷ t) (first_replaced (d ∷ ds) other front behind some (λ i below. h (suc i) (omega arith)))

-- what a cut at the first occurrence gives
pub parts_replaced : (search text : List ℕ) (r : Option (Bor (List ℕ) × Bor (List ℕ))) → 0 < length search
    → MatchOption r (FindsText search text None) (λ x. SplitsAroundMatch (FindsText search) text x.0.now x.1.now) → (other : List ℕ)
    → MatchOption r (replaced_behind zero search other text ≡ text) (λ x. replaced_behind zero search other text ≡ x.0.now ++ (other ++ replaced_behind zero search other x.1.now))
parts_replaced sought text None some h other = none_replaced sought other text (split_text_parts sought text None h)
parts_replaced sought text (Some x) some h other =
    let whole : text ≡ x.0.now ++ (sought ++ x.1.now) = split_text_parts sought text (Some x) h in
    let lacks : (k : ℕ) → k < length x.0.now → LacksTextAt sought (x.0.now ++ (sought ++ x.1.now)) k =
    λ k below. subst (λ t. LacksTextAt sought t k) whole (h.2.0 k (omega (arith, h.6))) in
    ap (replaced_behind zero sought other) whole ∙ first_replaced sought other x.0.now x.1.now some lacks
