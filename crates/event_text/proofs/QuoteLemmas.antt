-- Texts in quotes, part by part.
use Rattle.std.proofs.Common.{◌≡◌, ◌≢◌, ℕ, zero, suc, ◌==◌, ◌&&◌, Bool, true, false, cond, List, [], ◌∷◌, ◌++◌, refl, sym, ap, subst, ◌∙◌, arith, append_assoc, Option, Some, None, option_map}
use Rattle.std.proofs.lemmas.Bool.{ne_eqb}
use Rattle.event_text.specs.Pieces.{HasNo}
use Rattle.event_text.specs.Forms.{prefixed, joined, unquoted}

and_false : (b : Bool) → (b && false) ≡ false
and_false true = refl
and_false false = refl

and_left : (a b : Bool) → a ≡ false → (a && b) ≡ false
and_left a b e = ap (λ x. x && b) e

and_right : (a b : Bool) → b ≡ false → (a && b) ≡ false
and_right a b e = ap (λ x. a && x) e ∙ and_false a

map_twice : (f g : List ℕ × List ℕ → List ℕ × List ℕ) (o : Option (List ℕ × List ℕ)) → option_map f (option_map g o) ≡ option_map (λ r. f (g r)) o
map_twice f g None = refl
map_twice f g (Some r) = refl

-- a byte that is no quote, nor a backslash before one
step : (c d : ℕ) (rest : List ℕ) → c ≢ 34 → (c == 92 && d == 34) ≡ false → unquoted (c ∷ d ∷ rest) ≡ option_map (prefixed c) (unquoted (d ∷ rest))
unfolding unquoted
step c d rest plain other =
    ap (λ b. cond b (Some ([], d ∷ rest)) (cond (c == 92 && d == 34) (option_map (prefixed 34) (unquoted rest)) (option_map (prefixed c) (unquoted (d ∷ rest))))) (ne_eqb c 34 plain)
    ∙ ap (λ b. cond b (option_map (prefixed 34) (unquoted rest)) (option_map (prefixed c) (unquoted (d ∷ rest)))) other

closes : (rest : List ℕ) → unquoted (34 ∷ rest) ≡ Some ([], rest)
unfolding unquoted
closes [] = refl
closes (d ∷ rest) = refl

escapes : (rest : List ℕ) → unquoted (92 ∷ 34 ∷ rest) ≡ option_map (prefixed 34) (unquoted rest)
unfolding unquoted
escapes rest = refl

later : (c d : ℕ) (text : List ℕ) → HasNo d (c ∷ text) → HasNo d text
later c d text free = λ i below. free (suc i) (omega arith)

-- without a quote nothing closes
pub never_closed : (text : List ℕ) → HasNo 34 text → unquoted text ≡ None
unfolding unquoted
never_closed [] free = refl
never_closed (c ∷ []) free = ap (λ b. cond b (Some ([], [])) None) (ne_eqb c 34 (free 0 (omega arith)))
never_closed (c ∷ d ∷ rest) free =
    step c d rest (free 0 (omega arith)) (and_right (c == 92) (d == 34) (ne_eqb d 34 (free 1 (omega arith))))
    ∙ ap (λ o. option_map (prefixed c) o) (never_closed (d ∷ rest) (later c 34 (d ∷ rest) free))

-- a quote that isn't after a backslash closes
pub closed_here : (part rest : List ℕ) → HasNo 34 part → ((front : List ℕ) → part ≢ front ++ 92 ∷ []) → unquoted (part ++ 34 ∷ rest) ≡ Some (part, rest)
closed_here [] rest free last = closes rest
closed_here (c ∷ []) rest free last =
    step c 34 rest (free 0 (omega arith)) (and_left (c == 92) (34 == 34) (ne_eqb c 92 (λ e. last [] (ap (λ b. b ∷ []) e))))
    ∙ ap (λ o. option_map (prefixed c) o) (closes rest)
closed_here (c ∷ d ∷ part) rest free last =
    step c d (part ++ 34 ∷ rest) (free 0 (omega arith)) (and_right (c == 92) (d == 34) (ne_eqb d 34 (free 1 (omega arith))))
    ∙ ap (λ o. option_map (prefixed c) o)
    (closed_here (d ∷ part) rest (later c 34 (d ∷ part) free) (λ front e. last (c ∷ front) (ap (λ t. c ∷ t) e)))

-- one after a backslash stands for itself
pub escaped_here : (kept rest : List ℕ) → HasNo 34 kept → unquoted (kept ++ 92 ∷ 34 ∷ rest) ≡ option_map (λ r. (kept ++ 34 ∷ r.0, r.1)) (unquoted rest)
escaped_here [] rest free = escapes rest
escaped_here (c ∷ []) rest free =
    step c 92 (34 ∷ rest) (free 0 (omega arith)) (and_false (c == 92))
    ∙ ap (λ o. option_map (prefixed c) o) (escapes rest) ∙ map_twice (prefixed c) (prefixed 34) (unquoted rest)
escaped_here (c ∷ d ∷ kept) rest free =
    step c d (kept ++ 92 ∷ 34 ∷ rest) (free 0 (omega arith)) (and_right (c == 92) (d == 34) (ne_eqb d 34 (free 1 (omega arith))))
    ∙ ap (λ o. option_map (prefixed c) o) (escaped_here (d ∷ kept) rest (later c 34 (d ∷ kept) free))
    ∙ map_twice (prefixed c) (λ r. (d ∷ kept ++ 34 ∷ r.0, r.1)) (unquoted rest)

front_free : (kept : List ℕ) → HasNo 34 (kept ++ 92 ∷ []) → HasNo 34 kept
front_free [] free = λ i below. absurd (omega arith)
front_free (c ∷ kept) free = go (front_free kept (later c 34 (kept ++ 92 ∷ []) free)) where
  go : HasNo 34 kept → HasNo 34 (c ∷ kept)
  go rest zero below = free 0 (omega arith)
  go rest (suc i) below = rest i (omega arith)

pub closed_part : (part made new rest : List ℕ) → HasNo 34 part → ((front : List ℕ) → part ≢ front ++ 92 ∷ []) → new ≡ made ++ part
    → option_map (joined made) (unquoted (part ++ 34 ∷ rest)) ≡ Some (new, rest)
closed_part part made new rest free last is =
    ap (λ o. option_map (joined made) o) (closed_here part rest free last) ∙ ap (λ t. Some (t, rest)) (sym is)

pub escaped_part : (part kept made new rest : List ℕ) → HasNo 34 part → part ≡ kept ++ 92 ∷ [] → new ≡ made ++ (kept ++ 34 ∷ [])
    → option_map (joined made) (unquoted (part ++ 34 ∷ rest)) ≡ option_map (joined new) (unquoted rest)
escaped_part part kept made new rest free whole is =
    let at : part ++ 34 ∷ rest ≡ kept ++ 92 ∷ 34 ∷ rest = ap (λ t. t ++ 34 ∷ rest) whole ∙ append_assoc kept (92 ∷ []) (34 ∷ rest) in
    let some : HasNo 34 kept = front_free kept (subst (HasNo 34) whole free) in
    ap (λ t. option_map (joined made) (unquoted t)) at
    ∙ ap (λ o. option_map (joined made) o) (escaped_here kept rest some)
    ∙ map_twice (joined made) (λ r. (kept ++ 34 ∷ r.0, r.1)) (unquoted rest)
    ∙ as_new (unquoted rest)
  where
    shown : (t : List ℕ) → made ++ (kept ++ 34 ∷ t) ≡ new ++ t
    shown t = ap (λ u. made ++ u) (sym (append_assoc kept (34 ∷ []) t)) ∙ sym (append_assoc made (kept ++ 34 ∷ []) t) ∙ ap (λ u. u ++ t) (sym is)

    as_new : (o : Option (List ℕ × List ℕ)) → option_map (λ r. joined made (kept ++ 34 ∷ r.0, r.1)) o ≡ option_map (joined new) o
    as_new None = refl
    as_new (Some r) = ap (λ t. Some (t, r.1)) (shown r.0)

pub same_joined : (o : Option (List ℕ × List ℕ)) → option_map (joined []) o ≡ o
same_joined None = refl
same_joined (Some r) = refl
