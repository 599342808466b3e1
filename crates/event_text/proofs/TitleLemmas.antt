-- Titles and values of tags, piece by piece.
use Rattle.std.proofs.Common.{◌≡◌, inl, ℕ, ◌<◌, List, [], ◌∷◌, ◌++◌, length, map, refl, sym, ap, subst, ◌∙◌, arith, Option, Some, None, All, Contains, ◌+◌, length-append, get_or, Result, Ok, Err, IfOk}
use Rattle.std.proofs.lemmas.List.{append-nil, get_or_default, get_or_append_left, get_or-append-add}
use Rattle.event_text.specs.Cuts.{IsOnTheWay, Adds, Goes}
use Rattle.event_text.specs.declared.fronts.Front.{Front}
use Rattle.std.specs.List.{flat_map}
use Rattle.std.proofs.lemmas.List.Concat.{flat_map-append}
use Rattle.zbx_types.specs.declared.entries.Held.{Held}
use Rattle.event_text.specs.Pieces.{HasNo}
use Rattle.event_text.specs.Forms.{macro_at, macro_piece_at, pieces_of, pattern_of, piece_patterns, patterns_of}
use Rattle.event_text.specs.Titles.{macro_text, piece_text, expanded}
use Rattle.event_text.specs.declared.macros.Macro.{Macro}
use Rattle.event_text.proofs.PieceLemmas.{plain_pieces, none_in}
use Rattle.event_text.proofs.FormLemmas.{macro_piece, brace_piece}

bytes_stay : (host : List ℕ) (values : List (Option Held)) (plain : List ℕ) → flat_map (piece_text host values) (map inl plain) ≡ plain
bytes_stay host values [] = refl
bytes_stay host values (c ∷ plain) = ap (λ t. c ∷ t) (bytes_stay host values plain)

no_patterns : (plain : List ℕ) → flat_map piece_patterns (map inl plain) ≡ []
no_patterns [] = refl
no_patterns (c ∷ plain) = no_patterns plain

-- bytes before a brace stay
pub expanded_plain : (host : List ℕ) (values : List (Option Held)) (plain rest : List ℕ) → HasNo 123 plain
    → expanded host values (plain ++ rest) ≡ plain ++ expanded host values rest
unfolding expanded
expanded_plain host values plain rest free =
    ap (flat_map (piece_text host values)) (plain_pieces inl macro_piece_at plain rest free)
    ∙ flat_map-append (piece_text host values) (map inl plain) (pieces_of rest)
    ∙ ap (λ t. t ++ flat_map (piece_text host values) (pieces_of rest)) (bytes_stay host values plain)

pub patterns_plain : (plain rest : List ℕ) → HasNo 123 plain → patterns_of (plain ++ rest) ≡ patterns_of rest
unfolding patterns_of
patterns_plain plain rest free =
    ap (flat_map piece_patterns) (plain_pieces inl macro_piece_at plain rest free)
    ∙ flat_map-append piece_patterns (map inl plain) (pieces_of rest)
    ∙ ap (λ t. t ++ flat_map piece_patterns (pieces_of rest)) (no_patterns plain)

-- a macro is replaced
pub expanded_macro : (host : List ℕ) (values : List (Option Held)) (text after : List ℕ) (found : Macro) → macro_at text ≡ Some (found, after)
    → expanded host values (123 ∷ text) ≡ macro_text host values found ++ expanded host values after
unfolding expanded
expanded_macro host values text after found is = ap (flat_map (piece_text host values)) (macro_piece text after found is)

pub patterns_macro : (text after : List ℕ) (found : Macro) → macro_at text ≡ Some (found, after) → patterns_of (123 ∷ text) ≡ pattern_of found ++ patterns_of after
unfolding patterns_of
patterns_macro text after found is = ap (flat_map piece_patterns) (macro_piece text after found is)

-- a brace that begins none stays
pub expanded_brace : (host : List ℕ) (values : List (Option Held)) (text : List ℕ) → macro_at text ≡ None
    → expanded host values (123 ∷ text) ≡ 123 ∷ expanded host values text
unfolding expanded
expanded_brace host values text none = ap (flat_map (piece_text host values)) (brace_piece text none)

pub patterns_brace : (text : List ℕ) → macro_at text ≡ None → patterns_of (123 ∷ text) ≡ patterns_of text
unfolding patterns_of
patterns_brace text none = ap (flat_map piece_patterns) (brace_piece text none)

-- nothing stands for nothing
pub expanded_none : (host : List ℕ) (values : List (Option Held)) → expanded host values [] ≡ []
unfolding expanded
expanded_none host values = ap (flat_map (piece_text host values)) (none_in inl macro_piece_at)

pub patterns_none : patterns_of [] ≡ []
unfolding patterns_of
patterns_none = ap (flat_map piece_patterns) (none_in inl macro_piece_at)

-- what is among a list's front and its rest
pub among_left : (patterns xs ys all : List (List ℕ)) → all ≡ xs ++ ys → All (λ p. Contains patterns p) all → All (λ p. Contains patterns p) xs
among_left patterns xs ys all is known = λ k d below.
    let there : k < length (xs ++ ys) = omega (arith, length-append xs ys) in
    subst (λ p. Contains patterns p) (get_or_append_left xs ys d k below) (subst (λ t. All (λ p. Contains patterns p) t) is known k d there)

pub among_right : (patterns xs ys all : List (List ℕ)) → all ≡ xs ++ ys → All (λ p. Contains patterns p) all → All (λ p. Contains patterns p) ys
among_right patterns xs ys all is known = λ k d below.
    let there : length xs + k < length (xs ++ ys) = omega (arith, length-append xs ys) in
    subst (λ p. Contains patterns p) (get_or-append-add xs ys k d) (subst (λ t. All (λ p. Contains patterns p) t) is known (length xs + k) d there)

-- a front goes on by a text and then to a rest
pub goes_ok : {A E : Type 0} (r : Result A E) (old mid new : Front) (plain behind all : List ℕ) (more : A → List ℕ) → all ≡ plain ++ behind → Adds old plain mid
    → IfOk r (λ rest. Goes mid behind new (more rest)) → IfOk r (λ rest. Goes old all new (more rest))
goes_ok (Ok rest) old mid new plain behind all more split adds goes = λ limit whole arrives.
    goes limit whole (adds limit behind whole (subst (λ t. IsOnTheWay limit old t whole) split arrives))
goes_ok (Err e) old mid new plain behind all more split adds goes = tt

pub expanded_empty : (host : List ℕ) (values : List (Option Held)) (text : List ℕ) → length text ≡ 0 → expanded host values text ≡ []
expanded_empty host values [] empty = expanded_none host values
expanded_empty host values (c ∷ rest) empty = absurd (omega arith)

pub patterns_free : (text : List ℕ) → HasNo 123 text → patterns_of text ≡ []
patterns_free text free = ap patterns_of (sym (append-nil text)) ∙ patterns_plain text [] free ∙ patterns_none

-- each item of a list is in it
pub all_among : (xs : List (List ℕ)) → All (λ p. Contains xs p) xs
all_among xs = λ k d below. (k, below, get_or_default xs k (get_or xs k d) d below)
