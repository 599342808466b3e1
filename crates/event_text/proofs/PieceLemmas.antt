-- Texts with macros, piece by piece.
use Rattle.std.proofs.Common.{◌≡◌, ◌≢◌, ℕ, zero, suc, ◌+◌, ◌-◌, ◌<◌, true, false, cond, List, [], ◌∷◌, ◌++◌, length, take, drop, map, nat_eq, refl, sym, ap, ◌∙◌, arith, append_assoc, Option, Some, None, option_map, MatchOption, Bor}
use Rattle.std.specs.List.{starts_with}
use Rattle.std.specs.Option.{option_map_or}
use Rattle.std.specs.Str.Pattern.{FindsTextPrefix, StripsPrefix}
use Rattle.std.proofs.lemmas.Bool.{ne_eqb}
use Rattle.std.proofs.lemmas.Bool.Decides.{Decides-eqb}
use Rattle.std.proofs.lemmas.List.{drop_at, take-append-drop, length-append}
use Rattle.std.proofs.lemmas.Slice.Eq.{starts_is}
use Rattle.zbx_types.proofs.Truths.{isnt_true}
use Rattle.event_text.specs.Pieces.{behind, opened, piece_at, passed_at, pieces_behind, pieces_in, HasNo, EndsWith}

-- a text begins with a word just where the word and something else are the text
pub begins : (text word rest : List ℕ) → text ≡ word ++ rest → starts_with nat_eq text word ≡ true
begins text word rest is = (starts_is Decides-eqb text word (starts_with nat_eq text word) refl).1 rest is

pub begins_not : (text word : List ℕ) → ((rest : List ℕ) → text ≢ word ++ rest) → starts_with nat_eq text word ≡ false
begins_not text word lacks =
    isnt_true (starts_with nat_eq text word)
    (λ yes. lacks (drop (length word) text) ((starts_is Decides-eqb text word (starts_with nat_eq text word) refl).0 yes))

-- what stripping a word gives
pub stripped : (text word : List ℕ) (r : Option (Bor (List ℕ)))
    → MatchOption r (FindsTextPrefix word text None) (λ x. StripsPrefix (FindsTextPrefix word) text x.now)
    → option_map (λ x. x.now) r ≡ behind word text
unfolding behind
stripped text word None h = sym (ap (λ b. cond b (Some (drop (length word) text)) None) (begins_not text word h))
stripped text word (Some x) h =
    ap (λ t. Some t) (h.2 ∙ ap (λ n. drop n text) h.1.0)
    ∙ sym (ap (λ b. cond b (Some (drop (length word) text)) None) (begins text word (drop h.0 text) h.1.1))

-- ends of texts
pub ends_more : (text mid rest : List ℕ) → EndsWith text mid → EndsWith mid rest → EndsWith text rest
ends_more text mid rest first second =
    (first.0 ++ second.0, first.1 ∙ ap (λ t. first.0 ++ t) second.1 ∙ sym (append_assoc first.0 second.0 rest))

pub ends_drop : (text : List ℕ) (n : ℕ) → EndsWith text (drop n text)
ends_drop text n = (take n text, sym (take-append-drop n text))

pub ends_behind : (c : ℕ) (text rest : List ℕ) → EndsWith text rest → EndsWith (c ∷ text) rest
ends_behind c text rest ends = (c ∷ ends.0, ap (λ t. c ∷ t) ends.1)

dropped : (text front rest : List ℕ) → text ≡ front ++ rest → drop (length text - length rest) text ≡ rest
dropped text front rest is =
    let size : length text ≡ length front + length rest = ap length is ∙ length-append front rest in
    let n : length text - length rest ≡ length front = omega (arith, size) in
    ap (λ k. drop k text) n ∙ ap (λ t. drop (length front) t) is ∙ drop_at front rest (length front) refl

pub ends_dropped : (text rest : List ℕ) → EndsWith text rest → drop (length text - length rest) text ≡ rest
ends_dropped text rest ends = dropped text ends.0 rest ends.1

pub ends_shorter : (text rest : List ℕ) → EndsWith text rest → length rest < length text + 1
ends_shorter text rest ends =
    let size : length text ≡ length ends.0 + length rest = ap length ends.1 ∙ length-append ends.0 rest in
    omega (arith, size)

-- bytes that belong to a piece are left out
passed_drop : {A : Type 0} (byte : ℕ → A) (macro : List ℕ → Option (A × List ℕ)) (passed : ℕ) (text : List ℕ)
    → pieces_behind byte macro passed text ≡ pieces_in byte macro (drop passed text)
unfolding pieces_behind pieces_in
passed_drop byte macro zero text = refl
passed_drop byte macro (suc passed) [] = refl
passed_drop byte macro (suc passed) (c ∷ rest) = passed_drop byte macro passed rest

-- the pieces of a text whose first byte opens a macro or doesn't
abbrev from_opened : {A : Type 0} → (ℕ → A) → (List ℕ → Option (A × List ℕ)) → ℕ → List ℕ → Option (A × List ℕ) → List A
from_opened byte macro c rest o =
    option_map_or (λ m. m.0) o (byte c) ∷ pieces_in byte macro (drop (option_map_or (λ m. length rest - length m.1) o 0) rest)

step : {A : Type 0} (byte : ℕ → A) (macro : List ℕ → Option (A × List ℕ)) (c : ℕ) (rest : List ℕ)
    → pieces_in byte macro (c ∷ rest) ≡ from_opened byte macro c rest (opened macro c rest)
unfolding pieces_behind pieces_in
step byte macro c rest = ap (λ u. piece_at byte macro c rest ∷ u) (passed_drop byte macro (passed_at macro c rest) rest)

-- a byte that isn't a brace stays
plain_step : {A : Type 0} (byte : ℕ → A) (macro : List ℕ → Option (A × List ℕ)) (c : ℕ) (rest : List ℕ) → c ≢ 123
    → pieces_in byte macro (c ∷ rest) ≡ byte c ∷ pieces_in byte macro rest
plain_step byte macro c rest plain =
    step byte macro c rest ∙ ap (λ b. from_opened byte macro c rest (cond b (macro rest) None)) (ne_eqb c 123 plain)

-- a brace that begins no macro stays
pub brace_step : {A : Type 0} (byte : ℕ → A) (macro : List ℕ → Option (A × List ℕ)) (rest : List ℕ) → macro rest ≡ None
    → pieces_in byte macro (123 ∷ rest) ≡ byte 123 ∷ pieces_in byte macro rest
brace_step byte macro rest none = step byte macro 123 rest ∙ ap (λ o. from_opened byte macro 123 rest o) none

-- a macro
pub macro_step : {A : Type 0} (byte : ℕ → A) (macro : List ℕ → Option (A × List ℕ)) (rest after : List ℕ) (m : A) → macro rest ≡ Some (m, after)
    → EndsWith rest after → pieces_in byte macro (123 ∷ rest) ≡ m ∷ pieces_in byte macro after
macro_step byte macro rest after m is ends =
    step byte macro 123 rest ∙ ap (λ o. from_opened byte macro 123 rest o) is
    ∙ ap (λ t. m ∷ pieces_in byte macro t) (ends_dropped rest after ends)

-- bytes before a brace stay
pub plain_pieces : {A : Type 0} (byte : ℕ → A) (macro : List ℕ → Option (A × List ℕ)) (plain rest : List ℕ) → HasNo 123 plain
    → pieces_in byte macro (plain ++ rest) ≡ map byte plain ++ pieces_in byte macro rest
plain_pieces byte macro [] rest free = refl
plain_pieces byte macro (c ∷ plain) rest free =
    plain_step byte macro c (plain ++ rest) (free 0 (omega arith))
    ∙ ap (λ u. byte c ∷ u) (plain_pieces byte macro plain rest (λ i below. free (suc i) (omega arith)))

-- nothing has no pieces
pub none_in : {A : Type 0} (byte : ℕ → A) (macro : List ℕ → Option (A × List ℕ)) → pieces_in byte macro [] ≡ []
unfolding pieces_behind pieces_in
none_in byte macro = refl
