-- What is read of the options that a parse found.
use Rattle.std.proofs.Common.{◌≡◌, ◌∙◌, ◌<◌, ◌^◌, ◌&&◌, ℕ, Bool, true, false, refl, sym, ap, ap₂, arith, List, [], ◌∷◌, map, Option, Some, None, Result, Ok, Err, nat_lt, lt-ltb, ltb-true, cond, inl, inr, subst}
use Rattle.std.specs.Prelude.{option_and_then}
use Rattle.std.proofs.lemmas.Bool.{ne_eqb}
use Rattle.std.specs.List.{list_all}
use Rattle.std.specs.Char.{digit_value}
use Rattle.std.specs.Str.Parse.{AllDigits, IsNumeral, ParsesUnsigned, digits_value, without_leading_plus}
use Rattle.clap.specs.Words.{App, Row, HasKind, HasMatchesOf, first_value, first_of, one_of, one_text, rows_of, found_of, kind_of, fault_of, matches_of, is_simple, is_simple_and_free, ReadsOne}
use Rattle.clap.specs.Kinds.{Kinds}
use Rattle.clap.specs.Walk.{is_empty}
use Rattle.clap.specs.declared.error.Error.{Error}
use Rattle.clap.specs.declared.error.kind.ErrorKind.TheVariants as kind
use Rattle.clap.specs.declared.parser.matches.ArgMatches.{ArgMatches}
use Rattle.clap.proofs.OnLiterals.{clap_on_literals}
use Rattle.clap.specs.ValueTests.{is_numeral}
use Rattle.clap.specs.declared.parser.matches.Found.{Found}
use Rattle.clap.proofs.WalkLemmas.{both, first_value-rows, one_text-rows}
use Rattle.server_words.specs.Words.{number_of, server_app, is_taken, plan_in, plan_for}
use Rattle.server_words.specs.declared.words.Call.{Call}

-- the text of an option
pub text_of_rows : (f : Found) (name : List ℕ) → first_value f name ≡ first_of name (rows_of f)
text_of_rows f name = first_value-rows f name

digits_from : (ds : List ℕ) → list_all (λ d. nat_lt (digit_value d) 10) ds ≡ true → AllDigits 10 ds
digits_from [] e = tt
digits_from (d ∷ ds) e =
    let parts = both _ _ e in
    (ltb-true _ _ parts.0, digits_from ds parts.1)

digits_back : (ds : List ℕ) → AllDigits 10 ds → list_all (λ d. nat_lt (digit_value d) 10) ds ≡ true
digits_back [] h = refl
digits_back (d ∷ ds) h = rw (lt-ltb (digit_value d) 10 h.0) (digits_back ds h.1)

-- a text that is read as a number
read_some : (bits : ℕ) (text : List ℕ) → IsNumeral 10 (without_leading_plus text) × (digits_value 10 (without_leading_plus text) < 2 ^ bits)
    → number_of bits text ≡ Some (digits_value 10 (without_leading_plus text))
read_some bits text (numeral, small) = rw (lt-ltb 0 _ numeral.0, digits_back (without_leading_plus text) numeral.1, lt-ltb _ _ small) refl

-- a text that isn't
read_none : (bits : ℕ) (text : List ℕ) → (IsNumeral 10 (without_leading_plus text) × (digits_value 10 (without_leading_plus text) < 2 ^ bits) → ⊥)
    → number_of bits text ≡ None
read_none bits text never = go (is_numeral (without_leading_plus text)) (nat_lt (digits_value 10 (without_leading_plus text)) (2 ^ bits)) refl refl
  where
    go : (a b : Bool) → is_numeral (without_leading_plus text) ≡ a → nat_lt (digits_value 10 (without_leading_plus text)) (2 ^ bits) ≡ b
        → cond (a && b) (Some (digits_value 10 (without_leading_plus text))) None ≡ None
    go false b e f = refl
    go true false e f = refl
    go true true e f =
        let parts = both _ _ e in
        absurd (never ((ltb-true _ _ parts.0, digits_from _ parts.1), ltb-true _ _ f))

reads : (E : Type 0) (bits : ℕ) (G : List ℕ → Result ℕ E → Type 0) (o : Option (List ℕ)) (r : Option ℕ)
    → ((text : List ℕ) (x : Result ℕ E) → G text x → ParsesUnsigned bits 10 text x)
    → (o ≡ None → r ≡ None) → ((text : List ℕ) → o ≡ Some text → ReadsOne G text r) → r ≡ option_and_then (number_of bits) o
reads E bits G None r parses none some = none refl
reads E bits G (Some text) (Some n) parses none some =
    let parsed = parses text (Ok n) (some text refl) in
    ap Some parsed.1 ∙ sym (read_some bits text parsed.0)
reads E bits G (Some text) None parses none some =
    let failed = some text refl in
    sym (read_none bits text (parses text (Err failed.0) failed.1))

-- the number that the text of an option writes
pub number_of_rows : (E : Type 0) (bits : ℕ) (G : List ℕ → Result ℕ E → Type 0) (f : Found) (name : List ℕ) (r : Option ℕ)
    → ((text : List ℕ) (x : Result ℕ E) → G text x → ParsesUnsigned bits 10 text x)
    → (one_text f name ≡ None → r ≡ None) → ((text : List ℕ) → one_text f name ≡ Some text → ReadsOne G text r) → r ≡ option_and_then (number_of bits) (one_of name (rows_of f))
number_of_rows E bits G f name r parses none some =
    reads E bits G (one_text f name) r parses none some ∙ ap (option_and_then (number_of bits)) (one_text-rows f name)

-- ---- the command

simple : is_simple server_app ≡ true
unfolding clap_on_literals
simple = refl

free : is_simple_and_free server_app ≡ true
unfolding clap_on_literals
free = refl

same_words : (words : List (List ℕ)) → map (λ (t : List ℕ). t) words ≡ words
same_words [] = refl
same_words (w ∷ ws) = ap (λ l. w ∷ l) (same_words ws)

-- words that clap takes
pub plan_found : (call : Call) (app : App) (words : List (List ℕ)) (m : ArgMatches) → app ≡ server_app → HasMatchesOf app (map (λ (t : List ℕ). t) words) m
    → (is_simple_and_free app ≡ true → fault_of app (map (λ (t : List ℕ). t) words) ≡ []) → plan_for call words ≡ plan_in call (rows_of (found_of m))
unfolding plan_for
plan_found call app words m is has none =
    let rows = (has (ap is_simple is ∙ simple)).0 in
    let clean = none (ap is_simple_and_free is ∙ free) in
    let same = same_words words in
    let taken : fault_of server_app words ≡ [] = ap (fault_of server_app) (sym same) ∙ ap (λ (a : App). fault_of a (map (λ (t : List ℕ). t) words)) (sym is) ∙ clean in
    let found : matches_of server_app words ≡ rows_of (found_of m) = ap (matches_of server_app) (sym same) ∙ ap (λ (a : App). matches_of a (map (λ (t : List ℕ). t) words)) (sym is) ∙ sym rows in
    ap₂ (λ (kinds : Kinds) (rows : List Row). cond (is_empty kinds) (plan_in call rows) None) taken found

refused : (kinds : Kinds) (e : Error) → HasKind kinds e → (kind_of e ≡ kind.OutOfMemory → ⊥) → is_empty kinds ≡ false
refused [] e (inl spent) other = absurd (other spent)
refused [] e (inr none) other = absurd none
refused (k ∷ ks) e among other = ne_eqb _ _ (λ same. omega arith)

-- words that clap refuses
pub plan_refused : (call : Call) (app : App) (words : List (List ℕ)) (e : Error) → app ≡ server_app
    → (is_simple_and_free app ≡ true → HasKind (fault_of app (map (λ (t : List ℕ). t) words)) e) → (kind_of e ≡ kind.OutOfMemory → ⊥) → plan_for call words ≡ None
unfolding plan_for
plan_refused call app words e is fails other =
    let same = same_words words in
    let words_are : fault_of app (map (λ (t : List ℕ). t) words) ≡ fault_of server_app words =
    ap (λ (a : App). fault_of a (map (λ (t : List ℕ). t) words)) is ∙ ap (fault_of server_app) same in
    let left : is_taken words ≡ false = refused (fault_of server_app words) e (subst (λ (k : Kinds). HasKind k e) words_are (fails (ap is_simple_and_free is ∙ free))) other in
    ap (λ (b : Bool). cond b (plan_in call (matches_of server_app words)) None) left
