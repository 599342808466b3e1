-- Bytes that are taken at once.
use Rattle.std.proofs.Common.{◌≡◌, ◌<◌, ◌≤◌, ◌+◌, ◌-◌, ℕ, zero, suc, ◌==◌, List, [], ◌∷◌, ◌++◌, length, take, drop, get_or, refl, ap, sym, ◌∙◌, Option, Some, None, Bool, true, false, cond, arith, nat_lt, append_assoc, append-nil, subst}
use Rattle.std.proofs.lemmas.Bool.Decides.{nat_tests}
use Rattle.std.specs.List.{prefix_len}
use Rattle.std.specs.Option.{MatchOption, IfSome}
use Rattle.std.proofs.lemmas.List.{take_more, take_all, length-take-le}
use Rattle.byte_grammar.specs.Bytes.{Each, is_digit}
use Rattle.byte_grammar.specs.Runs.{run}
use Rattle.json_text.specs.Bytes.{is_blank}
use Rattle.json_text.specs.Json.{words, no_members}
use Rattle.json_text.specs.Machine.{state, move, after, step, quoted, unquoted}
use Rattle.json_text.specs.Moves.{reach, is_plain, keeps, IsQuoted, takes_string, behind_string}
use Rattle.json_text.specs.Tokens.{spot, number_step}
use Rattle.json_text.specs.declared.frame.Frame.{Frame}
use Rattle.json_text.specs.declared.number.InNumber.{InNumber}
use Rattle.json_text.specs.declared.number.InNumber.TheVariants.{Whole, Fraction, Digits}
use Rattle.json_text.specs.declared.place.InLiteral.{InLiteral}
use Rattle.json_text.specs.declared.place.Mode.{Mode}
use Rattle.json_text.specs.declared.place.Mode.TheVariants.{Value, FirstItem, FirstName, NextName, Named, Literal, Number, String, Done}
use Rattle.json_text.specs.declared.place.Use.{Use}
use Rattle.json_text.specs.declared.place.Use.TheVariants.{ForValue, ForName}
use Rattle.json_text.specs.declared.machine.State.{State}
use Rattle.json_text.specs.declared.string.InString.{InString}
use Rattle.json_text.specs.declared.string.Spot.{Spot}
use Rattle.json_text.specs.declared.string.InString.TheVariants.{Between}
use Rattle.json_text.proofs.Runs.{joined, stepped, no_step}
use Rattle.json_text.proofs.CompleteNumbers.{digits_run}

-- each byte of the front that passes does
front_each : (test : ℕ → Bool) (bs : List ℕ) → Each test (take (prefix_len test bs) bs)
unfolding Each
front_each test [] = tt
front_each test (b ∷ bs) = go (test b) _ refl refl (front_each test bs)
  where
    go : (c : Bool) (k : ℕ) → test b ≡ c → cond c (1 + prefix_len test bs) 0 ≡ k → Each test (take (prefix_len test bs) bs) → Each test (take k (b ∷ bs))
    go true zero e f h = absurd (omega (arith, f))
    go true (suc j) e f h = (e, subst (λ (i : ℕ). Each test (take i bs)) (omega (arith, f)) h)
    go false zero e f h = tt
    go false (suc j) e f h = absurd (omega (arith, f))

plain_step : (u : Use) (s : List ℕ) (k : List Frame) (b : ℕ) → is_plain b ≡ true → move (String u (spot Between s)) k b ≡ Some (state (String u (spot Between (s ++ b ∷ []))) k)
plain_step u s k b h =
    let e : (b == 34) ≡ false = grind (arith, nat_tests) in
    let f : (b == 92) ≡ false = grind (arith, nat_tests) in
    let x : nat_lt b 32 ≡ false = grind (arith, nat_tests) in
    let y : nat_lt b 128 ≡ true = grind (arith, nat_tests) in
    rw (e, f, x, y) refl

plain_run : (u : Use) (s : List ℕ) (k : List Frame) (bs : List ℕ) → Each is_plain bs → after (Some (state (String u (spot Between s)) k)) bs ≡ Some (state (String u (spot Between (s ++ bs))) k)
unfolding Each
plain_run u s k [] a = no_step _ ∙ ap (λ (z : List ℕ). Some (state (String u (spot Between z)) k)) (sym (append-nil s))
plain_run u s k (b ∷ bs) a =
    stepped (String u (spot Between s)) k b bs (Some (state (String u (spot Between (s ++ b ∷ []))) k)) (plain_step u s k b a.0)
    ∙ plain_run u (s ++ b ∷ []) k bs a.1 ∙ ap (λ (z : List ℕ). Some (state (String u (spot Between z)) k)) (append_assoc s (b ∷ []) bs)

pub plain_front : (u : Use) (k : List Frame) (p : InString) (s t : List ℕ) (n : ℕ) (bs : List ℕ) → p ≡ Between → n ≡ prefix_len is_plain bs → t ≡ s ++ take n bs
    → after (Some (state (String u (spot p s)) k)) (take n bs) ≡ Some (state (String u (spot p t)) k)
plain_front u k p s t n bs e f g = rw (e, g, f) (plain_run u s k (take (prefix_len is_plain bs) bs) (front_each is_plain bs))

closed : (u : Use) (s : List ℕ) (k : List Frame) (m : Mode) → Each is_plain s → unquoted u s k ≡ Some (state m k) → after (Some (state (quoted u) k)) (s ++ 34 ∷ []) ≡ Some (state m k)
closed u s k m a e =
    joined (Some (state (quoted u) k)) (Some (state (String u (spot Between s)) k)) s (34 ∷ []) (plain_run u [] k s a)
    ∙ stepped (String u (spot Between s)) k 34 [] (Some (state m k)) e ∙ no_step _

string_run : (m : Mode) (s : List ℕ) (k : List Frame) → takes_string m ≡ true → Each is_plain s → after (Some (state m k)) (34 ∷ (s ++ 34 ∷ [])) ≡ Some (state (behind_string m s) k)
string_run Value s k e a = stepped Value k 34 (s ++ 34 ∷ []) (Some (state (quoted ForValue) k)) refl ∙ closed ForValue s k (Done (words s)) a refl
string_run FirstName s k e a = stepped FirstName k 34 (s ++ 34 ∷ []) (Some (state (quoted (ForName no_members)) k)) refl ∙ closed (ForName no_members) s k (Named no_members s) a refl
string_run (NextName ms) s k e a = stepped (NextName ms) k 34 (s ++ 34 ∷ []) (Some (state (quoted (ForName ms)) k)) refl ∙ closed (ForName ms) s k (Named ms s) a refl
string_run _ s k e a = absurd cc

pub string_front : (m to : Mode) (s : List ℕ) (k : List Frame) (bs : List ℕ) (n : ℕ) → takes_string m ≡ true → IsQuoted s bs → to ≡ behind_string m s → n ≡ length s + 2
    → after (Some (state m k)) (take n bs) ≡ Some (state to k)
string_front m to s k bs n e q f g = rw (g, q.front, f) (string_run m s k e q.plain)

pub is_quoted : (bs inner : List ℕ) (n : ℕ) → n ≡ prefix_len is_plain bs → n < length bs → get_or bs n 0 ≡ 34 → inner ≡ take n bs → IsQuoted inner (34 ∷ bs)
is_quoted bs inner n e l h f =
    let long : length inner ≡ n = rw f (length-take-le n bs (omega (arith, l))) in
    record {
      within = omega (arith, long, l);
      front = rw long (quoted_front bs n l h ∙ ap (λ (z : List ℕ). 34 ∷ (z ++ 34 ∷ [])) (sym f));
      plain = rw (f, e) (front_each is_plain bs);
    }
  where
    quoted_front : (bs : List ℕ) (n : ℕ) → n < length bs → get_or bs n 0 ≡ 34 → take (n + 2) (34 ∷ bs) ≡ 34 ∷ (take n bs ++ 34 ∷ [])
    quoted_front bs n l h =
        let e : n + 2 ≡ suc (n + 1) = omega arith in
        rw e (ap (λ (z : List ℕ). 34 ∷ z) (rw (take_more bs n 0 l, h) refl))

begun_by : (bs : List ℕ) → 2 ≤ length bs → get_or bs 0 0 ≡ 34 → 34 ∷ take (length bs - 1) (drop 1 bs) ≡ bs
begun_by [] h e = absurd (omega (arith, h))
begun_by (b ∷ bs) h e = ap (λ (z : List ℕ). 34 ∷ z) (take_all (length (b ∷ bs) - 1) bs (omega arith)) ∙ ap (λ (x : ℕ). x ∷ bs) (sym e)

pub found_in_quotes : (bs : List ℕ) (n : ℕ) (found : Option (List ℕ)) (P : Type 0) → 2 ≤ length bs → get_or bs 0 0 ≡ 34 → n ≡ prefix_len is_plain (take (length bs - 1) (drop 1 bs))
    → n < length (take (length bs - 1) (drop 1 bs)) → get_or (take (length bs - 1) (drop 1 bs)) n 0 ≡ 34
    → MatchOption found P (λ made. made ≡ take n (take (length bs - 1) (drop 1 bs))) → IfSome found (λ inner. IsQuoted inner bs)
found_in_quotes bs n None P h e f l g r = tt
found_in_quotes bs n (Some made) P h e f l g r = subst (λ (z : List ℕ). IsQuoted made z) (begun_by bs h e) (is_quoted (take (length bs - 1) (drop 1 bs)) made n f l g r)

keeps_on : (p : InNumber) → keeps p ≡ true → (b : ℕ) → is_digit b ≡ true → number_step p b ≡ Some p
keeps_on Whole e b h = rw h refl
keeps_on Fraction e b h = rw h refl
keeps_on Digits e b h = rw h refl
keeps_on _ e b h = absurd cc

pub digits_front : (k : List Frame) (p : InNumber) (s t : List ℕ) (n : ℕ) (bs : List ℕ) → keeps p ≡ true → n ≡ prefix_len is_digit bs → t ≡ s ++ take n bs
    → after (Some (state (Number p s) k)) (take n bs) ≡ Some (state (Number p t) k)
digits_front k p s t n bs e f g = rw (g, f) (digits_run p (keeps_on p e) s (take (prefix_len is_digit bs) bs) k (front_each is_digit bs))

-- a place around values and names, where blanks may stand
abbrev Skips : Mode → Type 0
Skips m = (k : List Frame) (b : ℕ) → is_blank b ≡ true → move m k b ≡ Some (state m k)

blanks_run : (m : Mode) (k : List Frame) (bs : List ℕ) → Skips m → Each is_blank bs → after (Some (state m k)) bs ≡ Some (state m k)
unfolding Each
blanks_run m k [] on a = no_step _
blanks_run m k (b ∷ bs) on a = stepped m k b bs (Some (state m k)) (on k b a.0) ∙ blanks_run m k bs on a.1

-- a place that is no token's
abbrev pub between_tokens : Mode → Bool
between_tokens Value = true
between_tokens FirstItem = true
between_tokens FirstName = true
between_tokens (NextName ms) = true
between_tokens (Named ms name) = true
between_tokens (Literal l) = false
between_tokens (Number n t) = false
between_tokens (String u at) = false
between_tokens (Done j) = true

skips : (m : Mode) → between_tokens m ≡ true → Skips m
skips Value e k b h = rw h refl
skips FirstItem e k b h = rw h refl
skips FirstName e k b h = rw h refl
skips (NextName ms) e k b h = rw h refl
skips (Named ms name) e k b h = rw h refl
skips (Done j) e k b h = rw h refl
skips _ e k b h = absurd cc

pub apart : (m : Mode) → ((l : InLiteral) → m ≡ Literal l → ⊥) → ((n : InNumber) (t : List ℕ) → m ≡ Number n t → ⊥) → ((u : Use) (at : Spot) → m ≡ String u at → ⊥) → between_tokens m ≡ true
apart Value f g h = refl
apart FirstItem f g h = refl
apart FirstName f g h = refl
apart (NextName ms) f g h = refl
apart (Named ms name) f g h = refl
apart (Literal l) f g h = absurd (f l refl)
apart (Number n t) f g h = absurd (g n t refl)
apart (String u at) f g h = absurd (h u at refl)
apart (Done j) f g h = refl

pub blanks_front : (m : Mode) (k : List Frame) (n : ℕ) (bs : List ℕ) → between_tokens m ≡ true → n ≡ prefix_len is_blank bs → after (Some (state m k)) (take n bs) ≡ Some (state m k)
blanks_front m k n bs e f = rw f (blanks_run m k (take (prefix_len is_blank bs) bs) (skips m e) (front_each is_blank bs))

-- ---- a byte by itself, and what comes of a text

-- nothing was taken
pub stayed : (s t : State) (n : ℕ) (bs : List ℕ) → n ≤ 0 → after (Some s) (take n bs) ≡ Some t → s ≡ t
stayed s t zero bs h e = let g = sym (no_step (Some s)) ∙ e in let f : s ≡ t = cc in f
stayed s t (suc n) bs h e = absurd (omega (arith, h))

pub one_step : (s t : State) (bs : List ℕ) → 0 < length bs → step s (get_or bs 0 0) ≡ Some t → after (Some s) (take 1 bs) ≡ Some t
unfolding run
one_step s t [] h e = absurd (omega (arith, h))
one_step s t (b ∷ bs) h e = e

pub on_step : (on : Bool) (s : State) (o : Option State) → on ≡ true → reach on s ≡ o → o ≡ Some s
on_step true s o e f = sym f
on_step false s o e f = absurd cc

pub off_step : (on : Bool) (s : State) (o : Option State) → on ≡ false → reach on s ≡ o → o ≡ None
off_step true s o e f = absurd cc
off_step false s o e f = sym f

pub on_front : (s t u : State) (k n : ℕ) (bs : List ℕ) → k ≤ 0 → after (Some s) (take k bs) ≡ Some t → after (Some t) (take n bs) ≡ Some u → after (Some s) (take n bs) ≡ Some u
on_front s t u k n bs h e f = rw (stayed s t k bs h e) f
