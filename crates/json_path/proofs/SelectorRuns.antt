-- The machine takes the selectors of the grammar.
use Rattle.std.proofs.Common.{◌≡◌, ℕ, ℤ, pos, negsuc, neg_ℤ, ◌+◌, ◌-◌, ◌*◌, ◌^◌, ◌<◌, ◌≤◌, List, [], ◌∷◌, ◌++◌, refl, ap, sym, ◌∙◌, Option, Some, None, Bool, true, false, ◌==◌, nat_lt, if◌then◌else◌, arith, append_assoc}
use Rattle.std.proofs.lemmas.Bool.Decides.{nat_tests}
use Rattle.json_path.specs.declared.integers.Digits.{Digits}
use Rattle.json_path.specs.declared.path.Selector.{Selector}
use Rattle.json_path.specs.declared.path.Selector.TheVariants.{Names, Indexes, Slice, All, Where}
use Rattle.json_path.specs.declared.conditions.Checking.{Checking}
use Rattle.json_path.specs.declared.conditions.Checking.TheVariants as at
use Rattle.json_path.specs.declared.conditions.Checked.{Checked}
use Rattle.json_path.specs.declared.conditions.Checked.TheVariants as checked
use Rattle.json_path.specs.declared.brackets.InBrackets.{InBrackets}
use Rattle.json_path.specs.declared.brackets.InBrackets.TheVariants as within
use Rattle.json_path.specs.declared.brackets.Chosen.{Chosen}
use Rattle.json_path.specs.declared.brackets.Chosen.TheVariants.{Open, Closed, Wrong}
use Rattle.byte_grammar.specs.Bytes.{is_space, is_digit}
use Rattle.json_path.specs.Grammar.{mark, IsQuoted, IsInteger, plus, minus, Spaced, behind_spaces, with_space, AreListed, first, next, IsBound, no_bound, bound, IsSelector, names, indexes, slice, all, condition, padded}
use Rattle.json_path.specs.Tokens.{quotation, digit, begin_integer, integer}
use Rattle.json_path.specs.Machine.{check, choose, behind_selector, behind_integers, condition_goes}
use Rattle.byte_grammar.specs.Runs.{run}
use Rattle.byte_grammar.proofs.Runs.{joined, grown, lifted_all, stays, byte_on, byte_end}
use Rattle.json_path.proofs.TokenRuns.{digits_so, fits, Counts, digits_run}
use Rattle.json_path.proofs.TextRuns.{Skips, Quotes, quoted_spaced}
use Rattle.json_path.proofs.ConditionRuns.{open_check, check_step, condition_run, condition_met}

-- a selector that isn't over
abbrev pub open_choice : Chosen → Option InBrackets
open_choice (Open w) = Some w
open_choice (Closed s) = None
open_choice Wrong = None

abbrev pub choose_step : InBrackets → ℕ → Option InBrackets
choose_step m b = open_choice (choose m b)

-- the integers behind which a state stands
abbrev pub listed : InBrackets → Option (List ℤ)
listed (within.Index is n) = if n.any then Some (is ++ integer n ∷ []) else None
listed (within.Counted is) = Some is
listed _ = None

listed_on : (m : InBrackets) (is : List ℤ) (b : ℕ) → listed m ≡ Some is → is_digit b ≡ false → choose m b ≡ behind_integers is b
listed_on (within.Index is n) js b e h = rw h (from n.any e)
  where
    from : (c : Bool) → (if c then Some (is ++ integer n ∷ []) else None) ≡ Some js → (if c then behind_integers (is ++ integer n ∷ []) b else Wrong) ≡ behind_integers js b
    from true e = let g : is ++ integer n ∷ [] ≡ js = cc in rw g refl
    from false e = absurd cc
listed_on (within.Counted is) js b e h = let g : is ≡ js = cc in rw g refl
listed_on within.Before js b e h = absurd cc
listed_on (within.Quote ns q) js b e h = absurd cc
listed_on (within.Named ns) js b e h = absurd cc
listed_on (within.NextName ns) js b e h = absurd cc
listed_on (within.NextIndex is) js b e h = absurd cc
listed_on (within.From f) js b e h = absurd cc
listed_on (within.To f n) js b e h = absurd cc
listed_on within.Question js b e h = absurd cc
listed_on (within.Condition c) js b e h = absurd cc
listed_on (within.Whole s) js b e h = absurd cc

-- the selector that a state would end with
abbrev pub said : InBrackets → Option Selector
said (within.Named ns) = Some (Names ns)
said (within.Index is n) = if n.any then Some (Indexes (is ++ integer n ∷ [])) else None
said (within.Counted is) = Some (Indexes is)
said (within.From f) = Some (Slice f None)
said (within.To f n) = if n.any then Some (Slice f (Some (integer n))) else None
said (within.Whole s) = Some s
said _ = None

listed_said : (m : InBrackets) (is : List ℤ) → listed m ≡ Some is → said m ≡ Some (Indexes is)
listed_said (within.Index is n) js e = from n.any e
  where
    from : (c : Bool) → (if c then Some (is ++ integer n ∷ []) else None) ≡ Some js → (if c then Some (Indexes (is ++ integer n ∷ [])) else None) ≡ Some (Indexes js)
    from true e = let g : is ++ integer n ∷ [] ≡ js = cc in rw g refl
    from false e = absurd cc
listed_said (within.Counted is) js e = let g : is ≡ js = cc in rw g refl
listed_said within.Before js e = absurd cc
listed_said (within.Quote ns q) js e = absurd cc
listed_said (within.Named ns) js e = absurd cc
listed_said (within.NextName ns) js e = absurd cc
listed_said (within.NextIndex is) js e = absurd cc
listed_said (within.From f) js e = absurd cc
listed_said (within.To f n) js e = absurd cc
listed_said within.Question js e = absurd cc
listed_said (within.Condition c) js e = absurd cc
listed_said (within.Whole s) js e = absurd cc

-- the bracket closes it
pub closes : (m : InBrackets) (s : Selector) → said m ≡ Some s → choose m 93 ≡ Closed s
closes (within.Named ns) s e = let g : Names ns ≡ s = cc in rw (← g) refl
closes (within.Index is n) s e = from n.any e
  where
    from : (c : Bool) → (if c then Some (Indexes (is ++ integer n ∷ [])) else None) ≡ Some s → (if c then behind_integers (is ++ integer n ∷ []) 93 else Wrong) ≡ Closed s
    from true e = let g : Indexes (is ++ integer n ∷ []) ≡ s = cc in rw (← g) refl
    from false e = absurd cc
closes (within.Counted is) s e = let g : Indexes is ≡ s = cc in rw (← g) refl
closes (within.From f) s e = let g : Slice f None ≡ s = cc in rw (← g) refl
closes (within.To f n) s e = from n.any e
  where
    from : (c : Bool) → (if c then Some (Slice f (Some (integer n))) else None) ≡ Some s → (if c then behind_selector (Slice f (Some (integer n))) 93 else Wrong) ≡ Closed s
    from true e = let g : Slice f (Some (integer n)) ≡ s = cc in rw (← g) refl
    from false e = absurd cc
closes (within.Whole r) s e = let g : r ≡ s = cc in rw g refl
closes within.Before s e = absurd cc
closes (within.Quote ns q) s e = absurd cc
closes (within.NextName ns) s e = absurd cc
closes (within.NextIndex is) s e = absurd cc
closes within.Question s e = absurd cc
closes (within.Condition c) s e = absurd cc

-- a space leaves it
record Left (m : InBrackets) (s : Selector) : Type 0 where
  now : InBrackets
  is : choose_step m 32 ≡ Some now
  says : said now ≡ Some s

leaves : (m : InBrackets) (s : Selector) → said m ≡ Some s → Left m s
leaves (within.Named ns) s e = record { now = within.Named ns; is = refl; says = e }
leaves (within.Index is n) s e = record { now = within.Counted (is ++ integer n ∷ []); is = (from n.any e).0; says = (from n.any e).1 }
  where
    from : (c : Bool) → (if c then Some (Indexes (is ++ integer n ∷ [])) else None) ≡ Some s → (open_choice (if c then behind_integers (is ++ integer n ∷ []) 32 else Wrong) ≡ Some (within.Counted (is ++ integer n ∷ []))) × (Some (Indexes (is ++ integer n ∷ [])) ≡ Some s)
    from true e = (refl, e)
    from false e = absurd cc
leaves (within.Counted is) s e = record { now = within.Counted is; is = refl; says = e }
leaves (within.From f) s e = record { now = within.From f; is = refl; says = e }
leaves (within.To f n) s e = record { now = within.Whole (Slice f (Some (integer n))); is = (from n.any e).0; says = (from n.any e).1 }
  where
    from : (c : Bool) → (if c then Some (Slice f (Some (integer n))) else None) ≡ Some s → (open_choice (if c then behind_selector (Slice f (Some (integer n))) 32 else Wrong) ≡ Some (within.Whole (Slice f (Some (integer n))))) × (Some (Slice f (Some (integer n))) ≡ Some s)
    from true e = (refl, e)
    from false e = absurd cc
leaves (within.Whole r) s e = record { now = within.Whole r; is = refl; says = e }
leaves within.Before s e = absurd cc
leaves (within.Quote ns q) s e = absurd cc
leaves (within.NextName ns) s e = absurd cc
leaves (within.NextIndex is) s e = absurd cc
leaves within.Question s e = absurd cc
leaves (within.Condition c) s e = absurd cc

skips : (m : InBrackets) → choose_step m 32 ≡ Some m → Skips choose_step m
skips m h b e = let c : b ≡ 32 = space b e in rw c h
  where
    space : (b : ℕ) → is_space b ≡ true → b ≡ 32
    space b h = grind (arith, nat_tests)

-- a place where an integer may begin, and how it goes on
pub record Integers (s : InBrackets) (f : Digits → InBrackets) : Type 0 where
  pub begins : (b : ℕ) (n : Digits) → begin_integer b ≡ Some n → choose_step s b ≡ Some (f n)
  pub goes : (n r : Digits) (b : ℕ) → is_digit b ≡ true → digit n b ≡ Some r → choose_step (f n) b ≡ Some (f r)

digit_begins : (d : ℕ) → is_digit d ≡ true → begin_integer d ≡ Some (digits_so false (d - 48))
digit_begins d h = let n = not_minus d h in rw (n, h) refl
  where
    not_minus : (d : ℕ) → is_digit d ≡ true → (d == 45) ≡ false
    not_minus d h = grind (arith, nat_tests)

plus_counts : (s : InBrackets) (f : Digits → InBrackets) → Integers s f → Counts choose_step false s f
plus_counts s f k = record {
  begins = λ d h b. k.begins d (digits_so false (d - 48)) (digit_begins d h);
  goes = λ n d h b. k.goes (digits_so false n) (digits_so false (n * 10 + (d - 48))) d h (fits (digits_so false n) d b);
}

abbrev minus_sign : Digits
minus_sign = record { minus = true; any = false; value = 0 }

first_of : (d : ℕ) → d - 48 ≤ 2 ^ 63 → digit minus_sign d ≡ Some (digits_so true (d - 48))
first_of d h = let e : 0 * 10 + (d - 48) ≡ d - 48 = omega arith in fits minus_sign d (rw e h) ∙ ap (λ (v : ℕ). Some (digits_so true v)) e

minus_counts : (s : InBrackets) (f : Digits → InBrackets) → Integers s f → Counts choose_step true (f minus_sign) f
minus_counts s f k = record {
  begins = λ d h b. k.goes minus_sign (digits_so true (d - 48)) d h (first_of d b);
  goes = λ n d h b. k.goes (digits_so true n) (digits_so true (n * 10 + (d - 48))) d h (fits (digits_so true n) d b);
}

-- what the run of an integer comes to
record Counted (s : InBrackets) (f : Digits → InBrackets) (text : List ℕ) (i : ℤ) : Type 0 where
  now : Digits
  is : run choose_step (Some s) text ≡ Some (f now)
  any : now.any ≡ true
  integer : integer now ≡ i

pub plus_is : (n : ℕ) → n < 2 ^ 63 → integer (digits_so false n) ≡ pos n
plus_is n h = from (nat_lt n (2 ^ 63)) (grind (arith, nat_tests))
  where
    from : (c : Bool) → c ≡ true → (if c then pos n else pos (2 ^ 63 - 1)) ≡ pos n
    from true e = refl
    from false e = absurd cc

most : (n : ℕ) → n ≤ 2 ^ 63 → nat_lt n (2 ^ 63) ≡ false → n ≡ 2 ^ 63
most n h e = grind (arith, nat_tests)

pub minus_is : (n : ℕ) → n ≤ 2 ^ 63 → integer (digits_so true n) ≡ neg_ℤ (pos n)
minus_is n h = from (nat_lt n (2 ^ 63)) refl
  where
    from : (c : Bool) → nat_lt n (2 ^ 63) ≡ c → (if c then neg_ℤ (pos n) else negsuc (2 ^ 63 - 1)) ≡ neg_ℤ (pos n)
    from true e = refl
    from false e = let g : n ≡ 2 ^ 63 = most n h e in rw g refl

integer_run : (s : InBrackets) (f : Digits → InBrackets) → Integers s f → {t : List ℕ} {i : ℤ} → IsInteger t i → Counted s f t i
integer_run s f k (plus n a h e) = record { now = digits_so false n; is = digits_run choose_step false s f (plus_counts s f k) a (omega arith); any = refl; integer = plus_is n h ∙ sym e }
integer_run s f k (minus t n a h e g) = record {
  now = digits_so true n;
  is = rw e (byte_on choose_step s (f minus_sign) 45 t (k.begins 45 minus_sign refl) ∙ digits_run choose_step true (f minus_sign) f (minus_counts s f k) a h);
  any = refl;
  integer = minus_is n h ∙ sym g;
}

-- what the run of a list of integers comes to
record Lists (s : InBrackets) (text : List ℕ) (integers : List ℤ) : Type 0 where
  now : InBrackets
  is : run choose_step (Some s) text ≡ Some now
  lists : listed now ≡ Some integers

index_spaced : (s : InBrackets) (is : List ℤ) → Integers s (within.Index is) → Skips choose_step s → {t : List ℕ} {i : ℤ} → Spaced IsInteger t i → Lists s t (is ++ i ∷ [])
index_spaced s is k h (behind_spaces x t e j p) =
    let r = integer_run s (within.Index is) k j in
    record { now = within.Index is r.now; is = rw p (joined choose_step (Some s) (Some s) x t (stays choose_step s is_space h x e) ∙ r.is); lists = rw (r.any, r.integer) refl }
index_spaced s is k h (with_space {text} {value} t j p) =
    let r = index_spaced s is k h j in
    let js = is ++ value ∷ [] in
    record { now = within.Counted js; is = rw p (grown choose_step (Some s) r.now t 32 r.is ∙ ap (λ c. open_choice c) (listed_on r.now js 32 r.lists refl)); lists = refl }

pub before_integers : Integers within.Before (within.Index [])
before_integers = record {
  begins = λ b n e. let o = other_bytes b n e in rw (o.0, o.1, o.2, o.3, o.4, o.5, e) refl;
  goes = λ n r b h e. rw (h, e) refl;
}
  where
    other_bytes : (b : ℕ) (n : Digits) → begin_integer b ≡ Some n → ((b == 32) ≡ false) × ((b == 34) ≡ false) × ((b == 39) ≡ false) × ((b == 42) ≡ false) × ((b == 63) ≡ false) × ((b == 58) ≡ false)
    other_bytes b n e = (grind (arith, nat_tests), grind (arith, nat_tests), grind (arith, nat_tests), grind (arith, nat_tests), grind (arith, nat_tests), grind (arith, nat_tests))

not_space : (b : ℕ) (n : Digits) → begin_integer b ≡ Some n → ((b == 32) ≡ false) × ((b == 93) ≡ false)
not_space b n e = (grind (arith, nat_tests), grind (arith, nat_tests))

pub next_integers : (is : List ℤ) → Integers (within.NextIndex is) (within.Index is)
next_integers is = record {
  begins = λ b n e. let o = not_space b n e in rw (o.0, e) refl;
  goes = λ n r b h e. rw (h, e) refl;
}

pub bound_integers : (f : Option ℤ) → Integers (within.From f) (within.To f)
bound_integers f = record {
  begins = λ b n e. let o = not_space b n e in rw (o.0, o.1, e) refl;
  goes = λ n r b h e. rw (h, e) refl;
}

indexes_run : {t : List ℕ} {is : List ℤ} → AreListed IsInteger t is → Lists within.Before t is
indexes_run (first {text} a s e) = rw e (index_spaced within.Before [] before_integers (skips within.Before refl) s)
indexes_run (next u t vs a l s e g) =
    let r = indexes_run l in
    let m : InBrackets = within.NextIndex vs in
    let z = index_spaced m vs (next_integers vs) (skips m refl) s in
    record {
      now = z.now;
      is = rw e (joined choose_step (Some within.Before) (Some r.now) u (44 ∷ t) r.is ∙ byte_on choose_step r.now m 44 t (ap (λ c. open_choice c) (listed_on r.now vs 44 r.lists refl)) ∙ z.is);
      lists = z.lists ∙ ap (λ w. Some w) (sym g);
    }

-- what the run of a selector comes to
record Says (s : InBrackets) (text : List ℕ) (selector : Selector) : Type 0 where
  now : InBrackets
  is : run choose_step (Some s) text ≡ Some now
  says : said now ≡ Some selector

says_space : (s : InBrackets) (t : List ℕ) (r : Selector) → Says s t r → Says s (t ++ 32 ∷ []) r
says_space s t r k = let l = leaves k.now r k.says in record { now = l.now; is = grown choose_step (Some s) k.now t 32 k.is ∙ l.is; says = l.says }

bound_spaced : (f : Option ℤ) {t : List ℕ} {i : ℤ} → Spaced IsInteger t i → Says (within.From f) t (Slice f (Some i))
bound_spaced f (behind_spaces x t e j p) =
    let m : InBrackets = within.From f in
    let r = integer_run m (within.To f) (bound_integers f) j in
    record { now = within.To f r.now; is = rw p (joined choose_step (Some m) (Some m) x t (stays choose_step m is_space (skips m refl) x e) ∙ r.is); says = rw (r.any, r.integer) refl }
bound_spaced f (with_space {text} {value} t j p) = rw p (says_space (within.From f) t (Slice f (Some value)) (bound_spaced f j))

to_run : (f : Option ℤ) {t : List ℕ} {b : Option ℤ} → IsBound t b → Says (within.From f) t (Slice f b)
to_run f (no_bound {text} e) = let m : InBrackets = within.From f in record { now = m; is = stays choose_step m is_space (skips m refl) text e; says = refl }
to_run f (bound i s) = bound_spaced f s

-- the start of a slice and its colon
from_run : {t : List ℕ} {b : Option ℤ} → IsBound t b → run choose_step (Some within.Before) (t ++ 58 ∷ []) ≡ Some (within.From b)
from_run (no_bound {text} e) = joined choose_step (Some within.Before) (Some within.Before) text (58 ∷ []) (stays choose_step within.Before is_space (skips within.Before refl) text e) ∙ byte_end choose_step within.Before (within.From None) 58 refl
from_run (bound {text} i s) =
    let r = index_spaced within.Before [] before_integers (skips within.Before refl) s in
    grown choose_step (Some within.Before) r.now text 58 r.is ∙ ap (λ c. open_choice c) (listed_on r.now (i ∷ []) 58 r.lists refl)

pub before_quotes : Quotes choose_step within.Before (within.Quote []) (λ w. within.Named ([] ++ w ∷ []))
before_quotes = record {
  begins = begun;
  goes = λ q r b e. rw e refl;
  ends = λ q w b e. rw e refl;
}
  where
    begun : (d : Bool) → choose_step within.Before (mark d) ≡ Some (within.Quote [] (quotation d))
    begun true = refl
    begun false = refl

pub next_quotes : (ns : List (List ℕ)) → Quotes choose_step (within.NextName ns) (within.Quote ns) (λ w. within.Named (ns ++ w ∷ []))
next_quotes ns = record {
  begins = begun;
  goes = λ q r b e. rw e refl;
  ends = λ q w b e. rw e refl;
}
  where
    begun : (d : Bool) → choose_step (within.NextName ns) (mark d) ≡ Some (within.Quote ns (quotation d))
    begun true = refl
    begun false = refl

names_run : {t : List ℕ} {ws : List (List ℕ)} → AreListed IsQuoted t ws → run choose_step (Some within.Before) t ≡ Some (within.Named ws)
names_run (first a s e) = rw e (quoted_spaced choose_step within.Before (within.Quote []) (λ w. within.Named ([] ++ w ∷ [])) before_quotes (skips within.Before refl) (λ w. skips (within.Named ([] ++ w ∷ [])) refl) s)
names_run (next u t vs a l s e g) =
    let m : InBrackets = within.NextName vs in
    rw (e, g) (joined choose_step (Some within.Before) (Some (within.Named vs)) u (44 ∷ t) (names_run l) ∙ byte_on choose_step (within.Named vs) m 44 t refl
    ∙ quoted_spaced choose_step m (within.Quote vs) (λ w. within.Named (vs ++ w ∷ [])) (next_quotes vs) (skips m refl) (λ w. skips (within.Named (vs ++ w ∷ [])) refl) s)

pub in_condition : (m r : Checking) (b : ℕ) → check_step m b ≡ Some r → choose_step (within.Condition m) b ≡ Some (within.Condition r)
in_condition m r b e = from (check m b) e
  where
    from : (c : Checked) → open_check c ≡ Some r → open_choice (condition_goes c) ≡ Some (within.Condition r)
    from (checked.Open d) e = let g : d ≡ r = cc in rw g refl
    from (checked.Met d) e = absurd cc
    from checked.Wrong e = absurd cc

-- a selector is taken
pub selector_run : {text : List ℕ} {s : Selector} → IsSelector text s → (m : InBrackets) × (run choose_step (Some within.Before) text ≡ Some m) × (said m ≡ Some s)
selector_run (names ws l) = (within.Named ws, names_run l, refl)
selector_run (indexes is l) = let r = indexes_run l in (r.now, r.is, listed_said r.now is r.lists)
selector_run (slice u v from to f t e) =
    let r = to_run from t in
    (r.now, rw (e, ← append_assoc u (58 ∷ []) v) (joined choose_step (Some within.Before) (Some (within.From from)) (u ++ 58 ∷ []) v (from_run f) ∙ r.is), r.says)
selector_run (all x s e) = (within.Whole All, rw e (joined choose_step (Some within.Before) (Some within.Before) x (42 ∷ []) (stays choose_step within.Before is_space (skips within.Before refl) x s) ∙ byte_end choose_step within.Before (within.Whole All) 42 refl), refl)
selector_run (condition x u c s h e) =
    let r = condition_run h in
    let o : InBrackets = within.Condition at.Before in
    let w : InBrackets = within.Whole (Where c) in (
      w,
      rw e (joined choose_step (Some within.Before) (Some within.Before) x (63 ∷ 40 ∷ (u ++ 41 ∷ [])) (stays choose_step within.Before is_space (skips within.Before refl) x s)
          ∙ byte_on choose_step within.Before within.Question 63 (40 ∷ (u ++ 41 ∷ [])) refl ∙ byte_on choose_step within.Question o 40 (u ++ 41 ∷ []) refl
          ∙ joined choose_step (Some o) (Some (within.Condition r.0)) u (41 ∷ []) (lifted_all check_step choose_step within.Condition in_condition at.Before r.0 u r.1)
          ∙ byte_end choose_step (within.Condition r.0) w 41 (ap (λ z. open_choice (condition_goes z)) (condition_met r.0 c r.2))),
      refl,
    )
selector_run (padded {text} {selector} u h e) =
    let r = selector_run h in
    let k = says_space within.Before u selector (record { now = r.0; is = r.1; says = r.2 }) in
    (k.now, rw e k.is, k.says)
