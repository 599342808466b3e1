-- The machine takes the conditions of the grammar.
use Rattle.std.proofs.Common.{◌≡◌, ℕ, List, [], ◌∷◌, ◌++◌, refl, ap, sym, ◌∙◌, Option, Some, None, Bool, true, false, ◌==◌, arith, append_assoc, inl, inr, ◌⊎◌}
use Rattle.std.proofs.lemmas.Bool.Decides.{nat_tests}
use Rattle.byte_grammar.specs.declared.characters.Character.TheVariants.{Whole}
use Rattle.json_path.specs.declared.numbers.Part.{Part}
use Rattle.json_path.specs.declared.numbers.Part.TheVariants.{Minus, Zero, Integer, Point, Fraction, Letter, Sign, Exponent}
use Rattle.json_path.specs.declared.path.Condition.{Condition}
use Rattle.json_path.specs.declared.path.Comparison.{Comparison}
use Rattle.json_path.specs.declared.path.Comparison.TheVariants.{Eq, Ne, Le, Ge, Lt, Gt}
use Rattle.json_path.specs.declared.path.Literal.{Literal}
use Rattle.json_path.specs.declared.path.Literal.TheVariants.{Words, Number}
use Rattle.json_path.specs.declared.conditions.Checking.{Checking}
use Rattle.json_path.specs.declared.conditions.Checking.TheVariants as at
use Rattle.json_path.specs.declared.conditions.Checked.{Checked}
use Rattle.json_path.specs.declared.conditions.Checked.TheVariants.{Open, Met, Wrong}
use Rattle.byte_grammar.specs.Bytes.{Each, is_space, is_nonzero_digit}
use Rattle.json_path.specs.Grammar.{is_name_byte, mark, quoted, IsWhole, zero_part, whole_part, IsMinus, absent, present, IsDecimal, no_fraction, fraction, IsNumber, no_exponent, exponent, Spaced, behind_spaces, with_space, IsMember, root, named, bracketed, space_behind, symbol, IsLiteral, words, number, IsCondition, compares}
use Rattle.json_path.specs.Tokens.{quotation, checked, part, begin_part, whole_number}
use Rattle.json_path.specs.Machine.{check, behind_member, name_ends, behind_literal, number_ends}
use Rattle.json_path.proofs.Checked.{utf8_checked}
use Rattle.json_path.proofs.TextRuns.{Skips, Names, name_run, Quotes, quoted_run, quoted_spaced, ascii_number}
use Rattle.byte_grammar.specs.Runs.{run}
use Rattle.byte_grammar.proofs.Runs.{one_on, joined, grown, stays, byte_on, byte_end}
use Rattle.json_path.proofs.TokenRuns.{spelling, numeral_so, Numbers, number_run}

-- a condition that isn't over
abbrev pub open_check : Checked → Option Checking
open_check (Open c) = Some c
open_check (Met c) = None
open_check Wrong = None

abbrev pub check_step : Checking → ℕ → Option Checking
check_step m b = open_check (check m b)

-- what a state of a condition looks at
abbrev pub more_names : List (List ℕ) → Option (List ℕ) → Option (List (List ℕ))
more_names ns None = None
more_names ns (Some w) = Some (ns ++ w ∷ [])

abbrev pub member_of : Checking → Option (List (List ℕ))
member_of (at.Member ns) = Some ns
member_of (at.Name ns s) = more_names ns (checked s.bytes)
member_of _ = None

-- behind it, a byte does what it does behind a member
pub behind_it : (m : Checking) (ns : List (List ℕ)) (b : ℕ) → member_of m ≡ Some ns → is_name_byte b ≡ false → check m b ≡ behind_member ns b
behind_it (at.Member ns) n b e h = let c : ns ≡ n = cc in rw c refl
behind_it (at.Name ns s) n b e h = rw h (from (checked s.bytes) e)
  where
    from : (o : Option (List ℕ)) → more_names ns o ≡ Some n → name_ends ns b o ≡ behind_member n b
    from None e = absurd cc
    from (Some w) e = let c : ns ++ w ∷ [] ≡ n = cc in rw c refl
behind_it at.Before n b e h = absurd cc
behind_it (at.Point ns) n b e h = absurd cc
behind_it (at.Bracket ns) n b e h = absurd cc
behind_it (at.Quote ns q) n b e h = absurd cc
behind_it (at.Bracketed ns) n b e h = absurd cc
behind_it (at.Equal ns) n b e h = absurd cc
behind_it (at.Not ns) n b e h = absurd cc
behind_it (at.Less ns) n b e h = absurd cc
behind_it (at.Greater ns) n b e h = absurd cc
behind_it (at.Operand ns op) n b e h = absurd cc
behind_it (at.Quoted ns op q) n b e h = absurd cc
behind_it (at.Numbered ns op q) n b e h = absurd cc
behind_it (at.Compared c) n b e h = absurd cc

-- what the run of a member comes to
record Looks (text : List ℕ) (ns : List (List ℕ)) : Type 0 where
  now : Checking
  is : run check_step (Some at.Before) text ≡ Some now
  looks : member_of now ≡ Some ns

pub point_names : (ns : List (List ℕ)) → Names check_step (at.Point ns) (at.Name ns)
point_names ns = record {
  begins = λ b r h e. let n = not_space b h in rw (n, h, e) refl;
  goes = λ p r b h e. rw (h, e) refl;
}
  where
    not_space : (b : ℕ) → is_name_byte b ≡ true → (b == 32) ≡ false
    not_space b h = grind (arith, nat_tests)

pub bracket_quotes : (ns : List (List ℕ)) → Quotes check_step (at.Bracket ns) (at.Quote ns) (λ w. at.Bracketed (ns ++ w ∷ []))
bracket_quotes ns = record {
  begins = begun;
  goes = λ q r b e. rw e refl;
  ends = λ q w b e. rw e refl;
}
  where
    begun : (d : Bool) → check_step (at.Bracket ns) (mark d) ≡ Some (at.Quote ns (quotation d))
    begun true = refl
    begun false = refl

skips : (m : Checking) → check_step m 32 ≡ Some m → Skips check_step m
skips m h b e = let c : b ≡ 32 = space b e in rw c h
  where
    space : (b : ℕ) → is_space b ≡ true → b ≡ 32
    space b h = grind (arith, nat_tests)

-- one byte behind a member
onto : (text : List ℕ) (ns : List (List ℕ)) (b : ℕ) (m : Checking) → is_name_byte b ≡ false → behind_member ns b ≡ Open m → Looks text ns → run check_step (Some at.Before) (text ++ b ∷ []) ≡ Some m
onto text ns b m h e r = grown check_step (Some at.Before) r.now text b r.is ∙ ap (λ c. open_check c) (behind_it r.now ns b r.looks h ∙ e)

looks_at : {text : List ℕ} {ns : List (List ℕ)} → IsMember text ns → Looks text ns
looks_at (root x s e) = record {
  now = at.Member [];
  is = rw e (joined check_step (Some at.Before) (Some at.Before) x (64 ∷ []) (stays check_step at.Before is_space (skips at.Before refl) x s) ∙ byte_end check_step at.Before (at.Member []) 64 refl);
  looks = refl;
}
looks_at (named u x t ns n m s h e g) =
    let r = looks_at m in
    let k = name_run check_step (at.Point ns) (at.Name ns) (point_names ns) h in
    record {
      now = at.Name ns (spelling t Whole);
      is = rw (e, ← append_assoc u (46 ∷ []) (x ++ t)) (joined check_step (Some at.Before) (Some (at.Point ns)) (u ++ 46 ∷ []) (x ++ t) (onto u ns 46 (at.Point ns) refl refl r)
          ∙ joined check_step (Some (at.Point ns)) (Some (at.Point ns)) x t (stays check_step (at.Point ns) is_space (skips (at.Point ns) refl) x s) ∙ k.0);
      looks = rw (g, k.1) refl;
    }
looks_at (bracketed u t ns n m s e g) =
    let r = looks_at m in
    let b : Checking = at.Bracket ns in
    let d : Checking = at.Bracketed (ns ++ n ∷ []) in
    record {
      now = at.Member (ns ++ n ∷ []);
      is = rw (e, ← append_assoc u (91 ∷ []) (t ++ 93 ∷ [])) (joined check_step (Some at.Before) (Some b) (u ++ 91 ∷ []) (t ++ 93 ∷ []) (onto u ns 91 b refl refl r)
          ∙ joined check_step (Some b) (Some d) t (93 ∷ []) (quoted_spaced check_step b (at.Quote ns) (λ w. at.Bracketed (ns ++ w ∷ [])) (bracket_quotes ns) (skips b refl) (λ w. skips (at.Bracketed (ns ++ w ∷ [])) refl) s)
          ∙ byte_end check_step d (at.Member (ns ++ n ∷ [])) 93 refl);
      looks = rw g refl;
    }
looks_at (space_behind {text} {names} u m e) = record { now = at.Member names; is = rw e (onto u names 32 (at.Member names) refl refl (looks_at m)); looks = refl }

-- the condition of a state, behind whose literal it is
abbrev pub with_number : List (List ℕ) → Comparison → Option (List ℕ) → Option Condition
with_number ns op None = None
with_number ns op (Some w) = Some (record { names = ns; op = op; literal = Number w })

abbrev pub condition_of : Checking → Option Condition
condition_of (at.Compared c) = Some c
condition_of (at.Numbered ns op n) = with_number ns op (whole_number n)
condition_of _ = None

-- a byte that isn't of a number ends it
number_over : (p : Part) (b : ℕ) → (b ≡ 32) ⊎ (b ≡ 41) → part p b ≡ None
number_over p b (inl e) = rw e (blank p)
  where
    blank : (p : Part) → part p 32 ≡ None
    blank Minus = refl
    blank Zero = refl
    blank Integer = refl
    blank Point = refl
    blank Fraction = refl
    blank Letter = refl
    blank Sign = refl
    blank Exponent = refl
number_over p b (inr e) = rw e (bracket p)
  where
    bracket : (p : Part) → part p 41 ≡ None
    bracket Minus = refl
    bracket Zero = refl
    bracket Integer = refl
    bracket Point = refl
    bracket Fraction = refl
    bracket Letter = refl
    bracket Sign = refl
    bracket Exponent = refl

behind_whole : (m : Checking) (c : Condition) (b : ℕ) → (b ≡ 32) ⊎ (b ≡ 41) → condition_of m ≡ Some c → check m b ≡ behind_literal c b
behind_whole (at.Compared d) c b h e = let g : d ≡ c = cc in rw g refl
behind_whole (at.Numbered ns op n) c b h e = rw (number_over n.part b h) (from (whole_number n) e)
  where
    from : (o : Option (List ℕ)) → with_number ns op o ≡ Some c → number_ends ns op b o ≡ behind_literal c b
    from None e = absurd cc
    from (Some w) e = let g : record { names = ns; op = op; literal = Number w } ≡ c = cc in rw (← g) refl
behind_whole at.Before c b h e = absurd cc
behind_whole (at.Member ns) c b h e = absurd cc
behind_whole (at.Point ns) c b h e = absurd cc
behind_whole (at.Name ns s) c b h e = absurd cc
behind_whole (at.Bracket ns) c b h e = absurd cc
behind_whole (at.Quote ns q) c b h e = absurd cc
behind_whole (at.Bracketed ns) c b h e = absurd cc
behind_whole (at.Equal ns) c b h e = absurd cc
behind_whole (at.Not ns) c b h e = absurd cc
behind_whole (at.Less ns) c b h e = absurd cc
behind_whole (at.Greater ns) c b h e = absurd cc
behind_whole (at.Operand ns op) c b h e = absurd cc
behind_whole (at.Quoted ns op q) c b h e = absurd cc

-- what the run of a condition comes to, from this state
record Compares (from : Checking) (text : List ℕ) (c : Condition) : Type 0 where
  now : Checking
  is : run check_step (Some from) text ≡ Some now
  whole : condition_of now ≡ Some c

pub operand_quotes : (ns : List (List ℕ)) (op : Comparison) → Quotes check_step (at.Operand ns op) (at.Quoted ns op) (λ w. at.Compared (record { names = ns; op = op; literal = Words w }))
operand_quotes ns op = record {
  begins = begun;
  goes = λ q r b e. rw e refl;
  ends = λ q w b e. rw e refl;
}
  where
    begun : (d : Bool) → check_step (at.Operand ns op) (mark d) ≡ Some (at.Quoted ns op (quotation d))
    begun true = refl
    begun false = refl

pub operand_numbers : (ns : List (List ℕ)) (op : Comparison) → Numbers check_step (at.Operand ns op) (at.Numbered ns op)
operand_numbers ns op = record {
  begins = λ b p e. let n = number_byte b p e in rw (n.0, n.1, n.2, e) refl;
  goes = λ p bytes b q e. rw e refl;
}
  where
    number_byte : (b : ℕ) (p : Part) → begin_part b ≡ Some p → ((b == 32) ≡ false) × ((b == 34) ≡ false) × ((b == 39) ≡ false)
    number_byte b p e = (grind (arith, nat_tests), grind (arith, nat_tests), grind (arith, nat_tests))

literal_run : (ns : List (List ℕ)) (op : Comparison) {t : List ℕ} {l : Literal} → IsLiteral t l → Compares (at.Operand ns op) t (record { names = ns; op = op; literal = l })
literal_run ns op (words w q) = record {
  now = at.Compared (record { names = ns; op = op; literal = Words w });
  is = quoted_run check_step (at.Operand ns op) (at.Quoted ns op) (λ w. at.Compared (record { names = ns; op = op; literal = Words w })) (operand_quotes ns op) q;
  whole = refl;
}
literal_run ns op (number {text} n) =
    let r = number_run check_step (at.Operand ns op) (at.Numbered ns op) (operand_numbers ns op) n in
    record { now = at.Numbered ns op (numeral_so r.0 text); is = r.1; whole = rw (r.2, utf8_checked text (ascii_number n)) refl }

spaced_run : (ns : List (List ℕ)) (op : Comparison) {t : List ℕ} {l : Literal} → Spaced IsLiteral t l → Compares (at.Operand ns op) t (record { names = ns; op = op; literal = l })
spaced_run ns op (behind_spaces x t s h e) =
    let r = literal_run ns op h in
    let o : Checking = at.Operand ns op in
    record { now = r.now; is = rw e (joined check_step (Some o) (Some o) x t (stays check_step o is_space (skips o refl) x s) ∙ r.is); whole = r.whole }
spaced_run ns op (with_space {text} {value} t s e) =
    let r = spaced_run ns op s in
    let c : Condition = record { names = ns; op = op; literal = value } in
    record {
      now = at.Compared c;
      is = rw e (grown check_step (Some (at.Operand ns op)) r.now t 32 r.is ∙ ap (λ z. open_check z) (behind_whole r.now c 32 (inl refl) r.whole));
      whole = refl;
    }

-- where a comparison leads
abbrev behind_symbol : Comparison → List (List ℕ) → Checking
behind_symbol Eq ns = at.Operand ns Eq
behind_symbol Ne ns = at.Operand ns Ne
behind_symbol Le ns = at.Operand ns Le
behind_symbol Ge ns = at.Operand ns Ge
behind_symbol Lt ns = at.Less ns
behind_symbol Gt ns = at.Greater ns

member_on : (m : Checking) (ns : List (List ℕ)) (b : ℕ) (r : Checking) → member_of m ≡ Some ns → is_name_byte b ≡ false → behind_member ns b ≡ Open r → check_step m b ≡ Some r
member_on m ns b r e h g = ap (λ c. open_check c) (behind_it m ns b e h ∙ g)

symbol_run : (op : Comparison) (m : Checking) (ns : List (List ℕ)) → member_of m ≡ Some ns → run check_step (Some m) (symbol op) ≡ Some (behind_symbol op ns)
symbol_run Eq m ns e = byte_on check_step m (at.Equal ns) 61 (61 ∷ []) (member_on m ns 61 (at.Equal ns) e refl refl) ∙ byte_end check_step (at.Equal ns) (at.Operand ns Eq) 61 refl
symbol_run Ne m ns e = byte_on check_step m (at.Not ns) 33 (61 ∷ []) (member_on m ns 33 (at.Not ns) e refl refl) ∙ byte_end check_step (at.Not ns) (at.Operand ns Ne) 61 refl
symbol_run Le m ns e = byte_on check_step m (at.Less ns) 60 (61 ∷ []) (member_on m ns 60 (at.Less ns) e refl refl) ∙ byte_end check_step (at.Less ns) (at.Operand ns Le) 61 refl
symbol_run Ge m ns e = byte_on check_step m (at.Greater ns) 62 (61 ∷ []) (member_on m ns 62 (at.Greater ns) e refl refl) ∙ byte_end check_step (at.Greater ns) (at.Operand ns Ge) 61 refl
symbol_run Lt m ns e = byte_end check_step m (at.Less ns) 60 (member_on m ns 60 (at.Less ns) e refl refl)
symbol_run Gt m ns e = byte_end check_step m (at.Greater ns) 62 (member_on m ns 62 (at.Greater ns) e refl refl)

-- the text begins with a byte other than `=`
record Starts (t : List ℕ) : Type 0 where
  byte : ℕ
  rest : List ℕ
  is : t ≡ byte ∷ rest
  other : (byte == 61) ≡ false

longer : (t v : List ℕ) → Starts t → Starts (t ++ v)
longer t v s = record { byte = s.byte; rest = s.rest ++ v; is = ap (λ (w : List ℕ). w ++ v) s.is; other = s.other }

whole_starts : {t : List ℕ} → IsWhole t → Starts t
whole_starts (zero_part m h e) = at h e
  where
    at : {m t : List ℕ} → IsMinus m → t ≡ m ++ 48 ∷ [] → Starts t
    at absent e = record { byte = 48; rest = []; is = e; other = refl }
    at present e = record { byte = 45; rest = 48 ∷ []; is = e; other = refl }
whole_starts (whole_part m d ds h i j e) = at d ds i h e
  where
    not_equal : (d : ℕ) → is_nonzero_digit d ≡ true → (d == 61) ≡ false
    not_equal d h = grind (arith, nat_tests)

    at : (d : ℕ) (ds : List ℕ) → is_nonzero_digit d ≡ true → {m t : List ℕ} → IsMinus m → t ≡ m ++ d ∷ ds → Starts t
    at d ds i absent e = record { byte = d; rest = ds; is = e; other = not_equal d i }
    at d ds i present e = record { byte = 45; rest = d ∷ ds; is = e; other = refl }

decimal_starts : {t : List ℕ} → IsDecimal t → Starts t
decimal_starts (no_fraction w) = whole_starts w
decimal_starts (fraction w ds h i e) = rw e (longer w (46 ∷ ds) (whole_starts h))

number_starts : {t : List ℕ} → IsNumber t → Starts t
number_starts (no_exponent d) = decimal_starts d
number_starts (exponent t s ds e d h i j q) = rw q (longer t (e ∷ (s ++ ds)) (decimal_starts d))

literal_starts : {t : List ℕ} {l : Literal} → IsLiteral t l → Starts t
literal_starts (words w (quoted d t h u e)) = record { byte = mark d; rest = t ++ mark d ∷ []; is = e; other = at d }
  where
    at : (d : Bool) → (mark d == 61) ≡ false
    at true = refl
    at false = refl
literal_starts (number n) = number_starts n

spaced_starts : {t : List ℕ} {l : Literal} → Spaced IsLiteral t l → Starts t
unfolding Each
spaced_starts (behind_spaces x t s h e) = rw e (at x t s (literal_starts h))
  where
    not_equal : (b : ℕ) → is_space b ≡ true → (b == 61) ≡ false
    not_equal b h = grind (arith, nat_tests)

    at : (x t : List ℕ) → Each is_space x → Starts t → Starts (x ++ t)
    at [] t e s = s
    at (b ∷ x) t e s = record { byte = b; rest = x ++ t; is = refl; other = not_equal b e.0 }
spaced_starts (with_space t s e) = rw e (longer t (32 ∷ []) (spaced_starts s))

same_start : (op : Comparison) (ns : List (List ℕ)) (t : List ℕ) → Starts t → run check_step (Some (behind_symbol op ns)) t ≡ run check_step (Some (at.Operand ns op)) t
same_start Eq ns t s = refl
same_start Ne ns t s = refl
same_start Le ns t s = refl
same_start Ge ns t s = refl
same_start Lt ns t s = rw s.is (one_on check_step (at.Less ns) s.byte s.rest ∙ ap (λ o. run check_step o s.rest) (rw s.other refl) ∙ sym (one_on check_step (at.Operand ns Lt) s.byte s.rest))
same_start Gt ns t s = rw s.is (one_on check_step (at.Greater ns) s.byte s.rest ∙ ap (λ o. run check_step o s.rest) (rw s.other refl) ∙ sym (one_on check_step (at.Operand ns Gt) s.byte s.rest))

-- a condition is taken
pub condition_run : {text : List ℕ} {c : Condition} → IsCondition text c → (m : Checking) × (run check_step (Some at.Before) text ≡ Some m) × (condition_of m ≡ Some c)
condition_run (compares {text} {condition} u t m s e) =
    let r = looks_at m in
    let ns = condition.names in
    let op = condition.op in
    let k = spaced_run ns op s in (
      k.now,
      rw e (joined check_step (Some at.Before) (Some r.now) u (symbol op ++ t) r.is ∙ joined check_step (Some r.now) (Some (behind_symbol op ns)) (symbol op) t (symbol_run op r.now ns r.looks)
          ∙ same_start op ns t (spaced_starts s) ∙ k.is),
      k.whole,
    )

-- the closing parenthesis behind it
pub condition_met : (m : Checking) (c : Condition) → condition_of m ≡ Some c → check m 41 ≡ Met c
condition_met m c e = behind_whole m c 41 (inr refl) e
