-- Written calls are calls of the grammar.
use Rattle.std.proofs.Common.{◌≡◌, ℕ, zero, suc, ◌≤◌, ◌<◌, List, [], ◌∷◌, ◌++◌, length, take, refl, ap, sym, subst, ◌∙◌, Bool, true, false, ◌==◌, arith, Some, inl, inr, ◌⊎◌, if◌then◌else◌, length-append, append_assoc, append-nil}
use Rattle.std.specs.Fmt.{decimal}
use Rattle.std.specs.Str.{IsUtf8}
use Rattle.zbx_types.specs.declared.calls.Call.{Call}
use Rattle.zbx_types.specs.declared.calls.Fun.{Fun}
use Rattle.zbx_types.specs.declared.calls.Fun.TheVariants as fun
use Rattle.zbx_types.specs.declared.calls.Range.{Range}
use Rattle.zbx_types.specs.declared.calls.Range.TheVariants.{Count}
use Rattle.zbx_types.specs.Limits.{longest_range, longest_key}
use Rattle.expr_parser.specs.declared.slots.Words.{Words}
use Rattle.expr_parser.specs.declared.slots.Words.TheVariants.{Operators, Directions, Strengths}
use Rattle.expr_parser.specs.declared.slots.Slot.{Slot}
use Rattle.expr_parser.specs.declared.slots.Slot.TheVariants.{Newest, Span, MaybeSpan, Silence, Word, Percent, Free}
use Rattle.expr_parser.specs.declared.parts.Value.{Value}
use Rattle.expr_parser.specs.declared.parts.Value.TheVariants.{Ranged, Said}
use Rattle.expr_parser.specs.Bytes.{Point, behind}
use Rattle.expr_parser.specs.Numbers.{IsNumber, IsPeriod, seconds, suffixed_period}
use Rattle.expr_parser.specs.Functions.{name_of, slots, default_range, takes_count, least_period, word_list}
use Rattle.zbx_types.specs.Operators.{is_dated}
use Rattle.expr_parser.specs.Calls.{absent_value, number_limit, is_one_of, is_same, greatest_percent, IsRange, latest, span, IsQuoted, nothing, quote, backslash, plain, IsPart, absent, ranged, shifted, word, number, quoted_number, quoted, put, all_absent, may_be_absent, Arguments, no_more, another, plain_call, IsCall, dated, of_item}
use Rattle.expr_text.specs.Written.{escaped, quoted_text, written_range, written_shift, range_argument, last_arguments, written_call}
use Rattle.expr_parser.proofs.Lists.{no_blanks, way, either_way, eq_true, held_behind, some_is, none_some}
use Rattle.expr_parser.proofs.NumberPaths.{number_path}
use Rattle.expr_parser.proofs.PartPaths.{same_is}
use Rattle.expr_parser.proofs.NumberBytes.{is_plain, number_plain, number_utf8}
use Rattle.expr_text.proofs.WrittenNumbers.{decimal_is}

-- ---- texts in quotes

plain_first : (b : ℕ) (bs : List ℕ) → is_plain (b ∷ bs) ≡ true → ((b == 34) ≡ false) × ((b == 92) ≡ false) × (is_plain bs ≡ true)
plain_first b bs h = elim (way (b == 34) false (if b == 92 then false else is_plain bs) true h) [
  | inl z ↦ absurd (let k = z.1 in cc)
  | inr z ↦ elim (way (b == 92) false (is_plain bs) true z.1) [ inl y ↦ absurd (let k = y.1 in cc) | inr y ↦ (z.0, y.0, y.1) ]
]

plain_escaped : (t : List ℕ) → is_plain t ≡ true → escaped t ≡ t
plain_escaped [] h = refl
plain_escaped (b ∷ bs) h = let k = plain_first b bs h in rw k.0 (ap (λ (r : List ℕ). b ∷ r) (plain_escaped bs k.2))

plain_quoted : (t : List ℕ) → is_plain t ≡ true → IsQuoted t t
plain_quoted [] h = nothing refl refl
plain_quoted (b ∷ bs) h = let k = plain_first b bs h in plain b bs bs k.0 k.1 (plain_quoted bs k.2) refl refl

-- a text that isn't empty stays so without its backslashes, and with them begins with no quote
record Begins (w : List ℕ) : Type 0 where
  first : ℕ
  rest : List ℕ
  is : escaped w ≡ first ∷ rest
  no_quote : (first == 34) ≡ false

begins : (b : ℕ) (w : List ℕ) → Begins (b ∷ w)
begins b w = elim (either_way (b == 34)) [
  | inl e ↦ record { first = 92; rest = 34 ∷ escaped w; is = rw e refl; no_quote = refl }
  | inr e ↦ record { first = b; rest = escaped w; is = rw e refl; no_quote = e }
]

not_nothing : (b : ℕ) (u w : List ℕ) → IsQuoted (b ∷ u) w → Begins w
not_nothing b u w (nothing e f) = absurd cc
not_nothing b u w (quote x y q e f) = subst Begins (sym f) (begins 34 y)
not_nothing b u w (backslash c x y n q e f) = subst Begins (sym f) (begins 92 y)
not_nothing b u w (plain c x y n m q e f) = subst Begins (sym f) (begins c y)

quoted_again : {t v : List ℕ} → IsQuoted t v → IsQuoted (escaped v) v
quoted_again {t} {v} (nothing e f) = nothing (ap escaped f) f
quoted_again {t} {v} (quote u w q e f) = quote (escaped w) w (quoted_again q) (ap escaped f) f
quoted_again {t} {v} (backslash b u w n q e f) =
    let s = not_nothing b u w q in
    backslash s.first s.rest w s.no_quote (subst (λ (z : List ℕ). IsQuoted z w) s.is (quoted_again q)) (ap escaped f ∙ ap (λ (z : List ℕ). 92 ∷ z) s.is) f
quoted_again {t} {v} (plain b u w n m q e f) = plain b (escaped w) w n m (quoted_again q) (ap escaped f ∙ rw n refl) f

-- ---- words

abbrev all_plain : List (List ℕ) → Bool
all_plain [] = true
all_plain (w ∷ ws) = if is_plain w then all_plain ws else false

words_plain : (ws : Words) → all_plain (word_list ws) ≡ true
words_plain Operators = refl
words_plain Directions = refl
words_plain Strengths = refl

word_plain : (ws : List (List ℕ)) (w : List ℕ) → all_plain ws ≡ true → is_one_of ws w ≡ true → is_plain w ≡ true
word_plain [] w h g = absurd cc
word_plain (x ∷ ws) w h g = elim (way (is_plain x) (all_plain ws) false true h) [
  | inr z ↦ absurd (let k = z.1 in cc)
  | inl z ↦ elim (way (is_same w x) true (is_one_of ws w) true g) [
    | inl y ↦ subst (λ (v : List ℕ). is_plain v ≡ true) (sym (same_is w x y.0)) z.0
    | inr y ↦ word_plain ws w z.1 y.1
  ]
]

-- ---- arguments with a text

abbrev in_quotes : List ℕ → List ℕ
in_quotes t = 34 ∷ (t ++ 34 ∷ [])

-- what an argument says is said by its written form
abbrev Again : Slot → Value → Type 0
Again s (Said w) = IsPart s (quoted_text w) (Said w)
Again s (Ranged r n) = IsPart s (written_range r ++ written_shift n) (Ranged r n)

word_again : (ws : Words) (w : List ℕ) → is_one_of (word_list ws) w ≡ true → Again (Word ws) (Said w)
word_again ws [] h = absent refl
word_again ws (b ∷ bs) h = word (b ∷ bs) h (ap in_quotes (plain_escaped (b ∷ bs) (word_plain (word_list ws) (b ∷ bs) (words_plain ws) h)))

free_again : (w : List ℕ) → IsQuoted (escaped w) w → IsUtf8 w → Again Free (Said w)
free_again [] q u = absent refl
free_again (b ∷ bs) q u = quoted (escaped (b ∷ bs)) (b ∷ bs) q u refl

number_some : (most n : ℕ) → IsNumber most [] n → ⊥
number_some most n h = let r = number_path h in absurd (let e = r.is in cc)

percent_again : (w : List ℕ) (n : ℕ) → IsNumber greatest_percent w n → Again Percent (Said w)
percent_again [] n h = absurd (number_some greatest_percent n h)
percent_again (b ∷ bs) n h = quoted_number (b ∷ bs) n h (ap in_quotes (plain_escaped (b ∷ bs) (number_plain greatest_percent (b ∷ bs) n h)))

number_again : (s : Slot) (t : List ℕ) (most n : ℕ) → number_limit s ≡ Some most → IsNumber most t n → Again s (Said t)
number_again Newest t most n e h = none_some most e
number_again Span t most n e h = none_some most e
number_again MaybeSpan t most n e h = none_some most e
number_again Silence t most n e h = none_some most e
number_again (Word ws) t most n e h = none_some most e
number_again Percent t most n e h = percent_again t n (subst (λ (m : ℕ). IsNumber m t n) (sym (some_is greatest_percent most e)) h)
number_again Free t most n e h =
    let p = number_plain most t n h in
    free_again t (subst (λ (z : List ℕ). IsQuoted z t) (sym (plain_escaped t p)) (plain_quoted t p)) (number_utf8 most t n h)

-- ---- ranges

period_again : {least most n : ℕ} {t : List ℕ} → most ≤ longest_range → IsPeriod least most t n → IsPeriod least most (decimal n) n
period_again {least} {most} {n} small (seconds b bs d lo hi) = in_seconds least most n small lo hi
  where
    in_seconds : (least most n : ℕ) → most ≤ longest_range → least ≤ n → n ≤ most → IsPeriod least most (decimal n) n
    in_seconds least most n small lo hi =
        let d = decimal_is n (omega (arith, small, hi)) in
        subst (λ (z : List ℕ). IsPeriod least most z n) (sym d.is) (seconds d.first d.rest d.value lo hi)
period_again {least} {most} {n} small (suffixed_period b bs c m f d e k lo hi t) = in_seconds least most n small lo hi
  where
    in_seconds : (least most n : ℕ) → most ≤ longest_range → least ≤ n → n ≤ most → IsPeriod least most (decimal n) n
    in_seconds least most n small lo hi =
        let d = decimal_is n (omega (arith, small, hi)) in
        subst (λ (z : List ℕ). IsPeriod least most z n) (sym d.is) (seconds d.first d.rest d.value lo hi)

count_again : (s : Slot) (n : ℕ) → takes_count s ≡ true → 0 < n → n ≤ 10000 → IsRange s (written_range (Count n)) (Count n)
count_again s n c p h = let d = decimal_is n (omega (arith, h)) in latest d.first d.rest c d.value p h (ap (λ (z : List ℕ). 35 ∷ z) d.is)

range_again : {s : Slot} {t : List ℕ} {r : Range} → IsRange s t r → IsRange s (written_range r) r
range_again {s} (latest {n = n} b bs c d p h e) = count_again s n c p h
range_again (span m l p) = span m l (period_again (omega arith) p)

ranged_again : (s : Slot) (r : Range) → IsRange s (written_range r) r → Again s (Ranged r 0)
ranged_again s r g = subst (λ (z : List ℕ). IsPart s z (Ranged r 0)) (sym (append-nil (written_range r))) (ranged g)

shifted_again : (s : Slot) (r : Range) (n : ℕ) (w : List ℕ) → IsRange s (written_range r) r → takes_count s ≡ true → IsPeriod 0 longest_range w n → Again s (Ranged r n)
shifted_again s r n w g c p = elim (either_way (n == 0)) [
  | inl e ↦ subst (λ (v : ℕ). Again s (Ranged r v)) (sym (eq_true n 0 e)) (ranged_again s r g)
  | inr e ↦ rw e (shifted (written_range r) (decimal n) g c (period_again (omega arith) p) refl)
]

-- ---- arguments

absent_again : (s : Slot) (v : Value) → absent_value s ≡ Some v → Again s v
absent_again Newest v e = subst (λ (z : Value). Again Newest z) (some_is (Ranged (Count 1) 0) v e) (ranged_again Newest (Count 1) (count_again Newest 1 refl (omega arith) (omega arith)))
absent_again Span v e = none_some v e
absent_again MaybeSpan v e = subst (λ (z : Value). Again MaybeSpan z) (some_is (Ranged (Count 1) 0) v e) (ranged_again MaybeSpan (Count 1) (count_again MaybeSpan 1 refl (omega arith) (omega arith)))
absent_again Silence v e = none_some v e
absent_again (Word ws) v e = subst (λ (z : Value). Again (Word ws) z) (some_is (Said []) v e) (absent refl)
absent_again Percent v e = none_some v e
absent_again Free v e = subst (λ (z : Value). Again Free z) (some_is (Said []) v e) (absent refl)

part_again : {s : Slot} {t : List ℕ} {v : Value} → IsPart s t v → Again s v
part_again (absent {s} {v} e) = absent_again s v e
part_again (ranged {s} {t} {r} g) = ranged_again s r (range_again g)
part_again (shifted {s} {t} {r} {n} u w g c p e) = shifted_again s r n w (range_again g) c p
part_again (word {t} {ws} w h e) = word_again ws w h
part_again (number {s} {t} most n e h) = number_again s t most n e h
part_again (quoted_number {t} u n h e) = percent_again u n h
part_again (quoted {t} u v q h e) = free_again v (quoted_again q) h

-- which arguments are ranges
abbrev is_range : Slot → Bool
is_range Newest = true
is_range Span = true
is_range MaybeSpan = true
is_range Silence = true
is_range (Word ws) = false
is_range Percent = false
is_range Free = false

abbrev Fits : Bool → Value → Type 0
Fits true (Ranged r n) = Unit {0}
Fits true (Said w) = ⊥
Fits false (Ranged r n) = ⊥
Fits false (Said w) = Unit {0}

absent_fits : (s : Slot) (v : Value) → absent_value s ≡ Some v → Fits (is_range s) v
absent_fits Newest v e = subst (λ (z : Value). Fits true z) (some_is (Ranged (Count 1) 0) v e) tt
absent_fits Span v e = none_some v e
absent_fits MaybeSpan v e = subst (λ (z : Value). Fits true z) (some_is (Ranged (Count 1) 0) v e) tt
absent_fits Silence v e = none_some v e
absent_fits (Word ws) v e = subst (λ (z : Value). Fits false z) (some_is (Said []) v e) tt
absent_fits Percent v e = none_some v e
absent_fits Free v e = subst (λ (z : Value). Fits false z) (some_is (Said []) v e) tt

count_range : (s : Slot) → takes_count s ≡ true → is_range s ≡ true
count_range Newest h = refl
count_range Span h = refl
count_range MaybeSpan h = refl
count_range Silence h = refl
count_range (Word ws) h = h
count_range Percent h = h
count_range Free h = h

period_range : (s : Slot) (m : ℕ) → least_period s ≡ Some m → is_range s ≡ true
period_range Newest m h = refl
period_range Span m h = refl
period_range MaybeSpan m h = refl
period_range Silence m h = refl
period_range (Word ws) m h = none_some m h
period_range Percent m h = none_some m h
period_range Free m h = none_some m h

range_range : {s : Slot} {t : List ℕ} {r : Range} → IsRange s t r → is_range s ≡ true
range_range {s} (latest b bs c d p h e) = count_range s c
range_range {s} (span m l p) = period_range s m l

limit_range : (s : Slot) (m : ℕ) → number_limit s ≡ Some m → is_range s ≡ false
limit_range Newest m h = none_some m h
limit_range Span m h = none_some m h
limit_range MaybeSpan m h = none_some m h
limit_range Silence m h = none_some m h
limit_range (Word ws) m h = refl
limit_range Percent m h = refl
limit_range Free m h = refl

part_fits : {s : Slot} {t : List ℕ} {v : Value} → IsPart s t v → Fits (is_range s) v
part_fits (absent {s} {v} e) = absent_fits s v e
part_fits (ranged {s} {t} {r} g) = subst (λ (b : Bool). Fits b (Ranged r 0)) (sym (range_range g)) tt
part_fits (shifted {s} {t} {r} {n} u w g c p e) = subst (λ (b : Bool). Fits b (Ranged r n)) (sym (count_range s c)) tt
part_fits (word {t} {ws} w h e) = tt
part_fits (number {s} {t} most n e h) = subst (λ (b : Bool). Fits b (Said t)) (sym (limit_range s most e)) tt
part_fits (quoted_number {t} u n h e) = tt
part_fits (quoted {t} u v q h e) = tt

-- an empty text stands where nothing may stand
abbrev MayBeEmpty : Slot → Value → Type 0
MayBeEmpty s (Ranged r n) = Unit {0}
MayBeEmpty s (Said []) = may_be_absent s ≡ true
MayBeEmpty s (Said (b ∷ bs)) = Unit {0}

absent_empty : (s : Slot) (v : Value) → absent_value s ≡ Some v → MayBeEmpty s v
absent_empty Newest v e = subst (λ (z : Value). MayBeEmpty Newest z) (some_is (Ranged (Count 1) 0) v e) tt
absent_empty Span v e = none_some v e
absent_empty MaybeSpan v e = subst (λ (z : Value). MayBeEmpty MaybeSpan z) (some_is (Ranged (Count 1) 0) v e) tt
absent_empty Silence v e = none_some v e
absent_empty (Word ws) v e = subst (λ (z : Value). MayBeEmpty (Word ws) z) (some_is (Said []) v e) refl
absent_empty Percent v e = none_some v e
absent_empty Free v e = subst (λ (z : Value). MayBeEmpty Free z) (some_is (Said []) v e) refl

number_empty : (s : Slot) (most n : ℕ) (t : List ℕ) → IsNumber most t n → MayBeEmpty s (Said t)
number_empty s most n [] h = absurd (number_some most n h)
number_empty s most n (b ∷ bs) h = tt

word_empty : (ws : Words) (w : List ℕ) → MayBeEmpty (Word ws) (Said w)
word_empty ws [] = refl
word_empty ws (b ∷ bs) = tt

free_empty : (w : List ℕ) → MayBeEmpty Free (Said w)
free_empty [] = refl
free_empty (b ∷ bs) = tt

part_empty : {s : Slot} {t : List ℕ} {v : Value} → IsPart s t v → MayBeEmpty s v
part_empty (absent {s} {v} e) = absent_empty s v e
part_empty (ranged g) = tt
part_empty (shifted u w g c p e) = tt
part_empty (word {t} {ws} w h e) = word_empty ws w
part_empty (number {s} {t} most n e h) = number_empty s most n t h
part_empty (quoted_number {t} u n h e) = number_empty Percent greatest_percent n u h
part_empty (quoted {t} u v q h e) = free_empty v

-- ---- what stands behind an item

-- a call of an item
abbrev item_call : Fun → List ℕ → List ℕ → Range → ℕ → List ℕ → List ℕ → Call
item_call f h k r n o a = record { fun = f; host = h; key = k; range = r; shift = n; op = o; arg = a }

record Next (s : Slot) (ss : List Slot) (c d : Call) : Type 0 where
  v : Value
  t : List ℕ
  r : List ℕ
  part : IsPart s t v
  more : Arguments ss (put s v c) r d

inverse : {s : Slot} {ss : List Slot} {c d : Call} {x : List ℕ} → Arguments (s ∷ ss) c x d → ((c ≡ d) × (all_absent (s ∷ ss) ≡ true)) ⊎ Next s ss c d
inverse (no_more e) = inl (refl, e)
inverse (another {s} {ss} {c} {d} {text} {v} x t r a p m e) = inr (record { v = v; t = t; r = r; part = p; more = m })

finished : {c d : Call} {x : List ℕ} → Arguments [] c x d → c ≡ d
finished (no_more e) = refl

-- arguments behind the range
record Tail (ss : List Slot) (f : Fun) (h k : List ℕ) (r : Range) (n : ℕ) (d : Call) : Type 0 where
  o : List ℕ
  a : List ℕ
  is : d ≡ item_call f h k r n o a
  again : Arguments ss (item_call f h k r n [] []) (last_arguments o a) (item_call f h k r n o a)

no_tail : (f : Fun) (h k : List ℕ) (r : Range) (n : ℕ) (x : List ℕ) (d : Call) → Arguments [] (item_call f h k r n [] []) x d → Tail [] f h k r n d
no_tail f h k r n x d m = record { o = []; a = []; is = sym (finished m); again = no_more refl }

-- one argument
one_again : (s : Slot) (f : Fun) (h k : List ℕ) (r : Range) (n : ℕ) (w : List ℕ) → ((z : List ℕ) → put s (Said z) (item_call f h k r n [] []) ≡ item_call f h k r n z [])
    → MayBeEmpty s (Said w) → Again s (Said w) → Arguments (s ∷ []) (item_call f h k r n [] []) (last_arguments w []) (item_call f h k r n w [])
one_again s f h k r n [] puts e g = no_more (rw e refl)
one_again s f h k r n (b ∷ bs) puts e g =
    another [] (quoted_text (b ∷ bs)) [] no_blanks g
    (subst (λ (c : Call). Arguments [] c [] (item_call f h k r n (b ∷ bs) [])) (sym (puts (b ∷ bs))) (no_more refl))
    (ap (λ (z : List ℕ). 44 ∷ z) (sym (append-nil (quoted_text (b ∷ bs)))))

one_tail : (s : Slot) (f : Fun) (h k : List ℕ) (r : Range) (n : ℕ) (x : List ℕ) (d : Call) → is_range s ≡ false → ((z : List ℕ) → put s (Said z) (item_call f h k r n [] []) ≡ item_call f h k r n z [])
    → Arguments (s ∷ []) (item_call f h k r n [] []) x d → Tail (s ∷ []) f h k r n d
one_tail s f h k r n x d off puts m = elim (inverse m) [
  | inl z ↦ record { o = []; a = []; is = sym z.0; again = no_more z.1 }
  | inr y ↦ said y.v (subst (λ (b : Bool). Fits b y.v) off (part_fits y.part)) (part_empty y.part) (part_again y.part) y.r y.more
]
  where
    said : (v : Value) → Fits false v → MayBeEmpty s v → Again s v → (z : List ℕ) → Arguments [] (put s v (item_call f h k r n [] [])) z d → Tail (s ∷ []) f h k r n d
    said (Ranged q i) bad e g z more = absurd bad
    said (Said w) fine e g z more = record { o = w; a = []; is = sym (finished more) ∙ puts w; again = one_again s f h k r n w puts e g }

-- a word and a text
two_again : (ws : Words) (f : Fun) (h k : List ℕ) (r : Range) (n : ℕ) (o a : List ℕ) → Again (Word ws) (Said o) → Again Free (Said a)
    → Arguments (Word ws ∷ Free ∷ []) (item_call f h k r n [] []) (last_arguments o a) (item_call f h k r n o a)
two_again ws f h k r n [] [] p q = no_more refl
two_again ws f h k r n (b ∷ bs) [] p q =
    another [] (quoted_text (b ∷ bs)) [] no_blanks p (no_more refl) (ap (λ (z : List ℕ). 44 ∷ z) (sym (append-nil (quoted_text (b ∷ bs)))))
two_again ws f h k r n [] (c ∷ cs) p q =
    another [] [] (44 ∷ quoted_text (c ∷ cs)) no_blanks p
    (another [] (quoted_text (c ∷ cs)) [] no_blanks q (no_more refl) (ap (λ (z : List ℕ). 44 ∷ z) (sym (append-nil (quoted_text (c ∷ cs)))))) refl
two_again ws f h k r n (b ∷ bs) (c ∷ cs) p q =
    another [] (quoted_text (b ∷ bs)) (44 ∷ quoted_text (c ∷ cs)) no_blanks p
    (another [] (quoted_text (c ∷ cs)) [] no_blanks q (no_more refl) (ap (λ (z : List ℕ). 44 ∷ z) (sym (append-nil (quoted_text (c ∷ cs))))))
    (ap (λ (z : List ℕ). 44 ∷ z) (append_assoc (quoted_text (b ∷ bs)) (44 ∷ []) (quoted_text (c ∷ cs))))

two_tail : (ws : Words) (f : Fun) (h k : List ℕ) (r : Range) (n : ℕ) (x : List ℕ) (d : Call) → Arguments (Word ws ∷ Free ∷ []) (item_call f h k r n [] []) x d → Tail (Word ws ∷ Free ∷ []) f h k r n d
two_tail ws f h k r n x d m = elim (inverse m) [
  | inl z ↦ record { o = []; a = []; is = sym z.0; again = no_more refl }
  | inr y ↦ said y.v (part_fits y.part) (part_again y.part) y.r y.more
]
  where
    text : (o : List ℕ) → Again (Word ws) (Said o) → (v : Value) → Fits false v → Again Free v → (z : List ℕ) → Arguments [] (put Free v (item_call f h k r n o [])) z d → Tail (Word ws ∷ Free ∷ []) f h k r n d
    text o p (Ranged q i) bad g z more = absurd bad
    text o p (Said a) fine g z more = record { o = o; a = a; is = sym (finished more); again = two_again ws f h k r n o a p g }

    said : (v : Value) → Fits false v → Again (Word ws) v → (z : List ℕ) → Arguments (Free ∷ []) (put (Word ws) v (item_call f h k r n [] [])) z d → Tail (Word ws ∷ Free ∷ []) f h k r n d
    said (Ranged q i) bad g z more = absurd bad
    said (Said o) fine g z more = elim (inverse more) [
      | inl e ↦ record { o = o; a = []; is = sym e.0; again = two_again ws f h k r n o [] g (absent refl) }
      | inr y ↦ text o g y.v (part_fits y.part) (part_again y.part) y.r y.more
    ]

-- ---- a range, and arguments behind it

record Whole (ss : List Slot) (f : Fun) (h k : List ℕ) (d : Call) : Type 0 where
  r : Range
  n : ℕ
  o : List ℕ
  a : List ℕ
  is : d ≡ item_call f h k r n o a
  again : Arguments ss (plain_call f h k) (range_argument (item_call f h k r n o a) ++ last_arguments o a) (item_call f h k r n o a)

default_again : (s : Slot) (ss : List Slot) → is_range s ≡ true → all_absent (s ∷ ss) ≡ true → Again s (Ranged (Count 1) 0) × (all_absent ss ≡ true)
default_again Newest ss g h = (absent_again Newest (Ranged (Count 1) 0) refl, h)
default_again Span ss g h = absurd cc
default_again MaybeSpan ss g h = (absent_again MaybeSpan (Ranged (Count 1) 0) refl, h)
default_again Silence ss g h = absurd cc
default_again (Word ws) ss g h = absurd cc
default_again Percent ss g h = absurd cc
default_again Free ss g h = absurd cc

with_range : (f : Fun) (s : Slot) (ss : List Slot) (h k : List ℕ) (x : List ℕ) (d : Call) → slots f ≡ s ∷ ss → is_range s ≡ true → default_range f ≡ Count 1
    → ((r : Range) (n : ℕ) (z : List ℕ) → Arguments ss (item_call f h k r n [] []) z d → Tail ss f h k r n d)
    → Arguments (s ∷ ss) (plain_call f h k) x d → Whole (s ∷ ss) f h k d
with_range f s ss h k x d e g default tail m = elim (inverse m) [
  | inl z ↦
      let y = default_again s ss g z.1 in
      record {
        r = Count 1;
        n = 0;
        o = [];
        a = [];
        is = sym z.0 ∙ ap (λ (r : Range). item_call f h k r 0 [] []) default;
        again = rw e (another [] (written_range (Count 1) ++ written_shift 0) [] no_blanks y.0 (no_more y.1) refl);
      }
  | inr y ↦ ranged_first y.v (subst (λ (b : Bool). Fits b y.v) g (part_fits y.part)) (part_again y.part) y.r y.more
]
  where
    ranged_first : (v : Value) → Fits true v → Again s v → (z : List ℕ) → Arguments ss (put s v (plain_call f h k)) z d → Whole (s ∷ ss) f h k d
    ranged_first (Said w) bad p z more = absurd bad
    ranged_first (Ranged r n) fine p z more =
        let q = tail r n z more in
        record {
          r = r;
          n = n;
          o = q.o;
          a = q.a;
          is = q.is;
          again = rw e (another [] (written_range r ++ written_shift n) (last_arguments q.o q.a) no_blanks p q.again refl);
        }

range_alone : (f : Fun) (s : Slot) (h k : List ℕ) (x : List ℕ) (d : Call) → slots f ≡ s ∷ [] → is_range s ≡ true → default_range f ≡ Count 1
    → Arguments (s ∷ []) (plain_call f h k) x d → Whole (s ∷ []) f h k d
range_alone f s h k x d e g default m = with_range f s [] h k x d e g default (λ r n z t. no_tail f h k r n z d t) m

range_and_one : (f : Fun) (s t : Slot) (h k : List ℕ) (x : List ℕ) (d : Call) → slots f ≡ s ∷ t ∷ [] → is_range s ≡ true → default_range f ≡ Count 1 → is_range t ≡ false
    → ((r : Range) (n : ℕ) (z : List ℕ) → put t (Said z) (item_call f h k r n [] []) ≡ item_call f h k r n z [])
    → Arguments (s ∷ t ∷ []) (plain_call f h k) x d → Whole (s ∷ t ∷ []) f h k d
range_and_one f s t h k x d e g default off puts m = with_range f s (t ∷ []) h k x d e g default (λ r n z u. one_tail t f h k r n z d off (puts r n) u) m

range_and_two : (f : Fun) (s : Slot) (ws : Words) (h k : List ℕ) (x : List ℕ) (d : Call) → slots f ≡ s ∷ Word ws ∷ Free ∷ [] → is_range s ≡ true → default_range f ≡ Count 1
    → Arguments (s ∷ Word ws ∷ Free ∷ []) (plain_call f h k) x d → Whole (s ∷ Word ws ∷ Free ∷ []) f h k d
range_and_two f s ws h k x d e g default m = with_range f s (Word ws ∷ Free ∷ []) h k x d e g default (λ r n z t. two_tail ws f h k r n z d t) m

item_again : (f : Fun) (h k x : List ℕ) (d : Call) → is_dated f ≡ false → Arguments (slots f) (plain_call f h k) x d → Whole (slots f) f h k d
item_again fun.Last h k x d off m = range_alone fun.Last Newest h k x d refl refl refl m
item_again fun.First h k x d off m = range_alone fun.First Span h k x d refl refl refl m
item_again fun.Min h k x d off m = range_alone fun.Min Span h k x d refl refl refl m
item_again fun.Max h k x d off m = range_alone fun.Max Span h k x d refl refl refl m
item_again fun.Avg h k x d off m = range_alone fun.Avg Span h k x d refl refl refl m
item_again fun.Sum h k x d off m = range_alone fun.Sum Span h k x d refl refl refl m
item_again fun.Change h k x d off m = record { r = Count 2; n = 0; o = []; a = []; is = sym (finished m); again = no_more refl }
item_again fun.Count h k x d off m = range_and_two fun.Count Span Operators h k x d refl refl refl m
item_again fun.Find h k x d off m = range_and_two fun.Find MaybeSpan Operators h k x d refl refl refl m
item_again fun.NoData h k x d off m = range_alone fun.NoData Silence h k x d refl refl refl m
item_again fun.Percentile h k x d off m = range_and_one fun.Percentile Span Percent h k x d refl refl refl refl (λ r n z. refl) m
item_again fun.ChangeCount h k x d off m = range_and_one fun.ChangeCount Span (Word Directions) h k x d refl refl refl refl (λ r n z. refl) m
item_again fun.MonoInc h k x d off m = range_and_one fun.MonoInc Span (Word Strengths) h k x d refl refl refl refl (λ r n z. refl) m
item_again fun.MonoDec h k x d off m = range_and_one fun.MonoDec Span (Word Strengths) h k x d refl refl refl refl (λ r n z. refl) m
item_again fun.Now h k x d off m = absurd cc
item_again fun.Time h k x d off m = absurd cc
item_again fun.Date h k x d off m = absurd cc
item_again fun.DayOfWeek h k x d off m = absurd cc
item_again fun.DayOfMonth h k x d off m = absurd cc

-- ---- calls

take_all : (n : ℕ) (k : List ℕ) → length k ≤ n → take n k ≡ k
take_all zero [] h = refl
take_all zero (x ∷ k) h = absurd (omega arith)
take_all (suc n) [] h = refl
take_all (suc n) (x ∷ k) h = ap (λ (z : List ℕ). x ∷ z) (take_all n k (omega arith))

take_less : (n : ℕ) (k : List ℕ) → length (take n k) ≤ length k
take_less zero k = omega arith
take_less (suc n) [] = omega arith
take_less (suc n) (x ∷ k) = omega (arith, take_less n k)

-- a key that is held to its limit as a whole is within it
key_fits : (p : Point) (name h k r : List ℕ) → length (name ++ 40 ∷ 47 ∷ (h ++ 47 ∷ (k ++ (r ++ 41 ∷ [])))) ≤ p.held
    → length (take (behind p (name ++ 40 ∷ 47 ∷ (h ++ 47 ∷ []))).held k) ≤ longest_key → length k ≤ longest_key
key_fits p name h k r w fit =
    let held = held_behind p (name ++ 40 ∷ 47 ∷ (h ++ 47 ∷ [])) in
    let a = length-append name (40 ∷ 47 ∷ (h ++ 47 ∷ [])) in
    let b = length-append h (47 ∷ []) in
    let c = length-append name (40 ∷ 47 ∷ (h ++ 47 ∷ (k ++ (r ++ 41 ∷ [])))) in
    let d = length-append h (47 ∷ (k ++ (r ++ 41 ∷ []))) in
    let e = length-append k (r ++ 41 ∷ []) in
    let within : length k ≤ (behind p (name ++ 40 ∷ 47 ∷ (h ++ 47 ∷ []))).held = omega (arith, held, a, b, c, d, e, w) in
    subst (λ (z : List ℕ). length z ≤ longest_key) (take_all _ k within) fit

joined_again : (name h k r : List ℕ) → ((((name ++ 40 ∷ 47 ∷ []) ++ h) ++ 47 ∷ []) ++ k) ++ r ++ 41 ∷ [] ≡ name ++ 40 ∷ 47 ∷ (h ++ 47 ∷ (k ++ (r ++ 41 ∷ [])))
joined_again name h k r = simp append_assoc refl

-- a call is written as a call
pub call_again : {p : Point} {text : List ℕ} {c : Call} → IsCall p text c → length text ≤ p.held → (q : Point) → IsCall q (written_call c) c
call_again {p} {text} {c} (dated f h e) w q = rw h (dated f h refl)
call_again {p} {text} {c} (of_item f h k r off host key utf8 fit args e) w q =
    let n = item_again f h k r c off args in
    let small = key_fits p (name_of f) h k r (subst (λ (z : List ℕ). length z ≤ p.held) e w) fit in
    let fits = take_less (behind q (name_of f ++ 40 ∷ 47 ∷ (h ++ 47 ∷ []))).held k in
    let within : length (take (behind q (name_of f ++ 40 ∷ 47 ∷ (h ++ 47 ∷ []))).held k) ≤ longest_key = omega (arith, fits, small) in
    let d = item_call f h k n.r n.n n.o n.a in
    let rest = range_argument d ++ last_arguments n.o n.a in
    subst (λ (z : Call). IsCall q (written_call z) z) (sym n.is)
    (rw off (of_item {p = q} f h k rest off host key utf8 within n.again (joined_again (name_of f) h k rest)))
