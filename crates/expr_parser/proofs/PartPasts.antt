-- What has come of an argument.
use Rattle.std.proofs.Common.{◌≡◌, ℕ, zero, suc, ◌+◌, ◌-◌, ◌*◌, ◌≤◌, List, [], ◌∷◌, ◌++◌, refl, ap, sym, ◌∙◌, Bool, true, false, nat_le, ◌==◌, arith, Option, Some, None, inl, inr, if◌then◌else◌, subst, option_map, append_assoc, append-nil}
use Rattle.zbx_types.specs.declared.calls.Range.{Range}
use Rattle.zbx_types.specs.declared.calls.Range.TheVariants.{Count, Period}
use Rattle.byte_grammar.specs.Bytes.{is_digit}
use Rattle.byte_grammar.specs.declared.characters.Character.{Character}
use Rattle.byte_grammar.specs.declared.characters.Character.TheVariants.{Whole}
use Rattle.zbx_types.specs.Limits.{longest_range}
use Rattle.expr_parser.specs.declared.figures.Figures.{Figures}
use Rattle.expr_parser.specs.declared.slots.Words.{Words}
use Rattle.expr_parser.specs.declared.slots.Words.TheVariants.{Operators, Directions, Strengths}
use Rattle.expr_parser.specs.declared.slots.Slot.{Slot}
use Rattle.expr_parser.specs.declared.slots.Slot.TheVariants.{Newest, Span, MaybeSpan, Silence, Word, Percent, Free}
use Rattle.expr_parser.specs.declared.parts.Value.{Value}
use Rattle.expr_parser.specs.declared.parts.Value.TheVariants.{Ranged, Said}
use Rattle.expr_parser.specs.declared.parts.Ahead.{Ahead}
use Rattle.expr_parser.specs.declared.parts.Ahead.TheVariants.{Now, Ow, W, Dash, Digits as Figured}
use Rattle.expr_parser.specs.declared.parts.Part.{Part}
use Rattle.expr_parser.specs.declared.parts.Part.TheVariants.{Before, Hash, Latest, Seconds, Spanned, Back, Shift, Shifted, Letters, Number, Opened, Quoted, Text, Slash, Closed}
use Rattle.expr_parser.specs.Bytes.{Digits}
use Rattle.expr_parser.specs.Numbers.{period_factor, IsPeriod, seconds, suffixed_period}
use Rattle.expr_parser.specs.Functions.{takes_count, least_period, word_list}
use Rattle.expr_parser.specs.Calls.{number_limit, is_one_of, greatest_percent, IsRange, latest, span, IsQuoted, nothing, quote, backslash, plain, IsPart, absent, ranged, shifted, word, number, quoted_number, quoted}
use Rattle.byte_grammar.specs.Utf8.{follow, is_whole}
use Rattle.byte_grammar.specs.Runs.{run}
use Rattle.expr_parser.specs.Figures.{figure, first_figure, figures_text, figures_value}
use Rattle.expr_parser.specs.Parts.{begins_one, grown, lasting, part, part_value, latest_range, latest_byte, first_second, first_range, first_part, first_number, more_number, end_number, more_text, text_byte, slash_byte, colon, colon_of, second, letter, awaited, back, shift_byte, hash_byte, opened_byte, quoted_byte, seconds_value, ranged_value, number_value}
use Rattle.expr_parser.proofs.Lists.{snoc, way, some_is, none_some, le_true, digits_snoc, one_digit, eq_true}
use Rattle.byte_grammar.proofs.Utf8Texts.{taken_text}
use Rattle.byte_grammar.proofs.Runs.{run_append, grown as grown_run}
use Rattle.expr_parser.proofs.NumberPasts.{NumberPast, first_past, figure_past, number_ends}

-- whatever follows in the quotes, the text so far stands for these bytes in front of it
abbrev pub QuotedSo : List ℕ → List ℕ → Type 0
QuotedSo t v = (r w : List ℕ) → IsQuoted r w → IsQuoted (t ++ r) (v ++ w)

abbrev pub SlashSo : List ℕ → List ℕ → Type 0
SlashSo t v = (r w : List ℕ) → IsQuoted (92 ∷ r) w → IsQuoted (t ++ 92 ∷ r) (v ++ w)

-- what has come of `:now-`
abbrev pub gone : Ahead → List ℕ
gone Now = 58 ∷ []
gone Ow = 58 ∷ 110 ∷ []
gone W = 58 ∷ 110 ∷ 111 ∷ []
gone Dash = 58 ∷ 110 ∷ 111 ∷ 119 ∷ []
gone Figured = 58 ∷ 110 ∷ 111 ∷ 119 ∷ 45 ∷ []

-- the text so far, by the place in the argument
abbrev pub Past : Slot → Part → List ℕ → Type 0
Past s Before t = t ≡ []
Past s Hash t = (t ≡ 35 ∷ []) × (takes_count s ≡ true)
Past s (Latest v) t = (b : ℕ) × (bs : List ℕ) × (t ≡ 35 ∷ b ∷ bs) × Digits 0 (b ∷ bs) v × (v ≤ 10000) × (takes_count s ≡ true)
Past s (Seconds v) t = (b : ℕ) × (bs : List ℕ) × (m : ℕ) × (t ≡ b ∷ bs) × Digits 0 (b ∷ bs) v × (v ≤ longest_range) × (least_period s ≡ Some m)
Past s (Spanned r) t = IsRange s t r
Past s (Back a r) t = (u : List ℕ) × (t ≡ u ++ gone a) × IsRange s u r × (takes_count s ≡ true)
Past s (Shift r v) t = (u : List ℕ) × (b : ℕ) × (bs : List ℕ) × (t ≡ u ++ (58 ∷ 110 ∷ 111 ∷ 119 ∷ 45 ∷ b ∷ bs)) × IsRange s u r × (takes_count s ≡ true) × Digits 0 (b ∷ bs) v × (v ≤ longest_range)
Past s (Shifted r v) t = IsPart s t (Ranged r v)
Past s (Letters w) t = (ws : Words) × (s ≡ Word ws) × (t ≡ 34 ∷ w) × (begins_one (word_list ws) w ≡ true)
Past s (Number f) t = (most : ℕ) × (number_limit s ≡ Some most) × (t ≡ figures_text f) × NumberPast most f
Past s Opened t = (s ≡ Percent) × (t ≡ 34 ∷ [])
Past s (Quoted f) t = (s ≡ Percent) × (t ≡ 34 ∷ figures_text f) × NumberPast greatest_percent f
Past s (Text v u) t = (x : List ℕ) × (s ≡ Free) × (t ≡ 34 ∷ x) × QuotedSo x v × (run follow (Some Whole) v ≡ Some u)
Past s (Slash v) t = (x : List ℕ) × (s ≡ Free) × (t ≡ 34 ∷ (x ++ 92 ∷ [])) × SlashSo x v × (run follow (Some Whole) v ≡ Some Whole)
Past s (Closed v) t = IsPart s t (Said v)

-- the place that a step answers
as_part : (s : Slot) (t : List ℕ) {p : Part} (q : Part) → Past s p t → Some p ≡ Some q → Past s q t
as_part s t {p} q h e = subst (λ (v : Part). Past s v t) (some_is p q e) h

grown_some : (most v b : ℕ) (m : ℕ → Part) (q : Part) → option_map m (grown most v b) ≡ Some q → (v * 10 + (b - 48) ≤ most) × (Some (m (v * 10 + (b - 48))) ≡ Some q)
grown_some most v b m q h = at (nat_le (v * 10 + (b - 48)) most) refl h
  where
    at : (c : Bool) → nat_le (v * 10 + (b - 48)) most ≡ c → option_map m (if c then Some (v * 10 + (b - 48)) else None) ≡ Some q → (v * 10 + (b - 48) ≤ most) × (Some (m (v * 10 + (b - 48))) ≡ Some q)
    at true e h = (le_true _ _ e, h)
    at false e h = none_some q h

-- a period with its suffix
pub record Lasts (least v : ℕ) (o : Option ℕ) (m : ℕ → Part) (q : Part) : Type 0 where
  pub factor : ℕ
  pub is : o ≡ Some factor
  pub long : least ≤ v * factor
  pub short : v * factor ≤ longest_range
  pub place : Some (m (v * factor)) ≡ Some q

lasting_some : (least v : ℕ) (o : Option ℕ) (m : ℕ → Part) (q : Part) → option_map m (lasting least v o) ≡ Some q → Lasts least v o m q
lasting_some least v None m q h = none_some q h
lasting_some least v (Some f) m q h = at (nat_le least (v * f)) (nat_le (v * f) longest_range) refl refl h
  where
    at : (c d : Bool) → nat_le least (v * f) ≡ c → nat_le (v * f) longest_range ≡ d → option_map m (if c then (if d then Some (v * f) else None) else None) ≡ Some q → Lasts least v (Some f) m q
    at true true e g h = record { factor = f; is = refl; long = le_true least (v * f) e; short = le_true (v * f) longest_range g; place = h }
    at true false e g h = none_some q h
    at false d e g h = none_some q h

mapped_some : {A : Type 0} (m : A → Part) (o : Option A) (q : Part) → option_map m o ≡ Some q → (x : A) × (o ≡ Some x) × (Some (m x) ≡ Some q)
mapped_some {A} m None q h = none_some q h
mapped_some {A} m (Some x) q h = (x, refl, h)

-- ---- one byte more

colon_past : (s : Slot) (r : Range) (t : List ℕ) (b : ℕ) (q : Part) → IsRange s t r → colon s r b ≡ Some q → Past s q (t ++ b ∷ [])
colon_past s r t b q g h = elim (way (b == 58) (if takes_count s then Some (Back Now r) else None) None (Some q) h) [
  | inr z ↦ none_some q z.1
  | inl z ↦ elim (way (takes_count s) (Some (Back Now r)) None (Some q) z.1) [
    | inl y ↦ as_part _ _ q (t, ap (λ (c : ℕ). t ++ c ∷ []) (eq_true b 58 z.0), g, y.0) y.1
    | inr y ↦ none_some q y.1
  ]
]

hash_past : (s : Slot) (b : ℕ) (q : Part) → takes_count s ≡ true → hash_byte b ≡ Some q → Past s q (35 ∷ b ∷ [])
hash_past s b q c h = elim (way (is_digit b) _ _ (Some q) h) [
  | inl z ↦ let g = grown_some 10000 0 b Latest q z.1 in as_part _ _ q (b, [], refl, one_digit b z.0, g.0, c) g.1
  | inr z ↦ none_some q z.1
]

-- `#n` as a range
latest_is : (s : Slot) (t : List ℕ) (v : ℕ) (r : Range) → Past s (Latest v) t → latest_range v ≡ Some r → IsRange s t r
latest_is s t zero r p h = none_some r h
latest_is s t (suc v) r p h = subst (λ (z : Range). IsRange s t z) (some_is (Count (suc v)) r h) (latest p.0 p.1 p.5 p.3 (omega arith) p.4 p.2)

colon_of_past : (s : Slot) (o : Option Range) (t : List ℕ) (b : ℕ) (q : Part) → ((r : Range) → o ≡ Some r → IsRange s t r) → colon_of s o b ≡ Some q → Past s q (t ++ b ∷ [])
colon_of_past s None t b q g h = none_some q h
colon_of_past s (Some r) t b q g h = colon_past s r t b q (g r refl) h

latest_past : (s : Slot) (v : ℕ) (t : List ℕ) (b : ℕ) (q : Part) → Past s (Latest v) t → latest_byte s v b ≡ Some q → Past s q (t ++ b ∷ [])
latest_past s v t b q p h = elim (way (is_digit b) _ _ (Some q) h) [
  | inl z ↦ let g = grown_some 10000 v b Latest q z.1 in as_part _ _ q (p.0, p.1 ++ b ∷ [], ap (λ (x : List ℕ). x ++ b ∷ []) p.2, digits_snoc (p.0 ∷ p.1) b 0 v p.3 z.0, g.0, p.5) g.1
  | inr z ↦ colon_of_past s (latest_range v) t b q (λ r e. latest_is s t v r p e) z.1
]

second_past : (s : Slot) (v : ℕ) (t : List ℕ) (b : ℕ) (q : Part) (o : Option ℕ) → Past s (Seconds v) t → least_period s ≡ o → second s v o b ≡ Some q → Past s q (t ++ b ∷ [])
second_past s v t b q None p e h = none_some q h
second_past s v t b q (Some m) p e h = elim (way (is_digit b) _ _ (Some q) h) [
  | inl z ↦ let g = grown_some longest_range v b Seconds q z.1 in as_part _ _ q (p.0, p.1 ++ b ∷ [], m, ap (λ (x : List ℕ). x ++ b ∷ []) p.3, digits_snoc (p.0 ∷ p.1) b 0 v p.4 z.0, g.0, e) g.1
  | inr z ↦ elim (way (b == 58) _ _ (Some q) z.1) [
    | inl y ↦ elim (way (nat_le m v) _ _ (Some q) y.1) [
      | inl x ↦ colon_past s (Period v) t b q (span m e (subst (λ (w : List ℕ). IsPeriod m longest_range w v) (sym p.3) (seconds p.0 p.1 p.4 (le_true m v x.0) p.5))) x.1
      | inr x ↦ none_some q x.1
    ]
    | inr y ↦ let g = lasting_some m v (period_factor b) (λ n. Spanned (Period n)) q y.1 in
        as_part _ _ {p = Spanned (Period (v * g.factor))} q (span m e (suffixed_period p.0 p.1 b v g.factor p.4 g.is refl g.long g.short (ap (λ (w : List ℕ). w ++ b ∷ []) p.3))) g.place
  ]
]

first_second_past : (s : Slot) (b : ℕ) (q : Part) (o : Option ℕ) → least_period s ≡ o → first_second o b ≡ Some q → Past s q (b ∷ [])
first_second_past s b q None e h = none_some q h
first_second_past s b q (Some m) e h = elim (way (is_digit b) _ _ (Some q) h) [
  | inl z ↦ let g = grown_some longest_range 0 b Seconds q z.1 in as_part _ _ q (b, [], m, refl, one_digit b z.0, g.0, e) g.1
  | inr z ↦ none_some q z.1
]

first_range_past : (s : Slot) (b : ℕ) (q : Part) → first_range s b ≡ Some q → Past s q (b ∷ [])
first_range_past s b q h = elim (way (b == 35) _ _ (Some q) h) [
  | inl z ↦ elim (way (takes_count s) _ _ (Some q) z.1) [
    | inl y ↦ as_part _ _ q (ap (λ (c : ℕ). c ∷ []) (eq_true b 35 z.0), y.0) y.1
    | inr y ↦ none_some q y.1
  ]
  | inr z ↦ first_second_past s b q (least_period s) refl z.1
]

first_number_past : (s : Slot) (b : ℕ) (q : Part) (o : Option ℕ) → number_limit s ≡ o → first_number o b ≡ Some q → Past s q (b ∷ [])
first_number_past s b q None e h = none_some q h
first_number_past s b q (Some most) e h = let m = mapped_some Number (first_figure most b) q h in let g = first_past most b m.0 m.1 in as_part _ _ q (most, e, sym g.text, g.past) m.2

begins_all : (ws : Words) → begins_one (word_list ws) [] ≡ true
begins_all ws = at ws
  where
    at : (ws : Words) → begins_one (word_list ws) [] ≡ true
    at Operators = refl
    at Directions = refl
    at Strengths = refl

first_part_past : (s : Slot) (b : ℕ) (q : Part) → first_part s b ≡ Some q → Past s q (b ∷ [])
unfolding run
first_part_past Newest b q h = first_range_past Newest b q h
first_part_past Span b q h = first_range_past Span b q h
first_part_past MaybeSpan b q h = first_range_past MaybeSpan b q h
first_part_past Silence b q h = first_range_past Silence b q h
first_part_past (Word ws) b q h = elim (way (b == 34) _ _ (Some q) h) [
  | inl z ↦ as_part _ _ q (ws, refl, ap (λ (c : ℕ). c ∷ []) (eq_true b 34 z.0), begins_all ws) z.1
  | inr z ↦ none_some q z.1
]
first_part_past Percent b q h = elim (way (b == 34) _ _ (Some q) h) [
  | inl z ↦ as_part _ _ q (refl, ap (λ (c : ℕ). c ∷ []) (eq_true b 34 z.0)) z.1
  | inr z ↦ first_number_past Percent b q (number_limit Percent) refl z.1
]
first_part_past Free b q h = elim (way (b == 34) _ _ (Some q) h) [
  | inl z ↦ as_part _ _ q ([], refl, ap (λ (c : ℕ). c ∷ []) (eq_true b 34 z.0), (λ r w i. i), refl) z.1
  | inr z ↦ first_number_past Free b q (number_limit Free) refl z.1
]

letter_past : (ws : Words) (w : List ℕ) (b : ℕ) (q : Part) → letter (Word ws) w b ≡ Some q → Past (Word ws) q (34 ∷ (w ++ b ∷ []))
letter_past ws w b q h = elim (way (b == 34) _ _ (Some q) h) [
  | inl z ↦ elim (way (is_one_of (word_list ws) w) _ _ (Some q) z.1) [
    | inl y ↦ as_part _ _ q (word w y.0 (ap (λ (c : ℕ). 34 ∷ (w ++ c ∷ [])) (eq_true b 34 z.0))) y.1
    | inr y ↦ none_some q y.1
  ]
  | inr z ↦ elim (way (begins_one (word_list ws) (w ++ b ∷ [])) _ _ (Some q) z.1) [
    | inl y ↦ as_part _ _ q (ws, refl, refl, y.0) y.1
    | inr y ↦ none_some q y.1
  ]
]

more_number_past : (s : Slot) (f : Figures) (t : List ℕ) (b : ℕ) (q : Part) (o : Option ℕ) → Past s (Number f) t → number_limit s ≡ o → more_number o f b ≡ Some q → Past s q (t ++ b ∷ [])
more_number_past s f t b q None p e h = none_some q h
more_number_past s f t b q (Some most) p e h =
    let m = mapped_some Number (figure most f b) q h in
    let k : p.0 ≡ most = some_is p.0 most (sym p.1 ∙ e) in
    let g = figure_past most f m.0 b (subst (λ (v : ℕ). NumberPast v f) k p.3) m.1 in
    as_part _ _ q (most, e, ap (λ (v : List ℕ). v ++ b ∷ []) p.2 ∙ sym g.text, g.past) m.2

end_past : (f : Figures) (o : Option ℕ) (q : Part) → figures_value f ≡ o → NumberPast greatest_percent f → end_number o (figures_text f) ≡ Some q → Past Percent q (34 ∷ (figures_text f ++ 34 ∷ []))
end_past f None q e p h = none_some q h
end_past f (Some n) q e p h = as_part _ _ {p = Closed (figures_text f)} q (quoted_number (figures_text f) n (number_ends greatest_percent f n p e) refl) h

quoted_past : (f : Figures) (t : List ℕ) (b : ℕ) (q : Part) → t ≡ 34 ∷ figures_text f → NumberPast greatest_percent f → quoted_byte f b ≡ Some q → Past Percent q (t ++ b ∷ [])
quoted_past f t b q e p h = elim (way (b == 34) _ _ (Some q) h) [
  | inl z ↦ subst (λ (v : List ℕ). Past Percent q v) (sym (ap (λ (v : List ℕ). v ++ b ∷ []) e ∙ ap (λ (c : ℕ). 34 ∷ (figures_text f ++ c ∷ [])) (eq_true b 34 z.0))) (end_past f (figures_value f) q refl p z.1)
  | inr z ↦ let m = mapped_some Quoted (figure greatest_percent f b) q z.1 in let g = figure_past greatest_percent f m.0 b p m.1 in
      as_part _ _ q (refl, ap (λ (v : List ℕ). v ++ b ∷ []) e ∙ ap (λ (v : List ℕ). 34 ∷ v) (sym g.text), g.past) m.2
]

is_whole_so : (u : Character) → is_whole u ≡ true → u ≡ Whole
is_whole_so Whole h = refl
is_whole_so _ h = absurd cc

more_text_past : (x v : List ℕ) (o : Option Character) (q : Part) → QuotedSo x v → run follow (Some Whole) v ≡ o → more_text v o ≡ Some q → Past Free q (34 ∷ x)
more_text_past x v None q g e h = none_some q h
more_text_past x v (Some u) q g e h = as_part _ _ q (x, refl, refl, g, e) h

plain_so : (x v : List ℕ) (b : ℕ) → QuotedSo x v → (b == 34) ≡ false → (b == 92) ≡ false → QuotedSo (x ++ b ∷ []) (v ++ b ∷ [])
plain_so x v b g h k r w i = subst (λ (z : List ℕ). IsQuoted z ((v ++ b ∷ []) ++ w)) (snoc x b r) (subst (λ (z : List ℕ). IsQuoted (x ++ b ∷ r) z) (snoc v b w) (g (b ∷ r) (b ∷ w) (plain b r w h k i refl refl)))

one_more : (v : List ℕ) (b : ℕ) (u : Character) → run follow (Some Whole) v ≡ Some u → run follow (Some Whole) (v ++ b ∷ []) ≡ follow u b
one_more v b u h = grown_run follow (Some Whole) u v b h

text_past : (x v : List ℕ) (u : Character) (b : ℕ) (q : Part) → QuotedSo x v → run follow (Some Whole) v ≡ Some u → text_byte v u b ≡ Some q → Past Free q (34 ∷ (x ++ b ∷ []))
text_past x v u b q g c h = elim (way (b == 34) _ _ (Some q) h) [
  | inl z ↦ elim (way (is_whole u) _ _ (Some q) z.1) [
    | inl y ↦ let i : IsQuoted (x ++ []) (v ++ []) = g [] [] (nothing refl refl) in
        as_part _ _ q (quoted x v (subst (λ (w : List ℕ). IsQuoted x w) (append-nil v) (subst (λ (w : List ℕ). IsQuoted w (v ++ [])) (append-nil x) i)) (taken_text v (c ∙ ap (λ (w : Character). Some w) (is_whole_so u y.0))) (ap (λ (d : ℕ). 34 ∷ (x ++ d ∷ [])) (eq_true b 34 z.0))) y.1
    | inr y ↦ none_some q y.1
  ]
  | inr z ↦ elim (way (b == 92) _ _ (Some q) z.1) [
    | inl y ↦ elim (way (is_whole u) _ _ (Some q) y.1) [
      | inl w ↦ as_part _ _ q (x, refl, ap (λ (d : ℕ). 34 ∷ (x ++ d ∷ [])) (eq_true b 92 y.0), (λ r w i. g (92 ∷ r) w i), c ∙ ap (λ (w : Character). Some w) (is_whole_so u w.0)) w.1
      | inr w ↦ none_some q w.1
    ]
    | inr y ↦ more_text_past (x ++ b ∷ []) (v ++ b ∷ []) (follow u b) q (plain_so x v b g z.0 y.0) (one_more v b u c) y.1
  ]
]

two_more : (v : List ℕ) (b : ℕ) → run follow (Some Whole) v ≡ Some Whole → run follow (Some Whole) (v ++ 92 ∷ b ∷ []) ≡ follow Whole b
unfolding run
two_more v b h = run_append follow (Some Whole) v (92 ∷ b ∷ []) ∙ ap (λ (o : Option Character). run follow o (92 ∷ b ∷ [])) h

slash_past : (x v : List ℕ) (b : ℕ) (q : Part) → SlashSo x v → run follow (Some Whole) v ≡ Some Whole → slash_byte v b ≡ Some q → Past Free q (34 ∷ (x ++ 92 ∷ b ∷ []))
slash_past x v b q g c h = elim (way (b == 34) _ _ (Some q) h) [
  | inl z ↦ as_part _ _ q (
    x ++ 92 ∷ 34 ∷ [],
    refl,
    ap (λ (d : ℕ). 34 ∷ (x ++ 92 ∷ d ∷ [])) (eq_true b 34 z.0),
    (λ r w i. subst (λ (y : List ℕ). IsQuoted y ((v ++ 34 ∷ []) ++ w)) (sym (append_assoc x (92 ∷ 34 ∷ []) r)) (subst (λ (y : List ℕ). IsQuoted (x ++ 92 ∷ 34 ∷ r) y) (snoc v 34 w) (g (34 ∷ r) (34 ∷ w) (quote r w i refl refl)))),
    one_more v 34 Whole c,
  ) z.1
  | inr z ↦ elim (way (b == 92) _ _ (Some q) z.1) [
    | inl y ↦ as_part _ _ q (
      x ++ 92 ∷ [],
      refl,
      ap (λ (d : ℕ). 34 ∷ (x ++ 92 ∷ d ∷ [])) (eq_true b 92 y.0) ∙ ap (λ (w : List ℕ). 34 ∷ w) (snoc x 92 (92 ∷ [])),
      (λ r w i. subst (λ (y : List ℕ). IsQuoted y ((v ++ 92 ∷ []) ++ w)) (snoc x 92 (92 ∷ r)) (subst (λ (y : List ℕ). IsQuoted (x ++ 92 ∷ 92 ∷ r) y) (snoc v 92 w) (g (92 ∷ r) (92 ∷ w) (backslash 92 r w refl i refl refl)))),
      one_more v 92 Whole c,
    ) y.1
    | inr y ↦ more_text_past (x ++ 92 ∷ b ∷ []) (v ++ 92 ∷ b ∷ []) (follow Whole b) q
        (λ r w i. subst (λ (y : List ℕ). IsQuoted y ((v ++ 92 ∷ b ∷ []) ++ w)) (sym (append_assoc x (92 ∷ b ∷ []) r)) (subst (λ (y : List ℕ). IsQuoted (x ++ 92 ∷ b ∷ r) y) (sym (append_assoc v (92 ∷ b ∷ []) w)) (g (b ∷ r) (92 ∷ b ∷ w) (backslash b r (b ∷ w) z.0 (plain b r w z.0 y.0 i refl refl) refl refl))))
        (two_more v b c) y.1
  ]
]

awaited_past : (s : Slot) (want : ℕ) (a z : Ahead) (r : Range) (t u : List ℕ) (b : ℕ) (q : Part) → t ≡ u ++ gone a → gone z ≡ gone a ++ want ∷ [] → IsRange s u r → takes_count s ≡ true → awaited want z r b ≡ Some q → Past s q (t ++ b ∷ [])
awaited_past s want a z r t u b q e f i c h = elim (way (b == want) _ _ (Some q) h) [
  | inl y ↦ as_part _ _ q (u, ap (λ (v : List ℕ). v ++ b ∷ []) e ∙ append_assoc u (gone a) (b ∷ []) ∙ ap (λ (d : ℕ). u ++ (gone a ++ d ∷ [])) (eq_true b want y.0) ∙ ap (λ (v : List ℕ). u ++ v) (sym f), i, c) y.1
  | inr y ↦ none_some q y.1
]

back_past : (s : Slot) (a : Ahead) (r : Range) (t : List ℕ) (b : ℕ) (q : Part) → Past s (Back a r) t → back a r b ≡ Some q → Past s q (t ++ b ∷ [])
back_past s Now r t b q p h = awaited_past s 110 Now Ow r t p.0 b q p.1 refl p.2 p.3 h
back_past s Ow r t b q p h = awaited_past s 111 Ow W r t p.0 b q p.1 refl p.2 p.3 h
back_past s W r t b q p h = awaited_past s 119 W Dash r t p.0 b q p.1 refl p.2 p.3 h
back_past s Dash r t b q p h = awaited_past s 45 Dash Figured r t p.0 b q p.1 refl p.2 p.3 h
back_past s Figured r t b q p h = elim (way (is_digit b) _ _ (Some q) h) [
  | inl z ↦ let g = grown_some longest_range 0 b (Shift r) q z.1 in as_part _ _ q (p.0, b, [], ap (λ (v : List ℕ). v ++ b ∷ []) p.1 ∙ append_assoc p.0 (58 ∷ 110 ∷ 111 ∷ 119 ∷ 45 ∷ []) (b ∷ []), p.2, p.3, one_digit b z.0, g.0) g.1
  | inr z ↦ none_some q z.1
]

shift_past : (s : Slot) (r : Range) (v : ℕ) (t : List ℕ) (b : ℕ) (q : Part) → Past s (Shift r v) t → shift_byte r v b ≡ Some q → Past s q (t ++ b ∷ [])
shift_past s r v t b q p h = elim (way (is_digit b) _ _ (Some q) h) [
  | inl z ↦ let g = grown_some longest_range v b (Shift r) q z.1 in
      as_part _ _ q (p.0, p.1, p.2 ++ b ∷ [], ap (λ (x : List ℕ). x ++ b ∷ []) p.3 ∙ append_assoc p.0 (58 ∷ 110 ∷ 111 ∷ 119 ∷ 45 ∷ p.1 ∷ p.2) (b ∷ []), p.4, p.5, digits_snoc (p.1 ∷ p.2) b 0 v p.6 z.0, g.0) g.1
  | inr z ↦ let g = lasting_some 0 v (period_factor b) (Shifted r) q z.1 in
      as_part _ _ {p = Shifted r (v * g.factor)} q (shifted p.0 ((p.1 ∷ p.2) ++ b ∷ []) p.4 p.5 (suffixed_period p.1 p.2 b v g.factor p.6 g.is refl g.long g.short refl) (ap (λ (x : List ℕ). x ++ b ∷ []) p.3 ∙ append_assoc p.0 (58 ∷ 110 ∷ 111 ∷ 119 ∷ 45 ∷ p.1 ∷ p.2) (b ∷ []))) g.place
]

opened_past : (b : ℕ) (q : Part) → opened_byte b ≡ Some q → Past Percent q (34 ∷ b ∷ [])
opened_past b q h = let m = mapped_some Quoted (first_figure greatest_percent b) q h in let g = first_past greatest_percent b m.0 m.1 in as_part _ _ q (refl, ap (λ (v : List ℕ). 34 ∷ v) (sym g.text), g.past) m.2

-- the same with other names for the slot and the text
at_slot : (q : Part) (s r : Slot) (t u : List ℕ) → s ≡ r → t ≡ u → Past r q u → Past s q t
at_slot q s r t u e f h = subst (λ (x : Slot). Past x q t) (sym e) (subst (λ (x : List ℕ). Past r q x) (sym f) h)

pub part_past : (s : Slot) (p q : Part) (t : List ℕ) (b : ℕ) → Past s p t → part s p b ≡ Some q → Past s q (t ++ b ∷ [])
part_past s Before q t b p h = subst (λ (v : List ℕ). Past s q (v ++ b ∷ [])) (sym p) (first_part_past s b q h)
part_past s Hash q t b p h = subst (λ (v : List ℕ). Past s q (v ++ b ∷ [])) (sym p.0) (hash_past s b q p.1 h)
part_past s (Latest v) q t b p h = latest_past s v t b q p h
part_past s (Seconds v) q t b p h = second_past s v t b q (least_period s) p refl h
part_past s (Spanned r) q t b p h = colon_past s r t b q p h
part_past s (Back a r) q t b p h = back_past s a r t b q p h
part_past s (Shift r v) q t b p h = shift_past s r v t b q p h
part_past s (Shifted r v) q t b p h = none_some q h
part_past s (Letters w) q t b p h = at_slot q s (Word p.0) (t ++ b ∷ []) (34 ∷ (w ++ b ∷ [])) p.1 (ap (λ (v : List ℕ). v ++ b ∷ []) p.2) (letter_past p.0 w b q (subst (λ (v : Slot). letter v w b ≡ Some q) p.1 h))
part_past s (Number f) q t b p h = more_number_past s f t b q (number_limit s) p refl h
part_past s Opened q t b p h = at_slot q s Percent (t ++ b ∷ []) (34 ∷ b ∷ []) p.0 (ap (λ (v : List ℕ). v ++ b ∷ []) p.1) (opened_past b q h)
part_past s (Quoted f) q t b p h = at_slot q s Percent (t ++ b ∷ []) (t ++ b ∷ []) p.0 refl (quoted_past f t b q p.1 p.2 h)
part_past s (Text v u) q t b p h = at_slot q s Free (t ++ b ∷ []) (34 ∷ (p.0 ++ b ∷ [])) p.1 (ap (λ (x : List ℕ). x ++ b ∷ []) p.2) (text_past p.0 v u b q p.3 p.4 h)
part_past s (Slash v) q t b p h = at_slot q s Free (t ++ b ∷ []) (34 ∷ (p.0 ++ 92 ∷ b ∷ [])) p.1 (ap (λ (x : List ℕ). x ++ b ∷ []) p.2 ∙ ap (λ (x : List ℕ). 34 ∷ x) (append_assoc p.0 (92 ∷ []) (b ∷ []))) (slash_past p.0 v b q p.3 p.4 h)
part_past s (Closed v) q t b p h = none_some q h

-- ---- where it may end

ranged_ends : (s : Slot) (t : List ℕ) (o : Option Range) (v : Value) → ((r : Range) → o ≡ Some r → IsRange s t r) → ranged_value o 0 ≡ Some v → IsPart s t v
ranged_ends s t None v g h = none_some v h
ranged_ends s t (Some r) v g h = subst (λ (x : Value). IsPart s t x) (some_is (Ranged r 0) v h) (ranged (g r refl))

seconds_ends : (s : Slot) (t : List ℕ) (n : ℕ) (o : Option ℕ) (v : Value) → Past s (Seconds n) t → least_period s ≡ o → seconds_value o n ≡ Some v → IsPart s t v
seconds_ends s t n None v p e h = none_some v h
seconds_ends s t n (Some m) v p e h = elim (way (nat_le m n) _ _ (Some v) h) [
  | inl z ↦ subst (λ (x : Value). IsPart s t x) (some_is (Ranged (Period n) 0) v z.1) (ranged (span m e (subst (λ (w : List ℕ). IsPeriod m longest_range w n) (sym p.3) (seconds p.0 p.1 p.4 (le_true m n z.0) p.5))))
  | inr z ↦ none_some v z.1
]

number_part : (s : Slot) (f : Figures) (t : List ℕ) (o : Option ℕ) (v : Value) → Past s (Number f) t → figures_value f ≡ o → number_value o (figures_text f) ≡ Some v → IsPart s t v
number_part s f t None v p e h = none_some v h
number_part s f t (Some n) v p e h = subst (λ (x : Value). IsPart s t x) (some_is (Said (figures_text f)) v h) (subst (λ (x : List ℕ). IsPart s x (Said (figures_text f))) (sym p.2) (number p.0 n p.1 (number_ends p.0 f n p.3 e)))

pub part_ends : (s : Slot) (p : Part) (t : List ℕ) (v : Value) → Past s p t → part_value s p ≡ Some v → IsPart s t v
part_ends s Before t v p h = subst (λ (x : List ℕ). IsPart s x v) (sym p) (absent h)
part_ends s (Latest n) t v p h = ranged_ends s t (latest_range n) v (λ r e. latest_is s t n r p e) h
part_ends s (Seconds n) t v p h = seconds_ends s t n (least_period s) v p refl h
part_ends s (Spanned r) t v p h = subst (λ (x : Value). IsPart s t x) (some_is (Ranged r 0) v h) (ranged p)
part_ends s (Shift r n) t v p h = subst (λ (x : Value). IsPart s t x) (some_is (Ranged r n) v h) (shifted p.0 (p.1 ∷ p.2) p.4 p.5 (seconds p.1 p.2 p.6 (omega arith) p.7) p.3)
part_ends s (Shifted r n) t v p h = subst (λ (x : Value). IsPart s t x) (some_is (Ranged r n) v h) p
part_ends s (Number f) t v p h = number_part s f t (figures_value f) v p refl h
part_ends s (Closed w) t v p h = subst (λ (x : Value). IsPart s t x) (some_is (Said w) v h) p
part_ends s _ t v p h = absurd cc
