-- Texts cut at a limit.
use Rattle.std.proofs.Common.{◌≡◌, ℕ, zero, suc, ◌+◌, ◌-◌, ◌<◌, ◌≤◌, ◌==◌, ◌⊎◌, inl, inr, Bool, true, false, cond, List, [], ◌∷◌, ◌++◌, length, take, drop, get_or, refl, sym, ap, subst, ◌∙◌, arith, append_assoc, Option, Some, None, is_none}
use Rattle.std.specs.Fmt.{is_char_start, char_count, take_chars}
use Rattle.std.proofs.lemmas.Bool.{cases_Bool, ne_eqb}
use Rattle.std.proofs.lemmas.List.{append-nil, length-append, drop_more, take_more, drop_all}
use Rattle.std.proofs.Math.Seq.{take_all}
use Rattle.macro_text.proofs.Wholes.{IsLastBoundary, whole_cut, whole_within}
use Rattle.event_text.specs.Cuts.{cut, Leaves, Keeps, Arrives}
use Rattle.event_text.specs.declared.fronts.Limit.{Limit}
use Rattle.event_text.specs.declared.fronts.Limit.TheVariants.{Bytes, Characters}

pub count_none : char_count [] ≡ 0
unfolding char_count
count_none = refl

pub count_more : (c : ℕ) (rest : List ℕ) → char_count (c ∷ rest) ≡ cond (is_char_start c) 1 0 + char_count rest
unfolding char_count
count_more c rest = refl

pub take_none : (n : ℕ) → take_chars n [] ≡ []
unfolding take_chars
take_none n = refl

pub take_first : (n c : ℕ) (rest : List ℕ)
    → take_chars n (c ∷ rest) ≡ cond (is_char_start c) (cond (n == 0) [] (c ∷ take_chars (n - 1) rest)) (c ∷ take_chars n rest)
unfolding take_chars
take_first n c rest = refl

-- a byte that starts a character, where there is room for one, and where there is none; and one that goes on with it
take_start : (n c : ℕ) (rest : List ℕ) → is_char_start c ≡ true → take_chars (suc n) (c ∷ rest) ≡ c ∷ take_chars n rest
take_start n c rest start =
    take_first (suc n) c rest
    ∙ ap (λ b. cond b (cond (suc n == 0) [] (c ∷ take_chars (suc n - 1) rest)) (c ∷ take_chars (suc n) rest)) start
    ∙ ap (λ b. cond b [] (c ∷ take_chars (suc n - 1) rest)) (ne_eqb (suc n) 0 (omega arith))
    ∙ ap (λ m. c ∷ take_chars m rest) (less n)
  where
    less : (n : ℕ) → suc n - 1 ≡ n
    less n = omega arith

take_stop : (c : ℕ) (rest : List ℕ) → is_char_start c ≡ true → take_chars 0 (c ∷ rest) ≡ []
take_stop c rest start =
    take_first 0 c rest ∙ ap (λ b. cond b [] (c ∷ take_chars 0 rest)) start

take_on : (n c : ℕ) (rest : List ℕ) → is_char_start c ≡ false → take_chars n (c ∷ rest) ≡ c ∷ take_chars n rest
take_on n c rest on =
    take_first n c rest ∙ ap (λ b. cond b (cond (n == 0) [] (c ∷ take_chars (n - 1) rest)) (c ∷ take_chars n rest)) on

count_start : (c : ℕ) (rest : List ℕ) → is_char_start c ≡ true → char_count (c ∷ rest) ≡ suc (char_count rest)
count_start c rest start =
    let e : char_count (c ∷ rest) ≡ 1 + char_count rest = count_more c rest ∙ ap (λ b. cond b 1 0 + char_count rest) start in
    omega (arith, e)

count_on : (c : ℕ) (rest : List ℕ) → is_char_start c ≡ false → char_count (c ∷ rest) ≡ char_count rest
count_on c rest on =
    let e : char_count (c ∷ rest) ≡ 0 + char_count rest = count_more c rest ∙ ap (λ b. cond b 1 0 + char_count rest) on in
    omega (arith, e)

-- characters of two texts
pub count_append : (xs ys : List ℕ) → char_count (xs ++ ys) ≡ char_count xs + char_count ys
count_append [] ys = omega (arith, count_none)
count_append (c ∷ xs) ys =
    let e = count_append xs ys in
    let a = count_more c (xs ++ ys) in
    let b = count_more c xs in
    omega (arith, e, a, b)

-- the characters of the first text, and of the second those for which there is room
pub take_past : (n : ℕ) (xs ys : List ℕ) → take_chars (char_count xs + n) (xs ++ ys) ≡ xs ++ take_chars n ys
take_past n [] ys = ap (λ m. take_chars m ys) (none n) where
  none : (n : ℕ) → char_count [] + n ≡ n
  none n = omega (arith, count_none)
take_past n (c ∷ xs) ys = go (cases_Bool (is_char_start c)) (take_past n xs ys) where
  go : (is_char_start c ≡ true) ⊎ (is_char_start c ≡ false) → take_chars (char_count xs + n) (xs ++ ys) ≡ xs ++ take_chars n ys
      → take_chars (char_count (c ∷ xs) + n) (c ∷ (xs ++ ys)) ≡ c ∷ (xs ++ take_chars n ys)
  go (inl start) behind =
      let size = count_start c xs start in
      let e : char_count (c ∷ xs) + n ≡ suc (char_count xs + n) = omega (arith, size) in
      ap (λ m. take_chars m (c ∷ (xs ++ ys))) e ∙ take_start (char_count xs + n) c (xs ++ ys) start ∙ ap (λ t. c ∷ t) behind
  go (inr on) behind =
      let size = count_on c xs on in
      let e : char_count (c ∷ xs) + n ≡ char_count xs + n = omega (arith, size) in
      ap (λ m. take_chars m (c ∷ (xs ++ ys))) e ∙ take_on (char_count xs + n) c (xs ++ ys) on ∙ ap (λ t. c ∷ t) behind

-- a text with more characters has all of them
pub take_front : (n : ℕ) (xs ys : List ℕ) → n < char_count xs → take_chars n (xs ++ ys) ≡ take_chars n xs
take_front n [] ys more = absurd (omega (arith, count_none))
take_front n (c ∷ xs) ys more = go (cases_Bool (is_char_start c)) n more (λ m. take_front m xs ys) where
  go : (is_char_start c ≡ true) ⊎ (is_char_start c ≡ false) → (n : ℕ) → n < char_count (c ∷ xs)
      → ((m : ℕ) → m < char_count xs → take_chars m (xs ++ ys) ≡ take_chars m xs) → take_chars n (c ∷ (xs ++ ys)) ≡ take_chars n (c ∷ xs)
  go (inl start) zero more behind = take_stop c (xs ++ ys) start ∙ sym (take_stop c xs start)
  go (inl start) (suc n) more behind =
      let size = count_start c xs start in
      take_start n c (xs ++ ys) start ∙ ap (λ t. c ∷ t) (behind n (omega (arith, size, more))) ∙ sym (take_start n c xs start)
  go (inr on) n more behind =
      let size = count_on c xs on in
      take_on n c (xs ++ ys) on ∙ ap (λ t. c ∷ t) (behind n (omega (arith, size, more))) ∙ sym (take_on n c xs on)

-- a text that has no more characters than there is room for is whole
pub take_whole : (n : ℕ) (text : List ℕ) → char_count text ≤ n → take_chars n text ≡ text
take_whole n text within =
    let e : n ≡ char_count text + (n - char_count text) = omega arith in
    ap (λ m. take_chars m text) e ∙ ap (take_chars (char_count text + (n - char_count text))) (sym (append-nil text))
    ∙ take_past (n - char_count text) text [] ∙ ap (λ t. text ++ t) (take_none (n - char_count text)) ∙ append-nil text

-- what is kept of a text for which there is room
pub bytes_fit : (left : ℕ) (more : List ℕ) → length more ≤ left → Keeps (Bytes left) more more (Some (Bytes (left - length more)))
bytes_fit left more within = (refl, λ limit. by limit) where
  by : (limit : Limit) (made : List ℕ) → Leaves limit (Bytes left) made → Leaves limit (Bytes (left - length more)) (made ++ more)
  by (Bytes most) made leaves = omega (arith, leaves, length-append made more)
  by (Characters most) made leaves = leaves

pub characters_fit : (left : ℕ) (more : List ℕ) → char_count more ≤ left → Keeps (Characters left) more more (Some (Characters (left - char_count more)))
characters_fit left more within = (refl, λ limit. by limit) where
  by : (limit : Limit) (made : List ℕ) → Leaves limit (Characters left) made → Leaves limit (Characters (left - char_count more)) (made ++ more)
  by (Bytes most) made leaves = leaves
  by (Characters most) made leaves = omega (arith, leaves, count_append made more)

-- and of one that is cut
pub bytes_cut : (left kept : ℕ) (more : List ℕ) → left < length more → IsLastBoundary more left kept → Keeps (Bytes left) more (take kept more) None
bytes_cut left kept more longer last = λ limit. by limit where
  by : (limit : Limit) (made rest : List ℕ) → Leaves limit (Bytes left) made → made ++ take kept more ≡ cut limit (made ++ more ++ rest)
  by (Bytes most) made rest leaves =
      let room : left ≡ most - length made = omega (arith, leaves) in
      whole_cut made more rest most kept (omega (arith, leaves)) (omega (arith, leaves)) (subst (λ r. IsLastBoundary more r kept) room last)
  by (Characters most) made rest leaves = absurd leaves

pub characters_cut : (left kept : ℕ) (more : List ℕ) → left < char_count more → take kept more ≡ take_chars left more
    → Keeps (Characters left) more (take kept more) None
characters_cut left kept more longer is = λ limit. by limit where
  by : (limit : Limit) (made rest : List ℕ) → Leaves limit (Characters left) made → made ++ take kept more ≡ cut limit (made ++ more ++ rest)
  by (Bytes most) made rest leaves = absurd leaves
  by (Characters most) made rest leaves =
      ap (λ t. made ++ t) (is ∙ sym (take_front left more rest longer)) ∙ sym (take_past left made (more ++ rest))
      ∙ ap (λ n. take_chars n (made ++ (more ++ rest))) leaves ∙ ap (take_chars most) (sym (append_assoc made more rest))

-- nothing is made yet
pub whole_left : (limit : Limit) → Leaves limit limit []
whole_left (Bytes most) = omega arith
whole_left (Characters most) = omega (arith, count_none)

-- the next text is added
pub added : (limit left : Limit) (after : Option Limit) (made more kept behind whole : List ℕ) → Keeps left more kept after
    → Arrives limit (Some left) made (more ++ behind) whole → Arrives limit after (made ++ kept) behind whole
added limit left None made more kept behind whole keeps arrives =
    keeps limit made behind arrives.1 ∙ ap (cut limit) (append_assoc made more behind ∙ arrives.0)
added limit left (Some after) made more kept behind whole keeps arrives = (
  ap (λ t. (made ++ t) ++ behind) keeps.0 ∙ append_assoc made more behind ∙ arrives.0,
  subst (λ t. Leaves limit after (made ++ t)) (sym keeps.0) (keeps.1 limit made arrives.1),
)

-- nothing more is to come
pub arrived : (limit : Limit) (left : Option Limit) (made whole : List ℕ) → Arrives limit left made [] whole → made ≡ cut limit whole
arrived limit None made whole arrives = arrives
arrived limit (Some left) made whole arrives = go limit left arrives.1 ∙ ap (cut limit) (sym (append-nil made) ∙ arrives.0) where
  go : (limit left : Limit) → Leaves limit left made → made ≡ cut limit made
  go (Bytes most) (Bytes left) leaves = whole_within made most (omega (arith, leaves))
  go (Characters most) (Characters left) leaves = sym (take_whole most made (omega (arith, leaves)))
  go (Bytes most) (Characters left) leaves = absurd leaves
  go (Characters most) (Bytes left) leaves = absurd leaves

-- one byte after the other
pub count_within : (text : List ℕ) → char_count text ≤ length text
count_within [] = omega (arith, count_none)
count_within (c ∷ rest) = by (is_char_start c) (count_more c rest) (count_within rest) where
  by : (b : Bool) → char_count (c ∷ rest) ≡ cond b 1 0 + char_count rest → char_count rest ≤ length rest → char_count (c ∷ rest) ≤ length (c ∷ rest)
  by true e l = omega arith
  by false e l = omega arith

pub count_drop : (text : List ℕ) (i : ℕ) → i < length text
    → char_count (drop i text) ≡ cond (is_char_start (get_or text i 0)) 1 0 + char_count (drop (i + 1) text)
count_drop text i within = ap char_count (drop_more text i 0 within) ∙ count_more (get_or text i 0) (drop (i + 1) text)

pub take_stops : (text : List ℕ) (i : ℕ) → i < length text → is_char_start (get_or text i 0) ≡ true → take_chars 0 (drop i text) ≡ []
take_stops text i within start = ap (take_chars 0) (drop_more text i 0 within) ∙ take_stop (get_or text i 0) (drop (i + 1) text) start

pub take_keeps : (text : List ℕ) (i n m : ℕ) (start : Bool) → i < length text → is_char_start (get_or text i 0) ≡ start → n ≡ cond start 1 0 + m
    → take (i + 1) text ++ take_chars m (drop (i + 1) text) ≡ take i text ++ take_chars n (drop i text)
take_keeps text i n m true within is count =
    let e : n ≡ suc m = omega arith in
    let c = get_or text i 0 in
    let rest = drop (i + 1) text in
    ap (λ t. t ++ take_chars m rest) (take_more text i 0 within) ∙ append_assoc (take i text) (c ∷ []) (take_chars m rest)
    ∙ ap (λ t. take i text ++ t) (sym (ap (λ k. take_chars k (drop i text)) e ∙ ap (take_chars (suc m)) (drop_more text i 0 within) ∙ take_start m c rest is))
take_keeps text i n m false within is count =
    let e : n ≡ m = omega arith in
    let c = get_or text i 0 in
    let rest = drop (i + 1) text in
    ap (λ t. t ++ take_chars m rest) (take_more text i 0 within) ∙ append_assoc (take i text) (c ∷ []) (take_chars m rest)
    ∙ ap (λ t. take i text ++ t) (sym (ap (λ k. take_chars k (drop i text)) e ∙ ap (take_chars m) (drop_more text i 0 within) ∙ take_on m c rest is))

pub take_ended : (text : List ℕ) (i left start : ℕ) → i < length text → start ≡ cond (is_char_start (get_or text i 0)) 1 0 → left < start
    → take i text ++ take_chars left (drop i text) ≡ take i text
take_ended text i left start within is less = go (cases_Bool (is_char_start (get_or text i 0))) where
  go : (is_char_start (get_or text i 0) ≡ true) ⊎ (is_char_start (get_or text i 0) ≡ false) → take i text ++ take_chars left (drop i text) ≡ take i text
  go (inl starts) =
      let one : start ≡ 1 = is ∙ ap (λ b. cond b 1 0) starts in
      let none : left ≡ 0 = omega arith in
      ap (λ n. take i text ++ take_chars n (drop i text)) none ∙ ap (λ t. take i text ++ t) (take_stops text i within starts) ∙ append-nil (take i text)
  go (inr on) =
      let zero_start : start ≡ 0 = is ∙ ap (λ b. cond b 1 0) on in
      absurd (omega arith)

pub take_kept : (text : List ℕ) (i left start : ℕ) → i < length text → start ≡ cond (is_char_start (get_or text i 0)) 1 0 → start ≤ left
    → take (i + 1) text ++ take_chars (left - start) (drop (i + 1) text) ≡ take i text ++ take_chars left (drop i text)
take_kept text i left start within is less =
    take_keeps text i left (left - start) (is_char_start (get_or text i 0)) within refl (omega (arith, is))

pub take_past_end : (text : List ℕ) (i left : ℕ) → length text ≤ i → take (length text) text ≡ take i text ++ take_chars left (drop i text)
take_past_end text i left past =
    let size : take i text ≡ take (length text) text = take_long text i past in
    sym (ap (λ t. take i text ++ take_chars left t) (drop_all i text past) ∙ ap (λ t. take i text ++ t) (take_none left) ∙ append-nil (take i text) ∙ size)
  where
    take_long : (xs : List ℕ) (n : ℕ) → length xs ≤ n → take n xs ≡ take (length xs) xs
    take_long xs n p = take_all n xs p ∙ sym (take_all (length xs) xs (omega arith))

-- nothing is left of the limit
pub cut_arrived : (limit : Limit) (left : Option Limit) (made more whole : List ℕ) → is_none left ≡ true → Arrives limit left made more whole → made ≡ cut limit whole
cut_arrived limit None made more whole none arrives = arrives
cut_arrived limit (Some left) made more whole none arrives = absurd (cc)
