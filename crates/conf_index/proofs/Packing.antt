-- Lists that lie one behind another.
use Rattle.std.proofs.Common.{◌≡◌, ℕ, zero, suc, ◌+◌, ◌-◌, ◌<◌, ◌≤◌, List, [], ◌∷◌, ◌++◌, length, take, drop, get_or, refl, sym, ◌∙◌, ap, append-nil, append_assoc, arith, length-append}
use Rattle.std.proofs.Math.Seq.{drop-append_seam, take-append_seam}
use Rattle.std.proofs.lemmas.List.{take_more, take_all}
use Rattle.conf_index.specs.Packed.{begin_at, row_at}

-- lists joined in order
abbrev pub joined : {A : Type 0} → List (List A) → List A
joined [] = []
joined (r ∷ rows) = r ++ joined rows

-- the places at which lists begin, from this one on
abbrev pub starts_from : {A : Type 0} → ℕ → List (List A) → List ℕ
starts_from start [] = []
starts_from start (r ∷ rows) = start ∷ starts_from (start + length r) rows

pub record IsPacked {A : Type 0} (starts : List ℕ) (items : List A) (rows : List (List A)) : Type 0 where
  pub begins : starts ≡ starts_from 0 rows
  pub whole : items ≡ joined rows

joined_push : {A : Type 0} (rows : List (List A)) (r : List A) → joined (rows ++ r ∷ []) ≡ joined rows ++ r
joined_push [] r = append-nil r
joined_push (x ∷ rows) r = ap (λ ys. x ++ ys) (joined_push rows r) ∙ sym (append_assoc x (joined rows) r)

starts_push : {A : Type 0} (start : ℕ) (rows : List (List A)) (r : List A) → starts_from start (rows ++ r ∷ []) ≡ starts_from start rows ++ (start + length (joined rows)) ∷ []
starts_push start [] r = let n : start ≡ start + 0 = omega arith in ap (λ s. s ∷ []) n
starts_push start (x ∷ rows) r =
    let size = length-append x (joined rows) in
    let n : (start + length x) + length (joined rows) ≡ start + length (x ++ joined rows) = omega arith in
    ap (λ ss. start ∷ ss) (starts_push (start + length x) rows r ∙ ap (λ s. starts_from (start + length x) rows ++ s ∷ []) n)

pub nothing_packed : {A : Type 0} (starts : List ℕ) (items : List A) (rows : List (List A)) → starts ≡ [] → items ≡ [] → IsPacked starts items (take 0 rows)
nothing_packed starts items rows s i = record { begins = s; whole = i }

pub packed_more : {A : Type 0} (rows : List (List A)) (k : ℕ) (r : List A) (starts begun : List ℕ) (items more : List A) → k < length rows → r ≡ get_or rows k r
    → begun ≡ starts ++ length items ∷ [] → more ≡ items ++ r → IsPacked starts items (take k rows) → IsPacked begun more (take (k + 1) rows)
packed_more rows k r starts begun items more l is b m p =
    let next : take (k + 1) rows ≡ take k rows ++ r ∷ [] = take_more rows k r l ∙ ap (λ y. take k rows ++ y ∷ []) (sym is) in
    record {
      begins = b ∙ ap (λ ss. ss ++ length items ∷ []) p.begins ∙ ap (λ n. starts_from 0 (take k rows) ++ n ∷ []) (ap length p.whole ∙ none (length (joined (take k rows))))
          ∙ sym (starts_push 0 (take k rows) r) ∙ ap (starts_from 0) (sym next);
      whole = m ∙ ap (λ ys. ys ++ r) p.whole ∙ sym (joined_push (take k rows) r) ∙ ap joined (sym next);
    }
  where
    none : (n : ℕ) → n ≡ 0 + n
    none n = omega arith

-- the list of a number, where some items stand before
row_behind : {A : Type 0} (before : List A) (rows : List (List A)) (number : ℕ) → row_at (starts_from (length before) rows) (before ++ joined rows) number ≡ get_or rows number []
row_behind before [] number = let n : length (before ++ []) - length (before ++ []) ≡ 0 = omega arith in ap (λ c. take c (drop (length (before ++ [])) (before ++ []))) n
row_behind {A} before (r ∷ rows) zero =
    ap (λ e. take (e - length before) (drop (length before) (before ++ (r ++ joined rows)))) (next rows)
    ∙ ap (λ ys. take ((length before + length r) - length before) ys) (drop-append_seam before (r ++ joined rows))
    ∙ ap (λ c. take c (r ++ joined rows)) size ∙ take-append_seam r (joined rows)
  where
    size : (length before + length r) - length before ≡ length r
    size = omega arith

    next : (rest : List (List A)) → begin_at (starts_from (length before + length r) rest) (length (before ++ (r ++ joined rest))) 0 ≡ length before + length r
    next [] =
        let a = length-append before (r ++ []) in let b = length-append r [] in omega arith
    next (x ∷ rest) = refl
row_behind before (r ∷ rows) (suc number) =
    ap (λ e. take (begin_at (starts_from (length before) (r ∷ rows)) (length (before ++ (r ++ joined rows))) e - begin_at (starts_from (length before + length r) rows) (length (before ++ (r ++ joined rows))) number)
    (drop (begin_at (starts_from (length before + length r) rows) (length (before ++ (r ++ joined rows))) number) (before ++ (r ++ joined rows)))) next
    ∙ ap (λ ys. row_at (starts_from (length before + length r) rows) ys number) (sym (append_assoc before r (joined rows)))
    ∙ ap (λ s. row_at (starts_from s rows) ((before ++ r) ++ joined rows) number) (sym (length-append before r))
    ∙ row_behind (before ++ r) rows number
  where
    next : suc number + 1 ≡ suc (number + 1)
    next = omega arith

pub packed_row : {A : Type 0} (rows : List (List A)) (starts : List ℕ) (items : List A) (number : ℕ) → IsPacked starts items rows → row_at starts items number ≡ get_or rows number []
packed_row rows starts items number p =
    ap (λ ss. row_at ss items number) p.begins ∙ ap (λ ys. row_at (starts_from 0 rows) ys number) p.whole ∙ row_behind [] rows number

pub packed_all : {A : Type 0} (rows : List (List A)) (k : ℕ) (starts : List ℕ) (items : List A) (number : ℕ) → length rows ≤ k → IsPacked starts items (take k rows) → row_at starts items number ≡ get_or rows number []
packed_all rows k starts items number all p = packed_row (take k rows) starts items number p ∙ ap (λ rs. get_or rs number []) (take_all k rows all)
