-- Depths of which each follows from those that links lead to are the lengths of the longest chains.
use Rattle.std.proofs.Common.{◌≡◌, ℕ, zero, suc, ◌+◌, ◌<◌, ◌≤◌, max, List, [], ◌∷◌, length, map, get_or, refl, ap, ap₂, sym, ◌∙◌, arith, ◌⊎◌, inl, inr}
use Rattle.std.proofs.lemmas.Bool.{cases_lt}
use Rattle.std.proofs.lemmas.List.{get_or_past, get_or-map, length-map, ext_get_or}
use Rattle.zbx_types.specs.Ids.{ids_from}
use Rattle.dependency_graph.specs.Depths.{one_longer, longest, depths_of}
use Rattle.dependency_graph.specs.Tables.{next_depth, AreDepths}

length-ids_from : {A : Type 0} (from : ℕ) (xs : List A) → length (ids_from from xs) ≡ length xs
length-ids_from from [] = refl
length-ids_from from (x ∷ xs) = ap suc (length-ids_from (from + 1) xs)

get_or-ids_from : {A : Type 0} (from k : ℕ) (xs : List A) → k < length xs → get_or (ids_from from xs) k 0 ≡ from + k
get_or-ids_from from k [] within = absurd (let no : ⊥ = omega (arith, within) in no)
get_or-ids_from from zero (x ∷ xs) within = omega arith
get_or-ids_from from (suc k) (x ∷ xs) within = omega (arith, get_or-ids_from (from + 1) k xs (omega (arith, within)))

-- the depths, each by itself
pub by_each : (links : List (List ℕ)) (depths : List ℕ) → length depths ≡ length links
    → ((k : ℕ) → k < length links → get_or depths k 0 ≡ longest links (length links) k) → depths ≡ depths_of links
unfolding depths_of
by_each links depths size each =
    ext_get_or 0 depths (map (longest links (length links)) (ids_from 0 links))
    (size ∙ sym (length-ids_from 0 links) ∙ sym (length-map (ids_from 0 links) (longest links (length links))))
    (λ k within.
    let there : k < length links = omega (arith, within, size) in
    let listed : k < length (ids_from 0 links) = omega (arith, there, length-ids_from 0 links) in
    let here : get_or (ids_from 0 links) k 0 ≡ k = omega (arith, get_or-ids_from 0 k links there) in
    each k there
    ∙ ap (longest links (length links)) (sym here)
    ∙ sym (get_or-map (longest links (length links)) (ids_from 0 links) k 0 0 listed))

-- the ends of links whose depths are known
settled_ends : (links : List (List ℕ)) (depths : List ℕ) (most : ℕ) → ((k : ℕ) → get_or depths k 0 ≤ most → longest links most k ≡ get_or depths k 0)
    → (ends : List ℕ) → next_depth depths ends ≤ suc most → one_longer (map (λ end. longest links most end) ends) ≡ next_depth depths ends
settled_ends links depths most known [] le = refl
settled_ends links depths most known (end ∷ ends) le =
    ap₂ (λ d n. max (d + 1) n) (known end (omega (arith, le))) (settled_ends links depths most known ends (omega (arith, le)))

settled : (links : List (List ℕ)) (depths : List ℕ) → AreDepths links depths → (most k : ℕ) → get_or depths k 0 ≤ most → longest links most k ≡ get_or depths k 0
settled links depths are zero k le = omega (arith, le)
settled links depths are (suc most) k le = go (settled links depths are most) (cases_lt k (length links))
  where
    go : ((j : ℕ) → get_or depths j 0 ≤ most → longest links most j ≡ get_or depths j 0) → (k < length links) ⊎ (length links ≤ k) → longest links (suc most) k ≡ get_or depths k 0
    go known (inl within) =
        settled_ends links depths most known (get_or links k []) (omega (arith, le, are.next k within))
        ∙ sym (are.next k within)
    go known (inr past) =
        ap (λ ends. one_longer (map (λ end. longest links most end) ends)) (get_or_past links k [] past)
        ∙ sym (get_or_past depths k 0 (omega (arith, past, are.size)))

-- what passed the test is right
pub settled_depths : (links : List (List ℕ)) (depths : List ℕ) → AreDepths links depths → depths ≡ depths_of links
settled_depths links depths are =
    by_each links depths are.size
    (λ k within. sym (settled links depths are (length links) k (are.most k 0 (omega (arith, within, are.size)))))

same_ends : (depths : List ℕ) (f : ℕ → ℕ) → ((k : ℕ) → get_or depths k 0 ≡ f k) → (ends : List ℕ) → next_depth depths ends ≡ one_longer (map f ends)
same_ends depths f same [] = refl
same_ends depths f same (end ∷ ends) = ap₂ (λ d n. max (d + 1) n) (same end) (same_ends depths f same ends)

-- one round more
pub one_round : (links : List (List ℕ)) (depths : List ℕ) (round : ℕ) → ((k : ℕ) → get_or depths k 0 ≡ longest links round k)
    → (k : ℕ) → get_or (map (next_depth depths) links) k 0 ≡ longest links (round + 1) k
one_round links depths round same k = go (cases_lt k (length links))
  where
    later : longest links (round + 1) k ≡ one_longer (map (λ end. longest links round end) (get_or links k []))
    later = ap (λ n. longest links n k) (let e : round + 1 ≡ suc round = omega arith in e)

    go : (k < length links) ⊎ (length links ≤ k) → get_or (map (next_depth depths) links) k 0 ≡ longest links (round + 1) k
    go (inl within) =
        get_or-map (next_depth depths) links k [] 0 within
        ∙ same_ends depths (λ end. longest links round end) same (get_or links k [])
        ∙ sym later
    go (inr past) =
        get_or_past (map (next_depth depths) links) k 0 (omega (arith, past, length-map links (next_depth depths)))
        ∙ sym (ap (λ ends. one_longer (map (λ end. longest links round end) ends)) (get_or_past links k [] past))
        ∙ sym later
