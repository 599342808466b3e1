-- What loops over lists come to.
use Rattle.std.proofs.Common.{◌≡◌, ◌≤◌, ◌<◌, ◌+◌, ℕ, zero, suc, inl, inr, List, [], ◌∷◌, ◌++◌, length, get_or, Option, None, ℤ, Result, Ok, Err, OnOk, refl, sym, ◌∙◌, ap, subst, arith, ◌⊎◌}
use Rattle.std.proofs.lemmas.Bool.{cases_order}
use Rattle.entry_step.specs.Each.{In}

pub in_at : (xs : List ℕ) (k : ℕ) → k < length xs → In (get_or xs k 0) xs
in_at [] k l = absurd (omega arith)
in_at (x ∷ xs) zero l = inl refl
in_at (x ∷ xs) (suc k) l = inr (in_at xs k (omega arith))

-- a list with one more item, at each place
pub get_before : {A : Type 0} (xs : List A) (x d : A) (k : ℕ) → k < length xs → get_or (xs ++ x ∷ []) k d ≡ get_or xs k d
get_before [] x d k l = absurd (omega arith)
get_before (y ∷ ys) x d zero l = refl
get_before (y ∷ ys) x d (suc k) l = get_before ys x d k (omega arith)

pub get_last : {A : Type 0} (xs : List A) (x d : A) → get_or (xs ++ x ∷ []) (length xs) d ≡ x
get_last [] x d = refl
get_last (y ∷ ys) x d = get_last ys x d

pub get_behind : {A : Type 0} (xs : List A) (k : ℕ) (d : A) → length xs ≤ k → get_or xs k d ≡ d
get_behind [] k d l = refl
get_behind (x ∷ xs) zero d l = absurd (omega arith)
get_behind (x ∷ xs) (suc k) d l = get_behind xs k d (omega arith)

-- values so far, with one more
pub values_more : (values next : List (Option ℤ)) (value : Option ℤ) (k : ℕ) (worth : ℕ → Option ℤ) → length values ≡ k → next ≡ values ++ value ∷ [] → value ≡ worth k → ((place : ℕ) → place < k → get_or values place None ≡ worth place)
    → (place : ℕ) → place < k + 1 → get_or next place None ≡ worth place
values_more values next value k worth size made is before place l = ap (λ (vs : List (Option ℤ)). get_or vs place None) made ∙ go (cases_order place k)
  where
    go : (place ≡ k) ⊎ ((place < k) ⊎ (k < place)) → get_or (values ++ value ∷ []) place None ≡ worth place
    go (inl e) =
        let f : length values ≡ place = size ∙ sym e in
        subst (λ n. get_or (values ++ value ∷ []) n None ≡ worth place) f (get_last values value None ∙ is ∙ ap worth (sym e))
    go (inr (inl p)) = let s = size in get_before values value None place (omega arith) ∙ before place p
    go (inr (inr p)) = absurd (omega arith)

pub on_on : {T E : Type 0} (r : Result T E) (P Q : Type 0) → (P → Q) → OnOk r P → OnOk r Q
on_on (Ok x) P Q f p = f p
on_on (Err x) P Q f p = tt
