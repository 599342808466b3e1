-- Rows of open problems by their places.
use Rattle.std.proofs.Common.{◌≡◌, ◌<◌, ◌≤◌, ◌∙◌, ℕ, zero, suc, ◌==◌, Bool, true, false, cond, List, [], ◌∷◌, ◌++◌, length, get_or, set, refl, sym, ap, arith, eqb-true, eq-eqb}
use Rattle.std.specs.Prelude.{replicate}
use Rattle.zbx_types.specs.Records.{event_of}
use Rattle.zbx_types.specs.declared.entries.EventId.{EventId}
use Rattle.zbx_types.specs.declared.entries.Rec.{Rec}
use Rattle.trigger_state.specs.Cells.{row_at}
use Rattle.trigger_state.specs.Problems.{opened}
use Rattle.trigger_state.specs.Stages.{Stage, rank_of}
use Rattle.trigger_state.specs.declared.problems.Open.{Open}

pub row_more : (rows : List (List Open)) (id : ℕ) → row_at (rows ++ [] ∷ []) id ≡ row_at rows id
row_more [] zero = refl
row_more [] (suc id) = refl
row_more (r ∷ rows) zero = refl
row_more (r ∷ rows) (suc id) = row_more rows id

pub row_none : (n id : ℕ) → row_at (replicate n []) id ≡ []
row_none zero id = refl
row_none (suc n) zero = refl
row_none (suc n) (suc id) = row_none n id

pub row_past : (rows : List (List Open)) (id : ℕ) → length rows ≤ id → row_at rows id ≡ []
row_past [] id h = refl
row_past (r ∷ rows) zero h = absurd (omega arith)
row_past (r ∷ rows) (suc id) h = row_past rows id (omega arith)

pub row_here : (rows : List (List Open)) (p : ℕ) (os : List Open) → p < length rows → row_at (set rows p os) p ≡ os
row_here [] p os h = absurd (omega arith)
row_here (r ∷ rows) zero os h = refl
row_here (r ∷ rows) (suc p) os h = row_here rows p os (omega arith)

pub row_other : (rows : List (List Open)) (p id : ℕ) (os : List Open) → (p == id) ≡ false → row_at (set rows p os) id ≡ row_at rows id
row_other [] p id os e = refl
row_other (r ∷ rows) zero zero os e = let t = eq-eqb 0 0 refl in cc
row_other (r ∷ rows) zero (suc id) os e = refl
row_other (r ∷ rows) (suc p) zero os e = refl
row_other (r ∷ rows) (suc p) (suc id) os e = row_other rows p id os (differ (p == id) refl)
  where
    differ : (b : Bool) → (p == id) ≡ b → (p == id) ≡ false
    differ true t = let q = ap suc (eqb-true p id t) in let u = eq-eqb (suc p) (suc id) q in cc
    differ false t = t

-- a row that is changed in its place
pub row_changed : (rows : List (List Open)) (p : ℕ) (os : List Open) → p < length rows → (id : ℕ) → row_at (set rows p os) id ≡ cond (p == id) os (row_at rows id)
row_changed rows p os h id = go (p == id) refl
  where
    go : (b : Bool) → (p == id) ≡ b → row_at (set rows p os) id ≡ cond b os (row_at rows id)
    go true e = ap (λ i. row_at (set rows p os) i) (sym (eqb-true p id e)) ∙ row_here rows p os h
    go false e = row_other rows p id os e

row_get : (rows : List (List Open)) (p : ℕ) (d : List Open) → p < length rows → get_or rows p d ≡ row_at rows p
row_get [] p d h = absurd (omega arith)
row_get (r ∷ rows) zero d h = refl
row_get (r ∷ rows) (suc p) d h = row_get rows p d (omega arith)

-- a row that becomes something of what it was
pub row_becomes : (rows : List (List Open)) (p : ℕ) (x made : List Open) (f : List Open → List Open) → p < length rows → x ≡ get_or rows p x → made ≡ f x → (id : ℕ) → row_at (set rows p made) id ≡ cond (p == id) (f (row_at rows id)) (row_at rows id)
row_becomes rows p x made f h at e id = row_changed rows p made h id ∙ go (p == id) refl
  where
    value : made ≡ f (row_at rows p)
    value = e ∙ ap f (at ∙ row_get rows p x h)

    go : (b : Bool) → (p == id) ≡ b → cond b made (row_at rows id) ≡ cond b (f (row_at rows id)) (row_at rows id)
    go true q = value ∙ ap (λ i. f (row_at rows i)) (eqb-true p id q)
    go false q = refl

set_twice : (rows : List (List Open)) (p : ℕ) (a b : List Open) → set (set rows p a) p b ≡ set rows p b
set_twice [] p a b = refl
set_twice (r ∷ rows) zero a b = refl
set_twice (r ∷ rows) (suc p) a b = ap (λ xs. r ∷ xs) (set_twice rows p a b)

-- and where it was taken out in between
pub row_back : (rows : List (List Open)) (p : ℕ) (between x made : List Open) (f : List Open → List Open) → p < length rows → x ≡ get_or rows p x → made ≡ f x → (id : ℕ)
    → row_at (set (set rows p between) p made) id ≡ cond (p == id) (f (row_at rows id)) (row_at rows id)
row_back rows p between x made f h at e id = ap (λ xs. row_at xs id) (set_twice rows p between made) ∙ row_becomes rows p x made f h at e id

pub row_same : (rows : List (List Open)) (p : ℕ) (between x made : List Open) → p < length rows → x ≡ get_or rows p x → made ≡ x → (id : ℕ) → row_at (set (set rows p between) p made) id ≡ row_at rows id
row_same rows p between x made h at e id = row_back rows p between x made (λ os. os) h at e id ∙ go (p == id)
  where
    go : (b : Bool) → cond b (row_at rows id) (row_at rows id) ≡ row_at rows id
    go true = refl
    go false = refl

-- a row that isn't there
pub row_absent : (rows : List (List Open)) (p : ℕ) (f : List Open → List Open) → length rows ≤ p → f [] ≡ [] → (id : ℕ) → row_at rows id ≡ cond (p == id) (f (row_at rows id)) (row_at rows id)
row_absent rows p f h e id = go (p == id) refl
  where
    go : (b : Bool) → (p == id) ≡ b → row_at rows id ≡ cond b (f (row_at rows id)) (row_at rows id)
    go true q = let none = row_past rows id (let z = eqb-true p id q in omega arith) in none ∙ sym (ap f none ∙ e)
    go false q = refl

-- over rows that tell the same
pub row_over : (rows before : List (List Open)) (p : ℕ) (made : List (List Open)) (f : List Open → List Open) → ((id : ℕ) → row_at rows id ≡ row_at before id) → ((id : ℕ) → row_at made id ≡ cond (p == id) (f (row_at rows id)) (row_at rows id))
    → (id : ℕ) → row_at made id ≡ cond (p == id) (f (row_at before id)) (row_at before id)
row_over rows before p made f same h id = h id ∙ ap (λ os. cond (p == id) (f os) os) (same id)

pub opened_is : (stage : Stage) (e : EventId) (r p : Rec) (steps : List Rec) (rank : ℕ) (os : List Open) → event_of r ≡ e → p ≡ r → steps ≡ [] → rank ≡ rank_of stage e
    → os ++ record { problem = p; steps = steps; rank = rank } ∷ [] ≡ os ++ opened stage r [] ∷ []
opened_is stage e r p steps rank os h a b d =
    ap (λ (x : Rec). os ++ (let o : Open = record { problem = x; steps = steps; rank = rank } in o) ∷ []) a
    ∙ ap (λ (x : List Rec). os ++ (let o : Open = record { problem = r; steps = x; rank = rank } in o) ∷ []) b
    ∙ ap (λ (x : ℕ). os ++ (let o : Open = record { problem = r; steps = []; rank = x } in o) ∷ []) (d ∙ ap (rank_of stage) (sym h))
