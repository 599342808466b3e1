-- Runs of a machine over bytes, whatever the machine is.
use Rattle.std.proofs.Common.{◌≡◌, ℕ, zero, suc, ◌≤◌, ◌<◌, List, [], ◌∷◌, ◌++◌, length, take, get_or, refl, ap, sym, ◌∙◌, Option, Some, None, Bool, true, arith}
use Rattle.byte_grammar.specs.Bytes.{Each}
use Rattle.byte_grammar.specs.Runs.{move, run}

pub run_none : {S : Type 0} (step : S → ℕ → Option S) (bs : List ℕ) → run step None bs ≡ None
unfolding run
run_none step [] = refl
run_none step (b ∷ bs) = run_none step bs

pub run_append : {S : Type 0} (step : S → ℕ → Option S) (s : Option S) (a b : List ℕ) → run step s (a ++ b) ≡ run step (run step s a) b
unfolding run
run_append step s [] b = refl
run_append step s (x ∷ a) b = run_append step (move step s x) a b

-- the text, then one byte more
pub run_snoc : {S : Type 0} (step : S → ℕ → Option S) (s : Option S) (a : List ℕ) (b : ℕ) → run step s (a ++ b ∷ []) ≡ move step (run step s a) b
unfolding run
run_snoc step s a b = run_append step s a (b ∷ [])

pub joined : {S : Type 0} (step : S → ℕ → Option S) (s t : Option S) (a b : List ℕ) → run step s a ≡ t → run step s (a ++ b) ≡ run step t b
joined step s t a b e = run_append step s a b ∙ ap (λ o. run step o b) e

pub grown : {S : Type 0} (step : S → ℕ → Option S) (s : Option S) (t : S) (a : List ℕ) (b : ℕ) → run step s a ≡ Some t → run step s (a ++ b ∷ []) ≡ step t b
grown step s t a b e = run_snoc step s a b ∙ ap (λ o. move step o b) e

pub one_on : {S : Type 0} (step : S → ℕ → Option S) (s : S) (b : ℕ) (bs : List ℕ) → run step (Some s) (b ∷ bs) ≡ run step (step s b) bs
unfolding run
one_on step s b bs = refl

pub run_end : {S : Type 0} (step : S → ℕ → Option S) (s : Option S) → run step s [] ≡ s
unfolding run
run_end step s = refl

-- what the run of a text comes to without its last byte
pub record Before {S : Type 0} (step : S → ℕ → Option S) (s : Option S) (a : List ℕ) (b : ℕ) (t : S) : Type 0 where
  pub state : S
  pub is : run step s a ≡ Some state
  pub last : step state b ≡ Some t

pub before : {S : Type 0} (step : S → ℕ → Option S) (s : Option S) (a : List ℕ) (b : ℕ) (t : S) → run step s (a ++ b ∷ []) ≡ Some t → Before step s a b t
before {S} step s a b t e = at (run step s a) refl (sym (run_snoc step s a b) ∙ e)
  where
    at : (o : Option S) → run step s a ≡ o → move step o b ≡ Some t → Before step s a b t
    at None g h = absurd cc
    at (Some r) g h = record { state = r; is = g; last = h }

-- a machine within another: what the inner one does over bytes that pass a test the outer one does too
pub lifted : {S T : Type 0} (inner : S → ℕ → Option S) (outer : T → ℕ → Option T) (f : S → T) (test : ℕ → Bool)
    → ((s r : S) (b : ℕ) → test b ≡ true → inner s b ≡ Some r → outer (f s) b ≡ Some (f r))
    → (s r : S) (bs : List ℕ) → Each test bs → run inner (Some s) bs ≡ Some r → run outer (Some (f s)) bs ≡ Some (f r)
unfolding run Each
lifted inner outer f test h s r [] e g = let c : s ≡ r = cc in ap (λ z. Some (f z)) c
lifted {S} {T} inner outer f test h s r (b ∷ bs) e g = at (inner s b) refl g (λ z q. lifted inner outer f test h z r bs e.1 q)
  where
    at : (o : Option S) → inner s b ≡ o → run inner o bs ≡ Some r → ((z : S) → run inner (Some z) bs ≡ Some r → run outer (Some (f z)) bs ≡ Some (f r)) → run outer (outer (f s) b) bs ≡ Some (f r)
    at None p q k = absurd (let n = run_none inner bs in cc)
    at (Some z) p q k = ap (λ o. run outer o bs) (h s z b e.0 p) ∙ k z q

each_all : (bs : List ℕ) → Each (λ b. true) bs
unfolding Each
each_all [] = tt
each_all (b ∷ bs) = (refl, each_all bs)

-- the same for bytes of every kind
pub lifted_all : {S T : Type 0} (inner : S → ℕ → Option S) (outer : T → ℕ → Option T) (f : S → T)
    → ((s r : S) (b : ℕ) → inner s b ≡ Some r → outer (f s) b ≡ Some (f r))
    → (s r : S) (bs : List ℕ) → run inner (Some s) bs ≡ Some r → run outer (Some (f s)) bs ≡ Some (f r)
lifted_all inner outer f h s r bs g = lifted inner outer f (λ b. true) (λ s r b e k. h s r b k) s r bs (each_all bs) g

-- a place where any byte of a kind changes nothing
pub stays : {S : Type 0} (step : S → ℕ → Option S) (s : S) (test : ℕ → Bool) → ((b : ℕ) → test b ≡ true → step s b ≡ Some s) → (x : List ℕ) → Each test x → run step (Some s) x ≡ Some s
unfolding run Each
stays step s test h [] e = refl
stays step s test h (b ∷ x) e = ap (λ o. run step o x) (h b e.0) ∙ stays step s test h x e.1

-- one byte, then the rest
pub byte_on : {S : Type 0} (step : S → ℕ → Option S) (s r : S) (b : ℕ) (bs : List ℕ) → step s b ≡ Some r → run step (Some s) (b ∷ bs) ≡ run step (Some r) bs
byte_on step s r b bs e = one_on step s b bs ∙ ap (λ o. run step o bs) e

-- one byte alone
pub byte_end : {S : Type 0} (step : S → ℕ → Option S) (s r : S) (b : ℕ) → step s b ≡ Some r → run step (Some s) (b ∷ []) ≡ Some r
byte_end step s r b e = byte_on step s r b [] e ∙ run_end step (Some r)

-- the front with one byte more
pub run_more : {S : Type 0} (step : S → ℕ → Option S) (s : Option S) (bs : List ℕ) (i : ℕ) → i < length bs → run step s (take (suc i) bs) ≡ move step (run step s (take i bs)) (get_or bs i 0)
unfolding run
run_more step s [] i h = absurd (omega arith)
run_more step s (b ∷ bs) zero h = refl
run_more step s (b ∷ bs) (suc i) h = run_more step (move step s b) bs i (omega arith)

-- a machine that has stopped doesn't go on
pub none_on : {S : Type 0} (step : S → ℕ → Option S) (s : Option S) (bs : List ℕ) (m n : ℕ) → m ≤ n → run step s (take m bs) ≡ None → run step s (take n bs) ≡ None
unfolding run
none_on step s bs zero n h e = rw e (run_none step (take n bs))
none_on step s [] (suc m) zero h e = e
none_on step s [] (suc m) (suc n) h e = e
none_on step s (b ∷ bs) (suc m) zero h e = absurd (omega arith)
none_on step s (b ∷ bs) (suc m) (suc n) h e = none_on step (move step s b) bs m n (omega arith) e

-- the first byte of a run, and the rest
pub run_first : {S : Type 0} (step : S → ℕ → Option S) (s t : S) (b : ℕ) (bs : List ℕ) → run step (Some s) (b ∷ bs) ≡ Some t → (r : S) × (step s b ≡ Some r) × (run step (Some r) bs ≡ Some t)
run_first {S} step s t b bs h = at (step s b) refl (sym (one_on step s b bs) ∙ h)
  where
    at : (o : Option S) → step s b ≡ o → run step o bs ≡ Some t → (r : S) × (step s b ≡ Some r) × (run step (Some r) bs ≡ Some t)
    at None e g = absurd (let n = run_none step bs in cc)
    at (Some r) e g = (r, e, g)
