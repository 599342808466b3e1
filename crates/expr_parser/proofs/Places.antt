-- A text goes on exactly as far as the machine does.
use Rattle.std.proofs.Math.Seq.{take-length}
use Rattle.std.proofs.Common.{zero, suc, ◌+◌, ◌<◌, ◌≤◌, length, take, get_or, arith, add-one, ◌≡◌, ℕ, List, [], ◌∷◌, ◌++◌, refl, ap, sym, ◌∙◌, subst, Option, Some, None, false, length-take, Result, Ok, Err, IfOk, IfErr}
use Rattle.zbx_types.specs.Tree.{Tree}
use Rattle.zbx_types.specs.declared.calls.Call.{Call}
use Rattle.zbx_types.specs.Limits.{longest_expression}
use Rattle.expr_parser.specs.Bytes.{behind, beginning, one_less}
use Rattle.expr_parser.specs.Grammar.{IsExpr, IsText}
use Rattle.expr_parser.specs.Fault.{IsViable, IsFault}
use Rattle.expr_parser.specs.Machine.{State, after, start, step, go, is_zero, ends, ends_at}
use Rattle.expr_parser.proofs.Lists.{none_some}
use Rattle.expr_parser.proofs.Runs.{after_append}
use Rattle.expr_parser.proofs.Complete.{taken}
use Rattle.expr_parser.proofs.Kept.{stands, sound}
use Rattle.expr_parser.proofs.Lives.{lives}

after_none : (n : ℕ) (bs : List ℕ) → after n None bs ≡ None
unfolding after
after_none n [] = refl
after_none n (b ∷ bs) = after_none (one_less n) bs

-- a front with a state begins a text
pub viable : (p : List ℕ) (s : State) → after (length p) (Some start) p ≡ Some s → IsViable IsText p
viable p s h = let l = lives (length p) p s refl (stands (length p) p s h) in (l.more, l.is)

-- one without a state begins none
pub not_viable : (p : List ℕ) → after (length p) (Some start) p ≡ None → IsViable IsText p → ⊥
not_viable p h v =
    let a = taken (length p) (p ++ v.0) v.1.0 v.1.1 v.1.2 in
    let b : after (length p) (Some start) (p ++ v.0) ≡ None = after_append (beginning (length p)) (Some start) p v.0 ∙ ap (λ (o : Option State). after (behind (beginning (length p)) p).held o v.0) h ∙ after_none (behind (beginning (length p)) p).held v.0 in
    none_some (v.1.0, v.1.1) (sym (ap (λ (o : Option State). ends_at o) b) ∙ a)

-- the state behind the first bytes, all of which are held to the limit
pub record Reached (text : List ℕ) (i : ℕ) (s : State) : Type 0 where
  pub is : (n : ℕ) → i ≤ n → after n (Some start) (take i text) ≡ Some s

pub reached_start : (text : List ℕ) → Reached text 0 start
unfolding after
reached_start text = record { is = λ n h. refl }

positive : (n : ℕ) → 0 < n → is_zero n ≡ false
positive zero h = absurd (omega arith)
positive (suc n) h = refl

-- one byte more
pub after_more : (n : ℕ) (o : Option State) (bs : List ℕ) (i : ℕ) → i < length bs → i < n → after n o (take (suc i) bs) ≡ go false (after n o (take i bs)) (get_or bs i 0)
unfolding after
after_more n o [] i h g = absurd (omega arith)
after_more zero o (b ∷ bs) i h g = absurd (omega arith)
after_more (suc n) o (b ∷ bs) zero h g = refl
after_more (suc n) o (b ∷ bs) (suc i) h g = after_more n (go false o b) bs i (omega arith) (omega arith)

pub reached_next : (text : List ℕ) (i : ℕ) (s t : State) → i < length text → Reached text i s → step false s (get_or text i 0) ≡ Some t → Reached text (i + 1) t
reached_next text i s t h r e = record { is = λ n g. rw add-one (after_more n (Some start) text i h (omega arith) ∙ ap (λ (o : Option State). go false o (get_or text i 0)) (r.is n (omega arith)) ∙ e) }

-- no state behind the next byte
stopped : (text : List ℕ) (i : ℕ) (s : State) → i < length text → Reached text i s → step false s (get_or text i 0) ≡ None → (n : ℕ) → i < n → after n (Some start) (take (suc i) text) ≡ None
stopped text i s h r e n g = after_more n (Some start) text i h g ∙ ap (λ (o : Option State). go false o (get_or text i 0)) (r.is n (omega arith)) ∙ e

none_on : (n : ℕ) (o : Option State) (bs : List ℕ) (a b : ℕ) → a ≤ b → after n o (take a bs) ≡ None → after n o (take b bs) ≡ None
unfolding after
none_on n o bs zero b h e = rw e (after_none n (take b bs))
none_on n o [] (suc a) zero h e = e
none_on n o [] (suc a) (suc b) h e = e
none_on n o (x ∷ bs) (suc a) zero h e = absurd (omega arith)
none_on n o (x ∷ bs) (suc a) (suc b) h e = none_on (one_less n) (go (is_zero n) o x) bs a b (omega arith) e

front_length : (text : List ℕ) (i : ℕ) → i ≤ length text → length (take i text) ≡ i
front_length text i h = omega (arith, length-take i text)

front_viable : (text : List ℕ) (i : ℕ) (s : State) → i ≤ length text → Reached text i s → IsViable IsText (take i text)
front_viable text i s h r = viable (take i text) s (r.is (length (take i text)) (omega (arith, front_length text i h)))

pub fault_limit : (text : List ℕ) (i : ℕ) (s : State) → i < length text → i ≡ longest_expression → Reached text i s → IsFault IsText longest_expression text i
fault_limit text i s h e r = record { within = omega arith; fits = omega arith; goes_on = front_viable text i s (omega arith) r; stops = λ n a b c. absurd (omega arith) }

pub fault_stop : (text : List ℕ) (i : ℕ) (s : State) → i < length text → i ≤ longest_expression → Reached text i s → step false s (get_or text i 0) ≡ None → IsFault IsText longest_expression text i
fault_stop text i s h l r e = record {
  within = omega arith;
  fits = l;
  goes_on = front_viable text i s (omega arith) r;
  stops = λ n a b c. not_viable (take n text) (none_on (length (take n text)) (Some start) text (suc i) n a (stopped text i s h r e (length (take n text)) (omega (arith, front_length text n b))));
}

pub fault_end : (text : List ℕ) (i : ℕ) (s : State) → i ≡ length text → i ≤ longest_expression → Reached text i s → IsFault IsText longest_expression text i
fault_end text i s e l r = record { within = omega arith; fits = l; goes_on = front_viable text i s (omega arith) r; stops = λ n a b c. absurd (omega arith) }

-- no expression where a byte has no state
pub none_stop : (text : List ℕ) (i : ℕ) (s : State) → i < length text → Reached text i s → step false s (get_or text i 0) ≡ None → (e : Tree) (ks : List Call) → IsExpr text e ks → ⊥
none_stop text i s h r f e ks t =
    let m : after (length text) (Some start) text ≡ None = subst (λ (v : List ℕ). after (length text) (Some start) v ≡ None) (take-length text) (none_on (length text) (Some start) text (suc i) (length text) h (stopped text i s h r f (length text) h)) in
    none_some (e, ks) (sym (ap (λ (o : Option State). ends_at o) m) ∙ taken (length text) text e ks t)

whole_text : (text : List ℕ) (i : ℕ) (s : State) → i ≡ length text → Reached text i s → after (length text) (Some start) text ≡ Some s
whole_text text i s e r = subst (λ (v : List ℕ). after (length text) (Some start) v ≡ Some s) (take-length text) (subst (λ (v : ℕ). after (length text) (Some start) (take v text) ≡ Some s) e (r.is (length text) (omega arith)))

pub found_end : (text : List ℕ) (i : ℕ) (s : State) (e : Tree) (ks : List Call) → i ≡ length text → Reached text i s → ends s ≡ Some (e, ks) → IsExpr text e ks
found_end text i s e ks h r f = sound (length text) text e ks (ap (λ (o : Option State). ends_at o) (whole_text text i s h r) ∙ f)

-- what an expression is, the machine ends with
pub ends_with : (text : List ℕ) (i : ℕ) (s : State) (e : Tree) (ks : List Call) → i ≡ length text → Reached text i s → IsExpr text e ks → ends s ≡ Some (e, ks)
ends_with text i s e ks h r t = sym (ap (λ (o : Option State). ends_at o) (whole_text text i s h r)) ∙ taken (length text) text e ks t

pub ok_map : {T E : Type 0} (r : Result T E) {P Q : T → Type 0} → ((x : T) → P x → Q x) → IfOk r P → IfOk r Q
ok_map {T} {E} (Ok x) {P} {Q} f p = f x p
ok_map {T} {E} (Err e) {P} {Q} f p = p

pub err_map : {T E : Type 0} (r : Result T E) {P Q : E → Type 0} → ((x : E) → P x → Q x) → IfErr r P → IfErr r Q
err_map {T} {E} (Ok x) {P} {Q} f p = p
err_map {T} {E} (Err e) {P} {Q} f p = f e p

pub err_map_two : {T E : Type 0} (r : Result T E) {P Q R : E → Type 0} → ((x : E) → P x → Q x → R x) → IfErr r P → IfErr r Q → IfErr r R
err_map_two {T} {E} (Ok x) {P} {Q} {R} f p q = p
err_map_two {T} {E} (Err e) {P} {Q} {R} f p q = f e p q

-- where a text isn't an expression, the machine has none
pub ends_none : (text : List ℕ) (i : ℕ) (s : State) → i ≡ length text → i ≤ longest_expression → Reached text i s → ((e : Tree) (ks : List Call) → IsExpr text e ks → length text ≤ longest_expression → ⊥) → ends s ≡ None
ends_none text i s h l r f = at (ends s) refl
  where
    at : (o : Option (Tree × List Call)) → ends s ≡ o → o ≡ None
    at None e = refl
    at (Some p) e = absurd (f p.0 p.1 (found_end text i s p.0 p.1 h r e) (omega arith))
