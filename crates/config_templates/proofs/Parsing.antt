-- What the parser tells of a text is what the text is.
use Rattle.std.proofs.Common.{◌≡◌, ℕ, zero, suc, ◌<◌, ◌≤◌, Bool, true, false, List, [], ◌∷◌, ◌++◌, length, take, refl, sym, ◌∙◌, ap, arith, length-append, inl, inr, subst, Option, Some, None, Result, Ok}
use Rattle.std.specs.Prelude.{nat_le, min, is_some, if◌then◌else◌, codes}
use Rattle.std.proofs.lemmas.List.{length-take-le, take-take}
use Rattle.zbx_types.specs.Limits.{longest_expression}
use Rattle.zbx_types.specs.Tree.{Tree}
use Rattle.zbx_types.specs.declared.calls.Call.{Call}
use Rattle.zbx_types.specs.declared.causes.Cause.TheVariants.{BadExpression}
use Rattle.expr_parser.specs.Fault.{IsViable, IsFault}
use Rattle.expr_parser.specs.Grammar.{IsExpr, IsText, looks_at_item}
use Rattle.expr_parser.specs.Machine.{State, after, start, ends_at}
use Rattle.expr_parser.proofs.Complete.{taken}
use Rattle.expr_parser.proofs.Kept.{sound}
use Rattle.expr_parser.proofs.Lists.{way, le_test, le_true, none_some}
use Rattle.expr_parser.proofs.Places.{viable, not_viable}
use Rattle.host_layout.specs.Items.{longest_up_to}
use Rattle.host_layout.specs.Places.{Flaw, refuse}
use Rattle.config_templates.specs.Reading.{begins_expression, expression_of, expression_end, looking, expression_at}
use Rattle.host_layout.proofs.KeyFronts.{longest_is}

-- no text is an expression within the limit
abbrev pub IsNone : List ℕ → Type 0
IsNone text = (e : Tree) (ks : List Call) → IsExpr text e ks → length text ≤ 4096 → ⊥

found : (text : List ℕ) (e : Tree) (ks : List Call) → IsExpr text e ks → length text ≤ 4096 → expression_of text ≡ Some (e, ks)
found text e ks s l = rw (le_test (length text) longest_expression l) (taken (length text) text e ks s)

is_found : (text : List ℕ) (x : Tree × List Call) → expression_of text ≡ Some x → IsExpr text x.0 x.1 × (length text ≤ 4096)
is_found text x h = elim (way (nat_le (length text) longest_expression) (ends_at (after (length text) (Some start) text)) None (Some x) h) [
  | inl z ↦ (sound (length text) text x.0 x.1 z.1, le_true (length text) longest_expression z.0)
  | inr z ↦ none_some x z.1
]

-- an expression that was found is the one of the text
pub found_at : (path text : List ℕ) (e : Tree) (ks : List Call) → IsExpr text e ks → length text ≤ 4096 → looks_at_item ks ≡ true → expression_at path text ≡ Ok (e, ks)
unfolding expression_at
found_at path text e ks s l h = rw (found text e ks s l, h) refl

begins : (text : List ℕ) → IsViable IsText text → begins_expression text ≡ true
begins text v = at (after (length text) (Some start) text) refl
  where
    at : (o : Option State) → after (length text) (Some start) text ≡ o → is_some (after (length text) (Some start) text) ≡ true
    at (Some s) e = ap is_some e
    at None e = absurd (not_viable text e v)

begins_not : (text : List ℕ) → (IsViable IsText text → ⊥) → begins_expression text ≡ false
begins_not text n = at (after (length text) (Some start) text) refl
  where
    at : (o : Option State) → after (length text) (Some start) text ≡ o → is_some (after (length text) (Some start) text) ≡ false
    at (Some s) e = absurd (n (viable text s e))
    at None e = ap is_some e

-- the first fault is the end of the longest front with which an expression begins
end_is : (text : List ℕ) (at : ℕ) → IsFault IsText 4096 text at → expression_end text ≡ at
unfolding expression_end
end_is text at f =
    longest_is begins_expression text (min (length text) longest_expression) at (least at (length text) 4096 f.within f.fits) (λ h. begins (take at text) f.goes_on)
    (λ m a b. begins_not (take m text) (f.stops m a (left (length text) 4096 m b) (right (length text) 4096 m b)))
  where
    least : (k a b : ℕ) → k ≤ a → k ≤ b → k ≤ min a b
    least k a b h g = omega arith

    left : (a b m : ℕ) → m ≤ min a b → m ≤ a
    left a b m h = omega arith

    right : (a b m : ℕ) → m ≤ min a b → m ≤ b
    right a b m h = omega arith

-- where no expression goes on, or where one looks at no item, the text is refused
pub fault_at : (path text : List ℕ) (at : ℕ) → ((e : Tree) (ks : List Call) → IsExpr text e ks → length text ≤ 4096 → looks_at_item ks ≡ false) → ((e : Tree) (ks : List Call) → IsExpr text e ks → length text ≤ 4096 → at ≡ 0)
    → (IsNone text → IsFault IsText 4096 text at) → expression_at path text ≡ refuse path (BadExpression at)
unfolding expression_at
fault_at path text at none dates place = by (expression_of text) refl
  where
    by : (o : Option (Tree × List Call)) → expression_of text ≡ o → looking path text (expression_of text) ≡ refuse path (BadExpression at)
    by (Some x) h =
        let s = is_found text x h in
        rw (h, none x.0 x.1 s.0 s.1) (ap (λ n. refuse path (BadExpression n)) (sym (dates x.0 x.1 s.0 s.1)))
    by None h =
        let e : expression_end text ≡ at = end_is text at (place (λ x ks s l. none_some (x, ks) (sym h ∙ found text x ks s l))) in
        rw (h, e) refl

-- ---- texts that are too long

too_long : (text : List ℕ) → longest_expression < length text → expression_of text ≡ None
too_long text l = rw (not_le (length text) longest_expression l) refl
  where
    not_le : (a b : ℕ) → b < a → nat_le a b ≡ false
    not_le a b h = by (nat_le a b) refl
      where
        by : (x : Bool) → nat_le a b ≡ x → nat_le a b ≡ false
        by true e = absurd (omega (arith, le_true a b e))
        by false e = e

same_fronts : (a b : List ℕ) (n : ℕ) → ((k : ℕ) → k ≤ n → take k a ≡ take k b) → longest_up_to begins_expression a n ≡ longest_up_to begins_expression b n
same_fronts a b zero h = refl
same_fronts a b (suc n) h = rw (h (suc n) (omega arith), same_fronts a b n (λ k l. h k (omega arith))) refl

take_front : (k : ℕ) (a b : List ℕ) → k ≤ length a → take k (a ++ b) ≡ take k a
take_front zero a b h = refl
take_front (suc k) [] b h = absurd (omega arith)
take_front (suc k) (x ∷ a) b h = ap (λ (t : List ℕ). x ∷ t) (take_front k a b (omega arith))

long_end : (text : List ℕ) → longest_expression < length text → expression_end text ≡ longest_up_to begins_expression text longest_expression
unfolding expression_end
long_end text l = ap (longest_up_to begins_expression text) (least (length text) longest_expression (omega arith))
  where
    least : (a b : ℕ) → b ≤ a → min a b ≡ b
    least a b h = omega arith

-- the front of a text that is too long decides where it goes wrong
pub front_decides : (path text : List ℕ) → longest_expression < length text → expression_at path (take longest_expression text ++ codes "0") ≡ expression_at path text
unfolding expression_at
front_decides path text l =
    let size : length (take longest_expression text) ≡ longest_expression = length-take-le longest_expression text (omega arith) in
    let longer : longest_expression < length (take longest_expression text ++ codes "0") = past (take longest_expression text) longest_expression size in
    let ends : expression_end (take longest_expression text ++ codes "0") ≡ expression_end text =
    long_end (take longest_expression text ++ codes "0") longer
    ∙ same_fronts (take longest_expression text ++ codes "0") text longest_expression (λ k h. take_front k (take longest_expression text) (codes "0") (omega arith) ∙ take-take k longest_expression text h)
    ∙ sym (long_end text l) in
    rw (too_long (take longest_expression text ++ codes "0") longer, too_long text l, ends) refl
  where
    past : (front : List ℕ) (n : ℕ) → length front ≡ n → n < length (front ++ codes "0")
    past front n e = omega (arith, length-append front (codes "0"))
