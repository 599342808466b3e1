-- What std says of two texts, in our words.
use Rattle.std.proofs.Common.{◌≡◌, ℕ, suc, List, [], ◌∷◌, ◌++◌, length, take, drop, get_or, refl, ap, sym, ◌∙◌, Bool, true, false, ◌==◌, nat_eq, if◌then◌else◌, ◌&&◌, ◌<◌, ◌+◌, add-one, subst, IsUtf8, drop-cons, Some, None}
use Rattle.std.specs.Cmp.Lexicographic.{pointwise}
use Rattle.std.specs.Str.{is_utf8}
use Rattle.std.proofs.lemmas.Str.{IsUtf8-from_is_utf8, is_utf8-from_IsUtf8}
use Rattle.zbx_types.specs.declared.calls.Call.{Call}
use Rattle.zbx_types.specs.Operators.{is_dated}
use Rattle.expr_parser.specs.Calls.{is_same}
use Rattle.expr_parser.specs.Parts.{is_front, begins_one}
use Rattle.expr_parser.specs.Grammar.{looks_at_item}

pub same_text : (a b : List ℕ) → pointwise nat_eq a b ≡ is_same a b
same_text [] [] = refl
same_text [] (y ∷ b) = refl
same_text (x ∷ a) [] = refl
same_text (x ∷ a) (y ∷ b) = at (x == y) (same_text a b)
  where
    at : {u v : Bool} (c : Bool) → u ≡ v → (c && u) ≡ (if c then v else false)
    at {u} {v} true e = e
    at {u} {v} false e = refl

pub front_text : (a b : List ℕ) → pointwise nat_eq a (take (length a) b) ≡ is_front a b
front_text [] b = refl
front_text (x ∷ a) [] = refl
front_text (x ∷ a) (y ∷ b) = at (x == y) (front_text a b)
  where
    at : {u v : Bool} (c : Bool) → u ≡ v → (c && u) ≡ (if c then v else false)
    at {u} {v} true e = e
    at {u} {v} false e = refl

pub not_utf8 : (bs : List ℕ) → (IsUtf8 bs → ⊥) → is_utf8 bs ≡ false
not_utf8 bs h = at (is_utf8 bs) refl
  where
    at : (c : Bool) → is_utf8 bs ≡ c → c ≡ false
    at true e = absurd (h (IsUtf8-from_is_utf8 bs e))
    at false e = refl

-- a call more that looks at no item
pub looks_on : (calls : List Call) (i : ℕ) (c : Call) → i < length calls → get_or calls i c ≡ c → is_dated c.fun ≡ true → looks_at_item (drop (i + 1) calls) ≡ looks_at_item (drop i calls)
looks_on calls i c h e d = rw add-one (sym (ap (λ (v : List Call). looks_at_item v) (drop-cons calls i c h ∙ ap (λ (v : Call). v ∷ drop (suc i) calls) e) ∙ rw d refl))

pub looks_here : (calls : List Call) (i : ℕ) (c : Call) → i < length calls → get_or calls i c ≡ c → is_dated c.fun ≡ false → looks_at_item (drop i calls) ≡ true
looks_here calls i c h e d = ap (λ (v : List Call). looks_at_item v) (drop-cons calls i c h ∙ ap (λ (v : Call). v ∷ drop (suc i) calls) e) ∙ rw d refl

-- bytes as a text
pub text_some : (bs us made : List ℕ) → us ≡ bs → IsUtf8 us → made ≡ us → Some made ≡ (if is_utf8 bs then Some bs else None)
text_some bs us made e u m = rw (is_utf8-from_IsUtf8 bs (subst IsUtf8 e u)) (ap (λ (v : List ℕ). Some v) (m ∙ e))

pub text_none : (bs us : List ℕ) → us ≡ bs → (IsUtf8 us → ⊥) → None ≡ (if is_utf8 bs then Some bs else None)
text_none bs us e u = rw (not_utf8 bs (λ v. u (subst IsUtf8 (sym e) v))) refl

pub utf8_some : (t x : List ℕ) → (if is_utf8 t then Some t else None) ≡ Some x → (is_utf8 t ≡ true) × (t ≡ x)
utf8_some t x h = at (is_utf8 t) refl h
  where
    at : (c : Bool) → is_utf8 t ≡ c → (if c then Some t else None) ≡ Some x → (is_utf8 t ≡ true) × (t ≡ x)
    at true e g = (e, cc)
    at false e g = absurd cc

pub begins_append : (a b : List (List ℕ)) (t : List ℕ) → begins_one (a ++ b) t ≡ (if begins_one a t then true else begins_one b t)
begins_append [] b t = refl
begins_append (w ∷ a) b t = at (is_front t w) (begins_append a b t)
  where
    at : (c : Bool) → begins_one (a ++ b) t ≡ (if begins_one a t then true else begins_one b t) → (if c then true else begins_one (a ++ b) t) ≡ (if (if c then true else begins_one a t) then true else begins_one b t)
    at true e = refl
    at false e = e
