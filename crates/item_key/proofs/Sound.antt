-- What the machine takes is a key of the grammar: each place promises what the grammar says once the rest has come.
use Rattle.std.proofs.Common.{◌≡◌, ℕ, List, [], ◌∷◌, ◌++◌, refl, ap, sym, ◌∙◌, Option, Some, None, Bool, true, false, arith, ◌==◌, if◌then◌else◌, subst, inl, inr, ◌⊎◌, append_assoc, append-nil}
use Rattle.std.proofs.lemmas.Bool.Decides.{nat_tests}
use Rattle.byte_grammar.specs.Bytes.{Each, is_space}
use Rattle.byte_grammar.specs.Runs.{run, move}
use Rattle.byte_grammar.proofs.Bytes.{each_none, each_snoc}
use Rattle.item_key.specs.declared.places.InParameter.{InParameter}
use Rattle.item_key.specs.declared.places.InParameter.TheVariants.{Before, Bare, Quoted as InQuoted, Escaped, Behind}
use Rattle.item_key.specs.declared.places.Place.{Place}
use Rattle.item_key.specs.declared.places.Place.TheVariants.{Start, Name, Param, Listed, Closed, Done}
use Rattle.item_key.specs.declared.places.ByteEffect.{ByteEffect}
use Rattle.item_key.specs.declared.places.ByteEffect.TheVariants.{Stay, Comma, Close, Open, Wrong}
use Rattle.item_key.specs.Machine.{turn, outer, inner, step, ends, ends_at, place_of}
use Rattle.item_key.specs.Grammar.{is_name_byte, is_bare, begins_bare, Quoted, IsPlain, nothing, bare, quoted, AreMany, last, more, IsParam, one, list, IsKeyText, name, with_params}

snoc : (q : List ℕ) (b : ℕ) (r : List ℕ) → q ++ b ∷ r ≡ (q ++ b ∷ []) ++ r
snoc q b r = sym (append_assoc q (b ∷ []) r)

-- a parameter without a list, so far
abbrev PlainIn : InParameter → List ℕ → Type 0
PlainIn Before p = Each is_space p
PlainIn Bare p = (bs : List ℕ) → Each is_bare bs → IsPlain (p ++ bs)
PlainIn InQuoted p = (before : ℕ) → (before == 92) ≡ false → (s y : List ℕ) → Quoted before s → Each is_space y → IsPlain (p ++ (s ++ 34 ∷ y))
PlainIn Escaped p = (s y : List ℕ) → Quoted 92 s → Each is_space y → IsPlain (p ++ (s ++ 34 ∷ y))
PlainIn Behind p = (y : List ℕ) → Each is_space y → IsPlain (p ++ y)

moved : (a b : List ℕ) → a ≡ b → IsPlain a → IsPlain b
moved a b e h = subst IsPlain e h

eq_true : (a b : ℕ) → (a == b) ≡ true → a ≡ b
eq_true a b h = grind (arith, nat_tests)

split : {A : Type 0} (c : Bool) (a b s : A) → (if c then a else b) ≡ s → ((c ≡ true) × (a ≡ s)) ⊎ ((c ≡ false) × (b ≡ s))
split true a b s h = inl (refl, h)
split false a b s h = inr (refl, h)

plain_whole : (w : InParameter) (p : List ℕ) (b : ℕ) (t : ByteEffect) → (t ≡ Comma) ⊎ (t ≡ Close) → PlainIn w p → turn w b ≡ t → IsPlain p
unfolding Each
plain_whole Before p b t k w h = nothing p w
plain_whole Bare p b t k w h = moved (p ++ []) p (append-nil p) (w [] tt)
plain_whole Behind p b t k w h = moved (p ++ []) p (append-nil p) (w [] tt)
plain_whole InQuoted p b t k w h = absurd (none (b == 34) (b == 92) k h)
  where
    none : (c d : Bool) → (t ≡ Comma) ⊎ (t ≡ Close) → (if c then Stay Behind else if d then Stay Escaped else Stay InQuoted) ≡ t → ⊥
    none true d (inl k) h = cc
    none true d (inr k) h = cc
    none false true (inl k) h = cc
    none false true (inr k) h = cc
    none false false (inl k) h = cc
    none false false (inr k) h = cc
plain_whole Escaped p b t k w h = absurd (none (b == 92) k h)
  where
    none : (d : Bool) → (t ≡ Comma) ⊎ (t ≡ Close) → (if d then Stay Escaped else Stay InQuoted) ≡ t → ⊥
    none true (inl k) h = cc
    none true (inr k) h = cc
    none false (inl k) h = cc
    none false (inr k) h = cc

bare_of : (b : ℕ) → (b == 32) ≡ false → (b == 34) ≡ false → (b == 91) ≡ false → (b == 44) ≡ false → (b == 93) ≡ false → begins_bare b ≡ true
bare_of b p q r c d = rw (p, q, r, c, d) refl

stay_is : (v w : InParameter) (p : List ℕ) → PlainIn v p → Stay v ≡ Stay w → PlainIn w p
stay_is v w p h e = let c : v ≡ w = cc in subst (λ (z : InParameter). PlainIn z p) c h

differs : {A : Type 0} (t v : ByteEffect) → (t ≡ v → ⊥) → t ≡ v → A
differs t v h e = absurd (h e)

turn_split : (c : Bool) (a b s : ByteEffect) → (if c then a else b) ≡ s → ((c ≡ true) × (a ≡ s)) ⊎ ((c ≡ false) × (b ≡ s))
turn_split true a b s h = inl (refl, h)
turn_split false a b s h = inr (refl, h)

after_quote : (p : List ℕ) → Each is_space p → PlainIn InQuoted (p ++ 34 ∷ [])
unfolding Quoted
after_quote p h before e s y q g = moved (p ++ 34 ∷ (s ++ 34 ∷ y)) ((p ++ 34 ∷ []) ++ (s ++ 34 ∷ y)) (snoc p 34 (s ++ 34 ∷ y)) (quoted p s y h (like s before e q) g refl)
  where
    like : (s : List ℕ) (before : ℕ) → (before == 92) ≡ false → Quoted before s → Quoted 34 s
    like [] before e q = refl
    like (b ∷ s) before e q = (subst (λ (c : Bool). (if b == 34 then c else true) ≡ true) e q.0, q.1)

like : (s : List ℕ) (a b : ℕ) → (a == 92) ≡ false → (b == 92) ≡ false → Quoted a s → Quoted b s
unfolding Quoted
like [] a b e f q = f
like (c ∷ s) a b e f q = (subst (λ (x : Bool). (if c == 34 then x else true) ≡ true) (e ∙ sym f) q.0, q.1)

either_way : (c : Bool) → (if c then true else true) ≡ true
either_way true = refl
either_way false = refl

plain_stay : (w v : InParameter) (p : List ℕ) (b : ℕ) → PlainIn w p → turn w b ≡ Stay v → PlainIn v (p ++ b ∷ [])
unfolding Each Quoted
plain_stay Before v p b h e = elim (turn_split (b == 32) _ _ _ e) [
  | inl z ↦ stay_is Before v (p ++ b ∷ []) (each_snoc is_space p b h z.0) z.1
  | inr z ↦ elim (turn_split (b == 34) _ _ _ z.1) [
    | inl y ↦ stay_is InQuoted v (p ++ b ∷ []) (rw (eq_true b 34 y.0) (after_quote p h)) y.1
    | inr y ↦ elim (turn_split (b == 91) _ _ _ y.1) [
      | inl x ↦ absurd (let g = x.1 in cc)
      | inr x ↦ elim (turn_split (b == 44) _ _ _ x.1) [
        | inl u ↦ absurd (let g = u.1 in cc)
        | inr u ↦ elim (turn_split (b == 93) _ _ _ u.1) [
          | inl t ↦ absurd (let g = t.1 in cc)
          | inr t ↦ stay_is Bare v (p ++ b ∷ []) (λ bs a. moved (p ++ b ∷ bs) ((p ++ b ∷ []) ++ bs) (snoc p b bs) (bare p b bs h (bare_of b z.0 y.0 x.0 u.0 t.0) a refl)) t.1
        ]
      ]
    ]
  ]
]
plain_stay Bare v p b h e = elim (turn_split (b == 44) _ _ _ e) [
  | inl z ↦ absurd (let g = z.1 in cc)
  | inr z ↦ elim (turn_split (b == 93) _ _ _ z.1) [
    | inl y ↦ absurd (let g = y.1 in cc)
    | inr y ↦ stay_is Bare v (p ++ b ∷ []) (λ bs a. moved (p ++ b ∷ bs) ((p ++ b ∷ []) ++ bs) (snoc p b bs) (h (b ∷ bs) (rw (z.0, y.0) refl, a))) y.1
  ]
]
plain_stay InQuoted v p b h e = elim (turn_split (b == 34) _ _ _ e) [
  | inl z ↦ stay_is Behind v (p ++ b ∷ []) (rw (eq_true b 34 z.0) (λ y a. moved (p ++ 34 ∷ y) ((p ++ 34 ∷ []) ++ y) (snoc p 34 y) (h 0 refl [] y refl a))) z.1
  | inr z ↦ elim (turn_split (b == 92) _ _ _ z.1) [
    | inl y ↦ stay_is Escaped v (p ++ b ∷ []) (rw (eq_true b 92 y.0) (λ s t q a. moved (p ++ 92 ∷ (s ++ 34 ∷ t)) ((p ++ 92 ∷ []) ++ (s ++ 34 ∷ t)) (snoc p 92 (s ++ 34 ∷ t)) (h 0 refl (92 ∷ s) t (refl, q) a))) y.1
    | inr y ↦ stay_is InQuoted v (p ++ b ∷ []) (λ before k s t q a. moved (p ++ b ∷ (s ++ 34 ∷ t)) ((p ++ b ∷ []) ++ (s ++ 34 ∷ t)) (snoc p b (s ++ 34 ∷ t)) (h 0 refl (b ∷ s) t (rw z.0 refl, like s before b k y.0 q) a)) y.1
  ]
]
plain_stay Escaped v p b h e = elim (turn_split (b == 92) _ _ _ e) [
  | inl y ↦ stay_is Escaped v (p ++ b ∷ []) (rw (eq_true b 92 y.0) (λ s t q a. moved (p ++ 92 ∷ (s ++ 34 ∷ t)) ((p ++ 92 ∷ []) ++ (s ++ 34 ∷ t)) (snoc p 92 (s ++ 34 ∷ t)) (h (92 ∷ s) t (refl, q) a))) y.1
  | inr y ↦ stay_is InQuoted v (p ++ b ∷ []) (λ before k s t q a. moved (p ++ b ∷ (s ++ 34 ∷ t)) ((p ++ b ∷ []) ++ (s ++ 34 ∷ t)) (snoc p b (s ++ 34 ∷ t)) (h (b ∷ s) t (either_way (b == 34), like s before b k y.0 q) a)) y.1
]
plain_stay Behind v p b h e = elim (turn_split (b == 32) _ _ _ e) [
  | inl z ↦ stay_is Behind v (p ++ b ∷ []) (λ y a. moved (p ++ b ∷ y) ((p ++ b ∷ []) ++ y) (snoc p b y) (h (b ∷ y) (z.0, a))) z.1
  | inr z ↦ elim (turn_split (b == 44) _ _ _ z.1) [
    | inl y ↦ absurd (let g = y.1 in cc)
    | inr y ↦ elim (turn_split (b == 93) _ _ _ y.1) [
      | inl x ↦ absurd (let g = x.1 in cc)
      | inr x ↦ absurd (let g = x.1 in cc)
    ]
  ]
]

comma_byte : (w : InParameter) (b : ℕ) → turn w b ≡ Comma → b ≡ 44
comma_byte Before b h = grind (arith, nat_tests)
comma_byte Bare b h = grind (arith, nat_tests)
comma_byte InQuoted b h = grind (arith, nat_tests)
comma_byte Escaped b h = grind (arith, nat_tests)
comma_byte Behind b h = grind (arith, nat_tests)

close_byte : (w : InParameter) (b : ℕ) → turn w b ≡ Close → b ≡ 93
close_byte Before b h = grind (arith, nat_tests)
close_byte Bare b h = grind (arith, nat_tests)
close_byte InQuoted b h = grind (arith, nat_tests)
close_byte Escaped b h = grind (arith, nat_tests)
close_byte Behind b h = grind (arith, nat_tests)

open_byte : (w : InParameter) (p : List ℕ) (b : ℕ) → PlainIn w p → turn w b ≡ Open → (b ≡ 91) × Each is_space p
open_byte Before p b k h = (grind (arith, nat_tests), k)
open_byte Bare p b k h = absurd (grind (arith, nat_tests))
open_byte InQuoted p b k h = absurd (grind (arith, nat_tests))
open_byte Escaped p b k h = absurd (grind (arith, nat_tests))
open_byte Behind p b k h = absurd (grind (arith, nat_tests))

abbrev Params : List ℕ → Type 0
Params q = (v : List ℕ) → AreMany IsParam v → IsKeyText (q ++ (v ++ 93 ∷ []))

abbrev Items : List ℕ → Type 0
Items r = (v : List ℕ) → AreMany IsPlain v → IsParam (r ++ (v ++ 93 ∷ []))

abbrev WithinKey : Place → List ℕ → Type 0
WithinKey Start q = q ≡ []
WithinKey Name q = (c : ℕ) × (bs : List ℕ) × (q ≡ c ∷ bs) × (is_name_byte c ≡ true) × Each is_name_byte bs
WithinKey (Param w) q = (a : List ℕ) × (p : List ℕ) × (q ≡ a ++ p) × Params a × PlainIn w p
WithinKey (Listed w) q = (a : List ℕ) × (r : List ℕ) × (p : List ℕ) × (q ≡ a ++ (r ++ p)) × Params a × Items r × PlainIn w p
WithinKey Closed q = (a : List ℕ) × (r : List ℕ) × (q ≡ a ++ r) × Params a × IsParam r
WithinKey Done q = IsKeyText q

-- (u ++ c ∷ v) ++ z in front of a
pull : (a u : List ℕ) (c : ℕ) (v z : List ℕ) → a ++ ((u ++ c ∷ v) ++ z) ≡ (a ++ (u ++ c ∷ [])) ++ (v ++ z)
pull a u c v z = ap (λ (r : List ℕ). a ++ r) (append_assoc u (c ∷ v) z ∙ snoc u c (v ++ z)) ∙ sym (append_assoc a (u ++ c ∷ []) (v ++ z))

params_comma : (a r : List ℕ) → Params a → IsParam r → Params (a ++ (r ++ 44 ∷ []))
params_comma a r m h v s = subst IsKeyText (pull a r 44 v (93 ∷ [])) (m (r ++ 44 ∷ v) (more r v h s refl))

items_comma : (a r : List ℕ) → Items a → IsPlain r → Items (a ++ (r ++ 44 ∷ []))
items_comma a r m h v s = subst IsParam (pull a r 44 v (93 ∷ [])) (m (r ++ 44 ∷ v) (more r v h s refl))

as_place : (v w : Place) (q : List ℕ) → WithinKey v q → Some v ≡ Some w → WithinKey w q
as_place v w q h e = let c : v ≡ w = cc in subst (λ (z : Place). WithinKey z q) c h

no_place : {A : Type 0} (w : Place) → None ≡ Some w → A
no_place w h = absurd cc

longer : (q a p : List ℕ) (b : ℕ) → q ≡ a ++ p → q ++ b ∷ [] ≡ a ++ (p ++ b ∷ [])
longer q a p b e = ap (λ (v : List ℕ). v ++ b ∷ []) e ∙ append_assoc a p (b ∷ [])

in_param : (w : InParameter) (q : List ℕ) (b : ℕ) (s : Place) → WithinKey (Param w) q → (t : ByteEffect) → turn w b ≡ t → outer t ≡ Some s → WithinKey s (q ++ b ∷ [])
in_param w q b s h (Stay v) e g = as_place (Param v) s (q ++ b ∷ []) (h.0, h.1 ++ b ∷ [], longer q h.0 h.1 b h.2, h.3, plain_stay w v h.1 b h.4 e) g
in_param w q b s h Comma e g = as_place (Param Before) s (q ++ b ∷ [])
    (h.0 ++ (h.1 ++ 44 ∷ []), [], ap (λ (c : ℕ). q ++ c ∷ []) (comma_byte w b e) ∙ longer q h.0 h.1 44 h.2 ∙ sym (append-nil (h.0 ++ (h.1 ++ 44 ∷ []))), params_comma h.0 h.1 h.3 (one (plain_whole w h.1 b Comma (inl refl) h.4 e)), (each_none is_space)) g
in_param w q b s h Close e g = as_place Done s (q ++ b ∷ [])
    (subst IsKeyText (sym (ap (λ (c : ℕ). q ++ c ∷ []) (close_byte w b e) ∙ longer q h.0 h.1 93 h.2)) (h.3 h.1 (last (one (plain_whole w h.1 b Close (inr refl) h.4 e))))) g
in_param w q b s h Open e g = let o = open_byte w h.1 b h.4 e in as_place (Listed Before) s (q ++ b ∷ []) (
  h.0,
  h.1 ++ 91 ∷ [],
  [],
  ap (λ (c : ℕ). q ++ c ∷ []) o.0 ∙ longer q h.0 h.1 91 h.2 ∙ ap (λ (v : List ℕ). h.0 ++ v) (sym (append-nil (h.1 ++ 91 ∷ []))),
  h.3,
  (λ v z. subst IsParam (snoc h.1 91 (v ++ 93 ∷ [])) (list h.1 v o.1 z refl)),
  (each_none is_space),
) g
in_param w q b s h Wrong e g = no_place s g

in_list : (w : InParameter) (q : List ℕ) (b : ℕ) (s : Place) → WithinKey (Listed w) q → (t : ByteEffect) → turn w b ≡ t → inner t ≡ Some s → WithinKey s (q ++ b ∷ [])
in_list w q b s h (Stay v) e g = as_place (Listed v) s (q ++ b ∷ []) (h.0, h.1, h.2 ++ b ∷ [], longer q h.0 (h.1 ++ h.2) b h.3 ∙ ap (λ (v : List ℕ). h.0 ++ v) (append_assoc h.1 h.2 (b ∷ [])), h.4, h.5, plain_stay w v h.2 b h.6 e) g
in_list w q b s h Comma e g = as_place (Listed Before) s (q ++ b ∷ [])
    (h.0, h.1 ++ (h.2 ++ 44 ∷ []), [], ap (λ (c : ℕ). q ++ c ∷ []) (comma_byte w b e) ∙ longer q h.0 (h.1 ++ h.2) 44 h.3 ∙ ap (λ (v : List ℕ). h.0 ++ v) (append_assoc h.1 h.2 (44 ∷ []) ∙ sym (append-nil (h.1 ++ (h.2 ++ 44 ∷ [])))), h.4, items_comma h.1 h.2 h.5 (plain_whole w h.2 b Comma (inl refl) h.6 e), (each_none is_space)) g
in_list w q b s h Close e g = as_place Closed s (q ++ b ∷ [])
    (h.0, h.1 ++ (h.2 ++ 93 ∷ []), ap (λ (c : ℕ). q ++ c ∷ []) (close_byte w b e) ∙ longer q h.0 (h.1 ++ h.2) 93 h.3 ∙ ap (λ (v : List ℕ). h.0 ++ v) (append_assoc h.1 h.2 (93 ∷ [])), h.4, h.5 h.2 (last (plain_whole w h.2 b Close (inr refl) h.6 e))) g
in_list w q b s h Open e g = no_place s g
in_list w q b s h Wrong e g = no_place s g

step_sound : (p : Place) (q : List ℕ) (b : ℕ) (s : Place) → WithinKey p q → step p b ≡ Some s → WithinKey s (q ++ b ∷ [])
unfolding Each
step_sound Start q b s h e = elim (split (is_name_byte b) _ _ _ e) [
  | inl z ↦ as_place Name s (q ++ b ∷ []) (b, [], ap (λ (v : List ℕ). v ++ b ∷ []) h, z.0, tt) z.1
  | inr z ↦ no_place s z.1
]
step_sound Name q b s h e = elim (split (is_name_byte b) _ _ _ e) [
  | inl z ↦ as_place Name s (q ++ b ∷ []) (h.0, h.1 ++ b ∷ [], ap (λ (v : List ℕ). v ++ b ∷ []) h.2, h.3, each_snoc is_name_byte h.1 b h.4 z.0) z.1
  | inr z ↦ elim (split (b == 91) _ _ _ z.1) [
    | inl y ↦ as_place (Param Before) s (q ++ b ∷ []) (
      q ++ b ∷ [],
      [],
      sym (append-nil (q ++ b ∷ [])),
      (λ v r. with_params h.0 h.1 v h.3 h.4 r (ap (λ (c : ℕ). (q ++ c ∷ []) ++ (v ++ 93 ∷ [])) (eq_true b 91 y.0) ∙ ap (λ (w : List ℕ). (w ++ 91 ∷ []) ++ (v ++ 93 ∷ [])) h.2 ∙ sym (snoc (h.0 ∷ h.1) 91 (v ++ 93 ∷ [])))),
      tt,
    ) y.1
    | inr y ↦ no_place s y.1
  ]
]
step_sound (Param w) q b s h e = in_param w q b s h (turn w b) refl e
step_sound (Listed w) q b s h e = in_list w q b s h (turn w b) refl e
step_sound Closed q b s h e = elim (split (b == 44) _ _ _ e) [
  | inl z ↦ as_place (Param Before) s (q ++ b ∷ []) (h.0 ++ (h.1 ++ 44 ∷ []), [], ap (λ (c : ℕ). q ++ c ∷ []) (eq_true b 44 z.0) ∙ longer q h.0 h.1 44 h.2 ∙ sym (append-nil (h.0 ++ (h.1 ++ 44 ∷ []))), params_comma h.0 h.1 h.3 h.4, tt) z.1
  | inr z ↦ elim (split (b == 93) _ _ _ z.1) [
    | inl y ↦ as_place Done s (q ++ b ∷ []) (subst IsKeyText (sym (ap (λ (c : ℕ). q ++ c ∷ []) (eq_true b 93 y.0) ∙ longer q h.0 h.1 93 h.2)) (h.3 h.1 (last h.4))) y.1
    | inr y ↦ no_place s y.1
  ]
]
step_sound Done q b s h e = no_place s e

go_sound : (q : List ℕ) (b : ℕ) (o : Option Place) → ((s : Place) → o ≡ Some s → WithinKey s q) → (t : Place) → move step o b ≡ Some t → WithinKey t (q ++ b ∷ [])
go_sound q b None h t e = no_place t e
go_sound q b (Some r) h t e = step_sound r q b t (h r refl) e

run_sound : (bs q : List ℕ) (o : Option Place) → ((s : Place) → o ≡ Some s → WithinKey s q) → (t : Place) → run step o bs ≡ Some t → WithinKey t (q ++ bs)
unfolding run
run_sound [] q o h t e = subst (λ (v : List ℕ). WithinKey t v) (sym (append-nil q)) (h t e)
run_sound (b ∷ bs) q o h t e = subst (λ (v : List ℕ). WithinKey t v) (sym (snoc q b bs)) (run_sound bs (q ++ b ∷ []) (move step o b) (go_sound q b o h) t e)

end_sound : (p : Place) (q : List ℕ) → WithinKey p q → ends p ≡ true → IsKeyText q
end_sound Name q h e = subst IsKeyText (sym h.2) (name h.0 h.1 h.3 h.4)
end_sound Done q h e = h
end_sound _ q h e = absurd cc

-- each key of the machine is one of the grammar
pub sound : (t : List ℕ) → ends_at (place_of t) ≡ true → IsKeyText t
sound t e = at (place_of t) refl e
  where
    at : (o : Option Place) → place_of t ≡ o → ends_at o ≡ true → IsKeyText t
    at None g e = absurd cc
    at (Some p) g e = end_sound p t (run_sound t [] (Some Start) (λ s k. as_place Start s [] refl k) p g) e
