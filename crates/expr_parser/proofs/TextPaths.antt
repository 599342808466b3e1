-- Runs over texts in quotes.
use Rattle.std.proofs.Common.{◌≡◌, ℕ, ◌<◌, List, [], ◌∷◌, ◌++◌, refl, ap, sym, ◌∙◌, false, ◌==◌, arith, Some, inl, inr, subst, append_assoc, append-nil}
use Rattle.std.proofs.lemmas.Bool.Decides.{nat_tests}
use Rattle.byte_grammar.specs.declared.characters.Character.{Character}
use Rattle.byte_grammar.specs.declared.characters.Character.TheVariants.{Whole, One, Two, Three, BehindE0, BehindEd, BehindF0, BehindF4}
use Rattle.expr_parser.specs.declared.slots.Slot.TheVariants.{Free}
use Rattle.expr_parser.specs.declared.parts.Part.{Part}
use Rattle.expr_parser.specs.declared.parts.Part.TheVariants.{Text, Slash}
use Rattle.expr_parser.specs.Calls.{IsQuoted, nothing, quote, backslash, plain}
use Rattle.byte_grammar.specs.Utf8.{follow}
use Rattle.byte_grammar.specs.Runs.{run}
use Rattle.expr_parser.specs.Parts.{part, more_text}
use Rattle.expr_parser.proofs.Lists.{snoc, some_is, lt_test, eq_true, either_way}
use Rattle.byte_grammar.proofs.Runs.{run_first}
use Rattle.expr_parser.proofs.PartPaths.{Steps, more, none}

-- ---- texts in quotes

pub ascii_whole : (w v : Character) (b : ℕ) → b < 128 → follow w b ≡ Some v → (w ≡ Whole) × (v ≡ Whole)
ascii_whole Whole v b h e = (refl, sym (some_is Whole v (sym (rw (lt_test b 128 (omega arith)) refl) ∙ e)))
ascii_whole One v b h e = absurd (grind (arith, nat_tests))
ascii_whole Two v b h e = absurd (grind (arith, nat_tests))
ascii_whole Three v b h e = absurd (grind (arith, nat_tests))
ascii_whole BehindE0 v b h e = absurd (grind (arith, nat_tests))
ascii_whole BehindEd v b h e = absurd (grind (arith, nat_tests))
ascii_whole BehindF0 v b h e = absurd (grind (arith, nat_tests))
ascii_whole BehindF4 v b h e = absurd (grind (arith, nat_tests))

abbrev pub TextClaim : List ℕ → List ℕ → Type 0
TextClaim t v =
    ((a : List ℕ) (w u : Character) → run follow (Some w) v ≡ Some u → Steps Free (Text a w) t (Text (a ++ v) u))
    × ((r a : List ℕ) (u : Character) → t ≡ 92 ∷ r → run follow (Some Whole) v ≡ Some u → Steps Free (Slash a) r (Text (a ++ v) u))

-- a backslash in a text
pub to_slash : (t r a v : List ℕ) (w u : Character) (b : ℕ) → b < 128 → t ≡ 92 ∷ r → run follow (Some w) (b ∷ v) ≡ Some u → (run follow (Some Whole) (b ∷ v) ≡ Some u → Steps Free (Slash a) r (Text (a ++ b ∷ v) u)) → Steps Free (Text a w) t (Text (a ++ b ∷ v) u)
to_slash t r a v w u b l q h k =
    let f = run_first follow w u b v h in
    let g = ascii_whole w f.0 b l f.1 in
    subst (λ (z : List ℕ). Steps Free (Text a w) z (Text (a ++ b ∷ v) u)) (sym q)
    (more Free 92 r (Text a w) (Slash a) (Text (a ++ b ∷ v) u) (rw g.0 refl) (k (subst (λ (x : Character). run follow (Some x) (b ∷ v) ≡ Some u) g.0 h)))

pub rest_is : (b : ℕ) (t u r : List ℕ) → t ≡ b ∷ u → t ≡ b ∷ r → u ≡ r
rest_is b t u r e f = cc

pub behind_quote : (a u v : List ℕ) (w : Character) → TextClaim u v → run follow (Some Whole) (34 ∷ v) ≡ Some w → Steps Free (Slash a) (34 ∷ u) (Text (a ++ 34 ∷ v) w)
behind_quote a u v w c h =
    let f = run_first follow Whole w 34 v h in
    let g = ascii_whole Whole f.0 34 (omega arith) f.1 in
    more Free 34 u (Slash a) (Text (a ++ 34 ∷ []) Whole) (Text (a ++ 34 ∷ v) w) refl
    (subst (λ (z : List ℕ). Steps Free (Text (a ++ 34 ∷ []) Whole) u (Text z w)) (sym (snoc a 34 v)) (c.0 (a ++ 34 ∷ []) Whole w (subst (λ (x : Character). run follow (Some x) v ≡ Some w) g.1 f.2)))

pub same_first : (b : ℕ) (bs : List ℕ) (p p' q : Part) → part Free p b ≡ part Free p' b → Steps Free p (b ∷ bs) q → Steps Free p' (b ∷ bs) q
unfolding Steps
same_first b bs p p' q e h = (h.0, sym e ∙ h.1, h.2)

pub slash_same : (a : List ℕ) (b : ℕ) → (b == 34) ≡ false → (b == 92) ≡ false → part Free (Text (a ++ 92 ∷ []) Whole) b ≡ part Free (Slash a) b
slash_same a b h g = rw (h, g) (ap (λ (v : List ℕ). more_text v (follow Whole b)) (append_assoc a (92 ∷ []) (b ∷ [])))

pub behind_slash : (a u v : List ℕ) (b : ℕ) (w : Character) → (b == 34) ≡ false → TextClaim (b ∷ u) v → run follow (Some Whole) (92 ∷ v) ≡ Some w → Steps Free (Slash a) (b ∷ u) (Text (a ++ 92 ∷ v) w)
behind_slash a u v b w n c h =
    let f = run_first follow Whole w 92 v h in
    let g = ascii_whole Whole f.0 92 (omega arith) f.1 in
    let k : run follow (Some Whole) v ≡ Some w = subst (λ (x : Character). run follow (Some x) v ≡ Some w) g.1 f.2 in
    subst (λ (z : List ℕ). Steps Free (Slash a) (b ∷ u) (Text z w)) (sym (snoc a 92 v))
    (elim (either_way (b == 92)) [
      | inl e ↦ let d : b ≡ 92 = eq_true b 92 e in rw d (more Free 92 u (Slash a) (Slash (a ++ 92 ∷ [])) (Text ((a ++ 92 ∷ []) ++ v) w) refl (c.1 u (a ++ 92 ∷ []) w (ap (λ (x : ℕ). x ∷ u) d) k))
      | inr e ↦ same_first b u (Text (a ++ 92 ∷ []) Whole) (Slash a) (Text ((a ++ 92 ∷ []) ++ v) w) (slash_same a b n e) (c.0 (a ++ 92 ∷ []) Whole w k)
    ])

pub plain_byte : (a u v : List ℕ) (b : ℕ) (w z : Character) → (b == 34) ≡ false → (b == 92) ≡ false → TextClaim u v → run follow (Some w) (b ∷ v) ≡ Some z → Steps Free (Text a w) (b ∷ u) (Text (a ++ b ∷ v) z)
plain_byte a u v b w z n m c h =
    let f = run_first follow w z b v h in
    more Free b u (Text a w) (Text (a ++ b ∷ []) f.0) (Text (a ++ b ∷ v) z) (rw (n, m, f.1) refl)
    (subst (λ (x : List ℕ). Steps Free (Text (a ++ b ∷ []) f.0) u (Text x z)) (sym (snoc a b v)) (c.0 (a ++ b ∷ []) f.0 z f.2))

pub no_slash : (b : ℕ) (u r t : List ℕ) → (b == 92) ≡ false → t ≡ b ∷ u → t ≡ 92 ∷ r → ⊥
no_slash b u r t h e f = let g : b ≡ 92 = cc in let k : (92 == 92) ≡ false = subst (λ (x : ℕ). (x == 92) ≡ false) g h in cc

pub text_steps : {t v : List ℕ} → IsQuoted t v → TextClaim t v
unfolding run
text_steps (nothing {t} {v} p q) = (
  (λ a w u h. rw p (rw (q, append-nil a) (rw (some_is w u (rw q at h)) (none Free (Text a u))))),
  (λ r a u e h. absurd cc),
)
text_steps (quote {t} {v} u w c p q) =
    let d = text_steps c in (
      (λ a x y h. rw q (to_slash t (34 ∷ u) a w x y 34 (omega arith) p (rw q at h) (λ k. behind_quote a u w y d k))),
      (λ r a y e h. rw (q, sym (rest_is 92 t (34 ∷ u) r p e)) (behind_quote a u w y d (rw q at h))),
    )
text_steps (backslash {t} {v} b u w n c p q) =
    let d = text_steps c in (
      (λ a x y h. rw q (to_slash t (b ∷ u) a w x y 92 (omega arith) p (rw q at h) (λ k. behind_slash a u w b y n d k))),
      (λ r a y e h. rw (q, sym (rest_is 92 t (b ∷ u) r p e)) (behind_slash a u w b y n d (rw q at h))),
    )
text_steps (plain {t} {v} b u w n m c p q) =
    let d = text_steps c in (
      (λ a x y h. rw (p, q) (plain_byte a u w b x y n m d (rw q at h))),
      (λ r a y e h. absurd (no_slash b u r t m p e)),
    )
