-- The machine takes each key of the grammar.
use Rattle.std.proofs.Common.{◌≡◌, ℕ, List, [], ◌∷◌, ◌++◌, refl, ap, sym, ◌∙◌, append_assoc, Option, Some, Bool, true, false, ◌==◌, if◌then◌else◌}
use Rattle.item_key.specs.declared.places.InParameter.{InParameter}
use Rattle.item_key.specs.declared.places.InParameter.TheVariants.{Before, Bare, Quoted as InQuoted, Escaped, Behind}
use Rattle.item_key.specs.declared.places.Place.{Place}
use Rattle.item_key.specs.declared.places.Place.TheVariants.{Start, Name, Param, Listed, Closed, Done}
use Rattle.item_key.specs.declared.places.ByteEffect.{ByteEffect}
use Rattle.item_key.specs.declared.places.ByteEffect.TheVariants.{Stay, Comma, Close, Open}
use Rattle.item_key.specs.Machine.{turn, outer, inner, step, ends_at, place_of}
use Rattle.item_key.specs.Grammar.{is_name_byte, is_bare, begins_bare, Quoted, IsPlain, nothing, bare, quoted, AreMany, last, more, IsParam, one, list, IsKeyText, name, with_params}
use Rattle.byte_grammar.specs.Bytes.{Each, is_space}
use Rattle.byte_grammar.specs.Runs.{run}
use Rattle.byte_grammar.proofs.Runs.{joined, stays, byte_on, run_end}

-- the place of a parameter, in the key or in a list
abbrev Steps : (InParameter → Place) → (ByteEffect → Option Place) → Type 0
Steps P O = ((w : InParameter) (b : ℕ) → step (P w) b ≡ O (turn w b)) × ((w : InParameter) → O (Stay w) ≡ Some (P w))

param_steps : Steps Param outer
param_steps = (λ w b. refl, λ w. refl)

listed_steps : Steps Listed inner
listed_steps = (λ w b. refl, λ w. refl)

abbrev in_quotes : ℕ → InParameter
in_quotes before = if before == 92 then Escaped else InQuoted

stay_if : (c : Bool) → (if c then Stay Escaped else Stay InQuoted) ≡ Stay (if c then Escaped else InQuoted)
stay_if true = refl
stay_if false = refl

not_quote : (c d : Bool) → (if c then false else true) ≡ true → (if c then Stay Behind else if d then Stay Escaped else Stay InQuoted) ≡ Stay (if d then Escaped else InQuoted)
not_quote true d h = absurd cc
not_quote false d h = stay_if d

quote_turn : (p : Bool) (b : ℕ) → (if b == 34 then p else true) ≡ true → turn (if p then Escaped else InQuoted) b ≡ Stay (in_quotes b)
quote_turn true b h = stay_if (b == 92)
quote_turn false b h = not_quote (b == 34) (b == 92) h

space_before : (b : ℕ) → is_space b ≡ true → turn Before b ≡ Stay Before
space_before b h = rw h refl

space_behind : (b : ℕ) → is_space b ≡ true → turn Behind b ≡ Stay Behind
space_behind b h = rw h refl

bare_stays : (b : ℕ) → is_bare b ≡ true → turn Bare b ≡ Stay Bare
bare_stays b h = at (b == 44) (b == 93) h
  where
    at : (c d : Bool) → (if c then false else if d then false else true) ≡ true → (if c then Comma else if d then Close else Stay Bare) ≡ Stay Bare
    at true d h = absurd cc
    at false true h = absurd cc
    at false false h = refl

bare_begins : (b : ℕ) → begins_bare b ≡ true → turn Before b ≡ Stay Bare
bare_begins b h = at (b == 32) (b == 34) (b == 91) (b == 44) (b == 93) h
  where
    at : (p q r c d : Bool) → (if p then false else if q then false else if r then false else if c then false else if d then false else true) ≡ true
        → (if p then Stay Before else if q then Stay InQuoted else if r then Open else if c then Comma else if d then Close else Stay Bare) ≡ Stay Bare
    at true q r c d h = absurd cc
    at false true r c d h = absurd cc
    at false false true c d h = absurd cc
    at false false false true d h = absurd cc
    at false false false false true h = absurd cc
    at false false false false false h = refl

regroup : (s y : List ℕ) → s ++ 34 ∷ y ≡ (s ++ 34 ∷ []) ++ y
regroup s y = sym (append_assoc s (34 ∷ []) y)

module _ (P : InParameter → Place) (O : ByteEffect → Option Place) (on : Steps P O) where
  one_step : (w v : InParameter) (b : ℕ) (bs : List ℕ) → turn w b ≡ Stay v → run step (Some (P w)) (b ∷ bs) ≡ run step (Some (P v)) bs
  one_step w v b bs e = byte_on step (P w) (P v) b bs (on.0 w b ∙ ap O e ∙ on.1 v)

  each_stays : (w : InParameter) (t : ℕ → Bool) → ((b : ℕ) → t b ≡ true → turn w b ≡ Stay w) → (x : List ℕ) → Each t x → run step (Some (P w)) x ≡ Some (P w)
  each_stays w t h x e = stays step (P w) t (λ b g. on.0 w b ∙ ap O (h b g) ∙ on.1 w) x e

  quoted_run : (s : List ℕ) (before : ℕ) → Quoted before s → run step (Some (P (in_quotes before))) (s ++ 34 ∷ []) ≡ Some (P Behind)
  unfolding run Quoted
  quoted_run [] before h = rw h (one_step InQuoted Behind 34 [] refl)
  quoted_run (b ∷ s) before h = one_step (in_quotes before) (in_quotes b) b (s ++ 34 ∷ []) (quote_turn (before == 92) b h.0) ∙ quoted_run s b h.1

  plain_run : {t : List ℕ} → IsPlain t → (p : Place) × (run step (Some (P Before)) t ≡ Some p) × (step p 44 ≡ O Comma) × (step p 93 ≡ O Close)
  unfolding run
  plain_run (nothing x s) = (P Before, each_stays Before is_space space_before x s, on.0 Before 44, on.0 Before 93)
  plain_run (bare x b bs s h e q) = (
    P Bare,
    ap (λ (v : List ℕ). run step (Some (P Before)) v) q ∙ joined step (Some (P Before)) (Some (P Before)) x (b ∷ bs) (each_stays Before is_space space_before x s)
        ∙ one_step Before Bare b bs (bare_begins b h) ∙ each_stays Bare is_bare bare_stays bs e,
    on.0 Bare 44,
    on.0 Bare 93,
  )
  plain_run (quoted x s y e h g q) = (
    P Behind,
    ap (λ (v : List ℕ). run step (Some (P Before)) v) q ∙ joined step (Some (P Before)) (Some (P Before)) x (34 ∷ (s ++ 34 ∷ y)) (each_stays Before is_space space_before x e)
        ∙ one_step Before InQuoted 34 (s ++ 34 ∷ y) refl ∙ ap (λ (v : List ℕ). run step (Some (P InQuoted)) v) (regroup s y)
        ∙ joined step (Some (P InQuoted)) (Some (P Behind)) (s ++ 34 ∷ []) y (quoted_run s 34 h) ∙ each_stays Behind is_space space_behind y g,
    on.0 Behind 44,
    on.0 Behind 93,
  )

-- a run from p to a place where a comma leads to p again, and a bracket to c
abbrev Ends : Place → Place → List ℕ → Type 0
Ends p c t = (q : Place) × (run step (Some p) t ≡ Some q) × (step q 44 ≡ Some p) × (step q 93 ≡ Some c)

many_run : (Q : List ℕ → Type 0) (p c : Place) → ((t : List ℕ) → Q t → Ends p c t) → {t : List ℕ} → AreMany Q t → Ends p c t
many_run Q p c h (last {t} s) = h t s
many_run Q p c h (more {t} u v s r q) =
    let a = h u s in
    let b = many_run Q p c h r in
    (b.0, ap (λ (w : List ℕ). run step (Some p) w) q ∙ joined step (Some p) (Some a.0) u (44 ∷ v) a.1 ∙ byte_on step a.0 p 44 v a.2 ∙ b.1, b.2, b.3)

param_run : (t : List ℕ) → IsParam t → Ends (Param Before) Done t
param_run t s = at s
  where
    at : {t : List ℕ} → IsParam t → Ends (Param Before) Done t
    at (one r) = plain_run Param outer param_steps r
    at (list x v e r q) =
        let b = many_run IsPlain (Listed Before) Closed (λ t z. plain_run Listed inner listed_steps z) r in (
          Closed,
          ap (λ (w : List ℕ). run step (Some (Param Before)) w) q ∙ joined step (Some (Param Before)) (Some (Param Before)) x (91 ∷ (v ++ 93 ∷ [])) (each_stays Param outer param_steps Before is_space space_before x e)
              ∙ byte_on step (Param Before) (Listed Before) 91 (v ++ 93 ∷ []) refl ∙ joined step (Some (Listed Before)) (Some b.0) v (93 ∷ []) b.1 ∙ byte_on step b.0 Closed 93 [] b.3 ∙ run_end step (Some Closed),
          refl,
          refl,
        )

name_run : (bs : List ℕ) → Each is_name_byte bs → run step (Some Name) bs ≡ Some Name
name_run bs e = stays step Name is_name_byte (λ b h. rw h refl) bs e

-- each key of the grammar is one of the machine
pub taken : {t : List ℕ} → IsKeyText t → ends_at (place_of t) ≡ true
taken (name b bs h e) = ap (λ (o : Option Place). ends_at o) (byte_on step Start Name b bs (rw h refl) ∙ name_run bs e)
taken (with_params b bs v h e r q) =
    let m = many_run IsParam (Param Before) Done param_run r in
    ap (λ (w : List ℕ). ends_at (run step (Some Start) w)) q
    ∙ ap (λ (o : Option Place). ends_at o) (byte_on step Start Name b (bs ++ 91 ∷ (v ++ 93 ∷ [])) (rw h refl) ∙ joined step (Some Name) (Some Name) bs (91 ∷ (v ++ 93 ∷ [])) (name_run bs e)
    ∙ byte_on step Name (Param Before) 91 (v ++ 93 ∷ []) refl ∙ joined step (Some (Param Before)) (Some m.0) v (93 ∷ []) m.1 ∙ byte_on step m.0 Done 93 [] m.3 ∙ run_end step (Some Done))
