-- What stands before the entries of a run.
use Rattle.std.proofs.Common.{◌≡◌, ◌≢◌, ◌≤◌, ◌+◌, ◌==◌, ℕ, true, false, List, [], ◌∷◌, length, refl, sym, ap, ◌∙◌, subst, eqb-true, arith}
use Rattle.zbx_types.specs.declared.base.Base.{Base}
use Rattle.zbx_types.specs.declared.conf.Conf.{Conf}
use Rattle.zbx_types.specs.Ids.{at_id}
use Rattle.entry_laws.specs.InForce.{AllDistinct, IsGround}
use Rattle.entry_laws.proofs.InForce.{nothing_is_ground}
use Rattle.entry_step.specs.Start.{Start, nothing}
use Rattle.base_laws.specs.Bases.{read_history, told_start}
use Rattle.base_laws.specs.FitsBase.{FitsBase}
use Rattle.base_laws.specs.Grounds.{IsBase, StartIsGround, nothing_or, start_of}
use Rattle.base_laws.proofs.Fitting.{fits_is_start}

-- ---- a text that is empty, or isn't

pub empty_text : (text : List ℕ) → (length text == 0) ≡ true → text ≡ []
empty_text [] is = refl
empty_text (byte ∷ text) is = let none = eqb-true (length (byte ∷ text)) 0 is in absurd (omega arith)

pub some_text : (text : List ℕ) → (length text == 0) ≡ false → text ≢ []
some_text [] is = absurd cc
some_text (byte ∷ text) is = λ none. absurd cc

pub some_of : (text : List ℕ) (byte : ℕ) (more : List ℕ) → text ≡ byte ∷ more → text ≢ []
some_of text byte more same = λ none. absurd cc

-- ---- the start

start_is : (flat : List ℕ → Conf) (base : Base) → start_of flat base ≡ nothing_or base.text (told_start (flat base.text) base)
unfolding start_of
start_is flat base = refl

pub start_none : (flat : List ℕ → Conf) (base : Base) → base.text ≡ [] → start_of flat base ≡ nothing
start_none flat base none = start_is flat base ∙ ap (λ text. nothing_or text (told_start (flat base.text) base)) none

pub start_some : (flat : List ℕ → Conf) (base : Base) → base.text ≢ [] → start_of flat base ≡ told_start (flat base.text) base
start_some flat base some = start_is flat base ∙ go base.text some
  where
    go : (text : List ℕ) → text ≢ [] → nothing_or text (told_start (flat base.text) base) ≡ told_start (flat base.text) base
    go [] none = absurd (none refl)
    go (byte ∷ text) none = refl

-- its number is the base's
pub number_before : (flat : List ℕ → Conf) (base : Base) → IsBase flat base → (start_of flat base).number ≡ base.number
number_before flat base is = go base.text refl
  where
    go : (text : List ℕ) → base.text ≡ text → (start_of flat base).number ≡ base.number
    go [] same = ap (λ (s : Start). s.number) (start_none flat base same) ∙ sym (ap (λ (b : Base). b.number) (is.empty same))
    go (byte ∷ text) same = ap (λ (s : Start). s.number) (start_some flat base (some_of base.text byte text same))

-- which can be counted on
pub number_few : (flat : List ℕ → Conf) (base : Base) → IsBase flat base → base.number ≤ 9000000000000000000
number_few flat base is = go base.text refl
  where
    go : (text : List ℕ) → base.text ≡ text → base.number ≤ 9000000000000000000
    go [] same = let none = ap (λ (b : Base). b.number) (is.empty same) in omega arith
    go (byte ∷ text) same = (is.fits (some_of base.text byte text same)).number

-- a log can stand on it, where no configuration has two triggers of the same names
base_stands : (flat : List ℕ → Conf) (base : Base) → AllDistinct flat → base.text ≢ [] → (flat base.text).text ≡ base.text → FitsBase (flat base.text) base → IsGround (told_start (flat base.text) base)
base_stands flat base distinct some own fits = record {
  fits = fits_is_start (flat base.text) base (distinct base.text) fits;
  absent = λ id none. ap (λ o. read_history o (at_id base.items id)) none;
  moment = λ none. absurd (some (sym own ∙ none));
}

pub start_is_ground : StartIsGround
start_is_ground flat base distinct is = go base.text refl
  where
    go : (text : List ℕ) → base.text ≡ text → IsGround (start_of flat base)
    go [] same = subst IsGround (sym (start_none flat base same)) nothing_is_ground
    go (byte ∷ text) same =
        let some = some_of base.text byte text same in
        subst IsGround (sym (start_some flat base some)) (base_stands flat base distinct some (is.text some) (is.fits some))
