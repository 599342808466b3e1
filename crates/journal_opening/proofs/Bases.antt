-- Laws of bases with which a run can begin.
use Rattle.std.proofs.Common.{◌≡◌, ◌≢◌, ◌≤◌, ◌<◌, ℕ, List, [], ◌∷◌, ◌++◌, length, map, Some, refl, sym, ap, ◌∙◌, subst, arith, append-nil}
use Rattle.std.proofs.lemmas.List.Elements.{All-nil, All-cons, All-head}
use Rattle.zbx_types.specs.Bases.{empty_base}
use Rattle.zbx_types.specs.declared.base.Base.{Base}
use Rattle.zbx_types.specs.declared.conf.Conf.{Conf}
use Rattle.entry_step.specs.Start.{Start, nothing}
use Rattle.intake_journal.specs.Based.{most_counted}
use Rattle.entry_laws.specs.InForce.{IsGround, text_in, texts_on}
use Rattle.intake_front.specs.Standing.{IsOfText, StandsFor}
use Rattle.base_laws.specs.Bases.{told_start}
use Rattle.base_laws.specs.FitsBase.{FitsBase}
use Rattle.base_laws.specs.Grounds.{start_of}
use Rattle.base_laws.proofs.Grounds.{start_none, start_some, some_of, number_before, number_few, start_is_ground}
use Rattle.journal_opening.specs.Replayed.{flat, IsFlat, AreFlat, IsGoodBase}
use Rattle.journal_opening.proofs.Distinct.{all_distinct}
use Rattle.journal_opening.proofs.Texts.{text_kept}

-- ---- what a base with a text leaves

moment_in : (conf : Conf) (base : Base) → (told_start conf base).moment ≡ base.now
moment_in conf base = refl

conf_in : (conf : Conf) (base : Base) → (told_start conf base).stage.conf ≡ conf
conf_in conf base = refl

text_in_is : (own text : List ℕ) → text_in own ≡ Some text → own ≡ text
text_in_is [] text is = absurd (cc)
text_in_is (byte ∷ own) text is = cc

pub flat_one : (text : List ℕ) → text ≢ [] → AreFlat text [] → IsFlat text
flat_one [] some all = absurd (some refl)
flat_one (byte ∷ text) some all = All-head IsFlat (byte ∷ text) [] all

-- ---- the start behind a base

module _ (base : Base) (good : IsGoodBase base) where
  abbrev own : Start
  own = told_start (flat base.text) base

  -- it is nothing where the base is empty
  by_text : (P : Start → Type 0) → (base.text ≡ [] → P nothing) → (base.text ≢ [] → P own) → P (start_of flat base)
  by_text P none some = go base.text refl
    where
      go : (text : List ℕ) → base.text ≡ text → P (start_of flat base)
      go [] is = subst P (sym (start_none flat base is)) (none is)
      go (byte ∷ text) is = let there = some_of base.text byte text is in subst P (sym (start_some flat base there)) (some there)

  own_text : base.text ≢ [] → own.stage.conf.text ≡ base.text
  own_text some = ap (λ (c : Conf). c.text) (conf_in (flat base.text) base) ∙ text_kept base.text (flat base.text) (flat_one base.text some good.0)

  own_of : base.text ≢ [] → IsOfText flat own.stage.conf
  own_of some text is = conf_in (flat base.text) base ∙ ap flat (text_in_is base.text text (ap text_in (sym (own_text some)) ∙ is))

  pub stands_of : StandsFor flat base (start_of flat base)
  stands_of = record {
    number = number_before flat base good.1;
    moment = by_text (λ s. s.moment ≡ base.now) (λ none. sym (ap (λ (b : Base). b.now) (good.1.empty none))) (λ some. moment_in (flat base.text) base);
    text = by_text (λ s. s.stage.conf.text ≡ base.text) (λ none. sym none) own_text;
    of_text = by_text (λ s. IsOfText flat s.stage.conf) (λ none text is. absurd (cc)) own_of;
    first = by_text (λ s. s.stage.conf.text ≡ [] → s.moment ≡ 0) (λ none is. refl) (λ some is. absurd (some (sym (own_text some) ∙ is)));
  }

  -- and a log can stand on it
  pub good_ground : IsGround (start_of flat base)
  good_ground = start_is_ground flat base all_distinct good.1

  pub few_of : base.number ≤ most_counted
  few_of = number_few flat base good.1

-- ---- whether one can begin with a base

pub empty_good : (base : Base) (confs : List Conf) → length base.text ≡ 0 → (base.text ≡ [] → base ≡ empty_base) → IsGoodBase base × (confs ≡ confs ++ map flat (texts_on base.text []))
empty_good base confs none formed = go base.text refl none
  where
    go : (text : List ℕ) → base.text ≡ text → length text ≡ 0 → IsGoodBase base × (confs ≡ confs ++ map flat (texts_on base.text []))
    go [] is none = (
      (subst (λ t. AreFlat t []) (sym is) (All-nil IsFlat), record { empty = formed; text = λ some. absurd (some is); fits = λ some. absurd (some is) }),
      sym (append-nil confs) ∙ ap (λ t. confs ++ map flat (texts_on t [])) (sym is),
    )
    go (byte ∷ text) is none = absurd (omega (arith, none))

pub not_flat : (base : Base) → ¬ (IsFlat base.text) → ¬ (IsFlat base.text × FitsBase (flat base.text) base)
not_flat base refused both = refused both.0

pub not_fitting : (base : Base) (conf : Conf) → conf ≡ flat base.text → ¬ (FitsBase conf base) → ¬ (IsFlat base.text × FitsBase (flat base.text) base)
not_fitting base conf is unfit both = unfit (subst (λ (k : Conf). FitsBase k base) (sym is) both.1)

pub own_good : (base : Base) (old new : List Conf) (conf : Conf) → 0 < length base.text → IsFlat base.text → conf ≡ flat base.text → FitsBase conf base → new ≡ old ++ conf ∷ []
    → IsGoodBase base × (new ≡ old ++ map flat (texts_on base.text []))
own_good base old new conf some accepted is fits more = (
  (all base.text some accepted, record { empty = λ none. absurd (omega (arith, some, ap length none)); text = λ there. text_kept base.text (flat base.text) accepted; fits = λ there. subst (λ (k : Conf). FitsBase k base) is fits }),
  more ∙ ap (λ c. old ++ c ∷ []) is ∙ ap (λ l. old ++ l) (one base.text some),
)
  where
    all : (text : List ℕ) → 0 < length text → IsFlat text → AreFlat text []
    all [] some is = absurd (omega arith)
    all (byte ∷ text) some is = All-cons IsFlat (byte ∷ text) [] is (All-nil IsFlat)

    one : (text : List ℕ) → 0 < length text → flat text ∷ [] ≡ map flat (texts_on text [])
    one [] some = absurd (omega arith)
    one (byte ∷ text) some = refl

pub bad_base : (base : Base) → 0 < length base.text → ¬ (IsFlat base.text × FitsBase (flat base.text) base) → ¬ (IsGoodBase base)
bad_base base some bad good =
    let there : base.text ≢ [] = λ none. omega (arith, some, ap length none) in
    bad (flat_one base.text there good.0, good.1.fits there)
