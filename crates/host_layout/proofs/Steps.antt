-- Lists that are made element by element.
use Rattle.std.proofs.Common.{◌≡◌, ℕ, suc, ◌+◌, ◌<◌, List, [], ◌∷◌, ◌++◌, ap, sym, ◌∙◌, length, arith, get_or, drop, map, flat_map}
use Rattle.std.specs.Prelude.{Result, Ok, Err}
use Rattle.std.proofs.Math.Seq.{drop-cons}
use Rattle.config_read.specs.declared.raw.RawHost.{RawHost}
use Rattle.host_layout.specs.declared.templates.sources.Source.{Source}
use Rattle.host_layout.specs.Sources.{placed_of}
use Rattle.host_layout.specs.declared.fault.FlatError.{FlatError}
use Rattle.host_layout.specs.declared.fault.FlatError.TheVariants.{Refused, OutOfMemory}
use Rattle.host_layout.specs.Places.{Flaw, ◌>>=◌, each, Placed}
use Rattle.host_layout.specs.Answers.{Fails}

pub on_ok : {B C : Type 0} (r : Result B Flaw) (k m : B → Result C Flaw) (after : C) (whole : Result C Flaw)
    → (r >>= k) ≡ Ok after → ((b : B) → k b ≡ Ok after → m b ≡ whole) → (r >>= m) ≡ whole
on_ok (Ok b) k m after whole h f = f b h
on_ok (Err e) k m after whole h f = absurd cc

pub on_err : {B C : Type 0} (r : Result B Flaw) (k m : B → Result C Flaw) (e : Flaw) → (r >>= k) ≡ Err e → ((b : B) → k b ≡ Err e → m b ≡ Err e) → (r >>= m) ≡ Err e
on_err (Ok b) k m e h f = f b h
on_err (Err d) k m e h f = cc

module _ {A B : Type 0} (make : List B → A → Result B Flaw) where
  -- behind elements that were made, the others follow
  pub each_then : (before : List B) (xs ys : List A) (after : List B) → each make before xs ≡ Ok after → each make before (xs ++ ys) ≡ each make after ys
  each_then before [] ys after h = let e : before ≡ after = cc in ap (λ b. each make b ys) e
  each_then before (x ∷ xs) ys after h =
      on_ok (make before x) (λ b. each make (before ++ b ∷ []) xs) (λ b. each make (before ++ b ∷ []) (xs ++ ys)) after (each make after ys) h (λ b e. each_then (before ++ b ∷ []) xs ys after e)

  err_stays : (before : List B) (xs ys : List A) (e : Flaw) → each make before xs ≡ Err e → each make before (xs ++ ys) ≡ Err e
  err_stays before [] ys e h = absurd cc
  err_stays before (x ∷ xs) ys e h =
      on_err (make before x) (λ b. each make (before ++ b ∷ []) xs) (λ b. each make (before ++ b ∷ []) (xs ++ ys)) e h (λ b f. err_stays (before ++ b ∷ []) xs ys e f)

  -- where one can't be made, the whole list can't
  pub each_fails : (before : List B) (xs ys : List A) (e : FlatError) → Fails e (each make before xs) → Fails e (each make before (xs ++ ys))
  each_fails before xs ys OutOfMemory h = tt
  each_fails before xs ys (Refused path cause) h = err_stays before xs ys _ h

pub from_drop : {A : Type 0} (xs : List A) (i : ℕ) (x : A) → i < length xs → x ≡ get_or xs i x → drop i xs ≡ x ∷ drop (i + 1) xs
from_drop xs i x h e = let z : suc i ≡ i + 1 = omega arith in drop-cons xs i x h ∙ (ap (λ y. y ∷ drop (suc i) xs) (sym e) ∙ ap (λ n. x ∷ drop n xs) z)

module _ {A B : Type 0} (make : List B → A → Result B Flaw) (own : Placed RawHost → List A) where
  -- behind what the source at this place has, what the others have follows
  pub source_then : (sources : List Source) (i : ℕ) (s : Source) (before after : List B) → i < length sources → s ≡ get_or sources i s → each make before (own (placed_of s)) ≡ Ok after
      → each make after (flat_map own (map placed_of (drop (i + 1) sources))) ≡ each make before (flat_map own (map placed_of (drop i sources)))
  source_then sources i s before after h e o = rw (from_drop sources i s h e) (sym (each_then make before (own (placed_of s)) (flat_map own (map placed_of (drop (i + 1) sources))) after o))

  pub source_fails : (sources : List Source) (i : ℕ) (s : Source) (before : List B) (e : FlatError) → i < length sources → s ≡ get_or sources i s → Fails e (each make before (own (placed_of s)))
      → Fails e (each make before (flat_map own (map placed_of (drop i sources))))
  source_fails sources i s before e h g f = rw (from_drop sources i s h g) (each_fails make before (own (placed_of s)) (flat_map own (map placed_of (drop (i + 1) sources))) e f)
