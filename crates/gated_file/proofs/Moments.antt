-- How a run of disk calls goes on, and what is told where a disk tells.
use Rattle.std.proofs.Common.{◌≡◌, inl, inr, ⊎_elim, ℕ, List, Option, Some, None, IfSome, refl, subst, arith}
use Rattle.outside.specs.Disk.{DiskTells, IsLawful, AddsNothing, Elapses, LeavesOnly}

-- what holds where an option has a value
pub if_some : {A : Type 0} (o : Option A) (P : A → Type 0) → ((a : A) → o ≡ Some a → P a) → IfSome o P
if_some None P has = tt
if_some (Some a) P has = has a refl

-- what is told of an option's value
pub told_of : {A : Type 0} (o : Option A) (a : A) (P : A → Type 0) → o ≡ Some a → IfSome o P → P a
told_of {A = A} o a P is told = subst (λ (p : Option A). IfSome p P) is told

module _ (P : List ℕ → Type 0) (old : DiskTells) where
  -- each image at a moment since the old disk has P, and so has each image now
  pub record IsKept (new : DiskTells) : Type 0 where
    pub moments : LeavesOnly old new P
    pub now : (c : List ℕ) → new.images c → P c

  -- before the first call
  pub started : IsLawful old → ((c : List ℕ) → old.images c → P c) → IsKept old
  started lawful here = record {
    moments = record { later = omega arith; each = λ c left. here c (lawful.only_now c left); before = λ t c le left. inl left };
    now = here;
  }

  -- one call more, after which each image has P
  pub goes_on : (mid new : DiskTells) → IsKept mid → Elapses mid new → ((c : List ℕ) → new.images c → P c) → IsKept new
  goes_on mid new so_far time here = record {
    moments = record {
      later = omega (arith, so_far.moments.later, time.later);
      each = λ c left. ⊎_elim (so_far.moments.each c) (here c) (time.nothing_else old.moment c so_far.moments.later left);
      before = λ t c le left. ⊎_elim (so_far.moments.before t c le) (λ now. inr (here c now)) (time.nothing_else t c (omega (arith, le, so_far.moments.later)) left);
    };
    now = here;
  }

  -- one call more that has no new images
  pub stays : (mid new : DiskTells) → IsKept mid → Elapses mid new → AddsNothing mid new → IsKept new
  stays mid new so_far time fewer = goes_on mid new so_far time (λ c now. so_far.now c (fewer c now))
