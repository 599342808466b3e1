-- A disk in memory keeps the laws of a disk.
use Rattle.std.specs.Prelude.{◌≡◌, ℕ, ◌+◌, ◌-◌, min, List, [], ◌∷◌, ◌++◌, length, take, drop, replicate}
use Rattle.std.proofs.Common.{refl, sym, ◌∙◌, ap, subst, arith, append_assoc, length-append}
use Rattle.std.proofs.lemmas.List.{take-append-le, drop_at, length-take, length-drop, length-replicate, take-take}
use Rattle.outside.specs.Disk.{IsLawful, overwritten, Torn}
use Rattle.outside.specs.MemDisk.{Recorded, seen, IsImage, told}
use Rattle.outside.specs.declared.mem_disk.Call.{Call}
use Rattle.outside.specs.declared.mem_disk.Call.TheVariants.{Wrote, Synced}

module _ (old : List ℕ) (at : ℕ) (piece : List ℕ) where
  abbrev whole : List ℕ
  whole = old ++ replicate (at - length old) 0

  abbrev front : List ℕ
  front = take at whole

  length-front : length front ≡ at
  length-front = omega (arith, length-take at whole, length-append old (replicate (at - length old) 0), length-replicate {A = ℕ} (at - length old) 0)

  -- a write that isn't cut short is one of the outcomes of a crash
  pub overwritten-torn : Torn at (length piece) old (overwritten old at piece)
  unfolding overwritten
  overwritten-torn = record {
    before = front_kept;
    after = back_kept;
    no_shorter = omega (arith, sizes);
    no_longer = omega (arith, sizes);
  }
    where
      m : ℕ
      m = min at (length old)

      sizes : length (overwritten old at piece) ≡ at + length piece + (length old - (at + length piece))
      sizes = omega (arith, length-append (front ++ piece) (drop (at + length piece) old), length-append front piece, length-front, length-drop (at + length piece) old)

      front_kept : take m (overwritten old at piece) ≡ take m old
      front_kept =
          ap (λ (l : List ℕ). take m l) (append_assoc front piece (drop (at + length piece) old))
          ∙ take-append-le m front (piece ++ drop (at + length piece) old) (omega (arith, length-front))
          ∙ take-take m at whole (omega arith)
          ∙ take-append-le m old (replicate (at - length old) 0) (omega arith)

      back_kept : drop (at + length piece) (overwritten old at piece) ≡ drop (at + length piece) old
      back_kept = drop_at (front ++ piece) (drop (at + length piece) old) (at + length piece) (omega (arith, length-append front piece, length-front))

-- what a read gives is an image
pub seen_image : (first : List ℕ) (past : List Call) → IsImage first past (seen first past)
seen_image first [] = refl
seen_image first (Wrote at bytes ∷ earlier) = (seen first earlier, seen_image first earlier, overwritten-torn (seen first earlier) at bytes)
seen_image first (Synced ∷ earlier) = refl

pub told_lawful : (m : Recorded) → IsLawful (told m)
told_lawful m = record {
  reads_as = seen_image m.first m.past;
  counts_now = λ t c le image.
      let all : length m.past - length m.past ≡ 0 = omega arith in
      (length m.past, le, omega arith, subst (λ (n : ℕ). IsImage m.first (drop n m.past) c) (sym all) image);
  only_now = λ c since.
      let all : length m.past - since.0 ≡ 0 = omega (arith, since.1) in
      subst (λ (n : ℕ). IsImage m.first (drop n m.past) c) all since.3;
}
