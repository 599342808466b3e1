-- What a disk in memory may leave after one call more.
use Rattle.std.proofs.Common.{◌≡◌, ◌⊎◌, inl, inr, ℕ, suc, ◌-◌, ◌≤◌, List, ◌∷◌, length, drop, refl, sym, ap, subst, arith}
use Rattle.std.specs.Prelude.{Result, Ok, Err, OnOk, OnErr}
use Rattle.std.proofs.lemmas.Bool.{cases_lt}
use Rattle.outside.specs.Disk.{Torn, AddsNothing, Elapses}
use Rattle.outside.specs.MemDisk.{Recorded, seen, IsImage, IsImageSince, told}
use Rattle.outside.specs.MemDiskLaws.{seen_image}
use Rattle.outside.specs.declared.mem_disk.Call.{Call}
use Rattle.outside.specs.declared.mem_disk.Call.TheVariants.{Synced}

-- bytes that stay are an outcome of any write
pub torn_same : (at n : ℕ) (c : List ℕ) → Torn at n c c
torn_same at n c = record { before = refl; after = refl; no_shorter = omega arith; no_longer = omega arith }

-- a disk that stays has no new images
pub stays : (old new : Recorded) → new.first ≡ old.first → new.past ≡ old.past → Elapses (told old) (told new)
stays old new first past = record {
  later = omega (arith, ap length past);
  nothing_else = λ t c le since. inl (subst (λ (l : List Call). IsImageSince old.first l t c) past (subst (λ (l : List ℕ). IsImageSince l new.past t c) first since));
  keeps = λ t c le since. subst (λ (l : List ℕ). IsImageSince l new.past t c) (sym first) (subst (λ (l : List Call). IsImageSince old.first l t c) (sym past) since);
}

drop_older : (call : Call) (past : List Call) (k : ℕ) → k ≤ length past → drop (length (call ∷ past) - k) (call ∷ past) ≡ drop (length past - k) past
drop_older call past k le =
    let less : length (call ∷ past) - k ≡ suc (length past - k) = omega arith in
    ap (λ (n : ℕ). drop n (call ∷ past)) less

-- one call more adds the images that there are now
pub goes_on : (old new : Recorded) (call : Call) → new.first ≡ old.first → new.past ≡ call ∷ old.past → Elapses (told old) (told new)
goes_on old new call first past = rw (first, past) (record {
  later = omega arith;
  nothing_else = λ t c le since. split t c since;
  keeps = λ t c le since. (since.0, since.1, omega (arith, since.2), subst (λ (l : List Call). IsImage old.first l c) (sym (drop_older call old.past since.0 since.2)) since.3);
})
  where
    split : (t : ℕ) (c : List ℕ) → IsImageSince old.first (call ∷ old.past) t c → IsImageSince old.first old.past t c ⊎ IsImage old.first (call ∷ old.past) c
    split t c since = elim (cases_lt since.0 (length (call ∷ old.past))) [
      | inl less ↦ inl (since.0, since.1, omega (arith, less), subst (λ (l : List Call). IsImage old.first l c) (drop_older call old.past since.0 (omega (arith, less))) since.3)
      | inr all ↦
          let none : length (call ∷ old.past) - since.0 ≡ 0 = omega (arith, all) in
          inr (subst (λ (n : ℕ). IsImage old.first (drop n (call ∷ old.past)) c) none since.3)
    ]

-- a disk whose calls grew by one, or stayed
pub elapsed : (old new : Recorded) (call : Call) → new.first ≡ old.first → (new.past ≡ call ∷ old.past) ⊎ (new.past ≡ old.past) → Elapses (told old) (told new)
elapsed old new call first past = elim past [
  | inl more ↦ goes_on old new call first more
  | inr same ↦ stays old new first same
]

-- of the images before a sync only what a read gives is left
pub synced : (old new : Recorded) → new.first ≡ old.first → (new.past ≡ Synced ∷ old.past) ⊎ (new.past ≡ old.past)
    → AddsNothing (told old) (told new)
synced old new first past c image = elim past [
  | inl more ↦
      let only : c ≡ seen old.first old.past = rw (first, more) at image in
      rw only (seen_image old.first old.past)
  | inr same ↦ rw (first, same) at image
]

-- what an Ok gives, or what an error gives
pub either : {T E A B : Type 0} (r : Result T E) → OnOk r A → OnErr r B → A ⊎ B
either (Ok x) a b = inl a
either (Err e) a b = inr b
