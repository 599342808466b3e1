-- The first trigger with some names, and the first origin of an event.
use Rattle.std.proofs.Common.{◌≡◌, ℕ, ◌==◌, ◌&&◌, Bool, true, false, cond, List, Option, Some, None, refl, subst, eqb-true}
use Rattle.std.specs.Cmp.Lexicographic.{bytes_decides}
use Rattle.std.specs.HashMap.{HashMap}
use Rattle.std.specs.Str.{bytes_eq}
use Rattle.zbx_types.specs.Records.{same_event}
use Rattle.zbx_types.specs.declared.entries.EventId.{EventId}
use Rattle.trigger_state.specs.Naming.{id_in, noted}
use Rattle.trigger_state.specs.Origins.{place_in}
use Rattle.trigger_state.specs.declared.stage.Place.{Place}
use denote.Ref.{Bor}

-- what is noted where nothing was there before
pub noted_is : {A : Type 0} (before : Option A) (b : Bool) (id : A) → (b ≡ true → before ≡ None) → cond b (Some id) before ≡ noted before b id
noted_is None true id e = refl
noted_is None false id e = refl
noted_is (Some n) true id e = let z : Some n ≡ None = e refl in absurd (cc)
noted_is (Some n) false id e = refl

-- under equal names the same is kept
pub none_at : {S : Type 0} (ids : HashMap (Bor (List ℕ) × Bor (List ℕ)) ℕ S) (host name h q : List ℕ) → id_in ids host name ≡ None → (bytes_eq host h && bytes_eq name q) ≡ true → id_in ids h q ≡ None
none_at ids host name h q none e = go (bytes_eq host h) refl (bytes_eq name q) refl e
  where
    go : (a : Bool) → bytes_eq host h ≡ a → (b : Bool) → bytes_eq name q ≡ b → (a && b) ≡ true → id_in ids h q ≡ None
    go true s true t e = subst (λ x. id_in ids h x ≡ None) ((bytes_decides name q).0 t) (subst (λ x. id_in ids x name ≡ None) ((bytes_decides host h).0 s) none)
    go true s false t e = absurd (cc)
    go false s b t e = absurd (cc)

-- under equal events the same is kept
pub none_under : {S : Type 0} (places : HashMap (ℕ × ℕ) Place S) (event e : EventId) → place_in places event ≡ None → same_event event e ≡ true → place_in places e ≡ None
none_under places event e none same = go (event.number == e.number) refl (event.trigger == e.trigger) refl same
  where
    go : (a : Bool) → (event.number == e.number) ≡ a → (b : Bool) → (event.trigger == e.trigger) ≡ b → (a && b) ≡ true → place_in places e ≡ None
    go true s true t u =
        subst (λ (n : ℕ). place_in places (record { number = n; trigger = e.trigger }) ≡ None) (eqb-true event.number e.number s)
        (subst (λ (m : ℕ). place_in places (record { number = event.number; trigger = m }) ≡ None) (eqb-true event.trigger e.trigger t) none)
    go true s false t u = absurd (cc)
    go false s b t u = absurd (cc)
