-- Where no maintenance without data collection is in force, the values of all hosts are taken.
use Rattle.std.proofs.Common.{◌≡◌, ℕ, ◌+◌, ◌-◌, ◌/◌, ◌<◌, Bool, true, false, not, List, [], ◌∷◌, length, get_or, take, refl, sym, ap, ◌∙◌, arith}
use Rattle.std.specs.Prelude.{◌&&◌, ◌||◌, ◌==◌}
use Rattle.std.specs.List.{list_any}
use Rattle.std.proofs.lemmas.Grind.{common_steps}
use Rattle.std.proofs.lemmas.List.Folds.{list_any_more}
use Rattle.std.proofs.lemmas.Option.{slice_get-get_or}
use Rattle.zbx_types.specs.Ids.{at_id}
use Rattle.zbx_types.specs.declared.conf.Conf.{Conf}
use Rattle.zbx_types.specs.declared.maintenances.Maintenance.{Maintenance}
use Rattle.maintenance.specs.Force.{is_active, is_in_force}
use Rattle.maintenance.specs.Covering.{is_of_host}
use Rattle.maintenance.specs.Suppression.{keeps_out, is_collected}
use Rattle.intake_front.specs.Taking.{AllCollected}

-- it keeps the values of its hosts out
abbrev pub is_out : Conf → ℕ → Maintenance → Bool
is_out conf now m = not m.collect && is_active conf.utc_offset (now / 1000000000) m

not_zero : (n : ℕ) → (n + 1 == 0) ≡ false
not_zero n = grind (arith, common_steps)

-- the maintenance with the id of a place
force_at : (conf : Conf) (now place : ℕ) (m : Maintenance) → place < length conf.maintenances → m ≡ get_or conf.maintenances place m
    → is_in_force conf (place + 1) now ≡ is_active conf.utc_offset (now / 1000000000) m
unfolding is_in_force at_id
force_at conf now place m h e =
    let p : place + 1 - 1 ≡ place = omega arith in
    let there = slice_get-get_or conf.maintenances place m h in
    rw (not_zero place, p, there, ← e) refl

-- one more maintenance that keeps nothing out
pub none_more : (conf : Conf) (now place id : ℕ) (m : Maintenance) → place < length conf.maintenances → m ≡ get_or conf.maintenances place m → id ≡ place + 1
    → (not m.collect && is_in_force conf id now) ≡ false → list_any (is_out conf now) (take place conf.maintenances) ≡ false
    → list_any (is_out conf now) (take (place + 1) conf.maintenances) ≡ false
none_more conf now place id m h e at is before =
    let same : is_out conf now m ≡ false =
    ap (λ b. not m.collect && b) (sym (ap (λ n. is_in_force conf n now) at ∙ force_at conf now place m h e)) ∙ is in
    list_any_more (is_out conf now) conf.maintenances place m h
    ∙ ap (λ b. b || is_out conf now (get_or conf.maintenances place m)) before
    ∙ ap (is_out conf now) (sym e) ∙ same

-- one item that doesn't pass, before others of which none passes
none_before : (w m rest none : Bool) → (w || rest) ≡ false → (rest ≡ false → none ≡ false) → (w && m || none) ≡ false
none_before true m rest none h f = absurd (cc)
none_before false m rest none h f = f h

-- what passes a narrower test passes the wider one
none_narrower : {X : Type 0} (wide more : X → Bool) (xs : List X) → list_any wide xs ≡ false → list_any (λ x. wide x && more x) xs ≡ false
none_narrower wide more [] h = refl
none_narrower wide more (x ∷ xs) h = none_before (wide x) (more x) (list_any wide xs) (list_any (λ y. wide y && more y) xs) h (none_narrower wide more xs)

pub all_collected : (conf : Conf) (now : ℕ) → list_any (is_out conf now) conf.maintenances ≡ false → AllCollected conf now
unfolding is_collected
all_collected conf now none = λ host. ap not (none_narrower (is_out conf now) (λ m. is_of_host conf m host) conf.maintenances none)

-- what is found of a moment holds in its whole second
pub same_second : (conf : Conf) (a b : ℕ) → a / 1000000000 ≡ b / 1000000000 → AllCollected conf a → AllCollected conf b
unfolding is_collected
same_second conf a b e all = λ host. ap (λ (s : ℕ). not (list_any (keeps_out conf host s) conf.maintenances)) (sym e) ∙ all host
