use Rattle.std.proofs.Common.{◌≡◌, ◌∙◌, ap, ◌-◌, length, sym, not, reverse, Bool, true, false, refl}
use Rattle.std.specs.Bool.{OnTrue}
use Rattle.std.specs.Prelude.{slice_get}
use Rattle.std.specs.Option.{option_map}
use Rattle.value_cache.specs.Tokens.{values_of}
use Rattle.value_cache.proofs.Lists.{last_first}
use Rattle.value_cache.proofs.Orders.{none_later}
use Rattle.value_cache.proofs.Shown.{value_got, values_length}
use Rattle.value_cache.proofs.placing.is_last.Goals as goal

when_not : (b : Bool) (P : Type 0) → (b ≡ false → P) → OnTrue (not b) P
when_not true P f = tt
when_not false P f = f refl

pub returns-in-Some : goal.returns-in-Some
returns-in-Some c = when_not c.is_later.result _ (λ e.
    let ts = c.args.tokens.now in
    none_later c.args.token.now.value (reverse (values_of ts)) c.in-Some.last.now.value c.requires
    (sym (last_first (values_of ts)) ∙ ap (λ n. slice_get (values_of ts) (n - 1)) (values_length ts) ∙ value_got ts (length ts - 1) ∙ ap (option_map (λ t. t.value)) (sym c.in-Some.ensures.value)) (sym c.is_later.ensures ∙ e))
