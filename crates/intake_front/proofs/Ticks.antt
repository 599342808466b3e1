-- The last Tick of entries, one by one.
use Rattle.std.proofs.Common.{◌≡◌, ℕ, List, [], ◌∷◌, ◌++◌, Option, Some, None, refl, ◌∙◌, ap}
use Rattle.std.specs.Option.{option_or, option_map}
use Rattle.std.proofs.lemmas.List.{reverse-append}
use Rattle.zbx_types.specs.declared.entries.Numbered.{Numbered}
use Rattle.entry_step.specs.Log.{log_of, tick_of}
use Rattle.intake_front.specs.Intake.{half_minute, half_with, last_tick}

later : (o p : Option ℕ) → option_map half_minute (option_or o p) ≡ option_or (option_map half_minute o) (option_map half_minute p)
later None p = refl
later (Some x) p = refl

-- one more entry
pub last_more : (before : Option ℕ) (entries : List Numbered) (e : Numbered) → option_map half_minute (last_tick before (log_of (entries ++ e ∷ []))) ≡ half_with (option_map half_minute (last_tick before (log_of entries))) e.entry
last_more before entries e =
    ap (λ (l : List Numbered). option_map half_minute (last_tick before l)) (reverse-append entries (e ∷ []))
    ∙ later (tick_of e.entry) (last_tick before (log_of entries))
