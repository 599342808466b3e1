-- What a run keeps along a whole log, and what a Config behind others makes and leaves over it. `flat` tells the configuration
-- that a text stands for.
use Rattle.std.specs.Prelude.{◌≡◌, ◌≤◌, ℕ, List, [], ◌∷◌}
use Rattle.zbx_types.specs.Entries.{moment_of}
use Rattle.zbx_types.specs.declared.conf.Conf.{Conf}
use Rattle.zbx_types.specs.declared.entries.Entry.TheVariants.{Config}
use Rattle.zbx_types.specs.declared.entries.Numbered.{Numbered}
use Rattle.zbx_types.specs.declared.entries.Rec.{Rec}
use Rattle.trigger_state.specs.Stages.{Stage}
use Rattle.entry_step.specs.Log.{last_moment, IsFitting}
use Rattle.entry_step.specs.Represents.{CellsView, Represents}
use Rattle.entry_step.specs.Start.{Start}
use Rattle.entry_step.specs.Whole.{Point, out_at, point, cells_at, FitsWhole}

-- no moment of a whole log falls from that of its start on, and each of its values fits the configuration in force there
abbrev pub SuitsWhole : (List ℕ → Conf) → Start → List Numbered → Type 0
SuitsWhole flat start [] = Unit {0}
SuitsWhole flat start (e ∷ log) =
    SuitsWhole flat start log × (last_moment start log ≤ moment_of e.entry)
    × IsFitting (point flat start log).start.stage.conf e.entry

-- what a run keeps represents the cells that stand for a whole log
abbrev pub HoldsAt : Point → CellsView → Type 0
HoldsAt p held = Represents p.start.stage held (cells_at p)

-- What a Config behind others makes and leaves, where what is kept represents the cells of the whole log before it, with
-- what is in force there: its records, what is in force behind it, and what represents the cells of the log with it.
unfoldable pub CarriesOver : Stage → Conf → ℕ → ℕ → CellsView → List Rec → Stage → CellsView → Type 0
CarriesOver old conf number now held made stage next =
    (flat : List ℕ → Conf) (start : Start) (log : List Numbered) (text : List ℕ)
    → let e : Numbered = record { number = number; entry = Config now text } in
    let p : Point = point flat start log in
    FitsWhole flat start (e ∷ log) → SuitsWhole flat start log → last_moment start log ≤ now → flat text ≡ conf
    → p.start.stage ≡ old → HoldsAt p held
    → (made ≡ out_at flat p e e.entry) × (stage ≡ (point flat start (e ∷ log)).start.stage)
    × HoldsAt (point flat start (e ∷ log)) next
