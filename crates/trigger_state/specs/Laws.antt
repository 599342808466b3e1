-- What the search for open problems and its upkeep record by record have in common.
use Rattle.std.specs.Prelude.{◌≡◌, ℕ, ◌&&◌, Bool, true, false, not, List, [], ◌∷◌, ◌++◌, map, filter, All}
use Rattle.std.specs.List.{list_any}
use Rattle.zbx_types.specs.Records.{event_of}
use Rattle.zbx_types.specs.declared.entries.Rec.{Rec}
use Rattle.trigger_state.specs.Problems.{opens, recovers, open_of, lands, absorbed, grown}
use Rattle.trigger_state.specs.Stages.{Stage}
use Rattle.trigger_state.specs.declared.problems.Open.{Open}

-- the search over records with some more finds what these make of what it found before
abbrev pub SearchGrows : Type 0
SearchGrows = (stage : Stage) (rs more : List Rec) (id : ℕ) → open_of stage (rs ++ more) id ≡ grown stage (open_of stage rs) more id

-- a record that doesn't land at a trigger leaves its open problems alone
abbrev pub LandsAlone : Type 0
LandsAlone = (stage : Stage) (id : ℕ) (os : List Open) (r : Rec) → lands stage r id ≡ false → absorbed stage id os r ≡ os

-- No Recovery of a trigger's problem stands before its Problem record: `earlier` are the records before these.
abbrev pub OpenFirst : (Rec → Bool) → List Rec → List Rec → Type 0
OpenFirst is_problem earlier [] = Unit {0}
OpenFirst is_problem earlier (r ∷ rs) = (is_problem r ≡ true → list_any (recovers (event_of r)) earlier ≡ false) × OpenFirst is_problem (earlier ++ r ∷ []) rs

-- the problems among records that no Recovery names at all
abbrev pub unrecovered : (Rec → Bool) → List Rec → List Rec
unrecovered is_problem rs = filter (λ r. is_problem r && not (list_any (recovers (event_of r)) rs)) rs

-- Where no problem recovers before it opens, and a test tells the Problem records of a trigger, as one of the names of its
-- host and its own does, its open problems are those of the test that no Recovery names.
abbrev pub OpenByTest : Type 0
OpenByTest = (stage : Stage) (id : ℕ) (is_problem : Rec → Bool) (rs : List Rec) → All (λ r. is_problem r ≡ opens stage id r) rs → OpenFirst is_problem [] rs
    → map (λ o. o.problem) (open_of stage rs id) ≡ unrecovered is_problem rs
