-- Preprocessing steps as the code goes over them.
use Rattle.std.specs.Prelude.{ℕ, List, ◌++◌, codes}
use Rattle.std.specs.Fmt.{decimal}
use Rattle.zbx_types.specs.declared.steps.StepSpec.{StepSpec}
use Rattle.host_layout.specs.Places.{Placed}
use Rattle.host_layout.specs.Elements.{element_path}
use Rattle.host_layout.specs.declared.step_places.StepPlace.{StepPlace}

-- the pointer to a step
abbrev pub step_path : StepPlace → List ℕ
step_path s = (element_path s.source.now (codes "/items") s.item ++ codes "/steps") ++ codes "/" ++ decimal s.step

-- the pointer to a parameter of a step
abbrev pub param_path : StepPlace → ℕ → List ℕ
param_path s param = (step_path s ++ codes "/params") ++ codes "/" ++ decimal param

-- a step at its place
abbrev pub placed_step : StepPlace → StepSpec → Placed StepSpec
placed_step s raw = record { place = s.step; path = step_path s; body = raw }

-- a parameter of a step at its place
abbrev pub placed_param : StepPlace → ℕ → List ℕ → Placed (List ℕ)
placed_param s param text = record { place = param; path = param_path s param; body = text }
