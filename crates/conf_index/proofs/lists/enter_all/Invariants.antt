use Rattle.std.proofs.Common.{◌≡◌, ◌++◌, ◌∷◌, [], ℕ, take}
use Rattle.std.specs.Prelude.{if◌then◌else◌}
use Rattle.conf_index.specs.Index.{listed, has_id}
use Rattle.conf_index.proofs.lists.enter_all.Given as goal

abbrev pub invariant-loop-place : goal.invariant-loop-place
invariant-loop-place l = (q : ℕ) → listed l.over.items q ≡ listed l.fn.over.items q ++ (if has_id q (take l.place l.items) then l.id ∷ [] else [])
