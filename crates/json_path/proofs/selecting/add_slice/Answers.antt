use Rattle.std.proofs.Common.{rules, SFits}
use Rattle.std.specs.Int.{w128}
use Rattle.std.proofs.lemmas.Int.{to_z-of_z}
use Rattle.json_path.specs.Selecting.{slice_of}
use Rattle.json_path.proofs.SelectionLemmas.{as_many}
use Rattle.json_path.proofs.selecting.add_slice.Goals as goal

pub returns : goal.returns
unfolding slice_of
returns c =
    let p : SFits w128 c.begins_at-begin.result = search rules in
    let q : SFits w128 c.ends_at-end.result = search rules in
    rw (as_many c.args.elements.now, ← c.begins_at-begin.ensures, ← c.ends_at-end.ensures) (simp to_z-of_z at c.add_between.ensures)
