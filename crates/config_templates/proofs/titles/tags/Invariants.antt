use Rattle.std.proofs.Common.{◌≡◌, ◌++◌, drop, map}
use Rattle.config_templates.specs.Titles.{tag_of, tags_of}
use Rattle.config_templates.proofs.titles.tags.Given as goal

abbrev pub invariant-loop-written : goal.invariant-loop-written
invariant-loop-written l = l.made ++ map (tag_of l.macros) (drop l.written-index l.raw.tags) ≡ tags_of l.macros l.raw
