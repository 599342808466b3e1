use Rattle.std.specs.HashMap.{get_by_text}
use Rattle.std.specs.Str.{bytes_eq}
use Rattle.host_layout.proofs.Naming.{position_more}
use Rattle.host_layout.proofs.templates.names.places_of.Goals as goal

pub loop-place-preserved : goal.loop-place-preserved
loop-place-preserved c = λ q.
    position_more (λ t. bytes_eq t.name q) c.args.templates.now c.loop-place.place c.index-templates-place.result (get_by_text c.loop-place.places q) (get_by_text c.note.new.places q) c.loop-place-test.true c.index-templates-place.is (c.loop-place.invariant q) (c.in_ok-note.ensures q)
