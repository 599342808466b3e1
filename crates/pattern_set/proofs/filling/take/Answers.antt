use Rattle.std.proofs.Common.{◌∙◌, sym}
use Rattle.pattern_set.specs.Filling.{texts_of}
use Rattle.pattern_set.proofs.FillingLemmas.{each_ok, taken, group_given, byte_given}
use Rattle.pattern_set.proofs.filling.take.Goals as goal

pub returns-then-names_in_front-clause-taken : goal.returns-then-names_in_front-clause-taken
returns-then-names_in_front-clause-taken c =
    let group = texts_of c.args.groups.now in
    let piece = c.as_bytes.result.now in
    each_ok c.put.result _ _
    (λ r put. taken group c.args.made.now.items _ c.args.output.now piece 2 c.args.limit r
    (group_given group c.args.output.now piece (sym c.if-names_in_front.ensures)
    (c.as_bytes.ensures.value ∙ c.text_of-named.ensures) c.as_bytes.ensures.utf8) put)
    c.put.ensures.taken

pub returns-else-names_in_front-clause-taken : goal.returns-else-names_in_front-clause-taken
returns-else-names_in_front-clause-taken c =
    let group = texts_of c.args.groups.now in
    each_ok c.put-else-names_in_front.result _ _
    (λ r put. taken group c.args.made.now.items _ c.args.output.now _ 1 c.args.limit r
    (byte_given group c.args.output.now c.requires.some (sym c.if-names_in_front.ensures)) put)
    c.put-else-names_in_front.ensures.taken
