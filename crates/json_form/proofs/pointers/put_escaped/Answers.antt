use Rattle.std.proofs.Common.{◌∙◌, ◌++◌, ap, sym, string_bytes}
use Rattle.std.specs.List.{flat_map}
use Rattle.std.proofs.lemmas.Iterator.{YieldsList-from_chars}
use Rattle.std.proofs.lemmas.Iterator.Consumers.{YieldsList-end}
use Rattle.std.proofs.lemmas.List.{map-id}
use Rattle.json_form.specs.Places.{escaped, escaped_char}
use Rattle.json_form.proofs.pointers.put_escaped.Goals as goal

-- all characters were put
pub returns : goal.returns
unfolding escaped
returns c =
    let all = YieldsList-end (YieldsList-from_chars c.args.name.now c.utf8.name cc) c.loop-c.yielded _ c.loop-c.yielded_by _ _ c.in-None.is c.next.ensures.steps in
    c.loop-c.invariant ∙ ap (λ cs. string_bytes c.args.pointer.now ++ flat_map escaped_char cs) (sym (map-id c.loop-c.yielded) ∙ all.0)
