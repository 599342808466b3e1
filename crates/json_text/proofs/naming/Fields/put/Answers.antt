use Rattle.std.proofs.Common.{◌≡◌, ◌∙◌, ap, refl}
use Rattle.json_text.specs.Json.{no_members, put}
use Rattle.json_text.specs.Naming.{put_all}
use Rattle.json_text.specs.Trees.{json_of}
use Rattle.json_text.proofs.Names.{named, put_all-snoc}
use Rattle.json_text.proofs.naming.Fields.put.Goals as goal

pub returns : goal.returns
returns c =
    let e : put c.args.name (json_of c.into_tree.result) (put_all no_members c.self.inside.pairs.items) ≡ put c.args.name c.args.value c.args.self = rw (c.into_tree.ensures, c.self.view_is) refl in
    ap (put_all no_members) c.in_ok-push.ensures.items ∙ put_all-snoc no_members c.self.inside.pairs.items (named c.args.name c.into_tree.result) ∙ e
