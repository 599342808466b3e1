use Rattle.std.proofs.Common.{◌∙◌, ◌++◌, ◌∷◌, [], ap, map}
use Rattle.std.specs.Str.{bytes_eq}
use Rattle.std.specs.Prelude.{string_bytes}
use Rattle.indexmap.proofs.CallerLemmas.{insert_entry-new}
use Rattle.host_layout.specs.Kept.{kept_pattern}
use Rattle.host_layout.specs.Patterns.{used}
use Rattle.host_layout.proofs.KeptPatterns.{not_kept, one_kept}
use Rattle.host_layout.proofs.patterns.PatternList.add.Goals as goal

pub returns : goal.returns
returns c =
    let m = c.self.inside.paths in
    let key = c.in_ok-text.text in
    let new = not_kept m.entries key c.args.self.now c.args.text.now c.self.view_is c.in_ok-text.ensures.ok c.requires in
    ap (map kept_pattern) (c.in_ok-insert.ensures.entries ∙ insert_entry-new (λ x y. bytes_eq (string_bytes x) (string_bytes y)) m key c.args.path new)
    ∙ one_kept m.entries key c.args.path
    ∙ ap (λ ps. ps ++ used (string_bytes key) c.args.path ∷ []) c.self.view_is
    ∙ ap (λ t. c.args.self.now ++ used t c.args.path ∷ []) c.in_ok-text.ensures.ok
