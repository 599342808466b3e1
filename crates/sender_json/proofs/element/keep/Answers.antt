use Rattle.std.proofs.Common.{◌≡◌, Some, option_map, sym, ap, ◌∙◌, true≢false}
use Rattle.std.proofs.lemmas.Slice.Eq.{bytes_eq-Decides}
use Rattle.serde_json.specs.Data.{put}
use Rattle.serde_json.specs.Find.{get_member}
use Rattle.serde_json.proofs.Views.{get_member-put, get_member-put_other}
use Rattle.sender_json.specs.Seen.{plain}
use Rattle.sender_json.proofs.element.keep.Goals as goal

pub returns-then-eq : goal.returns-then-eq
returns-then-eq c found d held e =
    let name = c.args.name.now in
    let same : name ≡ c.args.wanted.now = (bytes_eq-Decides name c.args.wanted.now).0 (sym c.eq.ensures ∙ c.if-eq.true) in
    ap Some e ∙ sym (ap (option_map plain) (ap (λ w. get_member w (put name d found)) (sym same) ∙ get_member-put name d found))

pub returns-else-eq : goal.returns-else-eq
returns-else-eq c found d held e =
    let name = c.args.name.now in
    let other : c.args.wanted.now ≡ name → ⊥ = λ h. true≢false (sym ((bytes_eq-Decides name c.args.wanted.now).1 (sym h)) ∙ sym c.eq.ensures ∙ c.if-eq.false) in
    held ∙ sym (ap (option_map plain) (get_member-put_other c.args.wanted.now name d found other))
