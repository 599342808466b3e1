use Rattle.std.proofs.Common.{◌≡◌, ◌∙◌, sym, ap, Some, List, ℕ, IsUtf8, subst}
use Rattle.json_path.proofs.Checked.{utf8_checked, not_checked}
use Rattle.json_path.proofs.tokens.text_of.Goals as goal

pub returns-in_ok-of-in-Ok : goal.returns-in_ok-of-in-Ok
returns-in_ok-of-in-Ok c =
    let e : c.as_slice.result.now ≡ c.args.bytes.now = c.as_slice.ensures in
    let p = c.in-Ok.ensures.cases in
    ap (λ (w : List ℕ). Some w) (c.in_ok-of-in-Ok.ensures ∙ p.0 ∙ e) ∙ sym (utf8_checked c.args.bytes.now (subst (λ (w : List ℕ). IsUtf8 w) e p.1))

pub returns-in-Err : goal.returns-in-Err
returns-in-Err c =
    let e : c.as_slice.result.now ≡ c.args.bytes.now = c.as_slice.ensures in
    let p = c.in-Err.ensures.cases in
    sym (not_checked c.args.bytes.now (λ u. p.0 (subst (λ (w : List ℕ). IsUtf8 w) (sym e) u)))
