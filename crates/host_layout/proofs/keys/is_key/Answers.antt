use Rattle.std.proofs.Common.{◌≡◌, ◌∙◌, ap, sym, length, arith, false}
use Rattle.std.specs.Prelude.{◌==◌, nat_le}
use Rattle.std.proofs.lemmas.Grind.{common_steps}
use Rattle.host_layout.proofs.KeyFronts.{whole_key, no_bytes}
use Rattle.host_layout.proofs.keys.is_key.Goals as goal

pub returns-then-text-ge1 : goal.returns-then-text-ge1
returns-then-text-ge1 c = ap (λ n. n == length c.args.text.now) c.key_length.ensures.value ∙ whole_key c.args.text.now (omega arith)

pub returns-else-text-ge1 : goal.returns-else-text-ge1
returns-else-text-ge1 c =
    let e : nat_le 1 (length c.args.text.now) ≡ false = grind (arith, common_steps) in
    e ∙ sym (no_bytes c.args.text.now (omega arith))
