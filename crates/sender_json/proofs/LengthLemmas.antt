-- The lengths of replies.
use Rattle.std.proofs.Common.{ℕ, ◌+◌, ◌/◌, ◌^◌, ◌<◌, ◌≤◌, length, arith, length-append}
use Rattle.std.proofs.lemmas.Fmt.{length-decimal-le, length-decimal-le_wide}
use Rattle.sender_json.specs.Replies.{reply_text}

pub length-reply_text : (p f s : ℕ) → p < 2 ^ 64 → f < 2 ^ 64 → s < 2 ^ 64 → length (reply_text p f s) ≤ 16777216
length-reply_text p f s p_fits f_fits s_fits =
    let taken = length-decimal-le 20 p (omega arith) (omega arith) (omega arith) in
    let refused = length-decimal-le 20 f (omega arith) (omega arith) (omega arith) in
    let total = length-decimal-le_wide 20 (p + f) (omega arith) (omega arith) (omega arith) in
    let seconds = length-decimal-le 20 (s / 1000000) (omega arith) (omega arith) (omega arith) in
    simp length-append (omega (arith, taken, refused, total, seconds))
