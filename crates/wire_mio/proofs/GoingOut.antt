-- Bytes that go out, and those that wait behind them.
use Rattle.std.proofs.Common.{◌≡◌, ℕ, ◌+◌, ◌-◌, ◌≤◌, List, [], ◌++◌, Option, Some, None, take, drop, length, sym, ap, subst, ◌∙◌, append_assoc, take-append-drop, arith}
use Rattle.std.proofs.lemmas.List.{drop-append-le, drop-drop, length-drop}
use Rattle.std.proofs.Math.ListN.{drop_of_length-le}
use Rattle.std.specs.Io.KnownBytes.{Appends, Keeps}
use Rattle.wire_mio.specs.Pieces.{GoesOut}

-- as many went out as were written
pub out_front : (old new : Option (List ℕ)) (n : ℕ) (bytes : List ℕ) → Appends old new (take n bytes) → GoesOut old bytes new (drop n bytes)
out_front None new n bytes adds = _
out_front (Some x) None n bytes adds = adds
out_front (Some x) (Some y) n bytes adds = ap (λ l. l ++ drop n bytes) adds ∙ append_assoc x (take n bytes) (drop n bytes) ∙ ap (λ l. x ++ l) (take-append-drop n bytes)

-- none went out
pub out_kept : (old new : Option (List ℕ)) (bytes : List ℕ) → Keeps old new → GoesOut old bytes new bytes
out_kept None new bytes keeps = _
out_kept (Some x) None bytes keeps = keeps
out_kept (Some x) (Some y) bytes keeps = ap (λ l. l ++ bytes) keeps

-- others wait behind them
pub out_more : (old new : Option (List ℕ)) (waits left bytes : List ℕ) → GoesOut old waits new left → GoesOut old (waits ++ bytes) new (left ++ bytes)
out_more None new waits left bytes out = _
out_more (Some x) None waits left bytes out = out
out_more (Some x) (Some y) waits left bytes out = sym (append_assoc y left bytes) ∙ ap (λ l. l ++ bytes) out ∙ append_assoc x waits bytes

-- some went out, and then more
out_then : (old between new : Option (List ℕ)) (waits some left : List ℕ) → GoesOut old waits between some → GoesOut between some new left → GoesOut old waits new left
out_then None between new waits some left first second = _
out_then (Some x) None new waits some left first second = absurd first
out_then (Some x) (Some y) None waits some left first second = second
out_then (Some x) (Some y) (Some z) waits some left first second = second ∙ first

-- where none waits, others go out
pub out_behind_none : (old new : Option (List ℕ)) (waits bytes left : List ℕ) → waits ≡ [] → GoesOut old bytes new left → GoesOut old (waits ++ bytes) new (waits ++ left)
out_behind_none old new waits bytes left none out = subst (λ w. GoesOut old (w ++ bytes) new (w ++ left)) (sym none) out

-- all went out that waited, and then others
pub out_both : (old between new : Option (List ℕ)) (waits none bytes left : List ℕ) → GoesOut old waits between none → none ≡ [] → GoesOut between bytes new left → GoesOut old (waits ++ bytes) new (none ++ left)
out_both old between new waits none bytes left first is second = out_then old between new (waits ++ bytes) (none ++ bytes) (none ++ left) (out_more old between waits none bytes first) (out_behind_none between new none bytes left is second)

-- none is left
pub none_left : (n : ℕ) (bytes : List ℕ) → length bytes ≡ n → drop n bytes ≡ []
none_left n bytes is = drop_of_length-le bytes (omega arith)

-- those that are left, with more behind them
pub left_with : (n : ℕ) (bytes more : List ℕ) → n ≤ length bytes → drop n (bytes ++ more) ≡ drop n bytes ++ more
left_with n bytes more within = drop-append-le n bytes more within

-- how many are left
pub left_length : (n : ℕ) (bytes : List ℕ) → length (drop n bytes) ≡ length bytes - n
left_length n bytes = length-drop n bytes

-- those that are left once more have gone
pub left_behind : (n m : ℕ) (bytes : List ℕ) → drop (n + m) bytes ≡ drop m (drop n bytes)
left_behind n m bytes = grind (arith, drop-drop)
