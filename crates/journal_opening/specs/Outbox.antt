-- Why an outbox isn't one of lines behind so many bytes of a base.
use Rattle.std.specs.Prelude.{◌≡◌, ◌≢◌, ◌≤◌, ◌<◌, ◌+◌, ℕ, List, length, drop, get_or, Some, IfSome}
use Rattle.outside.specs.Others.{first_other}
use Rattle.outside.specs.Tells.{SinkTells}

-- an outbox holds so many bytes, fewer than those of a base's lines, which are so many
abbrev pub IsBehind : SinkTells → ℕ → ℕ → ℕ → Type 0
IsBehind outbox before held base = (held ≡ outbox.held) × (base ≡ before) × (held < base)

-- an outbox holds so many bytes, more than as many as the base's lines and those behind them have
abbrev pub IsAhead : SinkTells → ℕ → List ℕ → ℕ → ℕ → Type 0
IsAhead outbox before lines held count =
    (held ≡ outbox.held) × (count ≡ before + length lines) × (count < held)

-- an outbox holds no more bytes than those lines have, and behind those of the base there is the first one that isn't
-- theirs; it isn't a 0, where the outbox tells its bytes
abbrev pub IsOther : SinkTells → ℕ → List ℕ → ℕ → Type 0
IsOther outbox before lines at =
    (before ≤ outbox.held) × (outbox.held ≤ before + length lines) × (before ≤ at) × (at < outbox.held)
    × IfSome outbox.bytes (λ b. (first_other before lines (drop before b) ≡ Some at) × (get_or b at 0 ≢ 0))
