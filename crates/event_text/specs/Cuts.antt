-- Texts that are cut at a limit.
use Rattle.std.specs.Prelude.{◌≡◌, ℕ, ◌+◌, List, ◌++◌, length, Option, Some, None}
use Rattle.std.specs.Fmt.{take_chars, char_count}
use Rattle.macro_text.specs.Limited.{whole_front}
use Rattle.event_text.specs.declared.fronts.Limit.{Limit}
use Rattle.event_text.specs.declared.fronts.Limit.TheVariants.{Bytes, Characters}
use Rattle.event_text.specs.declared.fronts.Front.{Front}

-- the front of a text that a limit allows: so many bytes, cut before a character that isn't whole, or so many characters
abbrev pub cut : Limit → List ℕ → List ℕ
cut (Bytes most) text = whole_front most text
cut (Characters most) text = take_chars most text

-- so much is left of a limit behind a text
abbrev pub Leaves : Limit → Limit → List ℕ → Type 0
Leaves (Bytes most) (Bytes left) made = length made + left ≡ most
Leaves (Characters most) (Characters left) made = char_count made + left ≡ most
Leaves (Bytes most) (Characters left) made = ⊥
Leaves (Characters most) (Bytes left) made = ⊥

-- a made text is on the way to a text cut at a limit: nothing is left and it is that, or what is to come completes it
abbrev pub Arrives : Limit → Option Limit → List ℕ → List ℕ → List ℕ → Type 0
Arrives limit None made more whole = made ≡ cut limit whole
Arrives limit (Some left) made more whole = (made ++ more ≡ whole) × Leaves limit left made

-- a front is on the way to a text cut at a limit, where this is to come
abbrev pub IsOnTheWay : Limit → Front → List ℕ → List ℕ → Type 0
IsOnTheWay limit front more whole = Arrives limit front.left front.made more whole

-- of a text that is to come, this is kept where so much is left, and then so much is left, or something was cut
abbrev pub Keeps : Limit → List ℕ → List ℕ → Option Limit → Type 0
Keeps left more kept None =
    (limit : Limit) (made rest : List ℕ) → Leaves limit left made → made ++ kept ≡ cut limit (made ++ more ++ rest)
Keeps left more kept (Some after) =
    (kept ≡ more) × ((limit : Limit) (made : List ℕ) → Leaves limit left made → Leaves limit after (made ++ more))

-- a front goes on by a text
abbrev pub Adds : Front → List ℕ → Front → Type 0
Adds old more new = (limit : Limit) (behind whole : List ℕ) → IsOnTheWay limit old (more ++ behind) whole → IsOnTheWay limit new behind whole

-- a front goes on where one text is to come, to where another is
abbrev pub Goes : Front → List ℕ → Front → List ℕ → Type 0
Goes old more new rest = (limit : Limit) (whole : List ℕ) → IsOnTheWay limit old more whole → IsOnTheWay limit new rest whole
