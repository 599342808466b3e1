-- What a feed keeps and answers.
use Rattle.std.specs.Prelude.{◌≡◌, ℕ, Bool, true, false, List, [], length, ◌++◌, if◌then◌else◌}
use Rattle.zbxd_frame.specs.Found.{Found, short, whole, bad, found}
use Rattle.zbxd_frame.specs.declared.feed.Fed.{Fed}
use Rattle.zbxd_frame.specs.declared.feed.Fed.TheVariants.{More, Frame, Refused}
use Rattle.zbxd_frame.specs.declared.seen.Seen.{Seen}
use Rattle.zbxd_frame.specs.declared.seen.Seen.TheVariants.{Short, Whole, Bad}

-- the answer is what was found; the rest is the number of bytes behind the frame
abbrev pub Answers : Fed → Found → Type 0
Answers More f = f ≡ short
Answers (Frame body rest) f = (behind : List ℕ) × (f ≡ whole body behind) × (length behind ≡ rest)
Answers (Refused fault) f = f ≡ bad fault

-- what was found is less than a whole frame
abbrev pub is_short : Found → Bool
is_short short = true
is_short (whole body behind) = false
is_short (bad fault) = false

-- the bytes of a feed after a piece: once they are a frame or no frame, further pieces count for nothing
abbrev pub fed_with : List ℕ → List ℕ → List ℕ
fed_with bytes piece = if is_short (found bytes) then bytes ++ piece else bytes

-- what is left of bytes of which this was found, where a whole frame is handed over
abbrev pub left_by : Found → List ℕ → List ℕ
left_by short bytes = bytes
left_by (whole body behind) bytes = []
left_by (bad fault) bytes = bytes

-- what is left of the bytes of a feed that hands a whole frame over
abbrev pub left_of : List ℕ → List ℕ
left_of bytes = left_by (found bytes) bytes

-- what was found, told by the parts of the bytes
abbrev pub found_by : Seen → Found
found_by Short = short
found_by (Whole body behind) = whole body.now behind.now
found_by (Bad fault) = bad fault
