-- The texts of replies.
use Rattle.std.specs.Prelude.{ℕ, ◌+◌, ◌/◌, ◌%◌, List, ◌++◌, codes}
use Rattle.std.specs.Fmt.{decimal}
use Rattle.zbx_types.specs.Digits.{last_six_digits}
use Rattle.sender_json.specs.declared.refused.Refusal.{Refusal}
use Rattle.sender_json.specs.declared.refused.Refusal.TheVariants.{NotJson, Unsupported}

-- microseconds, as seconds with six decimals
abbrev pub seconds_text : ℕ → List ℕ
seconds_text micros = decimal (micros / 1000000) ++ codes "." ++ last_six_digits (micros % 1000000)

-- the reply as far as its counts: how many values were processed, how many failed, and their sum
abbrev pub counts_text : ℕ → ℕ → List ℕ
counts_text processed failed =
    codes "{\"response\":\"success\",\"info\":\"processed: " ++ decimal processed ++ codes "; failed: " ++ decimal failed ++ codes "; total: " ++ decimal (processed + failed)

-- the reply to values, with the microseconds that they took
abbrev pub reply_text : ℕ → ℕ → ℕ → List ℕ
reply_text processed failed spent = counts_text processed failed ++ codes "; seconds spent: " ++ seconds_text spent ++ codes "\"}"

-- the reply to data that brings no values
abbrev pub refusal_text : Refusal → List ℕ
refusal_text NotJson = codes "{\"response\":\"failed\",\"info\":\"not JSON\"}"
refusal_text Unsupported = codes "{\"response\":\"failed\",\"info\":\"unsupported request\"}"
