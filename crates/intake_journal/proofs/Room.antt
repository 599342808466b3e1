-- What room there is in a journal.
use Rattle.std.proofs.Common.{◌≡◌, ℕ, ◌+◌, ◌-◌, ◌^◌, ◌≤◌, min, false, List, length, arith}
use Rattle.std.specs.Prelude.{nat_lt, ◌||◌}
use Rattle.std.proofs.lemmas.Bool.Decides.{nat_tests}
use Rattle.zbx_types.specs.declared.entries.Entry.{Entry}
use Rattle.intake_journal.specs.Kept.{longest_journal}
use Rattle.intake_journal.specs.Block.{opened_bytes, count_all}

below : (a b c d : ℕ) → (nat_lt a b || nat_lt c d) ≡ false → d ≤ c
below a b c d e = grind (arith, nat_tests)

pub room_within : (at entries max_entries max_bytes : ℕ) (groups : List (List Entry)) → (nat_lt max_entries (entries + count_all groups) || nat_lt max_bytes (min (at + length (opened_bytes groups) + 1) (2 ^ 64 - 1))) ≡ false
    → max_bytes ≤ longest_journal → at + length (opened_bytes groups) + 1 ≤ longest_journal
room_within at entries max_entries max_bytes groups room most =
    let less : min (at + length (opened_bytes groups) + 1) (2 ^ 64 - 1) ≤ max_bytes = below _ _ _ _ room in omega (arith, less, most)
