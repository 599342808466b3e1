-- A plan's numbers are those that may be asked for.
use Rattle.std.proofs.Common.{◌≡◌, ◌≤◌, ℕ, Bool, true, false, List, Option, Some, None, refl, subst, arith}
use Rattle.std.specs.Prelude.{option_and_then, option_map, if◌then◌else◌, codes, nat_le, ◌&&◌, ◌^◌, ◌-◌}
use Rattle.std.proofs.lemmas.Bool.Decides.{nat_tests}
use Rattle.clap.specs.Words.{Row, matches_of, first_of, one_of}
use Rattle.server_words.specs.Words.{most_syncers, most_turns, most_entries, most_attempts, most_sessions, most_values, server_app, mode_of, number_of, within, number_in, has_needed, is_mode_of, numbers_in, plan_with, plan_in, is_taken, plan_for, IsWithin}
use Rattle.server_words.specs.declared.planning.Numbers.{Numbers}
use Rattle.server_words.specs.declared.words.Call.{Call}
use Rattle.server_words.specs.declared.words.Mode.{Mode}
use Rattle.server_words.specs.declared.words.Plan.{Plan}

and_then_some : {A B : Type 0} (f : A → Option B) (o : Option A) (b : B) → option_and_then f o ≡ Some b → (a : A) × (o ≡ Some a) × (f a ≡ Some b)
and_then_some f None b is = absurd (cc)
and_then_some f (Some a) b is = (a, refl, is)

map_some : {A B : Type 0} (f : A → B) (o : Option A) (b : B) → option_map f o ≡ Some b → (a : A) × (o ≡ Some a) × (f a ≡ b)
map_some f None b is = absurd (cc)
map_some f (Some a) b is = (a, refl, cc)

-- a number from the least to the most
is_within : (least most n m : ℕ) → within least most n ≡ Some m → (least ≤ m) × (m ≤ most)
is_within least most n m is = by (nat_le least n) (nat_le n most) refl refl is
  where
    by : (low high : Bool) → nat_le least n ≡ low → nat_le n most ≡ high → (if low && high then Some n else None) ≡ Some m → (least ≤ m) × (m ≤ most)
    by true true low high e =
        let same : n ≡ m = cc in
        (subst (λ k. least ≤ k) same (grind (arith, nat_tests)), subst (λ k. k ≤ most) same (grind (arith, nat_tests)))
    by true false low high e = absurd (cc)
    by false high low' high' e = absurd (cc)

number_within : (bits least most : ℕ) (name : List ℕ) (rows : List Row) (n : ℕ) → number_in bits least most name rows ≡ Some n → (least ≤ n) × (n ≤ most)
number_within bits least most name rows n is =
    let read = and_then_some (within least most) (option_and_then (number_of bits) (one_of name rows)) n is in
    is_within least most read.0 n read.2

-- the numbers of the options
record AreWithin (n : Numbers) : Type 0 where
  syncers : n.syncers ≤ most_syncers
  turns : (1 ≤ n.turns) × (n.turns ≤ most_turns)
  entries : (1 ≤ n.max_entries) × (n.max_entries ≤ most_entries)
  attempts : (1 ≤ n.attempts) × (n.attempts ≤ most_attempts)
  sessions : (1 ≤ n.sessions) × (n.sessions ≤ most_sessions)
  values : (1 ≤ n.values) × (n.values ≤ most_values)

numbers_within : (rows : List Row) (n : Numbers) → numbers_in rows ≡ Some n → AreWithin n
numbers_within rows n is =
    let syncers = and_then_some _ (number_in 32 0 most_syncers (codes "syncers") rows) n is in
    let turns = and_then_some _ (number_in 64 1 most_turns (codes "turns") rows) n syncers.2 in
    let entries = and_then_some _ (number_in 64 1 most_entries (codes "max-entries") rows) n turns.2 in
    let number = and_then_some _ (number_in 64 0 (2 ^ 64 - 1) (codes "number") rows) n entries.2 in
    let attempts = and_then_some _ (number_in 32 1 most_attempts (codes "attempts") rows) n number.2 in
    let sessions = and_then_some _ (number_in 32 1 most_sessions (codes "sessions") rows) n attempts.2 in
    let values = map_some _ (number_in 64 1 most_values (codes "values") rows) n sessions.2 in
    subst AreWithin values.2 (record {
      syncers = (number_within 32 0 most_syncers (codes "syncers") rows syncers.0 syncers.1).1;
      turns = number_within 64 1 most_turns (codes "turns") rows turns.0 turns.1;
      entries = number_within 64 1 most_entries (codes "max-entries") rows entries.0 entries.1;
      attempts = number_within 32 1 most_attempts (codes "attempts") rows attempts.0 attempts.1;
      sessions = number_within 32 1 most_sessions (codes "sessions") rows sessions.0 sessions.1;
      values = number_within 64 1 most_values (codes "values") rows values.0 values.1;
    })

in_within : (call : Call) (rows : List Row) (plan : Plan) → plan_in call rows ≡ Some plan → IsWithin plan
in_within call rows plan is =
    let mode = and_then_some _ (option_and_then mode_of (first_of (codes "mode") rows)) plan is in
    by mode.0 (is_mode_of call mode.0 && has_needed mode.0 rows) mode.2
  where
    by : (mode : Mode) (needed : Bool) → (if needed then option_map (plan_with rows mode) (numbers_in rows) else None) ≡ Some plan → IsWithin plan
    by mode true e =
        let numbers = map_some (plan_with rows mode) (numbers_in rows) plan e in
        let n = numbers_within rows numbers.0 numbers.1 in
        subst IsWithin numbers.2 (record { syncers = n.syncers; turns = n.turns; entries = n.entries; attempts = n.attempts; sessions = n.sessions; values = n.values })
    by mode false e = absurd (cc)

-- of each plan of words
pub plan_within : (call : Call) (words : List (List ℕ)) (plan : Plan) → plan_for call words ≡ Some plan → IsWithin plan
unfolding plan_for
plan_within call words plan is = by (is_taken words) is
  where
    by : (taken : Bool) → (if taken then plan_in call (matches_of server_app words) else None) ≡ Some plan → IsWithin plan
    by true e = in_within call (matches_of server_app words) plan e
    by false e = absurd (cc)
