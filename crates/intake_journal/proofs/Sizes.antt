-- What was read is as long as what it was read from.
use Rattle.std.proofs.Common.{◌≡◌, ℕ, zero, suc, ◌+◌, ◌*◌, ◌≤◌, Bool, true, false, List, [], ◌∷◌, length, take, drop, Option, Some, None, IfSome, if◌then◌else◌, refl, sym, ap, ◌∙◌, arith, length-append, length-drop}
use Rattle.std.specs.Prelude.{nat_lt, ◌==◌}
use Rattle.std.specs.Str.{is_utf8}
use Rattle.std.proofs.lemmas.Bool.Decides.{nat_tests}
use Rattle.std.proofs.lemmas.List.{length-take-le}
use Rattle.byteorder.specs.Endian.{little_number}
use Rattle.zbx_types.specs.Limits.{longest_value}
use Rattle.zbx_types.specs.declared.entries.Entry.{Entry}
use Rattle.zbx_types.specs.declared.entries.Entry.TheVariants.{Config, Value, Tick}
use Rattle.intake_journal.specs.Bytes.{number_bytes, entry_bytes, entries_bytes}
use Rattle.intake_journal.specs.Format.{◌>>=◌, number_at, moment_at, piece_at, text_of, value_at, config_at, kind_at, entry_at, entries_of}

-- what was read first, where all of it was read
pub of_bind : {A B : Type 0} (o : Option A) (f : A → Option B) (b : B) → (o >>= f) ≡ Some b → (a : A) × (o ≡ Some a) × (f a ≡ Some b)
of_bind None f b e = absurd cc
of_bind (Some a) f b e = (a, refl, e)

of_else : {A : Type 0} (t : Bool) (o : Option A) (b : A) → (if t then None else o) ≡ Some b → (t ≡ false) × (o ≡ Some b)
of_else true o b e = absurd cc
of_else false o b e = (refl, e)

pub of_then : {A : Type 0} (t : Bool) (o : Option A) (b : A) → (if t then o else None) ≡ Some b → (t ≡ true) × (o ≡ Some b)
of_then true o b e = (refl, e)
of_then false o b e = absurd cc

pub some_is : {A : Type 0} (a b : A) → Some a ≡ Some b → a ≡ b
some_is a b e = cc

not_below : (a b : ℕ) → nat_lt a b ≡ false → b ≤ a
not_below a b e = grind (arith, nat_tests)

is_zero : (n : ℕ) → (n == 0) ≡ true → n ≡ 0
is_zero n e = grind (arith, nat_tests)

number_long : (bytes : List ℕ) (read : ℕ × List ℕ) → number_at bytes ≡ Some read → length bytes ≡ 4 + length read.1
number_long bytes read e =
    let k = of_else (nat_lt (length bytes) 4) (Some (little_number 4 bytes, drop 4 bytes)) read e in
    let rest : drop 4 bytes ≡ read.1 = ap (λ (p : ℕ × List ℕ). p.1) (some_is (little_number 4 bytes, drop 4 bytes) read k.1) in
    omega (arith, not_below (length bytes) 4 k.0, length-drop 4 bytes, ap length rest)

moment_long : (bytes : List ℕ) (read : ℕ × List ℕ) → moment_at bytes ≡ Some read → length bytes ≡ 8 + length read.1
unfolding moment_at
moment_long bytes read e =
    let made : (ℕ × List ℕ) → (ℕ × List ℕ) → Option (ℕ × List ℕ) = λ sec ns. if nat_lt ns.0 1000000000 then Some (sec.0 * 1000000000 + ns.0, ns.1) else None in
    let sec = of_bind (number_at bytes) (λ sec. number_at sec.1 >>= λ ns. made sec ns) read e in
    let ns = of_bind (number_at sec.0.1) (λ ns. made sec.0 ns) read sec.2 in
    let k = of_then (nat_lt ns.0.0 1000000000) (Some (sec.0.0 * 1000000000 + ns.0.0, ns.0.1)) read ns.2 in
    let rest : ns.0.1 ≡ read.1 = ap (λ (p : ℕ × List ℕ). p.1) (some_is _ read k.1) in
    omega (arith, number_long bytes sec.0 sec.1, number_long sec.0.1 ns.0 ns.1, ap length rest)

piece_long : (bytes : List ℕ) (read : List ℕ × List ℕ) → piece_at bytes ≡ Some read → length bytes ≡ 4 + length read.0 + length read.1
unfolding piece_at
piece_long bytes read e =
    let size = of_bind (number_at bytes) (λ size. if nat_lt (length size.1) size.0 then None else Some (take size.0 size.1, drop size.0 size.1)) read e in
    let k = of_else (nat_lt (length size.0.1) size.0.0) (Some (take size.0.0 size.0.1, drop size.0.0 size.0.1)) read size.2 in
    let enough = not_below (length size.0.1) size.0.0 k.0 in
    let same = some_is (take size.0.0 size.0.1, drop size.0.0 size.0.1) read k.1 in
    let piece : take size.0.0 size.0.1 ≡ read.0 = ap (λ (p : List ℕ × List ℕ). p.0) same in
    let rest : drop size.0.0 size.0.1 ≡ read.1 = ap (λ (p : List ℕ × List ℕ). p.1) same in
    omega (arith, number_long bytes size.0 size.1, length-take-le size.0.0 size.0.1 enough, length-drop size.0.0 size.0.1, ap length piece, ap length rest, enough)

text_same : (bytes text : List ℕ) → text_of bytes ≡ Some text → bytes ≡ text
text_same bytes text e = some_is bytes text (of_then (is_utf8 bytes) (Some bytes) text e).1

config_long : (now : ℕ) (bytes : List ℕ) (read : Entry × List ℕ) → config_at now bytes ≡ Some read → length (entry_bytes read.0) + length read.1 ≡ 9 + length bytes
unfolding config_at entry_bytes
config_long now bytes read e =
    let piece = of_bind (piece_at bytes) (λ piece. text_of piece.0 >>= λ text. Some (Config now text, piece.1)) read e in
    let text = of_bind (text_of piece.0.0) (λ text. Some (Config now text, piece.0.1)) read piece.2 in
    let same : (Config now text.0, piece.0.1) ≡ read = some_is (Config now text.0, piece.0.1) read text.2 in
    let entry = ap (λ (p : Entry × List ℕ). length (entry_bytes p.0)) same in
    let rest = ap (λ (p : Entry × List ℕ). length p.1) same in
    omega (arith, piece_long bytes piece.0 piece.1, ap length (text_same piece.0.0 text.0 text.1), entry, rest, length-append (number_bytes (length text.0)) text.0)

value_long : (now : ℕ) (bytes : List ℕ) (read : Entry × List ℕ) → value_at now bytes ≡ Some read → length (entry_bytes read.0) + length read.1 ≡ 9 + length bytes
unfolding value_at entry_bytes
value_long now bytes read e =
    let short : List ℕ → Option (List ℕ) = λ piece. if nat_lt longest_value (length piece) then None else text_of piece in
    let item = of_bind (number_at bytes) (λ item. moment_at item.1 >>= λ time. piece_at time.1 >>= λ piece. short piece.0 >>= λ value. Some (Value now item.0 time.0 value, piece.1)) read e in
    let time = of_bind (moment_at item.0.1) (λ time. piece_at time.1 >>= λ piece. short piece.0 >>= λ value. Some (Value now item.0.0 time.0 value, piece.1)) read item.2 in
    let piece = of_bind (piece_at time.0.1) (λ piece. short piece.0 >>= λ value. Some (Value now item.0.0 time.0.0 value, piece.1)) read time.2 in
    let value = of_bind (short piece.0.0) (λ value. Some (Value now item.0.0 time.0.0 value, piece.0.1)) read piece.2 in
    let text = text_same piece.0.0 value.0 (of_else (nat_lt longest_value (length piece.0.0)) (text_of piece.0.0) value.0 value.1).1 in
    let made : Entry = Value now item.0.0 time.0.0 value.0 in
    let same : (made, piece.0.1) ≡ read = some_is (made, piece.0.1) read value.2 in
    let entry = ap (λ (p : Entry × List ℕ). length (entry_bytes p.0)) same in
    let rest = ap (λ (p : Entry × List ℕ). length p.1) same in
    omega (arith, number_long bytes item.0 item.1, moment_long item.0.1 time.0 time.1, piece_long time.0.1 piece.0 piece.1, ap length text, entry, rest, length-append (number_bytes (length value.0)) value.0)

kind_long : (kind now : ℕ) (bytes : List ℕ) (read : Entry × List ℕ) → kind_at kind now bytes ≡ Some read → length (entry_bytes read.0) + length read.1 ≡ 9 + length bytes
unfolding kind_at entry_bytes
kind_long kind now bytes read e = by_kind (kind == 1) (kind == 2) (kind == 3) e
  where
    tick_long : Some (Tick now, bytes) ≡ Some read → length (entry_bytes read.0) + length read.1 ≡ 9 + length bytes
    tick_long e =
        let same : (Tick now, bytes) ≡ read = some_is (Tick now, bytes) read e in
        omega (arith, ap (λ (p : Entry × List ℕ). length (entry_bytes p.0)) same, ap (λ (p : Entry × List ℕ). length p.1) same)

    by_kind : (config value tick : Bool) → (if config then config_at now bytes else if value then value_at now bytes else if tick then Some (Tick now, bytes) else None) ≡ Some read
        → length (entry_bytes read.0) + length read.1 ≡ 9 + length bytes
    by_kind true value tick e = config_long now bytes read e
    by_kind false true tick e = value_long now bytes read e
    by_kind false false true e = tick_long e
    by_kind false false false e = absurd cc

entry_long : (bytes : List ℕ) (read : Entry × List ℕ) → entry_at bytes ≡ Some read → length (entry_bytes read.0) + length read.1 ≡ length bytes
unfolding entry_at
entry_long [] read e = absurd cc
entry_long (kind ∷ bytes) read e =
    let now = of_bind (moment_at bytes) (λ now. kind_at kind now.0 now.1) read e in
    omega (arith, moment_long bytes now.0 now.1, kind_long kind now.0.0 now.0.1 read now.2)

-- entries as bytes are as long as the bytes that they were read from
pub read_long : (n : ℕ) (bytes : List ℕ) (es : List Entry) → entries_of n bytes ≡ Some es → length (entries_bytes es) ≡ length bytes
unfolding entries_of
read_long zero bytes es e =
    let k = of_then (length bytes == 0) (Some []) es e in
    omega (arith, is_zero (length bytes) k.0, ap (λ (xs : List Entry). length (entries_bytes xs)) (some_is [] es k.1))
read_long (suc n) bytes es e =
    let first = of_bind (entry_at bytes) (λ first. entries_of n first.1 >>= λ others. Some (first.0 ∷ others)) es e in
    let others = of_bind (entries_of n first.0.1) (λ others. Some (first.0.0 ∷ others)) es first.2 in
    let same = ap (λ (xs : List Entry). length (entries_bytes xs)) (some_is (first.0.0 ∷ others.0) es others.2) in
    omega (arith, entry_long bytes first.0 first.1, read_long n first.0.1 others.0 others.1, same, length-append (entry_bytes first.0.0) (entries_bytes others.0))

pub read_size : (n size : ℕ) (bytes : List ℕ) (read : Option (List Entry)) → length bytes ≡ size → read ≡ entries_of n bytes → IfSome read (λ es. length (entries_bytes es) ≡ size)
read_size n size bytes None len e = tt
read_size n size bytes (Some es) len e = read_long n bytes es (sym e) ∙ len
