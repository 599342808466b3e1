-- What was written is read again.
use Rattle.std.proofs.Common.{◌≡◌, ℕ, ◌+◌, ◌*◌, ◌/◌, ◌%◌, ◌^◌, ◌<◌, ◌≤◌, true, false, ltb, List, [], ◌∷◌, ◌++◌, length, Option, Some, None, if◌then◌else◌, refl, ap, ◌∙◌, arith, length-append}
use Rattle.std.specs.Str.{IsUtf8}
use Rattle.std.specs.List.{All}
use Rattle.std.proofs.lemmas.Bool.{le-ltb, lt-ltb}
use Rattle.std.proofs.lemmas.List.{take_at, drop_at}
use Rattle.std.proofs.lemmas.List.Elements.{All-head, All-tail}
use Rattle.byteorder.specs.Endian.{little_number}
use Rattle.byteorder.specs.Numbers.{little_number-reads_back}
use Rattle.zbx_types.specs.Limits.{longest_value}
use Rattle.zbx_types.specs.declared.entries.Entry.{Entry}
use Rattle.zbx_types.specs.declared.entries.Entry.TheVariants.{Config, Value, Tick}
use Rattle.intake_journal.specs.Bytes.{number_bytes, moment_bytes, text_bytes, entry_bytes, entries_bytes, HasShortValue, IsTyped}
use Rattle.intake_journal.specs.Format.{◌>>=◌, number_at, moment_at, piece_at, text_of, value_at, config_at, kind_at, entry_at, entries_of}
use Rattle.intake_journal.proofs.Texts.{text_read}

-- a step that reads, and what is read behind it
pub bind_some : {A B : Type 0} (o : Option A) (f : A → Option B) (x : A) (r : Option B) → o ≡ Some x → f x ≡ r → (o >>= f) ≡ r
bind_some o f x r e g = ap (λ (y : Option _). y >>= f) e ∙ g

pub number_again : (n : ℕ) (rest : List ℕ) → n < 2 ^ 32 → number_at (number_bytes n ++ rest) ≡ Some (n, rest)
number_again n rest lt =
    let long : ltb (length (number_bytes n ++ rest)) 4 ≡ false = le-ltb _ _ (omega (arith, length-append (number_bytes n) rest)) in
    let back : little_number 4 (number_bytes n ++ rest) ≡ n = little_number-reads_back 4 n rest (omega arith) in
    rw (long, back) refl

pub moment_again : (m : ℕ) (rest : List ℕ) → m / 1000000000 < 2 ^ 32 → moment_at (moment_bytes m ++ rest) ≡ Some (m, rest)
unfolding moment_at
moment_again m rest lt =
    let ns = number_bytes (m % 1000000000) ++ rest in
    let below : ltb (m % 1000000000) 1000000000 ≡ true = lt-ltb _ _ (omega arith) in
    let whole : m / 1000000000 * 1000000000 + m % 1000000000 ≡ m = omega arith in
    rw (number_again (m / 1000000000) ns lt, number_again (m % 1000000000) rest (omega arith), below, whole) refl

pub piece_again : (text rest : List ℕ) → length text < 2 ^ 32 → piece_at (text_bytes text ++ rest) ≡ Some (text, rest)
unfolding piece_at
piece_again text rest lt =
    let long : ltb (length (text ++ rest)) (length text) ≡ false = le-ltb _ _ (omega (arith, length-append text rest)) in
    rw (number_again (length text) (text ++ rest) lt, long, take_at text rest (length text) refl, drop_at text rest (length text) refl) refl

config_again : (now : ℕ) (text rest : List ℕ) → now / 1000000000 < 2 ^ 32 → IsUtf8 text → length text < 2 ^ 32 → entry_at (entry_bytes (Config now text) ++ rest) ≡ Some (Config now text, rest)
unfolding entry_at kind_at config_at entry_bytes
config_again now text rest sec utf8 lt =
    bind_some (moment_at (moment_bytes now ++ (text_bytes text ++ rest))) (λ m. kind_at 1 m.0 m.1) (now, text_bytes text ++ rest) (Some (Config now text, rest)) (moment_again now (text_bytes text ++ rest) sec)
    (bind_some (piece_at (text_bytes text ++ rest)) (λ piece. text_of piece.0 >>= λ t. Some (Config now t, piece.1)) (text, rest) (Some (Config now text, rest)) (piece_again text rest lt)
    (bind_some (text_of text) (λ t. Some (Config now t, rest)) text (Some (Config now text, rest)) (text_read text utf8) refl))

value_again : (now item time : ℕ) (value rest : List ℕ) → now / 1000000000 < 2 ^ 32 → item < 2 ^ 32 → time / 1000000000 < 2 ^ 32 → IsUtf8 value → length value ≤ longest_value
    → entry_at (entry_bytes (Value now item time value) ++ rest) ≡ Some (Value now item time value, rest)
unfolding entry_at kind_at value_at entry_bytes
value_again now item time value rest sec lt sec2 utf8 le =
    let done = Some (Value now item time value, rest) in
    let behind : List ℕ = moment_bytes time ++ (text_bytes value ++ rest) in
    let short : ltb longest_value (length value) ≡ false = le-ltb _ _ le in
    let read = λ (p : List ℕ × List ℕ). (if ltb longest_value (length p.0) then None else text_of p.0) >>= λ v. Some (Value now item time v, p.1) in
    bind_some (moment_at (moment_bytes now ++ (number_bytes item ++ behind))) (λ m. kind_at 2 m.0 m.1) (now, number_bytes item ++ behind) done (moment_again now (number_bytes item ++ behind) sec)
    (bind_some (number_at (number_bytes item ++ behind)) (λ i. moment_at i.1 >>= λ t. piece_at t.1 >>= λ p. (if ltb longest_value (length p.0) then None else text_of p.0) >>= λ v. Some (Value now i.0 t.0 v, p.1)) (item, behind) done (number_again item behind lt)
    (bind_some (moment_at behind) (λ t. piece_at t.1 >>= λ p. (if ltb longest_value (length p.0) then None else text_of p.0) >>= λ v. Some (Value now item t.0 v, p.1)) (time, text_bytes value ++ rest) done (moment_again time (text_bytes value ++ rest) sec2)
    (bind_some (piece_at (text_bytes value ++ rest)) read (value, rest) done (piece_again value rest (omega arith))
    (bind_some (if ltb longest_value (length value) then None else text_of value) (λ v. Some (Value now item time v, rest)) value done (rw short (text_read value utf8)) refl))))

tick_again : (now : ℕ) (rest : List ℕ) → now / 1000000000 < 2 ^ 32 → entry_at (entry_bytes (Tick now) ++ rest) ≡ Some (Tick now, rest)
unfolding entry_at kind_at entry_bytes
tick_again now rest sec = bind_some (moment_at (moment_bytes now ++ rest)) (λ m. kind_at 3 m.0 m.1) (now, rest) (Some (Tick now, rest)) (moment_again now rest sec) refl

pub entry_again : (e : Entry) (rest : List ℕ) → IsTyped e → HasShortValue e → length (entry_bytes e) < 2 ^ 32 → entry_at (entry_bytes e ++ rest) ≡ Some (e, rest)
unfolding entry_bytes
entry_again (Config now text) rest typed short lt = config_again now text rest typed.0 typed.1 (omega arith)
entry_again (Value now item time value) rest typed short lt = value_again now item time value rest typed.0 typed.1 typed.2 typed.3 short
entry_again (Tick now) rest typed short lt = tick_again now rest typed

-- entries that were written are read again
pub read_again : (es : List Entry) → All IsTyped es → All HasShortValue es → length (entries_bytes es) < 2 ^ 32 → entries_of (length es) (entries_bytes es) ≡ Some es
unfolding entries_of
read_again [] typed short lt = refl
read_again (e ∷ es) typed short lt =
    let parts : length (entries_bytes (e ∷ es)) ≡ length (entry_bytes e) + length (entries_bytes es) = length-append (entry_bytes e) (entries_bytes es) in
    bind_some (entry_at (entries_bytes (e ∷ es))) (λ first. entries_of (length es) first.1 >>= λ others. Some (first.0 ∷ others)) (e, entries_bytes es) (Some (e ∷ es))
    (entry_again e (entries_bytes es) (All-head IsTyped e es typed) (All-head HasShortValue e es short) (omega arith))
    (bind_some (entries_of (length es) (entries_bytes es)) (λ others. Some (e ∷ others)) es (Some (e ∷ es)) (read_again es (All-tail IsTyped e es typed) (All-tail HasShortValue e es short) (omega arith)) refl)
