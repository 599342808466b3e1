-- Entries as they are written.
use Rattle.std.proofs.Common.{◌≡◌, ℕ, List, ◌∷◌, ◌++◌, length, ◌^◌, ◌%◌, ◌/◌, refl, ap, ◌∙◌, append_assoc, arith, subst, Result, ◌<◌, ◌+◌, [], get_or, take}
use Rattle.std.proofs.lemmas.Grind.{flat_map-append}
use Rattle.std.proofs.lemmas.List.{append-nil, take_more}
use Rattle.std.specs.Result.{OnOk}
use Rattle.zbx_types.specs.declared.entries.Entry.{Entry}
use Rattle.zbx_types.specs.declared.entries.Entry.TheVariants.{Config, Value, Tick}
use Rattle.intake_journal.specs.Bytes.{number_bytes, moment_bytes, entry_bytes, entries_bytes}

-- four bytes say nothing of what is above them
pub low_bytes : (n : ℕ) → number_bytes (n % 2 ^ 32) ≡ number_bytes n
low_bytes n =
    let a : n % 4294967296 % 256 ≡ n % 256 = omega arith in
    let b : n % 4294967296 / 256 % 256 ≡ n / 256 % 256 = omega arith in
    let c : n % 4294967296 / 65536 % 256 ≡ n / 65536 % 256 = omega arith in
    let d : n % 4294967296 / 16777216 % 256 ≡ n / 16777216 % 256 = omega arith in
    rw (a, b, c, d) refl

pub config_written : (out head text : List ℕ) (now : ℕ) → head ≡ 1 ∷ moment_bytes now ++ number_bytes (length text) → out ++ head ++ text ≡ out ++ entry_bytes (Config now text)
unfolding entry_bytes
config_written out head text now e = rw e (append_assoc out (1 ∷ moment_bytes now ++ number_bytes (length text)) text)

pub value_written : (out head value : List ℕ) (now item time : ℕ) → head ≡ 2 ∷ moment_bytes now ++ number_bytes item ++ moment_bytes time ++ number_bytes (length value)
    → out ++ head ++ value ≡ out ++ entry_bytes (Value now item time value)
unfolding entry_bytes
value_written out head value now item time e = rw e (append_assoc out (2 ∷ moment_bytes now ++ number_bytes item ++ moment_bytes time ++ number_bytes (length value)) value)

-- what was added is kept where it is the bytes of the entry
pub put_more : {T E : Type 0} (r : Result T E) (new made wanted : List ℕ) → made ≡ wanted → OnOk r (new ≡ made) → OnOk r (new ≡ wanted)
put_more r new made wanted e done = subst (λ (x : List ℕ). OnOk r (new ≡ x)) e done

-- entries up to a place, and the one there
pub written_more : (es : List Entry) (i : ℕ) (d : Entry) → i < length es → entries_bytes (take (i + 1) es) ≡ entries_bytes (take i es) ++ entry_bytes (get_or es i d)
written_more es i d lt = ap (λ (x : List Entry). entries_bytes x) (take_more es i d lt) ∙ flat_map-append entry_bytes (take i es) (get_or es i d ∷ []) ∙ ap (λ (x : List ℕ). entries_bytes (take i es) ++ x) (append-nil (entry_bytes (get_or es i d)))

pub tick_written : (now : ℕ) → 3 ∷ moment_bytes now ≡ entry_bytes (Tick now)
unfolding entry_bytes
tick_written now = refl
