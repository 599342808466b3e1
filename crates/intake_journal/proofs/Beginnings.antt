-- What a file begins with, from the parts that were read.
use Rattle.std.proofs.Common.{◌≡◌, ◌≢◌, ℕ, ◌+◌, ◌-◌, ◌<◌, ◌≤◌, Bool, true, false, List, [], ◌∷◌, ◌++◌, length, take, drop, get_or, Option, Some, None, IfSome, if◌then◌else◌, refl, sym, ap, subst, ◌∙◌, arith, length-drop, length-append, length-take, inl, inr, ◌⊎◌}
use Rattle.std.specs.Prelude.{nat_le, nat_lt, slice_index, ◌==◌, ◌&&◌}
use Rattle.std.proofs.lemmas.Bool.{cases_eq}
use Rattle.std.proofs.lemmas.Bool.Decides.{nat_tests}
use Rattle.std.proofs.lemmas.List.{take_at, drop-drop, drop-take, get_or-take, length-take-le}
use Rattle.byteorder.specs.Endian.{little_number, little_from}
use Rattle.byteorder.specs.Numbers.{little_from-take}
use Rattle.gated_file.specs.Opened.{begins}
use Rattle.gated_file.proofs.Moments.{if_some, told_of}
use Rattle.gated_file.proofs.Openings.{begins_front, front_same}
use Rattle.outside.specs.Disk.{DiskTells, Only}
use Rattle.zbx_types.specs.Bases.{empty_base}
use Rattle.zbx_types.specs.declared.base.Base.{Base}
use Rattle.intake_journal.specs.BaseForm.{base_read}
use Rattle.intake_journal.specs.Begun.{IsMagic, IsBaseHead}
use Rattle.intake_journal.specs.declared.opening.BaseHead.TheVariants.{Shut, Cut, Open}
use Rattle.intake_journal.specs.declared.opening.Magic.{Magic}
use Rattle.intake_journal.specs.declared.opening.Magic.TheVariants as magic_read
use Rattle.intake_journal.specs.Format.{◌>>=◌, number_at}
use Rattle.intake_journal.specs.Kept.{magic, based_magic, longest_journal, base_behind, behind_gate, beginning_of, base_at}
use Rattle.intake_journal.specs.Opened.{IsOpened}
use Rattle.intake_journal.specs.Settled.{IsFront}
use Rattle.intake_journal.specs.declared.format.Beginning.{Beginning}
use Rattle.intake_journal.specs.declared.format.Beginning.TheVariants as beginning
use Rattle.intake_journal.proofs.Behind.{number_there, number_lacks, drop_same, number_same}
use Rattle.intake_journal.proofs.Fronts.{beginning_plain, front_bare, front_none}
use Rattle.intake_journal.proofs.Openings.{begun_left}
use Rattle.intake_journal.proofs.Sizes.{of_bind, of_then, some_is}

-- ---- the base behind its gate

-- a size fits where the next gate lies within so many bytes and the longest journal
abbrev size_fits : ℕ → ℕ → Bool
size_fits size left = nat_lt size left && nat_le (size + 14) longest_journal

abbrev sized : ℕ → Option Base → Option (ℕ × Base)
sized size read = read >>= λ base. Some (size, base)

-- where the size is there
body_is : (bytes : List ℕ) → 4 ≤ length bytes
    → base_behind bytes ≡ sized (little_number 4 bytes) (if size_fits (little_number 4 bytes) (length bytes - 4) then base_read (take (little_number 4 bytes) (drop 4 bytes)) else None)
unfolding base_behind
body_is bytes le = let left : length (drop 4 bytes) ≡ length bytes - 4 = length-drop 4 bytes in rw (number_there bytes le, left) refl

pub body_lacks : (bytes : List ℕ) → length bytes < 4 → base_behind bytes ≡ None
unfolding base_behind
body_lacks bytes lt = rw (number_lacks bytes lt) refl

pub body_unfit : (bytes : List ℕ) (size : ℕ) → 4 ≤ length bytes → little_number 4 bytes ≡ size → size_fits size (length bytes - 4) ≡ false → base_behind bytes ≡ None
body_unfit bytes size le is unfit = body_is bytes le ∙ rw (is, unfit) refl

pub body_read : (bytes : List ℕ) (size : ℕ) (read : Option Base) → 4 ≤ length bytes → little_number 4 bytes ≡ size → size_fits size (length bytes - 4) ≡ true → base_read (take size (drop 4 bytes)) ≡ read → base_behind bytes ≡ sized size read
body_read bytes size read le is fit reads = body_is bytes le ∙ rw (is, fit, reads) refl

fits_true : (size left : ℕ) → size < left → size + 14 ≤ longest_journal → size_fits size left ≡ true
fits_true size left inside within = grind (arith, nat_tests)

fits_parts : (size left : ℕ) → size_fits size left ≡ true → (size < left) × (size + 14 ≤ longest_journal)
fits_parts size left e = grind (arith, nat_tests)

-- bytes that begin with a base within a size
pub record HasBody (bytes : List ℕ) (size : ℕ) (base : Base) : Type 0 where
  pub size_is : little_number 4 bytes ≡ size
  pub inside : size + 4 < length bytes
  pub within : size + 14 ≤ longest_journal
  pub base_is : base_read (take size (drop 4 bytes)) ≡ Some base

body_there : (bytes : List ℕ) (size : ℕ) (base : Base) → HasBody bytes size base → base_behind bytes ≡ Some (size, base)
body_there bytes size base has =
    body_read bytes size (Some base) (omega (arith, has.inside)) has.size_is (fits_true size (length bytes - 4) (omega (arith, has.inside)) has.within) has.base_is

four_there : (bytes : List ℕ) (read : ℕ × List ℕ) → number_at bytes ≡ Some read → 4 ≤ length bytes
four_there bytes read e = by_test (nat_lt (length bytes) 4) refl e
  where
    by_test : (b : Bool) → nat_lt (length bytes) 4 ≡ b → (if b then None else Some (little_number 4 bytes, drop 4 bytes)) ≡ Some read → 4 ≤ length bytes
    by_test true is e = absurd cc
    by_test false is e = grind (arith, nat_tests)

-- and the other way round
body_parts : (bytes : List ℕ) (size : ℕ) (base : Base) → base_behind bytes ≡ Some (size, base) → HasBody bytes size base
unfolding base_behind
body_parts bytes size base e =
    let number = of_bind (number_at bytes) (λ size. (if nat_lt size.0 (length size.1) && nat_le (size.0 + 14) longest_journal then base_read (take size.0 size.1) else None) >>= λ base. Some (size.0, base)) (size, base) e in
    let four = four_there bytes number.0 number.1 in
    let told : (little_number 4 bytes, drop 4 bytes) ≡ number.0 = some_is (little_number 4 bytes, drop 4 bytes) number.0 (sym (number_there bytes four) ∙ number.1) in
    let rest : drop 4 bytes ≡ number.0.1 = ap (λ (p : ℕ × List ℕ). p.1) told in
    let read = of_bind (if size_fits number.0.0 (length number.0.1) then base_read (take number.0.0 number.0.1) else None) (λ base. Some (number.0.0, base)) (size, base) number.2 in
    let pair : (number.0.0, read.0) ≡ (size, base) = some_is (number.0.0, read.0) (size, base) read.2 in
    let size_is : number.0.0 ≡ size = ap (λ (p : ℕ × Base). p.0) pair in
    let base_is : read.0 ≡ base = ap (λ (p : ℕ × Base). p.1) pair in
    let k = of_then (size_fits number.0.0 (length number.0.1)) (base_read (take number.0.0 number.0.1)) read.0 read.1 in
    let fit = fits_parts number.0.0 (length number.0.1) k.0 in
    record {
      size_is = ap (λ (p : ℕ × List ℕ). p.0) told ∙ size_is;
      inside = omega (arith, fit.0, size_is, ap length rest, length-drop 4 bytes, four);
      within = omega (arith, fit.1, size_is);
      base_is = ap (λ (n : ℕ). base_read (take n (drop 4 bytes))) (sym size_is) ∙ ap (λ (l : List ℕ). base_read (take number.0.0 l)) rest ∙ k.1 ∙ ap (λ (b : Base). Some b) base_is;
    }

-- other bytes with the same front
body_same : (bytes other : List ℕ) (size : ℕ) (base : Base) → HasBody bytes size base → take (size + 4) other ≡ take (size + 4) bytes → size + 4 < length other → HasBody other size base
body_same bytes other size base has same inside = record {
  size_is = number_same (size + 4) other bytes (omega arith) same ∙ has.size_is;
  inside = inside;
  within = has.within;
  base_is = ap (λ (l : List ℕ). base_read l) (drop_same 4 size (size + 4) other bytes (omega arith) same) ∙ has.base_is;
}

-- ---- the whole beginning

more_than : (file : List ℕ) → 9 < length file → nat_le (length file) 9 ≡ false
more_than file long = grind (arith, nat_tests)

pub beginning_other : (file : List ℕ) → 9 < length file → begins magic file ≡ false → begins based_magic file ≡ false → beginning_of file ≡ beginning.NotOurs
unfolding beginning_of
beginning_other file long plain based = rw (more_than file long, plain, based) refl

pub beginning_based : (file : List ℕ) → 9 < length file → begins magic file ≡ false → begins based_magic file ≡ true → beginning_of file ≡ behind_gate (slice_index file 8 == 1) (base_behind (drop 9 file))
unfolding beginning_of
beginning_based file long plain based = rw (more_than file long, plain, based) refl

-- where the gate isn't open
pub beginning_shut : (file : List ℕ) → 9 < length file → begins magic file ≡ false → begins based_magic file ≡ true → slice_index file 8 ≢ 1 → beginning_of file ≡ beginning.Unfinished
beginning_shut file long plain based shut =
    let test : (slice_index file 8 == 1) ≡ false = grind (arith, nat_tests) in
    beginning_based file long plain based ∙ ap (λ (b : Bool). behind_gate b (base_behind (drop 9 file))) test

-- where it is
pub beginning_open : (file : List ℕ) (read : Option (ℕ × Base)) → 9 < length file → begins magic file ≡ false → begins based_magic file ≡ true → slice_index file 8 ≡ 1 → base_behind (drop 9 file) ≡ read
    → beginning_of file ≡ behind_gate true read
beginning_open file read long plain based open' reads =
    let test : (slice_index file 8 == 1) ≡ true = grind (arith, nat_tests) in
    beginning_based file long plain based ∙ ap (λ (b : Bool). behind_gate b (base_behind (drop 9 file))) test ∙ ap (λ (o : Option (ℕ × Base)). behind_gate true o) reads

-- a journal with a base of this size, whose gate is open
pub record IsBased (file : List ℕ) (size : ℕ) (base : Base) : Type 0 where
  pub plain : begins magic file ≡ false
  pub based : begins based_magic file ≡ true
  pub gate : slice_index file 8 ≡ 1
  pub body : HasBody (drop 9 file) size base

abbrev pub first_in : Beginning → ℕ
first_in (beginning.Begun first base) = first
first_in beginning.NotOurs = 0
first_in beginning.Unfinished = 0
first_in beginning.Damaged = 0

-- a journal without a base, or one with a base before its first gate
abbrev Kinds : List ℕ → ℕ → Base → Type 0
Kinds file first base = ((begins magic file ≡ true) × (8 ≡ first)) ⊎ ((size : ℕ) × IsBased file size base × (size + 13 ≡ first))

module _ (file : List ℕ) (first : ℕ) (base : Base) (long : 9 < length file) (begun : beginning_of file ≡ beginning.Begun first base) where
  by_read : (read : Option (ℕ × Base)) → begins magic file ≡ false → begins based_magic file ≡ true → slice_index file 8 ≡ 1 → base_behind (drop 9 file) ≡ read → Kinds file first base
  by_read None plain based gate reads = absurd (cc (sym (beginning_open file None long plain based gate reads) ∙ begun))
  by_read (Some read) plain based gate reads =
      let same : beginning.Begun (read.0 + 13) read.1 ≡ beginning.Begun first base = sym (beginning_open file (Some read) long plain based gate reads) ∙ begun in
      let body = body_parts (drop 9 file) read.0 base (reads ∙ ap (λ (b : Base). Some (read.0, b)) (ap base_at same)) in
      inr (read.0, record { plain = plain; based = based; gate = gate; body = body }, ap first_in same)

  by_gate : begins magic file ≡ false → begins based_magic file ≡ true → Kinds file first base
  by_gate plain based = elim (cases_eq (slice_index file 8) 1) [
    | inl gate ↦ by_read (base_behind (drop 9 file)) plain based gate refl
    | inr shut ↦ absurd (cc (sym (beginning_shut file long plain based shut) ∙ begun))
  ]

  by_magic : (plain based : Bool) → begins magic file ≡ plain → begins based_magic file ≡ based → Kinds file first base
  by_magic true based e f = inl (e, ap first_in (sym (beginning_plain file e) ∙ begun))
  by_magic false true e f = by_gate e f
  by_magic false false e f = absurd (cc (sym (beginning_other file long e f) ∙ begun))

  kinds : Kinds file first base
  kinds = by_magic (begins magic file) (begins based_magic file) refl refl

-- what stands before the first gate of a journal with a base says how it begins
module _ (file : List ℕ) (size : ℕ) (base : Base) (is : IsBased file size base) where
  inside : size + 13 < length file
  inside = omega (arith, is.body.inside, length-drop 9 file)

  abbrev front : List ℕ
  front = take (size + 13) file

  front_length : length front ≡ size + 13
  front_length = length-take-le (size + 13) file (omega (arith, inside))

  begun_other : (gate : ℕ) (rest : List ℕ) → beginning_of (front ++ gate ∷ rest) ≡ beginning.Begun (size + 13) base
  begun_other gate rest =
      let other : List ℕ = front ++ gate ∷ rest in
      let first = size + 13 in
      let same : take first other ≡ take first file = take_at front (gate ∷ rest) first front_length in
      let long : first < length other = omega (arith, front_length, length-append front (gate ∷ rest)) in
      let plain : begins magic other ≡ false = sym (begins_front magic other first (omega arith)) ∙ ap (λ (l : List ℕ). begins magic l) same ∙ begins_front magic file first (omega arith) ∙ is.plain in
      let based : begins based_magic other ≡ true = sym (begins_front based_magic other first (omega arith)) ∙ ap (λ (l : List ℕ). begins based_magic l) same ∙ begins_front based_magic file first (omega arith) ∙ is.based in
      let gate_is : slice_index other 8 ≡ 1 = sym (get_or-take first other 8 0 (omega arith)) ∙ ap (λ (l : List ℕ). get_or l 8 0) same ∙ get_or-take first file 8 0 (omega arith) ∙ is.gate in
      let body = body_same (drop 9 file) (drop 9 other) size base is.body (drop_same 9 (size + 4) first other file (omega arith) same) (omega (arith, long, length-drop 9 other)) in
      beginning_open other (Some (size, base)) (omega (arith, long)) plain based gate_is (body_there (drop 9 other) size base body)

  pub based_front : IsFront (size + 13) [] front
  based_front = front_bare (size + 13) base front (omega arith) front_length begun_other

-- a file that begins as a journal does, opened as it is
pub long_opened : (disk : DiskTells) (b : List ℕ) (first : ℕ) (base : Base) → 9 < length b → beginning_of b ≡ beginning.Begun first base → Only b disk → IsOpened disk first b b
long_opened disk b first base long begun only = record {
  front = parts.0;
  gate = parts.1;
  durable = only;
  left = begun_left b first base long begun;
  same_base = refl;
}
  where
    of_kind : Kinds b first base → IsFront first [] (take first b) × (first < length b)
    of_kind (inl plain) =
        let ours : take 8 b ≡ magic = front_same magic b (omega (arith, long)) plain.0 in
        subst (λ (n : ℕ). IsFront n [] (take n b) × (n < length b)) plain.1 (subst (λ (l : List ℕ). IsFront 8 [] l) (sym ours) front_none, omega (arith, long))
    of_kind (inr based) = subst (λ (n : ℕ). IsFront n [] (take n b) × (n < length b)) based.2 (based_front b based.0 base based.1, inside b based.0 base based.1)

    parts : IsFront first [] (take first b) × (first < length b)
    parts = of_kind (kinds b first base long begun)

-- ---- by what was read

-- where the bytes end before a size
pub beginning_cut : (file : List ℕ) → 9 < length file → begins magic file ≡ false → begins based_magic file ≡ true → slice_index file 8 ≡ 1 → length file < 13 → beginning_of file ≡ beginning.Damaged
beginning_cut file long plain based gate short = beginning_open file None long plain based gate (body_lacks (drop 9 file) (omega (arith, short, length-drop 9 file)))

unfit : (size left : ℕ) → left ≤ size ⊎ (longest_journal < size + 14) → size_fits size left ≡ false
unfit size left (inl less) = grind (arith, nat_tests)
unfit size left (inr more) = rw_unfit (nat_lt size left) (nat_le (size + 14) longest_journal) (grind (arith, nat_tests))
  where
    rw_unfit : (a b : Bool) → b ≡ false → (a && b) ≡ false
    rw_unfit true b e = e
    rw_unfit false b e = refl

-- where no gate stands behind the base within the file and the longest journal
pub beginning_large : (file : List ℕ) (size : ℕ) → 13 ≤ length file → begins magic file ≡ false → begins based_magic file ≡ true → slice_index file 8 ≡ 1 → little_number 4 (drop 9 file) ≡ size
    → (length file < size + 14) ⊎ (longest_journal < size + 14) → beginning_of file ≡ beginning.Damaged
beginning_large file size long plain based gate is large =
    let less : (length (drop 9 file) - 4 ≤ size) ⊎ (longest_journal < size + 14) = elim large [ inl short ↦ inl (omega (arith, short, length-drop 9 file)) | inr more ↦ inr more ] in
    beginning_open file None (omega (arith, long)) plain based gate (body_unfit (drop 9 file) size (omega (arith, long, length-drop 9 file)) is (unfit size (length (drop 9 file) - 4) less))

-- where the base was read
pub beginning_read : (file : List ℕ) (size : ℕ) (read : Option Base) → size + 14 ≤ length file → size + 14 ≤ longest_journal → begins magic file ≡ false → begins based_magic file ≡ true → slice_index file 8 ≡ 1
    → little_number 4 (drop 9 file) ≡ size → base_read (take size (drop 13 file)) ≡ read → beginning_of file ≡ behind_gate true (sized size read)
beginning_read file size read long within plain based gate is reads =
    let there : base_read (take size (drop 4 (drop 9 file))) ≡ read = ap (λ (l : List ℕ). base_read (take size l)) (drop-drop 4 9 file) ∙ reads in
    beginning_open file (sized size read) (omega (arith, long)) plain based gate
    (body_read (drop 9 file) size read (omega (arith, long, length-drop 9 file)) is (fits_true size (length (drop 9 file) - 4) (omega (arith, long, length-drop 9 file)) within) there)

-- ---- the magic, by the first eight bytes

pub magic_front : (it : Magic) (file read : List ℕ) → read ≡ take 8 file → IsMagic it read → IsMagic it file
magic_front it file read is magic_is = of_it it (subst (λ (l : List ℕ). IsMagic it l) is magic_is)
  where
    of_it : (it : Magic) → IsMagic it (take 8 file) → IsMagic it file
    of_it magic_read.Plain e = sym (begins_front magic file 8 (omega arith)) ∙ e
    of_it magic_read.Based e = (sym (begins_front magic file 8 (omega arith)) ∙ e.0, sym (begins_front based_magic file 8 (omega arith)) ∙ e.1)
    of_it magic_read.Other e = (sym (begins_front magic file 8 (omega arith)) ∙ e.0, sym (begins_front based_magic file 8 (omega arith)) ∙ e.1)

-- ---- the gate and the size, by the first 13

gate_front : (file : List ℕ) → slice_index (take 13 file) 8 ≡ slice_index file 8
gate_front file = get_or-take 13 file 8 0 (omega arith)

pub shut_front : (file : List ℕ) → 9 < length file → IsMagic magic_read.Based file → IsBaseHead Shut (take 13 file) → beginning.Unfinished ≡ beginning_of file
shut_front file long is shut = sym (beginning_shut file long is.0 is.1 (λ open'. shut (gate_front file ∙ open')))

pub cut_front : (file : List ℕ) → 9 < length file → IsMagic magic_read.Based file → IsBaseHead Cut (take 13 file) → beginning.Damaged ≡ beginning_of file
cut_front file long is cut = sym (beginning_cut file long is.0 is.1 (sym (gate_front file) ∙ cut.0) (omega (arith, cut.1, length-take 13 file)))

size_front : (file : List ℕ) (size : ℕ) → IsBaseHead (Open size) (take 13 file) → (slice_index file 8 ≡ 1) × (13 ≤ length file) × (little_number 4 (drop 9 file) ≡ size)
size_front file size is =
    let bytes : drop 9 (take 13 file) ≡ take 4 (drop 9 file) = drop-take 9 4 file in
    (sym (gate_front file) ∙ is.0, omega (arith, is.1, length-take 13 file), sym (little_from-take 0 4 4 (drop 9 file) (omega arith)) ∙ ap (λ (l : List ℕ). little_from 0 4 l) (sym bytes) ∙ sym is.2)

pub large_front : (file : List ℕ) (size : ℕ) → IsMagic magic_read.Based file → IsBaseHead (Open size) (take 13 file) → (length file < size + 14) ⊎ (longest_journal < size + 14) → beginning.Damaged ≡ beginning_of file
large_front file size is head large = let h = size_front file size head in sym (beginning_large file size h.1 is.0 is.1 h.0 h.2 large)

pub read_front : (file : List ℕ) (size : ℕ) (read : Option Base) → size + 14 ≤ length file → size + 14 ≤ longest_journal → IsMagic magic_read.Based file → IsBaseHead (Open size) (take 13 file)
    → read ≡ base_read (take size (drop 13 file)) → behind_gate true (sized size read) ≡ beginning_of file
read_front file size read long within is head reads = let h = size_front file size head in sym (beginning_read file size read long within is.0 is.1 h.0 h.2 (sym reads))

-- ---- the same, where a disk tells

module _ (file : Option (List ℕ)) (long size : ℕ) where
  pub unfit_told : (long < size + 14) ⊎ (longest_journal < size + 14) → IfSome file (λ b. long ≡ length b → IsBaseHead (Open size) (take 13 b) → IsMagic magic_read.Based b → beginning.Damaged ≡ beginning_of b)
  unfit_told large = if_some file _ (λ b is same head magic. large_front b size magic head (subst (λ (n : ℕ). (n < size + 14) ⊎ (longest_journal < size + 14)) same large))

  pub read_told : (bytes : List ℕ) (read : Option Base) → size + 14 ≤ long → size + 14 ≤ longest_journal → IfSome file (λ b. bytes ≡ take size (drop 13 b)) → read ≡ base_read bytes
      → IfSome file (λ b. long ≡ length b → IsBaseHead (Open size) (take 13 b) → IsMagic magic_read.Based b → behind_gate true (sized size read) ≡ beginning_of b)
  read_told bytes read enough within told reads = if_some file _ (λ b is same head magic.
      read_front b size read (omega (arith, same, enough)) within magic head (reads ∙ ap (λ (l : List ℕ). base_read l) (told_of file b (λ f. bytes ≡ take size (drop 13 f)) is told)))

module _ (file : Option (List ℕ)) (long : ℕ) where
  pub shut_told : (head : List ℕ) → IfSome file (λ b. head ≡ take 13 b) → IsBaseHead Shut head → IfSome file (λ b. 9 < long → long ≡ length b → IsMagic magic_read.Based b → beginning.Unfinished ≡ beginning_of b)
  shut_told head read shut = if_some file _ (λ b is more same magic.
      shut_front b (omega (arith, more, same)) magic (subst (λ (l : List ℕ). IsBaseHead Shut l) (told_of file b (λ f. head ≡ take 13 f) is read) shut))

  pub cut_told : (head : List ℕ) → IfSome file (λ b. head ≡ take 13 b) → IsBaseHead Cut head → IfSome file (λ b. 9 < long → long ≡ length b → IsMagic magic_read.Based b → beginning.Damaged ≡ beginning_of b)
  cut_told head read cut = if_some file _ (λ b is more same magic.
      cut_front b (omega (arith, more, same)) magic (subst (λ (l : List ℕ). IsBaseHead Cut l) (told_of file b (λ f. head ≡ take 13 f) is read) cut))

  pub open_told : (head : List ℕ) (size : ℕ) (it : Beginning) → IfSome file (λ b. head ≡ take 13 b) → IsBaseHead (Open size) head
      → IfSome file (λ b. long ≡ length b → IsBaseHead (Open size) (take 13 b) → IsMagic magic_read.Based b → it ≡ beginning_of b) → IfSome file (λ b. 9 < long → long ≡ length b → IsMagic magic_read.Based b → it ≡ beginning_of b)
  open_told head size it read opened told = if_some file _ (λ b is more same magic.
      told_of file b (λ f. long ≡ length f → IsBaseHead (Open size) (take 13 f) → IsMagic magic_read.Based f → it ≡ beginning_of f) is told same (subst (λ (l : List ℕ). IsBaseHead (Open size) l) (told_of file b (λ f. head ≡ take 13 f) is read) opened) magic)

  pub plain_told : (base : Base) → base ≡ empty_base → IfSome file (λ b. IsMagic magic_read.Plain b) → IfSome file (λ b. long ≡ length b → beginning.Begun 8 base ≡ beginning_of b)
  plain_told base empty magic = if_some file _ (λ b is same. ap (λ (e : Base). beginning.Begun 8 e) empty ∙ sym (beginning_plain b (told_of file b (λ f. IsMagic magic_read.Plain f) is magic)))

  pub other_told : 9 < long → IfSome file (λ b. IsMagic magic_read.Other b) → IfSome file (λ b. long ≡ length b → beginning.NotOurs ≡ beginning_of b)
  other_told more magic = if_some file _ (λ b is same.
      let other = told_of file b (λ f. IsMagic magic_read.Other f) is magic in
      sym (beginning_other b (omega (arith, more, same)) other.0 other.1))

  pub based_told : (it : Beginning) → 9 < long → IfSome file (λ b. IsMagic magic_read.Based b) → IfSome file (λ b. 9 < long → long ≡ length b → IsMagic magic_read.Based b → it ≡ beginning_of b)
      → IfSome file (λ b. long ≡ length b → it ≡ beginning_of b)
  based_told it more magic told = if_some file _ (λ b is same.
      told_of file b (λ f. 9 < long → long ≡ length f → IsMagic magic_read.Based f → it ≡ beginning_of f) is told more same (told_of file b (λ f. IsMagic magic_read.Based f) is magic))
