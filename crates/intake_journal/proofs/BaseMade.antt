-- What a crash leaves while a base is put into a file, and what the file holds then.
use Rattle.std.proofs.Common.{◌≡◌, ◌≢◌, inl, inr, ◌⊎◌, ℕ, ◌+◌, ◌<◌, ◌≤◌, true, List, [], ◌∷◌, ◌++◌, length, take, drop, Option, Some, None, if◌then◌else◌, refl, sym, ap, subst, ◌∙◌, arith, append_assoc, length-append}
use Rattle.std.specs.Prelude.{nat_le, nat_lt, ◌&&◌, IfSome}
use Rattle.std.proofs.lemmas.Bool.{le-leb, lt-ltb, cases_eq, cases_lt}
use Rattle.std.proofs.lemmas.List.{append-nil, drop_all, drop_at, take_at}
use Rattle.outside.specs.Disk.{DiskTells, overwritten, Only, LeavesOnly}
use Rattle.gated_file.specs.Around.{IsAround}
use Rattle.gated_file.specs.Moments.{IsAsBefore}
use Rattle.gated_file.proofs.Moments.{if_some, told_of}
use Rattle.gated_file.proofs.Openings.{leaves_less}
use Rattle.gated_file.proofs.Torn.{overwritten_inside, opened_is}
use Rattle.zbx_types.specs.declared.base.Base.{Base}
use Rattle.intake_journal.specs.Bytes.{number_bytes}
use Rattle.intake_journal.specs.BaseBytes.{base_bytes, IsFormed}
use Rattle.intake_journal.specs.BaseTypes.{IsBaseTyped}
use Rattle.intake_journal.specs.Kept.{longest_journal, based_magic, base_behind, beginning_of, base_at, kept_behind, kept_as, kept}
use Rattle.intake_journal.specs.Kept.Kept.{Unfinished}
use Rattle.intake_journal.specs.declared.format.Beginning.TheVariants.{Begun}
use Rattle.intake_journal.specs.BaseForm.{base_read}
use Rattle.intake_journal.specs.Format.{◌>>=◌, number_at}
use Rattle.intake_journal.specs.Based.{begun, block_bytes, HasBase, IsMaking}
use Rattle.intake_journal.proofs.Again.{bind_some, number_again}
use Rattle.intake_journal.proofs.BaseAgain.{base_again}
use Rattle.intake_journal.proofs.Beginnings.{beginning_open, beginning_shut}
use Rattle.intake_journal.proofs.Fronts.{closed, kept_by, kept_begun}
use Rattle.intake_journal.proofs.Openings.{and_then}

pub begun_is : (b : List ℕ) → b ≡ [] → overwritten b 0 begun ≡ begun
begun_is b none =
    ap (λ (l : List ℕ). overwritten l 0 begun) none ∙ overwritten_inside [] 0 begun (omega arith) ∙ ap (λ (l : List ℕ). begun ++ l) (drop_all 9 [] (omega arith)) ∙ append-nil begun

-- the file with a block behind its open gate
pub filled_is : (block : List ℕ) → overwritten (overwritten begun 9 block) 8 (1 ∷ []) ≡ based_magic ++ 1 ∷ block
filled_is block =
    opened_is begun 8 block (omega arith)
    ∙ ap (λ (l : List ℕ). based_magic ++ 1 ∷ (block ++ l)) (drop_all (9 + length block) begun (omega arith))
    ∙ ap (λ (l : List ℕ). based_magic ++ 1 ∷ l) (append-nil block)

module _ (base : Base) (again : base_read (base_bytes base) ≡ Some base) (small : length (base_bytes base) + 14 ≤ longest_journal) where
  abbrev size : ℕ
  size = length (base_bytes base)

  abbrev block : List ℕ
  block = block_bytes base

  -- a base that was written is there, whatever stands behind it
  behind_again : (rest : List ℕ) → base_behind (block ++ rest) ≡ Some (size, base)
  unfolding base_behind
  behind_again rest =
      let left : List ℕ = base_bytes base ++ 0 ∷ rest in
      let done : Option (ℕ × Base) = Some (size, base) in
      let shape : block ++ rest ≡ number_bytes size ++ left = append_assoc (number_bytes size ++ base_bytes base) (0 ∷ []) rest ∙ append_assoc (number_bytes size) (base_bytes base) (0 ∷ rest) in
      let inside : nat_lt size (length left) ≡ true = lt-ltb _ _ (omega (arith, length-append (base_bytes base) (0 ∷ rest))) in
      let within : nat_le (size + 14) longest_journal ≡ true = le-leb _ _ small in
      let read : (if nat_lt size (length left) && nat_le (size + 14) longest_journal then base_read (take size left) else None) ≡ Some base = rw (inside, within, take_at (base_bytes base) (0 ∷ rest) size refl) again in
      ap (λ (l : List ℕ). base_behind l) shape
      ∙ bind_some (number_at (number_bytes size ++ left)) (λ size. (if nat_lt size.0 (length size.1) && nat_le (size.0 + 14) longest_journal then base_read (take size.0 size.1) else None) >>= λ base. Some (size.0, base)) (size, left) done (number_again size left (omega (arith, small)))
      (bind_some (if nat_lt size (length left) && nat_le (size + 14) longest_journal then base_read (take size left) else None) (λ base. Some (size, base)) base done read refl)

  abbrev with_gate : ℕ → List ℕ → List ℕ
  with_gate byte rest = based_magic ++ byte ∷ (block ++ rest)

  long_with : (byte : ℕ) (rest : List ℕ) → 9 < length (with_gate byte rest)
  long_with byte rest = omega (arith, length-append block rest)

  has_base : (rest : List ℕ) → HasBase base (with_gate 1 rest)
  has_base rest =
      let file : List ℕ = with_gate 1 rest in
      let before : List ℕ = based_magic ++ 1 ∷ (number_bytes size ++ base_bytes base) in
      let begun_so : beginning_of file ≡ Begun (size + 13) base = beginning_open file (Some (size, base)) (long_with 1 rest) refl refl refl (behind_again rest) in
      let shape : file ≡ before ++ 0 ∷ rest = ap (λ (l : List ℕ). based_magic ++ 1 ∷ l) (append_assoc (number_bytes size ++ base_bytes base) (0 ∷ []) rest) in
      let long : length before ≡ size + 13 = omega (arith, length-append (number_bytes size) (base_bytes base)) in
      let left : drop (size + 13) file ≡ 0 ∷ rest = ap (λ (l : List ℕ). drop (size + 13) l) shape ∙ drop_at before (0 ∷ rest) (size + 13) long in
      (ap base_at begun_so, kept_begun file (size + 13) base (long_with 1 rest) begun_so ∙ ap (λ (l : List ℕ). kept_behind 0 (size + 13) l) left ∙ closed (size + 13) 0 rest (omega arith))

  other_gate : (byte : ℕ) (rest : List ℕ) → byte ≢ 1 → kept (with_gate byte rest) ≡ Unfinished
  other_gate byte rest shut =
      kept_by (with_gate byte rest) (long_with byte rest) ∙ ap (λ b. kept_as b (with_gate byte rest)) (beginning_shut (with_gate byte rest) (long_with byte rest) refl refl shut)

  unfilled : (rest : List ℕ) → (length (begun ++ rest) ≤ 9) ⊎ (kept (begun ++ rest) ≡ Unfinished)
  unfilled rest = elim (cases_lt 9 (length (begun ++ rest))) [
    | inl long ↦ inr (kept_by (begun ++ rest) long ∙ ap (λ b. kept_as b (begun ++ rest)) (beginning_shut (begun ++ rest) long refl refl (λ open'. omega (arith, open'))))
    | inr short ↦ inl short
  ]

  around : (before c : List ℕ) → IsAround begun 8 (block_bytes base) c → IsMaking before base c
  around before c (inl front) = subst (IsMaking before base) (sym front.1) (elim (unfilled front.0) [ inl short ↦ inr (inl short) | inr is ↦ inr (inr (inl is)) ])
  around before c (inr whole) = subst (IsMaking before base) (sym whole.2) (elim (cases_eq whole.0 1) [
    | inl one ↦ inr (inr (inr (subst (λ (n : ℕ). HasBase base (with_gate n whole.1)) (sym one) (has_base whole.1))))
    | inr other ↦ inr (inr (inl (other_gate whole.0 whole.1 other)))
  ])

  -- what a crash leaves while the block is put into the file
  pub making : (before c : List ℕ) → (length c ≤ 9) ⊎ IsAround begun 8 (block_bytes base) c → IsMaking before base c
  making before c (inl short) = inr (inl short)
  making before c (inr is) = around before c is

pub no_bytes : (b : List ℕ) → 0 ≡ length b → b ≡ []
no_bytes [] none = refl
no_bytes (x ∷ xs) none = absurd (omega (arith, none))

-- a disk that was only asked
pub only_asked : (base : Base) (old new : DiskTells) → IsAsBefore old new → IfSome old.bytes (λ b. Only b old → LeavesOnly old new (IsMaking b base))
only_asked base old new before = if_some old.bytes _ (λ b told only. leaves_less old new old.images (IsMaking b base) (λ c image. inl (only c image)) before.moments)

-- what a crash leaves while a block is put into a file
abbrev pub Filling : List ℕ → List ℕ → Type 0
Filling block c = (length c ≤ 9) ⊎ IsAround begun 8 block c

module _ (base : Base) (block : List ℕ) (is : block ≡ block_bytes base) (typed : IsBaseTyped base) (formed : IsFormed base) (fits : length block + 9 ≤ longest_journal) where
  small : length (base_bytes base) + 14 ≤ longest_journal
  small =
      let size = number_bytes (length (base_bytes base)) in
      omega (arith, fits, ap length is, length-append (size ++ base_bytes base) (0 ∷ []), length-append size (base_bytes base))

  again : base_read (base_bytes base) ≡ Some base
  again = base_again base typed formed (omega (arith, small))

  module _ (old mid new : DiskTells) (before : IsAsBefore old mid) (empty : IfSome old.bytes (λ b. b ≡ [])) where
    pub filled_moments : IfSome mid.bytes (λ b. b ≡ [] → Only b mid → LeavesOnly mid new (Filling block)) → IfSome old.bytes (λ b. Only b old → LeavesOnly old new (IsMaking b base))
    filled_moments filled = if_some old.bytes _ (λ b told only.
        let first = leaves_less old mid old.images (IsMaking b base) (λ c image. inl (only c image)) before.moments in
        let second = told_of mid.bytes b (λ l. l ≡ [] → Only l mid → LeavesOnly mid new (Filling block)) (before.same ∙ told) filled (told_of old.bytes b (λ l. l ≡ []) told empty) (λ c image. only c (before.no_others c image)) in
        and_then old mid new (IsMaking b base) (Filling block) first second (λ c left. making base again small b c (subst (λ (k : List ℕ). Filling k c) is left)))

    pub filled_bytes : IfSome mid.bytes (λ b. b ≡ [] → new.bytes ≡ Some (based_magic ++ 1 ∷ block)) → IfSome old.bytes (λ _. new.bytes ≡ Some (based_magic ++ 1 ∷ block_bytes base))
    filled_bytes filled = if_some old.bytes _ (λ b told.
        told_of mid.bytes b (λ l. l ≡ [] → new.bytes ≡ Some (based_magic ++ 1 ∷ block)) (before.same ∙ told) filled (told_of old.bytes b (λ l. l ≡ []) told empty)
        ∙ ap (λ (k : List ℕ). Some (based_magic ++ 1 ∷ k)) is)

  pub holds_base : HasBase base (based_magic ++ 1 ∷ block_bytes base)
  holds_base = subst (λ (k : List ℕ). HasBase base (based_magic ++ 1 ∷ k)) (append-nil (block_bytes base)) (has_base base again small [])
