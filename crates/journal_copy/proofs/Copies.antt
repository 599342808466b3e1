-- Laws of copies: how they end, and what they leave.
use Rattle.std.proofs.Common.{◌≡◌, ◌≢◌, ◌⊎◌, ◌≤◌, ◌<◌, ◌+◌, ℕ, Bool, true, false, true≢false, List, [], ◌∷◌, ◌++◌, length, map, Option, Some, None, inl, inr, refl, sym, ap, ap₂, ◌∙◌, subst, append_assoc, length-append, arith}
use Rattle.std.specs.Prelude.{IfSome, IsSome, IsTrue, is_some, min, nat_lt, ◌||◌}
use Rattle.std.proofs.lemmas.Bool.Decides.{nat_tests}
use Rattle.zbx_types.specs.declared.base.Base.{Base}
use Rattle.zbx_types.specs.declared.entries.Numbered.{Numbered}
use Rattle.outside.specs.Causes.{Rose}
use Rattle.outside.specs.Disk.{DiskTells, IsLawful, Only, LeavesOnly}
use Rattle.outside.specs.Tells.{SinkTells}
use Rattle.intake_journal.specs.Based.{HasBase, IsMaking, block_bytes, is_too_large, most_counted}
use Rattle.intake_journal.specs.BaseBytes.{base_bytes, head_bytes, item_bytes, list_bytes, long_bytes, problem_bytes, ticks_bytes}
use Rattle.intake_journal.specs.Bytes.{moment_bytes, number_bytes, text_bytes}
use Rattle.intake_journal.specs.Kept.{based_magic, longest_journal}
use Rattle.intake_journal.specs.Settled.{Journaled, KeepsAsOneOf}
use Rattle.intake_journal.specs.declared.making.MakeError.{MakeError}
use Rattle.intake_journal.specs.declared.making.MakeError.TheVariants as error
use Rattle.entry_laws.specs.InForce.{texts_on}
use Rattle.server_words.specs.Words.{checkpoint_plan_of}
use Rattle.server_words.specs.declared.status.Status.{Status}
use Rattle.server_words.specs.declared.status.Status.TheVariants as status
use Rattle.server_words.specs.declared.words.Plan.{Plan}
use Rattle.whole_texts.specs.Writes.{GrewByFront}
use Rattle.journal_opening.specs.Recovered.{Found, FoundGroups, GoesOn}
use Rattle.journal_opening.specs.Replayed.{flat}
use Rattle.journal_opening.specs.Resumed.{IsTakenUp}
use Rattle.journal_opening.specs.Unkept.{IsUnkept}
use Rattle.journal_opening.proofs.Leaving.{leaves_more}
use Rattle.journal_copy.specs.Copies.{Disks, IsCopied, IsTooLarge, HoldsSome, EndsCopy, EndsBy, EndsPrinted, HasNoState, AreLeft, Leaves, MayEnd, Prints, cut_short, line_of, status_for}
use Rattle.journal_copy.specs.State.{IsNothing, OfState, counted, found_state, state_of}

-- ---- a state whose lines stand as counted

module _ (base : Base) where
  -- what stands behind the bytes of lines
  abbrev rest : List ℕ
  rest = text_bytes base.text ++ list_bytes item_bytes base.items ++ list_bytes problem_bytes base.problems

  parts : (lines : ℕ) → length (base_bytes (record base { lines = lines })) ≡ length (long_bytes base.number ++ moment_bytes base.now ++ ticks_bytes base.first_tick base.last_tick) + 8 + length rest
  unfolding base_bytes
  parts lines =
      let front = long_bytes base.number ++ moment_bytes base.now ++ ticks_bytes base.first_tick base.last_tick in
      let head : head_bytes (record base { lines = lines }) ≡ front ++ long_bytes lines =
      ap (λ l. long_bytes base.number ++ l) (sym (append_assoc (moment_bytes base.now) (ticks_bytes base.first_tick base.last_tick) (long_bytes lines)))
      ∙ sym (append_assoc (long_bytes base.number) (moment_bytes base.now ++ ticks_bytes base.first_tick base.last_tick) (long_bytes lines)) in
      let long = length-append (head_bytes (record base { lines = lines })) rest in
      let first = ap (λ (l : List ℕ). length l) head ∙ length-append front (long_bytes lines) in
      let eight : length (long_bytes lines) ≡ 8 = refl in
      omega (arith, long, first, eight)

  same_length : length (base_bytes (counted base)) ≡ length (base_bytes base)
  same_length = parts (min base.lines 18446744073709551615) ∙ sym (parts base.lines)

  -- it has as many bytes
  same_size : length (block_bytes (counted base)) ≡ length (block_bytes base)
  same_size =
      let sizes : (b : Base) → length (block_bytes b) ≡ length (base_bytes b) + 5 = λ b. (let outer = length-append (number_bytes (length (base_bytes b))) (base_bytes b ++ 0 ∷ []) in
      let inner = length-append (base_bytes b) (0 ∷ []) in
      let four : length (number_bytes (length (base_bytes b))) ≡ 4 = refl in omega (arith, outer, inner, four)) in
      sizes (counted base) ∙ ap (λ n. n + 5) same_length ∙ sym (sizes base)

  -- it is too large where the state is
  same_most : (n : ℕ) → nat_lt most_counted (min n 18446744073709551615) ≡ nat_lt most_counted n
  same_most n = grind (arith, nat_tests)

  same_large : is_too_large (counted base) ≡ is_too_large base
  same_large = ap₂ (λ n b. nat_lt longest_journal (n + 9) || nat_lt most_counted base.number || b) same_size (same_most base.lines)

  -- where it isn't, it is the state
  small_same : is_too_large (counted base) ≡ false → counted base ≡ base
  small_same small =
      let few : nat_lt most_counted (min base.lines 18446744073709551615) ≡ false =
      last_false (nat_lt longest_journal (length (block_bytes (counted base)) + 9)) (nat_lt most_counted base.number) (nat_lt most_counted (min base.lines 18446744073709551615)) small in
      ap (λ n. record base { lines = n }) (few_lines base.lines few)
    where
      last_false : (a b c : Bool) → (a || b || c) ≡ false → c ≡ false
      last_false true b c none = absurd (true≢false none)
      last_false false true c none = absurd (true≢false none)
      last_false false false c none = none

      few_lines : (n : ℕ) → nat_lt most_counted (min n 18446744073709551615) ≡ false → min n 18446744073709551615 ≡ n
      few_lines n few = grind (arith, nat_tests, few)

-- ---- what was read

-- a journal that was taken up, of whose state something holds
pub kept_state : {D : Type 0} (tells : D → DiskTells) (most : ℕ) (old : D) (journal : Journaled D) (entries : List Numbered) (made : Base)
    → IsTakenUp tells most old journal entries (map flat (texts_on journal.base.text entries)) → 1 ≤ length journal.base.text + length entries → made ≡ counted (state_of journal.base entries)
    → OfState (tells old).bytes (λ state. made ≡ counted state)
kept_state tells most old journal entries made t some is = (
  t.found,
  t.finds,
  t.accepted,
  λ nothing. (let text : length journal.base.text ≡ 0 = ap (λ (b : Base). length b.text) (t.has.base ∙ nothing.0) in
      let none : length entries ≡ 0 = ap (λ (es : List Numbered). length es) (t.kept_are ∙ nothing.1) in omega (arith, some, text, none)),
  is ∙ ap (λ (b : Base). counted (state_of b entries)) t.has.base ∙ ap (λ (es : List Numbered). counted (state_of t.found.base es)) t.kept_are,
)

-- or one that keeps nothing
pub nothing_kept : {D : Type 0} (tells : D → DiskTells) (most : ℕ) (old : D) (journal : Journaled D) (entries : List Numbered)
    → IsTakenUp tells most old journal entries (map flat (texts_on journal.base.text entries)) → journal.base.text ≡ [] → entries ≡ []
    → (found : Found) × FoundGroups (tells old).bytes found × IsNothing found
nothing_kept tells most old journal entries t text none =
    (t.found, t.finds, (t.accepted.0.1.empty (ap (λ (b : Base). b.text) (sym t.has.base) ∙ text), sym t.kept_are ∙ none))

-- ---- what was made of it

-- of a state that was made something is said of the journal's
of_state : (file : Option (List ℕ)) (made : Base) (Is : Base → Type 0) → OfState file (λ whole. made ≡ counted whole) → ((whole : Base) → made ≡ counted whole → Is whole) → OfState file Is
of_state file made Is (found, finds, accepted, some, is) goes = (found, finds, accepted, some, goes (found_state found) is)

holds_only : (disk disk' : DiskTells) (state : Base) → is_some disk'.bytes ≡ is_some disk.bytes → IfSome disk.bytes (λ _. disk'.bytes ≡ Some (based_magic ++ 1 ∷ block_bytes state)) → HasBase state (based_magic ++ 1 ∷ block_bytes state)
    → IfSome disk'.bytes (λ c. Only c disk') → IfSome disk'.bytes (λ c. HasBase state c × Only c disk')
holds_only disk disk' state told file holds only = go disk.bytes disk'.bytes told file only
  where
    go : (o o' : Option (List ℕ)) → is_some o' ≡ is_some o → IfSome o (λ _. o' ≡ Some (based_magic ++ 1 ∷ block_bytes state)) → IfSome o' (λ c. Only c disk') → IfSome o' (λ c. HasBase state c × Only c disk')
    go o None told file only = tt
    go None (Some c) told file only = absurd (cc)
    go (Some b) (Some c) told file only =
        let same : based_magic ++ 1 ∷ block_bytes state ≡ c = cc in (subst (HasBase state) same holds, only)

module _ (old : DiskTells) (from' into into' : DiskTells) (made : Base) (of : OfState old.bytes (λ whole. made ≡ counted whole)) where
  abbrev disks : Disks
  disks = record { from = old; from' = from'; into = into; into' = into' }

  pub made_ends : is_some into'.bytes ≡ is_some into.bytes → IfSome into.bytes (λ _. into'.bytes ≡ Some (based_magic ++ 1 ∷ block_bytes made)) → HasBase made (based_magic ++ 1 ∷ block_bytes made)
      → IfSome into'.bytes (λ c. Only c into') → IfSome into.bytes (λ b. b ≡ []) → is_too_large made ≡ false → EndsCopy disks made.number made.lines status.Ok
  made_ends told file holds only empty small = of_state old.bytes made (IsCopied disks made.number made.lines) of (λ whole is.
      let same : made ≡ whole = is ∙ small_same whole (ap is_too_large (sym is) ∙ small) in record {
        fits = ap is_too_large (sym same) ∙ small;
        empty = empty;
        holds = subst (λ (b : Base). IfSome into'.bytes (λ c. HasBase b c × Only c into')) same (holds_only into into' made told file holds only);
        number_is = ap (λ (b : Base). b.number) same;
        lines_are = ap (λ (b : Base). b.lines) same;
      })

  pub unmade_ends : (number lines : ℕ) (e : MakeError) → ((bytes : ℕ) → e ≡ error.NotEmpty bytes → IfSome into.bytes (λ b. (0 < length b) × (bytes ≡ length b)))
      → ((bytes : ℕ) → e ≡ error.TooLarge bytes → IsTrue (is_too_large made) × (bytes ≡ length (block_bytes made) + 9))
      → ((bytes : ℕ) → e ≡ error.TooLarge bytes → IfSome into.bytes (λ b. b ≡ [])) → (e ≡ error.DiskFault → Rose into.faults into'.faults) → EndsCopy disks number lines (status_for e)
  unmade_ends number lines (error.NotEmpty bytes) held large first fault = of_state old.bytes made (λ state. IfSome into.bytes (HoldsSome bytes)) of (λ whole is. held bytes refl)
  unmade_ends number lines (error.TooLarge bytes) held large first fault = of_state old.bytes made (IsTooLarge disks 0 bytes) of (λ whole is.
      let passes = large bytes refl in record {
        large = subst IsTrue (ap is_too_large is ∙ same_large whole) passes.0;
        none = refl;
        size = passes.1 ∙ ap (λ (b : Base). length (block_bytes b) + 9) is ∙ ap (λ n. n + 9) (same_size whole);
        empty = first bytes refl;
      })
  unmade_ends number lines error.DiskFault held large first fault = inr (of_state old.bytes made (λ state. Rose into.faults into'.faults) of (λ whole is. fault refl))
  unmade_ends number lines error.OutOfMemory held large first fault = tt

  -- a crash meanwhile left the copy as it was, unfinished, or with the state
  making_leaves : (b c : List ℕ) → IsMaking b made c → Leaves old.bytes b c
  making_leaves b c (inl same) = inl same
  making_leaves b c (inr (inl short)) = inr (inl short)
  making_leaves b c (inr (inr (inl cut))) = inr (inr (inl cut))
  making_leaves b c (inr (inr (inr has))) = inr (inr (inr (of_state old.bytes made (λ state. HasBase (counted state) c) of (λ whole is. subst (λ (s : Base). HasBase s c) is has))))

  pub made_left : GoesOn old from' → IfSome into.bytes (λ b. Only b into → LeavesOnly into into' (IsMaking b made)) → is_some into'.bytes ≡ is_some into.bytes → into.faults ≤ into'.faults → AreLeft disks
  made_left on left told later = record {
    journal = on.moments;
    copy = go into.bytes left;
    journal_told = on.told;
    copy_told = told;
    journal_later = on.later;
    copy_later = later;
  }
    where
      go : (o : Option (List ℕ)) → IfSome o (λ b. Only b into → LeavesOnly into into' (IsMaking b made)) → IfSome o (λ b. Only b into → LeavesOnly into into' (Leaves old.bytes b))
      go None left = tt
      go (Some b) left = λ only. leaves_more into into' (IsMaking b made) (Leaves old.bytes b) (making_leaves b) (left only)

-- ---- a journal that isn't read

-- one that has no state
pub stateless_ends : (d : Disks) (number lines : ℕ) (s : Status) → HasNoState d.from.bytes s → EndsCopy d number lines s
stateless_ends d number lines status.OutOfMemory why = tt
stateless_ends d number lines status.NoEntries why = why
stateless_ends d number lines _ why = absurd why

pub unkept_ends : (d : Disks) (number lines : ℕ) (s : Status) → IsUnkept d.from d.from' s → EndsCopy d number lines s
unkept_ends d number lines status.Ok (inl (inl why)) = absurd why
unkept_ends d number lines status.Ok (inl (inr why)) = absurd why.3
unkept_ends d number lines status.Ok (inr why) = absurd why.5
unkept_ends d number lines status.OutOfMemory why = tt
unkept_ends d number lines status.DiskFault (inl (inl why)) = inl why
unkept_ends d number lines status.DiskFault (inl (inr why)) = absurd why.3
unkept_ends d number lines status.DiskFault (inr why) = absurd why.5
unkept_ends d number lines status.NoEntries (inl (inl why)) = absurd why
unkept_ends d number lines status.NoEntries (inl (inr why)) = absurd why.3
unkept_ends d number lines status.NoEntries (inr why) = absurd why.5
unkept_ends d number lines (status.NotEmpty bytes) (inl (inl why)) = absurd why
unkept_ends d number lines (status.NotEmpty bytes) (inl (inr why)) = absurd why.3
unkept_ends d number lines (status.NotEmpty bytes) (inr why) = absurd why.5
unkept_ends d number lines (status.Full entries bytes) (inl (inl why)) = absurd why
unkept_ends d number lines (status.Full entries bytes) (inl (inr why)) = absurd why.3
unkept_ends d number lines (status.Full entries bytes) (inr why) = absurd why.5
unkept_ends d number lines _ why = why

-- a disk that is left alone
still_left : (disk : DiskTells) (P : List ℕ → List ℕ → Type 0) → ((b : List ℕ) → P b b) → IsLawful disk
    → IfSome disk.bytes (λ b. Only b disk → LeavesOnly disk disk (P b))
still_left disk P same law = go disk.bytes
  where
    go : (o : Option (List ℕ)) → IfSome o (λ b. Only b disk → LeavesOnly disk disk (P b))
    go None = tt
    go (Some b) = λ only. record {
      later = omega arith;
      each = λ c since. subst (P b) (sym (only c (law.only_now c since))) (same b);
      before = λ t c le since. inl since;
    }

-- a copy for which nothing was written
pub unkept_left : (old from' into : DiskTells) → GoesOn old from' → IsLawful into → AreLeft (record { from = old; from' = from'; into = into; into' = into })
unkept_left old from' into on law = record {
  journal = on.moments;
  copy = still_left into (Leaves old.bytes) (λ b. inl refl) law;
  journal_told = on.told;
  copy_told = refl;
  journal_later = on.later;
  copy_later = omega arith;
}

-- a journal that was left alone too
pub untouched_left : (from into : DiskTells) → IsLawful from → IsLawful into
    → AreLeft (record { from = from; from' = from; into = into; into' = into })
untouched_left from into one other = unkept_left from from into (record { told = refl; later = omega arith; moments = go from.bytes }) other
  where
    go : (o : Option (List ℕ)) → IfSome o (λ _. LeavesOnly from from (KeepsAsOneOf from))
    go None = tt
    go (Some b) = record {
      later = omega arith;
      each = λ c since. (c, one.only_now c since, refl, refl);
      before = λ t c le since. inl since;
    }

-- ---- the words

pub planned_ends : (words : List (List ℕ)) (plan : Plan) (d : Disks) (number lines : ℕ) (s : Status) → checkpoint_plan_of words ≡ Some plan → EndsCopy d number lines s → EndsBy words d number lines s
planned_ends words plan d number lines status.Usage planned (inl (inl why)) = absurd why
planned_ends words plan d number lines status.Usage planned (inl (inr why)) = absurd why.3
planned_ends words plan d number lines status.Usage planned (inr why) = absurd why.5
planned_ends words plan d number lines status.OutOfMemory planned ends = tt
planned_ends words plan d number lines _ planned ends = (subst IsSome (sym planned) refl, ends)

-- ---- the line

-- no call ends with a fault of the printer before it prints
pub unprinted : (words : List (List ℕ)) (d : Disks) (number lines : ℕ) (s : Status) → EndsBy words d number lines s → s ≢ status.PrintFault
unprinted words d number lines status.PrintFault (plan, inl (inl why)) = absurd why
unprinted words d number lines status.PrintFault (plan, inl (inr why)) = absurd why.3
unprinted words d number lines status.PrintFault (plan, inr why) = absurd why.5
unprinted words d number lines _ ends = λ is. absurd (cc)

same_ends : (words : List (List ℕ)) (d : Disks) (number lines : ℕ) (print print' : SinkTells) (s : Status) → s ≢ status.PrintFault → EndsBy words d number lines s → EndsPrinted words d number lines print print' s
same_ends words d number lines print print' status.PrintFault other ends = absurd (other refl)
same_ends words d number lines print print' _ other ends = ends

pub printed_ends : (words : List (List ℕ)) (d : Disks) (number lines : ℕ) (print print' : SinkTells) (s ended : Status) → EndsBy words d number lines s → MayEnd s ended → (ended ≡ status.PrintFault → Rose print.faults print'.faults)
    → EndsPrinted words d number lines print print' ended
printed_ends words d number lines print print' s ended ends (inl same) cause =
    subst (EndsPrinted words d number lines print print') (sym same) (same_ends words d number lines print print' s (unprinted words d number lines s ends) ends)
printed_ends words d number lines print print' s ended ends (inr (inl refused)) cause = subst (EndsPrinted words d number lines print print') (sym refused) tt
printed_ends words d number lines print print' s ended ends (inr (inr cut)) cause =
    subst (EndsPrinted words d number lines print print') (sym cut.1) (cause cut.1, subst (EndsBy words d number lines) cut.0 ends)

-- Usage comes of the words alone, also behind its line
pub usage_printed : (words : List (List ℕ)) (d : Disks) (number lines : ℕ) (s ended : Status) → EndsBy words d number lines s → MayEnd s ended → ended ≡ status.Usage → checkpoint_plan_of words ≡ None
usage_printed words d number lines s ended ends (inl same) is = subst (EndsBy words d number lines) (sym same ∙ is) ends
usage_printed words d number lines s ended ends (inr (inl refused)) is = absurd (cc)
usage_printed words d number lines s ended ends (inr (inr cut)) is = absurd (cc)

pub no_plan_printed : (s ended : Status) → (s ≡ status.Usage) ⊎ (s ≡ status.OutOfMemory) → MayEnd s ended → (ended ≡ status.Usage) ⊎ (ended ≡ status.OutOfMemory)
no_plan_printed s ended (inl usage) (inl same) = inl (same ∙ usage)
no_plan_printed s ended (inr refused) (inl same) = inr (same ∙ refused)
no_plan_printed s ended one (inr (inl refused)) = inr refused
no_plan_printed s ended (inl usage) (inr (inr cut)) = absurd (cc)
no_plan_printed s ended (inr refused) (inr (inr cut)) = absurd (cc)

-- a line that couldn't be printed whole
pub prints_cut : (number lines : ℕ) (print print' : SinkTells) (s ended : Status) → s ≢ status.PrintFault → ended ≡ cut_short s → GrewByFront print print' (line_of number lines s) → Prints number lines print print' ended
prints_cut number lines print print' s ended other is front = subst (Prints number lines print print') (sym is) (by s other front)
  where
    by : (s : Status) → s ≢ status.PrintFault → GrewByFront print print' (line_of number lines s) → Prints number lines print print' (cut_short s)
    by status.Ok other front = front
    by status.PrintFault other front = absurd (other refl)
    by _ other front = front

-- that of a status, whose bytes these are
pub prints_line : (number lines : ℕ) (print print' : SinkTells) (s ended : Status) (line bytes : List ℕ) → s ≢ status.PrintFault → ended ≡ cut_short s → line ≡ line_of number lines s → bytes ≡ line → GrewByFront print print' bytes
    → Prints number lines print print' ended
prints_line number lines print print' s ended line bytes other is text same front = prints_cut number lines print print' s ended other is (subst (GrewByFront print print') (same ∙ text) front)
