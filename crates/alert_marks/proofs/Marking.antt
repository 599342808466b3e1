-- Marks as groups of a file.
use Rattle.std.proofs.Common.{◌≡◌, ◌≢◌, ◌⊎◌, ◌∙◌, inl, inr, ℕ, ◌+◌, ◌^◌, ◌<◌, ◌≤◌, ◌==◌, ◌&&◌, not, Bool, true, false, List, [], ◌∷◌, ◌++◌, length, take, Option, Some, None, IfSome, refl, sym, ap, subst, arith, append_assoc, append-nil, le-leb}
use Rattle.std.specs.Prelude.{is_some, option_map, nat_le, Result, Ok, Err, OnOk, ◌||◌}
use Rattle.std.specs.Int.{to_le_bytes, w32}
use Rattle.std.specs.Int.Bits.{bit_or}
use Rattle.std.proofs.lemmas.Nat.{from_le_bytes-to_le_bytes_4}
use Rattle.outside.specs.Disk.{DiskTells, IsLawful, Only, LeavesOnly, overwritten}
use Rattle.gated_file.specs.Around.{IsAround}
use Rattle.gated_file.specs.Groups.{kept, groups_of, IsFront, IsReadable, IsReady}
use Rattle.gated_file.proofs.Moments.{if_some, told_of, started}
use Rattle.gated_file.proofs.Openings.{leaves_less}
use Rattle.gated_file.proofs.Fronts.{front_goes_on}
use Rattle.gated_file.proofs.Adding.{ready_keeps, told_too}
use Rattle.alert_queue.specs.declared.types.Mark.{Mark}
use Rattle.alert_queue.specs.declared.types.Mark.TheVariants.{Done, Failed}
use Rattle.alert_queue.specs.declared.types.NoteMark.{NoteMark}
use Rattle.alert_marks.specs.Marks.{byte_of, mark_of, is_switched, is_marked, number_in, state_behind, mark_form, marks_by, listed, marks_in, EachKeeps, KeepsBeforeOrWith, has_mark, IsCoded, IsFiled, IsSettled, group_of}
use Rattle.alert_marks.proofs.Blocks.{around_keeps, finished, finished_ready}
use Rattle.alert_marks.proofs.States.{coded_switch, coded_numbered}

-- what is said of an Ok, twice
pub on_both : {T E : Type 0} (r : Result T E) (P Q R : Type 0) → (P → Q → R) → OnOk r P → OnOk r Q → OnOk r R
on_both (Ok x) P Q R goes p q = goes p q
on_both (Err e) P Q R goes p q = tt

-- the number and the mark of a group are read again
pub number_back : (m : NoteMark) (rest : List ℕ) → m.note < 2 ^ 32 → number_in (group_of m ++ rest) ≡ m.note
number_back m rest small = from_le_bytes-to_le_bytes_4 m.note small

pub mark_back : (mark : Mark) → mark_of (byte_of mark) ≡ mark
mark_back Done = refl
mark_back Failed = refl

-- a group behind the switch
pub numbered_readable : (state : ℕ) (m : NoteMark) → m.note < 2 ^ 32 → 1 ≤ m.note → is_switched state ≡ true → is_marked state m.note ≡ false → IsReadable mark_form state (group_of m)
numbered_readable state m small some switched free gate rest =
    let number : number_in (group_of m ++ gate ∷ rest) ≡ m.note = number_back m (gate ∷ rest) small in
    let long : nat_le 6 (length (group_of m ++ gate ∷ rest)) ≡ true = le-leb _ _ (omega arith) in
    let low : nat_le 1 m.note ≡ true = le-leb _ _ some in
    rw (switched, long, is_byte m.mark, number, low, free) refl
  where
    is_byte : (mark : Mark) → (byte_of mark == 100 || byte_of mark == 102) ≡ true
    is_byte Done = refl
    is_byte Failed = refl

-- the switch
pub switch_readable : (state : ℕ) → is_switched state ≡ false → IsReadable mark_form state (50 ∷ [])
switch_readable state plain gate rest = rw plain refl

pub behind_switch : (state : ℕ) → is_switched state ≡ false → state_behind state (50 ∷ []) ≡ bit_or state (2 ^ 0)
behind_switch state plain = rw plain refl

pub behind_numbered : (state : ℕ) (m : NoteMark) → m.note < 2 ^ 32 → is_switched state ≡ true → state_behind state (group_of m) ≡ bit_or state (2 ^ m.note)
behind_numbered state m small switched =
    let number : number_in (group_of m) ≡ m.note = from_le_bytes-to_le_bytes_4 m.note small in
    rw (switched, number) refl

pub by_switch : (state count : ℕ) → is_switched state ≡ false → marks_by state count (50 ∷ []) ≡ []
by_switch state count plain = rw plain refl

by_numbered : (state count : ℕ) (m : NoteMark) → m.note < 2 ^ 32 → is_switched state ≡ true → marks_by state count (group_of m) ≡ m ∷ []
by_numbered state count m small switched =
    let number : number_in (group_of m) ≡ m.note = from_le_bytes-to_le_bytes_4 m.note small in
    let mark : mark_of (byte_of m.mark) ≡ m.mark = mark_back m.mark in
    rw (switched, number, mark) refl

-- a file that is settled keeps its marks
pub filed_keeps : (disk : DiskTells) (at : ℕ) (switched : Bool) (marks : List NoteMark) (b : List ℕ) → IsFiled disk at switched marks b → marks_in b ≡ Some marks
filed_keeps disk at switched marks b is =
    ap (option_map (listed 0 [])) (ready_keeps mark_form disk at is.state is.groups b is.ready)
    ∙ ap Some (ap (listed 0 []) (sym (append-nil is.groups)) ∙ is.lists [])

pub settled_keeps : (disk : DiskTells) (at : ℕ) (switched : Bool) (marks : List NoteMark) → IsSettled false disk at switched marks → EachKeeps disk marks
settled_keeps disk at switched marks settled = if_some disk.bytes _ (λ b is c image.
    let filed = told_of disk.bytes b (IsFiled disk at switched marks) is (settled refl) in
    ap marks_in (filed.ready.durable c image) ∙ filed_keeps disk at switched marks b filed)

-- what the groups behind the gate are once a mark is there: all groups, the state behind them, and how they go on
pub record IsInner (state : ℕ) (groups : List (List ℕ)) (front inner : List ℕ) (marks : List NoteMark) (m : NoteMark) : Type 0 where
  pub then : ℕ
  pub all : List (List ℕ)
  pub is_front : IsFront mark_form then all (front ++ 1 ∷ inner)
  pub lists : (more : List (List ℕ)) → listed 0 [] (all ++ more) ≡ listed then (marks ++ m ∷ []) more
  pub coded : IsCoded then true (marks ++ m ∷ [])

module _ (state : ℕ) (groups : List (List ℕ)) (front : List ℕ) (marks : List NoteMark) (m : NoteMark) (is : IsFront mark_form state groups front)
    (lists : (more : List (List ℕ)) → listed 0 [] (groups ++ more) ≡ listed state marks more) (small : m.note < 2 ^ 32) (some : 1 ≤ m.note) (free : has_mark marks m.note ≡ false) where
  -- behind the switch
  pub inner_numbered : IsCoded state true marks → IsInner state groups front (group_of m) marks m
  inner_numbered c =
      let unmarked : is_marked state m.note ≡ false = c.each m.note some ∙ free in
      let next : state_behind state (group_of m) ≡ bit_or state (2 ^ m.note) = behind_numbered state m small c.switched_is in record {
        then = bit_or state (2 ^ m.note);
        all = groups ++ group_of m ∷ [];
        is_front = subst (λ (s : ℕ). IsFront mark_form s (groups ++ group_of m ∷ []) (front ++ 1 ∷ group_of m)) next
            (front_goes_on mark_form state groups front (group_of m) is (numbered_readable state m small some c.switched_is unmarked));
        lists = λ more.
            ap (listed 0 []) (append_assoc groups (group_of m ∷ []) more) ∙ lists (group_of m ∷ more)
            ∙ ap (λ (s : ℕ). listed s (marks ++ marks_by state (length marks) (group_of m)) more) next
            ∙ ap (λ (l : List NoteMark). listed (bit_or state (2 ^ m.note)) (marks ++ l) more) (by_numbered state (length marks) m small c.switched_is);
        coded = coded_numbered state marks m some c;
      }

module _ (state : ℕ) (groups : List (List ℕ)) (front : List ℕ) (marks : List NoteMark) (m : NoteMark) (is : IsFront mark_form state groups front)
    (lists : (more : List (List ℕ)) → listed 0 [] (groups ++ more) ≡ listed state marks more) (small : m.note < 2 ^ 32) (some : 1 ≤ m.note) (free : has_mark marks m.note ≡ false) where
  -- the switch and the mark at once
  pub inner_first : IsCoded state false marks → IsInner state groups front (50 ∷ 1 ∷ group_of m) marks m
  inner_first c =
      let switched = bit_or state (2 ^ 0) in
      let next : state_behind state (50 ∷ []) ≡ switched = behind_switch state c.switched_is in
      let first : IsFront mark_form switched (groups ++ (50 ∷ []) ∷ []) (front ++ 1 ∷ 50 ∷ []) =
      subst (λ (s : ℕ). IsFront mark_form s (groups ++ (50 ∷ []) ∷ []) (front ++ 1 ∷ 50 ∷ [])) next
      (front_goes_on mark_form state groups front (50 ∷ []) is (switch_readable state c.switched_is)) in
      let goes : (more : List (List ℕ)) → listed 0 [] ((groups ++ (50 ∷ []) ∷ []) ++ more) ≡ listed switched marks more = λ more.
      ap (listed 0 []) (append_assoc groups ((50 ∷ []) ∷ []) more) ∙ lists ((50 ∷ []) ∷ more)
      ∙ ap (λ (s : ℕ). listed s (marks ++ marks_by state (length marks) (50 ∷ [])) more) next
      ∙ ap (λ (l : List NoteMark). listed switched (marks ++ l) more) (by_switch state (length marks) c.switched_is)
      ∙ ap (λ (l : List NoteMark). listed switched l more) (append-nil marks) in
      let inner = inner_numbered switched (groups ++ (50 ∷ []) ∷ []) (front ++ 1 ∷ 50 ∷ []) marks m first goes small some free (coded_switch state marks c) in record {
        then = inner.then;
        all = inner.all;
        is_front = subst (λ (l : List ℕ). IsFront mark_form inner.then inner.all l) (append_assoc front (1 ∷ 50 ∷ []) (1 ∷ group_of m)) inner.is_front;
        lists = inner.lists;
        coded = inner.coded;
      }

module _ (old new : DiskTells) (at : ℕ) (switched : Bool) (marks : List NoteMark) (m : NoteMark) (inner : List ℕ)
    (settled : IsSettled false old at switched marks)
    (fits : (b : List ℕ) (f : IsFiled old at switched marks b) → IsInner f.state f.groups (take at b) inner marks m) where
  abbrev block : List ℕ
  block = inner ++ 0 ∷ []

  -- once a mark is put behind the gate, the file is settled with it
  pub settled_after : IfSome old.bytes (λ b. new.bytes ≡ Some (overwritten (overwritten b (at + 1) block) at (1 ∷ []))) → is_some new.bytes ≡ is_some old.bytes → IfSome new.bytes (λ b. Only b new)
      → IsSettled false new (at + 1 + length inner) true (marks ++ m ∷ [])
  settled_after writes told durable going = told_too old.bytes new.bytes _ told (λ b is after new_is.
      let f = told_of old.bytes b (IsFiled old at switched marks) is (settled refl) in
      let i = fits b f in
      let file = finished mark_form old at f.state f.groups b f.ready inner i.then i.all i.is_front in
      let written : new.bytes ≡ Some file = told_of old.bytes b (λ l. new.bytes ≡ Some (overwritten (overwritten l (at + 1) block) at (1 ∷ []))) is writes in
      let only : Only file new = told_of new.bytes file (λ l. Only l new) written durable in
      told_of (Some file) after (IsFiled new (at + 1 + length inner) true (marks ++ m ∷ [])) (sym written ∙ new_is) (record {
        state = i.then;
        groups = i.all;
        ready = finished_ready mark_form old at f.state f.groups b f.ready inner i.then i.all i.is_front new only;
        lists = i.lists;
        coded = i.coded;
      }))

  -- at each moment of it a crash leaves the marks before, or these with the new one
  pub moments_with : IfSome old.bytes (λ b. at < length b → Only b old → LeavesOnly old new (IsAround b at block)) → IfSome old.bytes (λ _. LeavesOnly old new (KeepsBeforeOrWith marks m))
  moments_with around = if_some old.bytes _ (λ b is.
      let f = told_of old.bytes b (IsFiled old at switched marks) is (settled refl) in
      let i = fits b f in
      let told = told_of old.bytes b (λ l. at < length l → Only l old → LeavesOnly old new (IsAround l at block)) is around f.ready.gate f.ready.durable in
      leaves_less old new (IsAround b at block) (KeepsBeforeOrWith marks m) (λ c there. elim (around_keeps mark_form old at f.state f.groups b f.ready inner i.then i.all i.is_front c there) [
        | inl before ↦ inl (ap (option_map (listed 0 [])) before ∙ ap Some (ap (listed 0 []) (sym (append-nil f.groups)) ∙ f.lists []))
        | inr with_it ↦ inr (ap (option_map (listed 0 [])) with_it ∙ ap Some (ap (listed 0 []) (sym (append-nil i.all)) ∙ i.lists []))
      ]) told)

-- while nothing is written each crash leaves the marks
pub moments_same : (disk : DiskTells) (at : ℕ) (switched : Bool) (marks : List NoteMark) (m : NoteMark) → IsLawful disk → IsSettled false disk at switched marks → IfSome disk.bytes (λ _. LeavesOnly disk disk (KeepsBeforeOrWith marks m))
moments_same disk at switched marks m lawful settled = if_some disk.bytes _ (λ b is.
    let keeps = told_of disk.bytes b (λ _. (c : List ℕ) → disk.images c → marks_in c ≡ Some marks) is (settled_keeps disk at switched marks settled) in
    (started (KeepsBeforeOrWith marks m) disk lawful (λ c image. inl (keeps c image))).moments)
