-- What was read of a file.
use Rattle.std.proofs.Common.{◌≡◌, ◌≢◌, ◌∙◌, ◌⊎◌, inl, inr, ℕ, ◌+◌, ◌*◌, ◌^◌, ◌<◌, ◌≤◌, ◌==◌, true, false, List, [], ◌∷◌, ◌++◌, length, take, drop, get_or, map, Some, None, refl, sym, ap, subst, arith, append_assoc, append-nil}
use Rattle.std.specs.List.{list_any}
use Rattle.std.specs.Int.{bit_at}
use Rattle.std.specs.Int.Bits.{bit_or}
use Rattle.gated_file.specs.Groups.{Damaged, kept_from, IsFront, IsReadable}
use Rattle.gated_file.proofs.Fronts.{front_none}
use Rattle.alert_queue.specs.declared.types.Mark.{Mark}
use Rattle.alert_queue.specs.declared.types.Mark.TheVariants.{Done, Failed}
use Rattle.alert_queue.specs.declared.types.NoteMark.{NoteMark}
use Rattle.alert_marks.specs.declared.reading.Reader.{Reader}
use Rattle.alert_marks.specs.Marks.{byte_of, mark_of, mark_form, is_switched, is_marked, size_in, state_behind, marks_by, listed, has_mark, IsCoded}
use Rattle.alert_marks.specs.Reading.{mark_at, numbered_behind, plain_behind, notes_of, IsOurs, IsRead}
use Rattle.alert_marks.proofs.States.{coded_none, coded_switch, coded_numbered, coded_plain, plain_free}
use Rattle.alert_marks.proofs.Marking.{mark_back, switch_readable, behind_switch, by_switch}
use Rattle.alert_marks.proofs.Meeting.{met_marked, notes_push}
use Rattle.alert_marks.proofs.Passing.{damaged_here, next_front, next_inside, group_found, zero_number, met_number, no_group, byte_found, plain_readable, no_plain, mark_byte_is}

-- nothing yet
pub none_read : (bytes : List ℕ) (reader : Reader) → IsOurs bytes → reader.gate ≡ 8 → reader.is_numbered ≡ false → reader.list.items ≡ [] → reader.seen ≡ [] → IsRead bytes reader
none_read bytes reader ours gate plain empty unseen = record {
  state = 0;
  groups = [];
  front = rw gate (subst (λ (l : List ℕ). IsFront mark_form 0 [] l) (sym ours.0) (front_none mark_form refl));
  inside = rw gate ours.1;
  lists = λ more. rw empty refl;
  coded = rw (plain, empty) coded_none;
  seen_are = rw (unseen, empty) refl;
}

module _ (b : List ℕ) (r : Reader) (read : IsRead b r) (is_open : get_or b r.gate 0 ≡ 1) where
  abbrev behind : List ℕ
  behind = drop (r.gate + 1) b

  abbrev items : List NoteMark
  items = r.list.items

  pub damaged_at : (at : ℕ) → r.gate ≡ at → size_in read.state (drop (r.gate + 1) b) ≡ None → kept_from mark_form b ≡ Damaged at
  damaged_at at same none = damaged_here b r.gate read.state read.groups read.front read.inside is_open none ∙ ap Damaged same

  -- a group was passed
  passed : (r' : Reader) (g : List ℕ) (gate : ℕ) (rest : List ℕ) (then : ℕ) → behind ≡ g ++ gate ∷ rest → IsReadable mark_form read.state g → r'.gate ≡ r.gate + 1 + length g
      → state_behind read.state g ≡ then → items ++ marks_by read.state (length items) g ≡ r'.list.items → IsCoded then r'.is_numbered r'.list.items → r'.seen ≡ notes_of r'.list.items → IsRead b r'
  passed r' g gate rest then is readable end next goes coded seen = record {
    state = then;
    groups = read.groups ++ g ∷ [];
    front = subst (λ (s : ℕ). IsFront mark_form s (read.groups ++ g ∷ []) (take r'.gate b)) next
        (next_front b r.gate read.state read.groups read.front read.inside is_open g gate rest r'.gate is readable end);
    inside = next_inside b r.gate read.state read.groups read.front read.inside is_open g gate rest r'.gate is readable end;
    lists = λ more.
        ap (listed 0 []) (append_assoc read.groups (g ∷ []) more) ∙ read.lists (g ∷ more)
        ∙ ap (λ (s : ℕ). listed s (items ++ marks_by read.state (length items) g) more) next
        ∙ ap (λ (l : List NoteMark). listed then l more) goes;
    coded = coded;
    seen_are = seen;
  }

  pub passes_numbered : (m : NoteMark) (r' : Reader) → r.is_numbered ≡ true → numbered_behind (drop (r.gate + 1) b) ≡ Some m → 0 ≢ m.note → list_any (λ (n : ℕ). n == m.note) r.seen ≡ false
      → r'.gate ≡ r.gate + 6 → r'.is_numbered ≡ r.is_numbered → r'.list.items ≡ r.list.items ++ m ∷ [] → r'.seen ≡ r.seen ++ m.note ∷ [] → IsRead b r'
  passes_numbered m r' numbered there nonzero unmet gate_is same list_is seen_is =
      let found = group_found behind m there in
      let some : 1 ≤ m.note = omega (arith, nonzero) in
      let switched : is_switched read.state ≡ true = read.coded.switched_is ∙ numbered in
      let free : has_mark items m.note ≡ false = sym (met_marked items m.note) ∙ ap (λ (l : List ℕ). list_any (λ (n : ℕ). n == m.note) l) (sym read.seen_are) ∙ unmet in
      let readable = found.whole read.state switched some (read.coded.each m.note some ∙ free) in
      let then = bit_or read.state (2 ^ m.note) in
      let number = found.number in let byte = found.byte in
      let next : state_behind read.state found.group ≡ then = rw (switched, number) refl in
      let marks : marks_by read.state (length items) found.group ≡ m ∷ [] = rw (switched, number, byte, mark_back m.mark) refl in
      let coded = coded_numbered read.state items m some (subst (λ n. IsCoded read.state n items) numbered read.coded) in
      passed r' found.group found.gate found.rest then found.is readable (omega (arith, gate_is, found.five)) next (ap (λ (l : List NoteMark). items ++ l) marks ∙ sym list_is)
      (subst (λ (l : List NoteMark). IsCoded then r'.is_numbered l) (sym list_is) (subst (λ n. IsCoded then n (items ++ m ∷ [])) (sym (same ∙ numbered)) coded))
      (seen_is ∙ ap (λ (l : List ℕ). l ++ m.note ∷ []) read.seen_are ∙ sym (notes_push items m) ∙ ap notes_of (sym list_is))

  pub damaged_none : r.is_numbered ≡ true → numbered_behind (drop (r.gate + 1) b) ≡ None → (at : ℕ) → r.gate ≡ at → kept_from mark_form b ≡ Damaged at
  damaged_none numbered none at same = damaged_at at same (no_group behind read.state none (read.coded.switched_is ∙ numbered))

  pub damaged_zero : (m : NoteMark) → r.is_numbered ≡ true → numbered_behind (drop (r.gate + 1) b) ≡ Some m → m.note ≡ 0 → (at : ℕ) → r.gate ≡ at → kept_from mark_form b ≡ Damaged at
  damaged_zero m numbered there zero at same = damaged_at at same (zero_number behind m read.state (group_found behind m there) zero (read.coded.switched_is ∙ numbered))

  pub damaged_met : (m : NoteMark) → r.is_numbered ≡ true → numbered_behind (drop (r.gate + 1) b) ≡ Some m → 0 ≢ m.note → list_any (λ (n : ℕ). n == m.note) r.seen ≡ true → (at : ℕ) → r.gate ≡ at → kept_from mark_form b ≡ Damaged at
  damaged_met m numbered there nonzero met at same =
      let marked : has_mark items m.note ≡ true = sym (met_marked items m.note) ∙ ap (λ (l : List ℕ). list_any (λ (n : ℕ). n == m.note) l) (sym read.seen_are) ∙ met in
      damaged_at at same (met_number behind m read.state (group_found behind m there) (read.coded.each m.note (omega (arith, nonzero)) ∙ marked) (read.coded.switched_is ∙ numbered))

  pub passes_switch : (r' : Reader) → r.is_numbered ≡ false → plain_behind (drop (r.gate + 1) b) ≡ 50 → r'.gate ≡ r.gate + 2 → r'.is_numbered ≡ true → r'.list.items ≡ r.list.items → r'.seen ≡ r.seen → IsRead b r'
  passes_switch r' plain there gate_is now list_is seen_is =
      let found = byte_found behind 50 there (λ (e : 0 ≡ 50). omega (arith, e)) in
      let unswitched : is_switched read.state ≡ false = read.coded.switched_is ∙ plain in
      let then = bit_or read.state (2 ^ 0) in
      let coded = coded_switch read.state items (subst (λ n. IsCoded read.state n items) plain read.coded) in
      passed r' (50 ∷ []) found.gate found.rest then found.is (switch_readable read.state unswitched) (omega (arith, gate_is)) (behind_switch read.state unswitched)
      (ap (λ (l : List NoteMark). items ++ l) (by_switch read.state (length items) unswitched) ∙ append-nil items ∙ sym list_is)
      (subst (λ (l : List NoteMark). IsCoded then r'.is_numbered l) (sym list_is) (subst (λ n. IsCoded then n items) (sym now) coded))
      (seen_is ∙ read.seen_are ∙ ap notes_of (sym list_is))

  pub passes_plain : (mark : Mark) (m : NoteMark) (r' : Reader) → r.is_numbered ≡ false → mark_at (plain_behind (drop (r.gate + 1) b)) ≡ Some mark → m ≡ record { note = length r.list.items + 1; mark = mark }
      → r'.gate ≡ r.gate + 2 → r'.is_numbered ≡ r.is_numbered → r'.list.items ≡ r.list.items ++ m ∷ [] → r'.seen ≡ r.seen ++ m.note ∷ [] → IsRead b r'
  passes_plain mark m r' plain there m_is gate_is same list_is seen_is =
      let byte : plain_behind behind ≡ byte_of mark = mark_byte_is (plain_behind behind) mark there in
      let found = byte_found behind (byte_of mark) byte (nonzero mark) in
      let unswitched : is_switched read.state ≡ false = read.coded.switched_is ∙ plain in
      let then = 2 * read.state + 2 in
      let coded = coded_plain read.state items m (ap (λ (x : NoteMark). x.note) m_is) (subst (λ n. IsCoded read.state n items) plain read.coded) in
      passed r' (byte_of mark ∷ []) found.gate found.rest then found.is (plain_readable read.state mark unswitched) (omega (arith, gate_is)) (next mark unswitched)
      (ap (λ (l : List NoteMark). items ++ l) (marks mark unswitched ∙ ap (λ (x : NoteMark). x ∷ []) (sym m_is)) ∙ sym list_is)
      (subst (λ (l : List NoteMark). IsCoded then r'.is_numbered l) (sym list_is) (subst (λ n. IsCoded then n (items ++ m ∷ [])) (sym (same ∙ plain)) coded))
      (seen_is ∙ ap (λ (l : List ℕ). l ++ m.note ∷ []) read.seen_are ∙ sym (notes_push items m) ∙ ap notes_of (sym list_is))
    where
      nonzero : (mark : Mark) → 0 ≢ byte_of mark
      nonzero Done e = omega (arith, e)
      nonzero Failed e = omega (arith, e)

      next : (mark : Mark) → is_switched read.state ≡ false → state_behind read.state (byte_of mark ∷ []) ≡ 2 * read.state + 2
      next Done plain = rw plain refl
      next Failed plain = rw plain refl

      marks : (mark : Mark) → is_switched read.state ≡ false → marks_by read.state (length r.list.items) (byte_of mark ∷ []) ≡ record { note = length r.list.items + 1; mark = mark } ∷ []
      marks Done plain = rw plain refl
      marks Failed plain = rw plain refl

  -- the next note in order has no mark yet
  pub unmet_next : r.is_numbered ≡ false → list_any (λ (n : ℕ). n == length r.list.items + 1) r.seen ≡ false
  unmet_next plain =
      ap (λ (l : List ℕ). list_any (λ (n : ℕ). n == length items + 1) l) read.seen_are ∙ met_marked items (length items + 1)
      ∙ plain_free read.state items (subst (λ n. IsCoded read.state n items) plain read.coded)

  pub damaged_plain : r.is_numbered ≡ false → mark_at (plain_behind (drop (r.gate + 1) b)) ≡ None → (plain_behind (drop (r.gate + 1) b) ≢ 50) → (at : ℕ) → r.gate ≡ at → kept_from mark_form b ≡ Damaged at
  damaged_plain plain none other at same = damaged_at at same (no_plain behind read.state none other (read.coded.switched_is ∙ plain))
