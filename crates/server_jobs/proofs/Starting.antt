-- The queue at first, and the marks of notes that aren't there.
use Rattle.std.proofs.Common.{◌≡◌, ◌≢◌, ◌∙◌, inl, inr, ℕ, zero, suc, ◌+◌, ◌-◌, ◌^◌, ◌<◌, ◌≤◌, ◌==◌, ◌||◌, Bool, true, false, List, [], ◌∷◌, ◌++◌, length, map, take, drop, replicate, get_or, slice_index_or, slice_set, Some, None, refl, sym, ap, subst, arith, eq-eqb, get_or-set_same, get_or-set_other}
use Rattle.std.specs.Prelude.{All, unwrap_or, if◌then◌else◌}
use Rattle.std.specs.Str.{bytes_eq}
use Rattle.std.proofs.lemmas.Bool.{cases_lt, cases_eq, ne_eqb, lt-ltb, le-ltb}
use Rattle.std.proofs.lemmas.List.{ext_get_or, get_or-map, get_or-replicate, length-map, take_more, take_all, drop_more, drop_all}
use Rattle.std.proofs.lemmas.List.FromFn.{get_or-map-range_with_len, length-map-range_with_len}
use Rattle.std.proofs.lemmas.List.Elements.{All-from_get_or}
use Rattle.alert_marks.specs.Marks.{has_mark, AreOnce}
use Rattle.alert_marks.proofs.States.{marked_push}
use Rattle.alert_media.specs.Media.{IsLimited, entry_of}
use Rattle.alert_media.specs.declared.media.Media.{Media}
use Rattle.alert_media.specs.declared.media.Medium.{Medium}
use Rattle.alert_queue.specs.declared.types.Kind.{Kind}
use Rattle.alert_queue.specs.declared.types.NoteMark.{NoteMark}
use Rattle.alert_run.specs.declared.types.Note.{Note}
use Rattle.server_jobs.specs.Tries.{medium_for}
use Rattle.server_jobs.specs.Numbering.{kind_for, IsNumbering, marked_in, AreWithin, first_above, ahead_of}
use Rattle.server_jobs.specs.declared.recipients.Numbered.{Numbered}

-- ---- marks of notes that aren't there

pub above_here : (total i : ℕ) (marks : List NoteMark) (d : NoteMark) → i < length marks → total < (slice_index_or marks i d).note → first_above total (drop i marks) ≡ first_above total marks
    → Some (slice_index_or marks i d).note ≡ first_above total marks
above_here total i marks d inside above left =
    let m : NoteMark = slice_index_or marks i d in
    ap (λ (b : Bool). if b then Some m.note else first_above total (drop (i + 1) marks)) (sym (lt-ltb total m.note above))
    ∙ ap (first_above total) (sym (drop_more marks i d inside)) ∙ left

pub above_next : (total i : ℕ) (marks : List NoteMark) (d : NoteMark) → i < length marks → (slice_index_or marks i d).note ≤ total → first_above total (drop i marks) ≡ first_above total marks
    → first_above total (drop (i + 1) marks) ≡ first_above total marks
above_next total i marks d inside low left =
    let m : NoteMark = slice_index_or marks i d in
    ap (λ (b : Bool). if b then Some m.note else first_above total (drop (i + 1) marks)) (sym (le-ltb total m.note low))
    ∙ ap (first_above total) (sym (drop_more marks i d inside)) ∙ left

pub above_none : (total i : ℕ) (marks : List NoteMark) → length marks ≤ i → first_above total (drop i marks) ≡ first_above total marks → None ≡ first_above total marks
above_none total i marks past left = ap (first_above total) (sym (drop_all i marks past)) ∙ left

-- where there are none, each mark is of a note that is there
pub within_all : (marks : List NoteMark) (total : ℕ) → first_above total marks ≡ None → AreWithin total marks
within_all [] total none = tt
within_all (mark ∷ marks) total none = elim (cases_lt total mark.note) [
  | inl above ↦ absurd (no (ap (λ (b : Bool). if b then Some mark.note else first_above total marks) (sym (lt-ltb total mark.note above)) ∙ none))
  | inr low ↦ (low, within_all marks total (ap (λ (b : Bool). if b then Some mark.note else first_above total marks) (sym (le-ltb total mark.note low)) ∙ none))
]
  where
    no : Some mark.note ≡ None → ⊥
    no same = cc

pub within_ahead : (marks : List NoteMark) (total : ℕ) → ahead_of total marks ≡ None → AreWithin total marks
within_ahead marks total none = elim (cases_lt total (length marks)) [
  | inl more ↦ absurd (no (ap (λ (b : Bool). if b then Some (length marks) else first_above total marks) (sym (lt-ltb total (length marks) more)) ∙ none))
  | inr few ↦ within_all marks total (ap (λ (b : Bool). if b then Some (length marks) else first_above total marks) (sym (le-ltb total (length marks) few)) ∙ none)
]
  where
    no : Some (length marks) ≡ None → ⊥
    no same = cc

-- ---- which notes have a mark

pub note_low : (marks : List NoteMark) (i : ℕ) (d : NoteMark) → AreOnce marks → i < length marks → 1 ≤ (slice_index_or marks i d).note
note_low [] i d once inside = absurd (omega arith)
note_low (m ∷ marks) zero d once inside = once.0
note_low (m ∷ marks) (suc i) d once inside = note_low marks i d once.2 (omega arith)

pub note_high : (marks : List NoteMark) (i total : ℕ) (d : NoteMark) → AreWithin total marks → i < length marks → (slice_index_or marks i d).note ≤ total
note_high [] i total d within inside = absurd (omega arith)
note_high (m ∷ marks) zero total d within inside = within.0
note_high (m ∷ marks) (suc i) total d within inside = note_high marks i total d within.1 (omega arith)

pub none_marked : (total n : ℕ) (marked : List Bool) (marks : List NoteMark) → marked ≡ replicate total false → 1 ≤ n → n ≤ total → slice_index_or marked (n - 1) false ≡ has_mark (take 0 marks) n
none_marked total n marked marks is low high = ap (λ (l : List Bool). slice_index_or l (n - 1) false) is ∙ get_or-replicate total (n - 1) false false (omega (arith, low, high))

either_true : (b : Bool) → true ≡ (b || true)
either_true true = refl
either_true false = refl

either_false : (b : Bool) → b ≡ (b || false)
either_false true = refl
either_false false = refl

pub one_marked : (total i : ℕ) (marked new : List Bool) (marks : List NoteMark) (mark d : NoteMark) → i < length marks → mark ≡ slice_index_or marks i d → 1 ≤ mark.note → mark.note ≤ total → length marked ≡ total
    → ((n : ℕ) → 1 ≤ n → n ≤ total → slice_index_or marked (n - 1) false ≡ has_mark (take i marks) n) → new ≡ slice_set marked (mark.note - 1) true
    → (n : ℕ) → 1 ≤ n → n ≤ total → slice_index_or new (n - 1) false ≡ has_mark (take (i + 1) marks) n
one_marked total i marked new marks mark d inside is low high count each new_is n some few =
    let more : has_mark (take (i + 1) marks) n ≡ (has_mark (take i marks) n || (mark.note == n)) =
    ap (λ (l : List NoteMark). has_mark l n) (take_more marks i d inside) ∙ ap (λ (m : NoteMark). has_mark (take i marks ++ m ∷ []) n) (sym is) ∙ marked_push (take i marks) mark n in
    elim (cases_eq mark.note n) [
      | inl same ↦
          let at : slice_index_or new (n - 1) false ≡ true =
          ap (λ (l : List Bool). slice_index_or l (n - 1) false) new_is
          ∙ ap (λ (k : ℕ). slice_index_or (slice_set marked (k - 1) true) (n - 1) false) same
          ∙ get_or-set_same marked (n - 1) true false (omega (arith, count, some, few)) in
          at ∙ either_true (has_mark (take i marks) n) ∙ ap (λ (b : Bool). has_mark (take i marks) n || b) (sym (eq-eqb mark.note n same)) ∙ sym more
      | inr other ↦
          let apart : n - 1 ≢ mark.note - 1 = λ e. other (omega (arith, e, low, some)) in
          ap (λ (l : List Bool). slice_index_or l (n - 1) false) new_is
          ∙ get_or-set_other marked (mark.note - 1) (n - 1) true false apart
          ∙ each n some few ∙ either_false (has_mark (take i marks) n) ∙ ap (λ (b : Bool). has_mark (take i marks) n || b) (sym (ne_eqb mark.note n other)) ∙ sym more
    ]

pub all_marked : (total i : ℕ) (marked : List Bool) (marks : List NoteMark) → length marks ≤ i → length marked ≡ total
    → ((n : ℕ) → 1 ≤ n → n ≤ total → slice_index_or marked (n - 1) false ≡ has_mark (take i marks) n) → marked ≡ marked_in total marks
all_marked total i marked marks past count each =
    ext_get_or false marked (marked_in total marks) (count ∙ sym (length-map-range_with_len (λ (n : ℕ). has_mark marks n) 1 total))
    (λ k inside.
    let small : k < total = omega (arith, inside, count) in
    let place : suc k - 1 ≡ k = omega arith in
    ap (λ (j : ℕ). slice_index_or marked j false) (sym place) ∙ each (suc k) (omega arith) (omega (arith, small)) ∙ ap (λ (l : List NoteMark). has_mark l (suc k)) (take_all i marks past)
    ∙ sym (get_or-map-range_with_len (λ (n : ℕ). has_mark marks n) 1 total k (suc k) false small (omega arith)))

-- ---- what a queue is made of

pub marked_count : (total : ℕ) (marks : List NoteMark) → length (marked_in total marks) ≡ total
marked_count total marks = length-map-range_with_len (λ (n : ℕ). has_mark marks n) 1 total

module _ (media : Media) (notes : List Note) (n : Numbered) (is : IsNumbering media notes n) where
  kinds_count : length n.kinds.items ≡ length n.recipients
  kinds_count = ap length is.kinds_are ∙ length-map n.recipients (kind_for media)

  pub homes_there : All (λ home. home < length n.kinds.items) n.homes.items
  homes_there = All-from_get_or (λ (home : ℕ). home < length n.kinds.items) n.homes.items 0 (λ i inside.
      let low = (is.numbered.there i (omega (arith, inside, is.numbered.count))).0 in omega (arith, low, kinds_count))

  pub few_kinds : length notes < 2 ^ 32 → length n.kinds.items < 2 ^ 32
  few_kinds few = omega (arith, few, kinds_count, is.few)

found_limited : (entries : List Medium) (recipient : List ℕ) (other : Medium) → All IsLimited entries → 1 ≤ other.attempts → 0 < (unwrap_or (entry_of entries recipient) other).attempts
found_limited [] recipient other limited some = some
found_limited (m ∷ entries) recipient other limited some =
    go (bytes_eq m.recipient recipient) refl (found_limited entries recipient other (λ k d inside. limited (suc k) d (omega arith)) some)
  where
    go : (b : Bool) → bytes_eq m.recipient recipient ≡ b → 0 < (unwrap_or (entry_of entries recipient) other).attempts → 0 < (unwrap_or (entry_of (m ∷ entries) recipient) other).attempts
    go true e rest = rw e (limited 0 m (omega arith)).0
    go false e rest = rw e rest

pub limited_for : (media : Media) (recipient : List ℕ) → All IsLimited media.entries → 1 ≤ media.attempts → 0 < (medium_for media recipient).attempts
limited_for media recipient limited some = found_limited media.entries recipient (record { recipient = recipient; command = media.command; attempts = media.attempts; interval = 10 }) limited some

kinds_so : (media : Media) (recipients : List (List ℕ)) → All IsLimited media.entries → 1 ≤ media.attempts → All (λ kind. 0 < kind.limit) (map (kind_for media) recipients)
kinds_so media recipients limited some = All-from_get_or (λ (kind : Kind). 0 < kind.limit) (map (kind_for media) recipients) (kind_for media []) (λ i inside.
    let there : i < length recipients = omega (arith, inside, length-map recipients (kind_for media)) in
    subst (λ (k : Kind). 0 < k.limit) (sym (get_or-map (kind_for media) recipients i [] (kind_for media []) there)) (limited_for media (get_or recipients i []) limited some))

pub kinds_limited : (media : Media) (notes : List Note) (n : Numbered) → IsNumbering media notes n → All IsLimited media.entries → 1 ≤ media.attempts → All (λ kind. 0 < kind.limit) n.kinds.items
kinds_limited media notes n is limited some = subst (λ (ks : List Kind). All (λ kind. 0 < kind.limit) ks) (sym is.kinds_are) (kinds_so media n.recipients limited some)
