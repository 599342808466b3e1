-- What sessions did, over a queue that was made of notes and their marks.
use Rattle.std.proofs.Common.{◌≡◌, ◌≢◌, ◌⊎◌, ◌∙◌, inl, inr, ℕ, zero, suc, ◌+◌, ◌-◌, ◌<◌, ◌≤◌, ◌==◌, ◌&&◌, ◌||◌, Bool, true, false, cond, List, [], ◌∷◌, ◌++◌, length, map, take, get_or, slice_index, Option, Some, None, IfSome, refl, sym, ap, ap₂, subst, arith, eq-eqb, append-nil}
use Rattle.std.specs.Prelude.{All, not, option_map}
use Rattle.std.specs.List.{list_any, slice_get, range_with_len}
use Rattle.std.proofs.lemmas.Bool.{cases_eq, cases_lt, ne_eqb}
use Rattle.std.proofs.lemmas.List.{get_or-map, length-map, take-append-le, take_all, get_or_append_left, length-append}
use Rattle.std.proofs.lemmas.List.Elements.{All-from_get_or}
use Rattle.std.proofs.lemmas.List.Folds.{list_any-append, list_any_none}
use Rattle.std.proofs.lemmas.List.Sums.{sum_by-cons}
use Rattle.std.proofs.lemmas.Option.{slice_get-map, slice_get-get_or, slice_get_within, get_or_from_slice_get}
use Rattle.outside.specs.Disk.{DiskTells, LeavesOnly}
use Rattle.outside.specs.Spawning.{SpawnerTells}
use Rattle.outside.specs.declared.spawner.Run.{Run}
use Rattle.gated_file.proofs.Moments.{if_some, told_of}
use Rattle.gated_file.proofs.Openings.{leaves_less}
use Rattle.alert_marks.specs.Marks.{marks_in, has_mark, AreOnce, EachKeeps}
use Rattle.alert_marks.specs.declared.types.AddError.{AddError}
use Rattle.alert_marks.specs.declared.types.AddError.TheVariants as error
use Rattle.alert_media.specs.declared.media.Media.{Media}
use Rattle.alert_queue.specs.Lanes.{Laned}
use Rattle.alert_queue.specs.Law.{marks_at, AreRising}
use Rattle.alert_queue.specs.New.{notes_of, kind_at}
use Rattle.alert_queue.specs.Queues.{Queued, lane_at, home, home_in}
use Rattle.alert_queue.specs.declared.types.Kind.{Kind}
use Rattle.alert_queue.specs.declared.types.NoteMark.{NoteMark}
use Rattle.alert_run.specs.declared.types.Note.{Note}
use Rattle.alert_sessions.specs.Calls.{AreUnmarked, AreInOrder, EachMarked, IsKnown, failing, limits_of as limits_in, failures_of as failures_in}
use Rattle.alert_sessions.specs.OnDisk.{IsOnDisk, KeepsFront as KeepsFrom}
use Rattle.alert_sessions.specs.Runs.{IsRunOf}
use Rattle.alert_sessions.specs.Worked.{CameTo}
use Rattle.alert_sessions.specs.declared.orders.Orders.{Orders}
use Rattle.server_words.specs.declared.status.Status.TheVariants as status
use Rattle.server_jobs.specs.Tries.{medium_for, note_at, no_note}
use Rattle.server_jobs.specs.Numbering.{recipient_at, kind_for, marked_in, AreWithin}
use Rattle.server_jobs.specs.Turning.{IsMarkedSo}
use Rattle.server_jobs.specs.Working.{AreMarked, EndsTries, KeepsSome}
use Rattle.server_jobs.specs.Sessions.{IsRunFor, limits_of, failures_of, AreOfFirst, WorkTogetherIfAny, AreOrders, command_for, stopped_for}
use Rattle.server_jobs.specs.declared.recipients.Numbered.{Numbered}
use Rattle.server_jobs.proofs.Beginning.{known_new}
use Rattle.server_jobs.proofs.Ending.{marked_all}

-- ---- marks

abbrev numbers : List NoteMark → List ℕ
numbers ms = map (λ (m : NoteMark). m.note) ms

or_left : (a b : Bool) → (a || b) ≡ false → a ≡ false
or_left false b e = refl
or_left true b e = cc

or_right : (a b : Bool) → b ≡ true → (a || b) ≡ true
or_right true b e = refl
or_right false b e = e

or_first : (a b : Bool) → a ≡ true → (a || b) ≡ true
or_first a b e = ap (λ (x : Bool). x || b) e

neither : (a b : Bool) → a ≡ false → b ≡ false → (a || b) ≡ false
neither a b e f = ap (λ (x : Bool). x || b) e ∙ f

not_back : (a b : Bool) → a ≡ not b → a ≡ true → b ≡ false
not_back true true e is = cc
not_back true false e is = refl
not_back false b e is = cc

not_forth : (a b : Bool) → a ≡ not b → a ≡ false → b ≡ true
not_forth false true e is = refl
not_forth false false e is = cc
not_forth true b e is = cc

-- a note's mark is among those of its recipient
mark_at : (homes : List ℕ) (made : List NoteMark) (n : ℕ) → has_mark made n ≡ has_mark (marks_at homes (home_in homes n) made) n
mark_at homes [] n = refl
mark_at homes (m ∷ made) n = elim (cases_eq (home_in homes m.note) (home_in homes n)) [
  | inl same ↦
      let test : (home_in homes m.note == home_in homes n) ≡ true = eq-eqb (home_in homes m.note) (home_in homes n) same in
      rw test (ap (λ (b : Bool). (m.note == n) || b) (mark_at homes made n))
  | inr other ↦
      let test : (home_in homes m.note == home_in homes n) ≡ false = ne_eqb (home_in homes m.note) (home_in homes n) other in
      let apart : (m.note == n) ≡ false = ne_eqb m.note n (λ e. other (ap (home_in homes) e)) in
      rw test (ap (λ (b : Bool). b || has_mark made n) apart ∙ mark_at homes made n)
]

mark_numbers : (ms : List NoteMark) (n : ℕ) → has_mark ms n ≡ list_any (λ (k : ℕ). k == n) (numbers ms)
mark_numbers [] n = refl
mark_numbers (m ∷ ms) n = ap (λ (b : Bool). (m.note == n) || b) (mark_numbers ms n)

mark_among : (homes : List ℕ) (made : List NoteMark) (n : ℕ) → has_mark made n ≡ list_any (λ (k : ℕ). k == n) (numbers (marks_at homes (home_in homes n) made))
mark_among homes made n = mark_at homes made n ∙ mark_numbers (marks_at homes (home_in homes n) made) n

-- ---- no note has two

rising_front : (xs ys : List ℕ) → AreRising (xs ++ ys) → AreRising xs
rising_front xs ys rising i j less inside =
    let long = length-append xs ys in
    let up = rising i j less (omega (arith, inside, long)) in
    omega (arith, up, get_or_append_left xs ys 0 i (omega (arith, less, inside)), get_or_append_left xs ys 0 j inside)

rising_rest : (x : ℕ) (xs : List ℕ) → AreRising (x ∷ xs) → AreRising xs
rising_rest x xs rising i j less inside = rising (suc i) (suc j) (omega (arith, less)) (omega (arith, inside))

rising_first : (x : ℕ) (xs : List ℕ) → AreRising (x ∷ xs) → list_any (λ (k : ℕ). k == x) xs ≡ false
rising_first x xs rising = list_any_none (λ (k : ℕ). k == x) xs (All-from_get_or (λ (k : ℕ). (k == x) ≡ false) xs 0 (λ i inside.
    let up : x < slice_index xs i = rising 0 (suc i) (omega arith) (omega (arith, inside)) in
    ne_eqb (slice_index xs i) x (λ e. apart (slice_index xs i) e up)))
  where
    apart : (k : ℕ) → k ≡ x → x < k → ⊥
    apart k e less = omega (arith, e, less)

abbrev RiseAll : List ℕ → ℕ → List NoteMark → Type 0
RiseAll homes lanes made = (r : ℕ) → r < lanes → AreRising (numbers (marks_at homes r made))

rise_less : (homes : List ℕ) (r : ℕ) (m : NoteMark) (made : List NoteMark) → AreRising (numbers (marks_at homes r (m ∷ made))) → AreRising (numbers (marks_at homes r made))
rise_less homes r m made = go (home_in homes m.note == r)
  where
    go : (b : Bool) → AreRising (numbers (cond b (m ∷ marks_at homes r made) (marks_at homes r made))) → AreRising (numbers (marks_at homes r made))
    go true rising = rising_rest m.note (numbers (marks_at homes r made)) rising
    go false rising = rising

rise_first : (homes : List ℕ) (m : NoteMark) (made : List NoteMark) → AreRising (numbers (marks_at homes (home_in homes m.note) (m ∷ made))) → AreRising (m.note ∷ numbers (marks_at homes (home_in homes m.note) made))
rise_first homes m made = go (home_in homes m.note == home_in homes m.note) (eq-eqb (home_in homes m.note) (home_in homes m.note) refl)
  where
    go : (b : Bool) → b ≡ true → AreRising (numbers (cond b (m ∷ marks_at homes (home_in homes m.note) made) (marks_at homes (home_in homes m.note) made)))
        → AreRising (m.note ∷ numbers (marks_at homes (home_in homes m.note) made))
    go true is rising = rising
    go false is rising = cc

once_made : (queue : Queued) (made : List NoteMark) → All (IsKnown queue) made → RiseAll queue.homes (length queue.lanes) made → AreOnce made
once_made queue [] known rising = tt
once_made queue (m ∷ made) known rising =
    let first = known 0 m (omega arith) in
    let up = rise_first queue.homes m made (rising (home queue m.note) first.there) in (
      first.numbered,
      mark_among queue.homes made m.note ∙ rising_first m.note (numbers (marks_at queue.homes (home queue m.note) made)) up,
      once_made queue made (λ i d inside. known (suc i) d (omega (arith, inside))) (λ r there. rise_less queue.homes r m made (rising r there)),
    )

once_join : (kept made : List NoteMark) → AreOnce kept → AreOnce made → ((n : ℕ) → has_mark kept n ≡ true → has_mark made n ≡ false) → AreOnce (kept ++ made)
once_join [] made once after apart = after
once_join (k ∷ kept) made once after apart = (
  once.0,
  list_any-append (λ (m : NoteMark). m.note == k.note) kept made
      ∙ neither (has_mark kept k.note) (has_mark made k.note) once.1 (apart k.note (or_first (k.note == k.note) (has_mark kept k.note) (eq-eqb k.note k.note refl))),
  once_join kept made once.2 after (λ n is. apart n (or_right (k.note == n) (has_mark kept n) is)),
)

within_join : (total : ℕ) (kept made : List NoteMark) → AreWithin total kept → ((i : ℕ) (d : NoteMark) → i < length made → (get_or made i d).note ≤ total) → AreWithin total (kept ++ made)
within_join total [] [] within known = tt
within_join total [] (m ∷ made) within known = (known 0 m (omega arith), within_join total [] made tt (λ i d inside. known (suc i) d (omega (arith, inside))))
within_join total (k ∷ kept) made within known = (within.0, within_join total kept made within.1 known)

-- a mark is one of one's own or one before
once_low : (kept : List NoteMark) (n : ℕ) → AreOnce kept → has_mark kept n ≡ true → 1 ≤ n
once_low [] n once is = cc
once_low (k ∷ kept) n once is = elim (cases_eq k.note n) [
  | inl same ↦ omega (arith, same, once.0)
  | inr other ↦ once_low kept n once.2 (sym (ap (λ (b : Bool). b || has_mark kept n) (ne_eqb k.note n other)) ∙ is)
]

within_high : (total : ℕ) (kept : List NoteMark) (n : ℕ) → AreWithin total kept → has_mark kept n ≡ true → n ≤ total
within_high total [] n within is = cc
within_high total (k ∷ kept) n within is = elim (cases_eq k.note n) [
  | inl same ↦ omega (arith, same, within.0)
  | inr other ↦ within_high total kept n within.1 (sym (ap (λ (b : Bool). b || has_mark kept n) (ne_eqb k.note n other)) ∙ is)
]

-- ---- no note of a lane has a mark

unmarked_in : (count r n k : ℕ) (homes : List ℕ) (marks : List NoteMark) → k < length (notes_of r n homes (map (λ note. has_mark marks note) (range_with_len n count)))
    → has_mark marks (slice_index (notes_of r n homes (map (λ note. has_mark marks note) (range_with_len n count))) k) ≡ false
unmarked_in zero r n k [] marks inside = absurd (omega arith)
unmarked_in zero r n k (h ∷ homes) marks inside = absurd (omega arith)
unmarked_in (suc count) r n k [] marks inside = absurd (omega arith)
unmarked_in (suc count) r n k (h ∷ homes) marks inside = go (has_mark marks n) refl (h == r) k (λ j within. unmarked_in count r (n + 1) j homes marks within) inside
  where
    rest : List ℕ
    rest = notes_of r (n + 1) homes (map (λ note. has_mark marks note) (range_with_len (n + 1) count))

    go : (b : Bool) → has_mark marks n ≡ b → (t : Bool) (k : ℕ) → ((j : ℕ) → j < length rest → has_mark marks (slice_index rest j) ≡ false)
        → k < length (cond (not b && t) (n ∷ rest) rest) → has_mark marks (slice_index (cond (not b && t) (n ∷ rest) rest) k) ≡ false
    go true is t k each inside = each k inside
    go false is false k each inside = each k inside
    go false is true zero each inside = is
    go false is true (suc k) each inside = each k (omega (arith, inside))

-- ---- the disk

pub kept_together : (opening disk : DiskTells) (least : ℕ) (list : List NoteMark) (broken : Bool) (stopped : Option AddError) → IsOnDisk opening disk least list broken stopped
    → stopped_for stopped ≢ status.DiskFault → EachKeeps disk list
kept_together opening disk least list broken stopped on other = if_some disk.bytes _ (λ b is c image.
    go c (told_of disk.bytes b (λ _. (c : List ℕ) → disk.images c → (marks_in c ≡ Some list) ⊎ (marks_in c ≡ Some (list ++ on.refused))) is on.keeps c image))
  where
    nothing : on.refused ≡ []
    nothing = on.none (λ e. other (ap stopped_for e))

    go : (c : List ℕ) → (marks_in c ≡ Some list) ⊎ (marks_in c ≡ Some (list ++ on.refused)) → marks_in c ≡ Some list
    go c (inl same) = same
    go c (inr more) = more ∙ ap Some (ap (λ (l : List NoteMark). list ++ l) nothing ∙ append-nil list)

some_from : (least : ℕ) (list more : List NoteMark) (c : List ℕ) → length more ≤ 1 → KeepsFrom least (list ++ more) c → KeepsSome list c
some_from least list [] c one (n, low, is) = inl (n, is ∙ ap (λ (l : List NoteMark). Some (take n l)) (append-nil list))
some_from least list (m ∷ []) c one (n, low, is) = elim (cases_lt (length list) n) [
  | inl past ↦ inr (m, is ∙ ap Some (take_all n (list ++ m ∷ []) (omega (arith, past, length-append list (m ∷ [])))))
  | inr within ↦ inl (n, is ∙ ap Some (take-append-le n list (m ∷ []) (omega (arith, within))))
]
some_from least list (m ∷ k ∷ more) c one keeps = absurd (omega (arith, one))

pub moments_together : (opening disk : DiskTells) (least : ℕ) (list : List NoteMark) (broken : Bool) (stopped : Option AddError) → IsOnDisk opening disk least list broken stopped
    → IfSome opening.bytes (λ _. LeavesOnly opening disk (KeepsSome list))
moments_together opening disk least list broken stopped on = if_some opening.bytes _ (λ b is.
    leaves_less opening disk (KeepsFrom least (list ++ on.refused)) (KeepsSome list) (λ c. some_from least list on.refused c on.one)
    (told_of opening.bytes b (λ _. LeavesOnly opening disk (KeepsFrom least (list ++ on.refused))) is on.moments))

-- ---- what was done

module _ (media : Media) (notes : List Note) (marks : List NoteMark) (queue : Queued) (orders : Orders) (is : AreOrders media notes marks queue orders) where
  abbrev n : Numbered
  n = is.numbered

  homes_count : length queue.homes ≡ length notes
  homes_count = ap length is.is_new.homes_are ∙ is.numbering.numbered.count

  kinds_count : length n.kinds.items ≡ length n.recipients
  kinds_count = ap length is.numbering.kinds_are ∙ length-map n.recipients (kind_for media)

  left_is : (r : ℕ) → r < length n.kinds.items → (lane_at queue r).left ≡ notes_of r 1 n.homes.items (marked_in (length notes) marks)
  left_is r there = ap (λ (l : Laned). l.left) (is.is_new.lanes_are r there)

  pub homes_same : orders.homes.items ≡ queue.homes
  homes_same = is.homes_are ∙ sym is.is_new.homes_are

  pub unmarked : AreUnmarked queue marks
  unmarked r k there inside =
      let left = left_is r (omega (arith, there, is.is_new.count)) in
      subst (λ (ns : List ℕ). has_mark marks (slice_index ns k) ≡ false) (sym left)
      (unmarked_in (length notes) r 1 k n.homes.items marks (omega (arith, inside, ap length left)))

  limit_is : (m : NoteMark) → IsKnown queue m → (lane_at queue (home queue m.note)).limit ≡ (medium_for media (note_at notes m.note).recipient).attempts
  limit_is m known =
      let r = home queue m.note in
      let inside : m.note - 1 < length notes = omega (arith, known.numbered, known.known, homes_count) in
      let home_is : slice_index n.homes.items (m.note - 1) ≡ r = ap (λ (hs : List ℕ). slice_index hs (m.note - 1)) (sym is.is_new.homes_are) in
      let low : r < length n.kinds.items = omega (arith, known.there, is.is_new.count) in
      let there : r < length n.recipients = omega (arith, low, kinds_count) in
      let kind : kind_at n.kinds.items r ≡ kind_for media (recipient_at n.recipients r) =
      ap (λ (ks : List Kind). kind_at ks r) is.numbering.kinds_are ∙ get_or-map (kind_for media) n.recipients r [] (record { limit = 0; interval = 0 }) there in
      let recipient : recipient_at n.recipients r ≡ (note_at notes m.note).recipient = ap (recipient_at n.recipients) (sym home_is) ∙ (is.numbering.numbered.there (m.note - 1) inside).1 in
      ap (λ (l : Laned). l.limit) (is.is_new.lanes_are r low) ∙ ap (λ (k : Kind). k.limit) kind ∙ ap (λ (name : List ℕ). (medium_for media name).attempts) recipient

  limits_same : (made : List NoteMark) → All (IsKnown queue) made → limits_in queue made ≡ limits_of media notes made
  limits_same [] known = refl
  limits_same (m ∷ made) known =
      sum_by-cons (failures_in queue) m made
      ∙ ap₂ (λ (a b : ℕ). a + b) (ap (failing m.mark) (limit_is m (known 0 m (omega arith)))) (limits_same made (λ i d inside. known (suc i) d (omega (arith, inside))))
      ∙ sym (sum_by-cons (failures_of media notes) m made)

  of_first : (made : List NoteMark) → AreInOrder queue made → AreOfFirst notes marks made
  of_first made order = record {
    known = λ i d inside. ((order.each i d inside).numbered, omega (arith, (order.each i d inside).known, homes_count));
    recipients = n.recipients;
    homes = n.homes.items;
    distinct = is.numbering.distinct;
    numbered = is.numbering.numbered;
    in_order = λ r there.
        let low : r < length n.kinds.items = omega (arith, there, kinds_count) in
        let (rest, are) = order.in_order r (omega (arith, low, is.is_new.count)) in
        (rest, ap (λ (hs : List ℕ). numbers (marks_at hs r made) ++ rest) (sym is.is_new.homes_are) ∙ are ∙ left_is r low);
  }

  run_for : (run : Run) → IsRunOf orders run → IsRunFor media notes run
  run_for run one =
      let at : slice_get notes one.place ≡ Some one.note = ap (λ (ns : List Note). slice_get ns one.place) (sym is.notes_are) ∙ one.note_is in
      let inside : one.place < length notes = slice_get_within notes one.place one.note at in
      let h = slice_index n.homes.items one.place in
      let there = is.numbering.numbered.there one.place inside in
      let whose : recipient_at n.recipients h ≡ one.note.recipient = there.1 ∙ ap (λ (m : Note). m.recipient) (get_or_from_slice_get notes one.place one.note no_note at) in
      let found : slice_get (map (command_for media) n.recipients) h ≡ Some run.program =
      ap (λ (cs : List (List ℕ)). slice_get cs h) (sym is.commands_are) ∙ ap (λ (hs : List ℕ). slice_get orders.commands (slice_index hs one.place)) (sym is.homes_are) ∙ one.program_is in
      let made : slice_get (map (command_for media) n.recipients) h ≡ Some (command_for media (recipient_at n.recipients h)) =
      slice_get-map (command_for media) n.recipients h ∙ ap (option_map (command_for media)) (slice_get-get_or n.recipients h [] there.0) in
      let program : run.program ≡ command_for media one.note.recipient = some_same (sym found ∙ made) ∙ ap (command_for media) whose in
      record {
        place = one.place;
        note = one.note;
        note_is = at;
        run_is = ap₂ (λ (p : List ℕ) (args : List (List ℕ)). record { program = p; args = args; ok = run.ok }) program one.args_are;
      }
    where
      some_same : {a b : List ℕ} → Some a ≡ Some b → a ≡ b
      some_same e = cc

  pub works_together : (list : List NoteMark) (stopped : Option AddError) (ss ss' : List SpawnerTells) → CameTo orders queue marks list stopped ss ss' → WorkTogetherIfAny media notes ss ss' marks list
  works_together list stopped ss ss' came = inr (record {
    made = came.made;
    marks_are = came.list_is;
    of_first = of_first came.made came.order;
    runs = came.runs;
    each = λ i d inside j e within. run_for (get_or (get_or came.runs i d) j e) (came.each i d inside j e within);
    told = came.told;
    risen = came.risen;
    failed = omega (arith, came.failed, limits_same came.made came.order.each);
    done = came.done;
  })

  module _ (once : AreOnce marks) (within : AreWithin (length notes) marks) (made : List NoteMark) (order : AreInOrder queue made) where
    known : IsMarkedSo queue marks
    known = known_new media notes n marks queue is.numbering is.is_new once within

    rise : RiseAll queue.homes (length queue.lanes) made
    rise r there =
        let (rest, are) = order.in_order r there in
        rising_front (numbers (marks_at queue.homes r made)) rest (subst AreRising (sym are) (is.fresh r there).rising)

    -- a note that had a mark got none
    apart : (k : ℕ) → has_mark marks k ≡ true → has_mark made k ≡ false
    apart k had =
        let low : 1 ≤ k = once_low marks k once had in
        let high : k ≤ length queue.homes = omega (arith, within_high (length notes) marks k within had, homes_count) in
        let (rest, are) = order.in_order (home queue k) (known.inside k low high) in
        let none : list_any (λ (j : ℕ). j == k) (lane_at queue (home queue k)).left ≡ false = not_back (has_mark marks k) (list_any (λ (j : ℕ). j == k) (lane_at queue (home queue k)).left) (known.agrees k low high) had in
        mark_among queue.homes made k
        ∙ or_left (list_any (λ (j : ℕ). j == k) (numbers (marks_at queue.homes (home queue k) made))) (list_any (λ (j : ℕ). j == k) rest)
        (sym (list_any-append (λ (j : ℕ). j == k) (numbers (marks_at queue.homes (home queue k) made)) rest) ∙ ap (list_any (λ (j : ℕ). j == k)) are ∙ none)

    all_once : AreOnce (marks ++ made)
    all_once = once_join marks made once (once_made queue made order.each rise) apart

    all_within : AreWithin (length notes) (marks ++ made)
    all_within = within_join (length notes) marks made within (λ i d inside. omega (arith, (order.each i d inside).known, homes_count))

    each_marked : EachMarked queue made → (k : ℕ) → 1 ≤ k → k ≤ length notes → has_mark (marks ++ made) k ≡ true
    each_marked all k low high = list_any-append (λ (m : NoteMark). m.note == k) marks made ∙ go (has_mark marks k) refl
      where
        here : k ≤ length queue.homes
        here = omega (arith, high, homes_count)

        go : (b : Bool) → has_mark marks k ≡ b → (b || has_mark made k) ≡ true
        go true had = refl
        go false free =
            mark_among queue.homes made k ∙ ap (list_any (λ (j : ℕ). j == k)) (all (home queue k) (known.inside k low here))
            ∙ not_forth (has_mark marks k) (list_any (λ (j : ℕ). j == k) (lane_at queue (home queue k)).left) (known.agrees k low here) free

    whole : EachMarked queue made → AreMarked (length notes) (marks ++ made)
    whole all = marked_all (marks ++ made) (length notes) all_once all_within (each_marked all)

  pub ends_together : AreOnce marks → AreWithin (length notes) marks → (list : List NoteMark) (stopped : Option AddError) (ss ss' : List SpawnerTells) → CameTo orders queue marks list stopped ss ss'
      → (opening disk : DiskTells) (least : ℕ) (broken : Bool) → IsOnDisk opening disk least list broken stopped → EndsTries notes marks list opening.faults disk.faults ss ss' (stopped_for stopped)
  ends_together once within list None ss ss' came opening disk least broken on =
      subst (λ (l : List NoteMark). AreMarked (length notes) l) (sym came.list_is) (whole once within came.made came.order (came.marked refl))
  ends_together once within list (Some error.DiskFault) ss ss' came opening disk least broken on = on.fault refl
  ends_together once within list (Some error.OutOfMemory) ss ss' came opening disk least broken on = tt
