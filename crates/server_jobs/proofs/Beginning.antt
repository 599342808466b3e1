-- A queue that was made of notes and their marks.
use Rattle.std.proofs.Common.{◌≡◌, ◌∙◌, inr, ℕ, zero, suc, ◌+◌, ◌-◌, ◌<◌, ◌==◌, ◌&&◌, ◌||◌, Bool, true, false, List, [], ◌∷◌, length, map, slice_index, refl, sym, ap, subst, arith, eq-eqb}
use Rattle.std.specs.Prelude.{not}
use Rattle.std.specs.List.{list_any, range_with_len}
use Rattle.std.proofs.lemmas.Bool.{ne_eqb}
use Rattle.std.proofs.lemmas.List.{get_or-map, length-map}
use Rattle.outside.specs.Spawning.{SpawnerTells}
use Rattle.alert_marks.specs.Marks.{has_mark, AreOnce}
use Rattle.alert_media.specs.declared.media.Media.{Media}
use Rattle.alert_queue.specs.Lanes.{Laned}
use Rattle.alert_queue.specs.Queues.{Queued, lane_at, home}
use Rattle.alert_queue.specs.Law.{marks_at}
use Rattle.alert_queue.specs.New.{notes_of, kind_at, IsNew}
use Rattle.alert_queue.specs.declared.types.Kind.{Kind}
use Rattle.alert_queue.specs.declared.types.NoteMark.{NoteMark}
use Rattle.alert_run.specs.declared.types.Note.{Note}
use Rattle.server_jobs.specs.Tries.{AreInOrder, tries_at, medium_for}
use Rattle.server_jobs.specs.Numbering.{recipient_at, kind_for, IsNumbering, marked_in, AreWithin}
use Rattle.server_jobs.specs.Turning.{IsMarkedSo}
use Rattle.server_jobs.specs.Working.{WorksIfAny, Worked}
use Rattle.server_jobs.specs.declared.recipients.Numbered.{Numbered}

-- the notes of a recipient behind an earlier number
none_before : (r n m : ℕ) (homes : List ℕ) (marked : List Bool) → m < n → list_any (λ (k : ℕ). k == m) (notes_of r n homes marked) ≡ false
none_before r n m [] marked less = refl
none_before r n m (h ∷ homes) [] less = refl
none_before r n m (h ∷ homes) (b ∷ marked) less = go (not b && (h == r)) refl (none_before r (n + 1) m homes marked (omega arith))
  where
    apart : n ≡ m → ⊥
    apart same = omega (arith, same, less)

    go : (t : Bool) → (not b && (h == r)) ≡ t → list_any (λ (k : ℕ). k == m) (notes_of r (n + 1) homes marked) ≡ false → list_any (λ (k : ℕ). k == m) (notes_of r n (h ∷ homes) (b ∷ marked)) ≡ false
    go true e rest = rw e (ap (λ (t : Bool). t || list_any (λ (k : ℕ). k == m) (notes_of r (n + 1) homes marked)) (ne_eqb n m apart) ∙ rest)
    go false e rest = rw e rest

-- a note of a recipient is among those without a mark where it has none
among : (count r n i : ℕ) (homes : List ℕ) (marks : List NoteMark) → length homes ≡ count → i < count → slice_index homes i ≡ r
    → list_any (λ (k : ℕ). k == (n + i)) (notes_of r n homes (map (λ note. has_mark marks note) (range_with_len n count))) ≡ not (has_mark marks (n + i))
among zero r n i homes marks len inside is = absurd (omega arith)
among (suc count) r n i [] marks len inside is = absurd (omega arith)
among (suc count) r n zero (h ∷ homes) marks len inside is =
    let rest = map (λ note. has_mark marks note) (range_with_len (n + 1) count) in
    let place : n + 0 ≡ n = omega arith in
    subst (λ (k : ℕ). list_any (λ (j : ℕ). j == k) (notes_of r n (h ∷ homes) (has_mark marks n ∷ rest)) ≡ not (has_mark marks k)) (sym place) (go (has_mark marks n))
  where
    go : (b : Bool) → list_any (λ (j : ℕ). j == n) (notes_of r n (h ∷ homes) (b ∷ map (λ note. has_mark marks note) (range_with_len (n + 1) count))) ≡ not b
    go true = none_before r (n + 1) n homes (map (λ note. has_mark marks note) (range_with_len (n + 1) count)) (omega arith)
    go false = rw (eq-eqb h r is) (ap (λ (t : Bool). t || list_any (λ (j : ℕ). j == n) (notes_of r (n + 1) homes (map (λ note. has_mark marks note) (range_with_len (n + 1) count)))) (eq-eqb n n refl))
among (suc count) r n (suc i) (h ∷ homes) marks len inside is =
    let rest = map (λ note. has_mark marks note) (range_with_len (n + 1) count) in
    let place : n + 1 + i ≡ n + suc i = omega arith in
    let deeper : list_any (λ (k : ℕ). k == (n + suc i)) (notes_of r (n + 1) homes rest) ≡ not (has_mark marks (n + suc i)) =
    subst (λ (k : ℕ). list_any (λ (j : ℕ). j == k) (notes_of r (n + 1) homes rest) ≡ not (has_mark marks k)) place (among count r (n + 1) i homes marks (omega (arith, len)) (omega arith) is) in
    go (not (has_mark marks n) && (h == r)) refl deeper
  where
    apart : n ≡ n + suc i → ⊥
    apart e = omega (arith, e)

    go : (t : Bool) → (not (has_mark marks n) && (h == r)) ≡ t
        → list_any (λ (k : ℕ). k == (n + suc i)) (notes_of r (n + 1) homes (map (λ note. has_mark marks note) (range_with_len (n + 1) count))) ≡ not (has_mark marks (n + suc i))
        → list_any (λ (k : ℕ). k == (n + suc i)) (notes_of r n (h ∷ homes) (has_mark marks n ∷ map (λ note. has_mark marks note) (range_with_len (n + 1) count))) ≡ not (has_mark marks (n + suc i))
    go true e deeper = rw e (ap (λ (t : Bool). t || list_any (λ (k : ℕ). k == (n + suc i)) (notes_of r (n + 1) homes (map (λ note. has_mark marks note) (range_with_len (n + 1) count)))) (ne_eqb n (n + suc i) apart) ∙ deeper)
    go false e deeper = rw e deeper

module _ (media : Media) (notes : List Note) (n : Numbered) (marks : List NoteMark) (queue : Queued) (is : IsNumbering media notes n) (new : IsNew n.homes.items (marked_in (length notes) marks) n.kinds.items queue) where
  pub homes_count : length queue.homes ≡ length notes
  homes_count = ap length new.homes_are ∙ is.numbered.count

  kinds_count : length n.kinds.items ≡ length n.recipients
  kinds_count = ap length is.kinds_are ∙ length-map n.recipients (kind_for media)

  pub known_new : AreOnce marks → AreWithin (length notes) marks → IsMarkedSo queue marks
  known_new once within = record {
    agrees = λ m low high.
        let inside : m - 1 < length notes = omega (arith, low, high, homes_count) in
        let r = home queue m in
        let home_is : slice_index n.homes.items (m - 1) ≡ r = ap (λ (hs : List ℕ). slice_index hs (m - 1)) (sym new.homes_are) in
        let there : r < length n.kinds.items = omega (arith, sym home_is, (is.numbered.there (m - 1) inside).0, kinds_count) in
        let place : 1 + (m - 1) ≡ m = omega (arith, low) in
        let left : (lane_at queue r).left ≡ notes_of r 1 n.homes.items (marked_in (length notes) marks) = ap (λ (l : Laned). l.left) (new.lanes_are r there) in
        let all : list_any (λ (k : ℕ). k == m) (notes_of r 1 n.homes.items (marked_in (length notes) marks)) ≡ not (has_mark marks m) =
        subst (λ (j : ℕ). list_any (λ (k : ℕ). k == j) (notes_of r 1 n.homes.items (marked_in (length notes) marks)) ≡ not (has_mark marks j)) place
        (among (length notes) r 1 (m - 1) n.homes.items marks is.numbered.count inside home_is) in
        twice (has_mark marks m) ∙ ap not (sym all) ∙ ap (λ (ns : List ℕ). not (list_any (λ (k : ℕ). k == m) ns)) (sym left);
    once = once;
    within = subst (λ (k : ℕ). AreWithin k marks) (sym homes_count) within;
    inside = λ m low high.
        let inside : m - 1 < length notes = omega (arith, low, high, homes_count) in
        let home_is : slice_index n.homes.items (m - 1) ≡ home queue m = ap (λ (hs : List ℕ). slice_index hs (m - 1)) (sym new.homes_are) in
        omega (arith, sym home_is, (is.numbered.there (m - 1) inside).0, kinds_count, new.count);
  }
    where
      twice : (b : Bool) → b ≡ not (not b)
      twice true = refl
      twice false = refl

  pub works_of : (s s' : SpawnerTells) (now : List NoteMark) → Worked media notes queue s s' marks now → WorksIfAny media notes s s' marks now
  works_of s s' now w = inr (record {
    tries = w.tries;
    runs = w.runs;
    counted = w.counted;
    made = w.made;
    marks_are = w.marks_are;
    recipients = n.recipients;
    homes = n.homes.items;
    distinct = is.distinct;
    numbered = is.numbered;
    each = λ r there.
        let low : r < length n.kinds.items = omega (arith, there, kinds_count) in
        let kind : kind_at n.kinds.items r ≡ kind_for media (recipient_at n.recipients r) =
        ap (λ (ks : List Kind). kind_at ks r) is.kinds_are ∙ get_or-map (kind_for media) n.recipients r [] (record { limit = 0; interval = 0 }) there in
        let limit : (lane_at queue r).limit ≡ (medium_for media (recipient_at n.recipients r)).attempts =
        ap (λ (l : Laned). l.limit) (new.lanes_are r low) ∙ ap (λ (k : Kind). k.limit) kind in
        let left : (lane_at queue r).left ≡ notes_of r 1 n.homes.items (marked_in (length notes) marks) = ap (λ (l : Laned). l.left) (new.lanes_are r low) in
        let one = w.each r (omega (arith, low, new.count)) in
        subst (λ (l : ℕ). AreInOrder l (notes_of r 1 n.homes.items (marked_in (length notes) marks)) (tries_at n.homes.items r w.tries) (marks_at n.homes.items r w.made)) limit
        (subst (λ (ns : List ℕ). AreInOrder (lane_at queue r).limit ns (tries_at n.homes.items r w.tries) (marks_at n.homes.items r w.made)) left
        (subst (λ (hs : List ℕ). AreInOrder (lane_at queue r).limit (lane_at queue r).left (tries_at hs r w.tries) (marks_at hs r w.made)) new.homes_are one));
  })
