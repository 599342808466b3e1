-- Lanes are filled note by note.
use Rattle.std.proofs.Common.{◌≡◌, ◌≢◌, ◌≤◌, ◌<◌, ◌+◌, ◌-◌, ◌==◌, ℕ, zero, suc, Bool, true, false, cond, List, [], ◌∷◌, ◌++◌, length, map, take, drop, replicate, get_or, slice_index, slice_index_or, slice_set, refl, sym, ◌∙◌, ap, ap₂, subst, inl, inr, arith, append_assoc, append-nil, length-append, length-set, eq-eqb, get_or-set_same, get_or-set_other}
use Rattle.std.specs.Prelude.{All}
use Rattle.std.specs.List.{sum_by}
use Rattle.std.proofs.lemmas.Bool.{cases_lt, cases_eq, ne_eqb}
use Rattle.std.proofs.lemmas.List.{drop_more, drop_all, get_or-map, get_or_default, length-map, length-replicate, map_more, take_all}
use Rattle.std.proofs.lemmas.List.Elements.{All-get_or}
use Rattle.std.proofs.lemmas.List.Sums.{sum_by-set, sum_by-cons}
use Rattle.alert_queue.specs.Lanes.{Laned, empty_lane, with_note}
use Rattle.alert_queue.specs.Queues.{Queued, no_lane, lane_at, none, AreFiled, AreAtHome, IsKept, count_left}
use Rattle.alert_queue.specs.Law.{AreRising, AreFresh}
use Rattle.alert_queue.specs.New.{notes_of, joined, filled, kind_at, IsNew}
use Rattle.alert_queue.specs.declared.types.Kind.{Kind}

-- ---- one note more

pub joined_length : (lanes : List Laned) (n home : ℕ) (mark : Bool) → length (joined lanes n home mark) ≡ length lanes
joined_length lanes n home true = refl
joined_length lanes n home false = length-set lanes home (with_note (slice_index_or lanes home no_lane) n)

-- one that has no mark goes into its recipient's lane
pub joined_open : (lanes new : List Laned) (n home : ℕ) (mark : Bool) (lane : Laned) → mark ≡ false → home < length lanes → lane ≡ slice_index_or lanes home lane
    → new ≡ slice_set lanes home (with_note lane n) → new ≡ joined lanes n home mark
joined_open lanes new n home mark lane unmarked there is new_is =
    new_is
    ∙ ap (λ (l : Laned). slice_set lanes home (with_note l n)) (is ∙ get_or_default lanes home lane no_lane there)
    ∙ ap (joined lanes n home) (sym unmarked)

-- the notes go on behind it
pub filled_next : (lanes new total : List Laned) (n place : ℕ) (homes : List ℕ) (marked : List Bool) → place < length homes → length marked ≡ length homes
    → new ≡ joined lanes n (slice_index_or homes place 0) (slice_index_or marked place false) → filled lanes n (drop place homes) (drop place marked) ≡ total
    → filled new (n + 1) (drop (place + 1) homes) (drop (place + 1) marked) ≡ total
filled_next lanes new total n place homes marked inside told new_is so_far =
    ap (λ (l : List Laned). filled l (n + 1) (drop (place + 1) homes) (drop (place + 1) marked)) new_is
    ∙ sym (ap₂ (λ (h : List ℕ) (m : List Bool). filled lanes n h m) (drop_more homes place 0 inside) (drop_more marked place false (omega (arith, told, inside))))
    ∙ so_far

-- behind the last note nothing is left
pub filled_all : (lanes total : List Laned) (n place : ℕ) (homes : List ℕ) (marked : List Bool) → length homes ≤ place → filled lanes n (drop place homes) (drop place marked) ≡ total → lanes ≡ total
filled_all lanes total n place homes marked past so_far =
    ap (λ (h : List ℕ). filled lanes n h (drop place marked)) (sym (drop_all place homes past)) ∙ so_far

-- a recipient that is told is there
pub home_there : (lanes : List Laned) (count place : ℕ) (homes : List ℕ) → All (λ h. h < count) homes → place < length homes → length lanes ≡ count → slice_index_or homes place 0 < length lanes
home_there lanes count place homes all inside same =
    let low : slice_index_or homes place 0 < count = All-get_or (λ (h : ℕ). h < count) homes place 0 inside all in
    omega (arith, low, same)

-- one note more is left
pub one_more : (lanes : List Laned) (home n : ℕ) (lane : Laned) → home < length lanes → lane ≡ slice_index_or lanes home lane
    → count_left (slice_set lanes home (with_note lane n)) ≡ count_left lanes + 1
one_more lanes home n lane there is =
    omega (arith, sum_by-set (λ (l : Laned). length l.left) lanes home (with_note lane n) lane there, ap (λ (l : Laned). length l.left) is, length-append lane.left (n ∷ []))

-- ---- lanes without notes

pub limited_at : (kinds : List Kind) (i : ℕ) (kind : Kind) → All (λ k. 0 < k.limit) kinds → i < length kinds → kind ≡ slice_index_or kinds i kind → 0 < kind.limit
limited_at kinds i kind all inside is = subst (λ (k : Kind). 0 < k.limit) (sym is) (All-get_or (λ (k : Kind). 0 < k.limit) kinds i kind inside all)

pub empty_more : (lanes : List Laned) (kinds : List Kind) (i : ℕ) (kind : Kind) → i < length kinds → kind ≡ slice_index_or kinds i kind → lanes ≡ map empty_lane (take i kinds)
    → lanes ++ empty_lane kind ∷ [] ≡ map empty_lane (take (i + 1) kinds)
empty_more lanes kinds i kind inside is so_far =
    ap (λ (l : List Laned). l ++ empty_lane kind ∷ []) so_far
    ∙ ap (λ (k : Kind). map empty_lane (take i kinds) ++ empty_lane k ∷ []) is
    ∙ sym (map_more empty_lane kinds i kind inside)

pub empty_all : (lanes : List Laned) (kinds : List Kind) (i : ℕ) → length kinds ≤ i → lanes ≡ map empty_lane (take i kinds) → lanes ≡ map empty_lane kinds
empty_all lanes kinds i past so_far = so_far ∙ ap (map empty_lane) (take_all i kinds past)

-- ---- what the lanes are

pub empty_none : (kinds : List Kind) → count_left (map empty_lane kinds) ≡ 0
empty_none [] = refl
empty_none (kind ∷ kinds) = omega (arith, sum_by-cons (λ (l : Laned). length l.left) (empty_lane kind) (map empty_lane kinds), empty_none kinds)

pub filled_length : (lanes : List Laned) (n : ℕ) (homes : List ℕ) (marked : List Bool) → length (filled lanes n homes marked) ≡ length lanes
filled_length lanes n [] marked = refl
filled_length lanes n (home ∷ homes) [] = refl
filled_length lanes n (home ∷ homes) (mark ∷ marked) = filled_length (joined lanes n home mark) (n + 1) homes marked ∙ joined_length lanes n home mark

-- a lane with other notes
abbrev with_left : Laned → List ℕ → Laned
with_left lane left = record lane { left = left }

-- each recipient's notes stand behind those that were in its lane
pub filled_at : (lanes : List Laned) (n r : ℕ) (homes : List ℕ) (marked : List Bool) → r < length lanes
    → slice_index_or (filled lanes n homes marked) r no_lane ≡ record (slice_index_or lanes r no_lane) { left = (slice_index_or lanes r no_lane).left ++ notes_of r n homes marked }
filled_at lanes n r [] marked there = ap (with_left (slice_index_or lanes r no_lane)) (sym (append-nil (slice_index_or lanes r no_lane).left))
filled_at lanes n r (home ∷ homes) [] there = ap (with_left (slice_index_or lanes r no_lane)) (sym (append-nil (slice_index_or lanes r no_lane).left))
filled_at lanes n r (home ∷ homes) (true ∷ marked) there = filled_at lanes (n + 1) r homes marked there
filled_at lanes n r (home ∷ homes) (false ∷ marked) there =
    let lane = with_note (slice_index_or lanes home no_lane) n in
    let new = slice_set lanes home lane in
    let rest = notes_of r (n + 1) homes marked in
    let more = filled_at new (n + 1) r homes marked (omega (arith, there, length-set lanes home lane)) in
    elim (cases_eq home r) [
      | inl here ↦
          let test : (home == r) ≡ true = eq-eqb home r here in
          let at : slice_index_or new r no_lane ≡ with_note (slice_index_or lanes r no_lane) n =
          ap (λ (h : ℕ). get_or (slice_set lanes h (with_note (slice_index_or lanes h no_lane) n)) r no_lane) here
          ∙ get_or-set_same lanes r (with_note (slice_index_or lanes r no_lane) n) no_lane there in
          more ∙ ap (λ (l : Laned). with_left l (l.left ++ rest)) at
          ∙ ap (with_left (slice_index_or lanes r no_lane)) (append_assoc (slice_index_or lanes r no_lane).left (n ∷ []) rest)
          ∙ ap (λ (b : Bool). with_left (slice_index_or lanes r no_lane) ((slice_index_or lanes r no_lane).left ++ cond b (n ∷ rest) rest)) (sym test)
      | inr elsewhere ↦
          let test : (home == r) ≡ false = ne_eqb home r elsewhere in
          let at : slice_index_or new r no_lane ≡ slice_index_or lanes r no_lane = get_or-set_other lanes home r lane no_lane (λ e. elsewhere (sym e)) in
          more ∙ ap (λ (l : Laned). with_left l (l.left ++ rest)) at
          ∙ ap (λ (b : Bool). with_left (slice_index_or lanes r no_lane) ((slice_index_or lanes r no_lane).left ++ cond b (n ∷ rest) rest)) (sym test)
    ]

-- a note of a recipient, from this one on, is told as its own
record IsOf (r n : ℕ) (homes : List ℕ) (note : ℕ) : Type 0 where
  low : n ≤ note
  high : note < n + length homes
  home : slice_index homes (note - n) ≡ r

of_rest : (r n home note : ℕ) (homes : List ℕ) → IsOf r (n + 1) homes note → IsOf r n (home ∷ homes) note
of_rest r n home note homes is =
    let next : note - n ≡ suc (note - (n + 1)) = omega (arith, is.low) in
    record {
      low = omega (arith, is.low);
      high = omega (arith, is.high);
      home = ap (λ (k : ℕ). slice_index (home ∷ homes) k) next ∙ is.home;
    }

of_first : (r n home : ℕ) (homes : List ℕ) → home ≡ r → IsOf r n (home ∷ homes) n
of_first r n home homes is =
    let nothing : n - n ≡ 0 = omega arith in
    record { low = omega arith; high = omega arith; home = ap (λ (k : ℕ). slice_index (home ∷ homes) k) nothing ∙ is }

-- with the first of the notes or without it
notes_here : (r n home : ℕ) (homes rest : List ℕ) → ((j : ℕ) → j < length rest → IsOf r (n + 1) homes (slice_index rest j)) → (k : ℕ)
    → k < length (cond (home == r) (n ∷ rest) rest) → IsOf r n (home ∷ homes) (slice_index (cond (home == r) (n ∷ rest) rest) k)
notes_here r n home homes rest known k inside = elim (cases_eq home r) [
  | inl here ↦
      let same : cond (home == r) (n ∷ rest) rest ≡ n ∷ rest = ap (λ (b : Bool). cond b (n ∷ rest) rest) (eq-eqb home r here) in
      subst (λ (l : List ℕ). IsOf r n (home ∷ homes) (slice_index l k)) (sym same) (first k (subst (λ (l : List ℕ). k < length l) same inside) here)
  | inr elsewhere ↦
      let same : cond (home == r) (n ∷ rest) rest ≡ rest = ap (λ (b : Bool). cond b (n ∷ rest) rest) (ne_eqb home r elsewhere) in
      subst (λ (l : List ℕ). IsOf r n (home ∷ homes) (slice_index l k)) (sym same) (of_rest r n home (slice_index rest k) homes (known k (subst (λ (l : List ℕ). k < length l) same inside)))
]
  where
    first : (j : ℕ) → j < length (n ∷ rest) → home ≡ r → IsOf r n (home ∷ homes) (slice_index (n ∷ rest) j)
    first zero low is = of_first r n home homes is
    first (suc j) low is = of_rest r n home (slice_index rest j) homes (known j (omega (arith, low)))

notes_are : (r n : ℕ) (homes : List ℕ) (marked : List Bool) (k : ℕ) → k < length (notes_of r n homes marked) → IsOf r n homes (slice_index (notes_of r n homes marked) k)
notes_are r n [] marked k inside = absurd (omega arith)
notes_are r n (home ∷ homes) [] k inside = absurd (omega arith)
notes_are r n (home ∷ homes) (true ∷ marked) k inside = of_rest r n home (slice_index (notes_of r (n + 1) homes marked) k) homes (notes_are r (n + 1) homes marked k inside)
notes_are r n (home ∷ homes) (false ∷ marked) k inside = notes_here r n home homes (notes_of r (n + 1) homes marked) (notes_are r (n + 1) homes marked) k inside

rises_with : (n : ℕ) (rest : List ℕ) → ((k : ℕ) → k < length rest → n < slice_index rest k) → AreRising rest → AreRising (n ∷ rest)
rises_with n rest above rising zero zero less inside = absurd (omega arith)
rises_with n rest above rising zero (suc j) less inside = above j (omega (arith, inside))
rises_with n rest above rising (suc i) zero less inside = absurd (omega arith)
rises_with n rest above rising (suc i) (suc j) less inside = rising i j (omega (arith, less)) (omega (arith, inside))

rises_here : (n : ℕ) (rest : List ℕ) → ((k : ℕ) → k < length rest → n < slice_index rest k) → AreRising rest → (b : Bool) → AreRising (cond b (n ∷ rest) rest)
rises_here n rest above rising true = rises_with n rest above rising
rises_here n rest above rising false = rising

pub notes_rise : (r n : ℕ) (homes : List ℕ) (marked : List Bool) → AreRising (notes_of r n homes marked)
notes_rise r n [] marked = λ i j less inside. absurd (omega arith)
notes_rise r n (home ∷ homes) [] = λ i j less inside. absurd (omega arith)
notes_rise r n (home ∷ homes) (true ∷ marked) = notes_rise r (n + 1) homes marked
notes_rise r n (home ∷ homes) (false ∷ marked) =
    rises_here n (notes_of r (n + 1) homes marked) (λ k inside. omega (arith, (notes_are r (n + 1) homes marked k inside).low)) (notes_rise r (n + 1) homes marked) (home == r)

-- ---- the queue

module _ (homes : List ℕ) (marked : List Bool) (kinds : List Kind) where
  abbrev pub new_lanes : List Laned
  new_lanes = filled (map empty_lane kinds) 1 homes marked

  lane_is : (r : ℕ) → r < length kinds → slice_index_or new_lanes r no_lane ≡ record (empty_lane (kind_at kinds r)) { left = notes_of r 1 homes marked }
  lane_is r there =
      let at : slice_index_or (map empty_lane kinds) r no_lane ≡ empty_lane (kind_at kinds r) = get_or-map empty_lane kinds r (record { limit = 0; interval = 0 }) no_lane there in
      filled_at (map empty_lane kinds) 1 r homes marked (omega (arith, there, length-map kinds empty_lane)) ∙ ap (λ (l : Laned). with_left l (l.left ++ notes_of r 1 homes marked)) at

  count_is : length new_lanes ≡ length kinds
  count_is = filled_length (map empty_lane kinds) 1 homes marked ∙ length-map kinds empty_lane

  pub new_is : IsNew homes marked kinds (record { lanes = new_lanes; homes = homes; now = 0 })
  new_is = record { homes_are = refl; at_first = refl; count = count_is; lanes_are = lane_is }

  pub new_fresh : All (λ kind. 0 < kind.limit) kinds → AreFresh (record { lanes = new_lanes; homes = homes; now = 0 })
  new_fresh limited r there =
      let known : r < length kinds = omega (arith, there, count_is) in
      let is = lane_is r known in
      record {
        closed = ap (λ (l : Laned). l.is_open) is;
        untried = ap (λ (l : Laned). l.failed) is;
        limited = subst (λ (l : Laned). 0 < l.limit) (sym is) (All-get_or (λ (kind : Kind). 0 < kind.limit) kinds r (record { limit = 0; interval = 0 }) known limited);
        rising = subst (λ (l : Laned). AreRising l.left) (sym is) (notes_rise r 1 homes marked);
      }

  pub new_home : AreAtHome homes new_lanes
  new_home r k there inside =
      let is = lane_is r (omega (arith, there, count_is)) in
      let own : IsOf r 1 homes (slice_index (notes_of r 1 homes marked) k) = notes_are r 1 homes marked k (subst (λ (l : Laned). k < length l.left) is inside) in
      subst (λ (l : Laned). (1 ≤ slice_index l.left k) × (slice_index l.left k ≤ length homes) × (slice_index homes (slice_index l.left k - 1) ≡ r)) (sym is)
      (own.low, omega (arith, own.high), own.home)

-- ---- over the fields

pub all_there : (kinds : List Kind) (lanes : List Laned) (homes : List ℕ) → All (λ home. home < length kinds) homes → lanes ≡ map empty_lane kinds → All (λ home. home < length lanes) homes
all_there kinds lanes homes all is =
    let same : length lanes ≡ length kinds = ap length is ∙ length-map kinds empty_lane in
    subst (λ (n : ℕ). All (λ home. home < n) homes) (sym same) all

pub none_left : (kinds : List Kind) (lanes : List Laned) → lanes ≡ map empty_lane kinds → count_left lanes ≡ 0
none_left kinds lanes is = ap count_left is ∙ empty_none kinds

pub lanes_fit : (kinds : List Kind) (first lanes : List Laned) (homes : List ℕ) (marked : List Bool) → first ≡ map empty_lane kinds → lanes ≡ filled first 1 homes marked → length lanes ≡ length kinds
lanes_fit kinds first lanes homes marked is then = ap length then ∙ filled_length first 1 homes marked ∙ ap length is ∙ length-map kinds empty_lane

pub keys_none : (size : ℕ) (keys : List ℕ) → keys ≡ replicate size none → keys ≡ replicate (length keys) none
keys_none size keys is = is ∙ ap (λ (n : ℕ). replicate n none) (sym (ap length is ∙ length-replicate size none))

pub keys_too : (size : ℕ) (keys others : List ℕ) → keys ≡ replicate size none → others ≡ replicate size none → others ≡ replicate (length keys) none
keys_too size keys others is other_is = other_is ∙ ap (λ (n : ℕ). replicate n none) (sym (ap length is ∙ length-replicate size none))

pub room_for : (size : ℕ) (lanes : List Laned) (keys : List ℕ) → keys ≡ replicate size none → length lanes ≤ size → length lanes ≤ length keys
room_for size lanes keys is le = omega (arith, ap length is, length-replicate size none, le)

module _ (homes : List ℕ) (marked : List Bool) (kinds : List Kind) (first lanes : List Laned) (is : first ≡ map empty_lane kinds) (then : lanes ≡ filled first 1 homes marked) where
  all_is : lanes ≡ filled (map empty_lane kinds) 1 homes marked
  all_is = then ∙ ap (λ (l : List Laned). filled l 1 homes marked) is

  pub kept_new : (ready waiting : List ℕ) (left : ℕ) → AreFiled 0 lanes ready waiting → left ≡ count_left lanes → IsKept lanes homes ready waiting 0 left
  kept_new ready waiting left filed left_is = record {
    filed = filed;
    at_home = subst (AreAtHome homes) (sym all_is) (new_home homes marked kinds);
    left_is = left_is;
    early = omega arith;
  }

  pub is_new : IsNew homes marked kinds (record { lanes = lanes; homes = homes; now = 0 })
  is_new = subst (λ (l : List Laned). IsNew homes marked kinds (record { lanes = l; homes = homes; now = 0 })) (sym all_is) (new_is homes marked kinds)

  pub is_fresh : All (λ kind. 0 < kind.limit) kinds → AreFresh (record { lanes = lanes; homes = homes; now = 0 })
  is_fresh limited = subst (λ (l : List Laned). AreFresh (record { lanes = l; homes = homes; now = 0 })) (sym all_is) (new_fresh homes marked kinds limited)
