-- The entries of batches, and what is kept of them.
use Rattle.std.proofs.Common.{◌≡◌, ◌<◌, ◌≤◌, ◌+◌, ◌-◌, ℕ, zero, suc, ◌==◌, Option, Some, None, Bool, true, false, cond, ◌||◌, inl, inr, List, [], ◌∷◌, ◌++◌, length, map, get_or, set, reverse, filter, refl, sym, ◌∙◌, ap, ap₂, subst, eqb-true, eq-eqb, ne_eqb, arith, add-one, drop, take, length-append, get_or-set_other, get_or-set_same}
use Rattle.std.specs.Prelude.{nat_lt, slice_get, IfSome, All}
use Rattle.std.proofs.lemmas.Bool.{le-ltb}
use Rattle.std.proofs.lemmas.List.{reverse-reverse, get_or-map, length-map}
use Rattle.std.proofs.lemmas.List.Elements.{All-push}
use Rattle.std.proofs.lemmas.Grind.{get_or_default_zero}
use Rattle.std.proofs.Math.Seq.{drop-cons}
use Rattle.syncer_gate.proofs.AnyLemmas.{has_at, get_any}
use Rattle.zbx_types.specs.Ids.{at_id, ids_from}
use Rattle.zbx_types.specs.Masters.{has_id}
use Rattle.zbx_types.specs.declared.entries.Entry.TheVariants.{Tick}
use Rattle.zbx_types.specs.declared.entries.Numbered.{Numbered}
use Rattle.zbx_types.specs.declared.entries.Rec.{Rec}
use Rattle.entry_step.specs.Each.{In}
use Rattle.entry_step.specs.Cells.{Cells, ItemKey, TriggerKey}
use Rattle.entry_step.specs.Laws.{any_touches}
use Rattle.entry_step.specs.Represents.{CellsView, Represents}
use Rattle.entry_step.specs.Parts.{PartView, cell_in, marks_in, problems_in, IsPartOf, IsSame}
use Rattle.zbx_types.proofs.RowLemmas.{at_zero, at_suc}
use Rattle.entry_step.proofs.Members.{map_cong}
use Rattle.syncer_gate.specs.declared.marks.Mark.{Mark}
use Rattle.syncer_gate.specs.declared.marks.Mark.TheVariants.{Pending, Taken}
use Rattle.syncer_gate.specs.Marks.{is_taken}
use Rattle.syncer_gate.specs.Gate.{Gate, mark_of, held_by}
use Rattle.syncer_gate.specs.Core.{Core, Claim, happens, core_of}
use Rattle.syncer_gate.proofs.Opened.{RiseFrom, rise_above, rise_not, held_has}
use Rattle.book.specs.Schedule.{batch_in, keeping}
use Rattle.book.specs.Progress.{made_at, entries_with, entry_at, AreHere, IsAmong, AreWithin}
use Rattle.book.proofs.Places.{filter_cong}
use Rattle.trigger_state.specs.Stages.{Stage}

abbrev pub blank : Numbered
blank = record { number = 0; entry = Tick 0 }

-- a number in a list
pub has_in : (ns : List ℕ) (m : ℕ) → In m ns → has_id ns m ≡ true
has_in [] m i = absurd i
has_in (n ∷ ns) m (inl q) = let t = eq-eqb n m (sym q) in ap (λ b. b || has_id ns m) t
has_in (n ∷ ns) m (inr i) = go (n == m) (has_in ns m i)
  where
    go : (b : Bool) → has_id ns m ≡ true → (b || has_id ns m) ≡ true
    go true h = refl
    go false h = h

numbers_above : (k : ℕ) (entries : List Numbered) (y : Numbered) → map (λ (e : Numbered). e.number) entries ≡ ids_from k entries → In y entries → k ≤ y.number
numbers_above k [] y off i = absurd i
numbers_above k (x ∷ xs) y off (inl q) = let a : x.number ≡ k = cc in let z = ap (λ w. w.number) q in omega arith
numbers_above k (x ∷ xs) y off (inr i) =
    let t : map (λ (e : Numbered). e.number) xs ≡ ids_from (k + 1) xs = cc in
    let r = numbers_above (k + 1) xs y t i in omega arith

-- the numbers are of entries that are there, by membership
abbrev pub AreAmong : ℕ → List Numbered → List ℕ → Type 0
AreAmong before entries numbers = (n : ℕ) → has_id numbers n ≡ true → IsAmong before (length entries) n

pub all_among : (before : ℕ) (entries : List Numbered) (numbers : List ℕ) → AreAmong before entries numbers → AreWithin before entries numbers
all_among before entries numbers among k d l = subst (IsAmong before (length entries)) (sym (get_or_default_zero numbers k d l)) (among (get_or numbers k 0) (has_at numbers k l))

pub within_ones : (before : ℕ) (entries es : List Numbered) (numbers : List ℕ) → map (λ (e : Numbered). e.number) es ≡ numbers → AreWithin before entries numbers → All (λ e. IsAmong before (length entries) e.number) es
within_ones before entries es numbers is within k d l =
    let within_map = subst (AreWithin before entries) (sym is) within in
    subst (IsAmong before (length entries)) (get_or-map (λ (e : Numbered). e.number) es k d 0 l) (within_map k 0 (omega (arith, length-map es (λ (e : Numbered). e.number))))

-- the entries with rising numbers are those at their places
shifted : (k : ℕ) (x : Numbered) (xs : List Numbered) (ns : List ℕ) → RiseFrom (k + 1) ns → map (λ m. get_or xs (m - (k + 1)) blank) ns ≡ map (λ m. get_or (x ∷ xs) (m - k) blank) ns
shifted k x xs ns rise =
    map_cong (λ m. get_or xs (m - (k + 1)) blank) (λ m. get_or (x ∷ xs) (m - k) blank) ns
    (λ m i. let a = rise_above (k + 1) m ns rise (has_in ns m i) in let z : m - k ≡ suc (m - (k + 1)) = omega arith in sym (ap (λ j. get_or (x ∷ xs) j blank) z))

pub with_at : (k : ℕ) (entries : List Numbered) (numbers : List ℕ) → map (λ (e : Numbered). e.number) entries ≡ ids_from k entries → RiseFrom k numbers → ((n : ℕ) → has_id numbers n ≡ true → n < k + length entries)
    → entries_with numbers entries ≡ map (λ m. get_or entries (m - k) blank) numbers
with_at k [] [] off rise within = refl
with_at k [] (n ∷ ns) off rise within = let w = within n (has_in (n ∷ ns) n (inl refl)) in let a = rise.0 in absurd (omega arith)
with_at k (x ∷ xs) [] off rise within =
    let t : map (λ (e : Numbered). e.number) xs ≡ ids_from (k + 1) xs = cc in
    with_at (k + 1) xs [] t tt (λ n h. absurd (cc))
with_at k (x ∷ xs) (n ∷ ns) off rise within =
    go (n == x.number) refl (λ r w. with_at (k + 1) xs ns tail r w) (λ r w. with_at (k + 1) xs (n ∷ ns) tail r w)
  where
    tail : map (λ (e : Numbered). e.number) xs ≡ ids_from (k + 1) xs
    tail = cc

    head : x.number ≡ k
    head = cc

    Gives : List ℕ → Type 0
    Gives ms = RiseFrom (k + 1) ms → ((m : ℕ) → has_id ms m ≡ true → m < (k + 1) + length xs) → entries_with ms xs ≡ map (λ m. get_or xs (m - (k + 1)) blank) ms

    later : (m : ℕ) → has_id ns m ≡ true → m < (k + 1) + length xs
    later m h = let w = within m (go (n == m)) in omega arith
      where
        go : (b : Bool) → (b || has_id ns m) ≡ true
        go true = refl
        go false = h

    all : (m : ℕ) → has_id (n ∷ ns) m ≡ true → m < (k + 1) + length xs
    all m h = let w = within m h in omega arith

    go : (b : Bool) → (n == x.number) ≡ b → Gives ns → Gives (n ∷ ns) → cond (b || has_id ns x.number) (x ∷ entries_with (n ∷ ns) xs) (entries_with (n ∷ ns) xs) ≡ map (λ m. get_or (x ∷ xs) (m - k) blank) (n ∷ ns)
    go true q shorter longer =
        let z = eqb-true n x.number q in
        let h = head in
        let at : n - k ≡ 0 = omega arith in
        let same : entries_with (n ∷ ns) xs ≡ entries_with ns xs = filter_cong (λ e. has_id (n ∷ ns) e.number) (λ e. has_id ns e.number) xs (λ y i.
        let a = numbers_above (k + 1) xs y tail i in
        let o : (n == y.number) ≡ false = ne_eqb n y.number (λ s. absurd (omega arith)) in
        ap (λ b. b || has_id ns y.number) o) in
        let rest : entries_with ns xs ≡ map (λ m. get_or (x ∷ xs) (m - k) blank) ns = shorter (subst (λ j. RiseFrom (j + 1) ns) (z ∙ h) rise.1) later ∙ shifted k x xs ns (subst (λ j. RiseFrom (j + 1) ns) (z ∙ h) rise.1) in
        ap₂ (λ e es. e ∷ es) (sym (ap (λ j. get_or (x ∷ xs) j blank) at)) (same ∙ rest)
    go false q shorter longer =
        let h = head in
        let o : (n ≡ x.number → ⊥) = (λ s. let t = eq-eqb n x.number s in cc) in
        let a = rise.0 in
        let up : RiseFrom (k + 1) (n ∷ ns) = (omega arith, rise.1) in
        let none : has_id ns x.number ≡ false = rise_not (n + 1) x.number ns rise.1 (omega arith) in
        rw none (longer up all ∙ shifted k x xs (n ∷ ns) up)

-- an open batch's entries, which are those with its numbers
pub open_within : (id f n : ℕ) (marks : List Mark) → has_id (held_by id f marks) n ≡ true → n < f + length marks
open_within id f n [] h = absurd (cc)
open_within id f n (m ∷ marks) h = go (is_taken id m) h (open_within id (f + 1) n marks)
  where
    go : (b : Bool) → has_id (cond b (f ∷ held_by id (f + 1) marks) (held_by id (f + 1) marks)) n ≡ true → (has_id (held_by id (f + 1) marks) n ≡ true → n < (f + 1) + length marks) → n < f + length (m ∷ marks)
    go true h ih = here (f == n) refl h
      where
        here : (c : Bool) → (f == n) ≡ c → (c || has_id (held_by id (f + 1) marks) n) ≡ true → n < f + length (m ∷ marks)
        here true q t = let z = eqb-true f n q in omega arith
        here false q t = let r = ih t in omega arith
    go false h ih = let r = ih h in omega arith

mark_above : (gate : Gate) (n : ℕ) → gate.first ≤ n → mark_of gate n ≡ get_or gate.marks (n - gate.first) Pending
mark_above gate n l = let e : nat_lt n gate.first ≡ false = le-ltb n gate.first l in rw e refl

pub open_entries : (entries : List Numbered) (gate : Gate) (id : ℕ) (numbers : List ℕ) → map (λ (e : Numbered). e.number) entries ≡ ids_from gate.first entries → numbers ≡ held_by id gate.first gate.marks
    → entries_with numbers entries ≡ batch_in (core_of entries gate) id
open_entries entries gate id numbers off is =
    filter_cong (λ e. has_id numbers e.number) (λ e. is_taken id (mark_of gate e.number)) entries
    (λ y i. let a = numbers_above gate.first entries y off i in
    ap (λ ns. has_id ns y.number) is ∙ held_has id gate.first y.number gate.marks a ∙ ap (is_taken id) (sym (mark_above gate y.number a)))
    ∙ ap (filter (λ e. is_taken id (mark_of gate e.number))) (sym (reverse-reverse entries))

-- a claimed batch's
pub claimed_entries : (entries : List Numbered) (core : Core) (id : ℕ) (numbers : List ℕ) → core.log ≡ reverse entries → ((n : ℕ) → is_taken id (core.status n) ≡ false)
    → entries_with numbers entries ≡ batch_in (happens core (Claim id numbers)) id
claimed_entries entries core id numbers log fresh =
    filter_cong (λ e. has_id numbers e.number) (λ e. is_taken id (cond (has_id numbers e.number) (Taken id) (core.status e.number))) entries (λ y i. go y (has_id numbers y.number))
    ∙ ap (filter (λ e. is_taken id (cond (has_id numbers e.number) (Taken id) (core.status e.number)))) (sym (ap reverse log ∙ reverse-reverse entries))
  where
    go : (y : Numbered) (b : Bool) → b ≡ is_taken id (cond b (Taken id) (core.status y.number))
    go y true = sym (eq-eqb id id refl)
    go y false = sym (fresh y.number)

-- entries that are the ones here
pub here_at : (before : ℕ) (entries es : List Numbered) → AreHere before entries es → map (entry_at before entries) (map (λ (e : Numbered). e.number) es) ≡ es
here_at before entries [] here = refl
here_at before entries (e ∷ es) here = ap₂ (λ x xs. x ∷ xs) here.0 (here_at before entries es here.1)

pub at_here : (before : ℕ) (entries es : List Numbered) → map (entry_at before entries) (map (λ (e : Numbered). e.number) es) ≡ es → AreHere before entries es
at_here before entries [] is = tt
at_here before entries (e ∷ es) is =
    let a : entry_at before entries e.number ≡ e = cc in
    let b : map (entry_at before entries) (map (λ (x : Numbered). x.number) es) ≡ es = cc in
    (a, at_here before entries es b)

-- what is kept of a number depends on what was kept of it alone
pub keeping_at : (a b : ℕ → List Rec) (es : List Numbered) (lists : List (List Rec)) (n : ℕ) → a n ≡ b n → keeping a es lists n ≡ keeping b es lists n
keeping_at a b [] lists n same = same
keeping_at a b (e ∷ es) [] n same = same
keeping_at a b (e ∷ es) (rs ∷ lists) n same =
    keeping_at (λ m. cond (m == e.number) rs (a m)) (λ m. cond (m == e.number) rs (b m)) es lists n (ap (cond (n == e.number) rs) same)

-- one row of records comes into its place
pub set_made : (before : ℕ) (made : List (List Rec)) (k n : ℕ) (rs : List Rec) → IsAmong before (length made) k → before < n
    → made_at before (set made (k - (before + 1)) rs) n ≡ cond (n == k) rs (made_at before made n)
set_made before made k n rs within l = go (n == k) refl
  where
    some : before < k
    some = within.0

    few : k ≤ before + length made
    few = within.1

    go : (b : Bool) → (n == k) ≡ b → made_at before (set made (k - (before + 1)) rs) n ≡ cond b rs (made_at before made n)
    go true q =
        let z = eqb-true n k q in
        ap (λ j. get_or (set made (k - (before + 1)) rs) (j - (before + 1)) []) z ∙ get_or-set_same made (k - (before + 1)) rs [] (let a = some in let b = few in omega arith)
    go false q =
        let o : (n ≡ k → ⊥) = (λ s. let t = eq-eqb n k s in cc) in
        let a = some in
        let ne : (n - (before + 1) ≡ k - (before + 1) → ⊥) = (λ s. absurd (o (omega arith))) in
        get_or-set_other made (k - (before + 1)) (n - (before + 1)) rs [] ne

-- the entry at a place has its number
pub number_from : (k i : ℕ) (entries : List Numbered) → map (λ (e : Numbered). e.number) entries ≡ ids_from k entries → i < length entries → (get_or entries i blank).number ≡ k + i
number_from k i [] off l = absurd (omega arith)
number_from k zero (x ∷ xs) off l = let a : x.number ≡ k = cc in a ∙ omega arith
number_from k (suc i) (x ∷ xs) off l =
    let t : map (λ (e : Numbered). e.number) xs ≡ ids_from (k + 1) xs = cc in
    number_from (k + 1) i xs t (omega arith) ∙ omega arith

pub number_at : (before n : ℕ) (entries : List Numbered) → map (λ (e : Numbered). e.number) entries ≡ ids_from (before + 1) entries → IsAmong before (length entries) n → (entry_at before entries n).number ≡ n
number_at before n entries off within = let a = within.0 in let b = within.1 in number_from (before + 1) (n - (before + 1)) entries off (omega arith) ∙ omega arith

pub numbers_at : (before : ℕ) (entries : List Numbered) (numbers : List ℕ) → map (λ (e : Numbered). e.number) entries ≡ ids_from (before + 1) entries → AreAmong before entries numbers → map (λ (e : Numbered). e.number) (map (entry_at before entries) numbers) ≡ numbers
numbers_at before entries [] off within = refl
numbers_at before entries (n ∷ ns) off within =
    let w = within n (has_in (n ∷ ns) n (inl refl)) in
    ap₂ (λ m ms. m ∷ ms) (number_at before n entries off w) (numbers_at before entries ns off (λ m h. within m (or_later (n == m) (has_id ns m) h)))
  where
    or_later : (a b : Bool) → b ≡ true → (a || b) ≡ true
    or_later true b e = refl
    or_later false b e = e

-- copies that are the same as what is here are a part of what is here
get_alike : {A : Type 0} (xs ys : List A) (k : ℕ) → length xs ≡ length ys → slice_get ys k ≡ None → slice_get xs k ≡ None
get_alike [] ys k l e = refl
get_alike (x ∷ xs) [] k l e = absurd (omega arith)
get_alike (x ∷ xs) (y ∷ ys) zero l e = let q : Some y ≡ None = e in absurd (cc)
get_alike (x ∷ xs) (y ∷ ys) (suc k) l e = get_alike xs ys k (omega arith) e

at_alike : {A : Type 0} (xs ys : List A) (id : ℕ) → length xs ≡ length ys → at_id ys id ≡ None → at_id xs id ≡ None
at_alike xs ys zero l e = at_zero xs
at_alike xs ys (suc k) l e = at_suc xs k ∙ get_alike xs ys k l (sym (at_suc ys k) ∙ e)

same_copy : {A : Type 0} (xs ys : List A) (id : ℕ) (copy : Option A) (b : Bool) → length xs ≡ length ys → copy ≡ cond b (at_id ys id) None → IfSome copy (λ x. at_id xs id ≡ Some x) → copy ≡ cond b (at_id xs id) None
same_copy xs ys id copy false l e same = e
same_copy {A} xs ys id copy true l e same = go copy e same
  where
    go : (o : Option A) → o ≡ at_id ys id → IfSome o (λ x. at_id xs id ≡ Some x) → o ≡ at_id xs id
    go None q s = sym (at_alike xs ys id l (sym q))
    go (Some x) q s = sym s

pub same_part : (stage : Stage) (held other : CellsView) (c d : Cells) (es : List Numbered) (part : PartView) → Represents stage held c → Represents stage other d → IsPartOf stage.conf es other part → IsSame held part → IsPartOf stage.conf es held part
same_part stage held other c d es part represented was of same = record {
  cells = λ id. same_copy held.items other.items id (cell_in part id) (any_touches stage.conf es (ItemKey id)) (represented.items ∙ sym was.items) (of.cells id) (same.cells id);
  marks = λ id. same_copy held.memories other.memories id (marks_in part id) (any_touches stage.conf es (ItemKey id)) (represented.memories ∙ sym was.memories) (of.marks id) (same.marks id);
  problems = λ id. same_copy held.problems other.problems id (problems_in part id) (any_touches stage.conf es (TriggerKey id)) (represented.triggers ∙ sym was.triggers) (of.problems id) (same.problems id);
  tick = same.tick;
}

-- a part of what is here has its copies as they are
copied : {A : Type 0} (o : Option A) (copy : Option A) (b : Bool) → copy ≡ cond b o None → IfSome copy (λ x. o ≡ Some x)
copied o None b e = tt
copied o (Some x) true e = sym e
copied o (Some x) false e = let q : Some x ≡ None = e in absurd (cc)

pub part_same : (stage : Stage) (held : CellsView) (es : List Numbered) (part : PartView) → IsPartOf stage.conf es held part → IsSame held part
part_same stage held es part of = record {
  cells = λ id. copied (at_id held.items id) (cell_in part id) (any_touches stage.conf es (ItemKey id)) (of.cells id);
  marks = λ id. copied (at_id held.memories id) (marks_in part id) (any_touches stage.conf es (ItemKey id)) (of.marks id);
  problems = λ id. copied (at_id held.problems id) (problems_in part id) (any_touches stage.conf es (TriggerKey id)) (of.problems id);
  tick = of.tick;
}

-- one more row comes into its place
pub keep_more : (before : ℕ) (made next : List (List Rec)) (es : List Numbered) (place n : ℕ) (d : Numbered) (rs : List Rec) (rest lists : List (List Rec)) → place < length es → next ≡ set made ((get_or es place d).number - (before + 1)) rs
    → IsAmong before (length made) (get_or es place d).number → before < n → lists ≡ rs ∷ rest
    → keeping (made_at before next) (drop (place + 1) es) rest n ≡ keeping (made_at before made) (drop place es) lists n
keep_more before made next es place n d rs rest lists l is within big split =
    let e = get_or es place d in
    let a : drop place es ≡ e ∷ drop (place + 1) es = drop-cons es place d l ∙ rw add-one refl in
    keeping_at (made_at before next) (λ m. cond (m == e.number) rs (made_at before made m)) (drop (place + 1) es) rest n (ap (λ ms. made_at before ms n) is ∙ set_made before made e.number n rs within big)
    ∙ sym (ap (λ ls. keeping (made_at before made) (drop place es) ls n) split ∙ ap (λ xs. keeping (made_at before made) xs (rs ∷ rest) n) a)

-- a read is the entry with a number
pub read_at : (before : ℕ) (entries : List Numbered) (n place : ℕ) (e : Numbered) → IsAmong before (length entries) n → place ≡ n - (before + 1) → e ≡ get_or entries place e → e ≡ entry_at before entries n
read_at before entries n place e within at is = let a = within.0 in let b = within.1 in is ∙ ap (λ k. get_or entries k e) at ∙ get_any entries (n - (before + 1)) e blank (omega arith)

-- a row of cells more, if there is room
pub all_pushed : {A : Type 0} (P : A → Type 0) (xs next : List A) (x : A) (b : Bool) → next ≡ cond b (xs ++ x ∷ []) xs → All P xs → P x → All P next
all_pushed P xs next x true is all one = subst (All P) (sym is) (All-push P xs x all one)
all_pushed P xs next x false is all one = subst (All P) (sym is) all

-- what came out of a ring is the first of what was known
front : (old new rest known : List Numbered) (count : ℕ) → new ++ rest ≡ old ++ known → length new ≡ length old + count → new ≡ old ++ take count known
front [] [] rest known zero e l = refl
front [] [] rest known (suc count) e l = absurd (omega arith)
front [] (x ∷ new) rest known zero e l = absurd (omega arith)
front [] (x ∷ new) rest [] (suc count) e l = absurd (cc)
front [] (x ∷ new) rest (y ∷ known) (suc count) e l =
    let h : x ≡ y = cc in
    let t : new ++ rest ≡ known = cc in
    ap₂ (λ z zs. z ∷ zs) h (front [] new rest known count t (omega arith))
front (o ∷ old) [] rest known count e l = absurd (omega arith)
front (o ∷ old) (x ∷ new) rest known count e l =
    let h : x ≡ o = cc in
    let t : new ++ rest ≡ old ++ known = cc in
    ap₂ (λ z zs. z ∷ zs) h (front old new rest known count t (omega arith))

pub more_came : (old new rest known : List Numbered) (count : ℕ) → new ++ rest ≡ old ++ known → length new ≡ length old + count → new ≡ old ++ take count known
more_came old new rest known count e l = front old new rest known count e l

-- a row of cells less
pub all_popped : {A : Type 0} (P : A → Type 0) (xs next : List A) (x : A) → xs ≡ next ++ x ∷ [] → All P xs → All P next × P x
all_popped {A} P xs next x is all = (front_all, subst P (last_at next) (whole (length next) x (omega (arith, length-append next (x ∷ [])))))
  where
    whole : All P (next ++ x ∷ [])
    whole = subst (All P) is all

    last_at : (ys : List A) → get_or (ys ++ x ∷ []) (length ys) x ≡ x
    last_at [] = refl
    last_at (y ∷ ys) = last_at ys

    first_at : (ys : List A) (k : ℕ) (d : A) → k < length ys → get_or (ys ++ x ∷ []) k d ≡ get_or ys k d
    first_at [] k d l = absurd (omega arith)
    first_at (y ∷ ys) zero d l = refl
    first_at (y ∷ ys) (suc k) d l = first_at ys k d (omega arith)

    front_all : All P next
    front_all k d l = subst P (first_at next k d l) (whole k d (omega (arith, length-append next (x ∷ []))))
