-- What entries touch.
use Rattle.std.proofs.Common.{◌≡◌, ◌∙◌, ℕ, ◌==◌, Bool, true, false, not, ◌&&◌, ◌||◌, List, [], refl, sym, ap, eqb-true}
use Rattle.std.proofs.Math.Bool.{or_assoc}
use Rattle.std.specs.List.{list_any}
use Rattle.zbx_types.specs.Masters.{has_id}
use Rattle.zbx_types.specs.declared.entries.Entry.{Entry}
use Rattle.zbx_types.specs.declared.entries.Entry.TheVariants.{Config, Value, Tick}
use Rattle.footprint.specs.Rows.{meet}
use Rattle.footprint.specs.Feet.{Footing}
use Rattle.footprint.specs.Conflict.{feet_meet}
use Rattle.syncer_gate.specs.declared.stamps.Stamps.{Stamps}
use Rattle.syncer_gate.specs.declared.touched.Touched.{Touched}
use Rattle.syncer_gate.specs.Stamped.{is_stamped, meets_value, meets, TouchesValue, Touches}
use Rattle.syncer_gate.proofs.AnyLemmas.{or_pairs, any_never, any_alike, any_either, meet_is, meet_one}

-- an empty set holds none of these ids
holds_none : (s : Stamps) (ids : List ℕ) → ((x : ℕ) → is_stamped s x ≡ false) → list_any (is_stamped s) ids ≡ false
holds_none s ids none = any_never (is_stamped s) ids none

-- where nothing was touched nothing is met
pub meets_none : (feet : Footing) (t : Touched) (e : Entry) → t.any ≡ false → t.all ≡ false → t.lone.items ≡ []
    → ((x : ℕ) → is_stamped t.items x ≡ false) → ((x : ℕ) → is_stamped t.triggers x ≡ false) → ((x : ℕ) → is_stamped t.marks x ≡ false)
    → meets feet t e ≡ false
meets_none feet t (Config now text) any all lone items triggers marks = any
meets_none feet t (Tick now) any all lone items triggers marks = any
meets_none feet t (Value now item time value) any all lone items triggers marks =
    let l : has_id t.lone.items item ≡ false = ap (λ ids. has_id ids item) lone in
    let i = holds_none t.items (feet.items item) items in
    let u = holds_none t.triggers (feet.triggers item) triggers in
    let m = holds_none t.marks (feet.met_marks item) marks in
    rw (all, l, i, u, m) refl

-- a set with a row's ids added meets what it met, and what meets the row
stamped_row : (s t : Stamps) (row ids : List ℕ) → ((x : ℕ) → is_stamped t x ≡ (is_stamped s x || has_id row x)) → list_any (is_stamped t) ids ≡ (list_any (is_stamped s) ids || meet row ids)
stamped_row s t row ids more =
    any_alike (is_stamped t) (λ x. is_stamped s x || has_id row x) ids more
    ∙ any_either (is_stamped s) (has_id row) ids
    ∙ ap (λ b. list_any (is_stamped s) ids || b) (meet_is row ids)

-- an item that is in its own foot is met there
lone_or_met : (row : ℕ → List ℕ) (item other : ℕ) (rest : Bool)
    → (((item == other) && not (has_id (row item) item)) || (meet (row item) (row other) || rest)) ≡ ((item == other) || (meet (row item) (row other) || rest))
lone_or_met row item other rest = go (item == other) refl (has_id (row item) item) refl
  where
    go : (e : Bool) → (item == other) ≡ e → (h : Bool) → has_id (row item) item ≡ h → ((e && not h) || (meet (row item) (row other) || rest)) ≡ (e || (meet (row item) (row other) || rest))
    go false e h t = refl
    go true e false t = refl
    go true e true t =
        let q : item ≡ other = eqb-true item other e in
        let m : meet (row item) (row other) ≡ true = ap (λ o. meet (row item) (row o)) (sym q) ∙ meet_one item (row item) (row item) t t in
        rw m refl

-- behind a value of an item, what its foot meets is met, too
pub value_touched : (feet : Footing) (before t : Touched) (item : ℕ) → t.any ≡ true → t.all ≡ before.all
    → ((x : ℕ) → has_id t.lone.items x ≡ (has_id before.lone.items x || ((item == x) && not (has_id (feet.items item) item))))
    → ((x : ℕ) → is_stamped t.items x ≡ (is_stamped before.items x || has_id (feet.items item) x))
    → ((x : ℕ) → is_stamped t.triggers x ≡ (is_stamped before.triggers x || has_id (feet.triggers item) x))
    → ((x : ℕ) → is_stamped t.marks x ≡ (is_stamped before.marks x || has_id (feet.marks item) x))
    → TouchesValue feet before item t
value_touched feet before t item any all lone items triggers marks = record { any = any; value = value }
  where
    value : (other : ℕ) → meets_value feet t other ≡ (meets_value feet before other || feet_meet feet item other)
    value other =
        let li = stamped_row before.items t.items (feet.items item) (feet.items other) items in
        let lt = stamped_row before.triggers t.triggers (feet.triggers item) (feet.triggers other) triggers in
        let lm = stamped_row before.marks t.marks (feet.marks item) (feet.met_marks other) marks in
        let ll = lone other in
        rw (all, ll, li, lt, lm) joined
      where
        A : Bool
        A = before.all

        L : Bool
        L = has_id before.lone.items other

        I : Bool
        I = list_any (is_stamped before.items) (feet.items other)

        T : Bool
        T = list_any (is_stamped before.triggers) (feet.triggers other)

        M : Bool
        M = list_any (is_stamped before.marks) (feet.met_marks other)

        i : Bool
        i = meet (feet.items item) (feet.items other)

        u : Bool
        u = meet (feet.triggers item) (feet.triggers other)

        m : Bool
        m = meet (feet.marks item) (feet.met_marks other)

        l : Bool
        l = (item == other) && not (has_id (feet.items item) item)

        joined : (A || ((L || l) || ((I || i) || ((T || u) || (M || m))))) ≡ ((A || (L || (I || (T || M)))) || ((item == other) || (i || (u || m))))
        joined =
            ap (λ b. A || ((L || l) || ((I || i) || b))) (or_pairs T u M m)
            ∙ ap (λ b. A || ((L || l) || b)) (or_pairs I i (T || M) (u || m))
            ∙ ap (λ b. A || b) (or_pairs L l (I || (T || M)) (i || (u || m)))
            ∙ sym (or_assoc A (L || (I || (T || M))) (l || (i || (u || m))))
            ∙ ap (λ b. (A || (L || (I || (T || M)))) || b) (lone_or_met feet.items item other (u || m))

-- behind an entry, what conflicts with it is met, too
pub value_entry : (feet : Footing) (before t : Touched) (now item time : ℕ) (text : List ℕ) → TouchesValue feet before item t → Touches feet before (Value now item time text) t
value_entry feet before t now item time text touched (Value later other at value) = touched.value other
value_entry feet before t now item time text touched (Config later value) = touched.any ∙ sym (or_true before.any)
  where
    or_true : (v : Bool) → (v || true) ≡ true
    or_true true = refl
    or_true false = refl
value_entry feet before t now item time text touched (Tick later) = touched.any ∙ sym (or_true before.any)
  where
    or_true : (v : Bool) → (v || true) ≡ true
    or_true true = refl
    or_true false = refl
