-- Two entries conflict exactly where their feet have a cell in common.
use Rattle.std.proofs.Common.{◌≡◌, ℕ, ◌==◌, Bool, true, false, ◌&&◌, ◌||◌, ◌⊎◌, inl, inr, Option, Some, None, List, refl, sym, ◌∙◌, subst, eqb-true, eq-eqb}
use Rattle.std.specs.List.{list_any}
use Rattle.zbx_types.specs.Ids.{at_id, ids_from}
use Rattle.zbx_types.specs.Masters.{has_id}
use Rattle.zbx_types.specs.declared.conf.Conf.{Conf}
use Rattle.zbx_types.specs.declared.rules.Rule.{Rule}
use Rattle.zbx_types.specs.declared.triggers.Trigger.{Trigger}
use Rattle.zbx_types.specs.declared.entries.Entry.{Entry}
use Rattle.zbx_types.specs.declared.entries.Entry.TheVariants.{Config, Value, Tick}
use Rattle.zbx_types.specs.declared.entries.Numbered.{Numbered}
use Rattle.footprint.specs.Rows.{is_one, meet, those}
use Rattle.footprint.specs.Feet.{is_under, is_of, over_of, foot_has_item, foot_triggers, reach_by, is_reached, foot_has_mark, foot_marks, share_trigger, foot_meets_mark, Footing, feet_of}
use Rattle.footprint.specs.Conflict.{feet_meet, conflict_of}
use Rattle.footprint.proofs.IdLemmas.{has_those}
use Rattle.entry_step.specs.Each.{In}
use Rattle.entry_step.specs.Cells.{Key, ItemKey, TriggerKey, TickKey, touches}
use Rattle.entry_step.specs.Laws.{Apart, ConflictIsMeeting}
use Rattle.entry_step.proofs.Members.{or_left, or_right, or_cases, and_left, and_right, and_both, any_intro, any_elim, true_or_false}
use Rattle.entry_step.proofs.Feet.{there, among, has_of, one_of, has_one, under_itself}
use Rattle.entry_step.proofs.Orders.{touches_some}

has_in : (xs : List ℕ) (x : ℕ) → In x xs → has_id xs x ≡ true
has_in xs x i = any_intro (λ y. y == x) x xs i (eq-eqb x x refl)

one_that : {A : Type 0} (all : List A) (p : ℕ → Bool) (x : ℕ) → has_id (those all p) x ≡ true → p x ≡ true
one_that all p x h = and_right (is_one all x) (p x) (sym (has_those all p x) ∙ h)

-- what a rule reaches is there
reached_there : (conf : Conf) (rule u : ℕ) → is_reached conf rule u ≡ true → is_one conf.triggers u ≡ true
reached_there conf rule u r = go (at_id conf.correlations rule) (at_id conf.triggers u) refl r
  where
    go : (x : Option Rule) (o : Option Trigger) → at_id conf.triggers u ≡ o → reach_by x o ≡ true → is_one conf.triggers u ≡ true
    go None o q e = cc
    go (Some x) None q e = cc
    go (Some x) (Some trigger) q e = there conf.triggers u trigger q

module _ (conf : Conf) where
  abbrev feet : Footing
  feet = feet_of conf

  -- a trigger is in the foot of an item, itself or by a mark
  abbrev in_foot : ℕ → ℕ → Bool
  in_foot item u = has_id (foot_triggers conf item) u || list_any (λ rule. is_reached conf rule u) (foot_marks conf item)

  marked : (item rule u : ℕ) → is_one conf.correlations rule ≡ true → has_id (foot_triggers conf item) u ≡ true → is_reached conf rule u ≡ true → has_id (foot_marks conf item) rule ≡ true
  marked item rule u one h r = has_of conf.correlations (foot_has_mark conf item) rule one (among (λ v. is_reached conf rule v) (foot_triggers conf item) u h r)

  met : (item mark rule u : ℕ) → is_one conf.correlations rule ≡ true → has_id (foot_marks conf item) mark ≡ true → is_reached conf mark u ≡ true → is_reached conf rule u ≡ true → has_id (feet.met_marks item) rule ≡ true
  met item mark rule u one h m r =
      has_of conf.correlations (foot_meets_mark conf item) rule one
      (among (λ x. share_trigger conf x rule) (foot_marks conf item) mark h
      (among (λ v. is_reached conf mark v && is_reached conf rule v) (ids_from 1 conf.triggers) u (has_one conf.triggers u (reached_there conf rule u r)) (and_both (is_reached conf mark u) (is_reached conf rule u) m r)))

  rules_meet : (a b rule other u : ℕ) → has_id (foot_marks conf a) rule ≡ true → has_id (foot_marks conf b) other ≡ true → is_reached conf rule u ≡ true → is_reached conf other u ≡ true → meet (feet.marks a) (feet.met_marks b) ≡ true
  rules_meet a b rule other u h g r s =
      among (λ x. has_id (feet.met_marks b) x) (feet.marks a) rule h (met b other rule u (one_of conf.correlations (foot_has_mark conf a) rule h) g s r)

  -- two feet that have an item or a trigger in common meet
  items_meet : (a b i : ℕ) → ((i == a) || has_id (feet.items a) i) ≡ true → ((i == b) || has_id (feet.items b) i) ≡ true → feet_meet feet a b ≡ true
  items_meet a b i h g = go (or_cases (i == a) (has_id (feet.items a) i) h) (or_cases (i == b) (has_id (feet.items b) i) g)
    where
      rest : Bool
      rest = meet (feet.items a) (feet.items b) || (meet (feet.triggers a) (feet.triggers b) || meet (feet.marks a) (feet.met_marks b))

      both : (x : ℕ) → has_id (feet.items a) x ≡ true → has_id (feet.items b) x ≡ true → feet_meet feet a b ≡ true
      both x p q = or_right (a == b) rest (or_left (meet (feet.items a) (feet.items b)) (meet (feet.triggers a) (feet.triggers b) || meet (feet.marks a) (feet.met_marks b)) (among (λ y. has_id (feet.items b) y) (feet.items a) x p q))

      own : (x : ℕ) → is_one conf.items x ≡ true → has_id (feet.items x) x ≡ true
      own x o = has_of conf.items (foot_has_item conf x) x o (or_left (is_under conf x x) (list_any (λ t. is_of conf t x) (over_of conf x)) (under_itself conf x o))

      go : ((i == a) ≡ true) ⊎ (has_id (feet.items a) i ≡ true) → ((i == b) ≡ true) ⊎ (has_id (feet.items b) i ≡ true) → feet_meet feet a b ≡ true
      go (inl p) (inl q) = or_left (a == b) rest (eq-eqb a b (sym (eqb-true i a p) ∙ eqb-true i b q))
      go (inl p) (inr q) = let e : i ≡ a = eqb-true i a p in let z : has_id (feet.items b) a ≡ true = subst (λ x. has_id (feet.items b) x ≡ true) e q in both a (own a (one_of conf.items (foot_has_item conf b) a z)) z
      go (inr p) (inl q) = let e : i ≡ b = eqb-true i b q in let z : has_id (feet.items a) b ≡ true = subst (λ x. has_id (feet.items a) x ≡ true) e p in both b z (own b (one_of conf.items (foot_has_item conf a) b z))
      go (inr p) (inr q) = both i p q

  triggers_meet : (a b u : ℕ) → in_foot a u ≡ true → in_foot b u ≡ true → feet_meet feet a b ≡ true
  triggers_meet a b u h g = or_right (a == b) rest (or_right (meet (feet.items a) (feet.items b)) (meet (feet.triggers a) (feet.triggers b) || meet (feet.marks a) (feet.met_marks b)) (go (or_cases (has_id (foot_triggers conf a) u) (list_any (λ rule. is_reached conf rule u) (foot_marks conf a)) h) (or_cases (has_id (foot_triggers conf b) u) (list_any (λ rule. is_reached conf rule u) (foot_marks conf b)) g)))
    where
      rest : Bool
      rest = meet (feet.items a) (feet.items b) || (meet (feet.triggers a) (feet.triggers b) || meet (feet.marks a) (feet.met_marks b))

      by_marks : (rule other : ℕ) → has_id (foot_marks conf a) rule ≡ true → has_id (foot_marks conf b) other ≡ true → is_reached conf rule u ≡ true → is_reached conf other u ≡ true → (meet (feet.triggers a) (feet.triggers b) || meet (feet.marks a) (feet.met_marks b)) ≡ true
      by_marks rule other p q r s = or_right (meet (feet.triggers a) (feet.triggers b)) (meet (feet.marks a) (feet.met_marks b)) (rules_meet a b rule other u p q r s)

      go : (has_id (foot_triggers conf a) u ≡ true) ⊎ (list_any (λ rule. is_reached conf rule u) (foot_marks conf a) ≡ true) → (has_id (foot_triggers conf b) u ≡ true) ⊎ (list_any (λ rule. is_reached conf rule u) (foot_marks conf b) ≡ true)
          → (meet (feet.triggers a) (feet.triggers b) || meet (feet.marks a) (feet.met_marks b)) ≡ true
      go (inl p) (inl q) = or_left (meet (feet.triggers a) (feet.triggers b)) (meet (feet.marks a) (feet.met_marks b)) (among (λ x. has_id (feet.triggers b) x) (feet.triggers a) u p q)
      go (inl p) (inr q) =
          let r = any_elim (λ rule. is_reached conf rule u) (foot_marks conf b) q in
          let m = has_in (foot_marks conf b) r.0 r.1 in
          by_marks r.0 r.0 (marked a r.0 u (one_of conf.correlations (foot_has_mark conf b) r.0 m) p r.2) m r.2 r.2
      go (inr p) (inl q) =
          let r = any_elim (λ rule. is_reached conf rule u) (foot_marks conf a) p in
          let m = has_in (foot_marks conf a) r.0 r.1 in
          by_marks r.0 r.0 m (marked b r.0 u (one_of conf.correlations (foot_has_mark conf a) r.0 m) q r.2) r.2 r.2
      go (inr p) (inr q) =
          let r = any_elim (λ rule. is_reached conf rule u) (foot_marks conf a) p in
          let s = any_elim (λ rule. is_reached conf rule u) (foot_marks conf b) q in
          by_marks r.0 s.0 (has_in (foot_marks conf a) r.0 r.1) (has_in (foot_marks conf b) s.0 s.1) r.2 s.2

  -- and feet that meet have one in common
  common : (a b : ℕ) (P : Type 0) → ((i : ℕ) → ((i == a) || has_id (feet.items a) i) ≡ true → ((i == b) || has_id (feet.items b) i) ≡ true → P) → ((u : ℕ) → in_foot a u ≡ true → in_foot b u ≡ true → P) → feet_meet feet a b ≡ true → P
  common a b P items triggers m = go (or_cases (a == b) (meet (feet.items a) (feet.items b) || (meet (feet.triggers a) (feet.triggers b) || meet (feet.marks a) (feet.met_marks b))) m)
    where
      by_mark : meet (feet.marks a) (feet.met_marks b) ≡ true → P
      by_mark e =
          let r = any_elim (λ x. has_id (feet.met_marks b) x) (feet.marks a) e in
          let s = any_elim (λ mark. share_trigger conf mark r.0) (foot_marks conf b) (one_that conf.correlations (foot_meets_mark conf b) r.0 r.2) in
          let t = any_elim (λ u. is_reached conf s.0 u && is_reached conf r.0 u) (ids_from 1 conf.triggers) s.2 in
          let by_s : is_reached conf s.0 t.0 ≡ true = and_left (is_reached conf s.0 t.0) (is_reached conf r.0 t.0) t.2 in
          let by_r : is_reached conf r.0 t.0 ≡ true = and_right (is_reached conf s.0 t.0) (is_reached conf r.0 t.0) t.2 in
          triggers t.0
          (or_right (has_id (foot_triggers conf a) t.0) (list_any (λ rule. is_reached conf rule t.0) (foot_marks conf a)) (any_intro (λ rule. is_reached conf rule t.0) r.0 (foot_marks conf a) r.1 by_r))
          (or_right (has_id (foot_triggers conf b) t.0) (list_any (λ rule. is_reached conf rule t.0) (foot_marks conf b)) (any_intro (λ rule. is_reached conf rule t.0) s.0 (foot_marks conf b) s.1 by_s))

      by_trigger : (meet (feet.triggers a) (feet.triggers b) ≡ true) ⊎ (meet (feet.marks a) (feet.met_marks b) ≡ true) → P
      by_trigger (inr e) = by_mark e
      by_trigger (inl e) =
          let r = any_elim (λ x. has_id (feet.triggers b) x) (feet.triggers a) e in
          triggers r.0
          (or_left (has_id (foot_triggers conf a) r.0) (list_any (λ rule. is_reached conf rule r.0) (foot_marks conf a)) (has_in (foot_triggers conf a) r.0 r.1))
          (or_left (has_id (foot_triggers conf b) r.0) (list_any (λ rule. is_reached conf rule r.0) (foot_marks conf b)) r.2)

      by_item : (meet (feet.items a) (feet.items b) ≡ true) ⊎ ((meet (feet.triggers a) (feet.triggers b) || meet (feet.marks a) (feet.met_marks b)) ≡ true) → P
      by_item (inr e) = by_trigger (or_cases (meet (feet.triggers a) (feet.triggers b)) (meet (feet.marks a) (feet.met_marks b)) e)
      by_item (inl e) =
          let r = any_elim (λ x. has_id (feet.items b) x) (feet.items a) e in
          items r.0 (or_right (r.0 == a) (has_id (feet.items a) r.0) (has_in (feet.items a) r.0 r.1)) (or_right (r.0 == b) (has_id (feet.items b) r.0) r.2)

      go : ((a == b) ≡ true) ⊎ ((meet (feet.items a) (feet.items b) || (meet (feet.triggers a) (feet.triggers b) || meet (feet.marks a) (feet.met_marks b))) ≡ true) → P
      go (inr e) = by_item (or_cases (meet (feet.items a) (feet.items b)) (meet (feet.triggers a) (feet.triggers b) || meet (feet.marks a) (feet.met_marks b)) e)
      go (inl e) = items a (or_left (a == a) (has_id (feet.items a) a) (eq-eqb a a refl)) (or_left (a == b) (has_id (feet.items b) a) e)

-- an entry that touches every key is apart from none
everywhere : (conf : Conf) (a b : Numbered) → ((k : Key) → touches conf a.entry k ≡ true) → Apart conf a b → ⊥
everywhere conf a b all apart = let s = touches_some conf b.entry in apart s.0 (all s.0) s.1

apart_sides : (conf : Conf) (a b : Numbered) → Apart conf a b → Apart conf b a
apart_sides conf a b h k p q = h k q p

values_apart : (conf : Conf) (n m now item time : ℕ) (value : List ℕ) (later other at : ℕ) (text : List ℕ) → feet_meet (feet_of conf) item other ≡ false → Apart conf (record { number = n; entry = Value now item time value }) (record { number = m; entry = Value later other at text })
unfolding touches
values_apart conf n m now item time value later other at text f (ItemKey i) p q = let z = items_meet conf item other i p q in cc
values_apart conf n m now item time value later other at text f (TriggerKey u) p q = let z = triggers_meet conf item other u p q in cc
values_apart conf n m now item time value later other at text f TickKey p q = cc

apart_values : (conf : Conf) (n m now item time : ℕ) (value : List ℕ) (later other at : ℕ) (text : List ℕ) → Apart conf (record { number = n; entry = Value now item time value }) (record { number = m; entry = Value later other at text }) → feet_meet (feet_of conf) item other ≡ false
unfolding touches
apart_values conf n m now item time value later other at text apart = go (true_or_false (feet_meet (feet_of conf) item other))
  where
    go : (feet_meet (feet_of conf) item other ≡ true) ⊎ (feet_meet (feet_of conf) item other ≡ false) → feet_meet (feet_of conf) item other ≡ false
    go (inr f) = f
    go (inl t) = absurd (common conf item other ⊥ (λ i p q. apart (ItemKey i) p q) (λ u p q. apart (TriggerKey u) p q) t)

pub conflict_is_meeting : ConflictIsMeeting
conflict_is_meeting conf a b = go a.entry b.entry
  where
    at : ℕ → Entry → Numbered
    at n x = record { number = n; entry = x }

    go : (x y : Entry) → (conflict_of conf x y ≡ false → Apart conf (at a.number x) (at b.number y)) × (Apart conf (at a.number x) (at b.number y) → conflict_of conf x y ≡ false)
    go (Config now text) y = ((λ f. cc), (λ h. absurd (everywhere conf (at a.number (Config now text)) (at b.number y) (λ k. unfold touches in refl) h)))
    go (Tick now) y = ((λ f. cc), (λ h. absurd (everywhere conf (at a.number (Tick now)) (at b.number y) (λ k. unfold touches in refl) h)))
    go (Value now item time value) (Config later text) =
        ((λ f. cc), (λ h. absurd (everywhere conf (at b.number (Config later text)) (at a.number (Value now item time value)) (λ k. unfold touches in refl) (apart_sides conf (at a.number (Value now item time value)) (at b.number (Config later text)) h))))
    go (Value now item time value) (Tick later) =
        ((λ f. cc), (λ h. absurd (everywhere conf (at b.number (Tick later)) (at a.number (Value now item time value)) (λ k. unfold touches in refl) (apart_sides conf (at a.number (Value now item time value)) (at b.number (Tick later)) h))))
    go (Value now item time value) (Value later other time' text) =
        (values_apart conf a.number b.number now item time value later other time' text, apart_values conf a.number b.number now item time value later other time' text)
