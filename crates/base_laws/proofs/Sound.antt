-- Behind a sound start, a log whose numbers rise leaves a sound start.
use Rattle.std.proofs.Common.{◌≡◌, ◌≤◌, ◌<◌, ◌==◌, ◌&&◌, ℕ, Bool, true, false, cond, not, inl, Some, None, List, [], ◌∷◌, ◌++◌, map, filter, refl, sym, ◌∙◌, ap, ap₂, subst, append_assoc, append-nil, eqb-true, eq-eqb, arith}
use Rattle.std.specs.Option.{option_map_or}
use Rattle.zbx_types.specs.Ids.{at_id}
use Rattle.zbx_types.specs.Records.{same_event, event_of}
use Rattle.zbx_types.specs.declared.entries.EventId.{EventId}
use Rattle.zbx_types.specs.declared.entries.Numbered.{Numbered}
use Rattle.zbx_types.specs.declared.entries.Rec.{Rec}
use Rattle.zbx_types.specs.declared.entries.Rec.TheVariants.{Failure, Problem, Recovery, Step, Message}
use Rattle.zbx_types.specs.declared.entries.Tag.{Tag}
use Rattle.zbx_types.specs.declared.items.Item.{Item}
use Rattle.preprocess.specs.Cells.{no_marks}
use Rattle.preprocess.specs.Draft.{marks_after}
use Rattle.value_cache.specs.Histories.{IsOrdered}
use Rattle.trigger_state.specs.Problems.{event_in, with_step, opens, stepped, opened, absorbed, absorbed_all, open_of}
use Rattle.trigger_state.specs.Stages.{Stage, OwnsEvents, home}
use Rattle.trigger_state.specs.declared.problems.Open.{Open}
use Rattle.entry_step.specs.Each.{Each, EachPair}
use Rattle.entry_step.specs.History.{stored_of, marks_of, memory_of, history_of}
use Rattle.entry_step.specs.Laws.{AreBehind}
use Rattle.entry_step.specs.Log.{last_number, IsRising}
use Rattle.entry_step.specs.Records.{out_of, replay}
use Rattle.entry_step.specs.Start.{Start}
use Rattle.entry_laws.specs.Rising.{StandsBehind, IsUpTo, HaveOwnNames}
use Rattle.entry_step.proofs.Making.{OfProblem, pairs_filter}
use Rattle.entry_step.proofs.Members.{each_append, each_both, each_sub}
use Rattle.entry_step.proofs.Orders.{fresh_is_good}
use Rattle.entry_step.proofs.Owning.{entries_own}
use Rattle.entry_step.proofs.Problems.{open_append, each_open}
use Rattle.entry_step.proofs.Visited.{absent}
use Rattle.entry_laws.proofs.Behind.{behind_is_good}
use Rattle.entry_laws.proofs.Rising.{steps_rise, fresh_has_steps}
use Rattle.entry_laws.proofs.Runs.{open_has}
use Rattle.base_laws.specs.Alike.{IsMadeBefore}
use Rattle.base_laws.specs.Sound.{IsOfType, ComesFirst, AreInOrder, IsSound, FreshIsSound, BehindIsSound}
use Rattle.base_laws.proofs.Absorbing.{own_is}
use Rattle.base_laws.proofs.Alike.{ordered_with}
use Rattle.base_laws.proofs.Making.{pairs_sub, pairs_both, pairs_map}
use Rattle.base_laws.proofs.Numbers.{OfEntry, out_of_entry}
use Rattle.base_laws.proofs.Typed.{stored_typed, each_with}

-- The problems that are open of a trigger stand in the order of making
stepped_event : (s : Rec) (o : Open) → event_in (stepped s o) ≡ event_in o
stepped_event s o = go (same_event (event_in o) (event_of s))
  where
    go : (b : Bool) → event_of (cond b (record { problem = o.problem; steps = with_step o.steps s; rank = o.rank }) o).problem ≡ event_in o
    go true = refl
    go false = refl

module _ (stage : Stage) (id : ℕ) where
  abbrev Follows : Open → Open → Type 0
  Follows o x = IsMadeBefore stage (event_in o) (event_in x)

  stepped_order : (s : Rec) (os : List Open) → AreInOrder stage os → AreInOrder stage (map (stepped s) os)
  stepped_order s os e =
      pairs_map Follows (stepped s) os
      (pairs_sub Follows (λ o x. Follows (stepped s o) (stepped s x)) os
      (λ o x h. subst (λ (v : EventId). IsMadeBefore stage v (event_in (stepped s x))) (sym (stepped_event s o)) (subst (λ (w : EventId). IsMadeBefore stage (event_in o) w) (sym (stepped_event s x)) h)) e)

  on_either : (b : Bool) (xs ys : List Open) → AreInOrder stage xs → AreInOrder stage ys → AreInOrder stage (cond b xs ys)
  on_either true xs ys a b = a
  on_either false xs ys a b = b

  -- where no problem is new
  calm_one : (os : List Open) (r : Rec) → opens stage id r ≡ false → AreInOrder stage os → AreInOrder stage (absorbed stage id os r)
  unfolding absorbed
  calm_one os (Problem event now severity suppressed host trigger name tags) off e =
      subst (AreInOrder stage) (sym (ap (λ b. cond b (os ++ opened stage (Problem event now severity suppressed host trigger name tags) [] ∷ []) os) off)) e
  calm_one os (Failure number host key why) off e = e
  calm_one os (Message event action step recipient subject body) off e = e
  calm_one os (Recovery event by now cause) off e =
      on_either (home stage event == id) (filter (λ o. not (same_event (event_in o) event)) os) os (pairs_filter Follows (λ o. not (same_event (event_in o) event)) os e) e
  calm_one os (Step event action step now) off e =
      on_either (home stage event == id) (map (stepped (Step event action step now)) os) os (stepped_order (Step event action step now) os e) e

  calm : (os : List Open) (rs : List Rec) → Each (λ r. opens stage id r ≡ false) rs → AreInOrder stage os → AreInOrder stage (absorbed_all stage id os rs)
  calm os [] off e = e
  calm os (r ∷ rs) off e = calm (absorbed stage id os r) rs off.1 (calm_one os r off.0 e)

  last_order : (os : List Open) (x : Open) → Each (λ o. Follows o x) os → AreInOrder stage os → AreInOrder stage (os ++ x ∷ [])
  last_order [] x h e = (tt, tt)
  last_order (o ∷ os) x h e = (each_append (Follows o) os (x ∷ []) e.0 (h.0, tt), last_order os x h.1 e.1)

  module _ (n : ℕ) (own : OwnsEvents stage n) where
    -- behind a new problem none is new at its trigger
    no_more : (event : EventId) (now severity : ℕ) (suppressed : Bool) (host trigger name : List ℕ) (tags : List Tag) (s : Rec) → event.number ≡ n → home stage event ≡ id → OfEntry n s × StandsBehind (Problem event now severity suppressed host trigger name tags) s → opens stage id s ≡ false
    no_more event now severity suppressed host trigger name tags (Failure number h key why) m here s = refl
    no_more event now severity suppressed host trigger name tags (Recovery e by t cause) m here s = refl
    no_more event now severity suppressed host trigger name tags (Step e action step t) m here s = refl
    no_more event now severity suppressed host trigger name tags (Message e action step recipient subject body) m here s = refl
    no_more event now severity suppressed host trigger name tags (Problem e t v q h u k gs) m here s = go (home stage e == id) refl
      where
        go : (b : Bool) → (home stage e == id) ≡ b → (home stage e == id) ≡ false
        go false off = off
        go true on =
            let same_trigger : e.trigger ≡ event.trigger = sym (own_is stage n own e s.0) ∙ eqb-true (home stage e) id on ∙ sym here ∙ own_is stage n own event m in
            let same_number : e.number ≡ event.number = s.0 ∙ sym m in
            let same : same_event e event ≡ true = ap₂ (λ a b. a && b) (eq-eqb e.number event.number same_number) (eq-eqb e.trigger event.trigger same_trigger) in
            let apart : same_event e event ≡ false = s.1 in
            absurd (let f : true ≡ false = sym same ∙ apart in cc)

    new_order : (os : List Open) (rs : List Rec) → Each (OfEntry n) rs → EachPair StandsBehind rs → Each (λ o. (event_in o).number < n) os → AreInOrder stage os → AreInOrder stage (absorbed_all stage id os rs)
    unfolding absorbed
    new_order os [] of behind below e = e
    new_order os (r ∷ rs) of behind below e = go (opens stage id r) refl (new_order (absorbed stage id os r) rs of.1 behind.1)
      where
        begins : (x : Rec) → OfEntry n x → Each (StandsBehind x) rs → opens stage id x ≡ true → AreInOrder stage (absorbed_all stage id (absorbed stage id os x) rs)
        begins (Problem event now severity suppressed host trigger name tags) m b q =
            let x : Rec = Problem event now severity suppressed host trigger name tags in
            let here : home stage event ≡ id = eqb-true (home stage event) id q in
            calm (absorbed stage id os x) rs (each_sub (λ s. OfEntry n s × StandsBehind x s) (λ s. opens stage id s ≡ false) rs (λ s h. no_more event now severity suppressed host trigger name tags s m here h) (each_both (OfEntry n) (StandsBehind x) rs of.1 b))
            (subst (AreInOrder stage) (sym (ap (λ c. cond c (os ++ opened stage x [] ∷ []) os) q))
            (last_order os (opened stage x []) (each_sub (λ o. (event_in o).number < n) (λ o. IsMadeBefore stage (event_in o) event) os (λ o l. inl (let k : event.number ≡ n = m in omega arith)) below) e))
        begins (Failure number host key why) m b q = absurd (cc)
        begins (Recovery event by now cause) m b q = absurd (cc)
        begins (Step event action step now) m b q = absurd (cc)
        begins (Message event action step recipient subject body) m b q = absurd (cc)

        go : (b : Bool) → opens stage id r ≡ b → (Each (λ o. (event_in o).number < n) (absorbed stage id os r) → AreInOrder stage (absorbed stage id os r) → AreInOrder stage (absorbed_all stage id (absorbed stage id os r) rs)) → AreInOrder stage (absorbed_all stage id (absorbed stage id os r) rs)
        go true q ih = begins r of.0 behind.0 q
        go false q ih =
            ih (each_open (λ p. (event_of p).number < n) stage id os (r ∷ []) ((λ t. absurd (let f : true ≡ false = sym t ∙ q in cc)), tt) below) (calm_one os r q e)

-- The numbers of problems don't fall
each_front : {A : Type 0} (P : A → Type 0) (xs ys : List A) → Each P (xs ++ ys) → Each P xs × Each P ys
each_front P [] ys e = (tt, e)
each_front P (x ∷ xs) ys e = let r = each_front P xs ys e.1 in ((e.0, r.0), r.1)

comes : (n : ℕ) (r s : Rec) → IsUpTo n r → OfEntry n s → ComesFirst r s
comes n r (Problem event now severity suppressed host trigger name tags) u q = subst (λ k. IsUpTo k r) (sym q) u
comes n r (Failure number host key why) u q = tt
comes n r (Recovery event by now cause) u q = tt
comes n r (Step event action step now) u q = tt
comes n r (Message event action step recipient subject body) u q = tt

new_pairs : (n : ℕ) (xs : List Rec) → Each (IsUpTo n) xs → Each (OfEntry n) xs → EachPair ComesFirst xs
new_pairs n [] u o = tt
new_pairs n (x ∷ xs) u o = (each_sub (OfEntry n) (ComesFirst x) xs (λ s q. comes n x s u.0 q) o.1, new_pairs n xs u.1 o.1)

module _ (start : Start) (own : HaveOwnNames start.stage.conf.actions) (sound : IsSound start) where
  pub numbers_rise : (log : List Numbered) → IsRising start log → EachPair ComesFirst (start.records ++ replay start log)
  numbers_rise [] rising = subst (EachPair ComesFirst) (sym (append-nil start.records)) sound.numbers
  numbers_rise (e ∷ log) rising =
      let rs : List Rec = start.records ++ replay start log in
      let new : List Rec = out_of start log e e.entry rs in
      let whole : start.records ++ (replay start log ++ new) ≡ rs ++ new = sym (append_assoc start.records (replay start log) new) in
      let upto = each_front (IsUpTo e.number) rs new (subst (Each (IsUpTo e.number)) whole (steps_rise start (e ∷ log) own sound.steps rising).1.upto) in
      let of = out_of_entry start log e rs in
      subst (EachPair ComesFirst) (sym whole)
      (pairs_both ComesFirst rs new (numbers_rise log rising.1) (new_pairs e.number new upto.1 of)
      (each_sub (IsUpTo e.number) (λ x. Each (ComesFirst x) new) rs (λ x u. each_sub (OfEntry e.number) (ComesFirst x) new (λ s q. comes e.number x s u q) of) upto.0))

-- Numbers that rise
pub upto_last : (start : Start) (log : List Numbered) → IsRising start log → start.number ≤ last_number start log
upto_last start [] rising = omega arith
upto_last start (e ∷ log) rising = let l = upto_last start log rising.1 in let m = rising.0 in omega arith

pub are_behind : (start : Start) (log : List Numbered) → IsRising start log → AreBehind start log
are_behind start [] rising = tt
are_behind start (e ∷ log) rising = (let l = upto_last start log rising.1 in let m = rising.0 in omega arith, are_behind start log rising.1)

-- So do those behind a log
pairs_after : {A : Type 0} (R : A → A → Type 0) (xs ys : List A) → EachPair R (xs ++ ys) → EachPair R ys
pairs_after R [] ys e = e
pairs_after R (x ∷ xs) ys e = pairs_after R xs ys e.1

of_upto : (m n : ℕ) (r : Rec) → m < n → IsUpTo m r → OfProblem (λ v. v.number < n) r
of_upto m n (Problem event now severity suppressed host trigger name tags) l u = omega arith
of_upto m n (Failure number host key why) l u = tt
of_upto m n (Recovery event by now cause) l u = tt
of_upto m n (Step event action step now) l u = tt
of_upto m n (Message event action step recipient subject body) l u = tt

module _ (start : Start) (own : HaveOwnNames start.stage.conf.actions) (sound : IsSound start) where
  pub order_behind : (log : List Numbered) → IsRising start log → (id : ℕ) → AreInOrder start.stage (open_of start.stage (start.records ++ replay start log) id)
  order_behind [] rising id = subst (λ rs. AreInOrder start.stage (open_of start.stage rs id)) (sym (append-nil start.records)) (sound.order id)
  order_behind (e ∷ log) rising id =
      let rs : List Rec = start.records ++ replay start log in
      let new : List Rec = out_of start log e e.entry rs in
      let whole : start.records ++ (replay start log ++ new) ≡ rs ++ new = sym (append_assoc start.records (replay start log) new) in
      let before = (steps_rise start log own sound.steps rising.1).1 in
      let behind : EachPair StandsBehind (rs ++ new) = subst (EachPair StandsBehind) whole (steps_rise start (e ∷ log) own sound.steps rising).1.behind in
      let last = rising.0 in
      let first = upto_last start log rising.1 in
      let later : start.number < e.number = omega arith in
      subst (λ all. AreInOrder start.stage (open_of start.stage all id)) (sym whole)
      (subst (AreInOrder start.stage) (sym (open_append start.stage id rs new))
      (new_order start.stage id e.number (entries_own start e sound.good later) (open_of start.stage rs id) new (out_of_entry start log e rs) (pairs_after StandsBehind rs new behind)
      (open_has (λ v. v.number < e.number) start.stage id rs (each_sub (IsUpTo (last_number start log)) (OfProblem (λ v. v.number < e.number)) rs (λ r u. of_upto (last_number start log) e.number r last u) before.upto))
      (order_behind log rising.1 id)))

-- Histories and memories
module _ (start : Start) (sound : IsSound start) where
  pub typed_behind : (log : List Numbered) (id : ℕ) (item : Item) → at_id start.stage.conf.items id ≡ Some item → Each (λ s. IsOfType item.value_type s.value) (history_of start log id)
  typed_behind [] id item there = sound.types id item there
  typed_behind (e ∷ log) id item there =
      each_with (λ s. IsOfType item.value_type s.value) (stored_of start.stage.conf (memory_of start log) e.number e.entry id) (history_of start log id)
      (λ s q. stored_typed start.stage.conf (memory_of start log) e.number e.entry id item s there q) (typed_behind log id item there)

  pub ordered_behind : (log : List Numbered) (id : ℕ) → IsOrdered (history_of start log id)
  ordered_behind [] id = sound.ordered id
  ordered_behind (e ∷ log) id = ordered_with (stored_of start.stage.conf (memory_of start log) e.number e.entry id) (history_of start log id) (ordered_behind log id)

  pub absent_behind : (log : List Numbered) (id : ℕ) → at_id start.stage.conf.items id ≡ None → marks_of start log id ≡ []
  unfolding marks_of
  absent_behind [] id none = sound.absent id none
  absent_behind (e ∷ log) id none = ap (λ v. marks_after v (marks_of start log id)) (absent start.stage.conf (memory_of start log) e.number e.entry id none) ∙ absent_behind log id none

pub behind_is_sound : BehindIsSound
behind_is_sound start log own sound rising = record {
  good = behind_is_good start log sound.good (are_behind start log rising);
  steps = (steps_rise start log own sound.steps rising).1;
  numbers = numbers_rise start own sound log rising;
  order = order_behind start own sound log rising;
  ordered = ordered_behind start sound log;
  types = typed_behind start sound log;
  absent = absent_behind start sound log;
}

pub fresh_is_sound : FreshIsSound
fresh_is_sound stage none = record {
  good = fresh_is_good stage none;
  steps = fresh_has_steps stage;
  numbers = tt;
  order = λ id. tt;
  ordered = λ id. tt;
  types = λ id item there. tt;
  absent = λ id absent. ap (λ o. option_map_or no_marks o []) absent;
}
