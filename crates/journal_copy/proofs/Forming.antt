-- The state of what a journal keeps is one that can be written: it has a text, both Ticks or neither, and orderly problems.
use Rattle.std.proofs.Common.{◌≡◌, ◌<◌, ◌≤◌, ◌+◌, ℕ, true, List, [], ◌∷◌, length, map, All, Option, Some, None, refl, sym, ap, ap₂, ◌∙◌, subst, arith, Ordering, Less, Equal, Greater}
use Rattle.std.specs.Cmp.Lexicographic.{slice_cmp}
use Rattle.std.specs.Option.{option_or}
use Rattle.std.specs.Ordering.{is_le, is_lt, nat_cmp}
use Rattle.std.specs.Prelude.{IsTrue, is_some, ◌&&◌, Result, Ok, Err}
use Rattle.std.specs.Str.{chars, is_utf8}
use Rattle.std.proofs.lemmas.List.{length-reverse}
use Rattle.std.proofs.lemmas.List.Elements.{All-cons, All-nil}
use Rattle.zbx_types.specs.declared.base.Base.{Base}
use Rattle.zbx_types.specs.declared.entries.Entry.{Entry}
use Rattle.zbx_types.specs.declared.entries.Entry.TheVariants.{Config, Value, Tick}
use Rattle.zbx_types.specs.declared.entries.Numbered.{Numbered}
use Rattle.zbx_types.specs.declared.entries.Rec.{Rec}
use Rattle.zbx_types.specs.declared.entries.Rec.TheVariants.{Failure, Problem, Recovery, Step, Message}
use Rattle.json.specs.Json.{value}
use Rattle.json.specs.Lex.{lex, punctuate}
use Rattle.json_form.specs.Json.{json_within}
use Rattle.config_templates.specs.Flat.{flat_of}
use Rattle.trigger_state.specs.Problems.{action_of, open_of}
use Rattle.trigger_state.specs.declared.problems.Open.{Open}
use Rattle.entry_step.specs.Due.{by_making}
use Rattle.entry_step.specs.Each.{Each}
use Rattle.entry_step.specs.Making.{is_problem}
use Rattle.entry_step.specs.Log.{first_tick, log_of, tick_of, tick_with}
use Rattle.entry_step.specs.Start.{Start, no_conf}
use Rattle.entry_step.specs.Whole.{Point, point, point_with}
use Rattle.entry_laws.specs.InForce.{FitsLog, FitsOn, left_by}
use Rattle.entry_laws.proofs.Runs.{making_each}
use Rattle.base_laws.specs.Bases.{base_at, last_text, last_tick, text_with, told_problem, told_ran}
use Rattle.base_laws.proofs.Retold.{IsOpened, all_opened}
use Rattle.base_laws.proofs.Steps.{Ordered}
use Rattle.base_laws.specs.FitsBase.{FitTicks}
use Rattle.base_laws.specs.Grounds.{start_of}
use Rattle.base_laws.proofs.Grounds.{some_of, start_none, start_some}
use Rattle.intake_journal.specs.BaseBytes.{IsFormed, IsOrderly, IsProblem, stand_in_order}
use Rattle.journal_opening.specs.Replayed.{flat, IsFlat, IsGoodBase}
use Rattle.journal_opening.proofs.Bases.{stands_of}
use Rattle.journal_copy.specs.State.{AreKept, counted, state_of}
use Rattle.journal_copy.proofs.Keeping.{kept_fits, kept_good}
use Rattle.journal_copy.proofs.States.{FlatEntry, FlatLog, kept_texts}

-- ---- its text

-- the empty text is no configuration's
no_ok : {A E : Type 0} (r : Result A E) (e : E) (a : A) → r ≡ Err e → r ≡ Ok a → ⊥
no_ok r e a one other = absurd (cc)

pub empty_refused : IsFlat [] → ⊥
unfolding flat_of json_within is_utf8 chars value punctuate lex
empty_refused is = no_ok (flat_of []) _ _ refl is

pub flat_nothing : flat [] ≡ no_conf
unfolding flat_of json_within is_utf8 chars value punctuate lex
flat_nothing = refl

text_some : (text : List ℕ) → IsFlat text → 0 < length text
text_some [] is = absurd (empty_refused is)
text_some (byte ∷ text) is = omega arith

module _ (base : Base) (start : Start) (same : start.stage.conf.text ≡ base.text) where
  -- where no text stands before a log, its first entry is a Config
  pub text_there : (log : List Numbered) → FitsLog flat start log → FlatLog log → 1 ≤ length base.text + length log → 0 < length (last_text base.text log)
  text_there [] fits all some = omega (arith, some)
  text_there (e ∷ []) fits all some = go start.stage.conf.text refl e.entry all.0 fits.1
    where
      go : (text : List ℕ) → start.stage.conf.text ≡ text → (entry : Entry) → FlatEntry entry → FitsOn text start.stage.conf start.moment entry → 0 < length (text_with base.text entry)
      go text is (Config now new) flat_new on = text_some new flat_new
      go [] is (Value now item time value) flat_new on = absurd (cc)
      go [] is (Tick now) flat_new on = absurd (cc)
      go (byte ∷ text) is (Value now item time value) flat_new on = let long = ap (λ (t : List ℕ). length t) (sym is ∙ same) in omega (arith, long)
      go (byte ∷ text) is (Tick now) flat_new on = let long = ap (λ (t : List ℕ). length t) (sym is ∙ same) in omega (arith, long)
  text_there (e ∷ a ∷ log) fits all some = go e.entry all.0 (text_there (a ∷ log) fits.0 all.1 (omega arith))
    where
      go : (entry : Entry) → FlatEntry entry → 0 < length (last_text base.text (a ∷ log)) → 0 < length (text_with (last_text base.text (a ∷ log)) entry)
      go (Config now new) flat_new ih = text_some new flat_new
      go (Value now item time value) flat_new ih = ih
      go (Tick now) flat_new ih = ih

-- ---- its Ticks

or_none : (x : Option ℕ) → is_some (option_or x None) ≡ is_some x
or_none None = refl
or_none (Some n) = refl

or_some : (x : Option ℕ) (n : ℕ) → is_some (option_or x (Some n)) ≡ true
or_some None n = refl
or_some (Some m) n = refl

-- the first and the last are there, or neither
both_ticks : (start : Start) (last : Option ℕ) (log : List Numbered) → is_some start.tick ≡ is_some last → is_some (left_by (point flat start log)).tick ≡ is_some (last_tick last log)
both_ticks start last [] same = same
both_ticks start last (e ∷ log) same = go e.entry refl (both_ticks start last log same)
  where
    p : Point
    p = point flat start log

    first : Option ℕ
    first = first_tick p.start p.since

    go : (entry : Entry) → e.entry ≡ entry → is_some first ≡ is_some (last_tick last log) → is_some (left_by (point_with flat p e entry)).tick ≡ is_some (option_or (tick_of entry) (last_tick last log))
    go (Config now text) is ih = ih
    go (Value now item time value) is ih = ap (λ x. is_some (tick_with first x)) is ∙ or_none first ∙ ih
    go (Tick now) is ih = ap (λ x. is_some (tick_with first x)) is ∙ or_some first now

fit_both : (now : ℕ) (first last : Option ℕ) → FitTicks now first last → is_some first ≡ is_some last
fit_both now None None fit = refl
fit_both now None (Some last) fit = absurd fit
fit_both now (Some first) None fit = absurd fit
fit_both now (Some first) (Some last) fit = refl

-- so they are before the entries
ticks_before : (base : Base) → IsGoodBase base → is_some (start_of flat base).tick ≡ is_some base.last_tick
ticks_before base good = go base.text refl
  where
    go : (text : List ℕ) → base.text ≡ text → is_some (start_of flat base).tick ≡ is_some base.last_tick
    go [] same =
        ap (λ (s : Start). is_some s.tick) (start_none flat base same)
        ∙ sym (ap (λ (b : Base). is_some b.last_tick) (good.1.empty same))
    go (byte ∷ text) same =
        let some = some_of base.text byte text same in
        ap (λ (s : Start). is_some s.tick) (start_some flat base some)
        ∙ fit_both base.now base.first_tick base.last_tick (good.1.fits some).ticks

-- ---- its problems

problem_is : (r : Rec) → is_problem r ≡ true → IsProblem r
problem_is (Problem event now severity suppressed host trigger name tags) is = tt
problem_is (Failure number host key why) is = absurd (cc)
problem_is (Recovery event by now cause) is = absurd (cc)
problem_is (Step event action step now) is = absurd (cc)
problem_is (Message event action step recipient subject body) is = absurd (cc)

lt_le : (o : Ordering) → is_lt o ≡ true → is_le o ≡ true
lt_le Less is = refl
lt_le Equal is = absurd (cc)
lt_le Greater is = absurd (cc)

ran_action : (r : Rec) → (told_ran r).action ≡ action_of r
ran_action (Problem event now severity suppressed host trigger name tags) = refl
ran_action (Failure number host key why) = refl
ran_action (Recovery event by now cause) = refl
ran_action (Step event action step now) = refl
ran_action (Message event action step recipient subject body) = refl

-- steps that stand in order are told in order
steps_stand : (steps : List Rec) → Ordered steps → stand_in_order (map told_ran steps) ≡ true
steps_stand [] ordered = refl
steps_stand (s ∷ []) ordered = refl
steps_stand (s ∷ t ∷ steps) ordered =
    let next : is_le (slice_cmp nat_cmp (told_ran s).action (told_ran t).action) ≡ true =
    lt_le (slice_cmp nat_cmp (told_ran s).action (told_ran t).action) (ap₂ (λ x y. is_lt (slice_cmp nat_cmp x y)) (ran_action s) (ran_action t) ∙ ordered.0.0) in
    ap₂ (λ a b. a && b) next (steps_stand (t ∷ steps) ordered.1)

orderly : (o : Open) → IsOpened o → IsOrderly (told_problem o)
orderly o is = (problem_is o.problem is.problem, subst IsTrue (sym (steps_stand o.steps is.ordered)) refl)

all_orderly : (os : List Open) → Each IsOpened os → All IsOrderly (map told_problem os)
all_orderly [] each = All-nil IsOrderly
all_orderly (o ∷ os) each = All-cons IsOrderly (told_problem o) (map told_problem os) (orderly o each.0) (all_orderly os each.1)

-- ---- all of it

module _ (base : Base) (entries : List Numbered) (k : AreKept base entries) (some : 1 ≤ length base.text + length entries) where
  abbrev left : Start
  left = left_by (point flat (start_of flat base) (log_of entries))

  state_formed : IsFormed (counted (state_of base entries))
  unfolding base_at
  state_formed = record {
    text = text_there base (start_of flat base) (stands_of base (kept_good base entries k)).text (log_of entries) (kept_fits base entries k) (kept_texts base entries k)
        (let long = length-reverse entries in omega (arith, some, long));
    ticks = both_ticks (start_of flat base) base.last_tick (log_of entries) (ticks_before base (kept_good base entries k));
    problems = all_orderly (by_making left.stage (open_of left.stage left.records)) (making_each IsOpened left.stage (open_of left.stage left.records) (all_opened left.stage left.records));
  }

  pub kept_formed : (made : Base) → made ≡ counted (state_of base entries) → IsFormed made
  kept_formed made is = subst IsFormed (sym is) state_formed
