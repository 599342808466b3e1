-- A base that was written is read again.
use Rattle.std.proofs.Common.{◌≡◌, ℕ, ◌+◌, ◌^◌, ◌<◌, ◌≤◌, Bool, true, false, ltb, List, [], ◌∷◌, ◌++◌, length, Option, Some, None, IfSome, refl, sym, ap, ◌∙◌, arith, append_assoc, length-append, true≢false}
use Rattle.std.specs.Prelude.{is_some, nat_lt, if◌then◌else◌}
use Rattle.std.specs.Str.{IsUtf8}
use Rattle.std.specs.List.{All, flat_map}
use Rattle.std.proofs.lemmas.Bool.{le-ltb, lt-ltb}
use Rattle.std.proofs.lemmas.List.{append-nil}
use Rattle.std.proofs.lemmas.List.Elements.{All-head, All-tail, All-nil, All-cons}
use Rattle.byteorder.specs.Endian.{little_number}
use Rattle.byteorder.specs.Numbers.{little_number-reads_back}
use Rattle.zbx_types.specs.declared.base.Base.{Base}
use Rattle.zbx_types.specs.declared.base.BaseItem.{BaseItem}
use Rattle.zbx_types.specs.declared.base.BaseProblem.{BaseProblem}
use Rattle.zbx_types.specs.declared.base.BaseStep.{BaseStep}
use Rattle.zbx_types.specs.declared.base.BaseValue.{BaseValue}
use Rattle.zbx_types.specs.declared.base.Ran.{Ran}
use Rattle.zbx_types.specs.declared.entries.EventId.{EventId}
use Rattle.zbx_types.specs.declared.entries.Rec.{Rec}
use Rattle.zbx_types.specs.declared.entries.Rec.TheVariants.{Failure, Problem, Recovery, Step, Message}
use Rattle.zbx_types.specs.declared.entries.Tag.{Tag}
use Rattle.intake_journal.specs.Bytes.{number_bytes, moment_bytes, text_bytes}
use Rattle.intake_journal.specs.BaseBytes.{long_bytes, flag_bytes, list_bytes, ticks_bytes, value_bytes, step_bytes, item_bytes, tag_bytes, ran_bytes, event_bytes, record_bytes, problem_bytes, head_bytes, base_bytes, stand_in_order, IsProblem, IsOrderly, IsFormed}
use Rattle.intake_journal.specs.BaseTypes.{IsMoment, IsValueTyped, IsStepTyped, IsItemTyped, IsTagTyped, IsRanTyped, IsRecordTyped, IsProblemTyped, IsHeadTyped, IsBaseTyped}
use Rattle.intake_journal.specs.Format.{◌>>=◌, number_at, moment_at, piece_at, text_of}
use Rattle.intake_journal.specs.BaseForm.{long_at, flag_at, words_at, parts_at, list_at, ticks_of, ticks_at, value_at, step_at, item_at, tag_at, ran_at, event_at, marks_at, names_at, record_at, problem_at, head_at, whole_base, base_behind_head, base_read}
use Rattle.intake_journal.proofs.Texts.{text_read}
use Rattle.intake_journal.proofs.Again.{bind_some, number_again, moment_again, piece_again}

long_again : (n : ℕ) (rest : List ℕ) → n < 2 ^ 64 → long_at (long_bytes n ++ rest) ≡ Some (n, rest)
long_again n rest lt =
    let long : ltb (length (long_bytes n ++ rest)) 8 ≡ false = le-ltb _ _ (omega (arith, length-append (long_bytes n) rest)) in
    let back : little_number 8 (long_bytes n ++ rest) ≡ n = little_number-reads_back 8 n rest (omega arith) in
    rw (long, back) refl

flag_again : (so : Bool) (rest : List ℕ) → flag_at (flag_bytes so ++ rest) ≡ Some (so, rest)
unfolding flag_at
flag_again true rest = refl
flag_again false rest = refl

words_again : (text rest : List ℕ) → IsUtf8 text → length text < 2 ^ 32 → words_at (text_bytes text ++ rest) ≡ Some (text, rest)
unfolding words_at
words_again text rest utf8 lt =
    bind_some (piece_at (text_bytes text ++ rest)) (λ piece. text_of piece.0 >>= λ t. Some (t, piece.1)) (text, rest) (Some (text, rest)) (piece_again text rest lt)
    (bind_some (text_of text) (λ t. Some (t, rest)) text (Some (text, rest)) (text_read text utf8) refl)

-- lists whose parts are read again, each of which has a byte
module _ {A : Type 0} (write : A → List ℕ) (read : List ℕ → Option (A × List ℕ)) (P : A → Type 0)
    (again : (x : A) (rest : List ℕ) → P x → length (write x) < 2 ^ 32 → read (write x ++ rest) ≡ Some (x, rest)) (some : (x : A) → P x → 1 ≤ length (write x)) where
  parts_again : (xs : List A) (rest : List ℕ) → All P xs → length (flat_map write xs) < 2 ^ 32 → parts_at read (length xs) (flat_map write xs ++ rest) ≡ Some (xs, rest)
  unfolding parts_at
  parts_again [] rest typed lt = refl
  parts_again (x ∷ xs) rest typed lt =
      let sizes : length (flat_map write (x ∷ xs)) ≡ length (write x) + length (flat_map write xs) = length-append (write x) (flat_map write xs) in
      let behind = flat_map write xs ++ rest in
      bind_some (read (flat_map write (x ∷ xs) ++ rest)) (λ first. parts_at read (length xs) first.1 >>= λ others. Some (first.0 ∷ others.0, others.1)) (x, behind) (Some (x ∷ xs, rest))
      (ap read (append_assoc (write x) (flat_map write xs) rest) ∙ again x behind (All-head P x xs typed) (omega arith))
      (bind_some (parts_at read (length xs) behind) (λ others. Some (x ∷ others.0, others.1)) (xs, rest) (Some (x ∷ xs, rest)) (parts_again xs rest (All-tail P x xs typed) (omega arith)) refl)

  parts_long : (xs : List A) → All P xs → length xs ≤ length (flat_map write xs)
  parts_long [] typed = omega arith
  parts_long (x ∷ xs) typed = omega (arith, some x (All-head P x xs typed), parts_long xs (All-tail P x xs typed), length-append (write x) (flat_map write xs))

  pub list_again : (xs : List A) (rest : List ℕ) → All P xs → length (list_bytes write xs) < 2 ^ 32 → list_at read (list_bytes write xs ++ rest) ≡ Some (xs, rest)
  list_again xs rest typed lt =
      let behind = flat_map write xs ++ rest in
      bind_some (number_at (number_bytes (length xs) ++ behind)) (λ count. parts_at read count.0 count.1) (length xs, behind) (Some (xs, rest)) (number_again (length xs) behind (omega (arith, lt, parts_long xs typed)))
      (parts_again xs rest typed (omega arith))

-- ---- each kind of part

abbrev value_made : ℕ → ℕ → List ℕ → BaseValue
value_made time number value = record { time = time; number = number; value = value }

value_again : (v : BaseValue) (rest : List ℕ) → IsValueTyped v → length (value_bytes v) < 2 ^ 32 → value_at (value_bytes v ++ rest) ≡ Some (v, rest)
unfolding value_at value_bytes
value_again v rest typed lt =
    let done : Option (BaseValue × List ℕ) = Some (v, rest) in
    let words : List ℕ = text_bytes v.value ++ rest in
    bind_some (moment_at (moment_bytes v.time ++ (long_bytes v.number ++ words))) (λ time. long_at time.1 >>= λ number. words_at number.1 >>= λ value. Some (value_made time.0 number.0 value.0, value.1)) (v.time, long_bytes v.number ++ words) done (moment_again v.time (long_bytes v.number ++ words) typed.time)
    (bind_some (long_at (long_bytes v.number ++ words)) (λ number. words_at number.1 >>= λ value. Some (value_made v.time number.0 value.0, value.1)) (v.number, words) done (long_again v.number words typed.number)
    (bind_some (words_at words) (λ value. Some (value_made v.time v.number value.0, value.1)) (v.value, rest) done (words_again v.value rest typed.value (omega arith)) refl))

value_some : (v : BaseValue) → IsValueTyped v → 1 ≤ length (value_bytes v)
unfolding value_bytes
value_some v typed = omega arith

abbrev step_made : Bool → ℕ → List ℕ → BaseStep
step_made there time value = record { there = there; time = time; value = value }

step_again : (s : BaseStep) (rest : List ℕ) → IsStepTyped s → length (step_bytes s) < 2 ^ 32 → step_at (step_bytes s ++ rest) ≡ Some (s, rest)
unfolding step_at step_bytes
step_again s rest typed lt =
    let done : Option (BaseStep × List ℕ) = Some (s, rest) in
    let words : List ℕ = text_bytes s.value ++ rest in
    let time : List ℕ = moment_bytes s.time ++ words in
    bind_some (flag_at (flag_bytes s.there ++ time)) (λ there. moment_at there.1 >>= λ time. words_at time.1 >>= λ value. Some (step_made there.0 time.0 value.0, value.1)) (s.there, time) done (flag_again s.there time)
    (bind_some (moment_at time) (λ time. words_at time.1 >>= λ value. Some (step_made s.there time.0 value.0, value.1)) (s.time, words) done (moment_again s.time words typed.time)
    (bind_some (words_at words) (λ value. Some (step_made s.there s.time value.0, value.1)) (s.value, rest) done (words_again s.value rest typed.value (omega arith)) refl))

step_some : (s : BaseStep) → IsStepTyped s → 1 ≤ length (step_bytes s)
unfolding step_bytes
step_some s typed = omega arith

abbrev item_made : List BaseValue → List BaseStep → BaseItem
item_made values steps = record { values = values; steps = steps }

item_again : (i : BaseItem) (rest : List ℕ) → IsItemTyped i → length (item_bytes i) < 2 ^ 32 → item_at (item_bytes i ++ rest) ≡ Some (i, rest)
unfolding item_at item_bytes
item_again i rest typed lt =
    let done : Option (BaseItem × List ℕ) = Some (i, rest) in
    let values : List ℕ = list_bytes value_bytes i.values in
    let steps : List ℕ = list_bytes step_bytes i.steps in
    let sizes : length (values ++ steps) ≡ length values + length steps = length-append values steps in
    bind_some (list_at value_at ((values ++ steps) ++ rest)) (λ read. list_at step_at read.1 >>= λ steps. Some (item_made read.0 steps.0, steps.1)) (i.values, steps ++ rest) done
    (ap (λ (l : List ℕ). list_at value_at l) (append_assoc values steps rest) ∙ list_again value_bytes value_at IsValueTyped value_again value_some i.values (steps ++ rest) typed.values (omega (arith, sizes, lt)))
    (bind_some (list_at step_at (steps ++ rest)) (λ steps. Some (item_made i.values steps.0, steps.1)) (i.steps, rest) done (list_again step_bytes step_at IsStepTyped step_again step_some i.steps rest typed.steps (omega (arith, sizes, lt))) refl)

item_some : (i : BaseItem) → IsItemTyped i → 1 ≤ length (item_bytes i)
unfolding item_bytes
item_some i typed = omega arith

abbrev tag_made : List ℕ → List ℕ → Tag
tag_made tag value = record { tag = tag; value = value }

tag_again : (t : Tag) (rest : List ℕ) → IsTagTyped t → length (tag_bytes t) < 2 ^ 32 → tag_at (tag_bytes t ++ rest) ≡ Some (t, rest)
unfolding tag_at tag_bytes
tag_again t rest typed lt =
    let done : Option (Tag × List ℕ) = Some (t, rest) in
    let value : List ℕ = text_bytes t.value ++ rest in
    let sizes : length (text_bytes t.tag ++ text_bytes t.value) ≡ length (text_bytes t.tag) + length (text_bytes t.value) = length-append (text_bytes t.tag) (text_bytes t.value) in
    bind_some (words_at ((text_bytes t.tag ++ text_bytes t.value) ++ rest)) (λ tag. words_at tag.1 >>= λ value. Some (tag_made tag.0 value.0, value.1)) (t.tag, value) done
    (ap (λ (l : List ℕ). words_at l) (append_assoc (text_bytes t.tag) (text_bytes t.value) rest) ∙ words_again t.tag value typed.tag (omega (arith, sizes, lt)))
    (bind_some (words_at value) (λ value. Some (tag_made t.tag value.0, value.1)) (t.value, rest) done (words_again t.value rest typed.value (omega (arith, sizes, lt))) refl)

tag_some : (t : Tag) → IsTagTyped t → 1 ≤ length (tag_bytes t)
unfolding tag_bytes
tag_some t typed = omega arith

abbrev ran_made : List ℕ → ℕ → ℕ → Ran
ran_made action step now = record { action = action; step = step; now = now }

ran_again : (r : Ran) (rest : List ℕ) → IsRanTyped r → length (ran_bytes r) < 2 ^ 32 → ran_at (ran_bytes r ++ rest) ≡ Some (r, rest)
unfolding ran_at ran_bytes
ran_again r rest typed lt =
    let done : Option (Ran × List ℕ) = Some (r, rest) in
    let now : List ℕ = moment_bytes r.now ++ rest in
    let step : List ℕ = number_bytes r.step ++ now in
    let whole : ran_bytes r ++ rest ≡ text_bytes r.action ++ step = append_assoc (text_bytes r.action ++ number_bytes r.step) (moment_bytes r.now) rest ∙ append_assoc (text_bytes r.action) (number_bytes r.step) now in
    let sizes : length (ran_bytes r) ≡ length (text_bytes r.action) + 12 = omega (arith, length-append (text_bytes r.action ++ number_bytes r.step) (moment_bytes r.now), length-append (text_bytes r.action) (number_bytes r.step)) in
    bind_some (words_at (ran_bytes r ++ rest)) (λ action. number_at action.1 >>= λ step. moment_at step.1 >>= λ now. Some (ran_made action.0 step.0 now.0, now.1)) (r.action, step) done
    (ap (λ (l : List ℕ). words_at l) whole ∙ words_again r.action step typed.action (omega (arith, sizes, lt)))
    (bind_some (number_at step) (λ step. moment_at step.1 >>= λ now. Some (ran_made r.action step.0 now.0, now.1)) (r.step, now) done (number_again r.step now typed.step)
    (bind_some (moment_at now) (λ now. Some (ran_made r.action r.step now.0, now.1)) (r.now, rest) done (moment_again r.now rest typed.now) refl))

ran_some : (r : Ran) → IsRanTyped r → 1 ≤ length (ran_bytes r)
unfolding ran_bytes
ran_some r typed = omega (arith, length-append (text_bytes r.action ++ number_bytes r.step) (moment_bytes r.now), length-append (text_bytes r.action) (number_bytes r.step))

-- ---- open problems

abbrev event_made : ℕ → ℕ → EventId
event_made number trigger = record { number = number; trigger = trigger }

event_again : (e : EventId) (rest : List ℕ) → e.number < 2 ^ 64 → e.trigger < 2 ^ 32 → event_at (long_bytes e.number ++ (number_bytes e.trigger ++ rest)) ≡ Some (e, rest)
unfolding event_at
event_again e rest long small =
    let done : Option (EventId × List ℕ) = Some (e, rest) in
    let trigger : List ℕ = number_bytes e.trigger ++ rest in
    bind_some (long_at (long_bytes e.number ++ trigger)) (λ number. number_at number.1 >>= λ trigger. Some (event_made number.0 trigger.0, trigger.1)) (e.number, trigger) done (long_again e.number trigger long)
    (bind_some (number_at trigger) (λ trigger. Some (event_made e.number trigger.0, trigger.1)) (e.trigger, rest) done (number_again e.trigger rest small) refl)

marks_again : (severity : ℕ) (suppressed : Bool) (rest : List ℕ) → marks_at (severity ∷ (flag_bytes suppressed ++ rest)) ≡ Some (severity, suppressed, rest)
unfolding marks_at
marks_again severity suppressed rest =
    bind_some (flag_at (flag_bytes suppressed ++ rest)) (λ so. Some (severity, so.0, so.1)) (suppressed, rest) (Some (severity, suppressed, rest)) (flag_again suppressed rest) refl

abbrev names : List ℕ → List ℕ → List ℕ → List ℕ
names host trigger name = text_bytes host ++ text_bytes trigger ++ text_bytes name

names_again : (host trigger name rest : List ℕ) → IsUtf8 host → IsUtf8 trigger → IsUtf8 name → length (names host trigger name) < 2 ^ 32 → names_at (names host trigger name ++ rest) ≡ Some (host, trigger, name, rest)
unfolding names_at
names_again host trigger name rest one two three lt =
    let done : Option (List ℕ × List ℕ × List ℕ × List ℕ) = Some (host, trigger, name, rest) in
    let last : List ℕ = text_bytes name ++ rest in
    let second : List ℕ = text_bytes trigger ++ last in
    let whole : names host trigger name ++ rest ≡ text_bytes host ++ second = append_assoc (text_bytes host ++ text_bytes trigger) (text_bytes name) rest ∙ append_assoc (text_bytes host) (text_bytes trigger) last in
    let sizes : length (names host trigger name) ≡ length (text_bytes host) + length (text_bytes trigger) + length (text_bytes name) = omega (arith, length-append (text_bytes host ++ text_bytes trigger) (text_bytes name), length-append (text_bytes host) (text_bytes trigger)) in
    bind_some (words_at (names host trigger name ++ rest)) (λ host. words_at host.1 >>= λ trigger. words_at trigger.1 >>= λ name. Some (host.0, trigger.0, name.0, name.1)) (host, second) done
    (ap (λ (l : List ℕ). words_at l) whole ∙ words_again host second one (omega (arith, sizes, lt)))
    (bind_some (words_at second) (λ trigger. words_at trigger.1 >>= λ name. Some (host, trigger.0, name.0, name.1)) (trigger, last) done (words_again trigger last two (omega (arith, sizes, lt)))
    (bind_some (words_at last) (λ name. Some (host, trigger, name.0, name.1)) (name, rest) done (words_again name rest three (omega (arith, sizes, lt))) refl))

record_again : (r : Rec) (rest : List ℕ) → IsProblem r → IsRecordTyped r → length (record_bytes r) < 2 ^ 32 → record_at (record_bytes r ++ rest) ≡ Some (r, rest)
unfolding record_at record_bytes
record_again (Problem event now severity suppressed host trigger name tags) rest problem typed lt =
    let r : Rec = Problem event now severity suppressed host trigger name tags in
    let done : Option (Rec × List ℕ) = Some (r, rest) in
    let front : List ℕ = event_bytes event now severity suppressed in
    let named : List ℕ = names host trigger name in
    let tagged : List ℕ = list_bytes tag_bytes tags in
    let b3 : List ℕ = tagged ++ rest in
    let b2 : List ℕ = named ++ b3 in
    let b1 : List ℕ = severity ∷ (flag_bytes suppressed ++ b2) in
    let b0 : List ℕ = moment_bytes now ++ b1 in
    let whole : record_bytes r ++ rest ≡ front ++ b2 = append_assoc (front ++ named) tagged rest ∙ append_assoc front named b3 in
    let sizes : length (record_bytes r) ≡ length front + length named + length tagged = omega (arith, length-append (front ++ named) tagged, length-append front named) in
    bind_some (event_at (record_bytes r ++ rest)) (λ event. moment_at event.1 >>= λ now. marks_at now.1 >>= λ marks. names_at marks.2 >>= λ names. list_at tag_at names.3 >>= λ tags. Some (Problem event.0 now.0 marks.0 marks.1 names.0 names.1 names.2 tags.0, tags.1)) (event, b0) done
    (ap (λ (l : List ℕ). event_at l) whole ∙ event_again event b0 typed.0 typed.1)
    (bind_some (moment_at b0) (λ now. marks_at now.1 >>= λ marks. names_at marks.2 >>= λ names. list_at tag_at names.3 >>= λ tags. Some (Problem event now.0 marks.0 marks.1 names.0 names.1 names.2 tags.0, tags.1)) (now, b1) done (moment_again now b1 typed.2)
    (bind_some (marks_at b1) (λ marks. names_at marks.2 >>= λ names. list_at tag_at names.3 >>= λ tags. Some (Problem event now marks.0 marks.1 names.0 names.1 names.2 tags.0, tags.1)) (severity, suppressed, b2) done (marks_again severity suppressed b2)
    (bind_some (names_at b2) (λ names. list_at tag_at names.3 >>= λ tags. Some (Problem event now severity suppressed names.0 names.1 names.2 tags.0, tags.1)) (host, trigger, name, b3) done (names_again host trigger name b3 typed.3 typed.4 typed.5 (omega (arith, sizes, lt)))
    (bind_some (list_at tag_at b3) (λ tags. Some (Problem event now severity suppressed host trigger name tags.0, tags.1)) (tags, rest) done (list_again tag_bytes tag_at IsTagTyped tag_again tag_some tags rest typed.6 (omega (arith, sizes, lt))) refl))))
record_again (Failure number host key why) rest problem typed lt = absurd problem
record_again (Recovery event by now cause) rest problem typed lt = absurd problem
record_again (Step event action step now) rest problem typed lt = absurd problem
record_again (Message event action step recipient subject body) rest problem typed lt = absurd problem

abbrev problem_made : Rec → List Ran → BaseProblem
problem_made problem ran = record { problem = problem; ran = ran }

-- what is asked of an open problem, by its types and besides
abbrev IsOwn : BaseProblem → Type 0
IsOwn p = IsProblemTyped p × IsOrderly p

problem_again : (p : BaseProblem) (rest : List ℕ) → IsOwn p → length (problem_bytes p) < 2 ^ 32 → problem_at (problem_bytes p ++ rest) ≡ Some (p, rest)
unfolding problem_at problem_bytes
problem_again p rest own lt =
    let done : Option (BaseProblem × List ℕ) = Some (p, rest) in
    let told : List ℕ = record_bytes p.problem in
    let ran : List ℕ = list_bytes ran_bytes p.ran in
    let sizes : length (told ++ ran) ≡ length told + length ran = length-append told ran in
    bind_some (record_at ((told ++ ran) ++ rest)) (λ problem. list_at ran_at problem.1 >>= λ ran. if stand_in_order ran.0 then Some (problem_made problem.0 ran.0, ran.1) else None) (p.problem, ran ++ rest) done
    (ap (λ (l : List ℕ). record_at l) (append_assoc told ran rest) ∙ record_again p.problem (ran ++ rest) own.1.0 own.0.problem (omega (arith, sizes, lt)))
    (bind_some (list_at ran_at (ran ++ rest)) (λ ran. if stand_in_order ran.0 then Some (problem_made p.problem ran.0, ran.1) else None) (p.ran, rest) done
    (list_again ran_bytes ran_at IsRanTyped ran_again ran_some p.ran rest own.0.ran (omega (arith, sizes, lt)))
    (ap (λ (b : Bool). if b then done else None) own.1.1))

record_some : (r : Rec) → IsProblem r → 1 ≤ length (record_bytes r)
unfolding record_bytes
record_some (Problem event now severity suppressed host trigger name tags) problem = omega arith
record_some (Failure number host key why) problem = absurd problem
record_some (Recovery event by now cause) problem = absurd problem
record_some (Step event action step now) problem = absurd problem
record_some (Message event action step recipient subject body) problem = absurd problem

problem_some : (p : BaseProblem) → IsOwn p → 1 ≤ length (problem_bytes p)
unfolding problem_bytes
problem_some p own = omega (arith, record_some p.problem own.1.0, length-append (record_bytes p.problem) (list_bytes ran_bytes p.ran))

-- ---- the whole

ticks_read : (there : Bool) (first last : ℕ) (rest : List ℕ) (ticks : Option ℕ × Option ℕ) → IsMoment first → IsMoment last → ticks_of there first last ≡ Some ticks
    → ticks_at (flag_bytes there ++ (moment_bytes first ++ (moment_bytes last ++ rest))) ≡ Some (ticks.0, ticks.1, rest)
unfolding ticks_at
ticks_read there first last rest ticks one two is =
    let done : Option (Option ℕ × Option ℕ × List ℕ) = Some (ticks.0, ticks.1, rest) in
    let b2 : List ℕ = moment_bytes last ++ rest in
    let b1 : List ℕ = moment_bytes first ++ b2 in
    bind_some (flag_at (flag_bytes there ++ b1)) (λ there. moment_at there.1 >>= λ first. moment_at first.1 >>= λ last. ticks_of there.0 first.0 last.0 >>= λ ticks. Some (ticks.0, ticks.1, last.1)) (there, b1) done (flag_again there b1)
    (bind_some (moment_at b1) (λ first. moment_at first.1 >>= λ last. ticks_of there first.0 last.0 >>= λ ticks. Some (ticks.0, ticks.1, last.1)) (first, b2) done (moment_again first b2 one)
    (bind_some (moment_at b2) (λ last. ticks_of there first last.0 >>= λ ticks. Some (ticks.0, ticks.1, last.1)) (last, rest) done (moment_again last rest two)
    (bind_some (ticks_of there first last) (λ ticks. Some (ticks.0, ticks.1, rest)) ticks done is refl)))

ticks_again : (first last : Option ℕ) (rest : List ℕ) → IfSome first IsMoment → IfSome last IsMoment → is_some first ≡ is_some last → ticks_at (ticks_bytes first last ++ rest) ≡ Some (first, last, rest)
ticks_again None None rest one two same = ticks_read false 0 0 rest (None, None) (omega arith) (omega arith) refl
ticks_again None (Some l) rest one two same = absurd (true≢false (sym same))
ticks_again (Some f) None rest one two same = absurd (true≢false same)
ticks_again (Some f) (Some l) rest one two same = ticks_read true f l rest (Some f, Some l) one two refl

abbrev Head : Type 0
Head = ℕ × ℕ × Option ℕ × Option ℕ × ℕ × List ℕ

abbrev head_of : Base → List ℕ → Head
head_of b rest = (b.number, b.now, b.first_tick, b.last_tick, b.lines, rest)

head_again : (b : Base) (rest : List ℕ) → IsHeadTyped b → is_some b.first_tick ≡ is_some b.last_tick → head_at (head_bytes b ++ rest) ≡ Some (head_of b rest)
unfolding head_at
head_again b rest typed same =
    let done : Option Head = Some (head_of b rest) in
    let b3 : List ℕ = long_bytes b.lines ++ rest in
    let b2 : List ℕ = ticks_bytes b.first_tick b.last_tick ++ b3 in
    let b1 : List ℕ = moment_bytes b.now ++ b2 in
    bind_some (long_at (long_bytes b.number ++ b1)) (λ number. moment_at number.1 >>= λ now. ticks_at now.1 >>= λ ticks. long_at ticks.2 >>= λ lines. Some (number.0, now.0, ticks.0, ticks.1, lines.0, lines.1)) (b.number, b1) done (long_again b.number b1 typed.number)
    (bind_some (moment_at b1) (λ now. ticks_at now.1 >>= λ ticks. long_at ticks.2 >>= λ lines. Some (b.number, now.0, ticks.0, ticks.1, lines.0, lines.1)) (b.now, b2) done (moment_again b.now b2 typed.now)
    (bind_some (ticks_at b2) (λ ticks. long_at ticks.2 >>= λ lines. Some (b.number, b.now, ticks.0, ticks.1, lines.0, lines.1)) (b.first_tick, b.last_tick, b3) done (ticks_again b.first_tick b.last_tick b3 typed.first typed.last same)
    (bind_some (long_at b3) (λ lines. Some (b.number, b.now, b.first_tick, b.last_tick, lines.0, lines.1)) (b.lines, rest) done (long_again b.lines rest typed.lines) refl)))

owned : (ps : List BaseProblem) → All IsProblemTyped ps → All IsOrderly ps → All IsOwn ps
owned [] typed orderly = All-nil IsOwn
owned (p ∷ ps) typed orderly =
    All-cons IsOwn p ps (All-head IsProblemTyped p ps typed, All-head IsOrderly p ps orderly) (owned ps (All-tail IsProblemTyped p ps typed) (All-tail IsOrderly p ps orderly))

whole_again : (b : Base) (rest : List ℕ) → 0 < length b.text → whole_base (head_of b rest) b.text b.items b.problems [] ≡ Some b
whole_again b rest some = let test : nat_lt 0 (length b.text) ≡ true = lt-ltb _ _ some in rw test refl

-- a base that was written is read again
pub base_again : (b : Base) → IsBaseTyped b → IsFormed b → length (base_bytes b) < 2 ^ 32 → base_read (base_bytes b) ≡ Some b
unfolding base_read base_behind_head base_bytes
base_again b typed formed lt =
    let head : List ℕ = head_bytes b in
    let text : List ℕ = text_bytes b.text in
    let items : List ℕ = list_bytes item_bytes b.items in
    let problems : List ℕ = list_bytes problem_bytes b.problems in
    let b3 : List ℕ = problems ++ [] in
    let b2 : List ℕ = items ++ b3 in
    let b1 : List ℕ = text ++ b2 in
    let done : Option Base = Some b in
    let whole : base_bytes b ≡ head ++ b1 =
    append_assoc (head ++ text) items problems ∙ append_assoc head text (items ++ problems) ∙ ap (λ (l : List ℕ). head ++ (text ++ (items ++ l))) (sym (append-nil problems)) in
    let sizes : length (base_bytes b) ≡ length head + length text + length items + length problems =
    omega (arith, length-append ((head ++ text) ++ items) problems, length-append (head ++ text) items, length-append head text) in
    bind_some (head_at (base_bytes b)) (λ h. base_behind_head h) (head_of b b1) done (ap (λ (l : List ℕ). head_at l) whole ∙ head_again b b1 typed.head formed.ticks)
    (bind_some (words_at b1) (λ text. list_at item_at text.1 >>= λ items. list_at problem_at items.1 >>= λ problems. whole_base (head_of b b1) text.0 items.0 problems.0 problems.1) (b.text, b2) done
    (words_again b.text b2 typed.text (omega (arith, sizes, lt)))
    (bind_some (list_at item_at b2) (λ items. list_at problem_at items.1 >>= λ problems. whole_base (head_of b b1) b.text items.0 problems.0 problems.1) (b.items, b3) done
    (list_again item_bytes item_at IsItemTyped item_again item_some b.items b3 typed.items (omega (arith, sizes, lt)))
    (bind_some (list_at problem_at b3) (λ problems. whole_base (head_of b b1) b.text b.items problems.0 problems.1) (b.problems, []) done
    (list_again problem_bytes problem_at IsOwn problem_again problem_some b.problems [] (owned b.problems typed.problems formed.problems) (omega (arith, sizes, lt)))
    (whole_again b b1 formed.text))))
