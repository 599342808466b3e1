-- A base that was read may be written.
use Rattle.std.proofs.Common.{◌≡◌, ◌≢◌, ℕ, zero, suc, Bool, true, false, List, [], ◌∷◌, length, Option, Some, None, refl, ap, subst, arith}
use Rattle.std.specs.Prelude.{is_some, nat_lt, ◌==◌, ◌&&◌, if◌then◌else◌}
use Rattle.std.specs.List.{All}
use Rattle.std.proofs.lemmas.Bool.{ltb-true}
use Rattle.std.proofs.lemmas.List.Elements.{All-nil, All-cons}
use Rattle.zbx_types.specs.Bases.{empty_base}
use Rattle.zbx_types.specs.declared.base.Base.{Base}
use Rattle.zbx_types.specs.declared.base.BaseItem.{BaseItem}
use Rattle.zbx_types.specs.declared.base.BaseProblem.{BaseProblem}
use Rattle.zbx_types.specs.declared.base.Ran.{Ran}
use Rattle.zbx_types.specs.declared.entries.Rec.{Rec}
use Rattle.zbx_types.specs.declared.entries.Rec.TheVariants.{Problem}
use Rattle.intake_journal.specs.Format.{◌>>=◌, number_at, moment_at}
use Rattle.intake_journal.specs.BaseBytes.{stand_in_order, IsProblem, IsOrderly, IsFormed}
use Rattle.intake_journal.specs.BaseForm.{long_at, flag_at, words_at, parts_at, list_at, ticks_of, ticks_at, item_at, tag_at, ran_at, event_at, marks_at, names_at, record_at, problem_at, head_at, whole_base, base_behind_head, base_read}
use Rattle.intake_journal.proofs.Sizes.{of_bind, of_then, some_is}

-- where each part that is read has P, all of them have
module _ {A : Type 0} (part : List ℕ → Option (A × List ℕ)) (P : A → Type 0) (each : (bytes : List ℕ) (read : A × List ℕ) → part bytes ≡ Some read → P read.0) where
  parts_have : (n : ℕ) (bytes : List ℕ) (read : List A × List ℕ) → parts_at part n bytes ≡ Some read → All P read.0
  unfolding parts_at
  parts_have zero bytes read e = subst (λ (r : List A × List ℕ). All P r.0) (some_is ([], bytes) read e) (All-nil P)
  parts_have (suc n) bytes read e =
      let first = of_bind (part bytes) (λ first. parts_at part n first.1 >>= λ others. Some (first.0 ∷ others.0, others.1)) read e in
      let others = of_bind (parts_at part n first.0.1) (λ others. Some (first.0.0 ∷ others.0, others.1)) read first.2 in
      subst (λ (r : List A × List ℕ). All P r.0) (some_is (first.0.0 ∷ others.0.0, others.0.1) read others.2)
      (All-cons P first.0.0 others.0.0 (each bytes first.0 first.1) (parts_have n first.0.1 others.0 others.1))

  list_has : (bytes : List ℕ) (read : List A × List ℕ) → list_at part bytes ≡ Some read → All P read.0
  list_has bytes read e =
      let count = of_bind (number_at bytes) (λ count. parts_at part count.0 count.1) read e in
      parts_have count.0.0 count.0.1 read count.2

record_is_problem : (bytes : List ℕ) (read : Rec × List ℕ) → record_at bytes ≡ Some read → IsProblem read.0
unfolding record_at
record_is_problem bytes read e =
    let event = of_bind (event_at bytes) (λ event. moment_at event.1 >>= λ now. marks_at now.1 >>= λ marks. names_at marks.2 >>= λ names. list_at tag_at names.3 >>= λ tags. Some (Problem event.0 now.0 marks.0 marks.1 names.0 names.1 names.2 tags.0, tags.1)) read e in
    let now = of_bind (moment_at event.0.1) (λ now. marks_at now.1 >>= λ marks. names_at marks.2 >>= λ names. list_at tag_at names.3 >>= λ tags. Some (Problem event.0.0 now.0 marks.0 marks.1 names.0 names.1 names.2 tags.0, tags.1)) read event.2 in
    let marks = of_bind (marks_at now.0.1) (λ marks. names_at marks.2 >>= λ names. list_at tag_at names.3 >>= λ tags. Some (Problem event.0.0 now.0.0 marks.0 marks.1 names.0 names.1 names.2 tags.0, tags.1)) read now.2 in
    let names = of_bind (names_at marks.0.2) (λ names. list_at tag_at names.3 >>= λ tags. Some (Problem event.0.0 now.0.0 marks.0.0 marks.0.1 names.0 names.1 names.2 tags.0, tags.1)) read marks.2 in
    let tags = of_bind (list_at tag_at names.0.3) (λ tags. Some (Problem event.0.0 now.0.0 marks.0.0 marks.0.1 names.0.0 names.0.1 names.0.2 tags.0, tags.1)) read names.2 in
    subst (λ (r : Rec × List ℕ). IsProblem r.0) (some_is (Problem event.0.0 now.0.0 marks.0.0 marks.0.1 names.0.0 names.0.1 names.0.2 tags.0.0, tags.0.1) read tags.2) tt

abbrev problem_made : Rec → List Ran → BaseProblem
problem_made problem ran = record { problem = problem; ran = ran }

problem_is_orderly : (bytes : List ℕ) (read : BaseProblem × List ℕ) → problem_at bytes ≡ Some read → IsOrderly read.0
unfolding problem_at
problem_is_orderly bytes read e =
    let problem = of_bind (record_at bytes) (λ problem. list_at ran_at problem.1 >>= λ ran. if stand_in_order ran.0 then Some (problem_made problem.0 ran.0, ran.1) else None) read e in
    let ran = of_bind (list_at ran_at problem.0.1) (λ ran. if stand_in_order ran.0 then Some (problem_made problem.0.0 ran.0, ran.1) else None) read problem.2 in
    let k = of_then (stand_in_order ran.0.0) (Some (problem_made problem.0.0 ran.0.0, ran.0.1)) read ran.2 in
    subst (λ (r : BaseProblem × List ℕ). IsOrderly r.0) (some_is (problem_made problem.0.0 ran.0.0, ran.0.1) read k.1) (record_is_problem bytes problem.0 problem.1, k.0)

both_or_neither : (there : Bool) (first last : ℕ) (read : Option ℕ × Option ℕ) → ticks_of there first last ≡ Some read → is_some read.0 ≡ is_some read.1
both_or_neither true first last read e = subst (λ (r : Option ℕ × Option ℕ). is_some r.0 ≡ is_some r.1) (some_is (Some first, Some last) read e) refl
both_or_neither false first last read e =
    let k = of_then (first == 0 && last == 0) (Some (None, None)) read e in
    subst (λ (r : Option ℕ × Option ℕ). is_some r.0 ≡ is_some r.1) (some_is (None, None) read k.1) refl

ticks_are_both : (bytes : List ℕ) (read : Option ℕ × Option ℕ × List ℕ) → ticks_at bytes ≡ Some read → is_some read.0 ≡ is_some read.1
unfolding ticks_at
ticks_are_both bytes read e =
    let there = of_bind (flag_at bytes) (λ there. moment_at there.1 >>= λ first. moment_at first.1 >>= λ last. ticks_of there.0 first.0 last.0 >>= λ ticks. Some (ticks.0, ticks.1, last.1)) read e in
    let first = of_bind (moment_at there.0.1) (λ first. moment_at first.1 >>= λ last. ticks_of there.0.0 first.0 last.0 >>= λ ticks. Some (ticks.0, ticks.1, last.1)) read there.2 in
    let last = of_bind (moment_at first.0.1) (λ last. ticks_of there.0.0 first.0.0 last.0 >>= λ ticks. Some (ticks.0, ticks.1, last.1)) read first.2 in
    let ticks = of_bind (ticks_of there.0.0 first.0.0 last.0.0) (λ ticks. Some (ticks.0, ticks.1, last.0.1)) read last.2 in
    subst (λ (r : Option ℕ × Option ℕ × List ℕ). is_some r.0 ≡ is_some r.1) (some_is (ticks.0.0, ticks.0.1, last.0.1) read ticks.2) (both_or_neither there.0.0 first.0.0 last.0.0 ticks.0 ticks.1)

abbrev Head : Type 0
Head = ℕ × ℕ × Option ℕ × Option ℕ × ℕ × List ℕ

head_is_both : (bytes : List ℕ) (read : Head) → head_at bytes ≡ Some read → is_some read.2 ≡ is_some read.3
unfolding head_at
head_is_both bytes read e =
    let number = of_bind (long_at bytes) (λ number. moment_at number.1 >>= λ now. ticks_at now.1 >>= λ ticks. long_at ticks.2 >>= λ lines. Some (number.0, now.0, ticks.0, ticks.1, lines.0, lines.1)) read e in
    let now = of_bind (moment_at number.0.1) (λ now. ticks_at now.1 >>= λ ticks. long_at ticks.2 >>= λ lines. Some (number.0.0, now.0, ticks.0, ticks.1, lines.0, lines.1)) read number.2 in
    let ticks = of_bind (ticks_at now.0.1) (λ ticks. long_at ticks.2 >>= λ lines. Some (number.0.0, now.0.0, ticks.0, ticks.1, lines.0, lines.1)) read now.2 in
    let lines = of_bind (long_at ticks.0.2) (λ lines. Some (number.0.0, now.0.0, ticks.0.0, ticks.0.1, lines.0, lines.1)) read ticks.2 in
    subst (λ (r : Head). is_some r.2 ≡ is_some r.3) (some_is (number.0.0, now.0.0, ticks.0.0, ticks.0.1, lines.0.0, lines.0.1) read lines.2) (ticks_are_both now.0.1 ticks.0 ticks.1)

abbrev base_made : Head → List ℕ → List BaseItem → List BaseProblem → Base
base_made head text items problems = record { number = head.0; now = head.1; first_tick = head.2; last_tick = head.3; lines = head.4; text = text; items = items; problems = problems }

and_left : (a b : Bool) → (a && b) ≡ true → a ≡ true
and_left true b e = refl
and_left false b e = e

-- what is read may be written
pub read_is_formed : (bytes : List ℕ) (base : Base) → base_read bytes ≡ Some base → IsFormed base
unfolding base_read base_behind_head
read_is_formed bytes base e =
    let head = of_bind (head_at bytes) (λ head. base_behind_head head) base e in
    let text = of_bind (words_at head.0.5) (λ text. list_at item_at text.1 >>= λ items. list_at problem_at items.1 >>= λ problems. whole_base head.0 text.0 items.0 problems.0 problems.1) base head.2 in
    let items = of_bind (list_at item_at text.0.1) (λ items. list_at problem_at items.1 >>= λ problems. whole_base head.0 text.0.0 items.0 problems.0 problems.1) base text.2 in
    let problems = of_bind (list_at problem_at items.0.1) (λ problems. whole_base head.0 text.0.0 items.0.0 problems.0 problems.1) base items.2 in
    let k = of_then (nat_lt 0 (length text.0.0) && length problems.0.1 == 0) (Some (base_made head.0 text.0.0 items.0.0 problems.0.0)) base problems.2 in
    subst IsFormed (some_is (base_made head.0 text.0.0 items.0.0 problems.0.0) base k.1) (record {
      text = ltb-true 0 (length text.0.0) (and_left (nat_lt 0 (length text.0.0)) (length problems.0.1 == 0) k.0);
      ticks = head_is_both bytes head.0 head.1;
      problems = list_has problem_at IsOrderly problem_is_orderly items.0.1 problems.0 problems.1;
    })

-- such a base isn't the empty one
pub formed_not_empty : (base : Base) → IsFormed base → base ≢ empty_base
formed_not_empty base formed e = omega (arith, formed.text, ap (λ (b : Base). length b.text) e)
