-- Events that are taken one after the other, and what is held back of them.
use Rattle.std.proofs.Common.{◌≡◌, ℕ, ◌+◌, ◌≤◌, ◌<◌, List, [], ◌∷◌, ◌++◌, length, take, Option, Some, None, refl, sym, ◌∙◌, ap, subst, arith, append-nil}
use Rattle.std.proofs.Math.Seq.{take-append_seam}
use Rattle.std.proofs.lemmas.List.{take-append-le}
use Rattle.zbx_types.specs.declared.conf.Conf.{Conf}
use Rattle.zbx_types.specs.declared.entries.Entry.{Entry}
use Rattle.zbx_types.specs.declared.entries.Numbered.{Numbered}
use Rattle.outside.specs.declared.event.WireEvent.{WireEvent}
use Rattle.intake_journal.specs.Settled.{Journaled}
use Rattle.intake_front.specs.Intake.{Limits, Intake, Handled, handled, with_group}
use Rattle.intake_front.specs.Fronted.{limits_of, all_of}
use Rattle.intake_front.specs.Batch.{Answered, answered_more, answered_on, answered_from, answered, HasTaken}
use Rattle.intake_front.specs.Waiting.{failing_of, front_of, HasFirst, IsBatch, FirstBy, IsTaken}
use Rattle.intake_front.specs.declared.answer.Answer.{Answer}
use Rattle.intake_front.specs.declared.answer.Stop.{Stop}
use Rattle.intake_front.specs.declared.answer.Stop.TheVariants as stop
use Rattle.intake_front.specs.declared.batch.Batch.{Batch}
use Rattle.intake_front.specs.declared.batch.First.{First}
use Rattle.intake_front.specs.declared.batch.Mark.{Mark}
use Rattle.intake_front.proofs.Growth.{grows}

-- events behind others
pub answered-append : (limits : Limits) (conf : Conf) (a : Answered) (es fs : List WireEvent) → answered_from limits conf a (es ++ fs) ≡ answered_from limits conf (answered_from limits conf a es) fs
answered-append limits conf a [] fs = refl
answered-append limits conf a (e ∷ es) fs = answered-append limits conf (answered_on a.stop limits conf a e) es fs

-- what is answered where the disk refuses the first group that waits, beside what is where it keeps all
record Holds (now fault : Answered) (begun : Intake) (block : List (List Entry)) (failing : List Answer) : Type 0 where
  failing_are : failing ≡ fault.answers
  none : block ≡ [] → (fault ≡ now) × (now.intake.groups ≡ begun.groups)
  some : 0 < length block → (fault.intake.entries ≡ begun.entries) × (fault.stop ≡ Some stop.DiskFault)

module _ (limits : ℕ → Limits) (conf : Conf) (begun : Intake) (events : List WireEvent) (e : WireEvent) where
  abbrev told : ℕ → Answered
  told n = answered (limits n) conf begun events

  abbrev more : ℕ → Answered
  more n = answered (limits n) conf begun (events ++ e ∷ [])

  abbrev says : Intake → ℕ → Handled
  says i n = handled (limits n) conf i e

  more_is : (n : ℕ) → more n ≡ answered_on (told n).stop (limits n) conf (told n) e
  more_is n = answered-append (limits n) conf _ events (e ∷ [])

  more_going : (n : ℕ) (a : Answered) (i : Intake) → told n ≡ a → a.stop ≡ None → a.intake ≡ i → more n ≡ answered_more a (says i n)
  more_going n a i is going at =
      more_is n ∙ ap (λ (t : Answered). answered_on t.stop (limits n) conf t e) is ∙ ap (λ (o : Option Stop). answered_on o (limits n) conf a e) going
      ∙ ap (λ (k : Intake). answered_more a (says k n)) at

  more_stopped : (n : ℕ) (reason : Stop) → (told n).stop ≡ Some reason → more n ≡ told n
  more_stopped n reason stopped = more_is n ∙ ap (λ (o : Option Stop). answered_on o (limits n) conf (told n) e) stopped

  none_empty : (block : List (List Entry)) → block ≡ [] → 0 < length block → ⊥
  none_empty block none some = omega (arith, ap length none)

  front_at : (xs ys : List Answer) (x : Answer) (at : ℕ) → ys ≡ xs ++ x ∷ [] → at ≤ length xs → take at ys ≡ take at xs
  front_at xs ys x at is le = ap (take at) is ∙ take-append-le at xs (x ∷ []) le

  holds_more : (i j : Intake) (mark mark' : Mark) (block block' : List (List Entry)) (answers answers' : List Answer) (first first' : Option First)
      → (told 0).intake ≡ i → (told 0).stop ≡ None → answers ≡ (told 0).answers → answers' ≡ answers ++ (says i 0).answer ∷ [] → (block ≡ [] → i.entries ≡ begun.entries)
      → HasFirst i mark block answers first → HasFirst j mark' block' answers' first' → FirstBy i answers (says i) first first'
      → Holds (told 0) (told (begun.groups + 1)) begun block (failing_of answers first)
      → Holds (more 0) (more (begun.groups + 1)) begun block' (failing_of answers' first')
  holds_more i j mark mark' block block' answers answers' (Some f) first' at going are more_are waits has has' by holds =
      let there = holds.some has.0 in
      let same = more_stopped (begun.groups + 1) stop.DiskFault there.1 in
      let some : 0 < length block' = (subst (HasFirst j mark' block' answers') by has').0 in
      record {
        failing_are = ap (failing_of answers') by ∙ ap (λ (l : List Answer). l ++ f.answer ∷ []) (front_at answers answers' (says i 0).answer f.at more_are (omega (arith, has.1)))
            ∙ holds.failing_are ∙ ap (λ (t : Answered). t.answers) (sym same);
        none = λ none. absurd (none_empty block' none some);
        some = λ _. subst (λ (t : Answered). (t.intake.entries ≡ begun.entries) × (t.stop ≡ Some stop.DiskFault)) (sym same) there;
      }
  holds_more i j mark mark' block block' answers answers' None None at going are more_are waits has has' by holds =
      let none = holds.none has.0 in
      let groups : i.groups ≡ begun.groups = sym (ap (λ (k : Intake). k.groups) at) ∙ none.1 in
      let s = begun.groups + 1 in
      let number : i.groups + 1 ≡ s = omega (arith, groups) in
      let now = more_going 0 (told 0) i refl going at in
      let fault : more s ≡ answered_more (told 0) (says i 0) = more_going s (told 0) i none.0 going at ∙ ap (λ (n : ℕ). answered_more (told 0) (says i n)) (sym number) ∙ ap (answered_more (told 0)) by.0 in
      record {
        failing_are = more_are ∙ ap (λ (l : List Answer). l ++ (says i 0).answer ∷ []) are ∙ ap (λ (t : Answered). t.answers) (sym fault);
        none = λ _. (fault ∙ sym now, ap (λ (t : Answered). t.intake.groups) now ∙ by.1 ∙ groups);
        some = λ some. absurd (none_empty block' has'.0 some);
      }
  holds_more i j mark mark' block block' answers answers' None (Some f) at going are more_are waits has has' by holds =
      let none = holds.none has.0 in
      let groups : i.groups ≡ begun.groups = sym (ap (λ (k : Intake). k.groups) at) ∙ none.1 in
      let s = begun.groups + 1 in
      let number : i.groups + 1 ≡ s = omega (arith, groups) in
      let fault : more s ≡ answered_more (told 0) (record { intake = record i { now = (says i 0).intake.now; peers = (says i 0).intake.peers }; answer = f.answer }) =
      more_going s (told 0) i none.0 going at ∙ ap (λ (n : ℕ). answered_more (told 0) (says i n)) (sym number) ∙ ap (answered_more (told 0)) by.1 in
      let before : take f.at answers' ≡ answers = ap (λ (n : ℕ). take n answers') by.0 ∙ ap (take (length answers)) more_are ∙ take-append_seam answers ((says i 0).answer ∷ []) in
      record {
        failing_are = ap (λ (l : List Answer). l ++ f.answer ∷ []) (before ∙ are) ∙ ap (λ (t : Answered). t.answers) (sym fault);
        none = λ empty. absurd (none_empty block' empty has'.0);
        some = λ _. (ap (λ (t : Answered). t.intake.entries) fault ∙ waits has.0, ap (λ (t : Answered). t.stop) fault ∙ by.2);
      }

-- entries behind which no group waits
pub none_waits : (before : ℕ) (entries kept : List Numbered) (block : List (List Entry)) → entries ≡ with_group before kept (all_of block) → block ≡ [] → kept ≡ entries
none_waits before entries kept block is none = sym (is ∙ ap (λ (b : List (List Entry)). with_group before kept (all_of b)) none ∙ append-nil kept)

-- what was kept stands at the front of what an event leaves
pub front_kept : (limits : Limits) (conf : Conf) (i j : Intake) (e : WireEvent) (kept : ℕ) → j ≡ (handled limits conf i e).intake → kept ≤ length i.entries → take kept j.entries ≡ take kept i.entries
front_kept limits conf i j e kept is le =
    ap (λ (k : Intake). take kept k.entries) is ∙ ap (take kept) (grows limits conf i e) ∙ take-append-le kept i.entries (handled limits conf i e).answer.added le

-- one event more was taken
pub more_taken : {D : Type 0} (journal : Journaled D) (conf : Conf) (begun : Intake) (events : List WireEvent) (e : WireEvent) (i j : Intake) (b c : Batch) (s : Option Stop)
    → IsBatch i b → IsTaken i j b c (λ n. handled (limits_of journal n) conf i e) s
    → i ≡ (answered (limits_of journal 0) conf begun events).intake → (answered (limits_of journal 0) conf begun events).stop ≡ None
    → HasTaken conf begun events (front_of journal i b) → HasTaken conf begun (events ++ e ∷ []) (front_of journal j c)
more_taken journal conf begun events e i j b c s batch t at going has =
    let limits : ℕ → Limits = λ n. limits_of journal n in
    let now = more_going limits conf begun events e 0 (answered (limits_of journal 0) conf begun events) i refl going (sym at) in
    let waits : b.block ≡ [] → i.entries ≡ begun.entries = λ none. sym (none_waits i.before i.entries (take b.mark.kept i.entries) b.block batch.entries_are none) ∙ has.kept_is in
    let holds = holds_more limits conf begun events e i j b.mark c.mark b.block c.block b.answers.items c.answers.items b.first c.first (sym at) going has.answers_are t.answers waits batch.first_is t.batch.first_is t.first
    (record { failing_are = has.failing_are; none = has.none; some = has.some }) in
    record {
      kept_is = ap (λ (m : Mark). take m.kept j.entries) t.mark ∙ front_kept (limits_of journal 0) conf i j e b.mark.kept t.after batch.within ∙ has.kept_is;
      entries_are = ap (λ (k : Intake). k.entries) t.after ∙ ap (λ (a : Answered). a.intake.entries) (sym now);
      answers_are = t.answers ∙ ap (λ (l : List Answer). l ++ (handled (limits_of journal 0) conf i e).answer ∷ []) has.answers_are ∙ ap (λ (a : Answered). a.answers) (sym now);
      failing_are = holds.failing_are;
      none = holds.none;
      some = holds.some;
    }
