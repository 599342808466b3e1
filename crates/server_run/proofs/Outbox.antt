-- Laws of what an outbox has of the lines of a run's entries, behind those of its base.
use Rattle.std.proofs.Common.{◌≡◌, ◌⊎◌, ℕ, ◌+◌, ◌-◌, ◌≤◌, List, [], ◌++◌, length, length-append, take, drop, reverse, refl, sym, ap, ◌∙◌, subst, arith, ◌∷◌, inl, inr}
use Rattle.std.proofs.lemmas.List.{reverse-append, take-append-le}
use Rattle.std.specs.Prelude.{Option, Some, None, IfSome, unwrap_or}
use mathlib.Core.List.{IsPrefix}
use Rattle.zbx_types.specs.declared.base.Base.{Base}
use Rattle.zbx_types.specs.declared.conf.Conf.{Conf}
use Rattle.zbx_types.specs.declared.entries.Numbered.{Numbered}
use Rattle.outside.specs.Others.{first_other}
use Rattle.outside.specs.Tells.{SinkTells}
use Rattle.outside.proofs.OtherLemmas.{or_then}
use Rattle.entry_step.specs.Log.{log_of}
use Rattle.server_words.specs.declared.status.Status.{Status}
use Rattle.server_words.specs.declared.status.Status.TheVariants as status
use Rattle.book_opening.specs.Outgoing.{HasFront, HasAll, IsLeft, log_lines, stays, with_lines}
use Rattle.server_run.specs.Statuses.{Extent, no_lines, all_lines, front_lines, course_of, IsCourse, EndsPrinted}
use Rattle.server_run.specs.Outbox.{LinesAre}
use Rattle.book_opening.proofs.Comparing.{other_behind, stays_more}
use Rattle.book_opening.proofs.Growing.{lines_newer}

-- an outbox that was left alone
pub left_so : (outbox : SinkTells) → IsLeft outbox outbox
left_so outbox = record { bytes = refl; size = refl; later = omega arith }

-- ---- fronts of lines

own_front : (xs : List ℕ) → take (length xs) xs ≡ xs
own_front [] = refl
own_front (x ∷ xs) = ap (λ ys. x ∷ ys) (own_front xs)

-- all lines are a front of them
all_front : (before : ℕ) (outbox sink : SinkTells) (lines : List ℕ) → HasAll before outbox sink lines → HasFront before outbox sink lines
all_front before outbox sink lines all = record { least = omega (arith, all.size); size = omega (arith, all.size); bytes = go outbox.bytes all.bytes }
  where
    count : sink.held - before ≡ length lines
    count = omega (arith, all.size)

    go : (o : Option (List ℕ)) → IfSome o (λ b. (sink.bytes ≡ Some (take before b ++ lines)) × (stays before b lines ≤ sink.held)) → IfSome o (λ b. (sink.bytes ≡ Some (with_lines before b lines sink.held)) × (stays before b lines ≤ sink.held))
    go None h = tt
    go (Some b) h = (h.0 ∙ ap (λ l. Some (take before b ++ l)) (sym (ap (λ n. take n lines) count ∙ own_front lines)), h.1)

-- as much stays of bytes beside more lines
stays_on : (before : ℕ) (lines more b : List ℕ) (o : Option ℕ) → first_other before lines (drop before b) ≡ o → unwrap_or o (length b) ≤ before + length lines → stays before b (lines ++ more) ≡ unwrap_or o (length b)
stays_on before lines more b None is few = stays_more before lines more b few ∙ ap (λ o. unwrap_or o (length b)) is
stays_on before lines more b (Some p) is few =
    ap (λ o. unwrap_or o (length b)) (other_behind before lines more b ∙ ap (λ o. or_then o (first_other (before + length lines) more (drop (before + length lines) b))) is)

-- a front of some lines is one of more
front_grown : (before : ℕ) (outbox sink : SinkTells) (lines more : List ℕ) → HasFront before outbox sink lines → HasFront before outbox sink (lines ++ more)
front_grown before outbox sink lines more front = record { least = front.least; size = omega (arith, front.size, length-append lines more); bytes = go outbox.bytes front.bytes }
  where
    within : sink.held - before ≤ length lines
    within = omega (arith, front.size)

    go : (o : Option (List ℕ)) → IfSome o (λ b. (sink.bytes ≡ Some (with_lines before b lines sink.held)) × (stays before b lines ≤ sink.held))
        → IfSome o (λ b. (sink.bytes ≡ Some (with_lines before b (lines ++ more) sink.held)) × (stays before b (lines ++ more) ≤ sink.held))
    go None h = tt
    go (Some b) h = (
      h.0 ∙ ap (λ l. Some (take before b ++ l)) (sym (take-append-le (sink.held - before) lines more within)),
      (let same = stays_on before lines more b (first_other before lines (drop before b)) refl (omega (arith, h.1, front.size)) in subst (λ n. n ≤ sink.held) (sym same) h.1),
    )

-- lines of more entries begin with those of fewer
prefix_log : (a rest : List Numbered) → log_of (a ++ rest) ≡ reverse rest ++ log_of a
prefix_log a rest = reverse-append a rest

pub front_of_more : (flat : List ℕ → Conf) (base : Base) (a all : List Numbered) (outbox sink : SinkTells) → IsPrefix a all → HasFront base.lines outbox sink (log_lines flat base (log_of a)) → HasFront base.lines outbox sink (log_lines flat base (log_of all))
front_of_more flat base a all outbox sink (rest, is) front =
    let newer = lines_newer flat base (reverse rest) (log_of a) in
    let before = log_lines flat base (log_of a) in
    let lines : log_lines flat base (log_of all) ≡ before ++ newer.0 = ap (λ l. log_lines flat base (log_of l)) (sym is) ∙ ap (log_lines flat base) (prefix_log a rest) ∙ newer.1 in
    subst (HasFront base.lines outbox sink) (sym lines) (front_grown base.lines outbox sink before newer.0 front)

-- ---- what a run leaves

-- what stands of the lines of all entries where the last of them were written
pub written_whole : (flat : List ℕ → Conf) (base : Base) (a all : List Numbered) (outbox sink : SinkTells) (s : Status) → IsCourse s → (s ≡ status.OutOfMemory → IsPrefix a all) → ((s ≡ status.OutOfMemory → ⊥) → a ≡ all)
    → HasAll base.lines outbox sink (log_lines flat base (log_of a)) → LinesAre (course_of s).out base.lines outbox sink (log_lines flat base (log_of all))
written_whole flat base a all outbox sink s course spent whole has = by s course refl
  where
    all_of_them : (s ≡ status.OutOfMemory → ⊥) → HasAll base.lines outbox sink (log_lines flat base (log_of all))
    all_of_them other = subst (λ es. HasAll base.lines outbox sink (log_lines flat base (log_of es))) (whole other) has

    by : (t : Status) → IsCourse t → s ≡ t → LinesAre (course_of t).out base.lines outbox sink (log_lines flat base (log_of all))
    by status.Ok c is = all_of_them (λ e. cc)
    by status.PrintFault c is = all_of_them (λ e. cc)
    by status.TurnLimit c is = all_of_them (λ e. cc)
    by status.WireFault c is = all_of_them (λ e. cc)
    by status.OutboxFault c is = all_front base.lines outbox sink _ (all_of_them (λ e. cc))
    by status.OutOfMemory c is = front_of_more flat base a all outbox sink (spent is) (all_front base.lines outbox sink _ has)
    by status.DiskFault c is = all_of_them (λ e. cc)
    by (status.Full entries bytes) c is = all_of_them (λ e. cc)
    by _ c is = absurd c

-- and where some weren't
pub written_front : (flat : List ℕ → Conf) (base : Base) (a all : List Numbered) (outbox sink : SinkTells) (s : Status) → (s ≡ status.OutOfMemory) ⊎ (s ≡ status.OutboxFault) → IsPrefix a all
    → HasFront base.lines outbox sink (log_lines flat base (log_of a)) → LinesAre (course_of s).out base.lines outbox sink (log_lines flat base (log_of all))
written_front flat base a all outbox sink s (inl is) front has = subst (λ t. LinesAre (course_of t).out base.lines outbox sink (log_lines flat base (log_of all))) (sym is) (front_of_more flat base a all outbox sink front has)
written_front flat base a all outbox sink s (inr is) front has = subst (λ t. LinesAre (course_of t).out base.lines outbox sink (log_lines flat base (log_of all))) (sym is) (front_of_more flat base a all outbox sink front has)

-- ---- printing changes no line

front_left : (e : Extent) (before : ℕ) (outbox sink : SinkTells) (lines : List ℕ) → LinesAre e before outbox sink lines → HasFront before outbox sink lines
front_left no_lines before outbox sink lines none = absurd none
front_left all_lines before outbox sink lines all = all_front before outbox sink lines all
front_left front_lines before outbox sink lines front = front

pub lines_printed : (s ended : Status) (before : ℕ) (outbox sink : SinkTells) (lines : List ℕ) → EndsPrinted s ended → LinesAre (course_of s).out before outbox sink lines → LinesAre (course_of ended).out before outbox sink lines
lines_printed s ended before outbox sink lines (own, inl same) left = subst (λ t. LinesAre (course_of t).out before outbox sink lines) (sym same) left
lines_printed s ended before outbox sink lines (own, inr (inl spent)) left = subst (λ t. LinesAre (course_of t).out before outbox sink lines) (sym spent) (front_left (course_of s).out before outbox sink lines left)
lines_printed s ended before outbox sink lines (own, inr (inr (cut, well))) left =
    subst (λ t. LinesAre (course_of t).out before outbox sink lines) (sym cut) (subst (λ t. LinesAre (course_of t).out before outbox sink lines) well left)
