-- Each note is marked once.
use Rattle.std.proofs.Common.{◌≡◌, ◌∙◌, ◌≤◌, ℕ, Bool, true, false, ◌==◌, ◌||◌, List, [], ◌∷◌, ◌++◌, refl, sym, ap, arith, subst, eq-eqb, true≢false}
use Rattle.std.specs.Prelude.{not}
use Rattle.std.specs.List.{list_any}
use Rattle.std.proofs.lemmas.Bool.{cases_eq, ne_eqb}
use Rattle.alert_queue.specs.declared.types.NoteMark.{NoteMark}
use Rattle.alert_marks.specs.declared.reading.Reader.{Reader}
use Rattle.alert_marks.specs.Marks.{has_mark, AreOnce}
use Rattle.alert_marks.specs.Reading.{notes_of, AreMet}
use Rattle.alert_marks.proofs.Meeting.{met_marked, notes_push}
use Rattle.alert_marks.proofs.States.{marked_push}

either_false : (a b : Bool) → a ≡ false → b ≡ false → (a || b) ≡ false
either_false false b p q = q
either_false true b p q = cc

left_false : (a b : Bool) → (a || b) ≡ false → a ≡ false
left_false false b p = refl
left_false true b p = cc

right_false : (a b : Bool) → (a || b) ≡ false → b ≡ false
right_false false b p = p
right_false true b p = cc

turned : (a b : ℕ) → (a == b) ≡ false → (b == a) ≡ false
turned a b p = ne_eqb b a (λ same. true≢false (sym (eq-eqb a b (sym same)) ∙ p))

-- a mark more, of a note that has none
pub once_more : (marks : List NoteMark) (mark : NoteMark) → AreOnce marks → 1 ≤ mark.note → has_mark marks mark.note ≡ false → AreOnce (marks ++ mark ∷ [])
once_more [] mark once some free = (some, refl, tt)
once_more (m ∷ marks) mark once some free =
    let other : (mark.note == m.note) ≡ false = turned m.note mark.note (left_false (m.note == mark.note) (has_mark marks mark.note) free) in
    (once.0, marked_push marks mark m.note ∙ either_false (has_mark marks m.note) (mark.note == m.note) once.1 other, once_more marks mark once.2 some (right_false (m.note == mark.note) (has_mark marks mark.note) free))

not_true : (b : Bool) → true ≡ not b → b ≡ false
not_true false e = refl
not_true true e = cc

-- a reader that counted one more
pub met_more : (old new : Reader) (mark : NoteMark) → true ≡ not (list_any (λ (n : ℕ). n == mark.note) old.seen) → new.seen ≡ old.seen ++ mark.note ∷ [] → new.list.items ≡ old.list.items ++ mark ∷ [] → 1 ≤ mark.note → AreMet old → AreMet new
met_more old new mark first seen list some met =
    let free : has_mark old.list.items mark.note ≡ false = sym (met_marked old.list.items mark.note) ∙ ap (λ (l : List ℕ). list_any (λ (n : ℕ). n == mark.note) l) (sym met.seen_are) ∙ not_true (list_any (λ (n : ℕ). n == mark.note) old.seen) first in
    record {
      seen_are = seen ∙ ap (λ (l : List ℕ). l ++ mark.note ∷ []) met.seen_are ∙ sym (notes_push old.list.items mark) ∙ ap notes_of (sym list);
      once = subst AreOnce (sym list) (once_more old.list.items mark met.once some free);
    }

-- one that didn't
pub met_same : (old new : Reader) → new.seen ≡ old.seen → new.list.items ≡ old.list.items → AreMet old → AreMet new
met_same old new seen list met = record { seen_are = seen ∙ met.seen_are ∙ ap notes_of (sym list); once = subst AreOnce (sym list) met.once }
