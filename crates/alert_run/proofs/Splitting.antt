-- How lines and outboxes go on behind a byte.
use Rattle.std.proofs.Common.{◌≡◌, ◌∙◌, ℕ, suc, ◌+◌, ◌<◌, ◌≤◌, Bool, true, false, List, [], ◌∷◌, ◌++◌, length, drop, get_or, Option, Some, None, Result, Ok, Err, refl, sym, ap, subst, arith, add-one, length-append}
use Rattle.std.specs.Prelude.{◌==◌, option_and_then, if◌then◌else◌}
use Rattle.std.proofs.lemmas.List.{drop_all, drop_more}
use Rattle.alert_run.specs.Fields.{ended as fields_ended, taken as field_taken, fields_from, fields_of}
use Rattle.alert_run.specs.Notes.{line_of, behind, ended, taken, going_on, notes_from, notes_of}
use Rattle.alert_run.specs.declared.fields.Split.{Split}
use Rattle.alert_run.specs.declared.notes.Line.{Line}
use Rattle.alert_run.specs.declared.notes.Line.TheVariants.{Other, Message, Bad}
use Rattle.alert_run.specs.declared.notes.Lines.{Lines}
use Rattle.alert_run.specs.declared.types.Note.{Note}

-- the byte at a place, and those behind it
next_byte : (all : List ℕ) (i : ℕ) → i < length all → drop i all ≡ get_or all i 0 ∷ drop (i + 1) all
next_byte all i below = drop_more all i 0 below

-- ---- fields

fields_on : (s : Split) (b : ℕ) (rest : List ℕ) (o : Option Split) → field_taken s b ≡ o → fields_from s (b ∷ rest) ≡ option_and_then (λ more. fields_from more rest) o
unfolding fields_from
fields_on s b rest o e = ap (option_and_then (λ more. fields_from more rest)) e

pub fields_step : (all : List ℕ) (i : ℕ) (s s' : Split) → i < length all → field_taken s (get_or all i 0) ≡ Some s' → fields_from s (drop i all) ≡ fields_of all → fields_from s' (drop (i + 1) all) ≡ fields_of all
fields_step all i s s' below e so_far = sym (fields_on s (get_or all i 0) (drop (i + 1) all) (Some s') e) ∙ ap (fields_from s) (sym (next_byte all i below)) ∙ so_far

pub fields_bad : (all : List ℕ) (i : ℕ) (s : Split) → i < length all → field_taken s (get_or all i 0) ≡ None → fields_from s (drop i all) ≡ fields_of all → None ≡ fields_of all
fields_bad all i s below e so_far = sym (fields_on s (get_or all i 0) (drop (i + 1) all) None e) ∙ ap (fields_from s) (sym (next_byte all i below)) ∙ so_far

fields_none : (s : Split) → fields_from s [] ≡ fields_ended s
unfolding fields_from
fields_none s = refl

pub fields_end : (all : List ℕ) (i : ℕ) (s : Split) → length all ≤ i → fields_from s (drop i all) ≡ fields_of all → fields_ended s ≡ fields_of all
fields_end all i s past so_far = sym (fields_none s) ∙ ap (fields_from s) (sym (drop_all i all past)) ∙ so_far

-- ---- notes

notes_on : (s : Lines) (b : ℕ) (rest : List ℕ) (r : Result Lines ℕ) → taken s b ≡ r → notes_from s (b ∷ rest) ≡ going_on (λ more. notes_from more rest) r
unfolding notes_from
notes_on s b rest r e = ap (going_on (λ more. notes_from more rest)) e

pub notes_step : (all : List ℕ) (i : ℕ) (s s' : Lines) → i < length all → taken s (get_or all i 0) ≡ Ok s' → notes_from s (drop i all) ≡ notes_of all → notes_from s' (drop (i + 1) all) ≡ notes_of all
notes_step all i s s' below e so_far = sym (notes_on s (get_or all i 0) (drop (i + 1) all) (Ok s') e) ∙ ap (notes_from s) (sym (next_byte all i below)) ∙ so_far

pub notes_bad : (all : List ℕ) (i at : ℕ) (s : Lines) → i < length all → taken s (get_or all i 0) ≡ Err at → notes_from s (drop i all) ≡ notes_of all → notes_of all ≡ Err at
notes_bad all i at s below e so_far = sym so_far ∙ ap (notes_from s) (next_byte all i below) ∙ notes_on s (get_or all i 0) (drop (i + 1) all) (Err at) e

notes_none : (s : Lines) → notes_from s [] ≡ Ok s.notes
unfolding notes_from
notes_none s = refl

pub notes_end : (all : List ℕ) (i : ℕ) (s : Lines) → length all ≤ i → notes_from s (drop i all) ≡ notes_of all → notes_of all ≡ Ok s.notes
notes_end all i s past so_far = sym so_far ∙ ap (notes_from s) (drop_all i all past) ∙ notes_none s

same_ok : (a b : Lines) → ◌≡◌ {A = Result Lines ℕ} (Ok a) (Ok b) → a ≡ b
same_ok a b e = ap (λ (r : Result Lines ℕ). or_else r) e
  where
    or_else : Result Lines ℕ → Lines
    or_else (Ok x) = x
    or_else (Err at) = a

-- a byte makes at most one note
pub notes_grow : (s s' : Lines) (b : ℕ) → taken s b ≡ Ok s' → length s'.notes ≤ length s.notes + 1
notes_grow s s' b e = go (b == 10) e
  where
    few : Lines → Type 0
    few t = length t.notes ≤ length s.notes + 1

    at_end : (l : Line) → behind s l ≡ Ok s' → few s'
    at_end Other e = subst few (same_ok _ s' e) (omega arith)
    at_end (Message n) e = subst few (same_ok _ s' e) (omega (arith, length-append s.notes (n ∷ [])))
    at_end Bad e = cc

    go : (t : Bool) → (if t then ended s else Ok (record { notes = s.notes; line = s.line ++ b ∷ []; at = s.at })) ≡ Ok s' → few s'
    go true e = at_end (line_of s.line) e
    go false e = subst few (same_ok _ s' e) (omega arith)

-- each byte counts once
pub grows : (s s' : Lines) (b : ℕ) → taken s b ≡ Ok s' → s'.at + length s'.line ≡ s.at + length s.line + 1
grows s s' b e = go (b == 10) e
  where
    counted : Lines → Type 0
    counted t = t.at + length t.line ≡ s.at + length s.line + 1

    at_end : (l : Line) → behind s l ≡ Ok s' → counted s'
    at_end Other e = subst counted (same_ok _ s' e) (omega arith)
    at_end (Message n) e = subst counted (same_ok _ s' e) (omega arith)
    at_end Bad e = cc

    go : (t : Bool) → (if t then ended s else Ok (record { notes = s.notes; line = s.line ++ b ∷ []; at = s.at })) ≡ Ok s' → counted s'
    go true e = at_end (line_of s.line) e
    go false e = subst counted (same_ok _ s' e) (omega (arith, length-append s.line (b ∷ [])))
