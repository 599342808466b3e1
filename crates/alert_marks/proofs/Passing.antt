-- A reader passes a group.
use Rattle.std.proofs.Common.{◌≡◌, ◌≢◌, ◌∙◌, inl, inr, ℕ, ◌+◌, ◌-◌, ◌^◌, ◌<◌, ◌≤◌, ◌==◌, ◌||◌, Bool, true, false, List, [], ◌∷◌, ◌++◌, length, take, drop, get_or, Option, Some, None, refl, sym, ap, subst, arith, append_assoc, append-nil, length-append, take-append-drop, le-leb}
use Rattle.std.specs.Prelude.{nat_le, not, ◌&&◌, option_map, codes, if◌then◌else◌}
use Rattle.std.proofs.lemmas.List.{take_at, drop_more, length-take}
use Rattle.std.proofs.lemmas.Bool.{ne_eqb}
use Rattle.std.proofs.lemmas.Bool.Decides.{nat_tests}
use Rattle.gated_file.specs.Groups.{Kept, Damaged, kept_from, onto, IsFront, IsReadable}
use Rattle.gated_file.proofs.Fronts.{damaged, onto-damaged, front_none, front_goes_on}
use Rattle.alert_queue.specs.declared.types.Mark.{Mark}
use Rattle.alert_queue.specs.declared.types.Mark.TheVariants.{Done, Failed}
use Rattle.alert_queue.specs.declared.types.NoteMark.{NoteMark}
use Rattle.alert_marks.specs.Marks.{byte_of, mark_form, is_switched, is_marked, size_in, state_behind, number_in, numbered_size, plain_size, IsCoded}
use Rattle.alert_marks.specs.Reading.{mark_at, numbered_behind, plain_behind}

pub plain_few : (l : List ℕ) → length l < 2 → plain_behind l ≡ 0
plain_few [] few = refl
plain_few (a ∷ []) few = refl
plain_few (a ∷ b ∷ l) few = absurd (omega arith)

pub plain_more : (l : List ℕ) → 2 ≤ length l → plain_behind l ≡ get_or l 0 0
plain_more [] more = absurd (omega arith)
plain_more (a ∷ []) more = absurd (omega arith)
plain_more (a ∷ b ∷ l) more = refl

module _ (b : List ℕ) (at state : ℕ) (groups : List (List ℕ)) (front : IsFront mark_form state groups (take at b)) (inside : at < length b) (is_open : get_or b at 0 ≡ 1) where
  front_length : length (take at b) ≡ at
  front_length = omega (arith, length-take at b, inside)

  split : b ≡ take at b ++ 1 ∷ drop (at + 1) b
  split = sym (take-append-drop at b) ∙ ap (λ (l : List ℕ). take at b ++ l) (drop_more b at 0 inside ∙ ap (λ (n : ℕ). n ∷ drop (at + 1) b) is_open)

  -- no group is there
  pub damaged_here : size_in state (drop (at + 1) b) ≡ None → kept_from mark_form b ≡ Damaged at
  damaged_here none =
      ap (kept_from mark_form) split
      ∙ front.keeps 1 (drop (at + 1) b)
      ∙ ap (λ (k : Kept). onto groups k) (damaged mark_form state (length (take at b)) (drop (at + 1) b) none)
      ∙ onto-damaged groups (length (take at b))
      ∙ ap Damaged front_length

  -- one is
  module _ (g : List ℕ) (gate : ℕ) (rest : List ℕ) (end : ℕ) (is : drop (at + 1) b ≡ g ++ gate ∷ rest) (readable : IsReadable mark_form state g) (size : end ≡ at + 1 + length g) where
    abbrev longer : List ℕ
    longer = take at b ++ 1 ∷ g

    whole : b ≡ longer ++ gate ∷ rest
    whole = split ∙ ap (λ (l : List ℕ). take at b ++ 1 ∷ l) is ∙ sym (append_assoc (take at b) (1 ∷ g) (gate ∷ rest))

    long : length longer ≡ end
    long = omega (arith, front_length, size, length-append (take at b) (1 ∷ g))

    pub next_front : IsFront mark_form (state_behind state g) (groups ++ g ∷ []) (take end b)
    next_front =
        let head : take end b ≡ longer = ap (take end) whole ∙ take_at longer (gate ∷ rest) end long in
        subst (λ (l : List ℕ). IsFront mark_form (state_behind state g) (groups ++ g ∷ []) l) (sym head) (front_goes_on mark_form state groups (take at b) g front readable)

    pub next_inside : end < length b
    next_inside = omega (arith, ap length whole, long, length-append longer (gate ∷ rest))

-- a numbered group that was found
pub record IsGroup (l : List ℕ) (m : NoteMark) : Type 0 where
  pub group : List ℕ
  pub gate : ℕ
  pub rest : List ℕ
  pub is : l ≡ group ++ gate ∷ rest
  pub five : length group ≡ 5
  pub number : number_in group ≡ m.note
  pub byte : get_or group 4 0 ≡ byte_of m.mark
  pub whole : (state : ℕ) → is_switched state ≡ true → 1 ≤ m.note → is_marked state m.note ≡ false → IsReadable mark_form state group

-- ---- groups behind the switch

from_map : (n : ℕ) (o : Option Mark) (m : NoteMark) → option_map (λ (mark : Mark). record { note = n; mark = mark }) o ≡ Some m → (o ≡ Some m.mark) × (n ≡ m.note)
from_map n None m e = absurd (cc)
from_map n (Some mark) m e = (ap (λ (x : NoteMark). Some x.mark) same, ap (λ (x : NoteMark). x.note) same)
  where
    value : Option NoteMark → NoteMark
    value (Some x) = x
    value None = m

    same : record { note = n; mark = mark } ≡ m
    same = ap value e

mark_byte : (byte : ℕ) (mark : Mark) → mark_at byte ≡ Some mark → byte ≡ byte_of mark
mark_byte byte Done e = grind (arith, nat_tests)
mark_byte byte Failed e = grind (arith, nat_tests)

is_byte : (mark : Mark) → (byte_of mark == 100 || byte_of mark == 102) ≡ true
is_byte Done = refl
is_byte Failed = refl

pub group_found : (l : List ℕ) (m : NoteMark) → numbered_behind l ≡ Some m → IsGroup l m
group_found [] m e = absurd (cc)
group_found (a ∷ []) m e = absurd (cc)
group_found (a ∷ b ∷ []) m e = absurd (cc)
group_found (a ∷ b ∷ c ∷ []) m e = absurd (cc)
group_found (a ∷ b ∷ c ∷ d ∷ []) m e = absurd (cc)
group_found (a ∷ b ∷ c ∷ d ∷ x ∷ []) m e = absurd (cc)
group_found (a ∷ b ∷ c ∷ d ∷ x ∷ g ∷ l) m e =
    let long : nat_le 6 (length (a ∷ b ∷ c ∷ d ∷ x ∷ g ∷ l)) ≡ true = le-leb _ _ (omega arith) in
    let found : option_map (λ (mark : Mark). record { note = number_in (a ∷ b ∷ c ∷ d ∷ x ∷ g ∷ l); mark = mark }) (mark_at x) ≡ Some m =
    sym (ap (λ (t : Bool). if t then option_map (λ (mark : Mark). record { note = number_in (a ∷ b ∷ c ∷ d ∷ x ∷ g ∷ l); mark = mark }) (mark_at x) else None) long) ∙ e in
    let both = from_map (number_in (a ∷ b ∷ c ∷ d ∷ x ∷ g ∷ l)) (mark_at x) m found in
    let byte : x ≡ byte_of m.mark = mark_byte x m.mark both.0 in
    record {
      group = a ∷ b ∷ c ∷ d ∷ x ∷ [];
      gate = g;
      rest = l;
      is = refl;
      five = refl;
      number = both.1;
      byte = byte;
      whole = λ state switched some free gate rest.
          let number : number_in (a ∷ b ∷ c ∷ d ∷ x ∷ gate ∷ rest) ≡ m.note = both.1 in
          let enough : nat_le 6 (length (a ∷ b ∷ c ∷ d ∷ x ∷ gate ∷ rest)) ≡ true = le-leb _ _ (omega arith) in
          let mark : (x == 100 || x == 102) ≡ true = ap (λ (n : ℕ). n == 100 || n == 102) byte ∙ is_byte m.mark in
          let low : nat_le 1 m.note ≡ true = le-leb _ _ some in
          rw (switched, enough, mark, number, low, free) refl;
    }

and_false : (a b c : Bool) → (a && b && false && c) ≡ false
and_false true true c = refl
and_false true false c = refl
and_false false b c = refl

and_none : (a b c : Bool) → (a && b && c && false) ≡ false
and_none true true true = refl
and_none true true false = refl
and_none true false c = refl
and_none false b c = refl

-- the number of a group is that of its front
front_number : (g : List ℕ) → length g ≡ 5 → (rest : List ℕ) → number_in (g ++ rest) ≡ number_in g
front_number (a ∷ b ∷ c ∷ d ∷ x ∷ g) five rest = refl
front_number [] five rest = absurd (omega (arith, five))
front_number (a ∷ []) five rest = absurd (omega (arith, five))
front_number (a ∷ b ∷ []) five rest = absurd (omega (arith, five))
front_number (a ∷ b ∷ c ∷ []) five rest = absurd (omega (arith, five))
front_number (a ∷ b ∷ c ∷ d ∷ []) five rest = absurd (omega (arith, five))

-- the number 0
pub zero_number : (l : List ℕ) (m : NoteMark) (state : ℕ) → IsGroup l m → m.note ≡ 0 → is_switched state ≡ true → size_in state l ≡ None
zero_number l m state found zero switched =
    let number : number_in l ≡ 0 = ap number_in found.is ∙ front_number found.group found.five (found.gate ∷ found.rest) ∙ found.number ∙ zero in
    let test = and_false (nat_le 6 (length l)) (get_or l 4 0 == 100 || get_or l 4 0 == 102) (not (is_marked state 0)) in
    rw (switched, number, test) refl

-- the number of a note that has a mark
pub met_number : (l : List ℕ) (m : NoteMark) (state : ℕ) → IsGroup l m → is_marked state m.note ≡ true → is_switched state ≡ true → size_in state l ≡ None
met_number l m state found marked switched =
    let number : number_in l ≡ m.note = ap number_in found.is ∙ front_number found.group found.five (found.gate ∷ found.rest) ∙ found.number in
    let test = and_none (nat_le 6 (length l)) (get_or l 4 0 == 100 || get_or l 4 0 == 102) (nat_le 1 m.note) in
    rw (switched, number, marked, test) refl

none_map : (n : ℕ) (o : Option Mark) → option_map {U = NoteMark} (λ (mark : Mark). record { note = n; mark = mark }) o ≡ None → o ≡ None
none_map n None e = refl
none_map n (Some mark) e = absurd (cc)

no_byte : (byte : ℕ) → mark_at byte ≡ None → (byte == 100 || byte == 102) ≡ false
no_byte byte none = by_tests (byte == 100) (byte == 102) none
  where
    by_tests : (d f : Bool) → (if d then Some Done else if f then Some Failed else None) ≡ None → (d || f) ≡ false
    by_tests true f e = absurd (cc)
    by_tests false true e = absurd (cc)
    by_tests false false e = refl

-- no group behind the switch
pub no_group : (l : List ℕ) (state : ℕ) → numbered_behind l ≡ None → is_switched state ≡ true → size_in state l ≡ None
no_group l state none switched = by_test (nat_le 6 (length l)) refl
  where
    by_test : (t : Bool) → nat_le 6 (length l) ≡ t → size_in state l ≡ None
    by_test false is = rw (switched, is) refl
    by_test true is =
        let gone : option_map {U = NoteMark} (λ (mark : Mark). record { note = number_in l; mark = mark }) (mark_at (get_or l 4 0)) ≡ None =
        sym (ap (λ (t : Bool). if t then option_map (λ (mark : Mark). record { note = number_in l; mark = mark }) (mark_at (get_or l 4 0)) else None) is) ∙ none in
        let bad : (get_or l 4 0 == 100 || get_or l 4 0 == 102) ≡ false = no_byte (get_or l 4 0) (none_map (number_in l) (mark_at (get_or l 4 0)) gone) in
        rw (switched, is, bad) refl

-- ---- groups before it

pub record IsByte (l : List ℕ) (byte : ℕ) : Type 0 where
  pub gate : ℕ
  pub rest : List ℕ
  pub is : l ≡ byte ∷ gate ∷ rest

pub byte_found : (l : List ℕ) (byte : ℕ) → plain_behind l ≡ byte → 0 ≢ byte → IsByte l byte
byte_found [] byte e other = absurd (other e)
byte_found (a ∷ []) byte e other = absurd (other e)
byte_found (a ∷ b ∷ l) byte e other = record { gate = b; rest = l; is = ap (λ (n : ℕ). n ∷ b ∷ l) e }

pub plain_readable : (state : ℕ) (mark : Mark) → is_switched state ≡ false → IsReadable mark_form state (byte_of mark ∷ [])
plain_readable state Done plain gate rest = rw plain refl
plain_readable state Failed plain gate rest = rw plain refl

pub no_plain : (l : List ℕ) (state : ℕ) → mark_at (plain_behind l) ≡ None → (plain_behind l ≢ 50) → is_switched state ≡ false → size_in state l ≡ None
no_plain [] state none other plain = rw plain refl
no_plain (a ∷ []) state none other plain = rw plain refl
no_plain (a ∷ b ∷ l) state none other plain =
    let bad : (a == 100 || a == 102) ≡ false = no_byte a none in
    let test : (a == 50) ≡ false = ne_eqb a 50 other in
    rw (plain, bad, test) refl

pub mark_byte_is : (byte : ℕ) (mark : Mark) → mark_at byte ≡ Some mark → byte ≡ byte_of mark
mark_byte_is = mark_byte
