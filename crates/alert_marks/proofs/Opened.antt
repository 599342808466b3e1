-- A file that is opened, and read.
use Rattle.std.proofs.Common.{◌≡◌, ◌≢◌, ◌∙◌, inl, inr, ⊎_elim, ℕ, ◌+◌, ◌<◌, ◌≤◌, Bool, true, false, List, [], ◌∷◌, ◌++◌, length, take, get_or, Option, Some, None, IfSome, refl, sym, ap, subst, arith, true≢false}
use Rattle.std.specs.Prelude.{Result, Ok, Err, IfOk, nat_le, ◌||◌, option_map, if◌then◌else◌, codes}
use Rattle.std.proofs.lemmas.Bool.{cases_lt}
use Rattle.std.proofs.lemmas.Bool.Decides.{nat_tests}
use Rattle.std.proofs.lemmas.Grind.{get_or_default_zero}
use Rattle.outside.specs.Disk.{DiskTells, IsLawful, Only, LeavesOnly}
use Rattle.gated_file.specs.Moments.{IsAsBefore}
use Rattle.gated_file.specs.Opened.{begins, is_ours, made_ready, IsAsOneOf}
use Rattle.gated_file.specs.Groups.{Kept, NotOurs, Damaged, Groups, kept, kept_from, IsFront}
use Rattle.gated_file.proofs.Moments.{if_some, told_of}
use Rattle.gated_file.proofs.Openings.{and_then, leaves_less, front_same}
use Rattle.gated_file.proofs.Fronts.{closed, kept_short, kept_long, kept_other}
use Rattle.alert_queue.specs.declared.types.NoteMark.{NoteMark}
use Rattle.alert_marks.specs.declared.reading.Reader.{Reader}
use Rattle.alert_marks.specs.Marks.{mark_form, marks_in, KeepsAsOneOf, IsFiled, IsSettled}
use Rattle.alert_marks.specs.Reading.{IsOurs, IsOpened, IsRead}
use Rattle.alert_marks.proofs.Marking.{filed_keeps}

-- what is said of an Ok, twice
pub ok_both : {T E : Type 0} (r : Result T E) (P Q R : T → Type 0) → ((x : T) → P x → Q x → R x) → IfOk r P → IfOk r Q → IfOk r R
ok_both (Ok x) P Q R goes p q = goes x p q
ok_both (Err e) P Q R goes p q = tt

module _ (old new : DiskTells) (before : IsAsBefore old new) (opened : IsOpened old) where
  only_then : (b : List ℕ) → old.bytes ≡ Some b → Only b new
  only_then b is c image = (told_of old.bytes b (λ f. IsOurs f × Only f old) is opened).1 c (before.no_others c image)

  ours_then : (b : List ℕ) → old.bytes ≡ Some b → IsOurs b
  ours_then b is = (told_of old.bytes b (λ f. IsOurs f × Only f old) is opened).0

  module _ (bytes : List ℕ) (told : IfSome old.bytes (λ b. bytes ≡ b)) where
    same : (b : List ℕ) → old.bytes ≡ Some b → bytes ≡ b
    same b is = told_of old.bytes b (λ f. bytes ≡ f) is told

    filed_read : (r : Reader) → (IsOurs bytes → IsRead bytes r) → get_or bytes r.gate 0 ≢ 1 → (b : List ℕ) → old.bytes ≡ Some b → IsFiled new r.gate r.is_numbered r.list.items b
    filed_read r read shut b is =
        let ours : IsOurs bytes = subst IsOurs (sym (same b is)) (ours_then b is) in
        let i = read ours in
        subst (IsFiled new r.gate r.is_numbered r.list.items) (same b is) (record {
          state = i.state;
          groups = i.groups;
          ready = record {
            front = i.front;
            gate = i.inside;
            shut = λ (e : get_or bytes r.gate 1 ≡ 1). shut (sym (get_or_default_zero bytes r.gate 1 i.inside) ∙ e);
            durable = λ c image. only_then b is c image ∙ sym (same b is);
          };
          lists = i.lists;
          coded = i.coded;
        })

    pub read_settled : (r : Reader) → (IsOurs bytes → IsRead bytes r) → get_or bytes r.gate 0 ≢ 1 → IsSettled false new r.gate r.is_numbered r.list.items
    read_settled r read shut going = if_some new.bytes _ (λ b is. filed_read r read shut b (sym before.same ∙ is))

    pub read_kept : (r : Reader) → (IsOurs bytes → IsRead bytes r) → get_or bytes r.gate 0 ≢ 1 → IfSome old.bytes (λ b. marks_in b ≡ Some r.list.items)
    read_kept r read shut = if_some old.bytes _ (λ b is. filed_keeps new r.gate r.is_numbered r.list.items b (filed_read r read shut b is))

    pub read_damage : (place : ℕ) → (IsOurs bytes → kept_from mark_form bytes ≡ Damaged place) → IfSome old.bytes (λ b. kept_from mark_form b ≡ Damaged place)
    read_damage place has = if_some old.bytes _ (λ b is.
        let ours : IsOurs bytes = subst IsOurs (sym (same b is)) (ours_then b is) in
        ap (kept_from mark_form) (sym (same b is)) ∙ has ours)

abbrev pub fresh : List ℕ
fresh = codes "ZTSALR01" ++ 0 ∷ []

by_length : (b : List ℕ) (P : Type 0) → (length b ≤ 9 → nat_le (length b) 9 ≡ true → P) → (9 < length b → nat_le (length b) 9 ≡ false → P) → P
by_length b P short long = elim (cases_lt 9 (length b)) [
  | inl more ↦ long more (grind (arith, nat_tests))
  | inr less ↦ short less (grind (arith, nat_tests))
]

module _ (b : List ℕ) where
  -- what is made of a file that is ours is one with a gate
  pub ready_ours : is_ours fresh b ≡ true → IsOurs (made_ready fresh b)
  ready_ours test = by_length b (IsOurs (made_ready fresh b))
      (λ short le. subst IsOurs (sym (ap (λ (t : Bool). if t then fresh else b) le)) (refl, omega arith))
      (λ long le.
      let begins_so : begins (codes "ZTSALR01") b ≡ true = sym (ap (λ (t : Bool). t || begins (codes "ZTSALR01") b) le) ∙ test in
      subst IsOurs (sym (ap (λ (t : Bool). if t then fresh else b) le)) (front_same (codes "ZTSALR01") b (omega (arith, long)) begins_so, omega (arith, long)))

  -- and keeps the same
  pub ready_same : kept mark_form (made_ready fresh b) ≡ kept mark_form b
  ready_same = by_length b (kept mark_form (made_ready fresh b) ≡ kept mark_form b)
      (λ short le. ap (λ (t : Bool). kept mark_form (if t then fresh else b)) le ∙ kept_short mark_form fresh (omega arith) ∙ sym (kept_short mark_form b short))
      (λ long le. ap (λ (t : Bool). kept mark_form (if t then fresh else b)) le)

  pub not_ours : is_ours fresh b ≡ false → kept mark_form b ≡ NotOurs
  not_ours test = by_length b (kept mark_form b ≡ NotOurs)
      (λ short le. absurd (true≢false (sym (ap (λ (t : Bool). t || begins (codes "ZTSALR01") b) le) ∙ test)))
      (λ long le. kept_other mark_form b long (sym (ap (λ (t : Bool). t || begins (codes "ZTSALR01") b) le) ∙ test))

  -- damage in what is made of it is damage in it
  pub ready_damaged : (at : ℕ) → is_ours fresh b ≡ true → kept_from mark_form (made_ready fresh b) ≡ Damaged at → kept mark_form b ≡ Damaged at
  ready_damaged at test damage = by_length b (kept mark_form b ≡ Damaged at)
      (λ short le. absurd (groups_damaged at (sym fresh_keeps ∙ ap (λ (t : Bool). kept_from mark_form (if t then fresh else b)) (sym le) ∙ damage)))
      (λ long le.
      let begins_so : begins (codes "ZTSALR01") b ≡ true = sym (ap (λ (t : Bool). t || begins (codes "ZTSALR01") b) le) ∙ test in
      kept_long mark_form b long (front_same (codes "ZTSALR01") b (omega (arith, long)) begins_so) ∙ ap (λ (t : Bool). kept_from mark_form (if t then fresh else b)) (sym le) ∙ damage)
    where
      fresh_keeps : kept_from mark_form fresh ≡ Groups []
      fresh_keeps = closed mark_form 0 8 0 [] (omega arith)

      IsGroups : Kept → Type 0
      IsGroups (Groups gs) = Unit {0}
      IsGroups NotOurs = ⊥
      IsGroups (Damaged at) = ⊥

      groups_damaged : (at : ℕ) → Groups [] ≡ Damaged at → ⊥
      groups_damaged at e = subst IsGroups e tt

pub keeps_as : (disk : DiskTells) (c : List ℕ) → IsAsOneOf disk c → KeepsAsOneOf disk c
keeps_as disk c (d, image, inl same) = (d, image, ap (kept mark_form) same)
keeps_as disk c (d, image, inr short) = (d, image, kept_short mark_form c short.0 ∙ sym (kept_short mark_form d short.1))

-- an opening and then reading
pub opening_moments : (old mid new : DiskTells) → IsLawful mid → LeavesOnly old mid (IsAsOneOf old) → IsAsBefore mid new → LeavesOnly old new (KeepsAsOneOf old)
opening_moments old mid new lawful first before =
    and_then old mid new (KeepsAsOneOf old) mid.images (leaves_less old mid (IsAsOneOf old) (KeepsAsOneOf old) (keeps_as old) first) before.moments
    (λ c image. keeps_as old c (first.each c (lawful.counts_now old.moment c first.later image)))
