-- What stands at a gate, from the bytes that were read.
use Rattle.std.proofs.Common.{◌≡◌, ℕ, ◌+◌, ◌-◌, ◌<◌, ◌≤◌, Bool, true, false, List, length, take, drop, get_or, Option, Some, None, if◌then◌else◌, refl, sym, ap, subst, ◌∙◌, arith, length-drop, length-take}
use Rattle.std.proofs.lemmas.List.{drop-take, drop-drop, get_or-take, get_or-drop}
use Rattle.byteorder.specs.Endian.{little_number, little_from}
use Rattle.byteorder.specs.Numbers.{little_from-take}
use Rattle.zbx_types.specs.declared.entries.Entry.{Entry}
use Rattle.intake_journal.specs.Format.{entries_of}
use Rattle.intake_journal.specs.Kept.{fits, group_behind}
use Rattle.intake_journal.specs.Found.{IsHead, IsFound}
use Rattle.intake_journal.specs.declared.reading.Head.TheVariants.{Closed, Cut, Open}
use Rattle.intake_journal.specs.declared.reading.Found.TheVariants.{End, Damage, Next}
use Rattle.intake_journal.proofs.Behind.{group_is, group_lacks, sized, fits_parts}

gate_is : (at : ℕ) (file : List ℕ) → get_or (take 9 (drop at file)) 0 0 ≡ get_or file at 0
gate_is at file =
    let e : at + 0 ≡ at = omega arith in
    get_or-take 9 (drop at file) 0 0 (omega arith) ∙ get_or-drop at file 0 0 ∙ ap (λ (i : ℕ). get_or file i 0) e

pub closed_found : (at : ℕ) (file : List ℕ) → IsHead Closed (take 9 (drop at file)) → IsFound End at file
closed_found at file head open' = head (gate_is at file ∙ open')

pub cut_found : (at : ℕ) (file : List ℕ) → IsHead Cut (take 9 (drop at file)) → IsFound Damage at file
cut_found at file head =
    let short : length (drop (at + 1) file) < 8 = omega (arith, head.1, length-take 9 (drop at file), length-drop at file, length-drop (at + 1) file) in
    (sym (gate_is at file) ∙ head.0, group_lacks at (drop (at + 1) file) short)

-- the size and the count behind an open gate
pub record IsOpen (at : ℕ) (file : List ℕ) (size count : ℕ) : Type 0 where
  pub gate : get_or file at 0 ≡ 1
  pub there : 8 ≤ length (drop (at + 1) file)
  pub size_is : little_number 4 (drop (at + 1) file) ≡ size
  pub count_is : little_number 4 (drop 4 (drop (at + 1) file)) ≡ count

pub is_open : (at : ℕ) (file : List ℕ) (size count : ℕ) → IsHead (Open size count) (take 9 (drop at file)) → IsOpen at file size count
is_open at file size count head =
    let head-bytes = take 9 (drop at file) in
    let behind : drop 1 (drop at file) ≡ drop (at + 1) file = drop-drop 1 at file in
    let size-bytes : drop 1 head-bytes ≡ take 8 (drop (at + 1) file) = drop-take 1 8 (drop at file) ∙ ap (λ (x : List ℕ). take 8 x) behind in
    let further : drop 5 (drop at file) ≡ drop 4 (drop (at + 1) file) = sym (drop-drop 4 1 (drop at file)) ∙ ap (λ (x : List ℕ). drop 4 x) behind in
    let count-bytes : drop 5 head-bytes ≡ take 4 (drop 4 (drop (at + 1) file)) = drop-take 5 4 (drop at file) ∙ ap (λ (x : List ℕ). take 4 x) further in
    record {
      gate = sym (gate_is at file) ∙ head.0;
      there = omega (arith, head.1, length-take 9 (drop at file), length-drop at file, length-drop (at + 1) file);
      size_is = sym (little_from-take 0 4 8 (drop (at + 1) file) (omega arith)) ∙ ap (λ (x : List ℕ). little_from 0 4 x) (sym size-bytes) ∙ sym head.2;
      count_is = sym (little_from-take 0 4 4 (drop 4 (drop (at + 1) file)) (omega arith)) ∙ ap (λ (x : List ℕ). little_from 0 4 x) (sym count-bytes) ∙ sym head.3;
    }

-- the group behind an open gate, by its size and count
opened_is : (at : ℕ) (file : List ℕ) (size count : ℕ) → IsOpen at file size count
    → group_behind at (drop (at + 1) file) ≡ sized size (if fits at size count (length file - (at + 9)) then entries_of count (take size (drop (at + 9) file)) else None)
opened_is at file size count opened =
    let behind = drop (at + 1) file in
    let left : length behind - 8 ≡ length file - (at + 9) = omega (arith, length-drop (at + 1) file) in
    let place : at + 1 + 8 ≡ at + 9 = omega arith in
    let rest : drop 8 behind ≡ drop (at + 9) file = drop-drop 8 (at + 1) file ∙ ap (λ (i : ℕ). drop i file) place in
    group_is at behind opened.there ∙ rw (opened.size_is, opened.count_is, left, rest) refl

pub unfit_found : (at : ℕ) (file : List ℕ) (size count : ℕ) → IsOpen at file size count → fits at size count (length file - (at + 9)) ≡ false → IsFound Damage at file
unfit_found at file size count opened unfit = (opened.gate, opened_is at file size count opened ∙ rw unfit refl)

none_chosen : (b : Bool) (o : Option (List Entry)) (size : ℕ) → o ≡ None → sized size (if b then o else None) ≡ None
none_chosen true o size e = rw e refl
none_chosen false o size e = refl

pub unread_found : (at : ℕ) (file : List ℕ) (size count : ℕ) → IsOpen at file size count → entries_of count (take size (drop (at + 9) file)) ≡ None → IsFound Damage at file
unread_found at file size count opened unread =
    (opened.gate, opened_is at file size count opened ∙ none_chosen (fits at size count (length file - (at + 9))) (entries_of count (take size (drop (at + 9) file))) size unread)

pub fit_inside : (at : ℕ) (file : List ℕ) (size count : ℕ) → fits at size count (length file - (at + 9)) ≡ true → at + 9 + size ≤ length file
fit_inside at file size count fit = omega (arith, (fits_parts at size count (length file - (at + 9)) fit).0)

pub next_found : (at : ℕ) (file : List ℕ) (size count : ℕ) (entries : List Entry) → IsOpen at file size count → fits at size count (length file - (at + 9)) ≡ true
    → entries_of count (take size (drop (at + 9) file)) ≡ Some entries → IsFound (Next entries size) at file
next_found at file size count entries opened fit read =
    let behind = drop (at + 1) file in
    let place : at + 1 + 8 ≡ at + 9 = omega arith in
    let rest : drop 8 behind ≡ drop (at + 9) file = drop-drop 8 (at + 1) file ∙ ap (λ (i : ℕ). drop i file) place in
    let parts = fits_parts at size count (length file - (at + 9)) fit in (
      opened.gate,
      record {
        size_is = opened.size_is;
        some = subst (λ (n : ℕ). 0 < n) (sym opened.count_is) parts.2;
        inside = omega (arith, parts.0, length-drop (at + 1) file);
        within = parts.1;
        entries_are = ap (λ (n : ℕ). entries_of n (take size (drop 8 behind))) opened.count_is ∙ ap (λ (x : List ℕ). entries_of count (take size x)) rest ∙ read;
      },
    )
