-- What a call leaves on its disk.
use Rattle.std.proofs.Common.{◌≡◌, ◌⊎◌, ◌≤◌, ℕ, Bool, true, false, List, [], ◌∷◌, ◌++◌, length, take, Option, Some, None, IfSome, Result, Err, refl, sym, ◌∙◌, ap, subst, inl, inr, arith}
use Rattle.std.specs.Prelude.{is_some}
use Rattle.std.proofs.lemmas.Bool.{cases_lt}
use Rattle.std.proofs.lemmas.List.{append-nil, take-append-le, take_all, length-append}
use Rattle.outside.specs.Causes.{Rose}
use Rattle.outside.specs.Disk.{DiskTells, IsLawful, LeavesOnly}
use Rattle.gated_file.proofs.Moments.{if_some, told_of, started}
use Rattle.gated_file.proofs.Openings.{and_then, leaves_less}
use Rattle.alert_queue.specs.declared.types.NoteMark.{NoteMark}
use Rattle.alert_marks.specs.Marks.{Marked, marks_in, EachKeeps, KeepsBeforeOrWith}
use Rattle.alert_marks.specs.declared.types.AddError.{AddError}
use Rattle.alert_marks.specs.declared.types.AddError.TheVariants as error
use Rattle.alert_sessions.specs.OnDisk.{KeepsFront, EachKept, IsOnDisk}

front_whole : (least : ℕ) (marks : List NoteMark) (c : List ℕ) → least ≤ length marks → marks_in c ≡ Some marks → KeepsFront least marks c
front_whole least marks c few is = (length marks, few, is ∙ ap Some (sym (take_all (length marks) marks (omega arith))))

front_more : (least : ℕ) (marks more : List NoteMark) (c : List ℕ) → least ≤ length marks → KeepsFront least marks c → KeepsFront least (marks ++ more) c
front_more least marks more c few (n, at_least, is) = elim (cases_lt (length marks) n) [
  | inl past ↦
      let whole : marks_in c ≡ Some (take (length marks) (marks ++ more)) =
      is ∙ ap Some (take_all n marks (omega (arith, past)) ∙ sym (take_all (length marks) marks (omega arith)) ∙ sym (take-append-le (length marks) marks more (omega arith))) in
      (length marks, few, whole)
  | inr within ↦ (n, at_least, is ∙ ap Some (sym (take-append-le n marks more (omega (arith, within)))))
]

front_with : (least : ℕ) (marks : List NoteMark) (mark : NoteMark) (c : List ℕ) → least ≤ length marks → KeepsBeforeOrWith marks mark c → KeepsFront least (marks ++ mark ∷ []) c
front_with least marks mark c few (inl is) = front_more least marks (mark ∷ []) c few (front_whole least marks c few is)
front_with least marks mark c few (inr is) = front_whole least (marks ++ mark ∷ []) c (omega (arith, few, length-append marks (mark ∷ []))) is

-- what is told of one disk is told of another that tells where that does
told_too : {A B : Type 0} (one : Option A) (other : Option B) (X : Type 0) → is_some one ≡ is_some other → IfSome one (λ _. X) → IfSome other (λ _. X)
told_too None None X same told = tt
told_too None (Some b) X same told = absurd cc
told_too (Some a) None X same told = tt
told_too (Some a) (Some b) X same told = told

-- a mark more, or one that the disk failed to keep
moments_more : (opening old new : DiskTells) (least : ℕ) (list : List NoteMark) (mark : NoteMark) → is_some old.bytes ≡ is_some opening.bytes → least ≤ length list
    → EachKept opening old least list → IfSome old.bytes (λ _. LeavesOnly old new (KeepsBeforeOrWith list mark)) → EachKept opening new least (list ++ mark ∷ [])
moments_more opening old new least list mark same few so_far step = if_some opening.bytes _ (λ b is.
    and_then opening old new (KeepsFront least (list ++ mark ∷ [])) (KeepsBeforeOrWith list mark)
    (leaves_less opening old (KeepsFront least list) (KeepsFront least (list ++ mark ∷ [])) (λ c. front_more least list (mark ∷ []) c few)
    (told_of opening.bytes b (λ _. LeavesOnly opening old (KeepsFront least list)) is so_far))
    (told_of opening.bytes b (λ _. LeavesOnly old new (KeepsBeforeOrWith list mark)) is (told_too old.bytes opening.bytes (LeavesOnly old new (KeepsBeforeOrWith list mark)) same step))
    (λ c. front_with least list mark c few))

pub not_some : {A : Type 0} (o : Option A) → is_some o ≡ false → o ≡ None
not_some None none = refl
not_some (Some a) none = absurd cc

-- at the beginning
pub disk_begins : (disk : DiskTells) (list : List NoteMark) (broken : Bool) → IsLawful disk → broken ≡ false → EachKeeps disk list → IsOnDisk disk disk (length list) list broken None
disk_begins disk list broken lawful going keeps = record {
  refused = [];
  one = omega arith;
  none = λ not. refl;
  going = λ not. going;
  fault = λ was. absurd cc;
  later = omega arith;
  told = refl;
  keeps = if_some disk.bytes _ (λ b is c image. inl (told_of disk.bytes b (λ _. (c : List ℕ) → disk.images c → marks_in c ≡ Some list) is keeps c image));
  moments = if_some disk.bytes _ (λ b is.
      (started (KeepsFront (length list) (list ++ [])) disk lawful
      (λ c image. front_more (length list) list [] c (omega arith) (front_whole (length list) list c (omega arith) (told_of disk.bytes b (λ _. (c : List ℕ) → disk.images c → marks_in c ≡ Some list) is keeps c image)))).moments);
  count = omega arith;
}

-- no memory was to be had
pub disk_stops : (opening disk : DiskTells) (least : ℕ) (list : List NoteMark) (broken : Bool) → IsOnDisk opening disk least list broken None → IsOnDisk opening disk least list broken (Some error.OutOfMemory)
disk_stops opening disk least list broken on = record {
  refused = on.refused;
  one = on.one;
  none = λ not. on.none (λ was. absurd cc);
  going = λ not. absurd cc;
  fault = λ was. absurd cc;
  later = on.later;
  told = on.told;
  keeps = on.keeps;
  moments = on.moments;
  count = on.count;
}

module _ {D : Type 0} (tells : D → DiskTells) (opening : DiskTells) (least : ℕ) (old new : Marked D) (mark : NoteMark) (on : IsOnDisk opening (tells old.disk) least old.list old.is_broken None)
    (told : is_some (tells new.disk).bytes ≡ is_some (tells old.disk).bytes) (later : (tells old.disk).faults ≤ (tells new.disk).faults)
    (step : old.is_broken ≡ false → IfSome (tells old.disk).bytes (λ _. LeavesOnly (tells old.disk) (tells new.disk) (KeepsBeforeOrWith old.list mark))) where
  nothing : on.refused ≡ []
  nothing = on.none (λ was. absurd cc)

  so_far : EachKept opening (tells old.disk) least old.list
  so_far = subst (λ (l : List NoteMark). EachKept opening (tells old.disk) least l) (ap (λ (l : List NoteMark). old.list ++ l) nothing ∙ append-nil old.list) on.moments

  moments : EachKept opening (tells new.disk) least (old.list ++ mark ∷ [])
  moments = moments_more opening (tells old.disk) (tells new.disk) least old.list mark on.told on.count so_far (step (on.going refl))

  -- the mark is kept
  pub disk_kept : new.list ≡ old.list ++ mark ∷ [] → EachKeeps (tells new.disk) new.list → new.is_broken ≡ false → IsOnDisk opening (tells new.disk) least new.list new.is_broken None
  disk_kept list_is keeps going = record {
    refused = [];
    one = omega arith;
    none = λ not. refl;
    going = λ not. going;
    fault = λ was. absurd cc;
    later = omega (arith, on.later, later);
    told = told ∙ on.told;
    keeps = if_some (tells new.disk).bytes _ (λ b is c image. inl (told_of (tells new.disk).bytes b (λ _. (c : List ℕ) → (tells new.disk).images c → marks_in c ≡ Some new.list) is keeps c image));
    moments = subst (λ (l : List NoteMark). EachKept opening (tells new.disk) least l) (sym list_is ∙ sym (append-nil new.list)) moments;
    count = omega (arith, on.count, ap length list_is, length-append old.list (mark ∷ []));
  }

  -- the disk failed
  disk_failed : IsLawful (tells new.disk) → new.list ≡ old.list → Rose (tells old.disk).faults (tells new.disk).faults → IsOnDisk opening (tells new.disk) least new.list new.is_broken (Some error.DiskFault)
  disk_failed lawful list_is rose = record {
    refused = mark ∷ [];
    one = omega arith;
    none = λ not. absurd (not refl);
    going = λ not. absurd cc;
    fault = λ was. omega (arith, on.later, rose);
    later = omega (arith, on.later, later);
    told = told ∙ on.told;
    keeps = if_some (tells new.disk).bytes _ (λ b is c image.
        let left : LeavesOnly (tells old.disk) (tells new.disk) (KeepsBeforeOrWith old.list mark) =
        told_of (tells new.disk).bytes b (λ _. LeavesOnly (tells old.disk) (tells new.disk) (KeepsBeforeOrWith old.list mark)) is
        (told_too (tells old.disk).bytes (tells new.disk).bytes (LeavesOnly (tells old.disk) (tells new.disk) (KeepsBeforeOrWith old.list mark)) (sym told) (step (on.going refl))) in
        subst (λ (l : List NoteMark). (marks_in c ≡ Some l) ⊎ (marks_in c ≡ Some (l ++ mark ∷ []))) (sym list_is) (left.each c (lawful.counts_now (tells old.disk).moment c left.later image)));
    moments = subst (λ (l : List NoteMark). EachKept opening (tells new.disk) least (l ++ mark ∷ [])) (sym list_is) moments;
    count = omega (arith, on.count, ap length list_is);
  }

  -- the mark is refused
  pub disk_refused : (e : AddError) (result : Result (Unit {0}) AddError) → result ≡ Err e → IsLawful (tells new.disk) → new.list ≡ old.list
      → (result ≡ Err error.DiskFault → (old.is_broken ≡ true) ⊎ Rose (tells old.disk).faults (tells new.disk).faults) → (result ≡ Err error.OutOfMemory → new ≡ old)
      → IsOnDisk opening (tells new.disk) least new.list new.is_broken (Some e)
  disk_refused error.DiskFault result is lawful list_is fault same = elim (fault is) [
    | inl broken ↦ absurd (let going = on.going refl in cc)
    | inr rose ↦ disk_failed lawful list_is rose
  ]
  disk_refused error.OutOfMemory result is lawful list_is fault same =
      subst (λ (m : Marked D). IsOnDisk opening (tells m.disk) least m.list m.is_broken (Some error.OutOfMemory)) (sym (same is)) (disk_stops opening (tells old.disk) least old.list old.is_broken on)
