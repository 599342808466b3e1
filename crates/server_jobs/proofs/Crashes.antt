-- What crashes leave while notes are tried.
use Rattle.std.proofs.Common.{◌≡◌, ◌∙◌, inl, inr, ℕ, true, List, [], ◌∷◌, ◌++◌, length, Option, Some, None, Result, Ok, Err, IfSome, refl, sym, ap, subst, arith, append-nil, true≢false}
use Rattle.std.specs.Prelude.{is_some, is_ok}
use Rattle.std.proofs.lemmas.Bool.{cases_lt}
use Rattle.std.proofs.lemmas.List.{take-append-le, take_all}
use Rattle.outside.specs.Disk.{DiskTells, IsLawful, LeavesOnly}
use Rattle.gated_file.proofs.Moments.{if_some, told_of, started}
use Rattle.gated_file.proofs.Openings.{and_then, leaves_less}
use Rattle.alert_marks.specs.Marks.{marks_in, EachKeeps, KeepsBeforeOrWith, KeepsAsOneOf}
use Rattle.alert_marks.specs.declared.types.AddError.{AddError}
use Rattle.alert_queue.specs.Events.{marked}
use Rattle.alert_queue.specs.declared.types.Mark.{Mark}
use Rattle.alert_queue.specs.declared.types.NoteMark.{NoteMark}
use Rattle.server_jobs.specs.Turning.{with_mark}
use Rattle.server_jobs.specs.Working.{KeepsFront, KeepsSome}
use Rattle.server_jobs.specs.Alerts.{KeepsThrough}

pub front_whole : (marks : List NoteMark) (c : List ℕ) → marks_in c ≡ Some marks → KeepsFront marks c
front_whole marks c is = (length marks, is ∙ ap Some (sym (take_all (length marks) marks (omega arith))))

pub front_more : (marks : List NoteMark) (mark : NoteMark) (c : List ℕ) → KeepsFront marks c → KeepsFront (marks ++ mark ∷ []) c
front_more marks mark c (n, is) = elim (cases_lt (length marks) n) [
  | inl past ↦ (length marks, is ∙ ap Some (take_all n marks (omega (arith, past)) ∙ sym (take_all (length marks) marks (omega arith)) ∙ sym (take-append-le (length marks) marks (mark ∷ []) (omega arith))))
  | inr within ↦ (n, is ∙ ap Some (sym (take-append-le n marks (mark ∷ []) (omega (arith, within)))))
]

with_front : (marks : List NoteMark) (mark : NoteMark) (c : List ℕ) → KeepsBeforeOrWith marks mark c → KeepsFront (marks ++ mark ∷ []) c
with_front marks mark c (inl is) = front_more marks mark c (front_whole marks c is)
with_front marks mark c (inr is) = front_whole (marks ++ mark ∷ []) c is

with_some : (marks : List NoteMark) (mark : NoteMark) (c : List ℕ) → KeepsBeforeOrWith marks mark c → KeepsSome marks c
with_some marks mark c (inl is) = inl (front_whole marks c is)
with_some marks mark c (inr is) = inr (mark, is)

pub with_front_all : (old new : DiskTells) (marks list' : List NoteMark) (mark : NoteMark) → list' ≡ marks ++ mark ∷ [] → IfSome old.bytes (λ _. LeavesOnly old new (KeepsBeforeOrWith marks mark)) → IfSome old.bytes (λ _. LeavesOnly old new (KeepsFront list'))
with_front_all old new marks list' mark is p = if_some old.bytes _ (λ b told. subst (λ (l : List NoteMark). LeavesOnly old new (KeepsFront l)) (sym is) (leaves_less old new (KeepsBeforeOrWith marks mark) (KeepsFront (marks ++ mark ∷ [])) (with_front marks mark) (told_of old.bytes b (λ _. LeavesOnly old new (KeepsBeforeOrWith marks mark)) told p)))

pub with_some_all : (old new : DiskTells) (marks : List NoteMark) (mark : NoteMark) → IfSome old.bytes (λ _. LeavesOnly old new (KeepsBeforeOrWith marks mark)) → IfSome old.bytes (λ _. LeavesOnly old new (KeepsSome marks))
with_some_all old new marks mark p = if_some old.bytes _ (λ b told. leaves_less old new (KeepsBeforeOrWith marks mark) (KeepsSome marks) (with_some marks mark) (told_of old.bytes b (λ _. LeavesOnly old new (KeepsBeforeOrWith marks mark)) told p))

-- what is told of a disk later is told of it before
pub told_before : {A B : Type 0} (old : Option A) (new : Option B) (X : Type 0) → is_some new ≡ is_some old → IfSome new (λ _. X) → IfSome old (λ _. X)
told_before None new X same told = tt
told_before (Some a) None X same told = cc
told_before (Some a) (Some b) X same told = told

pub moments_none : (disk : DiskTells) (marks : List NoteMark) → IsLawful disk → EachKeeps disk marks → IfSome disk.bytes (λ _. LeavesOnly disk disk (KeepsFront marks))
moments_none disk marks lawful keeps = if_some disk.bytes _ (λ b is.
    (started (KeepsFront marks) disk lawful (λ c image. front_whole marks c (told_of disk.bytes b (λ _. (c : List ℕ) → disk.images c → marks_in c ≡ Some marks) is keeps c image))).moments)

both : (old mid : DiskTells) (X Y Z : Type 0) → is_some mid.bytes ≡ is_some old.bytes → (X → Y → Z) → IfSome old.bytes (λ _. X) → IfSome mid.bytes (λ _. Y) → IfSome old.bytes (λ _. Z)
both old mid X Y Z same goes p q = if_some old.bytes _ (λ b is. goes (told_of old.bytes b (λ _. X) is p) (told_of old.bytes b (λ _. Y) is (told_before old.bytes mid.bytes Y same q)))

front_with : (marks : List NoteMark) (n : ℕ) (o : Option Mark) (c : List ℕ) → KeepsFront marks c → KeepsFront (marks ++ marked n o) c
front_with marks n None c keeps = subst (λ (l : List NoteMark). KeepsFront l c) (sym (append-nil marks)) keeps
front_with marks n (Some mark) c keeps = front_more marks (record { note = n; mark = mark }) c keeps

-- a try more, whose mark was added if it has one
pub moments_with : (old mid new : DiskTells) (marks list' : List NoteMark) (n : ℕ) (o : Option Mark) (r : Result (Unit {0}) AddError) → is_some mid.bytes ≡ is_some old.bytes → is_ok r ≡ true → list' ≡ with_mark marks n o r
    → IfSome old.bytes (λ _. LeavesOnly old mid (KeepsFront marks)) → IfSome mid.bytes (λ _. LeavesOnly mid new (KeepsFront list')) → IfSome old.bytes (λ _. LeavesOnly old new (KeepsFront list'))
moments_with old mid new marks list' n o (Err e) same ok is p q = absurd (true≢false (sym ok))
moments_with old mid new marks list' n o (Ok u) same ok is p q =
    both old mid (LeavesOnly old mid (KeepsFront marks)) (LeavesOnly mid new (KeepsFront list')) (LeavesOnly old new (KeepsFront list')) same
    (λ first second. and_then old mid new (KeepsFront list') (KeepsFront list') (leaves_less old mid (KeepsFront marks) (KeepsFront list') (λ c k. subst (λ (l : List NoteMark). KeepsFront l c) (sym is) (front_with marks n o c k)) first) second (λ c k. k)) p q

-- and one that was the last
pub moments_last : (old mid new : DiskTells) (marks list' : List NoteMark) → is_some mid.bytes ≡ is_some old.bytes → list' ≡ marks
    → IfSome old.bytes (λ _. LeavesOnly old mid (KeepsFront marks)) → IfSome mid.bytes (λ _. LeavesOnly mid new (KeepsSome marks)) → IfSome old.bytes (λ _. LeavesOnly old new (KeepsSome list'))
moments_last old mid new marks list' same is p q = subst (λ (l : List NoteMark). IfSome old.bytes (λ _. LeavesOnly old new (KeepsSome l))) (sym is)
    (both old mid (LeavesOnly old mid (KeepsFront marks)) (LeavesOnly mid new (KeepsSome marks)) (LeavesOnly old new (KeepsSome marks)) same
    (λ first second. and_then old mid new (KeepsSome marks) (KeepsSome marks) (leaves_less old mid (KeepsFront marks) (KeepsSome marks) (λ c is. inl is) first) second (λ c k. k)) p q)

pub moments_some : (old new : DiskTells) (marks : List NoteMark) → IfSome old.bytes (λ _. LeavesOnly old new (KeepsFront marks)) → IfSome old.bytes (λ _. LeavesOnly old new (KeepsSome marks))
moments_some old new marks p = if_some old.bytes _ (λ b is. leaves_less old new (KeepsFront marks) (KeepsSome marks) (λ c k. inl k) (told_of old.bytes b (λ _. LeavesOnly old new (KeepsFront marks)) is p))

-- a progress that was opened, and then added to
pub moments_through : (old mid new : DiskTells) (marks : List NoteMark) → is_some mid.bytes ≡ is_some old.bytes
    → IfSome old.bytes (λ _. LeavesOnly old mid (KeepsAsOneOf old)) → IfSome mid.bytes (λ _. LeavesOnly mid new (KeepsSome marks)) → IfSome old.bytes (λ _. LeavesOnly old new (KeepsThrough old marks))
moments_through old mid new marks same p q =
    both old mid (LeavesOnly old mid (KeepsAsOneOf old)) (LeavesOnly mid new (KeepsSome marks)) (LeavesOnly old new (KeepsThrough old marks)) same
    (λ first second. and_then old mid new (KeepsThrough old marks) (KeepsSome marks) (leaves_less old mid (KeepsAsOneOf old) (KeepsThrough old marks) (λ c k. inl k) first) second (λ c k. inr k)) p q

-- one that was only opened
pub moments_opened : (old new : DiskTells) (marks : List NoteMark) → IfSome old.bytes (λ _. LeavesOnly old new (KeepsAsOneOf old)) → IfSome old.bytes (λ _. LeavesOnly old new (KeepsThrough old marks))
moments_opened old new marks p = if_some old.bytes _ (λ b is. leaves_less old new (KeepsAsOneOf old) (KeepsThrough old marks) (λ c k. inl k) (told_of old.bytes b (λ _. LeavesOnly old new (KeepsAsOneOf old)) is p))

-- and one that was left alone
pub moments_alone : (disk : DiskTells) (marks : List NoteMark) → IsLawful disk → IfSome disk.bytes (λ _. LeavesOnly disk disk (KeepsThrough disk marks))
moments_alone disk marks lawful = if_some disk.bytes _ (λ b is. (started (KeepsThrough disk marks) disk lawful (λ c image. inl (c, image, refl))).moments)
