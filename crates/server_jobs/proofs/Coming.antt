-- What a call for alerts comes to, step by step.
use Rattle.std.proofs.Common.{◌≡◌, ◌≢◌, ◌⊎◌, ◌∙◌, inl, inr, ℕ, ◌<◌, ◌≤◌, List, [], length, Option, Some, None, IfSome, Result, Ok, Err, refl, sym, ap, subst, arith, true≢false}
use Rattle.std.specs.Prelude.{IsSome}
use Rattle.std.proofs.lemmas.Bool.{lt-leb}
use Rattle.outside.specs.Causes.{Rose}
use Rattle.outside.specs.Disk.{DiskTells}
use Rattle.serde_json.specs.Data.{Data}
use Rattle.zbx_types.specs.declared.causes.Cause.TheVariants.{TooLong}
use Rattle.json_form.specs.Faults.{Fault, ◌>>=◌}
use Rattle.json_form.specs.Places.{nowhere, refuse}
use Rattle.json_form.specs.Json.{json_within}
use Rattle.alert_marks.specs.Marks.{marks_in, EachKeeps}
use Rattle.alert_media.specs.Media.{media_of, entries_of, path_of, IsFaultOf}
use Rattle.alert_media.specs.declared.fault.MediaError.TheVariants as media_error
use Rattle.alert_media.specs.declared.media.Media.{Media}
use Rattle.alert_run.specs.Notes.{notes_of}
use Rattle.alert_queue.specs.declared.types.NoteMark.{NoteMark}
use Rattle.alert_run.specs.declared.types.Note.{Note}
use Rattle.server_words.specs.Words.{alerts_plan_of}
use Rattle.server_words.specs.declared.words.Plan.{Plan}
use Rattle.server_words.specs.declared.status.Status.{Status}
use Rattle.server_words.specs.declared.status.Status.TheVariants as status
use Rattle.whole_texts.specs.Reads.{IsTextUpTo}
use Rattle.server_jobs.specs.Working.{EndsTries}
use Rattle.server_jobs.specs.Alerts.{HasNotes, HasMedia, IsUnread, IsUnknown, IsUnopened, Reading, Around, HasBoth, HasNeither, IsRefused, command_of, EndsWork, IsCut, ComesTo, Opens}
use Rattle.server_jobs.specs.Reports.{EndsPrinted}

-- ---- reading

pub whole_text : (left : Option (List ℕ)) (text : List ℕ) → IfSome left (λ all. IsTextUpTo 1073741824 all text) → length text ≤ 1073741824 → IfSome left (λ all. (text ≡ all) × (length all ≤ 1073741824))
whole_text None text is few = tt
whole_text (Some all) text (inl same) few = (same, omega (arith, ap length same, few))
whole_text (Some all) text (inr long) few = absurd (omega (arith, long.0, few))

pub long_text : (left : Option (List ℕ)) (text : List ℕ) → IfSome left (λ all. IsTextUpTo 1073741824 all text) → 1073741824 < length text → IfSome left (λ all. 1073741824 < length all)
long_text None text is more = tt
long_text (Some all) text (inl same) more = omega (arith, ap length same, more)
long_text (Some all) text (inr long) more = long.1

pub has_notes : (left : Option (List ℕ)) (bytes : List ℕ) (notes : List Note) → IfSome left (λ all. (bytes ≡ all) × (length all ≤ 1073741824)) → notes_of bytes ≡ Ok notes → IfSome left (HasNotes notes)
has_notes None bytes notes read is = tt
has_notes (Some all) bytes notes read is = (read.1, ap notes_of (sym read.0) ∙ is)

pub has_bad : (left : Option (List ℕ)) (bytes : List ℕ) (at : ℕ) → IfSome left (λ all. (bytes ≡ all) × (length all ≤ 1073741824)) → notes_of bytes ≡ Err at → IfSome left (λ all. (length all ≤ 1073741824) × (notes_of all ≡ Err at))
has_bad None bytes at read is = tt
has_bad (Some all) bytes at read is = (read.1, ap notes_of (sym read.0) ∙ is)

-- ---- media

within_long : (text : List ℕ) → 16777216 < length text → json_within 16777216 text ≡ refuse nowhere TooLong
unfolding json_within
within_long text long = rw (lt-leb (length text) 16777216 long) refl

-- a document that is too long is refused as the beginning of it that was read
pub same_media : (left : Option (List ℕ)) (text : List ℕ) → IfSome left (λ all. IsTextUpTo 16777216 all text) → IfSome left (λ all. media_of text ≡ media_of all)
same_media None text is = tt
same_media (Some all) text (inl same) = ap media_of same
same_media (Some all) text (inr long) = ap (λ (r : Result Data Fault). r >>= entries_of) (within_long text long.0 ∙ sym (within_long all long.1))

pub has_media : (left : Option (List ℕ)) (plan : Plan) (text command : List ℕ) (media : Media) → IfSome left (λ all. media_of text ≡ media_of all) → media_of text ≡ Ok media.entries
    → (media.command ≡ command) × (media.attempts ≡ plan.attempts) → command ≡ command_of plan → IfSome left (HasMedia plan media)
has_media None plan text command media same read others is = tt
has_media (Some all) plan text command media same read others is = record { entries = sym same ∙ read; command = others.0 ∙ is; attempts = others.1 }

pub has_fault : (left : Option (List ℕ)) (text path : List ℕ) → IfSome left (λ all. media_of text ≡ media_of all) → IsFaultOf (media_of text) (media_error.Refused path) → IfSome left (λ all. path_of (media_of all) ≡ Some path)
has_fault None text path same fault = tt
has_fault (Some all) text path same fault = ap path_of (sym same) ∙ fault

-- what a call read, where it read its plan

is_some_of : (o : Option Plan) (plan : Plan) → o ≡ Some plan → IsSome o
is_some_of None plan e = cc
is_some_of (Some p) plan e = refl

pub has_both : (words : List (List ℕ)) (r : Reading) (plan : Plan) (notes : List Note) (media : Media) → alerts_plan_of words ≡ Some plan → IfSome r.lines (HasNotes notes) → IfSome r.document (HasMedia plan media)
    → HasBoth words r notes media
has_both words r plan notes media plan_is notes_are media_are = (notes_are, (plan, plan_is, media_are))

pub has_neither : (words : List (List ℕ)) (r : Reading) (plan : Plan) (s : Status) → alerts_plan_of words ≡ Some plan
    → IsUnread r.lines r.faults r.faults' s ⊎ (((notes : List Note) × IfSome r.lines (HasNotes notes)) × IsUnknown r.document r.document_faults r.document_faults' s) → HasNeither words r s
has_neither words r plan s plan_is (inl unread) = inr (inr (inl (is_some_of (alerts_plan_of words) plan plan_is, unread)))
has_neither words r plan s plan_is (inr unknown) = inr (inr (inr (is_some_of (alerts_plan_of words) plan plan_is, unknown.0, unknown.1)))

pub has_no_plan : (words : List (List ℕ)) (r : Reading) → alerts_plan_of words ≡ None → HasNeither words r status.Usage
has_no_plan words r none = inl (refl, none)

pub has_no_room : (words : List (List ℕ)) (r : Reading) → HasNeither words r status.OutOfMemory
has_no_room words r = inr (inl refl)

-- ---- working

-- a count that rose behind an earlier moment rose since that
pub ends_earlier : {T : Type 0} (notes : List Note) (before now : List NoteMark) (f0 f1 f2 : ℕ) (s0 s2 : T) (s : Status) → f0 ≤ f1 → EndsTries notes before now f1 f2 s0 s2 s → EndsTries notes before now f0 f2 s0 s2 s
ends_earlier notes before now f0 f1 f2 s0 s2 status.Ok le why = why
ends_earlier notes before now f0 f1 f2 s0 s2 (status.MarksAhead marks messages) le why = why
ends_earlier notes before now f0 f1 f2 s0 s2 status.DiskFault le why = omega (arith, le, why)
ends_earlier notes before now f0 f1 f2 s0 s2 status.OutOfMemory le why = tt
ends_earlier notes before now f0 f1 f2 s0 s2 _ le why = absurd why

pub opens : {T : Type 0} (Works : List Note → T → T → List NoteMark → List NoteMark → Type 0) (notes : List Note) (d0 d1 d2 : DiskTells) (s0 s2 : T) (s : Status) (before now : List NoteMark)
    → IfSome d0.bytes (λ b. marks_in b ≡ Some before) → d0.faults ≤ d1.faults → Works notes s0 s2 before now
    → EndsTries notes before now d1.faults d2.faults s0 s2 s → (s ≢ status.DiskFault → EachKeeps d2 now) → Opens Works notes d0 d2 s0 s2 s now
opens Works notes d0 d1 d2 s0 s2 s before now recovered later works why keeps = record {
  before = before;
  recovered = recovered;
  works = works;
  why = ends_earlier notes before now d0.faults d1.faults d2.faults s0 s2 s later why;
  keeps = keeps;
}

kept_or_cut : {T : Type 0} (notes : List Note) (before now : List NoteMark) (d0 d2 : DiskTells) (s0 s2 : T) (s : Status) → EndsTries notes before now d0.faults d2.faults s0 s2 s → (s ≢ status.DiskFault → EachKeeps d2 now)
    → EachKeeps d2 now ⊎ (IsCut s × Rose d0.faults d2.faults)
kept_or_cut notes before now d0 d2 s0 s2 status.Ok why keeps = inl (keeps (λ e. cc))
kept_or_cut notes before now d0 d2 s0 s2 (status.MarksAhead marks messages) why keeps = inl (keeps (λ e. cc))
kept_or_cut notes before now d0 d2 s0 s2 status.DiskFault why keeps = inr (tt, why)
kept_or_cut notes before now d0 d2 s0 s2 status.OutOfMemory why keeps = inl (keeps (λ e. cc))
kept_or_cut notes before now d0 d2 s0 s2 _ why keeps = absurd why

works_so : {T : Type 0} (notes : List Note) (before now : List NoteMark) (a : Around T) (s : Status) → EndsTries notes before now a.disk.faults a.disk'.faults a.spawner a.spawner' s → EndsWork notes before now a s
works_so notes before now a status.Ok why = why
works_so notes before now a (status.MarksAhead marks messages) why = why
works_so notes before now a status.DiskFault why = why
works_so notes before now a status.OutOfMemory why = why
works_so notes before now a _ why = absurd why

-- what a call does to its spawners, in one way or another
abbrev Way : Type 0 → Type 1
Way T = Media → List Note → T → T → List NoteMark → List NoteMark → Type 0

pub worked : {T Same : Type 0} (Works : Way T) (words : List (List ℕ)) (notes : List Note) (media : Media) (a : Around T) (s : Status) (marks : List NoteMark) → HasBoth words a.read notes media
    → Opens (Works media) notes a.disk a.disk' a.spawner a.spawner' s marks ⊎ (IsUnopened a.disk.bytes a.disk.faults a.disk'.faults s × (marks ≡ []) × Same)
    → (Same → a.spawner' ≡ a.spawner) → ComesTo Works words a s marks
worked Works words notes media a s marks both (inl o) same = inr (record {
  notes = notes;
  media = media;
  both = both;
  before = o.before;
  recovered = o.recovered;
  works = o.works;
  why = works_so notes o.before marks a s o.why;
  keeps = kept_or_cut notes o.before marks a.disk a.disk' a.spawner a.spawner' s o.why o.keeps;
})
worked Works words notes media a s marks both (inr un) same = inl (inr ((notes, media, both), un.0), un.1, same un.2)

-- ---- printing

to_spent : {T : Type 0} (Works : Way T) (words : List (List ℕ)) (a : Around T) (s : Status) (marks : List NoteMark) → ComesTo Works words a s marks → ComesTo Works words a status.OutOfMemory marks
to_spent Works words a s marks (inl refusal) = inl (inl (inr (inl refl)), refusal.1, refusal.2)
to_spent Works words a s marks (inr w) = inr (record {
  notes = w.notes;
  media = w.media;
  both = w.both;
  before = w.before;
  recovered = w.recovered;
  works = w.works;
  why = tt;
  keeps = cut w.keeps;
})
  where
    cut : EachKeeps a.disk' marks ⊎ (IsCut s × Rose a.disk.faults a.disk'.faults) → EachKeeps a.disk' marks ⊎ (IsCut status.OutOfMemory × Rose a.disk.faults a.disk'.faults)
    cut (inl k) = inl k
    cut (inr r) = inr (tt, r.1)

not_refused : {T : Type 0} (words : List (List ℕ)) (a : Around T) → IsRefused words a status.Ok → ⊥
not_refused words a (inl (inl p)) = cc
not_refused words a (inl (inr (inl p))) = cc
not_refused words a (inl (inr (inr (inl p)))) = p.1
not_refused words a (inl (inr (inr (inr p)))) = p.2
not_refused words a (inr p) = p.1

to_print_fault : {T : Type 0} (Works : Way T) (words : List (List ℕ)) (a : Around T) (marks : List NoteMark) → ComesTo Works words a status.Ok marks → ComesTo Works words a status.PrintFault marks
to_print_fault Works words a marks (inl refusal) = absurd (not_refused words a refusal.0)
to_print_fault Works words a marks (inr w) = inr (record {
  notes = w.notes;
  media = w.media;
  both = w.both;
  before = w.before;
  recovered = w.recovered;
  works = w.works;
  why = w.why;
  keeps = kept w.keeps;
})
  where
    kept : EachKeeps a.disk' marks ⊎ (IsCut status.Ok × Rose a.disk.faults a.disk'.faults) → EachKeeps a.disk' marks ⊎ (IsCut status.PrintFault × Rose a.disk.faults a.disk'.faults)
    kept (inl k) = inl k
    kept (inr r) = absurd r.0

pub comes_printed : {T : Type 0} (Works : Way T) (words : List (List ℕ)) (a : Around T) (s ended : Status) (marks : List NoteMark) → ComesTo Works words a s marks → EndsPrinted s ended → ComesTo Works words a ended marks
comes_printed Works words a s ended marks comes (inl same) = subst (λ (t : Status). ComesTo Works words a t marks) (sym same) comes
comes_printed Works words a s ended marks comes (inr (inl spent)) = subst (λ (t : Status). ComesTo Works words a t marks) (sym spent) (to_spent Works words a s marks comes)
comes_printed Works words a s ended marks comes (inr (inr cut)) = subst (λ (t : Status). ComesTo Works words a t marks) (sym cut.1) (to_print_fault Works words a marks (subst (λ (t : Status). ComesTo Works words a t marks) cut.0 comes))

-- ---- words

pub usage_of : {T : Type 0} (Works : Way T) (words : List (List ℕ)) (a : Around T) (s : Status) (marks : List NoteMark) → ComesTo Works words a s marks → s ≡ status.Usage → alerts_plan_of words ≡ None
usage_of Works words a s marks comes is = go (subst (λ (t : Status). ComesTo Works words a t marks) is comes)
  where
    go : ComesTo Works words a status.Usage marks → alerts_plan_of words ≡ None
    go (inl ((inl (inl p)), _, _)) = p.1
    go (inl ((inl (inr (inl p))), _, _)) = cc
    go (inl ((inl (inr (inr (inl p)))), _, _)) = absurd p.1
    go (inl ((inl (inr (inr (inr p)))), _, _)) = absurd p.2
    go (inl ((inr p), _, _)) = absurd p.1
    go (inr w) = absurd w.why

some_not : (words : List (List ℕ)) → alerts_plan_of words ≡ None → IsSome (alerts_plan_of words) → ⊥
some_not words none is = absurd (true≢false (sym (subst IsSome none is)))

pub no_plan : {T : Type 0} (Works : Way T) (words : List (List ℕ)) (a : Around T) (s : Status) (marks : List NoteMark) → ComesTo Works words a s marks → alerts_plan_of words ≡ None → (s ≡ status.Usage) ⊎ (s ≡ status.OutOfMemory)
no_plan Works words a s marks (inl ((inl (inl p)), _, _)) none = inl p.0
no_plan Works words a s marks (inl ((inl (inr (inl p))), _, _)) none = inr p
no_plan Works words a s marks (inl ((inl (inr (inr (inl p)))), _, _)) none = absurd (some_not words none p.0)
no_plan Works words a s marks (inl ((inl (inr (inr (inr p)))), _, _)) none = absurd (some_not words none p.0)
no_plan Works words a s marks (inl ((inr p), _, _)) none = absurd (some_not words none (is_some_of (alerts_plan_of words) p.0.2.1.0 p.0.2.1.1))
no_plan Works words a s marks (inr w) none = absurd (some_not words none (is_some_of (alerts_plan_of words) w.both.1.0 w.both.1.1))
