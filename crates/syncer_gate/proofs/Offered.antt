-- Entries that are offered.
use Rattle.std.proofs.Common.{◌≡◌, ◌∙◌, ℕ, zero, suc, Bool, true, false, cond, List, [], ◌∷◌, ◌++◌, get_or, reverse, refl, ap, append_assoc}
use Rattle.std.specs.Prelude.{nat_lt, replicate, ◌-◌}
use Rattle.std.proofs.lemmas.List.{reverse-append}
use mathlib.Core.List.{reverse-cons}
use mathlib.Core.Path.{fun_ext}
use Rattle.zbx_types.specs.declared.entries.Numbered.{Numbered}
use Rattle.syncer_gate.specs.declared.marks.Mark.{Mark}
use Rattle.syncer_gate.specs.declared.marks.Mark.TheVariants.{Pending}
use Rattle.syncer_gate.specs.Gate.{Gate, mark_of}
use Rattle.syncer_gate.specs.Core.{Core, offered, core_of}

pending_at : (count i : ℕ) → get_or (replicate count Pending) i Pending ≡ Pending
pending_at zero i = refl
pending_at (suc count) zero = refl
pending_at (suc count) (suc i) = pending_at count i

more_at : (count i : ℕ) (marks : List Mark) → get_or (marks ++ replicate count Pending) i Pending ≡ get_or marks i Pending
more_at count i [] = pending_at count i
more_at count zero (m ∷ marks) = refl
more_at count (suc i) (m ∷ marks) = more_at count i marks

over : (ℕ → Mark) → List Numbered → Core
over status log = record { log = log; status = status }

all_offered : (more log : List Numbered) (status : ℕ → Mark) → record { log = reverse more ++ log; status = status } ≡ offered more (record { log = log; status = status })
unfolding over
all_offered [] log status = refl
all_offered (e ∷ more) log status = ap (over status) (ap (λ es. es ++ log) (reverse-cons e more) ∙ append_assoc (reverse more) (e ∷ []) log) ∙ all_offered more (e ∷ log) status

-- offers are steps of the core
pub core_offered : (before after : Gate) (count : ℕ) (entries more : List Numbered) → after ≡ record before { marks = before.marks ++ replicate count Pending } → core_of (entries ++ more) after ≡ offered more (core_of entries before)
unfolding over
core_offered before after count entries more is =
    ap (core_of (entries ++ more)) is
    ∙ ap (λ status. over status (reverse (entries ++ more))) (fun_ext same)
    ∙ ap (over (mark_of before)) (reverse-append entries more)
    ∙ all_offered more (reverse entries) (mark_of before)
  where
    go : (b : Bool) (i : ℕ) → cond b Pending (get_or (before.marks ++ replicate count Pending) i Pending) ≡ cond b Pending (get_or before.marks i Pending)
    go true i = refl
    go false i = more_at count i before.marks

    same : (n : ℕ) → mark_of (record before { marks = before.marks ++ replicate count Pending }) n ≡ mark_of before n
    same n = go (nat_lt n before.first) (n - before.first)
