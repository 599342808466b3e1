-- Batches that have ended.
use Rattle.std.proofs.Common.{◌≡◌, ◌∙◌, ℕ, Bool, true, false, cond, List, length, map, get_or, reverse, refl, sym, ap, arith}
use Rattle.std.specs.Prelude.{nat_lt, ◌-◌, ◌↔◌}
use Rattle.std.proofs.Math.ListN.{get_or-map}
use Rattle.std.proofs.lemmas.List.{length-map}
use mathlib.Core.Path.{fun_ext}
use Rattle.zbx_types.specs.declared.entries.Numbered.{Numbered}
use Rattle.syncer_gate.specs.declared.marks.Mark.{Mark}
use Rattle.syncer_gate.specs.declared.marks.Mark.TheVariants.{Pending, Applied, Taken}
use Rattle.syncer_gate.specs.Marks.{is_taken, ended, reopened}
use Rattle.syncer_gate.specs.Gate.{Gate, mark_of, same_numbers, with_ended}
use Rattle.syncer_gate.specs.Window.{AreDone, AreKept}
use Rattle.syncer_gate.specs.Core.{Core, core_of}
use Rattle.syncer_gate.proofs.MarkLemmas.{same_is, is_same}

get_ended : (id : ℕ) (to : Mark) (marks : List Mark) (i : ℕ) → get_or (map (ended id to) marks) i Pending ≡ ended id to (get_or marks i Pending)
get_ended id to marks i = get_or-map (ended id to) marks i Pending

still_taken : (id x : ℕ) (to m : Mark) → ((y : ℕ) → to ≡ Taken y → ⊥) → ended id to m ≡ Taken x → m ≡ Taken x
still_taken id x to m other = go (is_taken id m)
  where
    go : (b : Bool) → cond b to m ≡ Taken x → m ≡ Taken x
    go true e = absurd (other x e)
    go false e = e

-- all stays in order where a batch's entries are no batch's then
pub kept_ended : (first next low high id : ℕ) (to : Mark) (marks : List Mark) → ((y : ℕ) → to ≡ Taken y → ⊥) → AreKept first next low high marks → AreKept first next low high (map (ended id to) marks)
kept_ended first next low high id to marks other kept =
    let size : length (map (ended id to) marks) ≡ length marks = length-map marks (ended id to) in
    record {
      numbers = omega (arith, size, kept.numbers);
      inside = omega (arith, size, kept.inside);
      done = λ i l. get_ended id to marks i ∙ ap (ended id to) (kept.done i l);
      waiting = λ i l. get_ended id to marks i ∙ ap (ended id to) (kept.waiting i l);
      below = λ i x e. kept.below i x (still_taken id x to (get_or marks i Pending) other (sym (get_ended id to marks i) ∙ e));
    }

pub kept_from : (first next low more high : ℕ) (marks : List Mark) → AreKept first next low high marks → AreDone more marks → AreKept first next more high marks
kept_from first next low more high marks kept done = record { numbers = kept.numbers; inside = kept.inside; done = done; waiting = kept.waiting; below = kept.below }

-- it is a step of the core
pub core_ended : (entries : List Numbered) (before after : Gate) (id : ℕ) (to : Mark) → after ≡ with_ended id to before
    → core_of entries after ≡ record { log = reverse entries; status = λ n. ended id to (mark_of before n) }
core_ended entries before after id to e = ap (core_of entries) e ∙ ap over (fun_ext status)
  where
    over : (ℕ → Mark) → Core
    over s = record { log = reverse entries; status = s }

    go : (b : Bool) (k : ℕ) → cond b Pending (get_or (map (ended id to) before.marks) k Pending) ≡ ended id to (cond b Pending (get_or before.marks k Pending))
    go true k = refl
    go false k = get_ended id to before.marks k

    status : (n : ℕ) → mark_of (with_ended id to before) n ≡ ended id to (mark_of before n)
    status n = go (nat_lt n before.first) (n - before.first)

pub not_both : (b : Bool) → b ≡ true → b ≡ false → ⊥
not_both b t f = cc

pub not_same : (xs ys : List ℕ) → same_numbers xs ys ≡ false → xs ≡ ys → ⊥
not_same xs ys e q = let t : same_numbers xs ys ≡ true = sym (ap (same_numbers xs) q) ∙ is_same xs in cc

-- a batch is open exactly where its numbers are those that it holds
pub same_tells : (b : Bool) (xs ys : List ℕ) → b ≡ same_numbers xs ys → (b ≡ true) ↔ (xs ≡ ys)
same_tells b xs ys e = (λ t. same_is xs ys (sym e ∙ t), λ q. e ∙ ap (same_numbers xs) (sym q) ∙ is_same xs)

-- all stays in order where all batches end
reopened_at : (marks : List Mark) (i : ℕ) → get_or (map reopened marks) i Pending ≡ reopened (get_or marks i Pending)
reopened_at marks i = get_or-map reopened marks i Pending

never_taken : (x : ℕ) (m : Mark) → reopened m ≡ Taken x → ⊥
never_taken x Pending e = let q : Pending ≡ Taken x = e in cc
never_taken x Applied e = let q : Applied ≡ Taken x = e in cc
never_taken x (Taken batch) e = let q : Pending ≡ Taken x = e in cc

pub kept_reopened : (first next low high : ℕ) (marks : List Mark) → AreKept first next low high marks → AreKept first next low high (map reopened marks)
kept_reopened first next low high marks kept =
    let size : length (map reopened marks) ≡ length marks = length-map marks reopened in
    record {
      numbers = omega (arith, size, kept.numbers);
      inside = omega (arith, size, kept.inside);
      done = λ i l. reopened_at marks i ∙ ap reopened (kept.done i l);
      waiting = λ i l. reopened_at marks i ∙ ap reopened (kept.waiting i l);
      below = λ i x e. absurd (never_taken x (get_or marks i Pending) (sym (reopened_at marks i) ∙ e));
    }
