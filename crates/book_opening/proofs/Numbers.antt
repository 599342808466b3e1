-- Numbers of the entries of a whole log.
use Rattle.std.proofs.Common.{◌≡◌, ◌+◌, ℕ, List, [], ◌∷◌, ◌++◌, length, ap, ◌∙◌, arith}
use Rattle.std.proofs.lemmas.List.{length-reverse}
use Rattle.zbx_types.specs.declared.conf.Conf.{Conf}
use Rattle.zbx_types.specs.declared.entries.Numbered.{Numbered}
use Rattle.entry_laws.specs.InForce.{IsFull, behind_all}
use Rattle.entry_step.specs.Log.{log_of, last_number}
use Rattle.entry_step.specs.Start.{Start}
use Rattle.entry_laws.proofs.InForce.{number_behind_all}

pub full_behind : (start : Start) (newer log : List Numbered) → IsFull start (newer ++ log) → IsFull start log
full_behind start [] log full = full
full_behind start (e ∷ newer) log full = full_behind start newer log full.0

pub last_of_full : (start : Start) (log : List Numbered) → IsFull start log → last_number start log ≡ start.number + length log
last_of_full start [] full = omega arith
last_of_full start (e ∷ log) full = let n = full.1 in omega arith

-- what a full log leaves has the number of its last entry
pub number_left : (flat : List ℕ → Conf) (from : Start) (kept : List Numbered) (start : Start) → start ≡ behind_all flat from (log_of kept) → IsFull from (log_of kept) → start.number ≡ from.number + length kept
number_left flat from kept start is full =
    ap (λ (s : Start). s.number) is ∙ number_behind_all flat from (log_of kept) ∙ last_of_full from (log_of kept) full ∙ ap (λ n. from.number + n) (length-reverse kept)
