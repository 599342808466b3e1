-- Laws of logs with entries behind them, and of entries in the order of their numbers.
use Rattle.std.proofs.Common.{◌≡◌, List, [], ◌∷◌, ◌++◌, length, drop, map, refl, sym, ap, ap₂, ◌∙◌, subst, append_assoc, ℕ, ◌+◌}
use Rattle.std.proofs.lemmas.List.{reverse-append}
use mathlib.Core.List.{IsPrefix}
use Rattle.zbx_types.specs.Ids.{ids_from}
use Rattle.zbx_types.specs.declared.entries.Numbered.{Numbered}
use Rattle.entry_step.specs.Each.{Each}
use Rattle.entry_laws.specs.InForce.{IsPlain}
use Rattle.entry_step.specs.Log.{log_of, Suits}
use Rattle.entry_step.specs.Start.{Start}
use Rattle.book.specs.Entries.{IsWholeLog}

-- ---- the first entries of a whole log

numbers_front : (k : ℕ) (a b : List Numbered) → map (λ (e : Numbered). e.number) (a ++ b) ≡ ids_from k (a ++ b) → map (λ (e : Numbered). e.number) a ≡ ids_from k a
numbers_front k [] b are = refl
numbers_front k (x ∷ xs) b are =
    let first : x.number ≡ k = cc in
    let others : map (λ (e : Numbered). e.number) (xs ++ b) ≡ ids_from (k + 1) (xs ++ b) = cc in
    ap₂ (λ (n : ℕ) (l : List ℕ). n ∷ l) first (numbers_front (k + 1) xs b others)

suits_front : (start : Start) (newer log : List Numbered) → Suits start (newer ++ log) → Suits start log
suits_front start [] log suits = suits
suits_front start (e ∷ newer) log suits = suits_front start newer log suits.0

plain_front : (a b : List Numbered) → Each IsPlain (a ++ b) → Each IsPlain a
plain_front [] b plain = tt
plain_front (x ∷ xs) b plain = (plain.0, plain_front xs b plain.1)

-- are one
pub whole_front : (start : Start) (a b : List Numbered) → IsWholeLog start (a ++ b) → IsWholeLog start a
whole_front start a b whole = record {
  numbers = numbers_front (start.number + 1) a b whole.numbers;
  suits = suits_front start (log_of b) (log_of a) (subst (Suits start) (reverse-append a b) whole.suits);
  plain = plain_front a b whole.plain;
}

-- the next of entries that are to be sent
pub next_whole : (start : Start) (sent : List Numbered) (e : Numbered) (rest all : List Numbered) → sent ++ e ∷ rest ≡ all → IsWholeLog start all → IsWholeLog start (sent ++ e ∷ [])
next_whole start sent e rest all is whole =
    let one : (sent ++ e ∷ []) ++ rest ≡ all = append_assoc sent (e ∷ []) rest ∙ is in
    whole_front start (sent ++ e ∷ []) rest (subst (IsWholeLog start) (sym one) whole)

-- ---- what is sent

drop_seam : (a b : List Numbered) → drop (length a) (a ++ b) ≡ b
drop_seam [] b = refl
drop_seam (x ∷ xs) b = drop_seam xs b

-- the entries behind those that were there
pub behind_old : (old new : List Numbered) (n : ℕ) (more : List Numbered) → n ≡ length old → new ≡ old ++ more → drop n new ≡ more
behind_old old new n more count is = ap₂ (λ (k : ℕ) (l : List Numbered). drop k l) count is ∙ drop_seam old more

-- entries that are sent behind those that were sent, with these, are all that are there
pub behind_sent : (kept sent old new : List Numbered) (n : ℕ) (more : List Numbered) → kept ++ sent ≡ old → n ≡ length old → new ≡ old ++ more → kept ++ (sent ++ drop n new) ≡ new
behind_sent kept sent old new n more is count grown =
    ap (λ l. kept ++ (sent ++ l)) (behind_old old new n more count grown) ∙ sym (append_assoc kept sent more) ∙ ap (λ l. l ++ more) is ∙ sym grown

-- a front of what is to be sent leaves a front of all
pub sent_front : (kept sent all new : List Numbered) → IsPrefix sent all → kept ++ all ≡ new → IsPrefix (kept ++ sent) new
sent_front kept sent all new (rest, is) whole = (rest, append_assoc kept sent rest ∙ ap (λ l. kept ++ l) is ∙ whole)
