-- Laws of counts.
use Rattle.std.proofs.Common.{◌≡◌, ◌≤◌, ℕ, ◌+◌, List, [], ◌++◌, length, refl, ap, ◌∙◌, arith, length-append, count_by}
use Rattle.std.proofs.lemmas.List.Sums.{sum_by-append}
use Rattle.std.specs.Prelude.{cond}
use Rattle.zbx_types.specs.declared.entries.Rec.{Rec}
use Rattle.event_text.specs.Lines.{lines_of}
use Rattle.book_opening.specs.declared.tally.Counted.{Counted}
use Rattle.book_opening.specs.declared.tally.Counted.TheVariants as kinds
use Rattle.book_opening.specs.declared.tally.Tally.{Tally}
use Rattle.book_opening.specs.Tally.{capped, is_counted, tally_of, tally_with}
use Rattle.book_opening.proofs.Growing.{lines_of-append}

capped_more : (a b c : ℕ) → c ≡ a + b → capped (capped a + b) ≡ capped c
capped_more a b c is = omega (arith, is)

counted : (kind : Counted) (rs more : List Rec) → capped (capped (count_by (is_counted kind) rs) + count_by (is_counted kind) more) ≡ capped (count_by (is_counted kind) (rs ++ more))
counted kind rs more = capped_more (count_by (is_counted kind) rs) (count_by (is_counted kind) more) (count_by (is_counted kind) (rs ++ more)) (sum_by-append (λ r. cond (is_counted kind r) 1 0) rs more)

sized : (before : ℕ) (rs more : List Rec) → capped (capped (before + length (lines_of rs)) + length (lines_of more)) ≡ capped (before + length (lines_of (rs ++ more)))
sized before rs more =
    let both : length (lines_of (rs ++ more)) ≡ length (lines_of rs) + length (lines_of more) = ap (length {A = ℕ}) (lines_of-append rs more) ∙ length-append (lines_of rs) (lines_of more) in
    capped_more (before + length (lines_of rs)) (length (lines_of more)) (before + length (lines_of (rs ++ more))) (omega (arith, both))

-- a tally of records, with more
pub tally_more : (before : ℕ) (rs more : List Rec) → tally_with (tally_of before rs) more ≡ tally_of before (rs ++ more)
unfolding tally_with tally_of
tally_more before rs more = rw (counted kinds.Problems rs more, counted kinds.Recoveries rs more, counted kinds.Messages rs more, sized before rs more) refl

-- nothing is counted yet
pub tally_none : (before : ℕ) (tally : Tally) → before ≤ 18446744073709551615 → tally ≡ record { problems = 0; recoveries = 0; messages = 0; bytes = before } → tally ≡ tally_of before []
unfolding tally_of
tally_none before tally small is = is ∙ ap (λ n. none n) (omega (arith, small))
  where
    none : ℕ → Tally
    none n = record { problems = 0; recoveries = 0; messages = 0; bytes = n }
