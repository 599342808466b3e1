use Rattle.std.proofs.Common.{rules, ◌≡◌, ◌<◌, ◌++◌, ◌-◌, ◌^◌, drop, sym, ap, ap₂, ◌∙◌, subst}
use Rattle.std.specs.Prelude.{unwrap_or}
use Rattle.event_text.specs.Lines.{lines_of}
use Rattle.book_opening.specs.Tally.{tally_with}
use Rattle.book_opening.specs.Opening.{IsCompared}
use Rattle.book_opening.proofs.Counting.{tally_more}
use Rattle.book_opening.proofs.Growing.{lines_of-append, tally_size}
use Rattle.book_opening.proofs.Comparing.{missing_more}
use Rattle.book_opening.proofs.opening.compare.Goals as goal

pub returns-clause-lines : goal.returns-clause-lines
returns-clause-lines g c = λ before rs so_far.
    let outbox = g.O.Sink.tells c.args.outbox.now in
    let records = c.args.records.now in
    let all = lines_of rs in
    let seen = c.args.so_far.now.tally.bytes in
    let found = c.in_ok-so_far.field-0 in
    let counted = tally_size before rs c.args.so_far.now.tally so_far.tally in
    let lines : c.as_slice.result.now ≡ lines_of records = search rules in
    let lines2 : c.as_slice-2.result.now ≡ lines_of records = search rules in
    let small : c.held.result < 2 ^ 64 = search rules in
    let size = c.held.ensures.size ∙ c.in_ok-so_far.ensures.left.size in
    let first : c.saturating_sub.result ≡ unwrap_or found outbox.held - seen = c.saturating_sub.ensures ∙ ap (λ n. n - seen) (c.unwrap_or-from.ensures ∙ ap (unwrap_or found) size) in
    let rest : c.behind.result.now ≡ drop (unwrap_or found outbox.held - seen) (lines_of records) = c.behind.ensures ∙ ap₂ (λ n l. drop n l) first lines2 in
    let both = sym (lines_of-append rs records) in
    record {
      tally = c.in_ok-add_lines.ensures.tally ∙ ap (λ t. tally_with t records) so_far.tally ∙ tally_more before rs records;
      compared = subst (λ l. IsCompared before outbox l found) (ap (λ l. all ++ l) lines ∙ both) (c.in_ok-so_far.ensures.other before all counted so_far.compared);
      missing = c.in_ok-extend.ensures.ok ∙ ap₂ (λ a b. a ++ b) so_far.missing rest
          ∙ sym (missing_more before outbox.held seen all (lines_of records) c.args.so_far.now.other found (subst (λ n. n < 2 ^ 64) size small) counted so_far.compared.within c.in_ok-so_far.ensures.first c.in_ok-so_far.ensures.still)
          ∙ ap (drop (unwrap_or found outbox.held - before)) both;
    }
