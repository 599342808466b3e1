use Rattle.std.proofs.Common.{◌≡◌, ◌≢◌, ◌∙◌, ℕ, ◌+◌, ◌==◌, ◌++◌, ◌∷◌, [], List, true, false, Some, None, drop, sym, ap, rules}
use Rattle.std.specs.List.{list_any}
use Rattle.std.proofs.lemmas.List.{take_rest}
use Rattle.alert_marks.specs.Reading.{numbered_behind}
use Rattle.alert_marks.proofs.Readings.{passes_numbered, damaged_none, damaged_zero, damaged_met}
use Rattle.alert_marks.proofs.reading.Reader.pass_numbered.Goals as goal

pub returns-in-None-clause-damaged : goal.returns-in-None-clause-damaged
returns-in-None-clause-damaged c at e read is_open numbered =
    let bytes = c.args.bytes.now in let gate = c.args.self.now.gate in
    let there : numbered_behind (drop (gate + 1) bytes) ≡ None = ap numbered_behind (sym (take_rest bytes (gate + 1))) ∙ sym c.numbered_behind.ensures ∙ c.in-None.is in
    let same : gate ≡ at = cc in
    damaged_none bytes c.args.self.now read is_open numbered there at same

pub returns-then-mark-eq0-clause-damaged : goal.returns-then-mark-eq0-clause-damaged
returns-then-mark-eq0-clause-damaged c at e read is_open numbered =
    let bytes = c.args.bytes.now in let gate = c.args.self.now.gate in
    let there : numbered_behind (drop (gate + 1) bytes) ≡ Some c.in-Some.mark = ap numbered_behind (sym (take_rest bytes (gate + 1))) ∙ sym c.numbered_behind.ensures ∙ c.in-Some.is in
    let same : gate ≡ at = cc in
    let zero : c.in-Some.mark.note ≡ 0 = search rules in
    damaged_zero bytes c.args.self.now read is_open c.in-Some.mark numbered there zero at same

pub returns-then-not-branch-clause-damaged : goal.returns-then-not-branch-clause-damaged
returns-then-not-branch-clause-damaged c at e read is_open numbered =
    let bytes = c.args.bytes.now in let gate = c.args.self.now.gate in
    let there : numbered_behind (drop (gate + 1) bytes) ≡ Some c.in-Some.mark = ap numbered_behind (sym (take_rest bytes (gate + 1))) ∙ sym c.numbered_behind.ensures ∙ c.in-Some.is in
    let same : gate ≡ at = cc in
    let nonzero : 0 ≢ c.in-Some.mark.note = search rules in
    let met : list_any (λ (n : ℕ). n == c.in-Some.mark.note) c.args.self.now.seen ≡ true = search rules in
    damaged_met bytes c.args.self.now read is_open c.in-Some.mark numbered there nonzero met at same

pub returns-else-not-branch-clause-read : goal.returns-else-not-branch-clause-read
returns-else-not-branch-clause-read c read is_open numbered =
    let bytes = c.args.bytes.now in let gate = c.args.self.now.gate in
    let there : numbered_behind (drop (gate + 1) bytes) ≡ Some c.in-Some.mark = ap numbered_behind (sym (take_rest bytes (gate + 1))) ∙ sym c.numbered_behind.ensures ∙ c.in-Some.is in
    let nonzero : 0 ≢ c.in-Some.mark.note = search rules in
    let unmet : list_any (λ (n : ℕ). n == c.in-Some.mark.note) c.args.self.now.seen ≡ false = search rules in
    let list_is : c.add.new.self.list.items ≡ c.args.self.now.list.items ++ c.in-Some.mark ∷ [] = search rules in
    let seen_is : c.add.new.self.seen ≡ c.args.self.now.seen ++ c.in-Some.mark.note ∷ [] = search rules in
    passes_numbered bytes c.args.self.now read is_open c.in-Some.mark _ numbered there nonzero unmet (ap (λ (n : ℕ). n + 6) c.add.ensures.same.0) c.add.ensures.same.1 list_is seen_is
