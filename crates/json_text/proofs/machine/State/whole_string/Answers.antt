use Rattle.std.proofs.Common.{rules, ap, ◌∙◌, ℕ, ◌+◌}
use Rattle.json_text.specs.Moves.{IsQuoted, behind_string}
use Rattle.json_text.specs.declared.place.Mode.{Mode}
use Rattle.json_text.proofs.Moving.{string_front}
use Rattle.json_text.proofs.Runs.{no_step}
use Rattle.json_text.proofs.machine.State.whole_string.Goals as goal

pub returns-then-not-takes_string-clause-goes : goal.returns-then-not-takes_string-clause-goes
returns-then-not-takes_string-clause-goes c = no_step _

pub returns-in-None-clause-goes : goal.returns-in-None-clause-goes
returns-in-None-clause-goes c = no_step _

pub returns-in-Some-clause-goes : goal.returns-in-Some-clause-goes
returns-in-Some-clause-goes c =
    let found : IsQuoted c.in-Some.text c.args.rest.now = search rules in
    string_front c.args.self.now.mode c.replace.new.dest c.in-Some.text c.args.self.now.stack c.args.rest.now (c.len-length.result + 2)
    (search rules) found (c.replace.ensures.after ∙ c.behind_string.ensures ∙ ap (λ (m : Mode). behind_string m c.in-Some.text) c.replace-mode.ensures.value) (ap (λ (n : ℕ). n + 2) c.len-length.ensures)
