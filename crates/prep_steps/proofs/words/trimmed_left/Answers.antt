use Rattle.std.proofs.Common.{◌≡◌, ◌∙◌, ◌++◌, sym, ap, length, false, true}
use Rattle.std.specs.Char.{encode_utf8}
use Rattle.prep_steps.specs.Words.{is_among, trimmed_left}
use Rattle.prep_steps.proofs.Trimming.{first_dropped, first_stays, none_left}
use Rattle.prep_steps.proofs.words.trimmed_left.Goals as goal

pub returns-in_default : goal.returns-in_default
returns-in_default c =
    let empty : length c.loop-first.rest.now ≡ 0 = ap length (sym c.chars-chars.ensures.rest) ∙ c.in_default.ensures.steps.0.0 in
    none_left c.args.set.now c.loop-first.rest.now empty ∙ c.loop-first.invariant.1

pub returns-then-not-is_among : goal.returns-then-not-is_among
returns-then-not-is_among c =
    let begins : c.loop-first.rest.now ≡ encode_utf8 c.in-Some.first ++ c.next.new.self.rest.now = sym c.chars-chars.ensures.rest ∙ c.in-Some.ensures.steps.0 in
    let stays : is_among c.args.set.now c.in-Some.first ≡ false = sym c.is_among.ensures ∙ c.if-not-is_among.true in
    first_stays c.args.set.now c.loop-first.rest.now _ c.in-Some.first c.loop-first.invariant.0 begins stays ∙ c.loop-first.invariant.1

pub loop-first-preserved : goal.loop-first-preserved
loop-first-preserved c =
    let begins : c.loop-first.rest.now ≡ encode_utf8 c.in-Some.first ++ c.next.new.self.rest.now = sym c.chars-chars.ensures.rest ∙ c.in-Some.ensures.steps.0 in
    let drops : is_among c.args.set.now c.in-Some.first ≡ true = sym c.is_among.ensures ∙ c.if-not-is_among.false in
    (c.as_str-rest.utf8, ap (trimmed_left c.args.set.now) c.as_str-rest.ensures ∙ first_dropped c.args.set.now c.loop-first.rest.now _ c.in-Some.first c.loop-first.invariant.0 begins drops ∙ c.loop-first.invariant.1)
