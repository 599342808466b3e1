use Rattle.std.proofs.Common.{rules, ◌≡◌, ◌∙◌, ◌++◌, sym, ap, subst, length, false, true}
use Rattle.std.specs.Char.{encode_utf8, IsScalar}
use Rattle.std.specs.Str.{IsUtf8}
use Rattle.prep_steps.specs.Words.{is_among, trimmed_right}
use Rattle.prep_steps.proofs.Trimming.{last_dropped, last_stays, none_right}
use Rattle.prep_steps.proofs.words.trimmed_right.Goals as goal

pub returns-in_default : goal.returns-in_default
returns-in_default c =
    let empty : length c.loop-last.rest.now ≡ 0 = ap length (sym c.chars-chars.ensures.rest) ∙ c.in_default.ensures.steps.0 in
    none_right c.args.set.now c.loop-last.rest.now empty ∙ c.loop-last.invariant.1

pub returns-then-not-is_among : goal.returns-then-not-is_among
returns-then-not-is_among c =
    let ends : c.loop-last.rest.now ≡ c.next_back.new.self.rest.now ++ encode_utf8 c.in-Some.last = sym c.chars-chars.ensures.rest ∙ c.in-Some.ensures.steps in
    let stays : is_among c.args.set.now c.in-Some.last ≡ false = sym c.is_among.ensures ∙ c.if-not-is_among.true in
    let scalar : IsScalar c.in-Some.last = search rules in
    let left : IsUtf8 c.next_back.new.self.rest.now = subst IsUtf8 c.as_str-front.ensures c.as_str-front.utf8 in
    last_stays c.args.set.now c.loop-last.rest.now c.next_back.new.self.rest.now c.in-Some.last c.loop-last.invariant.0 left scalar ends stays ∙ c.loop-last.invariant.1

pub loop-last-preserved : goal.loop-last-preserved
loop-last-preserved c =
    let ends : c.loop-last.rest.now ≡ c.next_back.new.self.rest.now ++ encode_utf8 c.in-Some.last = sym c.chars-chars.ensures.rest ∙ c.in-Some.ensures.steps in
    let drops : is_among c.args.set.now c.in-Some.last ≡ true = sym c.is_among.ensures ∙ c.if-not-is_among.false in
    let scalar : IsScalar c.in-Some.last = search rules in
    let left : IsUtf8 c.next_back.new.self.rest.now = subst IsUtf8 c.as_str-front.ensures c.as_str-front.utf8 in
    (c.as_str-front.utf8, ap (trimmed_right c.args.set.now) c.as_str-front.ensures ∙ last_dropped c.args.set.now c.loop-last.rest.now c.next_back.new.self.rest.now c.in-Some.last left scalar ends drops ∙ c.loop-last.invariant.1)
