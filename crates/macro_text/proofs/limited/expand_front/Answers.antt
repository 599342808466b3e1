use Rattle.std.proofs.Common.{◌≡◌, ◌++◌, ◌+◌, ◌≤◌, ◌∙◌, ap, sym, subst, [], length, arith}
use Rattle.std.proofs.lemmas.Grind.{common_steps}
use Rattle.std.proofs.lemmas.List.{append-nil, append_assoc}
use Rattle.macro_text.specs.Expanded.{expanded}
use Rattle.macro_text.specs.Limited.{whole_front}
use Rattle.macro_text.proofs.Fronts.{none_left}
use Rattle.macro_text.proofs.Wholes.{whole_within}
use Rattle.macro_text.proofs.limited.expand_front.Goals as goal

pub returns-then-room-front : goal.returns-then-room-front
returns-then-room-front c =
    let made = c.loop-rest.made in
    let front = c.replace_front.result.0.now in
    let behind = expanded c.args.macros.now c.replace_front.result.1.now in
    let all : made ++ front ++ behind ≡ expanded c.args.macros.now c.args.text.now =
    append_assoc made front behind ∙ ap (λ u. made ++ u) (sym c.replace_front.ensures.front) ∙ c.loop-rest.invariant.so_far in
    record {
      value = c.in_ok-push_str.ensures.ok
          ∙ c.whole_characters.ensures made behind c.args.most (omega (arith, c.loop-rest.invariant.within, c.len.ensures))
          ∙ ap (whole_front c.args.most) all;
    }

pub returns : goal.returns
returns c =
    let empty : length c.loop-rest.rest.now ≡ 0 = grind (arith, common_steps) in
    let left : expanded c.args.macros.now c.loop-rest.rest.now ≡ [] = none_left c.args.macros.now c.loop-rest.rest.now empty in
    let all : c.loop-rest.made ≡ expanded c.args.macros.now c.args.text.now =
    sym (append-nil c.loop-rest.made) ∙ ap (λ u. c.loop-rest.made ++ u) (sym left) ∙ c.loop-rest.invariant.so_far in
    record { value = whole_within c.loop-rest.made c.args.most c.loop-rest.invariant.within ∙ ap (whole_front c.args.most) all }
