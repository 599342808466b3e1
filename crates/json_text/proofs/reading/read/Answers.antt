use Rattle.std.proofs.Common.{rules, sym, ◌≡◌, ℕ, subst, length}
use Rattle.byte_grammar.specs.Fault.{IsFault}
use Rattle.json_text.specs.Grammar.{IsText}
use Rattle.json_text.specs.Trees.{json_of}
use Rattle.json_text.proofs.Complete.{one_value}
use Rattle.json_text.proofs.Places.{reached_whole, fault_end, none_end, found_end, sane}
use Rattle.json_text.proofs.reading.read.Goals as goal

pub front-requires : goal.front-requires
front-requires c = c.start-state.ensures

pub returns-in-Ok-clause-none : goal.returns-in-Ok-clause-none
returns-in-Ok-clause-none c = λ at e t. c.in-Ok.ensures.none (search rules) t

pub returns-in-Ok-clause-place : goal.returns-in-Ok-clause-place
returns-in-Ok-clause-place c = λ at e.
    let f : c.in-Ok.count ≡ at = cc in
    subst (λ (i : ℕ). IsFault IsText c.args.bytes.now i) f (c.in-Ok.ensures.place (search rules))

pub end-requires : goal.end-requires
end-requires c =
    let all : c.in-Ok-2.count ≡ length c.args.bytes.now = search rules in
    sane c.args.bytes.now c.in-Ok-2.count c.front.new.state (reached_whole c.args.bytes.now c.in-Ok-2.count c.front.new.state all (c.in-Ok-2.ensures.whole all))

pub returns-in-Some-clause-found : goal.returns-in-Some-clause-found
returns-in-Some-clause-found c =
    let all : c.in-Ok-2.count ≡ length c.args.bytes.now = search rules in
    found_end c.args.bytes.now c.in-Ok-2.count c.front.new.state (json_of c.in-Some.tree) all (reached_whole c.args.bytes.now c.in-Ok-2.count c.front.new.state all (c.in-Ok-2.ensures.whole all)) (sym c.in-Some.ensures)

pub returns-in-Some-clause-only : goal.returns-in-Some-clause-only
returns-in-Some-clause-only c = λ j g.
    let all : c.in-Ok-2.count ≡ length c.args.bytes.now = search rules in
    one_value c.args.bytes.now j (json_of c.in-Some.tree) g
    (found_end c.args.bytes.now c.in-Ok-2.count c.front.new.state (json_of c.in-Some.tree) all (reached_whole c.args.bytes.now c.in-Ok-2.count c.front.new.state all (c.in-Ok-2.ensures.whole all)) (sym c.in-Some.ensures))

pub returns-in-None-clause-none : goal.returns-in-None-clause-none
returns-in-None-clause-none c = λ at e t.
    let all : c.in-Ok-2.count ≡ length c.args.bytes.now = search rules in
    none_end c.args.bytes.now c.in-Ok-2.count c.front.new.state all (reached_whole c.args.bytes.now c.in-Ok-2.count c.front.new.state all (c.in-Ok-2.ensures.whole all)) (sym c.in-None.ensures) t

pub returns-in-None-clause-place : goal.returns-in-None-clause-place
returns-in-None-clause-place c = λ at e.
    let f : c.in-Ok-2.count ≡ at = cc in
    let all : c.in-Ok-2.count ≡ length c.args.bytes.now = search rules in
    subst (λ (i : ℕ). IsFault IsText c.args.bytes.now i) f
    (fault_end c.args.bytes.now c.in-Ok-2.count c.front.new.state all (reached_whole c.args.bytes.now c.in-Ok-2.count c.front.new.state all (c.in-Ok-2.ensures.whole all)))
