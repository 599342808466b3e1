use Rattle.std.proofs.Common.{arith, rules, ◌≡◌, length}
use Rattle.json_text.specs.Machine.{step, start}
use Rattle.byte_grammar.proofs.Faults.{whole_text}
use Rattle.json_text.proofs.Places.{left, reached_start, reached_on, fault_stop, none_stop, sane}
use Rattle.json_text.proofs.reading.front.Goals as goal

pub loop-count-init : goal.loop-count-init
loop-count-init c = record { within = omega arith; reached = rw c.requires (reached_start c.args.bytes.now) }

pub advance-requires-clause-sane : goal.advance-requires-clause-sane
advance-requires-clause-sane c = sane c.args.bytes.now c.loop-count.count c.loop-count.state c.loop-count.invariant.reached

pub returns-then-taken-eq0-clause-none : goal.returns-then-taken-eq0-clause-none
returns-then-taken-eq0-clause-none c = λ h t.
    let stops = c.in_ok-taken.ensures.stops (search rules) in
    none_stop c.args.bytes.now c.loop-count.count c.loop-count.state (search rules) c.loop-count.invariant.reached (rw (left c.args.bytes.now c.loop-count.count) at stops) t

pub returns-then-taken-eq0-clause-place : goal.returns-then-taken-eq0-clause-place
returns-then-taken-eq0-clause-place c = λ h.
    let stops = c.in_ok-taken.ensures.stops (search rules) in
    fault_stop c.args.bytes.now c.loop-count.count c.loop-count.state (search rules) c.loop-count.invariant.reached (rw (left c.args.bytes.now c.loop-count.count) at stops)

pub loop-count-preserved : goal.loop-count-preserved
loop-count-preserved c =
    let goes = c.in_ok-taken.ensures.goes (search rules) in
    record {
      within = search rules;
      reached = reached_on c.args.bytes.now c.loop-count.count c.in_ok-taken.taken c.loop-count.state c.advance.new.self c.loop-count.invariant.reached (rw (left c.args.bytes.now c.loop-count.count) at goes);
    }

pub returns-clause-whole : goal.returns-clause-whole
returns-clause-whole c =
    let all : c.loop-count.count ≡ length c.args.bytes.now = search rules in
    λ h. whole_text step start c.args.bytes.now c.loop-count.count c.loop-count.state all c.loop-count.invariant.reached
