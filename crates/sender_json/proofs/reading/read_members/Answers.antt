use Rattle.std.proofs.Common.{◌≡◌, ◌-◌, length, Some, refl, ◌∙◌, arith}
use Rattle.json.specs.Json.{read_key, value}
use Rattle.json.proofs.Grammar.{read_key-shorter}
use Rattle.serde_json.specs.Data.{no_members, put}
use Rattle.sender_json.proofs.Turns.{passed_on, on_error, members_read, members_refused, members_no_key, members_over}
use Rattle.sender_json.specs.declared.failed.ElementError.TheVariants.{NotJson}
use Rattle.sender_json.proofs.reading.read_members.Goals as goal

pub members-init : goal.members-init
members-init g c = record { turns = length c.args.reader.now; enough = omega arith; found = no_members; reads = refl; holds = record { request = refl; host = refl; elements = refl }; shorter = omega arith }

pub returns-in_err-name-clause-err : goal.returns-in_err-name-clause-err
returns-in_err-name-clause-err g c =
    let at = c.members.invariant in
    on_error _ NotJson (at.reads ∙ members_no_key (value c.args.depth) at.found at.turns c.members.reader c.in_err-name.ensures.value)

pub returns-in_err-top-clause-err : goal.returns-in_err-top-clause-err
returns-in_err-top-clause-err g c =
    let at = c.members.invariant in
    let k = c.in-Some.name.now in
    let s = c.next_key.new.self in
    let named : read_key c.members.reader ≡ Some (Some k, s) = grind arith in
    passed_on _ NotJson c.in_err-top.field-0.0 c.from_residual-in_err-top.ensures.1
    (λ e. at.reads ∙ members_refused (value c.args.depth) at.found at.turns k c.members.reader s named (c.in_err-top.ensures.err e))

pub members-preserved : goal.members-preserved
members-preserved g c =
    let at = c.members.invariant in
    let k = c.in-Some.name.now in
    let s = c.next_key.new.self in
    let named : read_key c.members.reader ≡ Some (Some k, s) = grind arith in
    let done = c.in_ok-top.ensures in
    let d = done.ok.0 in
    let r = c.with_member.new.reader in
    let less = read_key-shorter c.members.reader (Some k) s named in
    let lesser = done.shorter in
    record {
      turns = at.turns - 1;
      enough = omega (arith, at.enough);
      found = put k d at.found;
      reads = at.reads ∙ members_read (value c.args.depth) at.found at.turns k c.members.reader s r d (omega (arith, at.enough)) named done.ok.1;
      holds = done.ok.2 at.found at.holds;
      shorter = omega (arith, at.shorter);
    }

pub returns-clause-ok : goal.returns-clause-ok
returns-clause-ok g c =
    let at = c.members.invariant in
    (at.found, at.reads ∙ members_over (value c.args.depth) at.found at.turns c.members.reader c.next_key.new.self at.enough (grind arith), at.holds)
