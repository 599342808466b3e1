use Rattle.std.proofs.Common.{◌≡◌, ◌-◌, length, Some, refl, ◌∙◌, arith}
use Rattle.json.specs.Json.{read_key, value}
use Rattle.json.proofs.Grammar.{read_key-shorter}
use Rattle.serde_json.specs.Data.{no_members, put}
use Rattle.sender_json.proofs.Turns.{on_err, members_read, members_refused, members_no_key, members_over}
use Rattle.sender_json.proofs.element.read_members.Goals as goal

pub members-init : goal.members-init
members-init c = record { turns = length c.args.reader.now; enough = omega arith; found = no_members; reads = refl; host = refl; key = refl; value = refl; clock = refl; ns = refl; state = refl; shorter = omega arith }

pub returns-in_err-name-clause-err : goal.returns-in_err-name-clause-err
returns-in_err-name-clause-err c =
    let at = c.members.invariant in
    on_err _ (at.reads ∙ members_no_key (value c.args.depth) at.found at.turns c.members.reader c.in_err-name.ensures.value)

pub returns-in_err-seen-clause-err : goal.returns-in_err-seen-clause-err
returns-in_err-seen-clause-err c =
    let at = c.members.invariant in
    let k = c.in-Some.name.now in
    let s = c.next_key.new.self in
    let named : read_key c.members.reader ≡ Some (Some k, s) = grind arith in
    on_err _ (at.reads ∙ members_refused (value c.args.depth) at.found at.turns k c.members.reader s named c.in_err-seen.ensures.err)

pub members-preserved : goal.members-preserved
members-preserved c =
    let at = c.members.invariant in
    let k = c.in-Some.name.now in
    let s = c.next_key.new.self in
    let named : read_key c.members.reader ≡ Some (Some k, s) = grind arith in
    let done = c.in_ok-seen.ensures in
    let d = done.ok.0 in
    let r = c.pass.new.reader in
    let less = read_key-shorter c.members.reader (Some k) s named in
    let lesser = done.shorter in
    record {
      turns = at.turns - 1;
      enough = omega (arith, at.enough);
      found = put k d at.found;
      reads = at.reads ∙ members_read (value c.args.depth) at.found at.turns k c.members.reader s r d (omega (arith, at.enough)) named done.ok.1;
      host = c.keep-host.ensures at.found d at.host done.ok.2;
      key = c.keep-key.ensures at.found d at.key done.ok.2;
      value = c.keep-value.ensures at.found d at.value done.ok.2;
      clock = c.keep-clock.ensures at.found d at.clock done.ok.2;
      ns = c.keep-ns.ensures at.found d at.ns done.ok.2;
      state = c.keep-state.ensures at.found d at.state done.ok.2;
      shorter = omega (arith, at.shorter);
    }

pub returns-clause-ok : goal.returns-clause-ok
returns-clause-ok c =
    let at = c.members.invariant in (
      at.found,
      at.reads ∙ members_over (value c.args.depth) at.found at.turns c.members.reader c.next_key.new.self at.enough (grind arith),
      record { host = at.host; key = at.key; value = at.value; clock = at.clock; ns = at.ns; state = at.state },
    )
