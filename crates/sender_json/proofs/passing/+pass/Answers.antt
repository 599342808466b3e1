use Rattle.std.proofs.Common.{◌≡◌, ◌-◌, ◌<◌, [], ◌∷◌, length, Some, None, option_map, refl, ap, ap₂, ◌∙◌, arith}
use Rattle.json.specs.Token.{Token}
use Rattle.json.specs.Json.{parse_map, after_end_array, read_key, value}
use Rattle.json.specs.Reads.{token_of}
use Rattle.json.proofs.Grammar.{value_is, read_key-shorter}
use Rattle.serde_json.specs.Data.{null, boolean, number, string, array, object, item, no_items, no_members, put}
use Rattle.serde_json.specs.Read.{of_json, converted}
use Rattle.sender_json.specs.Tokens.{value_first}
use Rattle.sender_json.proofs.Firsts.{first-nothing, first-string, first-boolean, first-null, first-number, numbered, first-array, first-object, deep-array, deep-object, number_kept, number_none}
use Rattle.sender_json.proofs.Turns.{on_err, map_id, map_twice, items_read, items_refused, items_over, members_read, members_refused, members_no_key, members_over}
use Rattle.sender_json.proofs.passing.+pass.Goals as goal

pub pass-returns-in_err-token-clause-err : goal.pass-returns-in_err-token-clause-err
pass-returns-in_err-token-clause-err t c =
    let empty : c.args.reader.now ≡ [] = grind arith in
    on_err _ (ap (value_first c.args.depth) empty ∙ first-nothing c.args.depth)

pub pass_rest-returns-then-depth-eq0-clause-err : goal.pass_rest-returns-then-depth-eq0-clause-err
pass_rest-returns-then-depth-eq0-clause-err t c =
    let none : c.args.depth ≡ 0 = omega arith in
    ap₂ value_first none (ap (λ k. token_of k ∷ c.args.reader.now) c.in-BeginArray.is) ∙ deep-array c.args.reader.now

pub pass_rest-returns-then-depth-eq0-2-clause-err : goal.pass_rest-returns-then-depth-eq0-2-clause-err
pass_rest-returns-then-depth-eq0-2-clause-err t c =
    let none : c.args.depth ≡ 0 = omega arith in
    ap₂ value_first none (ap (λ k. token_of k ∷ c.args.reader.now) c.in-BeginObject.is) ∙ deep-object c.args.reader.now

pub pass_rest-returns-in-String-clause-ok : goal.pass_rest-returns-in-String-clause-ok
pass_rest-returns-in-String-clause-ok t c =
    let is : token_of c.args.token ≡ Token.string c.in-String.text.now = grind arith in
    (string c.in-String.text.now, ap (λ k. value_first c.args.depth (k ∷ c.args.reader.now)) is ∙ first-string c.args.depth _ _, refl)

pub pass_rest-returns-in-Bool-clause-ok : goal.pass_rest-returns-in-Bool-clause-ok
pass_rest-returns-in-Bool-clause-ok t c =
    let is : token_of c.args.token ≡ Token.boolean c.in-Bool.field-0 = grind arith in
    (boolean c.in-Bool.field-0, ap (λ k. value_first c.args.depth (k ∷ c.args.reader.now)) is ∙ first-boolean c.args.depth _ _, refl)

pub pass_rest-returns-in-Null-clause-ok : goal.pass_rest-returns-in-Null-clause-ok
pass_rest-returns-in-Null-clause-ok t c =
    let is : token_of c.args.token ≡ Token.null = grind arith in
    (null, ap (λ k. value_first c.args.depth (k ∷ c.args.reader.now)) is ∙ first-null c.args.depth _, refl)

pub pass_rest-returns-in-Some-clause-ok : goal.pass_rest-returns-in-Some-clause-ok
pass_rest-returns-in-Some-clause-ok t c =
    let is : token_of c.args.token ≡ Token.number c.in-Number.text.now = grind arith in
    let kept = number_kept _ _ c.in-Some.ensures in
    (number kept.0, ap (λ k. value_first c.args.depth (k ∷ c.args.reader.now)) is ∙ first-number c.args.depth _ _ ∙ ap (option_map (numbered c.args.reader.now)) kept.1, kept.2)

pub pass_rest-returns-in-None-clause-err : goal.pass_rest-returns-in-None-clause-err
pass_rest-returns-in-None-clause-err t c =
    let is : token_of c.args.token ≡ Token.number c.in-Number.text.now = grind arith in
    ap (λ k. value_first c.args.depth (k ∷ c.args.reader.now)) is ∙ first-number c.args.depth _ _ ∙ ap (option_map (numbered c.args.reader.now)) (number_none _ c.in-None.ensures)

pub pass_rest-returns-in-EndObject-clause-err : goal.pass_rest-returns-in-EndObject-clause-err
pass_rest-returns-in-EndObject-clause-err t c =
    let none : value c.args.depth (token_of c.args.token ∷ c.args.reader.now) ≡ None = rw (value_is c.args.depth (token_of c.args.token ∷ c.args.reader.now)) (grind arith) in
    ap (converted of_json) none

pub pass_rest-returns-in_ok-pass_items-in-BeginArray-clause-ok : goal.pass_rest-returns-in_ok-pass_items-in-BeginArray-clause-ok
pass_rest-returns-in_ok-pass_items-in-BeginArray-clause-ok t c =
    let read = c.in_ok-pass_items-in-BeginArray.ensures.ok in
    let opened = ap (λ k. value_first c.args.depth (token_of k ∷ c.args.reader.now)) c.in-BeginArray.is ∙ first-array c.args.depth c.args.reader.now (omega arith) in
    (array read.0, opened ∙ ap (parse_map array) read.1, refl)

pub pass_rest-returns-in_err-pass_items-in-BeginArray-clause-err : goal.pass_rest-returns-in_err-pass_items-in-BeginArray-clause-err
pass_rest-returns-in_err-pass_items-in-BeginArray-clause-err t c =
    let opened = ap (λ k. value_first c.args.depth (token_of k ∷ c.args.reader.now)) c.in-BeginArray.is ∙ first-array c.args.depth c.args.reader.now (omega arith) in
    on_err _ (opened ∙ ap (parse_map array) c.in_err-pass_items-in-BeginArray.ensures.err)

pub pass_rest-returns-in_ok-pass_members-in-BeginObject-clause-ok : goal.pass_rest-returns-in_ok-pass_members-in-BeginObject-clause-ok
pass_rest-returns-in_ok-pass_members-in-BeginObject-clause-ok t c =
    let read = c.in_ok-pass_members-in-BeginObject.ensures.ok in
    let opened = ap (λ k. value_first c.args.depth (token_of k ∷ c.args.reader.now)) c.in-BeginObject.is ∙ first-object c.args.depth c.args.reader.now (omega arith) in
    (object read.0, opened ∙ ap (parse_map object) read.1, refl)

pub pass_rest-returns-in_err-pass_members-in-BeginObject-clause-err : goal.pass_rest-returns-in_err-pass_members-in-BeginObject-clause-err
pass_rest-returns-in_err-pass_members-in-BeginObject-clause-err t c =
    let opened = ap (λ k. value_first c.args.depth (token_of k ∷ c.args.reader.now)) c.in-BeginObject.is ∙ first-object c.args.depth c.args.reader.now (omega arith) in
    on_err _ (opened ∙ ap (parse_map object) c.in_err-pass_members-in-BeginObject.ensures.err)

pub pass_items-items-init : goal.pass_items-items-init
pass_items-items-init t c = record { turns = length c.args.reader.now; enough = omega arith; before = λ a. a; reads = map_id _; shorter = omega arith }

pub pass_items-items-preserved : goal.pass_items-items-preserved
pass_items-items-preserved t c =
    let at = c.items.invariant in
    let going : (after_end_array c.items.reader ≡ None) × (c.take_end_array.new.self ≡ c.items.reader) = grind arith in
    let done = c.in_ok-pass.ensures in
    let r = c.pass.new.reader in
    let less : length r < length c.items.reader = rw (← going.1) done.shorter in
    let turn = items_read (value c.args.depth) at.turns c.items.reader r done.ok.0 (omega (arith, at.enough)) going.0 (rw (← going.1) done.ok.1) in
    record {
      turns = at.turns - 1;
      enough = omega (arith, at.enough);
      before = λ a. at.before (item done.ok.0 a);
      reads = at.reads ∙ ap (parse_map at.before) turn ∙ map_twice at.before (item done.ok.0) _;
      shorter = omega (arith, at.shorter);
    }

pub pass_items-returns-in_err-pass-clause-err : goal.pass_items-returns-in_err-pass-clause-err
pass_items-returns-in_err-pass-clause-err t c =
    let at = c.items.invariant in
    let going : (after_end_array c.items.reader ≡ None) × (c.take_end_array.new.self ≡ c.items.reader) = grind arith in
    on_err _ (at.reads ∙ ap (parse_map at.before) (items_refused (value c.args.depth) at.turns c.items.reader going.0 (rw (← going.1) c.in_err-pass.ensures.err)))

pub pass_items-returns-clause-ok : goal.pass_items-returns-clause-ok
pass_items-returns-clause-ok t c =
    let at = c.items.invariant in
    (at.before no_items, at.reads ∙ ap (parse_map at.before) (items_over (value c.args.depth) at.turns c.items.reader c.take_end_array.new.self at.enough (grind arith)))

pub pass_members-members-init : goal.pass_members-members-init
pass_members-members-init t c = record { turns = length c.args.reader.now; enough = omega arith; found = no_members; reads = refl; shorter = omega arith }

pub pass_members-returns-in_err-next_key-clause-err : goal.pass_members-returns-in_err-next_key-clause-err
pass_members-returns-in_err-next_key-clause-err t c =
    let at = c.members.invariant in
    on_err _ (at.reads ∙ members_no_key (value c.args.depth) at.found at.turns c.members.reader c.in_err-next_key.ensures.value)

pub pass_members-members-preserved : goal.pass_members-members-preserved
pass_members-members-preserved t c =
    let at = c.members.invariant in
    let k = c.in-Some.field-0.now in
    let s = c.next_key.new.self in
    let named : read_key c.members.reader ≡ Some (Some k, s) = grind arith in
    let done = c.in_ok-pass.ensures in
    let r = c.pass.new.reader in
    let less = read_key-shorter c.members.reader (Some k) s named in
    let lesser = done.shorter in
    record {
      turns = at.turns - 1;
      enough = omega (arith, at.enough);
      found = put k done.ok.0 at.found;
      reads = at.reads ∙ members_read (value c.args.depth) at.found at.turns k c.members.reader s r done.ok.0 (omega (arith, at.enough)) named done.ok.1;
      shorter = omega (arith, at.shorter);
    }

pub pass_members-returns-in_err-pass-clause-err : goal.pass_members-returns-in_err-pass-clause-err
pass_members-returns-in_err-pass-clause-err t c =
    let at = c.members.invariant in
    let k = c.in-Some.field-0.now in
    let s = c.next_key.new.self in
    let named : read_key c.members.reader ≡ Some (Some k, s) = grind arith in
    on_err _ (at.reads ∙ members_refused (value c.args.depth) at.found at.turns k c.members.reader s named c.in_err-pass.ensures.err)

pub pass_members-returns-clause-ok : goal.pass_members-returns-clause-ok
pass_members-returns-clause-ok t c =
    let at = c.members.invariant in
    (at.found, at.reads ∙ members_over (value c.args.depth) at.found at.turns c.members.reader c.next_key.new.self at.enough (grind arith))
