use Rattle.std.proofs.Common.{◌≡◌, ◌-◌, [], ◌∷◌, false, Some, None, codes, ap, ap₂, ◌∙◌, arith}
use Rattle.std.proofs.lemmas.Result.{IfOk-weaker, on_err_weaker}
use Rattle.json.specs.Json.{parse_map}
use Rattle.json.specs.Reads.{token_of}
use Rattle.serde_json.specs.Data.{Data, Members, object}
use Rattle.sender_json.specs.Seen.{HoldsParts}
use Rattle.sender_json.specs.Tokens.{value_first, members_first}
use Rattle.sender_json.proofs.Firsts.{first-nothing, first-object, deep-object, kind_of, opens_object}
use Rattle.sender_json.proofs.Kept.{nothing-held}
use Rattle.sender_json.proofs.Turns.{on_err}
use Rattle.sender_json.proofs.element.read_parts.Goals as goal

pub returns-in_err-token-clause-err : goal.returns-in_err-token-clause-err
returns-in_err-token-clause-err c =
    let empty : c.args.reader.now ≡ [] = grind arith in
    on_err _ (ap (value_first c.args.depth) empty ∙ first-nothing c.args.depth)

pub returns-then-depth-eq0-clause-err : goal.returns-then-depth-eq0-clause-err
returns-then-depth-eq0-clause-err c =
    let first : c.args.reader.now ≡ token_of c.in_ok-token.token ∷ c.next.new.self = grind arith in
    let none : c.args.depth ≡ 0 = omega arith in
    ap₂ value_first none (first ∙ ap (λ k. token_of k ∷ c.next.new.self) c.in-BeginObject.is) ∙ deep-object c.next.new.self

pub returns-else-depth-eq0-clause-ok : goal.returns-else-depth-eq0-clause-ok
returns-else-depth-eq0-clause-ok c =
    let first : c.args.reader.now ≡ token_of c.in_ok-token.token ∷ c.next.new.self = grind arith in
    let opened : value_first c.args.depth c.args.reader.now ≡ parse_map object (members_first (c.args.depth - 1) c.next.new.self) =
    ap (value_first c.args.depth) (first ∙ ap (λ k. token_of k ∷ c.next.new.self) c.in-BeginObject.is) ∙ first-object c.args.depth c.next.new.self (omega arith) in
    IfOk-weaker c.read_members.result
    (λ parts. (ms : Members) × (members_first (c.args.depth - 1) c.next.new.self ≡ Some (ms, c.read_members.new.reader)) × HoldsParts parts (object ms))
    (λ parts. (d : Data) × (value_first c.args.depth c.args.reader.now ≡ Some (d, c.read_members.new.reader)) × HoldsParts parts d)
    (λ parts h. (object h.0, opened ∙ ap (parse_map object) h.1, h.2)) c.read_members.ensures.ok

pub returns-else-depth-eq0-clause-err : goal.returns-else-depth-eq0-clause-err
returns-else-depth-eq0-clause-err c =
    let first : c.args.reader.now ≡ token_of c.in_ok-token.token ∷ c.next.new.self = grind arith in
    let opened : value_first c.args.depth c.args.reader.now ≡ parse_map object (members_first (c.args.depth - 1) c.next.new.self) =
    ap (value_first c.args.depth) (first ∙ ap (λ k. token_of k ∷ c.next.new.self) c.in-BeginObject.is) ∙ first-object c.args.depth c.next.new.self (omega arith) in
    on_err_weaker {P = members_first (c.args.depth - 1) c.next.new.self ≡ None} {Q = value_first c.args.depth c.args.reader.now ≡ None} c.read_members.result (λ h. opened ∙ ap (parse_map object) h) c.read_members.ensures.err

pub returns-in_ok-pass_rest-in_default : goal.returns-in_ok-pass_rest-in_default
returns-in_ok-pass_rest-in_default c =
    let first : c.args.reader.now ≡ token_of c.in_ok-token.token ∷ c.next.new.self = grind arith in
    let done = c.in_ok-pass_rest-in_default.ensures in
    let other : opens_object (token_of c.in_ok-token.token) ≡ false = grind arith in
    let kind = (kind_of _ _ _ _ _ done.ok.1).0 ∙ other in
    let d = done.ok.0 in
    let no = c.no_parts.ensures in
    record {
      ok = (
        d,
        ap (value_first c.args.depth) first ∙ done.ok.1,
        record {
          host = nothing-held (codes "host") _ d no.host kind;
          key = nothing-held (codes "key") _ d no.key kind;
          value = nothing-held (codes "value") _ d no.value kind;
          clock = nothing-held (codes "clock") _ d no.clock kind;
          ns = nothing-held (codes "ns") _ d no.ns kind;
          state = nothing-held (codes "state") _ d no.state kind;
        },
      );
      shorter = rw first (omega (arith, done.shorter));
      err = tt;
    }
