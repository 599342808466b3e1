use Rattle.std.proofs.Common.{◌≡◌, ◌-◌, [], ◌∷◌, false, sym, ap, ap₂, ◌∙◌, arith}
use Rattle.json.specs.Json.{parse_map}
use Rattle.json.specs.Reads.{token_of}
use Rattle.serde_json.specs.Data.{object}
use Rattle.sender_json.specs.Requests.{gathered_by}
use Rattle.sender_json.specs.Tokens.{value_first, members_first}
use Rattle.sender_json.specs.declared.failed.ElementError.TheVariants.{NotJson}
use Rattle.sender_json.proofs.Firsts.{first-nothing, first-object, deep-object, kind_of, opens_object}
use Rattle.sender_json.proofs.Kept.{not_an_object}
use Rattle.sender_json.proofs.Turns.{on_error, passed_on}
use Rattle.sender_json.proofs.reading.read_value.Goals as goal

pub returns-in_err-token-clause-err : goal.returns-in_err-token-clause-err
returns-in_err-token-clause-err g c =
    let empty : c.args.reader.now ≡ [] = grind arith in
    on_error _ NotJson (ap (value_first c.args.depth) empty ∙ first-nothing c.args.depth)

pub returns-then-depth-eq0-clause-err : goal.returns-then-depth-eq0-clause-err
returns-then-depth-eq0-clause-err g c _ =
    let first : c.args.reader.now ≡ token_of c.in_ok-token.token ∷ c.next.new.self = grind arith in
    let none : c.args.depth ≡ 0 = omega arith in
    ap₂ value_first none (first ∙ ap (λ k. token_of k ∷ c.next.new.self) c.in-BeginObject.is) ∙ deep-object c.next.new.self

pub returns-in_ok-body_of-in-BeginObject-clause-ok : goal.returns-in_ok-body_of-in-BeginObject-clause-ok
returns-in_ok-body_of-in-BeginObject-clause-ok g c =
    let first : c.args.reader.now ≡ token_of c.in_ok-token.token ∷ c.next.new.self = grind arith in
    let opened : value_first c.args.depth c.args.reader.now ≡ parse_map object (members_first (c.args.depth - 1) c.next.new.self) =
    ap (value_first c.args.depth) (first ∙ ap (λ k. token_of k ∷ c.next.new.self) c.in-BeginObject.is) ∙ first-object c.args.depth c.next.new.self (omega arith) in
    let read = c.in_ok-top-in-BeginObject.ensures.ok in
    (object read.0, opened ∙ ap (parse_map object) read.1, c.in_ok-body_of-in-BeginObject.ensures (gathered_by (g.G.Gatherer.of c.args.gatherer.now) g.E.Element.of) (object read.0) read.2)

pub returns-in_err-top-in-BeginObject-clause-err : goal.returns-in_err-top-in-BeginObject-clause-err
returns-in_err-top-in-BeginObject-clause-err g c =
    let first : c.args.reader.now ≡ token_of c.in_ok-token.token ∷ c.next.new.self = grind arith in
    let opened : value_first c.args.depth c.args.reader.now ≡ parse_map object (members_first (c.args.depth - 1) c.next.new.self) =
    ap (value_first c.args.depth) (first ∙ ap (λ k. token_of k ∷ c.next.new.self) c.in-BeginObject.is) ∙ first-object c.args.depth c.next.new.self (omega arith) in
    passed_on _ NotJson c.in_err-top-in-BeginObject.field-0.0 c.from_residual-in_err-top-in-BeginObject.ensures.1 (λ e. opened ∙ ap (parse_map object) (c.in_err-top-in-BeginObject.ensures.err e))

pub returns-in_ok-pass_rest-in_default : goal.returns-in_ok-pass_rest-in_default
returns-in_ok-pass_rest-in_default g c =
    let first : c.args.reader.now ≡ token_of c.in_ok-token.token ∷ c.next.new.self = grind arith in
    let done = c.in_ok-pass_rest-in_default.ensures in
    let other : opens_object (token_of c.in_ok-token.token) ≡ false = grind arith in
    let kind = (kind_of _ _ _ _ _ done.ok.1).0 ∙ other in
    record {
      ok = (done.ok.0, ap (value_first c.args.depth) first ∙ done.ok.1, sym (not_an_object (gathered_by (g.G.Gatherer.of c.args.gatherer.now) g.E.Element.of) done.ok.0 kind));
      err = tt;
    }
