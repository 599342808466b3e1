use Rattle.std.proofs.Common.{◌≡◌, ◌-◌, [], ◌∷◌, false, Some, option_map, sym, ap, ap₂, ◌∙◌, arith}
use Rattle.json.specs.Json.{parse_map}
use Rattle.json.specs.Reads.{token_of}
use Rattle.serde_json.specs.Data.{array}
use Rattle.sender_json.specs.Requests.{gathered_by}
use Rattle.sender_json.specs.Tokens.{value_first, items_first}
use Rattle.sender_json.specs.declared.failed.ElementError.TheVariants.{NotJson}
use Rattle.sender_json.proofs.Firsts.{first-nothing, first-array, deep-array, kind_of, opens_array}
use Rattle.sender_json.proofs.Kept.{no_items-as_array}
use Rattle.sender_json.proofs.Turns.{on_error, passed_on}
use Rattle.sender_json.proofs.reading.read_data.Goals as goal

pub returns-in_err-token-clause-err : goal.returns-in_err-token-clause-err
returns-in_err-token-clause-err g c =
    let empty : c.args.reader.now ≡ [] = grind arith in
    on_error _ NotJson (ap (value_first c.args.depth) empty ∙ first-nothing c.args.depth)

pub returns-then-depth-eq0-clause-err : goal.returns-then-depth-eq0-clause-err
returns-then-depth-eq0-clause-err g c _ =
    let first : c.args.reader.now ≡ token_of c.in_ok-token.token ∷ c.next.new.self = grind arith in
    let none : c.args.depth ≡ 0 = omega arith in
    ap₂ value_first none (first ∙ ap (λ k. token_of k ∷ c.next.new.self) c.in-BeginArray.is) ∙ deep-array c.next.new.self

pub returns-in_ok-read_items-in-BeginArray-clause-ok : goal.returns-in_ok-read_items-in-BeginArray-clause-ok
returns-in_ok-read_items-in-BeginArray-clause-ok g c =
    let first : c.args.reader.now ≡ token_of c.in_ok-token.token ∷ c.next.new.self = grind arith in
    let opened : value_first c.args.depth c.args.reader.now ≡ parse_map array (items_first (c.args.depth - 1) c.next.new.self) =
    ap (value_first c.args.depth) (first ∙ ap (λ k. token_of k ∷ c.next.new.self) c.in-BeginArray.is) ∙ first-array c.args.depth c.next.new.self (omega arith) in
    let read = c.in_ok-read_items-in-BeginArray.ensures.ok in
    (array read.0, opened ∙ ap (parse_map array) read.1, ap Some read.2)

pub returns-in_err-read_items-in-BeginArray-clause-err : goal.returns-in_err-read_items-in-BeginArray-clause-err
returns-in_err-read_items-in-BeginArray-clause-err g c =
    let first : c.args.reader.now ≡ token_of c.in_ok-token.token ∷ c.next.new.self = grind arith in
    let opened : value_first c.args.depth c.args.reader.now ≡ parse_map array (items_first (c.args.depth - 1) c.next.new.self) =
    ap (value_first c.args.depth) (first ∙ ap (λ k. token_of k ∷ c.next.new.self) c.in-BeginArray.is) ∙ first-array c.args.depth c.next.new.self (omega arith) in
    passed_on _ NotJson c.in_err-read_items-in-BeginArray.field-0.0 c.from_residual-in_err-read_items-in-BeginArray.ensures.1 (λ e. opened ∙ ap (parse_map array) (c.in_err-read_items-in-BeginArray.ensures.err e))

pub returns-in_ok-pass_rest-in_default : goal.returns-in_ok-pass_rest-in_default
returns-in_ok-pass_rest-in_default g c =
    let first : c.args.reader.now ≡ token_of c.in_ok-token.token ∷ c.next.new.self = grind arith in
    let done = c.in_ok-pass_rest-in_default.ensures in
    let other : opens_array (token_of c.in_ok-token.token) ≡ false = grind arith in
    let kind = (kind_of _ _ _ _ _ done.ok.1).1 ∙ other in
    record {
      ok = (done.ok.0, ap (value_first c.args.depth) first ∙ done.ok.1, ap (option_map (gathered_by (g.G.Gatherer.of c.args.gatherer.now) g.E.Element.of)) (sym (no_items-as_array done.ok.0 kind)));
      shorter = rw first (omega (arith, done.shorter));
      err = tt;
    }
