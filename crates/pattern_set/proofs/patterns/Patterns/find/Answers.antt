use Rattle.std.proofs.Common.{◌≡◌, ◌∙◌, ◌+◌, sym, ap, subst, Some, None, ℕ, List, Option}
use Rattle.std.specs.Prelude.{position, bytes_eq, unwrap_or, option_map}
use Rattle.zbx_types.specs.Ids.{at_id}
use Rattle.pattern_set.specs.Places.{place_of}
use Rattle.pattern_set.proofs.Placed.{placed}
use Rattle.pattern_set.proofs.Placing.{found}
use Rattle.pattern_set.proofs.patterns.Patterns.find.Goals as goal

pub returns-in-Some-clause-there : goal.returns-in-Some-clause-there
returns-in-Some-clause-there c = λ past.
    let texts : c.as_slice.result.now ≡ c.args.self.now = c.as_slice.ensures.value ∙ c.self.view_is in
    let text : c.as_str.result.now ≡ c.args.text.now = c.as_str.ensures in
    let place : Some c.in-Some.index ≡ position (λ other. bytes_eq other c.as_str.result.now) c.as_slice.result.now = c.in-Some.ensures in
    found c.args.text.now c.args.self.now c.in-Some.index
    (sym (place ∙ ap (λ (t : List ℕ). position (λ other. bytes_eq other t) c.as_slice.result.now) text ∙ ap (position (λ other. bytes_eq other c.args.text.now)) texts))

pub returns-in-Some-clause-among : goal.returns-in-Some-clause-among
returns-in-Some-clause-among c = λ there.
    let texts : c.as_slice.result.now ≡ c.args.self.now = c.as_slice.ensures.value ∙ c.self.view_is in
    let text : c.as_str.result.now ≡ c.args.text.now = c.as_str.ensures in
    let place : Some c.in-Some.index ≡ position (λ other. bytes_eq other c.as_str.result.now) c.as_slice.result.now = c.in-Some.ensures in
    found c.args.text.now c.args.self.now c.in-Some.index
    (sym (place ∙ ap (λ (t : List ℕ). position (λ other. bytes_eq other t) c.as_slice.result.now) text ∙ ap (position (λ other. bytes_eq other c.args.text.now)) texts))

pub returns-in-None-clause-among : goal.returns-in-None-clause-among
returns-in-None-clause-among c = λ there.
    let texts : c.as_slice.result.now ≡ c.args.self.now = c.as_slice.ensures.value ∙ c.self.view_is in
    let text : c.as_str.result.now ≡ c.args.text.now = c.as_str.ensures in
    let nowhere : None ≡ position (λ other. bytes_eq other c.as_str.result.now) c.as_slice.result.now = c.in-None.ensures in
    let none : None ≡ position (λ other. bytes_eq other c.args.text.now) c.args.self.now =
    nowhere ∙ ap (λ (t : List ℕ). position (λ other. bytes_eq other t) c.as_slice.result.now) text ∙ ap (position (λ other. bytes_eq other c.args.text.now)) texts in
    let zero : place_of c.args.text.now c.args.self.now ≡ 0 = sym (ap (λ (o : Option ℕ). unwrap_or (option_map (λ i. i + 1) o) 0) none) in
    subst (λ (n : ℕ). at_id c.args.self.now n ≡ Some c.args.text.now) zero (placed c.args.self.now c.args.text.now there)
