-- What the agent of a host is told, in a frame or not.
use Rattle.std.proofs.Common.{◌≡◌, ℕ, ◌<◌, ◌≤◌, List, ◌++◌, Bool, true, false, Option, Some, None, length, codes, refl, sym, ap, ◌∙◌, arith, append_assoc, length-append}
use Rattle.std.specs.Prelude.{nat_le}
use Rattle.std.proofs.lemmas.Bool.Decides.{nat_tests}
use Rattle.zbx_types.specs.Frames.{frame, longest_data}
use Rattle.zbx_types.specs.declared.conf.Conf.{Conf}
use Rattle.agent_json.specs.Checks.{checks_of, checks_text, told, framed_within}
use Rattle.agent_json.proofs.Commas.{told_all}

-- what was made of the items, between its brackets
pub told_listed : (conf : Conf) (host : ℕ) (lead made body : List ℕ) → lead ≡ codes "{\"response\":\"success\",\"data\":[" → made ≡ lead ++ told host true conf.items
    → body ≡ made ++ codes "]}" → body ≡ checks_text conf host
unfolding checks_text checks_of
told_listed conf host lead made body l m b =
    let begun = codes "{\"response\":\"success\",\"data\":[" in
    let items = told host true conf.items in
    b ∙ ap (λ (t : List ℕ). t ++ codes "]}") (m ∙ ap (λ (t : List ℕ). t ++ items) l) ∙ append_assoc begun items (codes "]}")
    ∙ ap (λ (t : List ℕ). begun ++ (t ++ codes "]}")) (told_all host conf.items)

over : (body : List ℕ) → longest_data < length body → framed_within body ≡ None
over body h = let no_room : nat_le (length body) longest_data ≡ false = grind (arith, nat_tests) in rw no_room refl

-- what is too long already without its end is in no frame
pub too_long : (conf : Conf) (host : ℕ) (lead : List ℕ) → lead ≡ codes "{\"response\":\"success\",\"data\":[" → longest_data < length (lead ++ told host true conf.items)
    → None ≡ framed_within (checks_text conf host)
too_long conf host lead l h =
    let made = lead ++ told host true conf.items in
    let is : made ++ codes "]}" ≡ checks_text conf host = told_listed conf host lead made (made ++ codes "]}") l refl refl in
    let longer : longest_data < length (made ++ codes "]}") = omega (arith, h, length-append made (codes "]}")) in
    sym (over (checks_text conf host) (rw (← is) longer))
