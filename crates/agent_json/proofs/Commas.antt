-- What is still to be told of items.
use Rattle.std.proofs.Common.{◌≡◌, ℕ, ◌+◌, ◌<◌, ◌≤◌, List, [], ◌∷◌, ◌++◌, Bool, true, false, cond, length, drop, get_or, map, codes, filter, refl, sym, ap, ap₂, ◌∙◌, append_assoc, append-nil, length-append, arith}
use Rattle.std.proofs.lemmas.List.{drop_more}
use Rattle.std.specs.Fmt.{decimal}
use Rattle.zbx_types.specs.Frames.{longest_data}
use Rattle.zbx_types.specs.declared.items.Item.{Item}
use Rattle.json_text.specs.Written.{in_quotes}
use Rattle.json_text.proofs.WrittenLemmas.{drop_end}
use Rattle.agent_json.specs.Checks.{is_check, check_text, behind_commas, between_commas, told_of, is_first_behind, told}

-- the texts of the items that the agent is to bring
abbrev texts_of : ℕ → List Item → List (List ℕ)
texts_of host items = map check_text (filter (is_check host) items)

told-behind : (host : ℕ) (items : List Item) → told host false items ≡ behind_commas (texts_of host items)
told-behind host [] = refl
told-behind host (item ∷ items) = by (is_check host item) (told-behind host items) where
  by : (b : Bool) → told host false items ≡ behind_commas (texts_of host items)
      → cond b (44 ∷ check_text item) [] ++ told host (cond b false false) items ≡ behind_commas (map check_text (cond b (item ∷ filter (is_check host) items) (filter (is_check host) items)))
  by true rest = ap (λ (l : List ℕ). 44 ∷ (check_text item ++ l)) rest
  by false rest = rest

pub told_all : (host : ℕ) (items : List Item) → told host true items ≡ between_commas (texts_of host items)
told_all host [] = refl
told_all host (item ∷ items) = by (is_check host item) (told_all host items) where
  by : (b : Bool) → told host true items ≡ between_commas (texts_of host items)
      → cond b (check_text item) [] ++ told host (cond b false true) items ≡ between_commas (map check_text (cond b (item ∷ filter (is_check host) items) (filter (is_check host) items)))
  by true rest = ap (λ (l : List ℕ). check_text item ++ l) (told-behind host items)
  by false rest = rest

module _ (host : ℕ) (whole body new : List ℕ) (first next : Bool) (items : List Item) (i : ℕ) (item : Item) where
  -- one item more
  pub told_more : i < length items → item ≡ get_or items i item → new ≡ body ++ told_of host first item → next ≡ is_first_behind host first item
      → body ++ told host first (drop i items) ≡ whole → new ++ told host next (drop (i + 1) items) ≡ whole
  told_more h e added behind so_far =
      let here : drop i items ≡ item ∷ drop (i + 1) items = drop_more items i item h ∙ ap (λ (y : Item). y ∷ drop (i + 1) items) (sym e) in
      let rest = told host (is_first_behind host first item) (drop (i + 1) items) in
      ap₂ (λ (l : List ℕ) (b : Bool). l ++ told host b (drop (i + 1) items)) added behind ∙ append_assoc body (told_of host first item) rest
      ∙ ap (λ (l : List Item). body ++ told host first l) (sym here) ∙ so_far

  -- with one item more it is already too long
  pub told_longer : i < length items → item ≡ get_or items i item → new ≡ body ++ told_of host first item → next ≡ is_first_behind host first item
      → body ++ told host first (drop i items) ≡ whole → longest_data < length new → longest_data < length whole
  told_longer h e added behind so_far long =
      let all = told_more h e added behind so_far in
      rw (← all, length-append) (omega (arith, long))

-- all items were seen
pub told_whole : (host : ℕ) (whole body : List ℕ) (first : Bool) (items : List Item) (i : ℕ) → length items ≤ i → body ++ told host first (drop i items) ≡ whole → body ≡ whole
told_whole host whole body first items i h so_far =
    let none : told host first (drop i items) ≡ [] = ap (told host first) (drop_end items i h) in
    sym (append-nil body) ∙ ap (λ (l : List ℕ). body ++ l) (sym none) ∙ so_far

-- the pieces of an item's text, one behind the other
pub check_added : (item : Item) (old keyed quoted delayed counted new : List ℕ)
    → keyed ≡ old ++ codes "{\"key\":" → quoted ≡ keyed ++ in_quotes item.key → delayed ≡ quoted ++ codes ",\"delay\":" → counted ≡ delayed ++ decimal item.delay
    → new ≡ counted ++ codes ",\"lastlogsize\":0,\"mtime\":0}" → new ≡ old ++ check_text item
check_added item old keyed quoted delayed counted new a b c d e =
    let k = codes "{\"key\":" in
    let q = in_quotes item.key in
    let l = codes ",\"delay\":" in
    let n = decimal item.delay in
    let z = codes ",\"lastlogsize\":0,\"mtime\":0}" in
    let after_key = b ∙ ap (λ (t : List ℕ). t ++ q) a ∙ append_assoc old k q in
    let after_name = c ∙ ap (λ (t : List ℕ). t ++ l) after_key ∙ append_assoc old (k ++ q) l in
    let after_delay = d ∙ ap (λ (t : List ℕ). t ++ n) after_name ∙ append_assoc old (k ++ q ++ l) n in
    e ∙ ap (λ (t : List ℕ). t ++ z) after_delay ∙ append_assoc old (k ++ q ++ l ++ n) z
