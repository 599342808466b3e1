-- Rules of global correlation.
use Rattle.std.specs.Prelude.{ℕ, Bool, true, false, List, [], ◌∷◌, Option, Result, Ok, codes}
use Rattle.std.specs.List.{list_any}
use Rattle.zbx_types.specs.declared.causes.Cause.TheVariants.{TooMany}
use Rattle.zbx_types.specs.declared.tag_tests.Matching.TheVariants as matches
use Rattle.zbx_types.specs.declared.tag_tests.TagTest.{TagTest}
use Rattle.zbx_types.specs.declared.rules.Rule.{Rule}
use Rattle.zbx_types.specs.declared.rules.RuleCond.{RuleCond}
use Rattle.zbx_types.specs.declared.rules.RuleCond.TheVariants as conds
use Rattle.json_form.specs.Faults.{Fault, ◌>>=◌}
use Rattle.json_form.specs.Places.{Place, Object, ◌▸◌, an_object, text, word, given_or}
use Rattle.json_form.specs.Lists.{list_of, named_list, at_most, not_empty}
use Rattle.json_form.specs.Wording.{first_of_word}
use Rattle.config_read.specs.declared.rules.RuleCondKind.{RuleCondKind}
use Rattle.config_read.specs.declared.rules.RuleCondKind.TheVariants as kinds
use Rattle.config_read.specs.declared.rules.Side.{Side}
use Rattle.config_read.specs.declared.rules.Side.TheVariants as sides
use Rattle.config_read.specs.Words.{is_title, new_name, matching as matching_word, tag_op}
use Rattle.config_read.specs.Ranges.{one_to_16}

-- what a condition is about
abbrev pub rule_cond_kind : List ℕ → Option RuleCondKind
rule_cond_kind = first_of_word (
    (codes "old_tag", kinds.OldTag) ∷ (codes "new_tag", kinds.NewTag) ∷ (codes "old_tag_value", kinds.OldTagValue) ∷ (codes "new_tag_value", kinds.NewTagValue)
    ∷ (codes "tag_pair", kinds.TagPair) ∷ (codes "new_group", kinds.NewGroup) ∷ [])

-- a test of a tag: all four operators
unfoldable pub tag_test_of : Object → Result TagTest Fault
tag_test_of o = do
  tag ← text (o ▸ codes "tag")
  op ← word tag_op (o ▸ codes "op")
  value ← text (o ▸ codes "value")
  Ok (record { tag = tag; op = op; value = value })

-- the members of a condition of this kind
unfoldable pub rule_cond_parts : RuleCondKind → Object → Result RuleCond Fault
rule_cond_parts kinds.OldTag o = text (o ▸ codes "tag") >>= λ tag. Ok (conds.OldTag tag)
rule_cond_parts kinds.NewTag o = text (o ▸ codes "tag") >>= λ tag. Ok (conds.NewTag tag)
rule_cond_parts kinds.OldTagValue o = tag_test_of o >>= λ test. Ok (conds.OldTagValue test)
rule_cond_parts kinds.NewTagValue o = tag_test_of o >>= λ test. Ok (conds.NewTagValue test)
rule_cond_parts kinds.TagPair o = do
  old ← text (o ▸ codes "old")
  new ← text (o ▸ codes "new")
  Ok (conds.TagPair old new)
rule_cond_parts kinds.NewGroup o = text (o ▸ codes "group") >>= λ group. Ok (conds.NewGroup group)

-- a condition of a correlation
unfoldable pub rule_cond_of : Place → Result RuleCond Fault
rule_cond_of at = do
  o ← an_object at
  kind ← word rule_cond_kind (o ▸ codes "kind")
  rule_cond_parts kind o

-- 1 to 16 conditions
unfoldable pub rule_conds_of : Place → Result (List RuleCond) Fault
rule_conds_of at = one_to_16 at >>= λ few. list_of rule_cond_of few

-- the problems that a rule closes: the old ones, the new one
abbrev pub side_word : List ℕ → Option Side
side_word = first_of_word ((codes "old", sides.Old) ∷ (codes "new", sides.New) ∷ [])

-- the old ones
abbrev pub is_old : Side → Bool
is_old sides.Old = true
is_old sides.New = false

-- the new one
abbrev pub is_new : Side → Bool
is_new sides.Old = false
is_new sides.New = true

-- whether the old ones close, and whether the new one does; the list isn't empty
unfoldable pub close_of : Place → Result (Bool × Bool) Fault
close_of at = do
  some ← not_empty at
  closed ← list_of (word side_word) some
  Ok (list_any is_old closed, list_any is_new closed)

-- a rule whose name isn't taken
unfoldable pub rule_of : List (List ℕ) → Place → Result Rule Fault
rule_of taken at = do
  o ← an_object at
  name ← new_name is_title taken (o ▸ codes "name")
  matching ← given_or matches.And (word matching_word) (o ▸ codes "match")
  conditions ← rule_conds_of (o ▸ codes "conditions")
  close ← close_of (o ▸ codes "close")
  Ok (record { name = name; matching = matching; conditions = conditions; close_old = close.0; close_new = close.1 })

-- rules of distinct names, 32 at most
unfoldable pub rules_of : Object → Result (List Rule) Fault
rules_of o = at_most 32 TooMany (o ▸ codes "correlations") >>= λ few. named_list (λ (r : Rule). r.name) rule_of [] few
