-- Maintenances.
use Rattle.std.specs.Prelude.{ℕ, Bool, true, false, nat_lt, List, [], ◌∷◌, Option, Result, Ok, codes}
use Rattle.zbx_types.specs.declared.causes.Cause.TheVariants.{BadMember, TooMany}
use Rattle.zbx_types.specs.declared.tag_tests.Matching.{Matching}
use Rattle.zbx_types.specs.declared.tag_tests.Matching.TheVariants as matches
use Rattle.zbx_types.specs.declared.tag_tests.TagOp.{TagOp}
use Rattle.zbx_types.specs.declared.tag_tests.TagOp.TheVariants as ops
use Rattle.zbx_types.specs.declared.tag_tests.TagTest.{TagTest}
use Rattle.zbx_types.specs.declared.maintenances.Maintenance.{Maintenance}
use Rattle.zbx_types.specs.declared.maintenances.Period.{Period}
use Rattle.zbx_types.specs.declared.maintenances.Period.TheVariants as periods
use Rattle.json_form.specs.Faults.{Fault, ◌>>=◌}
use Rattle.json_form.specs.Places.{Place, Object, ◌▸◌, an_object, text, truth, word, given_or, passing, number_between}
use Rattle.json_form.specs.Lists.{list_of, named_list, at_most}
use Rattle.json_form.specs.Wording.{first_of_word}
use Rattle.config_read.specs.declared.maintenances.PeriodKind.{PeriodKind}
use Rattle.config_read.specs.declared.maintenances.PeriodKind.TheVariants as kinds
use Rattle.config_read.specs.Words.{is_title, new_name, matching as matching_word}
use Rattle.config_read.specs.Ranges.{length_of, one_to_16}

-- how often a period comes
abbrev pub period_kind : List ℕ → Option PeriodKind
period_kind = first_of_word ((codes "once", kinds.Once) ∷ (codes "daily", kinds.Daily) ∷ (codes "weekly", kinds.Weekly) ∷ (codes "monthly", kinds.Monthly) ∷ [])

-- the operators on the tags of a maintenance
abbrev pub plain_tag_op : List ℕ → Option TagOp
plain_tag_op = first_of_word ((codes "equals", ops.Equals) ∷ (codes "contains", ops.Contains) ∷ [])

-- seconds since moment 0
unfoldable pub seconds : Place → Result ℕ Fault
seconds at = number_between 0 4294967295 at

-- the second of the day at which a period begins, and how long it lasts
unfoldable pub daytime_of : Object → Result (ℕ × ℕ) Fault
daytime_of o = do
  at ← number_between 0 86399 (o ▸ codes "at")
  length ← length_of (o ▸ codes "length")
  Ok (at, length)

-- a period that comes once
unfoldable pub once_of : Object → Result Period Fault
once_of o = do
  start ← seconds (o ▸ codes "start")
  length ← length_of (o ▸ codes "length")
  Ok (periods.Once start length)

-- one that comes every so many days
unfoldable pub daily_of : Object → Result Period Fault
daily_of o = do
  every ← number_between 1 365 (o ▸ codes "every")
  time ← daytime_of o
  Ok (periods.Daily every time.0 time.1)

-- one that comes on days of every so many weeks; 1 is Monday
unfoldable pub weekly_of : Object → Result Period Fault
weekly_of o = do
  every ← number_between 1 52 (o ▸ codes "every")
  days ← list_of (number_between 1 7) (o ▸ codes "days")
  time ← daytime_of o
  Ok (periods.Weekly every days time.0 time.1)

-- one that comes on a day of months; 1 is January
unfoldable pub monthly_of : Object → Result Period Fault
monthly_of o = do
  months ← list_of (number_between 1 12) (o ▸ codes "months")
  day ← number_between 1 31 (o ▸ codes "day")
  time ← daytime_of o
  Ok (periods.Monthly months day time.0 time.1)

-- the members of a period of this kind
abbrev pub period_parts : PeriodKind → Object → Result Period Fault
period_parts kinds.Once o = once_of o
period_parts kinds.Daily o = daily_of o
period_parts kinds.Weekly o = weekly_of o
period_parts kinds.Monthly o = monthly_of o

-- a period of any kind
unfoldable pub period_of : Place → Result Period Fault
period_of at = do
  o ← an_object at
  kind ← word period_kind (o ▸ codes "kind")
  period_parts kind o

-- 1 to 16 periods
unfoldable pub periods_of : Place → Result (List Period) Fault
periods_of at = one_to_16 at >>= λ few. list_of period_of few

-- a test of a tag: two operators
unfoldable pub tag_test_of : Place → Result TagTest Fault
tag_test_of at = do
  o ← an_object at
  tag ← text (o ▸ codes "tag")
  op ← word plain_tag_op (o ▸ codes "op")
  value ← text (o ▸ codes "value")
  Ok (record { tag = tag; op = op; value = value })

-- the tests of tags, of which there are none without data collection
unfoldable pub tags_of : Bool → Place → Result (List TagTest) Fault
tags_of true at = list_of tag_test_of at
tags_of false at = at_most 0 BadMember at >>= λ none. Ok []

-- from when till when it is active, the first less than the second
unfoldable pub span_of : Object → Result (ℕ × ℕ) Fault
span_of o = do
  since ← seconds (o ▸ codes "since")
  till ← seconds (o ▸ codes "till")
  later ← passing (nat_lt since) (o ▸ codes "till") till
  Ok (since, later)

-- whether values are still taken, and the hosts and groups that it is of
unfoldable pub scope_of : Object → Result (Bool × List (List ℕ) × List (List ℕ)) Fault
scope_of o = do
  collect ← given_or true truth (o ▸ codes "collect")
  hosts ← list_of text (o ▸ codes "hosts")
  groups ← list_of text (o ▸ codes "groups")
  Ok (collect, hosts, groups)

-- how the tests of tags are joined, and the tests
unfoldable pub tests_of : Bool → Object → Result (Matching × List TagTest) Fault
tests_of collect o = do
  matching ← given_or matches.And (word matching_word) (o ▸ codes "match")
  tags ← tags_of collect (o ▸ codes "tags")
  Ok (matching, tags)

-- the name, which isn't taken, and from when till when it is active
unfoldable pub front_of : List (List ℕ) → Object → Result (List ℕ × ℕ × ℕ) Fault
front_of taken o = do
  name ← new_name is_title taken (o ▸ codes "name")
  span ← span_of o
  Ok (name, span.0, span.1)

-- how the tests of tags are joined, the tests, and the periods
unfoldable pub back_of : Bool → Object → Result (Matching × List TagTest × List Period) Fault
back_of collect o = do
  tests ← tests_of collect o
  periods ← periods_of (o ▸ codes "periods")
  Ok (tests.0, tests.1, periods)

-- a maintenance whose name isn't taken
unfoldable pub maintenance_of : List (List ℕ) → Place → Result Maintenance Fault
maintenance_of taken at = do
  o ← an_object at
  front ← front_of taken o
  scope ← scope_of o
  back ← back_of scope.0 o
  Ok (record { name = front.0; since = front.1; till = front.2; collect = scope.0; hosts = scope.1; groups = scope.2; matching = back.0; tags = back.1; periods = back.2 })

-- maintenances of distinct names, 256 at most
unfoldable pub maintenances_of : Object → Result (List Maintenance) Fault
maintenances_of o = at_most 256 TooMany (o ▸ codes "maintenances") >>= λ few. named_list (λ (m : Maintenance). m.name) maintenance_of [] few
