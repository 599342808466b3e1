-- Which problems rules close (the order is this project's own).
use Rattle.std.specs.Prelude.{Bool, not, ◌&&◌, List, [], ◌∷◌, ◌++◌, map, filter}
use Rattle.std.specs.List.{list_any}
use Rattle.zbx_types.specs.Records.{event_of}
use Rattle.zbx_types.specs.declared.conf.Conf.{Conf}
use Rattle.zbx_types.specs.declared.entries.Rec.{Rec}
use Rattle.zbx_types.specs.declared.rules.Rule.{Rule}
use Rattle.event_correlation.specs.Conditions.{matches}
use Rattle.event_correlation.specs.declared.answer.Closes.{Closes}

-- a rule closes an old problem
abbrev pub closes_old : (Rule → Rec → Bool) → Rec → Rule → Bool
closes_old does_match old rule = rule.close_old && does_match rule old

-- a rule closes an old problem that none of the earlier rules closes
abbrev pub closes_first : (Rule → Rec → Bool) → List Rule → Rule → Rec → Bool
closes_first does_match earlier rule old =
    not (list_any (closes_old does_match old) earlier) && closes_old does_match old rule

-- the old problems that close: rule by rule, each problem at the first rule that closes it
abbrev pub closed_from : (Rule → Rec → Bool) → List Rec → List Rule → List Rule → List Rec
closed_from does_match old earlier [] = []
closed_from does_match old earlier (rule ∷ rest) =
    filter (closes_first does_match earlier rule) old ++ closed_from does_match old (earlier ++ rule ∷ []) rest

-- the new problem closes: some rule that closes it matches some old problem
abbrev pub closes_new : (Rule → Rec → Bool) → List Rec → List Rule → Bool
closes_new does_match old rules = list_any (λ rule. rule.close_new && list_any (does_match rule) old) rules

-- what closes for a new problem: events of old problems, and whether the new one does
abbrev pub closes_of : Conf → Rec → List Rec → Closes
closes_of conf new old = record {
  old = map event_of (closed_from (matches conf new) old [] conf.correlations);
  new = closes_new (matches conf new) old conf.correlations;
}
