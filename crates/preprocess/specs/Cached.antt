-- Visits whose values stand in a cache.
use Rattle.std.specs.Prelude.{List, map, filter_map, Option, Some, None}
use Rattle.value_cache.specs.Tokens.{TokenView}
use Rattle.preprocess.specs.declared.visit.ItemOutcome.{ItemOutcome}
use Rattle.preprocess.specs.declared.visit.ItemOutcome.TheVariants as outcome
use Rattle.preprocess.specs.declared.visit.Visit.{Visit}
use Rattle.preprocess.specs.declared.cached.CachedOutcome.{CachedOutcome}
use Rattle.preprocess.specs.declared.cached.CachedOutcome.TheVariants as cached
use Rattle.preprocess.specs.declared.cached.CachedVisit.{CachedVisit}

-- the outcome that is shown where the value that is stored stands in a cache
abbrev pub outcome_in : CachedOutcome → ItemOutcome
outcome_in (cached.Stored token) = outcome.Stored token.value
outcome_in cached.Discarded = outcome.Discarded
outcome_in (cached.Failed why) = outcome.Failed why

-- the visit
abbrev pub visit_in : CachedVisit → Visit
visit_in v = record { item = v.item; outcome = outcome_in v.outcome; marks = v.marks }

-- the token of the value that is stored
abbrev pub token_by : CachedOutcome → Option TokenView
token_by (cached.Stored token) = Some token
token_by cached.Discarded = None
token_by (cached.Failed why) = None

-- the visits that such visits show
abbrev pub visits_shown : List CachedVisit → List Visit
visits_shown visits = map visit_in visits

-- their tokens
abbrev pub tokens_shown : List CachedVisit → List TokenView
tokens_shown visits = filter_map (λ v. token_by v.outcome) visits

-- what contracts see of a draft: the visits of an entry's value, and the tokens of what they store
pub record DraftView : Type 0 where
  pub visits : List Visit
  pub tokens : List TokenView
