-- What a trigger's events show: its tags where a verdict asks for them.
use Rattle.std.proofs.Common.{◌≡◌, ℕ, cond, List, [], ◌∷◌, Some, None, length, map, filter, refl, ap, pos, arith}
use Rattle.std.specs.Ordering.{int_eq}
use Rattle.zbx_types.specs.declared.entries.Tag.{Tag}
use Rattle.zbx_types.specs.declared.triggers.Trigger.{Trigger}
use Rattle.trigger_state.specs.Problems.{event_in}
use Rattle.trigger_state.specs.Verdicts.{is_closed_by, closing, close_all, lets_close, on_true}
use Rattle.trigger_state.specs.declared.answer.Verdict.TheVariants.{Nothing}
use Rattle.trigger_state.specs.declared.problems.Open.{Open}
use Rattle.entry_step.specs.Changes.{Serve}

-- the verdict asks for the tags only where problems close by them
served : (trigger : Trigger) (os : List Open) (a b : List Tag) → closing trigger a os ≡ closing trigger b os → Serve trigger os a b
served trigger os a b e held None r is_value = refl
served trigger os a b e held (Some p) r is_value =
    ap (λ events. cond held Nothing (cond (int_eq p (pos 0)) (cond (lets_close trigger.recovery r) (close_all events) Nothing) (on_true trigger os is_value))) e

pub serve_same : (trigger : Trigger) (os : List Open) (a b : List Tag) → a ≡ b → Serve trigger os a b
serve_same trigger os a b e = served trigger os a b (ap (λ tags. closing trigger tags os) e)

pub serve_none : (trigger : Trigger) (os : List Open) (a b : List Tag) → length os ≡ 0 → Serve trigger os a b
serve_none trigger [] a b e = served trigger [] a b refl
serve_none trigger (o ∷ os) a b e = absurd (omega arith)

all_close : (close_tag : List ℕ) (os : List Open) (a b : List Tag) → length close_tag ≡ 0 → map event_in (filter (is_closed_by close_tag a) os) ≡ map event_in (filter (is_closed_by close_tag b) os)
all_close [] os a b e = refl
all_close (x ∷ xs) os a b e = absurd (omega arith)

pub serve_untagged : (trigger : Trigger) (os : List Open) (a b : List Tag) → length trigger.close_tag ≡ 0 → Serve trigger os a b
serve_untagged trigger os a b e = served trigger os a b (all_close trigger.close_tag os a b e)
