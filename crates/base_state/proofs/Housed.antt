-- Which problems have a trigger: those that a configuration leaves that follows itself.
use Rattle.std.proofs.Common.{◌≡◌, ℕ, Bool, true, false, cond, not, ◌==◌, suc, nat_le, eq-eqb, arith, Option, Some, None, List, [], ◌∷◌, length, map, filter, refl, sym, ◌∙◌, ap, option_and_then}
use Rattle.std.specs.Option.{unwrap_or}
use Rattle.std.proofs.lemmas.List.{length-map}
use Rattle.std.specs.Str.{bytes_eq}
use Rattle.zbx_types.specs.Ids.{at_id}
use Rattle.zbx_types.specs.Records.{tags_of, host_of, trigger_name_of}
use Rattle.zbx_types.specs.declared.base.BaseProblem.{BaseProblem}
use Rattle.zbx_types.specs.declared.conf.Conf.{Conf}
use Rattle.zbx_types.specs.declared.entries.EventId.{EventId}
use Rattle.zbx_types.specs.declared.entries.Rec.{Rec}
use Rattle.zbx_types.specs.declared.entries.Tag.{Tag}
use Rattle.zbx_types.specs.declared.triggers.Trigger.{Trigger}
use Rattle.zbx_types.proofs.RowLemmas.{at_zero}
use Rattle.event_correlation.specs.Laws.{HasTagsOf}
use Rattle.trigger_state.specs.Carry.{same_names, is_one_of, trigger_for, is_gone, gone_of}
use Rattle.trigger_state.specs.Order.{put_by, sorted_by, in_making}
use Rattle.trigger_state.specs.Problems.{event_in}
use Rattle.trigger_state.specs.Stages.{id_named}
use Rattle.trigger_state.specs.declared.problems.Open.{Open}
use Rattle.trigger_state.proofs.Sorting.{made_by_filter}
use Rattle.base_laws.specs.FitsBase.{trigger_by_names}
use Rattle.entry_step.specs.Each.{Each}
use Rattle.entry_step.proofs.Finding.{names_are}
use Rattle.entry_step.proofs.Members.{and_both}
use Rattle.base_state.specs.Fitting.{HasTrigger, opened}

-- ---- one problem

self_eq : (xs : List ℕ) → bytes_eq xs xs ≡ true
self_eq [] = refl
self_eq (x ∷ xs) = and_both (x == x) (bytes_eq xs xs) (eq-eqb x x refl) (self_eq xs)

are_names : (xs ys : List Tag) → map (λ (t : Tag). t.tag) xs ≡ map (λ (t : Tag). t.tag) ys → same_names xs ys ≡ true
are_names [] [] e = refl
are_names [] (y ∷ ys) e = absurd (cc)
are_names (x ∷ xs) [] e = absurd (cc)
are_names (x ∷ xs) (y ∷ ys) e =
    let head : x.tag ≡ y.tag = cc in
    let tail : map (λ (t : Tag). t.tag) xs ≡ map (λ (t : Tag). t.tag) ys = cc in
    and_both (bytes_eq x.tag y.tag) (same_names xs ys) (ap (bytes_eq x.tag) (sym head) ∙ self_eq x.tag) (are_names xs ys tail)

-- the trigger that has the names is the one with the id of the first of these names
found_by : (conf : Conf) (problem : Rec) → trigger_for conf problem ≡ at_id conf.triggers (trigger_by_names conf problem)
found_by conf problem = go (id_named conf (host_of problem) (trigger_name_of problem))
  where
    go : (o : Option ℕ) → option_and_then (at_id conf.triggers) o ≡ at_id conf.triggers (unwrap_or o 0)
    go None = sym (at_zero conf.triggers)
    go (Some id) = refl

tagged : (problem : Rec) (o : Option Trigger) → is_one_of problem o ≡ true → (trigger : Trigger) × (o ≡ Some trigger) × HasTagsOf trigger problem
tagged problem None e = absurd (cc)
tagged problem (Some trigger) e = (trigger, refl, names_are (tags_of problem) trigger.tags e)

one_of : (problem : Rec) (o : Option Trigger) (trigger : Trigger) → o ≡ Some trigger → HasTagsOf trigger problem → is_one_of problem o ≡ true
one_of problem o trigger there tags = ap (is_one_of problem) there ∙ are_names (tags_of problem) trigger.tags tags

stays : (conf : Conf) (p : BaseProblem) → is_gone conf (opened p) ≡ false → HasTrigger conf p
stays conf p e =
    let is : is_one_of p.problem (trigger_for conf p.problem) ≡ true = not_not (is_one_of p.problem (trigger_for conf p.problem)) e in
    let t = tagged p.problem (trigger_for conf p.problem) is in
    (t.0, sym (found_by conf p.problem) ∙ t.1, t.2)
  where
    not_not : (b : Bool) → not b ≡ false → b ≡ true
    not_not true q = refl
    not_not false q = absurd (cc)

goes_on : (conf : Conf) (p : BaseProblem) → HasTrigger conf p → is_gone conf (opened p) ≡ false
goes_on conf p h = ap not (one_of p.problem (trigger_for conf p.problem) h.0 (found_by conf p.problem ∙ h.1) h.2)

-- ---- all of them

put_long : {A : Type 0} (number : A → ℕ) (a : A) (xs : List A) → length (put_by number a xs) ≡ suc (length xs)
put_long number a [] = refl
put_long number a (x ∷ xs) = go (nat_le (number a) (number x)) (put_long number a xs)
  where
    go : (b : Bool) → length (put_by number a xs) ≡ suc (length xs) → length (cond b (a ∷ x ∷ xs) (x ∷ put_by number a xs)) ≡ suc (suc (length xs))
    go true e = refl
    go false e = ap suc e

sorted_long : {A : Type 0} (number : A → ℕ) (xs : List A) → length (sorted_by number xs) ≡ length xs
sorted_long number [] = refl
sorted_long number (x ∷ xs) = put_long number x (sorted_by number xs) ∙ ap suc (sorted_long number xs)

making_long : (os : List Open) → length (in_making os) ≡ length os
making_long os =
    sorted_long (λ (o : Open). (event_in o).number) (sorted_by (λ (o : Open). o.rank) (sorted_by (λ (o : Open). (event_in o).trigger) os))
    ∙ sorted_long (λ (o : Open). o.rank) (sorted_by (λ (o : Open). (event_in o).trigger) os) ∙ sorted_long (λ (o : Open). (event_in o).trigger) os

gone_long : (conf : Conf) (os : List Open) → length (gone_of conf os) ≡ length (filter (is_gone conf) os)
gone_long conf os =
    length-map (filter (is_gone conf) (in_making os)) event_in
    ∙ ap length (made_by_filter event_in (λ (o : Open). o.rank) (is_gone conf) os) ∙ making_long (filter (is_gone conf) os)

none_gone : (conf : Conf) (ps : List BaseProblem) → length (filter (is_gone conf) (map opened ps)) ≡ 0 → Each (HasTrigger conf) ps
none_gone conf [] e = tt
none_gone conf (p ∷ ps) e = go (is_gone conf (opened p)) refl e (λ q. none_gone conf ps q)
  where
    go : (b : Bool) → is_gone conf (opened p) ≡ b → length (cond b (opened p ∷ filter (is_gone conf) (map opened ps)) (filter (is_gone conf) (map opened ps))) ≡ 0
        → (length (filter (is_gone conf) (map opened ps)) ≡ 0 → Each (HasTrigger conf) ps) → Each (HasTrigger conf) (p ∷ ps)
    go true q l ih = absurd (omega (arith, l))
    go false q l ih = (stays conf p q, ih l)

all_go_on : (conf : Conf) (ps : List BaseProblem) → Each (HasTrigger conf) ps → length (filter (is_gone conf) (map opened ps)) ≡ 0
all_go_on conf [] h = refl
all_go_on conf (p ∷ ps) h = ap (λ b. length (cond b (opened p ∷ filter (is_gone conf) (map opened ps)) (filter (is_gone conf) (map opened ps)))) (goes_on conf p h.0) ∙ all_go_on conf ps h.1

-- each problem has a trigger exactly where none is gone
pub have_triggers : (conf : Conf) (ps : List BaseProblem) (gone : List EventId) → gone ≡ gone_of conf (map opened ps) → (length gone ≡ 0 → Each (HasTrigger conf) ps) × (Each (HasTrigger conf) ps → length gone ≡ 0)
have_triggers conf ps gone is =
    let long = ap length is ∙ gone_long conf (map opened ps) in
    ((λ e. none_gone conf ps (sym long ∙ e)), (λ h. long ∙ all_go_on conf ps h))
