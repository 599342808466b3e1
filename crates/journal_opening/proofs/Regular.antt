-- A flat configuration is regular: besides its triggers' names, the names of its actions are different and the periods of
-- its calls can be counted; and each severity is one that there is.
use Rattle.std.proofs.Common.{◌≡◌, ◌≤◌, ℕ, zero, suc, ◌+◌, Bool, true, false, List, [], ◌∷◌, ◌++◌, length, refl, sym, ap, ◌∙◌, subst, arith}
use Rattle.std.specs.Prelude.{◌&&◌, nat_le, map, slice_get, Option, Some, None, option_and_then, Result, Ok, codes, flat_map, if◌then◌else◌}
use Rattle.std.specs.List.{All}
use Rattle.std.specs.Option.{option_to_list}
use Rattle.std.proofs.lemmas.Option.{slice_get_within, get_or_from_slice_get}
use Rattle.serde_json.specs.Data.{Data, Items, no_items, item}
use Rattle.serde_json.specs.Find.{as_u64, as_number}
use Rattle.zbx_types.specs.Ids.{at_id}
use Rattle.zbx_types.specs.Limits.{longest_expression}
use Rattle.zbx_types.specs.Tree.{Tree}
use Rattle.zbx_types.specs.declared.actions.Action.{Action}
use Rattle.zbx_types.specs.declared.calls.Call.{Call}
use Rattle.zbx_types.specs.declared.calls.Range.{Range}
use Rattle.zbx_types.specs.declared.calls.Range.TheVariants.{Count, Period}
use Rattle.zbx_types.specs.declared.causes.Cause.TheVariants.{BadExpression, TooMany}
use Rattle.zbx_types.specs.declared.conf.Conf.{Conf}
use Rattle.zbx_types.specs.declared.items.Item.{Item}
use Rattle.zbx_types.specs.declared.triggers.RecoveryMode.{RecoveryMode}
use Rattle.zbx_types.specs.declared.triggers.RecoveryMode.TheVariants as modes
use Rattle.zbx_types.specs.declared.triggers.Trigger.{Trigger}
use Rattle.zbx_types.proofs.RowLemmas.{at_zero, at_suc}
use Rattle.json_form.specs.Faults.{Fault}
use Rattle.json_form.specs.Lists.{elements, element_place, at_most, list_of, named_on, named_list}
use Rattle.json_form.specs.Places.{Place, Object, ◌▸◌, has_name, or_bad, an_object, is_between, number_between, unless_absent, given_or}
use Rattle.expr_parser.specs.Calls.{IsBoundedRange, IsBoundedCall}
use Rattle.expr_parser.specs.Grammar.{looks_at_item}
use Rattle.expr_parser.specs.Machine.{after, start, ends_at}
use Rattle.expr_parser.proofs.Bounds.{calls_bounded}
use Rattle.expr_parser.proofs.Kept.{sound}
use Rattle.expr_parser.proofs.Lists.{le_true}
use Rattle.config_read.specs.declared.raw.RawHost.{RawHost}
use Rattle.config_read.specs.declared.raw.RawItem.{RawItem}
use Rattle.config_read.specs.declared.raw.RawMacro.{RawMacro}
use Rattle.config_read.specs.declared.raw.RawTrigger.{RawTrigger}
use Rattle.config_read.specs.declared.raw.RawConf.{RawConf}
use Rattle.config_read.specs.Words.{is_host_name, is_title, new_name}
use Rattle.config_read.specs.Actions.{occasion_of, pace_of, work_of, action_of, actions_of}
use Rattle.config_read.specs.Rules.{rules_of}
use Rattle.config_read.specs.Maintenances.{maintenances_of}
use Rattle.config_read.specs.Triggers.{front_of as trigger_front_of, closing_of, problems_of, back_of, trigger_of as read_trigger, triggers_of as read_triggers}
use Rattle.config_read.specs.Hosts.{name_of, templates_of, macros_of as read_macros, item_of, content_of, front_of, membership_of, host_of as read_host, template_of, thousand_of, hosts_of}
use Rattle.config_read.specs.Document.{handling_of}
use Rattle.host_layout.specs.Places.{Flaw, Placed, placed, unless, refuse as refuse_at}
use Rattle.host_layout.specs.Links.{placed_hosts, placed_templates, sources_of}
use Rattle.host_layout.specs.Hosts.{Owner, owner_of}
use Rattle.host_layout.specs.Macros.{macros_of}
use Rattle.host_layout.specs.Patterns.{Pattern}
use Rattle.config_templates.specs.Reading.{expression_of, looking, expression_at}
use Rattle.config_templates.specs.Referenced.{Looked, looked_at}
use Rattle.config_templates.specs.Expressions.{Resolved, Meant, call_of, resolved, by_items, resolved_at, alone, joined, with_recovery, expressions_of}
use Rattle.config_templates.specs.Titles.{title_of, tags_of}
use Rattle.config_templates.specs.Depends.{depending}
use Rattle.config_templates.specs.Triggers.{trigger_of, trigger_made, triggers_from, triggers_of, placed_triggers}
use Rattle.config_templates.specs.Flat.{flat_of}
use Rattle.value_cache.specs.Keeps.{seconds_in, most_seconds}
use Rattle.entry_step.specs.Each.{Each as Every, EachPair}
use Rattle.entry_step.specs.Start.{no_conf}
use Rattle.entry_laws.specs.Rising.{HaveOwnNames}
use Rattle.base_laws.specs.Alike.{HasShortPeriods}
use Rattle.base_laws.specs.Dated.{HasSeverities}
use Rattle.base_laws.specs.WholeBases.{IsRegular}
use Rattle.journal_opening.specs.Replayed.{flat}
use Rattle.journal_opening.proofs.Distinct.{some_same, ok_same, read_on, went_on, Apart, Each, none_each, each_push, new_kept, list_apart, Document, placed_at, all_keep, Found, trigger_pushed, depending_kept, accepted, flat_distinct, nothing_distinct, of_any}

-- ---- names of actions

-- an action that is read has a name that wasn't taken
action_new : (taken : List (List ℕ)) (at : Place) (action : Action) → action_of taken at ≡ Ok action → has_name action.name taken ≡ false
unfolding action_of
action_new taken at action e =
    let o = read_on (an_object at) _ action e in
    let name = read_on (new_name is_title taken (o.0 ▸ codes "name")) _ action o.2 in
    let occasion = read_on (occasion_of o.0) _ action name.2 in
    let pace = read_on (pace_of o.0) _ action occasion.2 in
    let work = read_on (work_of o.0) _ action pace.2 in
    ap (λ n. has_name n taken) (sym (ap (λ (a : Action). a.name) (ok_same _ action work.2))) ∙ new_kept is_title taken (o.0 ▸ codes "name") name.0 name.1

-- actions of one name
abbrev Namesakes : Action → Action → Type 0
Namesakes a b = a.name ≡ b.name

actions_apart : (o : Object) (actions : List Action) → actions_of o ≡ Ok actions → Apart Namesakes actions
unfolding actions_of
actions_apart o actions e =
    let few = read_on (at_most 64 TooMany (o ▸ codes "actions")) _ actions e in
    list_apart Action (λ (a : Action). a.name) action_of action_new [] few.0 actions few.2

handled_apart : (raw : RawConf) → Document raw → Apart Namesakes raw.actions
unfolding handling_of
handled_apart raw d =
    let rules = read_on (rules_of d.object) _ _ d.reads_handling in
    let maintenances = read_on (maintenances_of d.object) _ _ rules.2 in
    let actions = read_on (actions_of d.object) _ _ maintenances.2 in
    let is : actions.0 ≡ raw.actions = ap (λ h. h.2) (ok_same _ (d.rules, d.maintenances, d.actions) actions.2) ∙ d.are_actions in
    subst (Apart Namesakes) is (actions_apart d.object actions.0 actions.1)

-- what each place of a list has, each element has by recursion
every : {A : Type 0} (Is : A → Type 0) (xs : List A) → Each Is xs → Every Is xs
every Is [] each = tt
every Is (x ∷ xs) each = (each zero x refl, every Is xs (λ k a e. each (suc k) a e))

-- no two elements are alike, so each two aren't
apart_pairs : {A : Type 0} (Alike : A → A → Type 0) (xs : List A) → Apart Alike xs → EachPair (λ a b. Alike a b → ⊥) xs
apart_pairs Alike [] apart = tt
apart_pairs Alike (x ∷ xs) apart = (
  every (λ b. Alike x b → ⊥) xs (λ k b e alike. let z : 0 ≡ suc k = apart zero (suc k) x b refl e alike in absurd (cc)),
  apart_pairs Alike xs (λ i j a b e f alike. let z : suc i ≡ suc j = apart (suc i) (suc j) a b e f alike in omega (arith, z)),
)

-- ---- severities of triggers as they are written

-- a severity that there is
abbrev IsSevere : RawTrigger → Type 0
IsSevere t = t.severity ≤ 5

-- each trigger of a host or template has one
abbrev AreSevere : RawHost → Type 0
AreSevere h = Each IsSevere h.triggers

read_between : (at : Place) (most m n : ℕ) (a b : Bool) → nat_le m most ≡ b → or_bad at (if a && b then Some m else None) ≡ Ok n → n ≤ most
read_between at most m n true true is e = subst (λ k. k ≤ most) (ok_same m n e) (le_true m most is)
read_between at most m n true false is e = absurd (cc)
read_between at most m n false b is e = absurd (cc)

between_within : (at : Place) (least most n : ℕ) → number_between least most at ≡ Ok n → n ≤ most
unfolding number_between
between_within at least most n e = go (option_and_then as_u64 (option_and_then as_number at.value)) e
  where
    go : (o : Option ℕ) → or_bad at (option_and_then (is_between least most) o) ≡ Ok n → n ≤ most
    go None e = absurd (cc)
    go (Some m) e = read_between at most m n (nat_le least m) (nat_le m most) refl e

given_within : (at : Place) (default least most n : ℕ) → default ≤ most → given_or default (number_between least most) at ≡ Ok n → n ≤ most
unfolding given_or
given_within at default least most n fits e = go at.value e
  where
    go : (o : Option Data) → unless_absent default (number_between least most at) o ≡ Ok n → n ≤ most
    go None e = subst (λ k. k ≤ most) (ok_same default n e) fits
    go (Some d) e = between_within at least most n e

trigger_severe : (taken : List (List ℕ)) (at : Place) (t : RawTrigger) → read_trigger taken at ≡ Ok t → IsSevere t
unfolding read_trigger problems_of
trigger_severe taken at t e =
    let o = read_on (an_object at) _ t e in
    let front = read_on (trigger_front_of taken o.0) _ t o.2 in
    let problems = read_on (problems_of o.0) _ t front.2 in
    let back = read_on (back_of o.0) _ t problems.2 in
    let closing = read_on (closing_of o.0) _ problems.0 problems.1 in
    let severity = read_on (given_or 0 (number_between 0 5) (o.0 ▸ codes "severity")) _ problems.0 closing.2 in
    let is : severity.0 ≡ t.severity = ap (λ p. p.2) (ok_same _ problems.0 severity.2) ∙ ap (λ (r : RawTrigger). r.severity) (ok_same _ t back.2) in
    subst (λ n. n ≤ 5) is (given_within (o.0 ▸ codes "severity") 0 0 5 severity.0 (omega arith) severity.1)

-- each thing of a list is so, where each that is read is
module _ (A : Type 0) (name : A → List ℕ) (read : List (List ℕ) → Place → Result A Fault) (Is : A → Type 0)
    (is : (taken : List (List ℕ)) (at : Place) (a : A) → read taken at ≡ Ok a → Is a) where
  on_each : (path : List ℕ) (taken : List (List ℕ)) (before : List A) (ds : Items) (all : List A) → Each Is before → named_on name read path taken before ds ≡ Ok all → Each Is all
  on_each path taken before no_items all each e = subst (Each Is) (ok_same before all e) each
  on_each path taken before (item d ds) all each e =
      let one = read_on (read taken (element_place path (length before) d)) _ all e in
      on_each path (taken ++ name one.0 ∷ []) (before ++ one.0 ∷ []) ds all (each_push Is before one.0 each (is taken (element_place path (length before) d) one.0 one.1)) one.2

  list_each : (taken : List (List ℕ)) (at : Place) (all : List A) → named_list name read taken at ≡ Ok all → Each Is all
  unfolding named_list
  list_each taken at all e = let ds = read_on (elements at) _ all e in on_each at.path taken [] ds.0 all (none_each Is) ds.2

  thousand_each : (taken : List (List ℕ)) (at : Place) (all : List A) → thousand_of name read taken at ≡ Ok all → Each Is all
  unfolding thousand_of
  thousand_each taken at all e = let few = read_on (at_most 1000 TooMany at) _ all e in list_each taken few.0 all few.2

triggers_severe : (at : Place) (ts : List RawTrigger) → read_triggers at ≡ Ok ts → Each IsSevere ts
unfolding read_triggers
triggers_severe at ts e = list_each RawTrigger (λ (t : RawTrigger). t.name) read_trigger IsSevere trigger_severe [] at ts e

-- what hosts and templates have in common
abbrev Content : Type 0
Content = List (List ℕ) × List RawMacro × List RawItem × List RawTrigger

content_severe : (o : Object) (c : Content) → content_of o ≡ Ok c → Each IsSevere c.3
unfolding content_of
content_severe o c e =
    let templates = read_on (templates_of (o ▸ codes "templates")) _ c e in
    let macros = read_on (read_macros (o ▸ codes "macros")) _ c templates.2 in
    let items = read_on (list_of item_of (o ▸ codes "items")) _ c macros.2 in
    let triggers = read_on (read_triggers (o ▸ codes "triggers")) _ c items.2 in
    subst (Each IsSevere) (ap (λ (x : Content). x.3) (ok_same _ c triggers.2)) (triggers_severe (o ▸ codes "triggers") triggers.0 triggers.1)

-- the same with the name
abbrev Front : Type 0
Front = List ℕ × List (List ℕ) × List RawMacro × List RawItem × List RawTrigger

front_severe : (taken : List (List ℕ)) (o : Object) (f : Front) → front_of taken o ≡ Ok f → Each IsSevere f.4
unfolding front_of
front_severe taken o f e =
    let name = read_on (new_name is_host_name taken (o ▸ codes "name")) _ f e in
    let content = read_on (content_of o) _ f name.2 in
    subst (Each IsSevere) (ap (λ (x : Front). x.4) (ok_same _ f content.2)) (content_severe o content.0 content.1)

host_severe : (taken : List (List ℕ)) (at : Place) (h : RawHost) → read_host taken at ≡ Ok h → AreSevere h
unfolding read_host
host_severe taken at h e =
    let o = read_on (an_object at) _ h e in
    let front = read_on (front_of taken o.0) _ h o.2 in
    let member = read_on (membership_of o.0) _ h front.2 in
    subst (Each IsSevere) (ap (λ (r : RawHost). r.triggers) (ok_same _ h member.2)) (front_severe taken o.0 front.0 front.1)

template_severe : (taken : List (List ℕ)) (at : Place) (h : RawHost) → template_of taken at ≡ Ok h → AreSevere h
unfolding template_of
template_severe taken at h e =
    let o = read_on (an_object at) _ h e in
    let front = read_on (front_of taken o.0) _ h o.2 in
    subst (Each IsSevere) (ap (λ (r : RawHost). r.triggers) (ok_same _ h front.2)) (front_severe taken o.0 front.0 front.1)

-- so has each trigger of a document's templates and hosts
record Severe (raw : RawConf) : Type 0 where
  templates : Each AreSevere raw.templates
  hosts : Each AreSevere raw.hosts

hosts_severe : (o : Object) (hosts : List RawHost × List RawHost) → hosts_of o ≡ Ok hosts → Each AreSevere hosts.0 × Each AreSevere hosts.1
unfolding hosts_of
hosts_severe o hosts e =
    let templates = read_on (thousand_of name_of template_of [] (o ▸ codes "templates")) _ hosts e in
    let own = read_on (thousand_of name_of read_host _ (o ▸ codes "hosts")) _ hosts templates.2 in
    let is = ok_same _ hosts own.2 in (
      subst (Each AreSevere) (ap (λ h. h.0) is) (thousand_each RawHost name_of template_of AreSevere template_severe [] (o ▸ codes "templates") templates.0 templates.1),
      subst (Each AreSevere) (ap (λ h. h.1) is) (thousand_each RawHost name_of read_host AreSevere host_severe _ (o ▸ codes "hosts") own.0 own.1),
    )

document_severe : (raw : RawConf) → Document raw → Severe raw
document_severe raw d =
    let hosts = hosts_severe d.object d.hosts d.reads_hosts in
    record { templates = subst (Each AreSevere) d.are_templates hosts.0; hosts = subst (Each AreSevere) d.are_hosts hosts.1 }

-- ---- lists made of lists

each_append : {A : Type 0} (Is : A → Type 0) (xs ys : List A) → Each Is xs → Each Is ys → Each Is (xs ++ ys)
each_append Is [] ys one other k a e = other k a e
each_append Is (x ∷ xs) ys one other zero a e = one zero a e
each_append Is (x ∷ xs) ys one other (suc k) a e = each_append Is xs ys (λ j b f. one (suc j) b f) other k a e

each_map : {A B : Type 0} (Is : B → Type 0) (f : A → B) (xs : List A) → Each (λ a. Is (f a)) xs → Each Is (map f xs)
each_map Is f [] each k b e = absurd (cc)
each_map Is f (x ∷ xs) each zero b e = subst Is (some_same (f x) b e) (each zero x refl)
each_map Is f (x ∷ xs) each (suc k) b e = each_map Is f xs (λ j a g. each (suc j) a g) k b e

each_flat : {A B : Type 0} (Of : A → Type 0) (Is : B → Type 0) (f : A → List B) → ((a : A) → Of a → Each Is (f a)) → (xs : List A) → Each Of xs → Each Is (flat_map f xs)
each_flat Of Is f step [] each k b e = absurd (cc)
each_flat Of Is f step (x ∷ xs) each k b e =
    each_append Is (f x) (flat_map f xs) (step x (each zero x refl)) (each_flat Of Is f step xs (λ j a g. each (suc j) a g)) k b e

each_option : {A : Type 0} (Is : A → Type 0) (o : Option A) → ((a : A) → o ≡ Some a → Is a) → Each Is (option_to_list o)
each_option Is None has k a e = absurd (cc)
each_option Is (Some x) has zero a e = subst Is (some_same x a e) (has x refl)
each_option Is (Some x) has (suc k) a e = absurd (cc)

each_placed : {A : Type 0} (Is : A → Type 0) (path : List ℕ) (xs : List A) → Each Is xs → Each (λ (p : Placed A). Is p.body) (placed path xs)
each_placed Is path xs each k p e = each k p.body (placed_at path 0 xs k p e).1

all_each : {A : Type 0} (Is : A → Type 0) (xs : List A) → All Is xs → Each Is xs
all_each Is xs all k a e = subst Is (get_or_from_slice_get xs k a a e) (all k a (slice_get_within xs k a e))

-- ---- triggers of a host's sources

-- a source whose triggers are of severities that there are
abbrev IsSevereSource : Placed RawHost → Type 0
IsSevereSource s = AreSevere s.body

-- a trigger at its place, of such a severity
abbrev IsSevereAt : Placed RawTrigger → Type 0
IsSevereAt p = IsSevere p.body

sources_severe : (raw : RawConf) (h : Placed RawHost) → Each AreSevere raw.templates → AreSevere h.body → Each IsSevereSource (sources_of raw h)
unfolding sources_of
sources_severe raw h templates own zero s e = subst IsSevereSource (some_same h s e) own
sources_severe raw h templates own (suc k) s e =
    each_flat (λ (t : ℕ). Unit {0}) IsSevereSource (λ t. option_to_list (slice_get (placed_templates raw) t))
    (λ t any. each_option IsSevereSource (slice_get (placed_templates raw) t) (λ p at. each_placed AreSevere (codes "/templates") raw.templates templates t p at))
    _ (λ j a g. tt) k s e

written_severe : (sources : List (Placed RawHost)) → Each IsSevereSource sources → Each IsSevereAt (placed_triggers sources)
written_severe sources each =
    each_flat IsSevereSource IsSevereAt (λ s. placed (s.path ++ codes "/triggers") s.body.triggers)
    (λ s severe. each_placed IsSevere (s.path ++ codes "/triggers") s.body.triggers severe) sources each

-- ---- calls

spelled_bounded : (text : List ℕ) (x : Tree × List Call) → expression_of text ≡ Some x → Each IsBoundedCall x.1
spelled_bounded text x e = go (nat_le (length text) longest_expression) e
  where
    go : (b : Bool) → (if b then ends_at (after (length text) (Some start) text) else None) ≡ Some x → Each IsBoundedCall x.1
    go true e = all_each IsBoundedCall x.1 (calls_bounded (sound (length text) text x.0 x.1 e))
    go false e = absurd (cc)

expression_bounded : (path text : List ℕ) (x : Tree × List Call) → expression_at path text ≡ Ok x → Each IsBoundedCall x.1
unfolding expression_at
expression_bounded path text x e = go (expression_of text) refl e
  where
    looks : (y : Tree × List Call) (b : Bool) → Each IsBoundedCall y.1 → (if b then Ok y else refuse_at path (BadExpression 0)) ≡ Ok x → Each IsBoundedCall x.1
    looks y true each e = subst (λ (z : Tree × List Call). Each IsBoundedCall z.1) (ok_same y x e) each
    looks y false each e = absurd (cc)

    go : (o : Option (Tree × List Call)) → expression_of text ≡ o → looking path text o ≡ Ok x → Each IsBoundedCall x.1
    go None is e = absurd (cc)
    go (Some y) is e = looks y (looks_at_item y.1) (spelled_bounded text y is) e

-- the item that a call looks at changes neither range nor shift
called_bounded : (c : Call) (seen : Option Looked) → IsBoundedCall c → IsBoundedCall (call_of c seen)
called_bounded c None b = b
called_bounded c (Some seen) b = b

unless_same : {A : Type 0} (a b : A) (wrong : Option Fault) → unless a wrong ≡ Ok b → a ≡ b
unless_same a b None e = ok_same a b e
unless_same a b (Some fault) e = absurd (cc)

resolved_bounded : (look : Call → Option Looked) (path text : List ℕ) (r : Resolved) → resolved_at look path text ≡ Ok r → Each IsBoundedCall r.calls
unfolding resolved_at by_items
resolved_bounded look path text r e =
    let read = went_on (expression_at path text) _ r e in
    subst (λ (x : Resolved). Each IsBoundedCall x.calls) (unless_same (resolved look read.0) r _ read.2)
    (each_map IsBoundedCall (λ c. call_of c (look c)) read.0.1 (λ k c at. called_bounded c (look c) (expression_bounded path text read.0 read.1 k c at)))

-- the calls of both expressions
abbrev MeansBounded : Meant → Type 0
MeansBounded m = Each IsBoundedCall (m.calls ++ m.recovery_calls)

recovery_bounded : (mode : RecoveryMode) (recovery : Result Resolved Flaw) (own : Resolved) (m : Meant) → Each IsBoundedCall own.calls
    → ((r : Resolved) → recovery ≡ Ok r → Each IsBoundedCall r.calls) → with_recovery mode recovery own ≡ Ok m → MeansBounded m
recovery_bounded modes.Expression recovery own m one other e = subst MeansBounded (ok_same (alone own) m e) (each_append IsBoundedCall own.calls [] one (none_each IsBoundedCall))
recovery_bounded modes.RecoveryExpression recovery own m one other e =
    let read = went_on recovery _ m e in
    subst MeansBounded (ok_same (joined own read.0) m read.2) (each_append IsBoundedCall own.calls read.0.calls one (other read.0 read.1))
recovery_bounded modes.Nothing recovery own m one other e = subst MeansBounded (ok_same (alone own) m e) (each_append IsBoundedCall own.calls [] one (none_each IsBoundedCall))

meant_bounded : (raw : RawConf) (items : List Item) (owner : Owner) (p : Placed RawTrigger) (m : Meant) → expressions_of raw items owner (macros_of raw owner.sources) p ≡ Ok m → MeansBounded m
unfolding expressions_of
meant_bounded raw items owner p m e =
    let own = went_on (resolved_at (looked_at raw items owner) (p.path ++ codes "/expression") _) _ m e in
    recovery_bounded p.body.recovery (resolved_at (looked_at raw items owner) (p.path ++ codes "/recovery_expression") _) own.0 m
    (resolved_bounded (looked_at raw items owner) (p.path ++ codes "/expression") _ own.0 own.1)
    (λ r is. resolved_bounded (looked_at raw items owner) (p.path ++ codes "/recovery_expression") _ r is) own.2

-- ---- triggers

-- the severity of a trigger is one that there is, and its calls are within their bounds
record Moderate (t : Trigger) : Type 0 where
  severity : t.severity ≤ 5
  calls : Each IsBoundedCall t.calls

trigger_moderate : (raw : RawConf) (items : List Item) (owner : Owner) (found more : Found) (p : Placed RawTrigger)
    → IsSevere p.body → Each Moderate found.triggers → trigger_of raw items owner (macros_of raw owner.sources) found p ≡ Ok more → Each Moderate more.triggers
trigger_moderate raw items owner found more p severe each e =
    let pushed = trigger_pushed raw items owner found more p e in
    subst (Each Moderate) (sym pushed.is)
    (each_push Moderate found.triggers (trigger_made owner.id (title_of (macros_of raw owner.sources) p.body) (tags_of (macros_of raw owner.sources) p.body) p.body pushed.meant) each
    (record { severity = severe; calls = meant_bounded raw items owner p pushed.meant pushed.means }))

from_moderate : (raw : RawConf) (items : List Item) (owner : Owner) (found more : Found) → Each IsSevereSource owner.sources → Each Moderate found.triggers
    → triggers_from raw items owner found ≡ Ok more → Each Moderate more.triggers
unfolding triggers_from
from_moderate raw items owner found more severe each e =
    all_keep (trigger_of raw items owner (macros_of raw owner.sources)) IsSevereAt (λ (f : Found). Each Moderate f.triggers)
    (λ f p g is has made. trigger_moderate raw items owner f g p is has made) (placed_triggers owner.sources) found more (written_severe owner.sources severe) each e

found_moderate : (raw : RawConf) (items : List Item) (patterns : List Pattern) (found : Found) → Severe raw → triggers_of raw items patterns ≡ Ok found → Each Moderate found.triggers
unfolding triggers_of
found_moderate raw items patterns found severe e =
    all_keep (λ (f : Found) h. triggers_from raw items (owner_of raw h) f) IsSevereSource (λ (f : Found). Each Moderate f.triggers)
    (λ f h g is has made. from_moderate raw items (owner_of raw h) f g (sources_severe raw h severe.templates is) has made) (placed_hosts raw) _ found
    (each_placed AreSevere (codes "/hosts") raw.hosts severe.hosts) (none_each Moderate) e

linked_moderate : (raw : RawConf) (ts all : List Trigger) → Each Moderate ts → depending raw ts ≡ Ok all → Each Moderate all
linked_moderate raw ts all each e k t at =
    let kept = depending_kept raw ts all e k t at in
    let its = each k kept.of kept.there in
    record { severity = subst (λ n. n ≤ 5) kept.severity its.severity; calls = subst (Each IsBoundedCall) kept.calls its.calls }

flat_moderate : (text : List ℕ) (conf : Conf) → flat_of text ≡ Ok conf → Each Moderate conf.triggers
flat_moderate text conf e =
    let a = accepted text conf e in
    subst (λ (c : Conf). Each Moderate c.triggers) a.laid.is
    (linked_moderate a.raw a.laid.found.triggers a.laid.triggers
    (found_moderate a.raw a.laid.items a.laid.patterns a.laid.found (document_severe a.raw a.document) a.laid.finds) a.laid.links)

-- ---- the configuration

at_each : {A : Type 0} (Is : A → Type 0) (xs : List A) → Each Is xs → (id : ℕ) (a : A) → at_id xs id ≡ Some a → Is a
at_each Is xs each zero a e = let z : None ≡ Some a = sym (at_zero xs) ∙ e in absurd (cc)
at_each Is xs each (suc k) a e = each k a (sym (at_suc xs k) ∙ e)

call_short : (c : Call) → IsBoundedCall c → c.shift + seconds_in c.range ≤ most_seconds
call_short c bounded = go c.range bounded.0
  where
    go : (r : Range) → IsBoundedRange r → c.shift + seconds_in r ≤ most_seconds
    go (Count n) within = omega (arith, bounded.1)
    go (Period n) within = omega (arith, bounded.1, within.1)

have_short : (conf : Conf) → Each Moderate conf.triggers → HasShortPeriods conf
have_short conf each id place trigger call at there = call_short call ((at_each Moderate conf.triggers each id trigger at).calls place call there)

have_severities : (conf : Conf) → Each Moderate conf.triggers → HasSeverities conf
have_severities conf each id trigger at = (at_each Moderate conf.triggers each id trigger at).severity

flat_own_names : (text : List ℕ) (conf : Conf) → flat_of text ≡ Ok conf → HaveOwnNames conf.actions
flat_own_names text conf e =
    let a = accepted text conf e in
    subst (λ (c : Conf). HaveOwnNames c.actions) a.laid.is (apart_pairs Namesakes a.raw.actions (handled_apart a.raw a.document))

-- a flat configuration is regular
pub flat_regular : (text : List ℕ) (conf : Conf) → flat_of text ≡ Ok conf → IsRegular conf
flat_regular text conf e = record { triggers = flat_distinct text conf e; actions = flat_own_names text conf e; periods = have_short conf (flat_moderate text conf e) }

-- so is that of any text: one of nothing where it is refused
pub all_regular : (text : List ℕ) → IsRegular (flat text)
all_regular = of_any IsRegular flat_regular (record { triggers = nothing_distinct; actions = tt; periods = have_short no_conf (none_each Moderate) })

-- and the severity of each trigger is one that there is
pub all_severe : (text : List ℕ) → HasSeverities (flat text)
all_severe = of_any HasSeverities (λ text conf e. have_severities conf (flat_moderate text conf e)) (have_severities no_conf (none_each Moderate))
