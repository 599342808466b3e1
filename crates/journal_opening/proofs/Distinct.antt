-- No two triggers of a flat configuration have the same names of their host and their own: the reader refuses a second
-- host of a name, and a second trigger of a name on one host.
use Rattle.std.proofs.Common.{◌≡◌, ◌⊎◌, ℕ, zero, suc, ◌+◌, Bool, true, false, List, [], ◌∷◌, ◌++◌, length, inl, inr, refl, sym, ap, ap₂, ◌∙◌, subst, arith}
use Rattle.std.specs.Prelude.{◌||◌, ◌&&◌, ◌==◌, nat_le, map, slice_get, Option, Some, None, option_map, unwrap_or, Result, Ok, Err, codes, if◌then◌else◌}
use Rattle.std.specs.Result.{result_ok}
use Rattle.std.specs.List.{list_any}
use Rattle.std.specs.Str.{bytes_eq}
use Rattle.std.proofs.lemmas.Bool.Decides.{Decides-eqb}
use Rattle.std.proofs.lemmas.List.Folds.{list_any-append}
use Rattle.std.proofs.lemmas.Option.{slice_get-map}
use Rattle.std.proofs.lemmas.Slice.Eq.{bytes_eq-Decides}
use Rattle.serde_json.specs.Data.{Items, no_items, item}
use Rattle.zbx_types.specs.Hosts.{host_name}
use Rattle.zbx_types.specs.Ids.{at_id}
use Rattle.zbx_types.specs.Limits.{longest_text}
use Rattle.zbx_types.specs.declared.actions.Action.{Action}
use Rattle.zbx_types.specs.declared.conf.Conf.{Conf}
use Rattle.zbx_types.specs.declared.causes.Cause.TheVariants.{Duplicate, TooMany}
use Rattle.zbx_types.specs.declared.items.Item.{Item}
use Rattle.zbx_types.specs.declared.maintenances.Maintenance.{Maintenance}
use Rattle.zbx_types.specs.declared.rules.Rule.{Rule}
use Rattle.zbx_types.specs.declared.triggers.Trigger.{Trigger}
use Rattle.zbx_types.proofs.RowLemmas.{at_zero, at_suc}
use Rattle.json_form.specs.Faults.{Fault, ◌>>=◌ as ◌reads◌}
use Rattle.json_form.specs.Json.{json_within}
use Rattle.json_form.specs.Lists.{elements, element_place, at_most, named_on, named_list}
use Rattle.json_form.specs.Places.{Place, Object, ◌▸◌, spot, refuse, has_name, free, an_object, text_that}
use Rattle.config_read.specs.declared.raw.RawHost.{RawHost}
use Rattle.config_read.specs.declared.raw.RawTrigger.{RawTrigger}
use Rattle.config_read.specs.declared.raw.RawConf.{RawConf}
use Rattle.config_read.specs.Words.{is_host_name, new_name}
use Rattle.config_read.specs.Hosts.{name_of, content_of, front_of, membership_of, host_of as read_host, template_of, thousand_of, hosts_of}
use Rattle.config_read.specs.Document.{globals_of, handling_of, document_of, conf_of}
use Rattle.host_layout.specs.Places.{Flaw, Placed, placed_from, unless, each_list, refuse as refuse_at, ◌>>=◌}
use Rattle.host_layout.specs.Links.{unknown_links, cycles, placed_hosts}
use Rattle.host_layout.specs.Hosts.{Owner, owner_of}
use Rattle.host_layout.specs.Items.{items_of}
use Rattle.host_layout.specs.Macros.{macros_of}
use Rattle.host_layout.specs.Masters.{mastered}
use Rattle.host_layout.specs.Prepared.{prepared}
use Rattle.host_layout.specs.StepPatterns.{step_patterns}
use Rattle.host_layout.specs.Patterns.{Pattern}
use Rattle.config_templates.specs.Expressions.{Meant, expressions_of}
use Rattle.config_templates.specs.Triggers.{most_triggers, has_trigger, trigger_of, trigger_made, users_of, found_with, triggers_from, triggers_of, placed_triggers}
use Rattle.config_templates.specs.Titles.{title_of, tags_of}
use Rattle.config_templates.specs.Uses.{trigger_joined}
use Rattle.config_templates.specs.Depends.{linked_from, dependings_of, cyclic, depending}
use Rattle.config_templates.specs.NamedHosts.{unknown_hosts}
use Rattle.config_templates.specs.Flat.{host_made, conf_made, read_of, laid_out, flat_of}
use Rattle.entry_step.specs.Start.{no_conf}
use Rattle.entry_step.specs.Named.{AreDistinct}
use Rattle.journal_opening.specs.Replayed.{flat}

-- ---- steps that went well

-- what is made alike is alike
pub some_same : {A : Type 0} (a b : A) → Some a ≡ Some b → a ≡ b
some_same a b e = cc

-- what went well, where this could have been wrong
abbrev fine : {A : Type 0} (E : Type 0) → A → Result A E
fine E a = Ok a

pub ok_same : {A E : Type 0} (a b : A) → fine E a ≡ Ok b → a ≡ b
ok_same a b e = cc

-- a reading that went well, and the rest of it
pub read_on : {A B : Type 0} (r : Result A Fault) (f : A → Result B Fault) (b : B) → (r reads f) ≡ Ok b → (a : A) × (r ≡ Ok a) × (f a ≡ Ok b)
read_on (Ok a) f b e = (a, refl, e)
read_on (Err fault) f b e = absurd (cc)

-- a step that went well, and the rest behind it
pub went_on : {A B : Type 0} (r : Result A Flaw) (f : A → Result B Flaw) (b : B) → (r >>= f) ≡ Ok b → (a : A) × (r ≡ Ok a) × (f a ≡ Ok b)
went_on (Ok a) f b e = (a, refl, e)
went_on (Err flaw) f b e = absurd (cc)

-- nothing was wrong
past : {A B : Type 0} (a : A) (wrong : Option Fault) (f : A → Result B Flaw) (b : B) → (unless a wrong >>= f) ≡ Ok b → f a ≡ Ok b
past a None f b e = e
past a (Some fault) f b e = absurd (cc)

-- ---- lists of things that are apart

-- no two things of a list are alike
abbrev pub Apart : {A : Type 0} → (A → A → Type 0) → List A → Type 0
Apart {A} Alike xs = (i j : ℕ) (a b : A) → slice_get xs i ≡ Some a → slice_get xs j ≡ Some b → Alike a b → i ≡ j

-- each thing of a list is so
abbrev pub Each : {A : Type 0} → (A → Type 0) → List A → Type 0
Each {A} Is xs = (k : ℕ) (a : A) → slice_get xs k ≡ Some a → Is a

none_apart : {A : Type 0} (Alike : A → A → Type 0) → Apart Alike []
none_apart Alike i j a b e f alike = absurd (cc)

pub none_each : {A : Type 0} (Is : A → Type 0) → Each Is []
none_each Is k a e = absurd (cc)

-- what stands in a list with one thing more
last_or : {A : Type 0} (xs : List A) (y : A) (k : ℕ) (a : A) → slice_get (xs ++ y ∷ []) k ≡ Some a → (slice_get xs k ≡ Some a) ⊎ ((k ≡ length xs) × (a ≡ y))
last_or [] y zero a e = inr (refl, sym (some_same y a e))
last_or [] y (suc k) a e = absurd (cc)
last_or (x ∷ xs) y zero a e = inl e
last_or (x ∷ xs) y (suc k) a e = next (last_or xs y k a e)
  where
    next : (slice_get xs k ≡ Some a) ⊎ ((k ≡ length xs) × (a ≡ y)) → (slice_get (x ∷ xs) (suc k) ≡ Some a) ⊎ ((suc k ≡ length (x ∷ xs)) × (a ≡ y))
    next (inl h) = inl h
    next (inr h) = inr (ap suc h.0, h.1)

-- one thing more that is like none
apart_push : {A : Type 0} (Alike : A → A → Type 0) → ((a b : A) → Alike a b → Alike b a) → (xs : List A) (y : A) → Apart Alike xs → Each (λ a. Alike a y → ⊥) xs → Apart Alike (xs ++ y ∷ [])
apart_push Alike turn xs y apart other i j a b e f alike = go (last_or xs y i a e) (last_or xs y j b f)
  where
    go : (slice_get xs i ≡ Some a) ⊎ ((i ≡ length xs) × (a ≡ y)) → (slice_get xs j ≡ Some b) ⊎ ((j ≡ length xs) × (b ≡ y)) → i ≡ j
    go (inl p) (inl q) = apart i j a b p q alike
    go (inl p) (inr q) = absurd (other i a p (subst (Alike a) q.1 alike))
    go (inr p) (inl q) = absurd (other j b q (subst (Alike b) p.1 (turn a b alike)))
    go (inr p) (inr q) = p.0 ∙ sym q.0

pub each_push : {A : Type 0} (Is : A → Type 0) (xs : List A) (y : A) → Each Is xs → Is y → Each Is (xs ++ y ∷ [])
each_push Is xs y each last k a e = go (last_or xs y k a e)
  where
    go : (slice_get xs k ≡ Some a) ⊎ ((k ≡ length xs) × (a ≡ y)) → Is a
    go (inl p) = each k a p
    go (inr p) = subst Is (sym p.1) last

-- an element passes no test that none passes
passes_none : {A : Type 0} (test : A → Bool) (xs : List A) → list_any test xs ≡ false → Each (λ a. test a ≡ false) xs
passes_none test [] none k a e = absurd (cc)
passes_none test (x ∷ xs) none k a e = go (passes_none test xs) (test x) refl none k e
  where
    go : (list_any test xs ≡ false → Each (λ y. test y ≡ false) xs) → (b : Bool) → test x ≡ b → (b || list_any test xs) ≡ false → (k : ℕ) → slice_get (x ∷ xs) k ≡ Some a → test a ≡ false
    go next true is n k e = absurd (cc)
    go next false is n zero e = ap test (sym (some_same x a e)) ∙ is
    go next false is n (suc k) e = next n k a e

-- ---- names of hosts

same_text : (a b : List ℕ) → bytes_eq a b ≡ true → a ≡ b
same_text a b = (bytes_eq-Decides a b).0

text_same : (a : List ℕ) → bytes_eq a a ≡ true
text_same a = (bytes_eq-Decides a a).1 refl

-- a name that is taken stays so
still_taken : (name : List ℕ) (taken more : List (List ℕ)) → has_name name taken ≡ true → has_name name (taken ++ more) ≡ true
still_taken name taken more h = list_any-append (bytes_eq name) taken more ∙ ap (λ b. b || has_name name more) h

now_taken : (name : List ℕ) (taken : List (List ℕ)) → has_name name (taken ++ name ∷ []) ≡ true
now_taken name taken = list_any-append (bytes_eq name) taken (name ∷ []) ∙ ap (λ b. has_name name taken || (b || false)) (text_same name) ∙ either (has_name name taken)
  where
    either : (b : Bool) → (b || true) ≡ true
    either true = refl
    either false = refl

-- a name that is read wasn't taken
free_kept : (taken : List (List ℕ)) (at : Place) (text name : List ℕ) → free taken at text ≡ Ok name → has_name name taken ≡ false
unfolding free
free_kept taken at text name e = go (has_name text taken) refl e
  where
    go : (b : Bool) → has_name text taken ≡ b → (if b then refuse at Duplicate else Ok text) ≡ Ok name → has_name name taken ≡ false
    go true is f = absurd (cc)
    go false is f = ap (λ n. has_name n taken) (sym (ok_same text name f)) ∙ is

pub new_kept : (form : List ℕ → Bool) (taken : List (List ℕ)) (at : Place) (name : List ℕ) → new_name form taken at ≡ Ok name → has_name name taken ≡ false
unfolding new_name
new_kept form taken at name e = let text = read_on (text_that form at) _ name e in free_kept taken at text.0 name text.2

-- a host that is read has a name that wasn't taken
host_new : (taken : List (List ℕ)) (at : Place) (host : RawHost) → read_host taken at ≡ Ok host → has_name host.name taken ≡ false
unfolding read_host front_of
host_new taken at host e =
    let o = read_on (an_object at) _ host e in
    let front = read_on (front_of taken o.0) _ host o.2 in
    let member = read_on (membership_of o.0) _ host front.2 in
    let name = read_on (new_name is_host_name taken (o.0 ▸ codes "name")) _ front.0 front.1 in
    let content = read_on (content_of o.0) _ front.0 name.2 in
    let is : name.0 ≡ host.name = ap (λ f. f.0) (ok_same _ front.0 content.2) ∙ ap (λ (h : RawHost). h.name) (ok_same _ host member.2) in
    ap (λ n. has_name n taken) (sym is) ∙ new_kept is_host_name taken (o.0 ▸ codes "name") name.0 name.1

module _ (A : Type 0) (name : A → List ℕ) (read : List (List ℕ) → Place → Result A Fault)
    (new : (taken : List (List ℕ)) (at : Place) (a : A) → read taken at ≡ Ok a → has_name (name a) taken ≡ false) where
  abbrev Namesake : A → A → Type 0
  Namesake a b = name a ≡ name b

  abbrev IsTaken : List (List ℕ) → A → Type 0
  IsTaken taken a = has_name (name a) taken ≡ true

  -- a name that isn't taken is no name of those before
  other_name : (taken : List (List ℕ)) (xs : List A) (y : A) → Each (IsTaken taken) xs → has_name (name y) taken ≡ false → Each (λ a. Namesake a y → ⊥) xs
  other_name taken xs y known new k a e same =
      let one : has_name (name y) taken ≡ true = ap (λ n. has_name n taken) (sym same) ∙ known k a e in
      let both : true ≡ false = sym one ∙ new in
      absurd (cc)

  on_apart : (path : List ℕ) (taken : List (List ℕ)) (before : List A) (ds : Items) (all : List A)
      → Each (IsTaken taken) before → Apart Namesake before → named_on name read path taken before ds ≡ Ok all → Apart Namesake all
  on_apart path taken before no_items all known apart e = subst (Apart Namesake) (ok_same before all e) apart
  on_apart path taken before (item d ds) all known apart e =
      let one = read_on (read taken (element_place path (length before) d)) _ all e in
      on_apart path (taken ++ name one.0 ∷ []) (before ++ one.0 ∷ []) ds all
      (each_push (IsTaken (taken ++ name one.0 ∷ [])) before one.0 (λ k a at. still_taken (name a) taken (name one.0 ∷ []) (known k a at)) (now_taken (name one.0) taken))
      (apart_push Namesake (λ a b same. sym same) before one.0 apart (other_name taken before one.0 known (new taken (element_place path (length before) d) one.0 one.1)))
      one.2

  pub list_apart : (taken : List (List ℕ)) (at : Place) (all : List A) → named_list name read taken at ≡ Ok all → Apart Namesake all
  unfolding named_list
  list_apart taken at all e =
      let ds = read_on (elements at) _ all e in
      on_apart at.path taken [] ds.0 all (none_each (IsTaken taken)) (none_apart Namesake) ds.2

  thousand_apart : (taken : List (List ℕ)) (at : Place) (all : List A) → thousand_of name read taken at ≡ Ok all → Apart Namesake all
  unfolding thousand_of
  thousand_apart taken at all e = let few = read_on (at_most 1000 TooMany at) _ all e in list_apart taken few.0 all few.2

-- hosts of one name
abbrev OneName : RawHost → RawHost → Type 0
OneName a b = a.name ≡ b.name

hosts_apart : (o : Object) (hosts : List RawHost × List RawHost) → hosts_of o ≡ Ok hosts → Apart OneName hosts.1
unfolding hosts_of
hosts_apart o hosts e =
    let templates = read_on (thousand_of name_of template_of [] (o ▸ codes "templates")) _ hosts e in
    let own = read_on (thousand_of name_of read_host _ (o ▸ codes "hosts")) _ hosts templates.2 in
    subst (Apart OneName) (ap (λ h. h.1) (ok_same _ hosts own.2)) (thousand_apart RawHost name_of read_host host_new _ (o ▸ codes "hosts") own.0 own.1)

-- what a document was read as: its templates and hosts, and its actions
pub record Document (raw : RawConf) : Type 0 where
  pub object : Object
  pub hosts : List RawHost × List RawHost
  pub rules : List Rule
  pub maintenances : List Maintenance
  pub actions : List Action
  pub reads_hosts : hosts_of object ≡ Ok hosts
  pub reads_handling : handling_of object ≡ Ok (rules, maintenances, actions)
  pub are_templates : hosts.0 ≡ raw.templates
  pub are_hosts : hosts.1 ≡ raw.hosts
  pub are_actions : actions ≡ raw.actions

document_read : (text : List ℕ) (raw : RawConf) → conf_of text ≡ Ok raw → Document raw
unfolding document_of
document_read text raw e =
    let d = read_on (json_within longest_text text) _ raw e in
    let o = read_on (an_object (spot [] d.0)) _ raw d.2 in
    let globals = read_on (globals_of o.0) _ raw o.2 in
    let hosts = read_on (hosts_of o.0) _ raw globals.2 in
    let handling = read_on (handling_of o.0) _ raw hosts.2 in
    let is = ok_same _ raw handling.2 in
    record {
      object = o.0;
      hosts = hosts.0;
      rules = handling.0.0;
      maintenances = handling.0.1;
      actions = handling.0.2;
      reads_hosts = hosts.1;
      reads_handling = handling.1;
      are_templates = ap (λ (r : RawConf). r.templates) is;
      are_hosts = ap (λ (r : RawConf). r.hosts) is;
      are_actions = ap (λ (r : RawConf). r.actions) is;
    }

-- no two hosts of a document have one name
raw_apart : (raw : RawConf) → Document raw → Apart OneName raw.hosts
raw_apart raw d = subst (Apart OneName) d.are_hosts (hosts_apart d.object d.hosts d.reads_hosts)

-- ---- triggers of hosts

-- what a function takes
abbrev Taken : {A B : Type 0} → (A → B) → Type 0
Taken {A} f = A

-- triggers that were found, with the patterns
abbrev pub Found : Type 0
Found = Taken (found_with 0 [])

-- triggers of one host and one name
abbrev Twins : Trigger → Trigger → Type 0
Twins a b = (a.host ≡ b.host) × (a.name ≡ b.name)

-- a host with this id
record Hosted (raw : RawConf) (id : ℕ) : Type 0 where
  place : ℕ
  host : RawHost
  is : id ≡ place + 1
  there : slice_get raw.hosts place ≡ Some host

-- triggers of hosts, of which no two are of one host and one name
record Sound (raw : RawConf) (ts : List Trigger) : Type 0 where
  apart : Apart Twins ts
  hosted : Each (λ (t : Trigger). Hosted raw t.host) ts

-- an element at its place
pub placed_at : {A : Type 0} (path : List ℕ) (first : ℕ) (xs : List A) (k : ℕ) (p : Placed A) → slice_get (placed_from path first xs) k ≡ Some p → (p.place ≡ first + k) × (slice_get xs k ≡ Some p.body)
placed_at path first [] k p e = absurd (cc)
placed_at {A} path first (x ∷ xs) zero p e = let s = some_same _ p e in (ap (λ (q : Placed A). q.place) (sym s) ∙ (let z : first ≡ first + 0 = omega arith in z), ap (λ (q : Placed A). Some q.body) s)
placed_at path first (x ∷ xs) (suc k) p e = let r = placed_at path (first + 1) xs k p e in (omega (arith, r.0), r.1)

hosts_there : (raw : RawConf) → Each (λ (h : Placed RawHost). Hosted raw (h.place + 1)) (placed_hosts raw)
hosts_there raw k h e =
    let at = placed_at (codes "/hosts") 0 raw.hosts k h e in
    let same : h.place ≡ k = omega (arith, at.0) in
    record { place = h.place; host = h.body; is = refl; there = ap (slice_get raw.hosts) same ∙ at.1 }

-- what each keeps stands behind all
pub all_keep : {A S : Type 0} (make : S → A → Result S Flaw) (Is : A → Type 0) (Keeps : S → Type 0) → ((s : S) (a : A) (t : S) → Is a → Keeps s → make s a ≡ Ok t → Keeps t)
    → (xs : List A) (s t : S) → Each Is xs → Keeps s → each_list make s xs ≡ Ok t → Keeps t
all_keep make Is Keeps step [] s t each keeps e = subst Keeps (ok_same s t e) keeps
all_keep make Is Keeps step (x ∷ xs) s t each keeps e =
    let more = went_on (make s x) _ t e in
    all_keep make Is Keeps step xs more.0 t (λ k a at. each (suc k) a at) (step s x more.0 (each zero x refl) keeps more.1) more.2

-- no trigger has this host and this name
no_twin : (ts : List Trigger) (host : ℕ) (name : List ℕ) → has_trigger ts host name ≡ false → Each (λ (t : Trigger). t.host ≡ host → t.name ≡ name → ⊥) ts
no_twin ts host name none k t e of_host of_name =
    let h : (t.host == host) ≡ true = (Decides-eqb t.host host).1 of_host in
    let n : bytes_eq t.name name ≡ true = (bytes_eq-Decides t.name name).1 of_name in
    let both : true ≡ false = sym (ap₂ (λ a b. a && b) h n) ∙ passes_none (λ (x : Trigger). (x.host == host) && bytes_eq x.name name) ts none k t e in
    absurd (cc)

-- one trigger more
sound_push : (raw : RawConf) (ts : List Trigger) (y : Trigger) → Sound raw ts → Hosted raw y.host → has_trigger ts y.host y.name ≡ false → Sound raw (ts ++ y ∷ [])
sound_push raw ts y sound hosted free = record {
  apart = apart_push Twins (λ a b twins. (sym twins.0, sym twins.1)) ts y sound.apart (λ k t e twins. no_twin ts y.host y.name free k t e twins.0 twins.1);
  hosted = each_push (λ (t : Trigger). Hosted raw t.host) ts y sound.hosted hosted;
}

-- one trigger more was found: its name was free, and its expressions mean this
pub record Pushed (raw : RawConf) (items : List Item) (owner : Owner) (found more : Found) (p : Placed RawTrigger) : Type 0 where
  pub meant : Meant
  pub free : has_trigger found.triggers owner.id p.body.name ≡ false
  pub means : expressions_of raw items owner (macros_of raw owner.sources) p ≡ Ok meant
  pub is : more.triggers ≡ found.triggers ++ trigger_made owner.id (title_of (macros_of raw owner.sources) p.body) (tags_of (macros_of raw owner.sources) p.body) p.body meant ∷ []

-- where a trigger is taken
pub trigger_pushed : (raw : RawConf) (items : List Item) (owner : Owner) (found more : Found) (p : Placed RawTrigger)
    → trigger_of raw items owner (macros_of raw owner.sources) found p ≡ Ok more → Pushed raw items owner found more p
unfolding trigger_of
trigger_pushed raw items owner found more p e = named (has_trigger found.triggers owner.id p.body.name) refl e
  where
    found_more : has_trigger found.triggers owner.id p.body.name ≡ false
        → (expressions_of raw items owner (macros_of raw owner.sources) p >>= found_with owner.id (macros_of raw owner.sources) found p) ≡ Ok more → Pushed raw items owner found more p
    found_more free e =
        let meant = went_on (expressions_of raw items owner (macros_of raw owner.sources) p) _ more e in
        let patterns = went_on (trigger_joined found.patterns p.path (users_of (title_of (macros_of raw owner.sources) p.body) (tags_of (macros_of raw owner.sources) p.body) meant.0)) _ more meant.2 in
        record { meant = meant.0; free = free; means = meant.1; is = ap (λ (f : Found). f.triggers) (sym (ok_same _ more patterns.2)) }

    counted : (b : Bool) → has_trigger found.triggers owner.id p.body.name ≡ false
        → (if b then refuse_at p.path TooMany else (expressions_of raw items owner (macros_of raw owner.sources) p >>= found_with owner.id (macros_of raw owner.sources) found p)) ≡ Ok more
        → Pushed raw items owner found more p
    counted true free e = absurd (cc)
    counted false free e = found_more free e

    named : (b : Bool) → has_trigger found.triggers owner.id p.body.name ≡ b
        → (if b then refuse_at (p.path ++ codes "/name") Duplicate else if nat_le most_triggers (length found.triggers) then refuse_at p.path TooMany
        else (expressions_of raw items owner (macros_of raw owner.sources) p >>= found_with owner.id (macros_of raw owner.sources) found p)) ≡ Ok more → Pushed raw items owner found more p
    named true is e = absurd (cc)
    named false is e = counted (nat_le most_triggers (length found.triggers)) is e

trigger_sound : (raw : RawConf) (items : List Item) (owner : Owner) (found more : Found) (p : Placed RawTrigger)
    → Hosted raw owner.id → Sound raw found.triggers → trigger_of raw items owner (macros_of raw owner.sources) found p ≡ Ok more → Sound raw more.triggers
trigger_sound raw items owner found more p hosted sound e =
    let pushed = trigger_pushed raw items owner found more p e in
    subst (Sound raw) (sym pushed.is)
    (sound_push raw found.triggers (trigger_made owner.id (title_of (macros_of raw owner.sources) p.body) (tags_of (macros_of raw owner.sources) p.body) p.body pushed.meant) sound hosted pushed.free)

from_sound : (raw : RawConf) (items : List Item) (owner : Owner) (found more : Found) → Hosted raw owner.id → Sound raw found.triggers → triggers_from raw items owner found ≡ Ok more → Sound raw more.triggers
unfolding triggers_from
from_sound raw items owner found more hosted sound e =
    all_keep (trigger_of raw items owner (macros_of raw owner.sources)) (λ p. Unit {0}) (λ (f : Found). Sound raw f.triggers)
    (λ f p g _ s is. trigger_sound raw items owner f g p hosted s is) (placed_triggers owner.sources) found more (λ k a at. tt) sound e

found_sound : (raw : RawConf) (items : List Item) (patterns : List Pattern) (found : Found) → triggers_of raw items patterns ≡ Ok found → Sound raw found.triggers
unfolding triggers_of
found_sound raw items patterns found e =
    all_keep (λ (f : Found) h. triggers_from raw items (owner_of raw h) f) (λ (h : Placed RawHost). Hosted raw (h.place + 1)) (λ (f : Found). Sound raw f.triggers)
    (λ f h g hosted s is. from_sound raw items (owner_of raw h) f g hosted s is) (placed_hosts raw) _ found (hosts_there raw)
    (record { apart = none_apart Twins; hosted = none_each (λ (t : Trigger). Hosted raw t.host) }) e

-- ---- what they depend on changes neither host nor name, nor severity and calls

-- the trigger that has links now
pub record Kept (ts : List Trigger) (k : ℕ) (t : Trigger) : Type 0 where
  pub of : Trigger
  pub there : slice_get ts k ≡ Some of
  pub host : of.host ≡ t.host
  pub name : of.name ≡ t.name
  pub severity : of.severity ≡ t.severity
  pub calls : of.calls ≡ t.calls

kept_from : (links : List (List ℕ)) (depths : List ℕ) (place : ℕ) (ts : List Trigger) (k : ℕ) (t : Trigger) → slice_get (linked_from links depths place ts) k ≡ Some t → Kept ts k t
kept_from links depths place [] k t e = absurd (cc)
kept_from links depths place (u ∷ ts) zero t e =
    let s = some_same _ t e in
    record {
      of = u;
      there = refl;
      host = ap (λ (x : Trigger). x.host) s;
      name = ap (λ (x : Trigger). x.name) s;
      severity = ap (λ (x : Trigger). x.severity) s;
      calls = ap (λ (x : Trigger). x.calls) s;
    }
kept_from links depths place (u ∷ ts) (suc k) t e =
    let r = kept_from links depths (place + 1) ts k t e in
    record { of = r.of; there = r.there; host = r.host; name = r.name; severity = r.severity; calls = r.calls }

-- each trigger with what it depends on is one that was found
pub depending_kept : (raw : RawConf) (ts all : List Trigger) → depending raw ts ≡ Ok all → (k : ℕ) (t : Trigger) → slice_get all k ≡ Some t → Kept ts k t
unfolding depending
depending_kept raw ts all e k t at =
    let found = went_on (dependings_of raw ts) _ all e in
    let last = past found.0 (cyclic found.0) _ all found.2 in
    kept_from _ _ 0 ts k t (ap (λ xs. slice_get xs k) (ok_same _ all last) ∙ at)

depending_sound : (raw : RawConf) (ts all : List Trigger) → Sound raw ts → depending raw ts ≡ Ok all → Sound raw all
depending_sound raw ts all sound e = record {
  apart = λ i j a b at there twins.
      let p = depending_kept raw ts all e i a at in
      let q = depending_kept raw ts all e j b there in
      sound.apart i j p.of q.of p.there q.there (p.host ∙ twins.0 ∙ sym q.host, p.name ∙ twins.1 ∙ sym q.name);
  hosted = λ k t at. let p = depending_kept raw ts all e k t at in subst (Hosted raw) p.host (sound.hosted k p.of p.there);
}

-- ---- the configuration

-- the name of a host with an id
host_there : (raw : RawConf) (id : ℕ) (h : Hosted raw id) → host_name (at_id (map host_made raw.hosts) id) ≡ h.host.name
host_there raw id h =
    let next : id ≡ suc h.place = h.is ∙ (let z : h.place + 1 ≡ suc h.place = omega arith in z) in
    ap (λ n. host_name (at_id (map host_made raw.hosts) n)) next
    ∙ ap host_name (at_suc (map host_made raw.hosts) h.place ∙ slice_get-map host_made raw.hosts h.place ∙ ap (option_map host_made) h.there)

-- ids of hosts of one name
same_host : (raw : RawConf) (i j : ℕ) → Apart OneName raw.hosts → Hosted raw i → Hosted raw j → bytes_eq (host_name (at_id (map host_made raw.hosts) i)) (host_name (at_id (map host_made raw.hosts) j)) ≡ true → i ≡ j
same_host raw i j hosts h g same =
    let names : h.host.name ≡ g.host.name = sym (host_there raw i h) ∙ same_text _ _ same ∙ host_there raw j g in
    h.is ∙ ap (λ place. place + 1) (hosts h.place g.place h.host g.host h.there g.there names) ∙ sym g.is

made_distinct : (text : List ℕ) (raw : RawConf) (items : List Item) (triggers : List Trigger) (patterns : List Pattern) → Apart OneName raw.hosts → Sound raw triggers → AreDistinct (conf_made text raw items triggers patterns)
made_distinct text raw items triggers patterns hosts sound = go
  where
    conf : Conf
    conf = conf_made text raw items triggers patterns

    go : AreDistinct conf
    go zero j a b e f host name = let z : None ≡ Some a = sym (at_zero triggers) ∙ e in absurd (cc)
    go (suc i) zero a b e f host name = let z : None ≡ Some b = sym (at_zero triggers) ∙ f in absurd (cc)
    go (suc i) (suc j) a b e f host name =
        let p : slice_get triggers i ≡ Some a = sym (at_suc triggers i) ∙ e in
        let q : slice_get triggers j ≡ Some b = sym (at_suc triggers j) ∙ f in
        ap suc (sound.apart i j a b p q (same_host raw a.host b.host hosts (sound.hosted i a p) (sound.hosted j b q) host, same_text a.name b.name name))

-- what a document was laid out as
pub record Laid (text : List ℕ) (raw : RawConf) (conf : Conf) : Type 0 where
  pub items : List Item
  pub patterns : List Pattern
  pub found : Found
  pub triggers : List Trigger
  pub finds : triggers_of raw items patterns ≡ Ok found
  pub links : depending raw found.triggers ≡ Ok triggers
  pub is : conf_made text raw items triggers found.patterns ≡ conf

document_laid : (text : List ℕ) (raw : RawConf) (conf : Conf) → laid_out text raw ≡ Ok conf → Laid text raw conf
unfolding laid_out
document_laid text raw conf e =
    let first = past raw (unknown_links raw) _ conf e in
    let second = past raw (cycles raw) _ conf first in
    let listed = went_on (items_of raw) _ conf second in
    let owned = went_on (mastered raw listed.0) _ conf listed.2 in
    let items = went_on (prepared raw owned.0) _ conf owned.2 in
    let patterns = went_on (step_patterns raw) _ conf items.2 in
    let found = went_on (triggers_of raw items.0 patterns.0) _ conf patterns.2 in
    let triggers = went_on (depending raw found.0.triggers) _ conf found.2 in
    let last = past raw (unknown_hosts raw) (λ known. Ok (conf_made text known items.0 triggers.0 found.0.patterns)) conf triggers.2 in
    record {
      items = items.0;
      patterns = patterns.0;
      found = found.0;
      triggers = triggers.0;
      finds = found.1;
      links = triggers.1;
      is = ok_same (conf_made text raw items.0 triggers.0 found.0.patterns) conf last;
    }

-- what an accepted text was read and laid out as
pub record Accepted (text : List ℕ) (conf : Conf) : Type 0 where
  pub raw : RawConf
  pub document : Document raw
  pub laid : Laid text raw conf

pub accepted : (text : List ℕ) (conf : Conf) → flat_of text ≡ Ok conf → Accepted text conf
unfolding flat_of
accepted text conf e = go (conf_of text) refl e
  where
    go : (r : Result RawConf Fault) → conf_of text ≡ r → (read_of r >>= laid_out text) ≡ Ok conf → Accepted text conf
    go (Ok raw) is f = record { raw = raw; document = document_read text raw is; laid = document_laid text raw conf f }
    go (Err fault) is f = absurd (cc)

-- no two triggers of a flat configuration have the same names
pub flat_distinct : (text : List ℕ) (conf : Conf) → flat_of text ≡ Ok conf → AreDistinct conf
flat_distinct text conf e =
    let a = accepted text conf e in
    subst AreDistinct a.laid.is
    (made_distinct text a.raw a.laid.items a.laid.triggers a.laid.found.patterns (raw_apart a.raw a.document)
    (depending_sound a.raw a.laid.found.triggers a.laid.triggers (found_sound a.raw a.laid.items a.laid.patterns a.laid.found a.laid.finds) a.laid.links))

pub nothing_distinct : AreDistinct no_conf
nothing_distinct zero j a b e f host name = let z : None ≡ Some a = sym (at_zero no_conf.triggers) ∙ e in absurd (cc)
nothing_distinct (suc i) j a b e f host name = let z : None ≡ Some a = sym (at_suc no_conf.triggers i) ∙ e in absurd (cc)

-- what each accepted text's configuration has, and one of nothing too, each text's has
pub of_any : (Has : Conf → Type 0) → ((text : List ℕ) (conf : Conf) → flat_of text ≡ Ok conf → Has conf) → Has no_conf → (text : List ℕ) → Has (flat text)
of_any Has accepted nothing text = go (flat_of text) refl
  where
    go : (r : Result Conf Flaw) → flat_of text ≡ r → Has (unwrap_or (result_ok r) no_conf)
    go (Ok conf) is = accepted text conf is
    go (Err flaw) is = nothing

-- the same of any text: where it is refused there is no trigger
pub all_distinct : (text : List ℕ) → AreDistinct (flat text)
all_distinct = of_any AreDistinct flat_distinct nothing_distinct
