-- Triggers with what they depend on.
use Rattle.std.proofs.Common.{◌≡◌, ℕ, suc, ◌+◌, ◌<◌, All, ◌&&◌, ◌==◌, Bool, List, [], ◌∷◌, ◌++◌, length, map, get_or, position, slice_get, Option, Some, None, option_map, refl, ap, sym, ◌∙◌, subst, arith, Result, Ok, Err}
use Rattle.std.specs.List.{position_or_len}
use Rattle.std.specs.Str.{bytes_eq}
use Rattle.std.proofs.lemmas.List.{length-map, map_push}
use Rattle.std.proofs.lemmas.List.Elements.{All-same}
use Rattle.std.proofs.lemmas.List.Quantifiers.{position-Some}
use Rattle.std.proofs.lemmas.Option.{slice_get-map}
use Rattle.zbx_types.specs.declared.triggers.Trigger.{Trigger}
use Rattle.json_form.specs.Faults.{Fault}
use Rattle.config_read.specs.declared.raw.RawConf.{RawConf}
use Rattle.host_layout.specs.Places.{Flaw, unless, ◌>>=◌}
use Rattle.host_layout.specs.Names.{is_named, named_trigger, named_triggers}
use Rattle.host_layout.specs.Answers.{Fails, Tells}
use Rattle.config_templates.specs.Depends.{Depending, trigger_placed, dependings_of, links_of, cyclic, linked, linked_from, all_linked, depending}
use Rattle.config_templates.specs.Dependings.{depending_now, dependings_now}
use Rattle.config_templates.specs.declared.depends.Dependencies.{Dependencies as Held}
use Rattle.host_layout.specs.declared.fault.FlatError.{FlatError}
use Rattle.host_layout.specs.declared.fault.FlatError.TheVariants.{Refused, OutOfMemory}

lens_placed : (host : ℕ) (name : List ℕ) (ts : List Trigger) → position_or_len (is_named host name) (named_triggers ts) ≡ position_or_len (λ t. (t.host == host) && bytes_eq t.name name) ts
lens_placed host name [] = refl
lens_placed host name (t ∷ ts) = rw (lens_placed host name ts) refl

-- a trigger stands where its name stands among the names
pub placed_named : (host : ℕ) (name : List ℕ) (ts : List Trigger) → position (is_named host name) (named_triggers ts) ≡ trigger_placed ts host name
placed_named host name ts = rw (lens_placed host name ts, length-map ts named_trigger) refl

pub placed_within : (ts : List Trigger) (host : ℕ) (name : List ℕ) (place : ℕ) → trigger_placed ts host name ≡ Some place → place < length ts
placed_within [] host name place e = absurd (let no : ⊥ = cc in no)
placed_within (t ∷ ts) host name place e = (position-Some (λ t. (t.host == host) && bytes_eq t.name name) (t ∷ ts) place t e).0

-- what stands at a place, as it is seen
pub held_at : (ds : List Held) (k : ℕ) → slice_get (dependings_now ds) k ≡ option_map depending_now (slice_get ds k)
held_at ds k = slice_get-map depending_now ds k

pub length-linked_from : (links : List (List ℕ)) (depths : List ℕ) (place : ℕ) (ts : List Trigger) → length (linked_from links depths place ts) ≡ length ts
length-linked_from links depths place [] = refl
length-linked_from links depths place (t ∷ ts) = ap suc (length-linked_from links depths (place + 1) ts)

linked_push : (links : List (List ℕ)) (depths : List ℕ) (place : ℕ) (ts : List Trigger) (t : Trigger)
    → linked_from links depths place (ts ++ t ∷ []) ≡ linked_from links depths place ts ++ linked t (get_or links (place + length ts) []) (get_or depths (place + length ts) 0) ∷ []
linked_push links depths place [] t =
    let e : place ≡ place + 0 = omega arith in ap (λ n. linked t (get_or links n []) (get_or depths n 0) ∷ []) e
linked_push links depths place (u ∷ ts) t =
    let e : place + 1 + length ts ≡ place + length (u ∷ ts) = omega arith in
    ap (λ r. linked u (get_or links place []) (get_or depths place 0) ∷ r)
    (linked_push links depths (place + 1) ts t
    ∙ ap (λ n. linked_from links depths (place + 1) ts ++ linked t (get_or links n []) (get_or depths n 0) ∷ []) e)

-- one trigger more
pub linked_more : (links : List (List ℕ)) (depths : List ℕ) (before : List Trigger) (t : Trigger) (made after : List Trigger) (place : ℕ) → made ≡ linked_from links depths 0 before → place ≡ length made
    → after ≡ made ++ linked t (get_or links place []) (get_or depths place 0) ∷ [] → after ≡ linked_from links depths 0 (before ++ t ∷ [])
linked_more links depths before t made after place m p a =
    let e : place ≡ 0 + length before = omega (arith, p, ap length m, length-linked_from links depths 0 before) in
    a ∙ ap (λ n. made ++ linked t (get_or links n []) (get_or depths n 0) ∷ []) e
    ∙ ap (λ ts. ts ++ linked t (get_or links (0 + length before) []) (get_or depths (0 + length before) 0) ∷ []) m
    ∙ sym (linked_push links depths 0 before t)

-- as many links as triggers, and each leads to one of them
pub closed_links : (links ls : List (List ℕ)) (n : ℕ) → links ≡ ls → length ls ≡ n → All (λ ends. All (λ t. t < n) ends) ls → All (λ ends. All (λ t. t < length links) ends) links
closed_links links ls n e size all =
    let P : ℕ → Type 0 = λ m. All (λ ends. All (λ t. t < m) ends) links in
    subst P (sym (ap length e ∙ size)) (All-same (λ ends. All (λ t. t < n) ends) links ls e all)

found_then : (raw : RawConf) (triggers : List Trigger) (ds : List Depending) → dependings_of raw triggers ≡ Ok ds
    → depending raw triggers ≡ (unless ds (cyclic ds) >>= λ found. Ok (all_linked triggers (links_of found)))
unfolding depending
found_then raw triggers ds h = ap (λ r. r >>= λ found. unless found (cyclic found) >>= λ dependings. Ok (all_linked triggers (links_of dependings))) h

-- no dependency lies on a cycle
pub given : (raw : RawConf) (triggers after : List Trigger) (ds : List Depending) → dependings_of raw triggers ≡ Ok ds → cyclic ds ≡ None → after ≡ all_linked triggers (links_of ds)
    → depending raw triggers ≡ Ok after
given raw triggers after ds h none e =
    found_then raw triggers ds h
    ∙ ap (λ f. unless ds f >>= λ found. Ok (all_linked triggers (links_of found))) none
    ∙ ap (λ (ts : List Trigger). Ok ts) (sym e)

-- what fails fails whatever follows
pub bound_fails : {A B : Type 0} (e : FlatError) (r : Result A Flaw) (k : A → Result B Flaw) → Fails e r → Fails e (r >>= k)
bound_fails OutOfMemory r k h = tt
bound_fails (Refused path cause) r k h = ap (λ x. x >>= k) h

-- a name isn't known
pub found_fails : (e : FlatError) (raw : RawConf) (triggers : List Trigger) → Fails e (dependings_of raw triggers) → Fails e (depending raw triggers)
unfolding depending
found_fails e raw triggers h = bound_fails e (dependings_of raw triggers) (λ found. unless found (cyclic found) >>= λ dependings. Ok (all_linked triggers (links_of dependings))) h

-- what is told where something isn't known
pub told_fails : {A B : Type 0} (e : FlatError) (fault : Option Fault) (a : A) (k : A → Result B Flaw) → Tells e fault → Fails e (unless a fault >>= k)
told_fails OutOfMemory fault a k t = tt
told_fails (Refused path cause) fault a k t = ap (λ f. unless a f >>= k) t

-- a dependency lies on a cycle
pub cycle_fails : (e : FlatError) (raw : RawConf) (triggers : List Trigger) (ds : List Depending) → dependings_of raw triggers ≡ Ok ds → Tells e (cyclic ds) → Fails e (depending raw triggers)
cycle_fails e raw triggers ds h t =
    subst (Fails e) (sym (found_then raw triggers ds h)) (told_fails e (cyclic ds) ds (λ found. Ok (all_linked triggers (links_of found))) t)
