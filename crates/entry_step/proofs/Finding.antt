-- Triggers found by the names of their hosts and their own, and tags by their names.
use Rattle.std.proofs.Common.{◌≡◌, ◌+◌, ℕ, zero, suc, ◌&&◌, ◌||◌, not, Bool, true, false, cond, Option, Some, None, List, [], ◌∷◌, ◌++◌, map, length, slice_get, refl, sym, ◌∙◌, ap, ap₂, arith, append_assoc, length-append}
use Rattle.std.specs.Prelude.{option_and_then}
use Rattle.std.specs.List.{position_from, find, list_any}
use Rattle.std.specs.Option.{option_map_or}
use Rattle.std.specs.Cmp.Lexicographic.{bytes_decides}
use Rattle.std.specs.Str.{bytes_eq}
use Rattle.zbx_types.specs.Ids.{at_id}
use Rattle.zbx_types.specs.declared.conf.Conf.{Conf}
use Rattle.zbx_types.specs.declared.entries.Tag.{Tag}
use Rattle.zbx_types.specs.declared.triggers.Trigger.{Trigger}
use Rattle.zbx_types.proofs.RowLemmas.{at_zero, at_suc}
use Rattle.zbx_types.specs.Records as records
use Rattle.trigger_state.specs.Carry.{same_names, trigger_for, is_one_of}
use Rattle.trigger_state.specs.Stages.{has_names, id_named}
use Rattle.entry_step.specs.Named.{AreDistinct, host_of}
use Rattle.entry_step.specs.Whole.{GoneByNames}
use Rattle.entry_step.proofs.Members.{and_left, and_right, and_both}

pub same_text : (a b : List ℕ) → bytes_eq a b ≡ true → a ≡ b
same_text a b e = (bytes_decides a b).0 e

pub text_same : (a b : List ℕ) → a ≡ b → bytes_eq a b ≡ true
text_same a b e = (bytes_decides a b).1 e

pub some_one : {A : Type 0} (x y : A) → Some x ≡ Some y → x ≡ y
some_one x y e = cc

-- what is found at a place
pub at_place : {A : Type 0} (p : A → Bool) (first : ℕ) (xs : List A) (k : ℕ) → position_from p first xs ≡ Some k → (place : ℕ) × (k ≡ first + place) × ((x : A) × (slice_get xs place ≡ Some x) × (p x ≡ true))
at_place p first [] k e = absurd (let z : None ≡ Some k = e in cc)
at_place {A} p first (x ∷ xs) k e = go (p x) refl e (at_place p (first + 1) xs k)
  where
    go : (b : Bool) → p x ≡ b → cond b (Some first) (position_from p (first + 1) xs) ≡ Some k
        → (position_from p (first + 1) xs ≡ Some k → (place : ℕ) × (k ≡ first + 1 + place) × ((y : A) × (slice_get xs place ≡ Some y) × (p y ≡ true)))
        → (place : ℕ) × (k ≡ first + place) × ((y : A) × (slice_get (x ∷ xs) place ≡ Some y) × (p y ≡ true))
    go true q f ih = (0, (let z : first ≡ k = some_one first k f in omega arith), (x, refl, q))
    go false q f ih = let r = ih f in (suc r.0, (let z = r.1 in omega arith), r.2)

-- and nothing passes where nothing is found
pub none_passes : {A : Type 0} (p : A → Bool) (first : ℕ) (xs : List A) (place : ℕ) (x : A) → position_from p first xs ≡ None → slice_get xs place ≡ Some x → p x ≡ false
none_passes p first [] place x e s = absurd (let z : None ≡ Some x = s in cc)
none_passes {A} p first (y ∷ xs) place x e s = go (p y) refl e (none_passes p (first + 1) xs) place s
  where
    go : (b : Bool) → p y ≡ b → cond b (Some first) (position_from p (first + 1) xs) ≡ None
        → ((k : ℕ) (z : A) → position_from p (first + 1) xs ≡ None → slice_get xs k ≡ Some z → p z ≡ false) → (k : ℕ) → slice_get (y ∷ xs) k ≡ Some x → p x ≡ false
    go true q f ih k s = absurd (let z : Some first ≡ None = f in cc)
    go false q f ih zero s = ap p (sym (some_one y x s)) ∙ q
    go false q f ih (suc k) s = ih k x f s

-- the trigger with some names has them
pub record Found (conf : Conf) (host name : List ℕ) (id : ℕ) : Type 0 where
  pub trigger : Trigger
  pub there : at_id conf.triggers id ≡ Some trigger
  pub its_host : host_of conf trigger ≡ host
  pub its_name : trigger.name ≡ name

pub named_found : (conf : Conf) (host name : List ℕ) (id : ℕ) → id_named conf host name ≡ Some id → Found conf host name id
named_found conf host name id e =
    let r = at_place (has_names conf host name) 1 conf.triggers id e in
    let t = r.2.0 in
    let at : id ≡ suc r.0 = r.1 ∙ (let z : 1 + r.0 ≡ suc r.0 = omega arith in z) in
    record {
      trigger = t;
      there = ap (at_id conf.triggers) at ∙ at_suc conf.triggers r.0 ∙ r.2.1;
      its_host = same_text (host_of conf t) host (and_left (bytes_eq (host_of conf t) host) (bytes_eq t.name name) r.2.2);
      its_name = same_text t.name name (and_right (bytes_eq (host_of conf t) host) (bytes_eq t.name name) r.2.2);
    }

pub named_is : (conf : Conf) → AreDistinct conf → (id : ℕ) (trigger : Trigger) → at_id conf.triggers id ≡ Some trigger → id_named conf (host_of conf trigger) trigger.name ≡ Some id
named_is conf distinct id trigger there = go (id_named conf (host_of conf trigger) trigger.name) refl
  where
    has : has_names conf (host_of conf trigger) trigger.name trigger ≡ true
    has = and_both (bytes_eq (host_of conf trigger) (host_of conf trigger)) (bytes_eq trigger.name trigger.name) (text_same (host_of conf trigger) (host_of conf trigger) refl) (text_same trigger.name trigger.name refl)

    none : (k : ℕ) → at_id conf.triggers k ≡ Some trigger → id_named conf (host_of conf trigger) trigger.name ≡ None → ⊥
    none zero t e = let z : None ≡ Some trigger = sym (at_zero conf.triggers) ∙ t in absurd (cc)
    none (suc place) t e =
        let f = none_passes (has_names conf (host_of conf trigger) trigger.name) 1 conf.triggers place trigger e (sym (at_suc conf.triggers place) ∙ t) in
        let z : true ≡ false = sym has ∙ f in absurd (cc)

    go : (x : Option ℕ) → id_named conf (host_of conf trigger) trigger.name ≡ x → x ≡ Some id
    go None e = absurd (none id there e)
    go (Some k) e =
        let f = named_found conf (host_of conf trigger) trigger.name k e in
        ap (λ n. Some n) (distinct k id f.trigger trigger f.there there (text_same (host_of conf f.trigger) (host_of conf trigger) f.its_host) (text_same f.trigger.name trigger.name f.its_name))

-- lists of tags with the same names
pub names_same : (xs ys zs : List Tag) → map (λ (t : Tag). t.tag) xs ≡ map (λ (t : Tag). t.tag) ys → same_names xs zs ≡ same_names ys zs
names_same [] [] zs e = refl
names_same [] (y ∷ ys) zs e = absurd (cc)
names_same (x ∷ xs) [] zs e = absurd (cc)
names_same (x ∷ xs) (y ∷ ys) [] e = refl
names_same (x ∷ xs) (y ∷ ys) (z ∷ zs) e =
    let head : x.tag ≡ y.tag = cc in
    let tail : map (λ (t : Tag). t.tag) xs ≡ map (λ (t : Tag). t.tag) ys = cc in
    ap₂ (λ b c. b && c) (ap (λ n. bytes_eq n z.tag) head) (names_same xs ys zs tail)

pub names_are : (xs ys : List Tag) → same_names xs ys ≡ true → map (λ (t : Tag). t.tag) xs ≡ map (λ (t : Tag). t.tag) ys
names_are [] [] e = refl
names_are [] (y ∷ ys) e = absurd (cc)
names_are (x ∷ xs) [] e = absurd (cc)
names_are (x ∷ xs) (y ∷ ys) e =
    ap₂ (λ n ns. n ∷ ns) (same_text x.tag y.tag (and_left (bytes_eq x.tag y.tag) (same_names xs ys) e)) (names_are xs ys (and_right (bytes_eq x.tag y.tag) (same_names xs ys) e))

-- the first that passes a test is the only one
module _ {A : Type 0} (p q : A → Bool) where
  none_of : (xs : List A) → ((k : ℕ) (x : A) → slice_get xs k ≡ Some x → p x ≡ false) → list_any (λ x. p x && q x) xs ≡ false
  none_of [] h = refl
  none_of (x ∷ xs) h = ap (λ b. (b && q x) || list_any (λ y. p y && q y) xs) (h 0 x refl) ∙ none_of xs (λ k y e. h (suc k) y e)

  any_first : (xs : List A) → ((i k : ℕ) (x y : A) → slice_get xs i ≡ Some x → slice_get xs k ≡ Some y → p x ≡ true → p y ≡ true → i ≡ k) → list_any (λ x. p x && q x) xs ≡ option_map_or q (find p xs) false
  any_first [] once = refl
  any_first (x ∷ xs) once = go (p x) refl (any_first xs (λ i k y z e f a b. let s = once (suc i) (suc k) y z e f a b in (let r : i ≡ k = omega arith in r)))
    where
      apart : p x ≡ true → (k : ℕ) (y : A) → slice_get xs k ≡ Some y → p y ≡ false
      apart a k y e = at (p y) refl
        where
          at : (b : Bool) → p y ≡ b → p y ≡ false
          at true f = let s : 0 ≡ suc k = once 0 (suc k) x y refl e a f in absurd (omega arith)
          at false f = f

      alone : (b : Bool) → (b || false) ≡ b
      alone true = refl
      alone false = refl

      go : (b : Bool) → p x ≡ b → list_any (λ y. p y && q y) xs ≡ option_map_or q (find p xs) false → ((p x && q x) || list_any (λ y. p y && q y) xs) ≡ option_map_or q (cond (p x) (Some x) (find p xs)) false
      go true e ih = rw e (ap (λ b. q x || b) (none_of xs (apart e)) ∙ alone (q x))
      go false e ih = rw e ih

got_behind : {A : Type 0} (before : List A) (x : A) (xs : List A) → slice_get (before ++ x ∷ xs) (length before) ≡ Some x
got_behind [] x xs = refl
got_behind (y ∷ before) x xs = got_behind before x xs

-- what stands at the place of the first that passes
at_first : {A : Type 0} (p : A → Bool) (before xs : List A) (first : ℕ) → first ≡ suc (length before) → option_and_then (at_id (before ++ xs)) (position_from p first xs) ≡ find p xs
at_first p before [] first s = refl
at_first {A} p before (x ∷ xs) first s =
    go (p x) (ap (λ ys. option_and_then (at_id ys) (position_from p (first + 1) xs)) (sym (append_assoc before (x ∷ []) xs))
    ∙ at_first p (before ++ x ∷ []) xs (first + 1) (let n = length-append before (x ∷ []) in (let r : first + 1 ≡ suc (length (before ++ x ∷ [])) = omega arith in r)))
  where
    go : (b : Bool) → option_and_then (at_id (before ++ x ∷ xs)) (position_from p (first + 1) xs) ≡ find p xs
        → option_and_then (at_id (before ++ x ∷ xs)) (cond b (Some first) (position_from p (first + 1) xs)) ≡ cond b (Some x) (find p xs)
    go true ih = ap (at_id (before ++ x ∷ xs)) s ∙ at_suc (before ++ x ∷ xs) (length before) ∙ got_behind before x xs
    go false ih = ih

-- a problem goes on exactly where a trigger goes with it
pub gone_by_names : GoneByNames
gone_by_names conf o distinct = ap not (one_is (trigger_for conf o.problem) ∙ ap (λ t. option_map_or tags t false) (at_first named [] conf.triggers 1 refl) ∙ sym (any_first named tags conf.triggers once))
  where
    named : Trigger → Bool
    named = has_names conf (records.host_of o.problem) (records.trigger_name_of o.problem)

    tags : Trigger → Bool
    tags t = same_names (records.tags_of o.problem) t.tags

    one_is : (t : Option Trigger) → is_one_of o.problem t ≡ option_map_or tags t false
    one_is None = refl
    one_is (Some t) = refl

    once : (i k : ℕ) (a b : Trigger) → slice_get conf.triggers i ≡ Some a → slice_get conf.triggers k ≡ Some b → named a ≡ true → named b ≡ true → i ≡ k
    once i k a b e f m n =
        let host : List ℕ = records.host_of o.problem in
        let name : List ℕ = records.trigger_name_of o.problem in
        let s = distinct (suc i) (suc k) a b (at_suc conf.triggers i ∙ e) (at_suc conf.triggers k ∙ f)
        (text_same (host_of conf a) (host_of conf b) (same_text (host_of conf a) host (and_left (bytes_eq (host_of conf a) host) (bytes_eq a.name name) m) ∙ sym (same_text (host_of conf b) host (and_left (bytes_eq (host_of conf b) host) (bytes_eq b.name name) n))))
        (text_same a.name b.name (same_text a.name name (and_right (bytes_eq (host_of conf a) host) (bytes_eq a.name name) m) ∙ sym (same_text b.name name (and_right (bytes_eq (host_of conf b) host) (bytes_eq b.name name) n)))) in
        (let r : i ≡ k = omega arith in r)
