-- Media that were read have attempts from 1 to 100.
use Rattle.std.proofs.Common.{◌≡◌, ◌∙◌, ℕ, ◌≤◌, Bool, true, false, List, [], ◌∷◌, ◌++◌, length, Option, Some, None, refl, sym, ap, subst, arith}
use Rattle.std.specs.Prelude.{Result, Ok, Err, All, nat_le, ◌&&◌, codes, option_and_then}
use Rattle.std.proofs.lemmas.Bool.Decides.{nat_tests}
use Rattle.std.proofs.lemmas.List.Elements.{All-nil, All-push}
use Rattle.serde_json.specs.Data.{Data, Items, no_items, item}
use Rattle.serde_json.specs.Find.{as_number, as_u64}
use Rattle.json_form.specs.Faults.{Fault, ◌>>=◌}
use Rattle.json_form.specs.Places.{Place, ◌▸◌, spot, an_object, or_bad, given_or, unless_absent, is_between, number_between}
use Rattle.json_form.specs.Lists.{elements, element_place, named_on, named_list}
use Rattle.json_form.specs.Json.{json_within}
use Rattle.alert_media.specs.declared.media.Medium.{Medium}
use Rattle.alert_media.specs.Media.{IsLimited, short_text, new_recipient, interval_of, medium_of, given, entries_of, media_of}

-- what a chain of readings gives, its first reading gave something
bind_ok : {A B : Type 0} (r : Result A Fault) (f : A → Result B Fault) (b : B) → (r >>= f) ≡ Ok b → (a : A) × (r ≡ Ok a) × (f a ≡ Ok b)
bind_ok (Ok a) f b e = (a, refl, e)
bind_ok (Err fault) f b e = absurd (cc)

same_ok : {A : Type 0} (a b : A) → ◌≡◌ {A = Result A Fault} (Ok a) (Ok b) → a ≡ b
same_ok {A} a b e = ap value e
  where
    value : Result A Fault → A
    value (Ok x) = x
    value (Err fault) = a

between : (at : Place) (o : Option ℕ) (n : ℕ) → or_bad at (option_and_then (is_between 1 100) o) ≡ Ok n → (1 ≤ n) × (n ≤ 100)
between at None n e = absurd (cc)
between at (Some k) n e = by_test (nat_le 1 k && nat_le k 100) refl e
  where
    by_test : (t : Bool) → (nat_le 1 k && nat_le k 100) ≡ t → or_bad at (is_between 1 100 k) ≡ Ok n → (1 ≤ n) × (n ≤ 100)
    by_test true is e =
        let found : or_bad at (is_between 1 100 k) ≡ Ok k = rw is refl in
        let same : k ≡ n = same_ok k n (sym found ∙ e) in
        subst (λ (m : ℕ). (1 ≤ m) × (m ≤ 100)) same (grind (arith, nat_tests), grind (arith, nat_tests))
    by_test false is e =
        let none : is_between 1 100 k ≡ None = rw is refl in
        absurd (cc)

number_limited : (at : Place) (n : ℕ) → number_between 1 100 at ≡ Ok n → (1 ≤ n) × (n ≤ 100)
unfolding number_between
number_limited at n e = between at (option_and_then as_u64 (option_and_then as_number at.value)) n e

attempts_limited : (at : Place) (n : ℕ) → given_or 3 (number_between 1 100) at ≡ Ok n → (1 ≤ n) × (n ≤ 100)
unfolding given_or
attempts_limited at n e = by_value at.value e
  where
    by_value : (o : Option Data) → unless_absent 3 (number_between 1 100 at) o ≡ Ok n → (1 ≤ n) × (n ≤ 100)
    by_value None e = subst (λ (m : ℕ). (1 ≤ m) × (m ≤ 100)) (same_ok 3 n e) (omega arith, omega arith)
    by_value (Some d) e = number_limited at n e

medium_limited : (taken : List (List ℕ)) (at : Place) (m : Medium) → medium_of taken at ≡ Ok m → IsLimited m
unfolding medium_of
medium_limited taken at m e =
    let o = bind_ok (an_object at) _ m e in
    let r = bind_ok (new_recipient taken (o.0 ▸ codes "recipient")) _ m o.2 in
    let c = bind_ok (short_text (o.0 ▸ codes "command")) _ m r.2 in
    let a = bind_ok (given_or 3 (number_between 1 100) (o.0 ▸ codes "attempts")) _ m c.2 in
    let i = bind_ok (given_or 10 interval_of (o.0 ▸ codes "interval")) _ m a.2 in
    subst IsLimited (same_ok (record { recipient = r.0; command = c.0; attempts = a.0; interval = i.0 }) m i.2) (attempts_limited (o.0 ▸ codes "attempts") a.0 a.1)

each_limited : (path : List ℕ) (taken : List (List ℕ)) (before : List Medium) (items : Items) (all : List Medium) → All IsLimited before
    → named_on (λ (m : Medium). m.recipient) medium_of path taken before items ≡ Ok all → All IsLimited all
each_limited path taken before no_items all limited e = subst (All IsLimited) (same_ok before all e) limited
each_limited path taken before (item d ds) all limited e =
    let one = bind_ok (medium_of taken (element_place path (length before) d)) _ all e in
    each_limited path (taken ++ one.0.recipient ∷ []) (before ++ one.0 ∷ []) ds all (All-push IsLimited before one.0 limited (medium_limited taken (element_place path (length before) d) one.0 one.1)) one.2

list_limited : (at : Place) (all : List Medium) → named_list (λ (m : Medium). m.recipient) medium_of [] at ≡ Ok all → All IsLimited all
unfolding named_list
list_limited at all e =
    let ds = bind_ok (elements at) _ all e in
    each_limited at.path [] [] ds.0 all (All-nil IsLimited) ds.2

entries_limited : (d : Data) (all : List Medium) → entries_of d ≡ Ok all → All IsLimited all
unfolding entries_of
entries_limited d all e =
    let o = bind_ok (an_object (spot [] d)) _ all e in
    let at = bind_ok (given (o.0 ▸ codes "media")) _ all o.2 in
    list_limited at.0 all at.2

pub media_limited : (bytes : List ℕ) (all : List Medium) → media_of bytes ≡ Ok all → All IsLimited all
media_limited bytes all e =
    let d = bind_ok (json_within 16777216 bytes) _ all e in
    entries_limited d.0 all d.2
