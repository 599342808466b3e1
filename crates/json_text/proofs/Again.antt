-- What is written of a value that was read is the value again.
use Rattle.std.proofs.Common.{◌≡◌, ◌≢◌, ℕ, suc, List, [], ◌∷◌, ◌++◌, refl, ap, sym, ◌∙◌, Bool, true, false, append_assoc, append-nil, subst, if◌then◌else◌, bytes_eq}
use Rattle.std.proofs.lemmas.Slice.Eq.{bytes_eq-Decides}
use Rattle.byte_grammar.specs.Bytes.{Each}
use Rattle.json_text.specs.Bytes.{AreBlanks}
use Rattle.json_text.specs.Json.{Json, object, Items, no_items, item, add, Members, no_members, member, put}
use Rattle.json_text.specs.Grammar.{IsString, IsName, IsValue, is_null, is_true, is_false, is_number, is_words, empty_list, is_list, empty_object, is_object, IsElement, element, AreItems, no_item, next_item, AreMembers, no_member, next_member, IsJson}
use Rattle.json_text.specs.Written.{in_quotes, json_written, items_written, more_items, members_written}
use Rattle.json_text.proofs.AgainStrings.{string_again}

no_blanks : AreBlanks []
unfolding Each
no_blanks = tt

alone : (d : ℕ) (v : List ℕ) (j : Json) → IsValue d v j → IsElement d v j
alone d v j w = element [] v [] no_blanks w no_blanks (sym (append-nil v))

name_alone : (s k : List ℕ) → IsString s k → IsName s k
name_alone s k w = record { x = []; s = s; y = []; before = no_blanks; is = w; behind = no_blanks; parts = sym (append-nil s) }

-- ---- arrays

-- the items as they are written, each with a comma behind it
abbrev commas : Items → List ℕ
commas no_items = []
commas (item j js) = json_written j ++ 44 ∷ commas js

commas-add : (js : Items) (j : Json) → commas (add js j) ≡ commas js ++ (json_written j ++ 44 ∷ [])
commas-add no_items j = refl
commas-add (item i js) j = ap (λ (v : List ℕ). json_written i ++ 44 ∷ v) (commas-add js j) ∙ sym (append_assoc (json_written i) (44 ∷ commas js) _)

more_items-add : (js : Items) (j : Json) → more_items (add js j) ≡ 44 ∷ (commas js ++ (json_written j ++ 93 ∷ []))
more_items-add no_items j = refl
more_items-add (item i js) j = ap (λ (v : List ℕ). 44 ∷ (json_written i ++ v)) (more_items-add js j) ∙ ap (λ (v : List ℕ). 44 ∷ v) (sym (append_assoc (json_written i) (44 ∷ commas js) _))

items_written-add : (js : Items) (j : Json) → items_written (add js j) ≡ commas js ++ (json_written j ++ 93 ∷ [])
items_written-add no_items j = refl
items_written-add (item i js) j = ap (λ (v : List ℕ). json_written i ++ v) (more_items-add js j) ∙ sym (append_assoc (json_written i) (44 ∷ commas js) _)

-- ---- objects

-- no member has this name
abbrev Absent : List ℕ → Members → Type 0
Absent k no_members = Unit {0}
Absent k (member l j ms) = (k ≢ l) × Absent k ms

-- names and values are read again as they are written, and no name stands twice
abbrev Good : ℕ → Members → Type 0
Good d no_members = Unit {0}
Good d (member k j ms) = IsString (in_quotes k) k × IsElement d (json_written j) j × Absent k ms × Good d ms

unequal : (k l : List ℕ) → bytes_eq k l ≡ false → l ≢ k
unequal k l e = λ f. let g = (bytes_eq-Decides k l).1 (sym f) in absurd cc

differs : (k l : List ℕ) → k ≢ l → bytes_eq k l ≡ false
differs k l n = by_test (bytes_eq k l) refl
  where
    by_test : (t : Bool) → bytes_eq k l ≡ t → t ≡ false
    by_test true e = absurd (n ((bytes_eq-Decides k l).0 e))
    by_test false e = refl

absent_if : (c : Bool) (l : List ℕ) (a b : Members) → Absent l a → Absent l b → Absent l (if c then a else b)
absent_if true l a b x y = x
absent_if false l a b x y = y

absent_put : (l k : List ℕ) (j : Json) (ms : Members) → l ≢ k → Absent l ms → Absent l (put k j ms)
absent_put l k j no_members n a = (n, tt)
absent_put l k j (member m i ms) n a = absent_if (bytes_eq k m) l (member m j ms) (member m i (put k j ms)) (a.0, a.1) (a.0, absent_put l k j ms n a.1)

good_if : (c : Bool) (d : ℕ) (a b : Members) → (c ≡ true → Good d a) → (c ≡ false → Good d b) → Good d (if c then a else b)
good_if true d a b x y = x refl
good_if false d a b x y = y refl

good_put : (d : ℕ) (k : List ℕ) (j : Json) (ms : Members) → IsString (in_quotes k) k → IsElement d (json_written j) j → Good d ms → Good d (put k j ms)
good_put d k j no_members s e g = (s, e, tt, tt)
good_put d k j (member l i ms) s e g =
    good_if (bytes_eq k l) d (member l j ms) (member l i (put k j ms)) (λ t. (g.0, e, g.2, g.3))
    (λ t. (g.0, g.1, absent_put l k j ms (unequal k l t) g.2, good_put d k j ms s e g.3))

-- members with more behind them
abbrev joined : Members → Members → Members
joined no_members ms = ms
joined (member k j acc) ms = member k j (joined acc ms)

put_last : (k : List ℕ) (j : Json) (acc : Members) → Absent k acc → put k j acc ≡ joined acc (member k j no_members)
put_last k j no_members a = refl
put_last k j (member l i acc) a = rw (differs k l a.0) (ap (member l i) (put_last k j acc a.1))

joined_on : (acc ms : Members) (k : List ℕ) (j : Json) → joined (joined acc (member k j no_members)) ms ≡ joined acc (member k j ms)
joined_on no_members ms k j = refl
joined_on (member l i acc) ms k j = ap (member l i) (joined_on acc ms k j)

-- none of the second's names is one of the first's
abbrev Fresh : Members → Members → Type 0
Fresh acc no_members = Unit {0}
Fresh acc (member k j ms) = Absent k acc × Fresh acc ms

absent_joined : (l k : List ℕ) (j : Json) (acc : Members) → Absent l acc → l ≢ k → Absent l (joined acc (member k j no_members))
absent_joined l k j no_members a n = (n, tt)
absent_joined l k j (member m i acc) a n = (a.0, absent_joined l k j acc a.1 n)

fresh_on : (acc ms : Members) (k : List ℕ) (j : Json) → Fresh acc ms → Absent k ms → Fresh (joined acc (member k j no_members)) ms
fresh_on acc no_members k j f a = tt
fresh_on acc (member l i ms) k j f a = (absent_joined l k j acc f.0 (λ e. a.0 (sym e)), fresh_on acc ms k j f.1 a.1)

fresh_start : (ms : Members) → Fresh no_members ms
fresh_start no_members = tt
fresh_start (member k j ms) = (tt, fresh_start ms)

-- members behind others, and the closing bracket
object_end : (d : ℕ) (acc : Members) (q k : List ℕ) (j : Json) (ms : Members) → AreMembers d q acc → Good d (member k j ms) → Fresh acc (member k j ms)
    → IsValue (suc d) (123 ∷ (q ++ members_written (member k j ms))) (object (joined acc (member k j ms)))
object_end d acc q k j no_members a g f =
    is_object q (in_quotes k) (json_written j) k acc j a (name_alone (in_quotes k) k g.0) g.1
    (ap (λ (v : List ℕ). 123 ∷ (q ++ v)) (append_assoc (in_quotes k) (58 ∷ json_written j) (125 ∷ []))) (sym (put_last k j acc f.0))
object_end d acc q k j (member l i ms) a g f =
    let next : AreMembers d (q ++ (in_quotes k ++ 58 ∷ (json_written j ++ 44 ∷ []))) (joined acc (member k j no_members)) =
    next_member q (in_quotes k) (json_written j) k acc j a (name_alone (in_quotes k) k g.0) g.1 refl (sym (put_last k j acc f.0)) in
    let rest = object_end d (joined acc (member k j no_members)) (q ++ (in_quotes k ++ 58 ∷ (json_written j ++ 44 ∷ []))) l i ms next g.3 (fresh_on acc (member l i ms) k j f.1 g.2) in
    let same : 123 ∷ ((q ++ (in_quotes k ++ 58 ∷ (json_written j ++ 44 ∷ []))) ++ members_written (member l i ms)) ≡ 123 ∷ (q ++ members_written (member k j (member l i ms))) = simp append_assoc in
    subst (λ (v : List ℕ). IsValue (suc d) v (object (joined acc (member k j (member l i ms))))) same
    (subst (λ (v : Members). IsValue (suc d) (123 ∷ ((q ++ (in_quotes k ++ 58 ∷ (json_written j ++ 44 ∷ []))) ++ members_written (member l i ms))) (object v)) (joined_on acc (member l i ms) k j) rest)

object_again : (d : ℕ) (ms : Members) → Good d ms → IsValue (suc d) (json_written (object ms)) (object ms)
object_again d no_members g = empty_object [] no_blanks refl
object_again d (member k j ms) g = object_end d no_members [] k j ms no_member g (fresh_start (member k j ms))

-- ---- values

mutual
  value_again : {d : ℕ} {t : List ℕ} {j : Json} → IsValue d t j → IsValue d (json_written j) j
  value_again (is_null e) = is_null refl
  value_again (is_true e) = is_true refl
  value_again (is_false e) = is_false refl
  value_again (is_number n) = is_number n
  value_again {t = t} (is_words {s = s} w) = is_words (string_again t s w)
  value_again (empty_list x a e) = empty_list [] no_blanks refl
  value_again (is_list {d = d} q e js j f g et ea) =
      is_list (commas js) (json_written j) js j (items_again f) (element_again g) (ap (λ (v : Items). 91 ∷ items_written v) ea ∙ ap (λ (v : List ℕ). 91 ∷ v) (items_written-add js j)) ea
  value_again (empty_object x a e) = empty_object [] no_blanks refl
  value_again (is_object {d = d} q w e k ms j f n g et ea) =
      subst (λ (v : Members). IsValue (suc d) (json_written (object v)) (object v)) (sym ea)
      (object_again d (put k j ms) (good_put d k j ms (string_again n.s k n.is) (element_again g) (members_again f)))

  element_again : {d : ℕ} {t : List ℕ} {j : Json} → IsElement d t j → IsElement d (json_written j) j
  element_again {d = d} {j = j} (element x v y ax f ay e) = alone d (json_written j) j (value_again f)

  items_again : {d : ℕ} {q : List ℕ} {js : Items} → AreItems d q js → AreItems d (commas js) js
  items_again no_item = no_item
  items_again (next_item q e js j f g et ea) = next_item (commas js) (json_written j) js j (items_again f) (element_again g) (ap commas ea ∙ commas-add js j) ea

  members_again : {d : ℕ} {q : List ℕ} {ms : Members} → AreMembers d q ms → Good d ms
  members_again no_member = tt
  members_again (next_member {d = d} q w e k ms j f n g et ea) =
      subst (Good d) (sym ea) (good_put d k j ms (string_again n.s k n.is) (element_again g) (members_again f))

-- a value that some text is, is what is written of it
pub again : (text : List ℕ) (j : Json) → IsJson text j → IsJson (json_written j) j
again text j g = element_again g
