-- What the grammar says is a value, the machine takes, and makes the same value of it.
use Rattle.std.proofs.Common.{◌≡◌, ℕ, suc, ◌+◌, ◌≤◌, ◌<◌, ◌==◌, List, [], ◌∷◌, ◌++◌, length, refl, ap, sym, ◌∙◌, Option, Some, None, Bool, true, false, arith, nat_lt, if◌then◌else◌}
use Rattle.std.proofs.lemmas.Bool.Decides.{nat_tests}
use Rattle.byte_grammar.specs.Bytes.{Each, is_digit, is_e}
use Rattle.byte_grammar.specs.Runs.{run}
use Rattle.json_text.specs.Bytes.{is_blank, is_sign, AreBlanks}
use Rattle.json_text.specs.Json.{Json, null, boolean, number, words, list, object, Items, no_items, add, Members, no_members, put}
use Rattle.json_text.specs.Grammar.{IsNumber, IsString, IsName, IsValue, is_null, is_true, is_false, is_number, is_words, empty_list, is_list, empty_object, is_object, IsElement, element, AreItems, no_item, next_item, AreMembers, no_member, next_member, IsJson}
use Rattle.json_text.specs.Tokens.{number_step, number_ends, spot}
use Rattle.json_text.specs.Machine.{to, opened, quoted, move, behind, after, held, ends_at, json_at, begun}
use Rattle.json_text.specs.declared.frame.Frame.{Frame}
use Rattle.json_text.specs.declared.frame.Frame.TheVariants.{Array, Object}
use Rattle.json_text.specs.declared.place.Use.{Use}
use Rattle.json_text.specs.declared.place.Use.TheVariants.{ForValue, ForName}
use Rattle.json_text.specs.declared.place.Mode.{Mode}
use Rattle.json_text.specs.declared.place.Mode.TheVariants.{Value, FirstItem, FirstName, NextName, Named, Number, String, Done}
use Rattle.json_text.specs.declared.machine.State.{State}
use Rattle.json_text.specs.declared.number.InNumber.{InNumber}
use Rattle.json_text.specs.declared.number.InNumber.TheVariants.{Minus, Zero, Whole, Point, Fraction, Exponent, Signed, Digits}
use Rattle.json_text.specs.declared.string.InString.TheVariants.{Between}
use Rattle.json_text.proofs.Runs.{joined, stepped, no_step}
use Rattle.json_text.proofs.CompleteStrings.{chars_run}
use Rattle.json_text.proofs.CompleteNumbers.{Begins, number_run}

-- a place that blanks don't change
abbrev Idles : Mode → Type 0
Idles m = (k : List Frame) (b : ℕ) → is_blank b ≡ true → move m k b ≡ to m k

blanks_run : (m : Mode) → Idles m → (k : List Frame) (x : List ℕ) → AreBlanks x → after (to m k) x ≡ to m k
unfolding Each
blanks_run m on k [] a = no_step _
blanks_run m on k (b ∷ x) a = stepped m k b x (to m k) (on k b a.0) ∙ blanks_run m on k x a.1

-- ---- behind a value

-- a run to the end of a value
record Leads (r : Option State) (k : List Frame) (j : Json) : Type 0 where
  mode : Mode
  is : r ≡ to mode k
  holds : held mode ≡ Some j

-- a byte that belongs to no number
abbrev Stops : ℕ → Type 0
Stops b = (is_digit b ≡ false) × (is_e b ≡ false) × (is_sign b ≡ false) × ((b == 46) ≡ false)

stops : (n : InNumber) (b : ℕ) → Stops b → number_step n b ≡ None
stops Minus b s = let z : (b == 48) ≡ false = zero_digit b s.0 in rw (z, s.0) refl
  where
    zero_digit : (b : ℕ) → is_digit b ≡ false → (b == 48) ≡ false
    zero_digit b h = grind (arith, nat_tests)
stops Zero b s = rw (s.3, s.1) refl
stops Whole b s = rw (s.0, s.3, s.1) refl
stops Point b s = rw s.0 refl
stops Fraction b s = rw (s.0, s.1) refl
stops Exponent b s = rw (s.2, s.0) refl
stops Signed b s = rw s.0 refl
stops Digits b s = rw s.0 refl

blank_stops : (b : ℕ) → is_blank b ≡ true → Stops b
blank_stops b h = (grind (arith, nat_tests), grind (arith, nat_tests), grind (arith, nat_tests), grind (arith, nat_tests))

number_ends_by : (e : Bool) (s : List ℕ) (j : Json) → (if e then Some (number s) else None) ≡ Some j → (e ≡ true) × (number s ≡ j)
number_ends_by true s j h = (refl, cc)
number_ends_by false s j h = absurd cc

behind_step : (m : Mode) (k : List Frame) (j : Json) (b : ℕ) → held m ≡ Some j → Stops b → move m k b ≡ behind j k b
behind_step (Number n s) k j b h st = let g = number_ends_by (number_ends n) s j h in rw (stops n b st, g.0) (ap (λ (i : Json). behind i k b) g.1)
behind_step (Done i) k j b h st = let e : i ≡ j = cc in ap (λ (x : Json). behind x k b) e
behind_step _ k j b h st = absurd cc

done_idles : (j : Json) → Idles (Done j)
done_idles j k b h = rw h refl

-- blanks behind a value
blanks_behind : (m : Mode) (k : List Frame) (j : Json) (y : List ℕ) → held m ≡ Some j → AreBlanks y → Leads (after (to m k) y) k j
unfolding Each
blanks_behind m k j [] h a = record { mode = m; is = no_step _; holds = h }
blanks_behind m k j (b ∷ y) h a = record {
  mode = Done j;
  is = stepped m k b y (to (Done j) k) (behind_step m k j b h (blank_stops b a.0) ∙ rw a.0 refl) ∙ blanks_run (Done j) (done_idles j) k y a.1;
  holds = refl;
}

-- a byte behind a value that was led to
byte_behind : (r : Option State) (k : List Frame) (j : Json) (b : ℕ) (t : Option State) → Leads r k j → Stops b → behind j k b ≡ t → after r (b ∷ []) ≡ t
byte_behind r k j b t l s e = rw l.is (stepped l.mode k b [] t (behind_step l.mode k j b l.holds s ∙ e) ∙ no_step _)

comma_stops : Stops 44
comma_stops = (refl, refl, refl, refl)

bracket_stops : Stops 93
bracket_stops = (refl, refl, refl, refl)

brace_stops : Stops 125
brace_stops = (refl, refl, refl, refl)

-- ---- the claims

abbrev ForValue' : ℕ → List ℕ → Json → Type 0
ForValue' d t j = (m : Mode) (k k' : List Frame) → Begins m k k' → d + length k' ≤ 64 → Leads (after (to m k) t) k' j

abbrev ForElement : ℕ → List ℕ → Json → Type 0
ForElement d t j = (m : Mode) (k k' : List Frame) → Begins m k k' → Idles m → d + length k' ≤ 64 → Leads (after (to m k) t) k' j

-- a run over items to where the next one may begin
record LeadsItems (r : Option State) (k : List Frame) (js : Items) : Type 0 where
  mode : Mode
  stack : List Frame
  is : r ≡ to mode stack
  begins : Begins mode stack (Array js ∷ k)
  idles : Idles mode

abbrev ForItems : ℕ → List ℕ → Items → Type 0
ForItems d q js = (k : List Frame) → d + suc (length k) ≤ 64 → LeadsItems (after (to FirstItem k) q) k js

-- a run over members to where the next one may begin
record LeadsMembers (r : Option State) (k : List Frame) (ms : Members) : Type 0 where
  mode : Mode
  is : r ≡ to mode k
  quote : move mode k 34 ≡ to (quoted (ForName ms)) k
  idles : Idles mode

abbrev ForMembers : ℕ → List ℕ → Members → Type 0
ForMembers d q ms = (k : List Frame) → d + suc (length k) ≤ 64 → LeadsMembers (after (to FirstName k) q) k ms

value_begins : (k : List Frame) → Begins Value k k
value_begins k b h g = rw h refl

value_idles : Idles Value
value_idles k b h = rw h refl

first_item_begins : (k : List Frame) → Begins FirstItem k (Array no_items ∷ k)
first_item_begins k b h g = rw (h, g) refl

first_item_idles : Idles FirstItem
first_item_idles k b h = rw h refl

first_name_idles : Idles FirstName
first_name_idles k b h = rw h refl

next_name_idles : (ms : Members) → Idles (NextName ms)
next_name_idles ms k b h = rw h refl

named_idles : (ms : Members) (name : List ℕ) → Idles (Named ms name)
named_idles ms name k b h = rw h refl

-- ---- literals, numbers and strings

literal_run : (m : Mode) (k k' : List Frame) (b : ℕ) (bs : List ℕ) (j : Json) → Begins m k k' → is_blank b ≡ false → (b == 93) ≡ false
    → after (begun k' b) bs ≡ to (Done j) k' → Leads (after (to m k) (b ∷ bs)) k' j
literal_run m k k' b bs j on x y e = record { mode = Done j; is = stepped m k b bs (begun k' b) (on b x y) ∙ e; holds = refl }

do_null : (d : ℕ) → ForValue' d (110 ∷ 117 ∷ 108 ∷ 108 ∷ []) null
unfolding run
do_null d m k k' on room = literal_run m k k' 110 (117 ∷ 108 ∷ 108 ∷ []) null on refl refl refl

do_true : (d : ℕ) → ForValue' d (116 ∷ 114 ∷ 117 ∷ 101 ∷ []) (boolean true)
unfolding run
do_true d m k k' on room = literal_run m k k' 116 (114 ∷ 117 ∷ 101 ∷ []) (boolean true) on refl refl refl

do_false : (d : ℕ) → ForValue' d (102 ∷ 97 ∷ 108 ∷ 115 ∷ 101 ∷ []) (boolean false)
unfolding run
do_false d m k k' on room = literal_run m k k' 102 (97 ∷ 108 ∷ 115 ∷ 101 ∷ []) (boolean false) on refl refl refl

do_number : (d : ℕ) (t : List ℕ) → IsNumber t → ForValue' d t (number t)
do_number d t n m k k' on room = let r = number_run m k k' t on n in record { mode = Number r.0 t; is = r.1; holds = rw r.2 refl }

-- a string from its first quote to behind its last
string_run : (m : Mode) (k k' : List Frame) (u : Use) (t s : List ℕ) (end : Option State) → IsString t s → move m k 34 ≡ to (quoted u) k'
    → move (String u (spot Between s)) k' 34 ≡ end → after (to m k) t ≡ end
string_run m k k' u t s end w on e =
    rw w.2 (stepped m k 34 (w.0 ++ 34 ∷ []) (to (quoted u) k') on
    ∙ joined (to (quoted u) k') (to (String u (spot Between s)) k') w.0 (34 ∷ []) (chars_run u k' w.1)
    ∙ stepped (String u (spot Between s)) k' 34 [] end e ∙ no_step _)

do_words : (d : ℕ) (t s : List ℕ) → IsString t s → ForValue' d t (words s)
do_words d t s w m k k' on room = record { mode = Done (words s); is = string_run m k k' ForValue t s (to (Done (words s)) k') w (on 34 refl refl) refl; holds = refl }

-- a name from where it may begin to behind it
name_run : (m : Mode) (k : List Frame) (ms : Members) (w name : List ℕ) → Idles m → move m k 34 ≡ to (quoted (ForName ms)) k → IsName w name
    → after (to m k) w ≡ to (Named ms name) k
name_run m k ms w name idle quote n =
    rw n.parts (joined (to m k) (to m k) n.x (n.s ++ n.y) (blanks_run m idle k n.x n.before)
    ∙ joined (to m k) (to (Named ms name) k) n.s n.y (string_run m k k (ForName ms) n.s name (to (Named ms name) k) n.is quote refl)
    ∙ blanks_run (Named ms name) (named_idles ms name) k n.y n.behind)

-- ---- containers

open_room : (m : Mode) (k : List Frame) → length k < 64 → opened m k ≡ to m k
open_room m k h = let e : nat_lt (length k) 64 ≡ true = grind (arith, nat_tests) in rw e refl

open_list : (m : Mode) (k k' : List Frame) → Begins m k k' → length k' < 64 → (t : List ℕ) → after (to m k) (91 ∷ t) ≡ after (to FirstItem k') t
open_list m k k' on room t = stepped m k 91 t (to FirstItem k') (on 91 refl refl ∙ open_room FirstItem k' room)

open_object : (m : Mode) (k k' : List Frame) → Begins m k k' → length k' < 64 → (t : List ℕ) → after (to m k) (123 ∷ t) ≡ after (to FirstName k') t
open_object m k k' on room t = stepped m k 123 t (to FirstName k') (on 123 refl refl ∙ open_room FirstName k' room)

do_empty_list : (d : ℕ) (x : List ℕ) → AreBlanks x → ForValue' (suc d) (91 ∷ (x ++ 93 ∷ [])) (list no_items)
do_empty_list d x a m k k' on room = record {
  mode = Done (list no_items);
  is = open_list m k k' on (omega arith) (x ++ 93 ∷ []) ∙ joined (to FirstItem k') (to FirstItem k') x (93 ∷ []) (blanks_run FirstItem first_item_idles k' x a)
      ∙ stepped FirstItem k' 93 [] (to (Done (list no_items)) k') refl ∙ no_step _;
  holds = refl;
}

do_empty_object : (d : ℕ) (x : List ℕ) → AreBlanks x → ForValue' (suc d) (123 ∷ (x ++ 125 ∷ [])) (object no_members)
do_empty_object d x a m k k' on room = record {
  mode = Done (object no_members);
  is = open_object m k k' on (omega arith) (x ++ 125 ∷ []) ∙ joined (to FirstName k') (to FirstName k') x (125 ∷ []) (blanks_run FirstName first_name_idles k' x a)
      ∙ stepped FirstName k' 125 [] (to (Done (object no_members)) k') refl ∙ no_step _;
  holds = refl;
}

-- items, one more and a byte behind it
item_run : (d : ℕ) (k : List Frame) (q e : List ℕ) (js : Items) (j : Json) (b : ℕ) (t : Option State) → ForItems d q js → ForElement d e j → d + suc (length k) ≤ 64
    → Stops b → behind j (Array js ∷ k) b ≡ t → after (to FirstItem k) (q ++ (e ++ b ∷ [])) ≡ t
item_run d k q e js j b t f g room s h =
    let r = f k room in
    joined (to FirstItem k) (to r.mode r.stack) q (e ++ b ∷ []) r.is
    ∙ joined (to r.mode r.stack) (after (to r.mode r.stack) e) e (b ∷ []) refl
    ∙ byte_behind (after (to r.mode r.stack) e) (Array js ∷ k) j b t (g r.mode r.stack (Array js ∷ k) r.begins r.idles room) s h

do_list : (d : ℕ) (q e : List ℕ) (js : Items) (j : Json) → ForItems d q js → ForElement d e j → ForValue' (suc d) (91 ∷ (q ++ (e ++ 93 ∷ []))) (list (add js j))
do_list d q e js j f g m k k' on room = record {
  mode = Done (list (add js j));
  is = open_list m k k' on (omega arith) (q ++ (e ++ 93 ∷ [])) ∙ item_run d k' q e js j 93 (to (Done (list (add js j))) k') f g (omega arith) bracket_stops refl;
  holds = refl;
}

do_item : (d : ℕ) (q e : List ℕ) (js : Items) (j : Json) → ForItems d q js → ForElement d e j → ForItems d (q ++ (e ++ 44 ∷ [])) (add js j)
do_item d q e js j f g k room = record {
  mode = Value;
  stack = Array (add js j) ∷ k;
  is = item_run d k q e js j 44 (to Value (Array (add js j) ∷ k)) f g room comma_stops refl;
  begins = value_begins (Array (add js j) ∷ k);
  idles = value_idles;
}

-- members, one more and a byte behind it
member_run : (d : ℕ) (k : List Frame) (q w e name : List ℕ) (ms : Members) (j : Json) (b : ℕ) (t : Option State) → ForMembers d q ms → IsName w name → ForElement d e j
    → d + suc (length k) ≤ 64 → Stops b → behind j (Object ms name ∷ k) b ≡ t → after (to FirstName k) (q ++ (w ++ 58 ∷ (e ++ b ∷ []))) ≡ t
member_run d k q w e name ms j b t f n g room s h =
    let r = f k room in
    joined (to FirstName k) (to r.mode k) q (w ++ 58 ∷ (e ++ b ∷ [])) r.is
    ∙ joined (to r.mode k) (to (Named ms name) k) w (58 ∷ (e ++ b ∷ [])) (name_run r.mode k ms w name r.idles r.quote n)
    ∙ stepped (Named ms name) k 58 (e ++ b ∷ []) (to Value (Object ms name ∷ k)) refl
    ∙ joined (to Value (Object ms name ∷ k)) (after (to Value (Object ms name ∷ k)) e) e (b ∷ []) refl
    ∙ byte_behind (after (to Value (Object ms name ∷ k)) e) (Object ms name ∷ k) j b t
    (g Value (Object ms name ∷ k) (Object ms name ∷ k) (value_begins (Object ms name ∷ k)) value_idles room) s h

do_object : (d : ℕ) (q w e name : List ℕ) (ms : Members) (j : Json) → ForMembers d q ms → IsName w name → ForElement d e j
    → ForValue' (suc d) (123 ∷ (q ++ (w ++ 58 ∷ (e ++ 125 ∷ [])))) (object (put name j ms))
do_object d q w e name ms j f n g m k k' on room = record {
  mode = Done (object (put name j ms));
  is = open_object m k k' on (omega arith) (q ++ (w ++ 58 ∷ (e ++ 125 ∷ [])))
      ∙ member_run d k' q w e name ms j 125 (to (Done (object (put name j ms))) k') f n g (omega arith) brace_stops refl;
  holds = refl;
}

do_member : (d : ℕ) (q w e name : List ℕ) (ms : Members) (j : Json) → ForMembers d q ms → IsName w name → ForElement d e j
    → ForMembers d (q ++ (w ++ 58 ∷ (e ++ 44 ∷ []))) (put name j ms)
do_member d q w e name ms j f n g k room = record {
  mode = NextName (put name j ms);
  is = member_run d k q w e name ms j 44 (to (NextName (put name j ms)) k) f n g room comma_stops refl;
  quote = refl;
  idles = next_name_idles (put name j ms);
}

do_element : (d : ℕ) (x v y : List ℕ) (j : Json) → AreBlanks x → ForValue' d v j → AreBlanks y → ForElement d (x ++ (v ++ y)) j
do_element d x v y j ax f ay m k k' on idle room =
    let r = f m k k' on room in
    let b = blanks_behind r.mode k' j y r.holds ay in
    record {
      mode = b.mode;
      is = joined (to m k) (to m k) x (v ++ y) (blanks_run m idle k x ax) ∙ joined (to m k) (to r.mode k') v y r.is ∙ b.is;
      holds = b.holds;
    }

mutual
  value_led : {d : ℕ} {t : List ℕ} {j : Json} → IsValue d t j → ForValue' d t j
  value_led {d = d} (is_null e) = rw e (do_null d)
  value_led {d = d} (is_true e) = rw e (do_true d)
  value_led {d = d} (is_false e) = rw e (do_false d)
  value_led {d = d} {t = t} (is_number n) = do_number d t n
  value_led {d = d} {t = t} (is_words {s = s} w) = do_words d t s w
  value_led (empty_list {d = d} x a e) = rw e (do_empty_list d x a)
  value_led (is_list {d = d} q e js j f g et ea) = rw (et, ea) (do_list d q e js j (items_led f) (element_led g))
  value_led (empty_object {d = d} x a e) = rw e (do_empty_object d x a)
  value_led (is_object {d = d} q w e k ms j f n g et ea) = rw (et, ea) (do_object d q w e k ms j (members_led f) n (element_led g))

  element_led : {d : ℕ} {t : List ℕ} {j : Json} → IsElement d t j → ForElement d t j
  element_led {d = d} {j = j} (element x v y ax f ay e) = rw e (do_element d x v y j ax (value_led f) ay)

  items_led : {d : ℕ} {q : List ℕ} {js : Items} → AreItems d q js → ForItems d q js
  items_led no_item = λ k room. record { mode = FirstItem; stack = k; is = no_step _; begins = first_item_begins k; idles = first_item_idles }
  items_led {d = d} (next_item q e js j f g et ea) = rw (et, ea) (do_item d q e js j (items_led f) (element_led g))

  members_led : {d : ℕ} {q : List ℕ} {ms : Members} → AreMembers d q ms → ForMembers d q ms
  members_led no_member = λ k room. record { mode = FirstName; is = no_step _; quote = refl; idles = first_name_idles }
  members_led {d = d} (next_member q w e k ms j f n g et ea) = rw (et, ea) (do_member d q w e k ms j (members_led f) n (element_led g))

-- what the grammar says of a text, the machine makes of it
pub complete : (text : List ℕ) (j : Json) → IsJson text j → json_at text ≡ Some j
complete text j g =
    let r = element_led g Value [] [] (value_begins []) value_idles (omega arith) in
    ap ends_at r.is ∙ r.holds

-- no text is two values
pub one_value : (text : List ℕ) (i j : Json) → IsJson text i → IsJson text j → i ≡ j
one_value text i j g h = let e : Some i ≡ Some j = sym (complete text i g) ∙ complete text j h in cc
