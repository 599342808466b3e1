-- The reading of a JSON text's tokens, turn by turn.
use Rattle.std.proofs.Common.{◌≡◌, ℕ, zero, suc, ◌-◌, ◌<◌, ◌≤◌, List, length, Result, Ok, Err, OnErr, IfErr, IsErrAnd, Option, Some, None, option_map, option_and_then, refl, sym, ap, ◌∙◌, arith}
use Rattle.json.specs.Token.{Token}
use Rattle.json.specs.Json as json
use Rattle.json.proofs.Grammar.{after_end_array-shorter, read_key-shorter}
use Rattle.serde_json.specs.Data.{Data, array, object, Items, no_items, item, Members, no_members, put}
use Rattle.serde_json.specs.Read.{of_json, of_items, of_members, converted}

abbrev Read : Type 0 → Type 0
Read A = Option (A × List Token)

abbrev into : Members → json.Members → Option Members
into found ms = of_members ms found

pub on_err : {A E P : Type 0} (r : Result A E) → P → OnErr r P
on_err (Ok a) h = tt
on_err (Err e) h = h

pub on_error : {A E P : Type 0} (r : Result A E) (x : E) → P → IfErr r (λ e. e ≡ x → P)
on_error (Ok a) x h = tt
on_error (Err e) x h = λ _. h

pub passed_on : {A E P : Type 0} (r : Result A E) (x e : E) → IsErrAnd r (λ y. y ≡ e) → (e ≡ x → P) → IfErr r (λ y. y ≡ x → P)
passed_on (Ok a) x e is h = tt
passed_on (Err y) x e is h = λ same. h (sym is ∙ same)

-- ---- arrays and objects

converted-under : {A B C D : Type 0} (f : A → C) (g : C → Option D) (h : A → Option B) (k : B → D) → ((a : A) → g (f a) ≡ option_map k (h a)) → (r : Read A)
    → converted g (json.parse_map f r) ≡ json.parse_map k (converted h r)
converted-under f g h k same None = refl
converted-under {B = B} f g h k same (Some p) = ap (λ o. option_map (λ b. (b, p.1)) o) (same p.0) ∙ tied (h p.0) where
  tied : (o : Option B) → option_map (λ d. (d, p.1)) (option_map k o) ≡ json.parse_map k (option_map (λ b. (b, p.1)) o)
  tied None = refl
  tied (Some b) = refl

pub converted-array : (r : Read json.Items) → converted of_json (json.parse_map json.array r) ≡ json.parse_map array (converted of_items r)
converted-array = converted-under json.array of_json of_items array (λ a. refl)

pub converted-object : (r : Read json.Members) → converted of_json (json.parse_map json.object r) ≡ json.parse_map object (converted (into no_members) r)
converted-object = converted-under json.object of_json (into no_members) object (λ a. refl)

pub map_id : {A : Type 0} (r : Read A) → r ≡ json.parse_map (λ a. a) r
map_id None = refl
map_id (Some p) = refl

pub map_twice : {A B C : Type 0} (f : B → C) (g : A → B) (r : Read A) → json.parse_map f (json.parse_map g r) ≡ json.parse_map (λ a. f (g a)) r
map_twice f g None = refl
map_twice f g (Some p) = refl

-- ---- a turn over the elements

-- an element and those after it
abbrev then_items : (List Token → Read Items) → Read Data → Read Items
then_items more o = option_and_then (λ q. json.parse_map (item q.0) (more q.1)) o

item_of : (more : List Token → Read json.Items) (x : Option Data) (ts : List Token) (j : json.Json) (y : Read json.Items) → of_json j ≡ x → more ts ≡ y
    → converted of_items (json.parse_map (json.item j) y) ≡ then_items (λ r. converted of_items (more r)) (option_map (λ d. (d, ts)) x)
item_of more None ts j None is made = refl
item_of more None ts j (Some p) is made = rw is refl
item_of more (Some d) ts j None is made = rw made refl
item_of more (Some d) ts j (Some p) is made = rw (is, made) (tied (of_items p.0)) where
  tied : (o : Option Items) → option_map (λ b. (b, p.1)) (option_map (item d) o) ≡ json.parse_map (item d) (option_map (λ b. (b, p.1)) o)
  tied None = refl
  tied (Some b) = refl

items_of : (more : List Token → Read json.Items) (o : Read json.Json)
    → converted of_items (option_and_then (λ q. json.parse_map (json.item q.0) (more q.1)) o) ≡ then_items (λ ts. converted of_items (more ts)) (converted of_json o)
items_of more None = refl
items_of more (Some q) = item_of more (of_json q.0) q.1 q.0 (more q.1) refl refl

module _ (p : json.Parse json.Json) where
  pub items_turn : (n : ℕ) (ts : List Token) → 0 < n → json.after_end_array ts ≡ None
      → converted of_items (json.items p n ts) ≡ then_items (λ r. converted of_items (json.items p (n - 1) r)) (converted of_json (p ts))
  unfolding json.items
  items_turn zero ts h e = let never : ⊥ = omega arith in absurd never
  items_turn (suc n) ts h e =
      let less : n ≡ suc n - 1 = omega arith in
      ap (λ o. converted of_items (json.items_step p (json.items p n) ts o)) e ∙ items_of (json.items p n) (p ts)
      ∙ ap (λ m. then_items (λ r. converted of_items (json.items p m r)) (converted of_json (p ts))) less

  pub items_read : (n : ℕ) (ts r : List Token) (d : Data) → 0 < n → json.after_end_array ts ≡ None → converted of_json (p ts) ≡ Some (d, r)
      → converted of_items (json.items p n ts) ≡ json.parse_map (item d) (converted of_items (json.items p (n - 1) r))
  items_read n ts r d h e f = items_turn n ts h e ∙ ap (then_items (λ r. converted of_items (json.items p (n - 1) r))) f

  pub items_refused : (n : ℕ) (ts : List Token) → json.after_end_array ts ≡ None → converted of_json (p ts) ≡ None → converted of_items (json.items p n ts) ≡ None
  unfolding json.items
  items_refused zero ts e f = refl
  items_refused (suc n) ts e f = items_turn (suc n) ts (omega arith) e ∙ ap (then_items (λ r. converted of_items (json.items p (suc n - 1) r))) f

  pub items_over : (n : ℕ) (ts r : List Token) → length ts ≤ n → json.after_end_array ts ≡ Some r → converted of_items (json.items p n ts) ≡ Some (no_items, r)
  unfolding json.items
  items_over zero ts r le e = let never : ⊥ = omega (arith, after_end_array-shorter ts r e) in absurd never
  items_over (suc n) ts r le e = ap (λ o. converted of_items (json.items_step p (json.items p n) ts o)) e

-- ---- a turn over the members

-- a member and those after it
abbrev then_members : (Members → List Token → Read Members) → List ℕ → Members → Read Data → Read Members
then_members more k found o = option_and_then (λ q. more (put k q.0 found) q.1) o

member_of : (more : List Token → Read json.Members) (x : Option Data) (ts : List Token) (k : List ℕ) (j : json.Json) (found : Members) (y : Read json.Members) → of_json j ≡ x → more ts ≡ y
    → converted (into found) (json.parse_map (json.member k j) y) ≡ then_members (λ m r. converted (into m) (more r)) k found (option_map (λ d. (d, ts)) x)
member_of more None ts k j found None is made = refl
member_of more None ts k j found (Some p) is made = rw is refl
member_of more (Some d) ts k j found None is made = rw made refl
member_of more (Some d) ts k j found (Some p) is made = rw (is, made) refl

members_of : (more : List Token → Read json.Members) (k : List ℕ) (found : Members) (o : Read json.Json)
    → converted (into found) (option_and_then (λ q. json.parse_map (json.member k q.0) (more q.1)) o) ≡ then_members (λ m ts. converted (into m) (more ts)) k found (converted of_json o)
members_of more k found None = refl
members_of more k found (Some q) = member_of more (of_json q.0) q.1 k q.0 found (more q.1) refl refl

module _ (p : json.Parse json.Json) (found : Members) where
  pub members_turn : (n : ℕ) (k : List ℕ) (ts s : List Token) → 0 < n → json.read_key ts ≡ Some (Some k, s)
      → converted (into found) (json.members p n ts) ≡ then_members (λ m r. converted (into m) (json.members p (n - 1) r)) k found (converted of_json (p s))
  unfolding json.members
  members_turn zero k ts s h e = let never : ⊥ = omega arith in absurd never
  members_turn (suc n) k ts s h e =
      let less : n ≡ suc n - 1 = omega arith in
      ap (λ o. converted (into found) (option_and_then (λ q. json.members_step p (json.members p n) q.0 q.1) o)) e ∙ members_of (json.members p n) k found (p s)
      ∙ ap (λ l. then_members (λ m r. converted (into m) (json.members p l r)) k found (converted of_json (p s))) less

  pub members_read : (n : ℕ) (k : List ℕ) (ts s r : List Token) (d : Data) → 0 < n → json.read_key ts ≡ Some (Some k, s) → converted of_json (p s) ≡ Some (d, r)
      → converted (into found) (json.members p n ts) ≡ converted (into (put k d found)) (json.members p (n - 1) r)
  members_read n k ts s r d h e f = members_turn n k ts s h e ∙ ap (then_members (λ m r. converted (into m) (json.members p (n - 1) r)) k found) f

  pub members_refused : (n : ℕ) (k : List ℕ) (ts s : List Token) → json.read_key ts ≡ Some (Some k, s) → converted of_json (p s) ≡ None → converted (into found) (json.members p n ts) ≡ None
  unfolding json.members
  members_refused zero k ts s e f = refl
  members_refused (suc n) k ts s e f = members_turn (suc n) k ts s (omega arith) e ∙ ap (then_members (λ m r. converted (into m) (json.members p (suc n - 1) r)) k found) f

  pub members_no_key : (n : ℕ) (ts : List Token) → json.read_key ts ≡ None → converted (into found) (json.members p n ts) ≡ None
  unfolding json.members
  members_no_key zero ts e = refl
  members_no_key (suc n) ts e = ap (λ o. converted (into found) (option_and_then (λ q. json.members_step p (json.members p n) q.0 q.1) o)) e

  pub members_over : (n : ℕ) (ts r : List Token) → length ts ≤ n → json.read_key ts ≡ Some (None, r) → converted (into found) (json.members p n ts) ≡ Some (found, r)
  unfolding json.members
  members_over zero ts r le e = let never : ⊥ = omega (arith, read_key-shorter ts None r e) in absurd never
  members_over (suc n) ts r le e = ap (λ o. converted (into found) (option_and_then (λ q. json.members_step p (json.members p n) q.0 q.1) o)) e
