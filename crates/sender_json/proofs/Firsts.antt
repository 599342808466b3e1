-- The value that comes first, by its first token.
use Rattle.std.proofs.Common.{◌≡◌, ℕ, zero, suc, ◌-◌, ◌<◌, List, [], ◌∷◌, Bool, true, false, Option, Some, None, IfSome, option_map, refl, ap, ◌∙◌, length, subst}
use Rattle.json.specs.Token.{Token}
use Rattle.json.specs.Json.{parse_map, items, members, value}
use Rattle.json.proofs.Grammar.{value_is, value-begin_array, value-begin_object}
use Rattle.serde_json.specs.Data.{Num, Data, null, boolean, number, string, array, object}
use Rattle.serde_json.specs.Read.{number_of, of_json, converted}
use Rattle.sender_json.specs.Seen.{plain_number}
use Rattle.sender_json.specs.Tokens.{value_first, items_first, members_first}
use Rattle.sender_json.proofs.Turns.{converted-array, converted-object}

pub first-nothing : (depth : ℕ) → value_first depth [] ≡ None
first-nothing depth = ap (converted of_json) (value_is depth [])

pub first-string : (depth : ℕ) (s : List ℕ) (ts : List Token) → value_first depth (Token.string s ∷ ts) ≡ Some (string s, ts)
first-string depth s ts = ap (converted of_json) (value_is depth (Token.string s ∷ ts))

pub first-boolean : (depth : ℕ) (b : Bool) (ts : List Token) → value_first depth (Token.boolean b ∷ ts) ≡ Some (boolean b, ts)
first-boolean depth b ts = ap (converted of_json) (value_is depth (Token.boolean b ∷ ts))

pub first-null : (depth : ℕ) (ts : List Token) → value_first depth (Token.null ∷ ts) ≡ Some (null, ts)
first-null depth ts = ap (converted of_json) (value_is depth (Token.null ∷ ts))

abbrev pub numbered : List Token → Num → Data × List Token
numbered ts n = (number n, ts)

under_number : (o : Option Num) (ts : List Token) → converted (λ p. option_map number p) (Some (o, ts)) ≡ option_map (numbered ts) o
under_number None ts = refl
under_number (Some n) ts = refl

pub first-number : (depth : ℕ) (s : List ℕ) (ts : List Token) → value_first depth (Token.number s ∷ ts) ≡ option_map (numbered ts) (number_of s)
first-number depth s ts = ap (converted of_json) (value_is depth (Token.number s ∷ ts)) ∙ under_number (number_of s) ts

pub first-array : (depth : ℕ) (ts : List Token) → 0 < depth → value_first depth (Token.begin_array ∷ ts) ≡ parse_map array (items_first (depth - 1) ts)
first-array depth ts h = ap (converted of_json) (value-begin_array depth ts h) ∙ converted-array (items (value (depth - 1)) (length ts) ts)

pub first-object : (depth : ℕ) (ts : List Token) → 0 < depth → value_first depth (Token.begin_object ∷ ts) ≡ parse_map object (members_first (depth - 1) ts)
first-object depth ts h = ap (converted of_json) (value-begin_object depth ts h) ∙ converted-object (members (value (depth - 1)) (length ts) ts)

pub deep-array : (ts : List Token) → value_first 0 (Token.begin_array ∷ ts) ≡ None
unfolding value
deep-array ts = refl

pub deep-object : (ts : List Token) → value_first 0 (Token.begin_object ∷ ts) ≡ None
unfolding value
deep-object ts = refl

-- ---- numbers

pub number_kept : (o : Option Num) (x : Data) → Some x ≡ option_map plain_number o → (n : Num) × (o ≡ Some n) × (x ≡ plain_number n)
number_kept None x e = cc
number_kept (Some n) x e = (n, refl, cc)

pub number_none : (o : Option Num) → None ≡ option_map plain_number o → o ≡ None
number_none None e = refl
number_none (Some n) e = cc

-- ---- the kind of a value

abbrev pub is_object : Data → Bool
is_object null = false
is_object (boolean b) = false
is_object (number n) = false
is_object (string s) = false
is_object (array ds) = false
is_object (object ms) = true

abbrev pub is_array : Data → Bool
is_array null = false
is_array (boolean b) = false
is_array (number n) = false
is_array (string s) = false
is_array (array ds) = true
is_array (object ms) = false

abbrev pub opens_object : Token → Bool
opens_object Token.begin_object = true
opens_object Token.end_object = false
opens_object Token.begin_array = false
opens_object Token.end_array = false
opens_object (Token.key s) = false
opens_object (Token.string s) = false
opens_object (Token.number s) = false
opens_object (Token.boolean b) = false
opens_object Token.null = false
opens_object Token.bad = false

abbrev pub opens_array : Token → Bool
opens_array Token.begin_object = false
opens_array Token.end_object = false
opens_array Token.begin_array = true
opens_array Token.end_array = false
opens_array (Token.key s) = false
opens_array (Token.string s) = false
opens_array (Token.number s) = false
opens_array (Token.boolean b) = false
opens_array Token.null = false
opens_array Token.bad = false

abbrev IsKind : Token → Option (Data × List Token) → Type 0
IsKind t o = IfSome o (λ p. (is_object p.0 ≡ opens_object t) × (is_array p.0 ≡ opens_array t))

of_number : (o : Option Num) (s : List ℕ) (ts : List Token) → IsKind (Token.number s) (option_map (numbered ts) o)
of_number None s ts = tt
of_number (Some n) s ts = (refl, refl)

of_array : {A : Type 0} (f : A → Data) (t : Token) (o : Option (A × List Token)) → ((a : A) → (is_object (f a) ≡ opens_object t) × (is_array (f a) ≡ opens_array t)) → IsKind t (parse_map f o)
of_array f t None h = tt
of_array f t (Some p) h = h p.0

first-kind : (depth : ℕ) (t : Token) (ts : List Token) → IsKind t (value_first depth (t ∷ ts))
unfolding value
first-kind zero Token.begin_object ts = tt
first-kind (suc depth) Token.begin_object ts = rw (converted-object (members (value depth) (length ts) ts)) (of_array object Token.begin_object _ (λ a. (refl, refl)))
first-kind depth Token.end_object ts = rw (value_is depth (Token.end_object ∷ ts)) tt
first-kind zero Token.begin_array ts = tt
first-kind (suc depth) Token.begin_array ts = rw (converted-array (items (value depth) (length ts) ts)) (of_array array Token.begin_array _ (λ a. (refl, refl)))
first-kind depth Token.end_array ts = rw (value_is depth (Token.end_array ∷ ts)) tt
first-kind depth (Token.key s) ts = rw (value_is depth (Token.key s ∷ ts)) tt
first-kind depth (Token.string s) ts = rw (first-string depth s ts) (refl, refl)
first-kind depth (Token.number s) ts = rw (first-number depth s ts) (of_number (number_of s) s ts)
first-kind depth (Token.boolean b) ts = rw (first-boolean depth b ts) (refl, refl)
first-kind depth Token.null ts = rw (first-null depth ts) (refl, refl)
first-kind depth Token.bad ts = rw (value_is depth (Token.bad ∷ ts)) tt

-- a value is an object or an array where its first token opens one
pub kind_of : (depth : ℕ) (t : Token) (ts r : List Token) (d : Data) → value_first depth (t ∷ ts) ≡ Some (d, r) → (is_object d ≡ opens_object t) × (is_array d ≡ opens_array t)
kind_of depth t ts r d e = subst (IsKind t) e (first-kind depth t ts)
