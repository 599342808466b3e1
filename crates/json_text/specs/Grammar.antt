-- Which text is which value, by cases of the grammar of JSON (RFC 8259).
use Rattle.std.specs.Prelude.{◌≡◌, ◌≢◌, ℕ, suc, ◌≤◌, List, [], ◌∷◌, ◌++◌, true, false, Some, codes}
use Rattle.std.specs.Char.{IsScalar, encode_utf8}
use Rattle.byte_grammar.specs.Bytes.{is_digit, is_nonzero_digit, is_e}
use Rattle.json_text.specs.Bytes.{is_sign, is_hex, hex_code, is_high, is_low}
use Rattle.json_text.specs.Bytes.{paired, short_escape, AreBlanks, AreDigits}
use Rattle.json_text.specs.Json.{Json, null, boolean, number, words, list, object, Items, no_items, add, Members}
use Rattle.json_text.specs.Json.{no_members, put}

-- ---- numbers ("Numbers")

-- a minus, or nothing
pub data IsMinus : List ℕ → Type 0 where
  no_minus : IsMinus []
  minus : IsMinus (45 ∷ [])

-- `0`, or digits that don't begin with it
pub data IsWhole : List ℕ → Type 0 where
  only_zero : IsWhole (48 ∷ [])
  whole : (b : ℕ) (bs : List ℕ) → is_nonzero_digit b ≡ true → AreDigits bs → IsWhole (b ∷ bs)

-- a point with digits behind it, or nothing
pub data IsFraction : List ℕ → Type 0 where
  no_fraction : IsFraction []
  fraction : (b : ℕ) (bs : List ℕ) → is_digit b ≡ true → AreDigits bs → IsFraction (46 ∷ b ∷ bs)

-- `e` or `E`, perhaps a sign, and digits, or nothing
pub data IsExponent : List ℕ → Type 0 where
  no_exponent : IsExponent []
  unsigned : (e b : ℕ) (bs : List ℕ) → is_e e ≡ true → is_digit b ≡ true → AreDigits bs → IsExponent (e ∷ b ∷ bs)
  signed : (e s b : ℕ) (bs : List ℕ) → is_e e ≡ true → is_sign s ≡ true → is_digit b ≡ true → AreDigits bs
      → IsExponent (e ∷ s ∷ b ∷ bs)

-- the text of a number
pub record IsNumber (text : List ℕ) : Type 0 where
  pub m : List ℕ
  pub w : List ℕ
  pub f : List ℕ
  pub e : List ℕ
  pub is_minus : IsMinus m
  pub is_whole : IsWhole w
  pub is_fraction : IsFraction f
  pub is_exponent : IsExponent e
  pub parts : text ≡ m ++ (w ++ (f ++ e))

-- ---- strings ("Strings")

-- the bytes of one character as it stands in quotes, and its bytes in UTF-8
pub data IsChar : List ℕ → List ℕ → Type 0 where
  plain : {t s : List ℕ} (c : ℕ) → IsScalar c → 32 ≤ c → c ≢ 34 → c ≢ 92 → t ≡ encode_utf8 c → s ≡ encode_utf8 c
      → IsChar t s
  short : {t s : List ℕ} (b c : ℕ) → short_escape b ≡ Some c → t ≡ 92 ∷ b ∷ [] → s ≡ c ∷ [] → IsChar t s
  code : {t s : List ℕ} (a b c d : ℕ) → is_hex a ≡ true → is_hex b ≡ true → is_hex c ≡ true → is_hex d ≡ true
      → is_high a b ≡ false → is_low a b ≡ false
      → t ≡ 92 ∷ 117 ∷ a ∷ b ∷ c ∷ d ∷ [] → s ≡ encode_utf8 (hex_code a b c d) → IsChar t s
  pair : {t s : List ℕ} (a b c d e f g h : ℕ) → is_hex a ≡ true → is_hex b ≡ true → is_hex c ≡ true → is_hex d ≡ true
      → is_hex e ≡ true → is_hex f ≡ true → is_hex g ≡ true → is_hex h ≡ true → is_high a b ≡ true → is_low e f ≡ true
      → t ≡ 92 ∷ 117 ∷ a ∷ b ∷ c ∷ d ∷ 92 ∷ 117 ∷ e ∷ f ∷ g ∷ h ∷ []
      → s ≡ encode_utf8 (paired (hex_code a b c d) (hex_code e f g h)) → IsChar t s

-- characters one after the other
pub data AreChars : List ℕ → List ℕ → Type 0 where
  no_chars : AreChars [] []
  more_chars : {t s : List ℕ} (u r v c : List ℕ) → AreChars u r → IsChar v c → t ≡ u ++ v → s ≡ r ++ c → AreChars t s

-- characters in quotes
abbrev pub IsString : List ℕ → List ℕ → Type 0
IsString t s = (u : List ℕ) × AreChars u s × (t ≡ 34 ∷ (u ++ 34 ∷ []))

-- a string with blanks around it
pub record IsName (t k : List ℕ) : Type 0 where
  pub x : List ℕ
  pub s : List ℕ
  pub y : List ℕ
  pub before : AreBlanks x
  pub is : IsString s k
  pub behind : AreBlanks y
  pub parts : t ≡ x ++ (s ++ y)

-- ---- values ("Values", "Objects", "Arrays"), of at most so many brackets that are open at one place

mutual
  pub data IsValue : ℕ → List ℕ → Json → Type 0 where
    is_null : {d : ℕ} {t : List ℕ} → t ≡ codes "null" → IsValue d t null
    is_true : {d : ℕ} {t : List ℕ} → t ≡ codes "true" → IsValue d t (boolean true)
    is_false : {d : ℕ} {t : List ℕ} → t ≡ codes "false" → IsValue d t (boolean false)
    is_number : {d : ℕ} {t : List ℕ} → IsNumber t → IsValue d t (number t)
    is_words : {d : ℕ} {t s : List ℕ} → IsString t s → IsValue d t (words s)
    empty_list : {d : ℕ} {t : List ℕ} (x : List ℕ) → AreBlanks x → t ≡ 91 ∷ (x ++ 93 ∷ [])
        → IsValue (suc d) t (list no_items)
    is_list : {d : ℕ} {t : List ℕ} {all : Items} (q e : List ℕ) (js : Items) (j : Json) → AreItems d q js
        → IsElement d e j
        → t ≡ 91 ∷ (q ++ (e ++ 93 ∷ [])) → all ≡ add js j → IsValue (suc d) t (list all)
    empty_object : {d : ℕ} {t : List ℕ} (x : List ℕ) → AreBlanks x → t ≡ 123 ∷ (x ++ 125 ∷ [])
        → IsValue (suc d) t (object no_members)
    is_object : {d : ℕ} {t : List ℕ} {all : Members} (q w e k : List ℕ) (ms : Members) (j : Json)
        → AreMembers d q ms → IsName w k → IsElement d e j
        → t ≡ 123 ∷ (q ++ (w ++ 58 ∷ (e ++ 125 ∷ []))) → all ≡ put k j ms → IsValue (suc d) t (object all)

  -- a value with blanks around it
  pub data IsElement : ℕ → List ℕ → Json → Type 0 where
    element : {d : ℕ} {t : List ℕ} {j : Json} (x v y : List ℕ) → AreBlanks x → IsValue d v j → AreBlanks y
        → t ≡ x ++ (v ++ y) → IsElement d t j

  -- items, each with a comma behind it
  pub data AreItems : ℕ → List ℕ → Items → Type 0 where
    no_item : {d : ℕ} → AreItems d [] no_items
    next_item : {d : ℕ} {t : List ℕ} {all : Items} (q e : List ℕ) (js : Items) (j : Json) → AreItems d q js
        → IsElement d e j
        → t ≡ q ++ (e ++ 44 ∷ []) → all ≡ add js j → AreItems d t all

  -- members, each with a comma behind it
  pub data AreMembers : ℕ → List ℕ → Members → Type 0 where
    no_member : {d : ℕ} → AreMembers d [] no_members
    next_member : {d : ℕ} {t : List ℕ} {all : Members} (q w e k : List ℕ) (ms : Members) (j : Json)
        → AreMembers d q ms → IsName w k → IsElement d e j
        → t ≡ q ++ (w ++ 58 ∷ (e ++ 44 ∷ [])) → all ≡ put k j ms → AreMembers d t all

-- the most brackets that are open at one place (this project's own)
abbrev pub deepest : ℕ
deepest = 64

-- the text is this value, with blanks around it
abbrev pub IsJson : List ℕ → Json → Type 0
IsJson text j = IsElement deepest text j

-- the text is a JSON text
abbrev pub IsText : List ℕ → Type 0
IsText text = (j : Json) × IsJson text j
