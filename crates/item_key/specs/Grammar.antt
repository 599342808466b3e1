-- Keys by their grammar (the Zabbix 6.0 manual, "Item key format").
use Rattle.std.specs.Prelude.{◌≡◌, ◌≤◌, ℕ, List, [], ◌∷◌, ◌++◌, length, nat_le, Bool, true, false, ◌==◌, if◌then◌else◌}
use Rattle.zbx_types.specs.Limits.{longest_key}
use Rattle.byte_grammar.specs.Bytes.{Each, is_space}

-- a letter, a digit, `_`, `-` or `.`
abbrev pub is_name_byte : ℕ → Bool
is_name_byte b =
    if nat_le 97 b then nat_le b 122 else if nat_le 65 b then (if nat_le b 90 then true else b == 95)
    else if nat_le 48 b then nat_le b 57 else if b == 45 then true else b == 46

-- neither `,` nor `]`
abbrev pub is_bare : ℕ → Bool
is_bare b = if b == 44 then false else if b == 93 then false else true

-- how a parameter without quotes begins: no space, no quote, no `[`
abbrev pub begins_bare : ℕ → Bool
begins_bare b = if b == 32 then false else if b == 34 then false else if b == 91 then false else is_bare b

-- each quote in it is after a backslash, and the byte behind it wouldn't be; `before` is the byte in front of it
unfoldable pub Quoted : ℕ → List ℕ → Type 0
Quoted before [] = (before == 92) ≡ false
Quoted before (b ∷ bs) = ((if b == 34 then before == 92 else true) ≡ true) × Quoted b bs

-- a parameter that is no list, with the spaces around it: nothing, plain bytes, or a text in quotes
pub data IsPlain : List ℕ → Type 0 where
  nothing : (x : List ℕ) → Each is_space x → IsPlain x
  bare : {t : List ℕ} (x : List ℕ) (b : ℕ) (bs : List ℕ) → Each is_space x → begins_bare b ≡ true → Each is_bare bs
      → t ≡ x ++ b ∷ bs → IsPlain t
  quoted : {t : List ℕ} (x s y : List ℕ) → Each is_space x → Quoted 34 s → Each is_space y → t ≡ x ++ 34 ∷ (s ++ 34 ∷ y)
      → IsPlain t

-- one or more, between commas
pub data AreMany (P : List ℕ → Type 0) : List ℕ → Type 0 where
  last : {t : List ℕ} → P t → AreMany P t
  more : {t : List ℕ} (u v : List ℕ) → P u → AreMany P v → t ≡ u ++ 44 ∷ v → AreMany P t

-- a parameter of a key: one that is no list, or a list of such in brackets, with nothing behind the brackets
pub data IsParam : List ℕ → Type 0 where
  one : {t : List ℕ} → IsPlain t → IsParam t
  list : {t : List ℕ} (x v : List ℕ) → Each is_space x → AreMany IsPlain v → t ≡ x ++ 91 ∷ (v ++ 93 ∷ []) → IsParam t

-- the text of a key, of whatever length: a name, or a name and parameters in brackets
pub data IsKeyText : List ℕ → Type 0 where
  name : (b : ℕ) (bs : List ℕ) → is_name_byte b ≡ true → Each is_name_byte bs → IsKeyText (b ∷ bs)
  with_params : {t : List ℕ} (b : ℕ) (bs v : List ℕ) → is_name_byte b ≡ true → Each is_name_byte bs → AreMany IsParam v
      → t ≡ (b ∷ bs) ++ 91 ∷ (v ++ 93 ∷ []) → IsKeyText t

-- a key: its text, within the limit
abbrev pub IsKey : List ℕ → Type 0
IsKey text = IsKeyText text × (length text ≤ longest_key)
