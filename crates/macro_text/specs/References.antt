-- References to user macros: `{$`, a name and `}`.
use Rattle.std.specs.Prelude.{ℕ, ◌+◌, ◌==◌, Bool, ◌&&◌, not, nat_lt, List, [], ◌∷◌, if◌then◌else◌, slice_index}
use Rattle.std.specs.List.{prefix_len}
use Rattle.zbx_types.specs.NameBytes.{is_macro_name_byte}

-- how many bytes at the front may stand in a name
abbrev pub name_len : List ℕ → ℕ
name_len text = prefix_len is_macro_name_byte text

-- the length of a whole reference whose bytes behind `{$` begin here: a name of at least one byte, then `}`; else 0
abbrev pub named_len : List ℕ → ℕ
named_len rest = if nat_lt 0 (name_len rest) && slice_index rest (name_len rest) == 125 then name_len rest + 3 else 0

-- how many bytes long the reference is that a text begins with, and 0 where it begins with none
abbrev pub reference_len : List ℕ → ℕ
reference_len [] = 0
reference_len (c ∷ []) = 0
reference_len (c ∷ d ∷ rest) = if c == 123 && d == 36 then named_len rest else 0

-- whether a byte is not `{`
abbrev pub is_plain : ℕ → Bool
is_plain c = not (c == 123)

-- how many bytes stand before the first `{`
abbrev pub before_brace : List ℕ → ℕ
before_brace text = prefix_len is_plain text

-- how many bytes stay for certain where a text begins with no reference: the first, and those before the next `{`
abbrev pub plain_len : List ℕ → ℕ
plain_len [] = 0
plain_len (c ∷ rest) = 1 + before_brace rest
