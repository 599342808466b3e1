-- Steps on texts: characters dropped at their ends, and a text replaced in them.
use Rattle.std.specs.Prelude.{ℕ, zero, suc, ◌-◌, ◌==◌, Bool, nat_eq, List, [], ◌∷◌, ◌++◌, length, reverse, if◌then◌else◌}
use Rattle.std.specs.List.{list_any, starts_with}
use Rattle.std.specs.Str.{chars, encode_utf8_all}

-- a character is among those of a text
abbrev pub is_among : List ℕ → ℕ → Bool
is_among set c = list_any (λ d. d == c) (chars set)

-- a list without what it begins with that is to be dropped
abbrev pub without_first : (ℕ → Bool) → List ℕ → List ℕ
without_first drops [] = []
without_first drops (c ∷ cs) = if drops c then without_first drops cs else c ∷ cs

-- a list without what it ends with that is to be dropped
abbrev pub without_last : (ℕ → Bool) → List ℕ → List ℕ
without_last drops cs = reverse (without_first drops (reverse cs))

-- the left trim: a text without the characters of a set at its front (the Zabbix 6.0 manual, "Preprocessing details")
unfoldable pub trimmed_left : List ℕ → List ℕ → List ℕ
trimmed_left set text = encode_utf8_all (without_first (is_among set) (chars text))

-- the right trim: a text without the characters of a set at its end (the Zabbix 6.0 manual, "Preprocessing details")
unfoldable pub trimmed_right : List ℕ → List ℕ → List ℕ
trimmed_right set text = encode_utf8_all (without_last (is_among set) (chars text))

-- the trim: at both ends
unfoldable pub trimmed : List ℕ → List ℕ → List ℕ
trimmed set text = trimmed_right set (trimmed_left set text)

-- a text from which so many bytes, the rest of an occurrence, are left out, with each occurrence behind them replaced
unfoldable pub replaced_behind : ℕ → List ℕ → List ℕ → List ℕ → List ℕ
replaced_behind left search other [] = []
replaced_behind (suc left) search other (c ∷ rest) = replaced_behind left search other rest
replaced_behind zero search other (c ∷ rest) =
    if starts_with nat_eq (c ∷ rest) search then other ++ replaced_behind (length search - 1) search other rest
    else c ∷ replaced_behind zero search other rest

-- the replacement: each occurrence from the left, without overlap (the Zabbix 6.0 manual, "Preprocessing details")
unfoldable pub replaced : List ℕ → List ℕ → List ℕ → List ℕ
replaced search other text = if length search == 0 then text else replaced_behind zero search other text
