-- Which values match an operator with its argument (the Zabbix 6.0 manual, "History functions", count and find).
use Rattle.std.specs.Prelude.{ℕ, ◌==◌, ℤ, int_lt, int_le, Bool, true, false, not, List, length, count_by, bytes_eq, Option, Some, None, is_some, if◌then◌else◌}
use Rattle.std.specs.Ordering.{int_eq}
use Rattle.std.specs.List.{list_any}
use Rattle.zbx_types.specs.Arithmetic.{truth}
use Rattle.zbx_types.specs.Operators.{operator_of, pattern_of}
use Rattle.zbx_types.specs.Suffixes.{read_suffixed}
use Rattle.zbx_types.specs.Texts.{contains}
use Rattle.zbx_types.specs.Written.{written}
use Rattle.zbx_types.specs.declared.entries.Stored.{Stored}
use Rattle.zbx_types.specs.declared.entries.Held.{Held}
use Rattle.zbx_types.specs.declared.entries.Held.TheVariants.{Number, Words}
use Rattle.pattern_set.specs.Patterns.{leftmost}
use Rattle.pattern_set.specs.Places.{place_of}
use Rattle.history_functions.specs.Values.{whole}
use Rattle.zbx_types.specs.declared.operators.Operator.{Operator}
use Rattle.zbx_types.specs.declared.operators.Operator.TheVariants.{Any, Unwritten, Eq, Ne, Gt, Ge, Lt, Le, Like, Regexp, Iregexp, Other}

-- a pattern is found in a text
abbrev pub is_found : Option (List ℕ) → List ℕ → Bool
is_found None text = false
is_found (Some pattern) text = is_some (leftmost pattern text)

-- how an operator compares a number with an operand
abbrev pub comparison : Operator → ℤ → ℤ → Bool
comparison Any a b = false
comparison Unwritten a b = int_eq a b
comparison Eq a b = int_eq a b
comparison Ne a b = not (int_eq a b)
comparison Gt a b = int_lt b a
comparison Ge a b = int_le b a
comparison Lt a b = int_lt a b
comparison Le a b = int_le a b
comparison Like a b = false
comparison Regexp a b = false
comparison Iregexp a b = false
comparison Other a b = false

-- the comparison with the operand, where there is one
abbrev pub compares : Operator → Option ℤ → ℤ → Bool
compares operator None z = false
compares operator (Some operand) z = comparison operator z operand

-- a number matches; patterns see it written
abbrev pub number_matches : Operator → List ℕ → ℤ → Bool
number_matches Any arg z = true
number_matches Unwritten arg z = compares Unwritten (read_suffixed arg) z
number_matches Eq arg z = compares Eq (read_suffixed arg) z
number_matches Ne arg z = compares Ne (read_suffixed arg) z
number_matches Gt arg z = compares Gt (read_suffixed arg) z
number_matches Ge arg z = compares Ge (read_suffixed arg) z
number_matches Lt arg z = compares Lt (read_suffixed arg) z
number_matches Le arg z = compares Le (read_suffixed arg) z
number_matches Like arg z = false
number_matches Regexp arg z = is_found (pattern_of Regexp arg) (written z)
number_matches Iregexp arg z = is_found (pattern_of Iregexp arg) (written z)
number_matches Other arg z = false

-- a text matches
abbrev pub text_matches : Operator → List ℕ → List ℕ → Bool
text_matches Any arg text = true
text_matches Unwritten arg text = contains text arg
text_matches Eq arg text = bytes_eq text arg
text_matches Ne arg text = not (bytes_eq text arg)
text_matches Gt arg text = false
text_matches Ge arg text = false
text_matches Lt arg text = false
text_matches Le arg text = false
text_matches Like arg text = contains text arg
text_matches Regexp arg text = is_found (pattern_of Regexp arg) text
text_matches Iregexp arg text = is_found (pattern_of Iregexp arg) text
text_matches Other arg text = false

-- a value matches
abbrev pub matches : Operator → List ℕ → Held → Bool
matches operator arg (Number z) = number_matches operator arg z
matches operator arg (Words text) = text_matches operator arg text

-- how many values match
unfoldable pub count_matching : Operator → List ℕ → List Stored → ℕ
count_matching operator arg window = count_by (λ s. matches operator arg s.value) window

-- whether a value matches
unfoldable pub any_matches : Operator → List ℕ → List Stored → Bool
any_matches operator arg window = list_any (λ s. matches operator arg s.value) window

-- `count`: how many match
abbrev pub count_of : List ℕ → List ℕ → List Stored → Option ℤ
count_of op arg window = whole (count_matching (operator_of op arg) arg window)

-- `find`: whether one matches; of no value unknown
abbrev pub find_of : List ℕ → List ℕ → List Stored → Option ℤ
find_of op arg window = if length window == 0 then None else Some (truth (any_matches (operator_of op arg) arg window))

-- the place of a pattern among patterns, 0 where there is none
abbrev pub pattern_place : Option (List ℕ) → List (List ℕ) → ℕ
pattern_place None patterns = 0
pattern_place (Some pattern) patterns = place_of pattern patterns
