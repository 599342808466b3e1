-- Steps that make decimal numbers of words and of other digits.
use Rattle.std.specs.Prelude.{ℕ, ◌^◌, ◌-◌, Bool, true, false, ◌&&◌, ◌==◌, nat_le, nat_lt, List, [], ◌∷◌, length, Option, Some, None, if◌then◌else◌, ℤ, pos, codes}
use Rattle.std.specs.Char.{digit_value}
use Rattle.std.specs.Fmt.{decimal}
use Rattle.std.specs.List.{list_any, list_all}
use Rattle.std.specs.Ordering.{int_eq}
use Rattle.std.specs.Str.{str_eq_ignore_ascii_case}
use Rattle.std.specs.Str.Parse.{digits_value}
use Rattle.zbx_types.specs.Blanks.{unpadded}
use Rattle.zbx_types.specs.Numerals.{read_number}
use Rattle.prep_steps.specs.Numbering.{no_number}
use Rattle.prep_steps.specs.Outcomes.{passed}
use Rattle.prep_steps.specs.declared.outcome.Outcome.{Outcome}
use Rattle.prep_steps.specs.declared.outcome.Outcome.TheVariants.{Fail}

-- the words for what is true
abbrev pub true_words : List (List ℕ)
true_words = codes "true" ∷ codes "t" ∷ codes "yes" ∷ codes "y" ∷ codes "on" ∷ codes "up" ∷ codes "running" ∷ codes "enabled" ∷ codes "available" ∷ codes "ok" ∷ codes "master" ∷ []

-- the words for what isn't true
abbrev pub false_words : List (List ℕ)
false_words = codes "false" ∷ codes "f" ∷ codes "no" ∷ codes "n" ∷ codes "off" ∷ codes "down" ∷ codes "unused" ∷ codes "disabled" ∷ codes "unavailable" ∷ codes "err" ∷ codes "slave" ∷ []

-- a text is one of some words, whatever the case of its letters
abbrev pub is_one_of : List (List ℕ) → List ℕ → Bool
is_one_of words text = list_any (λ word. str_eq_ignore_ascii_case word text) words

-- 1 for what is true, and 0 for what isn't
abbrev pub truth : Bool → Outcome
truth true = passed (codes "1")
truth false = passed (codes "0")

-- a number is true where it isn't zero, and a word by its list
abbrev pub truth_of : Option ℤ → List ℕ → Outcome
truth_of (Some z) text = truth (if int_eq z (pos 0) then false else true)
truth_of None text = if is_one_of true_words text then truth true else if is_one_of false_words text then truth false else no_number

-- boolean to decimal (the Zabbix 6.0 manual, "Preprocessing details")
unfoldable pub bool_to_decimal : List ℕ → Outcome
bool_to_decimal value = truth_of (read_number (unpadded value)) (unpadded value)

-- a text is digits of a radix alone
abbrev pub all_of_radix : ℕ → List ℕ → Bool
all_of_radix radix text = list_all (λ c. nat_lt (digit_value c) radix) text

-- the number that digits of a radix write, where they are digits, at least one, and the number has 64 bits
unfoldable pub number_in_radix : ℕ → List ℕ → Option ℕ
number_in_radix radix digits =
    if nat_le 1 (length digits) && all_of_radix radix digits && nat_le (digits_value radix digits) (2 ^ 64 - 1) then Some (digits_value radix digits)
    else None

-- a number in decimal digits
abbrev pub in_decimal : Option ℕ → Outcome
in_decimal None = Fail (codes "bad digits")
in_decimal (Some n) = passed (decimal n)

-- octal to decimal (the Zabbix 6.0 manual, "Preprocessing details")
unfoldable pub octal_to_decimal : List ℕ → Outcome
octal_to_decimal value = in_decimal (number_in_radix 8 (unpadded value))

-- a text without a `0x` at its front
abbrev pub without_hex_sign : List ℕ → List ℕ
without_hex_sign [] = []
without_hex_sign (a ∷ []) = a ∷ []
without_hex_sign (a ∷ b ∷ rest) = if (a == 48) && (b == 120) then rest else a ∷ b ∷ rest

-- hexadecimal to decimal (the Zabbix 6.0 manual, "Preprocessing details")
unfoldable pub hex_to_decimal : List ℕ → Outcome
hex_to_decimal value = in_decimal (number_in_radix 16 (without_hex_sign (unpadded value)))
