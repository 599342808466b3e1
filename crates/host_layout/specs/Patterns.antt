-- The patterns of the flat configuration: regular expressions in the order of their first uses.
use Rattle.std.specs.Prelude.{◌≡◌, ℕ, nat_le, Bool, false, not, ◌&&◌, List, [], ◌∷◌, ◌++◌, length, Result, Ok, if◌then◌else◌}
use Rattle.std.specs.List.{list_any}
use Rattle.std.specs.Str.{bytes_eq}
use Rattle.zbx_types.specs.declared.causes.Cause.TheVariants.{BadMember, TooMany}
use Rattle.host_layout.specs.Places.{Flaw, refuse, each_list}
use Rattle.host_layout.specs.declared.patterns.Joining.{Joining}
use Rattle.host_layout.specs.declared.patterns.Joining.TheVariants.{Known, New, Refused}

-- a pattern, and the pointer to the member that uses it
pub record Pattern : Type 0 where
  pub text : List ℕ
  pub path : List ℕ

-- the pattern that a member uses
abbrev pub used : List ℕ → List ℕ → Pattern
used text path = record { text = text; path = path }

-- the most bytes of a pattern
abbrev pub longest_pattern : ℕ
longest_pattern = 255

-- the most patterns
abbrev pub most_patterns : ℕ
most_patterns = 128

-- a pattern may be so long
abbrev pub is_pattern : List ℕ → Bool
is_pattern text = nat_le 1 (length text) && nat_le (length text) longest_pattern

-- one of the patterns has this text
abbrev pub has_pattern : List Pattern → List ℕ → Bool
has_pattern patterns text = list_any (λ p. bytes_eq p.text text) patterns

-- the patterns, where one more is used behind those
abbrev pub joined : List Pattern → Pattern → Result (List Pattern) Flaw
joined before p =
    if not (is_pattern p.text) then refuse p.path BadMember
    else if has_pattern before p.text then Ok before
    else if nat_le most_patterns (length before) then refuse p.path TooMany
    else Ok (before ++ p ∷ [])

-- the patterns, where these are used one after the other behind those
abbrev pub all_joined : List Pattern → List Pattern → Result (List Pattern) Flaw
all_joined before uses = each_list joined before uses

-- what comes of a text that is used behind these patterns, wherever it is used
abbrev pub Settles : Joining → List Pattern → List ℕ → Type 0
Settles Known before text = (path : List ℕ) → joined before (used text path) ≡ Ok before
Settles New before text = (has_pattern before text ≡ false) × ((path : List ℕ) → joined before (used text path) ≡ Ok (before ++ used text path ∷ []))
Settles (Refused cause) before text = (path : List ℕ) → joined before (used text path) ≡ refuse path cause
