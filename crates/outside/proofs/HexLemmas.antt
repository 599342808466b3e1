-- How the bytes of a hexadecimal text go on behind its first pair.
use Rattle.std.proofs.Common.{◌≡◌, ℕ, ◌-◌, ◌≤◌, List, [], ◌∷◌, ◌++◌, length, take, drop, get_or, refl, arith, append_assoc, Some, None, Option}
use Rattle.std.specs.Option.{option_map}
use Rattle.std.proofs.lemmas.List.{take_rest}
use Rattle.outside.specs.Words.{byte_of, bytes_of_hex}

-- a byte moves from those to come to those that are made
moved : (made : List ℕ) (byte : ℕ) (more : Option (List ℕ)) → option_map (λ bytes. made ++ bytes) (option_map (λ bytes. byte ∷ bytes) more) ≡ option_map (λ bytes. (made ++ byte ∷ []) ++ bytes) more
moved made byte None = refl
moved made byte (Some bytes) = rw append_assoc

pub hex_step : (made left : List ℕ) (byte : ℕ) → 2 ≤ length left → byte_of (get_or left 0 0) (get_or left 1 0) ≡ Some byte
    → option_map (λ bytes. made ++ bytes) (bytes_of_hex left) ≡ option_map (λ bytes. (made ++ byte ∷ []) ++ bytes) (bytes_of_hex (take (length left - 2) (drop 2 left)))
unfolding bytes_of_hex
hex_step made [] byte long found = absurd (omega arith)
hex_step made (a ∷ []) byte long found = absurd (omega arith)
hex_step made (a ∷ b ∷ rest) byte long found =
    let same : take (length (a ∷ b ∷ rest) - 2) (drop 2 (a ∷ b ∷ rest)) ≡ rest = take_rest (a ∷ b ∷ rest) 2 in
    rw (same, found) (moved made byte (bytes_of_hex rest))
