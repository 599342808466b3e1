-- Files that are opened, or made anew where they are short.
use Rattle.std.specs.Prelude.{◌≡◌, ◌⊎◌, ◌≤◌, ℕ, Bool, ◌||◌, nat_le, ◌==◌, List, length, take, if◌then◌else◌}
use Rattle.std.specs.List.{list_all, zip}
use Rattle.outside.specs.Disk.{DiskTells}

-- a file begins with these bytes, as far as both go
abbrev pub begins : List ℕ → List ℕ → Bool
begins first file = list_all (λ p. p.0 == p.1) (zip first file)

-- a file that may be opened as one whose fresh ones have these 9 bytes: a short one, or one that begins as these do before their gate
abbrev pub is_ours : List ℕ → List ℕ → Bool
is_ours fresh file = nat_le (length file) 9 || begins (take 8 fresh) file

-- what is made of it: a short one is made anew
abbrev pub made_ready : List ℕ → List ℕ → List ℕ
made_ready fresh file = if nat_le (length file) 9 then fresh else file

-- the bytes are those of one of a disk's images, or both are short
abbrev pub IsAsOneOf : DiskTells → List ℕ → Type 0
IsAsOneOf disk c = (d : List ℕ) × disk.images d × ((c ≡ d) ⊎ ((length c ≤ 9) × (length d ≤ 9)))
