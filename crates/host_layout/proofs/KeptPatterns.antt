-- The patterns that are kept.
use Rattle.std.proofs.Common.{◌≡◌, ℕ, Bool, true, false, List, [], ◌∷◌, ◌++◌, map, refl, ap, ◌∙◌}
use Rattle.std.specs.Prelude.{String, string_bytes, cond, ◌||◌, Option, Some, None, is_some}
use Rattle.std.specs.Str.{bytes_eq}
use Rattle.std.specs.Map.{lookup}
use Rattle.std.specs.declared.alloc.Global.{Global}
use Rattle.std.specs.Cmp.Lexicographic.{nat_list_eq_equiv}
use Rattle.host_layout.specs.Kept.{kept_pattern}
use Rattle.host_layout.specs.Patterns.{Pattern, used, has_pattern}

abbrev pub Entries : Type 0
Entries = List (String Global × List ℕ)

abbrev pub path_of : List ℕ → Entries → Option (List ℕ)
path_of text es = lookup (λ k. bytes_eq text (string_bytes k)) es

some_or : {A : Type 0} (b : Bool) (x : A) (o : Option A) → is_some (cond b (Some x) o) ≡ (b || is_some o)
some_or true x o = refl
some_or false x o = refl

-- a text has a pointer where it is one of the patterns
pub found_kept : (text : List ℕ) (es : Entries) → is_some (path_of text es) ≡ has_pattern (map kept_pattern es) text
found_kept text [] = refl
found_kept text (e ∷ es) =
    some_or (bytes_eq text (string_bytes e.0)) e.1 (path_of text es)
    ∙ ap (λ b. bytes_eq text (string_bytes e.0) || b) (found_kept text es)
    ∙ ap (λ b. b || has_pattern (map kept_pattern es) text) (nat_list_eq_equiv.symm text (string_bytes e.0))

no_path : {A : Type 0} (o : Option A) → is_some o ≡ false → o ≡ None
no_path None h = refl
no_path (Some a) h = absurd cc

-- and has none where it isn't
pub not_kept : (es : Entries) (k : String Global) (patterns : List Pattern) (text : List ℕ) → map kept_pattern es ≡ patterns → string_bytes k ≡ text → has_pattern patterns text ≡ false
    → lookup (λ x. bytes_eq (string_bytes k) (string_bytes x)) es ≡ None
not_kept es k patterns text e t h = rw t (no_path (path_of text es) (found_kept text es ∙ ap (λ ps. has_pattern ps text) e ∙ h))

-- a new one goes last
pub one_kept : (es : Entries) (k : String Global) (path : List ℕ) → map kept_pattern (es ++ (k, path) ∷ []) ≡ map kept_pattern es ++ used (string_bytes k) path ∷ []
one_kept [] k path = refl
one_kept (e ∷ es) k path = ap (λ ps. kept_pattern e ∷ ps) (one_kept es k path)
