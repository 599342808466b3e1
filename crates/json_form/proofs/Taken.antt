-- The names of a set of texts.
use Rattle.std.proofs.Common.{◌≡◌, true, false, List, [], ◌∷◌, ◌++◌, map, refl, ap, ◌∙◌}
use Rattle.std.specs.Prelude.{◌||◌, String, string_bytes}
use Rattle.std.specs.String.{string_eq}
use Rattle.std.specs.List.{list_any}
use Rattle.std.specs.Str.{bytes_eq}
use Rattle.std.specs.declared.alloc.Global.{Global}
use Rattle.std.proofs.lemmas.List.{map_push}
use Rattle.indexmap.specs.IndexSet.{insert_key}
use Rattle.json_form.specs.Places.{has_name}

-- a string is among others where its bytes are among theirs
pub names_any : (v : String Global) (ks : List (String Global)) → list_any (string_eq v) ks ≡ has_name (string_bytes v) (map string_bytes ks)
names_any v [] = refl
names_any v (k ∷ ks) = ap (λ b. bytes_eq (string_bytes v) (string_bytes k) || b) (names_any v ks)

-- a name that isn't taken goes last
pub names_push : (v : String Global) (ks : List (String Global)) → has_name (string_bytes v) (map string_bytes ks) ≡ false → map string_bytes (insert_key string_eq ks v) ≡ map string_bytes ks ++ string_bytes v ∷ []
names_push v ks free = rw (names_any v ks ∙ free) (map_push string_bytes ks v)

-- a name that is taken changes nothing
pub names_kept : (v : String Global) (ks : List (String Global)) → has_name (string_bytes v) (map string_bytes ks) ≡ true → insert_key string_eq ks v ≡ ks
names_kept v ks taken = rw (names_any v ks ∙ taken) refl
