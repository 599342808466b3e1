-- Notes that were met.
use Rattle.std.proofs.Common.{◌≡◌, ◌∙◌, inl, inr, ℕ, ◌==◌, ◌||◌, Bool, true, false, List, [], ◌∷◌, ◌++◌, map, refl, sym, ap, eq-eqb}
use Rattle.std.specs.Prelude.{nat_eq}
use Rattle.std.specs.List.{list_any}
use Rattle.std.proofs.lemmas.Bool.{cases_eq, ne_eqb}
use Rattle.indexmap.specs.IndexSet.{insert_key}
use Rattle.alert_queue.specs.declared.types.NoteMark.{NoteMark}
use Rattle.alert_marks.specs.Marks.{has_mark}
use Rattle.alert_marks.specs.Reading.{notes_of}

turned : (a b : ℕ) → nat_eq a b ≡ (b == a)
turned a b = elim (cases_eq a b) [
  | inl same ↦ eq-eqb a b same ∙ sym (eq-eqb b a (sym same))
  | inr other ↦ ne_eqb a b other ∙ sym (ne_eqb b a (λ (e : b ≡ a). other (sym e)))
]

pub met_any : (v : ℕ) (ks : List ℕ) → list_any (nat_eq v) ks ≡ list_any (λ (n : ℕ). n == v) ks
met_any v [] = refl
met_any v (k ∷ ks) = ap (λ (b : Bool). b || list_any (nat_eq v) ks) (turned v k) ∙ ap (λ (b : Bool). (k == v) || b) (met_any v ks)

-- a note that wasn't met goes last
pub met_push : (v : ℕ) (ks : List ℕ) → list_any (λ (n : ℕ). n == v) ks ≡ false → insert_key nat_eq ks v ≡ ks ++ v ∷ []
met_push v ks free = rw (met_any v ks ∙ free) refl

-- one that was changes nothing
pub met_kept : (v : ℕ) (ks : List ℕ) → list_any (λ (n : ℕ). n == v) ks ≡ true → insert_key nat_eq ks v ≡ ks
met_kept v ks there = rw (met_any v ks ∙ there) refl

-- a note is among those of marks where it has a mark
pub met_marked : (marks : List NoteMark) (n : ℕ) → list_any (λ (k : ℕ). k == n) (notes_of marks) ≡ has_mark marks n
met_marked [] n = refl
met_marked (m ∷ marks) n = ap (λ (b : Bool). (m.note == n) || b) (met_marked marks n)

pub notes_push : (marks : List NoteMark) (m : NoteMark) → notes_of (marks ++ m ∷ []) ≡ notes_of marks ++ m.note ∷ []
notes_push [] m = refl
notes_push (x ∷ marks) m = ap (λ (l : List ℕ). x.note ∷ l) (notes_push marks m)
