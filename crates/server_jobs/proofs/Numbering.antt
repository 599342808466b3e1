-- Recipients get numbers, note by note.
use Rattle.std.proofs.Common.{◌≡◌, ◌∙◌, inl, inr, ℕ, zero, suc, ◌+◌, ◌<◌, ◌≤◌, Bool, true, false, List, [], ◌∷◌, ◌++◌, length, map, take, slice_index, slice_index_or, Some, refl, sym, ap, subst, arith, length-append, true≢false, ◌||◌}
use Rattle.std.specs.Prelude.{String, string_bytes, not, if◌then◌else◌}
use Rattle.std.specs.Str.{bytes_eq}
use Rattle.std.specs.String.{string_eq}
use Rattle.std.specs.List.{list_any, slice_get}
use Rattle.std.specs.declared.alloc.Global.{Global}
use Rattle.std.proofs.Math.Seq.{get_or-append_seam}
use Rattle.std.proofs.lemmas.Bool.{cases_lt}
use Rattle.std.proofs.lemmas.List.{get_or_append_left, get_or-map, map-append, take_more, take_all}
use Rattle.std.proofs.lemmas.Option.{slice_get_within, get_or_from_slice_get}
use Rattle.std.proofs.lemmas.Slice.Eq.{bytes_eq-Decides}
use Rattle.indexmap.specs.IndexSet.{insert_key}
use Rattle.json_form.specs.Places.{has_name}
use Rattle.json_form.proofs.Taken.{names_any, names_push, names_kept}
use Rattle.alert_media.specs.declared.media.Media.{Media}
use Rattle.alert_queue.specs.declared.types.Kind.{Kind}
use Rattle.alert_run.specs.declared.types.Note.{Note}
use Rattle.server_jobs.specs.Tries.{no_note}
use Rattle.server_jobs.specs.Numbering.{recipient_at, AreDistinct, AreNumbered, kind_for, IsNumbering}
use Rattle.server_jobs.specs.declared.recipients.Numbered.{Numbered}

length_map : {A B : Type 0} (f : A → B) (l : List A) → length (map f l) ≡ length l
length_map f [] = refl
length_map f (x ∷ l) = omega (arith, length_map f l)

-- where a recipient that was met stands
pub place_of : (v : String Global) (ks : List (String Global)) (i : ℕ) → ((k : String Global) × (slice_get ks i ≡ Some k) × (string_eq v k ≡ true))
    → (i < length (map string_bytes ks)) × (recipient_at (map string_bytes ks) i ≡ string_bytes v)
place_of v ks i (k, at, same) =
    let inside : i < length ks = slice_get_within ks i k at in (
      omega (arith, length_map string_bytes ks),
      get_or-map string_bytes ks i k [] inside ∙ ap string_bytes (get_or_from_slice_get ks i k k at) ∙ sym ((bytes_eq-Decides (string_bytes v) (string_bytes k)).0 same),
    )

-- the recipients behind one that was met
pub met_more : (v : String Global) (ks : List (String Global)) (first : Bool) → first ≡ not (list_any (string_eq v) ks)
    → map string_bytes (insert_key string_eq ks v) ≡ (if first then map string_bytes ks ++ string_bytes v ∷ [] else map string_bytes ks)
met_more v ks first is = go (list_any (string_eq v) ks) refl
  where
    go : (b : Bool) → list_any (string_eq v) ks ≡ b → map string_bytes (insert_key string_eq ks v) ≡ (if first then map string_bytes ks ++ string_bytes v ∷ [] else map string_bytes ks)
    go true e =
        let old : first ≡ false = is ∙ ap not e in
        rw old (ap (map string_bytes) (names_kept v ks (sym (names_any v ks) ∙ e)))
    go false e =
        let new : first ≡ true = is ∙ ap not e in
        rw new (names_push v ks (sym (names_any v ks) ∙ e))

-- ---- notes

pub numbered_none : (media : Media) (n : Numbered) → n.recipients ≡ [] → n.homes.items ≡ [] → n.kinds.items ≡ [] → IsNumbering media [] n
numbered_none media n recipients homes kinds = record {
  distinct = λ a b less high. absurd (omega (arith, less, high, ap length recipients));
  numbered = record { count = ap length homes; there = λ i inside. absurd (omega arith) };
  kinds_are = kinds ∙ ap (map (kind_for media)) (sym recipients);
  few = omega (arith, ap length recipients);
}

-- a recipient that stands among others was met
has_at : (rs : List (List ℕ)) (name : List ℕ) (a : ℕ) → a < length rs → recipient_at rs a ≡ name → has_name name rs ≡ true
has_at [] name a inside is = absurd (omega arith)
has_at (r ∷ rs) name zero inside is = rw ((bytes_eq-Decides name r).1 (sym is)) refl
has_at (r ∷ rs) name (suc a) inside is = either (bytes_eq name r) (has_name name rs) (has_at rs name a (omega arith) is)
  where
    either : (a b : Bool) → b ≡ true → (a || b) ≡ true
    either true b e = refl
    either false b e = e

distinct_more : (rs : List (List ℕ)) (name : List ℕ) → has_name name rs ≡ false → AreDistinct rs → AreDistinct (rs ++ name ∷ [])
distinct_more rs name free distinct a b less high =
    let count : length (rs ++ name ∷ []) ≡ length rs + 1 = length-append rs (name ∷ []) in
    elim (cases_lt b (length rs)) [
      | inl inside ↦ λ same. distinct a b less inside (sym (get_or_append_left rs (name ∷ []) [] a (omega (arith, less, inside))) ∙ same ∙ get_or_append_left rs (name ∷ []) [] b inside)
      | inr past ↦ λ same.
          let last : b ≡ length rs = omega (arith, past, high, count) in
          let at : recipient_at (rs ++ name ∷ []) b ≡ name = ap (recipient_at (rs ++ name ∷ [])) last ∙ get_or-append_seam rs name [] [] in
          let low : a < length rs = omega (arith, less, last) in
          let met : has_name name rs ≡ true = has_at rs name a low (sym (get_or_append_left rs (name ∷ []) [] a low) ∙ same ∙ at) in
          true≢false (sym met ∙ free)
    ]

-- one note more, whose recipient stands among these, of which those before were the first
notes_more : (rs rs' : List (List ℕ)) (homes : List ℕ) (notes : List Note) (place : ℕ) (note : Note)
    → ((i : ℕ) → i < length rs → recipient_at rs' i ≡ recipient_at rs i) → length rs ≤ length rs' → place < length rs' → recipient_at rs' place ≡ note.recipient
    → AreNumbered rs homes notes → AreNumbered rs' (homes ++ place ∷ []) (notes ++ note ∷ [])
notes_more rs rs' homes notes place note same grows inside is n =
    let longer : length (homes ++ place ∷ []) ≡ length homes + 1 = length-append homes (place ∷ []) in
    let more : length (notes ++ note ∷ []) ≡ length notes + 1 = length-append notes (note ∷ []) in
    record {
      count = omega (arith, longer, more, n.count);
      there = λ i high. elim (cases_lt i (length notes)) [
        | inl before ↦
            let home : slice_index (homes ++ place ∷ []) i ≡ slice_index homes i = get_or_append_left homes (place ∷ []) 0 i (omega (arith, before, n.count)) in
            let old = n.there i before in (
              omega (arith, home, old.0, grows),
              ap (recipient_at rs') home ∙ same (slice_index homes i) old.0 ∙ old.1 ∙ ap (λ (m : Note). m.recipient) (sym (get_or_append_left notes (note ∷ []) no_note i before)),
            )
        | inr past ↦
            let last : i ≡ length homes = omega (arith, past, high, more, n.count) in
            let end : i ≡ length notes = omega (arith, past, high, more) in
            let home : slice_index (homes ++ place ∷ []) i ≡ place = ap (slice_index (homes ++ place ∷ [])) last ∙ get_or-append_seam homes place [] 0 in
            let at : slice_index_or (notes ++ note ∷ []) i no_note ≡ note = ap (λ (k : ℕ). slice_index_or (notes ++ note ∷ []) k no_note) end ∙ get_or-append_seam notes note [] no_note in
            (omega (arith, home, inside), ap (recipient_at rs') home ∙ is ∙ ap (λ (m : Note). m.recipient) (sym at))
      ];
    }

-- a note more
pub numbered_more : (media : Media) (notes : List Note) (note : Note) (old new : Numbered) (place : ℕ) (first : Bool)
    → first ≡ not (has_name note.recipient old.recipients) → new.recipients ≡ (if first then old.recipients ++ note.recipient ∷ [] else old.recipients)
    → (place < length new.recipients) × (recipient_at new.recipients place ≡ note.recipient)
    → new.homes.items ≡ old.homes.items ++ place ∷ [] → new.kinds.items ≡ (if first then old.kinds.items ++ kind_for media note.recipient ∷ [] else old.kinds.items)
    → IsNumbering media notes old → IsNumbering media (notes ++ note ∷ []) new
numbered_more media notes note old new place true met grown at homes kinds n =
    let free : has_name note.recipient old.recipients ≡ false = not_true (has_name note.recipient old.recipients) met in
    let longer : length new.recipients ≡ length old.recipients + 1 = ap length grown ∙ length-append old.recipients (note.recipient ∷ []) in
    record {
      distinct = subst AreDistinct (sym grown) (distinct_more old.recipients note.recipient free n.distinct);
      numbered = subst (λ (hs : List ℕ). AreNumbered new.recipients hs (notes ++ note ∷ [])) (sym homes)
          (notes_more old.recipients new.recipients old.homes.items notes place note
          (λ i inside. ap (λ (rs : List (List ℕ)). recipient_at rs i) grown ∙ get_or_append_left old.recipients (note.recipient ∷ []) [] i inside)
          (omega (arith, longer)) at.0 at.1 n.numbered);
      kinds_are = kinds ∙ ap (λ (ks : List Kind). ks ++ kind_for media note.recipient ∷ []) n.kinds_are
          ∙ sym (map-append (kind_for media) old.recipients (note.recipient ∷ [])) ∙ ap (map (kind_for media)) (sym grown);
      few = omega (arith, longer, n.few, length-append notes (note ∷ []));
    }
  where
    not_true : (b : Bool) → true ≡ not b → b ≡ false
    not_true false e = refl
    not_true true e = cc
numbered_more media notes note old new place false met grown at homes kinds n =
    record {
      distinct = subst AreDistinct (sym grown) n.distinct;
      numbered = subst (λ (hs : List ℕ). AreNumbered new.recipients hs (notes ++ note ∷ [])) (sym homes)
          (notes_more old.recipients new.recipients old.homes.items notes place note (λ i inside. ap (λ (rs : List (List ℕ)). recipient_at rs i) grown)
          (omega (arith, ap length grown)) at.0 at.1 n.numbered);
      kinds_are = kinds ∙ n.kinds_are ∙ ap (map (kind_for media)) (sym grown);
      few = omega (arith, ap length grown, n.few, length-append notes (note ∷ []));
    }

pub numbered_next : (media : Media) (notes : List Note) (i : ℕ) (note : Note) (n : Numbered) → i < length notes → note ≡ slice_index_or notes i note
    → IsNumbering media (take i notes ++ note ∷ []) n → IsNumbering media (take (i + 1) notes) n
numbered_next media notes i note n inside is now = subst (λ (ns : List Note). IsNumbering media ns n) (ap (λ (m : Note). take i notes ++ m ∷ []) is ∙ sym (take_more notes i note inside)) now

pub numbered_all : (media : Media) (notes : List Note) (i : ℕ) (n : Numbered) → length notes ≤ i → IsNumbering media (take i notes) n → IsNumbering media notes n
numbered_all media notes i n past now = subst (λ (ns : List Note). IsNumbering media ns n) (take_all i notes past) now
