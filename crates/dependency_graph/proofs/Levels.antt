-- The levels of a walk, of which each looks at the new templates alone.
use Rattle.std.proofs.Common.{◌≡◌, ℕ, zero, suc, ◌+◌, ◌-◌, ◌<◌, ◌≤◌, List, [], ◌++◌, length, get_or, take, drop, min, refl, ap, sym, ◌∙◌, subst, arith, append-nil}
use Rattle.std.proofs.lemmas.Grind.{flat_map-append}
use Rattle.std.proofs.lemmas.List.{take-append-drop, take_at, take-append-le, length-take}
use Rattle.dependency_graph.specs.Walks.{once_behind, once, linked_by, walked}
use Rattle.dependency_graph.proofs.Once.{IsAmong, once_behind-append, once_behind-among, once-append, among-before, among-added, among-append}

pub linked_by-append : (links : List (List ℕ)) (xs ys : List ℕ) → linked_by links (xs ++ ys) ≡ linked_by links xs ++ linked_by links ys
linked_by-append links xs ys = flat_map-append (λ t. get_or links t []) xs ys

-- those whose templates are met add nothing
pub level-new : (links : List (List ℕ)) (seen older newer : List ℕ) → older ++ newer ≡ seen → IsAmong (linked_by links older) seen
    → once_behind seen (linked_by links seen) ≡ once_behind seen (linked_by links newer)
level-new links seen older newer parts met =
    ap (λ q. once_behind seen (linked_by links q)) (sym parts)
    ∙ ap (once_behind seen) (linked_by-append links older newer)
    ∙ once_behind-append seen (linked_by links older) (linked_by links newer)
    ∙ ap (λ r. r ++ once_behind (seen ++ r) (linked_by links newer)) (once_behind-among seen (linked_by links older) met)
    ∙ ap (λ q. once_behind q (linked_by links newer)) (append-nil seen)

-- a level over the new ones is a level
pub level : (links : List (List ℕ)) (seen : List ℕ) (start : ℕ) → once seen ≡ seen → IsAmong (linked_by links (take start seen)) seen
    → once (seen ++ linked_by links seen) ≡ seen ++ once_behind seen (linked_by links (drop start seen))
level links seen start e met =
    once-append seen (linked_by links seen) e
    ∙ ap (λ r. seen ++ r) (level-new links seen (take start seen) (drop start seen) (take-append-drop start seen) met)

-- behind a level the templates of all that stood there are met
pub level-met : (links : List (List ℕ)) (seen : List ℕ) (start : ℕ) → IsAmong (linked_by links (take start seen)) seen
    → IsAmong (linked_by links (take (length seen) (seen ++ once_behind seen (linked_by links (drop start seen))))) (seen ++ once_behind seen (linked_by links (drop start seen)))
level-met links seen start met =
    let added = once_behind seen (linked_by links (drop start seen)) in
    let P : List ℕ → Type 0 = λ q. IsAmong (linked_by links q) (seen ++ added) in
    let Q : List ℕ → Type 0 = λ q. IsAmong q (seen ++ added) in
    subst P (sym (take_at seen added (length seen) refl)) (subst P (take-append-drop start seen)
    (subst Q (sym (linked_by-append links (take start seen) (drop start seen)))
    (among-append (linked_by links (take start seen)) (linked_by links (drop start seen)) (seen ++ added)
    (λ k h. among-before seen (linked_by links (drop start seen)) k (met k h)) (among-added seen (linked_by links (drop start seen))))))

-- one level less to go
pub walked-more : (links : List (List ℕ)) (n level : ℕ) (seen : List ℕ) → level < n → walked links (n - level) seen ≡ walked links (n - (level + 1)) (once (seen ++ linked_by links seen))
walked-more links n level seen within =
    let e : n - level ≡ suc (n - (level + 1)) = omega arith in
    ap (λ m. walked links m seen) e

-- a list is at least as long as its front
pub front_within : (front queue : List ℕ) → take (length front) queue ≡ front → length front ≤ length queue
front_within front queue e =
    let size : min (length front) (length queue) ≡ length front = sym (length-take (length front) queue) ∙ ap length e in
    omega (arith, size)

-- a front stays where more is put behind
pub front_kept : (front queue after more : List ℕ) → take (length front) queue ≡ front → after ≡ queue ++ more → take (length front) after ≡ front
front_kept front queue after more e f =
    ap (take (length front)) f ∙ take-append-le (length front) queue more (front_within front queue e) ∙ e

-- where all templates of those that are there are met, no level adds one
pub walked-still : (links : List (List ℕ)) (levels : ℕ) (seen : List ℕ) → once seen ≡ seen → IsAmong (linked_by links seen) seen → walked links levels seen ≡ seen
walked-still links zero seen e met = refl
walked-still links (suc levels) seen e met =
    ap (walked links levels) (once-append seen (linked_by links seen) e ∙ ap (λ r. seen ++ r) (once_behind-among seen (linked_by links seen) met) ∙ append-nil seen)
    ∙ walked-still links levels seen e met
