-- What the machine takes is a path of the grammar: each state says what has come.
use Rattle.std.proofs.Common.{◌≡◌, ℕ, List, [], ◌∷◌, ◌++◌, refl, ap, sym, ◌∙◌, Option, Some, None, Bool, true, false, ◌==◌, nat_eq, append_assoc, append-nil, subst, codes}
use Rattle.std.specs.Cmp.Lexicographic.{pointwise, bytes_decides}
use Rattle.json_path.specs.declared.tokens.Spelling.{Spelling}
use Rattle.json_path.specs.declared.path.Path.{Path}
use Rattle.json_path.specs.declared.path.Segment.{Segment}
use Rattle.json_path.specs.declared.path.Selector.TheVariants.{Names, All}
use Rattle.json_path.specs.declared.path.Function.{Function}
use Rattle.json_path.specs.declared.path.Function.TheVariants.{Length, First, Min, Max, Sum, Avg}
use Rattle.json_path.specs.declared.brackets.InBrackets.TheVariants as within
use Rattle.json_path.specs.declared.brackets.Chosen.{Chosen}
use Rattle.json_path.specs.declared.places.Place.{Place}
use Rattle.json_path.specs.declared.places.Place.TheVariants.{Start, Behind, Point, Points, Name, Inside, Call, Called}
use Rattle.json_path.specs.declared.places.State.{State}
use Rattle.byte_grammar.specs.Bytes.{Each, is_space}
use Rattle.json_path.specs.Grammar.{is_name_byte, dots, opening, member, members, selected, AreSegments, document, segment as with_segment, function_name, IsPath, selection, with_function}
use Rattle.json_path.specs.Tokens.{spell, unspelt, checked}
use Rattle.json_path.specs.Machine.{state, segment, behind_segment, member_goes, member_ends, function_of, call_begins, behind_name, selector_goes, behind_points, step_from, step, named_path, ends_from, start}
use Rattle.byte_grammar.specs.Runs.{run}
use Rattle.byte_grammar.proofs.Runs.{run_none}
use Rattle.byte_grammar.proofs.Bytes.{each_none}
use Rattle.json_path.proofs.TokenPasts.{either, eq_true, IsSpelt, spells, unspelt_spelt, NamePast, name_more, name_whole}
use Rattle.json_path.proofs.SelectorPasts.{ChoicePast, ChoiceBehind, open_in, closed_in, wrong_in, choice_behind}

-- a path so far
abbrev pub PlacePast : List Segment → Place → List ℕ → Type 0
PlacePast done Start q = (done ≡ []) × (q ≡ [])
PlacePast done Behind q = AreSegments q done
PlacePast done Point q = (v : List ℕ) × AreSegments v done × (q ≡ v ++ 46 ∷ [])
PlacePast done Points q = (v : List ℕ) × AreSegments v done × (q ≡ v ++ 46 ∷ 46 ∷ [])
PlacePast done (Name deep s) q = (v : List ℕ) × AreSegments v done × NamePast s × (q ≡ v ++ (dots deep ++ s.bytes))
PlacePast done (Inside deep w) q = (v : List ℕ) × (u : List ℕ) × AreSegments v done × ChoicePast w u × (q ≡ v ++ (opening deep ++ u))
PlacePast done (Call f) q = (v : List ℕ) × AreSegments v done × (q ≡ v ++ 46 ∷ (function_name f ++ 40 ∷ []))
PlacePast done (Called f) q = (v : List ℕ) × AreSegments v done × (q ≡ v ++ 46 ∷ (function_name f ++ 40 ∷ 41 ∷ []))

abbrev pub StatePast : State → List ℕ → Type 0
StatePast s q = PlacePast s.done s.place q

-- what a byte makes of it
pub data StateBehind (q : List ℕ) (b : ℕ) : Option State → Type 0 where
  on : (done : List Segment) (p : Place) → PlacePast done p (q ++ b ∷ []) → StateBehind q b (Some (state done p))
  off : StateBehind q b None

last_is : (u : List ℕ) (b c : ℕ) → (b == c) ≡ true → u ++ b ∷ [] ≡ u ++ c ∷ []
last_is u b c h = ap (λ (v : ℕ). u ++ v ∷ []) (eq_true b c h)

segment_behind : (q : List ℕ) (b : ℕ) (done : List Segment) → AreSegments q done → StateBehind q b (behind_segment done b)
segment_behind q b done k =
    let P : Option State → Type 0 = λ z. StateBehind q b z in
    either P (b == 46) _ _ (λ h. on done Point (q, k, last_is q b 46 h))
    (λ n. either P (b == 91) _ _ (λ h. on done (Inside false within.Before) (q, [], k, each_none is_space, last_is q b 91 h)) (λ m. off))

name_on : (q : List ℕ) (b : ℕ) (done : List Segment) (deep : Bool) (s : Spelling) (v : List ℕ) → AreSegments v done → IsSpelt s → Each is_name_byte s.bytes → q ≡ v ++ (dots deep ++ s.bytes) → is_name_byte b ≡ true → StateBehind q b (member_goes done deep (spell s b))
name_on q b done deep s v k h i g n = from (spell s b) refl
  where
    from : (o : Option Spelling) → spell s b ≡ o → StateBehind q b (member_goes done deep o)
    from None p = off
    from (Some r) p = let z = spells s b r h p in on done (Name deep r) (v, k, name_more s b r i n z, rw (g, z.bytes) (append_assoc v (dots deep ++ s.bytes) (b ∷ []) ∙ ap (λ (w : List ℕ). v ++ w) (append_assoc (dots deep) s.bytes (b ∷ []))))

-- the segments with a name at their end
with_name : (q : List ℕ) (done : List Segment) (deep : Bool) (s : Spelling) (v w : List ℕ) → AreSegments v done → NamePast s → q ≡ v ++ (dots deep ++ s.bytes) → checked s.bytes ≡ Some w → AreSegments q (done ++ segment deep (Names (w ∷ [])) ∷ [])
with_name q done deep s v w k p g h = with_segment v (dots deep ++ s.bytes) done (segment deep (Names (w ∷ []))) k (member deep s.bytes w (name_whole s w p h) refl) g refl

name_off : (q : List ℕ) (b : ℕ) (done : List Segment) (deep : Bool) (s : Spelling) (v : List ℕ) → AreSegments v done → NamePast s → q ≡ v ++ (dots deep ++ s.bytes) → StateBehind q b (member_ends done deep b (checked s.bytes))
name_off q b done deep s v k p g = from (checked s.bytes) refl
  where
    from : (o : Option (List ℕ)) → checked s.bytes ≡ o → StateBehind q b (member_ends done deep b o)
    from None h = off
    from (Some w) h = segment_behind q b (done ++ segment deep (Names (w ∷ [])) ∷ []) (with_name q done deep s v w k p g h)

same_bytes : (a b : List ℕ) → pointwise nat_eq a b ≡ true → a ≡ b
same_bytes a b h = (bytes_decides a b).0 h

-- the function of a name is written so
data IsOf (bytes : List ℕ) : Option Function → Type 0 where
  of : (f : Function) → bytes ≡ function_name f → IsOf bytes (Some f)
  of_none : IsOf bytes None

function_is : (bytes : List ℕ) → IsOf bytes (function_of bytes)
function_is bytes =
    let P : Option Function → Type 0 = λ o. IsOf bytes o in
    either P (pointwise nat_eq bytes (codes "length")) _ _ (λ h. of Length (same_bytes bytes (codes "length") h))
    (λ n. either P (pointwise nat_eq bytes (codes "first")) _ _ (λ h. of First (same_bytes bytes (codes "first") h))
    (λ n. either P (pointwise nat_eq bytes (codes "min")) _ _ (λ h. of Min (same_bytes bytes (codes "min") h))
    (λ n. either P (pointwise nat_eq bytes (codes "max")) _ _ (λ h. of Max (same_bytes bytes (codes "max") h))
    (λ n. either P (pointwise nat_eq bytes (codes "sum")) _ _ (λ h. of Sum (same_bytes bytes (codes "sum") h))
    (λ n. either P (pointwise nat_eq bytes (codes "avg")) _ _ (λ h. of Avg (same_bytes bytes (codes "avg") h)) (λ n. of_none))))))

call_on : (q : List ℕ) (b : ℕ) (done : List Segment) (bytes v : List ℕ) → AreSegments v done → q ≡ v ++ 46 ∷ bytes → b ≡ 40 → {o : Option Function} → IsOf bytes o → StateBehind q b (call_begins done o)
call_on q b done bytes v k g h (of f e) = on done (Call f) (v, k, rw (g, h, e) (append_assoc v (46 ∷ function_name f) (40 ∷ [])))
call_on q b done bytes v k g h of_none = off

name_behind : (q : List ℕ) (b : ℕ) (done : List Segment) (deep : Bool) (s : Spelling) (v : List ℕ) → AreSegments v done → NamePast s → q ≡ v ++ (dots deep ++ s.bytes) → StateBehind q b (behind_name done deep s.bytes b)
name_behind q b done true s v k p g = either (λ z. StateBehind q b z) (b == 40) _ _ (λ h. off) (λ n. name_off q b done true s v k p g)
name_behind q b done false s v k p g = either (λ z. StateBehind q b z) (b == 40) _ _ (λ h. call_on q b done s.bytes v k g (eq_true b 40 h) (function_is s.bytes)) (λ n. name_off q b done false s v k p g)

star_on : (q : List ℕ) (b : ℕ) (done : List Segment) (deep : Bool) (v : List ℕ) → AreSegments v done → q ≡ v ++ dots deep → (b == 42) ≡ true → StateBehind q b (Some (state (done ++ segment deep All ∷ []) Behind))
star_on q b done deep v k g h =
    on (done ++ segment deep All ∷ []) Behind (with_segment v (dots deep ++ 42 ∷ []) done (segment deep All) k (members deep refl) (rw (g, eq_true b 42 h) (append_assoc v (dots deep) (42 ∷ []))) refl)

points_behind : (q : List ℕ) (b : ℕ) (done : List Segment) (deep : Bool) (v : List ℕ) → AreSegments v done → q ≡ v ++ dots deep → StateBehind q b (behind_points done deep b)
points_behind q b done deep v k g =
    let P : Option State → Type 0 = λ z. StateBehind q b z in
    either P (b == 42) _ _ (λ h. star_on q b done deep v k g h)
    (λ n. either P (is_name_byte b) _ _ (λ h. name_on q b done deep unspelt v k unspelt_spelt (each_none is_name_byte) (g ∙ ap (λ (w : List ℕ). v ++ w) (sym (append-nil (dots deep)))) h) (λ m. off))

in_brackets : (q : List ℕ) (b : ℕ) (done : List Segment) (deep : Bool) (v u : List ℕ) → AreSegments v done → q ≡ v ++ (opening deep ++ u) → {c : Chosen} → ChoiceBehind u b c → StateBehind q b (selector_goes done deep c)
in_brackets q b done deep v u k g (open_in m p) = on done (Inside deep m) (v, u ++ b ∷ [], k, p, rw g (append_assoc v (opening deep ++ u) (b ∷ []) ∙ ap (λ (w : List ℕ). v ++ w) (append_assoc (opening deep) u (b ∷ []))))
in_brackets q b done deep v u k g (closed_in s h p) =
    on (done ++ segment deep s ∷ []) Behind (with_segment v (opening deep ++ (u ++ 93 ∷ [])) done (segment deep s) k (selected deep u s p refl)
    (rw (g, h) (append_assoc v (opening deep ++ u) (93 ∷ []) ∙ ap (λ (w : List ℕ). v ++ w) (append_assoc (opening deep) u (93 ∷ [])))) refl)
in_brackets q b done deep v u k g wrong_in = off

-- a byte leaves what has come of a path
state_behind : (done : List Segment) (p : Place) (q : List ℕ) (b : ℕ) → PlacePast done p q → StateBehind q b (step_from done p b)
state_behind done Start q b k = either (λ z. StateBehind q b z) (b == 36) _ _ (λ h. on done Behind (rw (k.0, k.1, eq_true b 36 h) document)) (λ n. off)
state_behind done Behind q b k = segment_behind q b done k
state_behind done Point q b k = either (λ z. StateBehind q b z) (b == 46) _ _
    (λ h. on done Points (k.0, k.1, rw (k.2, eq_true b 46 h) (append_assoc k.0 (46 ∷ []) (46 ∷ [])))) (λ n. points_behind q b done false k.0 k.1 k.2)
state_behind done Points q b k = either (λ z. StateBehind q b z) (b == 91) _ _
    (λ h. on done (Inside true within.Before) (k.0, [], k.1, each_none is_space, rw (k.2, eq_true b 91 h) (append_assoc k.0 (46 ∷ 46 ∷ []) (91 ∷ [])))) (λ n. points_behind q b done true k.0 k.1 k.2)
state_behind done (Name deep s) q b k = either (λ z. StateBehind q b z) (is_name_byte b) _ _
    (λ h. name_on q b done deep s k.0 k.1 k.2.spelt k.2.each k.3 h) (λ n. name_behind q b done deep s k.0 k.1 k.2 k.3)
state_behind done (Inside deep w) q b k = in_brackets q b done deep k.0 k.1 k.2 k.4 (choice_behind w k.1 b k.3)
state_behind done (Call f) q b k = either (λ z. StateBehind q b z) (b == 41) _ _
    (λ h. on done (Called f) (k.0, k.1, rw (k.2, eq_true b 41 h) (simp append_assoc))) (λ n. off)
state_behind done (Called f) q b k = off

behind_is : (q : List ℕ) (b : ℕ) (o : Option State) (t : State) → StateBehind q b o → o ≡ Some t → StatePast t (q ++ b ∷ [])
behind_is q b o t (on done p k) e = let g : state done p ≡ t = cc in subst (λ (z : State). StatePast z (q ++ b ∷ [])) g k
behind_is q b o t off e = absurd cc

run_past : (bs q : List ℕ) (s : State) → StatePast s q → (t : State) → run step (Some s) bs ≡ Some t → StatePast t (q ++ bs)
unfolding run
run_past [] q s k t e = let g : s ≡ t = cc in subst (λ (v : List ℕ). StatePast t v) (sym (append-nil q)) (subst (λ (z : State). StatePast z q) g k)
run_past (b ∷ bs) q s k t e = from (step s b) refl e (λ r h. run_past bs (q ++ b ∷ []) r h t)
  where
    from : (o : Option State) → step s b ≡ o → run step o bs ≡ Some t → ((r : State) → StatePast r (q ++ b ∷ []) → run step (Some r) bs ≡ Some t → StatePast t ((q ++ b ∷ []) ++ bs)) → StatePast t (q ++ b ∷ bs)
    from None p e k' = absurd (let n = run_none step bs in cc)
    from (Some r) p e k' = subst (λ (v : List ℕ). StatePast t v) (append_assoc q (b ∷ []) bs) (k' r (behind_is q b (step s b) r (state_behind s.done s.place q b k) p) e)

-- each state that a text leads to says what has come
pub past_of : (text : List ℕ) (s : State) → run step (Some start) text ≡ Some s → StatePast s text
past_of text s e = run_past text [] start (refl, refl) s e

-- a text that may end there is the path
pub path_past : (done : List Segment) (p : Place) (text : List ℕ) (path : Path) → PlacePast done p text → ends_from done p ≡ Some path → IsPath text path
path_past done Behind text path k e = let g : record { segments = done; function = None } ≡ path = cc in subst (λ (z : Path). IsPath text z) g (selection done k)
path_past done (Name deep s) text path k e = from (checked s.bytes) refl e
  where
    from : (o : Option (List ℕ)) → checked s.bytes ≡ o → named_path done deep o ≡ Some path → IsPath text path
    from None h e = absurd cc
    from (Some w) h e =
        let ss = done ++ segment deep (Names (w ∷ [])) ∷ [] in
        let g : record { segments = ss; function = None } ≡ path = cc in
        subst (λ (z : Path). IsPath text z) g (selection ss (with_name text done deep s k.0 w k.1 k.2 k.3 h))
path_past done (Called f) text path k e = let g : record { segments = done; function = Some f } ≡ path = cc in subst (λ (z : Path). IsPath text z) g (with_function k.0 done f k.1 k.2)
path_past done Start text path k e = absurd cc
path_past done Point text path k e = absurd cc
path_past done Points text path k e = absurd cc
path_past done (Inside deep w) text path k e = absurd cc
path_past done (Call f) text path k e = absurd cc
