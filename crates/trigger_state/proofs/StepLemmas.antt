-- A step that goes to the first open problem of its event, and to those behind it.
use Rattle.std.proofs.Common.{◌≡◌, ◌≤◌, ◌+◌, ◌-◌, ◌∙◌, ℕ, zero, suc, Bool, true, false, cond, List, [], ◌∷◌, ◌++◌, length, get_or, set, take, drop, map, Some, None, refl, sym, ap, subst, arith, append-nil, append_assoc, length-append}
use Rattle.std.proofs.Math.Seq.{take-append-add, drop-append-add}
use Rattle.std.specs.List.{position_from}
use borrow.Rule.Slice.PartMut.{put_mid, mid_of}
use Rattle.zbx_types.specs.Records.{same_event, event_of}
use Rattle.zbx_types.specs.declared.entries.Rec.{Rec}
use Rattle.trigger_state.specs.Problems.{event_in, with_step, stepped}
use Rattle.trigger_state.specs.declared.problems.Open.{Open}

-- the open problem at a place, those before it, which a step leaves alone, and those behind it
record Split (s : Rec) (xs : List Open) (k : ℕ) : Type 0 where
  before : List Open
  one : Open
  after : List Open
  whole : xs ≡ before ++ one ∷ after
  at : length before ≡ k
  alone : map (stepped s) before ≡ before
  hit : same_event (event_in one) (event_of s) ≡ true

miss : (s : Rec) (o : Open) → same_event (event_in o) (event_of s) ≡ false → stepped s o ≡ o
miss s o e = rw e refl

split_at : (s : Rec) (xs : List Open) (n m : ℕ) → position_from (λ o. same_event (event_in o) (event_of s)) n xs ≡ Some m → (k : ℕ) × (n + k ≡ m) × Split s xs k
split_at s [] n m e = absurd (let z : None ≡ Some m = e in cc)
split_at s (x ∷ xs) n m e = go (same_event (event_in x) (event_of s)) refl e (split_at s xs (n + 1) m)
  where
    go : (b : Bool) → same_event (event_in x) (event_of s) ≡ b → cond b (Some n) (position_from (λ o. same_event (event_in o) (event_of s)) (n + 1) xs) ≡ Some m
        → (position_from (λ o. same_event (event_in o) (event_of s)) (n + 1) xs ≡ Some m → (k : ℕ) × (n + 1 + k ≡ m) × Split s xs k) → (k : ℕ) × (n + k ≡ m) × Split s (x ∷ xs) k
    go true h q ih = (0, (let z : n ≡ m = cc in omega arith), record { before = []; one = x; after = xs; whole = refl; at = refl; alone = refl; hit = h })
    go false h q ih =
        let r = ih q in (
          suc r.0,
          (let z = r.1 in omega arith),
          record {
            before = x ∷ r.2.before;
            one = r.2.one;
            after = r.2.after;
            whole = ap (λ ys. x ∷ ys) r.2.whole;
            at = ap suc r.2.at;
            alone = ap (λ y. y ∷ map (stepped s) r.2.before) (miss s x h) ∙ ap (λ ys. x ∷ ys) r.2.alone;
            hit = r.2.hit;
          },
        )

pub step_none : (s : Rec) (xs : List Open) (n : ℕ) → position_from (λ o. same_event (event_in o) (event_of s)) n xs ≡ None → map (stepped s) xs ≡ xs
step_none s [] n e = refl
step_none s (x ∷ xs) n e = go (same_event (event_in x) (event_of s)) refl e (step_none s xs (n + 1))
  where
    go : (b : Bool) → same_event (event_in x) (event_of s) ≡ b → cond b (Some n) (position_from (λ o. same_event (event_in o) (event_of s)) (n + 1) xs) ≡ None
        → (position_from (λ o. same_event (event_in o) (event_of s)) (n + 1) xs ≡ None → map (stepped s) xs ≡ xs) → map (stepped s) (x ∷ xs) ≡ x ∷ xs
    go true h q ih = absurd (let z : Some n ≡ None = q in cc)
    go false h q ih = ap (λ y. y ∷ map (stepped s) xs) (miss s x h) ∙ ap (λ ys. x ∷ ys) (ih q)

set_seam : (before : List Open) (o v : Open) (after : List Open) → set (before ++ o ∷ after) (length before) v ≡ before ++ v ∷ after
set_seam [] o v after = refl
set_seam (x ∷ before) o v after = ap (λ ys. x ∷ ys) (set_seam before o v after)

get_seam : (before : List Open) (o d : Open) (after : List Open) → get_or (before ++ o ∷ after) (length before) d ≡ o
get_seam [] o d after = refl
get_seam (x ∷ before) o d after = get_seam before o d after

drop_past : (n : ℕ) (xs : List Open) → length xs ≤ n → drop n xs ≡ []
drop_past zero [] h = refl
drop_past zero (x ∷ xs) h = absurd (omega arith)
drop_past (suc n) [] h = refl
drop_past (suc n) (x ∷ xs) h = drop_past n xs (omega arith)

take_whole : (n : ℕ) (xs : List Open) → length xs ≤ n → take n xs ≡ xs
take_whole zero [] h = refl
take_whole zero (x ∷ xs) h = absurd (omega arith)
take_whole (suc n) [] h = refl
take_whole (suc n) (x ∷ xs) h = ap (λ ys. x ∷ ys) (take_whole n xs (omega arith))

-- the part behind the place, and the list with that part changed
mid_seam : (before : List Open) (o : Open) (after : List Open) → mid_of (length before + 1) (length (before ++ o ∷ after) - (length before + 1)) (before ++ o ∷ after) ≡ after
mid_seam before o after =
    ap (take (length (before ++ o ∷ after) - (length before + 1))) (drop-append-add before (o ∷ after) 1)
    ∙ take_whole (length (before ++ o ∷ after) - (length before + 1)) after (omega (arith, length-append before (o ∷ after)))

put_seam : (before : List Open) (o : Open) (after rest : List Open) → put_mid (length before + 1) (length (before ++ o ∷ after) - (length before + 1)) (before ++ o ∷ after) rest ≡ before ++ o ∷ rest
put_seam before o after rest =
    let front = take-append-add before (o ∷ after) 1 in
    let end = ap (drop (length (before ++ o ∷ after) - (length before + 1))) (drop-append-add before (o ∷ after) 1) ∙ drop_past (length (before ++ o ∷ after) - (length before + 1)) after (omega (arith, length-append before (o ∷ after))) in
    ap (λ ys. ys ++ (rest ++ drop (length (before ++ o ∷ after) - (length before + 1)) (drop (length before + 1) (before ++ o ∷ after)))) front
    ∙ ap (λ ys. (before ++ o ∷ []) ++ (rest ++ ys)) end
    ∙ ap (λ ys. (before ++ o ∷ []) ++ ys) (append-nil rest)
    ∙ append_assoc before (o ∷ []) rest

map_seam : (s : Rec) (before : List Open) (o : Open) (after : List Open) → map (stepped s) before ≡ before → map (stepped s) (before ++ o ∷ after) ≡ before ++ stepped s o ∷ map (stepped s) after
map_seam s before o after e = map_append before ∙ ap (λ ys. ys ++ stepped s o ∷ map (stepped s) after) e
  where
    map_append : (xs : List Open) → map (stepped s) (xs ++ o ∷ after) ≡ map (stepped s) xs ++ stepped s o ∷ map (stepped s) after
    map_append [] = refl
    map_append (x ∷ xs) = ap (λ ys. stepped s x ∷ ys) (map_append xs)

-- the list with new steps at a place
abbrev pub with_steps : List Open → ℕ → Open → List Rec → List Open
with_steps ys k d steps = set ys k (record { problem = (get_or ys k d).problem; steps = steps; rank = (get_or ys k d).rank })

hit_is : (s : Rec) (o : Open) → same_event (event_in o) (event_of s) ≡ true → stepped s o ≡ record { problem = o.problem; steps = with_step o.steps s; rank = o.rank }
hit_is s o e = rw e refl

done_seam : (s : Rec) (before : List Open) (o d x : Open) (after rest : List Open) (steps : List Rec)
    → map (stepped s) before ≡ before → same_event (event_in o) (event_of s) ≡ true
    → x ≡ get_or (before ++ o ∷ after) (length before) x → steps ≡ with_step x.steps s
    → rest ≡ map (stepped s) (mid_of (length before + 1) (length (before ++ o ∷ after) - (length before + 1)) (before ++ o ∷ after))
    → with_steps (put_mid (length before + 1) (length (before ++ o ∷ after) - (length before + 1)) (before ++ o ∷ after) rest) (length before) d steps ≡ map (stepped s) (before ++ o ∷ after)
done_seam s before o d x after rest steps alone hit at made behind =
    let tail : rest ≡ map (stepped s) after = behind ∙ ap (map (stepped s)) (mid_seam before o after) in
    let same : x ≡ o = at ∙ get_seam before o x after in
    let got = get_seam before o d rest in
    let value : record { problem = (get_or (before ++ o ∷ rest) (length before) d).problem; steps = steps; rank = (get_or (before ++ o ∷ rest) (length before) d).rank } ≡ stepped s o =
    ap (λ (y : Open). (let v : Open = record { problem = y.problem; steps = steps; rank = y.rank } in v)) got ∙ ap (λ (ss : List Rec). (let v : Open = record { problem = o.problem; steps = ss; rank = o.rank } in v)) (made ∙ ap (λ (y : Open). with_step y.steps s) same) ∙ sym (hit_is s o hit) in
    ap (λ ys. with_steps ys (length before) d steps) (put_seam before o after rest)
    ∙ ap (λ (v : Open). set (before ++ o ∷ rest) (length before) v) value
    ∙ set_seam before o (stepped s o) rest
    ∙ ap (λ ys. before ++ stepped s o ∷ ys) tail
    ∙ sym (map_seam s before o after alone)

pub step_done : (s : Rec) (xs rest : List Open) (k : ℕ) (d x : Open) (steps : List Rec) → position_from (λ o. same_event (event_in o) (event_of s)) 0 xs ≡ Some k
    → x ≡ get_or xs k x → steps ≡ with_step x.steps s → rest ≡ map (stepped s) (mid_of (k + 1) (length xs - (k + 1)) xs)
    → with_steps (put_mid (k + 1) (length xs - (k + 1)) xs rest) k d steps ≡ map (stepped s) xs
step_done s xs rest k d x steps e at made behind =
    let r = split_at s xs 0 k e in
    let sp = r.2 in
    let q : length sp.before ≡ k = sp.at ∙ (let z = r.1 in omega arith) in
    go sp.before sp.one sp.after sp.alone sp.hit (sym q) sp.whole at behind
  where
    go : (before : List Open) (o : Open) (after : List Open) → map (stepped s) before ≡ before → same_event (event_in o) (event_of s) ≡ true → k ≡ length before → xs ≡ before ++ o ∷ after
        → x ≡ get_or xs k x → rest ≡ map (stepped s) (mid_of (k + 1) (length xs - (k + 1)) xs) → with_steps (put_mid (k + 1) (length xs - (k + 1)) xs rest) k d steps ≡ map (stepped s) xs
    go before o after alone hit ek ex at behind =
        let a : x ≡ get_or (before ++ o ∷ after) (length before) x = subst (λ ys. x ≡ get_or ys (length before) x) ex (subst (λ j. x ≡ get_or xs j x) ek at) in
        let b : rest ≡ map (stepped s) (mid_of (length before + 1) (length (before ++ o ∷ after) - (length before + 1)) (before ++ o ∷ after)) =
        subst (λ ys. rest ≡ map (stepped s) (mid_of (length before + 1) (length ys - (length before + 1)) ys)) ex (subst (λ j. rest ≡ map (stepped s) (mid_of (j + 1) (length xs - (j + 1)) xs)) ek behind) in
        let done = done_seam s before o d x after rest steps alone hit a made b in
        subst (λ j. with_steps (put_mid (j + 1) (length xs - (j + 1)) xs rest) j d steps ≡ map (stepped s) xs) (sym ek)
        (subst (λ ys. with_steps (put_mid (length before + 1) (length ys - (length before + 1)) ys rest) (length before) d steps ≡ map (stepped s) ys) (sym ex) done)
