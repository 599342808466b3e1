-- What an outbox holds beside lines that stand behind so many of its bytes.
use Rattle.std.proofs.Common.{◌≡◌, ◌≢◌, get_or, ℕ, zero, suc, ◌+◌, ◌-◌, ◌≤◌, ◌<◌, ◌^◌, min, Bool, true, false, ◌==◌, eqb-true, List, [], ◌∷◌, ◌++◌, length, take, drop, Option, Some, None, refl, sym, ap, ap₂, ◌∙◌, subst, append_assoc, append-nil, length-append, arith, Result, Ok, Err}
use Rattle.std.specs.Prelude.{IfSome, IfOk, unwrap_or, is_some, if◌then◌else◌}
use Rattle.std.specs.Io.KnownBytes.{Appends}
use Rattle.std.proofs.Math.Seq.{take-append_seam}
use Rattle.std.proofs.lemmas.List.{take-append-drop, take-append-le, drop_all, length-drop}
use Rattle.outside.specs.Others.{first_other}
use Rattle.outside.specs.Tells.{SinkTells}
use Rattle.outside.proofs.OtherLemmas.{or_then, in_parts, inside, none_behind}
use Rattle.zbx_types.specs.declared.base.Base.{Base}
use Rattle.zbx_types.specs.declared.conf.Conf.{Conf}
use Rattle.zbx_types.specs.declared.entries.Numbered.{Numbered}
use Rattle.event_text.specs.Lines.{lines_of}
use Rattle.book_opening.specs.declared.opening.Replayed.{Replayed}
use Rattle.book_opening.specs.Opening.{IsCompared, IsReplayed}
use Rattle.book_opening.specs.Outgoing.{Grew, HasFront, HasAll, IsLeft, IsMendable, log_records, stays, with_lines}
use Rattle.book_opening.proofs.Growing.{drop_append}

-- ---- lists

or_none : (o : Option ℕ) → or_then o None ≡ o
or_none None = refl
or_none (Some p) = refl

front_taken : (xs ys : List ℕ) → take (length xs) (xs ++ ys) ≡ xs
front_taken xs ys = take-append_seam xs ys

rest_dropped : (xs ys : List ℕ) → drop (length xs) (xs ++ ys) ≡ ys
rest_dropped [] ys = refl
rest_dropped (x ∷ xs) ys = rest_dropped xs ys

own_rest : (xs : List ℕ) → drop (length xs) xs ≡ []
own_rest [] = refl
own_rest (x ∷ xs) = own_rest xs

own_front : (xs : List ℕ) → take (length xs) xs ≡ xs
own_front [] = refl
own_front (x ∷ xs) = ap (λ ys. x ∷ ys) (own_front xs)

gone : (k : ℕ) (xs : List ℕ) → xs ≡ [] → drop k xs ≡ []
gone zero xs q = q
gone (suc k) [] q = refl
gone (suc k) (x ∷ xs) q = absurd cc

-- bytes dropped in two steps
pub dropped : (n m : ℕ) (xs : List ℕ) → drop (n + m) xs ≡ drop m (drop n xs)
dropped zero m xs = ap (λ k. drop k xs) (omega arith)
dropped (suc n) m [] = gone (suc n + m) [] refl ∙ sym (gone m [] refl)
dropped (suc n) m (x ∷ xs) = let z : suc n + m ≡ suc (n + m) = omega arith in ap (λ k. drop k (x ∷ xs)) z ∙ dropped n m xs

-- and taken
taken : (n m : ℕ) (xs : List ℕ) → take (n + m) xs ≡ take n xs ++ take m (drop n xs)
taken zero m xs = ap (λ k. take k xs) (omega arith)
taken (suc n) m [] = none (suc n + m) ∙ sym (none m)
  where
    none : (k : ℕ) → take {A = ℕ} k [] ≡ []
    none zero = refl
    none (suc k) = refl
taken (suc n) m (x ∷ xs) = let z : suc n + m ≡ suc (n + m) = omega arith in ap (λ k. take k (x ∷ xs)) z ∙ ap (λ ys. x ∷ ys) (taken n m xs)

-- a front of a list that goes on where a part of it began
joined : (k : ℕ) (lines front left : List ℕ) → k ≤ length lines → drop k lines ≡ front ++ left
    → (take k lines ++ front ≡ take (k + length front) lines) × (left ≡ drop (k + length front) lines) × (k + length front ≤ length lines)
joined k lines front left few is = (
  ap (λ l. take k lines ++ l) (sym (ap (take (length front)) is ∙ front_taken front left)) ∙ sym (taken k (length front) lines),
  sym (dropped k (length front) lines ∙ ap (drop (length front)) is ∙ rest_dropped front left),
  (let d = ap (λ (l : List ℕ). length l) is in let e = length-drop k lines in omega (arith, d, e, length-append front left)),
)

-- ---- the first other byte

-- lines with more behind them
pub other_more : (at : ℕ) (all more b : List ℕ) → first_other at (all ++ more) b ≡ or_then (first_other at all b) (first_other (at + length all) more (drop (length all) b))
other_more at all more b =
    let n = length all in
    in_parts n at (all ++ more) b
    ∙ ap (λ xs. or_then (first_other at xs (take n b)) (first_other (at + n) (drop n (all ++ more)) (drop n b))) (front_taken all more)
    ∙ ap (λ xs. or_then (first_other at all (take n b)) (first_other (at + n) xs (drop n b))) (rest_dropped all more)
    ∙ ap (λ o. or_then o (first_other (at + n) more (drop n b))) (sym alone)
  where
    alone : first_other at all b ≡ first_other at all (take (length all) b)
    alone =
        in_parts (length all) at all b
        ∙ ap₂ (λ xs ys. or_then (first_other at xs (take (length all) b)) (first_other (at + length all) ys (drop (length all) b))) (own_front all) (own_rest all)
        ∙ or_none (first_other at all (take (length all) b))

-- lines behind so many bytes, with more behind them
pub other_behind : (before : ℕ) (all more b : List ℕ) → first_other before (all ++ more) (drop before b) ≡ or_then (first_other before all (drop before b)) (first_other (before + length all) more (drop (before + length all) b))
other_behind before all more b =
    other_more before all more (drop before b)
    ∙ ap (λ l. or_then (first_other before all (drop before b)) (first_other (before + length all) more l)) (sym (dropped before (length all) b))

-- bytes that are the same as far as both go are a front
pub same_front : (at : ℕ) (xs ys : List ℕ) → first_other at xs ys ≡ None → length ys ≤ length xs → ys ≡ take (length ys) xs
same_front at xs [] none l = refl
same_front at [] (y ∷ ys) none l = absurd (omega arith)
same_front at (x ∷ xs) (y ∷ ys) none l = go (x == y) refl none (λ same. same_front (at + 1) xs ys same (omega (arith, l)))
  where
    go : (b : Bool) → (x == y) ≡ b → (if b then first_other (at + 1) xs ys else Some at) ≡ None → (first_other (at + 1) xs ys ≡ None → ys ≡ take (length ys) xs) → y ∷ ys ≡ x ∷ take (length ys) xs
    go true q none rest = ap₂ (λ z zs. z ∷ zs) (sym (eqb-true x y q)) (rest none)
    go false q none rest = absurd cc

-- up to the first other byte they are the same
pub front_to : (at : ℕ) (xs ys : List ℕ) (p : ℕ) → first_other at xs ys ≡ Some p → take (p - at) ys ≡ take (p - at) xs
front_to at [] ys p is = absurd cc
front_to at (x ∷ xs) [] p is = absurd cc
front_to at (x ∷ xs) (y ∷ ys) p is = go (x == y) refl is (front_to (at + 1) xs ys p) (inside (at + 1) xs ys)
  where
    go : (b : Bool) → (x == y) ≡ b → (if b then first_other (at + 1) xs ys else Some at) ≡ Some p → (first_other (at + 1) xs ys ≡ Some p → take (p - (at + 1)) ys ≡ take (p - (at + 1)) xs)
        → IfSome (first_other (at + 1) xs ys) (λ q. (at + 1 ≤ q) × (q < at + 1 + length xs) × (q < at + 1 + length ys)) → take (p - at) (y ∷ ys) ≡ take (p - at) (x ∷ xs)
    go true q is rest within =
        let w : (at + 1 ≤ p) × (p < at + 1 + length xs) × (p < at + 1 + length ys) = subst (λ o. IfSome o (λ q. (at + 1 ≤ q) × (q < at + 1 + length xs) × (q < at + 1 + length ys))) is within in
        let l = w.0 in
        let z : p - at ≡ suc (p - (at + 1)) = omega arith in
        ap (λ n. take n (y ∷ ys)) z ∙ ap₂ (λ a bs. a ∷ bs) (sym (eqb-true x y q)) (rest is) ∙ ap (λ n. take n (x ∷ xs)) (sym z)
    go false q is rest within =
        let same : at ≡ p = cc in
        let z : p - at ≡ 0 = omega arith in
        ap (λ n. take n (y ∷ ys)) z ∙ ap (λ n. take n (x ∷ xs)) (sym z)

-- how much stays doesn't hang on lines behind as many as there are bytes
pub stays_more : (before : ℕ) (lines more b : List ℕ) → length b ≤ before + length lines → stays before b (lines ++ more) ≡ stays before b lines
stays_more before lines more b l =
    ap (λ o. unwrap_or o (length b))
    (other_behind before lines more b ∙ ap (or_then (first_other before lines (drop before b))) (none_behind (before + length lines) more b l) ∙ or_none (first_other before lines (drop before b)))

-- ---- an outbox with a front of lines

-- lines with more behind them
pub front_more : (before : ℕ) (outbox sink : SinkTells) (lines more : List ℕ) → IfSome outbox.bytes (λ b. length b ≤ before + length lines) → HasFront before outbox sink lines → HasFront before outbox sink (lines ++ more)
front_more before outbox sink lines more few front = record { least = front.least; size = omega (arith, front.size, length-append lines more); bytes = go outbox.bytes few front.bytes }
  where
    short : sink.held - before ≤ length lines
    short = let l = front.least in let s = front.size in omega arith

    go : (o : Option (List ℕ)) → IfSome o (λ b. length b ≤ before + length lines) → IfSome o (λ b. (sink.bytes ≡ Some (with_lines before b lines sink.held)) × (stays before b lines ≤ sink.held))
        → IfSome o (λ b. (sink.bytes ≡ Some (with_lines before b (lines ++ more) sink.held)) × (stays before b (lines ++ more) ≤ sink.held))
    go None few h = tt
    go (Some b) few h = (
      h.0 ∙ ap (λ l. Some (take before b ++ l)) (sym (take-append-le (sink.held - before) lines more short)),
      subst (λ n. n ≤ sink.held) (sym (stays_more before lines more b few)) h.1,
    )

-- some of those that lack were written
pub front_written : (before : ℕ) (outbox sink sink' : SinkTells) (lines front left : List ℕ) → HasFront before outbox sink lines → Grew sink sink' front → drop (sink.held - before) lines ≡ front ++ left
    → HasFront before outbox sink' lines × (left ≡ drop (sink'.held - before) lines)
front_written before outbox sink sink' lines front left has grew is = (
  record {
    least = (let l = has.least in let s = grew.size in omega arith);
    size = (let l = has.least in let s = grew.size in let j = all.2 in omega arith);
    bytes = go outbox.bytes has.bytes;
  },
  all.1 ∙ ap (λ n. drop n lines) (sym next),
)
  where
    all : (take (sink.held - before) lines ++ front ≡ take ((sink.held - before) + length front) lines) × (left ≡ drop ((sink.held - before) + length front) lines) × ((sink.held - before) + length front ≤ length lines)
    all = joined (sink.held - before) lines front left (let l = has.least in let s = has.size in omega arith) is

    next : sink'.held - before ≡ (sink.held - before) + length front
    next = let l = has.least in let s = grew.size in omega arith

    longer : (b : List ℕ) → with_lines before b lines sink.held ++ front ≡ with_lines before b lines sink'.held
    longer b = append_assoc (take before b) (take (sink.held - before) lines) front ∙ ap (λ l. take before b ++ l) (all.0 ∙ ap (λ n. take n lines) (sym next))

    appended : (o p : Option (List ℕ)) (xs : List ℕ) → o ≡ Some xs → Appends o p front → p ≡ Some (xs ++ front)
    appended None p xs q a = absurd cc
    appended (Some ys) None xs q a = absurd a
    appended (Some ys) (Some zs) xs q a = let r : ys ≡ xs = cc in ap (λ l. Some l) (a ∙ ap (λ l. l ++ front) r)

    go : (o : Option (List ℕ)) → IfSome o (λ b. (sink.bytes ≡ Some (with_lines before b lines sink.held)) × (stays before b lines ≤ sink.held)) → IfSome o (λ b. (sink'.bytes ≡ Some (with_lines before b lines sink'.held)) × (stays before b lines ≤ sink'.held))
    go None h = tt
    go (Some b) h = (appended sink.bytes sink'.bytes (with_lines before b lines sink.held) h.0 grew.bytes ∙ ap (λ l. Some l) (longer b), (let s = h.1 in let g = grew.size in omega arith))

-- where none lacks, it has all
pub front_all : (before : ℕ) (outbox sink : SinkTells) (lines left : List ℕ) → HasFront before outbox sink lines → left ≡ drop (sink.held - before) lines → left ≡ [] → HasAll before outbox sink lines
front_all before outbox sink lines left front is none =
    let e : length (drop (sink.held - before) lines) ≡ 0 = ap (λ (l : List ℕ). length l) (sym is ∙ none) in
    let d = length-drop (sink.held - before) lines in
    let l = front.least in
    let s = front.size in
    let full : sink.held ≡ before + length lines = omega arith in
    record { size = full; bytes = go (omega arith) outbox.bytes front.bytes }
  where
    go : sink.held - before ≡ length lines → (o : Option (List ℕ)) → IfSome o (λ b. (sink.bytes ≡ Some (with_lines before b lines sink.held)) × (stays before b lines ≤ sink.held))
        → IfSome o (λ b. (sink.bytes ≡ Some (take before b ++ lines)) × (stays before b lines ≤ sink.held))
    go full None h = tt
    go full (Some b) h = (h.0 ∙ ap (λ l. Some (take before b ++ l)) (ap (λ n. take n lines) full ∙ own_front lines), h.1)

-- ---- at the opening

-- what an outbox holds is the lines' as far as they go
pub front_uncut : (before : ℕ) (outbox sink : SinkTells) (lines : List ℕ) → sink.bytes ≡ outbox.bytes → sink.held ≡ outbox.held → IfSome outbox.bytes (λ b. outbox.held ≡ length b) → before ≤ outbox.held → outbox.held ≤ before + length lines
    → IfSome outbox.bytes (λ b. None ≡ first_other before lines (drop before b)) → HasFront before outbox sink lines
front_uncut before outbox sink lines same size lawful least enough none = record { least = omega arith; size = omega arith; bytes = go outbox.bytes same lawful none }
  where
    go : (o : Option (List ℕ)) → sink.bytes ≡ o → IfSome o (λ b. outbox.held ≡ length b) → IfSome o (λ b. None ≡ first_other before lines (drop before b)) → IfSome o (λ b. (sink.bytes ≡ Some (with_lines before b lines sink.held)) × (stays before b lines ≤ sink.held))
    go None q law none = tt
    go (Some b) q law none =
        let n : sink.held ≡ length b = size ∙ law in
        let long = length-drop before b in
        let few : length (drop before b) ≤ length lines = omega arith in
        let here : length (drop before b) ≡ sink.held - before = omega arith in
        let front : drop before b ≡ take (sink.held - before) lines = same_front before lines (drop before b) (sym none) few ∙ ap (λ k. take k lines) here in
        (q ∙ ap (λ l. Some l) (sym (take-append-drop before b) ∙ ap (λ l. take before b ++ l) front), subst (λ o. unwrap_or o (length b) ≤ sink.held) none (omega arith))

-- or it is cut where another byte stands
pub front_cut : (before : ℕ) (outbox sink : SinkTells) (lines : List ℕ) (p : ℕ) → IfSome outbox.bytes (λ b. sink.bytes ≡ Some (take p b)) → sink.held ≡ min p outbox.held → before ≤ p → p < outbox.held → p < before + length lines
    → IfSome outbox.bytes (λ b. Some p ≡ first_other before lines (drop before b)) → HasFront before outbox sink lines
front_cut before outbox sink lines p cut size least below within other = record { least = omega arith; size = omega arith; bytes = go outbox.bytes cut other }
  where
    held : sink.held ≡ p
    held = omega arith

    go : (o : Option (List ℕ)) → IfSome o (λ b. sink.bytes ≡ Some (take p b)) → IfSome o (λ b. Some p ≡ first_other before lines (drop before b)) → IfSome o (λ b. (sink.bytes ≡ Some (with_lines before b lines sink.held)) × (stays before b lines ≤ sink.held))
    go None c other = tt
    go (Some b) c other =
        let parts : p ≡ before + (p - before) = omega arith in
        let front : take p b ≡ take before b ++ take (p - before) lines =
        ap (λ n. take n b) parts ∙ taken before (p - before) b ∙ ap (λ l. take before b ++ l) (front_to before lines (drop before b) p (sym other)) in
        (c ∙ ap (λ l. Some l) (front ∙ ap (λ n. take before b ++ take (n - before) lines) (sym held)), subst (λ o. unwrap_or o (length b) ≤ sink.held) other (omega arith))

-- what lacks of lines with more behind them, where the first other byte may be among these
pub missing_more : (before held seen : ℕ) (all more : List ℕ) (found other : Option ℕ) → held < 2 ^ 64 → seen ≡ min (before + length all) 18446744073709551615
    → IfSome found (λ p. (before ≤ p) × (p < held) × (p < before + length all)) → (found ≡ None → IfSome other (λ p. (p < held) × (seen ≤ p))) → ((p : ℕ) → found ≡ Some p → other ≡ Some p)
    → drop (unwrap_or other held - before) (all ++ more) ≡ drop (unwrap_or found held - before) all ++ drop (unwrap_or other held - seen) more
missing_more before held seen all more None None small counted was first still = parts held (omega arith)
  where
    parts : (n : ℕ) → n < 2 ^ 64 → drop (n - before) (all ++ more) ≡ drop (n - before) all ++ drop (n - seen) more
    parts n l = drop_append (n - before) all more ∙ ap (λ k. drop (n - before) all ++ drop k more) (omega (arith, counted))
missing_more before held seen all more None (Some p) small counted was first still =
    let f = first refl in
    let long : before + length all ≡ seen = let a = f.0 in let b = f.1 in omega (arith, counted) in
    drop_append (p - before) all more
    ∙ ap₂ (λ xs k. xs ++ drop k more) (drop_all (p - before) all (let b = f.1 in omega arith) ∙ sym (drop_all (held - before) all (let a = f.0 in let b = f.1 in omega arith))) (omega arith)
missing_more before held seen all more (Some q) other small counted was first still =
    let same : other ≡ Some q = still q refl in
    let w = was in
    let l : q < held = w.1 in
    let parts : drop (q - before) (all ++ more) ≡ drop (q - before) all ++ drop (q - seen) more = drop_append (q - before) all more ∙ ap (λ k. drop (q - before) all ++ drop k more) (omega (arith, counted)) in
    ap (λ o. drop (unwrap_or o held - before) (all ++ more)) same ∙ parts ∙ ap (λ o. drop (q - before) all ++ drop (unwrap_or o held - seen) more) (sym same)

-- ---- lines that are compared as they come

-- what was found before stands
pub compared_still : (before : ℕ) (outbox : SinkTells) (all more : List ℕ) (p : ℕ) → IsCompared before outbox all (Some p) → IsCompared before outbox (all ++ more) (Some p)
compared_still before outbox all more p c = record {
  place = go outbox.bytes c.place;
  within = (c.within.0, c.within.1, (let l = c.within.2 in omega (arith, length-append all more)));
}
  where
    go : (o : Option (List ℕ)) → IfSome o (λ b. Some p ≡ first_other before all (drop before b)) → IfSome o (λ b. Some p ≡ first_other before (all ++ more) (drop before b))
    go None h = tt
    go (Some b) h = sym (other_behind before all more b ∙ ap (λ o. or_then o (first_other (before + length all) more (drop (before + length all) b))) (sym h))

-- nothing was found yet, and an outbox that holds no more than these lines has no other byte in those behind them
pub compared_past : (before : ℕ) (outbox : SinkTells) (all more : List ℕ) → IfSome outbox.bytes (λ b. outbox.held ≡ length b) → outbox.held ≤ before + length all → IsCompared before outbox all None → IsCompared before outbox (all ++ more) None
compared_past before outbox all more lawful few c = record { place = go outbox.bytes lawful c.place; within = tt }
  where
    go : (o : Option (List ℕ)) → IfSome o (λ b. outbox.held ≡ length b) → IfSome o (λ b. None ≡ first_other before all (drop before b)) → IfSome o (λ b. None ≡ first_other before (all ++ more) (drop before b))
    go None l h = tt
    go (Some b) l h = sym (other_behind before all more b ∙ ap (λ o. or_then o (first_other (before + length all) more (drop (before + length all) b))) (sym h) ∙ none_behind (before + length all) more b (omega arith))

-- or it is looked for in those behind them
pub compared_more : (before : ℕ) (outbox : SinkTells) (all more : List ℕ) (seen : ℕ) (found : Option ℕ) → seen ≡ before + length all → IfSome outbox.bytes (λ b. found ≡ first_other seen more (drop seen b))
    → IfSome found (λ place. (seen ≤ place) × (place < seen + length more) × (place < outbox.held)) → IsCompared before outbox all None → IsCompared before outbox (all ++ more) found
compared_more before outbox all more seen found at is within c = record { place = go outbox.bytes is c.place; within = bounds found within }
  where
    go : (o : Option (List ℕ)) → IfSome o (λ b. found ≡ first_other seen more (drop seen b)) → IfSome o (λ b. None ≡ first_other before all (drop before b)) → IfSome o (λ b. found ≡ first_other before (all ++ more) (drop before b))
    go None h n = tt
    go (Some b) h n = h ∙ ap (λ k. first_other k more (drop k b)) at ∙ sym (other_behind before all more b ∙ ap (λ o. or_then o (first_other (before + length all) more (drop (before + length all) b))) (sym n))

    bounds : (f : Option ℕ) → IfSome f (λ place. (seen ≤ place) × (place < seen + length more) × (place < outbox.held)) → IfSome f (λ place. (before ≤ place) × (place < outbox.held) × (place < before + length (all ++ more)))
    bounds None h = tt
    bounds (Some p) h = ((let l = h.0 in omega arith), h.2, (let l = h.1 in omega (arith, length-append all more)))

-- where one was found before
pub compared_kept : (before : ℕ) (outbox : SinkTells) (all more : List ℕ) (other : Option ℕ) → is_some other ≡ true → IsCompared before outbox all other → IsCompared before outbox (all ++ more) other
compared_kept before outbox all more None is c = absurd cc
compared_kept before outbox all more (Some p) is c = compared_still before outbox all more p c

pub none_of : (other : Option ℕ) → is_some other ≡ false → other ≡ None
none_of None is = refl
none_of (Some p) is = absurd cc

-- where none was found before, and the outbox holds no more
pub compared_behind : (before : ℕ) (outbox : SinkTells) (all more : List ℕ) (other : Option ℕ) → is_some other ≡ false → IfSome outbox.bytes (λ b. outbox.held ≡ length b) → outbox.held ≤ before + length all → IsCompared before outbox all other
    → IsCompared before outbox (all ++ more) other
compared_behind before outbox all more None is lawful few c = compared_past before outbox all more lawful few c
compared_behind before outbox all more (Some p) is lawful few c = absurd cc

-- where there are no more lines
pub compared_same : (before : ℕ) (outbox : SinkTells) (all more : List ℕ) (other : Option ℕ) → more ≡ [] → IsCompared before outbox all other → IsCompared before outbox (all ++ more) other
compared_same before outbox all more other none c = subst (λ l. IsCompared before outbox l other) (sym (ap (λ l. all ++ l) none ∙ append-nil all)) c

-- a list that is told as empty
pub empty_list : {A : Type 0} (xs : List A) → (length xs == 0) ≡ true → xs ≡ []
empty_list [] is = refl
empty_list (x ∷ xs) is = let none = eqb-true (length (x ∷ xs)) 0 is in absurd (omega arith)

-- what holds of an answer by two things that hold of it
pub by_both : {T E : Type 0} (r : Result T E) (P Q R : T → Type 0) → ((x : T) → P x → Q x → R x) → IfOk r P → IfOk r Q → IfOk r R
by_both (Ok x) P Q R goes p q = goes x p q
by_both (Err e) P Q R goes p q = tt

-- ---- an outbox that was left as it was

pub left_on : (a b c : SinkTells) → IsLeft a b → IsLeft b c → IsLeft a c
left_on a b c l m = record { bytes = m.bytes ∙ l.bytes; size = m.size ∙ l.size; later = (let x = l.later in let y = m.later in omega arith) }

pub replayed_at : (flat : List ℕ → Conf) (base : Base) (log : List Numbered) (a b : SinkTells) (r : Replayed) → b.bytes ≡ a.bytes → b.held ≡ a.held → IsReplayed flat base log a r → IsReplayed flat base log b r
replayed_at flat base log a b r bytes size is = record {
  present = is.present;
  recorded = record {
    tally = is.recorded.tally;
    compared = record {
      place = subst (λ o. IfSome o (λ held. r.other ≡ first_other base.lines (lines_of (log_records flat base log)) (drop base.lines held))) (sym bytes) is.recorded.compared.place;
      within = subst (λ n. IfSome r.other (λ place. (base.lines ≤ place) × (place < n) × (place < base.lines + length (lines_of (log_records flat base log))))) (sym size) is.recorded.compared.within;
    };
    missing = is.recorded.missing ∙ ap (λ n. drop (unwrap_or r.other n - base.lines) (lines_of (log_records flat base log))) (sym size);
  };
}

-- ---- the opened outbox

-- an outbox with the same bytes
pub front_at : (before : ℕ) (a b sink : SinkTells) (lines : List ℕ) → b.bytes ≡ a.bytes → HasFront before a sink lines → HasFront before b sink lines
front_at before a b sink lines same front = record {
  least = front.least;
  size = front.size;
  bytes = subst (λ o. IfSome o (λ held. (sink.bytes ≡ Some (with_lines before held lines sink.held)) × (stays before held lines ≤ sink.held))) (sym same) front.bytes;
}

-- what lacks of lines once it was cut where it holds another byte
pub lacks_from : (before held held' : ℕ) (other : Option ℕ) (lines missing : List ℕ) → IfSome other (λ place. (before ≤ place) × (place < held) × (place < before + length lines)) → held' ≡ min (unwrap_or other held) held
    → missing ≡ drop (unwrap_or other held - before) lines → missing ≡ drop (held' - before) lines
lacks_from before held held' None lines missing within is lacks = lacks ∙ ap (λ n. drop (n - before) lines) (omega arith)
lacks_from before held held' (Some p) lines missing within is lacks = lacks ∙ ap (λ n. drop (n - before) lines) (let l = within.1 in omega arith)

-- the first other byte isn't a 0
pub other_there : (before : ℕ) (bytes : Option (List ℕ)) (lines : List ℕ) (at : ℕ) (other : Option ℕ) → other ≡ Some at → IfSome bytes (λ b. before ≤ length b) → IfSome bytes (λ b. other ≡ first_other before lines (drop before b)) → IfSome bytes (λ b. at < length b → get_or b at 0 ≢ 0)
    → IfSome bytes (λ b. (first_other before lines (drop before b) ≡ Some at) × (get_or b at 0 ≢ 0))
other_there before None lines at other is least place there = tt
other_there before (Some b) lines at other is least place there =
    let first : first_other before lines (drop before b) ≡ Some at = sym place ∙ is in
    let w = subst (λ q. IfSome q (λ p. (before ≤ p) × (p < before + length lines) × (p < before + length (drop before b)))) first (inside before lines (drop before b)) in
    let below = w.2 in
    let long = length-drop before b in
    (first, there (omega arith))

-- where an outbox holds a 0, or nothing
pub zero_at : (at : ℕ) (b : List ℕ) → first_other at (0 ∷ []) (drop at b) ≡ None → get_or b at 0 ≡ 0
zero_at at b none = go at at b none
  where
    here : (from : ℕ) (x : ℕ) (rest : List ℕ) (same : Bool) → (0 == x) ≡ same → (if same then first_other (from + 1) [] rest else Some from) ≡ None → x ≡ 0
    here from x rest true q none = sym (eqb-true 0 x q)
    here from x rest false q none = absurd cc

    go : (from n : ℕ) (b : List ℕ) → first_other from (0 ∷ []) (drop n b) ≡ None → get_or b n 0 ≡ 0
    go from zero [] none = refl
    go from (suc n) [] none = refl
    go from zero (x ∷ rest) none = here from x rest (0 == x) refl none
    go from (suc n) (x ∷ rest) none = go from n rest none

-- the first other byte, where it was found, is a 0
pub mendable_at : (before : ℕ) (a b : SinkTells) (lines : List ℕ) (other : Option ℕ) → b.bytes ≡ a.bytes → before ≤ b.held → b.held ≤ before + length lines → IfSome a.bytes (λ held. other ≡ first_other before lines (drop before held))
    → IfSome a.bytes (λ held. IfSome other (λ place. get_or held place 0 ≡ 0)) → IsMendable before b lines
mendable_at before a b lines other same least enough place zeros = record {
  least = least;
  enough = enough;
  zeros = subst (λ o. IfSome o (λ held. IfSome (first_other before lines (drop before held)) (λ at. get_or held at 0 ≡ 0))) (sym same) (go a.bytes place zeros);
}
  where
    go : (o : Option (List ℕ)) → IfSome o (λ held. other ≡ first_other before lines (drop before held)) → IfSome o (λ held. IfSome other (λ at. get_or held at 0 ≡ 0))
        → IfSome o (λ held. IfSome (first_other before lines (drop before held)) (λ at. get_or held at 0 ≡ 0))
    go None place zeros = tt
    go (Some held) place zeros = subst (λ o. IfSome o (λ at. get_or held at 0 ≡ 0)) place zeros

-- where nothing other was found
pub nothing_other : (bytes : Option (List ℕ)) (other : Option ℕ) → other ≡ None → IfSome bytes (λ b. IfSome other (λ place. get_or b place 0 ≡ 0))
nothing_other None other is = tt
nothing_other (Some b) other is = subst (λ o. IfSome o (λ place. get_or b place 0 ≡ 0)) (sym is) tt

-- a byte that was asked for and isn't other than 0
pub found_zero : (bytes bytes' : Option (List ℕ)) (at : ℕ) (other found : Option ℕ) → other ≡ Some at → bytes' ≡ bytes → found ≡ None → IfSome bytes' (λ b. found ≡ first_other at (0 ∷ []) (drop at b))
    → IfSome bytes (λ b. IfSome other (λ place. get_or b place 0 ≡ 0))
found_zero None bytes' at other found is same none asked = tt
found_zero (Some b) bytes' at other found is same none asked =
    let here : found ≡ first_other at (0 ∷ []) (drop at b) = subst (λ o. IfSome o (λ h. found ≡ first_other at (0 ∷ []) (drop at h))) same asked in
    subst (λ o. IfSome o (λ place. get_or b place 0 ≡ 0)) (sym is) (zero_at at b (sym here ∙ none))
