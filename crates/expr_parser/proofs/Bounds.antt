-- What the grammar says of calls: their places in the tree, and the bounds of their ranges and shifts.
use Rattle.std.proofs.Common.{◌≡◌, ◌≤◌, ◌<◌, ◌+◌, ◌++◌, [], ℕ, List, length, length-append, Some, subst, arith}
use Rattle.std.specs.List.{All}
use Rattle.std.proofs.lemmas.List.Elements.{All-nil, All-cons, All-append}
use Rattle.zbx_types.specs.Tree.{Tree, constant, call, negative, negation, binary}
use Rattle.zbx_types.specs.Trees.{CallsBelow}
use Rattle.zbx_types.specs.declared.calls.Call.{Call}
use Rattle.zbx_types.specs.declared.calls.Fun.{Fun}
use Rattle.zbx_types.specs.declared.calls.Fun.TheVariants.{Last, First, Min, Max, Avg, Sum, Change, Count as Matching}
use Rattle.zbx_types.specs.declared.calls.Fun.TheVariants.{Find, NoData, Percentile, ChangeCount, MonoInc, MonoDec, Now}
use Rattle.zbx_types.specs.declared.calls.Fun.TheVariants.{Time, Date, DayOfWeek, DayOfMonth}
use Rattle.zbx_types.specs.declared.calls.Range.{Range}
use Rattle.zbx_types.specs.declared.calls.Range.TheVariants.{Count}
use Rattle.zbx_types.specs.Limits.{longest_range}
use Rattle.expr_parser.specs.declared.slots.Slot.{Slot}
use Rattle.expr_parser.specs.declared.slots.Slot.TheVariants.{Newest, Span, MaybeSpan, Silence, Word, Percent, Free}
use Rattle.expr_parser.specs.declared.parts.Value.{Value}
use Rattle.expr_parser.specs.declared.parts.Value.TheVariants.{Ranged, Said}
use Rattle.expr_parser.specs.Bytes.{Point}
use Rattle.expr_parser.specs.Numbers.{IsPeriod, seconds, suffixed_period}
use Rattle.expr_parser.specs.Functions.{default_range, least_period}
use Rattle.expr_parser.specs.Calls.{absent_value, IsRange, latest, span, IsPart, absent, ranged}
use Rattle.expr_parser.specs.Calls.{shifted, word, number as figured, quoted_number, quoted, put, put_text, plain_call}
use Rattle.expr_parser.specs.Calls.{Arguments, no_more, another, IsCall, dated, of_item, IsBoundedRange, IsBoundedCall}
use Rattle.expr_parser.specs.Grammar.{Spells, IsExpr, number, called, paren, minus, denied, tighter, joined}
use Rattle.expr_parser.proofs.Lists.{some_is}

-- ---- places

below_more : (m n : ℕ) (e : Tree) → m ≤ n → CallsBelow m e → CallsBelow n e
below_more m n (constant z) h b = tt
below_more m n (call place) h b = omega arith
below_more m n (negative a) h b = below_more m n a h b
below_more m n (negation a) h b = below_more m n a h b
below_more m n (binary op a1 a2) h b = (below_more m n a1 h b.0, below_more m n a2 h b.1)

joined_below : (c : ℕ) (a b : Tree) (ks js : List Call) → CallsBelow (c + length ks) a
    → CallsBelow ((c + length ks) + length js) b
    → CallsBelow (c + length (ks ++ js)) a × CallsBelow (c + length (ks ++ js)) b
joined_below c a b ks js f g = (
  below_more (c + length ks) (c + length (ks ++ js)) a (omega (arith, length-append ks js)) f,
  below_more ((c + length ks) + length js) (c + length (ks ++ js)) b (omega (arith, length-append ks js)) g,
)

-- the calls of a text are below those in front of it and its own
places_below : {p : Point} {d c l : ℕ} {t : List ℕ} {e : Tree} {ks : List Call} → Spells p d c l t e ks
    → CallsBelow (c + length ks) e
places_below (number n h) = tt
places_below (called k h g) = omega arith
places_below (paren x t y a s b q) = places_below s
places_below (minus x t a s q) = places_below s
places_below (denied x t g a n s q) = places_below s
places_below (tighter s) = places_below s
places_below (joined {p} {d} {c} {l} {text} {a} {b} {ks} {js} op t x y u h s i j w z q) =
    joined_below c a b ks js (places_below s) (places_below z)

-- so those of an expression are below their number
pub expr_below : {t : List ℕ} {e : Tree} {ks : List Call} → IsExpr t e ks → CallsBelow (length ks) e
expr_below {t} {e} {ks} h = below_more (0 + length ks) (length ks) e (omega arith) (places_below h)

-- ---- ranges and shifts

default_within : (f : Fun) → IsBoundedRange (default_range f)
default_within Change = (omega arith, omega arith)
default_within Last = (omega arith, omega arith)
default_within First = (omega arith, omega arith)
default_within Min = (omega arith, omega arith)
default_within Max = (omega arith, omega arith)
default_within Avg = (omega arith, omega arith)
default_within Sum = (omega arith, omega arith)
default_within Matching = (omega arith, omega arith)
default_within Find = (omega arith, omega arith)
default_within NoData = (omega arith, omega arith)
default_within Percentile = (omega arith, omega arith)
default_within ChangeCount = (omega arith, omega arith)
default_within MonoInc = (omega arith, omega arith)
default_within MonoDec = (omega arith, omega arith)
default_within Now = (omega arith, omega arith)
default_within Time = (omega arith, omega arith)
default_within Date = (omega arith, omega arith)
default_within DayOfWeek = (omega arith, omega arith)
default_within DayOfMonth = (omega arith, omega arith)

plain_within : (f : Fun) (h k : List ℕ) → IsBoundedCall (plain_call f h k)
plain_within f h k = (default_within f, omega arith)

-- a period lies within its bounds
period_within : {least most : ℕ} {t : List ℕ} {n : ℕ} → IsPeriod least most t n → (least ≤ n) × (n ≤ most)
period_within (seconds b bs d low high) = (low, high)
period_within (suffixed_period b bs c m f d g e low high q) = (low, high)

least_second : (s : Slot) (m : ℕ) → least_period s ≡ Some m → 0 < m
least_second Newest m h = absurd cc
least_second Span m h = let e : 1 ≡ m = some_is 1 m h in omega arith
least_second MaybeSpan m h = let e : 1 ≡ m = some_is 1 m h in omega arith
least_second Silence m h = let e : 30 ≡ m = some_is 30 m h in omega arith
least_second (Word ws) m h = absurd cc
least_second Percent m h = absurd cc
least_second Free m h = absurd cc

range_within : {s : Slot} {t : List ℕ} {r : Range} → IsRange s t r → IsBoundedRange r
range_within (latest b bs c d low high e) = (low, high)
range_within (span {s} {t} {n} m e p) =
    let w = period_within p in
    let z : 0 < m = least_second s m e in
    (omega (arith, w.0), w.1)

-- what an argument says stays within the bounds
abbrev pub ValueWithin : Value → Type 0
ValueWithin (Said t) = Unit {0}
ValueWithin (Ranged r n) = IsBoundedRange r × (n ≤ longest_range)

absent_within : (s : Slot) (v : Value) → absent_value s ≡ Some v → ValueWithin v
absent_within Newest v h =
    subst (λ (w : Value). ValueWithin w) (some_is (Ranged (Count 1) 0) v h) ((omega arith, omega arith), omega arith)
absent_within Span v h = absurd cc
absent_within MaybeSpan v h =
    subst (λ (w : Value). ValueWithin w) (some_is (Ranged (Count 1) 0) v h) ((omega arith, omega arith), omega arith)
absent_within Silence v h = absurd cc
absent_within (Word ws) v h = subst (λ (w : Value). ValueWithin w) (some_is (Said []) v h) tt
absent_within Percent v h = absurd cc
absent_within Free v h = subst (λ (w : Value). ValueWithin w) (some_is (Said []) v h) tt

part_within : {s : Slot} {t : List ℕ} {v : Value} → IsPart s t v → ValueWithin v
part_within (absent {s} {v} h) = absent_within s v h
part_within (ranged g) = (range_within g, omega arith)
part_within (shifted u w g c p e) = (range_within g, (period_within p).1)
part_within (word w h e) = tt
part_within (figured most n h g) = tt
part_within (quoted_number u n h e) = tt
part_within (quoted u v g w e) = tt

text_within : (s : Slot) (t : List ℕ) (c : Call) → IsBoundedCall c → IsBoundedCall (put_text s t c)
text_within Newest t c h = h
text_within Span t c h = h
text_within MaybeSpan t c h = h
text_within Silence t c h = h
text_within (Word ws) t c h = h
text_within Percent t c h = h
text_within Free t c h = h

put_within : (s : Slot) (v : Value) (c : Call) → ValueWithin v → IsBoundedCall c → IsBoundedCall (put s v c)
put_within s (Said t) c g h = text_within s t c h
put_within s (Ranged r n) c g h = g

arguments_within : {ss : List Slot} {c d : Call} {t : List ℕ} → Arguments ss c t d → IsBoundedCall c → IsBoundedCall d
arguments_within (no_more a) h = h
arguments_within (another {s} {ss} {c} {d} {text} {v} x t r a g n e) h =
    arguments_within n (put_within s v c (part_within g) h)

call_within : {p : Point} {t : List ℕ} {c : Call} → IsCall p t c → IsBoundedCall c
call_within (dated f h e) = plain_within f [] []
call_within (of_item f h k r a b c d e g i) = arguments_within g (plain_within f h k)

-- the calls of a text are within the bounds
pub calls_bounded : {p : Point} {d c l : ℕ} {t : List ℕ} {e : Tree} {ks : List Call} → Spells p d c l t e ks
    → All IsBoundedCall ks
calls_bounded (number n h) = All-nil IsBoundedCall
calls_bounded (called k h g) = All-cons IsBoundedCall k [] (call_within g) (All-nil IsBoundedCall)
calls_bounded (paren x t y a s b q) = calls_bounded s
calls_bounded (minus x t a s q) = calls_bounded s
calls_bounded (denied x t g a n s q) = calls_bounded s
calls_bounded (tighter s) = calls_bounded s
calls_bounded (joined {p} {d} {c} {l} {text} {a} {b} {ks} {js} op t x y u h s i j w z q) =
    All-append IsBoundedCall ks js (calls_bounded s) (calls_bounded z)
