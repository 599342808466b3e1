-- Runs over calls.
use Rattle.std.proofs.Common.{◌≡◌, ℕ, suc, zero, ◌+◌, ◌≤◌, ◌<◌, List, [], ◌∷◌, ◌++◌, length, take, refl, ap, sym, ◌∙◌, Option, Some, None, Bool, true, false, arith, ◌==◌, subst, inl, inr, ◌⊎◌, IsUtf8, append_assoc, append-nil, length-append, nat_lt}
use Rattle.std.proofs.lemmas.Bool.Decides.{nat_tests}
use Rattle.std.proofs.lemmas.Str.{is_utf8-from_IsUtf8}
use Rattle.std.specs.Str.{is_utf8}
use Rattle.zbx_types.specs.Tree.{call}
use Rattle.zbx_types.specs.declared.calls.Call.{Call}
use Rattle.zbx_types.specs.declared.calls.Fun.{Fun}
use Rattle.item_key.specs.declared.places.Place.{Place}
use Rattle.item_key.specs.declared.places.Place.TheVariants.{Start, Name, Done as Ended}
use Rattle.item_key.specs.Machine as key
use Rattle.item_key.specs.Grammar.{IsKeyText}
use Rattle.item_key.proofs.Complete as keys
use Rattle.byte_grammar.specs.Bytes.{is_digit}
use Rattle.byte_grammar.specs.declared.characters.Character.{Character}
use Rattle.byte_grammar.specs.declared.characters.Character.TheVariants.{Whole}
use Rattle.zbx_types.specs.Limits.{longest_key, longest_name}
use Rattle.zbx_types.specs.NameBytes.{is_host_name_byte}
use Rattle.expr_parser.specs.declared.slots.Slot.{Slot}
use Rattle.expr_parser.specs.declared.slots.Slot.TheVariants as slots'
use Rattle.expr_parser.specs.declared.slots.Slot.TheVariants.{Newest, Span, MaybeSpan, Silence, Percent, Free}
use Rattle.expr_parser.specs.declared.parts.Value.{Value}
use Rattle.expr_parser.specs.declared.parts.Value.TheVariants.{Ranged, Said}
use Rattle.expr_parser.specs.declared.parts.Part.{Part}
use Rattle.expr_parser.specs.declared.parts.Part.TheVariants.{Before}
use Rattle.expr_parser.specs.declared.pending.Pending.{Pending}
use Rattle.expr_parser.specs.Bytes.{is_blank, AreBlanks, Point, one_less, behind}
use Rattle.expr_parser.specs.Functions.{name_of, slots}
use Rattle.zbx_types.specs.Operators.{is_dated}
use Rattle.expr_parser.specs.Calls.{AreHostBytes, IsHost, IsPart, put, Arguments, no_more, another, plain_call, IsCall, dated, of_item}
use Rattle.byte_grammar.specs.Utf8.{follow}
use Rattle.byte_grammar.specs.Runs.{run}
use Rattle.expr_parser.specs.Parts.{part, part_value}
use Rattle.expr_parser.specs.Machine.{Mode, Slash, Host, Key, Argument, Close, Done, State, state, has_room, is_delimiter, delivered, key_on, argument_byte, argument_end, move, calling, is_zero, after}
use Rattle.expr_parser.proofs.Lists.{snoc, behind_append, behind_one, way, either_way, eq_true, lt_test, some_is, none_some}
use Rattle.expr_parser.proofs.PartPaths.{Steps}
use Rattle.expr_parser.proofs.PartRuns.{part_run, part_utf8, no_early, ends_of, Ends}
use Rattle.byte_grammar.proofs.Utf8Texts.{text_taken, taken_text}
use Rattle.byte_grammar.proofs.Runs.{run_first}
use Rattle.expr_parser.proofs.Runs.{two_runs, stepped, onward, onward_behind, nothing_run, On, name_run, room}

-- ---- arguments

begin_no_blank : (s : Slot) (b : ℕ) (q : Part) → part s Before b ≡ Some q → is_blank b ≡ false
begin_no_blank s b q h = elim (either_way (is_blank b)) [
  | inr e ↦ e
  | inl e ↦ none_some q (sym (first_none s b (blank_ends b e)) ∙ h)
]
  where
    blank_ends : (b : ℕ) → is_blank b ≡ true → (is_digit b ≡ false) × ((b == 35) ≡ false) × ((b == 34) ≡ false)
    blank_ends b e = (grind (arith, nat_tests), grind (arith, nat_tests), grind (arith, nat_tests))

    first_none : (s : Slot) (b : ℕ) → (is_digit b ≡ false) × ((b == 35) ≡ false) × ((b == 34) ≡ false) → part s Before b ≡ None
    first_none Newest b e = rw e.1 refl
    first_none Span b e = rw (e.1, e.0) refl
    first_none MaybeSpan b e = rw (e.1, e.0) refl
    first_none Silence b e = rw (e.1, e.0) refl
    first_none (slots'.Word ws) b e = rw e.2 refl
    first_none Percent b e = rw (e.2, e.0) refl
    first_none Free b e = rw (e.2, e.0) refl

-- one byte of an argument
argument_step : (c : Call) (s : Slot) (ss : List Slot) (x q : Part) (o : ℕ) (k : List Pending) (cs : List Call) (b : ℕ) → part s x b ≡ Some q → argument_byte c s ss x o k cs b ≡ Some (state (Argument false c s ss q) b o k cs)
argument_step c s ss x q o k cs b h = elim (either_way (is_delimiter b)) [
  | inr e ↦ rw (e, h) refl
  | inl e ↦ rw e (at (part_value s x) refl (ends_of b e))
]
  where
    at : (v : Option Value) → part_value s x ≡ v → Ends b → argument_end v c s ss x o k cs b ≡ Some (state (Argument false c s ss q) b o k cs)
    at None g e = rw h refl
    at (Some v) g e = none_some q (sym (no_early s x b v e g) ∙ h)

-- the bytes of an argument, from behind its first one
part_steps : (c : Call) (s : Slot) (ss : List Slot) (p : Point) (x q : Part) (o : ℕ) (k : List Pending) (cs : List Call) (t : List ℕ) → Steps s x t q → after p.held (Some (state (Argument false c s ss x) p.last o k cs)) t ≡ Some (state (Argument false c s ss q) (behind p t).last o k cs)
unfolding Steps after behind
part_steps c s ss p x q o k cs [] h = ap (λ (v : Part). Some (state (Argument false c s ss v) p.last o k cs)) h
part_steps c s ss p x q o k cs (b ∷ t) h = stepped p (Argument false c s ss x) o k cs b t (Some (state (Argument false c s ss h.0) b o k cs)) (argument_step c s ss x h.0 o k cs b h.1) ∙ part_steps c s ss (onward p b) h.0 q o k cs t h.2

-- all of an argument
part_all : (c : Call) (s : Slot) (ss : List Slot) (p : Point) (q : Part) (o : ℕ) (k : List Pending) (cs : List Call) (t : List ℕ) → Steps s Before t q
    → (fresh : Bool) × (after p.held (Some (state (Argument true c s ss Before) p.last o k cs)) t ≡ Some (state (Argument fresh c s ss q) (behind p t).last o k cs))
unfolding Steps after behind
part_all c s ss p q o k cs [] h = (true, ap (λ (v : Part). Some (state (Argument true c s ss v) p.last o k cs)) h)
part_all c s ss p q o k cs (b ∷ t) h = (
  false,
  stepped p (Argument true c s ss Before) o k cs b t (Some (state (Argument false c s ss h.0) b o k cs)) (rw (begin_no_blank s b h.0 h.1) (argument_step c s ss Before h.0 o k cs b h.1))
      ∙ part_steps c s ss (onward p b) h.0 q o k cs t h.2,
)

argument_blanks : (bs : List ℕ) (p : Point) (c : Call) (s : Slot) (ss : List Slot) (x : Part) (o : ℕ) (k : List Pending) (cs : List Call) → AreBlanks bs → after p.held (Some (state (Argument true c s ss x) p.last o k cs)) bs ≡ Some (state (Argument true c s ss x) (behind p bs).last o k cs)
unfolding after behind AreBlanks
argument_blanks [] p c s ss x o k cs a = refl
argument_blanks (b ∷ bs) p c s ss x o k cs a = stepped p (Argument true c s ss x) o k cs b bs (Some (state (Argument true c s ss x) b o k cs)) (rw a.0 refl) ∙ argument_blanks bs (onward p b) c s ss x o k cs a.1

-- the mode ends at a comma or a parenthesis, with this call
abbrev Delivers : Mode → Call → List Slot → ℕ → ℕ → List Pending → List Call → Type 0
Delivers m c ss l o k cs = (free : Bool) (b : ℕ) → is_delimiter b ≡ true → move free m l o k cs b ≡ delivered c ss o k cs b

delimiter_no_blank : (b : ℕ) → is_delimiter b ≡ true → is_blank b ≡ false
delimiter_no_blank b h = grind (arith, nat_tests)

part_delivers : (fresh : Bool) (c : Call) (s : Slot) (ss : List Slot) (x : Part) (t : List ℕ) (v : Value) (l o : ℕ) (k : List Pending) (cs : List Call) → IsPart s t v → part_value s x ≡ Some v → Delivers (Argument fresh c s ss x) (put s v c) ss l o k cs
part_delivers fresh c s ss x t v l o k cs g h free b d = at fresh v g h
  where
    ended_so : (v : Value) → IsPart s t v → part_value s x ≡ Some v → argument_byte c s ss x o k cs b ≡ delivered (put s v c) ss o k cs b
    ended_so (Ranged r n) g h = rw (d, h) refl
    ended_so (Said w) g h = rw (d, h, is_utf8-from_IsUtf8 w (part_utf8 w g)) refl

    at : (fresh : Bool) (v : Value) → IsPart s t v → part_value s x ≡ Some v → move free (Argument fresh c s ss x) l o k cs b ≡ delivered (put s v c) ss o k cs b
    at true v g h = rw (delimiter_no_blank b d) (ended_so v g h)
    at false v g h = ended_so v g h

last_41 : (p : Point) (t : List ℕ) → (behind p (t ++ 41 ∷ [])).last ≡ 41
last_41 p t = ap (λ (q : Point). q.last) (behind_append p t (41 ∷ []) ∙ behind_one (behind p t) 41)

pub arguments_run : {ss : List Slot} {c d : Call} {r : List ℕ} → Arguments ss c r d → (p : Point) (m : Mode) (o : ℕ) (k : List Pending) (cs : List Call) → has_room cs ≡ true → Delivers m c ss p.last o k cs
    → after p.held (Some (state m p.last o k cs)) (r ++ 41 ∷ []) ≡ Some (state (Done (call (length cs))) 41 o k (cs ++ d ∷ []))
arguments_run (no_more {ss} {c} a) p m o k cs h g = stepped p m o k cs 41 [] (Some (state (Done (call (length cs))) 41 o k (cs ++ c ∷ []))) (g (is_zero p.held) 41 refl ∙ rw (a, h) refl) ∙ nothing_run (one_less p.held) (Some (state (Done (call (length cs))) 41 o k (cs ++ c ∷ [])))
arguments_run (another {s} {ss} {c} {d} {text} {v} x t r a i w e) p m o k cs h g =
    let q = part_run i in
    let p1 : Point = onward p 44 in
    let f = part_all c s ss (behind (onward p 44) x) q.place o k cs t q.steps in
    ap (λ (z : List ℕ). after p.held (Some (state m p.last o k cs)) (z ++ 41 ∷ [])) e
    ∙ ap (λ (z : List ℕ). after p.held (Some (state m p.last o k cs)) (44 ∷ z)) (append_assoc x (t ++ r) (41 ∷ []) ∙ ap (λ (z : List ℕ). x ++ z) (append_assoc t r (41 ∷ [])))
    ∙ stepped p m o k cs 44 (x ++ (t ++ (r ++ 41 ∷ []))) (Some (state (Argument true c s ss Before) 44 o k cs)) (g (is_zero p.held) 44 refl)
    ∙ two_runs (onward p 44) (Some (state (Argument true c s ss Before) 44 o k cs)) (Some (state (Argument true c s ss Before) (behind (onward p 44) x).last o k cs)) x (t ++ (r ++ 41 ∷ [])) (argument_blanks x (onward p 44) c s ss Before o k cs a)
    ∙ two_runs (behind (onward p 44) x) (Some (state (Argument true c s ss Before) (behind (onward p 44) x).last o k cs)) (Some (state (Argument f.0 c s ss q.place) (behind (behind (onward p 44) x) t).last o k cs)) t (r ++ 41 ∷ []) f.1
    ∙ arguments_run w (behind (behind (onward p 44) x) t) (Argument f.0 c s ss q.place) o k cs h (part_delivers f.0 c s ss q.place t v (behind (behind (onward p 44) x) t).last o k cs i q.value)

-- ---- hosts

name_low : (b : ℕ) → is_host_name_byte b ≡ true → nat_lt b 128 ≡ true
name_low b h = grind (arith, nat_tests)

host_chars : (h : List ℕ) → AreHostBytes h → run follow (Some Whole) h ≡ Some Whole
unfolding run AreHostBytes
host_chars [] a = refl
host_chars (b ∷ h) a = rw (name_low b a.0) (host_chars h a.1)

pub host_utf8 : (h : List ℕ) → AreHostBytes h → is_utf8 h ≡ true
host_utf8 h a = is_utf8-from_IsUtf8 h (taken_text h (host_chars h a))

host_run : (f : Fun) (bs h : List ℕ) (p : Point) (o : ℕ) (k : List Pending) (cs : List Call) → AreHostBytes bs → length h + length bs ≤ longest_name
    → after p.held (Some (state (Host f h) p.last o k cs)) bs ≡ Some (state (Host f (h ++ bs)) (behind p bs).last o k cs)
unfolding after behind AreHostBytes
host_run f [] h p o k cs a l = ap (λ (v : List ℕ). Some (state (Host f v) p.last o k cs)) (sym (append-nil h))
host_run f (b ∷ bs) h p o k cs a l =
    stepped p (Host f h) o k cs b bs (Some (state (Host f (h ++ b ∷ [])) b o k cs)) (rw (a.0, lt_test (length h) longest_name (omega arith)) refl)
    ∙ host_run f bs (h ++ b ∷ []) (onward p b) o k cs a.1 (let e = length-append h (b ∷ []) in omega arith)
    ∙ ap (λ (v : List ℕ). Some (state (Host f v) (behind (onward p b) bs).last o k cs)) (sym (snoc h b bs))

-- ---- keys

-- where a key may end, it doesn't go on with a comma or a parenthesis
key_stops : (place r : Place) (b : ℕ) → is_delimiter b ≡ true → key.step place b ≡ Some r → key.ends place ≡ true → ⊥
key_stops place r b d h e = elim (way (b == 44) true (b == 41) true d) [
  | inl z ↦ at place 44 (inl refl) (subst (λ (v : ℕ). key.step place v ≡ Some r) (eq_true b 44 z.0) h) e
  | inr z ↦ at place 41 (inr refl) (subst (λ (v : ℕ). key.step place v ≡ Some r) (eq_true b 41 z.1) h) e
]
  where
    at : (place : Place) (c : ℕ) → (c ≡ 44) ⊎ (c ≡ 41) → key.step place c ≡ Some r → key.ends place ≡ true → ⊥
    at Name c (inl g) h e = let k : key.step Name 44 ≡ Some r = subst (λ (v : ℕ). key.step Name v ≡ Some r) g h in none_some r k
    at Name c (inr g) h e = let k : key.step Name 41 ≡ Some r = subst (λ (v : ℕ). key.step Name v ≡ Some r) g h in none_some r k
    at Ended c g h e = none_some r h
    at _ c g h e = absurd cc

key_goes : (free : Bool) (f : Fun) (h t : List ℕ) (place r : Place) (u v : Character) (l o : ℕ) (k : List Pending) (cs : List Call) (b : ℕ) → key.step place b ≡ Some r → follow u b ≡ Some v → (free ≡ true) ⊎ (length t < longest_key)
    → move free (Key f h t place u) l o k cs b ≡ Some (state (Key f h (t ++ b ∷ []) r v) b o k cs)
key_goes free f h t place r u v l o k cs b e g z = elim (either_way (is_delimiter b)) [
  | inr d ↦ rw d (goes free z)
  | inl d ↦ rw d (elim (either_way (key.ends place)) [ inl w ↦ absurd (key_stops place r b d e w) | inr w ↦ rw w (goes free z) ])
]
  where
    goes : (free : Bool) → (free ≡ true) ⊎ (length t < longest_key) → key_on free f h t place u o k cs b ≡ Some (state (Key f h (t ++ b ∷ []) r v) b o k cs)
    goes true z = rw (e, g) refl
    goes false (inl z) = absurd cc
    goes false (inr z) = rw (lt_test (length t) longest_key z, e, g) refl

-- the limit, where bytes are held to it
abbrev Fits : ℕ → List ℕ → List ℕ → Type 0
Fits n t ks = 0 < n → length t + length (take n ks) ≤ longest_key

fits_on : (n : ℕ) (t : List ℕ) (b : ℕ) (ks : List ℕ) → Fits n t (b ∷ ks) → ((is_zero n ≡ true) ⊎ (length t < longest_key)) × Fits (one_less n) (t ++ b ∷ []) ks
fits_on zero t b ks h = (inl refl, λ z. absurd (omega arith))
fits_on (suc n) t b ks h = let g : length t + suc (length (take n ks)) ≤ longest_key = h (omega arith) in (inr (omega arith), λ z. let e = length-append t (b ∷ []) in omega arith)

key_run : (f : Fun) (h ks t : List ℕ) (place q : Place) (u v : Character) (p : Point) (o : ℕ) (k : List Pending) (cs : List Call) → run key.step (Some place) ks ≡ Some q → run follow (Some u) ks ≡ Some v → Fits p.held t ks
    → after p.held (Some (state (Key f h t place u) p.last o k cs)) ks ≡ Some (state (Key f h (t ++ ks) q v) (behind p ks).last o k cs)
unfolding after behind run
key_run f h [] t place q u v p o k cs a c l = let e : place ≡ q = some_is place q a in let g : u ≡ v = some_is u v c in
    rw (e, g) (ap (λ (w : List ℕ). Some (state (Key f h w q v) p.last o k cs)) (sym (append-nil t)))
key_run f h (b ∷ ks) t place q u v p o k cs a c l =
    let e = run_first key.step place q b ks a in
    let g = run_first follow u v b ks c in
    let w = fits_on p.held t b ks l in
    stepped p (Key f h t place u) o k cs b ks (Some (state (Key f h (t ++ b ∷ []) e.0 g.0) b o k cs)) (key_goes (is_zero p.held) f h t place e.0 u g.0 p.last o k cs b e.1 g.1 w.0)
    ∙ key_run f h ks (t ++ b ∷ []) e.0 q g.0 v (onward p b) o k cs e.2 g.2 w.1
    ∙ ap (λ (z : List ℕ). Some (state (Key f h z q v) (behind (onward p b) ks).last o k cs)) (sym (snoc t b ks))

-- a key ends
key_delivers : (f : Fun) (h t : List ℕ) (q : Place) (l o : ℕ) (k : List Pending) (cs : List Call) → key.ends q ≡ true → is_utf8 h ≡ true → is_utf8 t ≡ true → Delivers (Key f h t q Whole) (plain_call f h t) (slots f) l o k cs
key_delivers f h t q l o k cs e a c free b d = rw (d, e, a, c) refl

ended_place : (o : Option Place) → key.ends_at o ≡ true → (q : Place) × (o ≡ Some q) × (key.ends q ≡ true)
ended_place None h = absurd cc
ended_place (Some q) h = (q, refl, h)

-- a call of a function that looks at an item, from behind its parenthesis
pub item_run : (f : Fun) (h t r : List ℕ) (d : Call) (p : Point) (o : ℕ) (k : List Pending) (cs : List Call) → has_room cs ≡ true → IsHost h → IsKeyText t → IsUtf8 t → length (take (behind p (47 ∷ (h ++ 47 ∷ []))).held t) ≤ longest_key → Arguments (slots f) (plain_call f h t) r d
    → after p.held (Some (state (Slash f) p.last o k cs)) (47 ∷ (h ++ 47 ∷ (t ++ (r ++ 41 ∷ [])))) ≡ Some (state (Done (call (length cs))) 41 o k (cs ++ d ∷ []))
item_run f h t r d p o k cs room a b c l w =
    let p1 : Point = onward p 47 in
    let p2 : Point = behind (onward p 47) h in
    let p3 : Point = onward (behind (onward p 47) h) 47 in
    let e = ended_place (key.place_of t) (keys.taken b) in
    let same : behind p (47 ∷ (h ++ 47 ∷ [])) ≡ onward (behind (onward p 47) h) 47 = onward_behind p 47 (h ++ 47 ∷ []) ∙ behind_append (onward p 47) h (47 ∷ []) ∙ behind_one (behind (onward p 47) h) 47 in
    let fits : length (take (onward (behind (onward p 47) h) 47).held t) ≤ longest_key = subst (λ (q : Point). length (take q.held t) ≤ longest_key) same l in
    stepped p (Slash f) o k cs 47 (h ++ 47 ∷ (t ++ (r ++ 41 ∷ []))) (Some (state (Host f []) 47 o k cs)) refl
    ∙ two_runs (onward p 47) (Some (state (Host f []) 47 o k cs)) (Some (state (Host f h) (behind (onward p 47) h).last o k cs)) h (47 ∷ (t ++ (r ++ 41 ∷ []))) (host_run f h [] (onward p 47) o k cs a.2 (omega (arith, a.1)))
    ∙ stepped (behind (onward p 47) h) (Host f h) o k cs 47 (t ++ (r ++ 41 ∷ [])) (Some (state (Key f h [] Start Whole) 47 o k cs)) (rw (lt_test 0 (length h) a.0) refl)
    ∙ two_runs (onward (behind (onward p 47) h) 47) (Some (state (Key f h [] Start Whole) 47 o k cs)) (Some (state (Key f h t e.0 Whole) (behind (onward (behind (onward p 47) h) 47) t).last o k cs)) t (r ++ 41 ∷ [])
    (key_run f h t [] Start e.0 Whole Whole (onward (behind (onward p 47) h) 47) o k cs e.1 (text_taken t c) (λ z. omega (arith, fits)))
    ∙ arguments_run w (behind (onward (behind (onward p 47) h) 47) t) (Key f h t e.0 Whole) o k cs room (key_delivers f h t e.0 (behind (onward (behind (onward p 47) h) 47) t).last o k cs e.2 (host_utf8 h a.2) (is_utf8-from_IsUtf8 t c))

call_dated : (f : Fun) (o : ℕ) (k : List Pending) (cs : List Call) → is_dated f ≡ true → calling f o k cs ≡ state (Close (plain_call f [] [])) 40 o k cs
call_dated f o k cs h = rw h refl

call_item : (f : Fun) (o : ℕ) (k : List Pending) (cs : List Call) → is_dated f ≡ false → calling f o k cs ≡ state (Slash f) 40 o k cs
call_item f o k cs h = rw h refl

-- the run over a call
pub call_run : {p : Point} {t : List ℕ} {d : Call} → IsCall p t d → (m : Mode) (o : ℕ) (k0 k : List Pending) (cs : List Call) → has_room cs ≡ true → On m p.last o k0 k cs t
    → after p.held (Some (state m p.last o k0 cs)) t ≡ Some (state (Done (call (length cs))) 41 o k (cs ++ d ∷ []))
call_run (dated {p} {text = t} f h q) m o k0 k cs roomy on =
    let z : Point = behind p (name_of f ++ 40 ∷ []) in
    let l40 : (behind p (name_of f ++ 40 ∷ [])).last ≡ 40 = ap (λ (v : Point). v.last) (behind_append p (name_of f) (40 ∷ []) ∙ behind_one (behind p (name_of f)) 40) in
    ap (λ (v : List ℕ). after p.held (Some (state m p.last o k0 cs)) v) q
    ∙ name_run f p m o k0 k cs (41 ∷ []) roomy (subst (λ (v : List ℕ). On m p.last o k0 k cs v) q on)
    ∙ ap (λ (v : State). after (behind p (name_of f ++ 40 ∷ [])).held (Some v) (41 ∷ [])) (call_dated f o k cs h ∙ ap (λ (v : ℕ). state (Close (plain_call f [] [])) v o k cs) (sym l40))
    ∙ stepped (behind p (name_of f ++ 40 ∷ [])) (Close (plain_call f [] [])) o k cs 41 [] (Some (state (Done (call (length cs))) 41 o k (cs ++ plain_call f [] [] ∷ []))) (rw roomy refl)
    ∙ nothing_run (one_less (behind p (name_of f ++ 40 ∷ [])).held) (Some (state (Done (call (length cs))) 41 o k (cs ++ plain_call f [] [] ∷ [])))
call_run (of_item {p} {text = t} {c = d} f h ks r i a b c l w q) m o k0 k cs roomy on =
    let l40 : (behind p (name_of f ++ 40 ∷ [])).last ≡ 40 = ap (λ (v : Point). v.last) (behind_append p (name_of f) (40 ∷ []) ∙ behind_one (behind p (name_of f)) 40) in
    let parts : behind p (name_of f ++ 40 ∷ 47 ∷ (h ++ 47 ∷ [])) ≡ behind (behind p (name_of f ++ 40 ∷ [])) (47 ∷ (h ++ 47 ∷ [])) = ap (λ (v : List ℕ). behind p v) (snoc (name_of f) 40 (47 ∷ (h ++ 47 ∷ []))) ∙ behind_append p (name_of f ++ 40 ∷ []) (47 ∷ (h ++ 47 ∷ [])) in
    ap (λ (v : List ℕ). after p.held (Some (state m p.last o k0 cs)) v) q
    ∙ name_run f p m o k0 k cs (47 ∷ (h ++ 47 ∷ (ks ++ (r ++ 41 ∷ [])))) roomy (subst (λ (v : List ℕ). On m p.last o k0 k cs v) q on)
    ∙ ap (λ (v : State). after (behind p (name_of f ++ 40 ∷ [])).held (Some v) (47 ∷ (h ++ 47 ∷ (ks ++ (r ++ 41 ∷ []))))) (call_item f o k cs i ∙ ap (λ (v : ℕ). state (Slash f) v o k cs) (sym l40))
    ∙ item_run f h ks r d (behind p (name_of f ++ 40 ∷ [])) o k cs roomy a b c (subst (λ (v : Point). length (take v.held ks) ≤ longest_key) parts l) w

-- a call ends with a parenthesis
pub ends_41 : (a b : List ℕ) (p : Point) → ((q : Point) → (behind q b).last ≡ 41) → (behind p (a ++ b)).last ≡ 41
ends_41 a b p h = ap (λ (q : Point). q.last) (behind_append p a b) ∙ h (behind p a)

one_41 : (q : Point) → (behind q (41 ∷ [])).last ≡ 41
one_41 q = ap (λ (v : Point). v.last) (behind_one q 41)

pub call_last : {p : Point} {t : List ℕ} {d : Call} → IsCall p t d → (q : Point) → (behind q t).last ≡ 41
call_last (dated f h e) q = rw e (ends_41 (name_of f) (40 ∷ 41 ∷ []) q (λ z. ends_41 (40 ∷ []) (41 ∷ []) z one_41))
call_last (of_item f h ks r i a b c l w e) q = rw e (ends_41 (name_of f) (40 ∷ 47 ∷ (h ++ 47 ∷ (ks ++ (r ++ 41 ∷ [])))) q
    (λ z. ends_41 (40 ∷ 47 ∷ []) (h ++ 47 ∷ (ks ++ (r ++ 41 ∷ []))) z (λ z. ends_41 h (47 ∷ (ks ++ (r ++ 41 ∷ []))) z (λ z. ends_41 (47 ∷ []) (ks ++ (r ++ 41 ∷ [])) z (λ z. ends_41 ks (r ++ 41 ∷ []) z (λ z. ends_41 r (41 ∷ []) z one_41))))))
