-- Calls that the machine takes.
use Rattle.std.proofs.Common.{◌≡◌, ℕ, suc, zero, ◌+◌, ◌-◌, ◌≤◌, ◌<◌, List, [], ◌∷◌, ◌++◌, length, take, refl, ap, sym, ◌∙◌, Option, Some, None, Bool, true, false, arith, nat_le, nat_lt, ◌==◌, subst, inl, inr, ◌⊎◌, append_assoc, append-nil, length-append}
use Rattle.std.proofs.lemmas.Bool.Decides.{nat_tests}
use Rattle.std.proofs.lemmas.Str.{IsUtf8-from_is_utf8}
use Rattle.std.specs.Str.{is_utf8}
use Rattle.zbx_types.specs.Tree.{call}
use Rattle.zbx_types.specs.declared.calls.Call.{Call}
use Rattle.zbx_types.specs.declared.calls.Fun.{Fun}
use Rattle.item_key.specs.declared.places.Place.{Place}
use Rattle.item_key.specs.declared.places.Place.TheVariants.{Start, Name, Param, Listed, Closed, Done as Ended}
use Rattle.item_key.specs.declared.places.InParameter.TheVariants as within
use Rattle.item_key.specs.Machine as key
use Rattle.item_key.specs.Grammar.{is_name_byte}
use Rattle.item_key.proofs.Sound as keys
use Rattle.byte_grammar.specs.declared.characters.Character.{Character}
use Rattle.byte_grammar.specs.declared.characters.Character.TheVariants.{Whole, One, Two, Three, BehindE0, BehindEd, BehindF0, BehindF4}
use Rattle.zbx_types.specs.Limits.{longest_key, longest_name}
use Rattle.zbx_types.specs.NameBytes.{is_host_name_byte}
use Rattle.expr_parser.specs.declared.slots.Slot.{Slot}
use Rattle.expr_parser.specs.declared.parts.Value.{Value}
use Rattle.expr_parser.specs.declared.parts.Value.TheVariants.{Ranged, Said}
use Rattle.expr_parser.specs.declared.parts.Part.{Part}
use Rattle.expr_parser.specs.declared.parts.Part.TheVariants.{Before}
use Rattle.expr_parser.specs.declared.pending.Pending.{Pending}
use Rattle.expr_parser.specs.Bytes.{is_blank, Point, beginning}
use Rattle.expr_parser.specs.Functions.{name_of, slots}
use Rattle.zbx_types.specs.Operators.{is_dated}
use Rattle.expr_parser.specs.Calls.{AreHostBytes, put, all_absent, no_more, another, plain_call, IsCall, of_item}
use Rattle.byte_grammar.specs.Utf8.{follow}
use Rattle.byte_grammar.specs.Runs.{run}
use Rattle.expr_parser.specs.Grammar.{called}
use Rattle.expr_parser.specs.Parts.{part, part_value}
use Rattle.expr_parser.specs.Machine.{Host, Key, Argument, Done, State, has_room, host, ended, next_slot, delivered, is_delimiter, key_more, key_on, key_byte, argument_on, argument_end, argument_byte, argument, slash, close, is_zero}
use Rattle.expr_parser.proofs.Lists.{behind_append, held_behind, way, either_way, eq_true, lt_test, le_true, lt_true, le_false, some_is, none_some, no_blanks, one_blank, blanks_append}
use Rattle.expr_parser.proofs.PartPasts.{Past, part_past, part_ends}
use Rattle.byte_grammar.proofs.Runs.{run_append, grown}
use Rattle.expr_parser.proofs.Stacks.{at, at_append, holds_moved, token_holds}
use Rattle.expr_parser.proofs.Stands.{Token, InKey, InCall, InArgument, Stands, stays}
use Rattle.expr_parser.proofs.Sound.{token_on}

-- ---- calls

-- a whole call
ended_sound : (n d o : ℕ) (k : List Pending) (cs : List Call) (c : Call) (ss : List Slot) (q : List ℕ) (s : State) → d + o ≡ 32 → all_absent ss ≡ true → InCall n d k cs c ss q → ended c o k cs ≡ Some s → Stands n (q ++ 41 ∷ []) s
ended_sound n d o k cs c ss q s deep a w h = elim (way (has_room cs) _ _ (Some s) h) [
  | inr z ↦ none_some s z.1
  | inl z ↦ stays n q d o 41 (Done (call (length cs))) k (cs ++ c ∷ []) s deep (record {
    w = q ++ 41 ∷ [];
    y = [];
    parts = sym (append-nil (q ++ 41 ∷ []));
    blanks = no_blanks;
    holds = holds_moved n d k (call (length cs)) 8 (w.front ++ (w.text ++ 41 ∷ [])) (q ++ 41 ∷ []) (cs ++ c ∷ []) (sym (ap (λ (v : List ℕ). v ++ 41 ∷ []) w.parts ∙ append_assoc w.front w.text (41 ∷ [])))
        (token_holds n d k (call (length cs)) w.front (w.text ++ 41 ∷ []) cs (c ∷ []) w.entry.stack w.entry.clear (called c (lt_true (length cs) 32 z.0) (w.goes_on [] c (no_more a))));
  }) z.1
]

next_sound : (n d o : ℕ) (k : List Pending) (cs : List Call) (c : Call) (ss : List Slot) (q : List ℕ) (s : State) → d + o ≡ 32 → InCall n d k cs c ss q → next_slot c ss o k cs ≡ Some s → Stands n (q ++ 44 ∷ []) s
next_sound n d o k cs c [] q s deep w h = none_some s h
next_sound n d o k cs c (x ∷ ss) q s deep w h = stays n q d o 44 (Argument true c x ss Before) k cs s deep (record { before = q; blanks = []; own = []; parts = refl; are_blanks = no_blanks; past = refl; not_begun = λ i. refl; in_call = w }) h

pub delivered_sound : (n d o : ℕ) (k : List Pending) (cs : List Call) (c : Call) (ss : List Slot) (q : List ℕ) (b : ℕ) (s : State) → d + o ≡ 32 → InCall n d k cs c ss q → delivered c ss o k cs b ≡ Some s → Stands n (q ++ b ∷ []) s
delivered_sound n d o k cs c ss q b s deep w h = elim (way (b == 44) _ _ (Some s) h) [
  | inl z ↦ rw (eq_true b 44 z.0) (next_sound n d o k cs c ss q s deep w z.1)
  | inr z ↦ elim (way (b == 41) _ _ (Some s) z.1) [
    | inr y ↦ none_some s y.1
    | inl y ↦ elim (way (all_absent ss) _ _ (Some s) y.1) [
      | inl x ↦ rw (eq_true b 41 y.0) (ended_sound n d o k cs c ss q s deep x.0 w x.1)
      | inr x ↦ none_some s x.1
    ]
  ]
]

host_snoc : (h : List ℕ) (b : ℕ) → AreHostBytes h → is_host_name_byte b ≡ true → AreHostBytes (h ++ b ∷ [])
unfolding AreHostBytes
host_snoc [] b a g = (g, tt)
host_snoc (x ∷ h) b a g = (a.0, host_snoc h b a.1 g)

no_host : AreHostBytes []
unfolding AreHostBytes
no_host = tt

start_place : key.place_of [] ≡ Some Start
unfolding run
start_place = refl

no_characters : run follow (Some Whole) [] ≡ Some Whole
unfolding run
no_characters = refl

take_none : (m : ℕ) → length {A = ℕ} (take m []) ≤ longest_key
take_none zero = omega arith
take_none (suc m) = omega arith

pub host_sound : (n d o : ℕ) (k : List Pending) (cs : List Call) (f : Fun) (h q : List ℕ) (b : ℕ) (s : State) → d + o ≡ 32 → Token n d k cs q (name_of f ++ 40 ∷ 47 ∷ h) → has_room cs ≡ true → is_dated f ≡ false → AreHostBytes h → length h ≤ longest_name → host f h o k cs b ≡ Some s → Stands n (q ++ b ∷ []) s
host_sound n d o k cs f h q b s deep t r looks a l e = elim (way (is_host_name_byte b) _ _ (Some s) e) [
  | inl z ↦ elim (way (nat_lt (length h) longest_name) _ _ (Some s) z.1) [
    | inl y ↦ let i = length-append h (b ∷ []) in let j = lt_true (length h) longest_name y.0 in
        stays n q d o b (Host f (h ++ b ∷ [])) k cs s deep (token_on n d k cs q (name_of f ++ 40 ∷ 47 ∷ h) (b ∷ []) (name_of f ++ 40 ∷ 47 ∷ (h ++ b ∷ [])) (append_assoc (name_of f) (40 ∷ 47 ∷ h) (b ∷ [])) t, r, looks, host_snoc h b a z.0, omega arith) y.1
    | inr y ↦ none_some s y.1
  ]
  | inr z ↦ elim (way (b == 47) _ _ (Some s) z.1) [
    | inr y ↦ none_some s y.1
    | inl y ↦ elim (way (nat_lt 0 (length h)) _ _ (Some s) y.1) [
      | inr x ↦ none_some s x.1
      | inl x ↦ stays n q d o b (Key f h [] Start Whole) k cs s deep (record {
        front = t.front;
        parts = ap (λ (c : ℕ). q ++ c ∷ []) (eq_true b 47 y.0) ∙ ap (λ (v : List ℕ). v ++ 47 ∷ []) t.parts ∙ append_assoc t.front (name_of f ++ 40 ∷ 47 ∷ h) (47 ∷ []) ∙ ap (λ (v : List ℕ). t.front ++ v) (append_assoc (name_of f) (40 ∷ 47 ∷ h) (47 ∷ [])) ∙ sym (append-nil (t.front ++ (name_of f ++ 40 ∷ 47 ∷ (h ++ 47 ∷ []))));
        entry = t.entry;
        room = r;
        looks = looks;
        host = (lt_true 0 (length h) x.0, l, a);
        place_is = start_place;
        characters_are = no_characters;
        fits = take_none (at n (t.front ++ (name_of f ++ 40 ∷ 47 ∷ (h ++ 47 ∷ [])))).held;
        steady = inl refl;
      }) x.1
    ]
  ]
]

-- ---- keys

high_name : (b : ℕ) → 128 ≤ b → is_name_byte b ≡ false
high_name b h = grind (arith, nat_tests)

-- a byte above those of ASCII is none of these
pub record High (b : ℕ) : Type 0 where
  pub space : (b == 32) ≡ false
  pub quote : (b == 34) ≡ false
  pub open' : (b == 91) ≡ false
  pub comma : (b == 44) ≡ false
  pub close' : (b == 93) ≡ false
  pub slash' : (b == 92) ≡ false

high : (b : ℕ) → 128 ≤ b → High b
high b h = record { space = grind (arith, nat_tests); quote = grind (arith, nat_tests); open' = grind (arith, nat_tests); comma = grind (arith, nat_tests); close' = grind (arith, nat_tests); slash' = grind (arith, nat_tests) }

abbrev Steady : Place → Type 0
Steady r = (c : ℕ) → 128 ≤ c → key.step r c ≡ Some r

bare_steady : Steady (Param within.Bare)
bare_steady c h = let g = high c h in rw (g.comma, g.close') refl

quoted_steady : Steady (Param within.Quoted)
quoted_steady c h = let g = high c h in rw (g.quote, g.slash') refl

listed_bare_steady : Steady (Listed within.Bare)
listed_bare_steady c h = let g = high c h in rw (g.comma, g.close') refl

listed_quoted_steady : Steady (Listed within.Quoted)
listed_quoted_steady c h = let g = high c h in rw (g.quote, g.slash') refl

to_steady : (p r : Place) (o : Option Place) → Steady p → o ≡ Some p → o ≡ Some r → Steady r
to_steady p r o h e f = subst (λ (v : Place). Steady v) (some_is p r (sym e ∙ f)) h

key_high : (place r : Place) (b : ℕ) → 128 ≤ b → key.step place b ≡ Some r → Steady r
key_high Start r b h e = none_some r (sym (rw (high_name b h) refl) ∙ e)
key_high Name r b h e = let g = high b h in none_some r (sym (rw (high_name b h, g.open') refl) ∙ e)
key_high (Param within.Before) r b h e = let g = high b h in to_steady (Param within.Bare) r (key.step (Param within.Before) b) bare_steady (rw (g.space, g.quote, g.open', g.comma, g.close') refl) e
key_high (Param within.Bare) r b h e = to_steady (Param within.Bare) r (key.step (Param within.Bare) b) bare_steady (bare_steady b h) e
key_high (Param within.Quoted) r b h e = to_steady (Param within.Quoted) r (key.step (Param within.Quoted) b) quoted_steady (quoted_steady b h) e
key_high (Param within.Escaped) r b h e = let g = high b h in to_steady (Param within.Quoted) r (key.step (Param within.Escaped) b) quoted_steady (rw g.slash' refl) e
key_high (Param within.Behind) r b h e = let g = high b h in none_some r (sym (rw (g.space, g.comma, g.close') refl) ∙ e)
key_high (Listed within.Before) r b h e = let g = high b h in to_steady (Listed within.Bare) r (key.step (Listed within.Before) b) listed_bare_steady (rw (g.space, g.quote, g.open', g.comma, g.close') refl) e
key_high (Listed within.Bare) r b h e = to_steady (Listed within.Bare) r (key.step (Listed within.Bare) b) listed_bare_steady (listed_bare_steady b h) e
key_high (Listed within.Quoted) r b h e = to_steady (Listed within.Quoted) r (key.step (Listed within.Quoted) b) listed_quoted_steady (listed_quoted_steady b h) e
key_high (Listed within.Escaped) r b h e = let g = high b h in to_steady (Listed within.Quoted) r (key.step (Listed within.Escaped) b) listed_quoted_steady (rw g.slash' refl) e
key_high (Listed within.Behind) r b h e = let g = high b h in none_some r (sym (rw (g.space, g.comma, g.close') refl) ∙ e)
key_high Closed r b h e = let g = high b h in none_some r (sym (rw (g.comma, g.close') refl) ∙ e)
key_high Ended r b h e = none_some r e

-- behind a byte of ASCII no character is open
low_whole : (u v : Character) (b : ℕ) → b < 128 → follow u b ≡ Some v → v ≡ Whole
low_whole Whole v b h e = sym (some_is Whole v (sym (rw (lt_test b 128 (omega arith)) refl) ∙ e))
low_whole One v b h e = absurd (grind (arith, nat_tests))
low_whole Two v b h e = absurd (grind (arith, nat_tests))
low_whole Three v b h e = absurd (grind (arith, nat_tests))
low_whole BehindE0 v b h e = absurd (grind (arith, nat_tests))
low_whole BehindEd v b h e = absurd (grind (arith, nat_tests))
low_whole BehindF0 v b h e = absurd (grind (arith, nat_tests))
low_whole BehindF4 v b h e = absurd (grind (arith, nat_tests))

steady_on : (place r : Place) (u v : Character) (b : ℕ) → key.step place b ≡ Some r → follow u b ≡ Some v → (v ≡ Whole) ⊎ ((c : ℕ) → 128 ≤ c → key.step r c ≡ Some r)
steady_on place r u v b e g = elim (either_way (nat_le 128 b)) [
  | inl h ↦ inr (key_high place r b (le_true 128 b h) e)
  | inr h ↦ inl (low_whole u v b (le_false 128 b h) g)
]

place_on : (t : List ℕ) (place r : Place) (b : ℕ) → key.place_of t ≡ Some place → key.step place b ≡ Some r → key.place_of (t ++ b ∷ []) ≡ Some r
unfolding run
place_on t place r b e g = run_append key.step (Some Start) t (b ∷ []) ∙ ap (λ (o : Option Place). run key.step o (b ∷ [])) e ∙ g

take_short : (m : ℕ) (a b : List ℕ) → m ≤ length a → take m (a ++ b) ≡ take m a
take_short zero a b h = refl
take_short (suc m) [] b h = absurd (omega arith)
take_short (suc m) (x ∷ a) b h = ap (λ (v : List ℕ). x ∷ v) (take_short m a b (omega arith))

take_le : (m : ℕ) (a : List ℕ) → length (take m a) ≤ length a
take_le zero a = omega arith
take_le (suc m) [] = omega arith
take_le (suc m) (x ∷ a) = let e = take_le m a in omega arith

zero_is : (m : ℕ) → is_zero m ≡ true → m ≡ 0
zero_is zero h = refl
zero_is (suc m) h = absurd cc

-- a key with one byte more is within the limit
fits_on : (n : ℕ) (x t q : List ℕ) (b : ℕ) → q ≡ x ++ t → length (take (at n x).held t) ≤ longest_key → (is_zero (at n q).held ≡ true) ⊎ (length t < longest_key) → length (take (at n x).held (t ++ b ∷ [])) ≤ longest_key
fits_on n x t q b e h (inr g) = let l = take_le (at n x).held (t ++ b ∷ []) in let m = length-append t (b ∷ []) in omega arith
fits_on n x t q b e h (inl g) =
    let z : (at n q).held ≡ 0 = zero_is (at n q).held g in
    let y : (at n q).held ≡ (at n x).held - length t = ap (λ (v : List ℕ). (at n v).held) e ∙ ap (λ (v : Point). v.held) (behind_append (beginning n) x t) ∙ held_behind (at n x) t in
    subst (λ (v : List ℕ). length v ≤ longest_key) (sym (take_short (at n x).held t (b ∷ []) (omega arith))) h

key_more_sound : (n d o : ℕ) (k : List Pending) (cs : List Call) (f : Fun) (h t q : List ℕ) (place : Place) (u : Character) (b : ℕ) (r : Option Place) (v : Option Character) (s : State) → d + o ≡ 32 → InKey n d k cs f h t place u q → (is_zero (at n q).held ≡ true) ⊎ (length t < longest_key)
    → key.step place b ≡ r → follow u b ≡ v → key_more f h t r v o k cs b ≡ Some s → Stands n (q ++ b ∷ []) s
key_more_sound n d o k cs f h t q place u b None v s deep w l e g i = none_some s i
key_more_sound n d o k cs f h t q place u b (Some r) None s deep w l e g i = none_some s i
key_more_sound n d o k cs f h t q place u b (Some r) (Some v) s deep w l e g i = stays n q d o b (Key f h (t ++ b ∷ []) r v) k cs s deep (record {
  front = w.front;
  parts = ap (λ (z : List ℕ). z ++ b ∷ []) w.parts ∙ append_assoc (w.front ++ (name_of f ++ 40 ∷ 47 ∷ (h ++ 47 ∷ []))) t (b ∷ []);
  entry = w.entry;
  room = w.room;
  looks = w.looks;
  host = w.host;
  place_is = place_on t place r b w.place_is e;
  characters_are = grown follow (Some Whole) u t b w.characters_are ∙ g;
  fits = fits_on n (w.front ++ (name_of f ++ 40 ∷ 47 ∷ (h ++ 47 ∷ []))) t q b w.parts w.fits l;
  steady = steady_on place r u v b e g;
}) i

key_on_sound : (n d o : ℕ) (k : List Pending) (cs : List Call) (f : Fun) (h t q : List ℕ) (place : Place) (u : Character) (b : ℕ) (s : State) → d + o ≡ 32 → InKey n d k cs f h t place u q → key_on (is_zero (at n q).held) f h t place u o k cs b ≡ Some s → Stands n (q ++ b ∷ []) s
key_on_sound n d o k cs f h t q place u b s deep w i = elim (way (is_zero (at n q).held) _ _ (Some s) i) [
  | inl z ↦ key_more_sound n d o k cs f h t q place u b (key.step place b) (follow u b) s deep w (inl z.0) refl refl z.1
  | inr z ↦ elim (way (nat_lt (length t) longest_key) _ _ (Some s) z.1) [
    | inl y ↦ key_more_sound n d o k cs f h t q place u b (key.step place b) (follow u b) s deep w (inr (lt_true (length t) longest_key y.0)) refl refl y.1
    | inr y ↦ none_some s y.1
  ]
]

-- a whole key, and what its call may still be
key_call : (n d : ℕ) (k : List Pending) (cs : List Call) (f : Fun) (h t q : List ℕ) (place : Place) (u : Character) → InKey n d k cs f h t place u q → key.ends place ≡ true → is_utf8 t ≡ true → InCall n d k cs (plain_call f h t) (slots f) q
key_call n d k cs f h t q place u w e g = record {
  front = w.front;
  text = name_of f ++ 40 ∷ 47 ∷ (h ++ 47 ∷ t);
  parts = w.parts ∙ append_assoc w.front (name_of f ++ 40 ∷ 47 ∷ (h ++ 47 ∷ [])) t ∙ ap (λ (v : List ℕ). w.front ++ v) (append_assoc (name_of f) (40 ∷ 47 ∷ (h ++ 47 ∷ [])) t ∙ ap (λ (v : List ℕ). name_of f ++ 40 ∷ 47 ∷ v) (append_assoc h (47 ∷ []) t));
  entry = w.entry;
  room = w.room;
  goes_on = λ r c a. of_item f h t r w.looks w.host (keys.sound t (ap (λ (o : Option Place). key.ends_at o) w.place_is ∙ e)) (IsUtf8-from_is_utf8 t g)
      (subst (λ (v : Point). length (take v.held t) ≤ longest_key) (sym (at_append n w.front (name_of f ++ 40 ∷ 47 ∷ (h ++ 47 ∷ [])))) w.fits) a
      (append_assoc (name_of f) (40 ∷ 47 ∷ (h ++ 47 ∷ t)) (r ++ 41 ∷ []) ∙ ap (λ (v : List ℕ). name_of f ++ 40 ∷ 47 ∷ v) (append_assoc h (47 ∷ t) (r ++ 41 ∷ [])));
}

pub key_sound : (n d o : ℕ) (k : List Pending) (cs : List Call) (f : Fun) (h t q : List ℕ) (place : Place) (u : Character) (b : ℕ) (s : State) → d + o ≡ 32 → InKey n d k cs f h t place u q → key_byte (is_zero (at n q).held) f h t place u o k cs b ≡ Some s → Stands n (q ++ b ∷ []) s
key_sound n d o k cs f h t q place u b s deep w i = elim (way (is_delimiter b) _ _ (Some s) i) [
  | inr z ↦ key_on_sound n d o k cs f h t q place u b s deep w z.1
  | inl z ↦ elim (way (key.ends place) _ _ (Some s) z.1) [
    | inr y ↦ key_on_sound n d o k cs f h t q place u b s deep w y.1
    | inl y ↦ elim (way (is_utf8 h) _ _ (Some s) y.1) [
      | inr x ↦ none_some s x.1
      | inl x ↦ elim (way (is_utf8 t) _ _ (Some s) x.1) [
        | inr v ↦ none_some s v.1
        | inl v ↦ delivered_sound n d o k cs (plain_call f h t) (slots f) q b s deep (key_call n d k cs f h t q place u w y.0 v.0) v.1
      ]
    ]
  ]
]

-- ---- arguments

argument_on_sound : (n d o : ℕ) (k : List Pending) (cs : List Call) (fresh : Bool) (c : Call) (a : Slot) (ss : List Slot) (x : Part) (q : List ℕ) (b : ℕ) (r : Option Part) (s : State) → d + o ≡ 32 → InArgument n d k cs fresh c a ss x q → part a x b ≡ r → argument_on r c a ss o k cs b ≡ Some s → Stands n (q ++ b ∷ []) s
argument_on_sound n d o k cs fresh c a ss x q b None s deep w e i = none_some s i
argument_on_sound n d o k cs fresh c a ss x q b (Some y) s deep w e i = stays n q d o b (Argument false c a ss y) k cs s deep (record {
  before = w.before;
  blanks = w.blanks;
  own = w.own ++ b ∷ [];
  parts = ap (λ (v : List ℕ). v ++ b ∷ []) w.parts ∙ append_assoc w.before (44 ∷ (w.blanks ++ w.own)) (b ∷ []) ∙ ap (λ (v : List ℕ). w.before ++ 44 ∷ v) (append_assoc w.blanks w.own (b ∷ []));
  are_blanks = w.are_blanks;
  past = part_past a x y w.own b w.past e;
  not_begun = λ z. absurd cc;
  in_call = w.in_call;
}) i

-- a whole argument, and what its call may still be
argument_call : (n d : ℕ) (k : List Pending) (cs : List Call) (fresh : Bool) (c : Call) (a : Slot) (ss : List Slot) (x : Part) (q : List ℕ) (v : Value) → InArgument n d k cs fresh c a ss x q → part_value a x ≡ Some v → InCall n d k cs (put a v c) ss q
argument_call n d k cs fresh c a ss x q v w e =
    let g = w.in_call in
    record {
      front = g.front;
      text = g.text ++ 44 ∷ (w.blanks ++ w.own);
      parts = w.parts ∙ ap (λ (z : List ℕ). z ++ 44 ∷ (w.blanks ++ w.own)) g.parts ∙ append_assoc g.front g.text (44 ∷ (w.blanks ++ w.own));
      entry = g.entry;
      room = g.room;
      goes_on = λ r f i. subst (λ (z : List ℕ). IsCall (at n g.front) z f) (sym (append_assoc g.text (44 ∷ (w.blanks ++ w.own)) (r ++ 41 ∷ []) ∙ ap (λ (z : List ℕ). g.text ++ 44 ∷ z) (append_assoc w.blanks w.own (r ++ 41 ∷ []) ∙ ap (λ (z : List ℕ). w.blanks ++ z) (sym (append_assoc w.own r (41 ∷ []))) ∙ sym (append_assoc w.blanks (w.own ++ r) (41 ∷ [])))))
          (g.goes_on (44 ∷ (w.blanks ++ (w.own ++ r))) f (another w.blanks w.own r w.are_blanks (part_ends a x w.own v w.past e) i refl));
    }

argument_end_sound : (n d o : ℕ) (k : List Pending) (cs : List Call) (fresh : Bool) (c : Call) (a : Slot) (ss : List Slot) (x : Part) (q : List ℕ) (b : ℕ) (r : Option Value) (s : State) → d + o ≡ 32 → InArgument n d k cs fresh c a ss x q → part_value a x ≡ r → argument_end r c a ss x o k cs b ≡ Some s → Stands n (q ++ b ∷ []) s
argument_end_sound n d o k cs fresh c a ss x q b None s deep w e i = argument_on_sound n d o k cs fresh c a ss x q b (part a x b) s deep w refl i
argument_end_sound n d o k cs fresh c a ss x q b (Some (Ranged r m)) s deep w e i = delivered_sound n d o k cs (put a (Ranged r m) c) ss q b s deep (argument_call n d k cs fresh c a ss x q (Ranged r m) w e) i
argument_end_sound n d o k cs fresh c a ss x q b (Some (Said t)) s deep w e i = elim (way (is_utf8 t) _ _ (Some s) i) [
  | inl z ↦ delivered_sound n d o k cs (put a (Said t) c) ss q b s deep (argument_call n d k cs fresh c a ss x q (Said t) w e) z.1
  | inr z ↦ none_some s z.1
]

argument_byte_sound : (n d o : ℕ) (k : List Pending) (cs : List Call) (fresh : Bool) (c : Call) (a : Slot) (ss : List Slot) (x : Part) (q : List ℕ) (b : ℕ) (s : State) → d + o ≡ 32 → InArgument n d k cs fresh c a ss x q → argument_byte c a ss x o k cs b ≡ Some s → Stands n (q ++ b ∷ []) s
argument_byte_sound n d o k cs fresh c a ss x q b s deep w i = elim (way (is_delimiter b) _ _ (Some s) i) [
  | inl z ↦ argument_end_sound n d o k cs fresh c a ss x q b (part_value a x) s deep w refl z.1
  | inr z ↦ argument_on_sound n d o k cs fresh c a ss x q b (part a x b) s deep w refl z.1
]

past_before : (a : Slot) (x : Part) (t : List ℕ) → x ≡ Before → Past a x t → t ≡ []
past_before a x t e h = subst (λ (v : Part). Past a v t) e h

pub argument_sound : (n d o : ℕ) (k : List Pending) (cs : List Call) (fresh : Bool) (c : Call) (a : Slot) (ss : List Slot) (x : Part) (q : List ℕ) (b : ℕ) (s : State) → d + o ≡ 32 → InArgument n d k cs fresh c a ss x q → argument fresh c a ss x o k cs b ≡ Some s → Stands n (q ++ b ∷ []) s
argument_sound n d o k cs false c a ss x q b s deep w i = argument_byte_sound n d o k cs false c a ss x q b s deep w i
argument_sound n d o k cs true c a ss x q b s deep w i = elim (way (is_blank b) _ _ (Some s) i) [
  | inr z ↦ argument_byte_sound n d o k cs true c a ss x q b s deep w z.1
  | inl z ↦
      let e : w.own ≡ [] = past_before a x w.own (w.not_begun refl) w.past in
      stays n q d o b (Argument true c a ss x) k cs s deep (record {
        before = w.before;
        blanks = w.blanks ++ b ∷ [];
        own = w.own;
        parts = ap (λ (v : List ℕ). v ++ b ∷ []) (w.parts ∙ ap (λ (v : List ℕ). w.before ++ 44 ∷ (w.blanks ++ v)) e ∙ ap (λ (v : List ℕ). w.before ++ 44 ∷ v) (append-nil w.blanks)) ∙ append_assoc w.before (44 ∷ w.blanks) (b ∷ []) ∙ ap (λ (v : List ℕ). w.before ++ 44 ∷ v) (sym (append-nil (w.blanks ++ b ∷ [])) ∙ ap (λ (v : List ℕ). (w.blanks ++ b ∷ []) ++ v) (sym e));
        are_blanks = blanks_append w.blanks (b ∷ []) w.are_blanks (one_blank b z.0);
        past = w.past;
        not_begun = w.not_begun;
        in_call = w.in_call;
      }) z.1
]

pub slash_sound : (n d o : ℕ) (k : List Pending) (cs : List Call) (f : Fun) (q : List ℕ) (b : ℕ) (s : State) → d + o ≡ 32 → Token n d k cs q (name_of f ++ 40 ∷ []) → has_room cs ≡ true → is_dated f ≡ false → slash f o k cs b ≡ Some s → Stands n (q ++ b ∷ []) s
slash_sound n d o k cs f q b s deep t r l i = elim (way (b == 47) _ _ (Some s) i) [
  | inl z ↦ stays n q d o b (Host f []) k cs s deep (token_on n d k cs q (name_of f ++ 40 ∷ []) (b ∷ []) (name_of f ++ 40 ∷ 47 ∷ []) (append_assoc (name_of f) (40 ∷ []) (b ∷ []) ∙ ap (λ (c : ℕ). name_of f ++ 40 ∷ c ∷ []) (eq_true b 47 z.0)) t, r, l, no_host, omega arith) z.1
  | inr z ↦ none_some s z.1
]

pub close_sound : (n d o : ℕ) (k : List Pending) (cs : List Call) (c : Call) (q : List ℕ) (b : ℕ) (s : State) → d + o ≡ 32 → InCall n d k cs c [] q → close c o k cs b ≡ Some s → Stands n (q ++ b ∷ []) s
close_sound n d o k cs c q b s deep w i = elim (way (b == 41) _ _ (Some s) i) [
  | inl z ↦ rw (eq_true b 41 z.0) (ended_sound n d o k cs c [] q s deep refl w z.1)
  | inr z ↦ none_some s z.1
]
