-- From each state that a text leads to, some bytes complete an expression.
use Rattle.std.proofs.Common.{◌≡◌, ℕ, suc, zero, ◌+◌, ◌≤◌, List, [], ◌∷◌, ◌++◌, length, take, refl, ap, sym, ◌∙◌, Option, Some, Bool, true, false, arith, ◌==◌, subst, inl, inr, ◌⊎◌, if◌then◌else◌, pos, IsUtf8, append_assoc, append-nil, length-append}
use Rattle.zbx_types.specs.Tree.{Tree, constant, call}
use Rattle.zbx_types.specs.declared.expr.Op.{Op}
use Rattle.zbx_types.specs.declared.expr.Op.TheVariants.{Lt, Gt, Add}
use Rattle.zbx_types.specs.declared.calls.Call.{Call}
use Rattle.zbx_types.specs.declared.calls.Fun.{Fun}
use Rattle.item_key.specs.declared.places.Place.{Place}
use Rattle.item_key.specs.declared.places.Place.TheVariants.{Start, Name, Param, Listed, Closed, Done as Ended}
use Rattle.item_key.specs.declared.places.InParameter.TheVariants as within
use Rattle.item_key.specs.Machine as key
use Rattle.item_key.specs.Grammar.{IsKeyText}
use Rattle.item_key.proofs.Sound as keys
use Rattle.byte_grammar.specs.declared.characters.Character.{Character}
use Rattle.byte_grammar.specs.declared.characters.Character.TheVariants.{Whole, One, Two, Three, BehindE0, BehindEd, BehindF0, BehindF4}
use Rattle.zbx_types.specs.Limits.{longest_key, longest_name}
use Rattle.expr_parser.specs.declared.slots.Slot.{Slot}
use Rattle.expr_parser.specs.declared.parts.Part.{Part}
use Rattle.expr_parser.specs.declared.pending.Half.TheVariants.{Denied}
use Rattle.expr_parser.specs.declared.pending.Pending.{Pending}
use Rattle.expr_parser.specs.declared.pending.Pending.TheVariants.{Open, Waits}
use Rattle.expr_parser.specs.declared.pending.Rest.{Rest}
use Rattle.expr_parser.specs.Bytes.{is_gap, AreBlanks, Point, behind as behind_bytes, beginning}
use Rattle.expr_parser.specs.Functions.{name_of, slots}
use Rattle.zbx_types.specs.Operators.{is_dated}
use Rattle.expr_parser.specs.Calls.{AreHostBytes, IsHost, put, Arguments, no_more, another, plain_call, IsCall, dated, of_item, greatest_number}
use Rattle.expr_parser.specs.Figures.{figures_text}
use Rattle.expr_parser.specs.Grammar.{op_text, is_word, Spells, number, called}
use Rattle.expr_parser.specs.Machine.{floor, reduced, Mode, Begin, Operand, Word, Number, Slash, Host, Key, Argument, Close, Done, Less, Greater, Joint, State, has_room, is_begun, not_word, is_not, first_functions, second_functions, with_op, go}
use Rattle.expr_parser.proofs.Lists.{held_behind, last_snoc, way, either_way, eq_true, lt_true, no_blanks, one_blank}
use Rattle.byte_grammar.proofs.Utf8Texts.{taken_text}
use Rattle.byte_grammar.proofs.Runs.{run_append}
use Rattle.expr_parser.proofs.Stacks.{at, at_append, gap_clear, Stack, Holds, Folded, fold, close_holds, token_holds, floor_le, stack_depth}
use Rattle.expr_parser.proofs.Stands.{Entry, Token, Behind, left_of, InJoint, InKey, InCall, InArgument, Within', Stands}
use Rattle.expr_parser.specs.Grammar.{IsText}
use Rattle.expr_parser.specs.Parts.{is_front, begins_one}
use Rattle.expr_parser.specs.Machine.{names, begins_name}
use Rattle.item_key.proofs.Meanings as meanings
use Rattle.expr_parser.proofs.NumberPasts.{number_lives}
use Rattle.byte_grammar.specs.Utf8.{follow, rest_of as tail}
use Rattle.byte_grammar.specs.Runs.{run}
use Rattle.byte_grammar.proofs.Utf8Meaning.{rest_run as tail_runs}
use Rattle.expr_parser.proofs.PartLives.{sample, part_lives, zero_number}
use Rattle.expr_parser.proofs.Sound.{waiting_entry, op_waits, denied_waits}

-- some bytes complete an expression
pub record Lives (n : ℕ) (q : List ℕ) : Type 0 where
  pub more : List ℕ
  pub is : IsText n (q ++ more)

further : (n : ℕ) (q a : List ℕ) → Lives n (q ++ a) → Lives n q
further n q a h = record { more = a ++ h.more; is = subst (λ (v : List ℕ). IsText n v) (append_assoc q a h.more) h.is }

moved : (n : ℕ) (q r : List ℕ) → q ≡ r → Lives n r → Lives n q
moved n q r e h = subst (λ (v : List ℕ). Lives n v) (sym e) h

nothing_at : (n : ℕ) → at n [] ≡ beginning n
unfolding behind_bytes
nothing_at n = refl

whole_lives : (n d : ℕ) (e : Tree) (q : List ℕ) (cs : List Call) → Holds n d [] e 0 q cs → Lives n q
whole_lives n d e q cs h =
    let s = h.stack in
    let i : q ≡ h.text = h.parts ∙ ap (λ (v : List ℕ). v ++ h.text) s.1 in
    let a : Spells (at n []) 32 (length h.before) 0 h.text e h.own = subst (λ (v : ℕ). Spells (at n []) v (length h.before) 0 h.text e h.own) s.0 (subst (λ (v : List ℕ). Spells (at n v) d (length h.before) 0 h.text e h.own) s.1 h.spells) in
    let b : Spells (beginning n) 32 0 0 h.text e h.own = subst (λ (v : List Call). Spells (beginning n) 32 (length v) 0 h.text e h.own) s.2 (subst (λ (v : Point). Spells v 32 (length h.before) 0 h.text e h.own) (nothing_at n) a) in
    record { more = []; is = (e, h.own, subst (λ (v : List ℕ). Spells (beginning n) 32 0 0 v e h.own) (sym (append-nil q ∙ i)) b) }

-- the parentheses that are still open are closed
closing : (n d o : ℕ) (k : List Pending) (e : Tree) (q : List ℕ) (cs : List Call) → d + o ≡ 32 → Holds n d k e 8 q cs → Lives n q
closing n d zero k e q cs deep h = at_fold (reduced 0 k e) (fold n d 0 k e 8 q cs (floor_le k) (omega arith) h)
  where
    at_fold : (r : List Pending × Tree) → Folded n d 0 r q cs → Lives n q
    at_fold ([], x) f = whole_lives n d x q cs f.holds
    at_fold (Open ∷ j, x) f = let g = f.holds in let s = g.stack in let i = stack_depth n j (suc d) s.0 g.before s.4 in absurd (omega arith)
    at_fold (Waits x ∷ j, y) f = let l = f.low in absurd (omega arith)
closing n d (suc o) k e q cs deep h = at_fold (reduced 0 k e) (fold n d 0 k e 8 q cs (floor_le k) (omega arith) h) (λ j x g. closing n (suc d) o j x (q ++ 41 ∷ []) cs (omega arith) g)
  where
    at_fold : (r : List Pending × Tree) → Folded n d 0 r q cs → ((j : List Pending) (x : Tree) → Holds n (suc d) j x 8 (q ++ 41 ∷ []) cs → Lives n (q ++ 41 ∷ [])) → Lives n q
    at_fold ([], x) f go = whole_lives n d x q cs f.holds
    at_fold (Open ∷ j, x) f go = further n q (41 ∷ []) (go j x (close_holds n d j x q [] cs f.holds no_blanks))
    at_fold (Waits x ∷ j, y) f go = let l = f.low in absurd (omega arith)

-- a nought as the operand
entry_lives : (n d o : ℕ) (k : List Pending) (cs : List Call) (q : List ℕ) → d + o ≡ 32 → Entry n d k cs q → Lives n q
entry_lives n d o k cs q deep e = further n q (48 ∷ []) (closing n d o k (constant (pos 0)) (q ++ 48 ∷ []) (cs ++ []) deep (token_holds n d k (constant (pos 0)) q (48 ∷ []) cs [] e.stack e.clear (number 0 (zero_number greatest_number))))

-- a blank and a nought behind a word
word_lives : (n d o : ℕ) (k : List Pending) (cs : List Call) (q : List ℕ) → d + o ≡ 32 → ((y : List ℕ) → AreBlanks y → Stack n k d (q ++ y) cs) → Lives n q
word_lives n d o k cs q deep w = further n q (32 ∷ []) (entry_lives n d o k cs (q ++ 32 ∷ []) deep (record { stack = w (32 ∷ []) (one_blank 32 refl); clear = gap_clear k (at n (q ++ 32 ∷ [])).last (subst (λ (v : ℕ). is_gap v ≡ true) (sym (last_snoc (beginning n) q 32)) refl) }))

behind_lives : (n d o : ℕ) (k : List Pending) (cs : List Call) (e : Tree) (q : List ℕ) → d + o ≡ 32 → Behind n d k cs e q → Lives n q
behind_lives n d o k cs e q deep b = further n q (43 ∷ []) (entry_lives n d o (with_op Add e k) cs (q ++ 43 ∷ []) deep (record { stack = op_waits n d k cs e Add q b (λ w. absurd cc) [] no_blanks; clear = λ w. absurd cc }))

-- an operator without a word
op_lives : (n d o : ℕ) (k : List Pending) (cs : List Call) (e : Tree) (op : Op) (q w : List ℕ) → d + o ≡ 32 → is_word op ≡ false → q ≡ w ++ op_text op → Behind n d k cs e w → Lives n q
op_lives n d o k cs e op q w deep i p b = entry_lives n d o (with_op op e k) cs q deep (record { stack = subst (λ (v : List ℕ). Stack n (with_op op e k) d v cs) (sym (p ∙ ap (λ (v : List ℕ). w ++ v) (sym (append-nil (op_text op))))) (op_waits n d k cs e op w b (λ x. absurd cc) [] no_blanks); clear = λ x. absurd cc })

joint_lives : (n d o : ℕ) (k : List Pending) (cs : List Call) (e : Tree) (op : Op) (rest : Rest) (q : List ℕ) → d + o ≡ 32 → InJoint n d k cs e op rest q → Lives n q
joint_lives n d o k cs e op rest q deep w =
    let i : q ++ left_of rest ≡ w.operand ++ op_text op = ap (λ (v : List ℕ). v ++ left_of rest) w.parts ∙ append_assoc w.operand w.x (left_of rest) ∙ ap (λ (v : List ℕ). w.operand ++ v) w.letters in
    further n q (left_of rest) (word_lives n d o (with_op op e k) cs (q ++ left_of rest) deep (λ y a. subst (λ (v : List ℕ). Stack n (with_op op e k) d v cs) (sym (ap (λ (v : List ℕ). v ++ y) i ∙ append_assoc w.operand (op_text op) y)) (op_waits n d k cs e op w.operand w.is (λ x. w.gap) y a)))

-- ---- calls

-- a call behind a front where an operand may begin
call_lives : (n d o : ℕ) (k : List Pending) (cs : List Call) (p t : List ℕ) (c : Call) → d + o ≡ 32 → Entry n d k cs p → has_room cs ≡ true → IsCall (at n p) t c → Lives n (p ++ t)
call_lives n d o k cs p t c deep e r g = closing n d o k (call (length cs)) (p ++ t) (cs ++ c ∷ []) deep (token_holds n d k (call (length cs)) p t cs (c ∷ []) e.stack e.clear (called c (lt_true (length cs) 32 r) g))

-- arguments that may stand there
record Samples (ss : List Slot) (c : Call) : Type 0 where
  pub text : List ℕ
  pub whole : Call
  pub is : Arguments ss c text whole

samples : (ss : List Slot) (c : Call) → Samples ss c
samples [] c = record { text = []; whole = c; is = no_more refl }
samples (s ∷ ss) c =
    let m = sample s in
    let r = samples ss (put s m.value c) in
    record { text = 44 ∷ (m.text ++ r.text); whole = r.whole; is = another [] m.text r.text no_blanks m.is r.is refl }

in_call_lives : (n d o : ℕ) (k : List Pending) (cs : List Call) (c : Call) (ss : List Slot) (q : List ℕ) → d + o ≡ 32 → InCall n d k cs c ss q → Lives n q
in_call_lives n d o k cs c ss q deep w =
    let r = samples ss c in
    further n q (r.text ++ 41 ∷ []) (moved n (q ++ (r.text ++ 41 ∷ [])) (w.front ++ (w.text ++ (r.text ++ 41 ∷ []))) (ap (λ (v : List ℕ). v ++ (r.text ++ 41 ∷ [])) w.parts ∙ append_assoc w.front w.text (r.text ++ 41 ∷ []))
    (call_lives n d o k cs w.front (w.text ++ (r.text ++ 41 ∷ [])) r.whole deep w.entry w.room (w.goes_on r.text r.whole r.is)))

argument_lives : (n d o : ℕ) (k : List Pending) (cs : List Call) (fresh : Bool) (c : Call) (a : Slot) (ss : List Slot) (x : Part) (q : List ℕ) → d + o ≡ 32 → InArgument n d k cs fresh c a ss x q → Lives n q
argument_lives n d o k cs fresh c a ss x q deep w =
    let m = part_lives a x w.own w.past in
    let g = w.in_call in
    further n q m.more (in_call_lives n d o k cs (put a m.value c) ss (q ++ m.more) deep (record {
      front = g.front;
      text = g.text ++ 44 ∷ (w.blanks ++ (w.own ++ m.more));
      parts = ap (λ (v : List ℕ). v ++ m.more) w.parts ∙ append_assoc w.before (44 ∷ (w.blanks ++ w.own)) m.more ∙ ap (λ (v : List ℕ). w.before ++ 44 ∷ v) (append_assoc w.blanks w.own m.more) ∙ ap (λ (v : List ℕ). v ++ 44 ∷ (w.blanks ++ (w.own ++ m.more))) g.parts ∙ append_assoc g.front g.text (44 ∷ (w.blanks ++ (w.own ++ m.more)));
      entry = g.entry;
      room = g.room;
      goes_on = λ r f i. subst (λ (z : List ℕ). IsCall (at n g.front) z f) (sym (append_assoc g.text (44 ∷ (w.blanks ++ (w.own ++ m.more))) (r ++ 41 ∷ []) ∙ ap (λ (z : List ℕ). g.text ++ 44 ∷ z) (append_assoc w.blanks (w.own ++ m.more) (r ++ 41 ∷ []) ∙ ap (λ (z : List ℕ). w.blanks ++ z) (sym (append_assoc (w.own ++ m.more) r (41 ∷ []))) ∙ sym (append_assoc w.blanks ((w.own ++ m.more) ++ r) (41 ∷ [])))))
          (g.goes_on (44 ∷ (w.blanks ++ ((w.own ++ m.more) ++ r))) f (another w.blanks (w.own ++ m.more) r w.are_blanks m.is i refl));
    }))

take_short : (m : ℕ) (a b : List ℕ) → m ≤ length a → take m (a ++ b) ≡ take m a
take_short zero a b h = refl
take_short (suc m) [] b h = absurd (omega arith)
take_short (suc m) (x ∷ a) b h = ap (λ (v : List ℕ). x ∷ v) (take_short m a b (omega arith))

-- a host and a key, with this key
item_lives : (n d o : ℕ) (k : List Pending) (cs : List Call) (p : List ℕ) (f : Fun) (h t : List ℕ) → d + o ≡ 32 → Entry n d k cs p → has_room cs ≡ true → is_dated f ≡ false → IsHost h → IsKeyText t → IsUtf8 t → length (take (at n (p ++ (name_of f ++ 40 ∷ 47 ∷ (h ++ 47 ∷ [])))).held t) ≤ longest_key
    → Lives n (p ++ (name_of f ++ 40 ∷ 47 ∷ (h ++ 47 ∷ t)))
item_lives n d o k cs p f h t deep e r l a b c g =
    let m = samples (slots f) (plain_call f h t) in
    let i : (p ++ (name_of f ++ 40 ∷ 47 ∷ (h ++ 47 ∷ t))) ++ (m.text ++ 41 ∷ []) ≡ p ++ (name_of f ++ 40 ∷ 47 ∷ (h ++ 47 ∷ (t ++ (m.text ++ 41 ∷ [])))) = append_assoc p (name_of f ++ 40 ∷ 47 ∷ (h ++ 47 ∷ t)) (m.text ++ 41 ∷ []) ∙ ap (λ (v : List ℕ). p ++ v) (append_assoc (name_of f) (40 ∷ 47 ∷ (h ++ 47 ∷ t)) (m.text ++ 41 ∷ []) ∙ ap (λ (v : List ℕ). name_of f ++ 40 ∷ 47 ∷ v) (append_assoc h (47 ∷ t) (m.text ++ 41 ∷ []))) in
    further n (p ++ (name_of f ++ 40 ∷ 47 ∷ (h ++ 47 ∷ t))) (m.text ++ 41 ∷ []) (moved n ((p ++ (name_of f ++ 40 ∷ 47 ∷ (h ++ 47 ∷ t))) ++ (m.text ++ 41 ∷ [])) (p ++ (name_of f ++ 40 ∷ 47 ∷ (h ++ 47 ∷ (t ++ (m.text ++ 41 ∷ []))))) i
    (call_lives n d o k cs p (name_of f ++ 40 ∷ 47 ∷ (h ++ 47 ∷ (t ++ (m.text ++ 41 ∷ [])))) m.whole deep e r
    (of_item f h t m.text l a b c (subst (λ (v : Point). length (take v.held t) ≤ longest_key) (sym (at_append n p (name_of f ++ 40 ∷ 47 ∷ (h ++ 47 ∷ [])))) g) m.is refl)))

key_k : IsKeyText (107 ∷ [])
unfolding run
key_k = keys.sound (107 ∷ []) refl

utf_k : run follow (Some Whole) (107 ∷ []) ≡ Some Whole
unfolding run
utf_k = refl

short_k : (m : ℕ) → length {A = ℕ} (take m (107 ∷ [])) ≤ longest_key
short_k zero = omega arith
short_k (suc zero) = omega arith
short_k (suc (suc m)) = omega arith

-- a host, completed
host_lives : (n d o : ℕ) (k : List Pending) (cs : List Call) (p : List ℕ) (f : Fun) (h : List ℕ) → d + o ≡ 32 → Entry n d k cs p → has_room cs ≡ true → is_dated f ≡ false → IsHost h → Lives n (p ++ (name_of f ++ 40 ∷ 47 ∷ h))
host_lives n d o k cs p f h deep e r l a = further n (p ++ (name_of f ++ 40 ∷ 47 ∷ h)) (47 ∷ 107 ∷ []) (moved n ((p ++ (name_of f ++ 40 ∷ 47 ∷ h)) ++ 47 ∷ 107 ∷ []) (p ++ (name_of f ++ 40 ∷ 47 ∷ (h ++ 47 ∷ 107 ∷ []))) (append_assoc p (name_of f ++ 40 ∷ 47 ∷ h) (47 ∷ 107 ∷ []) ∙ ap (λ (v : List ℕ). p ++ v) (append_assoc (name_of f) (40 ∷ 47 ∷ h) (47 ∷ 107 ∷ [])))
    (item_lives n d o k cs p f h (107 ∷ []) deep e r l a key_k (taken_text (107 ∷ []) utf_k) (short_k (at n (p ++ (name_of f ++ 40 ∷ 47 ∷ (h ++ 47 ∷ [])))).held)))

host_h : IsHost (104 ∷ [])
unfolding AreHostBytes
host_h = (omega arith, omega arith, (refl, tt))

no_bytes : AreHostBytes []
unfolding AreHostBytes
no_bytes = tt

host_token : (n d o : ℕ) (k : List Pending) (cs : List Call) (p : List ℕ) (f : Fun) (h : List ℕ) → d + o ≡ 32 → Entry n d k cs p → has_room cs ≡ true → is_dated f ≡ false → AreHostBytes h → length h ≤ longest_name → Lives n (p ++ (name_of f ++ 40 ∷ 47 ∷ h))
host_token n d o k cs p f [] deep e r l a b = further n (p ++ (name_of f ++ 40 ∷ 47 ∷ [])) (104 ∷ []) (moved n ((p ++ (name_of f ++ 40 ∷ 47 ∷ [])) ++ 104 ∷ []) (p ++ (name_of f ++ 40 ∷ 47 ∷ 104 ∷ [])) (append_assoc p (name_of f ++ 40 ∷ 47 ∷ []) (104 ∷ []) ∙ ap (λ (v : List ℕ). p ++ v) (append_assoc (name_of f) (40 ∷ 47 ∷ []) (104 ∷ []))) (host_lives n d o k cs p f (104 ∷ []) deep e r l host_h))
host_token n d o k cs p f (c ∷ h) deep e r l a b = host_lives n d o k cs p f (c ∷ h) deep e r l (omega arith, b, a)

-- the name of a function
name_lives : (n d o : ℕ) (k : List Pending) (cs : List Call) (p : List ℕ) (f : Fun) → d + o ≡ 32 → Entry n d k cs p → has_room cs ≡ true → Lives n (p ++ name_of f)
name_lives n d o k cs p f deep e r = elim (either_way (is_dated f)) [
  | inl z ↦ further n (p ++ name_of f) (40 ∷ 41 ∷ []) (moved n ((p ++ name_of f) ++ 40 ∷ 41 ∷ []) (p ++ (name_of f ++ 40 ∷ 41 ∷ [])) (append_assoc p (name_of f) (40 ∷ 41 ∷ [])) (call_lives n d o k cs p (name_of f ++ 40 ∷ 41 ∷ []) (plain_call f [] []) deep e r (dated f z refl)))
  | inr z ↦ further n (p ++ name_of f) (40 ∷ 47 ∷ []) (moved n ((p ++ name_of f) ++ 40 ∷ 47 ∷ []) (p ++ (name_of f ++ 40 ∷ 47 ∷ [])) (append_assoc p (name_of f) (40 ∷ 47 ∷ [])) (host_token n d o k cs p f [] deep e r z no_bytes (omega arith)))
]

-- ---- words

front_rest : (a t : List ℕ) → is_front a t ≡ true → (r : List ℕ) × (a ++ r ≡ t)
front_rest [] t h = (t, refl)
front_rest (b ∷ a) [] h = absurd cc
front_rest (b ∷ a) (c ∷ t) h = elim (way (b == c) (is_front a t) false true h) [
  | inl z ↦ let r = front_rest a t z.1 in let e = eq_true b c z.0 in (r.0, ap (λ (v : ℕ). v ∷ (a ++ r.0)) e ∙ ap (λ (v : List ℕ). c ∷ v) r.1)
  | inr z ↦ absurd (let k = z.1 in cc)
]

name_rest : (fs : List Fun) (w : List ℕ) → begins_one (names fs) w ≡ true → (f : Fun) × (r : List ℕ) × (w ++ r ≡ name_of f)
name_rest [] w h = absurd cc
name_rest (f ∷ fs) w h = elim (way (is_front w (name_of f)) true (begins_one (names fs) w) true h) [
  | inl z ↦ let r = front_rest w (name_of f) z.0 in (f, r.0, r.1)
  | inr z ↦ name_rest fs w z.1
]

begun_name : (w : List ℕ) → begins_name w ≡ true → (f : Fun) × (r : List ℕ) × (w ++ r ≡ name_of f)
begun_name w h = elim (way (begins_one (names first_functions) w) true (begins_one (names second_functions) w) true h) [
  | inl z ↦ name_rest first_functions w z.0
  | inr z ↦ name_rest second_functions w z.1
]

both_so : (a b : Bool) → (if a then b else false) ≡ true → (a ≡ true) × (b ≡ true)
both_so true b h = (refl, h)
both_so false b h = absurd cc

not_same : is_not not_word ≡ true
not_same = refl

begun_lives : (n d o : ℕ) (k : List Pending) (cs : List Call) (nots : Bool) (w q : List ℕ) → d + o ≡ 32 → (t : Token n d k cs q w) → is_begun nots (has_room cs) w ≡ true → (nots ≡ true → (floor k ≤ 6) × (is_gap (at n t.front).last ≡ true)) → Lives n q
begun_lives n d o k cs nots w q deep t h g = elim (way (if has_room cs then begins_name w else false) true (if nots then is_front w not_word else false) true h) [
  | inl z ↦
      let a = both_so (has_room cs) (begins_name w) z.0 in
      let f = begun_name w a.1 in
      further n q f.1 (moved n (q ++ f.1) (t.front ++ name_of f.0) (ap (λ (v : List ℕ). v ++ f.1) t.parts ∙ append_assoc t.front w f.1 ∙ ap (λ (v : List ℕ). t.front ++ v) f.2) (name_lives n d o k cs t.front f.0 deep t.entry a.0))
  | inr z ↦
      let a = both_so nots (is_front w not_word) z.1 in
      let r = front_rest w not_word a.1 in
      further n q r.0 (word_lives n d o (Waits Denied ∷ k) cs (q ++ r.0) deep
      (λ y b. denied_waits n d k cs not_word (q ++ r.0) (record { front = t.front; parts = ap (λ (v : List ℕ). v ++ r.0) t.parts ∙ append_assoc t.front w r.0 ∙ ap (λ (v : List ℕ). t.front ++ v) r.1; entry = t.entry }) (g a.0) not_same y b))
]

-- ---- keys

whole_tail : tail Whole ≡ []
whole_tail = refl

abbrev Steady : Place → Type 0
Steady place = (b : ℕ) → 128 ≤ b → key.step place b ≡ Some place

stay : (place : Place) → Steady place → (b : ℕ) (bs : List ℕ) → 128 ≤ b → run key.step (Some place) bs ≡ Some place → run key.step (Some place) (b ∷ bs) ≡ Some place
unfolding run
stay place g b bs h e = ap (λ (o : Option Place). run key.step o bs) (g b h) ∙ e

tail_stays : (place : Place) (u : Character) → Steady place → run key.step (Some place) (tail u) ≡ Some place
unfolding run
tail_stays place Whole g = refl
tail_stays place One g = stay place g 128 [] (omega arith) refl
tail_stays place Two g = stay place g 128 (128 ∷ []) (omega arith) (stay place g 128 [] (omega arith) refl)
tail_stays place Three g = stay place g 128 (128 ∷ 128 ∷ []) (omega arith) (stay place g 128 (128 ∷ []) (omega arith) (stay place g 128 [] (omega arith) refl))
tail_stays place BehindE0 g = stay place g 160 (128 ∷ []) (omega arith) (stay place g 128 [] (omega arith) refl)
tail_stays place BehindEd g = stay place g 128 (128 ∷ []) (omega arith) (stay place g 128 [] (omega arith) refl)
tail_stays place BehindF0 g = stay place g 144 (128 ∷ 128 ∷ []) (omega arith) (stay place g 128 (128 ∷ []) (omega arith) (stay place g 128 [] (omega arith) refl))
tail_stays place BehindF4 g = stay place g 128 (128 ∷ 128 ∷ []) (omega arith) (stay place g 128 (128 ∷ []) (omega arith) (stay place g 128 [] (omega arith) refl))

-- what completes a key is of ASCII
finish_runs : (place : Place) → run follow (Some Whole) (key.finish place) ≡ Some Whole
unfolding run
finish_runs Start = refl
finish_runs Name = refl
finish_runs (Param within.Before) = refl
finish_runs (Param within.Bare) = refl
finish_runs (Param within.Quoted) = refl
finish_runs (Param within.Escaped) = refl
finish_runs (Param within.Behind) = refl
finish_runs (Listed within.Before) = refl
finish_runs (Listed within.Bare) = refl
finish_runs (Listed within.Quoted) = refl
finish_runs (Listed within.Escaped) = refl
finish_runs (Listed within.Behind) = refl
finish_runs Closed = refl
finish_runs Ended = refl

key_characters : (t : List ℕ) (u : Character) (place : Place) → run follow (Some Whole) t ≡ Some u → IsUtf8 (t ++ (tail u ++ key.finish place))
key_characters t u place e = taken_text (t ++ (tail u ++ key.finish place)) (run_append follow (Some Whole) t (tail u ++ key.finish place) ∙ ap (λ (o : Option Character). run follow o (tail u ++ key.finish place)) e ∙ run_append follow (Some u) (tail u) (key.finish place) ∙ ap (λ (o : Option Character). run follow o (key.finish place)) (tail_runs u) ∙ finish_runs place)

steady_run : (place : Place) (u : Character) (t : List ℕ) → key.place_of t ≡ Some place → (u ≡ Whole) ⊎ ((b : ℕ) → 128 ≤ b → key.step place b ≡ Some place) → key.place_of (t ++ tail u) ≡ Some place
steady_run place u t e (inl w) = subst (λ (v : Character). key.place_of (t ++ tail v) ≡ Some place) (sym w) (subst (λ (v : List ℕ). key.place_of v ≡ Some place) (sym (ap (λ (v : List ℕ). t ++ v) whole_tail ∙ append-nil t)) e)
steady_run place u t e (inr g) = run_append key.step (Some Start) t (tail u) ∙ ap (λ (o : Option Place). run key.step o (tail u)) e ∙ tail_stays place u g

key_lives : (n d o : ℕ) (k : List Pending) (cs : List Call) (f : Fun) (h t q : List ℕ) (place : Place) (u : Character) → d + o ≡ 32 → n ≡ length q → InKey n d k cs f h t place u q → Lives n q
key_lives n d o k cs f h t q place u deep len w =
    let x : List ℕ = w.front ++ (name_of f ++ 40 ∷ 47 ∷ (h ++ 47 ∷ [])) in
    let z : List ℕ = tail u ++ key.finish place in
    let p = steady_run place u t w.place_is w.steady in
    let a : IsKeyText ((t ++ tail u) ++ key.finish place) = meanings.completes place (t ++ tail u) p in
    let b : IsKeyText (t ++ (tail u ++ key.finish place)) = subst IsKeyText (append_assoc t (tail u) (key.finish place)) a in
    let c = key_characters t u place w.characters_are in
    let l1 = length-append (w.front ++ (name_of f ++ 40 ∷ 47 ∷ (h ++ 47 ∷ []))) t in
    let l2 : length q ≡ length ((w.front ++ (name_of f ++ 40 ∷ 47 ∷ (h ++ 47 ∷ []))) ++ t) = ap (λ (v : List ℕ). length v) w.parts in
    let l3 = held_behind (beginning n) (w.front ++ (name_of f ++ 40 ∷ 47 ∷ (h ++ 47 ∷ []))) in
    let fits : length (take (at n (w.front ++ (name_of f ++ 40 ∷ 47 ∷ (h ++ 47 ∷ [])))).held (t ++ (tail u ++ key.finish place))) ≤ longest_key = subst (λ (v : List ℕ). length v ≤ longest_key) (sym (take_short (at n (w.front ++ (name_of f ++ 40 ∷ 47 ∷ (h ++ 47 ∷ [])))).held t (tail u ++ key.finish place) (omega arith))) w.fits in
    further n q (tail u ++ key.finish place)
    (moved n (q ++ (tail u ++ key.finish place)) (w.front ++ (name_of f ++ 40 ∷ 47 ∷ (h ++ 47 ∷ (t ++ (tail u ++ key.finish place)))))
    (ap (λ (v : List ℕ). v ++ (tail u ++ key.finish place)) w.parts ∙ append_assoc (w.front ++ (name_of f ++ 40 ∷ 47 ∷ (h ++ 47 ∷ []))) t (tail u ++ key.finish place) ∙ append_assoc w.front (name_of f ++ 40 ∷ 47 ∷ (h ++ 47 ∷ [])) (t ++ (tail u ++ key.finish place))
    ∙ ap (λ (v : List ℕ). w.front ++ v) (append_assoc (name_of f) (40 ∷ 47 ∷ (h ++ 47 ∷ [])) (t ++ (tail u ++ key.finish place)) ∙ ap (λ (v : List ℕ). name_of f ++ 40 ∷ 47 ∷ v) (append_assoc h (47 ∷ []) (t ++ (tail u ++ key.finish place)))))
    (item_lives n d o k cs w.front f h (t ++ (tail u ++ key.finish place)) deep w.entry w.room w.looks w.host b c fits))

-- ---- each state

mode_lives : (n d o : ℕ) (m : Mode) (k : List Pending) (cs : List Call) (q : List ℕ) → d + o ≡ 32 → n ≡ length q → Within' n m d k cs q → Lives n q
mode_lives n d o Begin k cs q deep len w = entry_lives n d o k cs q deep w
mode_lives n d o Operand k cs q deep len w = entry_lives n d o k cs q deep (waiting_entry n d k cs q w)
mode_lives n d o (Word nots t) k cs q deep len w = begun_lives n d o k cs nots t q deep w.0 w.1 w.2
mode_lives n d o (Number f) k cs q deep len w =
    let r = number_lives greatest_number f w.1 in
    let t = w.0 in
    further n q r.more (moved n (q ++ r.more) (t.front ++ (figures_text f ++ r.more)) (ap (λ (v : List ℕ). v ++ r.more) t.parts ∙ append_assoc t.front (figures_text f) r.more)
    (closing n d o k (constant (pos r.n)) (t.front ++ (figures_text f ++ r.more)) (cs ++ []) deep (token_holds n d k (constant (pos r.n)) t.front (figures_text f ++ r.more) cs [] t.entry.stack t.entry.clear (number r.n r.is))))
mode_lives n d o (Slash f) k cs q deep len w =
    let t = w.0 in
    further n q (47 ∷ []) (moved n (q ++ 47 ∷ []) (t.front ++ (name_of f ++ 40 ∷ 47 ∷ [])) (ap (λ (v : List ℕ). v ++ 47 ∷ []) t.parts ∙ append_assoc t.front (name_of f ++ 40 ∷ []) (47 ∷ []) ∙ ap (λ (v : List ℕ). t.front ++ v) (append_assoc (name_of f) (40 ∷ []) (47 ∷ [])))
    (host_token n d o k cs t.front f [] deep t.entry w.1 w.2 no_bytes (omega arith)))
mode_lives n d o (Host f h) k cs q deep len w = let t = w.0 in moved n q (t.front ++ (name_of f ++ 40 ∷ 47 ∷ h)) t.parts (host_token n d o k cs t.front f h deep t.entry w.1 w.2 w.3 w.4)
mode_lives n d o (Key f h t place u) k cs q deep len w = key_lives n d o k cs f h t q place u deep len w
mode_lives n d o (Argument fresh c a ss x) k cs q deep len w = argument_lives n d o k cs fresh c a ss x q deep w
mode_lives n d o (Close c) k cs q deep len w = in_call_lives n d o k cs c [] q deep w
mode_lives n d o (Done e) k cs q deep len w = behind_lives n d o k cs e q deep w
mode_lives n d o (Less e) k cs q deep len w = op_lives n d o k cs e Lt q w.0 deep refl w.1 w.2
mode_lives n d o (Greater e) k cs q deep len w = op_lives n d o k cs e Gt q w.0 deep refl w.1 w.2
mode_lives n d o (Joint op rest e) k cs q deep len w = joint_lives n d o k cs e op rest q deep w

pub lives : (n : ℕ) (q : List ℕ) (s : State) → n ≡ length q → Stands n q s → Lives n q
lives n q s len w = mode_lives n w.depth s.open_ones s.mode s.stack s.calls q w.deep len w.within
