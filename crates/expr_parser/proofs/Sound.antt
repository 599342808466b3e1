-- What the machine takes, the grammar says: each byte keeps what a state says of the text so far.
use Rattle.std.proofs.Common.{◌≡◌, ℕ, suc, zero, ◌+◌, ◌≤◌, List, [], ◌∷◌, ◌++◌, refl, ap, sym, ◌∙◌, Option, Some, None, Bool, true, false, arith, nat_le, ◌==◌, subst, inl, inr, if◌then◌else◌, pos, append_assoc, append-nil}
use Rattle.zbx_types.specs.Tree.{Tree, constant}
use Rattle.zbx_types.specs.declared.expr.Op.{Op}
use Rattle.zbx_types.specs.declared.expr.Op.TheVariants.{Or, And, Eq, Ne, Lt, Le, Gt, Ge, Add, Sub, Mul, Div}
use Rattle.zbx_types.specs.declared.calls.Call.{Call}
use Rattle.zbx_types.specs.declared.calls.Fun.{Fun}
use Rattle.expr_parser.specs.declared.figures.Figures.{Figures}
use Rattle.expr_parser.specs.declared.slots.Slot.{Slot}
use Rattle.expr_parser.specs.declared.pending.Half.TheVariants.{Denied, Negated}
use Rattle.expr_parser.specs.declared.pending.Pending.{Pending}
use Rattle.expr_parser.specs.declared.pending.Pending.TheVariants.{Open, Waits}
use Rattle.expr_parser.specs.declared.pending.Rest.{Rest}
use Rattle.expr_parser.specs.declared.pending.Rest.TheVariants.{Nd, D, R, Nothing}
use Rattle.expr_parser.specs.Bytes.{is_blank, is_gap, AreBlanks, beginning}
use Rattle.expr_parser.specs.Functions.{name_of}
use Rattle.zbx_types.specs.Operators.{is_dated}
use Rattle.expr_parser.specs.Calls.{Arguments, no_more, another, plain_call, IsCall, dated, greatest_number, is_same}
use Rattle.expr_parser.specs.Figures.{figure, first_figure, figures_text, figures_value, is_figure}
use Rattle.expr_parser.specs.Grammar.{op_text, op_level, is_word, number}
use Rattle.expr_parser.specs.Machine.{floor, reduced, Operand, Word, Number, Slash, Close, Done, Less, Greater, Joint, State, state, has_room, is_begun, not_word, is_not, function_in, first_functions, second_functions, either_function, function_of, word_byte, numbered, operand, blank_or, behind_word, with_op, shut, simple_op, joint, behind_other, behind, behind_less, behind_greater, joint_on, joint_byte, denied, calling, called as called_word, word, number_end, number as number_byte}
use Rattle.expr_parser.proofs.Lists.{snoc, last_snoc, way, either_way, eq_true, le_true, some_is, none_some, no_blanks, one_blank, more_blanks, blanks_append, blank_gap}
use Rattle.expr_parser.proofs.NumberPasts.{NumberPast, first_past, figure_past, number_ends}
use Rattle.expr_parser.proofs.PartPaths.{same_is}
use Rattle.expr_parser.proofs.Stacks.{at, gap_clear, Stack, Holds, holds_moved, Folded, fold, negated_stack, denied_stack, op_stack, close_holds, token_holds, floor_le}
use Rattle.expr_parser.proofs.Stands.{Entry, Token, Behind, Waiting, left_of, InJoint, Stands, stays, push}

-- ---- the first byte of an operand

token : (n d : ℕ) (k : List Pending) (cs : List Call) (q : List ℕ) (t : List ℕ) → Entry n d k cs q → Token n d k cs (q ++ t) t
token n d k cs q t e = record { front = q; parts = refl; entry = e }

-- a token with more of its text
abbrev pub token_on : (n d : ℕ) (k : List Pending) (cs : List Call) (q t r u : List ℕ) → t ++ r ≡ u → Token n d k cs q t → Token n d k cs (q ++ r) u
token_on n d k cs q t r u e h = record { front = h.front; parts = ap (λ (v : List ℕ). v ++ r) h.parts ∙ append_assoc h.front t r ∙ ap (λ (v : List ℕ). h.front ++ v) e; entry = h.entry }

number_sound : (n d o : ℕ) (k : List Pending) (cs : List Call) (q t : List ℕ) (b : ℕ) (g : Option Figures) (s : State) → d + o ≡ 32 → ((f : Figures) → g ≡ Some f → Token n d k cs (q ++ b ∷ []) (figures_text f) × NumberPast greatest_number f) → numbered g b o k cs ≡ Some s → Stands n (q ++ b ∷ []) s
number_sound n d o k cs q t b None s deep w h = none_some s h
number_sound n d o k cs q t b (Some f) s deep w h = stays n q d o b (Number f) k cs s deep (w f refl) h

word_sound : (n d o : ℕ) (k : List Pending) (cs : List Call) (nots : Bool) (w q : List ℕ) (b : ℕ) (s : State) → d + o ≡ 32 → (t : Token n d k cs q w) → (nots ≡ true → (floor k ≤ 6) × (is_gap (at n t.front).last ≡ true)) → word_byte nots w b o k cs ≡ Some s → Stands n (q ++ b ∷ []) s
word_sound n d o k cs nots w q b s deep t g h = elim (way (is_begun nots (has_room cs) (w ++ b ∷ [])) _ _ (Some s) h) [
  | inl z ↦ stays n q d o b (Word nots (w ++ b ∷ [])) k cs s deep (token_on n d k cs q w (b ∷ []) (w ++ b ∷ []) refl t, z.0, g) z.1
  | inr z ↦ none_some s z.1
]

both_true : (a b : Bool) → (if a then b else false) ≡ true → (a ≡ true) × (b ≡ true)
both_true true b h = (refl, h)
both_true false b h = absurd cc

pub operand_sound : (n d l o : ℕ) (k : List Pending) (cs : List Call) (q : List ℕ) (b : ℕ) (s : State) → d + o ≡ 32 → l ≡ (at n q).last → Entry n d k cs q → operand l o k cs b ≡ Some s → Stands n (q ++ b ∷ []) s
operand_sound n d l o k cs q b s deep last e h = elim (way (nat_le b 57) _ _ (Some s) h) [
  | inl z ↦ elim (way (nat_le 48 b) _ _ (Some s) z.1) [
    | inl y ↦ number_sound n d o k cs q [] b (first_figure greatest_number b) s deep (λ f g. let r = first_past greatest_number b f g in (subst (λ (v : List ℕ). Token n d k cs (q ++ b ∷ []) v) (sym r.text) (token n d k cs q (b ∷ []) e), r.past)) y.1
    | inr y ↦ elim (way (b == 40) _ _ (Some s) y.1) [
      | inl x ↦ rw (eq_true b 40 x.0) (push n q d o k cs s deep e.stack x.1)
      | inr x ↦ elim (way (b == 45) _ _ (Some s) x.1) [
        | inl w ↦ let f : b ≡ 45 = eq_true b 45 w.0 in rw f (elim (way (nat_le (floor k) 7) _ _ (Some s) w.1) [
          | inl v ↦ stays n q d o 45 Operand (Waits Negated ∷ k) cs s deep ((λ u a. negated_stack n d k q u cs e.stack e.clear (le_true (floor k) 7 v.0) a), (λ i. absurd cc)) (subst (λ (i : ℕ). Some (state Operand i o (Waits Negated ∷ k) cs) ≡ Some s) f v.1)
          | inr v ↦ none_some s v.1
        ])
        | inr w ↦ none_some s w.1
      ]
    ]
  ]
  | inr z ↦ word_sound n d o k cs (if is_gap l then nat_le (floor k) 6 else false) [] q b s deep (record { front = q; parts = sym (append-nil q); entry = e })
      (λ i. let w = both_true (is_gap l) (nat_le (floor k) 6) i in (le_true (floor k) 6 w.1, subst (λ (v : ℕ). is_gap v ≡ true) last w.0)) z.1
]

-- ---- words

pub waiting_entry : (n d : ℕ) (k : List Pending) (cs : List Call) (q : List ℕ) → Waiting n d k cs q → Entry n d k cs q
waiting_entry n d k cs q w = record { stack = subst (λ (v : List ℕ). Stack n k d v cs) (append-nil q) (w.0 [] no_blanks); clear = w.1 }

-- a blank more in front of an operand
waiting_on : (n d : ℕ) (k : List Pending) (cs : List Call) (q : List ℕ) (b : ℕ) → is_blank b ≡ true → ((y : List ℕ) → AreBlanks y → Stack n k d (q ++ b ∷ y) cs) → Waiting n d k cs (q ++ b ∷ [])
waiting_on n d k cs q b h w = (
  (λ y a. subst (λ (v : List ℕ). Stack n k d v cs) (snoc q b y) (w y a)),
  gap_clear k (at n (q ++ b ∷ [])).last (subst (λ (v : ℕ). is_gap v ≡ true) (sym (last_snoc (beginning n) q b)) (blank_gap b h)),
)

pub blank_or_sound : (n d l o : ℕ) (k : List Pending) (cs : List Call) (q : List ℕ) (b : ℕ) (s : State) → d + o ≡ 32 → l ≡ (at n q).last → Waiting n d k cs q → blank_or l o k cs b ≡ Some s → Stands n (q ++ b ∷ []) s
blank_or_sound n d l o k cs q b s deep last w h = elim (way (is_blank b) _ _ (Some s) h) [
  | inl z ↦ stays n q d o b Operand k cs s deep (waiting_on n d k cs q b z.0 (λ y a. w.0 (b ∷ y) (more_blanks b y z.0 a))) z.1
  | inr z ↦ operand_sound n d l o k cs q b s deep last (waiting_entry n d k cs q w) z.1
]

-- behind a word
behind_word_sound : (n d o : ℕ) (k : List Pending) (cs : List Call) (q : List ℕ) (b : ℕ) (s : State) → d + o ≡ 32 → ((y : List ℕ) → AreBlanks y → Stack n k d (q ++ y) cs) → behind_word o k cs b ≡ Some s → Stands n (q ++ b ∷ []) s
behind_word_sound n d o k cs q b s deep w h = elim (way (is_blank b) _ _ (Some s) h) [
  | inl z ↦ stays n q d o b Operand k cs s deep (waiting_on n d k cs q b z.0 (λ y a. w (b ∷ y) (more_blanks b y z.0 a))) z.1
  | inr z ↦ elim (way (b == 40) _ _ (Some s) z.1) [
    | inl y ↦ rw (eq_true b 40 y.0) (push n q d o k cs s deep (subst (λ (v : List ℕ). Stack n k d v cs) (append-nil q) (w [] no_blanks)) y.1)
    | inr y ↦ none_some s y.1
  ]
]

function_is : (fs : List Fun) (w : List ℕ) (f : Fun) → function_in fs w ≡ Some f → w ≡ name_of f
function_is [] w f h = none_some f h
function_is (g ∷ fs) w f h = elim (way (is_same w (name_of g)) (Some g) (function_in fs w) (Some f) h) [
  | inl z ↦ same_is w (name_of g) z.0 ∙ ap (λ (v : Fun). name_of v) (some_is g f z.1)
  | inr z ↦ function_is fs w f z.1
]

function_named : (w : List ℕ) (f : Fun) → function_of w ≡ Some f → w ≡ name_of f
function_named w f h = at_first (function_in first_functions w) refl h
  where
    at_first : (o : Option Fun) → function_in first_functions w ≡ o → either_function o (function_in second_functions w) ≡ Some f → w ≡ name_of f
    at_first (Some g) e h = function_is first_functions w f (e ∙ h)
    at_first None e h = function_is second_functions w f h

room_function : (c : Bool) (w : List ℕ) (f : Fun) → (if c then function_of w else None) ≡ Some f → (c ≡ true) × (function_of w ≡ Some f)
room_function true w f h = (refl, h)
room_function false w f h = none_some f h

-- `not` waits
pub denied_waits : (n d : ℕ) (k : List Pending) (cs : List Call) (w q : List ℕ) (t : Token n d k cs q w) → (floor k ≤ 6) × (is_gap (at n t.front).last ≡ true) → is_not w ≡ true → (y : List ℕ) → AreBlanks y → Stack n (Waits Denied ∷ k) d (q ++ y) cs
denied_waits n d k cs w q t g e y a =
    let i : q ++ y ≡ t.front ++ (110 ∷ 111 ∷ 116 ∷ y) = ap (λ (v : List ℕ). v ++ y) (t.parts ∙ ap (λ (v : List ℕ). t.front ++ v) (same_is w not_word e)) ∙ append_assoc t.front not_word y in
    subst (λ (v : List ℕ). Stack n (Waits Denied ∷ k) d v cs) (sym i) (denied_stack n d k t.front y cs t.entry.stack t.entry.clear g.0 g.1 a)

denied_sound : (n d o : ℕ) (k : List Pending) (cs : List Call) (nots : Bool) (w q : List ℕ) (s : State) → d + o ≡ 32 → (t : Token n d k cs q w) → (nots ≡ true → (floor k ≤ 6) × (is_gap (at n t.front).last ≡ true)) → denied w nots o k cs ≡ Some s → Stands n (q ++ 40 ∷ []) s
denied_sound n d o k cs nots w q s deep t g h = elim (way nots _ _ (Some s) h) [
  | inl z ↦ elim (way (is_not w) _ _ (Some s) z.1) [
    | inl y ↦ push n q d o (Waits Denied ∷ k) cs s deep (subst (λ (v : List ℕ). Stack n (Waits Denied ∷ k) d v cs) (append-nil q) (denied_waits n d k cs w q t (g z.0) y.0 [] no_blanks)) y.1
    | inr y ↦ none_some s y.1
  ]
  | inr z ↦ none_some s z.1
]

dated_state : (f : Fun) (o : ℕ) (k : List Pending) (cs : List Call) (s : State) → is_dated f ≡ true → Some (calling f o k cs) ≡ Some s → Some (state (Close (plain_call f [] [])) 40 o k cs) ≡ Some s
dated_state f o k cs s e h = rw e at h

item_state : (f : Fun) (o : ℕ) (k : List Pending) (cs : List Call) (s : State) → is_dated f ≡ false → Some (calling f o k cs) ≡ Some s → Some (state (Slash f) 40 o k cs) ≡ Some s
item_state f o k cs s e h = rw e at h

-- a function of date or time has no arguments
nothing_more : {ss : List Slot} {c e : Call} {r : List ℕ} → Arguments ss c r e → ss ≡ [] → (r ≡ []) × (c ≡ e)
nothing_more (no_more a) h = (refl, refl)
nothing_more (another x t r a i w e) h = absurd cc

closes_so : (n : ℕ) (f : Fun) (p x : List ℕ) (e : Call) → is_dated f ≡ true → Arguments [] (plain_call f [] []) x e → IsCall (at n p) ((name_of f ++ 40 ∷ []) ++ (x ++ 41 ∷ [])) e
closes_so n f p x e z a =
    let m = nothing_more a refl in
    subst (λ (v : Call). IsCall (at n p) ((name_of f ++ 40 ∷ []) ++ (x ++ 41 ∷ [])) v) m.1 (dated f z (ap (λ (v : List ℕ). (name_of f ++ 40 ∷ []) ++ (v ++ 41 ∷ [])) m.0 ∙ append_assoc (name_of f) (40 ∷ []) (41 ∷ [])))

-- the name of a function and its parenthesis
calling_sound : (n d o : ℕ) (k : List Pending) (cs : List Call) (f : Fun) (q : List ℕ) (s : State) → d + o ≡ 32 → Token n d k cs q (name_of f) → has_room cs ≡ true → Some (calling f o k cs) ≡ Some s → Stands n (q ++ 40 ∷ []) s
calling_sound n d o k cs f q s deep t r h = elim (either_way (is_dated f)) [
  | inl z ↦ stays n q d o 40 (Close (plain_call f [] [])) k cs s deep (record {
    front = t.front;
    text = name_of f ++ 40 ∷ [];
    parts = ap (λ (v : List ℕ). v ++ 40 ∷ []) t.parts ∙ append_assoc t.front (name_of f) (40 ∷ []);
    entry = t.entry;
    room = r;
    goes_on = λ x e a. closes_so n f t.front x e z a;
  }) (dated_state f o k cs s z h)
  | inr z ↦ stays n q d o 40 (Slash f) k cs s deep (token_on n d k cs q (name_of f) (40 ∷ []) (name_of f ++ 40 ∷ []) refl t, r, z) (item_state f o k cs s z h)
]

called_sound : (n d o : ℕ) (k : List Pending) (cs : List Call) (nots : Bool) (w q : List ℕ) (g : Option Fun) (s : State) → d + o ≡ 32 → (t : Token n d k cs q w) → (nots ≡ true → (floor k ≤ 6) × (is_gap (at n t.front).last ≡ true)) → (if has_room cs then function_of w else None) ≡ g → called_word g nots w o k cs ≡ Some s
    → Stands n (q ++ 40 ∷ []) s
called_sound n d o k cs nots w q (Some f) s deep t e i h =
    let r = room_function (has_room cs) w f i in
    let u : Token n d k cs q (name_of f) = subst (λ (v : List ℕ). Token n d k cs q v) (function_named w f r.1) t in
    calling_sound n d o k cs f q s deep u r.0 h
called_sound n d o k cs nots w q None s deep t e i h = denied_sound n d o k cs nots w q s deep t e h

pub words_sound : (n d o : ℕ) (k : List Pending) (cs : List Call) (nots : Bool) (w q : List ℕ) (b : ℕ) (s : State) → d + o ≡ 32 → (t : Token n d k cs q w) → (nots ≡ true → (floor k ≤ 6) × (is_gap (at n t.front).last ≡ true)) → word nots w o k cs b ≡ Some s → Stands n (q ++ b ∷ []) s
words_sound n d o k cs nots w q b s deep t g h = elim (way (b == 40) _ _ (Some s) h) [
  | inl z ↦ rw (eq_true b 40 z.0) (called_sound n d o k cs nots w q (if has_room cs then function_of w else None) s deep t g refl z.1)
  | inr z ↦ elim (way (is_blank b) _ _ (Some s) z.1) [
    | inr y ↦ word_sound n d o k cs nots w q b s deep t g y.1
    | inl y ↦ elim (way nots _ _ (Some s) y.1) [
      | inr x ↦ none_some s x.1
      | inl x ↦ elim (way (is_not w) _ _ (Some s) x.1) [
        | inr v ↦ none_some s v.1
        | inl v ↦ stays n q d o b Operand (Waits Denied ∷ k) cs s deep (waiting_on n d (Waits Denied ∷ k) cs q b y.0 (λ u a. denied_waits n d k cs w q t (g x.0) v.0 (b ∷ u) (more_blanks b u y.0 a))) v.1
      ]
    ]
  ]
]

-- ---- behind an operand

-- an operator behind an operand and blanks
pub op_waits : (n d : ℕ) (k : List Pending) (cs : List Call) (e : Tree) (op : Op) (q : List ℕ) → Behind n d k cs e q → (is_word op ≡ true → is_gap (at n q).last ≡ true) → (y : List ℕ) → AreBlanks y → Stack n (with_op op e k) d (q ++ (op_text op ++ y)) cs
op_waits n d k cs e op q b g y a =
    let i : q ++ (op_text op ++ y) ≡ b.w ++ (b.y ++ (op_text op ++ y)) = ap (λ (v : List ℕ). v ++ (op_text op ++ y)) b.parts ∙ append_assoc b.w b.y (op_text op ++ y) in
    subst (λ (v : List ℕ). Stack n (with_op op e k) d v cs) (sym i)
    (op_stack n d op k e 8 b.w b.y y cs (floor_le k) (level_le op) b.holds b.blanks a (λ w. subst (λ (v : List ℕ). is_gap (at n v).last ≡ true) b.parts (g w)))
  where
    level_le : (op : Op) → op_level op ≤ 8
    level_le Or = omega arith
    level_le And = omega arith
    level_le Eq = omega arith
    level_le Ne = omega arith
    level_le Lt = omega arith
    level_le Le = omega arith
    level_le Gt = omega arith
    level_le Ge = omega arith
    level_le Add = omega arith
    level_le Sub = omega arith
    level_le Mul = omega arith
    level_le Div = omega arith

-- an operator that is no word
plain_waiting : (n d : ℕ) (k : List Pending) (cs : List Call) (e : Tree) (op : Op) (q r : List ℕ) → is_word op ≡ false → Behind n d k cs e q → r ≡ q ++ op_text op → Waiting n d (with_op op e k) cs r
plain_waiting n d k cs e op q r i b m = (
  (λ y a. subst (λ (v : List ℕ). Stack n (with_op op e k) d v cs) (sym (ap (λ (v : List ℕ). v ++ y) m ∙ append_assoc q (op_text op) y)) (op_waits n d k cs e op q b (λ w. absurd cc) y a)),
  (λ w. absurd cc),
)

simple_is : (b : ℕ) (op : Op) → simple_op b ≡ Some op → (op_text op ≡ b ∷ []) × (is_word op ≡ false)
simple_is b op h = elim (way (b == 43) _ _ (Some op) h) [
  | inl z ↦ found Add op (ap (λ (c : ℕ). c ∷ []) (sym (eq_true b 43 z.0)), refl) z.1
  | inr z ↦ elim (way (b == 45) _ _ (Some op) z.1) [
    | inl y ↦ found Sub op (ap (λ (c : ℕ). c ∷ []) (sym (eq_true b 45 y.0)), refl) y.1
    | inr y ↦ elim (way (b == 42) _ _ (Some op) y.1) [
      | inl x ↦ found Mul op (ap (λ (c : ℕ). c ∷ []) (sym (eq_true b 42 x.0)), refl) x.1
      | inr x ↦ elim (way (b == 47) _ _ (Some op) x.1) [
        | inl w ↦ found Div op (ap (λ (c : ℕ). c ∷ []) (sym (eq_true b 47 w.0)), refl) w.1
        | inr w ↦ elim (way (b == 61) _ _ (Some op) w.1) [
          | inl v ↦ found Eq op (ap (λ (c : ℕ). c ∷ []) (sym (eq_true b 61 v.0)), refl) v.1
          | inr v ↦ none_some op v.1
        ]
      ]
    ]
  ]
]
  where
    found : (a op : Op) → (op_text a ≡ b ∷ []) × (is_word a ≡ false) → Some a ≡ Some op → (op_text op ≡ b ∷ []) × (is_word op ≡ false)
    found a op g e = subst (λ (v : Op). (op_text v ≡ b ∷ []) × (is_word v ≡ false)) (some_is a op e) g

joint_sound : (n d l o : ℕ) (k : List Pending) (cs : List Call) (e : Tree) (op : Op) (rest : Rest) (q : List ℕ) (b : ℕ) (s : State) → d + o ≡ 32 → l ≡ (at n q).last → Behind n d k cs e q → b ∷ left_of rest ≡ op_text op → is_word op ≡ true → joint l op rest e b o k cs ≡ Some s → Stands n (q ++ b ∷ []) s
joint_sound n d l o k cs e op rest q b s deep last w t i h = elim (way (is_gap l) _ _ (Some s) h) [
  | inl z ↦ stays n q d o b (Joint op rest e) k cs s deep (record { operand = q; x = b ∷ []; parts = refl; letters = t; word = i; gap = subst (λ (v : ℕ). is_gap v ≡ true) last z.0; is = w }) z.1
  | inr z ↦ none_some s z.1
]

other_sound : (n d l o : ℕ) (k : List Pending) (cs : List Call) (e : Tree) (q : List ℕ) (b : ℕ) (g : Option Op) (s : State) → d + o ≡ 32 → l ≡ (at n q).last → Behind n d k cs e q → simple_op b ≡ g → behind_other e l o k cs b g ≡ Some s → Stands n (q ++ b ∷ []) s
other_sound n d l o k cs e q b (Some op) s deep last w g h = let i = simple_is b op g in stays n q d o b Operand (with_op op e k) cs s deep (plain_waiting n d k cs e op q (q ++ b ∷ []) i.1 w (ap (λ (v : List ℕ). q ++ v) (sym i.0))) h
other_sound n d l o k cs e q b None s deep last w g h = elim (way (b == 60) _ _ (Some s) h) [
  | inl z ↦ stays n q d o b (Less e) k cs s deep (q, ap (λ (c : ℕ). q ++ c ∷ []) (eq_true b 60 z.0), w) z.1
  | inr z ↦ elim (way (b == 62) _ _ (Some s) z.1) [
    | inl y ↦ stays n q d o b (Greater e) k cs s deep (q, ap (λ (c : ℕ). q ++ c ∷ []) (eq_true b 62 y.0), w) y.1
    | inr y ↦ elim (way (b == 111) _ _ (Some s) y.1) [
      | inl x ↦ joint_sound n d l o k cs e Or R q b s deep last w (ap (λ (c : ℕ). c ∷ 114 ∷ []) (eq_true b 111 x.0)) refl x.1
      | inr x ↦ elim (way (b == 97) _ _ (Some s) x.1) [
        | inl v ↦ joint_sound n d l o k cs e And Nd q b s deep last w (ap (λ (c : ℕ). c ∷ 110 ∷ 100 ∷ []) (eq_true b 97 v.0)) refl v.1
        | inr v ↦ none_some s v.1
      ]
    ]
  ]
]

-- `)` behind an operand and blanks
shut_sound : (n d o : ℕ) (r : List Pending × Tree) (cs : List Call) (w y q : List ℕ) (s : State) → d + o ≡ 32 → q ≡ w ++ y → AreBlanks y → Folded n d 0 r w cs → shut o r cs ≡ Some s → Stands n (q ++ 41 ∷ []) s
shut_sound n d o ([], e) cs w y q s deep p a f h = none_some s h
shut_sound n d o (Waits x ∷ k, e) cs w y q s deep p a f h = none_some s h
shut_sound n d zero (Open ∷ k, e) cs w y q s deep p a f h = none_some s h
shut_sound n d (suc o) (Open ∷ k, e) cs w y q s deep p a f h =
    let i : q ++ 41 ∷ [] ≡ w ++ (y ++ 41 ∷ []) = ap (λ (v : List ℕ). v ++ 41 ∷ []) p ∙ append_assoc w y (41 ∷ []) in
    stays n q (suc d) o 41 (Done e) k cs s (omega arith) (record { w = q ++ 41 ∷ []; y = []; parts = sym (append-nil (q ++ 41 ∷ [])); blanks = no_blanks; holds = holds_moved n (suc d) k e 8 (w ++ (y ++ 41 ∷ [])) (q ++ 41 ∷ []) cs (sym i) (close_holds n d k e w y cs f.holds a) }) h

pub behind_sound : (n d l o : ℕ) (k : List Pending) (cs : List Call) (e : Tree) (q : List ℕ) (b : ℕ) (s : State) → d + o ≡ 32 → l ≡ (at n q).last → Behind n d k cs e q → behind e l o k cs b ≡ Some s → Stands n (q ++ b ∷ []) s
behind_sound n d l o k cs e q b s deep last w h = elim (way (is_blank b) _ _ (Some s) h) [
  | inl z ↦ stays n q d o b (Done e) k cs s deep (record { w = w.w; y = w.y ++ b ∷ []; parts = ap (λ (v : List ℕ). v ++ b ∷ []) w.parts ∙ append_assoc w.w w.y (b ∷ []); blanks = blanks_append w.y (b ∷ []) w.blanks (one_blank b z.0); holds = w.holds }) z.1
  | inr z ↦ elim (way (b == 41) _ _ (Some s) z.1) [
    | inl y ↦ rw (eq_true b 41 y.0) (shut_sound n d o (reduced 0 k e) cs w.w w.y q s deep w.parts w.blanks (fold n d 0 k e 8 w.w cs (floor_le k) (omega arith) w.holds) y.1)
    | inr y ↦ other_sound n d l o k cs e q b (simple_op b) s deep last w refl y.1
  ]
]

two_bytes : (q w : List ℕ) (a b : ℕ) → q ≡ w ++ a ∷ [] → q ++ b ∷ [] ≡ w ++ a ∷ b ∷ []
two_bytes q w a b e = ap (λ (v : List ℕ). v ++ b ∷ []) e ∙ append_assoc w (a ∷ []) (b ∷ [])

pub less_sound : (n d l o : ℕ) (k : List Pending) (cs : List Call) (e : Tree) (q w : List ℕ) (b : ℕ) (s : State) → d + o ≡ 32 → l ≡ (at n q).last → q ≡ w ++ 60 ∷ [] → Behind n d k cs e w → behind_less e l o k cs b ≡ Some s → Stands n (q ++ b ∷ []) s
less_sound n d l o k cs e q w b s deep last i v h = elim (way (b == 61) _ _ (Some s) h) [
  | inl z ↦ stays n q d o b Operand (with_op Le e k) cs s deep (plain_waiting n d k cs e Le w (q ++ b ∷ []) refl v (two_bytes q w 60 b i ∙ ap (λ (c : ℕ). w ++ 60 ∷ c ∷ []) (eq_true b 61 z.0))) z.1
  | inr z ↦ elim (way (b == 62) _ _ (Some s) z.1) [
    | inl y ↦ stays n q d o b Operand (with_op Ne e k) cs s deep (plain_waiting n d k cs e Ne w (q ++ b ∷ []) refl v (two_bytes q w 60 b i ∙ ap (λ (c : ℕ). w ++ 60 ∷ c ∷ []) (eq_true b 62 y.0))) y.1
    | inr y ↦ blank_or_sound n d l o (with_op Lt e k) cs q b s deep last (plain_waiting n d k cs e Lt w q refl v i) y.1
  ]
]

pub greater_sound : (n d l o : ℕ) (k : List Pending) (cs : List Call) (e : Tree) (q w : List ℕ) (b : ℕ) (s : State) → d + o ≡ 32 → l ≡ (at n q).last → q ≡ w ++ 62 ∷ [] → Behind n d k cs e w → behind_greater e l o k cs b ≡ Some s → Stands n (q ++ b ∷ []) s
greater_sound n d l o k cs e q w b s deep last i v h = elim (way (b == 61) _ _ (Some s) h) [
  | inl z ↦ stays n q d o b Operand (with_op Ge e k) cs s deep (plain_waiting n d k cs e Ge w (q ++ b ∷ []) refl v (two_bytes q w 62 b i ∙ ap (λ (c : ℕ). w ++ 62 ∷ c ∷ []) (eq_true b 61 z.0))) z.1
  | inr z ↦ blank_or_sound n d l o (with_op Gt e k) cs q b s deep last (plain_waiting n d k cs e Gt w q refl v i) z.1
]

joint_on_sound : (n d o want : ℕ) (rest next : Rest) (k : List Pending) (cs : List Call) (e : Tree) (op : Op) (q : List ℕ) (b : ℕ) (s : State) → d + o ≡ 32 → left_of rest ≡ want ∷ left_of next → InJoint n d k cs e op rest q → joint_on want next op e o k cs b ≡ Some s → Stands n (q ++ b ∷ []) s
joint_on_sound n d o want rest next k cs e op q b s deep i w h = elim (way (b == want) _ _ (Some s) h) [
  | inr z ↦ none_some s z.1
  | inl z ↦ stays n q d o b (Joint op next e) k cs s deep (record {
    operand = w.operand;
    x = w.x ++ b ∷ [];
    parts = ap (λ (v : List ℕ). v ++ b ∷ []) w.parts ∙ append_assoc w.operand w.x (b ∷ []);
    letters = ap (λ (c : ℕ). (w.x ++ c ∷ []) ++ left_of next) (eq_true b want z.0) ∙ sym (snoc w.x want (left_of next)) ∙ ap (λ (v : List ℕ). w.x ++ v) (sym i) ∙ w.letters;
    word = w.word;
    gap = w.gap;
    is = w.is;
  }) z.1
]

pub joints_sound : (n d o : ℕ) (k : List Pending) (cs : List Call) (e : Tree) (op : Op) (rest : Rest) (q : List ℕ) (b : ℕ) (s : State) → d + o ≡ 32 → InJoint n d k cs e op rest q → joint_byte op rest e o k cs b ≡ Some s → Stands n (q ++ b ∷ []) s
joints_sound n d o k cs e op Nd q b s deep w h = joint_on_sound n d o 110 Nd D k cs e op q b s deep refl w h
joints_sound n d o k cs e op D q b s deep w h = joint_on_sound n d o 100 D Nothing k cs e op q b s deep refl w h
joints_sound n d o k cs e op R q b s deep w h = joint_on_sound n d o 114 R Nothing k cs e op q b s deep refl w h
joints_sound n d o k cs e op Nothing q b s deep w h =
    let i : q ≡ w.operand ++ op_text op = w.parts ∙ ap (λ (v : List ℕ). w.operand ++ v) (sym (append-nil w.x) ∙ w.letters) in
    behind_word_sound n d o (with_op op e k) cs q b s deep (λ y a. subst (λ (v : List ℕ). Stack n (with_op op e k) d v cs) (sym (ap (λ (v : List ℕ). v ++ y) i ∙ append_assoc w.operand (op_text op) y)) (op_waits n d k cs e op w.operand w.is (λ x. w.gap) y a)) h

-- ---- numbers

pub number_behind : (n d : ℕ) (k : List Pending) (cs : List Call) (f : Figures) (m : ℕ) (q : List ℕ) → Token n d k cs q (figures_text f) → NumberPast greatest_number f → figures_value f ≡ Some m → Behind n d k cs (constant (pos m)) q
number_behind n d k cs f m q t p e = record {
  w = q;
  y = [];
  parts = sym (append-nil q);
  blanks = no_blanks;
  holds = subst (λ (v : List Call). Holds n d k (constant (pos m)) 8 q v) (append-nil cs) (holds_moved n d k (constant (pos m)) 8 (t.front ++ figures_text f) q (cs ++ []) (sym t.parts) (token_holds n d k (constant (pos m)) t.front (figures_text f) cs [] t.entry.stack t.entry.clear (number m (number_ends greatest_number f m p e))));
}

number_end_sound : (n d l o : ℕ) (k : List Pending) (cs : List Call) (f : Figures) (q : List ℕ) (b : ℕ) (g : Option ℕ) (s : State) → d + o ≡ 32 → l ≡ (at n q).last → Token n d k cs q (figures_text f) → NumberPast greatest_number f → figures_value f ≡ g → number_end g l o k cs b ≡ Some s → Stands n (q ++ b ∷ []) s
number_end_sound n d l o k cs f q b None s deep last t p e h = none_some s h
number_end_sound n d l o k cs f q b (Some m) s deep last t p e h = elim (way (nat_le m greatest_number) _ _ (Some s) h) [
  | inl z ↦ behind_sound n d l o k cs (constant (pos m)) q b s deep last (number_behind n d k cs f m q t p e) z.1
  | inr z ↦ none_some s z.1
]

pub numbers_sound : (n d l o : ℕ) (k : List Pending) (cs : List Call) (f : Figures) (q : List ℕ) (b : ℕ) (s : State) → d + o ≡ 32 → l ≡ (at n q).last → Token n d k cs q (figures_text f) → NumberPast greatest_number f → number_byte f l o k cs b ≡ Some s → Stands n (q ++ b ∷ []) s
numbers_sound n d l o k cs f q b s deep last t p h = elim (way (is_figure b) _ _ (Some s) h) [
  | inl z ↦ number_sound n d o k cs q [] b (figure greatest_number f b) s deep (λ g e. let r = figure_past greatest_number f g b p e in (token_on n d k cs q (figures_text f) (b ∷ []) (figures_text g) (sym r.text) t, r.past)) z.1
  | inr z ↦ number_end_sound n d l o k cs f q b (figures_value f) s deep last t p refl z.1
]
