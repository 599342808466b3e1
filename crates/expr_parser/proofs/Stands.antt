-- Where the machine stands, in the words of the grammar.
use Rattle.std.proofs.Common.{◌≡◌, ℕ, suc, zero, ◌+◌, ◌≤◌, ◌<◌, List, [], ◌∷◌, ◌++◌, length, take, refl, sym, Some, None, Bool, true, false, arith, nat_lt, subst, inl, inr, ◌⊎◌}
use Rattle.zbx_types.specs.Tree.{Tree}
use Rattle.zbx_types.specs.declared.expr.Op.{Op}
use Rattle.zbx_types.specs.declared.calls.Call.{Call}
use Rattle.zbx_types.specs.declared.calls.Fun.{Fun}
use Rattle.item_key.specs.declared.places.Place.{Place}
use Rattle.item_key.specs.Machine as key
use Rattle.byte_grammar.specs.declared.characters.Character.{Character}
use Rattle.byte_grammar.specs.declared.characters.Character.TheVariants.{Whole}
use Rattle.zbx_types.specs.Limits.{longest_key, longest_name}
use Rattle.expr_parser.specs.declared.slots.Slot.{Slot}
use Rattle.expr_parser.specs.declared.parts.Part.{Part}
use Rattle.expr_parser.specs.declared.parts.Part.TheVariants.{Before}
use Rattle.expr_parser.specs.declared.pending.Pending.{Pending}
use Rattle.expr_parser.specs.declared.pending.Pending.TheVariants.{Open}
use Rattle.expr_parser.specs.declared.pending.Rest.{Rest}
use Rattle.expr_parser.specs.declared.pending.Rest.TheVariants.{Nd, D, R, Nothing}
use Rattle.expr_parser.specs.Bytes.{is_gap, AreBlanks, beginning}
use Rattle.expr_parser.specs.Functions.{name_of}
use Rattle.zbx_types.specs.Operators.{is_dated}
use Rattle.expr_parser.specs.Calls.{AreHostBytes, IsHost, Arguments, IsCall, greatest_number}
use Rattle.byte_grammar.specs.Utf8.{follow}
use Rattle.byte_grammar.specs.Runs.{run}
use Rattle.expr_parser.specs.Figures.{figures_text}
use Rattle.expr_parser.specs.Grammar.{op_text, is_word}
use Rattle.expr_parser.specs.Machine.{floor, Mode, Begin, Operand, Word, Number, Slash, Host, Key, Argument, Close, Done, Less, Greater, Joint, State, state, opened, has_room, is_begun}
use Rattle.expr_parser.proofs.Lists.{last_snoc, way, lt_true, some_is, none_some}
use Rattle.expr_parser.proofs.NumberPasts.{NumberPast}
use Rattle.expr_parser.proofs.PartPasts.{Past}
use Rattle.expr_parser.proofs.Stacks.{at, Clear, Stack, Holds, open_stack}

-- an operand may begin behind this front
pub record Entry (n d : ℕ) (k : List Pending) (cs : List Call) (p : List ℕ) : Type 0 where
  pub stack : Stack n k d p cs
  pub clear : Clear k (at n p).last

-- a token of this text so far stands behind a front where an operand may begin
pub record Token (n d : ℕ) (k : List Pending) (cs : List Call) (q : List ℕ) (t : List ℕ) : Type 0 where
  pub front : List ℕ
  pub parts : q ≡ front ++ t
  pub entry : Entry n d k cs front

-- an operand and blanks
pub record Behind (n d : ℕ) (k : List Pending) (cs : List Call) (e : Tree) (q : List ℕ) : Type 0 where
  pub w : List ℕ
  pub y : List ℕ
  pub parts : q ≡ w ++ y
  pub blanks : AreBlanks y
  pub holds : Holds n d k e 8 w cs

-- any blanks may follow
abbrev pub Waiting : ℕ → ℕ → List Pending → List Call → List ℕ → Type 0
Waiting n d k cs q = ((y : List ℕ) → AreBlanks y → Stack n k d (q ++ y) cs) × Clear k (at n q).last

-- what of a word's letters is still to come
abbrev pub left_of : Rest → List ℕ
left_of Nd = 110 ∷ 100 ∷ []
left_of D = 100 ∷ []
left_of R = 114 ∷ []
left_of Nothing = []

-- an operand and the first letters of a word
pub record InJoint (n d : ℕ) (k : List Pending) (cs : List Call) (e : Tree) (op : Op) (rest : Rest) (q : List ℕ) : Type 0 where
  pub operand : List ℕ
  pub x : List ℕ
  pub parts : q ≡ operand ++ x
  pub letters : x ++ left_of rest ≡ op_text op
  pub word : is_word op ≡ true
  pub gap : is_gap (at n operand).last ≡ true
  pub is : Behind n d k cs e operand

-- a key behind a host
pub record InKey (n d : ℕ) (k : List Pending) (cs : List Call) (f : Fun) (h t : List ℕ) (place : Place) (u : Character) (q : List ℕ) : Type 0 where
  pub front : List ℕ
  pub parts : q ≡ (front ++ (name_of f ++ 40 ∷ 47 ∷ (h ++ 47 ∷ []))) ++ t
  pub entry : Entry n d k cs front
  pub room : has_room cs ≡ true
  pub looks : is_dated f ≡ false
  pub host : IsHost h
  pub place_is : key.place_of t ≡ Some place
  pub characters_are : run follow (Some Whole) t ≡ Some u
  pub fits : length (take (at n (front ++ (name_of f ++ 40 ∷ 47 ∷ (h ++ 47 ∷ [])))).held t) ≤ longest_key
  pub steady : (u ≡ Whole) ⊎ ((b : ℕ) → 128 ≤ b → key.step place b ≡ Some place)

-- a call up to its arguments or among them: what they may still be
pub record InCall (n d : ℕ) (k : List Pending) (cs : List Call) (c : Call) (ss : List Slot) (q : List ℕ) : Type 0 where
  pub front : List ℕ
  pub text : List ℕ
  pub parts : q ≡ front ++ text
  pub entry : Entry n d k cs front
  pub room : has_room cs ≡ true
  pub goes_on : (r : List ℕ) (e : Call) → Arguments ss c r e → IsCall (at n front) (text ++ (r ++ 41 ∷ [])) e

-- an argument, perhaps still before it
pub record InArgument (n d : ℕ) (k : List Pending) (cs : List Call) (fresh : Bool) (c : Call) (s : Slot) (ss : List Slot) (x : Part) (q : List ℕ) : Type 0 where
  pub before : List ℕ
  pub blanks : List ℕ
  pub own : List ℕ
  pub parts : q ≡ before ++ 44 ∷ (blanks ++ own)
  pub are_blanks : AreBlanks blanks
  pub past : Past s x own
  pub not_begun : fresh ≡ true → x ≡ Before
  pub in_call : InCall n d k cs c (s ∷ ss) before

-- the text so far, by the mode
abbrev pub Within' : ℕ → Mode → ℕ → List Pending → List Call → List ℕ → Type 0
Within' n Begin d k cs q = Entry n d k cs q
Within' n Operand d k cs q = Waiting n d k cs q
Within' n (Word nots w) d k cs q = (t : Token n d k cs q w) × (is_begun nots (has_room cs) w ≡ true) × (nots ≡ true → (floor k ≤ 6) × (is_gap (at n t.front).last ≡ true))
Within' n (Number f) d k cs q = Token n d k cs q (figures_text f) × NumberPast greatest_number f
Within' n (Slash f) d k cs q = Token n d k cs q (name_of f ++ 40 ∷ []) × (has_room cs ≡ true) × (is_dated f ≡ false)
Within' n (Host f h) d k cs q = Token n d k cs q (name_of f ++ 40 ∷ 47 ∷ h) × (has_room cs ≡ true) × (is_dated f ≡ false) × AreHostBytes h × (length h ≤ longest_name)
Within' n (Key f h t place u) d k cs q = InKey n d k cs f h t place u q
Within' n (Argument fresh c s ss x) d k cs q = InArgument n d k cs fresh c s ss x q
Within' n (Close c) d k cs q = InCall n d k cs c [] q
Within' n (Done e) d k cs q = Behind n d k cs e q
Within' n (Less e) d k cs q = (w : List ℕ) × (q ≡ w ++ 60 ∷ []) × Behind n d k cs e w
Within' n (Greater e) d k cs q = (w : List ℕ) × (q ≡ w ++ 62 ∷ []) × Behind n d k cs e w
Within' n (Joint op rest e) d k cs q = InJoint n d k cs e op rest q

pub record Stands (n : ℕ) (q : List ℕ) (s : State) : Type 0 where
  pub depth : ℕ
  pub deep : depth + s.open_ones ≡ 32
  pub last : s.last ≡ (at n q).last
  pub within : Within' n s.mode depth s.stack s.calls q

-- a byte more, with the same parentheses
pub stays : (n : ℕ) (q : List ℕ) (d o b : ℕ) (m : Mode) (k : List Pending) (cs : List Call) (s : State) → d + o ≡ 32 → Within' n m d k cs (q ++ b ∷ []) → Some (state m b o k cs) ≡ Some s → Stands n (q ++ b ∷ []) s
stays n q d o b m k cs s e w h = subst (λ (t : State). Stands n (q ++ b ∷ []) t) (some_is (state m b o k cs) s h) (record { depth = d; deep = e; last = sym (last_snoc (beginning n) q b); within = w })

some_depth : (d o : ℕ) → d + o ≡ 32 → o < 32 → (c : ℕ) × (d ≡ suc c)
some_depth zero o e h = absurd (omega arith)
some_depth (suc c) o e h = (c, refl)

-- `(` where an operand may begin
pub push : (n : ℕ) (q : List ℕ) (d o : ℕ) (k : List Pending) (cs : List Call) (s : State) → d + o ≡ 32 → Stack n k d q cs → opened o k cs ≡ Some s → Stands n (q ++ 40 ∷ []) s
push n q d o k cs s e w h = elim (way (nat_lt o 32) (Some (state Operand 40 (suc o) (Open ∷ k) cs)) None (Some s) h) [
  | inr z ↦ none_some s z.1
  | inl z ↦ let c = some_depth d o e (lt_true o 32 z.0) in
      let w' : Stack n k (suc c.0) q cs = subst (λ (v : ℕ). Stack n k v q cs) c.1 w in
      let f : suc c.0 + o ≡ 32 = subst (λ (v : ℕ). v + o ≡ 32) c.1 e in
      stays n q c.0 (suc o) 40 Operand (Open ∷ k) cs s (omega arith) ((λ y a. open_stack n c.0 k q y cs w' a), tt) z.1
]
