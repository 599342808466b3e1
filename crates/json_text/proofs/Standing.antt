-- Where a text stands behind a front of it, in the words of the grammar.
use Rattle.std.proofs.Common.{◌≡◌, ℕ, zero, suc, ◌+◌, ◌==◌, List, [], ◌∷◌, ◌++◌, length, refl, ap, sym, ◌∙◌, Some, None, true, arith, nat_lt, append_assoc, append-nil, subst}
use Rattle.std.proofs.lemmas.Bool.Decides.{nat_tests}
use Rattle.byte_grammar.specs.Bytes.{Each}
use Rattle.json_text.specs.Bytes.{is_blank, AreBlanks}
use Rattle.json_text.specs.Json.{Json, Members}
use Rattle.json_text.specs.Grammar.{IsName, IsValue, IsElement, element, AreItems, AreMembers}
use Rattle.json_text.specs.Machine.{state, to}
use Rattle.json_text.specs.declared.frame.Frame.{Frame}
use Rattle.json_text.specs.declared.frame.Frame.TheVariants.{Array, Object}
use Rattle.json_text.specs.declared.place.InLiteral.{InLiteral}
use Rattle.json_text.specs.declared.place.InLiteral.TheVariants.{T, Tr, Tru, F, Fa, Fal, Fals, N, Nu, Nul}
use Rattle.json_text.specs.declared.place.Use.TheVariants.{ForValue, ForName}
use Rattle.json_text.specs.declared.place.Mode.{Mode}
use Rattle.json_text.specs.declared.place.Mode.TheVariants.{Value, FirstItem, FirstName, NextName, Named, Literal, Number, String, Done}
use Rattle.json_text.specs.declared.machine.State.{State}
use Rattle.json_text.proofs.SoundStrings.{InChars}
use Rattle.json_text.proofs.SoundNumbers.{IsFront}

-- ---- what a front of a text says

-- an open object behind blanks, with members that have commas behind them, and what stands behind them
pub record InObject (d : ℕ) (ms : Members) (r z : List ℕ) : Type 0 where
  pub c : ℕ
  pub deep : d ≡ suc c
  pub x : List ℕ
  pub q : List ℕ
  pub blanks : AreBlanks x
  pub members : AreMembers c q ms
  pub parts : r ≡ x ++ 123 ∷ (q ++ z)

-- blanks, the bytes of an opened value, and what stands behind them
pub record InValue (r z : List ℕ) : Type 0 where
  pub x : List ℕ
  pub blanks : AreBlanks x
  pub parts : r ≡ x ++ z

abbrev pub came : InLiteral → List ℕ
came T = 116 ∷ []
came Tr = 116 ∷ 114 ∷ []
came Tru = 116 ∷ 114 ∷ 117 ∷ []
came F = 102 ∷ []
came Fa = 102 ∷ 97 ∷ []
came Fal = 102 ∷ 97 ∷ 108 ∷ []
came Fals = 102 ∷ 97 ∷ 108 ∷ 115 ∷ []
came N = 110 ∷ []
came Nu = 110 ∷ 117 ∷ []
came Nul = 110 ∷ 117 ∷ 108 ∷ []

-- r is what stands behind the open containers, of which d may still be opened
abbrev pub Within : Mode → ℕ → List ℕ → Type 0
Within Value d r = AreBlanks r
Within FirstItem d r = (c : ℕ) × (d ≡ suc c) × (y : List ℕ) × AreBlanks y × InValue r (91 ∷ y)
Within FirstName d r = (c : ℕ) × (d ≡ suc c) × (y : List ℕ) × AreBlanks y × InValue r (123 ∷ y)
Within (NextName ms) d r = (y : List ℕ) × AreBlanks y × InObject d ms r y
Within (Named ms name) d r = (w : List ℕ) × IsName w name × InObject d ms r w
Within (Literal l) d r = InValue r (came l)
Within (Number n t) d r = IsFront n t × InValue r t
Within (String ForValue at) d r = (z : List ℕ) × InChars at.place z at.text × InValue r (34 ∷ z)
Within (String (ForName ms) at) d r = (y z : List ℕ) × AreBlanks y × InChars at.place z at.text × InObject d ms r (y ++ 34 ∷ z)
Within (Done j) d r = IsElement d r j

-- p is the text up to behind what was read of the innermost container, in which d more may be opened
abbrev pub Outer : List Frame → ℕ → List ℕ → Type 0
Outer [] d p = (d ≡ 64) × (p ≡ [])
Outer (Array js ∷ k) d p = (p0 x q : List ℕ) × Outer k (suc d) p0 × AreBlanks x × AreItems d q js × (p ≡ p0 ++ (x ++ 91 ∷ q))
Outer (Object ms name ∷ k) d p = (p0 x q w : List ℕ) × Outer k (suc d) p0 × AreBlanks x × AreMembers d q ms × IsName w name × (p ≡ p0 ++ (x ++ 123 ∷ (q ++ (w ++ 58 ∷ []))))

pub record Stands (text : List ℕ) (s : State) : Type 0 where
  pub d : ℕ
  pub p : List ℕ
  pub r : List ℕ
  pub outer : Outer s.stack d p
  pub parts : text ≡ p ++ r
  pub within : Within s.mode d r

pub stands : (text : List ℕ) (m : Mode) (k : List Frame) (s : State) (d : ℕ) (p r : List ℕ) → to m k ≡ Some s → Outer k d p → text ≡ p ++ r → Within m d r → Stands text s
stands text m k s d p r e o h w = let g : state m k ≡ s = cc in subst (λ (z : State). Stands text z) g (record { d = d; p = p; r = r; outer = o; parts = h; within = w })

pub nowhere : (text : List ℕ) (s : State) → None ≡ Some s → Stands text s
nowhere text s e = absurd cc

-- ---- small facts

pub no_blanks : AreBlanks []
unfolding Each
no_blanks = tt

pub more_blanks : (x : List ℕ) (b : ℕ) → AreBlanks x → is_blank b ≡ true → AreBlanks (x ++ b ∷ [])
unfolding Each
more_blanks [] b a h = (h, tt)
more_blanks (c ∷ x) b a h = (a.0, more_blanks x b a.1 h)

pub is_byte : (b n : ℕ) → (b == n) ≡ true → b ≡ n
is_byte b n e = grind (arith, nat_tests)

-- the stack is as deep as brackets are open
pub deep : (k : List Frame) (d : ℕ) (p : List ℕ) → Outer k d p → d + length k ≡ 64
deep [] d p o = omega (arith, o.0)
deep (Array js ∷ k) d p o = omega (arith, deep k (suc d) o.0 o.3)
deep (Object ms name ∷ k) d p o = omega (arith, deep k (suc d) o.0 o.4)

pub room : (k : List Frame) (d : ℕ) (p : List ℕ) → Outer k d p → nat_lt (length k) 64 ≡ true → (c : ℕ) × (d ≡ suc c)
room k zero p o h = absurd (let e = deep k 0 p o in full (length k) h (omega (arith, e)))
  where
    full : (n : ℕ) → nat_lt n 64 ≡ true → n ≡ 64 → ⊥
    full n h e = grind (arith, nat_tests)
room k (suc c) p o h = (c, refl)

pub on_value : (r z : List ℕ) (b : ℕ) → InValue r z → InValue (r ++ b ∷ []) (z ++ b ∷ [])
on_value r z b h = record { x = h.x; blanks = h.blanks; parts = ap (λ (v : List ℕ). v ++ b ∷ []) h.parts ∙ append_assoc h.x z (b ∷ []) }

pub on_object : (d : ℕ) (ms : Members) (r z : List ℕ) (b : ℕ) → InObject d ms r z → InObject d ms (r ++ b ∷ []) (z ++ b ∷ [])
on_object d ms r z b h = record {
  c = h.c;
  deep = h.deep;
  x = h.x;
  q = h.q;
  blanks = h.blanks;
  members = h.members;
  parts = ap (λ (v : List ℕ). v ++ b ∷ []) h.parts ∙ simp append_assoc;
}

pub on_name : (w name : List ℕ) (b : ℕ) → IsName w name → is_blank b ≡ true → IsName (w ++ b ∷ []) name
on_name w name b n h = record {
  x = n.x;
  s = n.s;
  y = n.y ++ b ∷ [];
  before = n.before;
  is = n.is;
  behind = more_blanks n.y b n.behind h;
  parts = ap (λ (v : List ℕ). v ++ b ∷ []) n.parts ∙ simp append_assoc;
}

pub on_text : (text p r : List ℕ) (b : ℕ) → text ≡ p ++ r → text ++ b ∷ [] ≡ p ++ (r ++ b ∷ [])
on_text text p r b h = ap (λ (v : List ℕ). v ++ b ∷ []) h ∙ append_assoc p r (b ∷ [])

-- a value that a byte ended
pub ended : (d : ℕ) (r v : List ℕ) (j : Json) → InValue r v → IsValue d v j → IsElement d r j
ended d r v j h w = element h.x v [] h.blanks w no_blanks (h.parts ∙ ap (λ (z : List ℕ). h.x ++ z) (sym (append-nil v)))
