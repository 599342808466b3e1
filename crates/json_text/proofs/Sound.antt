-- What the machine makes of a text is what the grammar says of it.
use Rattle.std.proofs.Common.{◌≡◌, ℕ, suc, ◌==◌, List, [], ◌∷◌, ◌++◌, length, refl, ap, sym, ◌∙◌, Option, Some, None, Bool, true, false, nat_lt, inl, inr, ◌⊎◌, append_assoc, append-nil, subst, if◌then◌else◌}
use Rattle.byte_grammar.specs.Runs.{run, move as on_move}
use Rattle.byte_grammar.specs.Bytes.{is_digit}
use Rattle.json_text.specs.Bytes.{is_blank, AreBlanks}
use Rattle.json_text.specs.Json.{Json, null, boolean, number, words, list, object, no_items, add, Members, no_members, put}
use Rattle.json_text.specs.Grammar.{no_chars, IsValue, is_null, is_true, is_false, is_number, is_words, empty_list, is_list, empty_object, is_object, IsElement, element, no_item, next_item, no_member, next_member, IsJson}
use Rattle.json_text.specs.Tokens.{number_step, number_ends, string_step}
use Rattle.json_text.specs.Machine.{to, quoted, begun, comma, close_array, close_object, behind, exactly, literal_on, behind_number, number_on, unquoted, string_on, is_end, move, step, after, start, held, ends_in, ends_at, json_at}
use Rattle.json_text.specs.declared.frame.Frame.{Frame}
use Rattle.json_text.specs.declared.frame.Frame.TheVariants.{Array, Object}
use Rattle.json_text.specs.declared.place.InLiteral.{InLiteral}
use Rattle.json_text.specs.declared.place.InLiteral.TheVariants.{T, Tr, Tru, F, Fa, Fal, Fals, N, Nu, Nul}
use Rattle.json_text.specs.declared.place.Use.{Use}
use Rattle.json_text.specs.declared.place.Use.TheVariants.{ForValue, ForName}
use Rattle.json_text.specs.declared.place.Mode.{Mode}
use Rattle.json_text.specs.declared.place.Mode.TheVariants.{Value, FirstItem, FirstName, NextName, Named, Literal, Number, String, Done}
use Rattle.json_text.specs.declared.machine.State.{State}
use Rattle.json_text.specs.declared.number.InNumber.{InNumber}
use Rattle.json_text.specs.declared.number.InNumber.TheVariants.{Minus, Zero, Whole}
use Rattle.json_text.specs.declared.string.InString.{InString}
use Rattle.json_text.specs.declared.string.InString.TheVariants.{Between}
use Rattle.json_text.specs.declared.string.Spot.{Spot}
use Rattle.json_text.proofs.SoundStrings.{chosen, InChars, string_sound}
use Rattle.json_text.proofs.SoundNumbers.{IsFront, number_sound, number_whole, first_minus, first_zero, first_whole}
use Rattle.json_text.proofs.Standing.{stands, nowhere, no_blanks, more_blanks, is_byte, room, on_value, on_object, on_name, on_text, ended, came, Within, Outer, InObject, InValue, Stands}

-- ---- the first byte of a value

begun_sound : (p y : List ℕ) (d : ℕ) (k : List Frame) (b : ℕ) (s : State) → Outer k d p → AreBlanks y → begun k b ≡ Some s → Stands (p ++ (y ++ b ∷ [])) s
begun_sound p y d k b s o a h = elim (chosen (b == 34) _ _ (Some s) h) [
  | inl z ↦ rw (is_byte b 34 z.0) (stands _ (quoted ForValue) k s d p (y ++ 34 ∷ []) z.1 o refl ([], no_chars, value 34))
  | inr z1 ↦ elim (chosen (b == 91) _ _ (Some s) z1.1) [
    | inl z ↦ rw (is_byte b 91 z.0) (opened_list (chosen (nat_lt (length k) 64) _ _ (Some s) z.1))
    | inr z2 ↦ elim (chosen (b == 123) _ _ (Some s) z2.1) [
      | inl z ↦ rw (is_byte b 123 z.0) (opened_object (chosen (nat_lt (length k) 64) _ _ (Some s) z.1))
      | inr z3 ↦ elim (chosen (b == 45) _ _ (Some s) z3.1) [
        | inl z ↦ let g = is_byte b 45 z.0 in stands _ (Number Minus (b ∷ [])) k s d p (y ++ b ∷ []) z.1 o refl (rw g first_minus, value b)
        | inr z4 ↦ elim (chosen (b == 48) _ _ (Some s) z4.1) [
          | inl z ↦ let g = is_byte b 48 z.0 in stands _ (Number Zero (b ∷ [])) k s d p (y ++ b ∷ []) z.1 o refl (rw g first_zero, value b)
          | inr z5 ↦ elim (chosen (is_digit b) _ _ (Some s) z5.1) [
            | inl z ↦ stands _ (Number Whole (b ∷ [])) k s d p (y ++ b ∷ []) z.1 o refl (first_whole b z5.0 z.0, value b)
            | inr z6 ↦ elim (chosen (b == 116) _ _ (Some s) z6.1) [
              | inl z ↦ rw (is_byte b 116 z.0) (stands _ (Literal T) k s d p (y ++ 116 ∷ []) z.1 o refl (value 116))
              | inr z7 ↦ elim (chosen (b == 102) _ _ (Some s) z7.1) [
                | inl z ↦ rw (is_byte b 102 z.0) (stands _ (Literal F) k s d p (y ++ 102 ∷ []) z.1 o refl (value 102))
                | inr z8 ↦ elim (chosen (b == 110) _ _ (Some s) z8.1) [
                  | inl z ↦ rw (is_byte b 110 z.0) (stands _ (Literal N) k s d p (y ++ 110 ∷ []) z.1 o refl (value 110))
                  | inr z9 ↦ nowhere _ s z9.1
                ]
              ]
            ]
          ]
        ]
      ]
    ]
  ]
]
  where
    value : (c : ℕ) → InValue (y ++ c ∷ []) (c ∷ [])
    value c = record { x = y; blanks = a; parts = refl }

    opened_list : ((nat_lt (length k) 64 ≡ true) × (to FirstItem k ≡ Some s)) ⊎ ((nat_lt (length k) 64 ≡ false) × (None ≡ Some s)) → Stands (p ++ (y ++ 91 ∷ [])) s
    opened_list (inl z) = let c = room k d p o z.0 in stands _ FirstItem k s d p (y ++ 91 ∷ []) z.1 o refl (c.0, c.1, [], no_blanks, value 91)
    opened_list (inr z) = nowhere _ s z.1

    opened_object : ((nat_lt (length k) 64 ≡ true) × (to FirstName k ≡ Some s)) ⊎ ((nat_lt (length k) 64 ≡ false) × (None ≡ Some s)) → Stands (p ++ (y ++ 123 ∷ [])) s
    opened_object (inl z) = let c = room k d p o z.0 in stands _ FirstName k s d p (y ++ 123 ∷ []) z.1 o refl (c.0, c.1, [], no_blanks, value 123)
    opened_object (inr z) = nowhere _ s z.1

-- ---- a byte behind a value

element_on : (d : ℕ) (r : List ℕ) (j : Json) (b : ℕ) → IsElement d r j → is_blank b ≡ true → IsElement d (r ++ b ∷ []) j
element_on d r j b (element x v y ax f ay e) h = element x v (y ++ b ∷ []) ax f (more_blanks y b ay h) (ap (λ (z : List ℕ). z ++ b ∷ []) e ∙ simp append_assoc)

comma_sound : (p r : List ℕ) (d : ℕ) (k : List Frame) (j : Json) (s : State) → Outer k d p → IsElement d r j → comma j k ≡ Some s → Stands (p ++ (r ++ 44 ∷ [])) s
comma_sound p r d [] j s o e h = nowhere _ s h
comma_sound p r d (Array js ∷ k) j s o e h =
    stands _ Value (Array (add js j) ∷ k) s d (p ++ (r ++ 44 ∷ [])) [] h
    (o.0, o.1, o.2 ++ (r ++ 44 ∷ []), o.3, o.4, next_item o.2 r js j o.5 e refl refl, ap (λ (v : List ℕ). v ++ (r ++ 44 ∷ [])) o.6 ∙ simp append_assoc)
    (sym (append-nil (p ++ (r ++ 44 ∷ [])))) no_blanks
comma_sound p r d (Object ms name ∷ k) j s o e h =
    stands _ (NextName (put name j ms)) k s (suc d) o.0 (o.1 ++ 123 ∷ ((o.2 ++ (o.3 ++ 58 ∷ (r ++ 44 ∷ []))) ++ [])) h o.4
    (ap (λ (v : List ℕ). v ++ (r ++ 44 ∷ [])) o.8 ∙ simp (append_assoc, append-nil)) (
      [],
      no_blanks,
      record {
        c = d;
        deep = refl;
        x = o.1;
        q = o.2 ++ (o.3 ++ 58 ∷ (r ++ 44 ∷ []));
        blanks = o.5;
        members = next_member o.2 o.3 r name ms j o.6 o.7 e refl refl;
        parts = refl;
      },
    )

array_sound : (p r : List ℕ) (d : ℕ) (k : List Frame) (j : Json) (s : State) → Outer k d p → IsElement d r j → close_array j k ≡ Some s → Stands (p ++ (r ++ 93 ∷ [])) s
array_sound p r d [] j s o e h = nowhere _ s h
array_sound p r d (Array js ∷ k) j s o e h =
    stands _ (Done (list (add js j))) k s (suc d) o.0 (o.1 ++ 91 ∷ (o.2 ++ (r ++ 93 ∷ []))) h o.3
    (ap (λ (v : List ℕ). v ++ (r ++ 93 ∷ [])) o.6 ∙ simp append_assoc)
    (ended (suc d) _ (91 ∷ (o.2 ++ (r ++ 93 ∷ []))) (list (add js j)) (record { x = o.1; blanks = o.4; parts = refl }) (is_list o.2 r js j o.5 e refl refl))
array_sound p r d (Object ms name ∷ k) j s o e h = nowhere _ s h

object_sound : (p r : List ℕ) (d : ℕ) (k : List Frame) (j : Json) (s : State) → Outer k d p → IsElement d r j → close_object j k ≡ Some s → Stands (p ++ (r ++ 125 ∷ [])) s
object_sound p r d [] j s o e h = nowhere _ s h
object_sound p r d (Array js ∷ k) j s o e h = nowhere _ s h
object_sound p r d (Object ms name ∷ k) j s o e h =
    stands _ (Done (object (put name j ms))) k s (suc d) o.0 (o.1 ++ 123 ∷ (o.2 ++ (o.3 ++ 58 ∷ (r ++ 125 ∷ [])))) h o.4
    (ap (λ (v : List ℕ). v ++ (r ++ 125 ∷ [])) o.8 ∙ simp append_assoc)
    (ended (suc d) _ (123 ∷ (o.2 ++ (o.3 ++ 58 ∷ (r ++ 125 ∷ [])))) (object (put name j ms)) (record { x = o.1; blanks = o.5; parts = refl })
    (is_object o.2 o.3 r name ms j o.6 o.7 e refl refl))

behind_sound : (p r : List ℕ) (d : ℕ) (k : List Frame) (j : Json) (b : ℕ) (s : State) → Outer k d p → IsElement d r j → behind j k b ≡ Some s → Stands (p ++ (r ++ b ∷ [])) s
behind_sound p r d k j b s o e h = elim (chosen (is_blank b) _ _ (Some s) h) [
  | inl z ↦ stands _ (Done j) k s d p (r ++ b ∷ []) z.1 o refl (element_on d r j b e z.0)
  | inr z1 ↦ elim (chosen (b == 44) _ _ (Some s) z1.1) [
    | inl z ↦ rw (is_byte b 44 z.0) (comma_sound p r d k j s o e z.1)
    | inr z2 ↦ elim (chosen (b == 93) _ _ (Some s) z2.1) [
      | inl z ↦ rw (is_byte b 93 z.0) (array_sound p r d k j s o e z.1)
      | inr z3 ↦ elim (chosen (b == 125) _ _ (Some s) z3.1) [
        | inl z ↦ rw (is_byte b 125 z.0) (object_sound p r d k j s o e z.1)
        | inr z ↦ nowhere _ s z.1
      ]
    ]
  ]
]

-- ---- literals, numbers and strings

exact : (text p r : List ℕ) (d want : ℕ) (m : Mode) (k k' : List Frame) (b : ℕ) (s : State) → exactly want m k' b ≡ Some s → (b ≡ want → to m k' ≡ Some s → Stands text s) → Stands text s
exact text p r d want m k k' b s h f = elim (chosen (b == want) _ _ (Some s) h) [
  | inl z ↦ f (is_byte b want z.0) z.1
  | inr z ↦ nowhere text s z.1
]

literal_more : (p r : List ℕ) (d : ℕ) (l l' : InLiteral) (want : ℕ) (k : List Frame) (b : ℕ) (s : State) → Outer k d p → InValue r (came l) → came l' ≡ came l ++ want ∷ []
    → exactly want (Literal l') k b ≡ Some s → Stands (p ++ (r ++ b ∷ [])) s
literal_more p r d l l' want k b s o v c h = exact _ p r d want (Literal l') k k b s h (λ e g.
    rw e (stands _ (Literal l') k s d p (r ++ want ∷ []) g o refl (subst (λ (z : List ℕ). InValue (r ++ want ∷ []) z) (sym c) (on_value r (came l) want v))))

literal_end : (p r : List ℕ) (d : ℕ) (l : InLiteral) (j : Json) (want : ℕ) (k : List Frame) (b : ℕ) (s : State) → Outer k d p → InValue r (came l) → IsValue d (came l ++ want ∷ []) j
    → exactly want (Done j) k b ≡ Some s → Stands (p ++ (r ++ b ∷ [])) s
literal_end p r d l j want k b s o v w h = exact _ p r d want (Done j) k k b s h (λ e g.
    rw e (stands _ (Done j) k s d p (r ++ want ∷ []) g o refl (ended d (r ++ want ∷ []) (came l ++ want ∷ []) j (on_value r (came l) want v) w)))

literal_sound : (l : InLiteral) (p r : List ℕ) (d : ℕ) (k : List Frame) (b : ℕ) (s : State) → Outer k d p → InValue r (came l) → literal_on l k b ≡ Some s → Stands (p ++ (r ++ b ∷ [])) s
literal_sound T p r d k b s o v h = literal_more p r d T Tr 114 k b s o v refl h
literal_sound Tr p r d k b s o v h = literal_more p r d Tr Tru 117 k b s o v refl h
literal_sound Tru p r d k b s o v h = literal_end p r d Tru (boolean true) 101 k b s o v (is_true refl) h
literal_sound F p r d k b s o v h = literal_more p r d F Fa 97 k b s o v refl h
literal_sound Fa p r d k b s o v h = literal_more p r d Fa Fal 108 k b s o v refl h
literal_sound Fal p r d k b s o v h = literal_more p r d Fal Fals 115 k b s o v refl h
literal_sound Fals p r d k b s o v h = literal_end p r d Fals (boolean false) 101 k b s o v (is_false refl) h
literal_sound N p r d k b s o v h = literal_more p r d N Nu 117 k b s o v refl h
literal_sound Nu p r d k b s o v h = literal_more p r d Nu Nul 108 k b s o v refl h
literal_sound Nul p r d k b s o v h = literal_end p r d Nul null 108 k b s o v (is_null refl) h

number_element : (n : InNumber) (t r : List ℕ) (d : ℕ) → IsFront n t → InValue r t → number_ends n ≡ true → IsElement d r (number t)
number_element n t r d w v e = ended d r t (number t) v (is_number (number_whole n t w e))

number_end_sound : (e : Bool) (n : InNumber) (t p r : List ℕ) (d : ℕ) (k : List Frame) (b : ℕ) (s : State) → number_ends n ≡ e → Outer k d p → IsFront n t → InValue r t
    → behind_number e t k b ≡ Some s → Stands (p ++ (r ++ b ∷ [])) s
number_end_sound false n t p r d k b s g o w v h = nowhere _ s h
number_end_sound true n t p r d k b s g o w v h = behind_sound p r d k (number t) b s o (number_element n t r d w v g) h

in_number_sound : (q : Option InNumber) (n : InNumber) (t p r : List ℕ) (d : ℕ) (k : List Frame) (b : ℕ) (s : State) → number_step n b ≡ q → Outer k d p → IsFront n t → InValue r t
    → number_on q n t k b ≡ Some s → Stands (p ++ (r ++ b ∷ [])) s
in_number_sound None n t p r d k b s e o w v h = number_end_sound (number_ends n) n t p r d k b s refl o w v h
in_number_sound (Some q) n t p r d k b s e o w v h = stands _ (Number q (t ++ b ∷ [])) k s d p (r ++ b ∷ []) h o refl (number_sound n q t b w e, on_value r t b v)

end_place : (q : InString) (b : ℕ) → is_end q b ≡ true → (q ≡ Between) × (b ≡ 34)
end_place Between b e = (refl, is_byte b 34 e)
end_place _ b e = absurd cc

-- the quote behind a string
quote_sound : (u : Use) (at : Spot) (p r : List ℕ) (d : ℕ) (k : List Frame) (s : State) → at.place ≡ Between → Outer k d p → Within (String u at) d r
    → unquoted u at.text k ≡ Some s → Stands (p ++ (r ++ 34 ∷ [])) s
quote_sound ForValue at p r d k s e o w h =
    stands _ (Done (words at.text)) k s d p (r ++ 34 ∷ []) h o refl
    (ended d (r ++ 34 ∷ []) (34 ∷ (w.0 ++ 34 ∷ [])) (words at.text) (on_value r (34 ∷ w.0) 34 w.2)
    (is_words (w.0, subst (λ (z : InString). InChars z w.0 at.text) e w.1, refl)))
quote_sound (ForName ms) at p r d k s e o w h =
    stands _ (Named ms at.text) k s d p (r ++ 34 ∷ []) h o refl (
      (w.0 ++ 34 ∷ w.1) ++ 34 ∷ [],
      record {
        x = w.0;
        s = 34 ∷ (w.1 ++ 34 ∷ []);
        y = [];
        before = w.2;
        is = (w.1, subst (λ (z : InString). InChars z w.1 at.text) e w.3, refl);
        behind = no_blanks;
        parts = simp (append_assoc, append-nil);
      },
      on_object d ms r (w.0 ++ 34 ∷ w.1) 34 w.4,
    )

in_string_sound : (q : Option Spot) (u : Use) (at : Spot) (p r : List ℕ) (d : ℕ) (k : List Frame) (b : ℕ) (s : State) → string_step at.place at.text b ≡ q → Outer k d p → Within (String u at) d r
    → string_on u q k ≡ Some s → Stands (p ++ (r ++ b ∷ [])) s
in_string_sound None u at p r d k b s e o w h = nowhere _ s h
in_string_sound (Some to') ForValue at p r d k b s e o w h =
    stands _ (String ForValue to') k s d p (r ++ b ∷ []) h o refl (w.0 ++ b ∷ [], string_sound at.place w.0 at.text b to' w.1 e, on_value r (34 ∷ w.0) b w.2)
in_string_sound (Some to') (ForName ms) at p r d k b s e o w h =
    stands _ (String (ForName ms) to') k s d p (r ++ b ∷ []) h o refl (
      w.0,
      w.1 ++ b ∷ [],
      w.2,
      string_sound at.place w.1 at.text b to' w.3 e,
      subst (λ (z : List ℕ). InObject d ms (r ++ b ∷ []) z) (append_assoc w.0 (34 ∷ w.1) (b ∷ [])) (on_object d ms r (w.0 ++ 34 ∷ w.1) b w.4),
    )

-- ---- in containers

first_item_sound : (p r : List ℕ) (d : ℕ) (k : List Frame) (b : ℕ) (s : State) → Outer k d p → Within FirstItem d r → move FirstItem k b ≡ Some s → Stands (p ++ (r ++ b ∷ [])) s
first_item_sound p r d k b s o w h = elim (chosen (is_blank b) _ _ (Some s) h) [
  | inl z ↦ stands _ FirstItem k s d p (r ++ b ∷ []) z.1 o refl (w.0, w.1, w.2 ++ b ∷ [], more_blanks w.2 b w.3 z.0, on_value r (91 ∷ w.2) b w.4)
  | inr z1 ↦ elim (chosen (b == 93) _ _ (Some s) z1.1) [
    | inl z ↦ rw (is_byte b 93 z.0) (stands _ (Done (list no_items)) k s d p (r ++ 93 ∷ []) z.1 o refl
        (ended d (r ++ 93 ∷ []) (91 ∷ (w.2 ++ 93 ∷ [])) (list no_items) (on_value r (91 ∷ w.2) 93 w.4) (rw w.1 (empty_list w.2 w.3 refl))))
    | inr z ↦ subst (λ (v : List ℕ). Stands v s) same
        (begun_sound (p ++ (w.4.x ++ 91 ∷ [])) w.2 w.0 (Array no_items ∷ k) b s
        (p, w.4.x, [], subst (λ (c : ℕ). Outer k c p) w.1 o, w.4.blanks, no_item, refl) w.3 z.1)
  ]
]
  where
    same : (p ++ (w.4.x ++ 91 ∷ [])) ++ (w.2 ++ b ∷ []) ≡ p ++ (r ++ b ∷ [])
    same =
        let e : (p ++ (w.4.x ++ 91 ∷ [])) ++ (w.2 ++ b ∷ []) ≡ p ++ ((w.4.x ++ 91 ∷ w.2) ++ b ∷ []) = simp append_assoc in
        e ∙ ap (λ (v : List ℕ). p ++ (v ++ b ∷ [])) (sym w.4.parts)

first_name_sound : (p r : List ℕ) (d : ℕ) (k : List Frame) (b : ℕ) (s : State) → Outer k d p → Within FirstName d r → move FirstName k b ≡ Some s → Stands (p ++ (r ++ b ∷ [])) s
first_name_sound p r d k b s o w h = elim (chosen (is_blank b) _ _ (Some s) h) [
  | inl z ↦ stands _ FirstName k s d p (r ++ b ∷ []) z.1 o refl (w.0, w.1, w.2 ++ b ∷ [], more_blanks w.2 b w.3 z.0, on_value r (123 ∷ w.2) b w.4)
  | inr z1 ↦ elim (chosen (b == 125) _ _ (Some s) z1.1) [
    | inl z ↦ rw (is_byte b 125 z.0) (stands _ (Done (object no_members)) k s d p (r ++ 125 ∷ []) z.1 o refl
        (ended d (r ++ 125 ∷ []) (123 ∷ (w.2 ++ 125 ∷ [])) (object no_members) (on_value r (123 ∷ w.2) 125 w.4) (rw w.1 (empty_object w.2 w.3 refl))))
    | inr z ↦ exact _ p r d 34 (quoted (ForName no_members)) k k b s z.1 (λ e g.
        rw e (stands _ (quoted (ForName no_members)) k s d p (r ++ 34 ∷ []) g o refl (
          w.2,
          [],
          w.3,
          no_chars,
          record {
            c = w.0;
            deep = w.1;
            x = w.4.x;
            q = [];
            blanks = w.4.blanks;
            members = no_member;
            parts = ap (λ (v : List ℕ). v ++ 34 ∷ []) w.4.parts ∙ append_assoc w.4.x (123 ∷ w.2) (34 ∷ []);
          },
        )))
  ]
]

next_name_sound : (ms : Members) (p r : List ℕ) (d : ℕ) (k : List Frame) (b : ℕ) (s : State) → Outer k d p → Within (NextName ms) d r → move (NextName ms) k b ≡ Some s → Stands (p ++ (r ++ b ∷ [])) s
next_name_sound ms p r d k b s o w h = elim (chosen (is_blank b) _ _ (Some s) h) [
  | inl z ↦ stands _ (NextName ms) k s d p (r ++ b ∷ []) z.1 o refl (w.0 ++ b ∷ [], more_blanks w.0 b w.1 z.0, on_object d ms r w.0 b w.2)
  | inr z ↦ exact _ p r d 34 (quoted (ForName ms)) k k b s z.1 (λ e g.
      rw e (stands _ (quoted (ForName ms)) k s d p (r ++ 34 ∷ []) g o refl (w.0, [], w.1, no_chars, on_object d ms r w.0 34 w.2)))
]

named_sound : (ms : Members) (name p r : List ℕ) (d : ℕ) (k : List Frame) (b : ℕ) (s : State) → Outer k d p → Within (Named ms name) d r → move (Named ms name) k b ≡ Some s → Stands (p ++ (r ++ b ∷ [])) s
named_sound ms name p r d k b s o w h = elim (chosen (is_blank b) _ _ (Some s) h) [
  | inl z ↦ stands _ (Named ms name) k s d p (r ++ b ∷ []) z.1 o refl (w.0 ++ b ∷ [], on_name w.0 name b w.1 z.0, on_object d ms r w.0 b w.2)
  | inr z ↦ exact _ p r d 58 Value k (Object ms name ∷ k) b s z.1 (λ e g.
      rw e (stands _ Value (Object ms name ∷ k) s w.2.c (p ++ (r ++ 58 ∷ [])) [] g (
        p,
        w.2.x,
        w.2.q,
        w.0,
        subst (λ (c : ℕ). Outer k c p) w.2.deep o,
        w.2.blanks,
        w.2.members,
        w.1,
        ap (λ (v : List ℕ). p ++ (v ++ 58 ∷ [])) w.2.parts ∙ simp append_assoc,
      )
      (sym (append-nil (p ++ (r ++ 58 ∷ [])))) no_blanks))
]

move_sound : (m : Mode) (p r : List ℕ) (d : ℕ) (k : List Frame) (b : ℕ) (s : State) → Outer k d p → Within m d r → move m k b ≡ Some s → Stands (p ++ (r ++ b ∷ [])) s
move_sound Value p r d k b s o w h = elim (chosen (is_blank b) _ _ (Some s) h) [
  | inl z ↦ stands _ Value k s d p (r ++ b ∷ []) z.1 o refl (more_blanks r b w z.0)
  | inr z ↦ begun_sound p r d k b s o w z.1
]
move_sound FirstItem p r d k b s o w h = first_item_sound p r d k b s o w h
move_sound FirstName p r d k b s o w h = first_name_sound p r d k b s o w h
move_sound (NextName ms) p r d k b s o w h = next_name_sound ms p r d k b s o w h
move_sound (Named ms name) p r d k b s o w h = named_sound ms name p r d k b s o w h
move_sound (Literal l) p r d k b s o w h = literal_sound l p r d k b s o w h
move_sound (Number n t) p r d k b s o w h = in_number_sound (number_step n b) n t p r d k b s refl o w.0 w.1 h
move_sound (String u at) p r d k b s o w h = elim (chosen (is_end at.place b) _ _ (Some s) h) [
  | inl z ↦ let g = end_place at.place b z.0 in rw g.1 (quote_sound u at p r d k s g.0 o w z.1)
  | inr z ↦ in_string_sound (string_step at.place at.text b) u at p r d k b s refl o w z.1
]
move_sound (Done j) p r d k b s o w h = behind_sound p r d k j b s o w h

-- ---- runs

step_sound : (text : List ℕ) (s t : State) (b : ℕ) → Stands text s → step s b ≡ Some t → Stands (text ++ b ∷ []) t
step_sound text s t b h e = subst (λ (v : List ℕ). Stands v t) (sym (on_text text h.p h.r b h.parts)) (move_sound s.mode h.p h.r h.d s.stack b t h.outer h.within e)

go_sound : (text : List ℕ) (b : ℕ) (o : Option State) → ((s : State) → o ≡ Some s → Stands text s) → (t : State) → on_move step o b ≡ Some t → Stands (text ++ b ∷ []) t
go_sound text b None h t e = nowhere _ t e
go_sound text b (Some r) h t e = step_sound text r t b (h r refl) e

run_sound : (bs text : List ℕ) (o : Option State) → ((s : State) → o ≡ Some s → Stands text s) → (t : State) → after o bs ≡ Some t → Stands (text ++ bs) t
unfolding run
run_sound [] text o h t e = subst (λ (v : List ℕ). Stands v t) (sym (append-nil text)) (h t e)
run_sound (b ∷ bs) text o h t e = subst (λ (v : List ℕ). Stands v t) (append_assoc text (b ∷ []) bs) (run_sound bs (text ++ b ∷ []) (on_move step o b) (go_sound text b o h) t e)

stands_start : Stands [] start
stands_start = record { d = 64; p = []; r = []; outer = (refl, refl); parts = refl; within = no_blanks }

-- where the machine stands behind a text
pub stands_at : (text : List ℕ) (t : State) → after (Some start) text ≡ Some t → Stands text t
stands_at text t e = run_sound text [] (Some start) (λ s h. let c : start ≡ s = cc in subst (λ (z : State). Stands [] z) c stands_start) t e

outermost : (d : ℕ) (p r text : List ℕ) (j : Json) → Outer [] d p → text ≡ p ++ r → IsElement d r j → IsJson text j
outermost d p r text j o h e = rw (h, o.1) (subst (λ (c : ℕ). IsElement c r j) o.0 e)

number_held : (e : Bool) (n : InNumber) (t r : List ℕ) (d : ℕ) (j : Json) → number_ends n ≡ e → IsFront n t → InValue r t → (if e then Some (number t) else None) ≡ Some j → IsElement d r j
number_held true n t r d j g w v h = let c : number t ≡ j = cc in subst (λ (z : Json). IsElement d r z) c (number_element n t r d w v g)
number_held false n t r d j g w v h = absurd cc

held_sound : (m : Mode) (d : ℕ) (r : List ℕ) (j : Json) → Within m d r → held m ≡ Some j → IsElement d r j
held_sound (Number n t) d r j w h = number_held (number_ends n) n t r d j refl w.0 w.1 h
held_sound (Done i) d r j w h = let c : i ≡ j = cc in subst (λ (z : Json). IsElement d r z) c w
held_sound _ d r j w h = absurd cc

end_sound : (k : List Frame) (m : Mode) (d : ℕ) (p r text : List ℕ) (j : Json) → Outer k d p → Within m d r → text ≡ p ++ r → ends_in (held m) k ≡ Some j → IsJson text j
end_sound [] m d p r text j o w e h = outermost d p r text j o e (held_sound m d r j w h)
end_sound (f ∷ k) m d p r text j o w e h = absurd cc

-- what the machine makes of a text is what the grammar says of it
pub sound : (text : List ℕ) (j : Json) → json_at text ≡ Some j → IsJson text j
sound text j h = at_state (after (Some start) text) refl h
  where
    at_state : (o : Option State) → after (Some start) text ≡ o → ends_at o ≡ Some j → IsJson text j
    at_state None g e = absurd cc
    at_state (Some s) g e = let w = stands_at text s g in end_sound s.stack s.mode w.d w.p w.r text j w.outer w.within w.parts e
