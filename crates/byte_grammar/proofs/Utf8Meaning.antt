-- The characters in the words of UTF-8: each can be made whole, and a byte without a next one has no text.
use lib.Utf8.{encode, next}
use Rattle.std.proofs.lemmas.Bool.{cases_lt}
use Rattle.std.proofs.lemmas.Bool.Decides.{nat_tests}
use Rattle.std.proofs.Common.{◌+◌, ◌/◌, ◌≤◌, arith, inl, inr, false, ◌≡◌, ℕ, List, [], ◌∷◌, ◌++◌, refl, sym, ◌∙◌, Some, None, Bool, true, IsUtf8, nat_le}
use Rattle.byte_grammar.specs.Bytes.{Each}
use Rattle.byte_grammar.specs.Fault.{IsViable}
use Rattle.byte_grammar.specs.Runs.{run}
use Rattle.byte_grammar.specs.Utf8.{follow, character_of, is_whole, rest_of}
use Rattle.byte_grammar.specs.Meaning.{GoesOn, TellsUtf8}
use Rattle.byte_grammar.specs.declared.characters.Character.{Character}
use Rattle.byte_grammar.specs.declared.characters.Character.TheVariants.{Whole, One, Two, Three, BehindE0, BehindEd, BehindF0, BehindF4}
use Rattle.byte_grammar.proofs.Runs.{joined, grown, run_none}
use Rattle.byte_grammar.proofs.Utf8Texts.{text_taken, taken_text, two, three, four}

-- they lead from a character to a whole one
pub rest_run : (c : Character) → run follow (Some c) (rest_of c) ≡ Some Whole
unfolding run
rest_run Whole = refl
rest_run One = refl
rest_run Two = refl
rest_run Three = refl
rest_run BehindE0 = refl
rest_run BehindEd = refl
rest_run BehindF0 = refl
rest_run BehindF4 = refl

-- a byte of a character of two bytes or more
abbrev pub is_high : ℕ → Bool
is_high b = nat_le 128 b

pub rest_high : (c : Character) → Each is_high (rest_of c)
unfolding Each
rest_high Whole = tt
rest_high One = (refl, tt)
rest_high Two = (refl, (refl, tt))
rest_high Three = (refl, (refl, (refl, tt)))
rest_high BehindE0 = (refl, (refl, tt))
rest_high BehindEd = (refl, (refl, tt))
rest_high BehindF0 = (refl, (refl, (refl, tt)))
rest_high BehindF4 = (refl, (refl, (refl, tt)))

-- the text is UTF-8 with them
pub whole_text : (w : List ℕ) (c : Character) → character_of w ≡ Some c → IsUtf8 (w ++ rest_of c)
whole_text w c e = taken_text (w ++ rest_of c) (joined follow (Some Whole) (Some c) w (rest_of c) e ∙ rest_run c)

pub viable : (front : List ℕ) (c : Character) → character_of front ≡ Some c → IsViable IsUtf8 front
viable front c e = (rest_of c, whole_text front c e)

pub not_viable : (front : List ℕ) → character_of front ≡ None → IsViable IsUtf8 front → ⊥
not_viable front e v =
    let a = text_taken (front ++ v.0) v.1 in
    let b = joined follow (Some Whole) None front v.0 e ∙ run_none follow v.0 in
    cc

pub goes_on : (c : Character) (b : ℕ) → GoesOn c b (follow c b)
goes_on c b = record {
  on = λ front d e f. grown follow (Some Whole) c front b e ∙ f;
  viable = λ front d e f. viable (front ++ b ∷ []) d (grown follow (Some Whole) c front b e ∙ f);
  stops = λ front e f v. not_viable (front ++ b ∷ []) (grown follow (Some Whole) c front b e ∙ f) v;
}

whole_is : (c : Character) → is_whole c ≡ true → c ≡ Whole
whole_is Whole h = refl
whole_is _ h = absurd cc

pub tells_utf8 : (c : Character) → TellsUtf8 c (is_whole c)
tells_utf8 c = record {
  text = λ front e h. taken_text front (rw (whole_is c h) at e);
  all = λ front e u.
      let a = text_taken front u in
      let g : Some c ≡ Some Whole = sym e ∙ a in
      let h : c ≡ Whole = cc in
      rw h refl;
}

-- a byte of a character that isn't whole
pub open_high : (c d : Character) (b : ℕ) → is_whole c ≡ false → follow c b ≡ Some d → is_high b ≡ true
open_high Whole d b h e = absurd cc
open_high One d b h e = grind (arith, nat_tests)
open_high Two d b h e = grind (arith, nat_tests)
open_high Three d b h e = grind (arith, nat_tests)
open_high BehindE0 d b h e = grind (arith, nat_tests)
open_high BehindEd d b h e = grind (arith, nat_tests)
open_high BehindF0 d b h e = grind (arith, nat_tests)
open_high BehindF4 d b h e = grind (arith, nat_tests)

-- the bytes of a character of two bytes or more
pub encode_high : (c : ℕ) → 128 ≤ c → Each is_high (encode c)
unfolding Each
encode_high c l = elim (cases_lt c 2048) [
  | inl h ↦ rw (two c l h) (high (192 + c / 64) (omega arith), (high (next c) (omega arith), tt))
  | inr h ↦ elim (cases_lt c 65536) [
    | inl k ↦ rw (three c h k) (high (224 + c / 4096) (omega arith), (high (next (c / 64)) (omega arith), (high (next c) (omega arith), tt)))
    | inr k ↦ rw (four c k) (high (240 + c / 262144) (omega arith), (high (next (c / 4096)) (omega arith), (high (next (c / 64)) (omega arith), (high (next c) (omega arith), tt))))
  ]
]
  where
    high : (b : ℕ) → 128 ≤ b → is_high b ≡ true
    high b h = grind (arith, nat_tests)
