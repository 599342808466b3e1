-- Names of functions.
use Rattle.std.proofs.Common.{◌≡◌, ℕ, ◌<◌, List, [], ◌∷◌, ◌++◌, refl, sym, Bool, true, false, nat_le, Some, inl, inr, ◌⊎◌, if◌then◌else◌, subst}
use Rattle.zbx_types.specs.declared.calls.Fun.{Fun}
use Rattle.zbx_types.specs.declared.calls.Fun.TheVariants.{Last, First, Min, Max, Avg, Sum, Change, Count, Find, NoData, Percentile, ChangeCount, MonoInc, MonoDec, Now, Time, Date, DayOfWeek, DayOfMonth}
use Rattle.expr_parser.specs.Functions.{name_of}
use Rattle.expr_parser.specs.Calls.{is_one_of}
use Rattle.expr_parser.specs.Parts.{is_front, begins_one}
use Rattle.expr_parser.specs.Machine.{names, first_functions, second_functions, begins_name, function_of, is_begun, not_word}
use Rattle.expr_parser.proofs.Lists.{way, le_false}
use Rattle.expr_parser.proofs.PartPaths.{begins_front}

-- letters, none of them a parenthesis or a blank
abbrev pub are_letters : List ℕ → Bool
are_letters [] = true
are_letters (b ∷ bs) = if nat_le b 96 then false else are_letters bs

pub letters_first : (b : ℕ) (bs : List ℕ) → are_letters (b ∷ bs) ≡ true → (96 < b) × (are_letters bs ≡ true)
letters_first b bs h = elim (way (nat_le b 96) false (are_letters bs) true h) [ inl z ↦ absurd (let k = z.1 in cc) | inr z ↦ (le_false b 96 z.0, z.1) ]

-- the name of a function
pub record Named (f : Fun) : Type 0 where
  pub first : ℕ
  pub rest : List ℕ
  pub is : name_of f ≡ first ∷ rest
  pub letters : are_letters (name_of f) ≡ true
  pub found : function_of (name_of f) ≡ Some f
  pub listed : (is_one_of (names first_functions) (name_of f) ≡ true) ⊎ (is_one_of (names second_functions) (name_of f) ≡ true)

pub named : (f : Fun) → Named f
named Last = record { first = 108; rest = 97 ∷ 115 ∷ 116 ∷ []; is = refl; letters = refl; found = refl; listed = inl refl }
named First = record { first = 102; rest = 105 ∷ 114 ∷ 115 ∷ 116 ∷ []; is = refl; letters = refl; found = refl; listed = inl refl }
named Min = record { first = 109; rest = 105 ∷ 110 ∷ []; is = refl; letters = refl; found = refl; listed = inl refl }
named Max = record { first = 109; rest = 97 ∷ 120 ∷ []; is = refl; letters = refl; found = refl; listed = inl refl }
named Avg = record { first = 97; rest = 118 ∷ 103 ∷ []; is = refl; letters = refl; found = refl; listed = inl refl }
named Sum = record { first = 115; rest = 117 ∷ 109 ∷ []; is = refl; letters = refl; found = refl; listed = inl refl }
named Change = record { first = 99; rest = 104 ∷ 97 ∷ 110 ∷ 103 ∷ 101 ∷ []; is = refl; letters = refl; found = refl; listed = inl refl }
named Count = record { first = 99; rest = 111 ∷ 117 ∷ 110 ∷ 116 ∷ []; is = refl; letters = refl; found = refl; listed = inl refl }
named Find = record { first = 102; rest = 105 ∷ 110 ∷ 100 ∷ []; is = refl; letters = refl; found = refl; listed = inl refl }
named NoData = record { first = 110; rest = 111 ∷ 100 ∷ 97 ∷ 116 ∷ 97 ∷ []; is = refl; letters = refl; found = refl; listed = inl refl }
named Percentile = record { first = 112; rest = 101 ∷ 114 ∷ 99 ∷ 101 ∷ 110 ∷ 116 ∷ 105 ∷ 108 ∷ 101 ∷ []; is = refl; letters = refl; found = refl; listed = inr refl }
named ChangeCount = record { first = 99; rest = 104 ∷ 97 ∷ 110 ∷ 103 ∷ 101 ∷ 99 ∷ 111 ∷ 117 ∷ 110 ∷ 116 ∷ []; is = refl; letters = refl; found = refl; listed = inr refl }
named MonoInc = record { first = 109; rest = 111 ∷ 110 ∷ 111 ∷ 105 ∷ 110 ∷ 99 ∷ []; is = refl; letters = refl; found = refl; listed = inr refl }
named MonoDec = record { first = 109; rest = 111 ∷ 110 ∷ 111 ∷ 100 ∷ 101 ∷ 99 ∷ []; is = refl; letters = refl; found = refl; listed = inr refl }
named Now = record { first = 110; rest = 111 ∷ 119 ∷ []; is = refl; letters = refl; found = refl; listed = inr refl }
named Time = record { first = 116; rest = 105 ∷ 109 ∷ 101 ∷ []; is = refl; letters = refl; found = refl; listed = inr refl }
named Date = record { first = 100; rest = 97 ∷ 116 ∷ 101 ∷ []; is = refl; letters = refl; found = refl; listed = inr refl }
named DayOfWeek = record { first = 100; rest = 97 ∷ 121 ∷ 111 ∷ 102 ∷ 119 ∷ 101 ∷ 101 ∷ 107 ∷ []; is = refl; letters = refl; found = refl; listed = inr refl }
named DayOfMonth = record { first = 100; rest = 97 ∷ 121 ∷ 111 ∷ 102 ∷ 109 ∷ 111 ∷ 110 ∷ 116 ∷ 104 ∷ []; is = refl; letters = refl; found = refl; listed = inr refl }

name_begins : (w : List ℕ) → (begins_one (names first_functions) w ≡ true) ⊎ (begins_one (names second_functions) w ≡ true) → begins_name w ≡ true
name_begins w (inl h) = rw h refl
name_begins w (inr h) = at (begins_one (names first_functions) w) h
  where
    at : (c : Bool) → begins_one (names second_functions) w ≡ true → (if c then true else begins_one (names second_functions) w) ≡ true
    at true h = refl
    at false h = h

-- each front of a name may be begun
pub front_begins : (f : Fun) (nots : Bool) (a b : List ℕ) → a ++ b ≡ name_of f → is_begun nots true a ≡ true
front_begins f nots a b e = rw (name_begins a (at (named f).listed)) refl
  where
    at : (is_one_of (names first_functions) (name_of f) ≡ true) ⊎ (is_one_of (names second_functions) (name_of f) ≡ true) → (begins_one (names first_functions) a ≡ true) ⊎ (begins_one (names second_functions) a ≡ true)
    at (inl h) = inl (begins_front (names first_functions) a b (subst (λ (v : List ℕ). is_one_of (names first_functions) v ≡ true) (sym e) h))
    at (inr h) = inr (begins_front (names second_functions) a b (subst (λ (v : List ℕ). is_one_of (names second_functions) v ≡ true) (sym e) h))

-- each front of `not` may be begun, where it may stand
pub not_begins : (room : Bool) (w : List ℕ) → is_front w not_word ≡ true → is_begun true room w ≡ true
not_begins room w h = at (if room then begins_name w else false)
  where
    at : (c : Bool) → (if c then true else is_front w not_word) ≡ true
    at true = refl
    at false = h
