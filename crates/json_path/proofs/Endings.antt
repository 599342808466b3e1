-- From each state of a path, some bytes lead to the end of one.
use Rattle.std.proofs.Common.{◌≡◌, ℕ, List, [], ◌∷◌, ◌++◌, refl, ap, Some, None, Bool, true, false, arith}
use Rattle.byte_grammar.specs.declared.characters.Character.TheVariants.{Whole}
use Rattle.json_path.specs.declared.tokens.Spelling.{Spelling}
use Rattle.json_path.specs.declared.tokens.Quotation.{Quotation}
use Rattle.json_path.specs.declared.numbers.Part.TheVariants.{Zero}
use Rattle.json_path.specs.declared.path.Path.{Path}
use Rattle.json_path.specs.declared.path.Segment.{Segment}
use Rattle.json_path.specs.declared.path.Condition.{Condition}
use Rattle.json_path.specs.declared.path.Comparison.{Comparison}
use Rattle.json_path.specs.declared.path.Comparison.TheVariants.{Eq, Ne, Le, Ge}
use Rattle.json_path.specs.declared.path.Literal.TheVariants.{Words, Number}
use Rattle.json_path.specs.declared.path.Selector.{Selector}
use Rattle.json_path.specs.declared.path.Selector.TheVariants.{Names, Indexes, Slice, All, Where}
use Rattle.json_path.specs.declared.conditions.Checking.{Checking}
use Rattle.json_path.specs.declared.conditions.Checking.TheVariants as at
use Rattle.json_path.specs.declared.brackets.InBrackets.{InBrackets}
use Rattle.json_path.specs.declared.brackets.InBrackets.TheVariants as within
use Rattle.json_path.specs.declared.places.Place.{Place}
use Rattle.json_path.specs.declared.places.Place.TheVariants.{Start, Behind, Point, Points, Name, Inside, Call, Called}
use Rattle.json_path.specs.declared.places.State.{State}
use Rattle.byte_grammar.specs.Bytes.{is_space}
use Rattle.json_path.specs.Tokens.{unspelt, quotation, checked, integer}
use Rattle.json_path.specs.Machine.{condition_goes, selector_goes, state, segment, step, ends}
use Rattle.json_path.proofs.Checked.{utf8_checked}
use Rattle.byte_grammar.proofs.Utf8Texts.{one_byte}
use Rattle.byte_grammar.specs.Runs.{run}
use Rattle.byte_grammar.proofs.Runs.{lifted_all}
use Rattle.json_path.proofs.TokenRuns.{spelling, digits_so, numeral_so}
use Rattle.json_path.proofs.ConditionRuns.{check_step, condition_of, condition_met, point_names, bracket_quotes, operand_quotes, operand_numbers}
use Rattle.json_path.proofs.SelectorRuns.{open_choice, choose_step, said, closes, next_quotes, next_integers, bound_integers, in_condition}
use Rattle.json_path.proofs.PathRuns.{inside_on, member_names, pointed}
use Rattle.byte_grammar.proofs.Bytes.{each_none}
use Rattle.json_path.proofs.TokenPasts.{IsSpelt}
use Rattle.json_path.proofs.ConditionPasts.{CheckPast}
use Rattle.json_path.proofs.SelectorPasts.{ChoicePast}
use Rattle.json_path.proofs.PathPasts.{PlacePast}
use Rattle.byte_grammar.specs.Utf8.{rest_of}
use Rattle.json_path.proofs.Finishing.{name_done, Leads, here, by_way, by_byte, quote_done, digits_done, number_done}

-- a whole condition
abbrev Conditional : Checking → Type 0
Conditional m = (c : Condition) × (condition_of m ≡ Some c)

compared : (c : Condition) → Leads check_step (at.Compared c) Conditional
compared c = here check_step (at.Compared c) Conditional (c, refl)

zero_checked : checked (48 ∷ []) ≡ Some (48 ∷ [])
zero_checked = utf8_checked (48 ∷ []) (one_byte 48 (omega arith))

at_operand : (ns : List (List ℕ)) (op : Comparison) → Leads check_step (at.Operand ns op) Conditional
at_operand ns op = by_byte check_step (at.Operand ns op) (at.Numbered ns op (numeral_so Zero (48 ∷ []))) Conditional 48 refl
    (here check_step (at.Numbered ns op (numeral_so Zero (48 ∷ []))) Conditional (record { names = ns; op = op; literal = Number (48 ∷ []) }, rw zero_checked refl))

at_equal : (ns : List (List ℕ)) → Leads check_step (at.Equal ns) Conditional
at_equal ns = by_byte check_step (at.Equal ns) (at.Operand ns Eq) Conditional 61 refl (at_operand ns Eq)

at_member : (ns : List (List ℕ)) → Leads check_step (at.Member ns) Conditional
at_member ns = by_byte check_step (at.Member ns) (at.Equal ns) Conditional 61 refl (at_equal ns)

at_bracketed : (ns : List (List ℕ)) → Leads check_step (at.Bracketed ns) Conditional
at_bracketed ns = by_byte check_step (at.Bracketed ns) (at.Member ns) Conditional 93 refl (at_member ns)

at_name : (ns : List (List ℕ)) (s : Spelling) → IsSpelt s → Leads check_step (at.Name ns s) Conditional
at_name ns s h =
    let z = name_done check_step (at.Point ns) (at.Name ns) (point_names ns) s h in
    let w = s.bytes ++ rest_of s.character in
    by_way check_step (at.Name ns s) (at.Name ns (spelling w Whole)) Conditional (rest_of s.character) z.0
    (by_byte check_step (at.Name ns (spelling w Whole)) (at.Equal (ns ++ w ∷ [])) Conditional 61 (rw z.1 refl) (at_equal (ns ++ w ∷ [])))

letter_spelt : IsSpelt (spelling (97 ∷ []) Whole)
unfolding run
letter_spelt = refl

at_quote : (ns : List (List ℕ)) (d : Bool) (q : Quotation) → IsSpelt q.spelling → Leads check_step (at.Quote ns q) Conditional
at_quote ns d q h = quote_done check_step (at.Bracket ns) (at.Quote ns) (λ w. at.Bracketed (ns ++ w ∷ [])) (bracket_quotes ns) Conditional (λ w. at_bracketed (ns ++ w ∷ [])) d q h

unspelt_quote : IsSpelt unspelt
unfolding run
unspelt_quote = refl

-- from each state of a condition some bytes lead to a whole one
condition_done : (m : Checking) (u : List ℕ) → CheckPast m u → Leads check_step m Conditional
condition_done at.Before u k = by_byte check_step at.Before (at.Member []) Conditional 64 refl (at_member [])
condition_done (at.Member ns) u k = at_member ns
condition_done (at.Point ns) u k = by_byte check_step (at.Point ns) (at.Name ns (spelling (97 ∷ []) Whole)) Conditional 97 refl (at_name ns (spelling (97 ∷ []) Whole) letter_spelt)
condition_done (at.Name ns s) u k = at_name ns s k.4.spelt
condition_done (at.Bracket ns) u k = by_byte check_step (at.Bracket ns) (at.Quote ns (quotation true)) Conditional 34 refl (at_quote ns true (quotation true) unspelt_quote)
condition_done (at.Quote ns q) u k = at_quote ns k.2 q k.6.spelt
condition_done (at.Bracketed ns) u k = at_bracketed ns
condition_done (at.Equal ns) u k = at_equal ns
condition_done (at.Not ns) u k = by_byte check_step (at.Not ns) (at.Operand ns Ne) Conditional 61 refl (at_operand ns Ne)
condition_done (at.Less ns) u k = by_byte check_step (at.Less ns) (at.Operand ns Le) Conditional 61 refl (at_operand ns Le)
condition_done (at.Greater ns) u k = by_byte check_step (at.Greater ns) (at.Operand ns Ge) Conditional 61 refl (at_operand ns Ge)
condition_done (at.Operand ns op) u k = at_operand ns op
condition_done (at.Quoted ns op q) u k =
    quote_done check_step (at.Operand ns op) (at.Quoted ns op) (λ w. at.Compared (record { names = ns; op = op; literal = Words w })) (operand_quotes ns op) Conditional (λ w. compared (record { names = ns; op = op; literal = Words w })) k.2 q k.6.spelt
condition_done (at.Numbered ns op n) u k =
    number_done check_step (at.Operand ns op) (at.Numbered ns op) Conditional (operand_numbers ns op)
    (λ p t e c. here check_step (at.Numbered ns op (numeral_so p t)) Conditional (record { names = ns; op = op; literal = Number t }, rw (e, c) refl)) n.part n.bytes k.4
condition_done (at.Compared c) u k = compared c

-- a whole selector
abbrev Chooses : InBrackets → Type 0
Chooses m = (s : Selector) × (said m ≡ Some s)

whole : (m : InBrackets) (s : Selector) → said m ≡ Some s → Leads choose_step m Chooses
whole m s e = here choose_step m Chooses (s, e)

in_quote : (ns : List (List ℕ)) (q : Quotation) → IsSpelt q.spelling → Leads choose_step (within.Quote ns q) Chooses
in_quote ns q h = quote_done choose_step (within.NextName ns) (within.Quote ns) (λ w. within.Named (ns ++ w ∷ [])) (next_quotes ns) Chooses (λ w. whole (within.Named (ns ++ w ∷ [])) (Names (ns ++ w ∷ [])) refl) true q h

check_done : (m : Checking) (u : List ℕ) → CheckPast m u → Leads choose_step (within.Condition m) Chooses
check_done m u k =
    let l = condition_done m u k in
    let c = l.fact.0 in
    by_way choose_step (within.Condition m) (within.Condition l.state) Chooses l.more (lifted_all check_step choose_step within.Condition in_condition m l.state l.more l.is)
    (by_byte choose_step (within.Condition l.state) (within.Whole (Where c)) Chooses 41 (ap (λ z. open_choice (condition_goes z)) (condition_met l.state c l.fact.1)) (whole (within.Whole (Where c)) (Where c) refl))

-- from each state of a selector some bytes lead to a whole one
selector_done : (m : InBrackets) (u : List ℕ) → ChoicePast m u → Leads choose_step m Chooses
selector_done within.Before u k = by_byte choose_step within.Before (within.Whole All) Chooses 42 refl (whole (within.Whole All) All refl)
selector_done (within.Quote ns q) u k = in_quote ns q k.4.spelt
selector_done (within.Named ns) u k = whole (within.Named ns) (Names ns) refl
selector_done (within.NextName ns) u k = by_byte choose_step (within.NextName ns) (within.Quote ns (quotation true)) Chooses 34 refl (in_quote ns (quotation true) unspelt_quote)
selector_done (within.Index is n) u k = digits_done choose_step (within.Index is) Chooses (next_integers is).goes (λ r e. whole (within.Index is r) (Indexes (is ++ integer r ∷ [])) (rw e refl)) n k.1 k.3
selector_done (within.Counted is) u k = whole (within.Counted is) (Indexes is) refl
selector_done (within.NextIndex is) u k = by_byte choose_step (within.NextIndex is) (within.Index is (digits_so false 0)) Chooses 48 refl (whole (within.Index is (digits_so false 0)) (Indexes (is ++ integer (digits_so false 0) ∷ [])) refl)
selector_done (within.From f) u k = whole (within.From f) (Slice f None) refl
selector_done (within.To f n) u k = digits_done choose_step (within.To f) Chooses (bound_integers f).goes (λ r e. whole (within.To f r) (Slice f (Some (integer r))) (rw e refl)) n k.2 k.5
selector_done within.Question u k = by_byte choose_step within.Question (within.Condition at.Before) Chooses 40 refl (check_done at.Before [] (each_none is_space))
selector_done (within.Condition c) u k = check_done c k.1 k.3
selector_done (within.Whole s) u k = whole (within.Whole s) s refl

-- a whole path
abbrev pub Ends : State → Type 0
Ends s = (path : Path) × (ends s ≡ Some path)

over : (done : List Segment) (p : Place) (path : Path) → ends (state done p) ≡ Some path → Leads step (state done p) Ends
over done p path e = here step (state done p) Ends (path, e)

at_behind : (done : List Segment) → Leads step (state done Behind) Ends
at_behind done = over done Behind (record { segments = done; function = None }) refl

-- from each state some bytes lead to the end of a path
pub path_done : (done : List Segment) (p : Place) (q : List ℕ) → PlacePast done p q → Leads step (state done p) Ends
path_done done Start q k = by_byte step (state done Start) (state done Behind) Ends 36 refl (at_behind done)
path_done done Behind q k = at_behind done
path_done done Point q k = by_byte step (state done Point) (state (done ++ segment false All ∷ []) Behind) Ends 42 refl (at_behind (done ++ segment false All ∷ []))
path_done done Points q k = by_byte step (state done Points) (state (done ++ segment true All ∷ []) Behind) Ends 42 refl (at_behind (done ++ segment true All ∷ []))
path_done done (Name deep s) q k =
    let z = name_done step (state done (pointed deep)) (λ s. state done (Name deep s)) (member_names done deep) s k.2.spelt in
    let w = s.bytes ++ rest_of s.character in
    by_way step (state done (Name deep s)) (state done (Name deep (spelling w Whole))) Ends (rest_of s.character) z.0
    (over done (Name deep (spelling w Whole)) (record { segments = done ++ segment deep (Names (w ∷ [])) ∷ []; function = None }) (rw z.1 refl))
path_done done (Inside deep w) q k =
    let l = selector_done w k.1 k.3 in
    let s = l.fact.0 in
    by_way step (state done (Inside deep w)) (state done (Inside deep l.state)) Ends l.more (lifted_all choose_step step (λ m. state done (Inside deep m)) (inside_on done deep) w l.state l.more l.is)
    (by_byte step (state done (Inside deep l.state)) (state (done ++ segment deep s ∷ []) Behind) Ends 93 (ap (λ c. selector_goes done deep c) (closes l.state s l.fact.1)) (at_behind (done ++ segment deep s ∷ [])))
path_done done (Call f) q k = by_byte step (state done (Call f)) (state done (Called f)) Ends 41 refl (over done (Called f) (record { segments = done; function = Some f }) refl)
path_done done (Called f) q k = over done (Called f) (record { segments = done; function = Some f }) refl
