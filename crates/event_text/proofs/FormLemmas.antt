-- Macros of titles stand where they are read.
use Rattle.std.proofs.Common.{◌≡◌, inl, inr, ℕ, suc, ◌-◌, ◌<◌, ◌≤◌, ◌==◌, ◌&&◌, Bool, true, false, cond, List, [], ◌∷◌, ◌++◌, length, drop, nat_eq, nat_le, nat_lt, refl, sym, ap, subst, ◌∙◌, arith, Option, Some, None, option_map, option_and_then, MatchOption, IfSome, Bor, codes}
use Rattle.std.specs.List.{starts_with}
use Rattle.std.specs.Option.{option_or}
use Rattle.std.specs.Str.Pattern.{FindsText, LacksTextAt, SplitsAroundMatch}
use Rattle.std.proofs.lemmas.List.{drop_at}
use Rattle.std.proofs.lemmas.Str.Pattern.{split_text_parts}
use Rattle.zbx_types.specs.Blanks.{is_blank, without_front}
use Rattle.event_text.specs.Pieces.{behind, ascii_first, EndsWith}
use Rattle.event_text.specs.Forms.{digit_place, place_with, place_of, item_name, item_at, prefixed, up_to, unquoted, closed_by, argument_from, argument_at, argument, with_output, with_pattern, filled_arguments, filled_name, filled_at, value_at, host_at, macro_at, piece_from, macro_piece_at, pieces_of}
use Rattle.event_text.specs.declared.macros.Macro.{Macro}
use Rattle.event_text.specs.declared.macros.Macro.TheVariants.{Host, Item, Filled}
use Rattle.event_text.proofs.PieceLemmas.{begins, begins_not, ends_more, ends_drop, ends_behind, ends_shorter, macro_step, brace_step}

-- what is read stands at the front of a text
abbrev pub Ends : {A : Type 0} → List ℕ → Option (A × List ℕ) → Type 0
Ends text o = IfSome o (λ r. EndsWith text r.1)

abbrev pub EndsAlone : List ℕ → Option (List ℕ) → Type 0
EndsAlone text o = IfSome o (λ rest. EndsWith text rest)

pub test_ends : {A : Type 0} (text : List ℕ) (b : Bool) (o p : Option (A × List ℕ)) → Ends text o → Ends text p → Ends text (cond b o p)
test_ends text true o p first second = first
test_ends text false o p first second = second

pub or_ends : {A : Type 0} (text : List ℕ) (o p : Option (A × List ℕ)) → Ends text o → Ends text p → Ends text (option_or o p)
or_ends text None p first second = second
or_ends text (Some r) p first second = first

further : {A : Type 0} (text mid : List ℕ) (o : Option (A × List ℕ)) → EndsWith text mid → Ends mid o → Ends text o
further text mid None ends h = tt
further text mid (Some r) ends h = ends_more text mid r.1 ends h

pub then_ends : {A B : Type 0} (text : List ℕ) (f : A × List ℕ → Option (B × List ℕ)) (o : Option (A × List ℕ))
    → Ends text o → ((r : A × List ℕ) → Ends r.1 (f r)) → Ends text (option_and_then f o)
then_ends text f None ends next = tt
then_ends text f (Some r) ends next = further text r.1 (f r) ends (next r)

alone_then : {B : Type 0} (text : List ℕ) (f : List ℕ → Option (B × List ℕ)) (o : Option (List ℕ))
    → EndsAlone text o → ((rest : List ℕ) → Ends rest (f rest)) → Ends text (option_and_then f o)
alone_then text f None ends next = tt
alone_then text f (Some rest) ends next = further text rest (f rest) ends (next rest)

pub alone_map : {B : Type 0} (text : List ℕ) (f : List ℕ → B) (o : Option (List ℕ)) → EndsAlone text o → Ends text (option_map (λ rest. (f rest, rest)) o)
alone_map text f None ends = tt
alone_map text f (Some rest) ends = ends

map_ends : {A B : Type 0} (text : List ℕ) (f : A × List ℕ → B) (o : Option (A × List ℕ)) → Ends text o → Ends text (option_map (λ r. (f r, r.1)) o)
map_ends text f None ends = tt
map_ends text f (Some r) ends = ends

cons_ends : {A : Type 0} (c : ℕ) (text : List ℕ) (o : Option (A × List ℕ)) → Ends text o → Ends (c ∷ text) o
cons_ends c text None ends = tt
cons_ends c text (Some r) ends = ends_behind c text r.1 ends

pub behind_ends : (word text : List ℕ) → EndsAlone text (behind word text)
unfolding behind
behind_ends word text = go (starts_with nat_eq text word) where
  go : (b : Bool) → EndsAlone text (cond b (Some (drop (length word) text)) None)
  go true = ends_drop text (length word)
  go false = tt

first_ends : (text : List ℕ) → Ends text (ascii_first text)
first_ends [] = tt
first_ends (c ∷ rest) = test_ends (c ∷ rest) (nat_lt c 128) (Some (c, rest)) None (c ∷ [], refl) tt

digit_ends : (c : ℕ) (rest : List ℕ) → Ends rest (digit_place c rest)
digit_ends c rest =
    test_ends rest (nat_le 49 c && nat_le c 57) (option_map (λ after. (c - 48, after)) (behind (codes "}") rest)) None
    (alone_map rest (λ _. c - 48) (behind (codes "}") rest) (behind_ends (codes "}") rest)) tt

with_ends : (r : ℕ × List ℕ) → Ends r.1 (place_with r)
with_ends r = test_ends r.1 (r.0 == 125) (Some (1, r.1)) (digit_place r.0 r.1) ([], refl) (digit_ends r.0 r.1)

place_ends : (text : List ℕ) → Ends text (place_of text)
place_ends text = then_ends text place_with (ascii_first text) (first_ends text) with_ends

name_ends : (text : List ℕ) → EndsAlone text (item_name text)
name_ends text = go (behind (codes "ITEM.VALUE") text) (behind_ends (codes "ITEM.VALUE") text) where
  go : (o : Option (List ℕ)) → EndsAlone text o → EndsAlone text (option_or o (behind (codes "ITEM.LASTVALUE") text))
  go None ends = behind_ends (codes "ITEM.LASTVALUE") text
  go (Some rest) ends = ends

item_ends : (text : List ℕ) → Ends text (item_at text)
unfolding item_at
item_ends text = alone_then text place_of (item_name text) (name_ends text) place_ends

prefixed_ends : (c : ℕ) (text : List ℕ) (o : Option (List ℕ × List ℕ)) → Ends text o → Ends (c ∷ text) (option_map (prefixed c) o)
prefixed_ends c text None ends = tt
prefixed_ends c text (Some r) ends = ends_behind c text r.1 ends

up_to_ends : (mark text : List ℕ) → Ends text (up_to mark text)
unfolding up_to
up_to_ends mark [] = tt
up_to_ends mark (c ∷ rest) =
    test_ends (c ∷ rest) (starts_with nat_eq (c ∷ rest) mark) (Some ([], drop (length mark) (c ∷ rest))) (option_map (prefixed c) (up_to mark rest))
    (ends_drop (c ∷ rest) (length mark)) (prefixed_ends c rest (up_to mark rest) (up_to_ends mark rest))

unquoted_ends : (text : List ℕ) → Ends text (unquoted text)
unfolding unquoted
unquoted_ends [] = tt
unquoted_ends (c ∷ []) = test_ends (c ∷ []) (c == 34) (Some ([], [])) None (c ∷ [], refl) tt
unquoted_ends (c ∷ d ∷ rest) =
    test_ends (c ∷ d ∷ rest) (c == 34) (Some ([], d ∷ rest))
    (cond (c == 92 && d == 34) (option_map (prefixed 34) (unquoted rest)) (option_map (prefixed c) (unquoted (d ∷ rest)))) (c ∷ [], refl)
    (test_ends (c ∷ d ∷ rest) (c == 92 && d == 34) (option_map (prefixed 34) (unquoted rest)) (option_map (prefixed c) (unquoted (d ∷ rest)))
    (cons_ends c (d ∷ rest) (option_map (prefixed 34) (unquoted rest)) (prefixed_ends_as 34 d rest (unquoted rest) (unquoted_ends rest)))
    (prefixed_ends c (d ∷ rest) (unquoted (d ∷ rest)) (unquoted_ends (d ∷ rest))))
  where
    prefixed_ends_as : (b c : ℕ) (text : List ℕ) (o : Option (List ℕ × List ℕ)) → Ends text o → Ends (c ∷ text) (option_map (prefixed b) o)
    prefixed_ends_as b c text None ends = tt
    prefixed_ends_as b c text (Some r) ends = ends_behind c text r.1 ends

closed_ends : (mark : List ℕ) (r : List ℕ × List ℕ) → Ends r.1 (closed_by mark r)
closed_ends mark r = alone_map r.1 (λ _. r.0) (behind mark r.1) (behind_ends mark r.1)

from_ends : (mark text : List ℕ) (o : Option (List ℕ)) → EndsAlone text o → Ends text (argument_from mark text o)
from_ends mark text None ends = up_to_ends mark text
from_ends mark text (Some rest) ends =
    further text rest (option_and_then (closed_by mark) (unquoted rest)) ends
    (then_ends rest (closed_by mark) (unquoted rest) (unquoted_ends rest) (closed_ends mark))

at_ends : (mark text : List ℕ) → Ends text (argument_at mark text)
at_ends mark text = from_ends mark text (behind (codes "\"") text) (behind_ends (codes "\"") text)

blanks_end : (text : List ℕ) → EndsWith text (without_front text)
blanks_end [] = ([], refl)
blanks_end (c ∷ rest) = go (is_blank c) (blanks_end rest) where
  go : (b : Bool) → EndsWith rest (without_front rest) → EndsWith (c ∷ rest) (cond b (without_front rest) (c ∷ rest))
  go true ends = ends_behind c rest (without_front rest) ends
  go false ends = ([], refl)

argument_ends : (mark text : List ℕ) → Ends text (argument mark text)
unfolding argument
argument_ends mark text = further text (without_front text) (argument_at mark (without_front text)) (blanks_end text) (at_ends mark (without_front text))

output_ends : (place : ℕ) (pattern text : List ℕ) → Ends text (with_output place pattern text)
unfolding with_output
output_ends place pattern text = map_ends text (λ r. Filled place pattern r.0) (argument (codes ")}") text) (argument_ends (codes ")}") text)

pattern_ends : (place : ℕ) (text : List ℕ) → Ends text (with_pattern place text)
unfolding with_pattern
pattern_ends place text =
    then_ends text (λ r. with_output place r.0 r.1) (argument (codes ",") text) (argument_ends (codes ",") text) (λ r. output_ends place r.0 r.1)

arguments_end : (r : ℕ × List ℕ) → Ends r.1 (filled_arguments r)
arguments_end r = alone_map r.1 (λ _. r.0) (behind (codes ".regsub(") r.1) (behind_ends (codes ".regsub(") r.1)

filled_name_ends : (text : List ℕ) → Ends text (filled_name text)
filled_name_ends text =
    then_ends text filled_arguments (option_and_then item_at (behind (codes "{") text))
    (alone_then text item_at (behind (codes "{") text) (behind_ends (codes "{") text) item_ends) arguments_end

filled_ends : (text : List ℕ) → Ends text (filled_at text)
unfolding filled_at
filled_ends text = then_ends text (λ r. with_pattern r.0 r.1) (filled_name text) (filled_name_ends text) (λ r. pattern_ends r.0 r.1)

value_ends : (text : List ℕ) → Ends text (value_at text)
unfolding value_at
value_ends text = map_ends text (λ r. Item r.0) (item_at text) (item_ends text)

host_ends : (text : List ℕ) → Ends text (host_at text)
unfolding host_at
host_ends text = alone_map text (λ _. Host) (behind (codes "HOST.NAME}") text) (behind_ends (codes "HOST.NAME}") text)

pub macro_ends : (text : List ℕ) → Ends text (macro_at text)
unfolding macro_at
macro_ends text =
    or_ends text (option_or (host_at text) (value_at text)) (filled_at text)
    (or_ends text (host_at text) (value_at text) (host_ends text) (value_ends text)) (filled_ends text)

ends_of : (text after : List ℕ) (found : Macro) → macro_at text ≡ Some (found, after) → EndsWith text after
ends_of text after found is = subst (λ o. Ends text o) is (macro_ends text)

-- a macro behind a brace is the first piece
pub macro_piece : (text after : List ℕ) (found : Macro) → macro_at text ≡ Some (found, after) → pieces_of (123 ∷ text) ≡ inr found ∷ pieces_of after
macro_piece text after found is = macro_step inl macro_piece_at text after (inr found) (ap (option_map piece_from) is) (ends_of text after found is)

pub macro_shorter : (text after : List ℕ) (found : Macro) → macro_at text ≡ Some (found, after) → length after ≤ length text
macro_shorter text after found is = omega (arith, ends_shorter text after (ends_of text after found is))

-- a brace that begins no macro stays
pub brace_piece : (text : List ℕ) → macro_at text ≡ None → pieces_of (123 ∷ text) ≡ inl 123 ∷ pieces_of text
brace_piece text none = brace_step inl macro_piece_at text (ap (option_map piece_from) none)

-- where a mark stands first
up_to_found : (mark front rest : List ℕ) → 0 < length mark → ((i : ℕ) → i < length front → LacksTextAt mark (front ++ (mark ++ rest)) i)
    → up_to mark (front ++ (mark ++ rest)) ≡ Some (front, rest)
unfolding up_to
up_to_found [] front rest some lacks = absurd (omega arith)
up_to_found (d ∷ ds) [] rest some lacks =
    ap (λ b. cond b (Some ([], drop (length (d ∷ ds)) ((d ∷ ds) ++ rest))) (option_map (prefixed d) (up_to (d ∷ ds) (ds ++ rest))))
    (begins ((d ∷ ds) ++ rest) (d ∷ ds) rest refl)
    ∙ ap (λ t. Some ([], t)) (drop_at (d ∷ ds) rest (length (d ∷ ds)) refl)
up_to_found (d ∷ ds) (c ∷ front) rest some lacks =
    let all = front ++ ((d ∷ ds) ++ rest) in
    ap (λ b. cond b (Some ([], drop (length (d ∷ ds)) (c ∷ all))) (option_map (prefixed c) (up_to (d ∷ ds) all)))
    (begins_not (c ∷ all) (d ∷ ds) (lacks 0 (omega arith)))
    ∙ ap (λ o. option_map (prefixed c) o) (up_to_found (d ∷ ds) front rest some (λ i below. lacks (suc i) (omega arith)))

up_to_none : (mark text : List ℕ) → ((i : ℕ) → i ≤ length text → LacksTextAt mark text i) → up_to mark text ≡ None
unfolding up_to
up_to_none mark [] lacks = refl
up_to_none mark (c ∷ rest) lacks =
    ap (λ b. cond b (Some ([], drop (length mark) (c ∷ rest))) (option_map (prefixed c) (up_to mark rest))) (begins_not (c ∷ rest) mark (lacks 0 (omega arith)))
    ∙ ap (λ o. option_map (prefixed c) o) (up_to_none mark rest (λ i within. lacks (suc i) (omega arith)))

-- what a split at a mark gives
pub split_up_to : (text mark : List ℕ) (r : Option (Bor (List ℕ) × Bor (List ℕ))) → 0 < length mark
    → MatchOption r (FindsText mark text None) (λ x. SplitsAroundMatch (FindsText mark) text x.0.now x.1.now)
    → option_map (λ x. (x.0.now, x.1.now)) r ≡ up_to mark text
split_up_to text mark None some h = sym (up_to_none mark text h)
split_up_to text mark (Some x) some h =
    let whole : text ≡ x.0.now ++ (mark ++ x.1.now) = split_text_parts mark text (Some x) h in
    let lacks : (k : ℕ) → k < length x.0.now → LacksTextAt mark (x.0.now ++ (mark ++ x.1.now)) k =
    λ k below. subst (λ t. LacksTextAt mark t k) whole (h.2.0 k (omega (arith, h.6))) in
    sym (ap (up_to mark) whole ∙ up_to_found mark x.0.now x.1.now some lacks)
