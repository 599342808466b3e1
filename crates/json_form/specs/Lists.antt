-- Lists of a document.
use Rattle.std.specs.Prelude.{ℕ, suc, nat_le, List, [], ◌∷◌, ◌++◌, length, Option, Some, None, option_and_then, Result, Ok, codes, if◌then◌else◌}
use Rattle.std.specs.Fmt.{decimal}
use Rattle.serde_json.specs.Data.{Data, Items, no_items, item}
use Rattle.serde_json.specs.Find.{as_array}
use Rattle.serde_json.specs.declared.value.Value.{Value}
use Rattle.serde_json.specs.View.{items_view}
use Rattle.zbx_types.specs.declared.causes.Cause.{Cause}
use Rattle.zbx_types.specs.declared.causes.Cause.TheVariants.{BadMember}
use Rattle.json_form.specs.Faults.{Fault, ◌>>=◌}
use Rattle.json_form.specs.Places.{Place, spot, refuse, or_bad, given_or}

-- how many elements there are
abbrev pub count : Items → ℕ
count no_items = 0
count (item d ds) = suc (count ds)

-- the elements that a call gave
abbrev pub match_items : Option (List Value) → Items
match_items None = no_items
match_items (Some vs) = items_view vs

-- the elements of a list, none where nothing stands
unfoldable pub elements : Place → Result Items Fault
elements at = given_or no_items (λ p. or_bad p (option_and_then as_array p.value)) at

-- the place, where its elements are no more than this
abbrev pub few : ℕ → Cause → Place → Items → Result Place Fault
few limit cause at ds = if nat_le (count ds) limit then Ok at else refuse at cause

-- a place whose list has at most so many elements, or else this is wrong there
unfoldable pub at_most : ℕ → Cause → Place → Result Place Fault
at_most limit cause at = elements at >>= λ ds. few limit cause at ds

-- the place, where it has an element
abbrev pub some : Place → Items → Result Place Fault
some at ds = if nat_le 1 (count ds) then Ok at else refuse at BadMember

-- a place whose list has an element, or else a bad member
unfoldable pub not_empty : Place → Result Place Fault
not_empty at = elements at >>= λ ds. some at ds

-- the place of an element, counted from 0
abbrev pub element_place : List ℕ → ℕ → Data → Place
element_place path index d = spot (path ++ codes "/" ++ decimal index) d

-- each element in order, behind those already read
abbrev pub read_on : {A : Type 0} → (Place → Result A Fault) → List ℕ → List A → Items → Result (List A) Fault
read_on read path before no_items = Ok before
read_on read path before (item d ds) = read (element_place path (length before) d) >>= λ a. read_on read path (before ++ a ∷ []) ds

-- a list
unfoldable pub list_of : {A : Type 0} → (Place → Result A Fault) → Place → Result (List A) Fault
list_of read at = elements at >>= λ ds. read_on read at.path [] ds

-- each element in order, read with the names that those before it have taken
abbrev pub named_on : {A : Type 0} → (A → List ℕ) → (List (List ℕ) → Place → Result A Fault) → List ℕ → List (List ℕ) → List A → Items → Result (List A) Fault
named_on name read path taken before no_items = Ok before
named_on name read path taken before (item d ds) = read taken (element_place path (length before) d) >>= λ a. named_on name read path (taken ++ name a ∷ []) (before ++ a ∷ []) ds

-- a list of things with distinct names, none of them taken before
unfoldable pub named_list : {A : Type 0} → (A → List ℕ) → (List (List ℕ) → Place → Result A Fault) → List (List ℕ) → Place → Result (List A) Fault
named_list name read taken at = elements at >>= λ ds. named_on name read at.path taken [] ds

-- each element in order, read with what those before it left
abbrev pub following_on : {A P : Type 0} → (P → A → P) → (P → Place → Result A Fault) → List ℕ → P → List A → Items → Result (List A) Fault
following_on after read path past before no_items = Ok before
following_on after read path past before (item d ds) = read past (element_place path (length before) d) >>= λ a. following_on after read path (after past a) (before ++ a ∷ []) ds

-- a list whose elements are read with what those before them left
unfoldable pub following_list : {A P : Type 0} → (P → A → P) → (P → Place → Result A Fault) → P → Place → Result (List A) Fault
following_list after read past at = elements at >>= λ ds. following_on after read at.path past [] ds
