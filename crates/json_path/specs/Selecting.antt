-- What a path selects (the Zabbix 6.0 manual, "JSONPath functionality").
use Rattle.std.specs.Prelude.{ℕ, ◌+◌, ℤ, pos, negsuc, ◌+ℤ◌, int_le, int_lt, Bool, true, false, ◌&&◌, List, [], ◌∷◌}
use Rattle.std.specs.Prelude.{◌++◌, length, filter, flat_map, slice_get, Option, Some, None, if◌then◌else◌}
use Rattle.std.specs.Option.{option_to_list}
use Rattle.json_text.specs.Json.{Json}
use Rattle.json_path.specs.Contents.{elements_of, contents_of, all_within}
use Rattle.json_path.specs.Comparing.{member_named, condition_holds}
use Rattle.json_path.specs.declared.path.Segment.{Segment}
use Rattle.json_path.specs.declared.path.Selector.{Selector}
use Rattle.json_path.specs.declared.path.Selector.TheVariants.{Names, Indexes, Slice, All, Where}

-- a place that counts from 0, or from the end where it is negative, as one that counts from 0
abbrev pub from_front : ℕ → ℤ → ℤ
from_front count place = if int_lt place (pos 0) then pos count +ℤ place else place

-- the elements from a place on up to but not with another, where they stand from this place on
abbrev pub elements_between : ℤ → ℤ → ℕ → List Json → List Json
elements_between from to place [] = []
elements_between from to place (j ∷ js) =
    (if int_le from (pos place) && int_lt (pos place) to then j ∷ [] else []) ++ elements_between from to (place + 1) js

-- the element at a place that counts from 0, if there is one
abbrev pub element_from_front : List Json → ℤ → Option Json
element_from_front js (pos n) = slice_get js n
element_from_front js (negsuc n) = None

-- the element at a place, if there is one
abbrev pub element_at : List Json → ℤ → Option Json
element_at js place = element_from_front js (from_front (length js) place)

-- where a slice begins: at the front, where no beginning is written
abbrev pub begins_at : ℕ → Option ℤ → ℤ
begins_at count None = pos 0
begins_at count (Some place) = from_front count place

-- where a slice ends: behind the last element, where no end is written
abbrev pub ends_at : ℕ → Option ℤ → ℤ
ends_at count None = pos count
ends_at count (Some place) = from_front count place

-- the elements of a slice
unfoldable pub slice_of : Option ℤ → Option ℤ → List Json → List Json
slice_of from to js = elements_between (begins_at (length js) from) (ends_at (length js) to) 0 js

-- what a selector takes from a value
unfoldable pub taken_by : Selector → Json → List Json
taken_by (Names names) j = flat_map (λ name. option_to_list (member_named name j)) names
taken_by (Indexes places) j = flat_map (λ place. option_to_list (element_at (elements_of j) place)) places
taken_by (Slice from to) j = slice_of from to (elements_of j)
taken_by All j = contents_of j
taken_by (Where condition) j = filter (condition_holds condition) (contents_of j)

-- a value, or behind `..` a value and all inside it
abbrev pub reached_by : Bool → Json → List Json
reached_by false j = j ∷ []
reached_by true j = all_within j

-- what a segment selects from a value
unfoldable pub selected_by : Segment → Json → List Json
selected_by s j = flat_map (taken_by s.selector) (reached_by s.deep j)

-- what segments, one after the other, select from some values, in order
abbrev pub selected_from : List Segment → List Json → List Json
selected_from [] js = js
selected_from (s ∷ ss) js = selected_from ss (flat_map (selected_by s) js)
