-- Places of a document, and what is read at one: a value, or the fault of the place.
use Rattle.std.specs.Prelude.{◌≡◌, ℕ, ◌==◌, nat_le, ◌&&◌, ℤ, int_le, List, [], ◌++◌, Bool, Option, Some, None, option_map, option_and_then, Result, Ok, Err, codes, if◌then◌else◌}
use Rattle.std.specs.List.{flat_map, list_any}
use Rattle.std.specs.Char.{encode_utf8}
use Rattle.std.specs.Str.{bytes_eq, chars}
use Rattle.serde_json.specs.Data.{Data, null, boolean, number, string, array, object}
use Rattle.serde_json.specs.Find.{get, as_str, as_bool, as_number, as_i64, as_u64}
use Rattle.serde_json.specs.View.{view}
use Rattle.zbx_types.specs.declared.causes.Cause.{Cause}
use Rattle.zbx_types.specs.declared.causes.Cause.TheVariants.{BadMember, Duplicate}
use Rattle.json_form.specs.declared.fault.ReadError.{ReadError}
use Rattle.json_form.specs.declared.fault.ReadError.TheVariants.{Refused, OutOfMemory}
use Rattle.json_form.specs.declared.places.At.{At}
use Rattle.json_form.specs.declared.places.Object.{Object as Opened}
use Rattle.json_form.specs.Faults.{Fault, ◌>>=◌}

-- a place of a document: the pointer to it, and what stands there, if anything does
pub record Place : Type 0 where
  pub path : List ℕ
  pub value : Option Data

-- an object of a document, and the pointer to it
pub record Object : Type 0 where
  pub path : List ℕ
  pub value : Data

-- a character of a name in a pointer: `~0` for `~`, and `~1` for `/` (RFC 6901, section 3)
abbrev pub escaped_char : ℕ → List ℕ
escaped_char c = if c == 126 then codes "~0" else if c == 47 then codes "~1" else encode_utf8 c

-- a name as it stands in a pointer
unfoldable pub escaped : List ℕ → List ℕ
escaped name = flat_map escaped_char (chars name)

-- the place where a value stands
abbrev pub spot : List ℕ → Data → Place
spot path d = record { path = path; value = Some d }

-- the place of the whole text, where no value is had of it
abbrev pub nowhere : Place
nowhere = record { path = []; value = None }

-- the place of the member of an object with a name
unfoldable pub member_of : Object → List ℕ → Place
member_of o name = record { path = o.path ++ codes "/" ++ escaped name; value = get name o.value }

infixl 12 ◌▸◌
-- that place, as it is written between an object and a name
abbrev pub ◌▸◌ : Object → List ℕ → Place
o ▸ name = member_of o name

-- the pointer of a declared place
abbrev pub path_of : List ℕ → Option (List ℕ) → List ℕ
path_of path None = path
path_of path (Some name) = path ++ codes "/" ++ escaped name

-- what a declared place stands for
abbrev pub place_of : At → Place
place_of at = record { path = path_of at.path.now (option_map (λ n. n.now) at.name); value = option_map (λ v. view v.now) at.value }

-- what a declared object stands for
abbrev pub object_of : Opened → Object
object_of o = record { path = o.path.now; value = view o.value.now }

-- the error says that this is wrong at this place, unless there was no memory for it
abbrev pub IsRefusal : Place → Cause → ReadError → Type 0
IsRefusal at cause OutOfMemory = Unit {0}
IsRefusal at cause (Refused path which) = (path ≡ at.path) × (which ≡ cause)

-- this is wrong at this place
abbrev pub refuse : {A : Type 0} → Place → Cause → Result A Fault
refuse at cause = Err (record { path = at.path; cause = cause })

-- what was found, or else a bad member
abbrev pub or_bad : {A : Type 0} → Place → Option A → Result A Fault
or_bad at None = refuse at BadMember
or_bad at (Some a) = Ok a

-- a value where a test of it holds, or else a bad member
abbrev pub passing : {A : Type 0} → (A → Bool) → Place → A → Result A Fault
passing test at a = if test a then Ok a else refuse at BadMember

-- a text
unfoldable pub text : Place → Result (List ℕ) Fault
text at = or_bad at (option_and_then as_str at.value)

-- true or false
unfoldable pub truth : Place → Result Bool Fault
truth at = or_bad at (option_and_then as_bool at.value)

-- where nothing stands, the default
abbrev pub unless_absent : {A : Type 0} → A → Result A Fault → Option Data → Result A Fault
unless_absent default read None = Ok default
unless_absent default read (Some d) = read

-- what is read where something stands, `null` too, and else the default
unfoldable pub given_or : {A : Type 0} → A → (Place → Result A Fault) → Place → Result A Fault
given_or default read at = unless_absent default (read at) at.value

-- a number, where it is in this range
abbrev pub within : ℤ → ℤ → ℤ → Option ℤ
within least most z = if int_le least z && int_le z most then Some z else None

-- a whole number of a range
unfoldable pub whole_between : ℤ → ℤ → Place → Result ℤ Fault
whole_between least most at = or_bad at (option_and_then (within least most) (option_and_then as_i64 (option_and_then as_number at.value)))

-- the same from 0 on
abbrev pub is_between : ℕ → ℕ → ℕ → Option ℕ
is_between least most n = if nat_le least n && nat_le n most then Some n else None

-- a whole number of a range from 0 on
unfoldable pub number_between : ℕ → ℕ → Place → Result ℕ Fault
number_between least most at = or_bad at (option_and_then (is_between least most) (option_and_then as_u64 (option_and_then as_number at.value)))

-- a value, where it is an object
abbrev pub as_members : Data → Option Data
as_members null = None
as_members (boolean b) = None
as_members (number n) = None
as_members (string s) = None
as_members (array ds) = None
as_members (object ms) = Some (object ms)

-- an object
unfoldable pub an_object : Place → Result Object Fault
an_object at = or_bad at (option_map (λ d. record { path = at.path; value = d }) (option_and_then as_members at.value))

-- one of the texts that have a meaning, as that meaning
unfoldable pub word : {A : Type 0} → (List ℕ → Option A) → Place → Result A Fault
word meaning at = or_bad at (option_and_then meaning (option_and_then as_str at.value))

-- a text that passes a test
unfoldable pub text_that : (List ℕ → Bool) → Place → Result (List ℕ) Fault
text_that test at = text at >>= λ t. passing test at t

-- the name is among those that are taken
abbrev pub has_name : List ℕ → List (List ℕ) → Bool
has_name name taken = list_any (bytes_eq name) taken

-- a name that isn't taken, or else a duplicate
unfoldable pub free : List (List ℕ) → Place → List ℕ → Result (List ℕ) Fault
free taken at name = if has_name name taken then refuse at Duplicate else Ok name

-- a text that isn't taken
unfoldable pub free_text : List (List ℕ) → Place → Result (List ℕ) Fault
free_text taken at = text at >>= λ name. free taken at name
