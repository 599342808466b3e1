-- Keys byte by byte: the place in a key behind each front of it.
use Rattle.std.specs.Prelude.{ℕ, List, [], ◌∷◌, ◌++◌, ◌≤◌, ◌<◌, ◌≡◌, take, Option, Some, None, Bool, true, false, ◌==◌}
use Rattle.std.specs.Prelude.{length, IsTrue, if◌then◌else◌}
use Rattle.byte_grammar.specs.Runs.{run}
use Rattle.item_key.specs.Grammar.{is_name_byte}
use Rattle.item_key.specs.declared.places.InParameter.{InParameter}
use Rattle.item_key.specs.declared.places.InParameter.TheVariants.{Before, Bare, Quoted, Escaped, Behind}
use Rattle.item_key.specs.declared.places.Place.{Place}
use Rattle.item_key.specs.declared.places.Place.TheVariants.{Start, Name, Param, Listed, Closed, Done}
use Rattle.item_key.specs.declared.places.ByteEffect.{ByteEffect}
use Rattle.item_key.specs.declared.places.ByteEffect.TheVariants.{Stay, Comma, Close, Open, Wrong}

-- what a byte does to a parameter
abbrev pub turn : InParameter → ℕ → ByteEffect
turn Before b =
    if b == 32 then Stay Before else if b == 34 then Stay Quoted else if b == 91 then Open else if b == 44 then Comma
    else if b == 93 then Close else Stay Bare
turn Bare b = if b == 44 then Comma else if b == 93 then Close else Stay Bare
turn Quoted b = if b == 34 then Stay Behind else if b == 92 then Stay Escaped else Stay Quoted
turn Escaped b = if b == 92 then Stay Escaped else Stay Quoted
turn Behind b = if b == 32 then Stay Behind else if b == 44 then Comma else if b == 93 then Close else Wrong

-- where that leads in the parameters of a key
abbrev pub outer : ByteEffect → Option Place
outer (Stay w) = Some (Param w)
outer Comma = Some (Param Before)
outer Close = Some Done
outer Open = Some (Listed Before)
outer Wrong = None

-- where that leads in a list
abbrev pub inner : ByteEffect → Option Place
inner (Stay w) = Some (Listed w)
inner Comma = Some (Listed Before)
inner Close = Some Closed
inner Open = None
inner Wrong = None

-- the place behind one byte more, where some key goes on with it
abbrev pub step : Place → ℕ → Option Place
step Start b = if is_name_byte b then Some Name else None
step Name b = if is_name_byte b then Some Name else if b == 91 then Some (Param Before) else None
step (Param w) b = outer (turn w b)
step (Listed w) b = inner (turn w b)
step Closed b = if b == 44 then Some (Param Before) else if b == 93 then Some Done else None
step Done b = None

-- a key may end at this place
abbrev pub ends : Place → Bool
ends Start = false
ends Name = true
ends (Param w) = false
ends (Listed w) = false
ends Closed = false
ends Done = true

-- there is a place, and a key may end there
abbrev pub ends_at : Option Place → Bool
ends_at None = false
ends_at (Some p) = ends p

-- the place behind a text, none where no key begins so
abbrev pub place_of : List ℕ → Option Place
place_of text = run step (Some Start) text

-- what completes a key in a parameter, up to the bracket behind it
abbrev pub finish_parameter : InParameter → List ℕ
finish_parameter Before = 93 ∷ []
finish_parameter Bare = 93 ∷ []
finish_parameter Quoted = 34 ∷ 93 ∷ []
finish_parameter Escaped = 97 ∷ 34 ∷ 93 ∷ []
finish_parameter Behind = 93 ∷ []

-- what completes a key from each place
abbrev pub finish : Place → List ℕ
finish Start = 97 ∷ []
finish Name = []
finish (Param w) = finish_parameter w
finish (Listed w) = finish_parameter w ++ 93 ∷ []
finish Closed = 93 ∷ []
finish Done = []

-- the longest front of a text that ends a key, 0 where there is none
pub record IsLongestEnd (text : List ℕ) (count : ℕ) : Type 0 where
  pub within : count ≤ length text
  pub is : (0 < count) → IsTrue (ends_at (place_of (take count text)))
  pub longest : (n : ℕ) → count < n → n ≤ length text → ends_at (place_of (take n text)) ≡ false
