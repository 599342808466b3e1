-- What reading gives, unless memory runs out.
use Rattle.std.specs.Prelude.{◌≡◌, Option, Some, None, ⊤, Result, Ok, Err}
use Rattle.intake_journal.specs.declared.decoding.Unread.{Unread}
use Rattle.intake_journal.specs.declared.decoding.Unread.TheVariants as unread

-- a refusal is right: memory ran out, or the bytes are nothing that can be read
abbrev pub Refuses : {Y : Type 0} → Unread → Option Y → Type 0
Refuses unread.Memory read = ⊤
Refuses unread.Malformed read = read ≡ None

-- a result is what the bytes are read as, or a refusal that is right
abbrev pub Gives : {X Y : Type 0} → (X → Y) → Result X Unread → Option Y → Type 0
Gives view (Ok x) read = read ≡ Some (view x)
Gives view (Err e) read = Refuses e read
