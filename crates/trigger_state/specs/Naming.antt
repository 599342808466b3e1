-- Triggers by their names, as the code finds them.
use Rattle.std.specs.Prelude.{◌≡◌, ℕ, ◌&&◌, Bool, List, Option, Some, None, if◌then◌else◌}
use Rattle.std.specs.HashMap.{HashMap, get_by}
use Rattle.std.specs.Option.{option_or}
use Rattle.std.specs.Str.{bytes_eq}
use Rattle.zbx_types.specs.declared.conf.Conf.{Conf}
use Rattle.trigger_state.specs.Stages.{id_named}
use denote.Ref.{Bor}

-- the id that is kept under the names of a host and a trigger
abbrev pub id_in : {S : Type 0} → HashMap (Bor (List ℕ) × Bor (List ℕ)) ℕ S → List ℕ → List ℕ → Option ℕ
id_in ids host name = get_by (λ k. bytes_eq host k.0.now && bytes_eq name k.1.now) ids

-- what is kept with one item more, which may be one of what is looked for: the first one counts
abbrev pub noted : {A : Type 0} → Option A → Bool → A → Option A
noted before is_one item = option_or before (if is_one then Some item else None)

-- under each two names the id of the first trigger with them is kept
abbrev pub FindsFirst : {S : Type 0} → HashMap (Bor (List ℕ) × Bor (List ℕ)) ℕ S → Conf → Type 0
FindsFirst ids conf = (host name : List ℕ) → id_in ids host name ≡ id_named conf host name
