-- Dependencies of triggers (the Zabbix 6.0 manual, "Trigger dependencies"). The masters of a trigger are those that it
-- depends on, directly or through others.
use Rattle.std.specs.Prelude.{◌≡◌, ◌<◌, ◌≤◌, ℕ, zero, suc, ◌==◌, nat_le, nat_lt, Bool, true, false, ◌||◌, List, [], ◌∷◌, ◌++◌, filter, Option, Some, None, if◌then◌else◌, length}
use Rattle.std.specs.List.{list_any, list_all}
use Rattle.zbx_types.specs.Ids.{at_id, ids_from}
use Rattle.zbx_types.specs.declared.conf.Conf.{Conf}
use Rattle.zbx_types.specs.declared.triggers.Trigger.{Trigger}

-- an id is in a list
abbrev pub has_id : List ℕ → ℕ → Bool
has_id ids id = list_any (λ x. x == id) ids

-- what a trigger depends on directly, and nothing where it isn't there
abbrev pub depends_by : Option Trigger → List ℕ
depends_by None = []
depends_by (Some trigger) = trigger.depends

-- what the trigger with an id depends on directly
abbrev pub depends_of : Conf → ℕ → List ℕ
depends_of conf id = depends_by (at_id conf.triggers id)

-- the depth of a trigger, and 0 where it isn't there
abbrev pub depth_by : Option Trigger → ℕ
depth_by None = 0
depth_by (Some trigger) = trigger.depth

-- the depth of the trigger with an id
abbrev pub depth_of : Conf → ℕ → ℕ
depth_of conf id = depth_by (at_id conf.triggers id)

-- each trigger that one depends on has a smaller depth
abbrev pub DepthsFall : Conf → Type 0
DepthsFall conf = (id m : ℕ) → has_id (depends_of conf id) m ≡ true → depth_of conf m < depth_of conf id

-- the triggers with these ids have smaller depths
abbrev pub are_below : Conf → ℕ → List ℕ → Bool
are_below conf depth ids = list_all (λ m. nat_lt (depth_of conf m) depth) ids

-- the same as a test: each trigger that one depends on has a smaller depth
abbrev pub depths_fall : Conf → Bool
depths_fall conf = list_all (λ trigger. are_below conf trigger.depth trigger.depends) conf.triggers

-- from a trigger another one is reached by one or more dependencies, at most so many
unfoldable pub reaches : Conf → ℕ → ℕ → ℕ → Bool
reaches conf zero from to = false
reaches conf (suc fuel) from to = list_any (λ m. (m == to) || reaches conf fuel m to) (depends_of conf from)

-- a trigger is a master of the one with this id. Where depths fall, no chain is longer than the depth.
abbrev pub is_master : Conf → ℕ → ℕ → Bool
is_master conf id m = reaches conf (depth_of conf id) id m

-- the masters of a trigger, in the order of their ids
abbrev pub masters_of : Conf → ℕ → List ℕ
masters_of conf id = filter (is_master conf id) (ids_from 1 conf.triggers)

-- a master, by the chain itself
pub data IsMaster (conf : Conf) (id : ℕ) : ℕ → Type 0 where
  direct : (m : ℕ) → has_id (depends_of conf id) m ≡ true → IsMaster conf id m
  further : (m next : ℕ) → IsMaster conf id m → has_id (depends_of conf m) next ≡ true → IsMaster conf id next

-- where depths fall, the masters are what one or more dependencies lead to
abbrev pub MastersByChains : Type 0
MastersByChains = (conf : Conf) → DepthsFall conf → (id m : ℕ) → (is_master conf id m ≡ true → IsMaster conf id m) × (IsMaster conf id m → is_master conf id m ≡ true)

-- ids found so far, with one more where it is that of one of so many triggers
abbrev pub noted : ℕ → List ℕ → ℕ → List ℕ
noted size found id = if id == 0 then found else if nat_le id size then (if has_id found id then found else found ++ id ∷ []) else found

-- ids found so far, with some more
abbrev pub entered : ℕ → List ℕ → List ℕ → List ℕ
entered size found [] = found
entered size found (id ∷ ids) = entered size (noted size found id) ids

-- the keys of a set are the ids that are found, each of one of so many triggers
pub record HasKeys (count : ℕ) (keys found : List ℕ) : Type 0 where
  pub agree : (id : ℕ) → has_id keys id ≡ has_id found id
  pub within : (id : ℕ) → has_id found id ≡ true → (id ≡ 0 → ⊥) × (id ≤ count)

-- found are the masters, as far as there are such triggers
pub record Finds (conf : Conf) (id : ℕ) (found : List ℕ) : Type 0 where
  pub sound : (m : ℕ) → has_id found m ≡ true → is_master conf id m ≡ true
  pub whole : (m : ℕ) → (m ≡ 0 → ⊥) → m ≤ length conf.triggers → is_master conf id m ≡ true → has_id found m ≡ true
