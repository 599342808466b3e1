-- For which problems a maintenance is, by their tags (the Zabbix 6.0 manual, "Maintenance", tags).
use Rattle.std.specs.Prelude.{◌≡◌, ◌==◌, ◌⊎◌, Bool, ◌||◌, List, [], length, IsTrue}
use Rattle.zbx_types.specs.Tags.{passes, joined}
use Rattle.zbx_types.specs.declared.maintenances.Maintenance.{Maintenance}
use Rattle.zbx_types.specs.declared.entries.Tag.{Tag}

-- a maintenance without tests is for all tags, one with tests for those of which they hold
abbrev pub IsForTags : Maintenance → List Tag → Type 0
IsForTags m tags = (m.tags ≡ []) ⊎ IsTrue (joined m.matching (passes tags) m.tags)

-- the same as a test
abbrev pub is_for_tags : Maintenance → List Tag → Bool
is_for_tags m tags = length m.tags == 0 || joined m.matching (passes tags) m.tags
