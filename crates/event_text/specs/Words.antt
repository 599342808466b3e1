-- Macros of messages (the Zabbix 6.0 manual, "Supported macros").
use Rattle.std.specs.Prelude.{ℕ, Bool, true, List, Option, Some, None, option_map, option_and_then, is_some, if◌then◌else◌, codes}
use Rattle.std.specs.Option.{option_or}
use Rattle.event_text.specs.Pieces.{behind}
use Rattle.event_text.specs.declared.words.Word.{Word}
use Rattle.event_text.specs.declared.words.Word.TheVariants.{Id, Name, Severity, Tags, Date, Time, RecoveryDate, RecoveryTime, Host, Trigger}

-- a macro with this meaning, where a text begins with its word, and what follows
abbrev pub named : Word → List ℕ → List ℕ → Option (Word × List ℕ)
named meaning word text = option_map (λ rest. (meaning, rest)) (behind word text)

-- which event it is
unfoldable pub event_word : List ℕ → Option (Word × List ℕ)
event_word text = option_or (named Id (codes "EVENT.ID}") text) (named Name (codes "EVENT.NAME}") text)

-- what is known of it
unfoldable pub kind_word : List ℕ → Option (Word × List ℕ)
kind_word text = option_or (named Severity (codes "EVENT.SEVERITY}") text) (named Tags (codes "EVENT.TAGS}") text)

-- when it began
unfoldable pub begin_word : List ℕ → Option (Word × List ℕ)
begin_word text = option_or (named Date (codes "EVENT.DATE}") text) (named Time (codes "EVENT.TIME}") text)

-- when it ended
unfoldable pub end_word : List ℕ → Option (Word × List ℕ)
end_word text = option_or (named RecoveryDate (codes "EVENT.RECOVERY.DATE}") text) (named RecoveryTime (codes "EVENT.RECOVERY.TIME}") text)

-- where it is
unfoldable pub place_word : List ℕ → Option (Word × List ℕ)
place_word text = option_or (named Host (codes "HOST.NAME}") text) (named Trigger (codes "TRIGGER.NAME}") text)

-- the macro behind a `{`, and what follows it
unfoldable pub word_at : List ℕ → Option (Word × List ℕ)
word_at text = option_or (event_word text) (option_or (kind_word text) (option_or (begin_word text) (option_or (end_word text) (place_word text))))

-- the macro stands for something in a message of a problem, or of its recovery at some moment
abbrev pub is_told : Option ℕ → Word → Bool
is_told recovered RecoveryDate = is_some recovered
is_told recovered RecoveryTime = is_some recovered
is_told recovered Id = true
is_told recovered Name = true
is_told recovered Severity = true
is_told recovered Tags = true
is_told recovered Date = true
is_told recovered Time = true
is_told recovered Host = true
is_told recovered Trigger = true

-- a macro and what follows it, where the macro stands for something
abbrev pub told : Option ℕ → Word × List ℕ → Option (Word × List ℕ)
told recovered r = if is_told recovered r.0 then Some r else None

-- the macro behind a `{` that stands for something, and what follows it
unfoldable pub told_at : Option ℕ → List ℕ → Option (Word × List ℕ)
told_at recovered text = option_and_then (told recovered) (word_at text)
