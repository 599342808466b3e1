-- What a run's entries make behind its base: each Config among them holds a text, and a text stands for a configuration.
use Rattle.std.specs.Prelude.{◌≡◌, ℕ, List, [], Ok, All, unwrap_or}
use Rattle.std.specs.Result.{result_ok}
use Rattle.zbx_types.specs.declared.base.Base.{Base}
use Rattle.zbx_types.specs.declared.conf.Conf.{Conf}
use Rattle.zbx_types.specs.declared.entries.Entry.{Entry}
use Rattle.zbx_types.specs.declared.entries.Numbered.{Numbered}
use Rattle.config_templates.specs.Flat.{flat_of}
use Rattle.entry_laws.specs.InForce.{config_texts, texts_on}
use Rattle.entry_step.specs.Log.{log_of}
use Rattle.entry_step.specs.Start.{no_conf}
use Rattle.intake_front.specs.Intake.{numbered_from}
use Rattle.base_laws.specs.Grounds.{IsBase}
use Rattle.book_opening.specs.Outgoing.{log_lines}
use Rattle.server_words.specs.declared.status.Counts.{Counts}
use Rattle.journal_opening.specs.Tally.{counts_over}

-- the configuration that a text stands for, and one of nothing where the text is refused
abbrev pub flat : List ℕ → Conf
flat text = unwrap_or (result_ok (flat_of text)) no_conf

-- a configuration's text is accepted
abbrev pub IsFlat : List ℕ → Type 0
IsFlat text = flat_of text ≡ Ok (flat text)

-- so is that of a base, where it has one, and that of each Config among entries
abbrev pub AreFlat : List ℕ → List Numbered → Type 0
AreFlat own entries = All IsFlat (texts_on own entries)

-- a run can begin with a base: it is empty, or its text is accepted and it fits the configuration that this stands for
abbrev pub IsGoodBase : Base → Type 0
IsGoodBase base = AreFlat base.text [] × IsBase flat base

-- the texts of the Configs among entries without numbers
abbrev pub texts_in : List Entry → List (List ℕ)
texts_in entries = config_texts (numbered_from 1 entries)

-- the lines of a run with these entries behind a base: those of one thread that replays them, each over the configuration
-- in force
abbrev pub run_lines : Base → List Numbered → List ℕ
run_lines base entries = log_lines flat base (log_of entries)

-- and the counts that it prints
abbrev pub run_counts : Base → List Numbered → Counts
run_counts base entries = counts_over flat base entries
