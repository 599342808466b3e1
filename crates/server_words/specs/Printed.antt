-- The line that a run prints, and the number with which the program exits.
use Rattle.std.specs.Prelude.{ℕ, List, [], ◌++◌, codes}
use Rattle.std.specs.Fmt.{decimal}
use Rattle.zbx_types.specs.declared.causes.Cause.{Cause}
use Rattle.zbx_types.specs.declared.causes.Cause.TheVariants as cause
use Rattle.server_words.specs.declared.status.Counts.{Counts}
use Rattle.server_words.specs.declared.status.Status.{Status}
use Rattle.server_words.specs.declared.status.Status.TheVariants as status

-- the number with which the program exits; no status has 8
abbrev pub exit_of : Status → ℕ
exit_of status.Ok = 0
exit_of status.Usage = 2
exit_of (status.ConfigRefused path cause) = 3
exit_of (status.PatternRefused path) = 4
exit_of status.SourceFault = 5
exit_of status.NotOurs = 6
exit_of (status.Damaged at) = 7
exit_of (status.OutboxAhead held lines) = 9
exit_of status.DiskFault = 10
exit_of status.OutboxFault = 11
exit_of status.PrintFault = 12
exit_of status.WireFault = 13
exit_of (status.Full entries bytes) = 14
exit_of status.TurnLimit = 15
exit_of status.OutOfMemory = 16
exit_of (status.OutboxBehind held base) = 18
exit_of status.Unfinished = 19
exit_of (status.NotEmpty bytes) = 20
exit_of status.NoEntries = 21
exit_of (status.BadLine at) = 22
exit_of (status.MarksAhead marks messages) = 23
exit_of status.LinesTooLong = 24
exit_of (status.MediaRefused path) = 25
exit_of (status.PatternTooLarge path) = 26
exit_of (status.OutboxDiffers at) = 27

-- a count behind its name
unfoldable pub count_text : List ℕ → ℕ → List ℕ
count_text name count = name ++ decimal count

-- the line of a run that ended well, up to its recoveries
abbrev pub first_counts : Counts → List ℕ
first_counts c = count_text (codes "status: Ok; entries: ") c.entries ++ count_text (codes "; problems: ") c.problems ++ count_text (codes "; recoveries: ") c.recoveries

-- the rest of that line, with its line feed
abbrev pub last_counts : Counts → List ℕ
last_counts c = count_text (codes "; messages: ") c.messages ++ count_text (codes "; outbox bytes: ") c.bytes ++ codes "\n"

-- the line of a run that ended well
abbrev pub ok_text : Counts → List ℕ
ok_text c = first_counts c ++ last_counts c

-- the name of a cause, and the place where it has one
abbrev pub cause_text : Cause → List ℕ
cause_text cause.TooLong = codes "TooLong"
cause_text cause.NotJson = codes "NotJson"
cause_text cause.BadMember = codes "BadMember"
cause_text cause.Duplicate = codes "Duplicate"
cause_text cause.TooMany = codes "TooMany"
cause_text cause.UnknownName = codes "UnknownName"
cause_text cause.Cycle = codes "Cycle"
cause_text (cause.BadKey at) = count_text (codes "BadKey at ") at
cause_text cause.TooDeep = codes "TooDeep"
cause_text (cause.BadPath at) = count_text (codes "BadPath at ") at
cause_text (cause.BadExpression at) = count_text (codes "BadExpression at ") at
cause_text cause.WrongValueType = codes "WrongValueType"

-- the line of a refused configuration behind its path
abbrev pub reason_text : Cause → List ℕ
reason_text cause = codes "; cause: " ++ cause_text cause ++ codes "\n"

-- the line of a refused configuration
abbrev pub refused_text : List ℕ → Cause → List ℕ
refused_text path cause = codes "status: ConfigRefused; path: " ++ path ++ reason_text cause

-- the line of a pattern that can't be used, or of media that are refused, behind the text before its path
abbrev pub path_text : List ℕ → List ℕ → List ℕ
path_text name path = name ++ path ++ codes "\n"

-- The line of a status, with its line feed. That of Ok alone has the counts; where the line couldn't be printed there
-- is none.
abbrev pub printed_text : Status → Counts → List ℕ
printed_text status.Ok c = ok_text c
printed_text status.Usage c = codes "status: Usage\n"
printed_text (status.PatternRefused path) c = path_text (codes "status: PatternRefused; path: ") path
printed_text (status.PatternTooLarge path) c = path_text (codes "status: PatternTooLarge; path: ") path
printed_text status.SourceFault c = codes "status: SourceFault\n"
printed_text status.NotOurs c = codes "status: NotOurs\n"
printed_text status.Unfinished c = codes "status: Unfinished\n"
printed_text (status.Damaged at) c = count_text (codes "status: Damaged; at: ") at ++ codes "\n"
printed_text (status.OutboxAhead held lines) c = count_text (codes "status: OutboxAhead; held: ") held ++ count_text (codes "; lines: ") lines ++ codes "\n"
printed_text (status.OutboxBehind held base) c = count_text (codes "status: OutboxBehind; held: ") held ++ count_text (codes "; base: ") base ++ codes "\n"
printed_text (status.OutboxDiffers at) c = count_text (codes "status: OutboxDiffers; at: ") at ++ codes "\n"
printed_text status.DiskFault c = codes "status: DiskFault\n"
printed_text (status.Full entries bytes) c = count_text (codes "status: Full; entries: ") entries ++ count_text (codes "; bytes: ") bytes ++ codes "\n"
printed_text (status.ConfigRefused path cause) c = refused_text path cause
printed_text status.WireFault c = codes "status: WireFault\n"
printed_text status.OutboxFault c = codes "status: OutboxFault\n"
printed_text status.PrintFault c = []
printed_text status.TurnLimit c = codes "status: TurnLimit\n"
printed_text status.OutOfMemory c = codes "status: OutOfMemory\n"
printed_text (status.BadLine at) c = count_text (codes "status: BadLine; at: ") at ++ codes "\n"
printed_text (status.MarksAhead marks messages) c = count_text (codes "status: MarksAhead; marks: ") marks ++ count_text (codes "; messages: ") messages ++ codes "\n"
printed_text status.LinesTooLong c = codes "status: LinesTooLong\n"
printed_text (status.MediaRefused path) c = path_text (codes "status: MediaRefused; path: ") path
printed_text (status.NotEmpty bytes) c = count_text (codes "status: NotEmpty; bytes: ") bytes ++ codes "\n"
printed_text status.NoEntries c = codes "status: NoEntries\n"

-- the line of a journal that was copied: the number of its last entry, and how many bytes all its lines have
abbrev pub copy_text : ℕ → ℕ → List ℕ
copy_text number lines =
    count_text (codes "status: Ok; number: ") number ++ count_text (codes "; lines: ") lines ++ codes "\n"

-- the line of alerts that ended well: how many messages there are, how many of them were sent, and how many failed
abbrev pub alerts_text : ℕ → ℕ → ℕ → List ℕ
alerts_text messages done failed =
    count_text (codes "status: Ok; messages: ") messages ++ count_text (codes "; done: ") done ++ count_text (codes "; failed: ") failed ++ codes "\n"

-- the line of a status of alerts
abbrev pub alerts_line : Status → ℕ → ℕ → ℕ → List ℕ
alerts_line status.Ok messages done failed = alerts_text messages done failed
alerts_line s messages done failed = printed_text s (record { entries = 0; problems = 0; recoveries = 0; messages = 0; bytes = 0 })
