-- Patterns cross threads: part by part, since one search over all of a regex gives up.
use denote.Param.Send.{IsSend, IsSync, sendable, struct_send, struct_sync, recorded_send, recorded_sync}
use Rattle.std.proofs.Crossing.{crosses}
use Rattle.regex_hir.proofs.hir.Hir.TheLaws.TheKnot.{send-Hir, sync-Hir}
use Rattle.regex_dfa.proofs.dfa.Dfa.TheSendSync.{the_field_send as dfa_field_send, the_field_sync as dfa_field_sync}
use Rattle.regex_hir.proofs.look.Look.TheSendSync.{the_field_send as look_field_send, the_field_sync as look_field_sync}
use Rattle.regex_class.proofs.Class.TheSendSync.{the_field_send as class_field_send, the_field_sync as class_field_sync}
use Rattle.regex_literal.proofs.byte_set.ByteSet.TheSendSync.{the_send as byteset_send, the_sync as byteset_sync}
use Rattle.regex_literal.proofs.caseless.Caseless.TheSendSync.{the_send as caseless_send, the_sync as caseless_sync}
use Rattle.regex_literal.proofs.ladder.Ladder.TheSendSync.{the_field_send as ladder_field_send, the_field_sync as ladder_field_sync}
use Rattle.regex_literal.proofs.prefilter.Prefilter.TheSendSync.{the_send as prefilter_send, the_sync as prefilter_sync}
use Rattle.regex_meta.proofs.plan.Role.TheSendSync.{the_field_send as role_field_send, the_field_sync as role_field_sync}
use Rattle.std.proofs.option.Option.TheSendSync.{the_field_send as option_field_send, the_field_sync as option_field_sync}
use Rattle.regex_meta.specs.contracts.program.Program as program
use denote.Struct.Struct.{Struct}
use denote.Struct.Declared.{shape}
use Rattle.std.specs.contracts.string.String as text
use Rattle.std.specs.contracts.alloc.Global as global
use Rattle.std.specs.contracts.impls.GlobalAllocator.TheImpl.{ghosts}
use Rattle.regex.specs.contracts.pattern.Pattern as pattern
use Rattle.regex_syntax.specs.contracts.Config as config
use Rattle.regex.specs.contracts.string.regex.Regex as regex
use Rattle.pattern_set.specs.contracts.built.Built as built
use Rattle.pattern_set.specs.contracts.patterns.Patterns as patterns

program_field : IsSend (Struct (shape program.the_type))
program_field = search (sendable, crosses, send-Hir, dfa_field_send, look_field_send, class_field_send, byteset_send, caseless_send, ladder_field_send, prefilter_send, role_field_send, option_field_send) depth 40 fits 100000

text_field : IsSend (Struct (shape (text.the_type global.the_row ghosts)))
text_field = search (sendable, crosses) depth 40

config_field : IsSend (Struct (shape config.the_type))
config_field = search sendable depth 40

pattern_field : IsSend (Struct (shape pattern.the_type))
pattern_field = struct_send (shape pattern.the_type) (text_field, (config_field, (search (sendable, crosses, text_field, option_field_send) depth 40, (program_field, tt))))

pub regex_field : IsSend (Struct (shape regex.the_type))
regex_field = struct_send (shape regex.the_type) (pattern_field, tt)

pub regex_send : IsSend regex.the_row
regex_send = recorded_send _ _ _ (regex.the_type).to_one regex_field

program_shared : IsSync (Struct (shape program.the_type))
program_shared = search (sendable, crosses, sync-Hir, dfa_field_sync, look_field_sync, class_field_sync, byteset_sync, caseless_sync, ladder_field_sync, prefilter_sync, role_field_sync, option_field_sync) depth 40 fits 100000

text_shared : IsSync (Struct (shape (text.the_type global.the_row ghosts)))
text_shared = search (sendable, crosses) depth 40

config_shared : IsSync (Struct (shape config.the_type))
config_shared = search sendable depth 40

pattern_shared : IsSync (Struct (shape pattern.the_type))
pattern_shared = struct_sync (shape pattern.the_type) (text_shared, (config_shared, (search (sendable, crosses, text_shared, option_field_sync) depth 40, (program_shared, tt))))

pub regex_shared : IsSync (Struct (shape regex.the_type))
regex_shared = struct_sync (shape regex.the_type) (pattern_shared, tt)

pub regex_sync : IsSync regex.the_row
regex_sync = recorded_sync _ _ _ (regex.the_type).to_one regex_shared

pub built_send : IsSend built.the_row
built_send = search (sendable, regex_field) depth 20

pub built_sync : IsSync built.the_row
built_sync = search (sendable, regex_shared) depth 20

pub patterns_send : IsSend patterns.the_row
patterns_send = search (sendable, crosses, built_send) depth 40

pub patterns_sync : IsSync patterns.the_row
patterns_sync = search (sendable, crosses, built_sync) depth 40
