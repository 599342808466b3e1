use Rattle.std.proofs.Common.{◌≡◌, map, string_bytes, take}
use Rattle.server_jobs.specs.Sessions.{command_for}
use Rattle.server_jobs.proofs.recipients.commands_of.Given as goal

abbrev pub invariant-loop-name : goal.invariant-loop-name
invariant-loop-name l = record {
  so_far : l.commands ≡ map (command_for l.media) (map string_bytes (take l.name-index l.names));
}
