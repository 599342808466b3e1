use Rattle.std.proofs.Common.{refl}
use Rattle.std.specs.Fmt.{digits}
use Rattle.outside.specs.Workload.{work_text}
use Rattle.outside.proofs.work_text.configuration.Goals as goal

pub returns : goal.returns
unfolding work_text digits
returns c = refl
