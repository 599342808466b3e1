use Rattle.std.proofs.Common.{◌≡◌, ◌++◌, map, Contains}
use Rattle.std.specs.Vec.Iter.{into_iter_items}
use Rattle.zbx_types.specs.declared.conf.Conf.{Conf}
use Rattle.trigger_state.specs.Stages.{first_stage}
use Rattle.journal_opening.proofs.epochs.ready_all.Given as goal

-- the configurations so far are made ready, and those that are left are among them all
abbrev pub invariant-loop-conf : goal.invariant-loop-conf
invariant-loop-conf l = record {
  made : l.epochs.items ++ map first_stage (into_iter_items l.conf-iterator) ≡ map first_stage l.fn.confs.items;
  among : (conf : Conf) → Contains (into_iter_items l.conf-iterator) conf → Contains l.fn.confs.items conf;
}
