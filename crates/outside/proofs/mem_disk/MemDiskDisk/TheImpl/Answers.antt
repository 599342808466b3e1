use Rattle.std.proofs.Common.{rules, refl}
use Rattle.outside.specs.declared.mem_disk.Call.TheVariants.{Wrote, Synced}
use Rattle.outside.proofs.DiskCalls.{either, elapsed, synced}
use Rattle.outside.proofs.mem_disk.MemDiskDisk.TheImpl.Goals as goal

pub write_at-tells : goal.write_at-tells
write_at-tells c = record {
  written = search rules;
  told = refl;
  crash = search rules;
  time = elapsed c.args.self.now c.new.self.now (Wrote c.args.at c.args.piece.now) c.ensures.first (either c.result c.ensures.kept c.ensures.unchanged);
  cause = c.ensures.cause;
}

pub sync-tells : goal.sync-tells
sync-tells c =
    let past = either c.result c.ensures.kept c.ensures.unchanged in
    record {
      durable = search rules;
      bytes = search rules;
      crash = synced c.args.self.now c.new.self.now c.ensures.first past;
      time = elapsed c.args.self.now c.new.self.now Synced c.ensures.first past;
      cause = c.ensures.cause;
    }
