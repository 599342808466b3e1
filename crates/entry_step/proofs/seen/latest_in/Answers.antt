use Rattle.entry_step.proofs.seen.latest_in.Goals as goal

pub cached-requires : goal.cached-requires
cached-requires c = c.window_slice-window.ensures.of c.args.calls.now.cache.now c.requires.cell
