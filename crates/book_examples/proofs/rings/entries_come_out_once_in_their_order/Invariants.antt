use Rattle.std.proofs.Common.{refl}
use Rattle.std.specs.Prelude.{[], ◌∷◌}
use Rattle.zbx_types.specs.declared.entries.Entry.TheVariants.{Config}
use Rattle.zbx_types.specs.Bases.{empty_base}
use Rattle.entry_laws.specs.InForce.{behind_all}
use Rattle.entry_step.specs.Start.{no_conf}
use Rattle.base_laws.specs.Grounds.{start_of}
use Rattle.book_opening.specs.Opening.{no_cache}
use Rattle.book_opening.specs.Outgoing.{no_outbox}
use Rattle.book_examples.proofs.rings.entries_come_out_once_in_their_order.Given as goal

-- a run whose journal kept the entry of the configuration
abbrev pub ghosts-hold : goal.ghosts-hold
ghosts-hold g a = record {
  flat = λ text. no_conf;
  base = empty_base;
  kept = record { number = 1; entry = Config 0 [] } ∷ [];
  start = behind_all (λ text. no_conf) (start_of (λ text. no_conf) empty_base) (record { number = 1; entry = Config 0 [] } ∷ []);
  first = refl;
  outbox = no_outbox;
  cache = no_cache;
}
