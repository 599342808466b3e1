use Rattle.std.proofs.Common.{◌≡◌, ◌+◌, ◌<◌, All, length, drop, codes}
use Rattle.config_templates.specs.Depends.{dependings_from, dependings_of, links_of}
use Rattle.config_templates.specs.Dependings.{dependings_now}
use Rattle.host_layout.specs.Links.{sources_of}
use Rattle.host_layout.specs.Places.{each_list, placed_from}
use Rattle.config_templates.proofs.depends.dependings.Given as goal

abbrev pub invariant-loop-place : goal.invariant-loop-place
invariant-loop-place l = record {
  gives : each_list (λ before h. dependings_from l.known.raw.now l.known.list.now.triggers (h.place + 1) (sources_of l.known.raw.now h) before) (dependings_now l.made) (placed_from (codes "/hosts") l.place (drop l.place l.known.raw.now.hosts))
      ≡ dependings_of l.known.raw.now l.known.list.now.triggers;
  within : All (λ ends. All (λ t. t < length l.known.list.now.triggers) ends) (links_of (dependings_now l.made));
}
