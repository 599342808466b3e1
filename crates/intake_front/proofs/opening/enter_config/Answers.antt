use Rattle.std.proofs.Common.{◌≡◌, ◌+◌, [], ◌∷◌, List, ap, ap₂, sym, ◌∙◌, subst, refl}
use Rattle.zbx_types.specs.declared.base.Base.{Base}
use Rattle.zbx_types.specs.declared.entries.Numbered.{Numbered}
use Rattle.intake_front.specs.Intake.{config_behind, with_group, bytes_with}
use Rattle.intake_front.specs.Fronted.{HasJournaled}
use Rattle.intake_front.proofs.Openings.{config_has, config_moments}
use Rattle.intake_front.proofs.opening.enter_config.Goals as goal

pub returns-then-not-write-clause-any_moment : goal.returns-then-not-write-clause-any_moment
returns-then-not-write-clause-any_moment g c =
    let base = c.args.journal.now.base in
    let kept = c.args.kept.now.items in
    let text = c.args.ready.now.conf.text in
    let staged : c.staged_config.new.block ≡ config_behind base.now text kept ∷ [] = c.in_ok-group.ensures.staged ∙ ap (λ (l : List Numbered). config_behind base.now text l ∷ []) c.as_slice.ensures.value in
    config_moments base.now text kept (g.D.Disk.tells c.args.journal.now.disk) (g.D.Disk.tells c.write.new.journal.disk) base c.staged_config.new.block staged
    (c.write.ensures.any_moment kept (c.args.journal.now.at + 1) c.requires.journaled)

pub returns-clause-made : goal.returns-clause-made
returns-clause-made g c =
    let base = c.args.journal.now.base in
    let kept = c.args.kept.now.items in
    let text = c.args.ready.now.conf.text in
    let same : c.base.result.now ≡ base = c.base.ensures ∙ c.write.ensures.base in
    c.enter.ensures.items ∙ ap₂ (with_group c.base.result.now.number) c.reserve.ensures.items (c.in_ok-group.ensures.made ∙ ap (config_behind base.now text) c.as_slice.ensures.value)
    ∙ ap (λ (k : Base). with_group k.number kept (config_behind base.now text kept)) same

pub returns-clause-journaled : goal.returns-clause-journaled
returns-clause-journaled g c =
    let base = c.args.journal.now.base in
    let kept = c.args.kept.now.items in
    let text = c.args.ready.now.conf.text in
    let size = c.args.journal.now.at + 1 in
    let staged : c.staged_config.new.block ≡ config_behind base.now text kept ∷ [] = c.in_ok-group.ensures.staged ∙ ap (λ (l : List Numbered). config_behind base.now text l ∷ []) c.as_slice.ensures.value in
    let has = config_has base.now text kept g.D.Disk.tells c.write.new.journal c.staged_config.new.block size base.number staged (c.if-not-write.ensures.kept refl kept size c.requires.journaled) in
    subst (λ (es : List Numbered). HasJournaled g.D.Disk.tells c.write.new.journal es (bytes_with size (config_behind base.now text kept))) (sym (returns-clause-made g c)) has

pub returns-clause-any_moment : goal.returns-clause-any_moment
returns-clause-any_moment g c =
    let base = c.args.journal.now.base in
    let kept = c.args.kept.now.items in
    let text = c.args.ready.now.conf.text in
    let staged : c.staged_config.new.block ≡ config_behind base.now text kept ∷ [] = c.in_ok-group.ensures.staged ∙ ap (λ (l : List Numbered). config_behind base.now text l ∷ []) c.as_slice.ensures.value in
    config_moments base.now text kept (g.D.Disk.tells c.args.journal.now.disk) (g.D.Disk.tells c.write.new.journal.disk) base c.staged_config.new.block staged
    (c.write.ensures.any_moment kept (c.args.journal.now.at + 1) c.requires.journaled)
