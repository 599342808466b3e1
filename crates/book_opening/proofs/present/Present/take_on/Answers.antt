use Rattle.std.proofs.Common.{refl}
use Rattle.book_opening.proofs.Growing.{of_any}
use Rattle.book_opening.proofs.Replaying.{config_step, config_later, config_counted, plain_entry, plain_step, plain_later}
use Rattle.book_opening.proofs.present.Present.take_on.Goals as goal

pub returns-in-Config-clause-made : goal.returns-in-Config-clause-made
returns-in-Config-clause-made g c =
    config_step g.S.StartName.flat g.S.StartName.base c.args.entry.now _ _ c.args.self.now c.go_over.new.self c.next_epoch.result c.args.epochs.now.items c.next_epoch.new.epochs.items c.go_over.result c.in-Config.is c.next_epoch.ensures.next c.go_over.ensures.ok

pub returns-in-Config-clause-epochs : goal.returns-in-Config-clause-epochs
returns-in-Config-clause-epochs g c =
    config_later g.S.StartName.flat c.args.entry.now _ _ c.next_epoch.result c.args.epochs.now.items c.next_epoch.new.epochs.items c.go_over.result c.in-Config.is c.next_epoch.ensures.next

pub returns-in-Config-clause-len : goal.returns-in-Config-clause-len
returns-in-Config-clause-len g c = config_counted c.next_epoch.result c.args.epochs.now.items c.next_epoch.new.epochs.items _ _ c.go_over.result c.next_epoch.ensures.next c.next_epoch.ensures.len

pub returns-in-Value-clause-made : goal.returns-in-Value-clause-made
returns-in-Value-clause-made g c = plain_step g.S.StartName.flat g.S.StartName.base c.args.entry.now c.args.self.now (record { ready = c.args.self.now.ready; cells = c.step.new.cells }) c.args.epochs.now.items c.step.result (plain_entry c.args.entry.now.entry c.in-Value.is) refl c.step.ensures.made

pub returns-in-Value-clause-epochs : goal.returns-in-Value-clause-epochs
returns-in-Value-clause-epochs g c = plain_later g.S.StartName.flat c.args.entry.now c.args.epochs.now.items c.step.result (plain_entry c.args.entry.now.entry c.in-Value.is)

pub returns-in-Value-clause-len : goal.returns-in-Value-clause-len
returns-in-Value-clause-len g c = of_any c.step.result _ (λ counted. counted)
