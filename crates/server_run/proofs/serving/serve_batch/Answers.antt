use Rattle.std.proofs.Common.{◌≡◌, ◌∙◌, ap, length, List, rules}
use Rattle.zbx_types.specs.declared.entries.Numbered.{Numbered}
use Rattle.server_run.proofs.Events.{took_ends}
use Rattle.server_run.proofs.Going.{took_as, batch_whole, batch_on, batch_ended}
use Rattle.server_run.proofs.serving.serve_batch.Goals as goal

pub send_after-sent-requires-clause-whole : goal.send_after-sent-requires-clause-whole
send_after-sent-requires-clause-whole g c =
    let count : length c.entries-from.result.now ≡ length c.args.front.now.intake.entries = ap (λ (l : List Numbered). length l) c.entries-from.ensures in
    batch_whole _ _ _ c.requires.conf _ _ _ _ _ _ _ _ _ c.take_batch-count.ensures.took g.S.StartName.flat _ c.requires.serving.sound _ _ c.requires.serving.begun c.requires.serving.plain c.requires.serving.sent _ count g.S.StartName.start g.S.StartName.first

pub returns-in-None-clause-sent : goal.returns-in-None-clause-sent
returns-in-None-clause-sent g c =
    let count : length c.entries-from.result.now ≡ length c.args.front.now.intake.entries = ap (λ (l : List Numbered). length l) c.entries-from.ensures in
    (batch_on _ _ _ c.requires.conf _ _ _ _ _ _ _ _ _ c.take_batch-count.ensures.took g.S.StartName.flat _ c.requires.serving.sound _ _ c.requires.serving.begun c.requires.serving.plain c.requires.serving.sent _ count c.send_after-sent.result _ c.send_after-sent.ensures.all c.send_after-sent.ensures.front (search rules)).0

pub returns-in-None-clause-serving : goal.returns-in-None-clause-serving
returns-in-None-clause-serving g c =
    let count : length c.entries-from.result.now ≡ length c.args.front.now.intake.entries = ap (λ (l : List Numbered). length l) c.entries-from.ensures in
    let on = batch_on _ _ _ c.requires.conf _ _ _ _ _ _ _ _ _ c.take_batch-count.ensures.took g.S.StartName.flat _ c.requires.serving.sound _ _ c.requires.serving.begun c.requires.serving.plain c.requires.serving.sent _ count c.send_after-sent.result _ c.send_after-sent.ensures.all c.send_after-sent.ensures.front (search rules) in
    record {
      going = search rules;
      base_is = c.take_batch-count.ensures.base ∙ c.requires.serving.base_is;
      idle = c.take_batch-count.ensures.idle;
      sound = on.1;
      begun = c.requires.serving.begun;
      plain = on.2;
      sent = on.0;
      room = search rules;
    }

pub returns-in-Some-clause-took : goal.returns-in-Some-clause-took
returns-in-Some-clause-took g c = took_ends _ _ _ _ _ _ _ _ _ _ _ c.send_after-sent.result c.in-Some.status (took_as _ _ _ _ _ _ _ _ _ _ _ _ c.requires.conf c.take_batch-count.ensures.took) (search rules) (search rules)

pub returns-in-Some-clause-sent : goal.returns-in-Some-clause-sent
returns-in-Some-clause-sent g c =
    let count : length c.entries-from.result.now ≡ length c.args.front.now.intake.entries = ap (λ (l : List Numbered). length l) c.entries-from.ensures in
    batch_ended _ _ _ c.requires.conf _ _ _ _ _ _ _ _ _ c.take_batch-count.ensures.took g.S.StartName.flat _ c.requires.serving.sound _ _ c.requires.serving.begun c.requires.serving.plain c.requires.serving.sent _ count c.send_after-sent.result _ c.send_after-sent.ensures.all c.send_after-sent.ensures.front c.in-Some.status (search rules)
