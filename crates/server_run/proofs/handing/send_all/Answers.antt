use Rattle.std.proofs.Common.{◌≡◌, ◌∷◌, ◌++◌, [], ◌∙◌, ap, sym, subst, drop, suc, add-one, ◌+◌, rules, ◌<◌, length}
use Rattle.std.proofs.Math.Seq.{drop-cons}
use Rattle.zbx_types.specs.declared.entries.Numbered.{Numbered}
use Rattle.book.specs.Entries.{IsWholeLog}
use Rattle.server_run.proofs.Logs.{next_whole}
use Rattle.server_run.proofs.handing.send_all.Goals as goal

pub send_one-requires-clause-whole : goal.send_one-requires-clause-whole
send_one-requires-clause-whole g c =
    let i = c.loop-entry.entry-index in
    let es = c.args.entries.now in
    let e = c.entry-item.result in
    let below : i < length es = c.loop-entry-test.true in
    let next : drop i es ≡ e ∷ drop (i + 1) es = drop-cons es i e below ∙ ap (λ x. x ∷ drop (suc i) es) (sym c.entry-item.is) ∙ ap (λ n. e ∷ drop n es) (sym (add-one i)) in
    let same : c.in_ok-copy.copy ≡ e = search rules in
    let sent = c.loop-entry.head.sent in
    subst (λ (x : Numbered). IsWholeLog g.S.StartName.start (sent ++ x ∷ [])) (sym same)
    (next_whole g.S.StartName.start sent e (drop (i + 1) es) _ (ap (λ l. sent ++ l) (sym next) ∙ c.loop-entry.invariant.sent) c.requires.whole)
