use Rattle.std.proofs.Common.{◌≡◌, ◌++◌, ap, sym, ◌∙◌, List, ℕ, append_assoc, get_or, subst, take}
use Rattle.std.proofs.lemmas.List.Elements.{All-more}
use Rattle.zbx_types.specs.declared.entries.Entry.{Entry}
use Rattle.intake_journal.specs.Bytes.{entry_bytes, entries_bytes, IsTyped}
use Rattle.intake_journal.proofs.Writing.{written_more}
use Rattle.intake_journal.proofs.encoding.put_all.Goals as goal

pub loop-entry-preserved : goal.loop-entry-preserved
loop-entry-preserved c =
    let es = c.args.entries.now in
    let i = c.loop-entry.entry-index in
    let e = c.entry-item.result in
    let there : e ≡ get_or es i e = c.entry-item.is in
    record {
      out = c.in_ok-put.ensures.ok
          ∙ ap (λ (x : List ℕ). x ++ entry_bytes e) c.loop-entry.invariant.out
          ∙ append_assoc c.args.out.now (entries_bytes (take i es)) (entry_bytes e)
          ∙ ap (λ (x : Entry). c.args.out.now ++ (entries_bytes (take i es) ++ entry_bytes x)) there
          ∙ ap (λ (x : List ℕ). c.args.out.now ++ x) (sym (written_more es i e c.loop-entry-test.true));
      typed = All-more IsTyped es i e c.loop-entry-test.true c.loop-entry.invariant.typed (subst (λ (x : Entry). IsTyped x) there c.put.ensures.typed);
    }
