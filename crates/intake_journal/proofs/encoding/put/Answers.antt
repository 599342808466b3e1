use Rattle.std.proofs.Common.{◌≡◌, ◌++◌, ◌∷◌, ap, sym, ◌∙◌, subst, List, ℕ, length}
use Rattle.std.specs.Str.{IsUtf8}
use Rattle.zbx_types.specs.declared.entries.Entry.{Entry}
use Rattle.intake_journal.specs.Bytes.{number_bytes, moment_bytes, entry_bytes}
use Rattle.intake_journal.proofs.Writing.{put_more, config_written, value_written, tick_written}
use Rattle.intake_journal.proofs.encoding.put.Goals as goal

pub returns-in-Config-clause-ok : goal.returns-in-Config-clause-ok
returns-in-Config-clause-ok c =
    let size : number_bytes c.low.result ≡ number_bytes (length c.in-Config.text) = c.low.ensures ∙ ap (λ (n : ℕ). number_bytes n) c.len.ensures in
    let head : c.config_head-head.result ≡ 1 ∷ moment_bytes c.in-Config.now ++ number_bytes (length c.in-Config.text) =
    c.config_head-head.ensures.bytes ∙ ap (λ (x : List ℕ). 1 ∷ moment_bytes c.in-Config.now ++ x) size in
    let text : c.as_bytes.result.now ≡ c.in-Config.text = c.as_bytes.ensures.value ∙ c.as_str.ensures in
    let made : c.args.out.now ++ c.config_head-head.result ++ c.as_bytes.result.now ≡ c.args.out.now ++ entry_bytes c.args.entry.now =
    ap (λ (x : List ℕ). c.args.out.now ++ c.config_head-head.result ++ x) text
    ∙ config_written c.args.out.now c.config_head-head.result c.in-Config.text c.in-Config.now head
    ∙ ap (λ (e : Entry). c.args.out.now ++ entry_bytes e) (sym c.in-Config.is) in
    put_more c.extend_both.result c.extend_both.new.self (c.args.out.now ++ c.config_head-head.result ++ c.as_bytes.result.now) (c.args.out.now ++ entry_bytes c.args.entry.now) made c.extend_both.ensures.ok

pub returns-in-Config-clause-typed : goal.returns-in-Config-clause-typed
returns-in-Config-clause-typed c =
    let text : IsUtf8 c.in-Config.text = subst (λ (x : List ℕ). IsUtf8 x) c.as_str.ensures c.as_str.utf8 in
    rw c.in-Config.is (c.config_head-head.ensures.typed, text)

pub returns-in-Value-clause-ok : goal.returns-in-Value-clause-ok
returns-in-Value-clause-ok c =
    let front : List ℕ = 2 ∷ moment_bytes c.in-Value.now ++ number_bytes c.in-Value.item ++ moment_bytes c.in-Value.time in
    let size : number_bytes c.low-in-Value.result ≡ number_bytes (length c.in-Value.value) = c.low-in-Value.ensures ∙ ap (λ (n : ℕ). number_bytes n) c.len-in-Value.ensures in
    let head : c.value_head-head.result ≡ front ++ number_bytes (length c.in-Value.value) = c.value_head-head.ensures.bytes ∙ ap (λ (x : List ℕ). front ++ x) size in
    let text : c.as_bytes-in-Value.result.now ≡ c.in-Value.value = c.as_bytes-in-Value.ensures.value ∙ c.as_str-in-Value.ensures in
    let made : c.args.out.now ++ c.value_head-head.result ++ c.as_bytes-in-Value.result.now ≡ c.args.out.now ++ entry_bytes c.args.entry.now =
    ap (λ (x : List ℕ). c.args.out.now ++ c.value_head-head.result ++ x) text
    ∙ value_written c.args.out.now c.value_head-head.result c.in-Value.value c.in-Value.now c.in-Value.item c.in-Value.time head
    ∙ ap (λ (e : Entry). c.args.out.now ++ entry_bytes e) (sym c.in-Value.is) in
    put_more c.extend_both-in-Value.result c.extend_both-in-Value.new.self (c.args.out.now ++ c.value_head-head.result ++ c.as_bytes-in-Value.result.now) (c.args.out.now ++ entry_bytes c.args.entry.now) made c.extend_both-in-Value.ensures.ok

pub returns-in-Value-clause-typed : goal.returns-in-Value-clause-typed
returns-in-Value-clause-typed c =
    let text : IsUtf8 c.in-Value.value = subst (λ (x : List ℕ). IsUtf8 x) c.as_str-in-Value.ensures c.as_str-in-Value.utf8 in
    let typed = c.value_head-head.ensures.typed in
    rw c.in-Value.is (typed.0, typed.1, typed.2, text)

pub returns-in-Tick-clause-ok : goal.returns-in-Tick-clause-ok
returns-in-Tick-clause-ok c =
    let made : c.args.out.now ++ c.tick.result ≡ c.args.out.now ++ entry_bytes c.args.entry.now =
    ap (λ (x : List ℕ). c.args.out.now ++ x) (c.tick.ensures.bytes ∙ tick_written c.in-Tick.now ∙ ap (λ (e : Entry). entry_bytes e) (sym c.in-Tick.is)) in
    put_more c.extend.result c.extend.new.self (c.args.out.now ++ c.tick.result) (c.args.out.now ++ entry_bytes c.args.entry.now) made c.extend.ensures.ok

pub returns-in-Tick-clause-typed : goal.returns-in-Tick-clause-typed
returns-in-Tick-clause-typed c = rw c.in-Tick.is c.tick.ensures.typed
