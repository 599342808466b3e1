use Rattle.std.proofs.Common.{◌≡◌, ◌≢◌, get_or, ◌<◌, ◌≤◌, ◌+◌, ◌∙◌, ℕ, min, List, Option, length, drop, refl, sym, ap, subst, arith}
use Rattle.std.specs.Prelude.{IfSome}
use Rattle.zbx_types.specs.declared.base.Base.{Base}
use Rattle.zbx_types.specs.declared.conf.Conf.{Conf}
use Rattle.zbx_types.specs.declared.entries.Numbered.{Numbered}
use Rattle.outside.specs.Others.{first_other}
use Rattle.outside.specs.Tells.{SinkTells}
use Rattle.entry_step.specs.Log.{log_of}
use Rattle.entry_laws.specs.InForce.{AllDistinct, FitsLog, IsFull}
use Rattle.base_laws.specs.Grounds.{IsBase, start_of}
use Rattle.book_opening.specs.Opening.{IsCompared, IsSound}
use Rattle.book_opening.specs.Outgoing.{HasFront, log_lines, log_records}
use Rattle.base_laws.proofs.Grounds.{number_before, number_few}
use Rattle.book_opening.proofs.Numbers.{number_left}
use Rattle.book_opening.proofs.Replaying.{start_good, start_holds, start_stage}
use Rattle.book_opening.proofs.Growing.{tally_size}
use Rattle.book_opening.proofs.Comparing.{front_at, lacks_from, mendable_at, other_there, replayed_at}
use Rattle.book.specs.Book.{Begun}
use Rattle.book.proofs.Books.{opened, told_least}
use Rattle.book.proofs.book.Book.new.Goals as goal

pub last_number-before-requires-clause-few : goal.last_number-before-requires-clause-few
last_number-before-requires-clause-few g c =
    let few = number_few g.S.StartName.flat g.S.StartName.base c.requires.fits in
    let same = ap (λ (b : Base). b.number) c.requires.base in
    omega arith

pub returns-in-Err-mend-clause-behind : goal.returns-in-Err-mend-clause-behind
returns-in-Err-mend-clause-behind g c = λ held count is.
    let same = c.in-Ok.ensures.left.size ∙ ap (λ (t : SinkTells). t.held) c.requires.outbox in
    let more = c.in-Err-mend.ensures.behind held count is in
    (more.0 ∙ same, more.1 ∙ ap (λ (b : Base). b.lines) c.requires.base, more.2)

pub returns-in-Err-mend-clause-ahead : goal.returns-in-Err-mend-clause-ahead
returns-in-Err-mend-clause-ahead g c = λ held lines is.
    let log = log_of g.S.StartName.kept in
    let flat = g.S.StartName.flat in
    let base = g.S.StartName.base in
    let before = ap (λ (b : Base). b.lines) c.requires.base in
    let counted = tally_size base.lines (log_records flat base log) c.in-Ok.replayed.tally c.in-Ok.ensures.replayed.recorded.tally in
    let same = c.in-Ok.ensures.left.size ∙ ap (λ (t : SinkTells). t.held) c.requires.outbox in
    let more = c.in-Err-mend.ensures.ahead held lines (log_lines flat base log) is (subst (λ n. c.in-Ok.replayed.tally.bytes ≡ min (n + length (log_lines flat base log)) 18446744073709551615) (sym before) counted) in
    (more.0 ∙ same, more.1 ∙ ap (λ n. n + length (log_lines flat base log)) before, more.2)

pub returns-in-Err-mend-clause-differs : goal.returns-in-Err-mend-clause-differs
returns-in-Err-mend-clause-differs g c = λ at is.
    let log = log_of g.S.StartName.kept in
    let flat = g.S.StartName.flat in
    let base = g.S.StartName.base in
    let lines = log_lines flat base log in
    let first = g.S.StartName.outbox in
    let before = ap (λ (b : Base). b.lines) c.requires.base in
    let over = c.in-Ok.ensures.replayed.recorded in
    let counted = tally_size base.lines (log_records flat base log) c.in-Ok.replayed.tally over.tally in
    let same = c.in-Ok.ensures.left.size ∙ ap (λ (t : SinkTells). t.held) c.requires.outbox in
    let bytes = c.in-Ok.ensures.left.bytes ∙ ap (λ (t : SinkTells). t.bytes) c.requires.outbox in
    let lawful = subst (λ (t : SinkTells). IfSome t.bytes (λ b. t.held ≡ length b)) c.requires.outbox (g.met.O.Sink.held_is c.args.outbox) in
    let more = c.in-Err-mend.ensures.differs at is in
    let some = more.0 in
    let few = more.1 in
    let least : base.lines ≤ first.held = omega arith in
    let within = subst (λ (t : SinkTells). IfSome c.in-Ok.replayed.other (λ place. (base.lines ≤ place) × (place < t.held) × (place < base.lines + length lines))) c.requires.outbox over.compared.within in
    let inside = subst (λ o. IfSome o (λ place. (base.lines ≤ place) × (place < first.held) × (place < base.lines + length lines))) more.2 within in (
      least,
      omega arith,
      inside.0,
      inside.1,
      other_there base.lines first.bytes lines at c.in-Ok.replayed.other more.2 (told_least base.lines first lawful least)
          (subst (λ (t : SinkTells). IfSome t.bytes (λ b. c.in-Ok.replayed.other ≡ first_other base.lines lines (drop base.lines b))) c.requires.outbox over.compared.place)
          (subst (λ o. IfSome o (λ b. at < length b → get_or b at 0 ≢ 0)) bytes more.3),
    )

-- what is mended behind the bytes of the base's lines
mended_by : (a b : Base) (bytes : ℕ) (opening sink : SinkTells) (other : Option ℕ) (lines : List ℕ) → a ≡ b
    → ((all : List ℕ) → bytes ≡ min (a.lines + length all) 18446744073709551615 → IsCompared a.lines opening all other → HasFront a.lines opening sink all)
    → bytes ≡ min (b.lines + length lines) 18446744073709551615 → IsCompared b.lines opening lines other → HasFront b.lines opening sink lines
mended_by a b bytes opening sink other lines same mended =
    subst (λ (x : Base). bytes ≡ min (x.lines + length lines) 18446744073709551615 → IsCompared x.lines opening lines other → HasFront x.lines opening sink lines) same (mended lines)

pub returns-clause-front : goal.returns-clause-front
returns-clause-front g c =
    let log = log_of g.S.StartName.kept in
    let flat = g.S.StartName.flat in
    let base = g.S.StartName.base in
    let opening = g.O.Sink.tells c.begin.new.outbox in
    let left = c.in-Ok.ensures.left in
    let over = (replayed_at flat base log (g.O.Sink.tells c.args.outbox) opening c.in-Ok.replayed left.bytes left.size c.in-Ok.ensures.replayed).recorded in
    let counted = tally_size base.lines (log_records flat base log) c.in-Ok.replayed.tally over.tally in
    front_at base.lines opening g.S.StartName.outbox (g.O.Sink.tells c.mend.new.outbox) (log_lines flat base log) (sym (left.bytes ∙ ap (λ (t : SinkTells). t.bytes) c.requires.outbox))
    (mended_by c.args.base.now base c.in-Ok.replayed.tally.bytes opening (g.O.Sink.tells c.mend.new.outbox) c.in-Ok.replayed.other (log_lines flat base log) c.requires.base c.in-Ok-mend.ensures.mended counted over.compared)

pub returns-clause-unwritten : goal.returns-clause-unwritten
returns-clause-unwritten g c =
    let log = log_of g.S.StartName.kept in
    let flat = g.S.StartName.flat in
    let base = g.S.StartName.base in
    let opening = g.O.Sink.tells c.begin.new.outbox in
    let left = c.in-Ok.ensures.left in
    let over = (replayed_at flat base log (g.O.Sink.tells c.args.outbox) opening c.in-Ok.replayed left.bytes left.size c.in-Ok.ensures.replayed).recorded in
    lacks_from base.lines opening.held (g.O.Sink.tells c.mend.new.outbox).held c.in-Ok.replayed.other (log_lines flat base log) c.in-Ok.replayed.missing over.compared.within c.in-Ok-mend.ensures.held over.missing

pub returns-clause-mendable : goal.returns-clause-mendable
returns-clause-mendable g c =
    let log = log_of g.S.StartName.kept in
    let flat = g.S.StartName.flat in
    let base = g.S.StartName.base in
    let first = g.S.StartName.outbox in
    let opening = g.O.Sink.tells c.begin.new.outbox in
    let left = c.in-Ok.ensures.left in
    let over = (replayed_at flat base log (g.O.Sink.tells c.args.outbox) opening c.in-Ok.replayed left.bytes left.size c.in-Ok.ensures.replayed).recorded in
    let counted = tally_size base.lines (log_records flat base log) c.in-Ok.replayed.tally over.tally in
    let same = left.size ∙ ap (λ (t : SinkTells). t.held) c.requires.outbox in
    let before = ap (λ (b : Base). b.lines) c.requires.base in
    let least = c.in-Ok-mend.ensures.least in
    let few = c.in-Ok-mend.ensures.enough in
    mendable_at base.lines opening first (log_lines flat base log) c.in-Ok.replayed.other (sym (left.bytes ∙ ap (λ (t : SinkTells). t.bytes) c.requires.outbox)) (omega arith) (omega arith) over.compared.place c.in-Ok-mend.ensures.mendable

pub invariant_of-book : goal.invariant_of-book
invariant_of-book g c =
    let log = log_of g.S.StartName.kept in
    let flat = g.S.StartName.flat in
    let base = g.S.StartName.base in
    let lines = log_lines flat base log in
    let first = g.S.StartName.outbox in
    let run : Begun = record { flat = flat; base = base; kept = g.S.StartName.kept; outbox = first } in
    let before = g.O.Sink.tells c.args.outbox in
    let opening = g.O.Sink.tells c.begin.new.outbox in
    let sink = g.O.Sink.tells c.mend.new.outbox in
    let left = c.in-Ok.ensures.left in
    let over = (replayed_at flat base log before opening c.in-Ok.replayed left.bytes left.size c.in-Ok.ensures.replayed).recorded in
    let counted = tally_size base.lines (log_records flat base log) c.in-Ok.replayed.tally over.tally in
    let same = left.size ∙ ap (λ (t : SinkTells). t.held) c.requires.outbox in
    let few = c.in-Ok-mend.ensures.enough in
    let enough : first.held ≤ base.lines + length lines = omega arith in
    let lawful = subst (λ (t : SinkTells). IfSome t.bytes (λ b. t.held ≡ length b)) c.requires.outbox (g.met.O.Sink.held_is c.args.outbox) in
    let front : HasFront base.lines first sink lines = front_at base.lines opening first sink lines (sym (left.bytes ∙ ap (λ (t : SinkTells). t.bytes) c.requires.outbox))
    (mended_by c.args.base.now base c.in-Ok.replayed.tally.bytes opening sink c.in-Ok.replayed.other lines c.requires.base c.in-Ok-mend.ensures.mended counted over.compared) in
    let faults = ap (λ (t : SinkTells). t.faults) c.requires.outbox in
    let rose = left.later in
    let rose2 = c.in-Ok-mend.ensures.later in
    opened run c.args.ring.received c.new.result.entries c.new.result.gate.marks 0 c.in-Ok.replayed.tally sink c.in-Ok.replayed.missing
    c.new.ensures.entries c.requires.received refl over.tally enough lawful front
    (lacks_from base.lines opening.held sink.held c.in-Ok.replayed.other lines c.in-Ok.replayed.missing over.compared.within c.in-Ok-mend.ensures.held over.missing) (omega arith)

sound_of : (flat : List ℕ → Conf) (base : Base) (log : List Numbered) → AllDistinct flat → IsBase flat base → IsFull (start_of flat base) log × FitsLog flat (start_of flat base) log → IsSound flat base log
sound_of flat base log distinct is whole = record { distinct = distinct; base_is = is; full = whole.0; fits = whole.1 }

pub begin-requires-clause-sound : goal.begin-requires-clause-sound
begin-requires-clause-sound g c = sound_of g.S.StartName.flat g.S.StartName.base (log_of g.S.StartName.kept) c.requires.distinct c.requires.fits c.requires.whole

pub returns-clause-ready : goal.returns-clause-ready
returns-clause-ready g c = start_stage g.S.StartName.flat g.S.StartName.base g.S.StartName.kept g.S.StartName.start c.in-Ok.replayed.present g.S.StartName.first c.in-Ok.ensures.replayed.present

pub new-requires-clause-before : goal.new-requires-clause-before
new-requires-clause-before g c =
    let number = number_left g.S.StartName.flat (start_of g.S.StartName.flat g.S.StartName.base) g.S.StartName.kept g.S.StartName.start g.S.StartName.first c.requires.whole.0 in
    let first = number_before g.S.StartName.flat g.S.StartName.base c.requires.fits in
    let same = ap (λ (b : Base). b.number) c.requires.base in
    let long = ap (λ (es : List Numbered). length es) c.requires.kept in
    omega arith

pub new-requires-clause-few : goal.new-requires-clause-few
new-requires-clause-few g c =
    let few = number_few g.S.StartName.flat g.S.StartName.base c.requires.fits in
    let same = ap (λ (b : Base). b.number) c.requires.base in
    omega arith

pub new-requires-clause-good : goal.new-requires-clause-good
new-requires-clause-good g c =
    start_good g.S.StartName.flat g.S.StartName.base g.S.StartName.kept g.S.StartName.start g.S.StartName.first
    (sound_of g.S.StartName.flat g.S.StartName.base (log_of g.S.StartName.kept) c.requires.distinct c.requires.fits c.requires.whole)

pub new-requires-clause-cells : goal.new-requires-clause-cells
new-requires-clause-cells g c =
    start_holds g.S.StartName.flat g.S.StartName.base g.S.StartName.kept g.S.StartName.start c.in-Ok.replayed.present g.S.StartName.first
    (sound_of g.S.StartName.flat g.S.StartName.base (log_of g.S.StartName.kept) c.requires.distinct c.requires.fits c.requires.whole) c.in-Ok.ensures.replayed.present

pub new-requires-clause-cache : goal.new-requires-clause-cache
new-requires-clause-cache g c = c.in-Ok.ensures.cache ∙ c.requires.cache
