-- Laws of what holds of a book.
use Rattle.std.proofs.Common.{◌≡◌, ◌⊎◌, inl, inr, ℕ, zero, suc, ◌+◌, ◌-◌, ◌<◌, ◌≤◌, List, [], ◌∷◌, ◌++◌, length, take, drop, get_or, refl, sym, ap, ap₂, subst, ◌∙◌, arith, append_assoc, append-nil, length-append, reverse, replicate, eq-or-lt_of_le}
use Rattle.std.proofs.lemmas.Bool.{cases_lt}
use Rattle.std.specs.Prelude.{Option, Some, None, IfSome}
use Rattle.std.proofs.lemmas.List.{take-append-drop, take-append-le, drop-append-le, reverse-append}
use mathlib.Core.List.{IsPrefix}
use Rattle.zbx_types.specs.declared.base.Base.{Base}
use Rattle.zbx_types.specs.declared.conf.Conf.{Conf}
use Rattle.zbx_types.specs.declared.entries.Numbered.{Numbered}
use Rattle.zbx_types.specs.declared.entries.Rec.{Rec}
use Rattle.outside.specs.Tells.{SinkTells}
use Rattle.syncer_gate.specs.Gate.{Gate}
use Rattle.syncer_gate.specs.declared.marks.Mark.{Mark}
use Rattle.syncer_gate.specs.declared.marks.Mark.TheVariants.{Pending, Applied}
use Rattle.event_text.specs.Lines.{lines_of}
use Rattle.entry_step.specs.Log.{log_of}
use Rattle.entry_laws.specs.InForce.{IsPlain, behind_all}
use Rattle.entry_step.specs.Records.{replay}
use Rattle.book_opening.specs.declared.tally.Tally.{Tally}
use Rattle.book_opening.specs.Tally.{tally_of, tally_with}
use Rattle.base_laws.specs.Grounds.{start_of}
use Rattle.book_opening.specs.Outgoing.{Grew, HasFront, log_lines, log_records, log_tally}
use Rattle.book_opening.proofs.Comparing.{front_more, front_written}
use Rattle.entry_laws.proofs.InForce.{replay_on}
use Rattle.book.specs.Book.{Begun, IsBook, AreApplied, StayApplied, upto, lines_upto}
use Rattle.book_opening.proofs.Counting.{tally_more}
use Rattle.book.proofs.Numbers.{plain_reverse}
use Rattle.book_opening.proofs.Growing.{lines_of-append, lines_newer}
use Rattle.entry_step.specs.Each.{Each}
use Rattle.entry_step.specs.Start.{Start}

-- ---- lists

pub prefix_trans : {A : Type 0} (xs ys zs : List A) → IsPrefix xs ys → IsPrefix ys zs → IsPrefix xs zs
prefix_trans xs ys zs p q = (p.0 ++ q.0, sym (append_assoc xs p.0 q.0) ∙ ap (λ l. l ++ q.0) p.1 ∙ q.1)

-- of two fronts of a list the one that isn't longer is a front of the other
pub prefix_split : {A : Type 0} (a b c d : List A) → a ++ b ≡ c ++ d → length a ≤ length c → IsPrefix a c
prefix_split [] b c d e l = (c, refl)
prefix_split (x ∷ a) b [] d e l = absurd (omega (arith, l))
prefix_split (x ∷ a) b (y ∷ c) d e l =
    let heads : x ≡ y = cc in
    let rest = prefix_split a b c d (let tails : a ++ b ≡ c ++ d = cc in tails) (omega (arith, l)) in
    (rest.0, ap (λ z. z ∷ (a ++ rest.0)) heads ∙ ap (λ l. y ∷ l) rest.1)

-- ---- marks

-- more of a ring was received, or marks have changed that don't say applied
pub goes_on : (run : Begun) (received entries : List Numbered) (marks : List Mark) (frontier : ℕ) (tally : Tally) (sink : SinkTells) (unwritten : List ℕ) (received' entries' : List Numbered) (marks' : List Mark)
    → IsBook run received entries marks frontier tally sink unwritten → entries' ≡ received' → IsPrefix entries entries' → StayApplied marks marks'
    → IsBook run received' entries' marks' frontier tally sink unwritten
goes_on run received entries marks frontier tally sink unwritten received' entries' marks' b is pre keep =
    let long : length entries + length pre.0 ≡ length entries' = sym (length-append entries pre.0) ∙ ap (λ (l : List Numbered). length l) pre.1 in
    let same : upto run.kept entries' frontier ≡ upto run.kept entries frontier = ap (λ es. run.kept ++ es) (ap (take frontier) (sym pre.1) ∙ take-append-le frontier entries pre.0 b.within) in record {
      received_is = is;
      within = omega (arith, b.within, long);
      applied = λ i l. keep i (b.applied i l);
      tally_is = subst (λ es. tally ≡ log_tally run.flat run.base (log_of es)) (sym same) b.tally_is;
      enough = b.enough;
      lawful = b.lawful;
      front = subst (λ es. HasFront run.base.lines run.outbox sink (log_lines run.flat run.base (log_of es))) (sym same) b.front;
      left = b.left ∙ ap (λ es. drop (sink.held - run.base.lines) (log_lines run.flat run.base (log_of es))) (sym same);
      later = b.later;
    }

-- ---- the frontier

-- some of some plain entries
each_taken : (n : ℕ) (entries : List Numbered) → Each IsPlain entries → Each IsPlain (take n entries)
each_taken zero [] plain = tt
each_taken zero (e ∷ entries) plain = tt
each_taken (suc n) [] plain = tt
each_taken (suc n) (e ∷ entries) plain = (plain.0, each_taken n entries plain.1)

-- what is replayed with entries behind those with which a run began
replay_upto : (flat : List ℕ → Conf) (base : Base) (kept entries : List Numbered) (start : Start) (n : ℕ) → start ≡ behind_all flat (start_of flat base) (log_of kept) → Each IsPlain entries
    → log_records flat base (log_of (upto kept entries n)) ≡ log_records flat base (log_of kept) ++ replay start (log_of (take n entries))
replay_upto flat base kept entries start n is plain =
    ap (log_records flat base) (reverse-append kept (take n entries))
    ∙ replay_on flat (start_of flat base) (log_of (take n entries)) (log_of kept) (plain_reverse (take n entries) (each_taken n entries plain))
    ∙ ap (λ (s : Start). log_records flat base (log_of kept) ++ replay s (log_of (take n entries))) (sym is)

-- the lines of kept entries are no more than those with more behind them
kept_few : (flat : List ℕ → Conf) (base : Base) (kept entries : List Numbered) (n : ℕ) → length (log_lines flat base (log_of kept)) ≤ length (lines_upto flat base kept entries n)
kept_few flat base kept entries n =
    let more = lines_newer flat base (log_of (take n entries)) (log_of kept) in
    let is : lines_upto flat base kept entries n ≡ log_lines flat base (log_of kept) ++ more.0 = ap (log_lines flat base) (reverse-append kept (take n entries)) ∙ more.1 in
    let long = ap (λ (l : List ℕ). length l) is in
    omega (arith, long, length-append (log_lines flat base (log_of kept)) more.0)

-- an outbox held no more than lines
held_few : (before : ℕ) (outbox : SinkTells) (count size : ℕ) → IfSome outbox.bytes (λ b. outbox.held ≡ length b) → outbox.held ≤ before + count → count ≤ size → IfSome outbox.bytes (λ b. length b ≤ before + size)
held_few before outbox count size lawful enough few = go outbox.bytes lawful
  where
    go : (o : Option (List ℕ)) → IfSome o (λ b. outbox.held ≡ length b) → IfSome o (λ b. length b ≤ before + size)
    go None law = tt
    go (Some b) law = omega arith

-- and no less than so many bytes
pub told_least : (before : ℕ) (outbox : SinkTells) → IfSome outbox.bytes (λ b. outbox.held ≡ length b) → before ≤ outbox.held → IfSome outbox.bytes (λ b. before ≤ length b)
told_least before outbox lawful least = go outbox.bytes lawful
  where
    go : (o : Option (List ℕ)) → IfSome o (λ b. outbox.held ≡ length b) → IfSome o (λ b. before ≤ length b)
    go None law = tt
    go (Some b) law = omega arith

-- so did that of a run
outbox_few : (run : Begun) (entries : List Numbered) (n : ℕ) → IfSome run.outbox.bytes (λ b. run.outbox.held ≡ length b) → run.outbox.held ≤ run.base.lines + length (log_lines run.flat run.base (log_of run.kept))
    → IfSome run.outbox.bytes (λ b. length b ≤ run.base.lines + length (lines_upto run.flat run.base run.kept entries n))
outbox_few run entries n lawful enough =
    held_few run.base.lines run.outbox (length (log_lines run.flat run.base (log_of run.kept))) (length (lines_upto run.flat run.base run.kept entries n)) lawful enough (kept_few run.flat run.base run.kept entries n)

-- the entry at the frontier is passed, which is applied
pub passed : (run : Begun) (received entries : List Numbered) (marks : List Mark) (frontier : ℕ) (tally : Tally) (sink : SinkTells) (unwritten : List ℕ)
    (start : Start) (records : List Rec) (tally' : Tally) (unwritten' : List ℕ) → IsBook run received entries marks frontier tally sink unwritten
    → start ≡ behind_all run.flat (start_of run.flat run.base) (log_of run.kept) → Each IsPlain entries
    → frontier < length entries → get_or marks frontier Pending ≡ Applied
    → replay start (log_of (take (frontier + 1) entries)) ≡ replay start (log_of (take frontier entries)) ++ records
    → tally' ≡ tally_with tally records → unwritten' ≡ unwritten ++ lines_of records
    → IsBook run received entries marks (frontier + 1) tally' sink unwritten'
passed run received entries marks frontier tally sink unwritten start records tally' unwritten' b is plain within here next counts adds =
    let flat = run.flat in
    let base = run.base in
    let kept = run.kept in
    let before = log_records flat base (log_of (upto kept entries frontier)) in
    let more : log_records flat base (log_of (upto kept entries (frontier + 1))) ≡ before ++ records =
    replay_upto flat base kept entries start (frontier + 1) is plain ∙ ap (λ rs. log_records flat base (log_of kept) ++ rs) next
    ∙ sym (append_assoc (log_records flat base (log_of kept)) (replay start (log_of (take frontier entries))) records)
    ∙ ap (λ rs. rs ++ records) (sym (replay_upto flat base kept entries start frontier is plain)) in
    let lines : lines_upto flat base kept entries (frontier + 1) ≡ lines_upto flat base kept entries frontier ++ lines_of records = ap lines_of more ∙ lines_of-append before records in
    let short : sink.held - base.lines ≤ length (lines_upto flat base kept entries frontier) = let l = b.front.least in let s = b.front.size in omega arith in record {
      received_is = b.received_is;
      within = omega (arith, within);
      applied = λ i l. reach i (eq-or-lt_of_le (below i l));
      tally_is = counts ∙ ap (λ t. tally_with t records) b.tally_is ∙ tally_more base.lines before records ∙ ap (tally_of base.lines) (sym more);
      enough = b.enough;
      lawful = b.lawful;
      front = subst (HasFront base.lines run.outbox sink) (sym lines) (front_more base.lines run.outbox sink (lines_upto flat base kept entries frontier) (lines_of records) (outbox_few run entries frontier b.lawful b.enough) b.front);
      left = adds ∙ ap (λ l. l ++ lines_of records) b.left ∙ sym (drop-append-le (sink.held - base.lines) (lines_upto flat base kept entries frontier) (lines_of records) short) ∙ ap (drop (sink.held - base.lines)) (sym lines);
      later = b.later;
    }
  where
    below : (i : ℕ) → i < frontier + 1 → i ≤ frontier
    below i l = omega (arith, l)

    reach : (i : ℕ) → (i ≡ frontier) ⊎ (i < frontier) → get_or marks i Pending ≡ Applied
    reach i (inl same) = ap (λ j. get_or marks j Pending) same ∙ here
    reach i (inr l) = b.applied i l

-- ---- the outbox

-- some of the lines were written
pub written : (run : Begun) (received entries : List Numbered) (marks : List Mark) (frontier : ℕ) (tally : Tally) (sink : SinkTells) (unwritten : List ℕ) (sink' : SinkTells) (unwritten' : List ℕ)
    → IsBook run received entries marks frontier tally sink unwritten
    → (front : List ℕ) × Grew sink sink' front × (unwritten ≡ front ++ unwritten') → sink.faults ≤ sink'.faults
    → IsBook run received entries marks frontier tally sink' unwritten'
written run received entries marks frontier tally sink unwritten sink' unwritten' b more rose =
    let w = front_written run.base.lines run.outbox sink sink' (lines_upto run.flat run.base run.kept entries frontier) more.0 unwritten' b.front more.1 (sym b.left ∙ more.2) in record {
      received_is = b.received_is;
      within = b.within;
      applied = b.applied;
      tally_is = b.tally_is;
      enough = b.enough;
      lawful = b.lawful;
      front = w.0;
      left = w.1;
      later = omega (arith, b.later, rose);
    }

-- an outbox that has a front of the lines up to the frontier has one of those of all entries, and of more
pub front_of_all : (run : Begun) (entries all : List Numbered) (frontier : ℕ) (sink : SinkTells) → IsPrefix entries all → IfSome run.outbox.bytes (λ b. run.outbox.held ≡ length b)
    → run.outbox.held ≤ run.base.lines + length (log_lines run.flat run.base (log_of run.kept)) → HasFront run.base.lines run.outbox sink (lines_upto run.flat run.base run.kept entries frontier)
    → HasFront run.base.lines run.outbox sink (log_lines run.flat run.base (log_of (run.kept ++ all)))
front_of_all run entries all frontier sink pre lawful enough front =
    let kept = run.kept in
    let rest = drop frontier entries ++ pre.0 in
    let whole : take frontier entries ++ rest ≡ all = sym (append_assoc (take frontier entries) (drop frontier entries) pre.0) ∙ ap (λ l. l ++ pre.0) (take-append-drop frontier entries) ∙ pre.1 in
    let more = lines_newer run.flat run.base (reverse rest) (log_of (upto kept entries frontier)) in
    let lines : lines_upto run.flat run.base kept entries frontier ++ more.0 ≡ log_lines run.flat run.base (log_of (kept ++ all)) =
    sym more.1 ∙ ap (log_lines run.flat run.base) (sym (reverse-append (upto kept entries frontier) rest) ∙ ap log_of (append_assoc kept (take frontier entries) rest ∙ ap (λ es. kept ++ es) whole)) in
    subst (HasFront run.base.lines run.outbox sink) lines
    (front_more run.base.lines run.outbox sink (lines_upto run.flat run.base kept entries frontier) more.0 (outbox_few run entries frontier lawful enough) front)

-- ---- the opening

-- nothing came out of the ring yet
pub opened : (run : Begun) (received entries : List Numbered) (marks : List Mark) (frontier : ℕ) (tally : Tally) (sink : SinkTells) (unwritten : List ℕ)
    → entries ≡ [] → received ≡ [] → frontier ≡ 0 → tally ≡ log_tally run.flat run.base (log_of run.kept) → run.outbox.held ≤ run.base.lines + length (log_lines run.flat run.base (log_of run.kept))
    → IfSome run.outbox.bytes (λ b. run.outbox.held ≡ length b) → HasFront run.base.lines run.outbox sink (log_lines run.flat run.base (log_of run.kept))
    → unwritten ≡ drop (sink.held - run.base.lines) (log_lines run.flat run.base (log_of run.kept)) → run.outbox.faults ≤ sink.faults
    → IsBook run received entries marks frontier tally sink unwritten
opened run received entries marks frontier tally sink unwritten is none at counts enough lawful front lacks later =
    let same : upto run.kept entries frontier ≡ run.kept = ap₂ (λ es n. run.kept ++ take n es) is at ∙ append-nil run.kept in record {
      received_is = is ∙ sym none;
      within = let l = ap (λ (es : List Numbered). length es) is in omega (arith, at);
      applied = λ i l. absurd (omega (arith, l, at));
      tally_is = counts ∙ ap (λ es. log_tally run.flat run.base (log_of es)) (sym same);
      enough = enough;
      lawful = lawful;
      front = subst (λ es. HasFront run.base.lines run.outbox sink (log_lines run.flat run.base (log_of es))) (sym same) front;
      left = lacks ∙ ap (λ es. drop (sink.held - run.base.lines) (log_lines run.flat run.base (log_of es))) (sym same);
      later = later;
    }

-- ---- what was pulled

pub length_split : {A : Type 0} (a b c d : List A) → a ++ b ≡ c ++ d → length a + length b ≡ length c + length d
length_split a b c d e = sym (length-append a b) ∙ ap (λ (l : List _). length l) e ∙ length-append c d

-- so many entries more came out of the ring
pub pulled_front : (received known received' known' entries entries' : List Numbered) (count : ℕ) → entries ≡ received → entries' ≡ received'
    → received' ++ known' ≡ received ++ known → length received' ≡ length received + count → IsPrefix entries entries'
pulled_front received known received' known' entries entries' count is is' fifo long =
    let more = prefix_split received known received' known' (sym fifo) (omega (arith, long)) in
    (more.0, ap (λ l. l ++ more.0) is ∙ more.1 ∙ sym is')

pub pulled_count : (received received' entries entries' : List Numbered) (count : ℕ) → entries ≡ received → entries' ≡ received' → length received' ≡ length received + count
    → length entries' - length entries ≡ count
pulled_count received received' entries entries' count is is' long =
    let before : length entries ≡ length received = ap (λ (l : List Numbered). length l) is in
    let after : length entries' ≡ length received' = ap (λ (l : List Numbered). length l) is' in
    omega (arith, before, after, long)

-- where all that is known was taken, nothing more is in the ring
pub pulled_all : (received known received' known' sent : List Numbered) → received ++ known ≡ sent → received' ++ known' ≡ received ++ known → length received' ≡ length received + length known → received' ≡ sent
pulled_all received known received' known' sent all fifo long =
    let none : length known' ≡ 0 = omega (arith, length_split received' known' received known fifo, long) in
    sym (append-nil received') ∙ ap (λ l. received' ++ l) (sym (empty known' none)) ∙ fifo ∙ all
  where
    empty : (xs : List Numbered) → length xs ≡ 0 → xs ≡ []
    empty [] e = refl
    empty (x ∷ xs) e = absurd (omega (arith, e))

-- what was taken is a front of all that was sent
pub pulled_within : (received known sent entries : List Numbered) → entries ≡ received → received ++ known ≡ sent → IsPrefix entries sent
pulled_within received known sent entries is all = (known, ap (λ l. l ++ known) is ∙ all)

-- nothing was
pub same_front : (entries entries' : List Numbered) → entries' ≡ entries → IsPrefix entries entries'
same_front entries entries' same = ([], append-nil entries ∙ sym same)

-- the marks of entries of which none came
pub none_pending : (gate gate' : Gate) (n m : ℕ) → gate' ≡ gate → n ≡ m → gate' ≡ record gate { marks = gate.marks ++ replicate (n - m) Pending }
none_pending gate gate' n m same long =
    let none : n - m ≡ 0 = omega (arith, long) in
    same ∙ ap (λ ms. record gate { marks = ms }) (sym (ap (λ k. gate.marks ++ replicate k Pending) none ∙ append-nil gate.marks))

-- a frontier of which nothing is applied any more isn't below another
pub frontier_above : (marks : List Mark) (frontier n size : ℕ) → AreApplied marks frontier → frontier ≤ size → (n < size → get_or marks n Pending ≡ Applied → ⊥) → frontier ≤ n
frontier_above marks frontier n size applied within next = by (cases_lt n frontier)
  where
    by : (n < frontier) ⊎ (frontier ≤ n) → frontier ≤ n
    by (inl below) = absurd (next (omega (arith, below, within)) (applied n below))
    by (inr above) = above

-- where all are applied the frontier is at the end
pub frontier_at_end : (marks : List Mark) (n size : ℕ) → AreApplied marks size → n ≤ size → (n < size → get_or marks n Pending ≡ Applied → ⊥) → n ≡ size
frontier_at_end marks n size applied within next = by (eq-or-lt_of_le within)
  where
    by : (n ≡ size) ⊎ (n < size) → n ≡ size
    by (inl same) = same
    by (inr below) = absurd (next below (applied n below))
