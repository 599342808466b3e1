-- Laws of the lines of a log, and of sinks that grow by them.
use Rattle.std.proofs.Common.{◌≡◌, ℕ, zero, suc, ◌+◌, ◌-◌, ◌≤◌, min, List, [], ◌∷◌, ◌++◌, length, take, drop, refl, sym, ap, ◌∙◌, subst, append_assoc, append-nil, length-append, arith}
use Rattle.std.specs.Io.KnownBytes.{Keeps}
use Rattle.std.proofs.KnownBytes.{Appends-nil, Appends-trans, Appends-kept}
use Rattle.std.proofs.Math.Seq.{take-append_seam, take-append-add}
use Rattle.std.specs.Prelude.{Result, Ok, Err, IfOk, OnOk}
use Rattle.std.proofs.lemmas.List.{drop_all, length-take, take-append-drop}
use Rattle.std.proofs.lemmas.Grind.{flat_map-append}
use Rattle.zbx_types.specs.declared.base.Base.{Base}
use Rattle.zbx_types.specs.declared.conf.Conf.{Conf}
use Rattle.zbx_types.specs.declared.entries.Numbered.{Numbered}
use Rattle.zbx_types.specs.declared.entries.Rec.{Rec}
use Rattle.outside.specs.Tells.{SinkTells}
use Rattle.outside.specs.declared.event.Failed.{Failed}
use Rattle.event_text.specs.Lines.{lines_of, line_of}
use Rattle.entry_step.specs.Whole.{out_at, point}
use Rattle.base_laws.specs.Grounds.{start_of}
use Rattle.book_opening.specs.declared.tally.Tally.{Tally}
use Rattle.book_opening.specs.Tally.{tally_of}
use Rattle.book_opening.specs.Outgoing.{Grew, GrewByFront, Writes, log_lines, log_records}

-- ---- the lines of a log

pub lines_of-append : (a b : List Rec) → lines_of (a ++ b) ≡ lines_of a ++ lines_of b
lines_of-append a b = flat_map-append line_of a b

-- the lines of a log with one more entry
pub lines_next : (flat : List ℕ → Conf) (base : Base) (log : List Numbered) (e : Numbered) → log_lines flat base (e ∷ log) ≡ log_lines flat base log ++ lines_of (out_at flat (point flat (start_of flat base) log) e e.entry)
lines_next flat base log e = lines_of-append (log_records flat base log) (out_at flat (point flat (start_of flat base) log) e e.entry)

-- newer entries add lines behind those of the log before them
pub lines_newer : (flat : List ℕ → Conf) (base : Base) (newer log : List Numbered) → (more : List ℕ) × (log_lines flat base (newer ++ log) ≡ log_lines flat base log ++ more)
lines_newer flat base [] log = ([], sym (append-nil (log_lines flat base log)))
lines_newer flat base (e ∷ newer) log =
    let before = lines_newer flat base newer log in
    let here = lines_of (out_at flat (point flat (start_of flat base) (newer ++ log)) e e.entry) in
    (before.0 ++ here, lines_next flat base (newer ++ log) e ∙ ap (λ l. l ++ here) before.1 ∙ append_assoc (log_lines flat base log) before.0 here)

pub drop_append : (n : ℕ) (xs ys : List ℕ) → drop n (xs ++ ys) ≡ drop n xs ++ drop (n - length xs) ys
drop_append zero [] ys = refl
drop_append (suc n) [] ys = let same : suc n ≡ suc n - 0 = omega arith in ap (λ k. drop k ys) same
drop_append zero (x ∷ xs) ys = let none : 0 ≡ 0 - length (x ∷ xs) = omega arith in ap (λ k. (x ∷ xs) ++ drop k ys) none
drop_append (suc n) (x ∷ xs) ys = let less : n - length xs ≡ suc n - length (x ∷ xs) = omega arith in drop_append n xs ys ∙ ap (λ k. drop n xs ++ drop k ys) less

-- the bytes that are counted are those before the lines and those of the lines, up to the last value of the count
pub tally_size : (before : ℕ) (rs : List Rec) (tally : Tally) → tally ≡ tally_of before rs → tally.bytes ≡ min (before + length (lines_of rs)) 18446744073709551615
unfolding tally_of
tally_size before rs tally is = ap (λ (t : Tally). t.bytes) is

-- what is said of an Ok
pub on_ok : {T E : Type 0} (r : Result T E) (P Q : Type 0) → (P → Q) → OnOk r P → OnOk r Q
on_ok (Ok x) P Q goes p = goes p
on_ok (Err e) P Q goes p = tt

-- what a call answers, by what follows from it
pub if_ok : {T E : Type 0} (r : Result T E) (P Q : T → Type 0) → ((x : T) → P x → Q x) → IfOk r P → IfOk r Q
if_ok (Ok x) P Q goes p = goes x p
if_ok (Err e) P Q goes p = tt

-- what holds in any case
pub of_any : {T E : Type 0} (r : Result T E) (P : Type 0) → P → OnOk r P
of_any (Ok x) P p = p
of_any (Err e) P p = tt

-- ---- sinks that grow

pub grew_none : (sink : SinkTells) → Grew sink sink []
grew_none sink = record { bytes = Appends-nil sink.bytes; size = omega arith }

-- a sink that failed grew no more
pub grew_kept : (a b c : SinkTells) (bs : List ℕ) → Grew a b bs → Keeps b.bytes c.bytes → c.held ≡ b.held → Grew a c bs
grew_kept a b c bs p kept same = record { bytes = Appends-kept a.bytes b.bytes c.bytes bs p.bytes kept; size = same ∙ p.size }

-- bytes, and more after them
pub grew_more : (a b c : SinkTells) (bs cs : List ℕ) → Grew a b bs → Grew b c cs → Grew a c (bs ++ cs)
grew_more a b c bs cs p q = record { bytes = Appends-trans a.bytes b.bytes c.bytes bs cs p.bytes q.bytes; size = omega (arith, q.size, p.size, length-append bs cs) }

-- all of a text is some of it from the front
pub all_front : (sink sink' : SinkTells) (lines : List ℕ) → Grew sink sink' lines → GrewByFront sink sink' lines
all_front sink sink' lines all = (length lines, subst (Grew sink sink') (sym (ap (take (length lines)) (sym (append-nil lines)) ∙ take-append_seam lines [])) all)

-- nothing is some of a text from the front
pub none_front : (sink : SinkTells) (lines : List ℕ) → GrewByFront sink sink lines
none_front sink lines = (0, grew_none sink)

-- a text, and some of another from its front
pub front_more : (a b c : SinkTells) (before more all : List ℕ) → before ++ more ≡ all → Grew a b before → GrewByFront b c more → GrewByFront a c all
front_more a b c before more all is p q =
    let part : before ++ take q.0 more ≡ take (length before + q.0) all = sym (take-append-add before more q.0) ∙ ap (take (length before + q.0)) is in
    (length before + q.0, subst (Grew a c) part (grew_more a b c before (take q.0 more) p q.1))

pub length_append : (a b : List ℕ) → length (a ++ b) ≡ length a + length b
length_append a b = length-append a b

-- ---- what is left of bytes that were written

-- a sink that was written to grew by a front, also where it failed
pub writes_front : (sink sink' : SinkTells) (bytes : List ℕ) (r : Result (Unit {0}) Failed) → Writes sink sink' bytes r → GrewByFront sink sink' bytes
writes_front sink sink' bytes (Ok done) grew = all_front sink sink' bytes grew
writes_front sink sink' bytes (Err failed) front = front

drop_taken : (n : ℕ) (xs : List ℕ) → drop (length (take n xs)) xs ≡ drop n xs
drop_taken zero [] = refl
drop_taken zero (x ∷ xs) = refl
drop_taken (suc n) [] = refl
drop_taken (suc n) (x ∷ xs) = drop_taken n xs

-- the front by which a sink grew, and what is left behind it
pub front_dropped : (sink sink' : SinkTells) (bytes left : List ℕ) → GrewByFront sink sink' bytes → left ≡ drop (sink'.held - sink.held) bytes
    → (front : List ℕ) × Grew sink sink' front × (bytes ≡ front ++ left)
front_dropped sink sink' bytes left p is =
    let count : sink'.held - sink.held ≡ length (take p.0 bytes) = omega (arith, p.1.size) in
    let behind : left ≡ drop p.0 bytes = is ∙ ap (λ n. drop n bytes) count ∙ drop_taken p.0 bytes in
    (take p.0 bytes, p.1, sym (take-append-drop p.0 bytes) ∙ ap (λ l. take p.0 bytes ++ l) (sym behind))

-- it is at most all
pub front_within : (sink sink' : SinkTells) (bytes : List ℕ) → GrewByFront sink sink' bytes → (sink.held ≤ sink'.held) × (sink'.held - sink.held ≤ length bytes)
front_within sink sink' bytes p = (omega (arith, p.1.size), omega (arith, p.1.size, length-take p.0 bytes))

-- where all was written, nothing is left
pub all_dropped : (sink sink' : SinkTells) (bytes left : List ℕ) (r : Result (Unit {0}) Failed) → Writes sink sink' bytes r → left ≡ drop (sink'.held - sink.held) bytes → OnOk r (left ≡ [])
all_dropped sink sink' bytes left (Ok done) grew is =
    let count : sink'.held - sink.held ≡ length bytes = omega (arith, grew.size) in
    is ∙ ap (λ n. drop n bytes) count ∙ drop_all (length bytes) bytes (omega arith)
all_dropped sink sink' bytes left (Err failed) front is = tt
