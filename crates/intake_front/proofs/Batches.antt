-- What an event that is taken adds to what waits.
use Rattle.std.proofs.Common.{◌≡◌, ℕ, ◌+◌, ◌≤◌, ◌<◌, Bool, List, [], ◌∷◌, ◌++◌, length, take, Option, Some, None, refl, sym, ◌∙◌, ap, subst, arith, append_assoc, append-nil, length-append, add-one}
use Rattle.std.specs.Prelude.{◌||◌, slice_set}
use Rattle.std.proofs.Math.Seq.{take-suc-set}
use Rattle.std.proofs.lemmas.List.{take-append-le}
use Rattle.std.proofs.lemmas.Grind.{flat_map-append}
use Rattle.zbx_types.specs.declared.entries.Entry.{Entry}
use Rattle.zbx_types.specs.declared.entries.Numbered.{Numbered}
use Rattle.wire_core.specs.Peers.{Peers}
use Rattle.intake_journal.specs.Based.{most_counted}
use Rattle.intake_journal.specs.Block.{opened_bytes}
use Rattle.intake_journal.specs.Settled.{Journaled}
use Rattle.intake_journal.proofs.Staged.{more_long}
use Rattle.intake_front.specs.Intake.{Intake, Handled, numbered_from, numbered_behind, with_group, kept_with, ticked}
use Rattle.intake_front.specs.Fronted.{all_of, staged_with}
use Rattle.intake_front.specs.Staging.{FollowsBlock, groups_in}
use Rattle.intake_front.specs.Waiting.{has_tick, HasFirst, IsBatch, first_with, FirstBy, IsTaken}
use Rattle.intake_front.specs.declared.answer.Answer.{Answer}
use Rattle.intake_front.specs.declared.batch.Batch.{Batch}
use Rattle.intake_front.specs.declared.batch.First.{First}
use Rattle.intake_front.specs.declared.batch.Mark.{Mark}
use Rattle.intake_front.proofs.Numbers.{length_numbered, numbered-append}
use Rattle.intake_front.proofs.Offers.{Says, ticked_before, ticked_entries}

-- one answer put in the place of another, and what stood behind it cut off
pub cut_at : (xs ys : List Answer) (at : ℕ) (a : Answer) → ys ≡ slice_set xs at a → at < length xs → take (at + 1) ys ≡ take at xs ++ a ∷ []
cut_at xs ys at a is lt = ap (take (at + 1)) is ∙ ap (λ (n : ℕ). take n (slice_set xs at a)) (add-one at) ∙ take-suc-set xs at a lt

-- entries behind two groups, one after the other
with_both : (before : ℕ) (entries : List Numbered) (a b : List Entry) → with_group before (with_group before entries a) b ≡ with_group before entries (a ++ b)
with_both before entries a b =
    let first = before + length entries + 1 in
    let next : before + length (with_group before entries a) + 1 ≡ first + length a = omega (arith, length-append entries (numbered_behind before entries a), length_numbered first a) in
    ap (λ (n : ℕ). with_group before entries a ++ numbered_from n b) next ∙ append_assoc entries (numbered_behind before entries a) (numbered_from (first + length a) b)
    ∙ ap (λ (l : List Numbered). entries ++ l) (sym (numbered-append first a b))

-- the entries of a block with a group more
all_more : (block : List (List Entry)) (group : List Entry) → all_of (staged_with block group) ≡ all_of block ++ group
all_more block [] = sym (append-nil (all_of block))
all_more block (g ∷ gs) = flat_map-append _ block ((g ∷ gs) ∷ []) ∙ ap (λ (l : List Entry). all_of block ++ l) (append-nil (g ∷ gs))

-- and with two
all_both : (block : List (List Entry)) (a b : List Entry) → all_of (staged_with (staged_with block a) b) ≡ all_of block ++ (a ++ b)
all_both block a b = all_more (staged_with block a) b ∙ ap (λ (l : List Entry). l ++ b) (all_more block a) ∙ append_assoc (all_of block) a b

kept_entries : (i : Intake) (group : List Entry) → (kept_with i group).entries ≡ with_group i.before i.entries group
kept_entries i [] = sym (append-nil i.entries)
kept_entries i (e ∷ es) = refl

long_more : (block : List (List Entry)) (i : Intake) (group : List Entry) → (kept_with i group).bytes + length (opened_bytes block) ≡ i.bytes + length (opened_bytes (staged_with block group))
long_more block i [] = refl
long_more block i (e ∷ es) = omega (arith, more_long block (e ∷ es))

long_ticked : (block : List (List Entry)) (i : Intake) (ticks : List Entry) → (ticked i ticks).bytes + length (opened_bytes block) ≡ i.bytes + length (opened_bytes (staged_with block ticks))
long_ticked block i [] = refl
long_ticked block i (e ∷ es) = omega (arith, more_long block (e ∷ es))

groups_ticked : (i : Intake) (ticks : List Entry) → (ticked i ticks).groups ≡ i.groups + groups_in ticks
groups_ticked i [] = omega arith
groups_ticked i (e ∷ es) = refl

groups_kept : (i : Intake) (group : List Entry) → (kept_with i group).groups ≡ i.groups + groups_in group
groups_kept i [] = omega arith
groups_kept i (e ∷ es) = refl

now_ticked : (i : Intake) (ticks : List Entry) → ((ticked i ticks).now ≡ i.now) × ((ticked i ticks).peers ≡ i.peers)
now_ticked i [] = (refl, refl)
now_ticked i (e ∷ es) = (refl, refl)

others_kept : (i : Intake) (group : List Entry) → ((kept_with i group).now ≡ i.now) × ((kept_with i group).peers ≡ i.peers) × ((kept_with i group).tick ≡ i.tick)
others_kept i [] = (refl, refl, refl)
others_kept i (e ∷ es) = (refl, refl, refl)

kept_before : (i : Intake) (group : List Entry) → (kept_with i group).before ≡ i.before
kept_before i [] = refl
kept_before i (e ∷ es) = refl

same_parts : (n n' : ℕ) (t t' : Option ℕ) (p p' : Peers) (f f' : ℕ) (e e' : List Numbered) (b b' : ℕ) (g g' : ℕ) → n ≡ n' → t ≡ t' → p ≡ p' → f ≡ f' → e ≡ e' → b ≡ b' → g ≡ g'
    → (let i : Intake = record { now = n; tick = t; peers = p; before = f; entries = e; bytes = b; groups = g } in i) ≡ record { now = n'; tick = t'; peers = p'; before = f'; entries = e'; bytes = b'; groups = g' }
same_parts n n' t t' p p' f f' e e' b b' g g' en et ep ef ee eb eg = cc

pub same_intake : (a b : Intake) → a.now ≡ b.now → a.tick ≡ b.tick → a.peers ≡ b.peers → a.before ≡ b.before → a.entries ≡ b.entries → a.bytes ≡ b.bytes → a.groups ≡ b.groups → a ≡ b
same_intake a b n t p f e y g = same_parts a.now b.now a.tick b.tick a.peers b.peers a.before b.before a.entries b.entries a.bytes b.bytes a.groups b.groups n t p f e y g

-- an intake that entered two groups, which were staged behind those of a block
pub record IsEntered {D : Type 0} (journal : Journaled D) (after : List (List Entry)) (i j : Intake) (ticks group : List Entry) : Type 0 where
  pub now : j.now ≡ i.now
  pub peers : j.peers ≡ i.peers
  pub tick : j.tick ≡ (ticked i ticks).tick
  pub before : j.before ≡ i.before
  pub entries : j.entries ≡ with_group i.before (with_group i.before i.entries ticks) group
  pub bytes : j.bytes ≡ journal.at + length (opened_bytes after) + 1
  pub groups : j.groups ≡ i.groups + (groups_in ticks + groups_in group)

module _ {D : Type 0} (journal : Journaled D) (block after : List (List Entry)) (i j : Intake) (ticks group : List Entry) (stands : FollowsBlock journal block i)
    (staged : after ≡ staged_with (staged_with block ticks) group) (is : IsEntered journal after i j ticks group) where
  entered_is : j ≡ kept_with (ticked i ticks) group
  entered_is =
      let t = ticked i ticks in
      let o = others_kept t group in
      let n = now_ticked i ticks in
      let long = ap (λ (b : List (List Entry)). length (opened_bytes b)) staged in
      same_intake j (kept_with t group) (is.now ∙ sym n.0 ∙ sym o.0) (is.tick ∙ sym o.2) (is.peers ∙ sym n.1 ∙ sym o.1)
      (is.before ∙ sym (ticked_before i ticks) ∙ sym (kept_before t group))
      (is.entries ∙ ap (λ (es : List Numbered). with_group i.before es group) (sym (ticked_entries i ticks)) ∙ ap (λ (m : ℕ). with_group m t.entries group) (sym (ticked_before i ticks)) ∙ sym (kept_entries t group))
      (omega (arith, is.bytes, long, stands.size_is, long_more (staged_with block ticks) t group, long_ticked block i ticks))
      (omega (arith, is.groups, groups_kept t group, groups_ticked i ticks))

  entries_more : j.entries ≡ with_group i.before i.entries (ticks ++ group)
  entries_more = is.entries ∙ with_both i.before i.entries ticks group

  -- what stands at the front stays there
  front_same : (kept : ℕ) → kept ≤ length i.entries → take kept j.entries ≡ take kept i.entries
  front_same kept le = ap (take kept) entries_more ∙ take-append-le kept i.entries (numbered_behind i.before i.entries (ticks ++ group)) le

  waits_more : (kept : ℕ) → kept ≤ length i.entries → i.entries ≡ with_group i.before (take kept i.entries) (all_of block) → j.entries ≡ with_group j.before (take kept j.entries) (all_of after)
  waits_more kept le waits =
      entries_more ∙ ap (λ (es : List Numbered). with_group i.before es (ticks ++ group)) waits ∙ with_both i.before (take kept i.entries) (all_of block) (ticks ++ group)
      ∙ ap (λ (es : List Numbered). with_group i.before es (all_of block ++ (ticks ++ group))) (sym (front_same kept le))
      ∙ ap (with_group i.before (take kept j.entries)) (sym (ap all_of staged ∙ all_both block ticks group))
      ∙ ap (λ (m : ℕ). with_group m (take kept j.entries) (all_of after)) (sym is.before)

some_more : (block : List (List Entry)) (group : List Entry) → 0 < length block → 0 < length (staged_with block group)
some_more block [] some = some
some_more block (g ∷ gs) some = omega (arith, length-append block ((g ∷ gs) ∷ []))

some_staged : (block : List (List Entry)) (ticks group : List Entry) → 0 < length ticks + length group → 0 < length (staged_with (staged_with block ticks) group)
some_staged block [] [] some = absurd (omega arith)
some_staged block [] (g ∷ gs) some = omega (arith, length-append block ((g ∷ gs) ∷ []))
some_staged block (t ∷ ts) group some = some_more (staged_with block (t ∷ ts)) group (omega (arith, length-append block ((t ∷ ts) ∷ [])))

-- which event has the first group that waits
first_by : (i : Intake) (answers : List Answer) (ticks group : List Entry) (says : ℕ → Handled) (now : Answer) (fault : Option Answer) (first : Option First) → Says i ticks group says now fault
    → FirstBy i answers says first (first_with first (length answers) fault)
first_by i answers ticks group says now fault (Some before) s = refl
first_by i answers ticks group says now None None s =
    let same : kept_with (ticked i ticks) group ≡ i = ap (λ (t : List Entry). kept_with (ticked i t) group) s.fault_is.1 ∙ ap (λ (g : List Entry). kept_with i g) s.fault_is.2 in
    (s.fault_is.0, ap (λ (h : Handled). h.intake.groups) s.now_is ∙ ap (λ (k : Intake). k.groups) same)
first_by i answers ticks group says now (Some a) None s =
    let t = ticked i ticks in
    let moment : i.now ≡ (says 0).intake.now = sym (ap (λ (h : Handled). h.intake.now) s.now_is ∙ (others_kept t group).0 ∙ (now_ticked i ticks).0) in
    let peers : i.peers ≡ (says 0).intake.peers = sym (ap (λ (h : Handled). h.intake.peers) s.now_is ∙ (others_kept t group).1 ∙ (now_ticked i ticks).1) in
    let there : i ≡ record i { now = (says 0).intake.now; peers = (says 0).intake.peers } = same_intake i _ moment refl peers refl refl refl refl in
    (refl, s.fault_is.0 ∙ ap (λ (k : Intake). (let h : Handled = record { intake = k; answer = a } in h)) there, s.fault_is.1)

has_first : (i j : Intake) (mark : Mark) (block after : List (List Entry)) (answers answers' : List Answer) (ticks group : List Entry) (first : Option First) (says : ℕ → Handled) (now : Answer) (fault : Option Answer)
    → HasFirst i mark block answers first → after ≡ staged_with (staged_with block ticks) group → answers' ≡ answers ++ now ∷ [] → j ≡ kept_with (ticked i ticks) group → Says i ticks group says now fault
    → HasFirst j mark after answers' (first_with first (length answers) fault)
has_first i j mark block after answers answers' ticks group (Some before) says now fault has staged more is s = (
  subst (λ (b : List (List Entry)). 0 < length b) (sym staged) (some_more (staged_with block ticks) group (some_more block ticks has.0)),
  omega (arith, has.1, ap length more, length-append answers (now ∷ [])),
)
has_first i j mark block after answers answers' ticks group None says now None has staged more is s =
    let same : j ≡ i = is ∙ ap (λ (t : List Entry). kept_with (ticked i t) group) s.fault_is.1 ∙ ap (λ (g : List Entry). kept_with i g) s.fault_is.2 in (
      staged ∙ ap (λ (t : List Entry). staged_with (staged_with block t) group) s.fault_is.1 ∙ ap (λ (g : List Entry). staged_with block g) s.fault_is.2 ∙ has.0,
      has.1 ∙ sym (ap (λ (k : Intake). k.tick) same),
      has.2 ∙ sym (ap (λ (k : Intake). k.groups) same),
    )
has_first i j mark block after answers answers' ticks group None says now (Some a) has staged more is s = (
  subst (λ (b : List (List Entry)). 0 < length b) (sym staged) (some_staged block ticks group s.fault_is.2),
  omega (arith, ap length more, length-append answers (now ∷ [])),
)

tick_more : (a b : List Entry) → has_tick (a ++ b) ≡ (has_tick a || has_tick b)
tick_more [] b = refl
tick_more (e ∷ a) b = grind (arith, tick_more a b)

-- an event that entered two groups was taken
pub taken_by : {D : Type 0} (journal : Journaled D) (i j : Intake) (b c : Batch) (ticks group : List Entry) (says : ℕ → Handled) (now : Answer) (fault : Option Answer) → FollowsBlock journal b.block i → IsBatch i b
    → c.block ≡ staged_with (staged_with b.block ticks) group → Says i ticks group says now fault → IsEntered journal c.block i j ticks group
    → c.answers.items ≡ b.answers.items ++ now ∷ [] → c.first ≡ first_with b.first (length b.answers.items) fault → c.mark ≡ b.mark → c.is_ticked ≡ (b.is_ticked || has_tick ticks || has_tick group)
    → IsTaken i j b c says now.stop
taken_by journal i j b c ticks group says now fault stands batch staged s entered answers first mark is_ticked =
    let is = entered_is journal b.block c.block i j ticks group stands staged entered in
    let handled : says 0 ≡ record { intake = j; answer = now } = s.now_is ∙ ap (λ (k : Intake). (let h : Handled = record { intake = k; answer = now } in h)) (sym is) in
    let kept : c.mark.kept ≡ b.mark.kept = ap (λ (m : Mark). m.kept) mark in
    let more = entries_more journal b.block c.block i j ticks group stands staged entered in
    let long = ap (λ (b : List (List Entry)). length (opened_bytes b)) staged in
    let waits = waits_more journal b.block c.block i j ticks group stands staged entered b.mark.kept batch.within batch.entries_are in
    record {
      after = sym (ap (λ (h : Handled). h.intake) handled);
      number = entered.before;
      answers = answers ∙ ap (λ (h : Handled). b.answers.items ++ h.answer ∷ []) (sym handled);
      stops = ap (λ (h : Handled). h.answer.stop) (sym handled);
      no_fault = λ stops. s.goes_on (ap (λ (h : Handled). h.answer.stop) (sym handled) ∙ stops);
      first = subst (FirstBy i b.answers.items says b.first) (sym first) (first_by i b.answers.items ticks group says now fault b.first s);
      mark = mark;
      batch = record {
        counted = subst (λ (n : ℕ). n ≤ most_counted) (sym entered.before) batch.counted;
        entries_are = subst (λ (n : ℕ). j.entries ≡ with_group j.before (take n j.entries) (all_of c.block)) (sym kept) waits;
        size_is = omega (arith, entered.bytes, batch.size_is, stands.size_is, ap (λ (m : Mark). m.bytes) mark);
        few = subst (λ (m : Mark). m.groups ≤ m.kept) (sym mark) batch.few;
        within = omega (arith, kept, batch.within, ap length more, length-append i.entries (numbered_behind i.before i.entries (ticks ++ group)));
        first_is = subst (HasFirst j c.mark c.block c.answers.items) (sym first)
            (subst (λ (m : Mark). HasFirst j m c.block c.answers.items (first_with b.first (length b.answers.items) fault)) (sym mark)
            (has_first i j b.mark b.block c.block b.answers.items c.answers.items ticks group b.first says now fault batch.first_is staged answers is s));
        ticked = is_ticked ∙ joined batch.ticked;
      };
    }
  where
    joined : b.is_ticked ≡ has_tick (all_of b.block) → (b.is_ticked || has_tick ticks || has_tick group) ≡ has_tick (all_of c.block)
    joined before =
        ap (λ (k : Bool). k || has_tick ticks || has_tick group) before
        ∙ ap (λ (k : Bool). k || has_tick group) (sym (tick_more (all_of b.block) ticks)) ∙ sym (tick_more (all_of b.block ++ ticks) group)
        ∙ ap has_tick (append_assoc (all_of b.block) ticks group ∙ sym (ap all_of staged ∙ all_both b.block ticks group))
