-- Laws of what bars a run: one thing at most, and nothing where the journal and the outbox are accepted.
use Rattle.std.proofs.Common.{◌≡◌, ◌⊎◌, ⊎_elim, ℕ, ◌+◌, Bool, true, false, true≢false, List, [], ◌∷◌, ◌++◌, All, drop, Option, Some, None, refl, sym, ap, ap₂, ◌∙◌, subst, arith, inl, inr, append_assoc}
use Rattle.std.specs.Prelude.{◌≢◌, ◌==◌, ◌||◌, nat_le, length, slice_index, get_or, is_some, option_to_list, IfSome}
use Rattle.std.specs.List.{flat_map}
use Rattle.std.proofs.lemmas.Grind.{flat_map-append}
use Rattle.std.proofs.lemmas.List.{reverse-append}
use Rattle.std.proofs.lemmas.List.Elements.{All-contains}
use Rattle.zbx_types.specs.Bases.{empty_base}
use Rattle.zbx_types.specs.declared.base.Base.{Base}
use Rattle.zbx_types.specs.declared.conf.Conf.{Conf}
use Rattle.zbx_types.specs.declared.entries.Entry.{Entry}
use Rattle.zbx_types.specs.declared.entries.Numbered.{Numbered}
use Rattle.gated_file.specs.Opened.{begins}
use Rattle.intake_journal.specs.Kept.{Kept, kept, magic, based_magic, base_gate, base_behind, beginning_of, base_in, groups_of}
use Rattle.intake_journal.specs.Kept.Kept.{NotOurs, Unfinished, Damaged}
use Rattle.intake_journal.specs.declared.format.Group.{Group}
use Rattle.intake_journal.proofs.Openings.{begun_told}
use Rattle.entry_laws.specs.InForce.{FitsLog, config_texts, text_in, texts_on}
use Rattle.entry_step.specs.Log.{log_of}
use Rattle.entry_step.specs.Start.{Start}
use Rattle.entry_laws.proofs.InForce.{config_texts_append}
use Rattle.intake_front.specs.Intake.{numbered_from}
use Rattle.intake_front.specs.Fronted.{numbered_of}
use Rattle.intake_front.specs.Misfit.{GroupsFit}
use Rattle.server_words.specs.declared.status.Status.{Status}
use Rattle.server_words.specs.declared.status.Status.TheVariants as status
use Rattle.journal_opening.specs.Opening.{IsRejected, IsAccepted, IsFullAtOpening, HasRoomAtOpening, KeptText, opening_lines}
use Rattle.journal_opening.specs.Outbox.{IsBehind, IsAhead, IsOther}
use Rattle.journal_opening.specs.Reasons.{Bars, IsSeen, NamesOutbox}
use Rattle.journal_opening.specs.Recovered.{Found, FoundGroups, found_entries, IsDamaged}
use Rattle.journal_opening.specs.Replayed.{flat, IsFlat, AreFlat, IsGoodBase}
use Rattle.base_laws.specs.Grounds.{start_of}
use Rattle.book_opening.specs.Outgoing.{IsMendable}
use Rattle.outside.specs.Others.{first_other}
use Rattle.outside.specs.Tells.{SinkTells}
use Rattle.journal_opening.proofs.JournalReads.{good_none}
use Rattle.journal_opening.proofs.Judging.{all_front}

-- ---- what holds of groups holds of those in front

numbered_append : (n : ℕ) (a b : List Entry) → (more : List Numbered) × (numbered_from n (a ++ b) ≡ numbered_from n a ++ more)
numbered_append n [] b = (numbered_from n b, refl)
numbered_append n (e ∷ es) b = let rest = numbered_append (n + 1) es b in (rest.0, ap (λ l. record { number = n; entry = e } ∷ l) rest.1)

-- the entries of groups are those of the groups in front, and more
entries_front : (before : ℕ) (a b : List Group) → (more : List Numbered) × (numbered_of before (a ++ b) ≡ numbered_of before a ++ more)
entries_front before a b =
    let entries : List Group → List Entry = λ gs. flat_map (λ (g : Group). g.entries) gs in
    let more = numbered_append (before + 1) (entries a) (entries b) in
    (more.0, ap (numbered_from (before + 1)) (flat_map-append (λ (g : Group). g.entries) a b) ∙ more.1)

-- what fits with entries behind it fits
fits_front : (start : Start) (newer log : List Numbered) → FitsLog flat start (newer ++ log) → FitsLog flat start log
fits_front start [] log fits = fits
fits_front start (e ∷ newer) log fits = fits_front start newer log fits.0

-- where groups fit, those in front fit
fits_prefix : (start : Start) (a b : List Group) → GroupsFit flat start (a ++ b) → GroupsFit flat start a
fits_prefix start a b fits =
    let more = entries_front start.number a b in
    fits_front start (log_of more.0) (log_of (numbered_of start.number a)) (subst (FitsLog flat start) (ap log_of more.1 ∙ reverse-append (numbered_of start.number a) more.0) fits)

-- and where their texts are accepted, those in front are
flat_prefix : (base : Base) (a b : List Group) → AreFlat base.text (numbered_of base.number (a ++ b)) → AreFlat base.text (numbered_of base.number a)
flat_prefix base a b all =
    let own = option_to_list (text_in base.text) in
    let first = numbered_of base.number a in
    let more = entries_front base.number a b in
    let texts : texts_on base.text (numbered_of base.number (a ++ b)) ≡ texts_on base.text first ++ config_texts more.0 =
    ap (texts_on base.text) more.1 ∙ ap (λ l. own ++ l) (config_texts_append first more.0) ∙ sym (append_assoc own (config_texts first) (config_texts more.0)) in
    all_front IsFlat (texts_on base.text first) (config_texts more.0) (subst (All IsFlat) texts all)

cons_head : (a b : Group) (xs ys : List Group) → a ∷ xs ≡ b ∷ ys → a ≡ b
cons_head a b xs ys e = cc

cons_tail : (a b : Group) (xs ys : List Group) → a ∷ xs ≡ b ∷ ys → xs ≡ ys
cons_tail a b xs ys e = cc

-- the same list, split in two ways
pub split_same : (b1 b2 : List Group) (g1 g2 : Group) (r1 r2 : List Group) → b1 ++ g1 ∷ r1 ≡ b2 ++ g2 ∷ r2
    → (g1 ≡ g2) ⊎ (((more : List Group) × (b2 ≡ (b1 ++ g1 ∷ []) ++ more)) ⊎ ((more : List Group) × (b1 ≡ (b2 ++ g2 ∷ []) ++ more)))
split_same [] [] g1 g2 r1 r2 e = inl (cons_head g1 g2 r1 r2 e)
split_same [] (x ∷ xs) g1 g2 r1 r2 e = inr (inl (xs, ap (λ g. g ∷ xs) (sym (cons_head g1 x r1 (xs ++ g2 ∷ r2) e))))
split_same (x ∷ xs) [] g1 g2 r1 r2 e = inr (inr (xs, ap (λ g. g ∷ xs) (cons_head x g2 (xs ++ g1 ∷ r1) r2 e)))
split_same (x ∷ xs) (y ∷ ys) g1 g2 r1 r2 e =
    next (split_same xs ys g1 g2 r1 r2 (cons_tail x y (xs ++ g1 ∷ r1) (ys ++ g2 ∷ r2) e))
  where
    heads : x ≡ y
    heads = cons_head x y (xs ++ g1 ∷ r1) (ys ++ g2 ∷ r2) e

    next : (g1 ≡ g2) ⊎ (((more : List Group) × (ys ≡ (xs ++ g1 ∷ []) ++ more)) ⊎ ((more : List Group) × (xs ≡ (ys ++ g2 ∷ []) ++ more)))
        → (g1 ≡ g2) ⊎ (((more : List Group) × (y ∷ ys ≡ (x ∷ xs ++ g1 ∷ []) ++ more)) ⊎ ((more : List Group) × (x ∷ xs ≡ (y ∷ ys ++ g2 ∷ []) ++ more)))
    next (inl same) = inl same
    next (inr (inl (more, is))) = inr (inl (more, ap (λ l. y ∷ l) is ∙ ap (λ g. g ∷ (xs ++ g1 ∷ []) ++ more) (sym heads)))
    next (inr (inr (more, is))) = inr (inr (more, ap (λ l. x ∷ l) is ∙ ap (λ g. g ∷ (ys ++ g2 ∷ []) ++ more) heads))

-- the first group with which something doesn't hold any more that held before it
module _ (Holds : List Group → Type 0) (prefix : (a b : List Group) → Holds (a ++ b) → Holds a) where
  abbrev FirstWithout : List Group → ℕ → Type 0
  FirstWithout groups at = (before : List Group) × (group : Group) × (rest : List Group) × (groups ≡ before ++ group ∷ rest) × (group.at ≡ at) × Holds before × ¬ (Holds (before ++ group ∷ []))

  -- there is none where it holds of all
  none_without : (groups : List Group) (at : ℕ) → Holds groups → FirstWithout groups at → ⊥
  none_without groups at holds (before, g, rest, is, place, first, fails) =
      fails (prefix (before ++ g ∷ []) rest (subst Holds (is ∙ sym (append_assoc before (g ∷ []) rest)) holds))

  -- else it is one
  one_without : (groups : List Group) (a b : ℕ) → FirstWithout groups a → FirstWithout groups b → a ≡ b
  one_without groups a b (b1, g1, r1, is1, at1, holds1, fails1) (b2, g2, r2, is2, at2, holds2, fails2) = by (split_same b1 b2 g1 g2 r1 r2 (sym is1 ∙ is2))
    where
      by : (g1 ≡ g2) ⊎ (((more : List Group) × (b2 ≡ (b1 ++ g1 ∷ []) ++ more)) ⊎ ((more : List Group) × (b1 ≡ (b2 ++ g2 ∷ []) ++ more))) → a ≡ b
      by (inl same) = sym at1 ∙ ap (λ (g : Group). g.at) same ∙ at2
      by (inr (inl (more, is))) = absurd (fails1 (prefix (b1 ++ g1 ∷ []) more (subst Holds is holds2)))
      by (inr (inr (more, is))) = absurd (fails2 (prefix (b2 ++ g2 ∷ []) more (subst Holds is holds1)))

some_same : {A : Type 0} (a b : A) → Some a ≡ Some b → a ≡ b
some_same a b e = cc

none_some : {A : Type 0} (a : A) → None ≡ Some a → ⊥
none_some a e = cc

-- ---- what is rejected isn't accepted, and is so at one place

module _ (found : Found) where
  abbrev are_flat : List Group → Type 0
  are_flat gs = AreFlat found.base.text (numbered_of found.base.number gs)

  abbrev fit : List Group → Type 0
  fit gs = GroupsFit flat (start_of flat found.base) gs

  rejected_not : (s : Status) → IsAccepted found → IsRejected found s → ⊥
  rejected_not (status.Damaged at) accepted (inl refused) = none_without are_flat (flat_prefix found.base) found.groups at accepted.1 refused
  rejected_not (status.Damaged at) accepted (inr misfit) = none_without fit (fits_prefix (start_of flat found.base)) found.groups at accepted.2 misfit.1
  rejected_not _ accepted none = none

  rejected_one : (a b : ℕ) → IsRejected found (status.Damaged a) → IsRejected found (status.Damaged b) → a ≡ b
  rejected_one a b (inl p) (inl q) = one_without are_flat (flat_prefix found.base) found.groups a b p q
  rejected_one a b (inl p) (inr q) = absurd (none_without are_flat (flat_prefix found.base) found.groups a q.0 p)
  rejected_one a b (inr p) (inl q) = absurd (none_without are_flat (flat_prefix found.base) found.groups b p.0 q)
  rejected_one a b (inr p) (inr q) = one_without fit (fits_prefix (start_of flat found.base)) found.groups a b p.1 q.1

-- ---- one thing bars

-- what a file keeps is one
kept_one : (b : List ℕ) (x y : Kept) → kept b ≡ x → kept b ≡ y → x ≡ y
kept_one b x y p q = sym p ∙ q

-- a file that keeps groups is neither damaged nor anything else that has none
none_found : (b : List ℕ) (k : Kept) (groups : List Group) → groups_of k ≡ None → kept b ≡ k → groups_of (kept b) ≡ Some groups → ⊥
none_found b k groups none is found = none_some groups (sym none ∙ sym (ap groups_of is) ∙ found)

-- a file has the empty base, or is a journal whose base is complete
empty_or : (b : List ℕ) → (base_in b ≡ empty_base) ⊎ ((kept b ≢ NotOurs) × (kept b ≢ Unfinished))
unfolding beginning_of
empty_or b = go (nat_le (length b) 9 || begins magic b) (begins based_magic b) (slice_index b base_gate == 1) (base_behind (drop 9 b)) refl refl refl refl
  where
    go : (plain based gate : Bool) (read : Option (ℕ × Base)) → (nat_le (length b) 9 || begins magic b) ≡ plain → begins based_magic b ≡ based → (slice_index b base_gate == 1) ≡ gate
        → base_behind (drop 9 b) ≡ read → (base_in b ≡ empty_base) ⊎ ((kept b ≢ NotOurs) × (kept b ≢ Unfinished))
    go true based gate read p q r s = inl (cc)
    go false false gate read p q r s = inl (cc)
    go false true false read p q r s = inl (cc)
    go false true true None p q r s = inl (cc)
    go false true true (Some read) p q r s = inr (begun_told (Some b) (read.0 + 13) read.1 (cc))

-- so one can where the file is no journal, or an unfinished one
good_not_ours : (b : List ℕ) → kept b ≡ NotOurs → IsGoodBase (base_in b)
good_not_ours b is = ⊎_elim (λ none. subst IsGoodBase (sym none) good_none) (λ other. absurd (other.0 is)) (empty_or b)

good_unfinished : (b : List ℕ) → kept b ≡ Unfinished → IsGoodBase (base_in b)
good_unfinished b is = ⊎_elim (λ none. subst IsGoodBase (sym none) good_none) (λ other. absurd (other.1 is)) (empty_or b)

-- a file that isn't damaged where it has no group, or whose base is good, isn't damaged at all
not_damaged : (b : List ℕ) (at : ℕ) (k : Kept) → ((x : ℕ) → k ≡ Damaged x → ⊥) → IsGoodBase (base_in b) → kept b ≡ k → IsDamaged b at → ⊥
not_damaged b at k other good is (inl damaged) = other at (kept_one b k (Damaged at) is damaged.0)
not_damaged b at k other good is (inr bad) = bad.1 good

damaged_one : (b : List ℕ) (x y : ℕ) → IsDamaged b x → IsDamaged b y → x ≡ y
damaged_one b x y (inl p) (inl q) = let same : Damaged x ≡ Damaged y = kept_one b (Damaged x) (Damaged y) p.0 q.0 in cc
damaged_one b x y (inl p) (inr q) = absurd (q.1 p.1)
damaged_one b x y (inr p) (inl q) = absurd (p.1 q.1)
damaged_one b x y (inr p) (inr q) = p.0 ∙ sym q.0

-- a file in which groups were found, with whose base a run can begin, isn't damaged
damaged_found : (b : List ℕ) (at : ℕ) (found : Found) → FoundGroups (Some b) found → IsGoodBase found.base → IsDamaged b at → ⊥
damaged_found b at found finds good (inl damaged) = none_found b (Damaged at) found.groups refl damaged.0 finds.2
damaged_found b at found finds good (inr bad) = bad.1 (subst IsGoodBase (sym finds.0) good)

-- what is found in a file is one
pub found_one : (b : List ℕ) (f h : Found) → FoundGroups (Some b) f → FoundGroups (Some b) h → f ≡ h
found_one b f h p q =
    ap (λ (base : Base). record { base = base; first = f.first; groups = f.groups }) (sym p.0 ∙ q.0)
    ∙ ap₂ (λ (first : ℕ) (groups : List Group). record { base = h.base; first = first; groups = groups }) (sym p.1 ∙ q.1) (some_same f.groups h.groups (sym p.2 ∙ q.2))

-- two first bytes that aren't those of lines are one, where they are told
other_one : (before : ℕ) (bytes : Option (List ℕ)) (lines : List ℕ) (x y : ℕ) → is_some bytes ≡ true → IfSome bytes (λ b. (first_other before lines (drop before b) ≡ Some x) × (get_or b x 0 ≢ 0))
    → IfSome bytes (λ b. (first_other before lines (drop before b) ≡ Some y) × (get_or b y 0 ≢ 0)) → x ≡ y
other_one before None lines x y told p q = absurd (true≢false (sym told))
other_one before (Some b) lines x y told p q = some_same x y (sym p.0 ∙ q.0)

-- one that is a 0 isn't one that isn't
other_zero : (before : ℕ) (bytes : Option (List ℕ)) (lines : List ℕ) (at : ℕ) → is_some bytes ≡ true → IfSome bytes (λ b. IfSome (first_other before lines (drop before b)) (λ place. get_or b place 0 ≡ 0))
    → IfSome bytes (λ b. (first_other before lines (drop before b) ≡ Some at) × (get_or b at 0 ≢ 0)) → ⊥
other_zero before None lines at told zeros other = true≢false (sym told)
other_zero before (Some b) lines at told zeros other = other.1 (subst (λ o. IfSome o (λ place. get_or b place 0 ≡ 0)) other.0 zeros)

module _ (conf : Conf) (most : ℕ) (outbox : SinkTells) (b : List ℕ) where
  -- what bars a run that has found this, with whose base it can begin
  abbrev BarsFound : Found → Status → Type 0
  BarsFound found (status.Damaged at) = IsRejected found (status.Damaged at)
  BarsFound found (status.Full entries bytes) = IsAccepted found × IsFullAtOpening most conf found entries bytes
  BarsFound found (status.OutboxBehind told base) = IsAccepted found × HasRoomAtOpening most conf found × IsBehind outbox found.base.lines told base
  BarsFound found (status.OutboxAhead told count) = IsAccepted found × HasRoomAtOpening most conf found × IsAhead outbox found.base.lines (opening_lines conf found) told count
  BarsFound found (status.OutboxDiffers at) = IsAccepted found × HasRoomAtOpening most conf found × IsOther outbox found.base.lines (opening_lines conf found) at
  BarsFound found _ = ⊥

  -- what was found in the file bars it so
  record ByFound (u : Status) : Type 0 where
    found : Found
    finds : FoundGroups (Some b) found
    good : IsGoodBase found.base
    bars : BarsFound found u

  abbrev Way : Status → Type 0
  Way u = ((u ≡ status.NotOurs) × (kept b ≡ NotOurs)) ⊎ (((u ≡ status.Unfinished) × (kept b ≡ Unfinished)) ⊎ (((at : ℕ) × (u ≡ status.Damaged at) × IsDamaged b at) ⊎ ByFound u))

  by_found : (u : Status) (found : Found) → FoundGroups (Some b) found → IsGoodBase found.base → BarsFound found u → Way u
  by_found u found finds good bars = inr (inr (inr (record { found = found; finds = finds; good = good; bars = bars })))

  -- a run is barred by bytes that are no journal, or an unfinished one, by damage, or by what they keep
  ways : (s : Status) → Bars conf most (Some b) outbox s → Way s
  ways status.NotOurs is = inl (refl, is)
  ways status.Unfinished is = inr (inl (refl, is))
  ways (status.Damaged at) (inl is) = inr (inr (inl (at, refl, is)))
  ways (status.Damaged at) (inr (found, finds, good, why)) = by_found (status.Damaged at) found finds good why
  ways (status.OutboxBehind told base) (found, finds, accepted, room, why) = by_found (status.OutboxBehind told base) found finds accepted.0 (accepted, room, why)
  ways (status.OutboxAhead told count) (found, finds, accepted, room, why) = by_found (status.OutboxAhead told count) found finds accepted.0 (accepted, room, why)
  ways (status.OutboxDiffers at) (found, finds, accepted, room, why) = by_found (status.OutboxDiffers at) found finds accepted.0 (accepted, room, why)
  ways (status.Full entries bytes) (found, finds, accepted, full) = by_found (status.Full entries bytes) found finds accepted.0 (accepted, full)
  ways _ none = absurd none

  found_bars : (found : Found) (s t : Status) → IsSeen outbox t → BarsFound found s → BarsFound found t → s ≡ t
  found_bars found (status.Damaged x) (status.Damaged y) seen p q = ap status.Damaged (rejected_one found x y p q)
  found_bars found (status.Damaged x) (status.Full entries bytes) seen p q = absurd (rejected_not found (status.Damaged x) q.0 p)
  found_bars found (status.Damaged x) (status.OutboxBehind told base) seen p q = absurd (rejected_not found (status.Damaged x) q.0 p)
  found_bars found (status.Damaged x) (status.OutboxAhead told count) seen p q = absurd (rejected_not found (status.Damaged x) q.0 p)
  found_bars found (status.Damaged x) (status.OutboxDiffers y) seen p q = absurd (rejected_not found (status.Damaged x) q.0 p)
  found_bars found (status.Damaged x) _ seen p none = absurd none
  found_bars found (status.Full entries bytes) (status.Damaged y) seen p q = absurd (rejected_not found (status.Damaged y) p.0 q)
  found_bars found (status.Full entries bytes) (status.Full entries' bytes') seen p q = ap₂ status.Full (p.1.1 ∙ sym q.1.1) (p.1.2 ∙ sym q.1.2)
  found_bars found (status.Full entries bytes) (status.OutboxBehind told base) seen p q = absurd (q.1 entries bytes p.1)
  found_bars found (status.Full entries bytes) (status.OutboxAhead told count) seen p q = absurd (q.1 entries bytes p.1)
  found_bars found (status.Full entries bytes) (status.OutboxDiffers y) seen p q = absurd (q.1 entries bytes p.1)
  found_bars found (status.Full entries bytes) _ seen p none = absurd none
  found_bars found (status.OutboxBehind told base) (status.Damaged y) seen p q = absurd (rejected_not found (status.Damaged y) p.0 q)
  found_bars found (status.OutboxBehind told base) (status.Full entries bytes) seen p q = absurd (p.1 entries bytes q.1)
  found_bars found (status.OutboxBehind told base) (status.OutboxBehind told' base') seen p q = ap₂ status.OutboxBehind (p.2.0 ∙ sym q.2.0) (p.2.1 ∙ sym q.2.1)
  found_bars found (status.OutboxBehind told base) (status.OutboxAhead told' count) seen p q = absurd (omega (arith, p.2.0, p.2.1, p.2.2, q.2.0, q.2.1, q.2.2))
  found_bars found (status.OutboxBehind told base) (status.OutboxDiffers y) seen p q = absurd (omega (arith, p.2.0, p.2.1, p.2.2, q.2.0))
  found_bars found (status.OutboxBehind told base) _ seen p none = absurd none
  found_bars found (status.OutboxAhead told count) (status.Damaged y) seen p q = absurd (rejected_not found (status.Damaged y) p.0 q)
  found_bars found (status.OutboxAhead told count) (status.Full entries bytes) seen p q = absurd (p.1 entries bytes q.1)
  found_bars found (status.OutboxAhead told count) (status.OutboxBehind told' base) seen p q = absurd (omega (arith, p.2.0, p.2.1, p.2.2, q.2.0, q.2.1, q.2.2))
  found_bars found (status.OutboxAhead told count) (status.OutboxAhead told' count') seen p q = ap₂ status.OutboxAhead (p.2.0 ∙ sym q.2.0) (p.2.1 ∙ sym q.2.1)
  found_bars found (status.OutboxAhead told count) (status.OutboxDiffers y) seen p q = absurd (omega (arith, p.2.0, p.2.1, p.2.2, q.2.1))
  found_bars found (status.OutboxAhead told count) _ seen p none = absurd none
  found_bars found (status.OutboxDiffers x) (status.Damaged y) seen p q = absurd (rejected_not found (status.Damaged y) p.0 q)
  found_bars found (status.OutboxDiffers x) (status.Full entries bytes) seen p q = absurd (p.1 entries bytes q.1)
  found_bars found (status.OutboxDiffers x) (status.OutboxBehind told base) seen p q = absurd (omega (arith, q.2.0, q.2.1, q.2.2, p.2.0))
  found_bars found (status.OutboxDiffers x) (status.OutboxAhead told count) seen p q = absurd (omega (arith, q.2.0, q.2.1, q.2.2, p.2.1))
  found_bars found (status.OutboxDiffers x) (status.OutboxDiffers y) seen p q = ap status.OutboxDiffers (other_one found.base.lines outbox.bytes (opening_lines conf found) x y seen p.2.4 q.2.4)
  found_bars found (status.OutboxDiffers x) _ seen p none = absurd none
  found_bars found _ t seen none q = absurd none

  by_one : (s t : Status) → IsSeen outbox t → ByFound s → ByFound t → s ≡ t
  by_one s t seen p q = found_bars p.found s t seen p.bars (subst (λ (x : Found). BarsFound x t) (found_one b q.found p.found q.finds p.finds) q.bars)

  pub bars_one : (s t : Status) → IsSeen outbox t → Bars conf most (Some b) outbox s → Bars conf most (Some b) outbox t → s ≡ t
  bars_one s t seen p q = by (ways s p) (ways t q)
    where
      by : Way s → Way t → s ≡ t
      by (inl (is, k)) (inl (is', k')) = is ∙ sym is'
      by (inl (is, k)) (inr (inl (is', k'))) = absurd (let same : NotOurs ≡ Unfinished = kept_one b NotOurs Unfinished k k' in cc)
      by (inl (is, k)) (inr (inr (inl (at, is', d)))) = absurd (not_damaged b at NotOurs (λ x e. cc) (good_not_ours b k) k d)
      by (inl (is, k)) (inr (inr (inr w))) = absurd (none_found b NotOurs w.found.groups refl k w.finds.2)
      by (inr (inl (is, k))) (inl (is', k')) = absurd (let same : NotOurs ≡ Unfinished = kept_one b NotOurs Unfinished k' k in cc)
      by (inr (inl (is, k))) (inr (inl (is', k'))) = is ∙ sym is'
      by (inr (inl (is, k))) (inr (inr (inl (at, is', d)))) = absurd (not_damaged b at Unfinished (λ x e. cc) (good_unfinished b k) k d)
      by (inr (inl (is, k))) (inr (inr (inr w))) = absurd (none_found b Unfinished w.found.groups refl k w.finds.2)
      by (inr (inr (inl (at, is, d)))) (inl (is', k)) = absurd (not_damaged b at NotOurs (λ x e. cc) (good_not_ours b k) k d)
      by (inr (inr (inl (at, is, d)))) (inr (inl (is', k))) = absurd (not_damaged b at Unfinished (λ x e. cc) (good_unfinished b k) k d)
      by (inr (inr (inl (x, is, d)))) (inr (inr (inl (y, is', d')))) = is ∙ ap status.Damaged (damaged_one b x y d d') ∙ sym is'
      by (inr (inr (inl (at, is, d)))) (inr (inr (inr w))) = absurd (damaged_found b at w.found w.finds w.good d)
      by (inr (inr (inr w))) (inl (is', k)) = absurd (none_found b NotOurs w.found.groups refl k w.finds.2)
      by (inr (inr (inr w))) (inr (inl (is', k))) = absurd (none_found b Unfinished w.found.groups refl k w.finds.2)
      by (inr (inr (inr w))) (inr (inr (inl (at, is', d)))) = absurd (damaged_found b at w.found w.finds w.good d)
      by (inr (inr (inr w))) (inr (inr (inr w'))) = by_one s t seen w w'

  -- where what was found is accepted, and there is room for the configuration
  module _ (found : Found) (finds : FoundGroups (Some b) found) (accepted : IsAccepted found) (room : HasRoomAtOpening most conf found) where
    with_found : (s : Status) {P : Type 0} → (BarsFound found s → P) → Bars conf most (Some b) outbox s → P
    with_found s {P} goes bars = by (ways s bars)
      where
        by : Way s → P
        by (inl (is, k)) = absurd (none_found b NotOurs found.groups refl k finds.2)
        by (inr (inl (is, k))) = absurd (none_found b Unfinished found.groups refl k finds.2)
        by (inr (inr (inl (at, is, d)))) = absurd (damaged_found b at found finds accepted.0 d)
        by (inr (inr (inr w))) = goes (subst (λ (x : Found). BarsFound x s) (found_one b w.found found w.finds finds) w.bars)

    -- nothing bars a run whose outbox may be completed to their lines
    pub not_barred : (s : Status) → IsMendable found.base.lines outbox (opening_lines conf found) → (outbox.held ≡ found.base.lines) ⊎ IsSeen outbox s → Bars conf most (Some b) outbox s → ⊥
    not_barred s mendable seen bars = with_found s (no_bars s seen) bars
      where
        no_bars : (s : Status) → (outbox.held ≡ found.base.lines) ⊎ IsSeen outbox s → BarsFound found s → ⊥
        no_bars (status.Damaged at) seen why = rejected_not found (status.Damaged at) accepted why
        no_bars (status.Full entries bytes) seen why = room entries bytes why.1
        no_bars (status.OutboxBehind told base) seen why = omega (arith, mendable.least, why.2.0, why.2.1, why.2.2)
        no_bars (status.OutboxAhead told count) seen why = omega (arith, mendable.enough, why.2.0, why.2.1, why.2.2)
        no_bars (status.OutboxDiffers at) (inl none) why = omega (arith, none, why.2.2, why.2.3)
        no_bars (status.OutboxDiffers at) (inr seen) why = other_zero found.base.lines outbox.bytes (opening_lines conf found) at seen mendable.zeros why.2.4
        no_bars _ seen none = none

    -- what bars it names the outbox
    pub outbox_only : (s : Status) → Bars conf most (Some b) outbox s → NamesOutbox s
    outbox_only s bars = with_found s (names s) bars
      where
        names : (s : Status) → BarsFound found s → NamesOutbox s
        names (status.Damaged at) why = absurd (rejected_not found (status.Damaged at) accepted why)
        names (status.Full entries bytes) why = absurd (room entries bytes why.1)
        names (status.OutboxBehind told base) why = tt
        names (status.OutboxAhead told count) why = tt
        names (status.OutboxDiffers at) why = tt
        names _ none = absurd none

-- ---- texts that are kept

-- where what a file keeps is accepted, what is said of a text of its base or of its Configs is said of one that is accepted
pub kept_flat : (file : Option (List ℕ)) (Is : List ℕ → Type 0) → KeptText file Is → (text : List ℕ) × IsFlat text × Is text
kept_flat file Is (found, finds, accepted, text, among, is) = (text, All-contains IsFlat (texts_on found.base.text (found_entries found)) text accepted.1 among, is)
