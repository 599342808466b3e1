-- Laws of groups that are numbered, whose texts are taken, and that are judged, one after another.
use Rattle.std.proofs.Common.{◌≡◌, ◌≤◌, ℕ, ◌+◌, ◌<◌, Bool, true, false, true≢false, MatchBool, List, [], ◌∷◌, ◌++◌, length, map, get_or, take, drop, All, Some, None, refl, sym, ap, ap₂, ◌∙◌, subst, arith, inl, inr, append_assoc, append-nil, length-append, take-append-drop}
use Rattle.std.specs.Prelude.{option_to_list}
use Rattle.std.specs.List.{flat_map}
use Rattle.std.proofs.lemmas.List.{map-append, get_or_append_left, get_or-append-add}
use Rattle.std.proofs.lemmas.List.Elements.{All-append}
use Rattle.std.proofs.lemmas.Grind.{flat_map-append}
use Rattle.zbx_types.specs.declared.base.Base.{Base}
use Rattle.zbx_types.specs.declared.conf.Conf.{Conf}
use Rattle.zbx_types.specs.declared.entries.Entry.{Entry}
use Rattle.zbx_types.specs.declared.entries.Numbered.{Numbered}
use Rattle.entry_laws.specs.InForce.{FitsLog, texts_of, config_texts, text_in, texts_on}
use Rattle.entry_step.specs.Log.{log_of}
use Rattle.entry_step.specs.Start.{Start}
use Rattle.entry_laws.proofs.InForce.{config_texts_append}
use Rattle.intake_journal.specs.Based.{most_counted}
use Rattle.intake_journal.specs.declared.format.Group.{Group}
use Rattle.intake_front.specs.Intake.{numbered_from, with_group}
use Rattle.intake_front.specs.Fronted.{numbered_of}
use Rattle.intake_front.specs.Misfit.{GroupsFit, IsFirstMisfit, HasReached, log_with}
use Rattle.intake_front.specs.Standing.{StandsFor}
use Rattle.intake_front.specs.declared.fitting.Judged.{Judged}
use Rattle.intake_front.proofs.Misfits.{log_group, texts_group, take_next}
use Rattle.intake_front.proofs.Numbers.{length_numbered, numbered-append}
use Rattle.base_laws.specs.Grounds.{start_of}
use Rattle.server_words.specs.declared.status.Status.TheVariants as status
use Rattle.journal_opening.specs.declared.numbering.Numbering.{Numbering}
use Rattle.journal_opening.specs.Recovered.{Found, AreTaken, AreJudged, IsNumbered}
use Rattle.journal_opening.specs.Replayed.{flat, IsFlat, AreFlat, IsGoodBase, texts_in}
use Rattle.journal_opening.specs.Opening.{IsRejected, IsAccepted}

-- ---- what one more group adds

-- its entries are numbered behind those that are there
pub numbered_more : (number : ℕ) (groups : List Group) (g : Group) → numbered_of number (groups ++ g ∷ []) ≡ with_group number (numbered_of number groups) g.entries
numbered_more number groups g =
    let before = flat_map (λ (h : Group). h.entries) groups in
    let first = number + 1 in
    let all : flat_map (λ (h : Group). h.entries) (groups ++ g ∷ []) ≡ before ++ g.entries = flat_map-append _ groups (g ∷ []) ∙ ap (λ (l : List Entry). before ++ l) (append-nil g.entries) in
    let count : first + length before ≡ number + length (numbered_from first before) + 1 = omega (arith, length_numbered first before) in
    ap (numbered_from first) all ∙ numbered-append first before g.entries ∙ ap (λ n. numbered_from first before ++ numbered_from n g.entries) count

-- the texts of the Configs among entries don't hang on their numbers
pub texts_any : (n m : ℕ) (es : List Entry) → config_texts (numbered_from n es) ≡ config_texts (numbered_from m es)
texts_any n m [] = refl
texts_any n m (e ∷ es) = ap (λ l. texts_of e ++ l) (texts_any (n + 1) (m + 1) es)

-- those of a group come behind those that are there
pub texts_behind : (own : List ℕ) (number : ℕ) (kept : List Numbered) (es : List Entry) → texts_on own (with_group number kept es) ≡ texts_on own kept ++ texts_in es
texts_behind own number kept es =
    ap (λ l. option_to_list (text_in own) ++ l) (config_texts_append kept (numbered_from (number + length kept + 1) es) ∙ ap (λ l. config_texts kept ++ l) (texts_any (number + length kept + 1) 1 es))
    ∙ sym (append_assoc (option_to_list (text_in own)) (config_texts kept) (texts_in es))

pub texts_both : (a b : List Entry) → texts_in (a ++ b) ≡ texts_in a ++ texts_in b
texts_both a b =
    ap config_texts (numbered-append 1 a b) ∙ config_texts_append (numbered_from 1 a) (numbered_from (1 + length a) b) ∙ ap (λ l. texts_in a ++ l) (texts_any (1 + length a) 1 b)

-- ---- the texts of one more group are taken

-- what holds of all items holds of those in front, and of those behind
pub all_front : {A : Type 0} (P : A → Type 0) (xs ys : List A) → All P (xs ++ ys) → All P xs
all_front P xs ys all k d lt = subst P (get_or_append_left xs ys d k lt) (all k d (omega (arith, lt, length-append xs ys)))

pub all_back : {A : Type 0} (P : A → Type 0) (xs ys : List A) → All P (xs ++ ys) → All P ys
all_back P xs ys all k d lt = subst P (get_or-append-add xs ys k d) (all (length xs + k) d (omega (arith, lt, length-append xs ys)))

module _ (base : Base) (groups : List Group) (g : Group) where
  -- the entries before it, and their texts
  abbrev entries : List Numbered
  entries = numbered_of base.number groups

  abbrev texts : List (List ℕ)
  texts = texts_on base.text entries

  pub texts_more : texts_on base.text (numbered_of base.number (groups ++ g ∷ [])) ≡ texts ++ texts_in g.entries
  texts_more = ap (texts_on base.text) (numbered_more base.number groups g) ∙ texts_behind base.text base.number entries g.entries

  pub taken_more : (old new : List Conf) → AreTaken base groups None old → All IsFlat (texts_in g.entries) → new ≡ old ++ map flat (texts_in g.entries) → AreTaken base (groups ++ g ∷ []) None new
  taken_more old new taken all is = (
    subst (All IsFlat) (sym texts_more) (All-append IsFlat texts (texts_in g.entries) taken.0 all),
    is ∙ ap (λ l. l ++ map flat (texts_in g.entries)) taken.1 ∙ sym (map-append flat texts (texts_in g.entries)) ∙ ap (map flat) (sym texts_more),
  )

  -- or one of them is refused
  pub taken_refused : (old new : List Conf) → AreTaken base groups None old → ¬ (All IsFlat (texts_in g.entries)) → AreTaken base (groups ++ g ∷ []) (Some g.at) new
  taken_refused old new taken refused =
      (groups, g, [], refl, refl, taken.0, λ all. refused (all_back IsFlat texts (texts_in g.entries) (subst (All IsFlat) texts_more all)))

  -- the first group with a text that is refused stays so
  pub taken_still : (at : ℕ) (old new : List Conf) → AreTaken base groups (Some at) old → AreTaken base (groups ++ g ∷ []) (Some at) new
  taken_still at old new (before, h, rest, is, place, all, refused) =
      (before, h, rest ++ g ∷ [], ap (λ l. l ++ g ∷ []) is ∙ append_assoc before (h ∷ rest) (g ∷ []), place, all, refused)

-- ---- one more group is judged

module _ (start : Start) (groups : List Group) (g : Group) where
  abbrev log : List Numbered
  log = log_of (numbered_of start.number groups)

  -- the first misfit stays so with one more group
  pub more_misfit : (at : ℕ) → IsFirstMisfit flat start groups (Some at) → IsFirstMisfit flat start (groups ++ g ∷ []) (Some at)
  more_misfit at (before, h, rest, is, place, fits, misfits) =
      (before, h, rest ++ g ∷ [], ap (λ l. l ++ g ∷ []) is ∙ append_assoc before (h ∷ rest) (g ∷ []), place, fits, misfits)

  -- so does what was judged
  pub judged_still : (at : ℕ) (old new : Judged) → AreJudged start groups (Some at) old → AreJudged start (groups ++ g ∷ []) (Some at) new
  judged_still at old new are = record { misfit_is = more_misfit at are.misfit_is; goes_on = λ none. absurd cc }

  -- a group that fits behind groups that fit
  pub judged_more : (judged : Judged) → HasReached flat start (log_with start.number log g.entries) judged → AreJudged start (groups ++ g ∷ []) None judged
  judged_more judged has =
      let all = subst (λ l. HasReached flat start l judged) (sym (log_group start.number groups g)) has in
      record { misfit_is = all.fits; goes_on = λ none. all }

  -- and one that doesn't
  pub judged_misfit : (judged : Judged) → GroupsFit flat start groups → ¬ (FitsLog flat start (log_with start.number log g.entries)) → AreJudged start (groups ++ g ∷ []) (Some g.at) judged
  judged_misfit judged fits misfits = record {
    misfit_is = (groups, g, [], refl, refl, fits, λ all. misfits (subst (FitsLog flat start) (log_group start.number groups g) all));
    goes_on = λ none. absurd cc;
  }

-- the configurations of all texts are those along the log with the group
pub confs_with : (base : Base) (start : Start) (groups : List Group) (g : Group) (confs : List Conf) → StandsFor flat base start → AreTaken base (groups ++ g ∷ []) None confs
    → confs ≡ map flat (texts_on start.stage.conf.text (log_of (log_with start.number (log_of (numbered_of start.number groups)) g.entries)))
confs_with base start groups g confs stands taken =
    taken.1 ∙ ap₂ (λ own n. map flat (texts_on own (numbered_of n (groups ++ g ∷ [])))) (sym stands.text) (sym stands.number)
    ∙ ap (map flat) (sym (texts_group start.stage.conf.text start.number groups g))

-- ---- what one more group leaves

pub numbers_more : (base : Base) (groups : List Group) (g : Group) (old new : Numbering) → IsNumbered base groups old → new.before ≡ old.before → new.entries ≡ with_group old.before old.entries g.entries
    → AreTaken base (groups ++ g ∷ []) new.refused new.confs.items → (new.refused ≡ None → AreJudged (start_of flat base) (groups ++ g ∷ []) new.misfit new.judge) → IsNumbered base (groups ++ g ∷ []) new
numbers_more base groups g old new are same more taken judged = record {
  number_is = same ∙ are.number_is;
  counted = omega (arith, same, are.counted);
  stands = are.stands;
  entries_are = more ∙ ap₂ (λ (n : ℕ) (l : List Numbered). with_group n l g.entries) are.number_is are.entries_are ∙ sym (numbered_more base.number groups g);
  taken = taken;
  judged = judged;
}

-- that of no groups
pub none_numbered : (base : Base) (n : Numbering) → AreFlat base.text [] → base.number ≤ most_counted → StandsFor flat base (start_of flat base) → n.before ≡ base.number → n.entries ≡ []
    → n.confs.items ≡ map flat (texts_on base.text []) → n.refused ≡ None → n.misfit ≡ None → HasReached flat (start_of flat base) [] n.judge → IsNumbered base [] n
none_numbered base n all few stands number entries confs refused misfit reached = record {
  number_is = number;
  counted = omega (arith, number, few);
  stands = stands;
  entries_are = entries;
  taken = subst (λ o. AreTaken base [] o n.confs.items) (sym refused) (all, confs);
  judged = λ none. subst (λ o. AreJudged (start_of flat base) [] o n.judge) (sym misfit) (record { misfit_is = reached.fits; goes_on = λ is. reached });
}

-- ---- what is said of all of them

module _ (found : Found) (n : Numbering) (are : IsNumbered found.base found.groups n) where
  pub accepted_all : IsGoodBase found.base → n.refused ≡ None → n.misfit ≡ None → IsAccepted found
  accepted_all good refused misfit =
      (good, (subst (λ o. AreTaken found.base found.groups o n.confs.items) refused are.taken).0, subst (IsFirstMisfit flat (start_of flat found.base) found.groups) misfit (are.judged refused).misfit_is)

  pub rejected_refused : (at : ℕ) → n.refused ≡ Some at → IsRejected found (status.Damaged at)
  rejected_refused at refused = inl (subst (λ o. AreTaken found.base found.groups o n.confs.items) refused are.taken)

  pub rejected_misfit : (at : ℕ) → n.refused ≡ None → n.misfit ≡ Some at → IsRejected found (status.Damaged at)
  rejected_misfit at refused misfit =
      inr ((subst (λ o. AreTaken found.base found.groups o n.confs.items) refused are.taken).0, subst (IsFirstMisfit flat (start_of flat found.base) found.groups) misfit (are.judged refused).misfit_is)

  -- the configurations of what is accepted
  pub confs_kept : n.refused ≡ None → n.confs.items ≡ map flat (texts_on found.base.text n.entries)
  confs_kept refused = (subst (λ o. AreTaken found.base found.groups o n.confs.items) refused are.taken).1 ∙ ap (λ l. map flat (texts_on found.base.text l)) (sym are.entries_are)

-- ---- entry by entry

-- what a test that was made tells
pub match_true : {A : Type 0} (B : Type 0) (b : Bool) → b ≡ true → MatchBool b A B → A
match_true B true is told = told
match_true B false is told = absurd (true≢false (sym is))

pub match_false : {B : Type 0} (A : Type 0) (b : Bool) → b ≡ false → MatchBool b A B → B
match_false A true is told = absurd (true≢false is)
match_false A false is told = told

-- the texts of entries with one more
texts_next : (es : List Entry) (i : ℕ) (e : Entry) → i < length es → e ≡ get_or es i e → texts_in (take (i + 1) es) ≡ texts_in (take i es) ++ texts_in (e ∷ [])
texts_next es i e within is = ap texts_in (take_next es i e within is) ∙ texts_both (take i es) (e ∷ [])

-- those of the entries so far are taken, and of one more
pub entry_taken : (es : List Entry) (i : ℕ) (e : Entry) → i < length es → e ≡ get_or es i e → All IsFlat (texts_in (take i es)) → All IsFlat (texts_in (e ∷ [])) → All IsFlat (texts_in (take (i + 1) es))
entry_taken es i e within is all more = subst (All IsFlat) (sym (texts_next es i e within is)) (All-append IsFlat (texts_in (take i es)) (texts_in (e ∷ [])) all more)

pub confs_next : (es : List Entry) (i : ℕ) (e : Entry) (first old new : List Conf) → i < length es → e ≡ get_or es i e → old ≡ first ++ map flat (texts_in (take i es)) → new ≡ old ++ map flat (texts_in (e ∷ []))
    → new ≡ first ++ map flat (texts_in (take (i + 1) es))
confs_next es i e first old new within is were added =
    added ∙ ap (λ l. l ++ map flat (texts_in (e ∷ []))) were ∙ append_assoc first (map flat (texts_in (take i es))) (map flat (texts_in (e ∷ [])))
    ∙ ap (λ l. first ++ l) (sym (map-append flat (texts_in (take i es)) (texts_in (e ∷ []))) ∙ ap (map flat) (sym (texts_next es i e within is)))

-- where the text of one is refused, not all are accepted
pub entry_refused : (es : List Entry) (i : ℕ) (e : Entry) → i < length es → e ≡ get_or es i e → ¬ (All IsFlat (texts_in (e ∷ []))) → ¬ (All IsFlat (texts_in es))
entry_refused es i e within is refused all =
    let whole : es ≡ (take i es ++ e ∷ []) ++ drop (i + 1) es = sym (take-append-drop (i + 1) es) ∙ ap (λ l. l ++ drop (i + 1) es) (take_next es i e within is) in
    let parts : texts_in es ≡ (texts_in (take i es) ++ texts_in (e ∷ [])) ++ texts_in (drop (i + 1) es) =
    ap texts_in whole ∙ texts_both (take i es ++ e ∷ []) (drop (i + 1) es) ∙ ap (λ l. l ++ texts_in (drop (i + 1) es)) (texts_both (take i es) (e ∷ [])) in
    refused
    (all_back IsFlat (texts_in (take i es)) (texts_in (e ∷ []))
    (all_front IsFlat (texts_in (take i es) ++ texts_in (e ∷ [])) (texts_in (drop (i + 1) es)) (subst (All IsFlat) parts all)))
