-- Groups that fit, entry by entry.
use Rattle.std.proofs.Common.{◌≡◌, ℕ, ◌+◌, ◌-◌, ◌<◌, ◌≤◌, List, [], ◌∷◌, ◌++◌, length, get_or, take, drop, take-append-drop, reverse, Some, refl, true, false, sym, ◌∙◌, ap, subst, arith, append_assoc, append-nil, length-append, map, eqb, cond, Bool, None}
use Rattle.std.specs.Prelude.{Option, option_map, option_to_list}
use Rattle.std.specs.List.{flat_map}
use Rattle.std.proofs.lemmas.List.{reverse-append, reverse-reverse, length-reverse, length-map, map-append, get_or_past, take_more, drop_more}
use Rattle.std.proofs.lemmas.Grind.{flat_map-append}
use Rattle.std.proofs.Math.Seq.{get_or-append_seam}
use Rattle.zbx_types.specs.declared.base.Base.{Base}
use Rattle.zbx_types.specs.declared.conf.Conf.{Conf}
use Rattle.zbx_types.specs.declared.entries.Entry.{Entry}
use Rattle.zbx_types.specs.declared.entries.Entry.TheVariants.{Config, Value, Tick}
use Rattle.zbx_types.specs.declared.entries.Numbered.{Numbered}
use Rattle.zbx_types.specs.Entries.{moment_of}
use Rattle.entry_laws.specs.InForce.{FitsLater, FitsOn, FitsLog, FitsBehind, HasBegun, conf_behind, conf_with, config_texts, texts_of, text_in, texts_on}
use Rattle.entry_laws.proofs.InForce.{config_texts_append}
use Rattle.zbx_types.specs.Ids.{at_id}
use Rattle.zbx_types.specs.declared.items.Item.{Item}
use Rattle.entry_step.specs.Log.{log_of, is_config, is_taking}
use Rattle.entry_step.specs.Start.{Start, no_conf}
use Rattle.intake_journal.specs.declared.format.Group.{Group}
use Rattle.intake_front.specs.Intake.{numbered_from}
use Rattle.intake_front.specs.Fronted.{numbered_of}
use Rattle.intake_front.specs.Misfit.{HasReached, reached, in_force, log_with, FitsAfter}
use Rattle.intake_front.specs.Standing.{IsOfText, StandsFor}
use Rattle.intake_front.specs.declared.fitting.Judged.{Judged}
use Rattle.intake_front.proofs.Numbers.{length_numbered, numbered-append}

-- the texts of the configurations along a log on a base of this text
abbrev texts : List ℕ → List Numbered → List (List ℕ)
texts own log = texts_on own (log_of log)

texts_append : (own : List ℕ) (a b : List Numbered) → texts_on own (a ++ b) ≡ texts_on own a ++ config_texts b
texts_append own a b =
    ap (λ (l : List (List ℕ)). option_to_list (text_in own) ++ l) (config_texts_append a b)
    ∙ sym (append_assoc (option_to_list (text_in own)) (config_texts a) (config_texts b))

-- with one more entry
texts_next : (own : List ℕ) (e : Numbered) (log : List Numbered) → texts own (e ∷ log) ≡ texts own log ++ texts_of e.entry
texts_next own e log =
    ap (texts_on own) (reverse-append (e ∷ []) log)
    ∙ texts_append own (reverse log) (e ∷ [])
    ∙ ap (λ (l : List (List ℕ)). texts own log ++ l) (append-nil (texts_of e.entry))

-- an entry that is no Config fits behind a log only where it has begun
plain_behind : (conf : Conf) (start : Start) (log : List Numbered) (e : Entry) → is_config e ≡ false → FitsBehind conf start log e → HasBegun start log
plain_behind conf start [] e plain fits = on start.stage.conf.text fits
  where
    on : (text : List ℕ) → FitsOn text conf start.moment e → 1 ≤ length text + 0
    on [] first = let config = first.0 in absurd (cc)
    on (byte ∷ text) later = omega arith
plain_behind conf start (a ∷ log) e plain fits = omega arith

either : {A : Type 0} (b : Bool) (x : A) → cond b x x ≡ x
either true x = refl
either false x = refl

-- past the end of the configurations no item takes values
no_item : (id : ℕ) → at_id {A = Item} [] id ≡ None
unfolding at_id
no_item id = either (eqb id 0) None

pub none_taking : (confs : List Conf) (place item : ℕ) → length confs ≤ place → is_taking (at_id (get_or confs place no_conf).items item) ≡ false
none_taking confs place item past = ap (λ (conf : Conf). is_taking (at_id conf.items item)) (get_or_past confs place no_conf past) ∙ ap is_taking (no_item item)

-- the configuration in force after those along a log is the one behind it
module _ (flat : List ℕ → Conf) (start : Start) (of_text : IsOfText flat start.stage.conf) (rest : List Conf) where
  abbrev own : List ℕ
  own = start.stage.conf.text

  abbrev force : List (List ℕ) → Conf
  force ts = in_force (map flat ts ++ rest) (length ts)

  last_text_is : (before : List (List ℕ)) (text : List ℕ) → force (before ++ text ∷ []) ≡ flat text
  last_text_is before text =
      let place : length (before ++ text ∷ []) - 1 ≡ length (map flat before) = omega (arith, length-append before (text ∷ []), length-map before flat) in
      let all : map flat (before ++ text ∷ []) ++ rest ≡ map flat before ++ (flat text ∷ rest) = ap (λ (l : List Conf). l ++ rest) (map-append flat before (text ∷ [])) ∙ append_assoc (map flat before) (flat text ∷ []) rest in
      ap (λ (n : ℕ). get_or (map flat (before ++ text ∷ []) ++ rest) n no_conf) place
      ∙ ap (λ (l : List Conf). get_or l (length (map flat before)) no_conf) all
      ∙ get_or-append_seam (map flat before) (flat text) rest no_conf

  same_text : (log : List Numbered) → (HasBegun start log → force (texts own log) ≡ conf_behind flat start log) → HasBegun start log
      → force (texts own log ++ []) ≡ conf_behind flat start log
  same_text log is some = ap force (append-nil (texts own log)) ∙ is some

  force_next : (log : List Numbered) (e : Entry) → (HasBegun start log → force (texts own log) ≡ conf_behind flat start log) → FitsBehind (conf_behind flat start log) start log e
      → force (texts own log ++ texts_of e) ≡ conf_with flat (conf_behind flat start log) e
  force_next log (Config now text) is fits = last_text_is (texts own log) text
  force_next log (Value now item time value) is fits = same_text log is (plain_behind (conf_behind flat start log) start log (Value now item time value) refl fits)
  force_next log (Tick now) is fits = same_text log is (plain_behind (conf_behind flat start log) start log (Tick now) refl fits)

  force_on : (text : List ℕ) → own ≡ text → 1 ≤ length text → force (texts own []) ≡ start.stage.conf
  force_on [] is some = absurd (omega arith)
  force_on (byte ∷ text) is some =
      let there : text_in own ≡ Some (byte ∷ text) = ap text_in is in
      ap (λ (o : Option (List ℕ)). force (option_to_list o ++ [])) there ∙ last_text_is [] (byte ∷ text) ∙ sym (of_text (byte ∷ text) there)

  force_is : (log : List Numbered) → FitsLog flat start log → HasBegun start log → force (texts own log) ≡ conf_behind flat start log
  force_is [] fits some = force_on own refl (omega (arith, some))
  force_is (e ∷ log) fits some = ap force (texts_next own e log) ∙ force_next log e.entry (λ more. force_is log fits.0 more) fits.1

  -- so an entry fits after those that were judged exactly where it fits behind them
  after_on : (text : List ℕ) (conf : Conf) (e : Entry) → FitsAfter conf (option_map (λ t. start.moment) (text_in text)) e ≡ FitsOn text conf start.moment e
  after_on [] conf e = refl
  after_on (byte ∷ text) conf e = refl

  after_is : (log : List Numbered) (conf : Conf) (e : Entry) → FitsAfter conf (reached start log) e ≡ FitsBehind conf start log e
  after_is [] conf e = after_on own conf e
  after_is (a ∷ log) conf e = refl

  behind_on : (text : List ℕ) (e : Entry) → own ≡ text → FitsOn text (force (texts own [])) start.moment e ≡ FitsOn text start.stage.conf start.moment e
  behind_on [] e is = refl
  behind_on (byte ∷ text) e is = ap (λ (conf : Conf). FitsLater conf start.moment e) (force_on (byte ∷ text) is (omega arith))

  behind_is : (log : List Numbered) (e : Entry) → FitsLog flat start log → FitsBehind (force (texts own log)) start log e ≡ FitsBehind (conf_behind flat start log) start log e
  behind_is [] e fits = behind_on own e refl
  behind_is (a ∷ log) e fits = ap (λ (conf : Conf). FitsLater conf (moment_of a.entry) e) (force_is (a ∷ log) fits (omega arith))

  module _ (log : List Numbered) (e : Entry) (confs : List Conf) (judged : Judged) (has : HasReached flat start log judged) (are : confs ≡ map flat (texts own log) ++ rest) where
    force_same : in_force confs judged.configs ≡ force (texts own log)
    force_same = ap (λ (n : ℕ). in_force confs n) has.configs ∙ ap (λ (l : List Conf). in_force l (length (texts own log))) are

    judged_is : FitsAfter (in_force confs judged.configs) judged.last e ≡ FitsBehind (conf_behind flat start log) start log e
    judged_is =
        ap (λ o. FitsAfter (in_force confs judged.configs) o e) has.last ∙ ap (λ (conf : Conf). FitsAfter conf (reached start log) e) force_same
        ∙ after_is log (force (texts own log)) e ∙ behind_is log e has.fits

    judged_fits : FitsAfter (in_force confs judged.configs) judged.last e → FitsBehind (conf_behind flat start log) start log e
    judged_fits after = subst (λ T. T) judged_is after

    fits_judged : FitsBehind (conf_behind flat start log) start log e → FitsAfter (in_force confs judged.configs) judged.last e
    fits_judged behind = subst (λ T. T) (sym judged_is) behind

-- what stands before a journal's first group
pub none_reached : (flat : List ℕ → Conf) (base : Base) (start : Start) (judged : Judged) → StandsFor flat base start → length base.text ≡ 0 → judged.last ≡ None → judged.configs ≡ 0 → HasReached flat start [] judged
none_reached flat base start judged stands none last configs = record {
  of_text = stands.of_text;
  fits = tt;
  last = last ∙ sym (no_moment start.stage.conf.text empty);
  configs = configs ∙ sym (no_texts start.stage.conf.text empty);
}
  where
    empty : length start.stage.conf.text ≡ 0
    empty = ap length stands.text ∙ none

    no_moment : (text : List ℕ) → length text ≡ 0 → option_map (λ t. start.moment) (text_in text) ≡ None
    no_moment [] is = refl
    no_moment (byte ∷ text) is = absurd (omega (arith, is))

    no_texts : (text : List ℕ) → length text ≡ 0 → length (texts text []) ≡ 0
    no_texts [] is = refl
    no_texts (byte ∷ text) is = absurd (omega (arith, is))

pub base_reached : (flat : List ℕ → Conf) (base : Base) (start : Start) (judged : Judged) → StandsFor flat base start → 0 < length base.text → judged.last ≡ Some base.now → judged.configs ≡ 1 → HasReached flat start [] judged
base_reached flat base start judged stands some last configs = record {
  of_text = stands.of_text;
  fits = tt;
  last = last ∙ ap Some (sym stands.moment) ∙ sym (own_moment start.stage.conf.text there);
  configs = configs ∙ sym (one_text start.stage.conf.text there);
}
  where
    there : 0 < length start.stage.conf.text
    there = omega (arith, some, ap length stands.text)

    own_moment : (text : List ℕ) → 0 < length text → option_map (λ t. start.moment) (text_in text) ≡ Some start.moment
    own_moment [] is = absurd (omega arith)
    own_moment (byte ∷ text) is = refl

    one_text : (text : List ℕ) → 0 < length text → length (texts text []) ≡ 1
    one_text [] is = absurd (omega arith)
    one_text (byte ∷ text) is = refl

-- the entry with its number, behind a log and others
abbrev next : ℕ → List Numbered → List Entry → Entry → Numbered
next before log entries e = record { number = before + length log + 1 + length entries; entry = e }

-- a log with one more entry behind others
log_more : (before : ℕ) (log : List Numbered) (entries : List Entry) (e : Entry) → log_with before log (entries ++ e ∷ []) ≡ next before log entries e ∷ log_with before log entries
log_more before log entries e =
    let first = numbered_from (before + length log + 1) entries in
    let last : List Numbered = next before log entries e ∷ [] in
    ap (λ (l : List Numbered). reverse l ++ log) (numbered-append (before + length log + 1) entries (e ∷ []))
    ∙ ap (λ (l : List Numbered). l ++ log) (reverse-append first last)

-- a log that fits does so without its newest entries
fits_without : (flat : List ℕ → Conf) (start : Start) (newer log : List Numbered) → FitsLog flat start (newer ++ log) → FitsLog flat start log
fits_without flat start [] log fits = fits
fits_without flat start (e ∷ newer) log fits = fits_without flat start newer log fits.0

log_parts : (before : ℕ) (log : List Numbered) (a b : List Entry) → (newer : List Numbered) × (log_with before log (a ++ b) ≡ newer ++ log_with before log a)
log_parts before log a b =
    let front = numbered_from (before + length log + 1) a in
    let back = numbered_from (before + length log + 1 + length a) b in (
      reverse back,
      ap (λ (l : List Numbered). reverse l ++ log) (numbered-append (before + length log + 1) a b)
          ∙ ap (λ (l : List Numbered). l ++ log) (reverse-append front back)
          ∙ append_assoc (reverse back) (reverse front) log,
    )

-- the configurations along a log begin with those of its older part
confs_newer : (flat : List ℕ → Conf) (own : List ℕ) (confs rest : List Conf) (all newer log : List Numbered) → confs ≡ map flat (texts own all) ++ rest → all ≡ newer ++ log → (more : List Conf) × (confs ≡ map flat (texts own log) ++ more)
confs_newer flat own confs rest all newer log are is =
    let behind = config_texts (reverse newer) in
    let apart : texts own all ≡ texts own log ++ behind = ap (texts own) is ∙ ap (texts_on own) (reverse-append newer log) ∙ texts_append own (reverse log) (reverse newer) in (
      map flat behind ++ rest,
      are ∙ ap (λ (l : List (List ℕ)). map flat l ++ rest) apart ∙ ap (λ (l : List Conf). l ++ rest) (map-append flat (texts own log) behind) ∙ append_assoc (map flat (texts own log)) (map flat behind) rest,
    )

confs_parts : (flat : List ℕ → Conf) (own : List ℕ) (confs rest : List Conf) (before : ℕ) (log : List Numbered) (all a b : List Entry) → confs ≡ map flat (texts own (log_with before log all)) ++ rest → all ≡ a ++ b
    → (more : List Conf) × (confs ≡ map flat (texts own (log_with before log a)) ++ more)
confs_parts flat own confs rest before log all a b are is =
    let parts = log_parts before log a b in
    confs_newer flat own confs rest (log_with before log all) parts.0 (log_with before log a) are (ap (log_with before log) is ∙ parts.1)

-- the place in a list at which a loop stands
pub split_at : {X : Type 0} (xs : List X) (i : ℕ) (x : X) → i < length xs → x ≡ get_or xs i x → xs ≡ take i xs ++ x ∷ drop (i + 1) xs
split_at xs i x lt is =
    sym (take-append-drop i xs) ∙ ap (λ l. take i xs ++ l) (drop_more xs i x lt ∙ ap (λ y. y ∷ drop (i + 1) xs) (sym is))

pub take_next : {X : Type 0} (xs : List X) (i : ℕ) (x : X) → i < length xs → x ≡ get_or xs i x → take (i + 1) xs ≡ take i xs ++ x ∷ []
take_next xs i x lt is = take_more xs i x lt ∙ ap (λ y. take i xs ++ y ∷ []) (sym is)

split_more : (xs : List Entry) (i : ℕ) (x : Entry) → i < length xs → x ≡ get_or xs i x → xs ≡ (take i xs ++ x ∷ []) ++ drop (i + 1) xs
split_more xs i x lt is = split_at xs i x lt is ∙ sym (append_assoc (take i xs) (x ∷ []) (drop (i + 1) xs))

-- a loop over the entries of a group stands at one of them
module _ (flat : List ℕ → Conf) (start : Start) (confs rest : List Conf) (before : ℕ) (log : List Numbered) (all : List Entry) (i : ℕ) (e : Entry) (judged : Judged)
    (are : confs ≡ map flat (texts start.stage.conf.text (log_with before log all)) ++ rest) (here : i < length all) (is : e ≡ get_or all i e) (has : HasReached flat start (log_with before log (take i all)) judged) where
  -- where it doesn't fit, the group doesn't
  pub step_misfits : ¬ (FitsAfter (in_force confs judged.configs) judged.last e) → ¬ (FitsLog flat start (log_with before log all))
  step_misfits misfits fits =
      let here_on = log_parts before log (take i all ++ e ∷ []) (drop (i + 1) all) in
      let split : log_with before log all ≡ here_on.0 ++ log_with before log (take i all ++ e ∷ []) = ap (log_with before log) (split_more all i e here is) ∙ here_on.1 in
      let with_it : FitsLog flat start (log_with before log (take i all ++ e ∷ [])) = fits_without flat start here_on.0 (log_with before log (take i all ++ e ∷ [])) (subst (FitsLog flat start) split fits) in
      let stands : FitsLog flat start (next before log (take i all) e ∷ log_with before log (take i all)) = subst (FitsLog flat start) (log_more before log (take i all) e) with_it in
      let confs_here = confs_parts flat start.stage.conf.text confs rest before log all (take i all) (e ∷ drop (i + 1) all) are (split_at all i e here is) in
      misfits (fits_judged flat start has.of_text confs_here.0 (log_with before log (take i all)) e confs judged has confs_here.1 stands.1)

  -- there is a configuration for each Config up to it
  pub step_room : judged.configs + length (texts_of e) ≤ length confs
  step_room =
      let confs_next = confs_parts flat start.stage.conf.text confs rest before log all (take i all ++ e ∷ []) (drop (i + 1) all) are (split_more all i e here is) in
      let texts_here : texts start.stage.conf.text (log_with before log (take i all ++ e ∷ [])) ≡ texts start.stage.conf.text (log_with before log (take i all)) ++ texts_of e =
      ap (texts start.stage.conf.text) (log_more before log (take i all) e) ∙ texts_next start.stage.conf.text (next before log (take i all) e) (log_with before log (take i all)) in
      let front = map flat (texts start.stage.conf.text (log_with before log (take i all ++ e ∷ []))) in
      omega (
        arith,
        has.configs,
        ap length confs_next.1,
        length-append front confs_next.0,
        length-map (texts start.stage.conf.text (log_with before log (take i all ++ e ∷ []))) flat,
        ap length texts_here,
        length-append (texts start.stage.conf.text (log_with before log (take i all))) (texts_of e),
      )

  -- where it fits, it is judged with the others
  pub step_fits : (new : Judged) → FitsAfter (in_force confs judged.configs) judged.last e → new.last ≡ Some (moment_of e) → new.configs ≡ judged.configs + length (texts_of e) → HasReached flat start (log_with before log (take (i + 1) all)) new
  step_fits new after last configs =
      let front = log_with before log (take i all) in
      let confs_here = confs_parts flat start.stage.conf.text confs rest before log all (take i all) (e ∷ drop (i + 1) all) are (split_at all i e here is) in
      let behind = judged_fits flat start has.of_text confs_here.0 front e confs judged has confs_here.1 after in
      let more : HasReached flat start (next before log (take i all) e ∷ front) new = record {
        of_text = has.of_text;
        fits = (has.fits, behind);
        last = last;
        configs = omega (arith, configs, has.configs, ap length (texts_next start.stage.conf.text (next before log (take i all) e) front), length-append (texts start.stage.conf.text front) (texts_of e));
      } in
      subst (λ (l : List Numbered). HasReached flat start l new) (sym (ap (log_with before log) (take_next all i e here is) ∙ log_more before log (take i all) e)) more

-- the log of groups with one more
pub log_group : (number : ℕ) (groups : List Group) (g : Group) → log_of (numbered_of number (groups ++ g ∷ [])) ≡ log_with number (log_of (numbered_of number groups)) g.entries
log_group number groups g =
    let before = flat_map (λ (h : Group). h.entries) groups in
    let first = number + 1 in
    let all : flat_map (λ (h : Group). h.entries) (groups ++ g ∷ []) ≡ before ++ g.entries = flat_map-append _ groups (g ∷ []) ∙ ap (λ (l : List Entry). before ++ l) (append-nil g.entries) in
    let count : first + length before ≡ number + length (reverse (numbered_from first before)) + 1 = omega (arith, length-reverse (numbered_from first before), length_numbered first before) in
    ap (λ (l : List Entry). reverse (numbered_from first l)) all
    ∙ ap reverse (numbered-append first before g.entries)
    ∙ reverse-append (numbered_from first before) (numbered_from (first + length before) g.entries)
    ∙ ap (λ (n : ℕ). reverse (numbered_from n g.entries) ++ reverse (numbered_from first before)) count

-- the texts of the configurations along it
pub texts_group : (own : List ℕ) (number : ℕ) (groups : List Group) (g : Group)
    → texts_on own (log_of (log_with number (log_of (numbered_of number groups)) g.entries)) ≡ texts_on own (numbered_of number (groups ++ g ∷ []))
texts_group own number groups g = ap (texts own) (sym (log_group number groups g)) ∙ ap (texts_on own) (reverse-reverse (numbered_of number (groups ++ g ∷ [])))

-- the configurations along groups begin with those along the first of these groups
pub confs_groups : (flat : List ℕ → Conf) (own : List ℕ) (number : ℕ) (confs : List Conf) (all before : List Group) (g : Group) (rest : List Group) → confs ≡ map flat (texts_on own (numbered_of number all)) → all ≡ (before ++ g ∷ []) ++ rest
    → (more : List Conf) × (confs ≡ map flat (texts_on own (log_of (log_with number (log_of (numbered_of number before)) g.entries))) ++ more)
confs_groups flat own number confs all before g rest are is =
    let first = number + 1 in
    let front = flat_map (λ (h : Group). h.entries) (before ++ g ∷ []) in
    let back = flat_map (λ (h : Group). h.entries) rest in
    let behind = config_texts (numbered_from (first + length front) back) in
    let apart : texts_on own (numbered_of number all) ≡ texts_on own (numbered_of number (before ++ g ∷ [])) ++ behind =
    ap (λ (l : List Group). texts_on own (numbered_of number l)) is
    ∙ ap (λ (l : List Entry). texts_on own (numbered_from first l)) (flat_map-append _ (before ++ g ∷ []) rest)
    ∙ ap (texts_on own) (numbered-append first front back)
    ∙ texts_append own (numbered_from first front) (numbered_from (first + length front) back) in (
      map flat behind,
      are ∙ ap (map flat) apart ∙ map-append flat (texts_on own (numbered_of number (before ++ g ∷ []))) behind
          ∙ ap (λ (l : List (List ℕ)). map flat l ++ map flat behind) (sym (texts_group own number before g)),
    )
