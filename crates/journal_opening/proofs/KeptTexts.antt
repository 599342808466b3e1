-- Laws of the configurations of a run's entries: those that its journal kept, and its own.
use Rattle.std.proofs.Common.{◌≡◌, ℕ, zero, suc, ◌+◌, ◌-◌, ◌<◌, Bool, true, false, true≢false, List, [], ◌∷◌, ◌++◌, length, map, take, reverse, get_or, All, Option, Some, None, Ok, Decides, refl, sym, ap, ap₂, ◌∙◌, subst, arith, append-nil, append_assoc, if◌then◌else◌}
use Rattle.std.specs.Prelude.{slice_get, option_to_list}
use Rattle.std.specs.Option.{option_map, option_or}
use Rattle.std.specs.Str.{bytes_eq}
use Rattle.std.proofs.lemmas.List.{map-append, length-map, length_push, reverse-append, reverse-reverse, take_more, take_all, take-map, get_or_push}
use Rattle.std.proofs.lemmas.List.Elements.{All-get_or, All-push}
use Rattle.std.proofs.lemmas.Option.{slice_get-get_or, slice_get_within, get_or_from_slice_get}
use Rattle.std.proofs.lemmas.Slice.Eq.{bytes_eq-Decides}
use Rattle.zbx_types.specs.declared.base.Base.{Base}
use Rattle.zbx_types.specs.declared.conf.Conf.{Conf}
use Rattle.zbx_types.specs.declared.entries.Entry.{Entry}
use Rattle.zbx_types.specs.declared.entries.Entry.TheVariants.{Config, Value, Tick}
use Rattle.zbx_types.specs.declared.entries.Numbered.{Numbered}
use Rattle.config_templates.specs.Flat.{flat_of}
use Rattle.trigger_state.specs.Stages.{Stage, first_stage}
use Rattle.entry_step.specs.Each.{Each}
use Rattle.entry_laws.specs.InForce.{IsPlain, texts_of, config_texts, text_in, texts_on}
use Rattle.entry_step.specs.Log.{log_of}
use Rattle.entry_laws.proofs.InForce.{config_texts_append}
use Rattle.outside.specs.Disk.{DiskTells}
use Rattle.intake_journal.specs.Settled.{Journaled}
use Rattle.intake_front.specs.Intake.{Intake, config_text, last_text, is_text, config_behind, resumed_with, start}
use Rattle.journal_opening.specs.Epochs.{has_text, earlier}
use Rattle.journal_opening.specs.Replayed.{flat, IsFlat, AreFlat}
use Rattle.journal_opening.specs.Recovered.{found_entries}
use Rattle.journal_opening.specs.Resumed.{IsTakenUp}
use Rattle.journal_opening.proofs.Beginning.{flat_is}
use Rattle.journal_opening.proofs.Judging.{texts_behind}
use Rattle.journal_opening.proofs.Texts.{text_kept}

-- ---- the last of the texts

-- the last item of a list, where it has one
abbrev last_in : {A : Type 0} → List A → Option A
last_in xs = slice_get xs (length xs - 1)

last_push : {A : Type 0} (xs : List A) (x : A) → last_in (xs ++ x ∷ []) ≡ Some x
last_push xs x =
    let long = length_push xs x in
    let at : length xs ≡ length (xs ++ x ∷ []) - 1 = omega (arith, long) in
    slice_get-get_or (xs ++ x ∷ []) (length (xs ++ x ∷ []) - 1) x (omega (arith, long)) ∙ ap Some (get_or_push xs x x (length (xs ++ x ∷ []) - 1) at)

-- a list that has a last item is those before it, and it
pub last_split : {A : Type 0} (xs : List A) (x : A) → last_in xs ≡ Some x → xs ≡ take (length xs - 1) xs ++ x ∷ []
last_split xs x is =
    let within = slice_get_within xs (length xs - 1) x is in
    let all : length xs ≡ length xs - 1 + 1 = omega (arith, within) in
    let item : get_or xs (length xs - 1) x ≡ x = get_or_from_slice_get xs (length xs - 1) x x is in
    sym (take_all (length xs) xs (omega arith)) ∙ ap (λ n. take n xs) all ∙ take_more xs (length xs - 1) x within ∙ ap (λ y. take (length xs - 1) xs ++ y ∷ []) item

slice_map : {A B : Type 0} (f : A → B) (xs : List A) (i : ℕ) → slice_get (map f xs) i ≡ option_map f (slice_get xs i)
slice_map f [] i = refl
slice_map f (x ∷ xs) zero = refl
slice_map f (x ∷ xs) (suc i) = slice_map f xs i

pub maps : {A B C : Type 0} (f : A → B) (g : B → C) (xs : List A) → map g (map f xs) ≡ map (λ x. g (f x)) xs
maps f g [] = refl
maps f g (x ∷ xs) = ap (λ l. g (f x) ∷ l) (maps f g xs)

-- the text of the last configuration of a log is the last of the texts along it
own_last : (own : List ℕ) → text_in own ≡ last_in (texts_on own [])
own_last [] = refl
own_last (byte ∷ own) = refl

text_last : (own : List ℕ) (log : List Numbered) → last_text own log ≡ last_in (texts_on own (reverse log))
text_last own [] = own_last own
text_last own (e ∷ log) = by e.entry (text_last own log) ∙ ap last_in (sym texts)
  where
    before : List (List ℕ)
    before = texts_on own (reverse log)

    texts : texts_on own (reverse (e ∷ log)) ≡ before ++ texts_of e.entry
    texts =
        ap (texts_on own) (reverse-append (e ∷ []) log) ∙ ap (λ l. option_to_list (text_in own) ++ l) (config_texts_append (reverse log) (e ∷ []) ∙ ap (λ l. config_texts (reverse log) ++ l) (append-nil (texts_of e.entry)))
        ∙ sym (append_assoc (option_to_list (text_in own)) (config_texts (reverse log)) (texts_of e.entry))

    by : (x : Entry) → last_text own log ≡ last_in before → option_or (config_text x) (last_text own log) ≡ last_in (before ++ texts_of x)
    by (Config now text) is = sym (last_push before text)
    by (Value now item time value) is = is ∙ ap last_in (sym (append-nil before))
    by (Tick now) is = is ∙ ap last_in (sym (append-nil before))

last_of : (own : List ℕ) (es : List Numbered) → last_text own (log_of es) ≡ last_in (texts_on own es)
last_of own es = text_last own (log_of es) ∙ ap (λ l. last_in (texts_on own l)) (reverse-reverse es)

-- ---- Values and Ticks have no texts

plain_texts : (more : List Numbered) → Each IsPlain more → config_texts more ≡ []
plain_texts [] plain = refl
plain_texts (e ∷ more) plain = by e.entry plain.0 (plain_texts more plain.1)
  where
    by : (x : Entry) → IsPlain (record { number = e.number; entry = x }) → config_texts more ≡ [] → texts_of x ++ config_texts more ≡ []
    by (Config now text) is rest = absurd (true≢false is)
    by (Value now item time value) is rest = rest
    by (Tick now) is rest = rest

texts_stay : (own : List ℕ) (es more : List Numbered) → Each IsPlain more → texts_on own (es ++ more) ≡ texts_on own es
texts_stay own es more plain =
    ap (λ l. option_to_list (text_in own) ++ l) (config_texts_append es more ∙ ap (λ l. config_texts es ++ l) (plain_texts more plain) ∙ append-nil (config_texts es))

-- so with some more of them the texts along entries stay accepted, and the last one stays
pub flat_on : (own : List ℕ) (es more : List Numbered) → Each IsPlain more → AreFlat own es → AreFlat own (es ++ more)
flat_on own es more plain all = subst (All IsFlat) (sym (texts_stay own es more plain)) all

pub last_on : (own : List ℕ) (es more : List Numbered) → Each IsPlain more → last_text own (log_of (es ++ more)) ≡ last_text own (log_of es)
last_on own es more plain = last_of own (es ++ more) ∙ ap last_in (texts_stay own es more plain) ∙ sym (last_of own es)

-- ---- the entries with which a run goes on

all_at : {A : Type 0} (P : A → Type 0) (xs : List A) (k : ℕ) (x : A) → All P xs → slice_get xs k ≡ Some x → P x
all_at P xs k x all is = subst P (get_or_from_slice_get xs k x x is) (All-get_or P xs k x (slice_get_within xs k x is) all)

same_text : (a b : List ℕ) → bytes_eq a b ≡ true → a ≡ b
same_text a b is = by (bytes_eq a b) (bytes_eq-Decides a b) is
  where
    by : (r : Bool) → Decides r (a ≡ b) → r ≡ true → a ≡ b
    by true d is = d.0 refl
    by false d is = absurd (true≢false (sym is))

module _ (base : Base) (conf : Conf) (kept : List Numbered) (is : flat_of conf.text ≡ Ok conf) (all : AreFlat base.text kept) where
  -- the kept texts, and their configurations
  abbrev texts : List (List ℕ)
  texts = texts_on base.text kept

  abbrev confs : List Conf
  confs = map flat texts

  -- the last of them is the run's very text
  abbrev same : Bool
  same = is_text conf.text (last_text base.text (log_of kept))

  own : flat conf.text ≡ conf
  own = flat_is conf.text conf is

  own_flat : IsFlat conf.text
  own_flat = is ∙ ap Ok (sym own)

  texts_with : (b : Bool) (bytes : ℕ) → texts_on base.text (resumed_with base kept bytes (if b then [] else config_behind base.now conf.text kept)).entries ≡ (if b then texts else texts ++ conf.text ∷ [])
  texts_with true bytes = refl
  texts_with false bytes = texts_behind base.text base.number kept (config_behind base.now conf.text kept)

  -- then it is the last one
  same_last : same ≡ true → last_in texts ≡ Some conf.text
  same_last test = by (last_text base.text (log_of kept)) (last_of base.text kept) test
    where
      by : (o : Option (List ℕ)) → o ≡ last_in texts → is_text conf.text o ≡ true → last_in texts ≡ Some conf.text
      by None at test = absurd (true≢false (sym test))
      by (Some text) at test = sym at ∙ ap Some (same_text text conf.text test)

  pub opening_flat : (bytes : ℕ) → AreFlat base.text (start base conf.text kept bytes).entries
  opening_flat bytes = subst (All IsFlat) (sym (texts_with same bytes)) (by same)
    where
      by : (b : Bool) → All IsFlat (if b then texts else texts ++ conf.text ∷ [])
      by true = all
      by false = All-push IsFlat texts conf.text all own_flat

  pub opening_last : (bytes : ℕ) → last_text base.text (log_of (start base conf.text kept bytes).entries) ≡ Some conf.text
  opening_last bytes = last_of base.text (start base conf.text kept bytes).entries ∙ ap last_in (texts_with same bytes) ∙ by same refl
    where
      by : (b : Bool) → same ≡ b → last_in (if b then texts else texts ++ conf.text ∷ []) ≡ Some conf.text
      by true test = same_last test
      by false test = last_push texts conf.text

  -- ---- and their configurations, made ready

  -- the last configuration has the text where the last text is the same
  same_test : has_text conf.text (last_in confs) ≡ same
  same_test =
      ap (λ n. has_text conf.text (slice_get confs (n - 1))) (length-map texts flat) ∙ ap (has_text conf.text) (slice_map flat texts (length texts - 1))
      ∙ by (last_in texts) refl ∙ ap (is_text conf.text) (sym (last_of base.text kept))
    where
      by : (o : Option (List ℕ)) → last_in texts ≡ o → has_text conf.text (option_map flat o) ≡ is_text conf.text o
      by None at = refl
      by (Some text) at = ap (λ t. bytes_eq t conf.text) (text_kept text (flat text) (all_at IsFlat texts (length texts - 1) text all at))

  epochs_with : (b : Bool) → same ≡ b → map first_stage ((if b then take (length confs - 1) confs else confs) ++ conf ∷ []) ≡ map (λ text. first_stage (flat text)) (if b then texts else texts ++ conf.text ∷ [])
  epochs_with true test =
      let front = take (length texts - 1) texts in
      let short : take (length confs - 1) confs ≡ map flat front = ap (λ n. take (n - 1) confs) (length-map texts flat) ∙ take-map flat (length texts - 1) texts in
      ap (map first_stage) (ap₂ (λ l c. l ++ c ∷ []) short (sym own) ∙ sym (map-append flat front (conf.text ∷ [])) ∙ ap (map flat) (sym (last_split texts conf.text (same_last test)))) ∙ maps flat first_stage texts
  epochs_with false test = ap (map first_stage) (ap (λ c. confs ++ c ∷ []) (sym own) ∙ sym (map-append flat texts (conf.text ∷ []))) ∙ maps flat first_stage (texts ++ conf.text ∷ [])

  pub epochs_are : (bytes : ℕ) (epochs : List Stage) → epochs ≡ map first_stage (earlier conf.text confs) ++ first_stage conf ∷ []
      → epochs ≡ map (λ text. first_stage (flat text)) (texts_on base.text (start base conf.text kept bytes).entries)
  epochs_are bytes epochs made =
      made ∙ sym (map-append first_stage (earlier conf.text confs) (conf ∷ []))
      ∙ ap (λ (b : Bool). map first_stage ((if b then take (length confs - 1) confs else confs) ++ conf ∷ [])) same_test
      ∙ epochs_with same refl ∙ ap (map (λ text. first_stage (flat text))) (sym (texts_with same bytes))

-- a list with a last item has some
pub some_last : {A : Type 0} (xs front : List A) (x : A) → xs ≡ front ++ x ∷ [] → 0 < length xs
some_last {A = A} xs front x is = omega (arith, ap (λ (l : List A). length l) is, length_push front x)

module _ {D : Type 0} (tells : D → DiskTells) (conf : Conf) (most : ℕ) (old : D) (journal : Journaled D) (kept : List Numbered) (taken : List Conf) (t : IsTakenUp tells most old journal kept taken) where
  -- the configurations along a run's entries are those that its journal kept, made ready, and its own
  pub epochs_begun : (intake : Intake) (base : Base) (epochs : List Stage) → flat_of conf.text ≡ Ok conf → intake ≡ start journal.base conf.text kept (journal.at + 1) → base ≡ journal.base
      → epochs ≡ map first_stage (earlier conf.text taken) ++ first_stage conf ∷ [] → epochs ≡ map (λ text. first_stage (flat text)) (texts_on base.text intake.entries)
  epochs_begun intake base epochs is begun same made =
      let own : t.found.base.text ≡ journal.base.text = ap (λ (k : Base). k.text) (sym t.has.base) in
      let all : AreFlat journal.base.text kept = subst (λ es. AreFlat journal.base.text es) (sym t.kept_are) (subst (λ text. AreFlat text (found_entries t.found)) own t.accepted.1) in
      let confs : taken ≡ map flat (texts_on journal.base.text kept) = t.confs_are ∙ ap (λ text. map flat (texts_on text kept)) own in
      epochs_are journal.base conf kept is all (journal.at + 1) epochs (made ∙ ap (λ cs. map first_stage (earlier conf.text cs) ++ first_stage conf ∷ []) confs)
      ∙ ap (λ (i : Intake). map (λ text. first_stage (flat text)) (texts_on journal.base.text i.entries)) (sym begun)
      ∙ ap (map (λ text. first_stage (flat text))) (ap (λ (k : Base). texts_on k.text intake.entries) (sym same))
