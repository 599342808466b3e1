-- Laws of the place where entries end.
use Rattle.std.proofs.Common.{◌≡◌, ◌<◌, ◌≤◌, ◌+◌, ◌-◌, ℕ, List, [], ◌∷◌, length, take, get_or, Option, Some, None, refl, sym, ap, ◌∙◌, arith}
use Rattle.std.specs.Option.{option_or}
use Rattle.std.specs.Prelude.{slice_get}
use Rattle.std.proofs.lemmas.List.{reverse-append}
use Rattle.std.proofs.lemmas.Option.{slice_get-get_or}
use Rattle.zbx_types.specs.Entries.{moment_of}
use Rattle.zbx_types.specs.declared.entries.Numbered.{Numbered}
use Rattle.base_laws.specs.Bases.{last_tick}
use Rattle.entry_step.specs.Log.{log_of, moment_from, tick_of}
use Rattle.book_opening.proofs.Replaying.{next_log, taken_all}
use Rattle.journal_opening.proofs.KeptTexts.{last_split}
use Rattle.journal_copy.specs.Places.{number_from}

-- ---- the last Tick

pub next_tick : (before last now : Option ℕ) (entries : List Numbered) (i : ℕ) (e : Numbered) → i < length entries → e ≡ get_or entries i e → last ≡ last_tick before (log_of (take i entries))
    → now ≡ option_or (tick_of e.entry) last → now ≡ last_tick before (log_of (take (i + 1) entries))
next_tick before last now entries i e below is so_far made =
    let next : log_of (take (i + 1) entries) ≡ e ∷ log_of (take i entries) = next_log entries i e below ∙ ap (λ (x : Numbered). x ∷ log_of (take i entries)) (sym is) in
    made ∙ ap (option_or (tick_of e.entry)) so_far ∙ ap (last_tick before) (sym next)

pub all_ticks : (before last : Option ℕ) (entries : List Numbered) (i : ℕ) → length entries ≤ i → last ≡ last_tick before (log_of (take i entries)) → last ≡ last_tick before (log_of entries)
all_ticks before last entries i all is = is ∙ ap (λ (es : List Numbered). last_tick before (log_of es)) (taken_all entries i all)

-- ---- the last entry

-- it is the first of the log
last_first : (entries : List Numbered) (e : Numbered) → slice_get entries (length entries - 1) ≡ Some e → log_of entries ≡ e ∷ log_of (take (length entries - 1) entries)
last_first entries e is =
    let front = take (length entries - 1) entries in
    ap log_of (last_split entries e is) ∙ reverse-append front (e ∷ [])

pub number_last : (before : ℕ) (entries : List Numbered) (e : Numbered) → slice_get entries (length entries - 1) ≡ Some e → e.number ≡ number_from before (log_of entries)
number_last before entries e is = ap (number_from before) (sym (last_first entries e is))

pub moment_last : (before : ℕ) (entries : List Numbered) (e : Numbered) → slice_get entries (length entries - 1) ≡ Some e → moment_of e.entry ≡ moment_from before (log_of entries)
moment_last before entries e is = ap (moment_from before) (sym (last_first entries e is))

-- there is none where there are no entries
none_there : (entries : List Numbered) → slice_get entries (length entries - 1) ≡ None → entries ≡ []
none_there [] none = refl
none_there (e ∷ entries) none = let some = slice_get-get_or (e ∷ entries) (length (e ∷ entries) - 1) e (omega arith) in absurd (cc)

pub number_none : (before : ℕ) (entries : List Numbered) → slice_get entries (length entries - 1) ≡ None → before ≡ number_from before (log_of entries)
number_none before entries none = ap (λ (es : List Numbered). number_from before (log_of es)) (sym (none_there entries none))

pub moment_none : (before : ℕ) (entries : List Numbered) → slice_get entries (length entries - 1) ≡ None → before ≡ moment_from before (log_of entries)
moment_none before entries none = ap (λ (es : List Numbered). moment_from before (log_of es)) (sym (none_there entries none))
