-- Laws of configurations that are made ready, one after another.
use Rattle.std.proofs.Common.{ℕ, suc, ◌-◌, arith, Bool, true, false, List, ◌∷◌, length, take, drop, Contains, refl, subst, take-append-drop, if◌then◌else◌}
use Rattle.std.specs.Prelude.{slice_get}
use Rattle.std.proofs.lemmas.List.Elements.{Contains-append_left}
use Rattle.zbx_types.specs.declared.conf.Conf.{Conf}
use Rattle.server_words.specs.declared.status.Status.{Status}
use Rattle.server_words.specs.declared.status.Status.TheVariants as status
use Rattle.journal_opening.specs.Epochs.{has_text, earlier, AreUnready}
use Rattle.journal_opening.specs.Patterns.{IsUnready}

-- the earlier ones of configurations are among them
pub earlier_among : (text : List ℕ) (confs : List Conf) (conf : Conf) → Contains (earlier text confs) conf → Contains confs conf
earlier_among text confs conf = by (has_text text (slice_get confs (length confs - 1)))
  where
    by : (b : Bool) → Contains (if b then take (length confs - 1) confs else confs) conf → Contains confs conf
    by true among = subst (λ l. Contains l conf) (take-append-drop (length confs - 1) confs) (Contains-append_left (take (length confs - 1) confs) (drop (length confs - 1) confs) conf among)
    by false among = among

-- where one of them couldn't be made ready, they couldn't
pub one_unready : (confs : List Conf) (conf : Conf) (s : Status) → Contains confs conf → IsUnready conf s → AreUnready confs s
one_unready confs conf status.OutOfMemory among why = tt
one_unready confs conf (status.PatternRefused path) among why = (conf, among, why)
one_unready confs conf (status.PatternTooLarge path) among why = (conf, among, why)
one_unready confs conf _ among none = absurd none

-- the first one of configurations is among them, and so are those behind it
pub among_first : (conf : Conf) (rest : List Conf) → Contains (conf ∷ rest) conf
among_first conf rest = (0, omega arith, refl)

pub among_rest : (first : Conf) (rest : List Conf) (conf : Conf) → Contains rest conf → Contains (first ∷ rest) conf
among_rest first rest conf (k, within, is) = (suc k, omega (arith, within), is)

-- where the earlier ones couldn't be, they couldn't
pub earlier_unready : (text : List ℕ) (confs : List Conf) (s : Status) → AreUnready (earlier text confs) s → AreUnready confs s
earlier_unready text confs status.OutOfMemory why = tt
earlier_unready text confs (status.PatternRefused path) why = (why.0, earlier_among text confs why.0 why.1, why.2)
earlier_unready text confs (status.PatternTooLarge path) why = (why.0, earlier_among text confs why.0 why.1, why.2)
earlier_unready text confs _ none = absurd none.2
