-- Whole logs, entry by entry.
use Rattle.std.proofs.Common.{◌≡◌, ◌≤◌, ◌<◌, ℕ, List, [], ◌∷◌, ◌++◌, refl, sym, ◌∙◌, ap, subst, append-nil, append_assoc, arith}
use mathlib.Core.Path.{fun_ext}
use Rattle.zbx_types.specs.declared.conf.Conf.{Conf}
use Rattle.zbx_types.specs.declared.entries.Entry.{Entry}
use Rattle.zbx_types.specs.declared.entries.Entry.TheVariants.{Config, Value, Tick}
use Rattle.zbx_types.specs.declared.entries.Numbered.{Numbered}
use Rattle.trigger_state.specs.declared.stage.Origin.{Origin}
use Rattle.entry_step.specs.Carry.{carried, next_start}
use Rattle.entry_step.specs.Cells.{Key, ItemKey, TriggerKey, TickKey, look}
use Rattle.entry_step.specs.Each.{Each}
use Rattle.entry_step.specs.History.{marks_of}
use Rattle.entry_step.specs.Log.{last_number}
use Rattle.entry_step.specs.Named.{AreDistinct}
use Rattle.entry_step.specs.Records.{out_of}
use Rattle.entry_step.specs.Start.{Start}
use Rattle.entry_step.specs.Whole.{Point, out_at, point_with, point, whole_replay, cells_at, step_records, step_cells, AreTold, FitsWhole, HasDistinct, AnyEntry, StaysTold, AllTold, FreshFits}
use Rattle.entry_step.proofs.Members.{each_sub}
use Rattle.entry_step.proofs.Moving.{carried_opens, told_next, origins_next}
use Rattle.entry_step.proofs.Represented.{records_are, after_is}
use Rattle.entry_step.proofs.Told.{MakesTold, records_told, told_with, own_home}

-- what is known of a point behind the entry with this number
record Known (number : ℕ) (p : Point) : Type 0 where
  distinct : AreDistinct p.start.stage.conf
  origins : Each (λ (o : Origin). o.event.number ≤ number) p.start.stage.origins
  told : AreTold p.start.stage number p.records

plain_known : (p : Point) (m : ℕ) (e : Numbered) → m < e.number → Known m p → Known e.number (record { start = p.start; since = e ∷ p.since; records = p.records ++ out_of p.start p.since e e.entry p.records })
plain_known p m e l known = record {
  distinct = known.distinct;
  origins = each_sub (λ (o : Origin). o.event.number ≤ m) (λ (o : Origin). o.event.number ≤ e.number) p.start.stage.origins (λ o u. omega arith) known.origins;
  told = told_with p.start.stage m e.number p.records (out_of p.start p.since e e.entry p.records) (omega arith) known.told makes;
}
  where
    makes : Each (MakesTold p.start.stage e.number) (out_of p.start p.since e e.entry p.records)
    makes =
        subst (Each (MakesTold p.start.stage e.number)) (records_are p.start p.since p.records e)
        (records_told p.start.stage (look p.start p.since p.records) e.number e.entry (own_home p.start.stage m e.number l known.origins))

known_with : (flat : List ℕ → Conf) (p : Point) (m : ℕ) (e : Numbered) (entry : Entry) → m < e.number → HasDistinct flat entry → Known m p → Known e.number (point_with flat p e entry)
known_with flat p m e (Config now text) l distinct known = record {
  distinct = distinct;
  origins = origins_next p.start.stage (flat text) m e.number now p.records known.distinct distinct known.told (omega arith);
  told = told_next p.start.stage (flat text) m e.number now p.records known.distinct distinct known.told (omega arith);
}
known_with flat p m e (Value now item time value) l distinct known = plain_known p m e l known
known_with flat p m e (Tick now) l distinct known = plain_known p m e l known

known_at : (flat : List ℕ → Conf) (start : Start) (log : List Numbered) → FitsWhole flat start log → Known (last_number start log) (point flat start log)
known_at flat start [] fits = record { distinct = fits.distinct; origins = fits.origins; told = fits.told }
known_at flat start (e ∷ log) fits = known_with flat (point flat start log) (last_number start log) e e.entry fits.1 fits.2 (known_at flat start log fits.0)

pub stays_told : StaysTold
stays_told flat start log fits = (known_at flat start log fits).told

-- behind a Config the cells are what the search finds on the new start
config_cells : (conf : Conf) (p : Point) (m n now : ℕ) → AreDistinct conf → Known m p
    → carried p.start.stage conf now (look p.start p.since p.records) ≡ look (next_start p.start p.since conf n now p.records) [] (next_start p.start p.since conf n now p.records).records
unfolding look marks_of
config_cells conf p m n now distinct known = fun_ext cell
  where
    cell : (k : Key) → carried p.start.stage conf now (look p.start p.since p.records) k ≡ look (next_start p.start p.since conf n now p.records) [] (next_start p.start p.since conf n now p.records).records k
    cell (ItemKey id) = refl
    cell (TriggerKey id) = sym (carried_opens p.start.stage conf m n now p.records known.distinct distinct known.told id)
    cell TickKey = refl

pub any_entry : AnyEntry
unfolding look
any_entry flat start log e fits = (made e.entry, cells e.entry fits.2)
  where
    p : Point
    p = point flat start log

    made : (entry : Entry) → step_records flat p.start.stage (cells_at p) e entry ≡ out_at flat p e entry
    made (Config now text) = refl
    made (Value now item time value) = records_are p.start p.since p.records e
    made (Tick now) = records_are p.start p.since p.records e

    cells : (entry : Entry) → HasDistinct flat entry → step_cells flat p.start.stage (cells_at p) e entry ≡ cells_at (point_with flat p e entry)
    cells (Config now text) distinct = config_cells (flat text) p (last_number start log) e.number now distinct (known_at flat start log fits.0)
    cells (Value now item time value) distinct = after_is p.start p.since p.records e
    cells (Tick now) distinct = after_is p.start p.since p.records e

pub all_told : AllTold
all_told flat start [] = sym (append-nil start.records)
all_told flat start (e ∷ log) = with_one e.entry ∙ ap (λ rs. rs ++ out_at flat p e e.entry) (all_told flat start log) ∙ append_assoc start.records (whole_replay flat start log) (out_at flat p e e.entry)
  where
    p : Point
    p = point flat start log

    with_one : (entry : Entry) → (point_with flat p e entry).records ≡ p.records ++ out_at flat p e entry
    with_one (Config now text) = refl
    with_one (Value now item time value) = refl
    with_one (Tick now) = refl

pub fresh_fits : FreshFits
fresh_fits conf distinct = record { distinct = distinct; origins = tt; told = λ id. tt }
