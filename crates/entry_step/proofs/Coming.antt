-- What is kept of the items, and what comes into it.
use Rattle.std.proofs.Common.{◌≡◌, ◌≢◌, ◌≤◌, ℕ, suc, true, false, List, [], ◌∷◌, length, map, slice_get, Option, Some, None, IfSome, is_some, refl, sym, ◌∙◌, ap, subst, option_map, arith}
use Rattle.std.specs.Option.{unwrap_or}
use Rattle.zbx_types.specs.Ids.{at_id}
use Rattle.zbx_types.specs.declared.conf.Conf.{Conf}
use Rattle.zbx_types.specs.declared.items.Item.{Item}
use Rattle.zbx_types.specs.declared.entries.Stored.{Stored}
use Rattle.prep_steps.specs.declared.memory.StepMemory.{StepMemory}
use Rattle.value_cache.specs.Cells.{CellView, IsCellOf, trim}
use Rattle.value_cache.specs.Histories.{placed, IsOrdered}
use Rattle.value_cache.specs.Keeps.{keep_of}
use Rattle.value_cache.proofs.Orders.{ordered_placed}
use Rattle.value_cache.proofs.Pruning.{gains, ordered_trim}
use Rattle.preprocess.specs.Chains.{listed}
use Rattle.preprocess.specs.Draft.{Kept, kept_of, kept_with, kept_after, marks_after, visit_at}
use Rattle.preprocess.specs.Cells.{Becomes}
use Rattle.preprocess.specs.Laws.{HoldLog}
use Rattle.preprocess.specs.declared.cells.Cells.{Cells as ItemCells}
use Rattle.preprocess.specs.declared.visit.Visit.{Visit}
use Rattle.preprocess.proofs.Logs.{at_map}
use Rattle.entry_step.specs.History.{with_stored}
use Rattle.preprocess.specs.Draft.{roomless}
use Rattle.entry_step.specs.Kept.{Keeps, Sees, CameIn}
use Rattle.zbx_types.proofs.RowLemmas.{at_suc}

-- two lists whose ids have something at the same places are of one length
pub same_length : {A B : Type 0} (xs : List A) (ys : List B) → ((id : ℕ) → is_some (at_id xs id) ≡ is_some (at_id ys id)) → length xs ≡ length ys
same_length {A} {B} xs ys h = go xs ys (λ k. sym (ap is_some (at_suc xs k)) ∙ h (suc k) ∙ ap is_some (at_suc ys k))
  where
    go : (us : List A) (vs : List B) → ((k : ℕ) → is_some (slice_get us k) ≡ is_some (slice_get vs k)) → length us ≡ length vs
    go [] [] e = refl
    go [] (b ∷ vs) e = let z : false ≡ true = e 0 in cc
    go (a ∷ us) [] e = let z : true ≡ false = e 0 in cc
    go (a ∷ us) (b ∷ vs) e = ap suc (go us vs (λ k. e (suc k)))

pub some_map : {A B : Type 0} (f : A → B) (o : Option A) → is_some (option_map f o) ≡ is_some o
some_map f None = refl
some_map f (Some a) = refl

-- ---- cells as what they keep alone

pub kept_roomless : (cells : List CellView) → map kept_of (map roomless cells) ≡ map kept_of cells
kept_roomless [] = refl
kept_roomless (cell ∷ cells) = ap (λ xs. kept_of cell ∷ xs) (kept_roomless cells)

-- two cells that keep the same stand for the same
pub stands_same : (one other : CellView) (seen : ℕ) (history : List Stored) → kept_of other ≡ kept_of one → IsCellOf one seen history → IsCellOf other seen history
stands_same one other seen history e stands = record {
  ordered = stands.ordered;
  kept = λ now m. ap (λ (k : Kept). trim k.keep now k.values) e ∙ stands.kept now m ∙ sym (ap (λ (k : Kept). trim k.keep now history) e);
}

pub keeps_same : (conf : Conf) (id seen : ℕ) (history : List Stored) (one other : CellView) → kept_of other ≡ kept_of one → Keeps conf id seen history (Some one) → Keeps conf id seen history (Some other)
keeps_same conf id seen history one other e k = (ap (λ (x : Kept). x.keep) e ∙ k.0, stands_same one other seen history e k.1)

pub sees_roomless : (conf : Conf) (id : ℕ) (cells : List CellView) (stored : Option Stored) (now : ℕ) (history : List Stored) → Sees conf id (at_id (map roomless cells) id) stored now history → Sees conf id (at_id cells id) stored now history
sees_roomless conf id cells stored now history sees = go (at_id cells id) (subst (λ o. Sees conf id o stored now history) (at_map roomless cells id) sees)
  where
    go : (o : Option CellView) → Sees conf id (option_map roomless o) stored now history → Sees conf id o stored now history
    go None s = s
    go (Some cell) s = record { seen = s.seen; before = s.before; by = s.by; keeps = keeps_same conf id s.seen s.before (roomless cell) cell refl s.keeps; is = s.is }

-- ---- what comes into them

-- what is kept of an item, with a value that came in at this moment, if one did
abbrev pub Became : Option CellView → Option Stored → ℕ → Option CellView → Type 0
Became None s now None = Unit {0}
Became (Some cell) s now (Some next) = kept_of next ≡ kept_with now s (kept_of cell)
Became None s now (Some next) = ⊥
Became (Some cell) s now None = ⊥

pub became : (cells next : List CellView) (now id : ℕ) (s : Option Stored) → at_id (map kept_of next) id ≡ option_map (kept_with now s) (at_id (map kept_of cells) id) → Became (at_id cells id) s now (at_id next id)
became cells next now id s e = go (at_id cells id) (at_id next id) (sym (at_map kept_of next id) ∙ e ∙ ap (option_map (kept_with now s)) (at_map kept_of cells id))
  where
    go : (o p : Option CellView) → option_map kept_of p ≡ option_map (kept_with now s) (option_map kept_of o) → Became o s now p
    go None None q = tt
    go None (Some p) q = cc
    go (Some o) None q = cc
    go (Some o) (Some p) q = cc

-- values stay in order
pub still_ordered : (o p : Option CellView) (s : Option Stored) (now : ℕ) → Became o s now p → IfSome o (λ cell. IsOrdered cell.values) → IfSome p (λ cell. IsOrdered cell.values)
still_ordered None None s now b h = tt
still_ordered None (Some p) s now b h = absurd b
still_ordered (Some o) None s now b h = absurd b
still_ordered (Some o) (Some p) None now b h = subst IsOrdered (sym (ap (λ (k : Kept). k.values) b)) h
still_ordered (Some o) (Some p) (Some s) now b h = subst IsOrdered (sym (ap (λ (k : Kept). k.values) b)) (ordered_trim o.keep now (placed s o.values) (ordered_placed s o.values h))

-- what is kept stands for a history from any later moment on
pub keeps_later : (conf : Conf) (id seen later : ℕ) (history : List Stored) (o : Option CellView) → seen ≤ later → Keeps conf id seen history o → Keeps conf id later history o
keeps_later conf id seen later history None l k = k
keeps_later conf id seen later history (Some cell) l k = (k.0, record { ordered = k.1.ordered; kept = λ now m. k.1.kept now (omega arith) })

-- and with what came in for the history with it, at a moment that isn't before the last one that was seen
pub keeps_with : (conf : Conf) (id seen later now : ℕ) (history : List Stored) (s : Option Stored) (o p : Option CellView) → seen ≤ later → (s ≢ None → (seen ≤ now) × (now ≤ later)) → (o ≡ None → s ≡ None)
    → IfSome o (λ cell. IsOrdered cell.values) → Became o s now p → Keeps conf id seen history o → Keeps conf id later (with_stored s history) p
keeps_with conf id seen later now history None None None l m none ordered b k = k
keeps_with conf id seen later now history (Some s) None None l m none ordered b k = let z : Some s ≡ None = none refl in cc
keeps_with conf id seen later now history s None (Some p) l m none ordered b k = absurd b
keeps_with conf id seen later now history s (Some o) None l m none ordered b k = absurd b
keeps_with conf id seen later now history None (Some o) (Some p) l m none ordered b k = keeps_later conf id seen later history (Some p) l (keeps_same conf id seen history o p b k)
keeps_with conf id seen later now history (Some s) (Some o) (Some p) l m none ordered b k =
    let keep : p.keep ≡ o.keep = ap (λ (x : Kept). x.keep) b in
    let moments = m (λ q. cc) in
    keeps_later conf id now later (placed s history) (Some p) moments.1 (keep ∙ k.0, gains o p s now ordered keep (ap (λ (x : Kept). x.values) b) seen history moments.0 k.1)

-- ---- what is kept of items without values

pub empty_keeps : (conf : Conf) (made : ItemCells) → HoldLog conf [] made → (id : ℕ) → Keeps conf id 0 [] (at_id (map roomless made.cells.items) id)
unfolding Rattle.preprocess.specs.Laws.inserts_behind
empty_keeps conf made holds id = subst (Keeps conf id 0 []) (sym (at_map roomless made.cells.items id)) (go (at_id made.cells.items id) (at_id conf.items id) (sym (at_map kept_of made.cells.items id) ∙ holds.kept id))
  where
    empty : Kept
    empty = record { keep = keep_of conf id; values = [] }

    go : (o : Option CellView) (x : Option Item) → option_map kept_of o ≡ option_map (λ item. empty) x → Keeps conf id 0 [] (option_map roomless o)
    go None x e = refl
    go (Some cell) None e = cc
    go (Some cell) (Some x) e =
        let same : kept_of cell ≡ empty = cc in
        (ap (λ (k : Kept). k.keep) same, record { ordered = tt; kept = λ now m. ap (λ (k : Kept). trim k.keep now k.values) same ∙ sym (ap (λ (k : Kept). trim k.keep now []) same) })

pub empty_ordered : (conf : Conf) (made : ItemCells) → HoldLog conf [] made → (id : ℕ) → IfSome (at_id (map roomless made.cells.items) id) (λ cell. IsOrdered cell.values)
unfolding Rattle.preprocess.specs.Laws.inserts_behind
empty_ordered conf made holds id = subst (λ o. IfSome o (λ cell. IsOrdered cell.values)) (sym (at_map roomless made.cells.items id)) (go (at_id made.cells.items id) (at_id conf.items id) (sym (at_map kept_of made.cells.items id) ∙ holds.kept id))
  where
    empty : Kept
    empty = record { keep = keep_of conf id; values = [] }

    go : (o : Option CellView) (x : Option Item) → option_map kept_of o ≡ option_map (λ item. empty) x → IfSome (option_map roomless o) (λ cell. IsOrdered cell.values)
    go None x e = tt
    go (Some cell) None e = cc
    go (Some cell) (Some x) e = let same : kept_of cell ≡ empty = cc in subst IsOrdered (sym (ap (λ (k : Kept). k.values) same)) tt

pub size_roomless : (cells : List CellView) → length (map roomless cells) ≡ length cells
size_roomless [] = refl
size_roomless (cell ∷ cells) = ap suc (size_roomless cells)

-- the rows of what steps remember, with what visits leave
pub marks_listed : (rows next : List (List StepMemory)) (v : Option Visit) (id : ℕ) → (at_id rows id ≡ None → v ≡ None) → at_id next id ≡ option_map (marks_after v) (at_id rows id) → listed next id ≡ marks_after v (listed rows id)
marks_listed rows next v id none e = ap (λ o. unwrap_or o []) e ∙ go (at_id rows id) refl
  where
    go : (o : Option (List StepMemory)) → at_id rows id ≡ o → unwrap_or (option_map (marks_after v) o) [] ≡ marks_after v (unwrap_or o [])
    go None q = sym (ap (λ x. marks_after x []) (none q))
    go (Some row) q = refl

-- what comes into cells, as what they keep alone
pub came_in : (now : ℕ) (visits : List Visit) (before after : ItemCells) → Becomes now visits before after → CameIn now visits (map roomless before.cells.items) (map roomless after.cells.items) before.memories.items after.memories.items
came_in now visits before after b = record {
  cells = λ id. ap (λ rows. at_id rows id) (kept_roomless after.cells.items) ∙ b.cells id ∙ ap (λ rows. option_map (kept_after now (visit_at visits id)) (at_id rows id)) (sym (kept_roomless before.cells.items));
  marks = b.memories;
}
