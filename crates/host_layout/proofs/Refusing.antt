-- The refusal of one item.
use Rattle.std.proofs.Common.{◌≡◌, ℕ, zero, suc, ◌+◌, List, [], ◌∷◌, refl, ap, sym, ◌∙◌, arith}
use Rattle.std.specs.Prelude.{Option, Some, None, Result, Ok, Err, option_map, slice_get}
use Rattle.json_form.specs.Faults.{Fault}
use Rattle.zbx_types.specs.Ids.{at_id}
use Rattle.zbx_types.specs.declared.items.Item.{Item}
use Rattle.zbx_types.specs.declared.causes.Cause.{Cause}
use Rattle.config_read.specs.declared.raw.RawConf.{RawConf}
use Rattle.host_layout.specs.declared.fault.FlatError.{FlatError}
use Rattle.host_layout.specs.declared.fault.FlatError.TheVariants.{Refused, OutOfMemory}
use Rattle.host_layout.specs.Answers.{Fails}
use Rattle.host_layout.specs.Places.{Flaw, each_list, unless, ◌>>=◌}
use Rattle.host_layout.specs.OwnedItems.{OwnedItem, owned_items}
use Rattle.host_layout.specs.Masters.{master_path, master_fault}
use Rattle.host_layout.specs.Counting.{refusing}
use Rattle.host_layout.proofs.Fellows.{at_place}

-- what is wrong at an item's master
abbrev fault_of : Cause → OwnedItem → Fault
fault_of cause o = record { path = master_path o; cause = cause }

found : (cause : Cause) (n : ℕ) (os : List OwnedItem) (items : List Item) → unless items (option_map (fault_of cause) (slice_get os n)) ≡ (each_list (refusing cause) n os >>= λ left. Ok items)
found cause n [] items = refl
found cause zero (o ∷ os) items = refl
found cause (suc n) (o ∷ os) items = found cause n os items

same : (raw : RawConf) (cause : Cause) (n : ℕ) (items : List Item) → unless items (master_fault raw cause (n + 1)) ≡ (each_list (refusing cause) n (owned_items raw) >>= λ left. Ok items)
same raw cause n items = ap (λ o. unless items (option_map (fault_of cause) o)) (at_place (owned_items raw) n) ∙ found cause n (owned_items raw) items

-- no item stands there
pub none_there : (raw : RawConf) (cause : Cause) (n left : ℕ) (items : List Item) → each_list (refusing cause) n (owned_items raw) ≡ Ok left → unless items (master_fault raw cause (n + 1)) ≡ Ok items
none_there raw cause n left items h = same raw cause n items ∙ ap (λ r. r >>= λ (l : ℕ). Ok items) h

failing : (items : List Item) (r : Result ℕ Flaw) (e : FlatError) → Fails e r → Fails e (r >>= λ left. Ok items)
failing items r OutOfMemory h = tt
failing items r (Refused path cause) h = ap (λ x. x >>= λ (l : ℕ). Ok items) h

-- the item that stands there is refused
pub refused_there : (raw : RawConf) (cause : Cause) (n : ℕ) (items : List Item) (e : FlatError) → Fails e (each_list (refusing cause) n (owned_items raw)) → Fails e (unless items (master_fault raw cause (n + 1)))
refused_there raw cause n items e h = rw (same raw cause n items) (failing items (each_list (refusing cause) n (owned_items raw)) e h)

-- no item has the id 0
pub no_id : (raw : RawConf) (cause : Cause) (id : ℕ) (items : List Item) → id ≡ 0 → unless items (master_fault raw cause id) ≡ Ok items
unfolding at_id
no_id raw cause id items e = rw e refl
