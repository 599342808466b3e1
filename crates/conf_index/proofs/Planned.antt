-- The nodes of triggers, by their ids.
use Rattle.std.proofs.Common.{◌≡◌, ℕ, zero, suc, ◌-◌, ◌==◌, Bool, true, false, cond, List, [], ◌∷◌, Some, None, refl, ◌∙◌, ap, slice_get, length, map, take, get_or, ◌+◌, ◌<◌, ◌++◌, arith}
use Rattle.std.proofs.lemmas.List.{length-map}
use Rattle.zbx_types.specs.Ids.{at_id}
use Rattle.zbx_types.specs.declared.triggers.Trigger.{Trigger}
use Rattle.conf_index.proofs.Packing.{IsPacked, packed_more}
use Rattle.conf_index.specs.declared.plans.Node.{Node}

-- what a function says of a trigger, by id
pub plan_at : (plan_of : Trigger → List Node) (triggers : List Trigger) (plan : List Node) (id : ℕ) (trigger : Trigger) → plan ≡ get_or (map plan_of triggers) (id - 1) [] → at_id triggers id ≡ Some trigger → plan ≡ plan_of trigger
unfolding at_id
plan_at plan_of triggers plan id trigger is found = is ∙ go (id == 0) found
  where
    get_map : (ts : List Trigger) (k : ℕ) → slice_get ts k ≡ Some trigger → get_or (map plan_of ts) k [] ≡ plan_of trigger
    get_map [] k e = cc
    get_map (t ∷ ts) zero e = let q : t ≡ trigger = cc in ap plan_of q
    get_map (t ∷ ts) (suc k) e = get_map ts k e

    go : (b : Bool) → cond b None (slice_get triggers (id - 1)) ≡ Some trigger → get_or (map plan_of triggers) (id - 1) [] ≡ plan_of trigger
    go true e = cc
    go false e = get_map triggers (id - 1) e

-- the plans so far, with that of one more trigger
pub plan_more : (plan_of : Trigger → List Node) (triggers : List Trigger) (k : ℕ) (trigger : Trigger) (starts begun : List ℕ) (items more : List Node) → k < length triggers → trigger ≡ get_or triggers k trigger
    → begun ≡ starts ++ length items ∷ [] → more ≡ items ++ plan_of trigger
    → IsPacked starts items (take k (map plan_of triggers)) → IsPacked begun more (take (k + 1) (map plan_of triggers))
plan_more plan_of triggers k trigger starts begun items more l is b m p =
    let size : length (map plan_of triggers) ≡ length triggers = length-map triggers plan_of in
    packed_more (map plan_of triggers) k (plan_of trigger) starts begun items more (omega arith) (ap plan_of is ∙ mapped triggers k l) b m p
  where
    mapped : (ts : List Trigger) (i : ℕ) → i < length ts → plan_of (get_or ts i trigger) ≡ get_or (map plan_of ts) i (plan_of trigger)
    mapped [] i h = refl
    mapped (t ∷ ts) zero h = refl
    mapped (t ∷ ts) (suc i) h = mapped ts i (omega arith)
