-- The triggers that the reach of each rule holds, and whether some rule reaches a trigger.
use Rattle.std.proofs.Common.{◌≡◌, ℕ, zero, suc, ◌+◌, ◌<◌, ◌==◌, Bool, true, false, cond, List, [], ◌∷◌, map, Option, Some, None, slice_get, get_or, refl, sym, ◌∙◌, ap, eq-eqb, ne_eqb, arith}
use Rattle.zbx_types.specs.Ids.{at_id}
use Rattle.zbx_types.specs.Masters.{has_id}
use Rattle.zbx_types.specs.Reach.{in_reach}
use Rattle.zbx_types.specs.declared.conf.Conf.{Conf}
use Rattle.zbx_types.specs.declared.rules.Rule.{Rule}
use Rattle.zbx_types.specs.declared.triggers.Trigger.{Trigger}
use Rattle.footprint.specs.Feet.{reach_by, is_reached}
use Rattle.conf_index.specs.Index.{listed, reach_from, some_reaches}
use Rattle.zbx_types.proofs.RowLemmas.{at_zero, at_suc}
use Rattle.std.specs.Option.{unwrap_or}

reach_low : (rule : Rule) (k x : ℕ) (ts : List Trigger) → x < k → has_id (reach_from rule k ts) x ≡ false
reach_low rule k x [] h = refl
reach_low rule k x (t ∷ ts) h = head (in_reach rule t) (reach_low rule (k + 1) x ts (omega arith))
  where
    head : (b : Bool) → has_id (reach_from rule (k + 1) ts) x ≡ false → has_id (cond b (k ∷ reach_from rule (k + 1) ts) (reach_from rule (k + 1) ts)) x ≡ false
    head true e = let n : (k == x) ≡ false = ne_eqb k x (λ z. absurd (omega arith)) in rw n e
    head false e = e

reach_at : (rule : Rule) (k r : ℕ) (ts : List Trigger) → has_id (reach_from rule k ts) (k + r) ≡ reach_by (Some rule) (slice_get ts r)
reach_at rule k r [] = refl
reach_at rule k zero (t ∷ ts) = go (in_reach rule t) (reach_low rule (k + 1) (k + 0) ts (omega arith))
  where
    go : (b : Bool) → has_id (reach_from rule (k + 1) ts) (k + 0) ≡ false → has_id (cond b (k ∷ reach_from rule (k + 1) ts) (reach_from rule (k + 1) ts)) (k + 0) ≡ b
    go true e = let n : (k == (k + 0)) ≡ true = eq-eqb k (k + 0) (omega arith) in rw n refl
    go false e = e
reach_at rule k (suc r) (t ∷ ts) = go (in_reach rule t) (reach_at rule (k + 1) r ts)
  where
    up : k + 1 + r ≡ k + suc r
    up = omega arith

    go : (b : Bool) → has_id (reach_from rule (k + 1) ts) (k + 1 + r) ≡ reach_by (Some rule) (slice_get ts r) → has_id (cond b (k ∷ reach_from rule (k + 1) ts) (reach_from rule (k + 1) ts)) (k + suc r) ≡ reach_by (Some rule) (slice_get ts r)
    go true e = let n : (k == (k + suc r)) ≡ false = ne_eqb k (k + suc r) (λ z. absurd (omega arith)) in rw n (ap (λ x. has_id (reach_from rule (k + 1) ts) x) (sym up) ∙ e)
    go false e = ap (λ x. has_id (reach_from rule (k + 1) ts) x) (sym up) ∙ e

reach_zero : (o : Option Rule) → reach_by o None ≡ false
reach_zero None = refl
reach_zero (Some rule) = refl

one_rule : (rule : Rule) (ts : List Trigger) (x : ℕ) → has_id (reach_from rule 1 ts) x ≡ reach_by (Some rule) (at_id ts x)
one_rule rule ts zero = reach_low rule 1 0 ts (omega arith) ∙ ap (reach_by (Some rule)) (sym (at_zero ts))
one_rule rule ts (suc r) = ap (λ x. has_id (reach_from rule 1 ts) x) (let z : suc r ≡ 1 + r = omega arith in z) ∙ reach_at rule 1 r ts ∙ ap (reach_by (Some rule)) (sym (at_suc ts r))

row_of : (conf : Conf) (rules : List Rule) (k x : ℕ) → has_id (get_or (map (λ rule. reach_from rule 1 conf.triggers) rules) k []) x ≡ reach_by (slice_get rules k) (at_id conf.triggers x)
row_of conf [] k x = refl
row_of conf (rule ∷ rules) zero x = one_rule rule conf.triggers x
row_of conf (rule ∷ rules) (suc k) x = row_of conf rules k x

listed_has : (conf : Conf) (rule x : ℕ) → has_id (listed ([] ∷ map (λ rule. reach_from rule 1 conf.triggers) conf.correlations) rule) x ≡ is_reached conf rule x
listed_has conf zero x = ap (λ o. reach_by o (at_id conf.triggers x)) (sym (at_zero conf.correlations))
listed_has conf (suc k) x = row_of conf conf.correlations k x ∙ ap (λ o. reach_by o (at_id conf.triggers x)) (sym (at_suc conf.correlations k))

pub reach_has : (conf : Conf) (rows : List (List ℕ)) (row : List ℕ) (rule id : ℕ) → rows ≡ [] ∷ map (λ rule. reach_from rule 1 conf.triggers) conf.correlations → row ≡ listed rows rule → has_id row id ≡ is_reached conf rule id
reach_has conf rows row rule id e q = ap (λ xs. has_id xs id) (q ∙ ap (λ rs. listed rs rule) e) ∙ listed_has conf rule id

-- whether some rule reaches a trigger, by its place
pub reached_is : (conf inside : Conf) (reached : List Bool) (id : ℕ) (one : Trigger) (found : Option Bool) → inside ≡ conf → reached ≡ map (some_reaches inside.correlations) inside.triggers → at_id reached id ≡ found → at_id conf.triggers id ≡ Some one
    → unwrap_or found false ≡ some_reaches conf.correlations one
reached_is conf inside reached zero one found c r f there = let z : None ≡ Some one = sym (at_zero conf.triggers) ∙ there in absurd (cc)
reached_is conf inside reached (suc k) one found c r f there =
    ap (λ o. unwrap_or o false) (sym f ∙ ap (λ bs. at_id bs (suc k)) (r ∙ ap (λ x. map (some_reaches x.correlations) x.triggers) c) ∙ at_suc (map (some_reaches conf.correlations) conf.triggers) k ∙ at conf.triggers k (sym (at_suc conf.triggers k) ∙ there))
  where
    at : (ts : List Trigger) (k : ℕ) → slice_get ts k ≡ Some one → slice_get (map (some_reaches conf.correlations) ts) k ≡ Some (some_reaches conf.correlations one)
    at [] k e = cc
    at (t ∷ ts) zero e = let q : t ≡ one = cc in ap (λ x. Some (some_reaches conf.correlations x)) q
    at (t ∷ ts) (suc k) e = at ts k e
