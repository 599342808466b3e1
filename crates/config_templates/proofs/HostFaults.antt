-- The first fault of names, list by list.
use Rattle.std.proofs.Common.{◌≡◌, ℕ, ◌+◌, ◌<◌, ◌≤◌, List, [], ◌∷◌, ◌++◌, length, drop, get_or, flat_map, Option, Some, None, refl, ap, sym, ◌∙◌, subst}
use Rattle.std.specs.Prelude.{codes}
use Rattle.std.specs.Fmt.{decimal}
use Rattle.std.specs.Option.{option_or}
use Rattle.std.proofs.lemmas.List.{drop_all}
use Rattle.zbx_types.specs.declared.causes.Cause.{Cause}
use Rattle.json_form.specs.Faults.{Fault}
use Rattle.config_read.specs.declared.raw.RawConf.{RawConf}
use Rattle.host_layout.specs.Places.{Placed, placed, placed_from, fault_or, first_fault}
use Rattle.host_layout.specs.Answers.{Tells}
use Rattle.config_templates.specs.NamedHosts.{unknown_host, all_maintained, all_acted, unknown_hosts}
use Rattle.host_layout.specs.declared.fault.FlatError.{FlatError}
use Rattle.host_layout.proofs.PlacedElements.{placed_at, placed_from-more}
use Rattle.host_layout.proofs.FirstFaults.{first_fault-append, tells_front}

module _ {A : Type 0} (check : A → Option Cause) (path : List ℕ) (xs : List A) where
  -- the fault of the elements from a place on
  abbrev pub rest_fault : ℕ → Option Fault
  rest_fault at = first_fault check (placed_from path at (drop at xs))

  rest_fault-more : (at : ℕ) (x : A) → at < length xs → x ≡ get_or xs at x → rest_fault at ≡ fault_or (check x) (path ++ codes "/" ++ decimal at) (rest_fault (at + 1))
  rest_fault-more at x within is =
      ap (first_fault check) (placed_from-more path xs at x within)
      ∙ ap (λ y. fault_or (check y) (path ++ codes "/" ++ decimal at) (rest_fault (at + 1))) (sym is)

  -- an element without a fault is passed
  pub element_passed : (at : ℕ) (x : A) (whole : Option Fault) → at < length xs → x ≡ get_or xs at x → check x ≡ None → rest_fault at ≡ whole → rest_fault (at + 1) ≡ whole
  element_passed at x whole within is none rest =
      sym (rest_fault-more at x within is ∙ ap (λ c. fault_or c (path ++ codes "/" ++ decimal at) (rest_fault (at + 1))) none) ∙ rest

  -- the first element with a fault tells it
  pub element_told : (at : ℕ) (x : A) (cause : Cause) (whole : Option Fault) (e : FlatError) → at < length xs → x ≡ get_or xs at x → check x ≡ Some cause → rest_fault at ≡ whole
      → Tells e (Some (record { path = path ++ codes "/" ++ decimal at; cause = cause })) → Tells e whole
  element_told at x cause whole e within is some rest told =
      subst (Tells e) (sym (rest_fault-more at x within is ∙ ap (λ c. fault_or c (path ++ codes "/" ++ decimal at) (rest_fault (at + 1))) some) ∙ rest) told

  pub elements_done : (at : ℕ) (whole : Option Fault) → length xs ≤ at → rest_fault at ≡ whole → whole ≡ None
  elements_done at whole all rest = sym rest ∙ ap (λ ys. first_fault check (placed_from path at ys)) (drop_all at xs all)

module _ {A B : Type 0} (check : B → Option Cause) (own : Placed A → List (Placed B)) (path : List ℕ) (xs : List A) where
  -- the fault of what the elements from a place on have
  abbrev pub rest_faults : ℕ → Option Fault
  rest_faults at = first_fault check (flat_map own (placed_from path at (drop at xs)))

  rest_faults-more : (at : ℕ) (x : A) → at < length xs → x ≡ get_or xs at x → rest_faults at ≡ option_or (first_fault check (own (placed_at path at x))) (rest_faults (at + 1))
  rest_faults-more at x within is =
      ap (λ ps. first_fault check (flat_map own ps)) (placed_from-more path xs at x within)
      ∙ first_fault-append check (own (placed_at path at (get_or xs at x))) (flat_map own (placed_from path (at + 1) (drop (at + 1) xs)))
      ∙ ap (λ y. option_or (first_fault check (own (placed_at path at y))) (rest_faults (at + 1))) (sym is)

  -- an element whose own are without a fault is passed
  pub list_passed : (at : ℕ) (x : A) (whole : Option Fault) → at < length xs → x ≡ get_or xs at x → first_fault check (own (placed_at path at x)) ≡ None → rest_faults at ≡ whole → rest_faults (at + 1) ≡ whole
  list_passed at x whole within is none rest =
      sym (rest_faults-more at x within is ∙ ap (λ f. option_or f (rest_faults (at + 1))) none) ∙ rest

  -- the first element of whose own one has a fault tells it
  pub list_told : (at : ℕ) (x : A) (whole : Option Fault) (e : FlatError) → at < length xs → x ≡ get_or xs at x → Tells e (first_fault check (own (placed_at path at x))) → rest_faults at ≡ whole → Tells e whole
  list_told at x whole e within is told rest =
      subst (Tells e) (sym (rest_faults-more at x within is) ∙ rest)
      (tells_front e (first_fault check (own (placed_at path at x))) (rest_faults (at + 1)) told)

  pub lists_done : (at : ℕ) (whole : Option Fault) → length xs ≤ at → rest_faults at ≡ whole → whole ≡ None
  lists_done at whole all rest = sym rest ∙ ap (λ ys. first_fault check (flat_map own (placed_from path at ys))) (drop_all at xs all)

-- maintenances come first
hosts_apart : (raw : RawConf) → unknown_hosts raw ≡ option_or (first_fault (unknown_host raw.hosts) (all_maintained raw)) (first_fault (unknown_host raw.hosts) (all_acted raw))
unfolding unknown_hosts
hosts_apart raw = first_fault-append (unknown_host raw.hosts) (all_maintained raw) (all_acted raw)

pub hosts_known : (raw : RawConf) → first_fault (unknown_host raw.hosts) (all_maintained raw) ≡ None → first_fault (unknown_host raw.hosts) (all_acted raw) ≡ None → unknown_hosts raw ≡ None
hosts_known raw maintained acted =
    hosts_apart raw ∙ ap (λ f. option_or f (first_fault (unknown_host raw.hosts) (all_acted raw))) maintained ∙ acted

pub maintained_told : (raw : RawConf) (e : FlatError) → Tells e (first_fault (unknown_host raw.hosts) (all_maintained raw)) → Tells e (unknown_hosts raw)
maintained_told raw e told =
    subst (Tells e) (sym (hosts_apart raw))
    (tells_front e (first_fault (unknown_host raw.hosts) (all_maintained raw)) (first_fault (unknown_host raw.hosts) (all_acted raw)) told)

pub acted_told : (raw : RawConf) (e : FlatError) → first_fault (unknown_host raw.hosts) (all_maintained raw) ≡ None → Tells e (first_fault (unknown_host raw.hosts) (all_acted raw)) → Tells e (unknown_hosts raw)
acted_told raw e maintained told =
    subst (Tells e)
    (sym (hosts_apart raw ∙ ap (λ f. option_or f (first_fault (unknown_host raw.hosts) (all_acted raw))) maintained)) told
