-- As many triggers are found as are written.
use Rattle.std.proofs.Common.{◌≡◌, ℕ, suc, ◌+◌, Bool, true, false, List, [], ◌∷◌, ◌++◌, length, refl, ap, arith, length-append, flat_map, if◌then◌else◌, codes, Result, Ok, Err}
use Rattle.std.specs.Prelude.{nat_le}
use Rattle.zbx_types.specs.declared.causes.Cause.TheVariants.{Duplicate, TooMany}
use Rattle.zbx_types.specs.declared.items.Item.{Item}
use Rattle.zbx_types.specs.declared.triggers.Trigger.{Trigger}
use Rattle.macro_text.specs.declared.macros.Macro.{Macro}
use Rattle.config_read.specs.declared.raw.RawConf.{RawConf}
use Rattle.config_read.specs.declared.raw.RawTrigger.{RawTrigger}
use Rattle.config_templates.specs.Expressions.{Meant, expressions_of}
use Rattle.host_layout.specs.Links.{sources_of, placed_hosts}
use Rattle.host_layout.specs.Macros.{macros_of}
use Rattle.host_layout.specs.Places.{Flaw, Placed, refuse, each_list, ◌>>=◌}
use Rattle.host_layout.specs.Patterns.{Pattern}
use Rattle.host_layout.specs.Hosts.{Owner, owner_of}
use Rattle.config_templates.specs.Titles.{title_of, tags_of}
use Rattle.config_templates.specs.Triggers.{has_trigger, most_triggers, trigger_made, users_of, found_with, trigger_of, placed_triggers, triggers_from, triggers_of}
use Rattle.config_templates.specs.Uses.{trigger_joined}
use Rattle.config_templates.specs.Depends.{written_triggers}
use Rattle.config_templates.specs.declared.triggers.Found.{Found}
use Rattle.config_templates.proofs.Counts.{each_list-length}

abbrev size : Found → ℕ
size f = length f.triggers

with_patterns : (found : Found) (t : Trigger) (r : Result (List Pattern) Flaw) (after : Found) → (r >>= λ patterns. Ok (record { triggers = found.triggers ++ t ∷ []; patterns = patterns })) ≡ Ok after
    → size after ≡ size found + 1
with_patterns found t (Ok ps) after h =
    let e : record { triggers = found.triggers ++ t ∷ []; patterns = ps } ≡ after = cc in omega (arith, ap size e, length-append found.triggers (t ∷ []))
with_patterns found t (Err f) after h = absurd cc

with_meant : (host : ℕ) (macros : List Macro) (found : Found) (p : Placed RawTrigger) (r : Result Meant Flaw) (after : Found) → (r >>= found_with host macros found p) ≡ Ok after → size after ≡ size found + 1
with_meant host macros found p (Ok m) after h =
    with_patterns found (trigger_made host (title_of macros p.body) (tags_of macros p.body) p.body m) (trigger_joined found.patterns p.path (users_of (title_of macros p.body) (tags_of macros p.body) m)) after h
with_meant host macros found p (Err f) after h = absurd cc

unless_refused : (taken full : Bool) (path : List ℕ) (at : List ℕ) (found : Found) (r : Result Found Flaw) (after : Found) → (r ≡ Ok after → size after ≡ size found + 1)
    → (if taken then refuse path Duplicate else if full then refuse at TooMany else r) ≡ Ok after → size after ≡ size found + 1
unless_refused true full path at found r after k h = absurd cc
unless_refused false true path at found r after k h = absurd cc
unless_refused false false path at found r after k h = k h

module _ (raw : RawConf) (items : List Item) where
  one_found : (owner : Owner) (macros : List Macro) (found : Found) (p : Placed RawTrigger) (after : Found) → trigger_of raw items owner macros found p ≡ Ok after → size after ≡ size found + 1
  unfolding trigger_of
  one_found owner macros found p after h =
      unless_refused (has_trigger found.triggers owner.id p.body.name) (nat_le most_triggers (length found.triggers)) (p.path ++ codes "/name") p.path found
      (expressions_of raw items owner macros p >>= found_with owner.id macros found p) after (λ k. with_meant owner.id macros found p (expressions_of raw items owner macros p) after k) h

  singles : {A : Type 0} (xs : List A) → length (flat_map (λ x. x ∷ []) xs) ≡ length xs
  singles [] = refl
  singles (x ∷ xs) = ap suc (singles xs)

  from_owner : (owner : Owner) (before after : Found) → triggers_from raw items owner before ≡ Ok after → size after ≡ size before + length (placed_triggers owner.sources)
  unfolding triggers_from
  from_owner owner before after h =
      omega (
        arith,
        singles (placed_triggers owner.sources),
        each_list-length size (λ p. p ∷ []) (trigger_of raw items owner (macros_of raw owner.sources)) (λ found p made e. one_found owner (macros_of raw owner.sources) found p made e) before (placed_triggers owner.sources) after h,
      )

  -- one for each that is written
  pub as_many_triggers : (patterns : List Pattern) (found : Found) → triggers_of raw items patterns ≡ Ok found → length found.triggers ≡ length (written_triggers raw)
  unfolding triggers_of
  as_many_triggers patterns found h =
      omega (
        arith,
        each_list-length size (λ h. placed_triggers (sources_of raw h)) (λ f h. triggers_from raw items (owner_of raw h) f) (λ before h after e. from_owner (owner_of raw h) before after e)
            (record { triggers = []; patterns = patterns }) (placed_hosts raw) found h,
      )
