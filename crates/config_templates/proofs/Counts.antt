-- As many are made as there are.
use Rattle.std.proofs.Common.{◌≡◌, ℕ, ◌+◌, List, [], ◌∷◌, ◌++◌, length, ap, arith, length-append, flat_map, Result, Ok, Err, refl}
use Rattle.zbx_types.specs.declared.triggers.Trigger.{Trigger}
use Rattle.config_read.specs.declared.raw.RawTrigger.{RawTrigger}
use Rattle.config_read.specs.declared.raw.RawHost.{RawHost}
use Rattle.config_read.specs.declared.raw.RawConf.{RawConf}
use Rattle.host_layout.specs.Places.{Flaw, Placed, each, each_list, ◌>>=◌}
use Rattle.host_layout.specs.Links.{sources_of, placed_hosts}
use Rattle.config_templates.specs.Triggers.{placed_triggers}
use Rattle.config_templates.specs.Depends.{Depending, depending_of, dependings_from, dependings_of, written_triggers}

module _ {A B : Type 0} (make : List B → A → Result B Flaw) where
  one_more : (before : List B) (xs : List A) (after : List B) (r : Result B Flaw)
      → ((b : B) → each make (before ++ b ∷ []) xs ≡ Ok after → length after ≡ length (before ++ b ∷ []) + length xs)
      → (r >>= λ b. each make (before ++ b ∷ []) xs) ≡ Ok after → length after ≡ length before + (length xs + 1)
  one_more before xs after (Ok b) rest h = omega (arith, rest b h, length-append before (b ∷ []))
  one_more before xs after (Err e) rest h = absurd cc

  -- one for each
  pub each-length : (before : List B) (xs : List A) (after : List B) → each make before xs ≡ Ok after → length after ≡ length before + length xs
  each-length before [] after h = let e : before ≡ after = cc in omega (arith, ap length e)
  each-length before (x ∷ xs) after h =
      omega (arith, one_more before xs after (make before x) (λ b k. each-length (before ++ b ∷ []) xs after k) h)

module _ {H A S : Type 0} (size : S → ℕ) (own : H → List A) (make : S → H → Result S Flaw) (step : (before : S) (h : H) (after : S) → make before h ≡ Ok after → size after ≡ size before + length (own h)) where
  list_more : (before : S) (h : H) (hs : List H) (after : S) (r : Result S Flaw) → ((behind : S) → r ≡ Ok behind → size behind ≡ size before + length (own h))
      → ((behind : S) → each_list make behind hs ≡ Ok after → size after ≡ size behind + length (flat_map own hs))
      → (r >>= λ behind. each_list make behind hs) ≡ Ok after → size after ≡ size before + length (own h ++ flat_map own hs)
  list_more before h hs after (Ok behind) one rest e =
      omega (arith, one behind refl, rest behind e, length-append (own h) (flat_map own hs))
  list_more before h hs after (Err f) one rest e = absurd cc

  -- one for each of several lists
  pub each_list-length : (before : S) (hs : List H) (after : S) → each_list make before hs ≡ Ok after → size after ≡ size before + length (flat_map own hs)
  each_list-length before [] after e = let same : before ≡ after = cc in omega (arith, ap size same)
  each_list-length before (h ∷ hs) after e =
      list_more before h hs after (make before h) (λ behind k. step before h behind k) (λ behind k. each_list-length behind hs after k) e

from_host : (raw : RawConf) (triggers : List Trigger) (own : ℕ) (sources : List (Placed RawHost)) (before after : List Depending) → dependings_from raw triggers own sources before ≡ Ok after
    → length after ≡ length before + length (placed_triggers sources)
unfolding dependings_from
from_host raw triggers own sources before after h = each-length (depending_of raw.hosts triggers own) before (placed_triggers sources) after h

-- one for each trigger that is written
pub as_many : (raw : RawConf) (triggers : List Trigger) (made : List Depending) → dependings_of raw triggers ≡ Ok made → length made ≡ length (written_triggers raw)
unfolding dependings_of
as_many raw triggers made h =
    omega (
      arith,
      each_list-length length (λ h. placed_triggers (sources_of raw h)) (λ before h. dependings_from raw triggers (h.place + 1) (sources_of raw h) before)
          (λ before h after e. from_host raw triggers (h.place + 1) (sources_of raw h) before after e) [] (placed_hosts raw) made h,
    )
