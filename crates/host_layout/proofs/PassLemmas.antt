-- Lists that are gone through in pieces.
use Rattle.std.proofs.Common.{◌≡◌, ℕ, ◌+◌, ◌<◌, List, [], ◌∷◌, ◌++◌, refl, ap, sym, ◌∙◌, length, get_or, drop, map, flat_map}
use Rattle.std.specs.Prelude.{Result, Ok, Err}
use Rattle.config_read.specs.declared.raw.RawHost.{RawHost}
use Rattle.host_layout.specs.declared.templates.sources.Source.{Source}
use Rattle.host_layout.specs.Sources.{placed_of}
use Rattle.host_layout.specs.declared.fault.FlatError.{FlatError}
use Rattle.host_layout.specs.declared.fault.FlatError.TheVariants.{Refused, OutOfMemory}
use Rattle.host_layout.specs.Places.{Flaw, ◌>>=◌, each, each_list, Placed, placed_from}
use Rattle.host_layout.specs.Answers.{Fails}
use Rattle.config_read.specs.declared.raw.RawConf.{RawConf}
use Rattle.host_layout.specs.Links.{sources_of}
use Rattle.host_layout.specs.Macros.{macros_of}
use Rattle.host_layout.specs.OwnedItems.{owned_by, host_items, adding}
use Rattle.host_layout.specs.Owners.{owner_now, sources_now}
use Rattle.host_layout.specs.Hosts.{Owner, owner_of}
use Rattle.host_layout.specs.declared.owners.Owner.{Owner as Held}
use Rattle.host_layout.proofs.Steps.{on_ok, on_err, from_drop}
use Rattle.host_layout.proofs.PlacedElements.{placed_at}

module _ {A S : Type 0} (visit : S → A → Result S Flaw) where
  -- behind elements that were gone through, the others follow
  pub all_then : (before : S) (xs ys : List A) (after : S) → each_list visit before xs ≡ Ok after → each_list visit before (xs ++ ys) ≡ each_list visit after ys
  all_then before [] ys after h = let e : before ≡ after = cc in ap (λ b. each_list visit b ys) e
  all_then before (x ∷ xs) ys after h =
      on_ok (visit before x) (λ b. each_list visit b xs) (λ b. each_list visit b (xs ++ ys)) after (each_list visit after ys) h (λ b e. all_then b xs ys after e)

  err_stays : (before : S) (xs ys : List A) (e : Flaw) → each_list visit before xs ≡ Err e → each_list visit before (xs ++ ys) ≡ Err e
  err_stays before [] ys e h = absurd cc
  err_stays before (x ∷ xs) ys e h =
      on_err (visit before x) (λ b. each_list visit b xs) (λ b. each_list visit b (xs ++ ys)) e h (λ b f. err_stays b xs ys e f)

  -- where one is refused, the whole list is
  pub all_fails : (before : S) (xs ys : List A) (e : FlatError) → Fails e (each_list visit before xs) → Fails e (each_list visit before (xs ++ ys))
  all_fails before xs ys OutOfMemory h = tt
  all_fails before xs ys (Refused path cause) h = err_stays before xs ys _ h

module _ {A S : Type 0} (visit : S → A → Result S Flaw) (own : Placed RawHost → List A) where
  -- behind what the source at this place has, what the others have follows
  pub source_then : (sources : List Source) (i : ℕ) (s : Source) (before after : S) → i < length sources → s ≡ get_or sources i s → each_list visit before (own (placed_of s)) ≡ Ok after
      → each_list visit after (flat_map own (map placed_of (drop (i + 1) sources))) ≡ each_list visit before (flat_map own (map placed_of (drop i sources)))
  source_then sources i s before after h e o = rw (from_drop sources i s h e) (sym (all_then visit before (own (placed_of s)) (flat_map own (map placed_of (drop (i + 1) sources))) after o))

  pub source_fails : (sources : List Source) (i : ℕ) (s : Source) (before : S) (e : FlatError) → i < length sources → s ≡ get_or sources i s → Fails e (each_list visit before (own (placed_of s)))
      → Fails e (each_list visit before (flat_map own (map placed_of (drop i sources))))
  source_fails sources i s before e h g f = rw (from_drop sources i s h g) (all_fails visit before (own (placed_of s)) (flat_map own (map placed_of (drop (i + 1) sources))) e f)

module _ {A S X : Type 0} (visit : S → A → Result S Flaw) (own : Placed X → List A) where
  -- the same of the element at this place
  pub element_then : (path : List ℕ) (xs : List X) (i : ℕ) (x : X) (before after : S) → i < length xs → x ≡ get_or xs i x → each_list visit before (own (placed_at path i x)) ≡ Ok after
      → each_list visit after (flat_map own (placed_from path (i + 1) (drop (i + 1) xs))) ≡ each_list visit before (flat_map own (placed_from path i (drop i xs)))
  element_then path xs i x before after l e o = rw (from_drop xs i x l e) (sym (all_then visit before (own (placed_at path i x)) (flat_map own (placed_from path (i + 1) (drop (i + 1) xs))) after o))

  pub element_fails : (path : List ℕ) (xs : List X) (i : ℕ) (x : X) (before : S) (e : FlatError) → i < length xs → x ≡ get_or xs i x → Fails e (each_list visit before (own (placed_at path i x)))
      → Fails e (each_list visit before (flat_map own (placed_from path i (drop i xs))))
  element_fails path xs i x before e l g f = rw (from_drop xs i x l g) (all_fails visit before (own (placed_at path i x)) (flat_map own (placed_from path (i + 1) (drop (i + 1) xs))) e f)

-- the items of a host, as its owner has them
pub owned_host : (raw : RawConf) (p : Placed RawHost) (o : Held) → owner_now o ≡ owner_of raw p → o.macros ≡ macros_of raw (sources_now o) → host_items raw p ≡ owned_by o.id o.macros (sources_now o)
owned_host raw p o e m =
    let i : o.id ≡ p.place + 1 = ap (λ (w : Owner). w.id) e in
    let s : sources_now o ≡ sources_of raw p = ap (λ (w : Owner). w.sources) e in
    rw (i, m, s) refl

bind_fails : {B C : Type 0} (r : Result B Flaw) (k : B → Result C Flaw) (e : FlatError) → Fails e r → Fails e (r >>= k)
bind_fails r k OutOfMemory h = tt
bind_fails r k (Refused path cause) h = ap (λ x. x >>= k) h

-- where the element at this place can't be made, no list from it on can
pub one_fails : {X B : Type 0} (make : List B → Placed X → Result B Flaw) (path : List ℕ) (xs : List X) (i : ℕ) (x : X) (before : List B) (e : FlatError) → i < length xs → x ≡ get_or xs i x
    → Fails e (make before (placed_at path i x)) → Fails e (each make before (placed_from path i (drop i xs)))
one_fails make path xs i x before e l g f =
    rw (from_drop xs i x l g) (bind_fails (make before (placed_at path i x)) (λ b. each make (before ++ b ∷ []) (placed_from path (i + 1) (drop (i + 1) xs))) e f)

pub added_fails : {X B : Type 0} (make : Placed X → Result B Flaw) (path : List ℕ) (xs : List X) (i : ℕ) (x : X) (before : List B) (e : FlatError) → i < length xs → x ≡ get_or xs i x
    → Fails e (make (placed_at path i x)) → Fails e (each_list (adding make) before (placed_from path i (drop i xs)))
added_fails make path xs i x before e l g f =
    rw (from_drop xs i x l g)
    (bind_fails (make (placed_at path i x) >>= λ b. Ok (before ++ b ∷ [])) (λ more. each_list (adding make) more (placed_from path (i + 1) (drop (i + 1) xs))) e (bind_fails (make (placed_at path i x)) (λ b. Ok (before ++ b ∷ [])) e f))
