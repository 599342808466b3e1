-- Rings into which Ticks go.
use Rattle.std.proofs.Common.{◌≡◌, ◌≤◌, ◌+◌, ◌++◌, ◌∷◌, [], ℕ, List, length, map, refl, sym, ap, ap₂, subst, ◌∙◌, arith, length-append}
use Rattle.std.proofs.lemmas.List.{reverse-append, map-append}
use Rattle.zbx_types.specs.Entries.{moment_of}
use Rattle.zbx_types.specs.Ids.{ids_from}
use Rattle.zbx_types.specs.declared.conf.Conf.{Conf}
use Rattle.zbx_types.specs.declared.entries.Numbered.{Numbered}
use Rattle.zbx_types.specs.declared.entries.Entry.TheVariants.{Config, Tick}
use Rattle.entry_laws.specs.InForce.{IsPlain, behind_all}
use Rattle.entry_step.specs.Log.{log_of, last_moment, IsFitting, Suits}
use Rattle.entry_step.specs.Start.{Start}
use Rattle.entry_step.proofs.Members.{each_append}
use Rattle.book.specs.Entries.{IsWholeLog}
use Rattle.book_examples.specs.Ticks.{HasTicks}

-- the numbers of entries with one more
numbers_more : (k : ℕ) (xs : List Numbered) (x : Numbered) → map (λ (e : Numbered). e.number) xs ≡ ids_from k xs → x.number ≡ k + length xs → map (λ (e : Numbered). e.number) (xs ++ x ∷ []) ≡ ids_from k (xs ++ x ∷ [])
numbers_more k [] x off at = let q : x.number ≡ k = omega arith in rw q refl
numbers_more k (y ∷ xs) x off at =
    let a : y.number ≡ k = cc in
    let t : map (λ (e : Numbered). e.number) xs ≡ ids_from (k + 1) xs = cc in
    let r = numbers_more (k + 1) xs x t (omega arith) in
    rw (a, r) refl

-- one more Tick goes in
pub more_ticks : (start : Start) (sent : List Numbered) (next : ℕ) (e : Numbered) → e ≡ record { number = next; entry = Tick 0 } → HasTicks start sent next → HasTicks start (sent ++ e ∷ []) (next + 1)
more_ticks start sent next e is has =
    let n = has.next_is in
    let m = has.moment in
    let number : e.number ≡ next = ap (λ (x : Numbered). x.number) is in
    let long = length-append sent (e ∷ []) in
    record {
      whole = record {
        numbers = numbers_more (start.number + 1) sent e has.whole.numbers (omega arith);
        suits = subst (Suits start) (sym next_log) (subst (λ (x : Numbered). Suits start (x ∷ log_of sent)) (sym is) (has.whole.suits, (omega arith), tt));
        plain = each_append IsPlain sent (e ∷ []) has.whole.plain (subst IsPlain (sym is) refl, tt);
      };
      next_is = omega arith;
      moment = ap (last_moment start) next_log ∙ ap (λ (x : Numbered). moment_of x.entry) is;
    }
  where
    next_log : log_of (sent ++ e ∷ []) ≡ e ∷ log_of sent
    next_log = reverse-append sent (e ∷ [])

-- nothing went in yet, behind a configuration
pub no_ticks : (flat : List ℕ → Conf) (from start : Start) (kept sent : List Numbered) → start ≡ behind_all flat from (log_of kept) → kept ≡ record { number = 1; entry = Config 0 [] } ∷ [] → sent ≡ [] → HasTicks start sent 2
no_ticks flat from start kept sent first are none =
    let is : start ≡ behind_all flat from (record { number = 1; entry = Config 0 [] } ∷ []) = first ∙ ap (λ (k : List Numbered). behind_all flat from (log_of k)) are in
    let number : start.number ≡ 1 = ap (λ (s : Start). s.number) is in
    let moment : start.moment ≡ 0 = ap (λ (s : Start). s.moment) is in
    subst (λ s. HasTicks start s 2) (sym none) (record { whole = record { numbers = refl; suits = tt; plain = tt }; next_is = omega arith; moment = moment })
