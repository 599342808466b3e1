-- What sessions count.
use Rattle.std.proofs.Common.{◌≡◌, ◌<◌, ◌+◌, ℕ, Bool, List, [], ◌∷◌, ◌++◌, length, map, get_or, slice_set, All, Option, Some, None, refl, sym, ◌∙◌, ap, subst, arith, append_assoc}
use Rattle.std.specs.Prelude.{is_none}
use Rattle.std.specs.List.{sum_by}
use Rattle.std.proofs.lemmas.List.{append-nil, map-append}
use Rattle.std.proofs.lemmas.List.Elements.{All-append, All-nil, All-cons, All-head, All-tail}
use Rattle.std.proofs.lemmas.List.Sums.{sum_by-cons, sum_by-append}
use Rattle.outside.specs.Spawning.{SpawnerTells}
use Rattle.outside.specs.declared.spawner.Run.{Run}
use Rattle.alert_queue.specs.Queues.{Queued}
use Rattle.alert_queue.specs.declared.types.NoteMark.{NoteMark}
use Rattle.alert_marks.specs.declared.types.AddError.{AddError}
use Rattle.alert_sessions.specs.declared.orders.Orders.{Orders}
use Rattle.alert_sessions.specs.Runs.{IsRunOf, Ran, RisenBy, AddsRuns, fails, succeeds, count_bad, count_good, Counts, EachAdds, faults_of, CountTogether}
use Rattle.alert_sessions.specs.Calls.{IsCallAtEnd}
use Rattle.alert_sessions.specs.Worked.{CameTo}

-- one run
one_bad : (run : Run) → count_bad (run ∷ []) ≡ fails run.ok
one_bad run = omega (arith, sum_by-cons (λ (r : Run). fails r.ok) run [])

one_good : (run : Run) → count_good (run ∷ []) ≡ succeeds run.ok
one_good run = omega (arith, sum_by-cons (λ (r : Run). succeeds r.ok) run [])

pub ran_counts : (orders : Orders) (f f' s s' : ℕ) (before now : SpawnerTells) (ok : Bool) → Ran orders before now ok → f' ≡ f + fails ok → s' ≡ s + succeeds ok → Counts orders f f' s s' before now
ran_counts orders f f' s s' before now ok ran f_is s_is =
    let bad : count_bad (ran.run ∷ []) ≡ fails ok = one_bad ran.run ∙ ap fails ran.is in
    let good : count_good (ran.run ∷ []) ≡ succeeds ok = one_good ran.run ∙ ap succeeds ran.is in
    record {
      runs = ran.run ∷ [];
      each = All-cons (IsRunOf orders) ran.run [] ran.one (All-nil (IsRunOf orders));
      told = ran.told;
      risen = subst (λ (n : ℕ). RisenBy n before.faults now.faults) (sym bad) ran.risen;
      bad = f_is ∙ ap (λ (n : ℕ). f + n) (sym bad);
      good = s_is ∙ ap (λ (n : ℕ). s + n) (sym good);
    }

-- nothing was run
told_none : (runs : Option (List Run)) → AddsRuns runs runs []
told_none None = tt
told_none (Some runs) = (runs, refl, sym (append-nil runs))

pub counts_none : (orders : Orders) (f s : ℕ) (spawner : SpawnerTells) → Counts orders f f s s spawner spawner
counts_none orders f s spawner = record { runs = []; each = All-nil (IsRunOf orders); told = told_none spawner.runs; risen = omega arith; bad = omega arith; good = omega arith }

pub counts_same : (orders : Orders) (f s : ℕ) (before now : SpawnerTells) → now ≡ before → Counts orders f f s s before now
counts_same orders f s before now is = subst (λ (t : SpawnerTells). Counts orders f f s s before t) (sym is) (counts_none orders f s before)

-- one after another
told_on : (a b c : Option (List Run)) (xs ys : List Run) → AddsRuns a b xs → AddsRuns b c ys → AddsRuns a c (xs ++ ys)
told_on a b None xs ys one two = tt
told_on a b (Some now) xs ys one two =
    let mid : AddsRuns a (Some two.0) xs = subst (λ (o : Option (List Run)). AddsRuns a o xs) two.1 one in
    (mid.0, mid.1, two.2 ∙ ap (λ (rs : List Run). rs ++ ys) mid.2 ∙ append_assoc mid.0 xs ys)

pub counts_on : (orders : Orders) (f f' f'' s s' s'' : ℕ) (before mid now : SpawnerTells) → Counts orders f f' s s' before mid → Counts orders f' f'' s' s'' mid now → Counts orders f f'' s s'' before now
counts_on orders f f' f'' s s' s'' before mid now one two =
    let bad = sum_by-append (λ (r : Run). fails r.ok) one.runs two.runs in
    let good = sum_by-append (λ (r : Run). succeeds r.ok) one.runs two.runs in
    record {
      runs = one.runs ++ two.runs;
      each = All-append (IsRunOf orders) one.runs two.runs one.each two.each;
      told = told_on before.runs mid.runs now.runs one.runs two.runs one.told two.told;
      risen = omega (arith, bad, one.risen, two.risen);
      bad = omega (arith, bad, one.bad, two.bad);
      good = omega (arith, good, one.good, two.good);
    }

-- one session alone
together_one : (orders : Orders) (f f' s s' : ℕ) (before now : SpawnerTells) → Counts orders f f' s s' before now → CountTogether orders f f' s s' (before ∷ []) (now ∷ [])
together_one orders f f' s s' before now one =
    let bad = sum_by-cons count_bad one.runs [] in
    let good = sum_by-cons count_good one.runs [] in
    let then = sum_by-cons (λ (t : SpawnerTells). t.faults) before [] in
    let later = sum_by-cons (λ (t : SpawnerTells). t.faults) now [] in
    record {
      runs = one.runs ∷ [];
      each = All-cons (All (IsRunOf orders)) one.runs [] one.each (All-nil (All (IsRunOf orders)));
      told = (one.told, tt);
      risen = omega (arith, bad, then, later, one.risen);
      bad = omega (arith, bad, one.bad);
      good = omega (arith, good, one.good);
    }

-- one session, with the one hand of a list
pub together_lone : {H : Type 0} (tells : H → SpawnerTells) (orders : Orders) (f f' s s' : ℕ) (hs : List H) (h h' : H) → length hs ≡ 1
    → Counts orders f f' s s' (tells (get_or hs 0 h)) (tells h') → CountTogether orders f f' s s' (map tells hs) (map tells (slice_set hs 0 h'))
together_lone tells orders f f' s s' [] h h' one counts = absurd (omega arith)
together_lone tells orders f f' s s' (g ∷ []) h h' one counts = together_one orders f f' s s' (tells g) (tells h') counts
together_lone tells orders f f' s s' (g ∷ (k ∷ hs)) h h' one counts = absurd (omega arith)

each_append : (xs xs' : List SpawnerTells) (rs : List (List Run)) (ys ys' : List SpawnerTells) (qs : List (List Run)) → EachAdds xs xs' rs → EachAdds ys ys' qs → EachAdds (xs ++ ys) (xs' ++ ys') (rs ++ qs)
each_append [] [] [] ys ys' qs one two = two
each_append [] [] (r ∷ rs) ys ys' qs one two = absurd one
each_append [] (x' ∷ xs') rs ys ys' qs one two = absurd one
each_append (x ∷ xs) [] rs ys ys' qs one two = absurd one
each_append (x ∷ xs) (x' ∷ xs') [] ys ys' qs one two = absurd one
each_append (x ∷ xs) (x' ∷ xs') (r ∷ rs) ys ys' qs one two = (one.0, each_append xs xs' rs ys ys' qs one.1 two)

-- some beside others, whose counts are merged
together_append : (orders : Orders) (f f' s s' g g' t t' a a' b b' : ℕ) (xs ys xs' ys' : List SpawnerTells) → CountTogether orders f f' s s' xs xs' → CountTogether orders g g' t t' ys ys'
    → a ≡ f + g → a' ≡ f' + g' → b ≡ s + t → b' ≡ s' + t' → CountTogether orders a a' b b' (xs ++ ys) (xs' ++ ys')
together_append orders f f' s s' g g' t t' a a' b b' xs ys xs' ys' one two a_is a'_is b_is b'_is =
    let bad = sum_by-append count_bad one.runs two.runs in
    let good = sum_by-append count_good one.runs two.runs in
    let then = sum_by-append (λ (t : SpawnerTells). t.faults) xs ys in
    let later = sum_by-append (λ (t : SpawnerTells). t.faults) xs' ys' in
    record {
      runs = one.runs ++ two.runs;
      each = All-append (All (IsRunOf orders)) one.runs two.runs one.each two.each;
      told = each_append xs xs' one.runs ys ys' two.runs one.told two.told;
      risen = omega (arith, bad, then, later, one.risen, two.risen);
      bad = omega (arith, bad, one.bad, two.bad, a_is, a'_is);
      good = omega (arith, good, one.good, two.good, b_is, b'_is);
    }

-- two halves of the hands
pub together_halves : {H : Type 0} (tells : H → SpawnerTells) (orders : Orders) (f f' s s' g g' t t' a a' b b' : ℕ) (all front back front' back' : List H)
    → all ≡ front ++ back → CountTogether orders f f' s s' (map tells front) (map tells front') → CountTogether orders g g' t t' (map tells back) (map tells back')
    → a ≡ f + g → a' ≡ f' + g' → b ≡ s + t → b' ≡ s' + t' → CountTogether orders a a' b b' (map tells all) (map tells (front' ++ back'))
together_halves {H} tells orders f f' s s' g g' t t' a a' b b' all front back front' back' whole one two a_is a'_is b_is b'_is =
    let both = together_append orders f f' s s' g g' t t' a a' b b' (map tells front) (map tells back) (map tells front') (map tells back') one two a_is a'_is b_is b'_is in
    subst (λ (hs : List H). CountTogether orders a a' b b' (map tells hs) (map tells (front' ++ back'))) (sym whole)
    (subst (λ (xs : List SpawnerTells). CountTogether orders a a' b b' xs (map tells (front' ++ back'))) (sym (map-append tells front back))
    (subst (λ (xs : List SpawnerTells). CountTogether orders a a' b b' (map tells front ++ map tells back) xs) (sym (map-append tells front' back')) both))

-- the first hand goes on
module _ (orders : Orders) (f f' f'' s s' s'' : ℕ) (old now : SpawnerTells) (one : Counts orders f' f'' s' s'' old now) where
  first_more : (xs ys : List SpawnerTells) (rs : List (List Run)) → All (All (IsRunOf orders)) rs → EachAdds xs (old ∷ ys) rs → RisenBy (sum_by count_bad rs) (faults_of xs) (faults_of (old ∷ ys))
      → f' ≡ f + sum_by count_bad rs → s' ≡ s + sum_by count_good rs → CountTogether orders f f'' s s'' xs (now ∷ ys)
  first_more [] ys rs each told risen bad good = absurd told
  first_more (x ∷ xs) ys [] each told risen bad good = absurd told
  first_more (x ∷ xs) ys (r ∷ rs) each told risen bad good =
      let bad_then = sum_by-cons count_bad r rs in
      let bad_now = sum_by-cons count_bad (r ++ one.runs) rs in
      let bad_more = sum_by-append (λ (q : Run). fails q.ok) r one.runs in
      let good_then = sum_by-cons count_good r rs in
      let good_now = sum_by-cons count_good (r ++ one.runs) rs in
      let good_more = sum_by-append (λ (q : Run). succeeds q.ok) r one.runs in
      let then = sum_by-cons (λ (t : SpawnerTells). t.faults) old ys in
      let later = sum_by-cons (λ (t : SpawnerTells). t.faults) now ys in
      record {
        runs = (r ++ one.runs) ∷ rs;
        each = All-cons (All (IsRunOf orders)) (r ++ one.runs) rs (All-append (IsRunOf orders) r one.runs (All-head (All (IsRunOf orders)) r rs each) one.each) (All-tail (All (IsRunOf orders)) r rs each);
        told = (told_on x.runs old.runs now.runs r one.runs told.0 one.told, told.1);
        risen = omega (arith, bad_then, bad_now, bad_more, then, later, risen, one.risen);
        bad = omega (arith, bad_then, bad_now, bad_more, bad, one.bad);
        good = omega (arith, good_then, good_now, good_more, good, one.good);
      }

pub together_on : {H : Type 0} (tells : H → SpawnerTells) (orders : Orders) (f f' f'' s s' s'' : ℕ) (xs : List SpawnerTells) (hs : List H) (h h' : H) → 0 < length hs
    → CountTogether orders f f' s s' xs (map tells hs) → Counts orders f' f'' s' s'' (tells (get_or hs 0 h)) (tells h') → CountTogether orders f f'' s s'' xs (map tells (slice_set hs 0 h'))
together_on tells orders f f' f'' s s' s'' xs [] h h' some all one = absurd (omega arith)
together_on tells orders f f' f'' s s' s'' xs (g ∷ hs) h h' some all one =
    first_more orders f f' f'' s s' s'' (tells g) (tells h') one xs (map tells hs) all.runs all.each all.told all.risen all.bad all.good

-- what several have counted is what the call has
pub worked : (orders : Orders) (start : Queued) (kept list : List NoteMark) (f0 s0 f s : ℕ) (stopped : Option AddError) (xs xs' : List SpawnerTells)
    → IsCallAtEnd start kept list f s (is_none stopped) → CountTogether orders f0 f s0 s xs xs' → f0 ≡ 0 → s0 ≡ 0 → CameTo orders start kept list stopped xs xs'
worked orders start kept list f0 s0 f s stopped xs xs' call counted f_is s_is = record {
  made = call.made;
  list_is = call.list_is;
  order = call.order;
  marked = λ all. call.marked (ap is_none all);
  runs = counted.runs;
  each = counted.each;
  told = counted.told;
  risen = counted.risen;
  failed = omega (arith, call.failed, counted.bad, f_is);
  done = omega (arith, call.done, counted.good, s_is);
}
