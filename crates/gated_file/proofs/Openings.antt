-- What becomes of a file that is opened.
use Rattle.std.proofs.Common.{◌≡◌, inl, inr, ⊎_elim, ℕ, zero, suc, ◌+◌, ◌<◌, ◌≤◌, Bool, true, false, List, [], ◌∷◌, ◌++◌, length, take, drop, refl, sym, ◌∙◌, ap, arith, true≢false}
use Rattle.std.specs.Prelude.{nat_le, ◌==◌, ◌&&◌, ◌||◌}
use Rattle.std.specs.List.{list_all, zip}
use Rattle.std.proofs.lemmas.Bool.{eqb-true, le-leb}
use Rattle.std.proofs.lemmas.Bool.Decides.{nat_tests}
use Rattle.std.proofs.lemmas.List.{drop_all, length-take-le}
use Rattle.outside.specs.Disk.{DiskTells, overwritten, Torn, Follows, Only, LeavesOnly}
use Rattle.gated_file.specs.Opened.{begins, is_ours, made_ready, IsAsOneOf}
use Rattle.gated_file.proofs.Torn.{overwritten_inside}

-- one run of calls and then another
pub and_then : (old mid new : DiskTells) (P Q : List ℕ → Type 0) → LeavesOnly old mid P → LeavesOnly mid new Q → ((c : List ℕ) → Q c → P c) → LeavesOnly old new P
and_then old mid new P Q first second goes = record {
  later = omega (arith, first.later, second.later);
  each = λ c left. ⊎_elim (first.each c) (goes c) (second.before old.moment c first.later left);
  before = λ t c le left. ⊎_elim (first.before t c le) (λ now. inr (goes c now)) (second.before t c (omega (arith, le, first.later)) left);
}

-- a run of calls that leaves less
pub leaves_less : (old new : DiskTells) (P Q : List ℕ → Type 0) → ((c : List ℕ) → P c → Q c) → LeavesOnly old new P → LeavesOnly old new Q
leaves_less old new P Q goes moments = record {
  later = moments.later;
  each = λ c left. goes c (moments.each c left);
  before = λ t c le left. ⊎_elim (λ was. inl was) (λ now. inr (goes c now)) (moments.before t c le left);
}

-- a short file stays short in each outcome of a write of its first nine bytes
pub stays_short : (b fresh : List ℕ) (old new : DiskTells) → length fresh ≡ 9 → length b ≤ 9 → Only b old → Follows (Torn 0 (length fresh)) old new → (c : List ℕ) → new.images c → length c ≤ 9
stays_short b fresh old new nine short only follows c left =
    let from = follows c left in
    omega (arith, nine, from.2.no_longer, ap length (only from.0 from.1), short)

-- short files stand for each other
pub short_as : (disk : DiskTells) (b : List ℕ) → disk.images b → length b ≤ 9 → (c : List ℕ) → length c ≤ 9 → IsAsOneOf disk c
short_as disk b image short c less = (b, image, inr (less, short))

-- a short file made anew
pub anew_is : (b fresh : List ℕ) → length fresh ≡ 9 → length b ≤ 9 → overwritten b 0 fresh ≡ made_ready fresh b
anew_is b fresh nine short =
    let test : nat_le (length b) 9 ≡ true = le-leb _ _ short in
    let rest : drop (0 + length fresh) b ≡ [] = drop_all (0 + length fresh) b (omega (arith, nine, short)) in
    overwritten_inside b 0 fresh (omega arith)
    ∙ ap (λ (l : List ℕ). fresh ++ l) rest
    ∙ append_nil fresh
    ∙ rw test refl
  where
    append_nil : (l : List ℕ) → l ++ [] ≡ l
    append_nil [] = refl
    append_nil (x ∷ l) = ap (λ (r : List ℕ). x ∷ r) (append_nil l)

pub short_ours : (b fresh : List ℕ) → length b ≤ 9 → true ≡ is_ours fresh b
short_ours b fresh short = let test : nat_le (length b) 9 ≡ true = le-leb _ _ short in rw test refl

pub long_ours : (b fresh : List ℕ) → 9 < length b → begins (take 8 fresh) b ≡ is_ours fresh b
long_ours b fresh long = let test : nat_le (length b) 9 ≡ false = grind (arith, nat_tests) in rw test refl

pub long_ready : (b fresh : List ℕ) → 9 < length b → b ≡ made_ready fresh b
long_ready b fresh long = let test : nat_le (length b) 9 ≡ false = grind (arith, nat_tests) in rw test refl

-- as many bytes of a file as are compared say the same
pub begins_front : (first file : List ℕ) (n : ℕ) → length first ≤ n → begins first (take n file) ≡ begins first file
begins_front [] file n le = refl
begins_front (x ∷ first) [] zero le = refl
begins_front (x ∷ first) [] (suc n) le = refl
begins_front (x ∷ first) (y ∷ file) zero le = absurd (omega arith)
begins_front (x ∷ first) (y ∷ file) (suc n) le = ap (λ (b : Bool). (x == y) && b) (begins_front first file n (omega arith))

and_left : (a b : Bool) → (a && b) ≡ true → a ≡ true
and_left true b e = refl
and_left false b e = e

and_right : (a b : Bool) → (a && b) ≡ true → b ≡ true
and_right true b e = e
and_right false b e = absurd (true≢false (sym e))

-- bytes that pass the test against others begin with these
pub front_same : (xs ys : List ℕ) → length xs ≤ length ys → begins xs ys ≡ true → take (length xs) ys ≡ xs
front_same [] ys le test = refl
front_same (x ∷ xs) [] le test = absurd (omega arith)
front_same (x ∷ xs) (y ∷ ys) le test =
    let head : x ≡ y = eqb-true x y (and_left (x == y) (begins xs ys) test) in
    let tail = front_same xs ys (omega arith) (and_right (x == y) (begins xs ys) test) in
    (λ i. sym head i ∷ tail i)
