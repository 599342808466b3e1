-- A tournament's root is its least number, and a change is carried up.
use Rattle.std.proofs.Common.{◌≡◌, ◌≢◌, ◌≤◌, ◌<◌, ◌+◌, ◌-◌, ◌*◌, ◌/◌, ◌%◌, ℕ, zero, suc, min, List, length, drop, slice_index, slice_set, get_or, refl, sym, ◌∙◌, ap, subst, inl, inr, arith, get_or-set_same, get_or-set_other, length-set}
use Rattle.std.proofs.lemmas.Bool.{cases_lt}
use Rattle.std.proofs.Math.Nat.{min-le_left, min-le_right}
use Rattle.alert_queue.specs.Tree.{IsTree, IsTreeBut}

-- the first is no more than each
pub root_least : (size : ℕ) (nodes : List ℕ) → IsTree size nodes → (fuel k : ℕ) → k ≤ fuel → 1 ≤ k → k < 2 * size → slice_index nodes 1 ≤ slice_index nodes k
root_least size nodes tree zero k le low high = absurd (omega arith)
root_least size nodes tree (suc fuel) k le low high = elim (cases_lt k 2) [
  | inl one ↦ let is : k ≡ 1 = omega arith in subst (λ (n : ℕ). slice_index nodes 1 ≤ slice_index nodes n) (sym is) (omega arith)
  | inr more ↦
      let h = k / 2 in
      let above : slice_index nodes 1 ≤ slice_index nodes h = root_least size nodes tree fuel h (omega arith) (omega arith) (omega arith) in
      let e = tree.lesser h (omega arith) (omega arith) in
      elim (cases_lt (k % 2) 1) [
        | inl even ↦
            let is : 2 * h ≡ k = omega arith in
            subst (λ (n : ℕ). slice_index nodes 1 ≤ slice_index nodes n) is (omega (arith, above, e, min-le_left (slice_index nodes (2 * h)) (slice_index nodes (2 * h + 1))))
        | inr odd ↦
            let is : 2 * h + 1 ≡ k = omega arith in
            subst (λ (n : ℕ). slice_index nodes 1 ≤ slice_index nodes n) is (omega (arith, above, e, min-le_right (slice_index nodes (2 * h)) (slice_index nodes (2 * h + 1))))
      ]
]

-- a key was changed
pub changed : (size : ℕ) (nodes : List ℕ) (place key : ℕ) → IsTree size nodes → place < size → IsTreeBut size (size + place) (slice_set nodes (size + place) key)
changed size nodes place key tree inside =
    let at = size + place in
    record {
      length_is = length-set nodes at key ∙ tree.length_is;
      some = tree.some;
      small = tree.small;
      low = omega (arith, tree.some);
      high = omega arith;
      lesser = λ k low high left right.
          let here : k ≢ at = omega arith in
          let first : 2 * k ≢ at = λ e. left (sym e) in
          let second : 2 * k + 1 ≢ at = λ e. right (sym e) in
          get_or-set_other nodes at k key 0 here ∙ tree.lesser k low high
          ∙ sym (ap (λ (n : ℕ). min n (get_or (slice_set nodes at key) (2 * k + 1) 0)) (get_or-set_other nodes at (2 * k) key 0 first)
          ∙ ap (λ (n : ℕ). min (slice_index nodes (2 * k)) n) (get_or-set_other nodes at (2 * k + 1) key 0 second));
    }

-- the change is carried up by one
pub raised : (size : ℕ) (nodes : List ℕ) (at : ℕ) → IsTreeBut size at nodes → 1 < at
    → IsTreeBut size (at / 2) (slice_set nodes (at / 2) (min (slice_index nodes (2 * (at / 2))) (slice_index nodes (2 * (at / 2) + 1))))
raised size nodes at tree more =
    let up = at / 2 in
    let key = min (slice_index nodes (2 * up)) (slice_index nodes (2 * up + 1)) in
    let new = slice_set nodes up key in
    let inside : up < length nodes = omega (arith, tree.length_is, tree.high) in
    let first : 2 * up ≢ up = omega arith in
    let second : 2 * up + 1 ≢ up = omega arith in
    record {
      length_is = length-set nodes up key ∙ tree.length_is;
      some = tree.some;
      small = tree.small;
      low = omega arith;
      high = omega (arith, tree.high);
      lesser = λ k low high left right.
          let other_left : 2 * k ≢ up = λ e. left (sym e) in
          let other_right : 2 * k + 1 ≢ up = λ e. right (sym e) in
          let below : min (slice_index new (2 * k)) (slice_index new (2 * k + 1)) ≡ min (slice_index nodes (2 * k)) (slice_index nodes (2 * k + 1)) =
          ap (λ (n : ℕ). min n (get_or new (2 * k + 1) 0)) (get_or-set_other nodes up (2 * k) key 0 other_left)
          ∙ ap (λ (n : ℕ). min (slice_index nodes (2 * k)) n) (get_or-set_other nodes up (2 * k + 1) key 0 other_right) in
          elim (cases_lt k up) [
            | inl less ↦
                let here : k ≢ up = omega arith in
                get_or-set_other nodes up k key 0 here ∙ tree.lesser k low high (omega arith) (omega arith) ∙ sym below
            | inr not_less ↦ elim (cases_lt up k) [
              | inl greater ↦
                  let here : k ≢ up = omega arith in
                  get_or-set_other nodes up k key 0 here ∙ tree.lesser k low high (omega arith) (omega arith) ∙ sym below
              | inr not_greater ↦
                  let is : k ≡ up = omega arith in
                  subst (λ (n : ℕ). slice_index new n ≡ min (slice_index nodes (2 * n)) (slice_index nodes (2 * n + 1))) (sym is) (get_or-set_same nodes up key 0 inside) ∙ sym below
            ]
          ];
    }

-- at the root all is in order
pub whole : (size : ℕ) (nodes : List ℕ) (at : ℕ) → IsTreeBut size at nodes → at ≤ 1 → IsTree size nodes
whole size nodes at tree le = record {
  length_is = tree.length_is;
  some = tree.some;
  small = tree.small;
  lesser = λ k low high. tree.lesser k low high (omega arith) (omega arith);
}
