-- What each of the two writes of a group leaves, whole or torn.
use Rattle.std.proofs.Common.{◌≡◌, inl, inr, ℕ, ◌+◌, ◌-◌, ◌<◌, ◌≤◌, min, List, [], ◌∷◌, ◌++◌, length, get_or, take, drop, replicate, sym, ◌∙◌, ap, subst, arith, append_assoc, length-append, take-append-drop}
use Rattle.std.proofs.lemmas.List.{take_at, drop_at, drop_more, take_more, take-append-le, length-take}
use Rattle.outside.specs.Disk.{DiskTells, overwritten, Torn, Follows, Only}
use Rattle.gated_file.specs.Around.{IsAround}

-- a write within the bytes leaves what is before it and what is behind it
pub overwritten_inside : (b : List ℕ) (at : ℕ) (piece : List ℕ) → at ≤ length b → overwritten b at piece ≡ take at b ++ (piece ++ drop (at + length piece) b)
unfolding overwritten
overwritten_inside b at piece inside =
    ap (λ (l : List ℕ). l ++ piece ++ drop (at + length piece) b) (take-append-le at b (replicate (at - length b) 0) inside)
    ∙ append_assoc (take at b) piece (drop (at + length piece) b)

module _ (b : List ℕ) (gate : ℕ) (block : List ℕ) (inside : gate < length b) where
  front_length : length (take gate b) ≡ gate
  front_length = omega (arith, length-take gate b, inside)

  -- the gate stays in each outcome of the first write
  pub torn_behind : (c : List ℕ) → Torn (gate + 1) (length block) b c → IsAround b gate block c
  torn_behind c torn =
      let less : min (gate + 1) (length b) ≡ gate + 1 = omega (arith, inside) in
      let front : take (gate + 1) c ≡ take (gate + 1) b = subst (λ (n : ℕ). take n c ≡ take n b) less torn.before in
      inl (drop (gate + 1) c, sym (take-append-drop (gate + 1) c) ∙ ap (λ (l : List ℕ). l ++ drop (gate + 1) c) front)

  -- what stands behind the block
  abbrev pub behind : List ℕ
  behind = drop (gate + 1 + length block) b

  -- the bytes with the block behind the gate
  abbrev pub staged : List ℕ
  staged = overwritten b (gate + 1) block

  pub staged_is : staged ≡ (take gate b ++ get_or b gate 0 ∷ []) ++ (block ++ behind)
  staged_is = overwritten_inside b (gate + 1) block (omega (arith, inside)) ∙ ap (λ (l : List ℕ). l ++ (block ++ behind)) (take_more b gate 0 inside)

  head_length : length (take gate b ++ get_or b gate 0 ∷ []) ≡ gate + 1
  head_length = omega (arith, front_length, length-append (take gate b) (get_or b gate 0 ∷ []))

  staged_length : gate < length staged
  staged_length = omega (arith, ap length staged_is, head_length, length-append (take gate b ++ get_or b gate 0 ∷ []) (block ++ behind))

  staged_front : take gate staged ≡ take gate b
  staged_front =
      ap (λ (l : List ℕ). take gate l) (staged_is ∙ append_assoc (take gate b) (get_or b gate 0 ∷ []) (block ++ behind))
      ∙ take_at (take gate b) (get_or b gate 0 ∷ (block ++ behind)) gate front_length

  staged_back : drop (gate + 1) staged ≡ block ++ behind
  staged_back = ap (λ (l : List ℕ). drop (gate + 1) l) staged_is ∙ drop_at (take gate b ++ get_or b gate 0 ∷ []) (block ++ behind) (gate + 1) head_length

  -- the block stands whole in each outcome of the second write
  pub torn_gate : (c : List ℕ) → Torn gate 1 staged c → IsAround b gate block c
  torn_gate c torn =
      let less : min gate (length staged) ≡ gate = omega (arith, staged_length) in
      let front : take gate c ≡ take gate b = subst (λ (n : ℕ). take n c ≡ take n staged) less torn.before ∙ staged_front in
      let byte = get_or c gate 0 in
      let back : drop gate c ≡ byte ∷ (block ++ behind) = drop_more c gate 0 (omega (arith, staged_length, torn.no_shorter)) ∙ ap (λ (l : List ℕ). byte ∷ l) (torn.after ∙ staged_back) in
      let whole : c ≡ take gate b ++ byte ∷ (block ++ behind) =
      sym (take-append-drop gate c) ∙ ap (λ (l : List ℕ). l ++ drop gate c) front ∙ ap (λ (l : List ℕ). take gate b ++ l) back in
      inr (byte, behind, whole)

  -- the bytes with the gate open before the block
  pub opened_is : overwritten staged gate (1 ∷ []) ≡ take gate b ++ 1 ∷ (block ++ behind)
  opened_is =
      overwritten_inside staged gate (1 ∷ []) (omega (arith, staged_length))
      ∙ ap (λ (l : List ℕ). l ++ 1 ∷ drop (gate + 1) staged) staged_front
      ∙ ap (λ (l : List ℕ). take gate b ++ 1 ∷ l) staged_back

  -- before the first write
  pub around : IsAround b gate block b
  around = inl (drop (gate + 1) b, sym (take-append-drop (gate + 1) b))

  pub block_crash : (old new : DiskTells) → Only b old → Follows (Torn (gate + 1) (length block)) old new → (c : List ℕ) → new.images c → IsAround b gate block c
  block_crash old new only follows c left =
      let from = follows c left in
      torn_behind c (subst (λ (f : List ℕ). Torn (gate + 1) (length block) f c) (only from.0 from.1) from.2)

  pub gate_crash : (old new : DiskTells) → Only staged old → Follows (Torn gate 1) old new → (c : List ℕ) → new.images c → IsAround b gate block c
  gate_crash old new only follows c left =
      let from = follows c left in
      torn_gate c (subst (λ (f : List ℕ). Torn gate 1 f c) (only from.0 from.1) from.2)
