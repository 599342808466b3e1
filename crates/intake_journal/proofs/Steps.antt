-- A journal that reads on.
use Rattle.std.proofs.Common.{◌≡◌, ◌≢◌, ℕ, suc, ◌+◌, ◌<◌, List, [], ◌∷◌, ◌++◌, length, take, drop, get_or, Option, Some, None, IfSome, refl, sym, ap, subst, ◌∙◌, arith, length-append, length-drop}
use Rattle.std.proofs.Math.Seq.{take-add}
use Rattle.std.proofs.lemmas.List.{take_at, drop_more, drop-drop, length-take-le, take-append-drop, get_or_default}
use Rattle.std.specs.Prelude.{⊤}
use Rattle.outside.specs.Disk.{DiskTells, AddsNothing}
use Rattle.zbx_types.specs.declared.entries.Entry.{Entry}
use Rattle.intake_journal.specs.Kept.{Damaged, Groups, group_behind, with_group, followed, kept_behind, kept_from}
use Rattle.intake_journal.specs.Found.{HasGroup, IsFound}
use Rattle.gated_file.specs.Moments.{IsAsBefore}
use Rattle.intake_journal.specs.Settled.{Journaled, IsFront, IsDurable, IsSettled}
use Rattle.intake_journal.specs.declared.format.Group.{Group}
use Rattle.intake_journal.specs.declared.reading.Found.TheVariants.{End, Damage, Next}
use Rattle.intake_journal.specs.declared.state.State.{State}
use Rattle.intake_journal.specs.declared.state.State.TheVariants.{Reading, Ready, Broken}
use Rattle.gated_file.proofs.Moments.{if_some, told_of}
use Rattle.intake_journal.proofs.Behind.{group_there, group_same}
use Rattle.intake_journal.proofs.Fronts.{closed, opened, front_goes_on, count_entries-push}

pub still_reading : (state : State) → state ≢ Ready → state ≢ Broken → state ≡ Reading
still_reading Reading ready broken = refl
still_reading Ready ready broken = absurd (ready refl)
still_reading Broken ready broken = absurd (broken refl)

-- ---- what is kept from a gate on

-- the file from a gate on
gate_and : (at : ℕ) (file : List ℕ) (gate : ℕ) → at < length file → get_or file at 0 ≡ gate → drop at file ≡ gate ∷ drop (at + 1) file
gate_and at file gate inside is = drop_more file at 0 inside ∙ ap (λ (g : ℕ). g ∷ drop (at + 1) file) is

pub end_kept : (at : ℕ) (file : List ℕ) → at < length file → IsFound End at file → kept_from at file ≡ Groups []
end_kept at file inside shut =
    ap (λ (x : List ℕ). kept_behind 0 at x) (gate_and at file (get_or file at 0) inside refl) ∙ closed at (get_or file at 0) (drop (at + 1) file) shut

-- an open gate and what stands behind it
open_kept : (at : ℕ) (behind : List ℕ) → kept_behind 0 at (1 ∷ behind) ≡ followed at (λ skipped. kept_behind skipped (at + 1) behind) (group_behind at behind)
unfolding kept_behind
open_kept at behind = refl

pub damage_kept : (at : ℕ) (file : List ℕ) → at < length file → IsFound Damage at file → kept_from at file ≡ Damaged at
damage_kept at file inside found =
    ap (λ (x : List ℕ). kept_behind 0 at x) (gate_and at file 1 inside found.0) ∙ open_kept at (drop (at + 1) file)
    ∙ ap (λ (o : Option (ℕ × List Entry)). followed at (λ skipped. kept_behind skipped (at + 1) (drop (at + 1) file)) o) found.1

-- the bytes of a group, up to the next gate
piece : ℕ → ℕ → List ℕ → List ℕ
piece at size file = take (size + 8) (drop (at + 1) file)

piece_len : (at size : ℕ) (entries : List Entry) (file : List ℕ) → HasGroup at (drop (at + 1) file) size entries → length (piece at size file) ≡ size + 8
unfolding piece
piece_len at size entries file has = length-take-le (size + 8) (drop (at + 1) file) (omega (arith, has.inside))

-- whatever stands behind the next gate
piece_again : (at size : ℕ) (entries : List Entry) (file : List ℕ) → HasGroup at (drop (at + 1) file) size entries → (gate : ℕ) (rest : List ℕ) → group_behind at (piece at size file ++ gate ∷ rest) ≡ Some (size, entries)
unfolding piece
piece_again at size entries file has gate rest =
    let len = piece_len at size entries file has in
    let other = piece at size file ++ gate ∷ rest in
    let same : take (size + 8) other ≡ take (size + 8) (drop (at + 1) file) = take_at (piece at size file) (gate ∷ rest) (size + 8) len in
    group_there at other size entries (group_same at (drop (at + 1) file) other size entries has same (omega (arith, len, length-append (piece at size file) (gate ∷ rest))))

behind_is : (at size : ℕ) (file : List ℕ) → piece at size file ++ drop (at + (size + 9)) file ≡ drop (at + 1) file
unfolding piece
behind_is at size file =
    let place : at + 1 + (size + 8) ≡ at + (size + 9) = omega arith in
    ap (λ (x : List ℕ). piece at size file ++ x) (ap (λ (i : ℕ). drop i file) (sym place) ∙ sym (drop-drop (size + 8) (at + 1) file)) ∙ take-append-drop (size + 8) (drop (at + 1) file)

pub next_kept : (at size : ℕ) (entries : List Entry) (file : List ℕ) → at < length file → IsFound (Next entries size) at file
    → kept_from at file ≡ with_group (record { at = at; entries = entries }) (kept_from (at + (size + 9)) file)
next_kept at size entries file inside found =
    let split = behind_is at size file in
    ap (λ (x : List ℕ). kept_behind 0 at x) (gate_and at file 1 inside found.0 ∙ ap (λ (x : List ℕ). 1 ∷ x) (sym split))
    ∙ opened at size entries (piece at size file) (drop (at + (size + 9)) file) (piece_len at size entries file found.1)
    (ap (λ (x : List ℕ). group_behind at x) split ∙ group_there at (drop (at + 1) file) size entries found.1)

-- the file up to the next gate
up_to_next : (at size : ℕ) (file : List ℕ) → at < length file → get_or file at 0 ≡ 1 → take (at + (size + 9)) file ≡ take at file ++ 1 ∷ piece at size file
unfolding piece
up_to_next at size file inside gate =
    let count : at + (size + 9) ≡ at + suc (size + 8) = omega arith in
    ap (λ (i : ℕ). take i file) count ∙ take-add at (suc (size + 8)) file ∙ ap (λ (x : List ℕ). take at file ++ take (suc (size + 8)) x) (gate_and at file 1 inside gate)

pub next_durable : (disk : DiskTells) (first at n size : ℕ) (entries : List Entry) (file : List ℕ) → IsDurable disk first at n file → IsFound (Next entries size) at file → IsDurable disk first (at + (size + 9)) (n + length entries) file
next_durable disk first at n size entries file is found =
    let g : Group = record { at = at; entries = entries } in
    let len : length (take at file) ≡ at = length-take-le at file (omega (arith, is.gate)) in
    record {
      groups = is.groups ++ g ∷ [];
      front = subst (λ (x : List ℕ). IsFront first (is.groups ++ g ∷ []) x) (sym (up_to_next at size file is.gate found.0))
          (front_goes_on first is.groups (take at file) at size entries (piece at size file) is.front (sym len) (piece_len at size entries file found.1) (piece_again at size entries file found.1));
      count = ap (λ (k : ℕ). k + length entries) is.count ∙ sym (count_entries-push is.groups g);
      gate = omega (arith, found.1.inside, length-drop (at + 1) file);
      durable = is.durable;
    }

-- ---- what is known of the journal

-- with fewer images
fewer_durable : (old new : DiskTells) (first at n : ℕ) (file : List ℕ) → IsDurable old first at n file → AddsNothing old new → IsDurable new first at n file
fewer_durable old new first at n file is less = record { groups = is.groups; front = is.front; count = is.count; gate = is.gate; durable = λ c now. is.durable c (less c now) }

-- what is known in a place of the file, with what was found there
pub told_both : (state : State) (disk : DiskTells) (first at n : ℕ) (Q P : List ℕ → Type 0) → IsSettled state disk first at n → state ≡ Reading → IfSome disk.bytes Q
    → ((b : List ℕ) → IsDurable disk first at n b → Q b → P b) → IfSome disk.bytes P
told_both Reading disk first at n Q P settled reading q then = if_some disk.bytes P (λ b is. then b (told_of disk.bytes b (IsDurable disk first at n) is settled) (told_of disk.bytes b Q is q))
told_both Ready disk first at n Q P settled reading q then = absurd cc
told_both Broken disk first at n Q P settled reading q then = absurd cc

settled_reading : (state : State) (disk : DiskTells) (first at n : ℕ) → state ≡ Reading → IfSome disk.bytes (IsDurable disk first at n) → IsSettled state disk first at n
settled_reading Reading disk first at n reading told = told
settled_reading Ready disk first at n reading told = absurd cc
settled_reading Broken disk first at n reading told = absurd cc

module _ (old new : DiskTells) (before : IsAsBefore old new) where
  told_now : (P : List ℕ → Type 0) → IfSome old.bytes P → IfSome new.bytes P
  told_now P told = subst (λ (o : Option (List ℕ)). IfSome o P) (sym before.same) told

  -- it stands where it stood
  pub settled_still : (state : State) (first at n : ℕ) → IsSettled state old first at n → state ≡ Reading → IsSettled state new first at n
  settled_still state first at n settled reading =
      settled_reading state new first at n reading (told_now (IsDurable new first at n)
      (told_both state old first at n (λ _. ⊤) (IsDurable new first at n) settled reading (all old.bytes) (λ b is _. fewer_durable old new first at n b is before.no_others)))
    where
      all : (o : Option (List ℕ)) → IfSome o (λ _. ⊤)
      all None = tt
      all (Some b) = tt

  -- behind one group more
  pub settled_next : (state : State) (first at n size : ℕ) (entries : List Entry) → IsSettled state old first at n → state ≡ Reading → IfSome old.bytes (IsFound (Next entries size) at)
      → IsSettled state new first (at + (size + 9)) (n + length entries)
  settled_next state first at n size entries settled reading found =
      settled_reading state new first (at + (size + 9)) (n + length entries) reading (told_now (IsDurable new first (at + (size + 9)) (n + length entries))
      (told_both state old first at n (IsFound (Next entries size) at) (IsDurable new first (at + (size + 9)) (n + length entries)) settled reading found
      (λ b is f. fewer_durable old new first (at + (size + 9)) (n + length entries) b (next_durable old first at n size entries b is f) before.no_others)))

  -- at the end
  pub settled_end : (state : State) (first at n : ℕ) → IsSettled state old first at n → state ≡ Reading → IfSome old.bytes (IsFound End at) → IsSettled Ready new first at n
  settled_end state first at n settled reading found =
      told_now (λ b. IsDurable new first at n b × (get_or b at 1 ≢ 1))
      (told_both state old first at n (IsFound End at) (λ b. IsDurable new first at n b × (get_or b at 1 ≢ 1)) settled reading found
      (λ b is shut. (fewer_durable old new first at n b is before.no_others, λ open'. shut (get_or_default b at 0 1 is.gate ∙ open'))))

-- a ready journal has nothing left to read
pub ready_kept : (state : State) (disk : DiskTells) (first at n : ℕ) → IsSettled state disk first at n → state ≡ Ready → IfSome disk.bytes (λ b. kept_from at b ≡ Groups [])
ready_kept Ready disk first at n settled ready = if_some disk.bytes _ (λ b is.
    let known = told_of disk.bytes b (λ f. IsDurable disk first at n f × (get_or f at 1 ≢ 1)) is settled in
    end_kept at b known.0.gate (λ open'. known.1 (get_or_default b at 1 0 known.0.gate ∙ open')))
ready_kept Reading disk first at n settled ready = absurd cc
ready_kept Broken disk first at n settled ready = absurd cc

-- ---- equal journals, changed alike

module _ {D : Type 0} (v w : Journaled D) (same : v ≡ w) (disk : D) where
  pub still_alike : record v { disk = disk } ≡ record w { disk = disk }
  still_alike = ap (λ (j : Journaled D). record j { disk = disk }) same

  pub ready_alike : record v { disk = disk; state = Ready } ≡ record w { disk = disk; state = Ready }
  ready_alike = ap (λ (j : Journaled D). record j { disk = disk; state = Ready }) same

  pub further_alike : (at m n : ℕ) → m ≡ n → record v { disk = disk; at = at; entries = v.entries + m } ≡ record w { disk = disk; at = at; entries = w.entries + n }
  further_alike at m n e = ap (λ (k : ℕ). record v { disk = disk; at = at; entries = v.entries + k }) e ∙ ap (λ (j : Journaled D). record j { disk = disk; at = at; entries = j.entries + n }) same

pub set_ready : {D : Type 0} (v : Journaled D) → v.state ≡ Ready → v ≡ record v { state = Ready }
set_ready {D = D} v e = ap (λ (s : State). record v { state = s }) e
