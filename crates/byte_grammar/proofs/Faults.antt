-- A machine that lives exactly on what is viable stops at the first fault.
use Rattle.std.proofs.Math.Seq.{take-length}
use Rattle.std.proofs.Common.{◌≡◌, ℕ, suc, ◌+◌, ◌<◌, List, length, take, get_or, ap, sym, ◌∙◌, Option, Some, None, add-one, arith}
use Rattle.byte_grammar.specs.Runs.{run}
use Rattle.byte_grammar.specs.Fault.{IsFaultOf}
use Rattle.byte_grammar.proofs.Runs.{run_end, run_more, none_on}

module _ {S : Type 0} (step : S → ℕ → Option S) (start : S) where
  -- the state behind the first i bytes
  pub record Reached (text : List ℕ) (i : ℕ) (s : S) : Type 0 where
    pub is : run step (Some start) (take i text) ≡ Some s

  pub reached_start : (text : List ℕ) (s : S) → s ≡ start → Reached text 0 s
  reached_start text s e = record { is = run_end step (Some start) ∙ ap (λ (z : S). Some z) (sym e) }

  pub reached_next : (text : List ℕ) (i : ℕ) (s t : S) → i < length text → Reached text i s → Some t ≡ step s (get_or text i 0) → Reached text (i + 1) t
  reached_next text i s t h r e = record { is = rw add-one (rw (run_more step (Some start) text i h) (rw r.is (sym e))) }

  -- no state behind the byte at i
  pub stopped : (text : List ℕ) (i : ℕ) (s : S) → i < length text → Reached text i s → None ≡ step s (get_or text i 0) → run step (Some start) (take (suc i) text) ≡ None
  stopped text i s h r e = rw (run_more step (Some start) text i h) (rw r.is (sym e))

  -- nor behind the whole text
  pub stopped_whole : (text : List ℕ) (i : ℕ) (s : S) → i < length text → Reached text i s → None ≡ step s (get_or text i 0) → run step (Some start) text ≡ None
  stopped_whole text i s h r e =
      let n = none_on step (Some start) text (suc i) (length text) h (stopped text i s h r e) in
      rw (take-length text) at n

  pub whole_text : (text : List ℕ) (i : ℕ) (s : S) → i ≡ length text → Reached text i s → run step (Some start) text ≡ Some s
  whole_text text i s e r = let g = r.is in rw (e, take-length text) at g

  -- what begins in a state is viable, and what begins in none isn't
  pub record Tells (viable : List ℕ → Type 0) : Type 0 where
    pub lives : (front : List ℕ) (s : S) → run step (Some start) front ≡ Some s → viable front
    pub stops : (front : List ℕ) → run step (Some start) front ≡ None → viable front → ⊥

  -- the machine stops at a byte
  pub fault_stop : (viable : List ℕ → Type 0) (allowed : ℕ → Type 0) → Tells viable → (text : List ℕ) (i : ℕ) (s : S) → i < length text → allowed i → Reached text i s → None ≡ step s (get_or text i 0) → IsFaultOf viable allowed text i
  fault_stop viable allowed k text i s h f r e = record {
    within = omega arith;
    fits = f;
    goes_on = k.lives (take i text) s r.is;
    stops = λ n a b c d. k.stops (take n text) (none_on step (Some start) text (suc i) n a (stopped text i s h r e)) d;
  }

  -- the text ends before that
  pub fault_end : (viable : List ℕ → Type 0) (allowed : ℕ → Type 0) → Tells viable → (text : List ℕ) (i : ℕ) (s : S) → i ≡ length text → allowed i → Reached text i s → IsFaultOf viable allowed text i
  fault_end viable allowed k text i s e f r = record {
    within = omega arith;
    fits = f;
    goes_on = k.lives (take i text) s r.is;
    stops = λ n a b c d. absurd (omega arith);
  }
