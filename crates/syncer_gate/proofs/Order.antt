-- No list of steps breaks the order.
use Rattle.std.proofs.Common.{◌≡◌, ◌<◌, ◌∙◌, ℕ, ◌==◌, Bool, true, false, cond, not, List, [], ◌∷◌, inl, inr, refl, sym, ap, arith, eqb-true, eq-eqb}
use Rattle.zbx_types.specs.Masters.{has_id}
use Rattle.zbx_types.specs.declared.entries.Numbered.{Numbered}
use Rattle.footprint.specs.Feet.{Footing}
use Rattle.footprint.specs.Conflict.{conflict_by}
use Rattle.syncer_gate.specs.declared.marks.Mark.{Mark}
use Rattle.syncer_gate.specs.declared.marks.Mark.TheVariants.{Pending, Applied, Taken}
use Rattle.syncer_gate.specs.Marks.{is_pending, is_open, is_taken, ended}
use Rattle.syncer_gate.specs.Core.{Core, Step, Offer, Claim, Apply, GiveBack, happens, In, IsNumber, MayClaim, IsAllowed, AreAllowed, start, run, passes, InOrder, Holds, EachStep, EverySchedule}

-- what is in a batch has its id
taken_is : (id : ℕ) (m : Mark) → is_taken id m ≡ true → m ≡ Taken id
taken_is id Pending e = cc
taken_is id Applied e = cc
taken_is id (Taken batch) e = ap Taken (eqb-true batch id e)

-- an entry that went past another one behind the end of a batch went past it before
passed_applied : (id : ℕ) (late early : Mark) → passes (ended id Applied late) (ended id Applied early) ≡ true → passes late early ≡ true
passed_applied id late early = go (is_taken id late) refl (is_taken id early) refl
  where
    past : (m : Mark) → is_taken id m ≡ false → passes Applied m ≡ true → passes (Taken id) m ≡ true
    past Pending e p = refl
    past Applied e p = cc
    past (Taken batch) e p = rw e refl

    never : (m : Mark) → passes m Applied ≡ false
    never Pending = refl
    never Applied = refl
    never (Taken batch) = refl

    go : (a : Bool) → is_taken id late ≡ a → (b : Bool) → is_taken id early ≡ b → passes (cond a Applied late) (cond b Applied early) ≡ true → passes late early ≡ true
    go a d true e p = let n = never (cond a Applied late) in cc
    go true d false e p = ap (λ m. passes m early) (taken_is id late d) ∙ past early e p
    go false d false e p = p

passed_given : (id : ℕ) (late early : Mark) → passes (ended id Pending late) (ended id Pending early) ≡ true → passes late early ≡ true
passed_given id late early = go (is_taken id late) refl (is_taken id early) refl
  where
    other_way : (batch : ℕ) → (batch == id) ≡ false → (id == batch) ≡ false
    other_way batch e = at (id == batch) refl
      where
        at : (b : Bool) → (id == batch) ≡ b → b ≡ false
        at true q = let t = eq-eqb batch id (sym (eqb-true id batch q)) in cc
        at false q = refl

    past : (m : Mark) → is_taken id m ≡ false → passes m Pending ≡ true → passes m (Taken id) ≡ true
    past Pending e p = cc
    past Applied e p = refl
    past (Taken batch) e p = let o = other_way batch e in rw o refl

    go : (a : Bool) → is_taken id late ≡ a → (b : Bool) → is_taken id early ≡ b → passes (cond a Pending late) (cond b Pending early) ≡ true → passes late early ≡ true
    go true d b e p = absurd (cc)
    go false d true e p = ap (passes late) (taken_is id early e) ∙ past late d p
    go false d false e p = p

-- what isn't pending behind the end of a batch wasn't before
pending_ended : (id : ℕ) (to m : Mark) → is_pending (ended id to m) ≡ false → is_pending m ≡ false
pending_ended id to Pending e = e
pending_ended id to Applied e = refl
pending_ended id to (Taken batch) e = refl

module _ (feet : Footing) (s : Core) (holds : Holds feet s) where
  -- the new entry's number is above all others, so it is pending, and no entry lies behind it
  new_pending : (e : Numbered) → ((y : Numbered) → In y s.log → y.number < e.number) → is_pending (s.status e.number) ≡ true
  new_pending e above = go (is_pending (s.status e.number)) refl
    where
      go : (b : Bool) → is_pending (s.status e.number) ≡ b → b ≡ true
      go true q = refl
      go false q = let k = holds.known e.number q in let l = above k.0 k.1 in let z = k.2 in absurd (omega arith)

  never_late : (m early : Mark) → is_pending m ≡ true → passes m early ≡ true → ⊥
  never_late Pending early p q = cc
  never_late Applied early p q = cc
  never_late (Taken batch) early p q = cc

  offered : (e : Numbered) → ((y : Numbered) → In y s.log → y.number < e.number) → Holds feet (happens s (Offer e))
  offered e above = record { order = order; known = λ n q. let k = holds.known n q in (k.0, inr k.1, k.2) }
    where
      order : InOrder feet (happens s (Offer e))
      order y x (inl yn) (inl xn) l p = let a = ap (λ z. z.number) yn in let b = ap (λ z. z.number) xn in absurd (omega arith)
      order y x (inl yn) (inr xi) l p = let a = ap (λ z. z.number) yn in let b = above x xi in absurd (omega arith)
      order y x (inr yi) (inl xn) l p = absurd (never_late (s.status x.number) (s.status y.number) (ap (λ z. is_pending (s.status z.number)) xn ∙ new_pending e above) p)
      order y x (inr yi) (inr xi) l p = holds.order y x yi xi l p

  -- a claim goes past nothing that it conflicts with
  claimed_order : (id : ℕ) (numbers : List ℕ) → MayClaim feet s id numbers → InOrder feet (happens s (Claim id numbers))
  claimed_order id numbers may y e yi ei l = go (has_id numbers e.number) refl (has_id numbers y.number) refl
    where
      early_is : (m : Mark) → s.status y.number ≡ m → has_id numbers e.number ≡ true → has_id numbers y.number ≡ false → passes (Taken id) m ≡ true → conflict_by feet y.entry e.entry ≡ false
      early_is Pending q h n p = may.behind y e yi ei l h n q
      early_is Applied q h n p = absurd (cc)
      early_is (Taken other) q h n p = may.beside y e yi ei h (ap is_open q)

      past : (m : Mark) → is_taken id m ≡ false → passes m (Taken id) ≡ true → passes m Pending ≡ true
      past Pending f p = cc
      past Applied f p = refl
      past (Taken batch) f p = refl

      itself : not (id == id) ≡ true → ⊥
      itself p = let t = eq-eqb id id refl in let u : not (id == id) ≡ false = ap not t in cc

      go : (a : Bool) → has_id numbers e.number ≡ a → (b : Bool) → has_id numbers y.number ≡ b → passes (cond a (Taken id) (s.status e.number)) (cond b (Taken id) (s.status y.number)) ≡ true → conflict_by feet y.entry e.entry ≡ false
      go true h true n p = absurd (itself p)
      go true h false n p = early_is (s.status y.number) refl h n p
      go false h true n p = holds.order y e yi ei l (ap (passes (s.status e.number)) (may.pending y.number n) ∙ past (s.status e.number) (may.fresh e.number) p)
      go false h false n p = holds.order y e yi ei l p

  claimed_known : (id : ℕ) (numbers : List ℕ) → MayClaim feet s id numbers → (n : ℕ) → is_pending (cond (has_id numbers n) (Taken id) (s.status n)) ≡ false → IsNumber s.log n
  claimed_known id numbers may n = go (has_id numbers n) refl
    where
      go : (b : Bool) → has_id numbers n ≡ b → is_pending (cond b (Taken id) (s.status n)) ≡ false → IsNumber s.log n
      go true h q = may.known n h
      go false h q = holds.known n q

  stepped : (step : Step) → IsAllowed feet s step → Holds feet (happens s step)
  stepped (Offer e) allowed = offered e allowed
  stepped (Claim id numbers) allowed = record { order = claimed_order id numbers allowed; known = claimed_known id numbers allowed }
  stepped (Apply id) allowed =
      record {
        order = λ y e yi ei l p. holds.order y e yi ei l (passed_applied id (s.status e.number) (s.status y.number) p);
        known = λ n q. holds.known n (pending_ended id Applied (s.status n) q);
      }
  stepped (GiveBack id) allowed =
      record {
        order = λ y e yi ei l p. holds.order y e yi ei l (passed_given id (s.status e.number) (s.status y.number) p);
        known = λ n q. holds.known n (pending_ended id Pending (s.status n) q);
      }

pub each_step : EachStep
each_step feet s step holds allowed = stepped feet s holds step allowed

ran : (feet : Footing) (s : Core) (steps : List Step) → Holds feet s → AreAllowed feet s steps → Holds feet (run s steps)
ran feet s [] holds allowed = holds
ran feet s (step ∷ steps) holds allowed = ran feet (happens s step) steps (stepped feet s holds step allowed.0) allowed.1

pub every_schedule : EverySchedule
every_schedule feet steps allowed = (ran feet start steps (record { order = λ y e yi. absurd yi; known = λ n q. absurd (cc) }) allowed).order
