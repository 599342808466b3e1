-- Laws of replies that go out, and of closings.
use Rattle.std.proofs.Common.{◌≡◌, ℕ, ◌+◌, ◌≤◌, List, [], ◌∷◌, ◌++◌, length, take, refl, sym, ap, ap₂, ◌∙◌, subst, append_assoc, append-nil, length-append, arith, inl, inr}
use Rattle.std.specs.Prelude.{Option, Some, None, IfSome}
use Rattle.std.specs.Option.{option_to_list}
use Rattle.std.proofs.lemmas.List.{map-append}
use Rattle.outside.specs.Causes.{Rose}
use Rattle.outside.specs.Tells.{WireTells}
use Rattle.intake_front.specs.Served.{closing}
use Rattle.intake_front.specs.declared.answer.Answer.{Answer}
use Rattle.intake_front.specs.declared.answer.Reply.{Reply}
use Rattle.server_run.specs.Sending.{SendsReply, Shuts, Delivers, Delivered, RoseBy, none, whole, cut, dropped, Sent, counted_from, Shows}

-- a count that rose once more
rose_more : (a b c lost : ℕ) → RoseBy a lost b → Rose b c → RoseBy a (lost + 1) c
rose_more a b c lost p q = omega (arith, p, q)

-- a count that didn't fall
rose_later : (a b c lost : ℕ) → RoseBy a lost b → b ≤ c → RoseBy a lost c
rose_later a b c lost p q = omega (arith, p, q)

rose_none : (a b : ℕ) → a ≤ b → RoseBy a 0 b
rose_none a b p = omega (arith, p)

-- what was sent, and one answer's reply after it
one_reply : (w0 w1 w2 : WireTells) (before parts : List (ℕ × List ℕ)) (lost : ℕ) (replies : List Reply) (reply : Option Reply)
    → Delivered replies parts lost → RoseBy w0.unsent lost w1.unsent → w1.unsent ≤ w2.unsent → SendsReply w1 w2 reply (before ++ parts)
    → (parts' : List (ℕ × List ℕ)) × (lost' : ℕ) × (w2.sent ≡ Some (before ++ parts')) × Delivered (replies ++ option_to_list reply) parts' lost' × RoseBy w0.unsent lost' w2.unsent
one_reply w0 w1 w2 before parts lost replies None d rose later sends =
    (parts, lost, sends, subst (λ rs. Delivered rs parts lost) (sym (append-nil replies)) d, rose_later w0.unsent w1.unsent w2.unsent lost rose later)
one_reply w0 w1 w2 before parts lost replies (Some r) d rose later (inl all) =
    (parts ++ (r.conn, r.bytes) ∷ [], lost, all ∙ ap Some (append_assoc before parts ((r.conn, r.bytes) ∷ [])), whole r d, rose_later w0.unsent w1.unsent w2.unsent lost rose later)
one_reply w0 w1 w2 before parts lost replies (Some r) d rose later (inr (risen, inl nothing)) =
    (parts, lost + 1, nothing, dropped r d, rose_more w0.unsent w1.unsent w2.unsent lost rose risen)
one_reply w0 w1 w2 before parts lost replies (Some r) d rose later (inr (risen, inr (n, within, some))) =
    (parts ++ (r.conn, take n r.bytes) ∷ [], lost + 1, some ∙ ap Some (append_assoc before parts ((r.conn, take n r.bytes) ∷ [])), cut r n within d, rose_more w0.unsent w1.unsent w2.unsent lost rose risen)

sent_none : (w : WireTells) → Sent w w []
sent_none w = nothing w.sent
  where
    nothing : (sent : Option (List (ℕ × List ℕ))) → IfSome sent (λ before. (parts : List (ℕ × List ℕ)) × (lost : ℕ) × (sent ≡ Some (before ++ parts)) × Delivered [] parts lost × RoseBy w.unsent lost w.unsent)
    nothing None = tt
    nothing (Some before) = ([], 0, ap Some (sym (append-nil before)), none, rose_none w.unsent w.unsent (omega arith))

sent_more : (w0 w1 w2 : WireTells) (replies : List Reply) (reply : Option Reply)
    → Sent w0 w1 replies → w1.unsent ≤ w2.unsent → IfSome w1.sent (SendsReply w1 w2 reply) → Sent w0 w2 (replies ++ option_to_list reply)
sent_more w0 w1 w2 replies reply sent later sends = more w0.sent sent
  where
    more : (before : Option (List (ℕ × List ℕ)))
        → IfSome before (λ b. (parts : List (ℕ × List ℕ)) × (lost : ℕ) × (w1.sent ≡ Some (b ++ parts)) × Delivered replies parts lost × RoseBy w0.unsent lost w1.unsent)
        → IfSome before (λ b. (parts : List (ℕ × List ℕ)) × (lost : ℕ) × (w2.sent ≡ Some (b ++ parts)) × Delivered (replies ++ option_to_list reply) parts lost × RoseBy w0.unsent lost w2.unsent)
    more None so_far = tt
    more (Some b) so_far =
        let there : SendsReply w1 w2 reply (b ++ so_far.0) = subst (λ s. IfSome s (SendsReply w1 w2 reply)) so_far.2 sends in
        one_reply w0 w1 w2 b so_far.0 so_far.1 replies reply so_far.3 so_far.4 later there

shuts_none : (closed : Option (List (ℕ × ℕ))) → Shuts closed closed []
shuts_none None = refl
shuts_none (Some before) = sym (append-nil before)

-- connections that were closed one after another
shuts_more : (c0 c1 c2 : Option (List (ℕ × ℕ))) (shut more : List (ℕ × ℕ)) → Shuts c0 c1 shut → Shuts c1 c2 more → Shuts c0 c2 (shut ++ more)
shuts_more None c1 c2 shut more p q = let ceased : Shuts None c2 more = subst (λ c. Shuts c c2 more) p q in ceased
shuts_more (Some before) None c2 shut more p q = subst (λ c. IfSome c (λ now. now ≡ before ++ (shut ++ more))) (sym q) tt
shuts_more (Some before) (Some mid) None shut more p q = tt
shuts_more (Some before) (Some mid) (Some now) shut more p q = q ∙ ap (λ l. l ++ more) p ∙ append_assoc before shut more

-- a closing's count, from the number of replies before on
pub counted_closing : (sends count : ℕ) (conn : Option ℕ) → counted_from sends (closing count conn) ≡ closing (sends + count) conn
counted_closing sends count None = refl
counted_closing sends count (Some conn) = refl

-- at the start nothing was sent or closed
pub shows_none : (w : WireTells) → Shows w w [] []
shows_none w = record { sent = sent_none w; sends = omega arith; closed = shuts_none w.closed }

-- one answer more
pub shows_more : (w0 w1 w2 : WireTells) (replies : List Reply) (shut : List (ℕ × ℕ)) (answer : Answer) → Shows w0 w1 replies shut → Delivers w1 w2 answer
    → Shows w0 w2 (replies ++ option_to_list answer.reply) (shut ++ closing (length (replies ++ option_to_list answer.reply)) answer.shut)
shows_more w0 w1 w2 replies shut answer s d =
    let one = option_to_list answer.reply in
    let count = length (replies ++ one) in
    let sends : w2.sends ≡ w0.sends + count = omega (arith, d.sends, s.sends, length-append replies one) in
    let last : closing w2.sends answer.shut ≡ counted_from w0.sends (closing count answer.shut) = ap (λ n. closing n answer.shut) sends ∙ sym (counted_closing w0.sends count answer.shut) in
    let all : counted_from w0.sends shut ++ closing w2.sends answer.shut ≡ counted_from w0.sends (shut ++ closing count answer.shut) =
    ap (λ l. counted_from w0.sends shut ++ l) last ∙ sym (map-append (λ (c : ℕ × ℕ). (c.0, w0.sends + c.1)) shut (closing count answer.shut)) in
    record {
      sent = sent_more w0 w1 w2 replies answer.reply s.sent d.later d.reply;
      sends = sends;
      closed = subst (Shuts w0.closed w2.closed) all (shuts_more w0.closed w1.closed w2.closed (counted_from w0.sends shut) (closing w2.sends answer.shut) s.closed d.shut);
    }

-- ---- replies and closings, and more behind them

rose_both : (a b c n m : ℕ) → RoseBy a n b → RoseBy b m c → RoseBy a (n + m) c
rose_both a b c n m p q = omega (arith, p, q)

recast : {rs rs' : List Reply} {ps ps' : List (ℕ × List ℕ)} {n n' : ℕ} → rs ≡ rs' → ps ≡ ps' → n ≡ n' → Delivered rs ps n → Delivered rs' ps' n'
recast {rs = rs} {rs' = rs'} {ps = ps} {ps' = ps'} {n = n} {n' = n'} r p k d = subst (λ x. Delivered x ps' n') r (subst (λ x. Delivered rs x n') p (subst (λ x. Delivered rs ps x) k d))

delivered_both : (rs rs' : List Reply) (ps ps' : List (ℕ × List ℕ)) (n n' : ℕ) → Delivered rs ps n → Delivered rs' ps' n' → Delivered (rs ++ rs') (ps ++ ps') (n + n')
delivered_both rs _ ps _ n _ d none = let all : n ≡ n + 0 = omega arith in recast (sym (append-nil rs)) (sym (append-nil ps)) all d
delivered_both rs _ ps _ n _ d (whole {rs = xs} {parts = ys} {lost = k} r e) =
    recast (append_assoc rs xs (r ∷ [])) (append_assoc ps ys ((r.conn, r.bytes) ∷ [])) refl (whole r (delivered_both rs xs ps ys n k d e))
delivered_both rs _ ps _ n _ d (cut {rs = xs} {parts = ys} {lost = k} r m within e) =
    let all : (n + k) + 1 ≡ n + (k + 1) = omega arith in
    recast (append_assoc rs xs (r ∷ [])) (append_assoc ps ys ((r.conn, take m r.bytes) ∷ [])) all (cut r m within (delivered_both rs xs ps ys n k d e))
delivered_both rs _ ps _ n _ d (dropped {rs = xs} {parts = ys} {lost = k} r e) =
    let all : (n + k) + 1 ≡ n + (k + 1) = omega arith in recast (append_assoc rs xs (r ∷ [])) refl all (dropped r (delivered_both rs xs ps ys n k d e))

sent_both : (w0 w1 w2 : WireTells) (replies more : List Reply) → Sent w0 w1 replies → Sent w1 w2 more → Sent w0 w2 (replies ++ more)
sent_both w0 w1 w2 replies more first then = both w0.sent first
  where
    both : (before : Option (List (ℕ × List ℕ)))
        → IfSome before (λ b. (parts : List (ℕ × List ℕ)) × (lost : ℕ) × (w1.sent ≡ Some (b ++ parts)) × Delivered replies parts lost × RoseBy w0.unsent lost w1.unsent)
        → IfSome before (λ b. (parts : List (ℕ × List ℕ)) × (lost : ℕ) × (w2.sent ≡ Some (b ++ parts)) × Delivered (replies ++ more) parts lost × RoseBy w0.unsent lost w2.unsent)
    both None so_far = tt
    both (Some b) (parts, lost, sent, delivered, rose) =
        let next : (parts' : List (ℕ × List ℕ)) × (lost' : ℕ) × (w2.sent ≡ Some ((b ++ parts) ++ parts')) × Delivered more parts' lost' × RoseBy w1.unsent lost' w2.unsent =
        subst (λ s. IfSome s (λ x. (parts' : List (ℕ × List ℕ)) × (lost' : ℕ) × (w2.sent ≡ Some (x ++ parts')) × Delivered more parts' lost' × RoseBy w1.unsent lost' w2.unsent)) sent then in
        (parts ++ next.0, lost + next.1, next.2 ∙ ap Some (append_assoc b parts next.0), delivered_both replies more parts next.0 lost next.1 delivered next.3, rose_both w0.unsent w1.unsent w2.unsent lost next.1 rose next.4)

-- closings that are counted from a number, and then from another
counted_twice : (a b : ℕ) (shut : List (ℕ × ℕ)) → counted_from a (counted_from b shut) ≡ counted_from (a + b) shut
counted_twice a b [] = refl
counted_twice a b (c ∷ cs) = let sum : a + (b + c.1) ≡ (a + b) + c.1 = omega arith in ap₂ (λ (n : ℕ) (l : List (ℕ × ℕ)). (c.0, n) ∷ l) sum (counted_twice a b cs)

-- what was shown, and more behind it
pub shows_both : (w0 w1 w2 : WireTells) (replies more : List Reply) (shut after : List (ℕ × ℕ)) → Shows w0 w1 replies shut → Shows w1 w2 more after
    → Shows w0 w2 (replies ++ more) (shut ++ counted_from (length replies) after)
shows_both w0 w1 w2 replies more shut after p q =
    let there : counted_from w1.sends after ≡ counted_from w0.sends (counted_from (length replies) after) = ap (λ n. counted_from n after) p.sends ∙ sym (counted_twice w0.sends (length replies) after) in
    let all : counted_from w0.sends shut ++ counted_from w1.sends after ≡ counted_from w0.sends (shut ++ counted_from (length replies) after) =
    ap (λ l. counted_from w0.sends shut ++ l) there ∙ sym (map-append (λ (c : ℕ × ℕ). (c.0, w0.sends + c.1)) shut (counted_from (length replies) after)) in
    record {
      sent = sent_both w0 w1 w2 replies more p.sent q.sent;
      sends = omega (arith, p.sends, q.sends, length-append replies more);
      closed = subst (Shuts w0.closed w2.closed) all (shuts_more w0.closed w1.closed w2.closed (counted_from w0.sends shut) (counted_from w1.sends after) p.closed q.closed);
    }

-- what is shown since a wire that had shown the same
pub shows_since : (w0 w1 w2 : WireTells) (replies : List Reply) (shut : List (ℕ × ℕ)) → w1.sent ≡ w0.sent → w1.sends ≡ w0.sends → w1.closed ≡ w0.closed → w1.unsent ≡ w0.unsent
    → Shows w1 w2 replies shut → Shows w0 w2 replies shut
shows_since w0 w1 w2 replies shut sent sends closed unsent s = record {
  sent = rw (← sent, ← unsent) s.sent;
  sends = s.sends ∙ ap (λ n. n + length replies) sends;
  closed = subst (λ c. Shuts c w2.closed (counted_from w0.sends shut)) closed (subst (λ n. Shuts w1.closed w2.closed (counted_from n shut)) sends s.closed);
}
