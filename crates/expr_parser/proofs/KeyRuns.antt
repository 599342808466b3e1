-- Runs of bytes of a key.
use Rattle.std.proofs.lemmas.List.{take_all, length-drop}
use Rattle.std.proofs.Common.{zero, suc, ◌+◌, ◌-◌, ◌<◌, ◌≤◌, length, take, drop, get_or, arith, ◌≡◌, ℕ, List, [], ◌∷◌, ◌++◌, refl, ap, sym, ◌∙◌, Option, Some, None, false, length-take, length-append, append_assoc, append-nil, inl, inr, subst}
use Rattle.zbx_types.specs.declared.calls.Call.{Call}
use Rattle.zbx_types.specs.declared.calls.Fun.{Fun}
use Rattle.zbx_types.specs.Limits.{longest_key}
use Rattle.expr_parser.specs.Machine.{State, Key, after, go, is_delimiter, move, start, state, step}
use Rattle.expr_parser.specs.Staying.{KeyGoes, KeyLeads, Leads}
use Rattle.expr_parser.specs.declared.keys.Spot.{Spot}
use Rattle.expr_parser.specs.declared.pending.Pending.{Pending}
use Rattle.expr_parser.proofs.Lists.{either_way, lt_test, some_is}
use Rattle.expr_parser.proofs.Places.{Reached, after_more}

-- no bytes lead nowhere
pub leads_none : (s : State) (text : List ℕ) → Leads s text 0 s
unfolding after
leads_none s text = record { is = λ n h. refl }

-- where no bytes lead, all stands as it was
pub stands : (s t : State) (text : List ℕ) → Leads s text 0 t → s ≡ t
unfolding after
stands s t text h = some_is s t (h.is 0 (omega arith))

-- one byte more
pub leads_more : (s t u : State) (text : List ℕ) (i : ℕ) → i < length text → Leads s text i t → step false t (get_or text i 0) ≡ Some u → Leads s text (suc i) u
leads_more s t u text i h r e = record { is = λ n g. after_more n (Some s) text i h (omega arith) ∙ ap (λ (o : Option State). go false o (get_or text i 0)) (r.is n (omega arith)) ∙ e }

take_more : (text : List ℕ) (i : ℕ) → i < length text → take (suc i) text ≡ take i text ++ get_or text i 0 ∷ []
take_more [] i h = absurd (omega arith)
take_more (x ∷ xs) zero h = refl
take_more (x ∷ xs) (suc i) h = ap (λ (v : List ℕ). x ∷ v) (take_more xs i (omega arith))

-- a byte of a key
key_step : (f : Fun) (h t : List ℕ) (o : ℕ) (k : List Pending) (cs : List Call) (a c : Spot) (b : ℕ) → length t < longest_key → KeyGoes a b c → move false (Key f h t a.place a.character) a.last o k cs b ≡ Some (state (Key f h (t ++ b ∷ []) c.place c.character) c.last o k cs)
key_step f h t o k cs a c b l g = elim (either_way (is_delimiter b)) [
  | inl d ↦ rw (d, g.inside d, lt_test (length t) longest_key l, g.place, g.character, g.last) refl
  | inr d ↦ rw (d, lt_test (length t) longest_key l, g.place, g.character, g.last) refl
]

pub key_none : (a : Spot) (text : List ℕ) → KeyLeads a text 0 a
key_none a text = record { is = λ f h t o k cs l. rw (append-nil t) (leads_none (state (Key f h t a.place a.character) a.last o k cs) text) }

pub key_more : (a b c : Spot) (text : List ℕ) (i : ℕ) → i < length text → KeyLeads a text i b → KeyGoes b (get_or text i 0) c → KeyLeads a text (suc i) c
key_more a b c text i h r g = record { is = λ host_fun host t o k cs l. one host_fun host t o k cs l }
  where
    one : (f : Fun) (host t : List ℕ) (o : ℕ) (k : List Pending) (cs : List Call) → length t + suc i ≤ longest_key
        → Leads (state (Key f host t a.place a.character) a.last o k cs) text (suc i) (state (Key f host (t ++ take (suc i) text) c.place c.character) c.last o k cs)
    one f host t o k cs l =
        let x : List ℕ = t ++ take i text in
        let e : x ++ get_or text i 0 ∷ [] ≡ t ++ take (suc i) text = append_assoc t (take i text) (get_or text i 0 ∷ []) ∙ ap (λ (v : List ℕ). t ++ v) (sym (take_more text i h)) in
        let fits : length x < longest_key = omega (arith, length-append t (take i text), length-take i text) in
        leads_more (state (Key f host t a.place a.character) a.last o k cs) (state (Key f host x b.place b.character) b.last o k cs) (state (Key f host (t ++ take (suc i) text) c.place c.character) c.last o k cs) text i h (r.is f host t o k cs (omega arith))
        (key_step f host x o k cs b c (get_or text i 0) fits g ∙ ap (λ (v : List ℕ). Some (state (Key f host v c.place c.character) c.last o k cs)) e)

-- the key behind the bytes that were added to it
pub key_taken : (a b : Spot) (text : List ℕ) (i : ℕ) (f : Fun) (h t u : List ℕ) (o : ℕ) (k : List Pending) (cs : List Call) → u ≡ t ++ take i text → length t + i ≤ longest_key → KeyLeads a text i b
    → Leads (state (Key f h t a.place a.character) a.last o k cs) text i (state (Key f h u b.place b.character) b.last o k cs)
key_taken a b text i f h t u o k cs e l r = rw e (r.is f h t o k cs l)

none_more : (c : ℕ) → 0 + c ≡ c
none_more c = omega arith

one_more : (i c : ℕ) → suc i + c ≡ suc (i + c)
one_more i c = omega arith

-- so many bytes more behind what was reached
run_on : (n : ℕ) (o : Option State) (text : List ℕ) (i c : ℕ) (s t : State) → i + c ≤ n → after n o (take i text) ≡ Some s → Leads s (drop i text) c t → after n o (take (i + c) text) ≡ Some t
unfolding after
run_on n o text zero c s t h e r = rw (none_more c) (ap (λ (v : Option State). after n v (take c text)) e ∙ r.is n (omega arith))
run_on n o [] (suc i) zero s t h e r = rw (one_more i 0) (e ∙ r.is n (omega arith))
run_on n o [] (suc i) (suc c) s t h e r = rw (one_more i (suc c)) (e ∙ r.is n (omega arith))
run_on zero o (x ∷ text) (suc i) c s t h e r = absurd (omega arith)
run_on (suc n) o (x ∷ text) (suc i) c s t h e r = rw (one_more i c) (run_on n (go false o x) text i c s t (omega arith) e r)

pub reached_on : (text : List ℕ) (i c : ℕ) (s t : State) → Reached text i s → Leads s (drop i text) c t → Reached text (i + c) t
reached_on text i c s t r l = record { is = λ n h. run_on n (Some start) text i c s t h (r.is n (omega arith)) l }

-- the byte there is the first of what is left
pub first_left : (text : List ℕ) (i : ℕ) → get_or (drop i text) 0 0 ≡ get_or text i 0
first_left [] zero = refl
first_left [] (suc i) = refl
first_left (x ∷ xs) zero = refl
first_left (x ∷ xs) (suc i) = first_left xs i

-- what is left behind the first i bytes
pub left : (text : List ℕ) (i : ℕ) → take (length text - i) (drop i text) ≡ drop i text
left text i = take_all (length text - i) (drop i text) (omega (arith, length-drop i text))

-- one byte where no bytes were taken before
pub one_on : (s t u : State) (text : List ℕ) (n : ℕ) → 0 < length text → n ≡ 0 → Leads s text n t → step false t (get_or text 0 0) ≡ Some u → Leads s text 1 u
one_on s t u text n h e r g = leads_more s t u text 0 h (subst (λ (i : ℕ). Leads s text i t) e r) g

-- none where no bytes were taken before
pub none_after : (s t : State) (text : List ℕ) (n : ℕ) → n ≡ 0 → Leads s text n t → step false t (get_or text 0 0) ≡ None → step false s (get_or text 0 0) ≡ None
none_after s t text n e r g = ap (λ (v : State). step false v (get_or text 0 0)) (stands s t text (subst (λ (i : ℕ). Leads s text i t) e r)) ∙ g
