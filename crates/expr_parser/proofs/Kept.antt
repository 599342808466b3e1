-- Each byte keeps what a state says of the text so far; so what the machine takes, the grammar says.
use Rattle.std.proofs.Common.{◌≡◌, ℕ, ◌+◌, List, [], ◌∷◌, ◌++◌, length, refl, ap, sym, ◌∙◌, Option, Some, None, true, false, arith, nat_le, subst, inl, inr, pos, append-nil}
use Rattle.zbx_types.specs.Tree.{Tree, constant}
use Rattle.zbx_types.specs.declared.calls.Call.{Call}
use Rattle.expr_parser.specs.declared.figures.Figures.{Figures}
use Rattle.expr_parser.specs.declared.pending.Pending.{Pending}
use Rattle.expr_parser.specs.Bytes.{is_blank, AreBlanks, Point, behind as behind_bytes, beginning}
use Rattle.expr_parser.specs.Calls.{greatest_number}
use Rattle.expr_parser.specs.Figures.{figures_text, figures_value}
use Rattle.expr_parser.specs.Grammar.{Spells}
use Rattle.expr_parser.specs.Machine.{reduced, Mode, Begin, Operand, Word, Number, Slash, Host, Key, Argument, Close, Done, Less, Greater, Joint, State, move, go, is_zero, after, start, constant_of, held, whole, ends_by, ends_at}
use Rattle.expr_parser.proofs.Lists.{snoc, behind_append, behind_one, way, either_way, some_is, none_some}
use Rattle.expr_parser.proofs.NumberPasts.{NumberPast}
use Rattle.expr_parser.proofs.Stacks.{at, Folded, fold, floor_le}
use Rattle.expr_parser.proofs.Stands.{Token, Behind, Within', Stands}
use Rattle.expr_parser.proofs.Sound.{operand_sound, words_sound, blank_or_sound, behind_sound, less_sound, greater_sound, joints_sound, numbers_sound, number_behind}
use Rattle.expr_parser.proofs.CallSound.{host_sound, key_sound, argument_sound, slash_sound, close_sound}
use Rattle.expr_parser.specs.Bytes.{one_less}

move_sound : (n d l o : ℕ) (m : Mode) (k : List Pending) (cs : List Call) (q : List ℕ) (b : ℕ) (s : State) → d + o ≡ 32 → l ≡ (at n q).last → Within' n m d k cs q → move (is_zero (at n q).held) m l o k cs b ≡ Some s → Stands n (q ++ b ∷ []) s
move_sound n d l o Begin k cs q b s deep last w h = operand_sound n d l o k cs q b s deep last w h
move_sound n d l o Operand k cs q b s deep last w h = blank_or_sound n d l o k cs q b s deep last w h
move_sound n d l o (Word nots t) k cs q b s deep last w h = words_sound n d o k cs nots t q b s deep w.0 w.2 h
move_sound n d l o (Number f) k cs q b s deep last w h = numbers_sound n d l o k cs f q b s deep last w.0 w.1 h
move_sound n d l o (Slash f) k cs q b s deep last w h = slash_sound n d o k cs f q b s deep w.0 w.1 w.2 h
move_sound n d l o (Host f t) k cs q b s deep last w h = host_sound n d o k cs f t q b s deep w.0 w.1 w.2 w.3 w.4 h
move_sound n d l o (Key f t u place v) k cs q b s deep last w h = key_sound n d o k cs f t u q place v b s deep w h
move_sound n d l o (Argument fresh c a ss x) k cs q b s deep last w h = argument_sound n d o k cs fresh c a ss x q b s deep w h
move_sound n d l o (Close c) k cs q b s deep last w h = close_sound n d o k cs c q b s deep w h
move_sound n d l o (Done e) k cs q b s deep last w h = behind_sound n d l o k cs e q b s deep last w h
move_sound n d l o (Less e) k cs q b s deep last w h = less_sound n d l o k cs e q w.0 b s deep last w.1 w.2 h
move_sound n d l o (Greater e) k cs q b s deep last w h = greater_sound n d l o k cs e q w.0 b s deep last w.1 w.2 h
move_sound n d l o (Joint op rest e) k cs q b s deep last w h = joints_sound n d o k cs e op rest q b s deep w h

go_sound : (n : ℕ) (q : List ℕ) (b : ℕ) (o : Option State) → ((s : State) → o ≡ Some s → Stands n q s) → (t : State) → go (is_zero (at n q).held) o b ≡ Some t → Stands n (q ++ b ∷ []) t
go_sound n q b None h t e = none_some t e
go_sound n q b (Some r) h t e = let w = h r refl in move_sound n w.depth r.last r.open_ones r.mode r.stack r.calls q b t w.deep w.last w.within e

held_on : (n : ℕ) (q : List ℕ) (b : ℕ) → (at n (q ++ b ∷ [])).held ≡ one_less (at n q).held
held_on n q b = ap (λ (v : Point). v.held) (behind_append (beginning n) q (b ∷ []) ∙ behind_one (at n q) b)

run_sound : (n : ℕ) (bs q : List ℕ) (o : Option State) → ((s : State) → o ≡ Some s → Stands n q s) → (t : State) → after (at n q).held o bs ≡ Some t → Stands n (q ++ bs) t
unfolding after
run_sound n [] q o h t e = subst (λ (v : List ℕ). Stands n v t) (sym (append-nil q)) (h t e)
run_sound n (b ∷ bs) q o h t e = subst (λ (v : List ℕ). Stands n v t) (sym (snoc q b bs))
    (run_sound n bs (q ++ b ∷ []) (go (is_zero (at n q).held) o b) (go_sound n q b o h) t (subst (λ (v : ℕ). after v (go (is_zero (at n q).held) o b) bs ≡ Some t) (sym (held_on n q b)) e))

nothing_at : (n : ℕ) → at n [] ≡ beginning n
unfolding behind_bytes
nothing_at n = refl

stands_start : (n : ℕ) → Stands n [] start
stands_start n = record { depth = 32; deep = refl; last = ap (λ (v : Point). v.last) (sym (nothing_at n)); within = record { stack = (refl, refl, refl); clear = tt } }

pub stands : (n : ℕ) (q : List ℕ) (s : State) → after n (Some start) q ≡ Some s → Stands n q s
stands n q s e = run_sound n q [] (Some start) (λ t i. subst (λ (v : State). Stands n [] v) (some_is start t i) (stands_start n)) s (subst (λ (v : Point). after v.held (Some start) q ≡ Some s) (sym (nothing_at n)) e)

-- ---- the end

blank_last : (n : ℕ) (w y : List ℕ) (b : ℕ) → AreBlanks (b ∷ y) → is_blank (behind_bytes (at n w) (b ∷ y)).last ≡ true
unfolding behind_bytes AreBlanks
blank_last n w [] b a = a.0
blank_last n w (c ∷ y) b a = last_blank (record { held = one_less (at n w).held; last = b }) c y a.1
  where
    last_blank : (p : Point) (c : ℕ) (y : List ℕ) → AreBlanks (c ∷ y) → is_blank (behind_bytes p (c ∷ y)).last ≡ true
    last_blank p c [] a = a.0
    last_blank p c (x ∷ y) a = last_blank (record { held = one_less p.held; last = c }) x y a.1

no_trail : (n : ℕ) (w y : List ℕ) → AreBlanks y → is_blank (at n (w ++ y)).last ≡ false → y ≡ []
no_trail n w [] a h = refl
no_trail n w (b ∷ y) a h = absurd (let g : is_blank (behind_bytes (at n w) (b ∷ y)).last ≡ false = subst (λ (v : Point). is_blank v.last ≡ false) (behind_append (beginning n) w (b ∷ y)) h in let t = blank_last n w y b a in cc)

whole_sound : (n d : ℕ) (r : List Pending × Tree) (q : List ℕ) (cs : List Call) (e : Tree) (ks : List Call) → Folded n d 0 r q cs → whole r cs ≡ Some (e, ks) → Spells (beginning n) 32 0 0 q e ks
whole_sound n d (p ∷ k, x) q cs e ks f h = none_some (e, ks) h
whole_sound n d ([], x) q cs e ks f h =
    let g = some_is (x, cs) (e, ks) h in
    let H = f.holds in
    let s = H.stack in
    let i : q ≡ H.text = H.parts ∙ ap (λ (v : List ℕ). v ++ H.text) s.1 in
    let j : cs ≡ H.own = H.calls ∙ ap (λ (v : List Call). v ++ H.own) s.2 in
    let a : Spells (at n []) 32 (length H.before) 0 H.text x H.own = subst (λ (v : ℕ). Spells (at n []) v (length H.before) 0 H.text x H.own) s.0 (subst (λ (v : List ℕ). Spells (at n v) d (length H.before) 0 H.text x H.own) s.1 H.spells) in
    let b : Spells (beginning n) 32 0 0 H.text x H.own = subst (λ (v : List Call). Spells (beginning n) 32 (length v) 0 H.text x H.own) s.2 (subst (λ (v : Point). Spells v 32 (length H.before) 0 H.text x H.own) (nothing_at n) a) in
    let c : Spells (beginning n) 32 0 0 q x cs = subst (λ (v : List ℕ). Spells (beginning n) 32 0 0 v x cs) (sym i) (subst (λ (v : List Call). Spells (beginning n) 32 0 0 H.text x v) (sym j) b) in
    subst (λ (v : Tree). Spells (beginning n) 32 0 0 q v ks) (ap (λ (v : Tree × List Call). v.0) g) (subst (λ (v : List Call). Spells (beginning n) 32 0 0 q x v) (ap (λ (v : Tree × List Call). v.1) g) c)

end_behind : (n d l o : ℕ) (k : List Pending) (cs : List Call) (x : Tree) (q : List ℕ) (e : Tree) (ks : List Call) → l ≡ (at n q).last → Behind n d k cs x q → ends_by (Some x) l k cs ≡ Some (e, ks) → Spells (beginning n) 32 0 0 q e ks
end_behind n d l o k cs x q e ks last w h = elim (way (is_blank l) _ _ (Some (e, ks)) h) [
  | inl z ↦ none_some (e, ks) z.1
  | inr z ↦
      let y : w.y ≡ [] = no_trail n w.w w.y w.blanks (subst (λ (v : ℕ). is_blank v ≡ false) (last ∙ ap (λ (v : List ℕ). (at n v).last) w.parts) z.0) in
      let i : w.w ≡ q = sym (w.parts ∙ ap (λ (v : List ℕ). w.w ++ v) y ∙ append-nil w.w) in
      subst (λ (v : List ℕ). Spells (beginning n) 32 0 0 v e ks) i (whole_sound n d (reduced 0 k x) w.w cs e ks (fold n d 0 k x 8 w.w cs (floor_le k) (omega arith) w.holds) z.1)
]

number_end_holds : (n d l : ℕ) (k : List Pending) (cs : List Call) (f : Figures) (g : Option ℕ) (q : List ℕ) (e : Tree) (ks : List Call) → l ≡ (at n q).last → Token n d k cs q (figures_text f) → NumberPast greatest_number f → figures_value f ≡ g → ends_by (constant_of g) l k cs ≡ Some (e, ks) → Spells (beginning n) 32 0 0 q e ks
number_end_holds n d l k cs f None q e ks last t p i h = none_some (e, ks) h
number_end_holds n d l k cs f (Some m) q e ks last t p i h = elim (either_way (nat_le m greatest_number)) [
  | inl z ↦ end_behind n d l 0 k cs (constant (pos m)) q e ks last (number_behind n d k cs f m q t p i) (rw z at h)
  | inr z ↦ none_some (e, ks) (rw z at h)
]

end_sound : (n d l : ℕ) (m : Mode) (k : List Pending) (cs : List Call) (q : List ℕ) (e : Tree) (ks : List Call) → l ≡ (at n q).last → Within' n m d k cs q → ends_by (held m) l k cs ≡ Some (e, ks) → Spells (beginning n) 32 0 0 q e ks
end_sound n d l (Number f) k cs q e ks last w h = number_end_holds n d l k cs f (figures_value f) q e ks last w.0 w.1 refl h
end_sound n d l (Done x) k cs q e ks last w h = end_behind n d l 0 k cs x q e ks last w h
end_sound n d l _ k cs q e ks last w h = absurd cc

-- what the machine makes of a text is what the grammar says
pub sound : (n : ℕ) (text : List ℕ) (e : Tree) (ks : List Call) → ends_at (after n (Some start) text) ≡ Some (e, ks) → Spells (beginning n) 32 0 0 text e ks
sound n text e ks h = at_state (after n (Some start) text) refl h
  where
    at_state : (o : Option State) → after n (Some start) text ≡ o → ends_at o ≡ Some (e, ks) → Spells (beginning n) 32 0 0 text e ks
    at_state None g h = none_some (e, ks) h
    at_state (Some s) g h = let w = stands n text s g in end_sound n w.depth s.last s.mode s.stack s.calls text e ks w.last w.within h
