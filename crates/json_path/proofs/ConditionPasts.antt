-- What has come of a condition, in the words of the grammar.
use Rattle.std.proofs.Common.{◌≡◌, ℕ, List, [], ◌∷◌, ◌++◌, refl, ap, Option, Some, None, Bool, true, false, ◌==◌, if◌then◌else◌, append_assoc, append-nil, subst}
use Rattle.json_path.specs.declared.tokens.Spelling.{Spelling}
use Rattle.json_path.specs.declared.tokens.Quotation.{Quotation}
use Rattle.json_path.specs.declared.tokens.Quoting.{Quoting}
use Rattle.json_path.specs.declared.numbers.Part.{Part}
use Rattle.json_path.specs.declared.numbers.Numeral.{Numeral}
use Rattle.json_path.specs.declared.path.Condition.{Condition}
use Rattle.json_path.specs.declared.path.Comparison.{Comparison}
use Rattle.json_path.specs.declared.path.Comparison.TheVariants.{Eq, Ne, Le, Ge, Lt, Gt}
use Rattle.json_path.specs.declared.path.Literal.TheVariants.{Words, Number}
use Rattle.json_path.specs.declared.conditions.Checking.{Checking}
use Rattle.json_path.specs.declared.conditions.Checking.TheVariants as at
use Rattle.json_path.specs.declared.conditions.Checked.{Checked}
use Rattle.json_path.specs.declared.conditions.Checked.TheVariants.{Open, Met, Wrong}
use Rattle.byte_grammar.specs.Bytes.{Each, is_space}
use Rattle.json_path.specs.Grammar.{is_name_byte, mark, IsQuoted, quoted, IsNumber, Spaced, behind_spaces, with_space, IsMember, root, named, bracketed, space_behind, symbol, IsLiteral, words, number, IsCondition, compares}
use Rattle.json_path.specs.Tokens.{spell, unspelt, quotation, checked, begin_quote, may_end, numbering, numeral, whole_number}
use Rattle.json_path.specs.Machine.{check, behind_member, name_goes, name_ends, bracket_begins, bracket_goes, operand, literal_begins, number_begins, behind_literal, words_go, number_goes, number_ends}
use Rattle.json_path.proofs.Checked.{checked_is}
use Rattle.byte_grammar.proofs.Bytes.{each_snoc, each_none}
use Rattle.json_path.proofs.TokenPasts.{either, eq_true, IsSpelt, spells, unspelt_spelt, NamePast, name_more, name_whole, QuotePast, QuoteBehind, goes, ends, wrong, quote_starts, quote_behind, NumberPast, PartBehind, in_part, no_part, part_behind, number_start, number_whole}

-- a condition so far
abbrev pub CheckPast : Checking → List ℕ → Type 0
CheckPast at.Before u = Each is_space u
CheckPast (at.Member ns) u = IsMember u ns
CheckPast (at.Point ns) u = (v : List ℕ) × (x : List ℕ) × IsMember v ns × Each is_space x × (u ≡ v ++ 46 ∷ x)
CheckPast (at.Name ns s) u = (v : List ℕ) × (x : List ℕ) × IsMember v ns × Each is_space x × NamePast s × (u ≡ v ++ 46 ∷ (x ++ s.bytes))
CheckPast (at.Bracket ns) u = (v : List ℕ) × (x : List ℕ) × IsMember v ns × Each is_space x × (u ≡ v ++ 91 ∷ x)
CheckPast (at.Quote ns q) u = (v : List ℕ) × (x : List ℕ) × (d : Bool) × (t : List ℕ) × IsMember v ns × Each is_space x × QuotePast d q t × (u ≡ v ++ 91 ∷ (x ++ mark d ∷ t))
CheckPast (at.Bracketed ns) u = (v : List ℕ) × (t : List ℕ) × (ms : List (List ℕ)) × (n : List ℕ) × IsMember v ms × Spaced IsQuoted t n × (ns ≡ ms ++ n ∷ []) × (u ≡ v ++ 91 ∷ t)
CheckPast (at.Equal ns) u = (v : List ℕ) × IsMember v ns × (u ≡ v ++ 61 ∷ [])
CheckPast (at.Not ns) u = (v : List ℕ) × IsMember v ns × (u ≡ v ++ 33 ∷ [])
CheckPast (at.Less ns) u = (v : List ℕ) × IsMember v ns × (u ≡ v ++ 60 ∷ [])
CheckPast (at.Greater ns) u = (v : List ℕ) × IsMember v ns × (u ≡ v ++ 62 ∷ [])
CheckPast (at.Operand ns op) u = (v : List ℕ) × (x : List ℕ) × IsMember v ns × Each is_space x × (u ≡ v ++ (symbol op ++ x))
CheckPast (at.Quoted ns op q) u = (v : List ℕ) × (x : List ℕ) × (d : Bool) × (t : List ℕ) × IsMember v ns × Each is_space x × QuotePast d q t × (u ≡ v ++ (symbol op ++ (x ++ mark d ∷ t)))
CheckPast (at.Numbered ns op n) u = (v : List ℕ) × (x : List ℕ) × IsMember v ns × Each is_space x × NumberPast n.part n.bytes × (u ≡ v ++ (symbol op ++ (x ++ n.bytes)))
CheckPast (at.Compared c) u = IsCondition u c

-- what a byte makes of it
pub data CheckBehind (u : List ℕ) (b : ℕ) : Checked → Type 0 where
  open_so : (m : Checking) → CheckPast m (u ++ b ∷ []) → CheckBehind u b (Open m)
  met_so : (c : Condition) → b ≡ 41 → IsCondition u c → CheckBehind u b (Met c)
  wrong_so : CheckBehind u b Wrong

space_is : (b : ℕ) → (b == 32) ≡ true → is_space b ≡ true
space_is b h = h

last_is : (u : List ℕ) (b c : ℕ) → (b == c) ≡ true → u ++ b ∷ [] ≡ u ++ c ∷ []
last_is u b c h = ap (λ (v : ℕ). u ++ v ∷ []) (eq_true b c h)

member_behind : (u : List ℕ) (b : ℕ) (ns : List (List ℕ)) → IsMember u ns → CheckBehind u b (behind_member ns b)
member_behind u b ns k =
    let P : Checked → Type 0 = λ z. CheckBehind u b z in
    either P (b == 32) _ _ (λ h. open_so (at.Member ns) (space_behind u k (last_is u b 32 h)))
    (λ n. either P (b == 46) _ _ (λ h. open_so (at.Point ns) (u, [], k, each_none is_space, last_is u b 46 h))
    (λ n. either P (b == 91) _ _ (λ h. open_so (at.Bracket ns) (u, [], k, each_none is_space, last_is u b 91 h))
    (λ n. either P (b == 61) _ _ (λ h. open_so (at.Equal ns) (u, k, last_is u b 61 h))
    (λ n. either P (b == 33) _ _ (λ h. open_so (at.Not ns) (u, k, last_is u b 33 h))
    (λ n. either P (b == 60) _ _ (λ h. open_so (at.Less ns) (u, k, last_is u b 60 h))
    (λ n. either P (b == 62) _ _ (λ h. open_so (at.Greater ns) (u, k, last_is u b 62 h)) (λ n. wrong_so)))))))

name_on : (u : List ℕ) (b : ℕ) (ns : List (List ℕ)) (s : Spelling) (v x : List ℕ) → IsMember v ns → Each is_space x → IsSpelt s → Each is_name_byte s.bytes → u ≡ v ++ 46 ∷ (x ++ s.bytes) → is_name_byte b ≡ true → CheckBehind u b (name_goes ns (spell s b))
name_on u b ns s v x k e h i g n = from (spell s b) refl
  where
    from : (o : Option Spelling) → spell s b ≡ o → CheckBehind u b (name_goes ns o)
    from None p = wrong_so
    from (Some r) p = let z = spells s b r h p in open_so (at.Name ns r) (v, x, k, e, name_more s b r i n z, rw (g, z.bytes) (simp append_assoc))

name_off : (u : List ℕ) (b : ℕ) (ns : List (List ℕ)) (s : Spelling) (v x : List ℕ) → IsMember v ns → Each is_space x → NamePast s → u ≡ v ++ 46 ∷ (x ++ s.bytes) → CheckBehind u b (name_ends ns b (checked s.bytes))
name_off u b ns s v x k e p g = from (checked s.bytes) refl
  where
    from : (o : Option (List ℕ)) → checked s.bytes ≡ o → CheckBehind u b (name_ends ns b o)
    from None h = wrong_so
    from (Some w) h = member_behind u b (ns ++ w ∷ []) (named v x s.bytes ns w k e (name_whole s w p h) g refl)

quote_on : (u : List ℕ) (b : ℕ) (ns : List (List ℕ)) (v x : List ℕ) → IsMember v ns → Each is_space x → u ≡ v ++ 91 ∷ x → CheckBehind u b (bracket_begins ns (begin_quote b))
quote_on u b ns v x k e g =
    let P : Option Quotation → Type 0 = λ o. CheckBehind u b (bracket_begins ns o) in
    either P (b == 34) _ _ (λ h. open_so (at.Quote ns (quotation true)) (v, x, true, [], k, e, quote_starts true, rw (g, eq_true b 34 h) (simp append_assoc)))
    (λ n. either P (b == 39) _ _ (λ h. open_so (at.Quote ns (quotation false)) (v, x, false, [], k, e, quote_starts false, rw (g, eq_true b 39 h) (simp append_assoc))) (λ m. wrong_so))

in_quote : (u : List ℕ) (b : ℕ) (ns : List (List ℕ)) (v x : List ℕ) (d : Bool) (t : List ℕ) → IsMember v ns → Each is_space x → u ≡ v ++ 91 ∷ (x ++ mark d ∷ t) → {r : Quoting} → QuoteBehind d t b r → CheckBehind u b (bracket_goes ns r)
in_quote u b ns v x d t k e g (goes r p) = open_so (at.Quote ns r) (v, x, d, t ++ b ∷ [], k, e, p, rw g (simp append_assoc))
in_quote u b ns v x d t k e g (ends w h i j) =
    open_so (at.Bracketed (ns ++ w ∷ [])) (v, x ++ mark d ∷ (t ++ mark d ∷ []), ns, w, k, behind_spaces x (mark d ∷ (t ++ mark d ∷ [])) e (quoted d t i j refl) refl, refl, rw (g, h) (simp append_assoc))
in_quote u b ns v x d t k e g wrong = wrong_so

number_on_it : (u : List ℕ) (b : ℕ) (ns : List (List ℕ)) (op : Comparison) (v x : List ℕ) → IsMember v ns → Each is_space x → u ≡ v ++ (symbol op ++ x) → {o : Option Part} → PartBehind [] b o → CheckBehind u b (number_begins ns op (numeral [] b o))
number_on_it u b ns op v x k e g (in_part q p) = open_so (at.Numbered ns op (record { part = q; bytes = b ∷ [] })) (v, x, k, e, p, rw g (simp append_assoc))
number_on_it u b ns op v x k e g no_part = wrong_so

operand_behind : (u : List ℕ) (b : ℕ) (ns : List (List ℕ)) (op : Comparison) (v x : List ℕ) → IsMember v ns → Each is_space x → u ≡ v ++ (symbol op ++ x) → CheckBehind u b (operand ns op b)
operand_behind u b ns op v x k e g =
    let P : Checked → Type 0 = λ z. CheckBehind u b z in
    let Q : Option Quotation → Type 0 = λ o. CheckBehind u b (literal_begins ns op b o) in
    either P (b == 32) _ _ (λ h. open_so (at.Operand ns op) (v, x ++ b ∷ [], k, each_snoc is_space x b e h, rw g (simp append_assoc)))
    (λ n. either Q (b == 34) _ _ (λ h. open_so (at.Quoted ns op (quotation true)) (v, x, true, [], k, e, quote_starts true, rw (g, eq_true b 34 h) (simp append_assoc)))
    (λ n. either Q (b == 39) _ _ (λ h. open_so (at.Quoted ns op (quotation false)) (v, x, false, [], k, e, quote_starts false, rw (g, eq_true b 39 h) (simp append_assoc)))
    (λ n. number_on_it u b ns op v x k e g (number_start b))))

condition_space : (u : List ℕ) (b : ℕ) (c : Condition) → (b == 32) ≡ true → IsCondition u c → IsCondition (u ++ b ∷ []) c
condition_space u b c h (compares v t m s e) = compares v (t ++ 32 ∷ []) m (with_space t s refl) (rw (e, eq_true b 32 h) (simp append_assoc))

literal_behind : (u : List ℕ) (b : ℕ) (c : Condition) → IsCondition u c → CheckBehind u b (behind_literal c b)
literal_behind u b c k =
    let P : Checked → Type 0 = λ z. CheckBehind u b z in
    either P (b == 32) _ _ (λ h. open_so (at.Compared c) (condition_space u b c h k))
    (λ n. either P (b == 41) _ _ (λ h. met_so c (eq_true b 41 h) k) (λ m. wrong_so))

in_words : (u : List ℕ) (b : ℕ) (ns : List (List ℕ)) (op : Comparison) (v x : List ℕ) (d : Bool) (t : List ℕ) → IsMember v ns → Each is_space x → u ≡ v ++ (symbol op ++ (x ++ mark d ∷ t)) → {r : Quoting} → QuoteBehind d t b r → CheckBehind u b (words_go ns op r)
in_words u b ns op v x d t k e g (goes r p) = open_so (at.Quoted ns op r) (v, x, d, t ++ b ∷ [], k, e, p, rw g (simp append_assoc))
in_words u b ns op v x d t k e g (ends w h i j) =
    open_so (at.Compared (record { names = ns; op = op; literal = Words w })) (compares v (x ++ mark d ∷ (t ++ mark d ∷ [])) k (behind_spaces x (mark d ∷ (t ++ mark d ∷ [])) e (words w (quoted d t i j refl)) refl) (rw (g, h) (simp append_assoc)))
in_words u b ns op v x d t k e g wrong = wrong_so

number_text : (p : Part) (bytes w : List ℕ) → NumberPast p bytes → (if may_end p then checked bytes else None) ≡ Some w → IsNumber bytes × (bytes ≡ w)
number_text p bytes w k e = from (may_end p) refl e
  where
    from : (c : Bool) → may_end p ≡ c → (if c then checked bytes else None) ≡ Some w → IsNumber bytes × (bytes ≡ w)
    from true h e = (number_whole p bytes k h, (checked_is bytes w e).1)
    from false h e = absurd cc

number_off : (u : List ℕ) (b : ℕ) (ns : List (List ℕ)) (op : Comparison) (n : Numeral) (v x : List ℕ) → IsMember v ns → Each is_space x → NumberPast n.part n.bytes → u ≡ v ++ (symbol op ++ (x ++ n.bytes)) → CheckBehind u b (number_ends ns op b (whole_number n))
number_off u b ns op n v x k e p g = from (whole_number n) refl
  where
    from : (o : Option (List ℕ)) → whole_number n ≡ o → CheckBehind u b (number_ends ns op b o)
    from None h = wrong_so
    from (Some w) h =
        let z = number_text n.part n.bytes w p h in
        let l : IsLiteral n.bytes (Number w) = subst (λ (y : List ℕ). IsLiteral n.bytes (Number y)) z.1 (number z.0) in
        literal_behind u b (record { names = ns; op = op; literal = Number w }) (compares v (x ++ n.bytes) k (behind_spaces x n.bytes e l refl) g)

in_number : (u : List ℕ) (b : ℕ) (ns : List (List ℕ)) (op : Comparison) (n : Numeral) (v x : List ℕ) → IsMember v ns → Each is_space x → NumberPast n.part n.bytes → u ≡ v ++ (symbol op ++ (x ++ n.bytes)) → {o : Option Part} → PartBehind n.bytes b o → CheckBehind u b (number_goes ns op b (numbering n b o))
in_number u b ns op n v x k e p g (in_part q h) = open_so (at.Numbered ns op (record { part = q; bytes = n.bytes ++ b ∷ [] })) (v, x, k, e, h, rw g (simp append_assoc))
in_number u b ns op n v x k e p g no_part = number_off u b ns op n v x k e p g

-- a byte leaves what has come of a condition
pub check_behind : (m : Checking) (u : List ℕ) (b : ℕ) → CheckPast m u → CheckBehind u b (check m b)
check_behind at.Before u b k =
    let P : Checked → Type 0 = λ z. CheckBehind u b z in
    either P (b == 32) _ _ (λ h. open_so at.Before (each_snoc is_space u b k h))
    (λ n. either P (b == 64) _ _ (λ h. open_so (at.Member []) (root u k (last_is u b 64 h))) (λ m. wrong_so))
check_behind (at.Member ns) u b k = member_behind u b ns k
check_behind (at.Point ns) u b k =
    let P : Checked → Type 0 = λ z. CheckBehind u b z in
    either P (b == 32) _ _ (λ h. open_so (at.Point ns) (k.0, k.1 ++ b ∷ [], k.2, each_snoc is_space k.1 b k.3 h, rw k.4 (simp append_assoc)))
    (λ n. either P (is_name_byte b) _ _ (λ h. name_on u b ns unspelt k.0 k.1 k.2 k.3 unspelt_spelt (each_none is_name_byte) (rw (k.4, append-nil) refl) h) (λ m. wrong_so))
check_behind (at.Name ns s) u b k = either (λ z. CheckBehind u b z) (is_name_byte b) _ _
    (λ h. name_on u b ns s k.0 k.1 k.2 k.3 k.4.spelt k.4.each k.5 h) (λ n. name_off u b ns s k.0 k.1 k.2 k.3 k.4 k.5)
check_behind (at.Bracket ns) u b k = either (λ z. CheckBehind u b z) (b == 32) _ _
    (λ h. open_so (at.Bracket ns) (k.0, k.1 ++ b ∷ [], k.2, each_snoc is_space k.1 b k.3 h, rw k.4 (simp append_assoc))) (λ n. quote_on u b ns k.0 k.1 k.2 k.3 k.4)
check_behind (at.Quote ns q) u b k = in_quote u b ns k.0 k.1 k.2 k.3 k.4 k.5 k.7 (quote_behind k.2 q k.3 b k.6)
check_behind (at.Bracketed ns) u b k =
    let P : Checked → Type 0 = λ z. CheckBehind u b z in
    either P (b == 32) _ _ (λ h. open_so (at.Bracketed ns) (k.0, k.1 ++ 32 ∷ [], k.2, k.3, k.4, with_space k.1 k.5 refl, k.6, rw (k.7, eq_true b 32 h) (simp append_assoc)))
    (λ n. either P (b == 93) _ _ (λ h. open_so (at.Member ns) (bracketed k.0 k.1 k.2 k.3 k.4 k.5 (rw (k.7, eq_true b 93 h) (simp append_assoc)) k.6)) (λ m. wrong_so))
check_behind (at.Equal ns) u b k = either (λ z. CheckBehind u b z) (b == 61) _ _
    (λ h. open_so (at.Operand ns Eq) (k.0, [], k.1, each_none is_space, rw (k.2, eq_true b 61 h) (simp append_assoc))) (λ n. wrong_so)
check_behind (at.Not ns) u b k = either (λ z. CheckBehind u b z) (b == 61) _ _
    (λ h. open_so (at.Operand ns Ne) (k.0, [], k.1, each_none is_space, rw (k.2, eq_true b 61 h) (simp append_assoc))) (λ n. wrong_so)
check_behind (at.Less ns) u b k = either (λ z. CheckBehind u b z) (b == 61) _ _
    (λ h. open_so (at.Operand ns Le) (k.0, [], k.1, each_none is_space, rw (k.2, eq_true b 61 h) (simp append_assoc))) (λ n. operand_behind u b ns Lt k.0 [] k.1 (each_none is_space) k.2)
check_behind (at.Greater ns) u b k = either (λ z. CheckBehind u b z) (b == 61) _ _
    (λ h. open_so (at.Operand ns Ge) (k.0, [], k.1, each_none is_space, rw (k.2, eq_true b 61 h) (simp append_assoc))) (λ n. operand_behind u b ns Gt k.0 [] k.1 (each_none is_space) k.2)
check_behind (at.Operand ns op) u b k = operand_behind u b ns op k.0 k.1 k.2 k.3 k.4
check_behind (at.Quoted ns op q) u b k = in_words u b ns op k.0 k.1 k.2 k.3 k.4 k.5 k.7 (quote_behind k.2 q k.3 b k.6)
check_behind (at.Numbered ns op n) u b k = in_number u b ns op n k.0 k.1 k.2 k.3 k.4 k.5 (part_behind n.part n.bytes b k.4)
check_behind (at.Compared c) u b k = literal_behind u b c k
