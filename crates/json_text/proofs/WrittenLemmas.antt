-- What is still to be written of a list.
use Rattle.std.proofs.Common.{◌≡◌, ℕ, zero, suc, ◌+◌, ◌<◌, ◌≤◌, List, [], ◌∷◌, ◌++◌, length, drop, get_or, refl, ap, sym, ◌∙◌, Bool, true, false, arith, add-one, append_assoc, append-nil}
use Rattle.json_text.specs.Json.{Members, no_members, member, json_size, items_size, members_size}
use Rattle.json_text.specs.Parts.{IsGrown}
use Rattle.json_text.specs.Trees.{json_of, items_of, members_of}
use Rattle.json_text.specs.Written.{escaped, escaped_byte, json_written, items_written, more_items, member_written, members_written, more_members, comma_before}
use Rattle.json_text.specs.declared.tree.Tree.{Tree}
use Rattle.json_text.specs.declared.tree.Member.{Member}

-- ---- lists that begin with one another

pub grown_same : (old : List ℕ) → IsGrown old old
grown_same old = ([], sym (append-nil old))

pub grown_by : (old new more : List ℕ) → new ≡ old ++ more → IsGrown old new
grown_by old new more e = (more, e)

pub grown_on : (old mid new : List ℕ) → IsGrown old mid → IsGrown mid new → IsGrown old new
grown_on old mid new g h = (g.0 ++ h.0, h.1 ∙ ap (λ (v : List ℕ). v ++ h.0) g.1 ∙ append_assoc old g.0 h.0)

-- ---- the rest of a list

suc_drop : {A : Type 0} (ts : List A) (i : ℕ) (d : A) → i < length ts → drop i ts ≡ get_or ts i d ∷ drop (suc i) ts
suc_drop [] i d h = absurd (omega arith)
suc_drop (x ∷ ts) zero d h = refl
suc_drop (x ∷ ts) (suc i) d h = suc_drop ts i d (omega arith)

drop_on : {A : Type 0} (ts : List A) (i : ℕ) (d : A) → i < length ts → drop i ts ≡ get_or ts i d ∷ drop (i + 1) ts
drop_on ts i d h = rw add-one (suc_drop ts i d h)

drop_at : {A : Type 0} (ts : List A) (i : ℕ) (t : A) → i < length ts → t ≡ get_or ts i t → drop i ts ≡ t ∷ drop (i + 1) ts
drop_at ts i t h e = drop_on ts i t h ∙ ap (λ y. y ∷ drop (i + 1) ts) (sym e)

pub drop_end : {A : Type 0} (ts : List A) (i : ℕ) → length ts ≤ i → drop i ts ≡ []
drop_end [] zero h = refl
drop_end [] (suc i) h = refl
drop_end (x ∷ ts) zero h = absurd (omega arith)
drop_end (x ∷ ts) (suc i) h = drop_end ts i (omega arith)

-- ---- sizes

pub item_smaller : (ts : List Tree) (i : ℕ) (t : Tree) → i < length ts → t ≡ get_or ts i t → json_size (json_of t) < items_size (items_of ts)
item_smaller [] i t h e = absurd (omega arith)
item_smaller (x ∷ ts) zero t h e = let g : json_size (json_of t) ≡ json_size (json_of x) = ap (λ y. json_size (json_of y)) e in omega arith
item_smaller (x ∷ ts) (suc i) t h e = let g = item_smaller ts i t (omega arith) e in omega arith

some_size : (ms : Members) → 1 ≤ members_size ms
some_size no_members = omega arith
some_size (member k j ms) = omega arith

pub member_smaller : (ms : List Member) (i : ℕ) (m : Member) → i < length ms → m ≡ get_or ms i m → json_size (json_of m.value) + 1 < members_size (members_of ms)
member_smaller [] i m h e = absurd (omega arith)
member_smaller (x ∷ ms) zero m h e =
    let g : json_size (json_of m.value) ≡ json_size (json_of x.value) = ap (λ y. json_size (json_of y.value)) e in omega (arith, some_size (members_of ms))
member_smaller (x ∷ ms) (suc i) m h e = let g = member_smaller ms i m (omega arith) e in omega arith

-- ---- what is still to be written

abbrev pub rest_items : Bool → List Tree → List ℕ
rest_items true ts = items_written (items_of ts)
rest_items false ts = more_items (items_of ts)

abbrev pub rest_members : Bool → List Member → List ℕ
rest_members true ms = members_written (members_of ms)
rest_members false ms = more_members (members_of ms)

rest_item : (first : Bool) (t : Tree) (ts : List Tree) → rest_items first (t ∷ ts) ≡ comma_before first ++ (json_written (json_of t) ++ rest_items false ts)
rest_item true t ts = refl
rest_item false t ts = refl

rest_member : (first : Bool) (m : Member) (ms : List Member) → rest_members first (m ∷ ms) ≡ comma_before first ++ (member_written m.name (json_of m.value) ++ rest_members false ms)
rest_member true m ms = refl
rest_member false m ms = refl

pub rest_items-nil : (first : Bool) → rest_items first [] ≡ 93 ∷ []
rest_items-nil true = refl
rest_items-nil false = refl

pub rest_members-nil : (first : Bool) → rest_members first [] ≡ 125 ∷ []
rest_members-nil true = refl
rest_members-nil false = refl

-- an item more is written
pub item_on : (all out mid new : List ℕ) (first : Bool) (ts : List Tree) (i : ℕ) (t : Tree) → i < length ts → t ≡ get_or ts i t
    → out ++ rest_items first (drop i ts) ≡ all → mid ≡ out ++ comma_before first → new ≡ mid ++ json_written (json_of t) → new ++ rest_items false (drop (i + 1) ts) ≡ all
item_on all out mid new first ts i t h e g c w =
    ap (λ (v : List ℕ). v ++ rest_items false (drop (i + 1) ts)) (w ∙ ap (λ (v : List ℕ). v ++ json_written (json_of t)) c)
    ∙ append_assoc (out ++ comma_before first) (json_written (json_of t)) _
    ∙ append_assoc out (comma_before first) _
    ∙ ap (λ (v : List ℕ). out ++ v) (sym (ap (rest_items first) (drop_at ts i t h e) ∙ rest_item first t (drop (i + 1) ts)))
    ∙ g

pub member_on : (all out mid new : List ℕ) (first : Bool) (ms : List Member) (i : ℕ) (m : Member) → i < length ms → m ≡ get_or ms i m
    → out ++ rest_members first (drop i ms) ≡ all → mid ≡ out ++ comma_before first → new ≡ mid ++ member_written m.name (json_of m.value) → new ++ rest_members false (drop (i + 1) ms) ≡ all
member_on all out mid new first ms i m h e g c w =
    ap (λ (v : List ℕ). v ++ rest_members false (drop (i + 1) ms)) (w ∙ ap (λ (v : List ℕ). v ++ member_written m.name (json_of m.value)) c)
    ∙ append_assoc (out ++ comma_before first) (member_written m.name (json_of m.value)) _
    ∙ append_assoc out (comma_before first) _
    ∙ ap (λ (v : List ℕ). out ++ v) (sym (ap (rest_members first) (drop_at ms i m h e) ∙ rest_member first m (drop (i + 1) ms)))
    ∙ g

-- the bracket behind the last
pub items_end : (all out new : List ℕ) (first : Bool) (ts : List Tree) (i : ℕ) → length ts ≤ i → out ++ rest_items first (drop i ts) ≡ all → new ≡ out ++ 93 ∷ [] → new ≡ all
items_end all out new first ts i h g e = e ∙ ap (λ (v : List ℕ). out ++ v) (sym (ap (rest_items first) (drop_end ts i h) ∙ rest_items-nil first)) ∙ g

pub members_end : (all out new : List ℕ) (first : Bool) (ms : List Member) (i : ℕ) → length ms ≤ i → out ++ rest_members first (drop i ms) ≡ all → new ≡ out ++ 125 ∷ [] → new ≡ all
members_end all out new first ms i h g e = e ∙ ap (λ (v : List ℕ). out ++ v) (sym (ap (rest_members first) (drop_end ms i h) ∙ rest_members-nil first)) ∙ g

-- a byte more in quotes
pub byte_on : (all out new : List ℕ) (text : List ℕ) (i : ℕ) → i < length text → out ++ (escaped (drop i text) ++ 34 ∷ []) ≡ all → new ≡ out ++ escaped_byte (get_or text i 0)
    → new ++ (escaped (drop (i + 1) text) ++ 34 ∷ []) ≡ all
unfolding escaped
byte_on all out new text i h g w =
    ap (λ (v : List ℕ). v ++ (escaped (drop (i + 1) text) ++ 34 ∷ [])) w
    ∙ append_assoc out (escaped_byte (get_or text i 0)) _
    ∙ ap (λ (v : List ℕ). out ++ v) (sym (ap (λ (v : List ℕ). escaped v ++ 34 ∷ []) (drop_on text i 0 h)
    ∙ append_assoc (escaped_byte (get_or text i 0)) (escaped (drop (i + 1) text)) (34 ∷ [])))
    ∙ g

pub text_end : (all out new : List ℕ) (text : List ℕ) (i : ℕ) → length text ≤ i → out ++ (escaped (drop i text) ++ 34 ∷ []) ≡ all → new ≡ out ++ 34 ∷ [] → new ≡ all
unfolding escaped
text_end all out new text i h g e = e ∙ ap (λ (v : List ℕ). out ++ v) (sym (ap (λ (v : List ℕ). escaped v ++ 34 ∷ []) (drop_end text i h))) ∙ g
