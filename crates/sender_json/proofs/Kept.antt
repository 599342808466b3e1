-- What is kept of a value is all that a request asks for.
use Rattle.std.proofs.Common.{◌≡◌, ℕ, List, false, Option, Some, None, option_map, option_and_then, codes, refl, sym, ap, ap₂, ◌∙◌, true≢false}
use Rattle.std.proofs.lemmas.Slice.Eq.{bytes_eq-Decides}
use Rattle.serde_json.specs.Data.{unsigned, negative, float, Data, null, boolean, number, string, array, object, Items, Members, put}
use Rattle.serde_json.specs.Find.{get, get_member, as_str, as_array}
use Rattle.serde_json.proofs.Views.{get_member-put, get_member-put_other}
use Rattle.sender_json.specs.declared.asked.Clock.{Clock}
use Rattle.sender_json.specs.declared.element.Parts.{Parts}
use Rattle.sender_json.specs.declared.reading.Top.{Top}
use Rattle.sender_json.specs.declared.seen.Seen.{Seen}
use Rattle.sender_json.specs.Requests.{value_text, whole_within, ns_of, moment_of, clock_of, asked_of, body_by, is_one, is_one_at, is_unsupported}
use Rattle.sender_json.specs.Seen.{data_of, plain, Holds, HoldsParts, HoldsTop}
use Rattle.sender_json.proofs.Firsts.{is_object, is_array}

-- ---- the parts

plain-as_str : (d : Data) → as_str (plain d) ≡ as_str d
plain-as_str null = refl
plain-as_str (boolean b) = refl
plain-as_str (number (unsigned n)) = refl
plain-as_str (number (negative z)) = refl
plain-as_str (number (float x)) = refl
plain-as_str (string s) = refl
plain-as_str (array ds) = refl
plain-as_str (object ms) = refl

plain-value_text : (d : Data) → value_text (plain d) ≡ value_text d
unfolding value_text
plain-value_text null = refl
plain-value_text (boolean b) = refl
plain-value_text (number (unsigned n)) = refl
plain-value_text (number (negative z)) = refl
plain-value_text (number (float x)) = refl
plain-value_text (string s) = refl
plain-value_text (array ds) = refl
plain-value_text (object ms) = refl

plain-whole : (most : ℕ) (d : Data) → whole_within most (plain d) ≡ whole_within most d
unfolding whole_within
plain-whole most null = refl
plain-whole most (boolean b) = refl
plain-whole most (number (unsigned n)) = refl
plain-whole most (number (negative z)) = refl
plain-whole most (number (float x)) = refl
plain-whole most (string s) = refl
plain-whole most (array ds) = refl
plain-whole most (object ms) = refl

plain-ns : (o : Option Data) → ns_of (option_map plain o) ≡ ns_of o
unfolding ns_of
plain-ns None = refl
plain-ns (Some d) = plain-whole 999999999 d

plain-clock : (o p : Option Data) → clock_of (option_map plain o) (option_map plain p) ≡ clock_of o p
unfolding clock_of
plain-clock None p = refl
plain-clock (Some d) p = ap₂ moment_of (plain-whole 4294967295 d) (plain-ns p)

plain-is_one : (o : Option Data) → is_one_at (option_map plain o) ≡ is_one_at o
unfolding is_one_at is_one
plain-is_one None = refl
plain-is_one (Some null) = refl
plain-is_one (Some (boolean b)) = refl
plain-is_one (Some (number (unsigned n))) = refl
plain-is_one (Some (number (negative z))) = refl
plain-is_one (Some (number (float x))) = refl
plain-is_one (Some (string s)) = refl
plain-is_one (Some (array ds)) = refl
plain-is_one (Some (object ms)) = refl

under_plain : {B : Type 0} (f : Data → Option B) → ((d : Data) → f (plain d) ≡ f d) → (o : Option Data) → option_and_then f (option_map plain o) ≡ option_and_then f o
under_plain f same None = refl
under_plain f same (Some d) = same d

-- ---- an element

pub text-held : (name : List ℕ) (held : Option Seen) (d : Data) → Holds name held d → option_and_then as_str (option_map data_of held) ≡ option_and_then as_str (get name d)
text-held name held d h = ap (option_and_then as_str) h ∙ under_plain as_str plain-as_str (get name d)

pub value-held : (name : List ℕ) (held : Option Seen) (d : Data) → Holds name held d → option_and_then value_text (option_map data_of held) ≡ option_and_then value_text (get name d)
value-held name held d h = ap (option_and_then value_text) h ∙ under_plain value_text plain-value_text (get name d)

pub clock-held : (clock ns : List ℕ) (seconds rest : Option Seen) (d : Data) → Holds clock seconds d → Holds ns rest d → clock_of (option_map data_of seconds) (option_map data_of rest) ≡ clock_of (get clock d) (get ns d)
clock-held clock ns seconds rest d h g = ap₂ clock_of h g ∙ plain-clock (get clock d) (get ns d)

-- the asked value that is made of the parts is that of the element
pub asked-held : (parts : Parts) (d : Data) (host key value : Option (List ℕ)) (clock : Clock) → HoldsParts parts d
    → host ≡ option_and_then as_str (option_map data_of parts.host) → key ≡ option_and_then as_str (option_map data_of parts.key)
    → value ≡ option_and_then value_text (option_map data_of parts.value) → clock ≡ clock_of (option_map data_of parts.clock) (option_map data_of parts.ns)
    → record { host = host; key = key; value = value; clock = clock } ≡ asked_of d
unfolding asked_of
asked-held parts d host key value clock h a b v m =
    let a2 = a ∙ text-held (codes "host") parts.host d h.host in
    let b2 = b ∙ text-held (codes "key") parts.key d h.key in
    let v2 = v ∙ value-held (codes "value") parts.value d h.value in
    let m2 = m ∙ clock-held (codes "clock") (codes "ns") parts.clock parts.ns d h.clock h.ns in
    rw (a2, b2, v2, m2) refl

-- what was kept of `state` says whether an agent supports the item
pub state-held : (held : Option Seen) (d : Data) → Holds (codes "state") held d → is_one_at (option_map data_of held) ≡ is_unsupported d
unfolding is_unsupported
state-held held d h = ap is_one_at h ∙ plain-is_one (get (codes "state") d)

-- ---- a value that has no members

pub no_members-get : (name : List ℕ) (d : Data) → is_object d ≡ false → get name d ≡ None
no_members-get name null e = refl
no_members-get name (boolean b) e = refl
no_members-get name (number n) e = refl
no_members-get name (string s) e = refl
no_members-get name (array ds) e = refl
no_members-get name (object ms) e = absurd (true≢false e)

pub no_items-as_array : (d : Data) → is_array d ≡ false → as_array d ≡ None
no_items-as_array null e = refl
no_items-as_array (boolean b) e = refl
no_items-as_array (number n) e = refl
no_items-as_array (string s) e = refl
no_items-as_array (array ds) e = absurd (true≢false e)
no_items-as_array (object ms) e = refl

-- ---- a body

-- what is made of what was kept of a body is what is read of it
pub body-held : {T : Type 0} (of : Items → T) (top : Top T) (d : Data) (request host : Option (List ℕ)) → HoldsTop of top d
    → request ≡ option_and_then as_str (option_map data_of top.request) → host ≡ option_and_then as_str (option_map data_of top.host)
    → record { request = request; host = host; elements = top.elements } ≡ body_by of d
unfolding body_by
body-held of top d request host h r n =
    let r2 = r ∙ text-held (codes "request") top.request d h.request in
    let n2 = n ∙ text-held (codes "host") top.host d h.host in
    rw (r2, n2, h.elements) refl

-- of another value than an object nothing is read
pub not_an_object : {T : Type 0} (of : Items → T) (d : Data) → is_object d ≡ false → body_by of d ≡ record { request = None; host = None; elements = None }
unfolding body_by
not_an_object of d e = rw (no_members-get (codes "request") d e, no_members-get (codes "host") d e, no_members-get (codes "data") d e) refl

pub request-not_data : codes "request" ≡ codes "data" → ⊥
request-not_data h = true≢false (sym ((bytes_eq-Decides (codes "request") (codes "data")).1 h))

pub host-not_data : codes "host" ≡ codes "data" → ⊥
host-not_data h = true≢false (sym ((bytes_eq-Decides (codes "host") (codes "data")).1 h))

-- a value without members has nothing under any name
pub nothing-held : (name : List ℕ) (held : Option Seen) (d : Data) → held ≡ None → is_object d ≡ false → Holds name held d
nothing-held name held d e n = ap (option_map data_of) e ∙ sym (ap (option_map plain) (no_members-get name d n))

module _ {T : Type 0} (of : Items → T) where
  abbrev kept_data : Option Data → Option T
  kept_data o = option_map of (option_and_then as_array o)

  -- `data` is the last of its name
  pub data-kept : (name : List ℕ) (d : Data) (found : Members) (elements : Option T) → name ≡ codes "data" → elements ≡ option_map of (as_array d)
      → elements ≡ kept_data (get (codes "data") (object (put name d found)))
  data-kept name d found elements named e = e ∙ sym (ap kept_data (ap (λ w. get_member w (put name d found)) (sym named) ∙ get_member-put name d found))

  pub data-stays : (name : List ℕ) (d : Data) (found : Members) (elements : Option T) → (name ≡ codes "data" → ⊥) → elements ≡ kept_data (get (codes "data") (object found))
      → elements ≡ kept_data (get (codes "data") (object (put name d found)))
  data-stays name d found elements other e = e ∙ sym (ap kept_data (get_member-put_other (codes "data") name d found (λ h. other (sym h))))

-- a member of another name leaves what was kept under this one
pub text-stays : (wanted name : List ℕ) (d : Data) (found : Members) (held : Option Seen) → (wanted ≡ name → ⊥) → Holds wanted held (object found)
    → Holds wanted held (object (put name d found))
text-stays wanted name d found held other h = h ∙ sym (ap (option_map plain) (get_member-put_other wanted name d found other))
