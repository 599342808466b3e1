-- A key that is too long is refused as its front is.
use Rattle.std.proofs.Common.{◌≡◌, ℕ, zero, suc, ◌+◌, ◌<◌, ◌≤◌, Bool, true, false, List, ◌++◌, length, take, refl, sym, ◌∙◌, ap, arith, inl, inr, ◌⊎◌}
use Rattle.std.specs.Prelude.{◌&&◌, nat_le, if◌then◌else◌, codes}
use Rattle.std.proofs.lemmas.Bool.{le-leb, leb-true}
use Rattle.std.proofs.lemmas.List.{length-take-le, take-take}
use Rattle.zbx_types.specs.declared.items.Item.{Item}
use Rattle.zbx_types.specs.declared.causes.Cause.TheVariants.{BadKey}
use Rattle.zbx_types.specs.Limits.{longest_key}
use Rattle.item_key.specs.Machine.{ends_at, place_of}
use Rattle.macro_text.specs.Expanded.{expanded}
use Rattle.macro_text.specs.declared.macros.Macro.{Macro}
use Rattle.config_read.specs.declared.raw.RawItem.{RawItem}
use Rattle.host_layout.specs.Answers.{Fails}
use Rattle.host_layout.specs.Elements.{IsRefusal}
use Rattle.host_layout.specs.Items.{longest_up_to, is_key, key_length, item_keyed_of, item_of}
use Rattle.host_layout.specs.Places.{Placed, refuse}
use Rattle.host_layout.specs.declared.fault.FlatError.{FlatError}
use Rattle.host_layout.proofs.Failing.{refusal}

and_false : (a b : Bool) → b ≡ false → a && b ≡ false
and_false true b e = e
and_false false b e = refl

not_le : (a b : ℕ) → b < a → nat_le a b ≡ false
not_le a b l = by (nat_le a b) refl
  where
    by : (x : Bool) → nat_le a b ≡ x → nat_le a b ≡ false
    by true e = absurd (omega (arith, leb-true a b e))
    by false e = e

long_is_none : (text : List ℕ) → longest_key < length text → is_key text ≡ false
long_is_none text l = and_false (ends_at (place_of text)) (nat_le (length text) longest_key) (not_le (length text) longest_key l)

-- no front past the limit is a key
past_limit : (text : List ℕ) (n : ℕ) → longest_key ≤ n → n ≤ length text → longest_up_to is_key text n ≡ longest_up_to is_key text longest_key
past_limit text zero l within = absurd (omega arith)
past_limit text (suc n) l within = elim (two longest_key (suc n) l) [
  | inl e ↦ ap (longest_up_to is_key text) (sym e)
  | inr less ↦
      let size : length (take (suc n) text) ≡ suc n = length-take-le (suc n) text within in
      let none : is_key (take (suc n) text) ≡ false = long_is_none (take (suc n) text) (omega arith) in
      rw none (past_limit text n (omega arith) (omega arith))
]
  where
    two : (a b : ℕ) → a ≤ b → (a ≡ b) ⊎ (a < b)
    two a b h = grind arith

-- fronts of the front are fronts of the text
front_alone : (text : List ℕ) (n k : ℕ) → k ≤ n → longest_up_to is_key (take n text) k ≡ longest_up_to is_key text k
front_alone text n zero l = refl
front_alone text n (suc k) l = rw (take-take (suc k) n text l, front_alone text n k (omega arith)) refl

-- the front of a text decides how long the longest front is that is a key
pub front_decides : (text : List ℕ) → longest_key < length text → key_length (take longest_key text) ≡ key_length text
unfolding key_length
front_decides text l =
    let size : length (take longest_key text) ≡ longest_key = length-take-le longest_key text (omega arith) in
    ap (longest_up_to is_key (take longest_key text)) size
    ∙ front_alone text longest_key longest_key (omega arith)
    ∙ sym (past_limit text (length text) (omega arith) (omega arith))

long_keyed : (host : ℕ) (key : List ℕ) (before : List Item) (p : Placed RawItem) → longest_key < length key
    → item_keyed_of host key before p ≡ refuse (p.path ++ codes "/key") (BadKey (key_length (take longest_key key)))
unfolding item_keyed_of
long_keyed host key before p l = rw (long_is_none key l, front_decides key l) refl

-- an item whose key is too long is refused, and its front tells how
pub refused : (e : FlatError) (host : ℕ) (macros : List Macro) (before : List Item) (p : Placed RawItem) (front : List ℕ)
    → front ≡ take longest_key (expanded macros p.body.key) → longest_key < length (expanded macros p.body.key)
    → IsRefusal (p.path ++ codes "/key") (BadKey (key_length front)) e → Fails e (item_of host macros before p)
unfolding item_of
refused e host macros before p front f l r =
    refusal e (p.path ++ codes "/key") (BadKey (key_length front)) (item_of host macros before p) r
    (long_keyed host (expanded macros p.body.key) before p l ∙ ap (λ t. refuse (p.path ++ codes "/key") (BadKey (key_length t))) (sym f))
