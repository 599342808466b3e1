-- The first item with some names.
use Rattle.std.proofs.Common.{◌≡◌, ℕ, ◌&&◌, ◌∙◌, ap, Bool, true, false, cond, List, Option, Some, None, refl, sym, subst}
use Rattle.std.specs.Cmp.Lexicographic.{bytes_decides}
use Rattle.std.specs.HashMap.{HashMap}
use Rattle.std.specs.Str.{bytes_eq}
use Rattle.zbx_types.specs.Hosts.{host_name}
use Rattle.zbx_types.specs.Ids.{at_id}
use Rattle.zbx_types.specs.declared.conf.Conf.{Conf}
use Rattle.zbx_types.specs.declared.items.Item.{Item}
use Rattle.zbx_types.specs.declared.items.ValueType.{ValueType}
use Rattle.preprocess.specs.Carry.{same_type}
use Rattle.preprocess.specs.Naming.{id_in, first_of, is_named}
use denote.Ref.{Bor}

-- what is noted where nothing was there before
pub first_is : (before : Option ℕ) (b : Bool) (id : ℕ) → (b ≡ true → before ≡ None) → cond b (Some id) before ≡ first_of before b id
first_is None true id e = refl
first_is None false id e = refl
first_is (Some n) true id e = let z : Some n ≡ None = e refl in absurd (cc)
first_is (Some n) false id e = refl

-- under equal names the same is kept
pub none_at : {S : Type 0} (ids : HashMap (Bor (List ℕ) × Bor (List ℕ)) ℕ S) (host key h q : List ℕ) → id_in ids host key ≡ None → (bytes_eq host h && bytes_eq key q) ≡ true → id_in ids h q ≡ None
none_at ids host key h q none e = go (bytes_eq host h) refl (bytes_eq key q) refl e
  where
    go : (a : Bool) → bytes_eq host h ≡ a → (b : Bool) → bytes_eq key q ≡ b → (a && b) ≡ true → id_in ids h q ≡ None
    go true s true t e = subst (λ x. id_in ids h x ≡ None) ((bytes_decides key q).0 t) (subst (λ x. id_in ids x key ≡ None) ((bytes_decides host h).0 s) none)
    go true s false t e = absurd (cc)
    go false s b t e = absurd (cc)

-- an item of another value type doesn't have the names
pub of_other : (conf : Conf) (item : Item) (value_type : ValueType) (id : ℕ) (h q : List ℕ) (before : Option ℕ) → same_type item.value_type value_type ≡ false
    → before ≡ first_of before (is_named conf h q value_type item) id
of_other conf item value_type id h q before e = go (bytes_eq (host_name (at_id conf.hosts item.host)) h) (bytes_eq item.key q) (same_type item.value_type value_type) e before
  where
    go : (a b t : Bool) → t ≡ false → (o : Option ℕ) → o ≡ first_of o (a && b && t) id
    go true true true e o = absurd (cc)
    go true true false e None = refl
    go true true false e (Some n) = refl
    go true false true e o = absurd (cc)
    go true false false e None = refl
    go true false false e (Some n) = refl
    go false b true e o = absurd (cc)
    go false true false e None = refl
    go false true false e (Some n) = refl
    go false false false e None = refl
    go false false false e (Some n) = refl

-- and one of it has them by host and key
pub of_type : (conf : Conf) (item : Item) (value_type : ValueType) (id : ℕ) (h q : List ℕ) (before : Option ℕ) → same_type item.value_type value_type ≡ true
    → first_of before (bytes_eq (host_name (at_id conf.hosts item.host)) h && bytes_eq item.key q) id ≡ first_of before (is_named conf h q value_type item) id
of_type conf item value_type id h q before e = go (bytes_eq (host_name (at_id conf.hosts item.host)) h) (bytes_eq item.key q) (same_type item.value_type value_type) e
  where
    go : (a b t : Bool) → t ≡ true → first_of before (a && b) id ≡ first_of before (a && b && t) id
    go true true true e = refl
    go true false true e = refl
    go false true true e = refl
    go false false true e = refl
    go a b false e = absurd (cc)
