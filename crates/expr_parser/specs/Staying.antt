-- What a byte leads to, and what several do.
use Rattle.std.specs.Prelude.{◌≡◌, ◌+◌, ◌≤◌, ◌++◌, ℕ, List, take, length, Bool, true, false, Option, Some, None}
use Rattle.item_key.specs.Machine.{ends, step}
use Rattle.byte_grammar.specs.Utf8.{follow}
use Rattle.zbx_types.specs.declared.calls.Call.{Call}
use Rattle.zbx_types.specs.declared.calls.Fun.{Fun}
use Rattle.zbx_types.specs.Limits.{longest_key}
use Rattle.expr_parser.specs.Machine.{State, Key, after, is_delimiter, state}
use Rattle.expr_parser.specs.declared.keys.Spot.{Spot}
use Rattle.expr_parser.specs.declared.pending.Pending.{Pending}

-- the state where an expression goes on, none where it doesn't
abbrev pub reach : Bool → State → Option State
reach true s = Some s
reach false s = None

-- so many bytes at the front of a text lead from a state to a state, where all are held to the limit of a key
pub record Leads (s : State) (text : List ℕ) (i : ℕ) (t : State) : Type 0 where
  pub is : (n : ℕ) → i ≤ n → after n (Some s) (take i text) ≡ Some t

-- a byte that doesn't end the key leads from a spot in it to a spot in it
pub record KeyGoes (from : Spot) (b : ℕ) (to : Spot) : Type 0 where
  pub inside : is_delimiter b ≡ true → ends from.place ≡ false
  pub place : step from.place b ≡ Some to.place
  pub character : follow from.character b ≡ Some to.character
  pub last : to.last ≡ b

-- so many bytes at the front of a text lead from a spot in a key to a spot in it, where they fit into the key
pub record KeyLeads (a : Spot) (text : List ℕ) (i : ℕ) (b : Spot) : Type 0 where
  pub is : (f : Fun) (h t : List ℕ) (o : ℕ) (k : List Pending) (cs : List Call) → length t + i ≤ longest_key
      → Leads (state (Key f h t a.place a.character) a.last o k cs) text i (state (Key f h (t ++ take i text) b.place b.character) b.last o k cs)
