-- What is true of the connections that a table keeps.
use Rattle.std.specs.Prelude.{◌≡◌, ◌≤◌, ℕ, List, [], ◌∷◌, ◌++◌, length, map, false}
use Rattle.std.specs.List.{All}
use Rattle.zbx_types.specs.Limits.{most_connections}
use Rattle.zbxd_frame.specs.Found.{short, found}
use Rattle.zbxd_frame.specs.Answers.{left_of}
use Rattle.wire_core.specs.declared.peer.Peer.{Peer}
use Rattle.wire_core.specs.declared.peer.Opened.{Opened}
use Rattle.wire_core.specs.Peers.{Peers, is_there}

-- the peer of a connection for which this is kept
abbrev pub begun : ℕ → Opened → Peer
begun conn opened = record { conn = conn; since = opened.since; bytes = opened.bytes }

-- the peers of a table's entries, in their order
abbrev pub peers_in : List (ℕ × Opened) → Peers
peers_in entries = map (λ e. begun e.0 e.1) entries

-- a peer that was given one more piece: a whole frame was handed over, and its bytes with it
abbrev pub given : Peer → List ℕ → Peer
given p piece = record { conn = p.conn; since = p.since; bytes = left_of (p.bytes ++ piece) }

-- no two peers are of one connection
abbrev pub AreApart : Peers → Type 0
AreApart [] = Unit {0}
AreApart (p ∷ ps) = (is_there ps p.conn ≡ false) × AreApart ps

-- there are not too many, each with less than a frame, and no two of one connection
pub record AreKept (peers : Peers) : Type 0 where
  pub few : length peers ≤ most_connections
  pub waiting : All (λ p. found p.bytes ≡ short) peers
  pub apart : AreApart peers
