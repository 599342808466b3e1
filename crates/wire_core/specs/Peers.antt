-- The connections of a wire, and what an event means for them.
use Rattle.std.specs.Prelude.{◌≡◌, ℕ, List, [], ◌∷◌, ◌++◌, length, map, nat_lt, ◌==◌, if◌then◌else◌, Bool, false, not, ◌||◌, Option, Some, None}
use Rattle.std.specs.List.{filter, find, list_any}
use Rattle.zbx_types.specs.Limits.{most_connections}
use Rattle.zbxd_frame.specs.Found.{Found, short, whole, bad, found}
use Rattle.outside.specs.declared.event.WireEvent.{WireEvent}
use Rattle.outside.specs.declared.event.WireEvent.TheVariants.{Opened, Piece, Ended, Broke, Quiet, Closed}
use Rattle.wire_core.specs.declared.peer.Peer.{Peer}
use Rattle.wire_core.specs.declared.turn.Turn.{Turn}
use Rattle.wire_core.specs.declared.turn.Turn.TheVariants.{Nothing, Shut, Whole}

-- the connections that are there, each with the moment at which it opened and its bytes since then
abbrev pub Peers : Type 0
Peers = List Peer

-- no connection is there
abbrev pub no_peers : Peers
no_peers = []

-- the peer is that of a connection
abbrev pub is_of : ℕ → Peer → Bool
is_of conn p = p.conn == conn

-- a connection is there
abbrev pub is_there : Peers → ℕ → Bool
is_there peers conn = list_any (is_of conn) peers

-- the peer of a connection, where it is there
abbrev pub peer_of : Peers → ℕ → Option Peer
peer_of peers conn = find (is_of conn) peers

-- the connections but this one
abbrev pub without : Peers → ℕ → Peers
without peers conn = filter (λ p. not (is_of conn p)) peers

-- a peer stands for its connection in place of the one before
abbrev pub replaced : Peers → Peer → Peers
replaced peers new = map (λ p. if is_of new.conn p then new else p) peers

-- a connection that begins now, with no bytes
abbrev pub fresh : ℕ → ℕ → Peer
fresh conn now = record { conn = conn; since = now; bytes = [] }

-- a peer with one more piece
abbrev pub with_piece : Peer → List ℕ → Peer
with_piece p piece = record { conn = p.conn; since = p.since; bytes = p.bytes ++ piece }

-- a connection may open where it is there already, to begin anew, or where there is room for another
abbrev pub may_open : Peers → ℕ → Bool
may_open peers conn = is_there peers conn || nat_lt (length peers) most_connections

-- the connections once one has begun
abbrev pub opened : Peers → ℕ → ℕ → Peers
opened peers conn now = if is_there peers conn then replaced peers (fresh conn now) else peers ++ fresh conn now ∷ []

-- what a peer with such bytes comes to: a first frame that is whole is handed on, bytes that begin no frame shut the connection
unfoldable pub turn_at : Peer → Found → Turn
turn_at p short = Nothing
turn_at p (whole body behind) = Whole p.conn body p.since
turn_at p (bad fault) = Shut p.conn

-- the connections once a peer has such bytes: it stays while they are less than a frame
unfoldable pub peers_at : Peers → Peer → Found → Peers
peers_at peers p short = replaced peers p
peers_at peers p (whole body behind) = without peers p.conn
peers_at peers p (bad fault) = without peers p.conn

-- what a piece comes to for the peer of its connection, where it is there
unfoldable pub piece_turn : List ℕ → Option Peer → Turn
piece_turn piece None = Nothing
piece_turn piece (Some p) = turn_at p (found (p.bytes ++ piece))

-- the connections after a piece
unfoldable pub after_piece : Peers → List ℕ → Option Peer → Peers
after_piece peers piece None = peers
after_piece peers piece (Some p) = peers_at peers (with_piece p piece) (found (p.bytes ++ piece))

-- what an event comes to at a moment
unfoldable pub turn_of : Peers → ℕ → WireEvent → Turn
turn_of peers now (Opened conn at) = if may_open peers conn then Nothing else Shut conn
turn_of peers now (Piece conn piece at) = piece_turn piece (peer_of peers conn)
turn_of peers now (Ended conn at) = Nothing
turn_of peers now (Broke conn at) = Nothing
turn_of peers now (Quiet at) = Nothing
turn_of peers now (Closed at) = Nothing

-- the connections that are there after an event at a moment
unfoldable pub after_event : Peers → ℕ → WireEvent → Peers
after_event peers now (Opened conn at) = if may_open peers conn then opened peers conn now else peers
after_event peers now (Piece conn piece at) = after_piece peers piece (peer_of peers conn)
after_event peers now (Ended conn at) = without peers conn
after_event peers now (Broke conn at) = without peers conn
after_event peers now (Quiet at) = peers
after_event peers now (Closed at) = peers

-- an event is of a connection
abbrev pub is_about : WireEvent → ℕ → Bool
is_about (Opened conn at) other = conn == other
is_about (Piece conn piece at) other = conn == other
is_about (Ended conn at) other = conn == other
is_about (Broke conn at) other = conn == other
is_about (Quiet at) other = false
is_about (Closed at) other = false

-- the connections of which an event is not are as before
abbrev pub LeavesOthers : WireEvent → Peers → Peers → Type 0
LeavesOthers event before after = (other : ℕ) → is_about event other ≡ false → peer_of after other ≡ peer_of before other
