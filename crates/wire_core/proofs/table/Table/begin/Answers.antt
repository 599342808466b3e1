use Rattle.std.proofs.Common.{◌≡◌, ℕ, List, None, refl, sym, position, length, false, ◌<◌, ◌≤◌, arith}
use Rattle.std.proofs.lemmas.List.{length-map}
use Rattle.wire_core.specs.Kept.{peers_in}
use Rattle.wire_core.specs.declared.peer.Peer.{Peer}
use Rattle.wire_core.specs.declared.peer.Opened.{Opened}
use Rattle.wire_core.specs.Peers.{Peers, is_of, is_there, fresh}
use Rattle.wire_core.proofs.PeerLaws.{place_found, place_none, found_nothing, AreKept-set, AreKept-push, reopened, joined, no_room, room_again}
use Rattle.wire_core.proofs.table.Table.begin.Goals as goal

absent : (ps : Peers) (conn : ℕ) → None ≡ position (is_of conn) ps → is_there ps conn ≡ false
absent ps conn at = (place_none ps conn (sym at)).1

few_peers : (es : List (ℕ × Opened)) → length es < 128 → length (peers_in es) < 128
few_peers es few = rw length-map few

all_peers : (es : List (ℕ × Opened)) → 128 ≤ length es → 128 ≤ length (peers_in es)
all_peers es full = rw length-map full

pub invariant_of-self : goal.invariant_of-self
invariant_of-self c =
    let d : Peer = fresh 0 0 in
    let h = place_found _ c.args.conn c.in-Some.place d (sym c.in-Some.ensures) in
    rw (c.begin_anew.ensures d) (AreKept-set _ _ _ d c.self.invariant h.0 refl (rw c.new.ensures found_nothing))

pub invariant_of-self-then-len-lt-MOST_CONNECTIONS : goal.invariant_of-self-then-len-lt-MOST_CONNECTIONS
invariant_of-self-then-len-lt-MOST_CONNECTIONS c =
    let room = few_peers c.self.inside.peers.entries (omega arith) in
    rw c.in_ok-join-in-None.ensures.after (AreKept-push _ _ c.self.invariant room (absent (peers_in c.self.inside.peers.entries) c.args.conn c.in-None.ensures) (rw c.new.ensures found_nothing))

pub returns-in-Some-clause-turn : goal.returns-in-Some-clause-turn
returns-in-Some-clause-turn c =
    let h = place_found (peers_in c.self.inside.peers.entries) c.args.conn c.in-Some.place (fresh 0 0) (sym c.in-Some.ensures) in
    rw (← c.self.view_is, room_again _ _ h.3)

pub returns-in-Some-clause-after : goal.returns-in-Some-clause-after
returns-in-Some-clause-after c =
    rw (c.begin_anew.ensures (fresh 0 0), ← c.self.view_is) (reopened _ _ _ _ _ (fresh 0 0) c.self.invariant.apart (sym c.in-Some.ensures) c.new.ensures)

pub returns-in_ok-join-in-None-clause-after : goal.returns-in_ok-join-in-None-clause-after
returns-in_ok-join-in-None-clause-after c =
    let room = few_peers c.self.inside.peers.entries (omega arith) in
    rw (c.in_ok-join-in-None.ensures.after, ← c.self.view_is) (joined _ _ _ _ (absent (peers_in c.self.inside.peers.entries) c.args.conn c.in-None.ensures) room c.new.ensures)

pub returns-else-len-lt-MOST_CONNECTIONS-clause-turn : goal.returns-else-len-lt-MOST_CONNECTIONS-clause-turn
returns-else-len-lt-MOST_CONNECTIONS-clause-turn c =
    let full = all_peers c.self.inside.peers.entries (omega arith) in
    rw (← c.self.view_is, no_room (peers_in c.self.inside.peers.entries) c.args.conn (absent (peers_in c.self.inside.peers.entries) c.args.conn c.in-None.ensures) full)

pub returns-else-len-lt-MOST_CONNECTIONS-clause-after : goal.returns-else-len-lt-MOST_CONNECTIONS-clause-after
returns-else-len-lt-MOST_CONNECTIONS-clause-after c =
    let full = all_peers c.self.inside.peers.entries (omega arith) in
    rw (← c.self.view_is, no_room (peers_in c.self.inside.peers.entries) c.args.conn (absent (peers_in c.self.inside.peers.entries) c.args.conn c.in-None.ensures) full)
