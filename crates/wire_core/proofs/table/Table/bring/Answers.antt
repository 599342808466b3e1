use Rattle.std.proofs.Common.{◌≡◌, ℕ, List, Some, sym, ◌++◌, position, remove, slice_set, slice_index_or}
use Rattle.zbx_types.specs.declared.bytes.Bytes.{Bytes}
use Rattle.zbxd_frame.specs.Found.{found}
use Rattle.zbxd_frame.specs.Answers.{Answers}
use Rattle.zbxd_frame.specs.declared.fault.Fault.{Fault}
use Rattle.zbxd_frame.specs.declared.feed.Fed.{Fed}
use Rattle.zbxd_frame.specs.declared.feed.Fed.TheVariants.{More, Frame, Refused}
use Rattle.wire_core.specs.declared.peer.Peer.{Peer}
use Rattle.wire_core.specs.declared.turn.Turn.TheVariants.{Nothing, Shut, Whole}
use Rattle.wire_core.specs.Peers.{Peers, is_of, fresh}
use Rattle.wire_core.specs.Kept.{AreKept, given, peers_in}
use Rattle.wire_core.proofs.PeerLaws.{Comes, comes_short, comes_whole, comes_bad, comes_nowhere}
use Rattle.wire_core.proofs.table.Table.bring.Goals as goal

-- a feed has taken a piece of the peer at a place
record Took (ps taken : Peers) (conn i : ℕ) (piece : List ℕ) (fed : Fed) : Type 0 where
  kept : AreKept ps
  place : Some i ≡ position (is_of conn) ps
  says : (d : Peer) → Answers fed (found ((slice_index_or ps i d).bytes ++ piece))
  after : (d : Peer) → taken ≡ slice_set ps i (given (slice_index_or ps i d) piece)

-- what would stand past the end of the list
past : Peer
past = fresh 0 0

took_more : (ps taken : Peers) (conn i : ℕ) (piece : List ℕ) (fed : Fed) → Took ps taken conn i piece fed → fed ≡ More → Comes ps taken conn piece Nothing
took_more ps taken conn i piece fed took is =
    rw (took.after past) (comes_short ps i conn piece past took.kept (sym took.place) (rw is at took.says past))

took_frame : (ps taken left : Peers) (conn i since : ℕ) (piece : List ℕ) (fed : Fed) (body : Bytes) (rest : ℕ) → Took ps taken conn i piece fed → fed ≡ Frame body rest
    → left ≡ remove taken i → ((d : Peer) → since ≡ (slice_index_or ps i d).since) → Comes ps left conn piece (Whole conn body since)
took_frame ps taken left conn i since piece fed body rest took is gone read =
    let seen = rw is at took.says past in
    rw (gone, took.after past, read past) (comes_whole ps i conn piece past body seen.0 took.kept (sym took.place) seen.1)

took_refused : (ps taken left : Peers) (conn i : ℕ) (piece : List ℕ) (fed : Fed) (fault : Fault) → Took ps taken conn i piece fed → fed ≡ Refused fault
    → left ≡ remove taken i → Comes ps left conn piece (Shut conn)
took_refused ps taken left conn i piece fed fault took is gone =
    rw (gone, took.after past) (comes_bad ps i conn piece past fault took.kept (sym took.place) (rw is at took.says past))

nowhere : (c : goal.In-None) → Comes (peers_in c.self.inside.peers.entries) (peers_in c.self.inside.peers.entries) c.args.conn c.args.piece.now Nothing
nowhere c = comes_nowhere _ _ _ c.self.invariant (sym c.in-None.ensures)

more : (c : goal.In-More) → Comes (peers_in c.self.inside.peers.entries) (peers_in c.feed_at.new.peers.entries) c.args.conn c.args.piece.now Nothing
more c =
    let fed = c.in_ok-feed_at-in-Some.ensures in
    took_more _ _ _ c.in-Some.place _ c.in_ok-feed_at-in-Some.field-0 (record { kept = c.self.invariant; place = c.in-Some.ensures; says = fed.answer; after = fed.after }) c.in-More.is

frame : (c : goal.After-forget) → Comes (peers_in c.self.inside.peers.entries) (peers_in c.forget.new.peers.entries) c.args.conn c.args.piece.now (Whole c.args.conn c.in-Frame.body c.since_at-since.result)
frame c =
    let fed = c.in_ok-feed_at-in-Some.ensures in
    took_frame _ _ _ _ c.in-Some.place _ _ c.in_ok-feed_at-in-Some.field-0 _ _ (record { kept = c.self.invariant; place = c.in-Some.ensures; says = fed.answer; after = fed.after }) c.in-Frame.is c.forget.ensures c.since_at-since.ensures

refused : (c : goal.After-forget-in-Refused) → Comes (peers_in c.self.inside.peers.entries) (peers_in c.forget-in-Refused.new.peers.entries) c.args.conn c.args.piece.now (Shut c.args.conn)
refused c =
    let fed = c.in_ok-feed_at-in-Some.ensures in
    took_refused _ _ _ _ c.in-Some.place _ c.in_ok-feed_at-in-Some.field-0 _ (record { kept = c.self.invariant; place = c.in-Some.ensures; says = fed.answer; after = fed.after }) c.in-Refused.is c.forget-in-Refused.ensures

pub invariant_of-self-in-More : goal.invariant_of-self-in-More
invariant_of-self-in-More c = (more c).kept

pub invariant_of-self-in-Frame : goal.invariant_of-self-in-Frame
invariant_of-self-in-Frame c = (frame c).kept

pub invariant_of-self-in-Refused : goal.invariant_of-self-in-Refused
invariant_of-self-in-Refused c = (refused c).kept

pub returns-in-None : goal.returns-in-None
returns-in-None c = rw (← c.self.view_is) (record { turn = (nowhere c).turns; after = (nowhere c).leaves; err = tt })

pub returns-in-More : goal.returns-in-More
returns-in-More c = rw (← c.self.view_is) (record { turn = (more c).turns; after = (more c).leaves; err = tt })

pub returns-in-Frame : goal.returns-in-Frame
returns-in-Frame c = rw (← c.self.view_is) (record { turn = (frame c).turns; after = (frame c).leaves; err = tt })

pub returns-in-Refused : goal.returns-in-Refused
returns-in-Refused c = rw (← c.self.view_is) (record { turn = (refused c).turns; after = (refused c).leaves; err = tt })
