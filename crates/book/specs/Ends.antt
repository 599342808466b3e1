-- What contracts see of a ring and of its two ends.
use Rattle.std.specs.Prelude.{◌≡◌, ℕ, List, []}
use denote.RawPtr.{Ptr, null_ptr}
use Rattle.rtrb.specs.Shared.{Names}
use Rattle.rtrb.specs.Ring.{sent, received, known_items, known_free, producer_capacity, consumer_capacity, IsPair}
use Rattle.rtrb.specs.declared.end.End.{End}
use Rattle.rtrb.specs.declared.producer.Producer.{Producer}
use Rattle.rtrb.specs.declared.consumer.Consumer.{Consumer}
use Rattle.zbx_types.specs.declared.entries.Numbered.{Numbered}

-- by what a ring is known
pub record RingId : Type 0 where
  pub words : Ptr
  pub slots : Ptr
  pub names : Names

-- the ring that an end is of
abbrev pub ring_of : {T A P : Type 0} → End T A P → RingId
ring_of e = record { words = e.words; slots = e.slots; names = e.names }

-- no ring is known by this
abbrev pub no_ring : RingId
no_ring = record { words = null_ptr; slots = null_ptr; names = (0, (0, 0)) }

-- the two ends of one ring that nothing was sent through yet, and whose slots are all known to be free
pub record AreFresh {T A P : Type 0} (producer : Producer T A P) (consumer : Consumer T A P) : Type 0 where
  pub pair : IsPair producer consumer
  pub unsent : sent producer ≡ []
  pub unreceived : received consumer ≡ []
  pub unknown : known_items consumer ≡ []
  pub free : known_free producer ≡ producer_capacity producer
  pub capacity : consumer_capacity consumer ≡ producer_capacity producer

-- a ring that nothing was sent through yet: by what it is known, and for how many entries it has room
pub record RingView : Type 0 where
  pub id : RingId
  pub capacity : ℕ

-- the end that sends: the entries sent so far, how many slots it knows to be free, and how many there are
pub record HeadView : Type 0 where
  pub sent : List Numbered
  pub free : ℕ
  pub capacity : ℕ

-- the end that receives: the entries received so far, those that it knows to be next, and how many slots there are
pub record EndView : Type 0 where
  pub received : List Numbered
  pub known : List Numbered
  pub capacity : ℕ
