-- Sinks that grow.
use Rattle.std.proofs.Common.{◌≡◌, ℕ, ◌+◌, List, [], ◌++◌, length, ◌∙◌, length-append, arith}
use Rattle.std.specs.Io.KnownBytes.{Keeps}
use Rattle.std.proofs.KnownBytes.{Appends-nil, Appends-trans, Appends-kept}
use Rattle.outside.specs.Tells.{SinkTells}
use Rattle.whole_texts.specs.Writes.{Grew}

pub grew_none : (sink : SinkTells) → Grew sink sink []
grew_none sink = record { bytes = Appends-nil sink.bytes; size = omega arith }

-- a sink that failed grew no more
pub grew_kept : (a b c : SinkTells) (bs : List ℕ) → Grew a b bs → Keeps b.bytes c.bytes → c.held ≡ b.held → Grew a c bs
grew_kept a b c bs p kept same = record { bytes = Appends-kept a.bytes b.bytes c.bytes bs p.bytes kept; size = same ∙ p.size }

-- bytes, and more after them
pub grew_more : (a b c : SinkTells) (bs cs : List ℕ) → Grew a b bs → Grew b c cs → Grew a c (bs ++ cs)
grew_more a b c bs cs p q = record { bytes = Appends-trans a.bytes b.bytes c.bytes bs cs p.bytes q.bytes; size = omega (arith, q.size, p.size, length-append bs cs) }
