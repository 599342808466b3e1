-- How replies go out, and connections are closed.
use Rattle.std.specs.Prelude.{◌≡◌, ◌⊎◌, ◌≤◌, ◌+◌, ◌-◌, ◌^◌, min, ℕ, List, [], ◌∷◌, ◌++◌, length, map, take, Option, Some, None, IfSome}
use Rattle.std.specs.Option.{option_to_list}
use Rattle.outside.specs.Causes.{Rose}
use Rattle.outside.specs.Tells.{WireTells}
use Rattle.intake_front.specs.Served.{closing}
use Rattle.intake_front.specs.declared.answer.Answer.{Answer}
use Rattle.intake_front.specs.declared.answer.Reply.{Reply}
use Rattle.intake_front.specs.declared.answer.Stop.{Stop}

-- some of a reply from the front was sent, or nothing
abbrev pub SendsPart : List (ℕ × List ℕ) → Option (List (ℕ × List ℕ)) → Reply → Type 0
SendsPart before after r =
    (after ≡ Some before) ⊎ ((n : ℕ) × (n ≤ length r.bytes) × (after ≡ Some (before ++ (r.conn, take n r.bytes) ∷ [])))

-- a reply was sent whole; or the count of failed sends rose, and some of it from the front was sent, or nothing
abbrev pub SendsReply : WireTells → WireTells → Option Reply → List (ℕ × List ℕ) → Type 0
SendsReply wire wire' None before = wire'.sent ≡ Some before
SendsReply wire wire' (Some r) before =
    (wire'.sent ≡ Some (before ++ (r.conn, r.bytes) ∷ []))
    ⊎ (Rose wire.unsent wire'.unsent × SendsPart before wire'.sent r)

-- these were closed, where the wire tells the closed connections and still does; it doesn't begin to tell
abbrev pub Shuts : Option (List (ℕ × ℕ)) → Option (List (ℕ × ℕ)) → List (ℕ × ℕ) → Type 0
Shuts None after shut = after ≡ None
Shuts (Some before) after shut = IfSome after (λ now. now ≡ before ++ shut)

-- what a wire shows of an answer: its reply was sent, and then its connection closed
pub record Delivers (wire wire' : WireTells) (answer : Answer) : Type 0 where
  pub reply : IfSome wire.sent (SendsReply wire wire' answer.reply)
  pub sends : wire'.sends ≡ wire.sends + length (option_to_list answer.reply)
  pub shut : Shuts wire.closed wire'.closed (closing wire'.sends answer.shut)
  pub later : wire.unsent ≤ wire'.unsent

-- Replies and what was sent of them, in order: each whole, except for so many of which some from the front was sent, or
-- nothing.
pub data Delivered : List Reply → List (ℕ × List ℕ) → ℕ → Type 0 where
  none : Delivered [] [] 0
  whole : {rs : List Reply} {parts : List (ℕ × List ℕ)} {lost : ℕ} (r : Reply) → Delivered rs parts lost
      → Delivered (rs ++ r ∷ []) (parts ++ (r.conn, r.bytes) ∷ []) lost
  cut : {rs : List Reply} {parts : List (ℕ × List ℕ)} {lost : ℕ} (r : Reply) (n : ℕ) → n ≤ length r.bytes
      → Delivered rs parts lost
      → Delivered (rs ++ r ∷ []) (parts ++ (r.conn, take n r.bytes) ∷ []) (lost + 1)
  dropped : {rs : List Reply} {parts : List (ℕ × List ℕ)} {lost : ℕ} (r : Reply) → Delivered rs parts lost
      → Delivered (rs ++ r ∷ []) parts (lost + 1)

-- a count rose by so many, or stands at its last value
abbrev pub RoseBy : ℕ → ℕ → ℕ → Type 0
RoseBy before by now = min (before + by) (2 ^ 64 - 1) ≤ now

-- where a wire tells what is sent, the replies were sent, but for as many as the count of failed sends rose by
abbrev pub Sent : WireTells → WireTells → List Reply → Type 0
Sent wire wire' replies =
    IfSome wire.sent (λ before. (parts : List (ℕ × List ℕ)) × (lost : ℕ) × (wire'.sent ≡ Some (before ++ parts))
    × Delivered replies parts lost × RoseBy wire.unsent lost wire'.unsent)

-- closings, each with how many calls of send stood before it, where so many stood before them all
abbrev pub counted_from : ℕ → List (ℕ × ℕ) → List (ℕ × ℕ)
counted_from sends shut = map (λ c. (c.0, sends + c.1)) shut

-- What a wire shows of replies and closings: each reply was one call of send, and each closing stands after as many of
-- them as it says.
pub record Shows (wire wire' : WireTells) (replies : List Reply) (shut : List (ℕ × ℕ)) : Type 0 where
  pub sent : Sent wire wire' replies
  pub sends : wire'.sends ≡ wire.sends + length replies
  pub closed : Shuts wire.closed wire'.closed (counted_from wire.sends shut)

-- what answers hand out in their order: the replies; the connections to close, each with how many of these replies
-- stand before its closing; and why the last of them is the last event
pub record Outgoing : Type 0 where
  pub replies : List Reply
  pub shut : List (ℕ × ℕ)
  pub stop : Option Stop

-- nothing is handed out
abbrev pub nothing_out : Outgoing
nothing_out = record { replies = []; shut = []; stop = None }

-- with one more answer: its reply stands before the closing of its connection
abbrev pub with_answer : Outgoing → Answer → Outgoing
with_answer o a =
    let replies = o.replies ++ option_to_list a.reply in
    record { replies = replies; shut = o.shut ++ closing (length replies) a.shut; stop = a.stop }

-- with more answers
abbrev pub outgoing_from : Outgoing → List Answer → Outgoing
outgoing_from o [] = o
outgoing_from o (a ∷ rest) = outgoing_from (with_answer o a) rest

-- what answers hand out
abbrev pub outgoing : List Answer → Outgoing
outgoing answers = outgoing_from nothing_out answers
