-- The workload of a number: a configuration, and values that are drawn from the number.
use Rattle.std.specs.Prelude.{ℕ, zero, suc, ◌+◌, ◌-◌, ◌*◌, ◌/◌, ◌%◌, ◌^◌, min, List, [], ◌∷◌, ◌++◌, codes}
use Rattle.std.specs.Fmt.{decimal}
use Rattle.zbx_types.specs.Frames.{frame}
use Rattle.outside.specs.Tells.{WireTells}
use Rattle.outside.specs.declared.event.WireEvent.{WireEvent}
use Rattle.outside.specs.declared.event.WireEvent.TheVariants.{Opened, Piece, Closed}
use Rattle.outside.specs.declared.work.Work.{Work}
use Rattle.outside.specs.declared.work.Stage.{Stage}
use Rattle.outside.specs.declared.work.Stage.TheVariants.{Opening, Bringing, Ended}

-- what stands between two of a list, where so many more follow
abbrev pub comma : ℕ → List ℕ
comma zero = []
comma (suc more) = codes ","

-- so many texts with commas between, each of a number that follows from the one before
abbrev pub listed : (ℕ → List ℕ) → (ℕ → ℕ) → ℕ → ℕ → List ℕ
listed text next at zero = []
listed text next at (suc more) = text at ++ comma more ++ listed text next (next at) more

-- ---- the configuration

-- an item of the template
abbrev pub item_text : ℕ → List ℕ
item_text j = codes "{\"key\":\"k" ++ decimal j ++ codes "\"}"

-- the trigger t1 depends on t0, and no other on any
abbrev pub depends_text : ℕ → List ℕ
depends_text (suc zero) = codes ",\"depends\":[{\"host\":\"\",\"trigger\":\"t0\"}]"
depends_text j = []

-- a trigger of the template
abbrev pub trigger_text : ℕ → List ℕ
trigger_text j =
    codes "{\"name\":\"t" ++ decimal j ++ codes "\",\"expression\":\"avg(/w/k" ++ decimal j ++ codes ",#5)>80\""
    ++ codes ",\"recovery\":\"recovery_expression\",\"recovery_expression\":\"avg(/w/k" ++ decimal j ++ codes ",#5)<60\""
    ++ codes ",\"severity\":" ++ decimal (j % 6) ++ depends_text j ++ codes "}"

-- a host
abbrev pub host_text : ℕ → List ℕ
host_text i = codes "{\"name\":\"h" ++ decimal i ++ codes "\",\"groups\":[\"g\"],\"templates\":[\"w\"]}"

-- the action
abbrev pub action_text : List ℕ
action_text =
    codes "{\"name\":\"act\",\"conditions\":[{\"kind\":\"severity\",\"op\":\"ge\",\"value\":4}],\"step_duration\":\"60s\""
    ++ codes ",\"operations\":[{\"from\":1,\"to\":0,\"recipients\":[\"ops\"],\"subject\":\"{EVENT.NAME}\",\"body\":\"\"}]"
    ++ codes ",\"recovery\":[{\"recipients\":[\"ops\"],\"subject\":\"{EVENT.NAME}\",\"body\":\"\"}]}"

-- the configuration: a template with ten items and ten triggers, its fifty hosts, and an action
unfoldable pub work_text : List ℕ
work_text =
    codes "{\"templates\":[{\"name\":\"w\",\"items\":[" ++ listed item_text (λ j. j + 1) 0 10
    ++ codes "],\"triggers\":[" ++ listed trigger_text (λ j. j + 1) 0 10
    ++ codes "]}],\"hosts\":[" ++ listed host_text (λ i. i + 1) 0 50
    ++ codes "],\"actions\":[" ++ action_text ++ codes "]}"

-- ---- the values

-- the state of the draws behind one more
unfoldable pub drawn : ℕ → ℕ
drawn s = (s * 6364136223846793005 + 1442695040888963407) % 18446744073709551616

-- what is drawn where the state is this one
unfoldable pub draw : ℕ → ℕ
draw s = s / 8589934592

-- the state behind a value, which takes three draws
abbrev pub behind_value : ℕ → ℕ
behind_value s = drawn (drawn (drawn s))

-- a value: its host, its key and itself are the three draws behind this state
unfoldable pub value_text : ℕ → List ℕ
value_text s =
    (codes "{\"host\":\"h" ++ decimal (draw (drawn s) % 50))
    ++ (codes "\",\"key\":\"k" ++ decimal (draw (drawn (drawn s)) % 10))
    ++ (codes "\",\"value\":\"" ++ decimal (draw (behind_value s) % 100))
    ++ codes "\"}"

-- the state behind so many values
abbrev pub behind_values : ℕ → ℕ → ℕ
behind_values s zero = s
behind_values s (suc more) = behind_values (behind_value s) more

-- the request with so many values
abbrev pub request_text : ℕ → ℕ → List ℕ
request_text s count = codes "{\"request\":\"sender data\",\"data\":[" ++ listed value_text behind_value s count ++ codes "]}"

-- ---- the events

-- how many of the values that are left the next frame holds
abbrev pub held : ℕ → ℕ
held left = min left 250

-- the moment at which a connection opens: connection f + 1 opens at second 1,000,000 + f
abbrev pub opening : ℕ → ℕ
opening conn = (999999 + conn) * 1000000000

-- a connection brings its frame, in one piece
abbrev pub brought : ℕ → ℕ → ℕ → WireEvent
brought conn s left = Piece conn (frame (request_text s (held left))) (opening conn)

-- the events of so many more frames behind so many connections, and the end at the moment of the last one
abbrev pub frames_from : ℕ → ℕ → ℕ → ℕ → List WireEvent
frames_from zero conn s left = Closed (opening conn) ∷ []
frames_from (suc more) conn s left =
    Opened (conn + 1) (opening (conn + 1)) ∷ brought (conn + 1) s left
    ∷ frames_from more (conn + 1) (behind_values s (held left)) (left - 250)

-- the events of a number and so many values: 250 a frame, or what is left
unfoldable pub work_events : ℕ → ℕ → List WireEvent
work_events number values = frames_from ((values + 249) / 250) 0 number values

-- the events that are left at a stage, where so many frames follow so many connections
abbrev pub events_at : Stage → ℕ → ℕ → ℕ → ℕ → List WireEvent
events_at Opening more conn s left = frames_from more conn s left
events_at Bringing more conn s left = brought conn s left ∷ frames_from more conn (behind_values s (held left)) (left - 250)
events_at Ended more conn s left = []

-- the events that are left of a workload
abbrev pub events_of : Work → List WireEvent
events_of work = events_at work.stage work.frames work.opened work.state work.left

-- ---- the wire

-- a workload's wire: what it tells, and how many calls memory refused
pub record Working : Type 0 where
  pub tells : WireTells
  pub refused : ℕ
