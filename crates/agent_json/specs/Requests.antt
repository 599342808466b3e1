-- The request of an agent that a body is, by the reading of JSON that `serde_json` states.
use Rattle.std.specs.Prelude.{ℕ, Bool, false, List, Option, Some, None, if◌then◌else◌, codes}
use Rattle.std.specs.Option.{option_map}
use Rattle.std.specs.Str.{bytes_eq}
use Rattle.serde_json.specs.Data.{Data}
use Rattle.json_form.specs.Json.{json_of}
use Rattle.sender_json.specs.Requests.{asked_of, is_unsupported, body_of}
use Rattle.sender_json.specs.declared.body.Body.{Body}
use Rattle.agent_json.specs.declared.request.AgentAsked.{AgentAsked}
use Rattle.agent_json.specs.declared.request.AgentRequest.{AgentRequest}
use Rattle.agent_json.specs.declared.request.AgentRequest.TheVariants.{Neither, Checks, Data as DataOf}

-- an element of agent data: its asked value, and whether its `state` is the number 1
unfoldable pub agent_asked_of : Data → AgentAsked
agent_asked_of d = record { asked = asked_of d; unsupported = is_unsupported d }

-- there is a text, and it is this one
abbrev pub is_text : List ℕ → Option (List ℕ) → Bool
is_text wanted None = false
is_text wanted (Some text) = bytes_eq text wanted

-- the elements, or no request where there is no list of them
abbrev pub data_or_neither : {T : Type 0} → Option T → AgentRequest T
data_or_neither None = Neither
data_or_neither (Some all) = DataOf all

-- the request that a body makes, by what is read of it
unfoldable pub agent_request : {T : Type 0} → Body T → AgentRequest T
agent_request body =
    if is_text (codes "active checks") body.request then Checks body.host
    else if is_text (codes "agent data") body.request then data_or_neither body.elements else Neither

-- the request that is made of what is read, none where the body isn't JSON
abbrev pub request_or_neither : {T : Type 0} → Option (Body T) → AgentRequest T
request_or_neither None = Neither
request_or_neither (Some body) = agent_request body

-- a request with what is made of its elements
abbrev pub agent_request_with : {A B : Type 0} → (A → B) → AgentRequest A → AgentRequest B
agent_request_with f Neither = Neither
agent_request_with f (Checks host) = Checks host
agent_request_with f (DataOf all) = DataOf (f all)

-- the request of an agent that a body is
unfoldable pub agent_request_of : List ℕ → AgentRequest (List AgentAsked)
agent_request_of body = request_or_neither (option_map (body_of agent_asked_of) (json_of body))
