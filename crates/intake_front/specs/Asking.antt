-- What a body asks: what it is as a request of a sender, and else as one of an agent.
use Rattle.std.specs.Prelude.{ℕ, List}
use Rattle.zbx_types.specs.declared.conf.Conf.{Conf}
use Rattle.sender_json.specs.declared.asked.Asked.{Asked}
use Rattle.sender_json.specs.Requests.{request_of}
use Rattle.sender_json.specs.declared.refused.Refusal.TheVariants.{NotJson, Unsupported}
use Rattle.sender_json.specs.declared.request.Request.{Request}
use Rattle.sender_json.specs.declared.request.Request.TheVariants as request
use Rattle.agent_json.specs.Requests.{agent_request_of}
use Rattle.agent_json.specs.declared.request.AgentAsked.{AgentAsked}
use Rattle.agent_json.specs.declared.request.AgentRequest.{AgentRequest}
use Rattle.agent_json.specs.declared.request.AgentRequest.TheVariants as agent
use Rattle.intake_front.specs.declared.asking.Ask.{Ask}
use Rattle.intake_front.specs.declared.asking.Ask.TheVariants.{Refused, Values, Checks, Data}
use Rattle.intake_front.specs.declared.gathering.Taken.{Taken}
use Rattle.intake_front.specs.Taking.{values_taken, data_taken}

-- what a request of an agent asks
abbrev pub agent_ask : {V D : Type 0} → AgentRequest D → Ask V D
agent_ask agent.Neither = Refused Unsupported
agent_ask (agent.Checks host) = Checks host
agent_ask (agent.Data all) = Data all

-- what a body asks that is a request of a sender, or, where it is another one, of an agent
abbrev pub ask_by : {V D : Type 0} → Request V → AgentRequest D → Ask V D
ask_by request.NotJson r = Refused NotJson
ask_by request.Other r = agent_ask r
ask_by (request.Values all) r = Values all

-- what a body asks
unfoldable pub ask_of : List ℕ → Ask (List Asked) (List AgentAsked)
ask_of body = ask_by (request_of body) (agent_request_of body)

-- what a body asks, with what is made of the values of a sender, and of those of an agent
abbrev pub ask_with : {V D A B : Type 0} → (V → A) → (D → B) → Ask V D → Ask A B
ask_with f g (Refused why) = Refused why
ask_with f g (Values all) = Values (f all)
ask_with f g (Checks host) = Checks host
ask_with f g (Data all) = Data (g all)

-- what a body asks, with what is taken at a moment of the values that it brings
abbrev pub taken_ask : Conf → ℕ → Ask (List Asked) (List AgentAsked) → Ask Taken Taken
taken_ask conf now = ask_with (values_taken conf now) (data_taken conf now)
