-- What a body asks, with what was gathered of its values.
use Rattle.std.proofs.Common.{◌≡◌, refl, ap}
use Rattle.sender_json.specs.Requests.{request_with}
use Rattle.sender_json.specs.declared.refused.Refusal.TheVariants.{NotJson}
use Rattle.sender_json.specs.declared.request.Request.{Request}
use Rattle.sender_json.specs.declared.request.Request.TheVariants as request
use Rattle.agent_json.specs.Requests.{agent_request_with}
use Rattle.agent_json.specs.declared.request.AgentRequest.{AgentRequest}
use Rattle.agent_json.specs.declared.request.AgentRequest.TheVariants as agent
use Rattle.intake_front.specs.Asking.{agent_ask, ask_by, ask_with}
use Rattle.intake_front.specs.declared.asking.Ask.{Ask}
use Rattle.intake_front.specs.declared.asking.Ask.TheVariants.{Refused, Values}

module _ {V D A B : Type 0} (f : V → A) (g : D → B) where
  pub asks_not_json : (r : Request V) (s : AgentRequest D) → request.NotJson ≡ request_with f r → Refused NotJson ≡ ask_with f g (ask_by r s)
  asks_not_json request.NotJson s e = refl
  asks_not_json request.Other s e = cc
  asks_not_json (request.Values all) s e = cc

  pub asks_values : (r : Request V) (s : AgentRequest D) (taken : A) → request.Values taken ≡ request_with f r → Values taken ≡ ask_with f g (ask_by r s)
  asks_values request.NotJson s taken e = cc
  asks_values request.Other s taken e = cc
  asks_values (request.Values all) s taken e = let same : taken ≡ f all = cc in ap Values same

  agent_asks : (s : AgentRequest D) → agent_ask (agent_request_with g s) ≡ ask_with f g (agent_ask s)
  agent_asks agent.Neither = refl
  agent_asks (agent.Checks host) = refl
  agent_asks (agent.Data all) = refl

  pub asks_other : (r : Request V) (s : AgentRequest D) (found : AgentRequest B) (made : Ask A B) → request.Other ≡ request_with f r → found ≡ agent_request_with g s → made ≡ agent_ask found
      → made ≡ ask_with f g (ask_by r s)
  asks_other request.NotJson s found made e is m = cc
  asks_other request.Other s found made e is m = rw (m, is) (agent_asks s)
  asks_other (request.Values all) s found made e is m = cc
