-- The request of an agent, with what is gathered of its elements.
use Rattle.std.proofs.Common.{◌≡◌, ℕ, List, true, false, Bool, refl, cond}
use Rattle.std.specs.Prelude.{Option, Some, None, option_map, option_and_then, codes}
use Rattle.serde_json.specs.Data.{Data, Items}
use Rattle.serde_json.specs.Find.{get, as_str, as_array}
use Rattle.sender_json.specs.declared.body.Body.{Body}
use Rattle.sender_json.specs.Requests.{all_by, gathered_by, body_of, body_by}
use Rattle.agent_json.specs.declared.request.AgentAsked.{AgentAsked}
use Rattle.agent_json.specs.declared.request.AgentRequest.{AgentRequest}
use Rattle.agent_json.specs.declared.request.AgentRequest.TheVariants.{Neither, Checks, Data as DataOf}
use Rattle.agent_json.specs.Requests.{agent_asked_of, is_text, data_or_neither, agent_request, request_or_neither, agent_request_with}

module _ {T : Type 0} (gather : List AgentAsked → T) where
  data-gathered : (o : Option Items) → data_or_neither (option_map (gathered_by gather agent_asked_of) o) ≡ agent_request_with gather (data_or_neither (option_map (all_by agent_asked_of) o))
  data-gathered None = refl
  data-gathered (Some ds) = refl

  by_name : (checks brings : Bool) (host : Option (List ℕ)) (o : Option Items)
      → cond checks (Checks host) (cond brings (data_or_neither (option_map (gathered_by gather agent_asked_of) o)) Neither)
      ≡ agent_request_with gather (cond checks (Checks host) (cond brings (data_or_neither (option_map (all_by agent_asked_of) o)) Neither))
  by_name true brings host o = refl
  by_name false true host o = data-gathered o
  by_name false false host o = refl

  made-gathered : (d : Data) → agent_request (body_by (gathered_by gather agent_asked_of) d) ≡ agent_request_with gather (agent_request (body_of agent_asked_of d))
  unfolding body_by agent_request
  made-gathered d =
      let name = option_and_then as_str (get (codes "request") d) in
      by_name (is_text (codes "active checks") name) (is_text (codes "agent data") name) (option_and_then as_str (get (codes "host") d)) (option_and_then as_array (get (codes "data") d))

  -- what is made of what was read of a body is the request that it is
  pub some_read : (json : Option Data) (found : Body T) (r : AgentRequest T) → Some found ≡ option_map (body_by (gathered_by gather agent_asked_of)) json → r ≡ agent_request found
      → r ≡ agent_request_with gather (request_or_neither (option_map (body_of agent_asked_of) json))
  some_read None found r e made = cc
  some_read (Some d) found r e made = let same : found ≡ body_by (gathered_by gather agent_asked_of) d = cc in rw (made, same) (made-gathered d)

  -- nothing is read only of a body that isn't JSON
  pub none_read : (json : Option Data) → None ≡ option_map (body_by (gathered_by gather agent_asked_of)) json
      → Neither ≡ agent_request_with gather (request_or_neither (option_map (body_of agent_asked_of) json))
  none_read None e = refl
  none_read (Some d) e = cc

-- a list of what is gathered is the list itself
pub listed : {A : Type 0} (r s : AgentRequest A) → r ≡ agent_request_with (λ all. all) s → r ≡ s
listed r Neither e = e
listed r (Checks host) e = e
listed r (DataOf all) e = e
