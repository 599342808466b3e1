-- The request of a body's value.
use Rattle.std.proofs.Common.{◌≡◌, List, true, false, Bool, refl, cond}
use Rattle.std.specs.Prelude.{Option, Some, None, option_map, option_and_then, codes}
use Rattle.serde_json.specs.Data.{Data, Items}
use Rattle.serde_json.specs.Find.{get, as_str, as_array}
use Rattle.sender_json.specs.declared.asked.Asked.{Asked}
use Rattle.sender_json.specs.declared.body.Body.{Body}
use Rattle.sender_json.specs.declared.request.Request.{Request}
use Rattle.sender_json.specs.declared.request.Request.TheVariants.{NotJson, Other, Values}
use Rattle.sender_json.specs.Requests.{asked_of, all_asked, gathered_by, body_by, is_sender_data, values_or_other, request_made, request_with, sender_request, request_of_json}

module _ {T : Type 0} (gather : List Asked → T) where
  values-gathered : (o : Option Items) → values_or_other (option_map (gathered_by gather asked_of) o) ≡ request_with gather (values_or_other (option_map all_asked o))
  values-gathered None = refl
  values-gathered (Some ds) = refl

  by_name : (b : Bool) (o : Option Items) → cond b (values_or_other (option_map (gathered_by gather asked_of) o)) Other ≡ request_with gather (cond b (values_or_other (option_map all_asked o)) Other)
  by_name true o = values-gathered o
  by_name false o = refl

  pub made-gathered : (d : Data) → request_made (body_by (gathered_by gather asked_of) d) ≡ request_with gather (sender_request d)
  unfolding body_by sender_request
  made-gathered d = by_name (is_sender_data (option_and_then as_str (get (codes "request") d))) (option_and_then as_array (get (codes "data") d))

  -- what is made of what was read of a body is the request that it is
  pub some_read : (json : Option Data) (found : Body T) (r : Request T) → Some found ≡ option_map (body_by (gathered_by gather asked_of)) json → r ≡ request_made found
      → r ≡ request_with gather (request_of_json json)
  some_read None found r e made = cc
  some_read (Some d) found r e made = let same : found ≡ body_by (gathered_by gather asked_of) d = cc in rw (made, same) (made-gathered d)

  -- nothing is read only of a body that isn't JSON
  pub none_read : (json : Option Data) → None ≡ option_map (body_by (gathered_by gather asked_of)) json → NotJson ≡ request_with gather (request_of_json json)
  none_read None e = refl
  none_read (Some d) e = cc

-- a list of what is gathered is the list itself
pub listed : {A : Type 0} (r s : Request A) → r ≡ request_with (λ all. all) s → r ≡ s
listed r NotJson e = e
listed r Other e = e
listed r (Values all) e = e
