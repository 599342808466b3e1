-- What sessions are to do for notes.
use Rattle.std.proofs.Common.{◌≡◌, ◌∙◌, ℕ, ◌+◌, ◌<◌, ◌≤◌, List, [], ◌∷◌, ◌++◌, length, map, string_bytes, take, slice_index_or, sym, ap, subst, arith}
use Rattle.std.specs.Prelude.{All, String}
use Rattle.std.specs.declared.alloc.Global.{Global}
use Rattle.std.proofs.lemmas.List.{length-map, map-append, take_more, take_all}
use Rattle.std.proofs.lemmas.List.Elements.{All-from_get_or}
use Rattle.alert_media.specs.declared.media.Media.{Media}
use Rattle.alert_queue.specs.Law.{AreFresh}
use Rattle.alert_queue.specs.New.{IsNew}
use Rattle.alert_queue.specs.Queues.{Queued}
use Rattle.alert_queue.specs.declared.types.NoteMark.{NoteMark}
use Rattle.alert_run.specs.declared.types.Note.{Note}
use Rattle.alert_sessions.specs.declared.orders.Orders.{Orders}
use Rattle.server_jobs.specs.Tries.{medium_for}
use Rattle.server_jobs.specs.Numbering.{IsNumbering, marked_in}
use Rattle.server_jobs.specs.Sessions.{AreOrders, command_for}
use Rattle.server_jobs.specs.declared.recipients.Numbered.{Numbered}

pub homes_told : (media : Media) (notes : List Note) (n : Numbered) → IsNumbering media notes n → length n.homes.items ≡ length notes
homes_told media notes n is = is.numbered.count

pub homes_there : (media : Media) (notes : List Note) (n : Numbered) (commands : List (List ℕ)) → IsNumbering media notes n → commands ≡ map (command_for media) n.recipients
    → All (λ home. home < length commands) n.homes.items
homes_there media notes n commands is are = All-from_get_or (λ (home : ℕ). home < length commands) n.homes.items 0 (λ i inside.
    let low = (is.numbered.there i (omega (arith, inside, is.numbered.count))).0 in omega (arith, low, ap length are, length-map n.recipients (command_for media)))

-- the command of a name more
pub command_next : (media : Media) (names : List (String Global)) (i : ℕ) (name : String Global) (recipient command : List ℕ) (old new : List (List ℕ)) → i < length names → name ≡ slice_index_or names i name
    → recipient ≡ string_bytes name → command ≡ (medium_for media recipient).command
    → old ≡ map (command_for media) (map string_bytes (take i names)) → new ≡ old ++ command ∷ [] → new ≡ map (command_for media) (map string_bytes (take (i + 1) names))
command_next media names i name recipient command old new inside is of found so_far pushed =
    let more : take (i + 1) names ≡ take i names ++ name ∷ [] = take_more names i name inside ∙ ap (λ (x : String Global). take i names ++ x ∷ []) (sym is) in
    pushed ∙ ap (λ (l : List (List ℕ)). l ++ command ∷ []) so_far
    ∙ ap (λ (c : List ℕ). map (command_for media) (map string_bytes (take i names)) ++ c ∷ []) (found ∙ ap (command_for media) of)
    ∙ sym (map-append (command_for media) (map string_bytes (take i names)) (string_bytes name ∷ [])) ∙ ap (map (command_for media)) (sym (map-append string_bytes (take i names) (name ∷ [])))
    ∙ ap (λ (l : List (String Global)). map (command_for media) (map string_bytes l)) (sym more)

pub command_all : (media : Media) (names : List (String Global)) (i : ℕ) (commands : List (List ℕ)) → length names ≤ i
    → commands ≡ map (command_for media) (map string_bytes (take i names)) → commands ≡ map (command_for media) (map string_bytes names)
command_all media names i commands past so_far = so_far ∙ ap (λ (l : List (String Global)). map (command_for media) (map string_bytes l)) (take_all i names past)

-- a queue and orders that were made of numbered notes
pub ordered : (media : Media) (notes slice : List Note) (marks : List NoteMark) (n : Numbered) (queue : Queued) (orders : Orders) (names : List (String Global)) → slice ≡ notes → IsNumbering media slice n
    → IsNew n.homes.items (marked_in (length slice) marks) n.kinds.items queue → AreFresh queue → orders.notes ≡ notes → orders.homes.items ≡ n.homes.items
    → map string_bytes names ≡ n.recipients → orders.commands ≡ map (command_for media) (map string_bytes names) → AreOrders media notes marks queue orders
ordered media notes slice marks n queue orders names same is new fresh notes_are homes_are names_are commands_are = record {
  numbered = n;
  numbering = subst (λ (ns : List Note). IsNumbering media ns n) same is;
  is_new = subst (λ (ns : List Note). IsNew n.homes.items (marked_in (length ns) marks) n.kinds.items queue) same new;
  fresh = fresh;
  notes_are = notes_are;
  homes_are = homes_are;
  commands_are = commands_are ∙ ap (map (command_for media)) names_are;
}
