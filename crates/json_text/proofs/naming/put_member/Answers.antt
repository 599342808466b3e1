use Rattle.std.proofs.Common.{rules, ◌≡◌, ◌∙◌, length, sym, ap, refl, Some, None}
use Rattle.json_text.specs.Json.{put}
use Rattle.json_text.specs.Naming.{place_of}
use Rattle.json_text.specs.Trees.{json_of, members_of}
use Rattle.json_text.specs.declared.tree.Tree.{Tree}
use Rattle.json_text.proofs.Names.{place_within, put_old, put_new, finds_old, finds_new}
use Rattle.json_text.proofs.naming.put_member.Goals as goal

pub index_mut-requires : goal.index_mut-requires
index_mut-requires c =
    let found : place_of c.args.pair.name c.args.members.now.items ≡ Some c.in-Some.place = sym (c.requires c.args.pair.name) ∙ sym c.get.ensures.value ∙ sym c.copied-found.ensures ∙ c.in-Some.is in
    search (rules, place_within c.args.pair.name c.args.members.now.items c.in-Some.place found)

pub returns-in-Some-clause-puts : goal.returns-in-Some-clause-puts
returns-in-Some-clause-puts c =
    let found : place_of c.args.pair.name c.args.members.now.items ≡ Some c.in-Some.place = sym (c.requires c.args.pair.name) ∙ sym c.get.ensures.value ∙ sym c.copied-found.ensures ∙ c.in-Some.is in
    put_old c.args.pair.name c.replace.new.dest c.args.members.now.items c.in-Some.place c.index_mut.result.now found c.index_mut.ensures.value
    ∙ ap (λ (t : Tree). put c.args.pair.name (json_of t) (members_of c.args.members.now.items)) c.replace.ensures.after

pub returns-in-Some-clause-finds : goal.returns-in-Some-clause-finds
returns-in-Some-clause-finds c = finds_old c.args.places.now c.replace.new.dest c.args.members.now.items c.in-Some.place c.index_mut.result.now c.requires c.index_mut.ensures.value

pub returns-in_ok-push-in-Ok-clause-puts : goal.returns-in_ok-push-in-Ok-clause-puts
returns-in_ok-push-in-Ok-clause-puts c =
    let found : place_of c.args.pair.name c.args.members.now.items ≡ None = sym (c.requires c.args.pair.name) ∙ sym c.get.ensures.value ∙ sym c.copied-found.ensures ∙ c.in-None.is in
    ap members_of c.in_ok-push-in-Ok.ensures.items ∙ put_new c.args.pair.name c.args.pair.value c.args.members.now.items found

pub returns-in_ok-push-in-Ok-clause-finds : goal.returns-in_ok-push-in-Ok-clause-finds
returns-in_ok-push-in-Ok-clause-finds c = λ name.
    let found : place_of c.args.pair.name c.args.members.now.items ≡ None = sym (c.requires c.args.pair.name) ∙ sym c.get.ensures.value ∙ sym c.copied-found.ensures ∙ c.in-None.is in
    let many : c.len.result ≡ length c.args.members.now.items = search rules in
    finds_new c.args.places.now c.note.new.places c.args.pair.name c.args.pair.value c.args.members.now.items c.args.pair.name c.len.result c.requires found refl many c.in-Ok.ensures name
    ∙ ap (place_of name) (sym c.in_ok-push-in-Ok.ensures.items)
