-- Messages, piece by piece.
use Rattle.std.proofs.Common.{◌≡◌, ℕ, ◌≤◌, List, [], ◌∷◌, ◌++◌, length, map, refl, sym, ap, subst, ◌∙◌, arith, Option, Some, None, option_map, codes}
use Rattle.std.specs.List.{flat_map}
use Rattle.std.specs.Option.{option_or}
use Rattle.std.proofs.lemmas.List.{append-nil}
use Rattle.std.proofs.lemmas.List.Concat.{flat_map-append}
use Rattle.zbx_types.specs.declared.conf.Conf.{Conf}
use Rattle.zbx_types.specs.declared.entries.Rec.{Rec}
use Rattle.event_text.specs.Pieces.{behind, pieces_in, HasNo, EndsWith}
use Rattle.event_text.specs.Words.{named, event_word, kind_word, begin_word, end_word, place_word, word_at, is_told, told, told_at}
use Rattle.event_text.specs.Messages.{word_text, message_macro, byte_text, resolved}
use Rattle.event_text.specs.declared.words.Word.{Word}
use Rattle.event_text.specs.declared.words.Word.TheVariants.{Id, Name, Severity, Tags, Date, Time, RecoveryDate, RecoveryTime, Host, Trigger}
use Rattle.event_text.proofs.PieceLemmas.{plain_pieces, none_in, macro_step, brace_step, ends_shorter}
use Rattle.event_text.proofs.FormLemmas.{Ends, or_ends, then_ends, alone_map, behind_ends, test_ends}

named_ends : (meaning : Word) (word text : List ℕ) → Ends text (named meaning word text)
named_ends meaning word text = alone_map text (λ _. meaning) (behind word text) (behind_ends word text)

event_ends : (text : List ℕ) → Ends text (event_word text)
unfolding event_word
event_ends text =
    or_ends text (named Id (codes "EVENT.ID}") text) (named Name (codes "EVENT.NAME}") text)
    (named_ends Id (codes "EVENT.ID}") text) (named_ends Name (codes "EVENT.NAME}") text)

kind_ends : (text : List ℕ) → Ends text (kind_word text)
unfolding kind_word
kind_ends text =
    or_ends text (named Severity (codes "EVENT.SEVERITY}") text) (named Tags (codes "EVENT.TAGS}") text)
    (named_ends Severity (codes "EVENT.SEVERITY}") text) (named_ends Tags (codes "EVENT.TAGS}") text)

begin_ends : (text : List ℕ) → Ends text (begin_word text)
unfolding begin_word
begin_ends text =
    or_ends text (named Date (codes "EVENT.DATE}") text) (named Time (codes "EVENT.TIME}") text)
    (named_ends Date (codes "EVENT.DATE}") text) (named_ends Time (codes "EVENT.TIME}") text)

end_ends : (text : List ℕ) → Ends text (end_word text)
unfolding end_word
end_ends text =
    or_ends text (named RecoveryDate (codes "EVENT.RECOVERY.DATE}") text) (named RecoveryTime (codes "EVENT.RECOVERY.TIME}") text)
    (named_ends RecoveryDate (codes "EVENT.RECOVERY.DATE}") text) (named_ends RecoveryTime (codes "EVENT.RECOVERY.TIME}") text)

place_ends : (text : List ℕ) → Ends text (place_word text)
unfolding place_word
place_ends text =
    or_ends text (named Host (codes "HOST.NAME}") text) (named Trigger (codes "TRIGGER.NAME}") text)
    (named_ends Host (codes "HOST.NAME}") text) (named_ends Trigger (codes "TRIGGER.NAME}") text)

word_ends : (text : List ℕ) → Ends text (word_at text)
unfolding word_at
word_ends text =
    or_ends text (event_word text) (option_or (kind_word text) (option_or (begin_word text) (option_or (end_word text) (place_word text)))) (event_ends text)
    (or_ends text (kind_word text) (option_or (begin_word text) (option_or (end_word text) (place_word text))) (kind_ends text)
    (or_ends text (begin_word text) (option_or (end_word text) (place_word text)) (begin_ends text)
    (or_ends text (end_word text) (place_word text) (end_ends text) (place_ends text))))

told_ends : (recovered : Option ℕ) (text : List ℕ) → Ends text (told_at recovered text)
unfolding told_at
told_ends recovered text =
    then_ends text (told recovered) (word_at text) (word_ends text)
    (λ r. test_ends r.1 (is_told recovered r.0) (Some r) None ([], refl) tt)

ends_of : (recovered : Option ℕ) (text rest : List ℕ) (word : Word) → told_at recovered text ≡ Some (word, rest) → EndsWith text rest
ends_of recovered text rest word is = subst (λ o. Ends text o) is (told_ends recovered text)

pub word_shorter : (recovered : Option ℕ) (text rest : List ℕ) (word : Word) → told_at recovered text ≡ Some (word, rest) → length rest ≤ length text
word_shorter recovered text rest word is = omega (arith, ends_shorter text rest (ends_of recovered text rest word is))

-- a macro is replaced
pub resolved_word : (conf : Conf) (problem : Rec) (recovered : Option ℕ) (text rest : List ℕ) (word : Word) → told_at recovered text ≡ Some (word, rest)
    → resolved conf problem recovered (123 ∷ text) ≡ word_text conf problem recovered word ++ resolved conf problem recovered rest
unfolding resolved
resolved_word conf problem recovered text rest word is =
    ap (flat_map (λ piece. piece)) (macro_step byte_text (message_macro conf problem recovered) text rest (word_text conf problem recovered word)
    (ap (option_map (λ r. (word_text conf problem recovered r.0, r.1))) is) (ends_of recovered text rest word is))

-- a brace that begins none stays
pub resolved_brace : (conf : Conf) (problem : Rec) (recovered : Option ℕ) (text : List ℕ) → told_at recovered text ≡ None
    → resolved conf problem recovered (123 ∷ text) ≡ 123 ∷ resolved conf problem recovered text
unfolding resolved
resolved_brace conf problem recovered text none =
    ap (flat_map (λ piece. piece)) (brace_step byte_text (message_macro conf problem recovered) text
    (ap (option_map (λ r. (word_text conf problem recovered r.0, r.1))) none))

bytes_stay : (plain : List ℕ) → flat_map (λ piece. piece) (map byte_text plain) ≡ plain
bytes_stay [] = refl
bytes_stay (c ∷ plain) = ap (λ t. c ∷ t) (bytes_stay plain)

-- bytes before a brace stay
pub resolved_plain : (conf : Conf) (problem : Rec) (recovered : Option ℕ) (plain rest : List ℕ) → HasNo 123 plain
    → resolved conf problem recovered (plain ++ rest) ≡ plain ++ resolved conf problem recovered rest
unfolding resolved
resolved_plain conf problem recovered plain rest free =
    let macro = message_macro conf problem recovered in
    ap (flat_map (λ piece. piece)) (plain_pieces byte_text macro plain rest free)
    ∙ flat_map-append (λ piece. piece) (map byte_text plain) (pieces_in byte_text macro rest)
    ∙ ap (λ t. t ++ flat_map (λ piece. piece) (pieces_in byte_text macro rest)) (bytes_stay plain)

pub resolved_none : (conf : Conf) (problem : Rec) (recovered : Option ℕ) → resolved conf problem recovered [] ≡ []
unfolding resolved
resolved_none conf problem recovered = ap (flat_map (λ piece. piece)) (none_in byte_text (message_macro conf problem recovered))

pub resolved_free : (conf : Conf) (problem : Rec) (recovered : Option ℕ) (text : List ℕ) → HasNo 123 text → resolved conf problem recovered text ≡ text
resolved_free conf problem recovered text free =
    ap (resolved conf problem recovered) (sym (append-nil text)) ∙ resolved_plain conf problem recovered text [] free
    ∙ ap (λ t. text ++ t) (resolved_none conf problem recovered) ∙ append-nil text
