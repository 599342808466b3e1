-- Texts of configurations that were read in part.
use Rattle.std.proofs.Common.{◌≡◌, ℕ, ◌<◌, ◌≤◌, ◌⊎◌, false, List, [], ◌++◌, ◌+◌, length, length-append, sym, ap, ◌∙◌, arith, inl, inr, refl}
use Rattle.std.specs.Io.KnownBytes.{Consumes}
use Rattle.std.proofs.KnownBytes.{Consumes-trans}
use Rattle.std.specs.Prelude.{nat_le, Option, Some, None, IfSome, Ok, Err}
use Rattle.std.proofs.lemmas.Bool.{cases_lt}
use Rattle.std.proofs.lemmas.Bool.Decides.{nat_tests}
use Rattle.zbx_types.specs.declared.causes.Cause.TheVariants.{TooLong}
use Rattle.zbx_types.specs.declared.conf.Conf.{Conf}
use Rattle.json_form.specs.Json.{json_within}
use Rattle.config_templates.specs.Flat.{flat_of}
use Rattle.host_layout.specs.Places.{Flaw, refuse}
use Rattle.server_run.specs.Ports.{IsTextUpTo, ReadsUpTo}

-- a piece more was taken from a source
pub reads_piece : (most : ℕ) (a b c : Option (List ℕ)) (text piece : List ℕ) → Consumes a b text → Consumes b c piece → length text + length piece ≤ most + 1 → ReadsUpTo most a c
reads_piece most a b c text piece p q few = (text ++ piece, (omega (arith, few, length-append text piece), Consumes-trans a b c text piece p q))

-- a text that is too long is refused
flat_of-long : (text : List ℕ) → 16777216 < length text → flat_of text ≡ refuse [] TooLong
unfolding flat_of json_within
flat_of-long text long =
    let test : nat_le (length text) 16777216 ≡ false = grind (arith, nat_tests, long) in
    rw test refl

-- what was read says what the whole says
flat_of-read : (all text : List ℕ) → IsTextUpTo 16777216 all text → flat_of text ≡ flat_of all
flat_of-read all text (inl whole) = ap flat_of whole
flat_of-read all text (inr long) = flat_of-long text long.0 ∙ sym (flat_of-long all long.1)

text_whole : (all text : List ℕ) (conf : Conf) → IsTextUpTo 16777216 all text → flat_of text ≡ Ok conf → text ≡ all
text_whole all text conf (inl whole) found = whole
text_whole all text conf (inr long) found = let refused = flat_of-long text long.0 in absurd (cc)

pub text_told : (source : Option (List ℕ)) (text : List ℕ) (conf : Conf) → IfSome source (λ all. IsTextUpTo 16777216 all text) → flat_of text ≡ Ok conf → IfSome source (λ all. text ≡ all)
text_told None text conf is found = tt
text_told (Some all) text conf is found = text_whole all text conf is found

-- a text that has a configuration isn't too long
pub at_end_of : (text : List ℕ) (conf : Conf) → flat_of text ≡ Ok conf → length text ≤ 16777216
at_end_of text conf found = within (cases_lt 16777216 (length text))
  where
    within : (16777216 < length text) ⊎ (length text ≤ 16777216) → length text ≤ 16777216
    within (inl long) = let refused = flat_of-long text long in absurd (cc)
    within (inr few) = few

-- why what was read has no configuration is why the whole has none
pub flaw_told : (source : Option (List ℕ)) (text : List ℕ) (flaw : Flaw) → IfSome source (λ all. IsTextUpTo 16777216 all text) → flat_of text ≡ Err flaw → IfSome source (λ all. flat_of all ≡ Err flaw)
flaw_told None text flaw is none = tt
flaw_told (Some all) text flaw is none = sym (flat_of-read all text is) ∙ none
