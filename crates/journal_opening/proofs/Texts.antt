-- A configuration has the text of its document.
use Rattle.std.proofs.Common.{◌≡◌, ℕ, List, sym, ap, refl}
use Rattle.std.specs.Prelude.{Result, Ok, Err}
use Rattle.zbx_types.specs.declared.conf.Conf.{Conf}
use Rattle.config_read.specs.declared.raw.RawConf.{RawConf}
use Rattle.config_read.specs.Document.{conf_of}
use Rattle.config_templates.specs.Depends.{depending}
use Rattle.config_templates.specs.Flat.{conf_made, read_of, laid_out, flat_of}
use Rattle.host_layout.specs.Items.{items_of}
use Rattle.host_layout.specs.Links.{unknown_links, cycles}
use Rattle.host_layout.specs.Masters.{mastered}
use Rattle.config_templates.specs.NamedHosts.{unknown_hosts}
use Rattle.host_layout.specs.Prepared.{prepared}
use Rattle.host_layout.specs.StepPatterns.{step_patterns}
use Rattle.host_layout.specs.Places.{Flaw, unless, ◌>>=◌}
use Rattle.config_templates.specs.Triggers.{triggers_of}

step_ok : {A B : Type 0} (x : Result A Flaw) (f : A → Result B Flaw) (b : B) → x >>= f ≡ Ok b → (a : A) × (f a ≡ Ok b)
step_ok (Ok a) f b is = (a, is)
step_ok (Err flaw) f b is = absurd (cc)

same_ok : {A : Type 0} (a b : A) (x : Result A Flaw) → x ≡ Ok a → x ≡ Ok b → a ≡ b
same_ok a b x one other = cc

made_text : (text : List ℕ) (raw : RawConf) (conf : Conf) → laid_out text raw ≡ Ok conf → conf.text ≡ text
unfolding laid_out
made_text text raw conf is =
    let first = step_ok (unless raw (unknown_links raw)) _ conf is in
    let second = step_ok (unless first.0 (cycles first.0)) _ conf first.1 in
    let third = step_ok (items_of second.0) _ conf second.1 in
    let owned = step_ok (mastered second.0 third.0) _ conf third.1 in
    let items = step_ok (prepared second.0 owned.0) _ conf owned.1 in
    let patterns = step_ok (step_patterns second.0) _ conf items.1 in
    let fourth = step_ok (triggers_of second.0 items.0 patterns.0) _ conf patterns.1 in
    let fifth = step_ok (depending second.0 fourth.0.triggers) _ conf fourth.1 in
    let sixth = step_ok (unless second.0 (unknown_hosts second.0)) _ conf fifth.1 in
    sym (ap (λ (c : Conf). c.text) (same_ok (conf_made text sixth.0 items.0 fifth.0 fourth.0.patterns) conf _ refl sixth.1))

pub text_kept : (text : List ℕ) (conf : Conf) → flat_of text ≡ Ok conf → conf.text ≡ text
unfolding flat_of
text_kept text conf is = let raw = step_ok (read_of (conf_of text)) (laid_out text) conf is in made_text text raw.0 conf raw.1
