-- From what `regex` says of a pattern that was built to the pattern that its text stands for.
use Rattle.std.proofs.Common.{◌≡◌, ◌≢◌, ◌≤◌, ◌<◌, ℕ, suc, zero, List, Option, Some, None, IsSomeAnd, option_map, option_and_then, refl, sym, ap, ◌∙◌, inl, inr, ⊎_elim, get_or, subst, is_some, true, false, true≢false, ◌*◌, ◌+◌, ◌==◌, arith}
use mathlib.Core.Path.{fun_ext}
use Rattle.std.specs.Str.{chars}
use Rattle.std.proofs.lemmas.Bool.{cond-false, ne_eqb}
use Rattle.regex.specs.Patterns.{Re, Match, find_str, default_config, span, Reads, Refuses, SameCaptures}
use Rattle.regex.specs.Strings.{regex_source, regex_config, regex_pattern, captures_span, IsCapturesOf, IsReadFromSource}
use Rattle.regex.specs.declared.string.captures.Captures.{Captures}
use Rattle.regex.specs.declared.string.regex.Regex.{Regex}
use Rattle.regex.specs.Search.{group_span}
use Rattle.regex.specs.Writes.{group_of, both}
use Rattle.regex.proofs.ForCallers.{alike_as_written, found_alike, is_match_alike, span_alike}
use Rattle.regex.proofs.OnLiterals.{same_refl}
use Rattle.regex_syntax.specs.Grammar.{read, Names}
use Rattle.std.specs.Prelude.{Result, Ok, Err, IfOk, is_ok, map, string_bytes}
use Rattle.regex_hir.specs.declared.Hir.{Hir}
use Rattle.regex_syntax.specs.declared.Config.{Config}
use Rattle.regex_syntax.specs.declared.Parsed.{Parsed}
use Rattle.regex_syntax.specs.Same.{SameTree}
use Rattle.regex_syntax.specs.Brackets.{Nested}
use Rattle.regex_syntax.specs.declared.error.ErrorKind.TheVariants.{OutOfMemory}
use Rattle.regex.specs.Failures.{IsRightKind}
use Rattle.regex.specs.Sources.{IsRefusal}
use Rattle.regex.specs.declared.error.Error.{Error}
use Rattle.regex.specs.declared.error.Error.TheVariants.{Syntax}
use Rattle.regex_syntax.specs.declared.error.Error as parser
use Rattle.pattern_set.specs.Patterns.{IsPattern, IsNoPattern, leftmost}
use Rattle.pattern_set.specs.Spans.{group_at}

weaker : {A : Type 0} (o : Option A) (P Q : A → Type 0) → ((x : A) → P x → Q x) → IsSomeAnd o P → IsSomeAnd o Q
weaker None P Q f p = absurd p
weaker (Some x) P Q f p = f x p

pub is_pattern : (r : Regex) (text : List ℕ) → regex_source r ≡ text → regex_config r ≡ default_config → IsReadFromSource r → IsPattern text
unfolding Reads
is_pattern r text source config reads =
    weaker (read default_config (chars text)) _ _ (λ x h. h.0) (rw (source, config) at reads)

pub reads_pattern : (text : List ℕ) (hir : Hir) (names : Names) → Reads default_config text hir names → IsPattern text
unfolding Reads
reads_pattern text hir names reads = weaker (read default_config (chars text)) _ _ (λ x h. h.0) reads

pub ok_reads : (text : List ℕ) (config : Config) (r : Result Parsed parser.Error) → config ≡ default_config
    → IfOk r (λ p. Reads config text p.hir (map (option_map string_bytes) p.names.items)) → is_ok r ≡ true → IsPattern text
ok_reads text config (Ok p) same reads ok =
    reads_pattern text p.hir (map (option_map string_bytes) p.names.items) (subst (λ (c : Config). Reads c text p.hir (map (option_map string_bytes) p.names.items)) same reads)
ok_reads text config (Err e) same reads ok = cc

pub is_refused : (text : List ℕ) (error : Error) (e : parser.Error) → error ≡ Syntax e → IsRightKind default_config text error
    → IsRefusal default_config text error → IsNoPattern text
unfolding Refuses
is_refused text error e is right refuses =
    let kind : e.kind ≢ OutOfMemory = subst (IsRightKind default_config text) is right in
    ⊎_elim (λ m. absurd (kind m)) (⊎_elim (λ none. inl none) (λ deep. inr deep.1)) (refuses e is)

-- the groups behind the whole match
behind : (m : Match) (group : ℕ) → 1 ≤ group → group_at m group ≡ group_of m group
behind m group past = cond-false (group == 0) (Some (span m)) (group_of m group) (ne_eqb group 0 (omega arith))

-- the captures show each group of their match
shown : (hay : List ℕ) (m : Match) (c : Captures) → IsCapturesOf hay m c → (group : ℕ) → captures_span c group ≡ group_at m group
unfolding group_span
shown hay m c of zero = ap Some of.1.whole_is
shown hay m c of (suc group) = of.2 (suc group) (omega arith) ∙ sym (behind m (suc group) (omega arith))

-- matches that span the same and have the same groups
same_groups : (m n : Match) → Some (span m) ≡ Some (span n) → ((group : ℕ) → group_of m group ≡ group_of n group)
    → (group : ℕ) → group_at m group ≡ group_at n group
same_groups m n whole groups zero = whole
same_groups m n whole groups (suc group) =
    behind m (suc group) (omega arith) ∙ groups (suc group) ∙ sym (behind n (suc group) (omega arith))

-- the search of the regex is that of what its text stands for
module _ (r : Regex) (text : List ℕ) (source : regex_source r ≡ text) (config : regex_config r ≡ default_config) (reads : IsReadFromSource r)
    (hay : List ℕ) (bytes : (k : ℕ) → get_or hay k 0 < 256) where
  read_is : (o : Option (Nested Re × Names)) → read default_config (chars text) ≡ o → IsPattern text
      → (found : Nested Re × Names) × (read default_config (chars text) ≡ Some found)
  read_is None e h = absurd (subst (λ (o : Option (Nested Re × Names)). IsSomeAnd o (λ (found, _). found.depth ≤ default_config.nest_limit)) e h)
  read_is (Some x) e h = (x, e)

  found : (found : Nested Re × Names) × (read default_config (chars text) ≡ Some found)
  found = read_is _ refl (is_pattern r text source config reads)

  re : Re
  re = found.0.0.value

  unfold_re : leftmost text hay ≡ find_str re hay 0
  unfolding re
  unfold_re = ap (λ (o : Option (Nested Re × Names)). option_and_then (λ re. find_str re hay 0) (option_map (λ (found, _). found.value) o)) found.1

  alike : SameCaptures (regex_pattern r) re
  unfolding re
  alike =
      let P : Option (Nested Re × Names) → Type 0 = λ o. IsSomeAnd o (λ (x, _). SameTree x.value found.0.0.value) in
      alike_as_written r default_config text source config reads found.0.0.value (subst P (sym found.1) (same_refl found.0.0.value))

  -- a match of the regex is the leftmost match of the text as a pattern, group by group
  pub carried-some : (m : Match) → find_str (regex_pattern r) hay 0 ≡ Some m
      → (n : Match) × (leftmost text hay ≡ Some n) × ((group : ℕ) → group_at m group ≡ group_at n group)
  carried-some m e =
      let other = found_alike alike hay bytes true 0 m e in
      let whole : Some (span m) ≡ Some (span other.0) =
      sym (ap (option_map span) e) ∙ span_alike alike hay bytes true 0 ∙ ap (option_map span) other.1 in
      (other.0, unfold_re ∙ other.1, same_groups m other.0 whole (λ group. sym (ap (λ f. both (f (2 * group)) (f (2 * group + 1))) other.2)))

  pub carried-none : find_str (regex_pattern r) hay 0 ≡ None → leftmost text hay ≡ None
  carried-none e = unfold_re ∙ none_of _ (sym (is_match_alike alike hay bytes true 0) ∙ ap is_some e)
    where
      none_of : (o : Option Match) → is_some o ≡ false → o ≡ None
      none_of None h = refl
      none_of (Some x) h = absurd (true≢false h)

  -- what is made of the groups of the captures is made of those of the leftmost match
  pub carried : {B : Type 0} (f : (ℕ → Option (ℕ × ℕ)) → B) (c : Captures) (m : Match) → find_str (regex_pattern r) hay 0 ≡ Some m
      → IsCapturesOf hay m c → Some (f (captures_span c)) ≡ option_map (λ n. f (group_at n)) (leftmost text hay)
  carried f c m e of =
      let other = carried-some m e in
      ap (λ (groups : ℕ → Option (ℕ × ℕ)). Some (f groups)) (fun_ext (λ group. shown hay m c of group ∙ other.2 group))
      ∙ sym (ap (option_map (λ n. f (group_at n))) other.1)

  pub carried-nothing : {B : Type 0} (f : Match → B) → find_str (regex_pattern r) hay 0 ≡ None → None ≡ option_map f (leftmost text hay)
  carried-nothing f e = sym (ap (option_map f) (carried-none e))

  pub carried-match : is_some (find_str (regex_pattern r) hay 0) ≡ is_some (leftmost text hay)
  carried-match = is_match_alike alike hay bytes true 0 ∙ ap is_some (sym unfold_re)
