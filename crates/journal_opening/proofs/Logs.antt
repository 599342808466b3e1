-- Laws of logs with entries behind them.
use Rattle.std.proofs.Common.{◌≡◌, List, [], ◌∷◌, ◌++◌, reverse, refl, sym, ap, ◌∙◌, append_assoc}
use Rattle.std.proofs.lemmas.List.{reverse-append}
use Rattle.zbx_types.specs.declared.entries.Numbered.{Numbered}

-- a log with entries behind it, in the order of their numbers
abbrev pub onto : List Numbered → List Numbered → List Numbered
onto log [] = log
onto log (e ∷ es) = onto (e ∷ log) es

-- a log with entries behind it has them in front, turned round
pub onto_reverse : (log es : List Numbered) → onto log es ≡ reverse es ++ log
onto_reverse log [] = refl
onto_reverse log (e ∷ es) = onto_reverse (e ∷ log) es ∙ sym (append_assoc (reverse es) (e ∷ []) log) ∙ ap (λ l. l ++ log) (sym (reverse-append (e ∷ []) es))
