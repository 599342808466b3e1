use Rattle.std.proofs.Common.{◌∙◌, ap, reverse, subst, sym}
use Rattle.value_cache.specs.Tokens.{AreOf, values_of}
use Rattle.value_cache.proofs.Shown.{of_turned, turned_back}
use Rattle.value_cache.proofs.cell.ItemCell.same.Goals as goal

pub same_tokens-requires-clause-own : goal.same_tokens-requires-clause-own
same_tokens-requires-clause-own c =
    subst (AreOf c.args.cache.now) (sym c.as_slice.ensures) (of_turned c.args.cache.now c.self.inside.tokens.items (subst (λ cell. AreOf c.args.cache.now cell.tokens) (sym c.self.view_is) c.requires.own))

pub same_tokens-requires-clause-others : goal.same_tokens-requires-clause-others
same_tokens-requires-clause-others c =
    subst (AreOf c.args.cache.now) (sym c.as_slice-then-same_keep.ensures) (of_turned c.args.cache.now c.other.inside.tokens.items (subst (λ cell. AreOf c.args.cache.now cell.tokens) (sym c.other.view_is) c.requires.others))

pub returns-then-same_keep : goal.returns-then-same_keep
returns-then-same_keep c =
    let keeps = sym (ap (λ cell. cell.keep) c.self.view_is) ∙ c.same_keep.ensures.0 c.if-same_keep.true ∙ ap (λ cell. cell.keep) c.other.view_is in (
      λ t. (
          let tokens = sym c.as_slice.ensures ∙ c.same_tokens.ensures.0 t ∙ c.as_slice-then-same_keep.ensures in (
            keeps,
            sym (ap (λ cell. cell.values) c.self.view_is) ∙ ap (λ ts. reverse (values_of ts)) tokens ∙ ap (λ cell. cell.values) c.other.view_is,
            sym (ap (λ cell. cell.tokens) c.self.view_is) ∙ ap reverse tokens ∙ ap (λ cell. cell.tokens) c.other.view_is,
          )
          ),
      λ same. c.same_tokens.ensures.1 (c.as_slice.ensures
          ∙ turned_back c.self.inside.tokens.items c.other.inside.tokens.items (ap (λ cell. cell.tokens) c.self.view_is ∙ same.2 ∙ sym (ap (λ cell. cell.tokens) c.other.view_is))
          ∙ sym c.as_slice-then-same_keep.ensures),
    )
