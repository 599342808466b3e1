-- The expression that a text is.
use Rattle.std.specs.Prelude.{ℕ, nat_le, min, Bool, List, length, Option, Some, None, is_some, if◌then◌else◌, Result, Ok}
use Rattle.zbx_types.specs.Limits.{longest_expression}
use Rattle.zbx_types.specs.Tree.{Tree}
use Rattle.zbx_types.specs.declared.calls.Call.{Call}
use Rattle.zbx_types.specs.declared.causes.Cause.TheVariants.{BadExpression}
use Rattle.expr_parser.specs.Grammar.{looks_at_item}
use Rattle.expr_parser.specs.Machine.{after, start, ends_at}
use Rattle.host_layout.specs.Items.{longest_up_to}
use Rattle.host_layout.specs.Places.{Flaw, refuse}

-- some expression begins with the text
abbrev pub begins_expression : List ℕ → Bool
begins_expression text = is_some (after (length text) (Some start) text)

-- the expression that a text is, and its calls
abbrev pub expression_of : List ℕ → Option (Tree × List Call)
expression_of text = if nat_le (length text) longest_expression then ends_at (after (length text) (Some start) text) else None

-- the first byte where no expression goes on or that is one too many, or the length of the text
unfoldable pub expression_end : List ℕ → ℕ
expression_end text = longest_up_to begins_expression text (min (length text) longest_expression)

-- an expression looks at an item
abbrev pub looking : List ℕ → List ℕ → Option (Tree × List Call) → Result (Tree × List Call) Flaw
looking path text None = refuse path (BadExpression (expression_end text))
looking path text (Some e) = if looks_at_item e.1 then Ok e else refuse path (BadExpression 0)

-- the expression at a path, and its calls
unfoldable pub expression_at : List ℕ → List ℕ → Result (Tree × List Call) Flaw
expression_at path text = looking path text (expression_of text)
