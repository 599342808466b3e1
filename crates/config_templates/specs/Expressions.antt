-- What the expressions of a trigger mean, over the items of all hosts.
use Rattle.std.specs.Prelude.{ℕ, ◌+◌, Bool, false, List, [], ◌∷◌, ◌++◌, map, length, Option, Some, None, option_map, if◌then◌else◌, Result, Ok, codes}
use Rattle.std.specs.List.{list_any}
use Rattle.std.specs.Option.{option_or}
use Rattle.zbx_types.specs.Operators.{is_dated}
use Rattle.zbx_types.specs.Tree.{Tree, constant, call, negative, negation, binary}
use Rattle.zbx_types.specs.declared.expr.Expr.{Expr}
use Rattle.zbx_types.specs.declared.expr.Expr.TheVariants.{Const, Call as CallAt, Neg, Not, Bin}
use Rattle.zbx_types.specs.declared.items.Item.{Item}
use Rattle.zbx_types.specs.declared.calls.Call.{Call}
use Rattle.zbx_types.specs.declared.causes.Cause.{Cause}
use Rattle.zbx_types.specs.declared.causes.Cause.TheVariants.{BadExpression, UnknownName, WrongValueType}
use Rattle.zbx_types.specs.declared.triggers.RecoveryMode.{RecoveryMode}
use Rattle.zbx_types.specs.declared.triggers.RecoveryMode.TheVariants.{Expression, RecoveryExpression, Nothing}
use Rattle.macro_text.specs.Expanded.{expanded}
use Rattle.macro_text.specs.declared.macros.Macro.{Macro}
use Rattle.config_read.specs.declared.raw.RawTrigger.{RawTrigger}
use Rattle.config_read.specs.declared.raw.RawConf.{RawConf}
use Rattle.host_layout.specs.Places.{Flaw, Placed, unless, ◌>>=◌}
use Rattle.config_templates.specs.Functions.{takes, lacks_number}
use Rattle.config_templates.specs.Reading.{expression_at}
use Rattle.host_layout.specs.Hosts.{Owner}
use Rattle.config_templates.specs.Referenced.{Looked, looked_at}

-- ---- calls by the items that they look at

-- the call by the name of the item's host
abbrev pub call_of : Call → Option Looked → Call
call_of c None = c
call_of c (Some item) = record { fun = c.fun; host = item.host; key = c.key; range = c.range; shift = c.shift; op = c.op; arg = c.arg }

-- the id of the item, 0 where there is none
abbrev pub id_of : Option Looked → ℕ
id_of None = 0
id_of (Some item) = item.id

-- its argument must be a number, and is none
abbrev pub is_misread : Call → Option Looked → Bool
is_misread c None = false
is_misread c (Some item) = lacks_number c item.value_type

-- what else is wrong with it; a function of date or time looks at no item
abbrev pub call_cause : Call → Option Looked → Option Cause
call_cause c None = if is_dated c.fun then None else Some UnknownName
call_cause c (Some item) = if takes c item.value_type then None else Some WrongValueType

-- the cause of the first element that has one
abbrev pub first_cause : {A : Type 0} → (A → Option Cause) → List A → Option Cause
first_cause check [] = None
first_cause check (a ∷ rest) = option_or (check a) (first_cause check rest)

-- what is wrong with the calls of an expression: an argument that is no number, or else the first thing
abbrev pub calls_cause : (Call → Option Looked) → List Call → Option Cause
calls_cause look calls =
    if list_any (λ c. is_misread c (look c)) calls then Some (BadExpression 0) else first_cause (λ c. call_cause c (look c)) calls

-- ---- one expression

-- an expression whose calls name items by their hosts: its tree, its calls, and the ids of their items
pub record Resolved : Type 0 where
  pub tree : Tree
  pub calls : List Call
  pub call_items : List ℕ

-- the expression with these calls, by the items that they look at
abbrev pub resolved : (Call → Option Looked) → Tree × List Call → Resolved
resolved look e = record { tree = e.0; calls = map (λ c. call_of c (look c)) e.1; call_items = map (λ c. id_of (look c)) e.1 }

-- no cause, or the refusal
abbrev pub refused_by : {A : Type 0} → List ℕ → Option Cause → A → Result A Flaw
refused_by path cause a = unless a (option_map (λ c. record { path = path; cause = c }) cause)

-- an expression by the items that its calls look at, where nothing is wrong with them
unfoldable pub by_items : (Call → Option Looked) → List ℕ → Tree × List Call → Result Resolved Flaw
by_items look path e = refused_by path (calls_cause look e.1) (resolved look e)

-- the expression at a path
unfoldable pub resolved_at : (Call → Option Looked) → List ℕ → List ℕ → Result Resolved Flaw
resolved_at look path text = expression_at path text >>= by_items look path

-- ---- both expressions of a trigger

-- a tree whose calls stand so many places later
abbrev pub later : ℕ → Tree → Tree
later n (constant z) = constant z
later n (call place) = call (place + n)
later n (negative a) = negative (later n a)
later n (negation a) = negation (later n a)
later n (binary op a b) = binary op (later n a) (later n b)

-- the expression of a tree
abbrev pub expr_of : Tree → Expr
expr_of (constant z) = Const z
expr_of (call place) = CallAt place
expr_of (negative a) = Neg a
expr_of (negation a) = Not a
expr_of (binary op a b) = Bin op a b

-- what the expressions of a trigger mean: the trees, the calls of each, and the ids of the items of both's
pub record Meant : Type 0 where
  pub expr : Expr
  pub recovery_expr : Option Expr
  pub calls : List Call
  pub recovery_calls : List Call
  pub call_items : List ℕ

-- without a recovery expression
abbrev pub alone : Resolved → Meant
alone e = record { expr = expr_of e.tree; recovery_expr = None; calls = e.calls; recovery_calls = []; call_items = e.call_items }

-- with one, to whose places among the calls those of the expression are added
abbrev pub joined : Resolved → Resolved → Meant
joined e r = record {
  expr = expr_of e.tree;
  recovery_expr = Some (expr_of (later (length e.calls) r.tree));
  calls = e.calls;
  recovery_calls = r.calls;
  call_items = e.call_items ++ r.call_items;
}

-- the recovery expression is read in its mode alone
abbrev pub with_recovery : RecoveryMode → Result Resolved Flaw → Resolved → Result Meant Flaw
with_recovery RecoveryExpression recovery e = recovery >>= λ r. Ok (joined e r)
with_recovery Expression recovery e = Ok (alone e)
with_recovery Nothing recovery e = Ok (alone e)

-- what the expressions of a trigger mean with these macros, over the items that calls look at
abbrev pub meant_by : (Call → Option Looked) → List Macro → Placed RawTrigger → Result Meant Flaw
meant_by look macros p =
    resolved_at look (p.path ++ codes "/expression") (expanded macros p.body.expression)
    >>= with_recovery p.body.recovery (resolved_at look (p.path ++ codes "/recovery_expression") (expanded macros p.body.recovery_expression))

-- what the expressions of a trigger of a host mean
unfoldable pub expressions_of : RawConf → List Item → Owner → List Macro → Placed RawTrigger → Result Meant Flaw
expressions_of raw items owner macros p = meant_by (looked_at raw items owner) macros p
