use denote.RattleType.{RattleType}
use denote.Ref.{NamedLft}
use denote.Exit.{no}
use denote.Param.{param}
use denote.Param.Send.{IsSend, IsSync, param_send, arg_send, recorded_send, struct_send, shr_send, plain_sync}
use denote.Struct.Field
use denote.Struct.Declared.{shape}
use denote.Struct.Tuple as tuple
use mir.Syntax.{named, Sym}
use mathlib.Core.List.{List, [], ◌∷◌}
use Rattle.std.proofs.alloc.Global.TheSendSync as global
use Rattle.std.specs.contracts.alloc.Global
use Rattle.book_opening.specs.declared.names.StartName
use Rattle.book.specs.declared.names.RunName
use Rattle.outside.specs.declared.ports.Sink
use Rattle.server_run.specs.contracts.shared.Prepared
use Rattle.server_run.specs.contracts.shared.Shared
use borrow.Author.Rules.{of_calls}
use Rattle.server_run.specs.Going.{HasServed}
use Rattle.server_run.proofs.Going.{joined}
use Rattle.server_run.proofs.Sharing.{prepared_sync}
use Rattle.server_run.proofs.shared.Shared.TheSendSync as shared
use Rattle.server_run.proofs.crew.serve_beside.Goals as goal

-- the closure's name, server_run::crew::fn::serve_beside::join_mut+arg2+Self
abbrev syncing : Sym
syncing = 115 ∷ 101 ∷ 114 ∷ 118 ∷ 101 ∷ 114 ∷ 95 ∷ 114 ∷ 117 ∷ 110 ∷ 58 ∷ 58 ∷ 99 ∷ 114 ∷ 101 ∷ 119 ∷ 58 ∷ 58 ∷ 102 ∷ 110 ∷ 58 ∷ 58 ∷ 115 ∷ 101 ∷ 114 ∷ 118 ∷ 101 ∷ 95 ∷ 98 ∷ 101 ∷ 115 ∷ 105 ∷ 100 ∷ 101 ∷ 58 ∷ 58 ∷ 106 ∷ 111 ∷ 105 ∷ 110 ∷ 95 ∷ 109 ∷ 117 ∷ 116 ∷ 43 ∷ 97 ∷ 114 ∷ 103 ∷ 50 ∷ 43 ∷ 83 ∷ 101 ∷ 108 ∷ 102 ∷ []

-- what the thread that has the syncers is lent
abbrev lent : (S N O R G : RattleType) → StartName.Ghosts S.Denot → RunName.Ghosts N.Denot → Sink.Ghosts O.Denot → NamedLft → NamedLft → NamedLft → NamedLft → NamedLft → NamedLft → List RattleType
lent S N O R G s n o ρ α π σ γ μ = (Field.shr_ref_field ρ (param 5 R) tt).row ∷ (Field.shr_ref_field α Global.the_row tt).row ∷ (Field.shr_ref_field π (Prepared.the_row (param 0 S) s) tt).row
    ∷ (Field.shr_ref_field σ (Shared.the_row (param 0 S) (param 1 N) (param 2 O) s n o) tt).row ∷ (Field.shr_ref_field γ (param 6 G) tt).row ∷ (Field.shr_ref_field μ (Field.u32-field).row tt).row ∷ []

crosses : (S N O R G : RattleType) (s : StartName.Ghosts S.Denot) (n : RunName.Ghosts N.Denot) (o : Sink.Ghosts O.Denot) (ρ α π σ γ μ : NamedLft) → IsSend (param 2 O) → IsSync (param 5 R) → IsSync (param 6 G)
    → IsSend (tuple.TupleAt syncing (lent S N O R G s n o ρ α π σ γ μ))
crosses S N O R G s n o ρ α π σ γ μ os rs gs =
    recorded_send (tuple.field_at syncing (lent S N O R G s n o ρ α π σ γ μ)).row _ _ (tuple.type_at syncing (lent S N O R G s n o ρ α π σ γ μ)).to_one
    (struct_send (shape (tuple.type_at syncing (lent S N O R G s n o ρ α π σ γ μ))) (
      shr_send _ _ (param 5 R) rs,
      (
        shr_send _ _ Global.the_row global.the_sync,
        (
          shr_send _ _ (Prepared.the_row (param 0 S) s) (prepared_sync (param 0 S) s),
          (
            shr_send _ _ (Shared.the_row (param 0 S) (param 1 N) (param 2 O) s n o) (shared.the_sync (param 0 S) (param 1 N) (param 2 O) s n o os),
            (shr_send _ _ (param 6 G) gs, (shr_send _ _ (Field.u32-field).row (plain_sync _ _ _ _ _), tt)),
          ),
        ),
      ),
    ))

pub join_mut-worked-requires-send-F : goal.join_mut-worked-requires-send-F
join_mut-worked-requires-send-F g c = λ κs within.
    param_send 1 _ (arg_send _ no _ (crosses g.row.S g.row.N g.row.O g.row.R g.row.G g.S.StartName g.N.RunName g.O.Sink
    (record { mir = named 8; lft = κs.1.1.1.1.1.1.1.1.0 }) (record { mir = named 9; lft = κs.1.1.1.1.1.1.1.1.1.0 }) (record { mir = named 10; lft = κs.1.1.1.1.1.1.1.1.1.1.0 }) (record { mir = named 11; lft = κs.1.1.1.1.1.1.1.1.1.1.1.0 }) (record { mir = named 12; lft = κs.1.1.1.1.1.1.1.1.1.1.1.1.0 }) (record { mir = named 13; lft = κs.1.1.1.1.1.1.1.1.1.1.1.1.1.0 })
    c.type_bounds.send-O c.type_bounds.sync-R c.type_bounds.sync-G))

pub returns : goal.returns
returns g c =
    let h : HasServed g.D.Disk.tells g.S.StartName.flat g.S.StartName.base g.S.StartName.start.stage.conf g.S.StartName.kept c.args.front.now c.front-1.given.0
    (g.W.Wire.tells c.args.wire.now) (g.W.Wire.tells c.wire-1.given.0) (g.T.Taker.head c.taker-1.given.0) c.args.turns c.join_mut-worked.result.1 = search of_calls parts 8 in
    joined g.D.Disk.tells g.S.StartName.base g.S.StartName.flat g.S.StartName.start.stage.conf g.S.StartName.kept _ _ _ _ _ _ _ _ c.joined.ensures h
