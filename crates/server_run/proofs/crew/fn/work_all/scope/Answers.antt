use denote.RattleType.{RattleType}
use denote.Ref.{NamedLft}
use denote.Exit.{no}
use denote.Param.{param}
use denote.Param.Send.{IsSend, IsSync, param_send, param_sync, arg_send, recorded_send, struct_send, shr_send, plain_send}
use denote.Struct.Field
use denote.Struct.Declared.{shape}
use denote.Struct.Tuple as tuple
use mir.Syntax.{named, Sym}
use mathlib.Core.List.{List, [], ◌∷◌}
use borrow.Author.Rules.{rules}
use Rattle.std.proofs.alloc.Global.TheSendSync as global
use Rattle.std.specs.contracts.alloc.Global
use Rattle.book_opening.specs.declared.names.StartName
use Rattle.book.specs.declared.names.RunName
use Rattle.outside.specs.declared.ports.Sink
use Rattle.server_run.specs.contracts.shared.Prepared
use Rattle.server_run.specs.contracts.shared.Shared
use Rattle.server_run.proofs.Sharing.{prepared_sync}
use Rattle.server_run.proofs.shared.Shared.TheSendSync as shared
use Rattle.server_run.proofs.crew.fn.work_all.scope.Goals as goal

-- the closure's name, server_run::crew::fn::work_all::fn::scope::spawn+Self
abbrev spawned : Sym
spawned = 115 ∷ 101 ∷ 114 ∷ 118 ∷ 101 ∷ 114 ∷ 95 ∷ 114 ∷ 117 ∷ 110 ∷ 58 ∷ 58 ∷ 99 ∷ 114 ∷ 101 ∷ 119 ∷ 58 ∷ 58 ∷ 102 ∷ 110 ∷ 58 ∷ 58 ∷ 119 ∷ 111 ∷ 114 ∷ 107 ∷ 95 ∷ 97 ∷ 108 ∷ 108 ∷ 58 ∷ 58 ∷ 102 ∷ 110 ∷ 58 ∷ 58 ∷ 115 ∷ 99 ∷ 111 ∷ 112 ∷ 101 ∷ 58 ∷ 58 ∷ 115 ∷ 112 ∷ 97 ∷ 119 ∷ 110 ∷ 43 ∷ 83 ∷ 101 ∷ 108 ∷ 102 ∷ []

-- what a syncer's thread is handed
abbrev handed : (S N O R G : RattleType) → StartName.Ghosts S.Denot → RunName.Ghosts N.Denot → Sink.Ghosts O.Denot → NamedLft → NamedLft → NamedLft → NamedLft → List RattleType
handed S N O R G s n o ρ π σ γ = (Field.shr_ref_field ρ (param 3 R) tt).row ∷ Global.the_row ∷ (Field.shr_ref_field π (Prepared.the_row (param 0 S) s) tt).row
    ∷ (Field.shr_ref_field σ (Shared.the_row (param 0 S) (param 1 N) (param 2 O) s n o) tt).row ∷ (Field.shr_ref_field γ (param 4 G) tt).row ∷ (Field.u32-field).row ∷ []

crosses : (S N O R G : RattleType) (s : StartName.Ghosts S.Denot) (n : RunName.Ghosts N.Denot) (o : Sink.Ghosts O.Denot) (ρ π σ γ : NamedLft) → IsSend O → IsSync R → IsSync G
    → IsSend (tuple.TupleAt spawned (handed S N O R G s n o ρ π σ γ))
crosses S N O R G s n o ρ π σ γ os rs gs =
    recorded_send (tuple.field_at spawned (handed S N O R G s n o ρ π σ γ)).row _ _ (tuple.type_at spawned (handed S N O R G s n o ρ π σ γ)).to_one
    (struct_send (shape (tuple.type_at spawned (handed S N O R G s n o ρ π σ γ))) (
      shr_send _ _ (param 3 R) (param_sync 3 R rs),
      (
        global.the_send,
        (
          shr_send _ _ (Prepared.the_row (param 0 S) s) (prepared_sync (param 0 S) s),
          (
            shr_send _ _ (Shared.the_row (param 0 S) (param 1 N) (param 2 O) s n o) (shared.the_sync (param 0 S) (param 1 N) (param 2 O) s n o (param_send 2 O os)),
            (shr_send _ _ (param 4 G) (param_sync 4 G gs), (plain_send _ _ _ _ _, tt)),
          ),
        ),
      ),
    ))

pub spawn-requires-send-F : goal.spawn-requires-send-F
spawn-requires-send-F g c = λ κs within.
    let r : IsSync g.row.R = search (rules, c.requires) parts 8 in
    let y : IsSync g.row.G = search (rules, c.requires) parts 8 in
    let o : IsSend g.row.O = search (rules, c.requires) parts 8 in
    param_send 1 _ (arg_send _ no _ (crosses g.row.S g.row.N g.row.O g.row.R g.row.G g.S.StartName g.N.RunName g.O.Sink
    (record { mir = named 5; lft = κs.1.1.1.1.1.0 }) (record { mir = named 6; lft = κs.1.1.1.1.1.1.0 }) (record { mir = named 7; lft = κs.1.1.1.1.1.1.1.0 }) (record { mir = named 8; lft = κs.1.1.1.1.1.1.1.1.0 })
    o r y))
