-- What a client asks of the programs' code may cross threads: code may be seen from several, and what was done of a segment
-- may go to another. All is plain data but expressions, whose boxes lead back to expressions: what holds of an expression's
-- layer over any row, where it holds of that row, holds of expressions (`denote.Hole.FixSend`).
use mathlib.Core.List.{[], ◌∷◌}
use denote.RattleType.{RattleType}
use denote.Hole.{as_row}
use denote.Hole.FixLaws.{layer_row}
use denote.Hole.FixSend.{Sends, Syncs, fix_send, fix_sync}
use denote.Param.Send.{IsSend, IsSync, sendable}
use denote.Param.SendFields.{variants_send, variants_sync, declared_send, declared_sync, as_row_send, as_row_sync}
use denote.Struct.Field.{row_field, i64-field, u16-field, u32-field}
use denote.Struct.Tuple.{Tuple, tuple_type}
use Rattle.std.proofs.Crossing.{crosses}
use Rattle.sqlite_items.specs.contracts.boxed.Boxed.{the_row as boxed_row}
use Rattle.sqlite_items.proofs.boxed.Boxed.TheSendSync as boxed
use Rattle.morty_base.specs.contracts.list.List.{the_row as list_row}
use Rattle.morty_base.proofs.list.List.TheSendSync as list
use Rattle.txn_lang.specs.contracts.tree.BinOp.{the_field as operator_field}
use Rattle.txn_lang.proofs.tree.BinOp.TheSendSync as operator
use Rattle.txn_lang.specs.contracts.tree.Expr as expr
use Rattle.txn_lang.specs.contracts.tree.Expr.TheKnot.{type-Expr}
use Rattle.flat_code.specs.contracts.op.Op as op
use Rattle.flat_code.specs.contracts.code.Code as code
use Rattle.continuation.specs.contracts.done.Done as done
use Rattle.continuation.proofs.segment.Job.TheSendSync as job
use Rattle.continuation.proofs.segment.Seg.TheSendSync as segment

box_send : (R : RattleType) → IsSend R → IsSend (as_row (row_field (boxed_row R)))
box_send R s = as_row_send (row_field (boxed_row R)) (boxed.the_send R s)

box_sync : (R : RattleType) → IsSync R → IsSync (as_row (row_field (boxed_row R)))
box_sync R s = as_row_sync (row_field (boxed_row R)) (boxed.the_sync R s)

abbrev pair : RattleType → RattleType
pair R = Tuple (R ∷ R ∷ [])

pair_send : (R : RattleType) → IsSend R → IsSend (pair R)
pair_send R s = declared_send (tuple_type (R ∷ R ∷ [])) (as_row_send (row_field R) s, (as_row_send (row_field R) s, tt))

pair_sync : (R : RattleType) → IsSync R → IsSync (pair R)
pair_sync R s = declared_sync (tuple_type (R ∷ R ∷ [])) (as_row_sync (row_field R) s, (as_row_sync (row_field R) s, tt))

i64_send : IsSend (as_row i64-field)
i64_send = search sendable

i64_sync : IsSync (as_row i64-field)
i64_sync = search sendable

u16_send : IsSend (as_row u16-field)
u16_send = search sendable

u16_sync : IsSync (as_row u16-field)
u16_sync = search sendable

u32_send : IsSend (as_row u32-field)
u32_send = search sendable

u32_sync : IsSync (as_row u32-field)
u32_sync = search sendable

operator_send : IsSend (as_row operator_field)
operator_send = as_row_send operator_field operator.the_field_send

operator_sync : IsSync (as_row operator_field)
operator_sync = as_row_sync operator_field operator.the_field_sync

-- the layer of an expression, where what its boxes hold has the law
layer_send : (h : _ → RattleType) → ((j : _) → IsSend (h j)) → IsSend (layer_row expr.the_ring expr.the_member h)
layer_send h all =
    let R = h expr.the_member in
    let b = box_send R (all expr.the_member) in
    let operands = box_send (pair R) (pair_send R (all expr.the_member)) in
    variants_send (type-Expr R R R) ((i64_send, tt), ((u16_send, tt), ((b, tt), ((b, tt), ((as_row_send (row_field (as_row operator_field)) operator_send, (operands, tt)), tt)))))

layer_sync : (h : _ → RattleType) → ((j : _) → IsSync (h j)) → IsSync (layer_row expr.the_ring expr.the_member h)
layer_sync h all =
    let R = h expr.the_member in
    let b = box_sync R (all expr.the_member) in
    let operands = box_sync (pair R) (pair_sync R (all expr.the_member)) in
    variants_sync (type-Expr R R R) ((i64_sync, tt), ((u16_sync, tt), ((b, tt), ((b, tt), ((as_row_sync (row_field (as_row operator_field)) operator_sync, (operands, tt)), tt)))))

hole_send : IsSend expr.the_hole
hole_send = fix_send expr.the_ring (expr.by_members (λ i. Sends expr.the_ring i) (record { send = layer_send })) expr.the_member

hole_sync : IsSync expr.the_hole
hole_sync = fix_sync expr.the_ring (expr.by_members (λ i. Syncs expr.the_ring i) (record { sync = layer_sync })) expr.the_member

expr_send : IsSend expr.the_row
expr_send =
    let b = box_send expr.the_hole hole_send in
    let operands = box_send (pair expr.the_hole) (pair_send expr.the_hole hole_send) in
    variants_send expr.enum ((i64_send, tt), ((u16_send, tt), ((b, tt), ((b, tt), ((operator_send, (operands, tt)), tt)))))

expr_sync : IsSync expr.the_row
expr_sync =
    let b = box_sync expr.the_hole hole_sync in
    let operands = box_sync (pair expr.the_hole) (pair_sync expr.the_hole hole_sync) in
    variants_sync expr.enum ((i64_sync, tt), ((u16_sync, tt), ((b, tt), ((b, tt), ((operator_sync, (operands, tt)), tt)))))

field_send : IsSend (as_row expr.the_field)
field_send = expr_send

field_sync : IsSync (as_row expr.the_field)
field_sync = expr_sync

op_send : IsSend op.the_row
op_send = variants_send op.enum (
  (u16_send, (field_send, tt)),
  (
    (u16_send, (u16_send, (field_send, tt))),
    (
      (u16_send, (field_send, (field_send, tt))),
      (
        (field_send, tt),
        (
          (field_send, (u32_send, tt)),
          ((u32_send, tt), ((u32_send, tt), ((u32_send, tt), (tt, (tt, (tt, tt)))))),
        ),
      ),
    ),
  ),
)

op_sync : IsSync op.the_row
op_sync = variants_sync op.enum (
  (u16_sync, (field_sync, tt)),
  (
    (u16_sync, (u16_sync, (field_sync, tt))),
    (
      (u16_sync, (field_sync, (field_sync, tt))),
      (
        (field_sync, tt),
        (
          (field_sync, (u32_sync, tt)),
          ((u32_sync, tt), ((u32_sync, tt), ((u32_sync, tt), (tt, (tt, (tt, tt)))))),
        ),
      ),
    ),
  ),
)

ops_send : IsSend (list_row op.the_row)
ops_send = list.the_send op.the_row op_send

ops_sync : IsSync (list_row op.the_row)
ops_sync = list.the_sync op.the_row op_sync

pub code_send : IsSend code.the_row
code_send = search (sendable, crosses, declared_send, as_row_send, ops_send, ops_sync) depth 30

pub code_sync : IsSync code.the_row
code_sync = search (sendable, crosses, declared_send, as_row_send, ops_send, ops_sync) depth 30

pub done_send : IsSend done.the_row
done_send = search (sendable, crosses, declared_send, code_send, job.the_send, segment.the_send) depth 30
