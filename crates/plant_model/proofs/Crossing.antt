-- A system may go to another thread, and several threads may use one. What it holds reaches expressions and trees, which hold
-- themselves, so the check does not find this for a struct that holds a system beside more: that struct's proof cites it. Nor does it for a
-- closure that captures one, so a call that starts threads over it says capture by capture that they may have what it captures.
use denote.Exit.{no}
use denote.Param.{arg, param}
use denote.Param.Send.{AllSend, AllSync, IsSend, IsSync, arg_send, arg_sync, param_send, param_sync, sendable}
use denote.Param.SendFields.{FieldsHave, as_row_send, as_row_sync, declared_send, declared_sync}
use denote.RattleType.{RattleType}
use denote.Struct.Field.{row_field}
use denote.Struct.Tuple.{TupleAt, parts, type_at}
use mir.Syntax.{Sym, Ty}
use Prim.Native.Nat.{ℕ}
use Rattle.std.proofs.Common.{List, [], ◌∷◌}
use Rattle.std.proofs.Crossing.{crosses}
use Rattle.std.specs.contracts.sync.Mutex as mutex
use Rattle.petri_atom.specs.contracts.arcs.Arcs as arcs
use Rattle.petri_atom.specs.contracts.atom.Atom as atom
use Rattle.petri_atom.specs.contracts.code.Code as code
use Rattle.petri_atom.specs.contracts.code.Step as step
use Rattle.petri_atom.specs.contracts.exports.Exports as exports
use Rattle.petri_atom.specs.contracts.expression.Expression as expression
use Rattle.petri_atom.specs.contracts.operation.Operation as operation
use Rattle.petri_atom.specs.contracts.transition.Transition as transition
use Rattle.petri_atom.specs.contracts.transition.Update as update
use Rattle.petri_atom.specs.contracts.transition_code.Change as change
use Rattle.petri_atom.specs.contracts.transition_code.TransitionCode as transition_code
use Rattle.petri_atom.proofs.expression.Expression.TheLaws.TheKnot as expressions
use Rattle.priority_filter.proofs.order.Order.TheSendSync as order
use Rattle.connector_tree.specs.contracts.tree.Connector as connector
use Rattle.connector_tree.proofs.tree.Node.TheLaws.TheKnot as trees
use Rattle.plant_model.specs.contracts.bound_expressions.BoundExpressions as bound
use Rattle.plant_model.specs.contracts.bound_step.BoundStep as bound_step
use Rattle.plant_model.specs.contracts.bound_value.BoundValue as value
use Rattle.plant_model.specs.contracts.connector_rows.ConnectorRows as rows
use Rattle.plant_model.specs.contracts.ranks.Rank as rank
use Rattle.plant_model.specs.contracts.ranks.Ranks as ranks
use Rattle.plant_model.specs.contracts.copy_row.CopyRow as copy_row
use Rattle.plant_model.specs.contracts.delivery.Deliveries as deliveries
use Rattle.plant_model.specs.contracts.delivery.Delivery as delivery
use Rattle.plant_model.specs.contracts.delivery.MadeValues as made_values
use Rattle.plant_model.specs.contracts.reach.Reach as reach
use Rattle.plant_model.specs.contracts.row_code.RowCode as row_code
use Rattle.plant_model.specs.contracts.system.System as system
use Rattle.plant_model.specs.contracts.usual.Put as put
use Rattle.plant_model.specs.contracts.usual.Usual as usual
use Rattle.plant_model.specs.contracts.wire.Wire as wire

-- ---- several threads may use each part of a system
Expression-sync : (V : RattleType) → IsSync V → IsSync (expression.the_field V).row
Expression-sync V y = search (sendable, crosses, expressions.crosses) depth 20

Connector-sync : IsSync (connector.the_field).row
Connector-sync = search (sendable, crosses, trees.crosses) depth 20

Update-sync : IsSync (update.the_field).row
Update-sync = search (Expression-sync, sendable, crosses) depth 20

Transition-sync : IsSync (transition.the_field).row
Transition-sync = search (Expression-sync, Update-sync, sendable, crosses) depth 20

Operation-sync : IsSync (operation.the_field).row
Operation-sync = search (sendable, crosses) depth 60

Step-sync : IsSync (step.the_field).row
Step-sync = search (Operation-sync, sendable, crosses) depth 60

Code-sync : IsSync (code.the_field).row
Code-sync = search (Step-sync, sendable, crosses) depth 20

Change-sync : IsSync (change.the_field).row
Change-sync = search (Code-sync, sendable, crosses) depth 20

TransitionCode-sync : IsSync (transition_code.the_field).row
TransitionCode-sync = search (Code-sync, Change-sync, sendable, crosses) depth 20

Exports-sync : IsSync (exports.the_field).row
Exports-sync = search (sendable, crosses) depth 20

Arcs-sync : IsSync (arcs.the_field).row
Arcs-sync = search (Exports-sync, sendable, crosses) depth 20

pub Atom-sync : IsSync (atom.the_field).row
Atom-sync = search (Transition-sync, TransitionCode-sync, Arcs-sync, sendable, crosses) depth 30

Wire-sync : IsSync (wire.the_field).row
Wire-sync = search (Expression-sync, Connector-sync, sendable, crosses) depth 20

RowCode-sync : IsSync (row_code.the_field).row
RowCode-sync = search (Code-sync, sendable, crosses) depth 20

BoundStep-sync : IsSync (bound_step.the_field).row
BoundStep-sync = search (sendable, crosses) depth 20

Value-sync : IsSync (value.the_field).row
Value-sync = search (Expression-sync, BoundStep-sync, RowCode-sync, sendable, crosses) depth 20

CopyRow-sync : IsSync (copy_row.the_field).row
CopyRow-sync = search (sendable, crosses) depth 20

Delivery-sync : IsSync (delivery.the_field).row
Delivery-sync = search (Value-sync, sendable, crosses) depth 20

MadeValues-sync : IsSync (made_values.the_field).row
MadeValues-sync = search (Delivery-sync, sendable, crosses) depth 20

Deliveries-sync : IsSync (deliveries.the_field).row
Deliveries-sync = search (CopyRow-sync, MadeValues-sync, sendable, crosses) depth 20

Bound-sync : IsSync (bound.the_field).row
Bound-sync = search (Value-sync, Deliveries-sync, sendable, crosses) depth 20

Rows-sync : IsSync (rows.the_field).row
Rows-sync = search (sendable, crosses) depth 20

Reach-sync : IsSync (reach.the_field).row
Reach-sync = search (sendable, crosses) depth 20

Put-sync : IsSync (put.the_field).row
Put-sync = search (sendable, crosses) depth 20

Usual-sync : IsSync (usual.the_field).row
Usual-sync = search (Put-sync, sendable, crosses) depth 20

Rank-sync : IsSync (rank.the_field).row
Rank-sync = search (sendable, crosses) depth 20

Ranks-sync : IsSync (ranks.the_field).row
Ranks-sync = search (Rank-sync, sendable, crosses) depth 20

-- a system may be used by several threads
pub System-sync : IsSync (system.the_field).row
System-sync = search (Atom-sync, Wire-sync, Bound-sync, Rows-sync, Reach-sync, Usual-sync, Ranks-sync, order.the_sync, sendable, crosses) depth 60

-- ---- each part of a system may go to another thread
Expression-send : (V : RattleType) → IsSend V → IsSend (expression.the_field V).row
Expression-send V s = search (sendable, crosses, expressions.crosses) depth 20

Connector-send : IsSend (connector.the_field).row
Connector-send = search (sendable, crosses, trees.crosses) depth 20

Update-send : IsSend (update.the_field).row
Update-send = search (Expression-send, sendable, crosses) depth 20

Transition-send : IsSend (transition.the_field).row
Transition-send = search (Expression-send, Update-send, sendable, crosses) depth 20

Operation-send : IsSend (operation.the_field).row
Operation-send = search (sendable, crosses) depth 60

Step-send : IsSend (step.the_field).row
Step-send = search (Operation-send, sendable, crosses) depth 60

Code-send : IsSend (code.the_field).row
Code-send = search (Step-send, sendable, crosses) depth 20

Change-send : IsSend (change.the_field).row
Change-send = search (Code-send, sendable, crosses) depth 20

TransitionCode-send : IsSend (transition_code.the_field).row
TransitionCode-send = search (Code-send, Change-send, sendable, crosses) depth 20

Exports-send : IsSend (exports.the_field).row
Exports-send = search (sendable, crosses) depth 20

Arcs-send : IsSend (arcs.the_field).row
Arcs-send = search (Exports-send, sendable, crosses) depth 20

Atom-send : IsSend (atom.the_field).row
Atom-send = search (Transition-send, TransitionCode-send, Arcs-send, sendable, crosses) depth 30

Wire-send : IsSend (wire.the_field).row
Wire-send = search (Expression-send, Connector-send, sendable, crosses) depth 20

RowCode-send : IsSend (row_code.the_field).row
RowCode-send = search (Code-send, sendable, crosses) depth 20

BoundStep-send : IsSend (bound_step.the_field).row
BoundStep-send = search (sendable, crosses) depth 20

Value-send : IsSend (value.the_field).row
Value-send = search (Expression-send, BoundStep-send, RowCode-send, sendable, crosses) depth 20

CopyRow-send : IsSend (copy_row.the_field).row
CopyRow-send = search (sendable, crosses) depth 20

Delivery-send : IsSend (delivery.the_field).row
Delivery-send = search (Value-send, sendable, crosses) depth 20

MadeValues-send : IsSend (made_values.the_field).row
MadeValues-send = search (Delivery-send, sendable, crosses) depth 20

Deliveries-send : IsSend (deliveries.the_field).row
Deliveries-send = search (CopyRow-send, MadeValues-send, sendable, crosses) depth 20

Bound-send : IsSend (bound.the_field).row
Bound-send = search (Value-send, Deliveries-send, sendable, crosses) depth 20

Rows-send : IsSend (rows.the_field).row
Rows-send = search (sendable, crosses) depth 20

Reach-send : IsSend (reach.the_field).row
Reach-send = search (sendable, crosses) depth 20

Put-send : IsSend (put.the_field).row
Put-send = search (sendable, crosses) depth 20

Usual-send : IsSend (usual.the_field).row
Usual-send = search (Put-send, sendable, crosses) depth 20

Rank-send : IsSend (rank.the_field).row
Rank-send = search (sendable, crosses) depth 20

Ranks-send : IsSend (ranks.the_field).row
Ranks-send = search (Rank-send, sendable, crosses) depth 20

-- a system may go to another thread
pub System-send : IsSend (system.the_field).row
System-send = search (Atom-send, Wire-send, Bound-send, Rows-send, Reach-send, Usual-send, Ranks-send, order.the_send, sendable, crosses) depth 60

-- ---- closures, by their captures, which are the parts of a tuple, and locks
sync_fields : (Ts : List RattleType) → AllSync Ts → FieldsHave IsSync (parts Ts)
sync_fields [] syncs = tt
sync_fields (T ∷ Ts) syncs = (as_row_sync (row_field T) syncs.0, sync_fields Ts syncs.1)

-- several threads may use a closure whose captures they may use, as it is passed for a type parameter
pub closure_sync : (i : ℕ) (δ : Ty) (ν : Sym) (Ts : List RattleType) → AllSync Ts → IsSync (param i (arg δ no (TupleAt ν Ts)))
closure_sync i δ ν Ts syncs = param_sync i (arg δ no (TupleAt ν Ts)) (arg_sync δ no (TupleAt ν Ts) (declared_sync (type_at ν Ts) (sync_fields Ts syncs)))

send_fields : (Ts : List RattleType) → AllSend Ts → FieldsHave IsSend (parts Ts)
send_fields [] sends = tt
send_fields (T ∷ Ts) sends = (as_row_send (row_field T) sends.0, send_fields Ts sends.1)

-- one may go to another thread where each of its captures may
pub closure_send : (i : ℕ) (δ : Ty) (ν : Sym) (Ts : List RattleType) → AllSend Ts → IsSend (param i (arg δ no (TupleAt ν Ts)))
closure_send i δ ν Ts sends = param_send i (arg δ no (TupleAt ν Ts)) (arg_send δ no (TupleAt ν Ts) (declared_send (type_at ν Ts) (send_fields Ts sends)))

-- several threads may use a lock where what is locked may go to another one
pub lock_sync : (R : RattleType) → IsSend R → IsSync (mutex.the_row R)
lock_sync R send = search crosses
