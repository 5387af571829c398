-- A closure may go to another thread where each of its captures may.
use mathlib.Core.List.{List}
use mir.Syntax.{Sym}
use denote.RattleType.{RattleType}
use denote.Param.Send.{IsSend, AllSend, recorded_send, struct_send}
use denote.Struct.Struct.{Struct}
use denote.Struct.Declared.{shape}
use denote.Struct.Field.{rows}
use denote.Struct.Tuple.{TupleAt, type_at, parts}

pub closure_send : (ν : Sym) (Ts : List RattleType) → AllSend (rows (parts Ts)) → IsSend (TupleAt ν Ts)
closure_send ν Ts s = recorded_send (Struct (shape (type_at ν Ts))) (type_at ν Ts).D (type_at ν Ts).to (type_at ν Ts).to_one
    (struct_send (shape (type_at ν Ts)) s)
