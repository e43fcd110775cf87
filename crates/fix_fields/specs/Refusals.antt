-- Why a body is refused.
use Rattle.std.specs.Prelude.{ℕ, List, Result, Ok, Err}
use Rattle.fix_fields.specs.declared.field.FieldFault.{FieldFault}
use Rattle.fix_fields.specs.declared.field.FieldFault.TheVariants.{Field, MsgType, Memory}
use Rattle.fix_fields.specs.Grammar.{IsUnreadable, LacksType}

-- what a fault says of the body: the first failing test
abbrev pub RefusesBody : List ℕ → FieldFault → Type 0
RefusesBody body (Field n) = IsUnreadable body n
RefusesBody body MsgType = LacksType body
RefusesBody body Memory = Unit {0}

-- the fact holds, unless memory ran out
abbrev pub OrMemory : {T : Type 0} → Result T FieldFault → Type 0 → Type 0
OrMemory (Ok x) P = P
OrMemory (Err (Field n)) P = P
OrMemory (Err MsgType) P = P
OrMemory (Err Memory) P = Unit {0}
