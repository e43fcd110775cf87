-- Why a body is refused, with whatever type of value.
use Rattle.std.proofs.Common.{◌≡◌, true, false, Result, Err}
use Rattle.fix_fields.specs.declared.field.FieldFault.{FieldFault}
use Rattle.fix_fields.specs.declared.field.FieldFault.TheVariants.{Field, MsgType, Memory}
use Rattle.fix_fields.specs.Refusals.{OrMemory}

-- a refusal says the same whatever was wanted: out of memory alone needs no cause
pub refused_alike : (T U : Type 0) (e f : FieldFault) → OrMemory {T = T} (Err e) (◌≡◌ {A = Result T FieldFault} (Err e) (Err f))
    → OrMemory {T = U} (Err e) (◌≡◌ {A = Result U FieldFault} (Err e) (Err f))
refused_alike T U (Field n) f h = cc
refused_alike T U MsgType f h = cc
refused_alike T U Memory f h = tt

-- and what is never refused but out of memory has any property where it is
pub never_refused : (T U : Type 0) (e : FieldFault) (P : Type 0) → OrMemory {T = T} (Err e) (false ≡ true) → OrMemory {T = U} (Err e) P
never_refused T U (Field n) P h = absurd (cc)
never_refused T U MsgType P h = absurd (cc)
never_refused T U Memory P h = tt
