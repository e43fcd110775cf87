-- What is done to the slot of a log does not depend on what a call answers beside it.
use Rattle.std.proofs.Common.{◌≡◌, ap, ℕ, List, Ok, Err}
use Rattle.std.specs.Prelude.{IsErrOf}
use Rattle.audit_base.specs.declared.terms.Which.{Which}
use Rattle.log_source.specs.Taking.{Takes}
use Rattle.log_source.specs.declared.shelf.Shelf as shelf
use Rattle.log_source.specs.declared.take.TakeFault.{TakeFault}
use Rattle.log_source.specs.declared.take.TakeFault.TheVariants as take
use Rattle.plain_logs.specs.declared.day_ends.PlainFault.{PlainFault}
use Rattle.plain_logs.specs.declared.day_ends.PlainFault.TheVariants as plain
use Rattle.plain_logs.specs.PlainLogs.{TakesUpTo}

ok-apart : {T : Type 0} (value : T) (why : TakeFault) → IsErrOf (Ok value) why → ⊥
ok-apart value why e = cc

memory-apart-long : {T : Type 0} → IsErrOf {T = T} (Err take.Memory) take.TooLong → ⊥
memory-apart-long e = cc

memory-apart-fault : {T : Type 0} → IsErrOf {T = T} (Err take.Memory) take.Fault → ⊥
memory-apart-fault e = cc

err-same : {T U : Type 0} (a b : TakeFault) → IsErrOf {T = T} (Err a) b → IsErrOf {T = U} (Err a) b
err-same a b e = let same : a ≡ b = cc e in ap Err same

module _ {F T U : Type 0} (shelves : shelf.Ghosts F) (which : Which) (name : List ℕ) (limit : ℕ) (old new : F) where
  pub takes-at-end : (value : T) (other : U) → Takes {T = T} shelves which name limit old new (Ok value) → TakesUpTo {T = U} shelves which name limit old new (Ok other)
  takes-at-end value other t = record {
    once = t.once;
    later = t.later;
    started = t.started;
    at_end = t.at_end;
    too_long = (λ e. absurd (ok-apart other take.TooLong e), λ over. absurd (ok-apart value take.TooLong (t.too_long.1 over)));
    longer = λ e. absurd (ok-apart other take.TooLong e);
    fault = λ e. absurd (ok-apart other take.Fault e);
  }

  pub takes-no-memory : (value : T) → Takes {T = T} shelves which name limit old new (Ok value) → TakesUpTo {T = U} shelves which name limit old new (Err (plain.Log take.Memory))
  takes-no-memory value t = record {
    once = t.once;
    later = t.later;
    started = tt;
    at_end = tt;
    too_long = (λ e. absurd (memory-apart-long e), λ over. absurd (ok-apart value take.TooLong (t.too_long.1 over)));
    longer = λ e. absurd (memory-apart-long e);
    fault = λ e. absurd (memory-apart-fault e);
  }

pub takes-as : {F : Type 0} (T U : Type 0) (shelves : shelf.Ghosts F) (which : Which) (name : List ℕ) (limit : ℕ) (old new : F) (why : PlainFault) → TakesUpTo {T = T} shelves which name limit old new (Err why) → TakesUpTo {T = U} shelves which name limit old new (Err why)
takes-as T U shelves which name limit old new (plain.Log why) t = record {
  once = t.once;
  later = t.later;
  started = tt;
  at_end = tt;
  too_long = (λ e. t.too_long.0 (err-same why take.TooLong e), λ over. err-same why take.TooLong (t.too_long.1 over));
  longer = λ e. t.longer (err-same why take.TooLong e);
  fault = λ e. t.fault (err-same why take.Fault e);
}
takes-as T U shelves which name limit old new plain.Sink t = t
