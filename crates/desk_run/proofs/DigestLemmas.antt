-- A log that was digested or not: how much was taken of it, and why it has no digest.
use Rattle.std.proofs.Common.{◌<◌, ◌≡◌, ◌≤◌, suc, subst, sym, inl, inr, refl, arith, ℕ, List, Err}
use Rattle.std.proofs.Math.Nat.{lt_of_not-le}
use Rattle.std.specs.Prelude.{IsErrOf}
use Rattle.audit_base.specs.declared.terms.Which.{Which}
use Rattle.audit_base.specs.declared.terms.Which.TheVariants.{Orders, Trades}
use Rattle.command_run.specs.declared.answers.Answer.{Answer}
use Rattle.log_digests.specs.Digests.{IsDigestOfLog}
use Rattle.log_source.specs.declared.shelf.Shelf.{Ghosts as Shelf}
use Rattle.log_source.specs.declared.take.TakeFault.{TakeFault}
use Rattle.log_source.specs.declared.take.TakeFault.TheVariants as take
use Rattle.log_source.specs.Sources.{Slot, longest_read}
use Rattle.log_source.specs.Taking.{Takes}
use Rattle.log_verdict.specs.declared.stops.Stop.{Stop}
use Rattle.log_verdict.specs.BothLogs.{IsLogStop, StaysWithin, StaysWithinAt}
use Rattle.log_verdict.specs.Collecting.{TouchesOnly}
use Rattle.log_verdict.specs.Steps.{EndsWithin, Reading}
use Rattle.desk_run.specs.Digesting.{stop_of_take}
use Rattle.desk_run.specs.TopCall.{desk_reading}

no_more : (taken limit : ℕ) → (limit < taken → ⊥) → taken ≤ limit
no_more taken limit not_over = let less : taken < suc limit = lt_of_not-le not_over in omega (arith, less)

module _ {F : Type 0} (shelves : Shelf F) (old new : F) (log : Which) (name : List ℕ) where
  -- no more than the limit was taken of a log that has a digest
  pub taken-within : (digest : List ℕ) → IsDigestOfLog shelves log name longest_read old new digest → (shelves.slot new log).taken ≤ longest_read
  taken-within digest is = subst (λ (n : ℕ). n ≤ longest_read) is.count is.within

  module _ {T : Type 0} where
    -- why a log has no digest is why it was not taken whole
    pub stop-cause : (fault : TakeFault) → Takes {T = T} shelves log name longest_read old new (Err fault) → IsLogStop (desk_reading shelves old new) log name (stop_of_take log fault)
    stop-cause take.Fault slot = (refl, record { once = slot.once; cause = slot.fault refl })
    stop-cause take.TooLong slot = (refl, record { once = slot.once; taken = slot.too_long.0 refl; longer = slot.longer refl })
    stop-cause take.Memory slot = tt

    apart_fault : IsErrOf {T = T} (Err take.Fault) take.TooLong → ⊥
    apart_fault e = cc

    apart_memory : IsErrOf {T = T} (Err take.Memory) take.TooLong → ⊥
    apart_memory e = cc

    -- no more than the limit was taken of it, unless it is too long
    pub stop-within : (fault : TakeFault) → Takes {T = T} shelves log name longest_read old new (Err fault)
        → StaysWithinAt {T = List ℕ} (desk_reading shelves old new) log (Err (stop_of_take log fault))
    stop-within take.Fault slot = inr (no_more (shelves.slot new log).taken longest_read (λ over. apart_fault (slot.too_long.1 over)))
    stop-within take.TooLong slot = inl tt
    stop-within take.Memory slot = inr (no_more (shelves.slot new log).taken longest_read (λ over. apart_memory (slot.too_long.1 over)))

ends : (r : Reading) → (r.after Orders).taken ≤ r.limit → (r.after Trades).taken ≤ r.limit → EndsWithin r
ends r orders trades Orders = orders
ends r orders trades Trades = trades

-- a stop at the order log leaves the trade log alone
pub first_stop : (r : Reading) (why : Stop) → TouchesOnly r Orders → StaysWithinAt {T = Answer} r Orders (Err why) → StaysWithin {T = Answer} r (Err why)
first_stop r why only (inl long) begins = inl long
first_stop r why only (inr short) begins = inr (ends r short (subst (λ (s : Slot). s.taken ≤ r.limit) (sym only.other) (begins Trades)))
