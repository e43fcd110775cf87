-- What a command is: which logs it reads, one after another, and what it answers to them.
use Rattle.std.specs.Prelude.{◌≡◌, ℕ, Bool, List, [], ◌∷◌, Option, None, Some, is_ok, slice_index_or}
use Rattle.audit_base.specs.declared.terms.Form.{Form}
use Rattle.audit_base.specs.declared.terms.Which.{Which}
use Rattle.audit_base.specs.declared.terms.Which.TheVariants.{Orders, Trades}
use Rattle.audit_base.specs.Least.{only_if}
use Rattle.audit_report.specs.declared.statuses.Status.{Status}
use Rattle.log_verdict.specs.declared.sources.Source.{Source}
use Rattle.log_verdict.specs.LogVerdicts.{records_of_order_log}

-- What a command does: the log that it starts after those that it has read, whose bytes these
-- are, its slot and its name, or nothing where it needs no more; which status and which text
-- it answers to all of them; and whether it writes that text while it reads, or makes the whole
-- of it first.
pub record Command : Type 1 where
  pub next : List (List ℕ) → Option (Which × List ℕ)
  pub is_answer : List (List ℕ) → Status → List ℕ → Type 0
  pub writes_early : Bool

-- the next log of a command that needs one: it starts that first, and no other
abbrev pub next_of_one_log : Which → List ℕ → List (List ℕ) → Option (Which × List ℕ)
next_of_one_log log name [] = Some (log, name)
next_of_one_log log name (first ∷ rest) = None

-- the next log of a command that needs both: it starts the order log,
-- and where that is good the trade log
abbrev pub next_of_both_logs : List ℕ → List ℕ → Form → List (List ℕ) → Option (Which × List ℕ)
next_of_both_logs orders trades orders_form [] = Some (Orders, orders)
next_of_both_logs orders trades orders_form (first ∷ []) =
    only_if (is_ok (records_of_order_log orders_form first)) (Trades, trades)
next_of_both_logs orders trades orders_form (first ∷ second ∷ rest) = None

-- the next log of a command that reads both whatever is in them: it starts the order log, and
-- after it the trade log
abbrev pub next_of_any_two_logs : List ℕ → List ℕ → List (List ℕ) → Option (Which × List ℕ)
next_of_any_two_logs orders trades [] = Some (Orders, orders)
next_of_any_two_logs orders trades (first ∷ []) = Some (Trades, trades)
next_of_any_two_logs orders trades (first ∷ second ∷ rest) = None

-- the bytes of the log that was read after this many others; none where it was not read
abbrev pub log_read_at : List (List ℕ) → ℕ → List ℕ
log_read_at logs others = slice_index_or logs others []

-- The command starts the order log, and where that is good the trade log.
pub record StartsBoth (command : Command) (orders trades : Source) : Type 0 where
  pub first : command.next [] ≡ Some (Orders, orders.name.now)
  pub second : (bytes : List ℕ) → command.next (bytes ∷ [])
      ≡ only_if (is_ok (records_of_order_log orders.form bytes)) (Trades, trades.name.now)

-- The command starts this log, and no other after it.
pub record StartsOne (command : Command) (log : Which) (name : List ℕ) : Type 0 where
  pub first : command.next [] ≡ Some (log, name)
  pub last : (bytes : List ℕ) → command.next (bytes ∷ []) ≡ None

-- The command starts the order log, and after it the trade log, whatever is in them, and no other.
pub record StartsAnyTwo (command : Command) (orders trades : List ℕ) : Type 0 where
  pub first : command.next [] ≡ Some (Orders, orders)
  pub second : (bytes : List ℕ) → command.next (bytes ∷ []) ≡ Some (Trades, trades)
  pub last : (first second : List ℕ) → command.next (first ∷ second ∷ []) ≡ None
