-- The cases so far were added, and nothing was committed.
use Rattle.std.proofs.Common.{◌≡◌, ℕ, List, take}
use Rattle.std.specs.Prelude.{IsTrue}
use Rattle.digest_keeper.specs.declared.digested.DigestedCase.{DigestedCase}
use Rattle.digest_sqlite.specs.DigestRuns.{RunsOn}
use Rattle.digest_sqlite.specs.DigestStatements.{adding_each}
use Rattle.sqlite.specs.Held.{Held, state}
use Rattle.sqlite.specs.State.{HasCleanDisk, Survives}
use Rattle.sqlite_trees.specs.declared.store.Store.{Ghosts}
use Rattle.digest_sqlite.proofs.transactions.add_each.Given as goal

pub record HasAdded {S : Type 0} (g : Ghosts S) (filed : List DigestedCase) (first now : Held S) (added : ℕ) : Type 0 where
  pub inside : HasCleanDisk (state g now) → IsTrue first.in_transaction → RunsOn g (adding_each (take added filed)) first now
  pub survives : Survives (state g first) (state g now) (λ _. ⊥)

abbrev pub invariant-loop-digested : goal.invariant-loop-digested
invariant-loop-digested g l = (l.transaction.conn.ghost_name ≡ l.fn.transaction.conn.ghost_name) × HasAdded g.S.Store l.filed l.fn.transaction.conn.now l.transaction.conn.now l.digested-index
