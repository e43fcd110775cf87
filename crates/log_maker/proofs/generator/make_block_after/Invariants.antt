use Rattle.std.proofs.Common.{◌≡◌, ℕ}
use Rattle.log_maker.specs.Generator.{state_at}
use Rattle.log_maker.proofs.GeneratorLemmas.{AreMade}
use Rattle.log_maker.proofs.generator.make_block_after.Given as goal

abbrev pub invariant-loop-number : goal.invariant-loop-number
invariant-loop-number l =
    (start : ℕ) → l.fn.state ≡ state_at start l.fn.first → AreMade start l.fn.first l.number l.reached l.entries.items
