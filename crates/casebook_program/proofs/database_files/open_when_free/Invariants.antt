use Rattle.std.proofs.Common.{ℕ, false, replicate}
use Rattle.casebook_program.specs.SystemCalls.{MakesCalls, OpensFiles}
use Rattle.casebook_program.proofs.database_files.open_when_free.Given as goal

-- so many tries were refused
abbrev pub invariant-loop : goal.invariant-loop
invariant-loop g l =
    (tries : ℕ) × MakesCalls (replicate tries (OpensFiles l.fn.path false)) (g.D.DatabaseSystem.calls l.initial.system) (g.D.DatabaseSystem.calls l.system)
