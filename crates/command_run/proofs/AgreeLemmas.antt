-- Calls of a command that has one answer agree, where the same logs are there.
use Rattle.std.proofs.Common.{◌≡◌, ◌⊎◌, sym, subst, inl, inr, ℕ, List}
use Rattle.std.specs.Io.KnownBytes.{Appends}
use Rattle.audit_report.specs.declared.statuses.Status.{Status}
use Rattle.audit_report.specs.declared.statuses.Status.TheVariants.{Memory}
use Rattle.log_source.specs.Sinks.{SinkState}
use Rattle.command_run.specs.Commands.{Command}
use Rattle.command_run.specs.Laws.{CallsAgree, WroteOne}
use Rattle.command_run.specs.Runs.{WritesAnswer}
use Rattle.command_run.proofs.EarlyLemmas.{status-out}

pub calls-agree : (command : Command) → CallsAgree command
calls-agree command one_answer logs one_old one_new other_old other_new one other = both
  where
    both : WritesAnswer command logs one_old one_new one → WritesAnswer command logs other_old other_new other
        → (one ≡ Memory) ⊎ ((other ≡ Memory) ⊎ WroteOne one_old one_new other_old other_new one other)
    both (inr p) q = inl (status-out command logs command.writes_early one_old one_new one p)
    both (inl p) (inr q) = inr (inl (status-out command logs command.writes_early other_old other_new other q))
    both (inl p) (inl q) =
        let same = one_answer logs one other p.text q.text p.is q.is in
        inr (inr (record { status = same.0; text = p.text; wrote = p.wrote; wrote_too = subst (λ (t : List ℕ). Appends other_old.wrote other_new.wrote t) (sym same.1) q.wrote }))
