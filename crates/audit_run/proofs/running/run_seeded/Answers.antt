use Rattle.std.proofs.Common.{◌∙◌, ap, Err, rules}
use Rattle.std.specs.Prelude.{map, IsErrOf}
use Rattle.std.specs.String.{string_bytes}
use Rattle.command_words.specs.declared.requests.WordsFault.TheVariants.{Usage, Memory}
use Rattle.command_words.specs.declared.requests.Request.{Request}
use Rattle.log_verdict.specs.Steps.{reading}
use Rattle.command_words.specs.Words.{request_of}
use Rattle.audit_run.specs.Runs.{AuditorAnswersHeldLogs}
use Rattle.audit_run.proofs.HeadlineLemmas.{answers_verdict}
use Rattle.audit_run.proofs.running.run_seeded.Goals as goal

pub returns-in-Ok : goal.returns-in-Ok
returns-in-Ok g c =
    let asked = request_of (map string_bytes c.args.words.now) in
    let r = reading g.F.Shelf c.args.shelf.now c.run_request.new.shelf in
    let commands : AuditorAnswersHeldLogs asked r (g.K.Sink.state c.args.out.now) (g.K.Sink.state c.run_request.new.out) c.run_request.result.status =
    rw c.in-Ok.ensures.request (λ logs ready. c.held_logs_are_answered.ensures.written c.in-Ok.request r logs _ _ c.run_request.result.status ready c.run_request.ensures.answers) in
    record {
      headline = answers_verdict c.one_verdict.ensures asked r _ _ c.run_request.result.status commands;
      commands = commands;
      causes = rw c.in-Ok.ensures.request c.run_request.ensures.answers;
      too_long = c.run_request.ensures.too_long;
      logs = c.run_request.ensures.logs;
      later = c.run_request.ensures.later;
      sink = c.run_request.ensures.stays;
    }

pub returns-in-Err-Usage : goal.returns-in-Err-Usage
returns-in-Err-Usage g c =
    let asked = request_of (map string_bytes c.args.words.now) in
    let r = reading g.F.Shelf c.args.shelf.now c.args.shelf.now in
    let commands : AuditorAnswersHeldLogs asked r (g.K.Sink.state c.args.out.now) (g.K.Sink.state c.write_usage.new.out) c.write_usage.result = search rules in
    record {
      headline = answers_verdict c.one_verdict.ensures asked r _ _ c.write_usage.result commands;
      commands = commands;
      causes = search rules;
      too_long = search rules;
      logs = search rules;
      later = search rules;
      sink = search rules;
    }

pub returns-in-Err-Memory : goal.returns-in-Err-Memory
returns-in-Err-Memory g c =
    let asked = request_of (map string_bytes c.args.words.now) in
    let r = reading g.F.Shelf c.args.shelf.now c.args.shelf.now in
    let commands = c.memory_is_answered.ensures.held asked r (g.K.Sink.state c.args.out.now) in
    record {
      headline = answers_verdict c.one_verdict.ensures asked r _ _ _ commands;
      commands = commands;
      causes = c.memory_is_answered.ensures.causes asked r (g.K.Sink.state c.args.out.now)
          (λ none. not_usage (rw (c.in-Err-Memory.is ∙ ap Err c.in-Err-Memory.field-0-is) at (c.read_words.ensures.decided none)));
      too_long = search rules;
      logs = search rules;
      later = search rules;
      sink = search rules;
    }
  where
    not_usage : IsErrOf {T = Request} (Err Memory) Usage → ⊥
    not_usage e = cc
