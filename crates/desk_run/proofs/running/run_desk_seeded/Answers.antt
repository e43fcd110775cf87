use Rattle.std.proofs.Common.{◌∙◌, ap, Err, None, Option, Some, rules}
use Rattle.std.specs.Prelude.{map, IsErrOf}
use Rattle.std.specs.String.{string_bytes}
use Rattle.audit_report.specs.declared.statuses.Status.TheVariants as status
use Rattle.command_words.specs.declared.requests.WordsFault.TheVariants.{Usage, Memory}
use Rattle.desk_words.specs.declared.requests.DeskRequest.{DeskRequest}
use Rattle.desk_words.specs.Words.{desk_request_of}
use Rattle.command_run.specs.Runs.{AnswersHeldLogs}
use Rattle.log_source.specs.Sinks.{SinkState}
use Rattle.log_verdict.specs.Steps.{Reading}
use Rattle.desk_run.specs.PlainMessages.{PlainWritesMessages}
use Rattle.desk_run.specs.Requests.{desk_command_of}
use Rattle.desk_run.specs.TopCall.{desk_reading}
use Rattle.desk_run.proofs.HeadlineLemmas.{answers_day}
use Rattle.desk_run.proofs.PlainLemmas.{words-messages}
use Rattle.desk_run.proofs.running.run_desk_seeded.Goals as goal

pub returns-in-Ok : goal.returns-in-Ok
returns-in-Ok g c =
    let asked = desk_request_of (map string_bytes c.args.words.now) in
    let r = desk_reading g.F.Shelf c.args.shelf.now c.run_request.new.shelf in
    let commands : AnswersHeldLogs desk_command_of asked r (g.K.Sink.state c.args.out.now) (g.K.Sink.state c.run_request.new.out) c.run_request.result.status =
    rw c.in-Ok.ensures.request (λ logs ready. c.held_logs_are_answered.ensures.written c.in-Ok.request r logs _ _ c.run_request.result.status ready c.run_request.ensures.answers) in
    record {
      headline = answers_day asked r _ _ c.run_request.result.status commands;
      commands = commands;
      causes = rw c.in-Ok.ensures.request c.run_request.ensures.answers;
      messages = rw c.in-Ok.ensures.request c.run_request.ensures.messages;
      too_long = c.run_request.ensures.too_long;
      logs = c.run_request.ensures.logs;
      later = c.run_request.ensures.later;
      sink = c.run_request.ensures.stays;
    }

pub returns-in-Err-Usage : goal.returns-in-Err-Usage
returns-in-Err-Usage g c =
    let asked = desk_request_of (map string_bytes c.args.words.now) in
    let r = desk_reading g.F.Shelf c.args.shelf.now c.args.shelf.now in
    let commands : AnswersHeldLogs desk_command_of asked r (g.K.Sink.state c.args.out.now) (g.K.Sink.state c.write_usage.new.out) c.write_usage.result = search rules in
    record {
      headline = answers_day asked r _ _ c.write_usage.result commands;
      commands = commands;
      causes = search rules;
      messages = search rules;
      too_long = search rules;
      logs = search rules;
      later = search rules;
      sink = search rules;
    }

pub returns-in-Err-Memory : goal.returns-in-Err-Memory
returns-in-Err-Memory g c =
    let asked = desk_request_of (map string_bytes c.args.words.now) in
    let r = desk_reading g.F.Shelf c.args.shelf.now c.args.shelf.now in
    let commands = c.memory_is_answered.ensures.held asked r (g.K.Sink.state c.args.out.now) in
    record {
      headline = answers_day asked r _ _ _ commands;
      commands = commands;
      causes = c.memory_is_answered.ensures.causes asked r (g.K.Sink.state c.args.out.now)
          (λ none. not_usage (rw (c.in-Err-Memory.is ∙ ap Err c.in-Err-Memory.field-0-is) at (c.read_desk_words.ensures.decided none)));
      messages = asked_messages asked r (g.K.Sink.state c.args.out.now);
      too_long = search rules;
      logs = search rules;
      later = search rules;
      sink = search rules;
    }
  where
    asked_messages : (asked : Option DeskRequest) (r : Reading) (sink : SinkState) → PlainWritesMessages asked r sink sink status.Memory
    asked_messages None r sink = tt
    asked_messages (Some request) r sink = words-messages request r sink

    not_usage : IsErrOf {T = DeskRequest} (Err Memory) Usage → ⊥
    not_usage e = cc
