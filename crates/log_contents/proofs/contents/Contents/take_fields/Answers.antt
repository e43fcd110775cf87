use Rattle.std.proofs.Common.{refl}
use Rattle.fix_messages.specs.Bodies.{with_reason}
use Rattle.fix_messages.specs.BodyFields.{fields_of}
use Rattle.log_contents.specs.Contents.{HasKinds}
use Rattle.log_contents.specs.Facts.{AreFactsOf}
use Rattle.log_contents.proofs.MessageFeedLemmas.{said-fault}
use Rattle.log_contents.proofs.MessageLemmas.{counts-bad, counts-good, facts-place, good-records}
use Rattle.log_contents.proofs.contents.Contents.take_fields.Goals as goal

pub returns-in_ok-count_message-in-Ok-clause-records :
    goal.returns-in_ok-count_message-in-Ok-clause-records
returns-in_ok-count_message-in-Ok-clause-records g c =
    good-records g.R.LogRecord.symbol_of g.R.TimedRecord.time_of (with_reason (g.R.FixRecord.meaning (fields_of c.args.body.now))) c.args.self.now.facts c.take_fields.new.entries c.count_message.new.self.facts c.in_ok-take_fields.field-0
    c.in-Ok.is c.in_ok-count_message-in-Ok.ensures.facts c.in_ok-take_fields.ensures

pub returns-in_ok-count_message-in-Ok-clause-kinds :
    goal.returns-in_ok-count_message-in-Ok-clause-kinds
returns-in_ok-count_message-in-Ok-clause-kinds g c =
    counts-good g.R.LogRecord.symbol_of g.R.TimedRecord.time_of c.args.self.now.facts c.take_fields.new.entries (facts-place g.R.LogRecord.symbol_of g.R.TimedRecord.time_of c.args.self.now c.requires.records)
    (fields_of c.args.body.now) (g.R.FixRecord.meaning (fields_of c.args.body.now)) (HasKinds c.args.self.now) (HasKinds c.count_message.new.self)
    (good-records g.R.LogRecord.symbol_of g.R.TimedRecord.time_of (with_reason (g.R.FixRecord.meaning (fields_of c.args.body.now))) c.args.self.now.facts c.take_fields.new.entries c.take_fields.new.entries c.in_ok-take_fields.field-0
    c.in-Ok.is refl c.in_ok-take_fields.ensures)
    c.in_ok-count_message-in-Ok.ensures.kinds

pub returns-in-Err-clause-kinds : goal.returns-in-Err-clause-kinds
returns-in-Err-clause-kinds g c =
    counts-bad (fields_of c.args.body.now) (g.R.FixRecord.meaning (fields_of c.args.body.now))
    (AreFactsOf g.R.LogRecord.symbol_of g.R.TimedRecord.time_of c.args.self.now.facts) (AreFactsOf g.R.LogRecord.symbol_of g.R.TimedRecord.time_of c.take_fields.new.entries) (HasKinds c.args.self.now) c.in-Err.reason
    (said-fault (with_reason (g.R.FixRecord.meaning (fields_of c.args.body.now))) (AreFactsOf g.R.LogRecord.symbol_of g.R.TimedRecord.time_of c.args.self.now.facts) (AreFactsOf g.R.LogRecord.symbol_of g.R.TimedRecord.time_of c.take_fields.new.entries)
    c.in_ok-take_fields.field-0 c.in-Err.reason c.in-Err.is c.in_ok-take_fields.ensures)
