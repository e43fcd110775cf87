use Rattle.std.proofs.Common.{◌∙◌, refl, sym}
use Rattle.std.proofs.lemmas.Bool.{false≢true}
use Rattle.fix_messages.proofs.FeedLemmas.{after-ok, shut-reads}
use Rattle.log_contents.specs.Contents.{HasRecords}
use Rattle.log_contents.proofs.MessageFeedLemmas.{contents-bad, contents-cut, contents-good, contents-within, record-place}
use Rattle.log_contents.proofs.message_feed.MessageFeed.close.Goals as goal

pub returns-in-Some : goal.returns-in-Some
returns-in-Some g c = λ log stood. shut-reads (HasRecords g.R.LogRecord.symbol_of g.R.TimedRecord.time_of) g.R.FixRecord.meaning c.args.self.feed c.in-Some.bad log c.in-Some.is stood.records

pub returns-in-Some-bad : goal.returns-in-Some-bad
returns-in-Some-bad g c = λ log stood.
    contents-bad _ g.R.FixRecord.meaning c.args.self c.take_messages.new.self c.in_default.is
    (after-ok c.take_messages.result _ (sym c.is_err.ensures.value ∙ c.if-is_err.false) c.take_messages.ensures) c.in-Some-bad.bad log c.in-Some-bad.is stood

pub bad_at-requires : goal.bad_at-requires
bad_at-requires g c =
    record-place _ g.R.FixRecord.meaning c.take_messages.new.self
    (contents-within _ g.R.FixRecord.meaning c.args.self c.take_messages.new.self c.in_default.is
    (after-ok c.take_messages.result _ (sym c.is_err.ensures.value ∙ c.if-is_err.false) c.take_messages.ensures) c.requires c.in_default-bad.is)

pub returns-in-Ok : goal.returns-in-Ok
returns-in-Ok g c = λ log stood.
    contents-good _ g.R.FixRecord.meaning c.args.self c.take_messages.new.self c.in_default.is
    (after-ok c.take_messages.result _ (sym c.is_err.ensures.value ∙ c.if-is_err.false) c.take_messages.ensures) log c.in_default-bad.is (c.in-Ok.ensures.ok.0 refl) stood

pub returns-in-Err : goal.returns-in-Err
returns-in-Err g c = λ log stood.
    contents-cut _ g.R.FixRecord.meaning c.args.self c.take_messages.new.self c.in_default.is
    (after-ok c.take_messages.result _ (sym c.is_err.ensures.value ∙ c.if-is_err.false) c.take_messages.ensures) c.in-Err.at c.bad_at.result log c.in_default-bad.is c.in-Err.ensures.err (λ all. false≢true (c.in-Err.ensures.ok.1 all)) c.bad_at.ensures stood
