use Rattle.std.proofs.Common.{◌∙◌, refl, sym}
use Rattle.std.proofs.lemmas.Bool.{false≢true}
use Rattle.fix_messages.proofs.FeedLemmas.{after-ok, ends-bad, ends-cut, ends-few, ends-good, ends-within, log-place, shut-reads}
use Rattle.fix_messages.proofs.feeds.FixFeed.close.Goals as goal

pub returns-in-Some-clause-reads : goal.returns-in-Some-clause-reads
returns-in-Some-clause-reads g c = λ log stood. shut-reads g.K.Collector.has_taken g.R.FixRecord.meaning c.args.self c.in-Some.bad log c.in-Some.is stood

pub returns-in-Some-bad-clause-reads : goal.returns-in-Some-bad-clause-reads
returns-in-Some-bad-clause-reads g c = λ log stood.
    ends-bad g.K.Collector.has_taken g.R.FixRecord.meaning c.args.self c.take_messages.new.self c.in_default.is
    (after-ok c.take_messages.result _ (sym c.is_err.ensures.value ∙ c.if-is_err.false) c.take_messages.ensures) c.in-Some-bad.bad log c.in-Some-bad.is stood

pub bad_at-requires : goal.bad_at-requires
bad_at-requires g c =
    log-place g.R.FixRecord.meaning g.K.Collector.has_taken c.take_messages.new.self
    (ends-within g.K.Collector.has_taken g.R.FixRecord.meaning c.args.self c.take_messages.new.self c.in_default.is
    (after-ok c.take_messages.result _ (sym c.is_err.ensures.value ∙ c.if-is_err.false) c.take_messages.ensures) c.requires c.in_default-bad.is)

pub returns-in-Ok-clause-reads : goal.returns-in-Ok-clause-reads
returns-in-Ok-clause-reads g c = λ log stood.
    ends-good g.K.Collector.has_taken g.R.FixRecord.meaning c.args.self c.take_messages.new.self c.in_default.is
    (after-ok c.take_messages.result _ (sym c.is_err.ensures.value ∙ c.if-is_err.false) c.take_messages.ensures) log c.in_default-bad.is (c.in-Ok.ensures.ok.0 refl) stood

pub returns-in-Ok-clause-fits_places : goal.returns-in-Ok-clause-fits_places
returns-in-Ok-clause-fits_places g c =
    ends-few g.K.Collector.has_taken g.R.FixRecord.meaning c.args.self c.take_messages.new.self c.in_default.is
    (after-ok c.take_messages.result _ (sym c.is_err.ensures.value ∙ c.if-is_err.false) c.take_messages.ensures) c.requires c.in_default-bad.is

pub returns-in-Err-clause-reads : goal.returns-in-Err-clause-reads
returns-in-Err-clause-reads g c = λ log stood.
    ends-cut g.K.Collector.has_taken g.R.FixRecord.meaning c.args.self c.take_messages.new.self c.in_default.is
    (after-ok c.take_messages.result _ (sym c.is_err.ensures.value ∙ c.if-is_err.false) c.take_messages.ensures) c.in-Err.at c.bad_at.result log c.in_default-bad.is c.in-Err.ensures.err (λ all. false≢true (c.in-Err.ensures.ok.1 all)) c.bad_at.ensures stood
