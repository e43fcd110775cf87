use Rattle.std.proofs.Common.{[]}
use Rattle.fix_messages.proofs.ReadingLemmas.{only_reading}
use Rattle.fix_messages.proofs.logs.entries_of.Goals as goal

pub finish-requires : goal.finish-requires
finish-requires g c = record { log = c.args.bytes.now; stands = c.in_ok-feed.ensures [] c.new-feed.ensures; within = c.requires }

pub returns-clause-reads : goal.returns-clause-reads
returns-clause-reads g c = c.finish.ensures.reads c.args.bytes.now (c.in_ok-feed.ensures [] c.new-feed.ensures)

pub returns-clause-unique : goal.returns-clause-unique
returns-clause-unique g c = only_reading _ _

pub returns-in_err-feed-clause-unique : goal.returns-in_err-feed-clause-unique
returns-in_err-feed-clause-unique g c = only_reading _ _

pub returns-clause-nine : goal.returns-clause-nine
returns-clause-nine g c = c.finish.ensures.nine c.args.bytes.now (c.in_ok-feed.ensures [] c.new-feed.ensures)
