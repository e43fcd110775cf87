use Rattle.desk_words.specs.declared.requests.DeskRequest.TheVariants.{Whole}
use Rattle.desk_words.specs.declared.requests.WholeRequest.TheVariants.{Audit, Contents, Convert, Offences, Session}
use Rattle.desk_run.proofs.DayLemmas.{decides_within}
use Rattle.desk_run.proofs.commands.answer_whole.Goals as goal

pub returns-in-Audit-clause-decides : goal.returns-in-Audit-clause-decides
returns-in-Audit-clause-decides g c =
    let decides = rw (c.share_asked.ensures, c.sources_of-sources.ensures.orders_name, c.sources_of-sources.ensures.orders_form, c.sources_of-sources.ensures.trades_name, c.sources_of-sources.ensures.trades_form) at c.answer_audit.ensures.decides in
    rw c.in-Audit.is (decides_within g.F.Shelf c.args.shelf.now c.answer_audit.new.shelf c.sources_of-sources.result.orders c.sources_of-sources.ensures.orders_limit
    (Whole (Audit c.in-Audit.rule c.in-Audit.logs c.in-Audit.table c.in-Audit.share c.in-Audit.checks c.in-Audit.page)) c.answer_audit.result decides)

pub returns-in-Session-clause-decides : goal.returns-in-Session-clause-decides
returns-in-Session-clause-decides g c =
    let decides = rw (c.share_asked-share.ensures, c.as_slice.ensures, c.sources_of-sources-in-Session.ensures.orders_name, c.sources_of-sources-in-Session.ensures.orders_form, c.sources_of-sources-in-Session.ensures.trades_name, c.sources_of-sources-in-Session.ensures.trades_form) at c.answer_session.ensures.decides in
    rw c.in-Session.is (decides_within g.F.Shelf c.args.shelf.now c.answer_session.new.shelf c.sources_of-sources-in-Session.result.orders c.sources_of-sources-in-Session.ensures.orders_limit
    (Whole (Session c.in-Session.phases c.in-Session.logs c.in-Session.table c.in-Session.share c.in-Session.checks c.in-Session.page)) c.answer_session.result decides)

pub returns-in-Offences-clause-decides : goal.returns-in-Offences-clause-decides
returns-in-Offences-clause-decides g c =
    let decides = rw (c.sources_of-sources-in-Offences.ensures.orders_name, c.sources_of-sources-in-Offences.ensures.orders_form, c.sources_of-sources-in-Offences.ensures.trades_name, c.sources_of-sources-in-Offences.ensures.trades_form) at c.answer_offences.ensures.decides in
    rw c.in-Offences.is (decides_within g.F.Shelf c.args.shelf.now c.answer_offences.new.shelf c.sources_of-sources-in-Offences.result.orders c.sources_of-sources-in-Offences.ensures.orders_limit
    (Whole (Offences c.in-Offences.rule c.in-Offences.symbol c.in-Offences.logs c.in-Offences.records c.in-Offences.checks)) c.answer_offences.result decides)

pub returns-in-Digest-clause-decides : goal.returns-in-Digest-clause-decides
returns-in-Digest-clause-decides g c = rw c.in-Digest.is c.answer_digest.ensures.decides

pub returns-in-Contents-clause-decides : goal.returns-in-Contents-clause-decides
returns-in-Contents-clause-decides g c =
    let decides = rw (c.sources_of-sources-in-Contents.ensures.orders_name, c.sources_of-sources-in-Contents.ensures.orders_form, c.sources_of-sources-in-Contents.ensures.trades_name, c.sources_of-sources-in-Contents.ensures.trades_form) at c.answer_contents.ensures.decides in
    rw c.in-Contents.is (decides_within g.F.Shelf c.args.shelf.now c.answer_contents.new.shelf c.sources_of-sources-in-Contents.result.orders c.sources_of-sources-in-Contents.ensures.orders_limit
    (Whole (Contents c.in-Contents.logs)) c.answer_contents.result decides)

pub returns-in-Convert-clause-decides : goal.returns-in-Convert-clause-decides
returns-in-Convert-clause-decides g c =
    let decides = rw (c.of_day-source.ensures.name, c.as_str.ensures, c.of_day-source.ensures.form) at c.answer_convert.ensures.decides in
    rw c.in-Convert.is (decides_within g.F.Shelf c.args.shelf.now c.answer_convert.new.shelf c.of_day-source.result c.of_day-source.ensures.limit
    (Whole (Convert c.in-Convert.log c.in-Convert.from c.in-Convert.path c.in-Convert.into)) c.answer_convert.result decides)
