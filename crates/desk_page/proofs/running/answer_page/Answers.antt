use Rattle.std.proofs.Common.{◌∙◌, refl}
use Rattle.desk_page.proofs.DecideLemmas.{page-decides, stays-within}
use Rattle.desk_page.proofs.running.answer_page.Goals as goal

pub returns-clause-decides : goal.returns-clause-decides
returns-clause-decides g c =
    page-decides _ _ g.D.Drawing.is_picture g.W.PageLogsGhost.shelf c.args.request.now c.of_day-orders.result c.of_day-trades.result c.page_on.result c.page_on.ensures.decides
    c.of_day-orders.ensures.limit refl c.requires
    (record { orders_name = c.of_day-orders.ensures.name ∙ c.as_str.ensures; trades_name = c.of_day-trades.ensures.name ∙ c.as_str-2.ensures; orders_form = c.of_day-orders.ensures.form; trades_form = c.of_day-trades.ensures.form })
    c.both_logs_decide.ensures.answers c.both_logs_decide.ensures.stops c.page_on.ensures.later

pub returns-clause-within : goal.returns-clause-within
returns-clause-within g c =
    stays-within _ _ g.D.Drawing.is_picture c.args.request.now c.of_day-orders.result c.of_day-trades.result c.page_on.result c.page_on.ensures.decides
    c.of_day-orders.ensures.limit refl c.page_on.ensures.within
