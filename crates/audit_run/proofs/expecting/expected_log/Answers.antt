use Rattle.audit_run.proofs.ExpectLemmas.{log-accepted}
use Rattle.audit_run.proofs.ResultLemmas.{ok-then}
use Rattle.audit_run.proofs.expecting.expected_log.Goals as goal

pub returns : goal.returns
returns c =
    ok-then c.conforming_log.result _ _
    (λ text is. log-accepted (record {
      sound = c.trades_give_their_deals_back.ensures.sound;
      again = c.trades_give_their_deals_back.ensures.deals;
      places = c.trades_give_their_deals_back.ensures.places;
      least_cut = c.extremes_exist.ensures.cut;
      maximum = c.maximum_trades_are_expected.ensures;
      quantities = c.only_quantities.ensures;
      judged = c.sound_trades_have_verdict.ensures;
      pairs = c.continuous_uniqueness.ensures.only;
    }) c.args.orders.now c.requires.order_list c.requires.regular c.requires.numbers c.requires.keys c.args.rule c.args.symbol.now c.requires.admits text.items is)
    c.conforming_log.ensures
