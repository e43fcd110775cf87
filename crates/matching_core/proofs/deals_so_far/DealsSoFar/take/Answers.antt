use Rattle.std.proofs.Common.{◌≡◌, ◌+◌, ℕ, List, true, false, sym, ap, ◌∙◌, subst}
use Rattle.std.proofs.lemmas.Result.{on_ok_weaker}
use Rattle.audit_base.specs.declared.orders.Order.{Order}
use Rattle.audit_base.specs.Orders.{same_name}
use Rattle.matching_core.specs.DealsSoFar.{TakesOwnTrade}
use Rattle.matching_core.proofs.DraftLemmas.{size-more}
use Rattle.matching_core.proofs.DealsOrFlawLemmas.{other-trade}
use Rattle.matching_core.proofs.deals_so_far.DealsSoFar.take.Goals as goal

pub returns-then-not-has_symbol : goal.returns-then-not-has_symbol
returns-then-not-has_symbol g c = λ trades has.
    let other : same_name c.args.trade.now.symbol c.args.symbol.now ≡ false = sym c.has_symbol.ensures ∙ c.if-not-has_symbol.true in
    record {
      count = size-more c.args.self.now.count trades c.args.trade.now has.count;
      kept = other-trade g.M.HistoryGhost.orders g.M.HistoryGhost.symbol c.args.self.now.kept trades c.args.trade.now (subst (λ (s : List ℕ). same_name c.args.trade.now.symbol s ≡ false) c.requires.symbol other) has.kept;
    }

pub returns : goal.returns
returns g c =
    let own : same_name c.args.trade.now.symbol c.args.symbol.now ≡ true = sym c.has_symbol.ensures ∙ c.if-not-has_symbol.false in
    on_ok_weaker c.take.result
    (λ takes trades has. record {
      count = size-more c.args.self.now.count trades c.args.trade.now has.count;
      kept = subst (λ (orders : List Order). TakesOwnTrade orders c.args.self.now.kept c.take.new.self (c.args.self.now.count + 1) c.args.trade.now) c.requires.orders takes
          g.M.HistoryGhost.symbol trades has.kept (subst (λ (s : List ℕ). same_name c.args.trade.now.symbol s ≡ true) c.requires.symbol own) (ap (λ (n : ℕ). n + 1) has.count);
    })
    c.take.ensures
