use Rattle.std.proofs.Common.{arith}
use Rattle.std.proofs.lemmas.Result.{on_ok_weaker}
use Rattle.continuous_audit.proofs.EndingLemmas.{longer-added}
use Rattle.continuous_audit.proofs.books.Books.enter.Goals as goal

pub returns-in-Buy-clause-more : goal.returns-in-Buy-clause-more
returns-in-Buy-clause-more c = on_ok_weaker c.add.result (λ e. let more = longer-added c.args.self.now.bids c.add.new.self c.args.index c.args.limit c.args.left e in omega arith) c.add.ensures.ok

pub returns-in-Sell-clause-more : goal.returns-in-Sell-clause-more
returns-in-Sell-clause-more c = on_ok_weaker c.add-in-Sell.result (λ e. let more = longer-added c.args.self.now.asks c.add-in-Sell.new.self c.args.index c.args.limit c.args.left e in omega arith) c.add-in-Sell.ensures.ok
