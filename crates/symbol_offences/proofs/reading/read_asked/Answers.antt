use Rattle.std.proofs.Common.{sym, subst}
use Rattle.record_verdict.specs.declared.before_rule.BeforeRule.{BeforeRule}
use Rattle.record_verdict.specs.BeforeRule.{IsJudgeable}
use Rattle.symbol_offences.specs.declared.questions.KeepingOptions.{KeepingOptions}
use Rattle.log_verdict.specs.Steps.{reading_by}
use Rattle.log_verdict.proofs.JoinLemmas.{records-read, reads-good}
use Rattle.symbol_offences.specs.SymbolBeforeRule.{IsSymbolBeforeRule}
use Rattle.symbol_offences.proofs.ReadLemmas.{ready-of}
use Rattle.symbol_offences.proofs.reading.read_asked.Goals as goal

pub returns-in-Ok-clause-decides : goal.returns-in-Ok-clause-decides
returns-in-Ok-clause-decides g c =
    reads-good (reading_by c.args.orders.now g.F.Shelf c.args.shelf.now c.read_keeping.new.shelf) c.args.orders.now c.args.trades.now _ (λ entries paired. IsSymbolBeforeRule c.args.scope.now c.args.keeping entries paired c.logs_of.result) (λ log bad. ⊥)
    (λ entries paired is. subst (λ (k : KeepingOptions). IsSymbolBeforeRule c.args.scope.now k entries paired c.logs_of.result) (sym c.requires.keeping) (c.logs_of.ensures.gives c.args.scope.now entries paired c.requires.symbol is))
    c.in-Ok.ensures.decides

pub returns-in-Ok-clause-ready : goal.returns-in-Ok-clause-ready
returns-in-Ok-clause-ready g c =
    let read = records-read (reading_by c.args.orders.now g.F.Shelf c.args.shelf.now c.read_keeping.new.shelf) c.args.orders.now c.args.trades.now _ c.in-Ok.ensures.decides in
    ready-of c.args.scope.now c.args.keeping read.0 read.1 c.logs_of.result
    (subst (λ (k : KeepingOptions). IsSymbolBeforeRule c.args.scope.now k read.0 read.1 c.logs_of.result) (sym c.requires.keeping) (c.logs_of.ensures.gives c.args.scope.now read.0 read.1 c.requires.symbol read.2))
    (subst (λ (b : BeforeRule). IsJudgeable b) (sym c.logs_of.ensures.given) c.in-Ok.ensures.judgeable)
