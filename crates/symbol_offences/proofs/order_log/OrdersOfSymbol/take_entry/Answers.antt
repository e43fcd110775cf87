use Rattle.std.proofs.Common.{refl, sym, ◌∙◌}
use Rattle.std.proofs.lemmas.Result.{on_ok_weaker}
use Rattle.symbol_offences.proofs.TakenLemmas.{other-taken, own-taken, own-symbol}
use Rattle.symbol_offences.proofs.order_log.OrdersOfSymbol.take_entry.Goals as goal

pub returns-then-not-has_symbol : goal.returns-then-not-has_symbol
returns-then-not-has_symbol g c = λ entries has.
    other-taken g.Q.QuestionGhost.symbol g.Q.QuestionGhost.keeping.records c.args.self.now _ entries c.args.entry.now has (sym c.has_symbol.ensures ∙ c.if-not-has_symbol.true) refl refl refl refl

pub keep_entry-requires : goal.keep_entry-requires
keep_entry-requires g c =
    own-symbol g.Q.QuestionGhost.symbol g.Q.QuestionGhost.keeping.records c.args.self.now c.requires.entries c.args.entry.now c.requires.has (sym c.has_symbol.ensures ∙ c.if-not-has_symbol.false)

pub returns : goal.returns
returns g c = on_ok_weaker c.keep_entry.result
    (λ kept entries has. own-taken g.Q.QuestionGhost.symbol g.Q.QuestionGhost.keeping.records c.args.self.now _ entries c.args.entry.now has (sym c.has_symbol.ensures ∙ c.if-not-has_symbol.false)
    refl refl refl kept)
    c.keep_entry.ensures
