use Rattle.std.proofs.Common.{◌≡◌, sym, ap, ◌∙◌, arith, subst, length}
use Rattle.std.specs.Prelude.{None}
use Rattle.audit_base.specs.Histories.{WellFormed, Regular, order_list, instant_order_finding}
use Rattle.log_maker.specs.Generator.{AreOfSymbol, generated_records, generated_symbol}
use Rattle.log_maker.proofs.GeneratorLemmas.{state-first}
use Rattle.log_maker.proofs.HistoryOfGenerated.{count-is, all-of-symbol, well_formed, regular, all-rest}
use Rattle.log_maker.proofs.generator.make_orders.Goals as goal

made : (c : goal.In_ok-block) → c.in_ok-block.block.entries.items ≡ generated_records c.args.start c.args.count
made c = (c.in_ok-block.ensures c.args.start (state-first c.args.start)).entries_are

pub returns-clause-records : goal.returns-clause-records
returns-clause-records c = made c

pub returns-clause-count : goal.returns-clause-count
returns-clause-count c = ap length (made c) ∙ count-is c.args.start c.args.count c.requires.count.bounded

pub returns-clause-symbol : goal.returns-clause-symbol
returns-clause-symbol c = subst (AreOfSymbol generated_symbol) (sym (made c)) (all-of-symbol c.args.start c.args.count c.requires.count.bounded)

pub returns-clause-well_formed : goal.returns-clause-well_formed
returns-clause-well_formed c = subst (WellFormed generated_symbol) (sym (made c)) (well_formed c.args.start c.args.count c.requires.count.bounded)

pub returns-clause-regular : goal.returns-clause-regular
returns-clause-regular c = subst (λ entries. Regular (order_list generated_symbol entries)) (sym (made c)) (regular c.args.start c.args.count c.requires.count.bounded)

pub returns-clause-resting : goal.returns-clause-resting
returns-clause-resting c = subst (λ entries. instant_order_finding (order_list generated_symbol entries) ≡ None) (sym (made c)) (all-rest c.args.start c.args.count c.requires.count.bounded)
