use Rattle.day_symbols.proofs.SymbolLemmas.{each-once}
use Rattle.log_contents.proofs.SumLemmas.{all-counted}
use Rattle.log_contents.proofs.laws.each_is_counted_once.Goals as goal

pub returns-clause-once : goal.returns-clause-once
returns-clause-once c = each-once

pub returns-clause-all : goal.returns-clause-all
returns-clause-all c = all-counted
