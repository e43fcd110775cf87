use Rattle.day_records.proofs.SymbolRecordsLemmas.{few-kept, few-known, records-give}
use Rattle.day_records.proofs.symbol_records.SymbolRecords.before_rule.Goals as goal

pub resolve-requires : goal.resolve-requires
resolve-requires c = few-kept c.args.self c.requires

pub end-requires : goal.end-requires
end-requires c = few-known c.args.self c.in_ok-resolved.resolved c.in_ok-resolved.ensures c.requires

pub returns-clause-gives : goal.returns-clause-gives
returns-clause-gives c = records-give c.args.self c.in_ok-resolved.resolved c.in_ok-resolved.ensures c.end.result c.end.ensures.gives
