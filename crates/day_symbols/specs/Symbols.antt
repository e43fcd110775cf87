-- The symbols of a day, in the order in which each appears first.
use Rattle.std.specs.Prelude.{ℕ, List, [], ◌∷◌, ◌++◌, filter, map, not}
use Rattle.audit_base.specs.declared.records.OrderRecord.{OrderRecord}
use Rattle.audit_base.specs.declared.records.TradeRecord.{TradeRecord}
use Rattle.audit_base.specs.Histories.{symbol_of}
use Rattle.audit_base.specs.Orders.{same_name}

-- these names, each once, where it is first: the first one, and the distinct ones of the others
-- but for it
abbrev pub distinct_names : List (List ℕ) → List (List ℕ)
distinct_names [] = []
distinct_names (name ∷ names) =
    name ∷ filter (λ other. not (same_name name other)) (distinct_names names)

-- the symbol of each record of both logs, the order records first
abbrev pub symbols_of_logs : List OrderRecord → List TradeRecord → List (List ℕ)
symbols_of_logs entries trades = map symbol_of entries ++ map (λ trade. trade.symbol) trades

-- the symbols of a day: those of the order records, in the order in which each appears first,
-- and after them those of the trades that no order record has, in the order in which each
-- appears first
abbrev pub symbols_of_day : List OrderRecord → List TradeRecord → List (List ℕ)
symbols_of_day entries trades = distinct_names (symbols_of_logs entries trades)
