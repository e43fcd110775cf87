-- What the functions of `expect` pass on to one another.
use Rattle.std.specs.Prelude.{◌≡◌, ℕ, List, Ok}
use Rattle.audit_base.specs.declared.orders.Deal.{Deal}
use Rattle.audit_base.specs.declared.orders.Order.{Order}
use Rattle.audit_base.specs.declared.records.OrderRecord.{OrderRecord}
use Rattle.audit_base.specs.declared.terms.Rule.{Rule}
use Rattle.audit_base.specs.Deals.{IsDealList}
use Rattle.audit_base.specs.Expected.{IsExpected, trades_of_deals}
use Rattle.audit_base.specs.Histories.{order_list, WellFormed}
use Rattle.audit_base.specs.Rules.{Conforms}
use Rattle.audit_base.specs.Trades.{TradesInRange}
use Rattle.csv_logs.specs.Logs.{csv_trade_records}
use Rattle.csv_logs.specs.Written.{csv_trades_text}
use Rattle.audit_run.specs.OtherTexts.{IsExpectedLog}

-- The text is the CSV log of the Expected trades of these orders, which conform,
-- and it says these trades.
pub record IsConformingLog (the_rule : Rule) (symbol : List ℕ) (orders : List Order)
    (text : List ℕ) : Type 0 where
  pub deals : List Deal
  pub expected : IsExpected the_rule orders deals
  pub conforms : Conforms the_rule orders deals
  pub deal_list : IsDealList orders deals
  pub ranges : TradesInRange (trades_of_deals orders symbol deals)
  pub text_is : text ≡ csv_trades_text (trades_of_deals orders symbol deals)
  pub says : csv_trade_records text ≡ Ok (trades_of_deals orders symbol deals)

-- the text is the log of the Expected trades of whatever well-formed records have these orders
abbrev pub IsLogOfOrders : Rule → List ℕ → List Order → List ℕ → Type 0
IsLogOfOrders the_rule symbol orders text =
    (entries : List OrderRecord) → WellFormed symbol entries
    → orders ≡ order_list symbol entries → IsExpectedLog the_rule symbol entries text
