-- The generator: an order log of one symbol, of any length, that is the same at each run.
use Rattle.std.specs.Prelude.{◌≡◌, ◌≤◌, None, ℕ, zero, suc, ◌+◌, ◌-◌, ◌*◌, ◌/◌, ◌%◌, ◌==◌, List, ◌∷◌, All, codes, decimal, map, if◌then◌else◌}
use Rattle.std.specs.List.{range_with_len}
use Rattle.audit_base.specs.Moments.{Moment}
use Rattle.audit_base.specs.declared.names.Key.{Key}
use Rattle.audit_base.specs.declared.terms.Side.{Side}
use Rattle.audit_base.specs.declared.terms.Side.TheVariants.{Buy, Sell}
use Rattle.audit_base.specs.declared.terms.Life.TheVariants.{Rests}
use Rattle.audit_base.specs.declared.records.OrderRecord.{OrderRecord}
use Rattle.audit_base.specs.declared.records.OrderRecord.TheVariants.{New, Cancel}
use Rattle.audit_base.specs.declared.orders.Order.{Order}
use Rattle.audit_base.specs.Histories.{symbol_of, order_list, instant_order_finding}
use Rattle.log_maker.specs.declared.generator.OrderBlock.{OrderBlock}

-- START is from 1 to 2,147,483,646
pub record IsStart (start : ℕ) : Type 0 where
  pub least : 1 ≤ start
  pub bounded : start ≤ 2147483646

-- COUNT is from 1 to 1,000,000
pub record IsCount (count : ℕ) : Type 0 where
  pub least : 1 ≤ count
  pub bounded : count ≤ 1000000

-- the state at record i: START before the first record, and then 48271 times the state before,
-- modulo 2^31 - 1 (source: the minimal standard generator of Park, Miller and Stockmeyer)
unfoldable pub state_at : ℕ → ℕ → ℕ
state_at start zero = start
state_at start (suc i) = 48271 * state_at start i % 2147483647

-- What a state says of a new order.

-- an even state buys
abbrev pub side_of_state : ℕ → Side
side_of_state state = if state % 2 == 0 then Buy else Sell

-- a quantity from 1 to 100
abbrev pub quantity_of_state : ℕ → ℕ
quantity_of_state state = 1 + state / 2 % 100

-- a price from 99.00 to 101.00 in whole hundredths, each of which is 1,000,000 units
abbrev pub price_of_state : ℕ → ℕ
price_of_state state = (9900 + state / 200 % 201) * 1000000

-- What the number of a record says.

-- the symbol of every record
abbrev pub generated_symbol : List ℕ
generated_symbol = codes "GEN"

-- `F` (70) and the number modulo 5, so five firms take turns
abbrev pub firm_of_number : ℕ → List ℕ
firm_of_number i = 70 ∷ decimal (i % 5)

-- `O` (79) and the number
abbrev pub id_of_number : ℕ → List ℕ
id_of_number i = 79 ∷ decimal i

-- the firm and the id of record i
abbrev pub key_of_number : ℕ → Key
key_of_number i = record { firm = firm_of_number i; id = id_of_number i }

-- the second of 20240102-09:00:00, by which stamps are ordered
abbrev pub opening_second : ℕ
opening_second = ((((2024 * 12 + (1 - 1)) * 31 + (2 - 1)) * 24 + 9) * 60 + 0) * 61 + 0

-- as many nanoseconds after it as the number says
abbrev pub time_of_number : ℕ → Moment
time_of_number i = record { second = opening_second; nano = i }

-- The records.

-- record i at a state: each tenth cancels the order five records before, which is one of its firm;
-- every other one is a new order that may rest
abbrev pub record_of_state : ℕ → ℕ → OrderRecord
record_of_state i state =
    if i % 10 == 0
    then Cancel (key_of_number i) (time_of_number i) generated_symbol (id_of_number (i - 5))
    else New (key_of_number i) (time_of_number i) generated_symbol (side_of_state state)
    (quantity_of_state state) (price_of_state state) Rests

-- record i
abbrev pub generated_record : ℕ → ℕ → OrderRecord
generated_record start i = record_of_state i (state_at start i)

-- the records from 1 to COUNT
abbrev pub generated_records : ℕ → ℕ → List OrderRecord
generated_records start count = map (generated_record start) (range_with_len 1 count)

-- so many records behind the first ones
abbrev pub generated_records_after : ℕ → ℕ → ℕ → List OrderRecord
generated_records_after start first count =
    map (generated_record start) (range_with_len (1 + first) count)

-- The block has so many records behind the first ones, and the state at the last of them.
pub record IsBlockAfter (start first count : ℕ) (block : OrderBlock) : Type 0 where
  pub entries_are : block.entries.items ≡ generated_records_after start first count
  pub state_is : block.state ≡ state_at start (first + count)

-- the order list of their history
abbrev pub generated_orders : List OrderRecord → List Order
generated_orders entries = order_list generated_symbol entries

-- each record is of the symbol
abbrev pub AreOfSymbol : List ℕ → List OrderRecord → Type 0
AreOfSymbol symbol entries = All (λ entry. symbol_of entry ≡ symbol) entries

-- no order of the list is of a life that is not Rests, so a call has no finding 16
abbrev pub AllRest : List Order → Type 0
AllRest orders = instant_order_finding orders ≡ None
