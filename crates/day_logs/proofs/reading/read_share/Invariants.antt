use Rattle.day_records.specs.DayOrders.{HasOrders}
use Rattle.day_logs.proofs.reading.read_share.Given as goal

-- it is read after whatever order records these are of
abbrev pub ghosts-after_orders : goal.ghosts-after_orders
ghosts-after_orders g a = record { share = a.share; admission = a.admission; may_have = HasOrders a.share a.orders }
