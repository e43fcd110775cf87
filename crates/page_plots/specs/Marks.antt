-- The orders of the evidence that a picture marks, each with the number of its row in the table.
use Rattle.std.specs.Prelude.{ℕ, Bool, false, ◌||◌, List, [], ◌++◌, Option, None, Some, codes}
use Rattle.audit_base.specs.declared.findings.Finding.{Finding}
use Rattle.audit_base.specs.declared.findings.OrderLine.{OrderLine}
use Rattle.page_plots.specs.declared.marks.MarkedOrders.{MarkedOrders}
use Rattle.page_plots.specs.Orders.{order_shown}

-- the orders among what a finding shows first and second; none where nothing was found
abbrev pub orders_marked_by : Option Finding → MarkedOrders
orders_marked_by None = record { first = None; second = None }
orders_marked_by (Some finding) =
    record { first = order_shown finding.first; second = order_shown finding.second }

-- the mark of an order is drawn, where there is an order, by a test of what is drawn
abbrev pub draws_if_there : (OrderLine → Bool) → Option OrderLine → Bool
draws_if_there drawn None = false
draws_if_there drawn (Some line) = drawn line

-- a mark is drawn
abbrev pub draws_some : (OrderLine → Bool) → MarkedOrders → Bool
draws_some drawn marked = draws_if_there drawn marked.first || draws_if_there drawn marked.second

-- the mark of an order, where there is one
abbrev pub mark_if_there : (OrderLine → List ℕ) → Option OrderLine → List ℕ
mark_if_there mark None = []
mark_if_there mark (Some line) = mark line

-- the marks 1 and 2, of a picture that marks an order with a number so
abbrev pub marks_of : (List ℕ → OrderLine → List ℕ) → MarkedOrders → List ℕ
marks_of mark marked = mark_if_there (mark (codes "1")) marked.first
    ++ mark_if_there (mark (codes "2")) marked.second
