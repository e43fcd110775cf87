-- The text that is written, by what is counted.
use Rattle.std.specs.Prelude.{ℕ, List, [], ◌∷◌, ◌++◌, length, option_map}
use Rattle.audit_base.specs.declared.terms.VolumeRule.{VolumeRule}
use Rattle.audit_base.specs.declared.terms.Side.{Side}
use Rattle.audit_base.specs.declared.terms.Side.TheVariants.{Buy, Sell}
use Rattle.audit_base.specs.declared.orders.Order.{Order}
use Rattle.audit_base.specs.Orders.{place_at}
use Rattle.audit_certificate.specs.declared.counting.Counts.{Counts}
use Rattle.audit_certificate.specs.Texts.{head_text, bound_text, last_text}
use Rattle.audit_certificate.specs.LastOrders.{last_trading}
use Rattle.audit_certificate.specs.OrderLines.{order_lines_upto}

-- lines 1 and 2, each with its LF
abbrev pub front_lines : VolumeRule → List ℕ → ℕ → ℕ → List ℕ
front_lines rule symbol price reached =
    head_text rule symbol ++ 10 ∷ [] ++ (bound_text price reached ++ 10 ∷ [])

-- line 3 or 4, with its LF
abbrev pub last_trading_line : List Order → List ℕ → Side → List ℕ
last_trading_line orders traded side =
    let last = last_trading orders traded side (length orders) in
    last_text side (option_map (place_at orders) last) ++ 10 ∷ []

-- all lines of the certificate, by what is counted
abbrev pub written_text : VolumeRule → List ℕ → List Order → Counts → ℕ → List ℕ
written_text rule symbol orders counts price =
    front_lines rule symbol price counts.volume ++ last_trading_line orders counts.traded.items Buy
    ++ last_trading_line orders counts.traded.items Sell
    ++ order_lines_upto orders counts.traded.items (length orders)
