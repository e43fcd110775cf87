-- An order in a picture: its title, and the badge that marks it as an order of the evidence.
use Rattle.std.specs.Prelude.{ℕ, Bool, false, ◌==◌, ◌+◌, List, [], ◌∷◌, ◌++◌, Option, None, Some, codes, decimal}
use Rattle.std.specs.List.{join_with_byte}
use Rattle.audit_base.specs.declared.findings.OrderLine.{OrderLine}
use Rattle.audit_base.specs.declared.findings.Shown.{Shown}
use Rattle.audit_base.specs.declared.findings.Shown.TheVariants as shown
use Rattle.audit_base.specs.declared.orders.Order.{Order}
use Rattle.audit_base.specs.Numbers.{price_text}
use Rattle.audit_base.specs.Shows.{with_traded_number}
use Rattle.audit_report.specs.Lines.{side_word}
use Rattle.page_plots.specs.declared.shapes.Anchor.TheVariants.{Middle}
use Rattle.page_plots.specs.declared.shapes.Point.{Point}
use Rattle.page_plots.specs.Measures.{badge_radius, to_foot}
use Rattle.page_plots.specs.Shapes.{circle, label}

-- the title of an order: PLACE,SIDE,FIRM,ID,QUANTITY,LIMIT,NUMBER, of which NUMBER is what it
-- traded, or what is left of it
abbrev pub line_title : OrderLine → List ℕ
line_title o = join_with_byte 44
    (decimal o.place ∷ side_word o.side ∷ o.key.firm ∷ o.key.id ∷ decimal o.quantity
    ∷ price_text o.limit ∷ decimal o.traded ∷ [])

-- the same of an order of the list, if there is one
abbrev pub order_title : Option Order → ℕ → List ℕ
order_title None number = []
order_title (Some o) number = line_title (with_traded_number o number)

-- the order is there, and its record has this place
abbrev pub has_place : Option Order → ℕ → Bool
has_place None place = false
has_place (Some o) place = o.place == place

-- the order that is shown, where one is
abbrev pub order_shown : Option Shown → Option OrderLine
order_shown None = None
order_shown (Some (shown.Place log place)) = None
order_shown (Some (shown.Unknown side key)) = None
order_shown (Some (shown.Order line)) = Some line
order_shown (Some (shown.Due line due)) = Some line

-- a badge: a circle with a number in it
abbrev pub badge : List ℕ → Point → List ℕ
badge number centre = circle (codes "badge") centre badge_radius
    ++ label (codes "badgetext") (record { x = centre.x; y = centre.y + to_foot }) Middle number
