use Rattle.std.proofs.Common.{◌≡◌, ◌++◌, ◌∙◌, ℕ, List}
use Rattle.std.specs.Prelude.{codes}
use Rattle.std.proofs.lemmas.Result.{IfOk-weaker}
use Rattle.page_plots.specs.declared.shapes.Point.{Point}
use Rattle.page_plots.specs.Shapes.{circle, group}
use Rattle.continuous_drawing.specs.Trades.{centre_of, dot_radius, trade_title}
use Rattle.continuous_drawing.proofs.trades.with_trade.Goals as goal

pub returns : goal.returns
returns c =
    let mark : Point → List ℕ = λ centre. circle (codes "trade") centre dot_radius in
    let title : c.deref.result.now ≡ trade_title c.args.deal.now = c.deref.ensures.value ∙ c.in_ok-title.ensures in
    let shapes : c.in_ok-shapes.shapes ≡ mark (centre_of c.args.plot c.args.orders.now c.args.deal.now) = c.in_ok-shapes.ensures ∙ (λ i. c.new.ensures i ++ mark (c.centre_of-centre.ensures i)) in
    IfOk-weaker c.with_group.result _ _ (λ more e. e ∙ (λ i. c.args.made ++ group (title i) (shapes i))) c.with_group.ensures
