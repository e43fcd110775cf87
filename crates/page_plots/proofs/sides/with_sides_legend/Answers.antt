use Rattle.std.proofs.Common.{◌++◌, ◌∙◌, ap, ℕ, List}
use Rattle.std.proofs.lemmas.List.{append_assoc}
use Rattle.std.proofs.lemmas.Result.{IfOk-weaker}
use Rattle.audit_base.specs.declared.terms.Side.TheVariants.{Buy, Sell}
use Rattle.page_plots.specs.Measures.{left_end}
use Rattle.page_plots.specs.Sides.{legend_entry}
use Rattle.page_plots.proofs.sides.with_sides_legend.Goals as goal

pub returns : goal.returns
returns c =
    let bids = legend_entry Buy left_end c.args.bids.now in
    let asks = legend_entry Sell c.args.asks_x c.args.asks.now in
    IfOk-weaker c.with_legend_entry-2.result _ _ (λ more e. e ∙ ap (λ (m : List ℕ). m ++ asks) c.in_ok-made.ensures ∙ append_assoc c.args.made bids asks) c.with_legend_entry-2.ensures
