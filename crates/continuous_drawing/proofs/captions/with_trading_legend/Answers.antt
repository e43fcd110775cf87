use Rattle.std.proofs.Common.{◌++◌, ◌∙◌, ap, ℕ, List}
use Rattle.std.specs.Prelude.{codes}
use Rattle.std.proofs.lemmas.List.{append_assoc}
use Rattle.std.proofs.lemmas.Result.{IfOk-weaker}
use Rattle.page_plots.specs.Sides.{sides_legend}
use Rattle.continuous_drawing.specs.Captions.{best_asks_legend, trade_entry}
use Rattle.continuous_drawing.proofs.captions.with_trading_legend.Goals as goal

pub returns : goal.returns
returns c =
    let sides = sides_legend (codes "best bid") best_asks_legend (codes "best ask") in
    IfOk-weaker c.with_trade_entry.result _ _ (λ more e. e ∙ ap (λ (m : List ℕ). m ++ trade_entry) c.in_ok-made.ensures ∙ append_assoc c.args.made sides trade_entry) c.with_trade_entry.ensures
