use Rattle.std.proofs.Common.{◌++◌, ◌∙◌, ap, ℕ, List}
use Rattle.std.specs.Prelude.{codes}
use Rattle.std.proofs.lemmas.List.{append_assoc}
use Rattle.std.proofs.lemmas.Result.{IfOk-weaker}
use Rattle.page_plots.specs.Measures.{lower_end}
use Rattle.page_plots.specs.Shapes.{label, straight_line}
use Rattle.page_plots.proofs.plot_lines.with_worded_line.Goals as goal

pub returns : goal.returns
returns c =
    let line = straight_line c.args.class.now c.args.from (record { x = c.args.from.x; y = lower_end }) in
    let over = label (codes "label") (record { x = c.args.from.x; y = c.args.over.now.foot }) c.args.over.now.anchor c.args.over.now.words.now in
    IfOk-weaker c.with_label.result _ _ (λ more e. e ∙ ap (λ (m : List ℕ). m ++ over) c.in_ok-made.ensures ∙ append_assoc c.args.made line over) c.with_label.ensures
