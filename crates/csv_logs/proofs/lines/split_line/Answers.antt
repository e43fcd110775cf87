use Rattle.std.proofs.Common.{◌≡◌, ℕ, arith, length, subst, List, false}
use Rattle.std.specs.List.{list_any}
use Rattle.std.proofs.lemmas.List.{take_all}
use Rattle.csv_logs.specs.Feeds.{is_lf}
use Rattle.csv_logs.proofs.LineLemmas.{no-lf-take, around-lf}
use Rattle.csv_logs.proofs.lines.split_line.Goals as goal

pub returns-in_err-at : goal.returns-in_err-at
returns-in_err-at c =
    let text = c.args.text.now in
    let none = no-lf-take (length text) text (λ k h l. c.in_err-at.ensures k (omega arith) l) in
    rw c.from_residual.ensures (subst (λ (t : List ℕ). list_any is_lf t ≡ false) (take_all (length text) text (omega arith)) none)

pub returns : goal.returns
returns c = (
  around-lf c.in_ok-at.at c.args.text.now c.in_ok-at.ensures.0.high c.in_ok-at.ensures.1,
  no-lf-take c.in_ok-at.at c.args.text.now (λ k h l. c.in_ok-at.ensures.0.before k (omega arith) h),
)
