use Rattle.std.proofs.Common.{sym, ap, ◌∙◌, List, ℕ, ◌++◌}
use Rattle.plain_logs.specs.PlainTexts.{plain_text}
use Rattle.plain_logs.proofs.GoodLemmas.{good-again}
use Rattle.plain_logs.proofs.day_writers.GoodMessagesDayWriter.append_good.Goals as goal

pub returns : goal.returns
returns c = λ bodies same.
    c.in_ok-extend_from_slice.ensures.items ∙ ap (λ (t : List ℕ). c.args.out.now.items ++ t) same ∙ ap (λ (t : List (List ℕ)). c.args.out.now.items ++ plain_text t) (sym (good-again bodies))
