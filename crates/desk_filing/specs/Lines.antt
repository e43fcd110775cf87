-- The lines of filing and checking, beside those of a casebook (`case_run`).
use Rattle.std.specs.Prelude.{ℕ, List, [], ◌∷◌, codes, Option, None, Some}
use Rattle.audit_report.specs.Lines.{line_text, log_word}
use Rattle.audit_base.specs.declared.terms.Which.TheVariants.{Orders, Trades}
use Rattle.desk_filing.specs.declared.differences.CaseDifference.{CaseDifference}
use Rattle.desk_filing.specs.declared.differences.CaseDifference.TheVariants as difference

-- `longlabel,SYMBOL`
abbrev pub long_label_line : List ℕ → List ℕ
long_label_line symbol = line_text (codes "longlabel" ∷ symbol ∷ [])

-- `nodigest,LABEL`
abbrev pub no_digest_line : List ℕ → List ℕ
no_digest_line label = line_text (codes "nodigest" ∷ label ∷ [])

-- the word for what differs
abbrev pub difference_word : CaseDifference → List ℕ
difference_word difference.OfOrders = log_word Orders
difference_word difference.OfTrades = log_word Trades
difference_word difference.OfVerdict = codes "verdict"

-- `same,LABEL`, or `differs,LABEL` and what differs
abbrev pub comparison_line : List ℕ → Option CaseDifference → List ℕ
comparison_line label None = line_text (codes "same" ∷ label ∷ [])
comparison_line label (Some what) =
    line_text (codes "differs" ∷ label ∷ difference_word what ∷ [])
