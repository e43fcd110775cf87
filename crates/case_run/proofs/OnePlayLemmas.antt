-- Play is one: each command has one turn, since two logs have one verdict.
use Rattle.std.proofs.Common.{◌≡◌, ◌∙◌, sym, ap, subst, refl, inl, inr, ◌⊎◌, ℕ, List, [], ◌∷◌, Option, Some, Result, Ok, Err, IsOk}
use Rattle.std.specs.Prelude.{MatchResult, false}
use Rattle.audit_base.specs.declared.faults.BadPlace.{BadPlace}
use Rattle.audit_base.specs.declared.records.OrderRecord.{OrderRecord}
use Rattle.audit_base.specs.declared.terms.Which.{Which}
use Rattle.audit_base.specs.declared.terms.Which.TheVariants.{Orders, Trades}
use Rattle.audit_report.specs.declared.verdicts.Verdict.{Verdict}
use Rattle.audit_report.specs.declared.verdicts.Verdict.TheVariants as verdict
use Rattle.record_verdict.specs.RecordVerdicts.{question, IsRecordVerdict}
use Rattle.log_verdict.specs.Laws.{OneVerdict}
use Rattle.log_verdict.specs.LogVerdicts.{records_of_order_log, trades_of_trade_log, log_in, IsLogVerdict}
use Rattle.case_keeper.specs.declared.case.Case.{Case}
use Rattle.case_run.specs.Laws.{OnePlay}
use Rattle.case_run.specs.Play.{AreTurns, IsTurn, IsVerdictOfFiling, PlayTurn, play_result, verdict_turn}
use Rattle.case_run.specs.declared.commands.CaseCommand.{CaseCommand}
use Rattle.case_run.specs.declared.commands.CaseCommand.TheVariants as command
use Rattle.case_run.specs.declared.commands.Filing.{Filing}
use Rattle.case_run.specs.declared.statuses.CaseStatus.TheVariants as status

-- a shelf has one log under a name
one_log : (found : Option (List ℕ)) (a b : List ℕ) → found ≡ Some a → found ≡ Some b → a ≡ b
one_log found a b x y = cc

module _ (one_verdict : OneVerdict) (logs : Which → List ℕ → Option (List ℕ)) where
  module _ (wanted : Filing) where
    -- the verdict on an order log that is not in its grammar does not look at the trade log
    by_other_trades : (orders : List ℕ) (trades others : List ℕ) (v : Verdict) → (IsOk (records_of_order_log wanted.form orders) → others ≡ trades)
        → IsLogVerdict (question wanted.rule wanted.symbol false) (log_in wanted.form orders) (log_in wanted.form others) v
        → IsLogVerdict (question wanted.rule wanted.symbol false) (log_in wanted.form orders) (log_in wanted.form trades) v
    by_other_trades orders trades others v same is = by_said (records_of_order_log wanted.form orders) (λ ok. same ok) is
      where
        of_trades : List ℕ → List OrderRecord → Type 0
        of_trades bytes entries = MatchResult (trades_of_trade_log wanted.form bytes)
            (λ paired. IsRecordVerdict (question wanted.rule wanted.symbol false) entries paired v) (λ bad. v ≡ verdict.Malformed Trades bad)

        by_said : (said : Result (List OrderRecord) BadPlace) → (IsOk said → others ≡ trades)
            → MatchResult said (of_trades others) (λ bad. v ≡ verdict.Malformed Orders bad)
            → MatchResult said (of_trades trades) (λ bad. v ≡ verdict.Malformed Orders bad)
        by_said (Ok entries) equal there = subst (λ (bytes : List ℕ). of_trades bytes entries) (equal refl) there
        by_said (Err bad) equal there = there

    one_verdict_on : (a b : Verdict) → IsVerdictOfFiling logs wanted a → IsVerdictOfFiling logs wanted b → a ≡ b
    one_verdict_on a b x y =
        let same_orders : y.orders ≡ x.orders = one_log (logs Orders wanted.orders) y.orders x.orders y.has_orders x.has_orders in
        let there : IsLogVerdict (question wanted.rule wanted.symbol false) (log_in wanted.form x.orders) (log_in wanted.form y.trades) b =
        subst (λ (o : List ℕ). IsLogVerdict (question wanted.rule wanted.symbol false) (log_in wanted.form o) (log_in wanted.form y.trades) b) same_orders y.is in
        let has_trades : IsOk (records_of_order_log wanted.form x.orders) → y.trades ≡ x.trades =
        λ ok. one_log (logs Trades wanted.trades) y.trades x.trades
        (y.has_trades (subst (λ (o : List ℕ). IsOk (records_of_order_log wanted.form o)) (sym same_orders) ok)) (x.has_trades ok) in
        one_verdict _ _ _ a b x.is (by_other_trades x.orders x.trades y.trades b has_trades there)

  one_turn : (cases : List Case) (c : CaseCommand) (a b : PlayTurn) → IsTurn logs cases c a → IsTurn logs cases c b → a ≡ b
  one_turn cases (command.File wanted) a b x y =
      x.2 ∙ ap (λ (v : Verdict). verdict_turn cases wanted v) (one_verdict_on wanted x.0 y.0 x.1 y.1) ∙ sym y.2
  one_turn cases (command.List filter) a b x y = x ∙ sym y
  one_turn cases (command.Show label) a b x y = x ∙ sym y

  -- what comes after a turn of Play
  abbrev Behind : PlayTurn → List CaseCommand → List PlayTurn → Type 0
  Behind turn commands turns = ((turn.status ≡ status.Malformed) × (turns ≡ [])) ⊎ ((turn.status ≡ status.Malformed → ⊥) × AreTurns logs turn.cases commands turns)

  one_behind : (turn : PlayTurn) (commands : List CaseCommand) (a b : List PlayTurn) → (AreTurns logs turn.cases commands a → AreTurns logs turn.cases commands b → a ≡ b) → Behind turn commands a → Behind turn commands b → a ≡ b
  one_behind turn commands a b one (inl p) (inl q) = p.1 ∙ sym q.1
  one_behind turn commands a b one (inl p) (inr q) = absurd (q.0 p.0)
  one_behind turn commands a b one (inr p) (inl q) = absurd (p.0 q.0)
  one_behind turn commands a b one (inr p) (inr q) = one p.1 q.1

  one_list : (cases : List Case) (commands : List CaseCommand) (a b : List PlayTurn) → AreTurns logs cases commands a → AreTurns logs cases commands b → a ≡ b
  one_list cases [] a b x y = x ∙ sym y
  one_list cases (c ∷ commands) [] b x y = absurd x
  one_list cases (c ∷ commands) (turn ∷ a) [] x y = absurd y
  one_list cases (c ∷ commands) (turn ∷ a) (other ∷ b) x y =
      let same : other ≡ turn = one_turn cases c other turn y.0 x.0 in
      ap (λ (ts : List PlayTurn). turn ∷ ts)
      (one_behind turn commands a b (one_list turn.cases commands a b) x.1 (subst (λ (t : PlayTurn). Behind t commands b) same y.1))
      ∙ ap (λ (t : PlayTurn). t ∷ b) (sym same)

pub one_play : OneVerdict → OnePlay
one_play one_verdict logs cases commands a b x y =
    x.2 ∙ ap (λ (ts : List PlayTurn). play_result cases ts) (one_list one_verdict logs cases commands x.0 y.0 x.1 y.1) ∙ sym y.2
