-- What a command leaves is one: records have one verdict on a question, and a day has one list of verdicts.
use Rattle.std.proofs.Common.{◌≡◌, ◌∙◌, sym, ap, subst, refl, ℕ, Bool, true, false, List, [], ◌∷◌, Option, None, Some, Result, Ok, Err, IsOk}
use Rattle.std.specs.Prelude.{MatchResult}
use Rattle.audit_base.specs.declared.faults.BadPlace.{BadPlace}
use Rattle.audit_base.specs.declared.findings.Finding.{Finding}
use Rattle.audit_base.specs.declared.records.OrderRecord.{OrderRecord}
use Rattle.audit_base.specs.declared.records.TradeRecord.{TradeRecord}
use Rattle.audit_base.specs.declared.terms.Rule.{Rule}
use Rattle.audit_base.specs.declared.terms.Which.TheVariants.{Orders, Trades}
use Rattle.audit_report.specs.declared.verdicts.Verdict.{Verdict}
use Rattle.case_keeper.specs.declared.case.Case.{Case}
use Rattle.day_verdicts.specs.Laws.{VerdictsAreOne}
use Rattle.digest_keeper.specs.KeptCases.{kept_under}
use Rattle.log_digests.specs.declared.digests.LogDigests.{LogDigests}
use Rattle.digest_keeper.specs.declared.digested.KeptCase.{KeptCase}
use Rattle.desk_filing.specs.Laws.{OneFilingTurn}
use Rattle.desk_filing.specs.Lines.{comparison_line}
use Rattle.desk_filing.specs.Turns.{ChecksCase, ChecksDigests, Compares, FilesDayOrNone, FilesUnlessAbsent, FilesVerdict, FilingTurn, IsBadTurn, IsFirstDifference, IsTurnOfRecords, cases_of_day, comparison_status, day_turn, digested_case, filed_turn, first_long, offence_in, symbols_of_whole_day, unfiled_turn}
use Rattle.desk_filing.specs.declared.differences.AuditedLogs.{AuditedLogs}
use Rattle.desk_filing.specs.declared.differences.CaseDifference.{CaseDifference}
use Rattle.desk_filing.specs.declared.differences.CaseDifference.TheVariants.{OfOrders, OfTrades, OfVerdict}
use Rattle.desk_filing.specs.declared.requests.FilingCommand.{FilingCommand}
use Rattle.desk_filing.specs.declared.requests.FilingCommand.TheVariants as command
use Rattle.desk_filing.specs.declared.requests.FilingRequest.{FilingRequest}
use Rattle.log_digests.specs.Digests.{digest_of}
use Rattle.log_verdict.specs.LogVerdicts.{records_of_order_log, trades_of_trade_log}
use Rattle.record_verdict.specs.Laws.{RecordVerdictIsOne}
use Rattle.record_verdict.specs.RecordVerdicts.{question}
use Rattle.symbol_offences.specs.OffenceAnswers.{is_absent}

-- a shelf has one log under a name
pub one_log : (found : Option (List ℕ)) (a b : List ℕ) → found ≡ Some a → found ≡ Some b → a ≡ b
one_log found a b x y = cc

-- there is one first difference
one_difference : (filed now : AuditedLogs) (a b : Option CaseDifference) → IsFirstDifference filed now a → IsFirstDifference filed now b → a ≡ b
one_difference filed now (Some OfOrders) (Some OfOrders) x y = refl
one_difference filed now (Some OfOrders) (Some OfTrades) x y = absurd (x y.0)
one_difference filed now (Some OfOrders) (Some OfVerdict) x y = absurd (x y.0)
one_difference filed now (Some OfOrders) None x y = absurd (x y.0)
one_difference filed now (Some OfTrades) (Some OfOrders) x y = absurd (y x.0)
one_difference filed now (Some OfTrades) (Some OfTrades) x y = refl
one_difference filed now (Some OfTrades) (Some OfVerdict) x y = absurd (x.1 y.1)
one_difference filed now (Some OfTrades) None x y = absurd (x.1 y.1)
one_difference filed now (Some OfVerdict) (Some OfOrders) x y = absurd (y x.0)
one_difference filed now (Some OfVerdict) (Some OfTrades) x y = absurd (y.1 x.1)
one_difference filed now (Some OfVerdict) (Some OfVerdict) x y = refl
one_difference filed now (Some OfVerdict) None x y = absurd (x.2 y.2)
one_difference filed now None (Some OfOrders) x y = absurd (y x.0)
one_difference filed now None (Some OfTrades) x y = absurd (y.1 x.1)
one_difference filed now None (Some OfVerdict) x y = absurd (y.2 x.2)
one_difference filed now None None x y = refl

-- what the order log said leaves this
abbrev Leaves : List KeptCase → FilingRequest → FilingTurn → List ℕ → List ℕ → Result (List OrderRecord) BadPlace → Type 0
Leaves kept request turn orders trades said =
    MatchResult said
    (λ entries. MatchResult (trades_of_trade_log request.logs.trades_form trades) (IsTurnOfRecords (record { orders = digest_of orders; trades = digest_of trades }) kept request.label request.command turn entries) (IsBadTurn kept turn Trades))
    (IsBadTurn kept turn Orders)

module _ (one_verdict : RecordVerdictIsOne) (one_list : VerdictsAreOne) (kept : List KeptCase) where
  module _ (digests : LogDigests) (label : List ℕ) (entries : List OrderRecord) (a b : FilingTurn) where
    one_filed : (the_rule : Rule) (symbol : List ℕ) (paired : Result (List TradeRecord) Finding) → FilesVerdict digests kept label the_rule symbol entries paired a → FilesVerdict digests kept label the_rule symbol entries paired b → a ≡ b
    one_filed the_rule symbol paired x y =
        x.is ∙ ap (λ (v : Verdict). filed_turn kept (digested_case label the_rule digests symbol v ∷ [])) (one_verdict (question the_rule symbol false) entries paired x.the_verdict y.the_verdict x.on y.on) ∙ sym y.is

    one_symbol : (absent : Bool) (the_rule : Rule) (symbol : List ℕ) (paired : Result (List TradeRecord) Finding) → FilesUnlessAbsent absent digests kept label the_rule symbol entries paired a
        → FilesUnlessAbsent absent digests kept label the_rule symbol entries paired b → a ≡ b
    one_symbol true the_rule symbol paired x y = x ∙ sym y
    one_symbol false the_rule symbol paired x y = one_filed the_rule symbol paired x y

    one_day : (the_rule : Rule) (paired : Result (List TradeRecord) Finding) → FilesDayOrNone digests kept label the_rule entries paired a → FilesDayOrNone digests kept label the_rule entries paired b → a ≡ b
    one_day the_rule (Ok trades) x y =
        x.is
        ∙ ap (λ (vs : List Verdict). day_turn kept (first_long label (symbols_of_whole_day entries trades)) (cases_of_day label the_rule digests (symbols_of_whole_day entries trades) vs))
        (one_list the_rule false entries trades (symbols_of_whole_day entries trades) x.verdicts y.verdicts x.are y.are)
        ∙ sym y.is
    one_day the_rule (Err finding) x y = x ∙ sym y

    same_difference : (case : Case) (filed : LogDigests) (paired : Result (List TradeRecord) Finding) (d e : Option CaseDifference) → Compares case filed digests entries paired d → Compares case filed digests entries paired e → d ≡ e
    same_difference case filed paired d e x y =
        let then_was : AuditedLogs = record { digests = filed; offence = case.offence } in
        let same : y.the_verdict ≡ x.the_verdict = one_verdict (question case.rule case.symbol false) entries paired y.the_verdict x.the_verdict y.is x.is in
        one_difference then_was (record { digests = digests; offence = offence_in x.the_verdict }) d e x.first
        (subst (λ (v : Verdict). IsFirstDifference then_was (record { digests = digests; offence = offence_in v }) e) same y.first)

    one_comparison : (case : Case) (paired : Result (List TradeRecord) Finding) (filed : Option LogDigests) → ChecksDigests digests kept label entries paired a case filed → ChecksDigests digests kept label entries paired b case filed → a ≡ b
    one_comparison case paired None x y = x ∙ sym y
    one_comparison case paired (Some filed) x y =
        x.is ∙ ap (λ (d : Option CaseDifference). unfiled_turn kept (comparison_status d) (comparison_line label d)) (same_difference case filed paired x.difference y.difference x.compares y.compares) ∙ sym y.is

    one_check : (paired : Result (List TradeRecord) Finding) (found : Option KeptCase) → ChecksCase digests kept label entries paired a found → ChecksCase digests kept label entries paired b found → a ≡ b
    one_check paired None x y = x ∙ sym y
    one_check paired (Some found) x y = one_comparison found.case paired found.digests x y

    one_of_records : (c : FilingCommand) (paired : Result (List TradeRecord) Finding) → IsTurnOfRecords digests kept label c a entries paired → IsTurnOfRecords digests kept label c b entries paired → a ≡ b
    one_of_records (command.File the_rule symbol) paired x y = one_symbol (is_absent symbol entries paired) the_rule symbol paired x y
    one_of_records (command.FileAll the_rule) paired x y = one_day the_rule paired x y
    one_of_records command.Check paired x y = one_check paired (kept_under kept label) x y

    one_after : (c : FilingCommand) (said : Result (Result (List TradeRecord) Finding) BadPlace) → MatchResult said (IsTurnOfRecords digests kept label c a entries) (IsBadTurn kept a Trades) → MatchResult said (IsTurnOfRecords digests kept label c b entries) (IsBadTurn kept b Trades) → a ≡ b
    one_after c (Ok paired) x y = one_of_records c paired x y
    one_after c (Err bad) x y = x ∙ sym y

  -- the trade log counts only where the order log is good
  one_left : (request : FilingRequest) (a b : FilingTurn) (orders trades others : List ℕ) (said : Result (List OrderRecord) BadPlace) → (IsOk said → others ≡ trades) → Leaves kept request a orders trades said → Leaves kept request b orders others said → a ≡ b
  one_left request a b orders trades others (Ok entries) same x y =
      one_after (record { orders = digest_of orders; trades = digest_of trades }) request.label entries a b request.command (trades_of_trade_log request.logs.trades_form trades) x
      (subst (λ (t : List ℕ). Leaves kept request b orders t (Ok entries)) (same refl) y)
  one_left request a b orders trades others (Err bad) same x y = x ∙ sym y

pub one_filing_turn : RecordVerdictIsOne → VerdictsAreOne → OneFilingTurn
one_filing_turn one_verdict one_list logs kept request a b x y =
    let same_orders : y.orders ≡ x.orders = one_log (logs Orders request.logs.orders) y.orders x.orders y.has_orders x.has_orders in
    let same_trades : IsOk (records_of_order_log request.logs.orders_form x.orders) → y.trades ≡ x.trades =
    λ ok. one_log (logs Trades request.logs.trades) y.trades x.trades (y.has_trades (subst (λ (o : List ℕ). IsOk (records_of_order_log request.logs.orders_form o)) (sym same_orders) ok)) (x.has_trades ok) in
    one_left one_verdict one_list kept request a b x.orders x.trades y.trades (records_of_order_log request.logs.orders_form x.orders) same_trades x.is
    (subst (λ (o : List ℕ). Leaves kept request b o y.trades (records_of_order_log request.logs.orders_form o)) same_orders y.is)
