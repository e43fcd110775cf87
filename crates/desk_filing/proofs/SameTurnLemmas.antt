-- What was filed is found to be the same: the verdict is one, and so are the digests.
use Rattle.std.proofs.Common.{◌≡◌, ◌∙◌, sym, ap, subst, refl, ℕ, Bool, true, false, cond, List, [], ◌∷◌, ◌++◌, Option, None, Some, Result, Ok, Err, IsOk}
use Rattle.std.specs.Prelude.{MatchResult, find}
use Rattle.std.specs.Option.{option_or}
use Rattle.std.proofs.lemmas.List.Folds.{find-append}
use Rattle.std.proofs.lemmas.Slice.Eq.{bytes_eq-Decides}
use Rattle.audit_base.specs.declared.faults.BadPlace.{BadPlace}
use Rattle.audit_base.specs.declared.findings.Finding.{Finding}
use Rattle.audit_base.specs.declared.records.OrderRecord.{OrderRecord}
use Rattle.audit_base.specs.declared.records.TradeRecord.{TradeRecord}
use Rattle.audit_base.specs.declared.terms.Rule.{Rule}
use Rattle.audit_base.specs.declared.terms.Which.TheVariants.{Orders, Trades}
use Rattle.audit_report.specs.declared.verdicts.Verdict.{Verdict}
use Rattle.case_run.specs.declared.statuses.CaseStatus.TheVariants as status
use Rattle.digest_keeper.specs.KeptCases.{has_kept_label, kept_of, kept_under}
use Rattle.digest_keeper.specs.declared.digested.DigestedCase.{DigestedCase}
use Rattle.digest_keeper.specs.declared.digested.KeptCase.{KeptCase}
use Rattle.log_digests.specs.declared.digests.LogDigests.{LogDigests}
use Rattle.log_verdict.specs.LogVerdicts.{records_of_order_log, trades_of_trade_log}
use Rattle.record_verdict.specs.Laws.{RecordVerdictIsOne}
use Rattle.record_verdict.specs.RecordVerdicts.{question}
use Rattle.symbol_offences.specs.OffenceAnswers.{is_absent}
use Rattle.desk_filing.specs.Laws.{FiledIsSame}
use Rattle.desk_filing.specs.Lines.{comparison_line}
use Rattle.desk_filing.specs.Turns.{ChecksCase, FilesUnlessAbsent, FilesVerdict, FilingTurn, IsBadTurn, IsFirstDifference, IsTurnOfRecords, comparison_status, digested_case, digested_logs, filed_turn_by, first_known, offence_in, unfiled_turn}
use Rattle.desk_filing.specs.declared.differences.AuditedLogs.{AuditedLogs}
use Rattle.desk_filing.specs.declared.differences.CaseDifference.{CaseDifference}
use Rattle.desk_filing.specs.declared.differences.CaseDifference.TheVariants.{OfOrders, OfTrades, OfVerdict}
use Rattle.desk_filing.specs.declared.requests.FilingCommand.{FilingCommand}
use Rattle.desk_filing.specs.declared.requests.FilingCommand.TheVariants.{Check, File}
use Rattle.desk_filing.specs.declared.requests.FilingRequest.{FilingRequest}
use Rattle.desk_filing.proofs.OneTurnLemmas.{one_log}

-- the case that was filed under a label that had none
kept_last : (kept : List KeptCase) (one : DigestedCase) → kept_under kept one.case.label ≡ None → kept_under (kept ++ kept_of one ∷ []) one.case.label ≡ Some (kept_of one)
kept_last kept one none =
    find-append (has_kept_label one.case.label) kept (kept_of one ∷ [])
    ∙ ap (λ (o : Option KeptCase). option_or o (find (has_kept_label one.case.label) (kept_of one ∷ []))) none
    ∙ ap (λ (b : Bool). cond b (Some (kept_of one)) None) ((bytes_eq-Decides one.case.label one.case.label).1 refl)

-- only what no case has is filed
done_none : (kept : List KeptCase) (cases : List DigestedCase) (found : Option KeptCase) → (filed_turn_by kept cases found).status ≡ status.Done → found ≡ None
done_none kept cases None done = refl
done_none kept cases (Some known) done = absurd (cc)

known_none : (a : Option KeptCase) → option_or a None ≡ None → a ≡ None
known_none None e = refl
known_none (Some x) e = e

-- two audits that are the same do not differ
no_difference : (audit : AuditedLogs) (difference : Option CaseDifference) → IsFirstDifference audit audit difference → difference ≡ None
no_difference audit (Some OfOrders) is = absurd (is refl)
no_difference audit (Some OfTrades) is = absurd (is.1 refl)
no_difference audit (Some OfVerdict) is = absurd (is.2 refl)
no_difference audit None is = refl

module _ (one_verdict : RecordVerdictIsOne) (digests : LogDigests) (kept : List KeptCase) (label : List ℕ) (the_rule : Rule) (symbol : List ℕ) (entries : List OrderRecord) (paired : Result (List TradeRecord) Finding) where
  module _ (filed : FilingTurn) (files : FilesVerdict digests kept label the_rule symbol entries paired filed) (done : filed.status ≡ status.Done) where
    abbrev case : DigestedCase
    case = digested_case label the_rule digests symbol files.the_verdict

    none : first_known kept (case ∷ []) ≡ None
    none = done_none kept (case ∷ []) (first_known kept (case ∷ [])) (sym (ap (λ (t : FilingTurn). t.status) files.is) ∙ done)

    found_there : kept_under filed.kept label ≡ Some (kept_of case)
    found_there =
        ap (λ (t : FilingTurn). kept_under t.kept label) files.is
        ∙ ap (λ (o : Option KeptCase). kept_under (filed_turn_by kept (case ∷ []) o).kept label) none
        ∙ kept_last kept case (known_none (kept_under kept label) none)

    same_of_records : (checked : FilingTurn) → ChecksCase digests filed.kept label entries paired checked (kept_under filed.kept label) → checked ≡ unfiled_turn filed.kept status.Done (comparison_line label None)
    same_of_records checked checks =
        let is = subst (ChecksCase digests filed.kept label entries paired checked) found_there checks in
        let same : is.compares.the_verdict ≡ files.the_verdict = one_verdict (question the_rule symbol false) entries paired is.compares.the_verdict files.the_verdict is.compares.is files.on in
        let audit : AuditedLogs = record { digests = digests; offence = offence_in files.the_verdict } in
        is.is
        ∙ ap (λ (d : Option CaseDifference). unfiled_turn filed.kept (comparison_status d) (comparison_line label d))
        (no_difference audit is.difference (subst (λ (v : Verdict). IsFirstDifference audit (record { digests = digests; offence = offence_in v }) is.difference) same is.compares.first))

-- only of a symbol that is not absent a verdict is filed
present : (absent : Bool) (digests : LogDigests) (kept : List KeptCase) (label : List ℕ) (the_rule : Rule) (symbol : List ℕ) (entries : List OrderRecord) (paired : Result (List TradeRecord) Finding) (turn : FilingTurn)
    → FilesUnlessAbsent absent digests kept label the_rule symbol entries paired turn → turn.status ≡ status.Done → FilesVerdict digests kept label the_rule symbol entries paired turn
present true digests kept label the_rule symbol entries paired turn is done = absurd (refused (sym (ap (λ (t : FilingTurn). t.status) is) ∙ done))
  where
    refused : status.Refused ≡ status.Done → ⊥
    refused e = cc
present false digests kept label the_rule symbol entries paired turn is done = is

bad_not_done : (kept : List KeptCase) (turn : FilingTurn) (text : List ℕ) → turn ≡ unfiled_turn kept status.Malformed text → turn.status ≡ status.Done → ⊥
bad_not_done kept turn text is done = let e : status.Malformed ≡ status.Done = sym (ap (λ (t : FilingTurn). t.status) is) ∙ done in cc

-- what the order log said leaves this
abbrev Leaves : FilingRequest → List KeptCase → FilingCommand → FilingTurn → List ℕ → List ℕ → Result (List OrderRecord) BadPlace → Type 0
Leaves request before the_command turn orders trades said =
    MatchResult said
    (λ entries. MatchResult (trades_of_trade_log request.logs.trades_form trades) (IsTurnOfRecords (digested_logs orders trades).digests before request.label the_command turn entries) (IsBadTurn before turn Trades))
    (IsBadTurn before turn Orders)

pub filed_is_same : RecordVerdictIsOne → FiledIsSame
filed_is_same one_verdict logs kept request the_rule symbol filed checked files done checks =
    let same_orders : checks.orders ≡ files.orders = one_log (logs Orders request.logs.orders) checks.orders files.orders checks.has_orders files.has_orders in
    let same_trades : IsOk (records_of_order_log request.logs.orders_form files.orders) → checks.trades ≡ files.trades =
    λ ok. one_log (logs Trades request.logs.trades) checks.trades files.trades (checks.has_trades (subst (λ (o : List ℕ). IsOk (records_of_order_log request.logs.orders_form o)) (sym same_orders) ok)) (files.has_trades ok) in
    by_orders (records_of_order_log request.logs.orders_form files.orders) same_trades files.is
    (subst (λ (o : List ℕ). Leaves request filed.kept Check checked o checks.trades (records_of_order_log request.logs.orders_form o)) same_orders checks.is)
  where
    by_trades : (entries : List OrderRecord) (said : Result (Result (List TradeRecord) Finding) BadPlace)
        → MatchResult said (IsTurnOfRecords (digested_logs files.orders files.trades).digests kept request.label (File the_rule symbol) filed entries) (IsBadTurn kept filed Trades)
        → MatchResult said (IsTurnOfRecords (digested_logs files.orders files.trades).digests filed.kept request.label Check checked entries) (IsBadTurn filed.kept checked Trades)
        → checked ≡ unfiled_turn filed.kept status.Done (comparison_line request.label None)
    by_trades entries (Ok paired) first second =
        let digests = (digested_logs files.orders files.trades).digests in
        same_of_records one_verdict digests kept request.label the_rule symbol entries paired filed (present (is_absent symbol entries paired) digests kept request.label the_rule symbol entries paired filed first done) done checked second
    by_trades entries (Err bad) first second = absurd (bad_not_done kept filed _ first done)

    by_orders : (said : Result (List OrderRecord) BadPlace) → (IsOk said → checks.trades ≡ files.trades) → Leaves request kept (File the_rule symbol) filed files.orders files.trades said → Leaves request filed.kept Check checked files.orders checks.trades said
        → checked ≡ unfiled_turn filed.kept status.Done (comparison_line request.label None)
    by_orders (Ok entries) same first second =
        by_trades entries (trades_of_trade_log request.logs.trades_form files.trades) first
        (subst (λ (t : List ℕ). Leaves request filed.kept Check checked files.orders t (Ok entries)) (same refl) second)
    by_orders (Err bad) same first second = absurd (bad_not_done kept filed _ first done)
