-- What `expect` wrote is accepted, and `generate` answers a summary.
use Rattle.std.proofs.Common.{◌≡◌, ◌∙◌, sym, ap, subst, refl, inl, inr, ⊎_elim, ℕ, Bool, true, false, List, [], ◌∷◌, Option, None, Some, Result, Ok, Err}
use Rattle.std.proofs.lemmas.List.{append_cancel_left}
use Rattle.std.specs.Prelude.{IsSome, MatchOption, MatchResult}
use Rattle.std.specs.Io.KnownBytes.{Appends}
use Rattle.audit_base.specs.declared.faults.BadPlace.{BadPlace}
use Rattle.audit_base.specs.declared.findings.Finding.{Finding}
use Rattle.audit_base.specs.declared.records.OrderRecord.{OrderRecord}
use Rattle.audit_base.specs.declared.records.TradeRecord.{TradeRecord}
use Rattle.audit_base.specs.declared.terms.Form.TheVariants.{Csv}
use Rattle.audit_base.specs.declared.terms.Rule.{Rule}
use Rattle.audit_base.specs.declared.terms.Which.TheVariants.{Orders, Trades}
use Rattle.audit_report.specs.declared.statuses.Status.TheVariants as status
use Rattle.audit_report.specs.declared.verdicts.Accepted.{Accepted}
use Rattle.audit_report.specs.declared.verdicts.Verdict.{Verdict}
use Rattle.audit_report.specs.declared.verdicts.Verdict.TheVariants as verdict
use Rattle.audit_report.specs.Statuses.{verdict_status}
use Rattle.record_verdict.specs.declared.questions.Question.{Question}
use Rattle.command_words.specs.declared.requests.Request.{Request}
use Rattle.command_words.specs.declared.requests.Request.TheVariants.{Expect}
use Rattle.audit_run.specs.ExpectedTrades.{AuditAcceptsExpectedTrades, ExpectedTradesAreAccepted, WroteExpected}
use Rattle.audit_run.specs.Laws.{GenerateWrites}
use Rattle.audit_run.specs.OtherTexts.{orders_finding, ExpectsRecords, IsAcceptedBeside, IsExpectAnswer, IsExpectedLog}
use Rattle.command_run.specs.Laws.{HeldLogsAreRead}
use Rattle.audit_run.specs.Requests.{auditor_command_of, IsAnswerTo}
use Rattle.command_run.specs.VerdictAnswers.{IsDone, IsVerdictAnswer}
use Rattle.record_verdict.specs.RecordVerdicts.{question, IsRecordVerdict}
use Rattle.log_verdict.specs.LogVerdicts.{Log, log_in, records_of_order_log, trades_of_trade_log}
use Rattle.log_verdict.specs.Laws.{OneVerdict}

not_true : false ≡ true → ⊥
not_true e = cc

-- what was added to the same bytes, and gave the same, is the same
same-added : (old new : Option (List ℕ)) (a b : List ℕ) → IsSome old → Appends old new a → Appends old new b → a ≡ b
same-added None new a b some x y = absurd (not_true some)
same-added (Some xs) None a b some x y = absurd x
same-added (Some xs) (Some ys) a b some x y = append_cancel_left xs a b (sym x ∙ y)

-- the text that was written is the answer to the log that is held
answered : ((request : Request) → HeldLogsAreRead (auditor_command_of request)) → (the_rule : Rule) (symbol : List ℕ) (orders : Log) (text : List ℕ) → WroteExpected the_rule symbol orders text → IsExpectAnswer the_rule symbol orders status.Accepted text
answered read the_rule symbol orders text w =
    let request : Request = Expect the_rule symbol w.name orders.form in
    let done = w.answered.causes in
    let same : done.text ≡ text = same-added w.old.wrote w.new.wrote done.text text w.sink_tells done.wrote w.wrote in
    subst (λ (t : List ℕ). IsAnswerTo request (orders.bytes ∷ []) status.Accepted t) same
    (read request w.r (orders.bytes ∷ []) status.Accepted done.text w.shelf_tells w.held done.is)

not_rejected : status.Accepted ≡ status.Rejected → ⊥
not_rejected e = cc

not_malformed : status.Accepted ≡ status.Malformed → ⊥
not_malformed e = cc

-- what is answered with status 0 was done
done-of : (found : Option Finding) (is_text : List ℕ → Type 0) (text : List ℕ)
    → MatchOption found (IsDone is_text status.Accepted text) (λ finding. IsVerdictAnswer (verdict.Rejected finding) status.Accepted text) → is_text text
done-of None is_text text is = is.is
done-of (Some finding) is_text text is = absurd (not_rejected is.status_is)

module _ (the_rule : Rule) (symbol : List ℕ) (table : Bool) (text : List ℕ) where
  abbrev asked : Question
  asked = question the_rule symbol table

  abbrev beside : Result (List OrderRecord) BadPlace → Result (Result (List TradeRecord) Finding) BadPlace → Verdict → Type 0
  beside orders trades v =
      MatchResult orders (λ entries. MatchResult trades (λ paired. IsRecordVerdict asked entries paired v) (λ bad. v ≡ verdict.Malformed Trades bad)) (λ bad. v ≡ verdict.Malformed Orders bad)

  accepted-by : (entries : List OrderRecord) (trades : Result (Result (List TradeRecord) Finding) BadPlace) → IsAcceptedBeside asked entries trades
      → (accepted : Accepted) × beside (Ok entries) trades (verdict.Accepted accepted)
  accepted-by entries trades is =
      (is.acceptance, subst (λ (s : Result (Result (List TradeRecord) Finding) BadPlace). beside (Ok entries) s (verdict.Accepted is.acceptance)) (sym is.says) is.judged)

  accepted-of : (said : Result (List OrderRecord) BadPlace)
      → MatchResult said (λ entries. ExpectsRecords the_rule symbol entries status.Accepted text) (λ bad. IsVerdictAnswer (verdict.Malformed Orders bad) status.Accepted text)
      → (accepted : Accepted) × beside said (trades_of_trade_log Csv text) (verdict.Accepted accepted)
  accepted-of (Ok entries) is =
      let log = done-of (orders_finding the_rule symbol entries) (IsExpectedLog the_rule symbol entries) text is in
      accepted-by entries (trades_of_trade_log Csv text) (log.accepted table)
  accepted-of (Err bad) is = absurd (not_malformed is.status_is)

pub expected-accepted : OneVerdict → ((request : Request) → HeldLogsAreRead (auditor_command_of request)) → ExpectedTradesAreAccepted
expected-accepted one read the_rule symbol table orders text w =
    let known = accepted-of the_rule symbol table text (records_of_order_log orders.form orders.bytes) (answered read the_rule symbol orders text w) in
    record {
      accepted = known.0;
      is = known.1;
      only = λ other is. one (question the_rule symbol table) orders (log_in Csv text) other (verdict.Accepted known.0) is known.1;
    }

pub audit-accepts : OneVerdict → ((request : Request) → HeldLogsAreRead (auditor_command_of request)) → AuditAcceptsExpectedTrades
audit-accepts one read the_rule symbol table orders text answer w audited =
    let known = expected-accepted one read the_rule symbol table orders text w in
    ⊎_elim (λ written. inl (written.is.answer.status_is ∙ ap verdict_status (known.only written.is.verdict written.is.is))) (λ none. inr none.status_is)
    (audited.answered.commands (orders.bytes ∷ text ∷ []) audited.ready)

no-log : {A : Type 0} (x : A) → None ≡ Some x → ⊥
no-log x e = cc

pub generate-writes : GenerateWrites
generate-writes start count r old new status.Accepted is = inl refl
generate-writes start count r old new status.WriteFault is = inr (inl refl)
generate-writes start count r old new status.Memory is = inr (inr refl)
generate-writes start count r old new status.Rejected is = absurd (not_rejected (sym is.is.answer.done))
generate-writes start count r old new status.Malformed is = absurd (not_malformed (sym is.is.answer.done))
generate-writes start count r old new status.ReadFault is = absurd (no-log _ is.is.reads.next)
generate-writes start count r old new status.TooLong is = absurd (no-log _ is.is.reads.next)
generate-writes start count r old new status.Usage is = absurd is
