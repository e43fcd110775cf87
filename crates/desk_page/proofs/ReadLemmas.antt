-- Two logs that were read to their ends have the digests of what the shelf has, and give the page.
use Rattle.std.proofs.Common.{◌≡◌, ◌∙◌, sym, ap, ℕ, Bool, true, false, List, Option, Some, Result, Ok, Err}
use Rattle.std.specs.Prelude.{option_map, MatchResult}
use Rattle.audit_base.specs.declared.faults.BadPlace.{BadPlace}
use Rattle.audit_base.specs.declared.findings.Finding.{Finding}
use Rattle.audit_base.specs.declared.records.OrderRecord.{OrderRecord}
use Rattle.audit_base.specs.declared.records.TradeRecord.{TradeRecord}
use Rattle.audit_base.specs.declared.terms.Which.{Which}
use Rattle.audit_base.specs.declared.terms.Which.TheVariants.{Orders, Trades}
use Rattle.audit_report.specs.declared.verdicts.Verdict.TheVariants as verdict
use Rattle.command_run.specs.declared.answers.Answer.{Answer}
use Rattle.command_run.specs.Deciding.{DecidesWithout, IsAnswerOfKind}
use Rattle.command_run.specs.VerdictAnswers.{IsVerdictAnswer}
use Rattle.command_run.proofs.UnreadLemmas.{gives_unread, stays_unread}
use Rattle.log_digests.specs.Digests.{digest_of}
use Rattle.log_source.specs.declared.shelf.Shelf.{Ghosts as Shelf}
use Rattle.log_verdict.specs.declared.sources.Source.{Source}
use Rattle.log_verdict.specs.declared.stops.NoRecords.{NoRecords}
use Rattle.log_verdict.specs.declared.stops.Stop.{Stop}
use Rattle.log_verdict.specs.BothLogs.{IsUnreadOfTwoLogs, ReadsAfterOrders, ReadsLogs, ReadsWithin, StaysWithin}
use Rattle.log_verdict.specs.LogVerdicts.{records_of_order_log, trades_of_trade_log}
use Rattle.log_verdict.specs.Steps.{KeepsShelfLogs, Reading, reading_by}
use Rattle.log_digests.specs.declared.digests.LogDigests.{LogDigests}
use Rattle.desk_page.specs.declared.requests.PageRequest.{PageRequest}
use Rattle.desk_page.specs.PageAnswers.{GivesPageOrStop, IsAnswerByAbsence, IsAnswerToRecords, logs_in, page_question, Pictures}
use Rattle.desk_page.specs.PageLogs.{AreDigestsOf}
use Rattle.desk_page.specs.Telling.{IsDigestedAnswer, IsNamedByAbsence}
use Rattle.record_verdict.specs.declared.before_rule.BeforeRule.{BeforeRule}
use Rattle.record_verdict.specs.BeforeRule.{IsBeforeRule}
use Rattle.record_verdict.specs.Scopes.{scope_of}
use Rattle.symbol_offences.specs.OffenceAnswers.{is_absent}

-- the digest of a log whose bytes are known
of-log : (log : Option (List ℕ)) (bytes digest : List ℕ) → log ≡ Some bytes → digest ≡ digest_of bytes → option_map digest_of log ≡ Some digest
of-log log bytes digest is has = ap (option_map digest_of) is ∙ ap Some (sym has)

module _ (is_picture : Pictures) (r : Reading) (request : PageRequest) (orders trades : Source) (digests : LogDigests) (given : BeforeRule) (answer : Answer) (digested : IsDigestedAnswer is_picture request digests given answer)
    (nameless : (log : Which) (name other : List ℕ) → r.log_of log name ≡ r.log_of log other)
    (first : (bytes : List ℕ) → (r.after Orders).gave bytes ≡ true → digests.orders ≡ digest_of bytes) (second : (bytes : List ℕ) → (r.after Trades).gave bytes ≡ true → digests.trades ≡ digest_of bytes) where
  abbrev of_records : List OrderRecord → Result (List TradeRecord) Finding → Type 0
  of_records entries paired = IsAnswerOfKind (IsAnswerToRecords is_picture (logs_in r) request entries paired) answer

  abbrev of_bad : Which → BadPlace → Type 0
  of_bad log bad = IsAnswerOfKind (IsVerdictAnswer (verdict.Malformed log bad)) answer

  -- a page that names the logs has their digests
  by-absence : AreDigestsOf (logs_in r) request.logs digests → (entries : List OrderRecord) (paired : Result (List TradeRecord) Finding) (absent : Bool)
      → IsAnswerOfKind (IsNamedByAbsence absent is_picture (page_question request) digested.named entries paired) answer → IsAnswerOfKind (IsAnswerByAbsence absent is_picture (logs_in r) request entries paired) answer
  by-absence are entries paired true is = is
  by-absence are entries paired false is = record { digests = digests; are_digests = are; named = digested.named; names = digested.names; page = is }

  by-trades : AreDigestsOf (logs_in r) request.logs digests → (entries : List OrderRecord) (said : Result (Result (List TradeRecord) Finding) BadPlace)
      → MatchResult said (λ paired. IsBeforeRule (scope_of (page_question request)) entries paired given) (λ bad. ⊥) → MatchResult said (of_records entries) (of_bad Trades)
  by-trades are entries (Ok paired) holds = by-absence are entries paired (is_absent request.symbol entries paired) (digested.told entries paired holds)
  by-trades are entries (Err bad) holds = absurd holds

  pub reads-page : ReadsLogs r orders trades (λ entries paired. IsBeforeRule (scope_of (page_question request)) entries paired given) (λ log bad. ⊥) → ReadsLogs r orders trades of_records of_bad
  reads-page is = record { bytes = is.bytes; read = is.read; holds = after (records_of_order_log orders.form is.bytes) is.holds }
    where
      after : (said : Result (List OrderRecord) BadPlace)
          → ReadsAfterOrders r trades (λ entries paired. IsBeforeRule (scope_of (page_question request)) entries paired given) (λ log bad. ⊥) said
          → ReadsAfterOrders r trades of_records of_bad said
      after (Err bad) holds = absurd holds.0
      after (Ok entries) holds = record {
        bytes = holds.bytes;
        read = holds.read;
        holds = by-trades (record {
          of_orders = λ t. of-log (r.log_of Orders request.logs.orders) is.bytes digests.orders (nameless Orders request.logs.orders orders.name.now ∙ is.read.known t) (first is.bytes is.read.given);
          of_trades = λ t. of-log (r.log_of Trades request.logs.trades) holds.bytes digests.trades (nameless Trades request.logs.trades trades.name.now ∙ holds.read.known t) (second holds.bytes holds.read.given);
        }) entries (trades_of_trade_log trades.form holds.bytes) holds.holds;
      }

-- Two logs of a shelf that were not read into records.
module _ {S : Type 0} (orders : Source) (shelf : Shelf S) (old new : S) (keeps : KeepsShelfLogs shelf old new) (why : NoRecords) (result : Result Answer Stop) (decides : DecidesWithout why result) where
  -- what is given
  pub gives-unread : (is_picture : Pictures) (request : PageRequest) (trades : Source) → IsUnreadOfTwoLogs (reading_by orders shelf old new) orders trades why
      → GivesPageOrStop is_picture (reading_by orders shelf old new) request orders trades result
  gives-unread is_picture request trades is =
      gives_unread (reading_by orders shelf old new) orders trades (λ entries paired answer. IsAnswerOfKind (IsAnswerToRecords is_picture (logs_in (reading_by orders shelf old new)) request entries paired) answer) why result is decides

  -- and the slots stay within the limit as they did
  pub stays-unread : {T : Type 0} (read : Result T NoRecords) → read ≡ Err why → ReadsWithin (reading_by orders shelf old new) read → StaysWithin (reading_by orders shelf old new) result
  stays-unread read is within = stays_unread (reading_by orders shelf old new) why read result is within decides
