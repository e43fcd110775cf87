-- From what was done over the shelf that takes digests to what the top call says of the shelf below.
use Rattle.std.proofs.Common.{◌≡◌, refl, sym, subst, inl, inr, arith, ℕ, Bool, List, Option, None, Some, Result, Err}
use Rattle.audit_base.specs.declared.terms.Which.{Which}
use Rattle.audit_base.specs.declared.terms.Which.TheVariants.{Orders, Trades}
use Rattle.audit_report.specs.declared.statuses.Status.{Status}
use Rattle.audit_report.specs.declared.statuses.Status.TheVariants as status
use Rattle.command_run.specs.declared.answers.Answer.{Answer}
use Rattle.command_run.specs.Deciding.{DecidesAnswer}
use Rattle.command_run.specs.Laws.{HeldLogsAreAnswered}
use Rattle.command_run.specs.Runs.{AllIsThere, AnswersCommand, AnswersTooLong, WritesAnswer}
use Rattle.command_words.specs.declared.requests.WordsFault.{WordsFault}
use Rattle.command_words.specs.declared.requests.WordsFault.TheVariants as fault
use Rattle.log_digests.specs.DigestShelves.{name_of_log}
use Rattle.log_source.specs.declared.shelf.Shelf.{Ghosts as Shelf}
use Rattle.log_source.specs.Sinks.{SinkState}
use Rattle.log_verdict.specs.declared.stops.Stop.{Stop}
use Rattle.log_verdict.specs.BothLogs.{StaysWithin}
use Rattle.log_source.specs.Sources.{with_account}
use Rattle.log_verdict.specs.Steps.{FaultsNeverFall, HoldsBySomeAccount, Reading, with_accounts}
use Rattle.desk_page.specs.declared.requests.PageRequest.{PageRequest}
use Rattle.desk_page.specs.PageAnswers.{logs_in, Pictures}
use Rattle.desk_page.specs.PageLogs.{ShelfLogs}
use Rattle.desk_page.specs.Requests.{page_command}
use Rattle.desk_page.specs.TopCall.{AnswersPage, AnswersPageRequest, AnswersPageWords, RefusesOrLacksMemory}

-- what a call says, by what was decided of the command over a shelf of these logs
pub answers-decided : (is_picture : Pictures) (shelf : ShelfLogs) (r : Reading) (request : PageRequest) (old new : SinkState) (s : Status) (decided : Result Answer Stop) → shelf ≡ logs_in r
    → HeldLogsAreAnswered (page_command is_picture shelf request) → ((q : Reading) → DecidesAnswer q (page_command is_picture shelf request) decided → AnswersCommand q (page_command is_picture shelf request) old new s)
    → ((q : Reading) → StaysWithin q decided → AnswersTooLong q s) → DecidesAnswer r (page_command is_picture shelf request) decided → StaysWithin r decided → FaultsNeverFall r → AnswersPage is_picture r request old new s
answers-decided is_picture shelf r request old new s decided same held answers too-long decides within later = record {
  held = subst (λ (l : ShelfLogs). (logs : List (List ℕ)) → AllIsThere r (page_command is_picture l request) logs old new → WritesAnswer (page_command is_picture l request) logs old new s) same
      (λ logs there. held r logs old new s there (answers r decides));
  causes = subst (λ (l : ShelfLogs). AnswersCommand r (page_command is_picture l request) old new s) same (answers r decides);
  too_long = too-long r within;
  later = later;
}

-- the name of a log of a request
pub named-log : (first second orders trades : List ℕ) → first ≡ orders → second ≡ trades → (log : Which) → name_of_log first second log ≡ name_of_log orders trades log
named-log first second orders trades one two Orders = one
named-log first second orders trades one two Trades = two

-- shelves that have the same logs
pub same-logs : (tells tells' : Bool) (log_of log_of' : Which → List ℕ → Option (List ℕ)) → tells ≡ tells' → ((log : Which) (name : List ℕ) → log_of log name ≡ log_of' log name)
    → ◌≡◌ {A = ShelfLogs} (record { tells = tells; log_of = log_of }) (record { tells = tells'; log_of = log_of' })
same-logs tells tells' log_of log_of' told logs i = record { tells = told i; log_of = λ log name. logs log name i }

-- two readings that agree in all are one
same-reading : (a b : Reading) → a.limit ≡ b.limit → a.tells ≡ b.tells → ((log : Which) (name : List ℕ) → a.log_of log name ≡ b.log_of log name) → ((log : Which) → a.before log ≡ b.before log) → ((log : Which) → a.after log ≡ b.after log) → a ≡ b
same-reading a b limit tells logs before after i = record {
  limit = limit i;
  tells = tells i;
  log_of = λ log name. logs log name i;
  before = λ log. before log i;
  after = λ log. after log i;
}

-- what was answered over the shelf that takes digests is answered over the shelf below, by its account
pub answers-below : (is_picture : Pictures) (r s : Reading) (request : PageRequest) (old new : SinkState) (answer : Status) → AnswersPage is_picture r request old new answer
    → r.limit ≡ s.limit → r.tells ≡ s.tells → ((log : Which) (name : List ℕ) → r.log_of log name ≡ s.log_of log name)
    → ((log : Which) → r.before log ≡ with_account (s.before log) (r.before log).gave) → ((log : Which) → r.after log ≡ with_account (s.after log) (r.after log).gave)
    → HoldsBySomeAccount (λ q. AnswersPage is_picture q request old new answer) s
answers-below is_picture r s request old new answer is limit tells logs before after = record {
  before = λ log. (r.before log).gave;
  after = λ log. (r.after log).gave;
  is = subst (λ (q : Reading). AnswersPage is_picture q request old new answer) (same-reading r (with_accounts s (λ log. (r.before log).gave) (λ log. (r.after log).gave)) limit tells logs before after) is;
}

-- what was answered over a shelf is answered over one that is the same to contracts
pub answers-same : (is_picture : Pictures) (r s : Reading) (request : PageRequest) (old new : SinkState) (answer : Status) → HoldsBySomeAccount (λ q. AnswersPage is_picture q request old new answer) r
    → r.limit ≡ s.limit → r.tells ≡ s.tells → ((log : Which) (name : List ℕ) → r.log_of log name ≡ s.log_of log name) → ((log : Which) → r.before log ≡ s.before log) → ((log : Which) → r.after log ≡ s.after log)
    → HoldsBySomeAccount (λ q. AnswersPage is_picture q request old new answer) s
answers-same is_picture r s request old new answer is limit tells logs before after =
    subst (λ (q : Reading). HoldsBySomeAccount (λ p. AnswersPage is_picture p request old new answer) q) (same-reading r s limit tells logs before after) is

-- memory ran out while well-formed words were read
memory-answered : {S : Type 0} (is_picture : Pictures) (shelf : Shelf S) (old : S) (request : PageRequest) (sink : SinkState) → AnswersPageRequest is_picture shelf request old old sink sink status.Memory
memory-answered is_picture shelf old request sink = record {
  before = λ log. (shelf.slot old log).gave;
  after = λ log. (shelf.slot old log).gave;
  is = record {
    held = λ logs there. inr (record { status_is = refl; nothing = refl });
    causes = refl;
    too_long = λ begins. inl begins;
    later = λ log. omega arith;
  };
}

-- the fault of a refusal
pub same-fault : (made : Result PageRequest WordsFault) (why other : WordsFault) → made ≡ Err why → made ≡ Err other → why ≡ other
same-fault made why other is gives = cc

no-usage : fault.Memory ≡ fault.Usage → ⊥
no-usage e = cc

no-words : (asked : Option PageRequest) (request : PageRequest) → asked ≡ Some request → asked ≡ None → ⊥
no-words asked request some none = cc

-- words that are not well-formed were refused, or memory ran out for what well-formed ones ask
pub words-refused : {S : Type 0} (is_picture : Pictures) (shelf : Shelf S) (old : S) (asked : Option PageRequest) (before after : SinkState) (why : WordsFault) (answer : Status) → (why ≡ fault.Usage → asked ≡ None) → (asked ≡ None → why ≡ fault.Usage)
    → RefusesOrLacksMemory why before after answer → AnswersPageWords is_picture shelf asked old old before after answer
words-refused is_picture shelf old None before after fault.Usage answer none usage refuses = record { refuses = refuses; same = refl }
words-refused is_picture shelf old None before after fault.Memory answer none usage nothing = absurd (no-usage (usage refl))
words-refused is_picture shelf old (Some request) before after fault.Usage answer none usage refuses = absurd (no-words (Some request) request refl (none refl))
words-refused is_picture shelf old (Some request) before after fault.Memory answer none usage nothing =
    subst (λ (s : Status). AnswersPageWords is_picture shelf (Some request) old old before after s) (sym nothing.status_is)
    (subst (λ (k : SinkState). AnswersPageWords is_picture shelf (Some request) old old before k status.Memory) (sym nothing.nothing) (memory-answered is_picture shelf old request before))
