-- From what was done over the shelf that takes digests to what the top call says of the shelf below.
use Rattle.std.proofs.Common.{◌≡◌, ◌∙◌, sym, ap, subst, refl, inl, inr, ℕ, Bool, List, [], Option, None, Some, Result, Err, arith}
use Rattle.std.proofs.KnownBytes.{Appends-nil}
use Rattle.std.proofs.Math.Path.{fun_ext}
use Rattle.audit_base.specs.declared.terms.Which.{Which}
use Rattle.audit_base.specs.declared.terms.Which.TheVariants.{Orders, Trades}
use Rattle.case_run.specs.Turns.{EndsWithinOrHalts}
use Rattle.case_run.specs.declared.halts.Halt.{Halt}
use Rattle.case_run.specs.declared.halts.Halt.TheVariants as halt
use Rattle.case_run.specs.declared.statuses.CaseStatus.{CaseStatus}
use Rattle.case_run.specs.declared.statuses.CaseStatus.TheVariants as status
use Rattle.command_words.specs.declared.requests.WordsFault.{WordsFault}
use Rattle.command_words.specs.declared.requests.WordsFault.TheVariants as words_fault
use Rattle.desk_words.specs.declared.requests.NamedLogs.{NamedLogs}
use Rattle.digest_keeper.specs.DigestKeepers.{DigestKeeperState}
use Rattle.desk_filing.specs.Causes.{ReadsLogsUpTo, day_log_name}
use Rattle.desk_filing.specs.DigestOpeners.{DigestOpenerState}
use Rattle.desk_filing.specs.Runs.{EndsWithinOrAnswers, FilesAsked, FilesRequest, RunsRequest, filing_call, filing_reading}
use Rattle.desk_filing.specs.Steps.{RefusesWords}
use Rattle.desk_filing.specs.declared.answers.FilingOutcome.{FilingOutcome}
use Rattle.desk_filing.specs.declared.requests.FilingRequest.{FilingRequest}
use Rattle.desk_filing.proofs.PassLemmas.{one_pass}
use Rattle.desk_filing.proofs.ReadyLemmas.{files_request}
use Rattle.log_digests.specs.DigestShelves.{name_of_log}
use Rattle.log_source.specs.Sinks.{SinkState}
use Rattle.log_source.specs.Sources.{Slot, longest_read, with_account}
use Rattle.log_source.specs.declared.shelf.Shelf.{Ghosts as Shelf}
use Rattle.log_verdict.specs.Steps.{Reading, HoldsBySomeAccount, FaultsNeverFall, with_accounts}

-- what was done with the limit of the sources is so with the limit of filing
pub files_within : (r s : Reading) (a b : DigestOpenerState) (keeper : Option DigestKeeperState) (request : FilingRequest) (x y : SinkState) (answer : CaseStatus)
    → RunsRequest (filing_call r a b keeper) request x y answer → EndsWithinOrAnswers r answer → FaultsNeverFall r → r.limit ≡ longest_read → s ≡ record r { limit = longest_read }
    → FilesRequest (filing_call s a b keeper) request x y answer
files_within r s a b keeper request x y answer runs ends never same is =
    subst (λ (q : Reading). FilesRequest (filing_call q a b keeper) request x y answer) (sym is)
    (files_request (filing_call (record r { limit = longest_read }) a b keeper) refl request x y answer
    (subst (λ (m : ℕ). RunsRequest (filing_call (record r { limit = m }) a b keeper) request x y answer) same runs)
    (subst (λ (m : ℕ). EndsWithinOrAnswers (record r { limit = m }) answer) same ends)
    never)

-- the same of what two logs came to
pub files_judged : (r s : Reading) (a b : DigestOpenerState) (keeper : Option DigestKeeperState) (request : FilingRequest) (x y : SinkState) (answer : CaseStatus) (judged : Result FilingOutcome Halt)
    → RunsRequest (filing_call r a b keeper) request x y answer → ((q : Reading) → EndsWithinOrHalts q judged → EndsWithinOrAnswers q answer) → EndsWithinOrHalts r judged → FaultsNeverFall r → r.limit ≡ longest_read → s ≡ record r { limit = longest_read }
    → FilesRequest (filing_call s a b keeper) request x y answer
files_judged r s a b keeper request x y answer judged runs each within never same is =
    files_within r s a b keeper request x y answer runs (each r within) never same is

-- two readings that agree in all are one
same_reading : (a b : Reading) → a.limit ≡ b.limit → a.tells ≡ b.tells → ((log : Which) (name : List ℕ) → a.log_of log name ≡ b.log_of log name) → ((log : Which) → a.before log ≡ b.before log) → ((log : Which) → a.after log ≡ b.after log) → a ≡ b
same_reading a b limit tells logs before after =
    ap (λ (n : ℕ). record a { limit = n }) limit
    ∙ ap (λ (t : Bool). record a { limit = b.limit; tells = t }) tells
    ∙ ap (λ (l : Which → List ℕ → Option (List ℕ)). record a { limit = b.limit; tells = b.tells; log_of = l }) (fun_ext (λ log. fun_ext (λ name. logs log name)))
    ∙ ap (λ (s : Which → Slot). record a { limit = b.limit; tells = b.tells; log_of = b.log_of; before = s }) (fun_ext before)
    ∙ ap (λ (s : Which → Slot). record b { after = s }) (fun_ext after)

-- a slot that is one below but for its account is so of the one below that
pub accounted_below : (slot middle low : Slot) → slot ≡ with_account middle slot.gave → middle ≡ low → slot ≡ with_account low slot.gave
accounted_below slot middle low is same = subst (λ (s : Slot). slot ≡ with_account s slot.gave) same is

-- what was done over the shelf that takes digests is done over the shelf below, by its account
pub files_below : (r s : Reading) (a b : DigestOpenerState) (keeper : Option DigestKeeperState) (request : FilingRequest) (x y : SinkState) (answer : CaseStatus)
    → FilesRequest (filing_call r a b keeper) request x y answer → r.limit ≡ s.limit → r.tells ≡ s.tells → ((log : Which) (name : List ℕ) → r.log_of log name ≡ s.log_of log name)
    → ((log : Which) → r.before log ≡ with_account (s.before log) (r.before log).gave) → ((log : Which) → r.after log ≡ with_account (s.after log) (r.after log).gave)
    → HoldsBySomeAccount (λ q. FilesRequest (filing_call q a b keeper) request x y answer) s
files_below r s a b keeper request x y answer files limit tells logs before after = record {
  before = λ log. (r.before log).gave;
  after = λ log. (r.after log).gave;
  is = subst (λ (q : Reading). FilesRequest (filing_call q a b keeper) request x y answer)
      (same_reading r (with_accounts s (λ log. (r.before log).gave) (λ log. (r.after log).gave)) limit tells logs before after) files;
}

-- the name of a log of a request
pub named_log : (logs : NamedLogs) (orders trades : List ℕ) → orders ≡ logs.orders → trades ≡ logs.trades → (log : Which) → name_of_log orders trades log ≡ day_log_name logs log
named_log logs orders trades first second Orders = first
named_log logs orders trades first second Trades = second

-- memory ran out while well-formed words were read
files_memory : {S : Type 0} (shelf : Shelf S) (old : S) (request : FilingRequest) (opener : DigestOpenerState) (sink : SinkState) → FilesAsked shelf old old (Some request) opener opener None sink sink status.Memory
files_memory shelf old request opener sink = record {
  before = λ log. (shelf.slot old log).gave;
  after = λ log. (shelf.slot old log).gave;
  is = files_request (filing_call (filing_reading shelf request.logs old old) opener opener None) refl request sink sink status.Memory
      (record {
        decided = status.Memory;
        text = [];
        answers = inr (record { why = halt.Memory; read = one_pass request.command (λ pass. ReadsLogsUpTo pass request.logs halt.Memory) (filing_reading shelf request.logs old old) request.logs tt; by = λ e. cc; status_is = refl; text_is = refl });
        writes = inl (record { answer_is = refl; wrote = Appends-nil sink.wrote });
      })
      (λ begins. inl begins) (λ log. omega arith);
}

-- the fault of a refusal
pub same_fault : (made : Result FilingRequest WordsFault) (why other : WordsFault) → made ≡ Err why → made ≡ Err other → why ≡ other
same_fault made why other is gives = cc

no_usage : words_fault.Memory ≡ words_fault.Usage → ⊥
no_usage e = cc

no_words : (asked : Option FilingRequest) (request : FilingRequest) → asked ≡ Some request → asked ≡ None → ⊥
no_words asked request some none = cc

-- words that are not well-formed were refused, or memory ran out for what well-formed ones ask
pub files_refused : {S : Type 0} (shelf : Shelf S) (old : S) (asked : Option FilingRequest) (opener : DigestOpenerState) (before after : SinkState) (why : WordsFault) (answer : CaseStatus) → (why ≡ words_fault.Usage → asked ≡ None) → (asked ≡ None → why ≡ words_fault.Usage) → RefusesWords why before after answer
    → FilesAsked shelf old old asked opener opener None before after answer
files_refused shelf old None opener before after words_fault.Usage answer none usage writes = record { writes = writes; shelf_same = refl; opener_same = refl; not_opened = refl }
files_refused shelf old None opener before after words_fault.Memory answer none usage nothing = absurd (no_usage (usage refl))
files_refused shelf old (Some request) opener before after words_fault.Usage answer none usage writes = absurd (no_words (Some request) request refl (none refl))
files_refused shelf old (Some request) opener before after words_fault.Memory answer none usage nothing =
    subst (λ (s : CaseStatus). FilesAsked shelf old old (Some request) opener opener None before after s) (sym nothing.answer_is)
    (subst (λ (k : SinkState). FilesAsked shelf old old (Some request) opener opener None before k status.Memory) (sym nothing.same) (files_memory shelf old request opener before))
