-- What two logs that were read say, as the commands of filing speak of them.
use Rattle.std.proofs.Common.{◌≡◌, sym, ap, ap₂, subst, refl, inl, inr, ◌⊎◌, ℕ, true, List, [], Some, Result, Ok, Err, IsOk}
use Rattle.std.specs.Prelude.{MatchResult, is_ok}
use Rattle.audit_base.specs.declared.faults.BadPlace.{BadPlace}
use Rattle.audit_base.specs.declared.findings.Finding.{Finding}
use Rattle.audit_base.specs.declared.records.OrderRecord.{OrderRecord}
use Rattle.audit_base.specs.declared.records.TradeRecord.{TradeRecord}
use Rattle.audit_base.specs.declared.terms.Form.{Form}
use Rattle.audit_base.specs.declared.terms.Which.{Which}
use Rattle.audit_base.specs.declared.terms.Which.TheVariants.{Orders, Trades}
use Rattle.case_run.specs.Turns.{halt_of_stop}
use Rattle.desk_words.specs.declared.requests.NamedLogs.{NamedLogs}
use Rattle.digest_keeper.specs.declared.digested.KeptCase.{KeptCase}
use Rattle.desk_filing.specs.Causes.{IsLogInTurn, ReadsDigestedLog, ReadsDigestedLogs, ReadsLogAs, StopsAtLog, day_log_name}
use Rattle.desk_filing.specs.DigestedVerdicts.{AreDigestsOfGiven}
use Rattle.desk_filing.specs.Steps.{NamesLogs, ReadsBadPlace, ReadsRecords, StopsReading}
use Rattle.desk_filing.specs.Turns.{DigestedLogs, FilingTurn, IsBadTurn, IsFilingTurn, IsTurnOfLogs, IsTurnOfRecords, digested_logs}
use Rattle.desk_filing.specs.declared.requests.FilingRequest.{FilingRequest}
use Rattle.log_digests.specs.Digests.{digest_of}
use Rattle.log_digests.specs.declared.digests.LogDigests.{LogDigests}
use Rattle.log_verdict.specs.BothLogs.{IsStopOfTwoLogs, ReadsAfterOrders, ReadsLogs}
use Rattle.log_verdict.specs.BothLogs as both
use Rattle.log_verdict.specs.LogVerdicts.{records_of_order_log, trades_of_trade_log}
use Rattle.log_verdict.specs.Steps.{Reading, LogStep, IsRead, IsReadFault, IsTooLong, IsUntouched, step_of}
use Rattle.log_verdict.specs.declared.sources.Source.{Source}
use Rattle.log_verdict.specs.declared.stops.Stop.{Stop}
use Rattle.log_verdict.specs.declared.stops.Stop.TheVariants as stop

not_ok : {A B : Type 0} (said : Result A B) (bad : B) → said ≡ Err bad → IsOk said → ⊥
not_ok (Ok x) bad e good = cc
not_ok (Err other) bad e good = cc

-- The digests of what was read.

-- a log with its own digest
own_digest : (r : Reading) (log : Which) (name bytes : List ℕ) → IsRead r (step_of r log name) bytes → ReadsDigestedLog r log name bytes (digest_of bytes)
own_digest r log name bytes read = record { read = read; digest_is = refl }

module _ (r : Reading) (request : FilingRequest) (given : DigestedLogs) (kept : List KeptCase) (turn : FilingTurn) (tells : r.tells ≡ true) where
  -- the trade log was read where the order log says so
  abbrev AreTrades : Result (List OrderRecord) BadPlace → Type 0
  AreTrades said = MatchResult said (λ entries. ReadsDigestedLog r Trades request.logs.trades given.trades given.digests.trades) (λ bad. IsUntouched r Trades)

  trades_known : (said : Result (List OrderRecord) BadPlace) → AreTrades said → IsOk said → r.log_of Trades request.logs.trades ≡ Some given.trades
  trades_known (Ok entries) read ok = read.read.known tells
  trades_known (Err bad) read ok = absurd (cc)

  -- what the order log said leaves this
  abbrev Leaves : LogDigests → Result (List OrderRecord) BadPlace → Type 0
  Leaves digests said =
      MatchResult said
      (λ entries. MatchResult (trades_of_trade_log request.logs.trades_form given.trades) (IsTurnOfRecords digests kept request.label request.command turn entries) (IsBadTurn kept turn Trades))
      (IsBadTurn kept turn Orders)

  own_leaves : given.digests.orders ≡ digest_of given.orders → (said : Result (List OrderRecord) BadPlace) → AreTrades said → Leaves given.digests said → Leaves (digested_logs given.orders given.trades).digests said
  own_leaves first (Ok entries) read is =
      let same : given.digests ≡ (digested_logs given.orders given.trades).digests = ap₂ {C = LogDigests} (λ a b. record { orders = a; trades = b }) first read.digest_is in
      subst (λ (d : LogDigests). Leaves d (Ok entries)) same is
  own_leaves first (Err bad) read is = is

  -- what a command leaves of logs that are known is what it leaves of what the shelf has
  pub known_turn : ReadsDigestedLogs r request.logs given → IsTurnOfLogs given kept request turn → IsFilingTurn r.log_of kept request turn
  known_turn reads is = record {
    orders = given.orders;
    trades = given.trades;
    has_orders = reads.orders.read.known tells;
    has_trades = λ ok. trades_known (records_of_order_log request.logs.orders_form given.orders) reads.trades ok;
    is = own_leaves reads.orders.digest_is (records_of_order_log request.logs.orders_form given.orders) reads.trades is;
  }

module _ (r : Reading) (logs : NamedLogs) (orders trades : Source) (names : NamesLogs logs orders trades) where
  -- a log that was read to its end, under the name of the request
  named_read : (log : Which) (source : Source) (bytes : List ℕ) → source.name.now ≡ day_log_name logs log → IsRead r (step_of r log source.name.now) bytes → IsRead r (step_of r log (day_log_name logs log)) bytes
  named_read log source bytes name read = subst (λ (n : List ℕ). IsRead r (step_of r log n) bytes) name read

  orders_said : (bytes : List ℕ) (said : Result (List OrderRecord) BadPlace) → records_of_order_log orders.form bytes ≡ said → records_of_order_log logs.orders_form bytes ≡ said
  orders_said bytes said says = subst (λ (f : Form). records_of_order_log f bytes ≡ said) names.orders_form says

  trades_said : (bytes : List ℕ) (said : Result (Result (List TradeRecord) Finding) BadPlace) → trades_of_trade_log trades.form bytes ≡ said → trades_of_trade_log logs.trades_form bytes ≡ said
  trades_said bytes said says = subst (λ (f : Form). trades_of_trade_log f bytes ≡ said) names.trades_form says

  module _ (P : List OrderRecord → Result (List TradeRecord) Finding → Type 0) (Q : Which → BadPlace → Type 0) where
    bad_orders : (one : List ℕ) (bad : BadPlace) → IsRead r (step_of r Orders orders.name.now) one → records_of_order_log orders.form one ≡ Err bad → Q Orders bad → IsUntouched r Trades → ReadsBadPlace r logs Q
    bad_orders one bad read says holds untouched =
        let here : IsRead r (step_of r Orders logs.orders) one = named_read Orders orders one names.orders_name read in
        let says_so : records_of_order_log logs.orders_form one ≡ Err bad = orders_said one (Err bad) says in
        record {
          log = Orders;
          bad = bad;
          holds = holds;
          read = record { log = Orders; in_turn = untouched; bad = record { bytes = one; read = here; holds = ap is_ok says_so } };
          turn = record {
            given = digested_logs one [];
            reads = record { orders = own_digest r Orders logs.orders one here; trades = rw says_so untouched };
            is = λ kept request same.
                let said : records_of_order_log request.logs.orders_form one ≡ Err bad = subst (λ (l : NamedLogs). records_of_order_log l.orders_form one ≡ Err bad) (sym same) says_so in
                rw said refl;
          };
        }

    bad_trades : (one two : List ℕ) (entries : List OrderRecord) (bad : BadPlace) → IsRead r (step_of r Orders orders.name.now) one → records_of_order_log orders.form one ≡ Ok entries → IsRead r (step_of r Trades trades.name.now) two
        → trades_of_trade_log trades.form two ≡ Err bad → Q Trades bad → ReadsBadPlace r logs Q
    bad_trades one two entries bad first says second said holds =
        let here : IsRead r (step_of r Orders logs.orders) one = named_read Orders orders one names.orders_name first in
        let there : IsRead r (step_of r Trades logs.trades) two = named_read Trades trades two names.trades_name second in
        let first_says : records_of_order_log logs.orders_form one ≡ Ok entries = orders_said one (Ok entries) says in
        let second_says : trades_of_trade_log logs.trades_form two ≡ Err bad = trades_said two (Err bad) said in
        record {
          log = Trades;
          bad = bad;
          holds = holds;
          read = record {
            log = Trades;
            in_turn = record { bytes = one; read = here; holds = ap is_ok first_says };
            bad = record { bytes = two; read = there; holds = ap is_ok second_says };
          };
          turn = record {
            given = digested_logs one two;
            reads = record { orders = own_digest r Orders logs.orders one here; trades = rw first_says (own_digest r Trades logs.trades two there) };
            is = λ kept request same.
                let first_said : records_of_order_log request.logs.orders_form one ≡ Ok entries = subst (λ (l : NamedLogs). records_of_order_log l.orders_form one ≡ Ok entries) (sym same) first_says in
                let second_said : trades_of_trade_log request.logs.trades_form two ≡ Err bad = subst (λ (l : NamedLogs). trades_of_trade_log l.trades_form two ≡ Err bad) (sym same) second_says in
                rw (first_said, second_said) refl;
          };
        }

    both_good : (one two : List ℕ) (entries : List OrderRecord) (paired : Result (List TradeRecord) Finding) → IsRead r (step_of r Orders orders.name.now) one → records_of_order_log orders.form one ≡ Ok entries → IsRead r (step_of r Trades trades.name.now) two
        → trades_of_trade_log trades.form two ≡ Ok paired → P entries paired → ReadsRecords r logs P
    both_good one two entries paired first says second said holds =
        let here : IsRead r (step_of r Orders logs.orders) one = named_read Orders orders one names.orders_name first in
        let there : IsRead r (step_of r Trades logs.trades) two = named_read Trades trades two names.trades_name second in
        let first_says : records_of_order_log logs.orders_form one ≡ Ok entries = orders_said one (Ok entries) says in
        let second_says : trades_of_trade_log logs.trades_form two ≡ Ok paired = trades_said two (Ok paired) said in
        record {
          orders = one;
          trades = two;
          entries = entries;
          paired = paired;
          orders_say = first_says;
          trades_say = second_says;
          orders_read = here;
          trades_read = there;
          holds = holds;
          good = each (record { bytes = one; read = here; holds = ap is_ok first_says }) (record { bytes = two; read = there; holds = ap is_ok second_says });
        }
      where
        each : ReadsLogAs r logs Orders true → ReadsLogAs r logs Trades true → (log : Which) → ReadsLogAs r logs log true
        each a b Orders = a
        each a b Trades = b

    -- two logs that were read have records, or a first bad place
    pub reads_either : ReadsLogs r orders trades P Q → ReadsRecords r logs P ⊎ ReadsBadPlace r logs Q
    reads_either is = by_orders (records_of_order_log orders.form is.bytes) refl is.holds
      where
        by_trades : (entries : List OrderRecord) → records_of_order_log orders.form is.bytes ≡ Ok entries → (two : List ℕ) → IsRead r (step_of r Trades trades.name.now) two → (said : Result (Result (List TradeRecord) Finding) BadPlace)
            → trades_of_trade_log trades.form two ≡ said → MatchResult said (P entries) (Q Trades) → ReadsRecords r logs P ⊎ ReadsBadPlace r logs Q
        by_trades entries says two second (Ok paired) said holds = inl (both_good is.bytes two entries paired is.read says second said holds)
        by_trades entries says two second (Err bad) said holds = inr (bad_trades is.bytes two entries bad is.read says second said holds)

        by_orders : (said : Result (List OrderRecord) BadPlace) → records_of_order_log orders.form is.bytes ≡ said → ReadsAfterOrders r trades P Q said → ReadsRecords r logs P ⊎ ReadsBadPlace r logs Q
        by_orders (Ok entries) says holds = by_trades entries says holds.bytes holds.read (trades_of_trade_log trades.form holds.bytes) refl holds.holds
        by_orders (Err bad) says holds = inr (bad_orders is.bytes bad is.read says holds.0 holds.1)

  in_turn : (log : Which) → both.IsLogInTurn r orders log → IsLogInTurn r logs log
  in_turn Orders is = is
  in_turn Trades is = record {
    bytes = is.bytes;
    read = named_read Orders orders is.bytes names.orders_name is.read;
    holds = subst (λ (f : Form). IsOk (records_of_order_log f is.bytes)) names.orders_form is.holds;
  }

  named : (log : Which) → (both.source_of orders trades log).name.now ≡ day_log_name logs log
  named Orders = names.orders_name
  named Trades = names.trades_name

  stops_at : (became : Reading → LogStep → Type 0) (log : Which) → both.IsLogInTurn r orders log → became r (step_of r log (both.source_of orders trades log).name.now) → StopsAtLog became r logs log
  stops_at became log turn is = record { in_turn = in_turn log turn; holds = subst (λ (n : List ℕ). became r (step_of r log n)) (named log) is }

  -- why nothing is known of both logs is why a command has no answer
  pub stops_reading : (request : FilingRequest) → request.logs ≡ logs → (why : Stop) → IsStopOfTwoLogs r orders trades why → StopsReading r request (halt_of_stop why)
  stops_reading request same (stop.ReadFault log) is =
      record { read = subst (λ (l : NamedLogs). StopsAtLog IsReadFault r l log) (sym same) (stops_at IsReadFault log is.in_turn is.fault); no_keeper = λ e. cc }
  stops_reading request same (stop.TooLong log) is =
      record { read = subst (λ (l : NamedLogs). StopsAtLog IsTooLong r l log) (sym same) (stops_at IsTooLong log is.in_turn is.long); no_keeper = λ e. cc }
  stops_reading request same stop.Memory is = record { read = tt; no_keeper = λ e. cc }

module _ (r : Reading) (logs : NamedLogs) (P : List OrderRecord → Result (List TradeRecord) Finding → Type 0) (reads : ReadsRecords r logs P) (digests : LogDigests) where
  -- the logs that have these records, with these digests
  abbrev pub logs_of_records : DigestedLogs
  logs_of_records = record { orders = reads.orders; trades = reads.trades; digests = digests }

  -- they were read so, where the digests are of what the slots gave
  pub reads_of_records : AreDigestsOfGiven r digests → ReadsDigestedLogs r logs logs_of_records
  reads_of_records are = record {
    orders = record { read = reads.orders_read; digest_is = are Orders reads.orders reads.orders_read.given };
    trades = rw reads.orders_say (with_trades reads.trades_read);
  }
    where
      with_trades : IsRead r (step_of r Trades logs.trades) reads.trades → ReadsDigestedLog r Trades logs.trades reads.trades digests.trades
      with_trades read = record { read = read; digest_is = are Trades reads.trades read.given }

  -- what a command leaves of them
  pub turn_of_records : (kept : List KeptCase) (request : FilingRequest) → request.logs ≡ logs → (turn : FilingTurn) → IsTurnOfRecords digests kept request.label request.command turn reads.entries reads.paired → IsTurnOfLogs logs_of_records kept request turn
  turn_of_records kept request same turn is =
      let first_said : records_of_order_log request.logs.orders_form reads.orders ≡ Ok reads.entries = subst (λ (l : NamedLogs). records_of_order_log l.orders_form reads.orders ≡ Ok reads.entries) (sym same) reads.orders_say in
      let second_said : trades_of_trade_log request.logs.trades_form reads.trades ≡ Ok reads.paired = subst (λ (l : NamedLogs). trades_of_trade_log l.trades_form reads.trades ≡ Ok reads.paired) (sym same) reads.trades_say in
      rw (first_said, second_said) is

-- they were read so, with their own digests
pub reads_own : (r : Reading) (logs : NamedLogs) (P : List OrderRecord → Result (List TradeRecord) Finding → Type 0) (reads : ReadsRecords r logs P) → ReadsDigestedLogs r logs (digested_logs reads.orders reads.trades)
reads_own r logs P reads = record {
  orders = own_digest r Orders logs.orders reads.orders reads.orders_read;
  trades = rw reads.orders_say (own_digest r Trades logs.trades reads.trades reads.trades_read);
}
