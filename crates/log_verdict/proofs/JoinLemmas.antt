-- Two logs read one after the other: how what is known of one log goes over to both, whatever is
-- kept of their records.
use Rattle.std.proofs.Common.{◌<◌, ◌≡◌, ◌≤◌, ◌⊎◌, ◌∙◌, sym, subst, refl, inl, inr, ⊎_elim, true, ℕ, List, length, Option, None, Result, Ok, Err, IsOk}
use Rattle.std.specs.Prelude.{IsSomeAnd, MatchResult}
use Rattle.audit_base.specs.declared.faults.BadPlace.{BadPlace}
use Rattle.audit_base.specs.declared.findings.Finding.{Finding}
use Rattle.audit_base.specs.declared.records.OrderRecord.{OrderRecord}
use Rattle.audit_base.specs.declared.records.TradeRecord.{TradeRecord}
use Rattle.audit_base.specs.declared.terms.Which.{Which}
use Rattle.audit_base.specs.declared.terms.Which.TheVariants.{Orders, Trades}
use Rattle.log_source.specs.declared.shelf.Shelf.{Ghosts as Shelf}
use Rattle.log_source.specs.Calls.{count_after}
use Rattle.log_source.specs.Sources.{Slot, RoseOrIsFull}
use Rattle.log_verdict.specs.declared.reading.CollectedTrades.{CollectedTrades}
use Rattle.log_verdict.specs.declared.reading.CollectedTrades.TheVariants as collected
use Rattle.log_verdict.specs.declared.reading.ReadingFault.{ReadingFault}
use Rattle.log_verdict.specs.declared.reading.ReadingFault.TheVariants as unread
use Rattle.log_verdict.specs.declared.sources.Source.{Source}
use Rattle.log_verdict.specs.declared.stops.NoRecords.{NoRecords}
use Rattle.log_verdict.specs.declared.stops.NoRecords.TheVariants as norecords
use Rattle.log_verdict.specs.declared.stops.Stop.TheVariants as stop
use Rattle.log_verdict.specs.BothLogs.{GivesOfRecords, GivesOfTrades, HaveOneLimit, IsUnreadOfTwoLogs, IsUnreadTrades, no_records}
use Rattle.log_verdict.specs.BothLogs.{ReadsAfterOrders, ReadsBadPlace, ReadsLogs, ReadsTrades, ReadsWithin, ReadsWithinAt}
use Rattle.log_verdict.specs.Collecting.{HasCollected, IsUnread, TouchesOnly}
use Rattle.log_verdict.specs.LogVerdicts.{records_of_order_log, trades_of_trade_log}
use Rattle.log_verdict.specs.Steps.{Reading, IsReadFault, IsTooLong, KeepsShelfLogs, EndsWithin, FaultsNeverFall, reading_by, step_of, IsReadAs, IsUntouched}

-- a reading of the whole, from the reading of a part before and one after
abbrev pub joined : Reading → Reading → Reading
joined first second = record { limit = first.limit; tells = first.tells; log_of = first.log_of; before = first.before; after = second.after }

-- What one reading knows of the other: the same shelf, where the first ended.
pub record Follows (first second : Reading) : Type 0 where
  pub limit : second.limit ≡ first.limit
  pub tells : second.tells ≡ first.tells
  pub logs : (log : Which) (name : List ℕ) → second.log_of log name ≡ first.log_of log name
  pub trades : second.before Trades ≡ first.before Trades
  pub orders : second.after Orders ≡ first.after Orders

-- a reading of the trade log follows one of the order log of the same shelf
pub follows : {S : Type 0} (shelf : Shelf S) (orders trades : Source) (a b c : S) → HaveOneLimit orders trades → KeepsShelfLogs shelf a b → TouchesOnly (reading_by orders shelf a b) Orders
    → TouchesOnly (reading_by trades shelf b c) Trades → Follows (reading_by orders shelf a b) (reading_by trades shelf b c)
follows shelf orders trades a b c limit keeps first second =
    record { limit = sym limit.same; tells = keeps.tells; logs = keeps.logs; trades = first.other; orders = second.other }

-- two parts of a call that keep the logs keep them in the whole
pub keeps-both : {S : Type 0} (shelf : Shelf S) (a b c : S) → KeepsShelfLogs shelf a b → KeepsShelfLogs shelf b c → KeepsShelfLogs shelf a c
keeps-both shelf a b c x y = record { tells = y.tells ∙ x.tells; logs = λ log name. y.logs log name ∙ x.logs log name }

ends-within : (r : Reading) → (r.after Orders).taken ≤ r.limit → (r.after Trades).taken ≤ r.limit → EndsWithin r
ends-within r orders trades Orders = orders
ends-within r orders trades Trades = trades

module _ (first second : Reading) (after : Follows first second) where
  -- the order log stays read while the trade log is
  stays-read : (name : List ℕ) (says says' : List ℕ → Type 0) → ((bytes : List ℕ) → says bytes → says' bytes) → IsReadAs first Orders name says → IsReadAs (joined first second) Orders name says'
  stays-read name says says' so is = record {
    bytes = is.bytes;
    read = record {
      once = rw after.orders is.read.once;
      started = rw after.orders is.read.started;
      at_end = rw after.orders is.read.at_end;
      within = is.read.within;
      taken = rw after.orders is.read.taken;
      given = rw after.orders is.read.given;
      known = is.read.known;
    };
    holds = so is.bytes is.holds;
  }

  once-after : (second.after Trades).starts ≡ count_after (second.before Trades).starts → (second.after Trades).starts ≡ count_after (first.before Trades).starts
  once-after once = subst (λ (s : Slot). (second.after Trades).starts ≡ count_after s.starts) after.trades once

  -- the trade log is read in the whole as in the part
  read-after : (name : List ℕ) (says : List ℕ → Type 0) → IsReadAs second Trades name says → IsReadAs (joined first second) Trades name says
  read-after name says is = record {
    bytes = is.bytes;
    read = record {
      once = once-after is.read.once;
      started = is.read.started;
      at_end = is.read.at_end;
      within = subst (λ (n : ℕ). length is.bytes ≤ n) after.limit is.read.within;
      taken = is.read.taken;
      given = is.read.given;
      known = λ t. sym (after.logs Trades name) ∙ is.read.known (after.tells ∙ t);
    };
    holds = is.holds;
  }

  fault-after : (name : List ℕ) → IsReadFault second (step_of second Trades name) → IsReadFault (joined first second) (step_of (joined first second) Trades name)
  fault-after name is = record { once = once-after is.once; cause = by-cause is.cause }
    where
      by-cause : RoseOrIsFull (second.before Trades).faults (second.after Trades).faults ⊎ ((second.tells ≡ true) × (second.log_of Trades name ≡ None))
          → RoseOrIsFull (first.before Trades).faults (second.after Trades).faults ⊎ ((first.tells ≡ true) × (first.log_of Trades name ≡ None))
      by-cause (inl rose) = inl (rw (← after.trades) rose)
      by-cause (inr (t, none)) = inr (sym after.tells ∙ t, sym (after.logs Trades name) ∙ none)

  long-after : (name : List ℕ) → IsTooLong second (step_of second Trades name) → IsTooLong (joined first second) (step_of (joined first second) Trades name)
  long-after name is = record {
    once = once-after is.once;
    taken = subst (λ (n : ℕ). n < (second.after Trades).taken) after.limit is.taken;
    longer = λ t. subst (λ (n : ℕ). IsSomeAnd (first.log_of Trades name) (λ bytes. n < length bytes)) after.limit
        (subst (λ (o : Option (List ℕ)). IsSomeAnd o (λ bytes. second.limit < length bytes)) (after.logs Trades name) (is.longer (after.tells ∙ t)));
  }

  -- the order log, of these records, stays so while the trade log is read
  stays-good : (orders : Source) (entries : List OrderRecord) → IsReadAs first Orders orders.name.now (λ bytes. records_of_order_log orders.form bytes ≡ Ok entries)
      → IsReadAs (joined first second) Orders orders.name.now (λ bytes. IsOk (records_of_order_log orders.form bytes))
  stays-good orders entries read =
      stays-read orders.name.now (λ bytes. records_of_order_log orders.form bytes ≡ Ok entries) (λ bytes. IsOk (records_of_order_log orders.form bytes)) (λ bytes e. rw e refl) read

  -- what holds of the trade log after these records of the order log holds of both
  reads-after : (orders trades : Source) (entries : List OrderRecord) (P : List OrderRecord → Result (List TradeRecord) Finding → Type 0) (B : Which → BadPlace → Type 0)
      → IsReadAs first Orders orders.name.now (λ bytes. records_of_order_log orders.form bytes ≡ Ok entries)
      → ReadsTrades second trades (P entries) (B Trades) → ReadsLogs (joined first second) orders trades P B
  reads-after orders trades entries P B read is =
      stays-read orders.name.now (λ bytes. records_of_order_log orders.form bytes ≡ Ok entries) (λ bytes. ReadsAfterOrders (joined first second) trades P B (records_of_order_log orders.form bytes))
      (λ bytes e. rw e (read-after trades.name.now _ is)) read

  -- what is known after the order log is known of both
  pub gives-after : {T : Type 0} (P : List OrderRecord → Result (List TradeRecord) Finding → T → Type 0) (orders trades : Source) (entries : List OrderRecord) (result : Result T NoRecords)
      → IsReadAs first Orders orders.name.now (λ bytes. records_of_order_log orders.form bytes ≡ Ok entries)
      → GivesOfTrades (P entries) second trades result → GivesOfRecords P (joined first second) orders trades result
  gives-after P orders trades entries (Ok t) read is =
      reads-after orders trades entries (λ es paired. P es paired t) (λ log bad. ⊥) read is
  gives-after P orders trades entries (Err (norecords.Malformed log bad)) read (is, said) =
      reads-after orders trades entries (λ es paired. ⊥) (λ which place. (which ≡ log) × (place ≡ bad)) read
      (record { bytes = said.bytes; read = said.read; holds = rw said.holds (sym is, refl) })
  gives-after P orders trades entries (Err (norecords.Stopped (stop.ReadFault log))) read (is, fault) =
      rw is (record { in_turn = stays-good orders entries read; fault = fault-after trades.name.now fault })
  gives-after P orders trades entries (Err (norecords.Stopped (stop.TooLong log))) read (is, long) =
      rw is (record { in_turn = stays-good orders entries read; long = long-after trades.name.now long })
  gives-after P orders trades entries (Err (norecords.Stopped stop.Memory)) read is = tt

  pub later-after : (first.before Orders).faults ≤ (first.after Orders).faults → (second.before Trades).faults ≤ (second.after Trades).faults → FaultsNeverFall (joined first second)
  later-after orders trades Orders = rw after.orders orders
  later-after orders trades Trades = rw (← after.trades) trades

  -- where the order log is within the limit, and the trade log stays so
  pub stays-within : {T : Type 0} (result : Result T NoRecords) → (first.after Orders).taken ≤ first.limit
      → ((second.before Trades).taken ≤ second.limit → ReadsWithinAt second Trades result) → ReadsWithin (joined first second) result
  stays-within result orders stays begins =
      ⊎_elim (λ stop. inl stop)
      (λ trades. inr (ends-within (joined first second) (subst (λ (s : Slot). s.taken ≤ first.limit) (sym after.orders) orders)
      (subst (λ (n : ℕ). (second.after Trades).taken ≤ n) after.limit trades)))
      (stays (subst (λ (n : ℕ). (second.before Trades).taken ≤ n) (sym after.limit) (subst (λ (s : Slot). s.taken ≤ first.limit) (sym after.trades) (begins Trades))))

-- a trade log says one thing
pub said-once : (a b : Result (List TradeRecord) Finding) (said : Result (Result (List TradeRecord) Finding) BadPlace) → said ≡ Ok a → said ≡ Ok b → a ≡ b
said-once a b said x y = cc

-- a log with a bad place has given a collector nothing
none-collected : {K : Type 0} (has_taken : K → List TradeRecord → Type 0) (kept : CollectedTrades K) (bad : BadPlace) → HasCollected has_taken kept (Err bad) → ⊥
none-collected has_taken (collected.Trades collector) bad has = let says : Err bad ≡ Ok (Ok has.trades) = has.says in cc
none-collected has_taken (collected.Alone finding) bad has = cc

-- what holds of whatever a trade log was read into holds of the log
pub reads-collected : {K : Type 0} (r : Reading) (trades : Source) (has_taken : K → List TradeRecord → Type 0) (kept : CollectedTrades K) (P : Result (List TradeRecord) Finding → Type 0)
    → ((paired : Result (List TradeRecord) Finding) → HasCollected has_taken kept (Ok paired) → P paired)
    → IsReadAs r Trades trades.name.now (λ bytes. HasCollected has_taken kept (trades_of_trade_log trades.form bytes)) → ReadsTrades r trades P (λ bad. ⊥)
reads-collected r trades has_taken kept P so is =
    record { bytes = is.bytes; read = is.read; holds = by-said (trades_of_trade_log trades.form is.bytes) is.holds }
  where
    by-said : (said : Result (Result (List TradeRecord) Finding) BadPlace) → HasCollected has_taken kept said → MatchResult said P (λ bad. ⊥)
    by-said (Ok paired) has = so paired has
    by-said (Err bad) has = absurd (none-collected has_taken kept bad has)

-- where the order log was not read into records, after which the trade log is left alone
pub orders-unread : (r : Reading) (orders trades : Source) (why : ReadingFault) → IsUnread (records_of_order_log orders.form) r Orders orders.name.now why → IsUntouched r Trades
    → IsUnreadOfTwoLogs r orders trades (no_records Orders why)
orders-unread r orders trades (unread.Bad bad) is same = record { bytes = is.bytes; read = is.read; holds = rw is.holds ((refl, refl), same) }
orders-unread r orders trades unread.ReadFault is same = record { in_turn = same; fault = is }
orders-unread r orders trades unread.TooLong is same = record { in_turn = same; long = is }
orders-unread r orders trades unread.Memory is same = tt

-- where the trade log was not
pub trades-unread : (r : Reading) (trades : Source) (why : ReadingFault) → IsUnread (trades_of_trade_log trades.form) r Trades trades.name.now why → IsUnreadTrades r trades (no_records Trades why)
trades-unread r trades (unread.Bad bad) is = (refl, is)
trades-unread r trades unread.ReadFault is = (refl, is)
trades-unread r trades unread.TooLong is = (refl, is)
trades-unread r trades unread.Memory is = tt

-- then the slots stay within the limit, unless a log is too long
pub orders-within : {T : Type 0} (r : Reading) (why : ReadingFault) (result : Result T NoRecords) → result ≡ Err (no_records Orders why) → ((why ≡ unread.TooLong → ⊥) → (r.after Orders).taken ≤ r.limit)
    → IsUntouched r Trades → ReadsWithin r result
orders-within r (unread.Bad bad) result is within same begins = rw is (inr (ends-within r (within (λ e. cc)) (subst (λ (s : Slot). s.taken ≤ r.limit) (sym same) (begins Trades))))
orders-within r unread.ReadFault result is within same begins = rw is (inr (ends-within r (within (λ e. cc)) (subst (λ (s : Slot). s.taken ≤ r.limit) (sym same) (begins Trades))))
orders-within r unread.TooLong result is within same begins = rw is (inl tt)
orders-within r unread.Memory result is within same begins = rw is (inr (ends-within r (within (λ e. cc)) (subst (λ (s : Slot). s.taken ≤ r.limit) (sym same) (begins Trades))))

pub trades-within : {T : Type 0} (r : Reading) (why : ReadingFault) (result : Result T NoRecords) → result ≡ Err (no_records Trades why) → ((why ≡ unread.TooLong → ⊥) → (r.after Trades).taken ≤ r.limit)
    → ReadsWithinAt r Trades result
trades-within r (unread.Bad bad) result is within = rw is (inr (within (λ e. cc)))
trades-within r unread.ReadFault result is within = rw is (inr (within (λ e. cc)))
trades-within r unread.TooLong result is within = rw is (inl tt)
trades-within r unread.Memory result is within = rw is (inr (within (λ e. cc)))

-- what follows of records and of a bad place follows of logs that were read
pub reads-on : (r : Reading) (orders trades : Source) (P P' : List OrderRecord → Result (List TradeRecord) Finding → Type 0) (B B' : Which → BadPlace → Type 0)
    → ((entries : List OrderRecord) (paired : Result (List TradeRecord) Finding) → P entries paired → P' entries paired)
    → ((log : Which) (bad : BadPlace) → B log bad → B' log bad) → ReadsLogs r orders trades P B → ReadsLogs r orders trades P' B'
reads-on r orders trades P P' B B' records bads is = record { bytes = is.bytes; read = is.read; holds = of-orders (records_of_order_log orders.form is.bytes) is.holds }
  where
    of-trades : (entries : List OrderRecord) (said : Result (Result (List TradeRecord) Finding) BadPlace) → MatchResult said (P entries) (B Trades) → MatchResult said (P' entries) (B' Trades)
    of-trades entries (Ok paired) holds = records entries paired holds
    of-trades entries (Err bad) holds = bads Trades bad holds

    of-orders : (said : Result (List OrderRecord) BadPlace) → ReadsAfterOrders r trades P B said → ReadsAfterOrders r trades P' B' said
    of-orders (Ok entries) holds = record { bytes = holds.bytes; read = holds.read; holds = of-trades entries (trades_of_trade_log trades.form holds.bytes) holds.holds }
    of-orders (Err bad) holds = (bads Orders bad holds.0, holds.1)

-- what follows of records follows of two logs that were read into records
pub reads-good : (r : Reading) (orders trades : Source) (P P' : List OrderRecord → Result (List TradeRecord) Finding → Type 0) (B : Which → BadPlace → Type 0)
    → ((entries : List OrderRecord) (paired : Result (List TradeRecord) Finding) → P entries paired → P' entries paired)
    → ReadsLogs r orders trades P (λ log bad. ⊥) → ReadsLogs r orders trades P' B
reads-good r orders trades P P' B so is = reads-on r orders trades P P' (λ log bad. ⊥) B so (λ log bad never. absurd never) is

-- what holds of a first bad place holds of two logs that have it
pub reads-bad : (r : Reading) (orders trades : Source) (P : List OrderRecord → Result (List TradeRecord) Finding → Type 0) (B : Which → BadPlace → Type 0) (log : Which) (bad : BadPlace) → B log bad
    → ReadsBadPlace r orders trades log bad → ReadsLogs r orders trades P B
reads-bad r orders trades P B log bad holds is =
    reads-on r orders trades (λ entries paired. ⊥) P (λ which place. (which ≡ log) × (place ≡ bad)) B (λ entries paired never. absurd never) (λ which place same. rw (same.0, same.1) holds) is

-- two logs that were read into records have some
pub records-read : (r : Reading) (orders trades : Source) (P : List OrderRecord → Result (List TradeRecord) Finding → Type 0) → ReadsLogs r orders trades P (λ log bad. ⊥)
    → (entries : List OrderRecord) × (paired : Result (List TradeRecord) Finding) × P entries paired
records-read r orders trades P is = of-orders (records_of_order_log orders.form is.bytes) is.holds
  where
    of-trades : (entries : List OrderRecord) (said : Result (Result (List TradeRecord) Finding) BadPlace) → MatchResult said (P entries) (λ bad. ⊥) → (paired : Result (List TradeRecord) Finding) × P entries paired
    of-trades entries (Ok paired) holds = (paired, holds)
    of-trades entries (Err bad) holds = absurd holds

    of-orders : (said : Result (List OrderRecord) BadPlace) → ReadsAfterOrders r trades P (λ log bad. ⊥) said → (entries : List OrderRecord) × (paired : Result (List TradeRecord) Finding) × P entries paired
    of-orders (Ok entries) holds = let found = of-trades entries (trades_of_trade_log trades.form holds.bytes) holds.holds in (entries, found.0, found.1)
    of-orders (Err bad) holds = absurd holds.0
