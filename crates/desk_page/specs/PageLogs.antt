-- The logs that a page names: where they are, how they are read, and what their digests are.
use Rattle.std.specs.Prelude.{◌≡◌, ℕ, Bool, true, List, Option, Some, option_map}
use Rattle.audit_base.specs.declared.terms.Which.{Which}
use Rattle.audit_base.specs.declared.terms.Which.TheVariants.{Orders, Trades}
use Rattle.desk_words.specs.declared.requests.NamedLogs.{NamedLogs}
use Rattle.hex.specs.Hex.{encode_lower}
use Rattle.log_digests.specs.Digests.{digest_of}
use Rattle.log_digests.specs.declared.digests.LogDigests.{LogDigests}
use Rattle.page_parts.specs.declared.repeats.PageLogs.{PageLogs}

-- Which logs a shelf has: whether that is known, and which bytes a slot finds under a name.
pub record ShelfLogs : Type 0 where
  pub tells : Bool
  pub log_of : Which → List ℕ → Option (List ℕ)

-- where it is known which log is under a name, the digest is that of its whole bytes
abbrev pub IsDigestOf : ShelfLogs → Which → List ℕ → List ℕ → Type 0
IsDigestOf shelf log name digest =
    shelf.tells ≡ true → option_map digest_of (shelf.log_of log name) ≡ Some digest

-- The digests are those of both logs under these names.
pub record AreDigestsOf (shelf : ShelfLogs) (logs : NamedLogs) (digests : LogDigests)
    : Type 0 where
  pub of_orders : IsDigestOf shelf Orders logs.orders digests.orders
  pub of_trades : IsDigestOf shelf Trades logs.trades digests.trades

-- A page names these logs: under their names, in their forms, with the digits of these digests.
pub record NamesLogs (logs : NamedLogs) (digests : LogDigests) (named : PageLogs) : Type 0 where
  pub orders_are : named.orders.now ≡ logs.orders
  pub trades_are : named.trades.now ≡ logs.trades
  pub orders_form_is : named.orders_form ≡ logs.orders_form
  pub trades_form_is : named.trades_form ≡ logs.trades_form
  pub orders_digits : named.orders_digest.now ≡ encode_lower digests.orders
  pub trades_digits : named.trades_digest.now ≡ encode_lower digests.trades
