-- Trades of a log that come record by record.
use Rattle.std.proofs.Common.{Ok, Err, ◌≡◌, ◌<◌, ◌+◌, ◌-◌, ◌^◌, ℕ, true, false, Option, None, Some, List, [], ◌∷◌, ◌++◌, length, length-append, refl, sym, ap, ◌∙◌, arith, subst}
use Rattle.std.proofs.lemmas.List.{append-nil}
use Rattle.audit_base.specs.declared.findings.Finding.{Finding}
use Rattle.audit_base.specs.declared.orders.Order.{Order}
use Rattle.audit_base.specs.declared.orders.Deal.{Deal}
use Rattle.audit_base.specs.declared.records.TradeRecord.{TradeRecord}
use Rattle.audit_base.specs.Deals.{IsDealList}
use Rattle.audit_base.specs.Orders.{same_name}
use Rattle.audit_base.specs.Trades.{trades_of_symbol, deals_of_symbol, trades_finding}
use Rattle.audit_base.proofs.TradeLemmas.{deals-are}
use Rattle.matching_core.specs.declared.outcomes.CheckFault.TheVariants.{Found}
use Rattle.matching_core.specs.Answers.{IsResolveAnswer}
use Rattle.matching_core.specs.declared.sound_deals.SoundDeals.{SoundDeals}
use Rattle.matching_core.specs.DealsSoFar.{AreKeptOfTrades, AreTradesKnown, KnowsNextTrade, finding_in_trades, trade_of_symbol}
use Rattle.matching_core.proofs.ResolveLemmas.{Listed, finding_in-append, trades_of-push, unsound-is}

-- the trades of one record more, at its place
pushed : (symbol : List ℕ) (trades : List TradeRecord) (x : TradeRecord) (place : ℕ) → place ≡ length trades + 1 → trades_of_symbol symbol (trades ++ x ∷ []) ≡ trades_of_symbol symbol trades ++ trade_of_symbol symbol place x
pushed symbol trades x place at = trades_of-push symbol trades x ∙ ap (λ (n : ℕ). trades_of_symbol symbol trades ++ trade_of_symbol symbol n x) (sym at)

not-of-it : (symbol : List ℕ) (place : ℕ) (x : TradeRecord) → same_name x.symbol symbol ≡ false → trade_of_symbol symbol place x ≡ []
not-of-it symbol place x other = rw other refl

of-it : (symbol : List ℕ) (place : ℕ) (x : TradeRecord) → same_name x.symbol symbol ≡ true → trade_of_symbol symbol place x ≡ (place, x) ∷ []
of-it symbol place x same = rw same refl

-- a record of the symbol
known-of : (orders : List Order) (symbol : List ℕ) (trades : List TradeRecord) (x : TradeRecord) (place : ℕ) (new : SoundDeals) (found : Option Finding) → place ≡ length trades + 1 → same_name x.symbol symbol ≡ true
    → AreTradesKnown orders (trades_of_symbol symbol trades ++ (place, x) ∷ []) new found → AreTradesKnown orders (trades_of_symbol symbol (trades ++ x ∷ [])) new found
known-of orders symbol trades x place new found at same known =
    subst (λ (h : Listed). AreTradesKnown orders h new found) (sym (pushed symbol trades x place at ∙ ap (λ (h : Listed). trades_of_symbol symbol trades ++ h) (of-it symbol place x same))) known

-- a record of another symbol
pub known-other : (orders : List Order) (symbol : List ℕ) (trades : List TradeRecord) (x : TradeRecord) (kept : SoundDeals) (found : Option Finding) → same_name x.symbol symbol ≡ false
    → AreTradesKnown orders (trades_of_symbol symbol trades) kept found → AreTradesKnown orders (trades_of_symbol symbol (trades ++ x ∷ [])) kept found
known-other orders symbol trades x kept found other known =
    subst (λ (h : Listed). AreTradesKnown orders h kept found) (sym (trades_of-push symbol trades x ∙ ap (λ (h : Listed). trades_of_symbol symbol trades ++ h) (not-of-it symbol (length trades + 1) x other) ∙ append-nil (trades_of_symbol symbol trades))) known

-- after a finding
pub still-known : (orders : List Order) (symbol : List ℕ) (trades : List TradeRecord) (x : TradeRecord) (kept : SoundDeals) (found : Option Finding) (f : Finding) → found ≡ Some f
    → AreTradesKnown orders (trades_of_symbol symbol trades) kept found → AreTradesKnown orders (trades_of_symbol symbol (trades ++ x ∷ [])) kept found
still-known orders symbol trades x kept None f is known = absurd (cc is)
still-known orders symbol trades x kept (Some g) f is known =
    ap (finding_in_trades orders) (trades_of-push symbol trades x) ∙ finding_in-append orders (trades_of_symbol symbol trades) (trade_of_symbol symbol (length trades + 1) x) g known

-- where there is no finding the trades are resolved
pub resolved-known : (orders : List Order) (h : Listed) (kept : SoundDeals) (found : Option Finding) → found ≡ None → AreTradesKnown orders h kept found → AreKeptOfTrades orders h kept
resolved-known orders h kept None none known = known
resolved-known orders h kept (Some f) none known = absurd (cc none)

-- a trade of the symbol was taken, and its finding, if it has one, is kept
pub known-next : (orders : List Order) (symbol : List ℕ) (trades : List TradeRecord) (x : TradeRecord) (place : ℕ) (old new : SoundDeals) (before found : Option Finding) → place ≡ length trades + 1 → before ≡ None
    → same_name x.symbol symbol ≡ true → AreTradesKnown orders (trades_of_symbol symbol trades) old before → KnowsNextTrade orders old new place x found → AreTradesKnown orders (trades_of_symbol symbol (trades ++ x ∷ [])) new found
known-next orders symbol trades x place old new before found at none same known takes =
    known-of orders symbol trades x place new found at same (takes (trades_of_symbol symbol trades) (resolved-known orders (trades_of_symbol symbol trades) old before none known))

pub size-more : (count : ℕ) (trades : List TradeRecord) (x : TradeRecord) → count ≡ length trades → count + 1 ≡ length (trades ++ x ∷ [])
size-more count trades x is = simp length-append (omega (arith, is))

known-finding : (orders : List Order) (h : Listed) (kept : SoundDeals) (found : Option Finding) → AreTradesKnown orders h kept found → finding_in_trades orders h ≡ found
known-finding orders h kept None known = known.clean
known-finding orders h kept (Some f) known = known

pub ends-finding : (orders : List Order) (symbol : List ℕ) (trades : List TradeRecord) (kept : SoundDeals) (found : Option Finding) → AreTradesKnown orders (trades_of_symbol symbol trades) kept found → trades_finding orders symbol trades ≡ found
ends-finding orders symbol trades kept found known = unsound-is orders symbol trades ∙ known-finding orders (trades_of_symbol symbol trades) kept found known

pub ends-deals : (orders : List Order) (symbol : List ℕ) (trades : List TradeRecord) (kept : SoundDeals) (found : Option Finding) → found ≡ None → AreTradesKnown orders (trades_of_symbol symbol trades) kept found → kept.deals.items ≡ deals_of_symbol orders symbol trades
unfolding deals_of_symbol
ends-deals orders symbol trades kept found none known = (resolved-known orders (trades_of_symbol symbol trades) kept found none known).deals

pub ends-list : (orders : List Order) (symbol : List ℕ) (trades : List TradeRecord) (kept : SoundDeals) (found : Option Finding) → length trades < 2 ^ 32 - 1 → found ≡ None → AreTradesKnown orders (trades_of_symbol symbol trades) kept found → IsDealList orders kept.deals.items
ends-list orders symbol trades kept found few none known =
    subst (λ (deals : List Deal). IsDealList orders deals) (sym (ends-deals orders symbol trades kept found none known))
    (deals-are orders symbol trades (omega (arith, few)) (ends-finding orders symbol trades kept found known ∙ none))

pub known-none : (orders : List Order) (symbol : List ℕ) (kept : SoundDeals) → AreKeptOfTrades orders [] kept → AreTradesKnown orders (trades_of_symbol symbol []) kept None
unfolding trades_of_symbol
known-none orders symbol kept is = is

-- the answer, where all records are known
pub resolved-found : (orders : List Order) (symbol : List ℕ) (trades : List TradeRecord) (kept : SoundDeals) (found : Option Finding) (f : Finding) → found ≡ Some f
    → AreTradesKnown orders (trades_of_symbol symbol trades) kept found → IsResolveAnswer orders symbol trades (Err (Found f))
resolved-found orders symbol trades kept found f is known = record {
  sound = tt;
  deals = tt;
  deal_list = tt;
  numbers = tt;
  found = λ g e. let same : f ≡ g = cc in ends-finding orders symbol trades kept found known ∙ is ∙ ap (λ (x : Finding). Some x) same;
}

pub resolved-deals : (orders : List Order) (symbol : List ℕ) (trades : List TradeRecord) (kept : SoundDeals) (found : Option Finding) → length trades < 2 ^ 32 - 1 → found ≡ None
    → AreTradesKnown orders (trades_of_symbol symbol trades) kept found → IsResolveAnswer orders symbol trades (Ok kept.deals)
resolved-deals orders symbol trades kept found few none known = record {
  sound = ends-finding orders symbol trades kept found known ∙ none;
  deals = ends-deals orders symbol trades kept found none known;
  deal_list = ends-list orders symbol trades kept found few none known;
  numbers = (resolved-known orders (trades_of_symbol symbol trades) kept found none known).numbers;
  found = λ g e. absurd (cc e);
}
