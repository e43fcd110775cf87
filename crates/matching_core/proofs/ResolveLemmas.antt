-- Trades of a symbol, with one more at their end: their findings, their ids and their deals.
use Rattle.std.proofs.Common.{◌≡◌, ◌<◌, ◌+◌, ℕ, suc, Bool, true, false, Option, None, Some, List, [], ◌∷◌, ◌++◌, length, get_or, map, refl, sym, ap, ◌∙◌, arith, length-append}
use Rattle.std.specs.Prelude.{filter, option_map, if◌then◌else◌}
use Rattle.std.specs.List.{enumerate_from}
use Rattle.std.specs.Option.{option_or}
use Rattle.std.proofs.lemmas.List.{get_or_append_left, get_or_at}
use Rattle.std.proofs.lemmas.List.Elements.{filter-append}
use Rattle.std.proofs.lemmas.Slice.Eq.{bytes_eq-Decides}
use Rattle.audit_base.specs.declared.records.TradeRecord.{TradeRecord}
use Rattle.audit_base.specs.declared.orders.Order.{Order}
use Rattle.audit_base.specs.declared.orders.Deal.{Deal}
use Rattle.audit_base.specs.declared.findings.Finding.{Finding}
use Rattle.audit_base.specs.declared.flaws.Evidence.TheVariants.{DuplicateTrade}
use Rattle.audit_base.specs.Least.{least_answer, least_with, only_if}
use Rattle.audit_base.specs.Orders.{same_name}
use Rattle.audit_base.specs.Trades.{trades_of_symbol, trade_past_end, trade_at, trade_place, duplicate_trade_finding, unknown_order_finding, trades_finding, deal_of_trade}
use Rattle.instruction_history.proofs.FirstLemmas.{least_answer-same, least_with-same, least_answer-stays, least_with-some, option_or-none, option_or-nothing}
use Rattle.instruction_history.proofs.HistoryLemmas.{enumerate_from-append}
use Rattle.instruction_history.specs.Flaws.{finding_at}
use Rattle.matching_core.specs.declared.sound_deals.SoundDeals.{SoundDeals}
use Rattle.matching_core.specs.DealsSoFar.{kept_place_of_id, unknown_order_of, finding_in_trades, listed_place_of_id, AreKeptOfTrades, AddsDeal, AddsId, trade_of_symbol}
use Rattle.matching_core.specs.declared.trade_ids.TradeIds.{TradeIds}

abbrev pub Listed : Type 0
Listed = List (ℕ × TradeRecord)

length-push : {A : Type 0} (xs : List A) (x : A) → length (xs ++ x ∷ []) ≡ suc (length xs)
length-push [] x = refl
length-push (y ∷ xs) x = ap suc (length-push xs x)

map-push : {A B : Type 0} (f : A → B) (xs : List A) (x : A) → map f (xs ++ x ∷ []) ≡ map f xs ++ f x ∷ []
map-push f [] x = refl
map-push {B = B} f (y ∷ xs) x = ap (λ (ys : List B). f y ∷ ys) (map-push f xs x)

option_map-same : {A B : Type 0} (f g : A → B) (o : Option A) → ((a : A) → o ≡ Some a → f a ≡ g a) → option_map f o ≡ option_map g o
option_map-same f g None same = refl
option_map-same {B = B} f g (Some a) same = ap (λ (b : B). Some b) (same a refl)

-- two lists have the same first n trades
pub record SameBelow (h g : Listed) (n : ℕ) : Type 0 where
  pub at : (j : ℕ) → j < n → get_or h j trade_past_end ≡ get_or g j trade_past_end

-- 5 of a trade at a place, by the place of the earlier one
abbrev duplicate : ℕ → ℕ → Finding
duplicate place first = finding_at place (DuplicateTrade first)

-- 5 and 6 of a trade, by the trade itself and those before it
duplicate-same : (n : ℕ) (h g : Listed) → SameBelow h g n → (k : ℕ) → k < n → duplicate_trade_finding h k ≡ duplicate_trade_finding g k
unfolding duplicate_trade_finding
duplicate-same n h g same k lt =
    let here : get_or h k trade_past_end ≡ get_or g k trade_past_end = same.at k lt in
    let tests : least_with (λ j. same_name (trade_at h j).trade (trade_at h k).trade) k ≡ least_with (λ j. same_name (trade_at g j).trade (trade_at g k).trade) k =
    least_with-same (λ j. same_name (trade_at h j).trade (trade_at h k).trade) (λ j. same_name (trade_at g j).trade (trade_at g k).trade) k
    (λ j less. ap (λ (e : ℕ × TradeRecord). same_name e.1.trade (trade_at h k).trade) (same.at j (omega arith)) ∙ ap (λ (e : ℕ × TradeRecord). same_name (trade_at g j).trade e.1.trade) here) in
    option_map-same (λ j. duplicate (trade_place h k) (trade_place h j)) (λ j. duplicate (trade_place g k) (trade_place g j))
    (least_with (λ j. same_name (trade_at h j).trade (trade_at h k).trade) k)
    (λ j e. let first = least_with-some _ k j e in
    ap (λ (x : ℕ × TradeRecord). duplicate x.0 (trade_place h j)) here ∙ ap (λ (x : ℕ × TradeRecord). duplicate (trade_place g k) x.0) (same.at j (omega (arith, first.within))))
    ∙ ap (option_map (λ j. duplicate (trade_place g k) (trade_place g j))) tests

unknown-at : (orders : List Order) (h : Listed) (k : ℕ) → unknown_order_finding orders h k ≡ unknown_order_of orders (get_or h k trade_past_end)
unfolding unknown_order_finding
unknown-at orders h k = refl

abbrev trade_finding : List Order → Listed → ℕ → Option Finding
trade_finding orders h k = option_or (duplicate_trade_finding h k) (unknown_order_finding orders h k)

finding-same : (orders : List Order) (n : ℕ) (h g : Listed) → SameBelow h g n → (k : ℕ) → k < n → trade_finding orders h k ≡ trade_finding orders g k
finding-same orders n h g same k lt =
    let five : duplicate_trade_finding h k ≡ duplicate_trade_finding g k = duplicate-same n h g same k lt in
    let six : unknown_order_finding orders h k ≡ unknown_order_finding orders g k = unknown-at orders h k ∙ ap (unknown_order_of orders) (same.at k lt) ∙ sym (unknown-at orders g k) in
    rw (five, six) refl

pushed-same : (h : Listed) (e : ℕ × TradeRecord) → SameBelow (h ++ e ∷ []) h (length h)
pushed-same h e = record { at = λ j lt. get_or_append_left h (e ∷ []) trade_past_end j lt }

pushed-at : (h : Listed) (e : ℕ × TradeRecord) → get_or (h ++ e ∷ []) (length h) trade_past_end ≡ e
pushed-at h e = get_or_at h e [] trade_past_end (length h) refl

-- the first finding is that of the trades before, or else that of the last one
finding_in-push : (orders : List Order) (h : Listed) (e : ℕ × TradeRecord) → finding_in_trades orders (h ++ e ∷ []) ≡ option_or (finding_in_trades orders h) (trade_finding orders (h ++ e ∷ []) (length h))
finding_in-push orders h e =
    let before : least_answer (trade_finding orders (h ++ e ∷ [])) (length h) ≡ finding_in_trades orders h =
    least_answer-same (trade_finding orders (h ++ e ∷ [])) (trade_finding orders h) (length h) (λ k lt. finding-same orders (length h) (h ++ e ∷ []) h (pushed-same h e) k lt) in
    ap (least_answer (trade_finding orders (h ++ e ∷ []))) (length-push h e) ∙ ap (λ (o : Option Finding). option_or o (trade_finding orders (h ++ e ∷ []) (length h))) before

-- 5 of the last one
duplicate-push : (h : Listed) (e : ℕ × TradeRecord) → duplicate_trade_finding (h ++ e ∷ []) (length h) ≡ option_map (duplicate e.0) (listed_place_of_id h e.1.trade)
unfolding duplicate_trade_finding
duplicate-push h e =
    let longer : Listed = h ++ e ∷ [] in
    let same = pushed-same h e in
    let last = pushed-at h e in
    let tests : least_with (λ j. same_name (trade_at longer j).trade (trade_at longer (length h)).trade) (length h) ≡ least_with (λ j. same_name (trade_at h j).trade e.1.trade) (length h) =
    least_with-same _ _ (length h)
    (λ j lt. ap (λ (x : ℕ × TradeRecord). same_name x.1.trade (trade_at longer (length h)).trade) (same.at j lt) ∙ ap (λ (x : ℕ × TradeRecord). same_name (trade_at h j).trade x.1.trade) last) in
    ap (option_map (λ j. duplicate (trade_place longer (length h)) (trade_place longer j))) tests
    ∙ option_map-same (λ j. duplicate (trade_place longer (length h)) (trade_place longer j)) (λ j. duplicate e.0 (trade_place h j))
    (least_with (λ j. same_name (trade_at h j).trade e.1.trade) (length h))
    (λ j is. let first = least_with-some _ (length h) j is in
    ap (λ (x : ℕ × TradeRecord). duplicate x.0 (trade_place longer j)) last ∙ ap (λ (x : ℕ × TradeRecord). duplicate e.0 x.0) (same.at j first.within))
    ∙ mapped-twice (least_with (λ j. same_name (trade_at h j).trade e.1.trade) (length h))
  where
    mapped-twice : (o : Option ℕ) → option_map (λ j. duplicate e.0 (trade_place h j)) o ≡ option_map (duplicate e.0) (option_map (trade_place h) o)
    mapped-twice None = refl
    mapped-twice (Some j) = refl

-- the finding of the last one
finding-push : (orders : List Order) (h : Listed) (e : ℕ × TradeRecord) → trade_finding orders (h ++ e ∷ []) (length h) ≡ option_or (option_map (duplicate e.0) (listed_place_of_id h e.1.trade)) (unknown_order_of orders e)
finding-push orders h e =
    let five = duplicate-push h e in
    let six : unknown_order_finding orders (h ++ e ∷ []) (length h) ≡ unknown_order_of orders e = unknown-at orders (h ++ e ∷ []) (length h) ∙ ap (unknown_order_of orders) (pushed-at h e) in
    ap (λ (o : Option Finding). option_or o (unknown_order_finding orders (h ++ e ∷ []) (length h))) five ∙ ap (option_or (option_map (duplicate e.0) (listed_place_of_id h e.1.trade))) six

finding-next : (orders : List Order) (h : Listed) (e : ℕ × TradeRecord) → finding_in_trades orders h ≡ None → finding_in_trades orders (h ++ e ∷ []) ≡ option_or (option_map (duplicate e.0) (listed_place_of_id h e.1.trade)) (unknown_order_of orders e)
finding-next orders h e clean = finding_in-push orders h e ∙ option_or-none (finding_in_trades orders h) (trade_finding orders (h ++ e ∷ []) (length h)) clean ∙ finding-push orders h e

-- an id's first trade is the one before, or else the last one
mapped-or : (f g : ℕ → ℕ) (o : Option ℕ) (b : Bool) (n a : ℕ) → ((j : ℕ) → o ≡ Some j → f j ≡ g j) → f n ≡ a → option_map f (option_or o (if b then Some n else None)) ≡ option_or (option_map g o) (only_if b a)
mapped-or f g (Some j) b n a same here = ap (λ (x : ℕ). Some x) (same j refl)
mapped-or f g None true n a same here = ap (λ (x : ℕ). Some x) here
mapped-or f g None false n a same here = refl

first_with-push : (h : Listed) (e : ℕ × TradeRecord) (id : List ℕ) → listed_place_of_id (h ++ e ∷ []) id ≡ option_or (listed_place_of_id h id) (only_if (same_name e.1.trade id) e.0)
first_with-push h e id =
    let longer : Listed = h ++ e ∷ [] in
    let same = pushed-same h e in
    let last = pushed-at h e in
    let before : least_with (λ j. same_name (trade_at longer j).trade id) (length h) ≡ least_with (λ j. same_name (trade_at h j).trade id) (length h) =
    least_with-same _ _ (length h) (λ j lt. ap (λ (x : ℕ × TradeRecord). same_name x.1.trade id) (same.at j lt)) in
    let here : same_name (trade_at longer (length h)).trade id ≡ same_name e.1.trade id = ap (λ (x : ℕ × TradeRecord). same_name x.1.trade id) last in
    ap (λ (n : ℕ). option_map (trade_place longer) (least_with (λ j. same_name (trade_at longer j).trade id) n)) (length-push h e)
    ∙ ap (λ (o : Option ℕ). option_map (trade_place longer) (option_or o (if same_name (trade_at longer (length h)).trade id then Some (length h) else None))) before
    ∙ ap (λ (b : Bool). option_map (trade_place longer) (option_or (least_with (λ j. same_name (trade_at h j).trade id) (length h)) (if b then Some (length h) else None))) here
    ∙ mapped-or (trade_place longer) (trade_place h) (least_with (λ j. same_name (trade_at h j).trade id) (length h)) (same_name e.1.trade id) (length h) e.0
    (λ j is. ap (λ (x : ℕ × TradeRecord). x.0) (same.at j (least_with-some _ (length h) j is).within)) (ap (λ (x : ℕ × TradeRecord). x.0) last)

-- what is kept, with one trade more

pub duplicate-found : (orders : List Order) (h : Listed) (r : SoundDeals) (place first : ℕ) (t : TradeRecord) → AreKeptOfTrades orders h r → kept_place_of_id r.ids t.trade ≡ Some first → finding_in_trades orders (h ++ (place, t) ∷ []) ≡ Some (finding_at place (DuplicateTrade first))
duplicate-found orders h r place first t is seen =
    let earlier : listed_place_of_id h t.trade ≡ Some first = sym (is.ids t.trade) ∙ seen in
    finding-next orders h (place, t) is.clean ∙ ap (λ (o : Option ℕ). option_or (option_map (duplicate place) o) (unknown_order_of orders (place, t))) earlier

new-finding : (orders : List Order) (h : Listed) (r : SoundDeals) (place : ℕ) (t : TradeRecord) → AreKeptOfTrades orders h r → kept_place_of_id r.ids t.trade ≡ None → finding_in_trades orders (h ++ (place, t) ∷ []) ≡ unknown_order_of orders (place, t)
new-finding orders h r place t is unseen =
    let earlier : listed_place_of_id h t.trade ≡ None = sym (is.ids t.trade) ∙ unseen in
    finding-next orders h (place, t) is.clean ∙ ap (λ (o : Option ℕ). option_or (option_map (duplicate place) o) (unknown_order_of orders (place, t))) earlier

pub unknown-found : (orders : List Order) (h : Listed) (r : SoundDeals) (place : ℕ) (t : TradeRecord) (f : Finding) → AreKeptOfTrades orders h r → kept_place_of_id r.ids t.trade ≡ None → unknown_order_of orders (place, t) ≡ Some f → finding_in_trades orders (h ++ (place, t) ∷ []) ≡ Some f
unknown-found orders h r place t f is unseen unknown = new-finding orders h r place t is unseen ∙ unknown

-- what is kept once a trade's id was added
abbrev pub with_id_of : SoundDeals → TradeIds → SoundDeals
with_id_of kept ids = record { deals = kept.deals; ids = ids }

pub trade-taken : (orders : List Order) (h : Listed) (r new : SoundDeals) (ids : TradeIds) (place : ℕ) (t : TradeRecord) (deal : Deal) → AreKeptOfTrades orders h r → kept_place_of_id r.ids t.trade ≡ None → unknown_order_of orders (place, t) ≡ None
    → deal ≡ deal_of_trade orders (place, t) → AddsId r.ids ids t.trade place → AddsDeal (with_id_of r ids) new deal → AreKeptOfTrades orders (h ++ (place, t) ∷ []) new
trade-taken orders h r new ids place t deal is unseen known made adds takes = record {
  clean = new-finding orders h r place t is unseen ∙ known;
  deals = takes.deals ∙ ap (λ (ds : List Deal). ds ++ deal ∷ []) is.deals ∙ ap (λ (d : Deal). map (deal_of_trade orders) h ++ d ∷ []) made ∙ sym (map-push (deal_of_trade orders) h (place, t));
  numbers = takes.numbers is.numbers;
  ids = λ id. ap (λ (m : TradeIds). kept_place_of_id m id) takes.ids ∙ adds id ∙ go id (same_name t.trade id) refl ∙ sym (first_with-push h (place, t) id);
}
  where
    go : (id : List ℕ) (b : Bool) → same_name t.trade id ≡ b → (if b then Some place else kept_place_of_id r.ids id) ≡ option_or (listed_place_of_id h id) (only_if b place)
    go id true e =
        let own : t.trade ≡ id = (bytes_eq-Decides t.trade id).0 e in
        let none : listed_place_of_id h id ≡ None = sym (is.ids id) ∙ ap (kept_place_of_id r.ids) (sym own) ∙ unseen in
        sym (option_or-none (listed_place_of_id h id) (Some place) none)
    go id false e = is.ids id ∙ sym (option_or-nothing (listed_place_of_id h id))

-- the trades of the first records, and one record more

abbrev of_symbol : List ℕ → ℕ × TradeRecord → Bool
of_symbol symbol e = same_name e.1.symbol symbol

trades_of-append : (symbol : List ℕ) (xs ys : List TradeRecord) → trades_of_symbol symbol (xs ++ ys) ≡ trades_of_symbol symbol xs ++ filter (of_symbol symbol) (enumerate_from (1 + length xs) ys)
unfolding trades_of_symbol
trades_of-append symbol xs ys = ap (filter (of_symbol symbol)) (enumerate_from-append 1 xs ys) ∙ filter-append (of_symbol symbol) (enumerate_from 1 xs) (enumerate_from (1 + length xs) ys)

pub trades_of-push : (symbol : List ℕ) (xs : List TradeRecord) (x : TradeRecord) → trades_of_symbol symbol (xs ++ x ∷ []) ≡ trades_of_symbol symbol xs ++ trade_of_symbol symbol (length xs + 1) x
trades_of-push symbol xs x =
    let number : 1 + length xs ≡ length xs + 1 = omega arith in
    trades_of-append symbol xs (x ∷ []) ∙ ap (λ (n : ℕ). trades_of_symbol symbol xs ++ trade_of_symbol symbol n x) number

-- a finding of the first trades is that of all
pub finding_in-append : (orders : List Order) (h r : Listed) (f : Finding) → finding_in_trades orders h ≡ Some f → finding_in_trades orders (h ++ r) ≡ Some f
finding_in-append orders h r f is =
    let same : SameBelow (h ++ r) h (length h) = record { at = λ j lt. get_or_append_left h r trade_past_end j lt } in
    let early : least_answer (trade_finding orders (h ++ r)) (length h) ≡ Some f =
    least_answer-same (trade_finding orders (h ++ r)) (trade_finding orders h) (length h) (λ k lt. finding-same orders (length h) (h ++ r) h same k lt) ∙ is in
    least_answer-stays (trade_finding orders (h ++ r)) (length h) (length (h ++ r)) f early (omega (arith, length-append h r))

pub unsound-is : (orders : List Order) (symbol : List ℕ) (trades : List TradeRecord) → trades_finding orders symbol trades ≡ finding_in_trades orders (trades_of_symbol symbol trades)
unfolding trades_finding
unsound-is orders symbol trades = refl
