-- The lines of the shares of some deals are those of the pairs that trade.
use Rattle.std.proofs.Common.{◌≡◌, ◌∙◌, sym, ap, subst, refl, ℕ, ◌<◌, ◌+◌, inl, inr, List, [], ◌∷◌, ◌++◌, length, map, get_or, cond, Option, None, Some, All, AllPairs, arith}
use Rattle.std.specs.Prelude.{Contains, ◌==◌, ◌&&◌, nat_lt, filter_map, flat_map}
use Rattle.std.specs.List.{cons_option, enumerate_from, range_with_len}
use Rattle.std.proofs.lemmas.Bool.{cases_Bool, and_parts, eqb-true, cond-false}
use Rattle.std.proofs.lemmas.List.{get_or-map, length-map, take_all, map-append}
use Rattle.std.proofs.lemmas.List.Elements.{All-head, All-tail}
use Rattle.std.proofs.lemmas.List.Sums.{sum_by-cons}
use Rattle.audit_base.specs.declared.orders.Order.{Order}
use Rattle.audit_base.specs.declared.orders.Deal.{Deal}
use Rattle.audit_base.specs.Deals.{pair, NamesOrders, IsDealList}
use Rattle.audit_base.specs.Expected.{pair_deal, pair_deals}
use Rattle.audit_base.specs.Orders.{place_at}
use Rattle.audit_base.proofs.PairDealLemmas.{ends_of, Before, ordered-same, pair_deals-are}
use Rattle.audit_report.specs.declared.tables.Line.{Line}
use Rattle.audit_report.specs.declared.tables.Line.TheVariants as line
use Rattle.canonical_form.specs.declared.shares.Share.{Share}
use Rattle.canonical_form.specs.Shares.{AreShares}
use Rattle.record_verdict.specs.RecordVerdicts.{pair_line_at, pair_table_lines}
use Rattle.record_verdict.specs.Tables.{IsShareOf, line_of_share, share_lines}

abbrev ends : Share → ℕ × ℕ
ends s = (s.bid, s.ask)

before-one_way : (p q : ℕ × ℕ) → Before p q → Before q p → ⊥
before-one_way p q (inl a) (inl b) = absurd (omega arith)
before-one_way p q (inl a) (inr b) = let e = b.0 in absurd (omega arith)
before-one_way p q (inr a) (inl b) = let e = a.0 in absurd (omega arith)
before-one_way p q (inr a) (inr b) = let e = a.1 in let f = b.1 in absurd (omega arith)

-- a pair that trades is of orders of the list
pair-inside : (orders : List Order) (deals : List Deal) (bid ask : ℕ) → All (NamesOrders orders) deals → 0 < pair deals bid ask → (bid < length orders) × (ask < length orders)
pair-inside orders [] bid ask named some = absurd (omega arith)
pair-inside orders (d ∷ ds) bid ask named some =
    let part : Deal → ℕ = λ d. cond ((d.bid == bid) && (d.ask == ask)) d.quantity 0 in
    let both = sum_by-cons part d ds in
    elim (cases_Bool ((d.bid == bid) && (d.ask == ask))) [
      | inl t ↦
          let two = and_parts (d.bid == bid) (d.ask == ask) t in
          let here = All-head (NamesOrders orders) d ds named in
          (subst (λ (i : ℕ). i < length orders) (eqb-true d.bid bid two.0) here.bid_inside, subst (λ (i : ℕ). i < length orders) (eqb-true d.ask ask two.1) here.ask_inside)
      | inr f ↦
          let none : part d ≡ 0 = cond-false _ d.quantity 0 f in
          pair-inside orders ds bid ask (All-tail (NamesOrders orders) d ds named) (omega arith)
    ]

-- each share is of a bid and an ask of the order list
pub shares-inside : (orders : List Order) (deals : List Deal) (shares : List Share) → IsDealList orders deals → AreShares deals shares → All (IsShareOf orders) shares
shares-inside orders deals shares list are = λ n s lt.
    let t = get_or shares n s in
    let trades : 0 < pair deals t.bid t.ask = let q = are.quantities n s lt in let some = are.positive n s lt in omega arith in
    let two = pair-inside orders deals t.bid t.ask list.named trades in
    record { bid_inside = two.0; ask_inside = two.1 }

-- a map over what is kept, and over rows
map-kept : {X Y : Type 0} (f : X → Y) (g : ℕ → Option X) (h : ℕ → Option Y) (xs : List ℕ) → ((i : ℕ) → map f (cons_option (g i) []) ≡ cons_option (h i) []) → map f (filter_map g xs) ≡ filter_map h xs
map-kept f g h [] same = refl
map-kept f g h (x ∷ xs) same = one f (g x) (h x) (filter_map g xs) (filter_map h xs) (same x) (map-kept f g h xs same)
  where
    one : {X Y : Type 0} (f : X → Y) (o : Option X) (p : Option Y) (xs : List X) (ys : List Y) → map f (cons_option o []) ≡ cons_option p [] → map f xs ≡ ys → map f (cons_option o xs) ≡ cons_option p ys
    one f None None xs ys e rest = rest
    one f None (Some y) xs ys e rest = absurd (cc)
    one f (Some x) None xs ys e rest = absurd (cc)
    one f (Some x) (Some y) xs ys e rest = cc

map-rows : {X Y : Type 0} (f : X → Y) (g : ℕ → List X) (h : ℕ → List Y) (xs : List ℕ) → ((i : ℕ) → map f (g i) ≡ h i) → map f (flat_map g xs) ≡ flat_map h xs
map-rows f g h [] same = refl
map-rows f g h (x ∷ xs) same = map-append f (g x) (flat_map g xs) ∙ ap (λ l. l ++ map f (flat_map g xs)) (same x) ∙ ap (λ l. h x ++ l) (map-rows f g h xs same)

module _ (orders : List Order) (deals : List Deal) where
  abbrev quantity : ℕ → ℕ → ℕ
  quantity = pair deals

  abbrev no_price : ℕ → ℕ → ℕ
  no_price bid ask = 0

  abbrev line_at : ℕ × ℕ → Line
  line_at p = line.Pair (place_at orders p.0) (place_at orders p.1) (quantity p.0 p.1)

  abbrev paired : List Deal
  paired = pair_deals orders quantity no_price

  abbrev deal_line : Deal → Line
  deal_line d = line_at (ends_of d)

  one-line : (bid ask : ℕ) → map deal_line (cons_option (pair_deal quantity no_price bid ask) []) ≡ cons_option (pair_line_at orders deals bid ask) []
  one-line bid ask = elim (cases_Bool (nat_lt 0 (quantity bid ask))) [
    | inl t ↦ rw t refl
    | inr f ↦ rw f refl
  ]

  -- the lines of the pairs, by the list of one deal for each
  lines-of_pairs : map deal_line paired ≡ pair_table_lines orders deals
  unfolding pair_deals
  lines-of_pairs =
      let indices = range_with_len 0 (length orders) in
      let rows = flat_map (λ bid. filter_map (pair_deal quantity no_price bid) indices) indices in
      unnumbered 1 rows
      ∙ map-rows deal_line (λ bid. filter_map (pair_deal quantity no_price bid) indices) (λ bid. filter_map (pair_line_at orders deals bid) indices) indices
      (λ bid. map-kept deal_line (pair_deal quantity no_price bid) (pair_line_at orders deals bid) indices (one-line bid))
    where
      cons-same : {X : Type 0} (a : X) (xs ys : List X) → xs ≡ ys → a ∷ xs ≡ a ∷ ys
      cons-same a xs ys e = cc

      unnumbered : (n : ℕ) (ds : List Deal) → map deal_line (map (λ e. record e.1 { place = e.0 }) (enumerate_from n ds)) ≡ map deal_line ds
      unnumbered n [] = refl
      unnumbered n (d ∷ ds) = cons-same (deal_line d) _ _ (unnumbered (n + 1) ds)

  lines-of_ends : (ds : List Deal) → map line_at (map ends_of ds) ≡ map deal_line ds
  lines-of_ends [] = refl
  lines-of_ends (d ∷ ds) = ap (λ l. deal_line d ∷ l) (lines-of_ends ds)

  module _ (shares : List Share) (are : AreShares deals shares) (list : IsDealList orders deals) where
    lines-of_shares : (ss : List Share) → All (λ s. s.quantity ≡ pair deals s.bid s.ask) ss → map (line_of_share orders) ss ≡ map line_at (map ends ss)
    lines-of_shares [] each = refl
    lines-of_shares (s ∷ ss) each =
        ap (λ q. line.Pair (place_at orders s.bid) (place_at orders s.ask) q ∷ map (line_of_share orders) ss) (All-head (λ (t : Share). t.quantity ≡ pair deals t.bid t.ask) s ss each)
        ∙ ap (λ l. line_at (ends s) ∷ l) (lines-of_shares ss (All-tail (λ (t : Share). t.quantity ≡ pair deals t.bid t.ask) s ss each))

    shares-ordered : AllPairs Before (map ends shares)
    shares-ordered i j p lt below =
        let s : Share = record { bid = p.0; ask = p.1; quantity = 0 } in
        let under : j < length shares = rw (← length-map shares ends) below in
        let a = get_or-map ends shares i s p (omega arith) in
        let b = get_or-map ends shares j s p under in
        rw (a, b) (are.ascending i j s lt under)

    deals-ordered : AllPairs Before (map ends_of paired)
    deals-ordered i j p lt below =
        let d : Deal = record { place = 0; bid = p.0; ask = p.1; quantity = 0; price = 0 } in
        let under : j < length paired = rw (← length-map paired ends_of) below in
        let a = get_or-map ends_of paired i d p (omega arith) in
        let b = get_or-map ends_of paired j d p under in
        rw (a, b) ((pair_deals-are orders quantity no_price).in_order i j d lt under)

    share-has_deal : (p : ℕ × ℕ) → Contains (map ends shares) p → Contains (map ends_of paired) p
    share-has_deal p (n, lt, at) =
        let s0 : Share = record { bid = p.0; ask = p.1; quantity = 0 } in
        let under : n < length shares = rw (← length-map shares ends) lt in
        let s = get_or shares n s0 in
        let e : get_or (map ends shares) n p ≡ ends s = get_or-map ends shares n s0 p under in
        let inside = shares-inside orders deals shares list are n s0 under in
        let trades : 0 < quantity s.bid s.ask = let q = are.quantities n s0 under in let some = are.positive n s0 under in omega arith in
        subst (λ q. Contains (map ends_of paired) q) (sym e ∙ at) ((pair_deals-are orders quantity no_price).complete s.bid s.ask inside.bid_inside inside.ask_inside trades)

    deal-has_share : (p : ℕ × ℕ) → Contains (map ends_of paired) p → Contains (map ends shares) p
    deal-has_share p (n, lt, at) =
        let d0 : Deal = record { place = 0; bid = p.0; ask = p.1; quantity = 0; price = 0 } in
        let under : n < length paired = rw (← length-map paired ends_of) lt in
        let d = get_or paired n d0 in
        let e : get_or (map ends_of paired) n p ≡ ends_of d = get_or-map ends_of paired n d0 p under in
        let k = (pair_deals-are orders quantity no_price).each n d0 under in
        let trades : 0 < quantity d.bid d.ask = let some = k.some in let is = k.is in omega arith in
        subst (λ q. Contains (map ends shares) q) (sym e ∙ at) (mapped (are.complete d.bid d.ask trades))
      where
        mapped : {s : Share} → Contains shares s → Contains (map ends shares) (ends s)
        mapped {s} (n, lt, at) = (n, rw (length-map shares ends) lt, get_or-map ends shares n s (ends s) lt ∙ ap ends at)

    pub shares-lines : (lines : List Line) → lines ≡ share_lines orders shares (length shares) → lines ≡ pair_table_lines orders deals
    shares-lines lines is =
        is ∙ ap (map (line_of_share orders)) (take_all (length shares) shares (omega arith))
        ∙ lines-of_shares shares are.quantities
        ∙ ap (map line_at) (ordered-same Before before-one_way (map ends shares) (map ends_of paired) shares-ordered deals-ordered share-has_deal deal-has_share)
        ∙ lines-of_ends paired ∙ lines-of_pairs
