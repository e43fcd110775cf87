-- What the picture's parts need of ranks and totals.
use Rattle.std.proofs.Common.{◌≡◌, ◌<◌, ◌≤◌, ◌^◌, ◌*◌, ◌+◌, ◌∙◌, ℕ, List, [], ◌∷◌, length, get_or, take, drop, refl, ap, sym, inl, inr, arith}
use Rattle.std.specs.Prelude.{All, map, sum_by}
use Rattle.std.specs.List.{flat_map}
use Rattle.std.proofs.lemmas.Bool.{cases_Bool, cases_lt, cond-true, cond-false}
use Rattle.std.proofs.lemmas.List.{get_or_past, take-append-drop}
use Rattle.std.proofs.lemmas.List.Elements.{All-head, All-tail}
use Rattle.std.proofs.lemmas.List.Sums.{sum_by-append, sum_by-cons}
use Rattle.audit_base.specs.declared.terms.Side.{Side}
use Rattle.audit_base.specs.declared.terms.Side.TheVariants.{Buy, Sell}
use Rattle.audit_base.specs.declared.orders.Order.{Order}
use Rattle.audit_base.specs.declared.orders.Deal.{Deal}
use Rattle.audit_base.specs.Deals.{AreTotals, DealInRange, DealsInRange, IsDealList, names_order, number_at, quantity_traded_by, traded, volume}
use Rattle.audit_base.specs.Orders.{IsOrderList, OrdersInRange, order_past_end, quantity_at}
use Rattle.audit_base.specs.Priority.{IsRanked}
use Rattle.unit_pairs.proofs.UnitLemmas.{ranks-fit}
use Rattle.call_picture.specs.declared.pictures.CallPicture.{CallPicture}
use Rattle.call_picture.specs.declared.pictures.SidePicture.{SidePicture}
use Rattle.call_picture.specs.declared.steps.SideStep.{SideStep}
use Rattle.call_picture.specs.Merging.{AreTotalsSmall}
use Rattle.call_picture.specs.Pictures.{IsCallPicture, IsPictureInRange, IsSidePicture}
use Rattle.call_picture.specs.Steps.{step_of_group}
use Rattle.call_picture.specs.Windows.{quantity_of_steps}

-- ranked orders are orders of the list
pub ranked-inside : (orders : List Order) (side : Side) (ranks : List ℕ) → IsRanked orders side ranks → All (λ order. order < length orders) ranks
ranked-inside orders side ranks ranked k d lt = (ranked.only k d lt).inside

sum-most : (f : Deal → ℕ) (deals : List Deal) → All (λ d. f d ≤ 10 ^ 12) deals → sum_by f deals ≤ length deals * 10 ^ 12
sum-most f [] all = omega arith
sum-most f (d ∷ ds) all =
    let one = All-head (λ x. f x ≤ 10 ^ 12) d ds all in
    let rest = sum-most f ds (All-tail (λ x. f x ≤ 10 ^ 12) d ds all) in
    omega (arith, one, rest, sum_by-cons f d ds)

part-most : (order : ℕ) (d : Deal) → DealInRange d → quantity_traded_by order d ≤ 10 ^ 12
part-most order d is = elim (cases_Bool (names_order order d)) [
  | inl t ↦ omega (arith, is.sized.most, cond-true (names_order order d) d.quantity 0 t)
  | inr f ↦ omega (arith, cond-false (names_order order d) d.quantity 0 f)
]

-- what an order trades in a list of deals
pub totals-small : (orders : List Order) (deals : List Deal) (totals : List ℕ) → AreTotals orders deals totals → DealsInRange deals → length deals < 2 ^ 32 → AreTotalsSmall totals
totals-small orders deals totals are in_range few order = elim (cases_lt order (length orders)) [
  | inl lt ↦
      let each : number_at totals order ≡ traded deals order = are.each order lt in
      omega (arith, each, few, sum-most (quantity_traded_by order) deals (λ k d below. part-most order (get_or deals k d) (in_range k d below)))
  | inr past ↦ omega (arith, get_or_past totals order 0 (omega (arith, past, are.count)))
]

-- The numbers of a picture.

groups-sum : (orders : List Order) (deals : List Deal) (groups : List (List ℕ))
    → quantity_of_steps (map (step_of_group orders deals) groups) ≡ sum_by (quantity_at orders) (flat_map (λ (g : List ℕ). g) groups)
groups-sum orders deals [] = refl
groups-sum orders deals (g ∷ gs) =
    let one = sum_by-cons (λ (s : SideStep). s.quantity) (step_of_group orders deals g) (map (step_of_group orders deals) gs) in
    let rest = groups-sum orders deals gs in
    let both = sum_by-append (quantity_at orders) g (flat_map (λ (h : List ℕ). h) gs) in
    omega (arith, one, rest, both)

quantities-most : (orders : List Order) (ranks : List ℕ) → OrdersInRange orders → All (λ order. order < length orders) ranks → sum_by (quantity_at orders) ranks ≤ length ranks * 10 ^ 12
quantities-most orders [] in_range inside = omega arith
quantities-most orders (r ∷ rs) in_range inside =
    let most = (in_range r order_past_end (All-head (λ order. order < length orders) r rs inside)).sized.most in
    let rest = quantities-most orders rs in_range (All-tail (λ order. order < length orders) r rs inside) in
    omega (arith, most, rest, sum_by-cons (quantity_at orders) r rs)

part-within : (first : ℕ) (steps : List SideStep) → quantity_of_steps (take first steps) + quantity_of_steps (take 400 (drop first steps)) ≤ quantity_of_steps steps
part-within first steps =
    let f = λ (s : SideStep). s.quantity in
    let cut : quantity_of_steps steps ≡ quantity_of_steps (take first steps) + quantity_of_steps (drop first steps) =
    ap quantity_of_steps (sym (take-append-drop first steps)) ∙ sum_by-append f (take first steps) (drop first steps) in
    let behind : quantity_of_steps (drop first steps) ≡ quantity_of_steps (take 400 (drop first steps)) + quantity_of_steps (drop 400 (drop first steps)) =
    ap quantity_of_steps (sym (take-append-drop 400 (drop first steps))) ∙ sum_by-append f (take 400 (drop first steps)) (drop 400 (drop first steps)) in
    omega (arith, cut, behind)

side-most : (orders : List Order) (deals : List Deal) (side : Side) (reached : ℕ) (picture : SidePicture) (is : IsSidePicture orders deals side reached picture) → OrdersInRange orders
    → picture.drawn.before + quantity_of_steps picture.drawn.steps.items ≤ length is.ranks * 10 ^ 12
side-most orders deals side reached picture is in_range =
    let before = is.drawn.before in
    let shown : quantity_of_steps picture.drawn.steps.items ≡ quantity_of_steps (take 400 (drop picture.drawn.better is.all)) = ap quantity_of_steps is.drawn.shown in
    let part = part-within picture.drawn.better is.all in
    let all : quantity_of_steps is.all ≡ sum_by (quantity_at orders) is.ranks =
    ap quantity_of_steps is.steps.each ∙ groups-sum orders deals is.steps.groups ∙ ap (sum_by (quantity_at orders)) is.steps.cut.whole in
    let most = quantities-most orders is.ranks in_range (ranked-inside orders side is.ranks is.ranked) in
    omega (arith, before, shown, part, all, most)

volume-most : (deals : List Deal) → DealsInRange deals → volume deals ≤ length deals * 10 ^ 12
volume-most deals in_range = sum-most (λ d. d.quantity) deals (λ k d lt. (in_range k d lt).sized.most)

pub picture-in-range : (orders : List Order) (deals : List Deal) (picture : CallPicture) → IsOrderList orders → OrdersInRange orders → IsDealList orders deals → DealsInRange deals
    → IsCallPicture orders deals picture → IsPictureInRange picture
picture-in-range orders deals picture list in_range deal_list deals_in_range is =
    let few = list.fits_indices in
    let few_deals = deal_list.fits_indices in
    let count = ranks-fit orders list is.bids.ranks is.asks.ranks is.bids.ranked is.asks.ranked in
    let bids = side-most orders deals Buy (volume deals) picture.bids is.bids in_range in
    let asks = side-most orders deals Sell (volume deals) picture.asks is.asks in_range in
    let most = volume-most deals deals_in_range in
    let same = is.volume_is in
    record {
      bids = omega (arith, few, count, bids);
      asks = omega (arith, few, count, asks);
      volume = omega (arith, few_deals, most, same);
    }

pub ranks-few : (orders : List Order) → IsOrderList orders → (bids asks : List ℕ) → IsRanked orders Buy bids → IsRanked orders Sell asks → (length bids < 2 ^ 32) × (length asks < 2 ^ 32)
ranks-few orders list bids asks b a =
    let few = list.fits_indices in
    let count = ranks-fit orders list bids asks b a in
    (omega (arith, few, count), omega (arith, few, count))
