-- Columns one after another, of equally many places each.
use Rattle.std.proofs.Common.{◌≡◌, ◌<◌, ◌≤◌, ◌+◌, ◌-◌, ◌*◌, ◌/◌, ℕ, suc, List, [], ◌∷◌, ◌++◌, length, length-append, refl, sym, ap, ◌∙◌, arith, inl, inr, subst, All}
use Rattle.std.specs.Prelude.{◌%◌, max, min, nat_lt}
use Rattle.std.proofs.Math.Nat.{lt_of_mul-lt-mul_right, mul-le-mul_right, suc-mul}
use Rattle.std.proofs.lemmas.Bool.{cases_Bool, cond-true, cond-false, ltb-false, ltb-true}
use Rattle.std.proofs.lemmas.Grind.{div_ceil_times}
use Rattle.std.proofs.lemmas.List.Elements.{All-append, All-cons, All-nil}
use Rattle.audit_base.specs.declared.orders.Deal.{Deal}
use Rattle.audit_base.specs.declared.orders.Order.{Order}
use Rattle.audit_base.specs.Orders.{place_at}
use Rattle.continuous_picture.specs.declared.columns.PlaceColumn.{PlaceColumn}
use Rattle.continuous_picture.specs.Columns.{AreColumns, AreInRow, HasWidth, IsColumn, column_width, next_edge}
use Rattle.continuous_picture.specs.Rows.{HasColumnBehind}

row-more : (from to end : ℕ) (columns : List PlaceColumn) (column : PlaceColumn) → AreInRow from to columns → column.first ≡ to → column.next ≡ end → AreInRow from end (columns ++ column ∷ [])
row-more from to end [] column row first next = (first ∙ sym row, next)
row-more from to end (x ∷ xs) column row first next = (row.0, row-more x.next to end xs column row.1 first next)

-- a width of which at most a thousand reach
pub record IsWidth (places width : ℕ) : Type 0 where
  pub reaches : places ≤ width * 1000
  pub narrow : width * 1000 < places + 1000

pub width-is : (places width divided : ℕ) → divided ≡ places → width ≡ divided / 1000 + min 1 (divided % 1000) → IsWidth places width
width-is places width divided same e = let both = div_ceil_times divided 1000 (omega arith) in let whole : IsWidth divided width = rw e (record { reaches = both.0; narrow = both.1 }) in subst (λ (k : ℕ). IsWidth k width) same whole

-- the least width of which a thousand reach is ⌈n/1000⌉
width-least : (places width : ℕ) → IsWidth places width → width ≡ column_width places
width-least places width wide =
    let reaches = wide.reaches in
    let narrow = wide.narrow in
    omega arith

-- the columns that are made so far
pub record AreSoFar (orders : List Order) (deals : List Deal) (from end width first : ℕ) (columns : List PlaceColumn) : Type 0 where
  pub row : AreInRow from first columns
  pub each : All (IsColumn orders deals) columns
  pub above : from ≤ first
  pub below : first ≤ max from end
  pub few : length columns ≤ 1000
  pub wide : All (HasWidth width end) columns
  pub reached : first ≤ from + length columns * width
  pub even : first < end → from + length columns * width ≡ first
  pub single : end ≤ from + 1000 → All (λ c. c.next ≡ suc c.first) columns

-- where the column from a place ends
pub record IsEdge (first end width next : ℕ) : Type 0 where
  pub inside : next ≤ end
  pub upto : next ≤ first + width
  pub whole : next < end → next ≡ first + width
  pub least : next ≡ min (first + width) end

edge-is : (first end width : ℕ) → first < end → IsEdge first end width (next_edge first end width)
edge-is first end width some = elim (cases_Bool (nat_lt width (end - first))) [
  | inl t ↦
      let e = cond-true (nat_lt width (end - first)) (first + width) end t in
      let l = ltb-true width (end - first) t in
      record { inside = omega arith; upto = omega arith; whole = λ lt. e; least = omega arith }
  | inr f ↦
      let e = cond-false (nat_lt width (end - first)) (first + width) end f in
      let l = ltb-false width (end - first) f in
      record { inside = omega arith; upto = omega arith; whole = λ lt. absurd (omega arith); least = omega arith }
]

module _ (orders : List Order) (deals : List Deal) (from end width : ℕ) (wide : IsWidth (end - from) width) where
  pub so-far-none : (columns : List PlaceColumn) → columns ≡ [] → AreSoFar orders deals from end width from columns
  so-far-none columns none = rw none (record {
    row = refl;
    each = All-nil (IsColumn orders deals);
    above = omega arith;
    below = omega arith;
    few = omega arith;
    wide = All-nil (HasWidth width end);
    reached = omega arith;
    even = λ lt. omega arith;
    single = λ le. All-nil (λ c. c.next ≡ suc c.first);
  })

  -- the next column has some places
  pub edge-some : (first next : ℕ) → from ≤ first → first < end → next ≡ next_edge first end width → (first < next) × (next ≤ end)
  edge-some first next above some e =
      let edge = edge-is first end width some in
      let inside = edge.inside in
      let reaches = wide.reaches in
      let moves : first < next_edge first end width = elim (cases_Bool (nat_lt width (end - first))) [
        | inl t ↦ let e' = cond-true (nat_lt width (end - first)) (first + width) end t in omega arith
        | inr f ↦ let e' = cond-false (nat_lt width (end - first)) (first + width) end f in omega arith
      ] in
      (omega arith, omega arith)

  pub so-far-more : (first next : ℕ) (columns made : List PlaceColumn) → first < end → next ≡ next_edge first end width → HasColumnBehind orders deals first next columns made
      → AreSoFar orders deals from end width first columns → AreSoFar orders deals from end width next made
  so-far-more first next columns made some e has far =
      let column = has.column in
      let first_is = has.first_is in
      let next_is = has.next_is in
      let made_is = has.behind in
      let edge = edge-is first end width some in
      let inside = edge.inside in
      let upto = edge.upto in
      let above = far.above in
      let moves = edge-some first next above some e in
      let even = far.even some in
      let reaches = wide.reaches in
      let narrow = wide.narrow in
      let n = length columns in
      let less : n * width < 1000 * width = omega arith in
      let fewer : n < 1000 = lt_of_mul-lt-mul_right width less in
      let long : length made ≡ suc n = ap length made_is ∙ length-append columns (column ∷ []) ∙ (omega arith) in
      record {
        row = subst (AreInRow from next) (sym made_is) (row-more from first next columns column far.row first_is next_is);
        each = subst (All (IsColumn orders deals)) (sym made_is) (All-append (IsColumn orders deals) columns (column ∷ []) far.each (All-cons (IsColumn orders deals) column [] has.is (All-nil (IsColumn orders deals))));
        above = omega (arith, moves);
        below = omega (arith, moves);
        few = omega arith;
        wide = subst (All (HasWidth width end)) (sym made_is) (All-append (HasWidth width end) columns (column ∷ []) far.wide
            (All-cons (HasWidth width end) column [] (let least = edge.least in omega arith) (All-nil (HasWidth width end))));
        reached =
            let reached = far.reached in
            let more = suc-mul n width in
            let times : length made * width ≡ suc n * width = ap (λ (k : ℕ). k * width) long in
            omega arith;
        even = λ lt.
            let whole = edge.whole (omega arith) in
            let more = suc-mul n width in
            let times : length made * width ≡ suc n * width = ap (λ (k : ℕ). k * width) long in
            omega arith;
        single = λ le. subst (All (λ c. c.next ≡ suc c.first)) (sym made_is) (All-append (λ c. c.next ≡ suc c.first) columns (column ∷ []) (far.single le)
            (All-cons (λ c. c.next ≡ suc c.first) column [] (let one : width ≤ 1 = omega arith in omega (arith, moves)) (All-nil (λ c. c.next ≡ suc c.first))));
      }

-- with at most 500 columns of this width no more than 1,000 places are reached
many-wide : (places width count : ℕ) → IsWidth places width → places ≤ count * width → 1000 < places → 500 < count
many-wide places width count wide reached many = elim (cases_Bool (nat_lt 500 count)) [
  | inl t ↦ ltb-true 500 count t
  | inr f ↦
      let few = ltb-false 500 count f in
      let narrow = wide.narrow in
      let upto : count * width ≤ 500 * width = mul-le-mul_right width few in
      absurd (omega arith)
]

pub so-far-all : (orders : List Order) (deals : List Deal) (from end width first : ℕ) (columns : List PlaceColumn) → from ≡ place_at orders 0 → end ≤ first → IsWidth (end - from) width → AreSoFar orders deals from end width first columns → AreColumns orders deals end columns
so-far-all orders deals from end width first columns from_is last is_width far =
    let above = far.above in
    let below = far.below in
    let reached = far.reached in
    let all : first ≡ max (place_at orders 0) end = omega arith in
    let least : width ≡ column_width (end - place_at orders 0) = width-least (end - from) width is_width ∙ ap (λ (k : ℕ). column_width (end - k)) from_is in
    record {
      row = subst (λ (k : ℕ). AreInRow k (max (place_at orders 0) end) columns) from_is (subst (λ (k : ℕ). AreInRow from k columns) all far.row);
      each = far.each;
      few = far.few;
      wide = subst (λ (k : ℕ). All (HasWidth k end) columns) least far.wide;
      many = λ more. many-wide (end - from) width (length columns) is_width (omega arith) (omega arith);
      single = λ le. far.single (omega arith);
    }
