-- The lines of a side with their places, of the first ones and of one more.
use Rattle.std.proofs.Common.{◌≡◌, ◌<◌, ◌≤◌, ◌+◌, ◌∙◌, ℕ, List, [], ◌∷◌, ◌++◌, length, get_or, take, sym, ap, arith}
use Rattle.std.specs.Prelude.{map}
use Rattle.std.specs.List.{enumerate_from}
use Rattle.std.proofs.lemmas.List.{length_push, take_all}
use Rattle.std.proofs.lemmas.List.FromFn.{get_or-enumerate_from, length-enumerate_from}
use Rattle.audit_base.specs.declared.orders.Order.{Order}
use Rattle.order_book.specs.declared.books.Resting.{Resting}
use Rattle.page_plots.proofs.SeriesLemmas.{mapped-more}
use Rattle.continuous_drawing.specs.declared.book_layouts.PlacedLine.{PlacedLine}
use Rattle.continuous_drawing.specs.BookLayouts.{placed_below, placed_line, placed_lines, top_below}

-- the first lines have their places
pub record ArePlacedSoFar (orders : List Order) (most first : ℕ) (lines : List Resting) (count : ℕ) (placed : List PlacedLine) : Type 0 where
  pub long : length placed ≡ count
  pub so_far : placed ≡ map (placed_below orders most) (take count (enumerate_from first lines))

module _ (orders : List Order) (most first : ℕ) (lines : List Resting) where
  -- none so far
  pub placed-start : (placed : List PlacedLine) → placed ≡ [] → ArePlacedSoFar orders most first lines 0 placed
  placed-start placed none = record { long = ap (λ (p : List PlacedLine). length p) none; so_far = none }

  -- one more
  pub placed-more : (index count top : ℕ) (line : Resting) (own : PlacedLine) (placed later : List PlacedLine) → index < length lines → line ≡ get_or lines index line → count ≡ length placed
      → top ≡ top_below (first + count) → own ≡ placed_line orders most top line → later ≡ placed ++ own ∷ []
      → ArePlacedSoFar orders most first lines index placed → ArePlacedSoFar orders most first lines (index + 1) later
  placed-more index count top line own placed later lt is counted top_is own_is pushed so = record {
    long = ap (λ (p : List PlacedLine). length p) pushed ∙ length_push placed own ∙ ap (λ (n : ℕ). n + 1) so.long;
    so_far = mapped-more (placed_below orders most) (enumerate_from first lines) index (0, line) inside placed later so.so_far (pushed ∙ ap (λ (p : PlacedLine). placed ++ p ∷ []) here);
  }
    where
      inside : index < length (enumerate_from first lines)
      inside = omega (arith, lt, length-enumerate_from first lines)

      at_index : count ≡ index
      at_index = counted ∙ so.long

      placed_here : own ≡ placed_below orders most (first + index, line)
      placed_here = own_is ∙ ap (λ (t : ℕ). placed_line orders most t line) (top_is ∙ ap (λ (n : ℕ). top_below (first + n)) at_index)

      here : own ≡ placed_below orders most (get_or (enumerate_from first lines) index (0, line))
      here = placed_here ∙ ap (λ (r : Resting). placed_below orders most (first + index, r)) is ∙ ap (placed_below orders most) (sym (get_or-enumerate_from first lines index (0, line) lt))

  -- all of them
  pub placed-all : (count : ℕ) (placed : List PlacedLine) → length lines ≤ count → ArePlacedSoFar orders most first lines count placed → placed ≡ placed_lines orders most first lines
  placed-all count placed over so =
      so.so_far ∙ ap (map (placed_below orders most)) (take_all count (enumerate_from first lines) (omega (arith, over, length-enumerate_from first lines)))
