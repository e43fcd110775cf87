-- Line 2.
use Rattle.std.proofs.Common.{◌≡◌, ℕ, ◌+◌, ◌-◌, ◌^◌, ◌≤◌, List, [], ◌∷◌, ◌++◌, length, get_or, Bool, true, false, Some, None, refl, sym, ap, ◌∙◌, arith, inl, inr, subst, add-one, IsTrue, ◌↔◌}
use Rattle.std.specs.Prelude.{max, drop, take, nat_lt, nat_le, not, ◌==◌, ◌&&◌, decimal}
use Rattle.std.specs.Cmp.{first_so, second_so}
use Rattle.std.specs.Fmt.{digits}
use Rattle.std.specs.List.{list_all, position, position_or_len}
use Rattle.std.proofs.Math.Seq.{take-append_seam}
use Rattle.std.proofs.lemmas.Bool.{cases_lt, cond-true, cond-false, lt-ltb, le-ltb, both_ways, false≢true}
use Rattle.std.proofs.lemmas.List.{take_all, length-drop, length-append}
use Rattle.audit_base.specs.declared.terms.VolumeRule.{VolumeRule}
use Rattle.audit_base.specs.declared.orders.Order.{Order}
use Rattle.audit_base.specs.Digits.{fraction_digits, fixed_digits}
use Rattle.audit_base.specs.Names.{is_name_byte}
use Rattle.audit_base.specs.Numbers.{price_form, price_text}
use Rattle.audit_base.specs.Orders.{order_at}
use Rattle.audit_base.proofs.NumberLemmas.{price_again}
use Rattle.audit_base.proofs.UnquotedLemmas.{price_is_unquoted}
use Rattle.audit_certificate.specs.Agreement.{ShowsNoGreaterVolume, IsBoundLine}
use Rattle.audit_certificate.specs.Bounds.{above_if_short, above_short_bids, is_comma, take_upto, before_comma, price_or_above, price_in_text, named_price}
use Rattle.audit_certificate.specs.Texts.{bound_text}

-- the price above the short bids among the first n orders
pub record IsAboveSoFar (orders : List Order) (traded : List ℕ) (n price : ℕ) : Type 0 where
  pub same : price ≡ above_short_bids orders traded n
  pub in_range : price ≤ 10 ^ 18

pub above-none : (orders : List Order) (traded : List ℕ) → IsAboveSoFar orders traded 0 0
unfolding above_short_bids
above-none orders traded = record { same = refl; in_range = omega arith }

pub above-more : (orders : List Order) (traded : List ℕ) (n price next : ℕ) (o : Order) (here : ℕ) → o ≡ order_at orders n → here ≡ above_if_short o (get_or traded n 0)
    → here ≤ 10 ^ 18 → next ≡ max here price → IsAboveSoFar orders traded n price → IsAboveSoFar orders traded (n + 1) next
unfolding above_short_bids
above-more orders traded n price next o here o_is here_is here_most next_is so_far =
    let most = so_far.in_range in
    let at_here : here ≡ above_if_short (order_at orders n) (get_or traded n 0) = here_is ∙ ap (λ (x : Order). above_if_short x (get_or traded n 0)) o_is in
    record {
      same = next_is ∙ (λ i. max (at_here i) (so_far.same i)) ∙ ap (above_short_bids orders traded) (sym (add-one n));
      in_range = omega arith;
    }

pub price-after : (line : List ℕ) → 6 ≤ length line → price_in_text (before_comma (take (length line - 6) (drop 6 line))) ≡ named_price line
price-after line long =
    ap (λ (t : List ℕ). price_in_text (before_comma t)) (take_all (length line - 6) (drop 6 line) (omega (arith, length-drop 6 line)))
    ∙ sym (cond-false (nat_lt (length line) 6) (10 ^ 18) (price_in_text (before_comma (drop 6 line))) (le-ltb (length line) 6 long))

-- the text of 10^18 is not read as a price
above-unread : price_form (price_text (10 ^ 18)) ≡ None
unfolding fraction_digits fixed_digits digits
above-unread = refl

-- A line 2 is read again.

not-false : (b : Bool) → not b ≡ true → b ≡ false
not-false true e = cc
not-false false e = refl

not_comma : (c : ℕ) → is_name_byte c ≡ true → is_comma c ≡ false
not_comma c is = not-false (c == 44) (second_so (nat_le 32 c && nat_le c 126 && not (c == 34)) (not (c == 44)) is)

first_comma : (text rest : List ℕ) → list_all is_name_byte text ≡ true → position_or_len is_comma (text ++ 44 ∷ rest) ≡ length text
first_comma [] rest are = refl
first_comma (c ∷ text) rest are =
    let first = not_comma c (first_so (is_name_byte c) (list_all is_name_byte text) are) in
    let more = first_comma text rest (second_so (is_name_byte c) (list_all is_name_byte text) are) in
    rw first (omega (arith, more))

field-again : (text rest : List ℕ) → list_all is_name_byte text ≡ true → before_comma (text ++ 44 ∷ rest) ≡ text
field-again text rest are =
    let at : position_or_len is_comma (text ++ 44 ∷ rest) ≡ length text = first_comma text rest are in
    let within : nat_lt (position_or_len is_comma (text ++ 44 ∷ rest)) (length (text ++ 44 ∷ rest)) ≡ true =
    lt-ltb (position_or_len is_comma (text ++ 44 ∷ rest)) (length (text ++ 44 ∷ rest)) (omega (arith, length-append text (44 ∷ rest))) in
    let some : position is_comma (text ++ 44 ∷ rest) ≡ Some (length text) = cond-true _ _ _ within ∙ ap (λ (n : ℕ). Some n) at in
    ap (take_upto (text ++ 44 ∷ rest)) some ∙ take-append_seam text (44 ∷ rest)

price-again : (price : ℕ) → price ≤ 10 ^ 18 → price_in_text (price_text price) ≡ price
price-again price most = elim (cases_lt price (10 ^ 18)) [
  | inl below ↦ ap price_or_above (price_again price below)
  | inr above ↦
      let e : price ≡ 10 ^ 18 = omega arith in
      ap (λ (p : ℕ). price_in_text (price_text p)) e ∙ ap price_or_above above-unread ∙ sym e
]

-- so the price that a line 2 has is the one that is read
pub price-named : (price reached : ℕ) (line : List ℕ) → price ≤ 10 ^ 18 → line ≡ bound_text price reached → named_price line ≡ price
price-named price reached line most line_is =
    let text : List ℕ = price_text price in
    let long : 6 ≤ length (bound_text price reached) = omega arith in
    ap named_price line_is
    ∙ cond-false (nat_lt (length (bound_text price reached)) 6) (10 ^ 18) (price_in_text (before_comma (drop 6 (bound_text price reached)))) (le-ltb (length (bound_text price reached)) 6 long)
    ∙ ap price_in_text (field-again text (decimal reached) (price_is_unquoted price most))
    ∙ price-again price most

-- whether the line is a line 2
pub tells-bound : (the_rule : VolumeRule) (orders : List Order) (reached price : ℕ) (line : List ℕ) (same shows : Bool) → price ≡ named_price line → price ≤ 10 ^ 18
    → IsTrue same ↔ (line ≡ bound_text price reached) → same ≡ true → IsTrue shows ↔ ShowsNoGreaterVolume the_rule orders reached price
    → IsTrue shows ↔ IsBoundLine the_rule orders reached line
tells-bound the_rule orders reached price line same shows price_is most tells_text text tells = (
  λ t. record { price = price; in_range = most; text_is = tells_text.0 text; shows = tells.0 t },
  λ is. tells.1 (subst (ShowsNoGreaterVolume the_rule orders reached) (sym (price-named is.price reached line is.in_range is.text_is) ∙ sym price_is) is.shows),
)

pub tells-no_bound : (the_rule : VolumeRule) (orders : List Order) (reached price : ℕ) (line : List ℕ) (same : Bool) → price ≡ named_price line
    → IsTrue same ↔ (line ≡ bound_text price reached) → same ≡ false → IsTrue false ↔ IsBoundLine the_rule orders reached line
tells-no_bound the_rule orders reached price line same price_is tells_text off = (
  λ t. absurd (false≢true t),
  λ is. absurd (both_ways _ off (tells_text.1 (is.text_is ∙ ap (λ (p : ℕ). bound_text p reached) (sym (price-named is.price reached line is.in_range is.text_is) ∙ sym price_is)))),
)
