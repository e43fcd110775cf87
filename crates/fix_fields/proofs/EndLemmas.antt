-- The SOH bytes of a body, against those of a text that begins with it.
use Rattle.std.proofs.Common.{◌≡◌, ◌⊎◌, ℕ, ◌+◌, ◌-◌, ◌<◌, ◌≤◌, Option, Some, None, List, [], ◌++◌, length, get_or, take, drop, refl, sym, subst, inl, inr, ◌∙◌, ap, arith}
use Rattle.std.specs.Prelude.{IfSome}
use Rattle.std.proofs.lemmas.Bool.{cases_lt}
use Rattle.std.proofs.lemmas.List.{append-nil, get_or-drop, get_or_append_left, get_or-take, length-append, length-drop, length-take-le, take-append-drop}
use Rattle.memchr.specs.Find.{IsFirst, IsFirstByte, is_byte}
use Rattle.fix_fields.specs.Marks.{IsEnd}
use Rattle.fix_fields.specs.Ends.{HoldsEnds, EndsWithSoh, SeeksEnd}
use Rattle.fix_fields.specs.declared.marks.MarkedText.{MarkedText}

module _ (body : List ℕ) where
  pub holds-all : (ends : MarkedText) → ends.text.now ≡ body → ends.start ≡ 0 → HoldsEnds body 0 ends
  holds-all ends is start = record { more = []; closed = inl refl; text = is ∙ sym (append-nil body); low = omega (arith, start) }

  -- those of the text that begins with these first bytes, the last of which is SOH
  pub holds-front : (size : ℕ) (ends : MarkedText) → EndsWithSoh (take size body) → ends.text.now ≡ body → ends.start ≡ 0 → HoldsEnds (take size body) 0 ends
  holds-front size ends closed is start =
      record { more = drop size body; closed = inr closed; text = is ∙ sym (take-append-drop size body); low = omega (arith, start) }

  pub closed-front : (size : ℕ) → 0 < size → size ≤ length body → get_or body (size - 1) 0 ≡ 1 → EndsWithSoh (take size body)
  closed-front size some fits last =
      let long : length (take size body) ≡ size = length-take-le size body fits in
      let here : get_or (take size body) (length (take size body) - 1) 0 ≡ 1 =
      ap (λ (n : ℕ). get_or (take size body) (n - 1) 0) long ∙ get_or-take size body (size - 1) 0 (omega (arith, some)) ∙ last in (omega (arith, long, some), rw here refl)

  -- a byte of the body is in each text that begins with it
  passes-in : (more : List ℕ) (k : ℕ) → k < length body → IsEnd body k → IsEnd (body ++ more) k
  passes-in more k inside passes = ap (is_byte 1) (get_or_append_left body more 0 k inside) ∙ passes

  passes-back : (more : List ℕ) (k : ℕ) → k < length body → IsEnd (body ++ more) k → IsEnd body k
  passes-back more k inside passes = ap (is_byte 1) (sym (get_or_append_left body more 0 k inside)) ∙ passes

  -- from one place to another
  pub seeks : (at from : ℕ) (ends : MarkedText) → at ≤ from → HoldsEnds body at ends → (EndsWithSoh body → from < length body) → SeeksEnd body from ends
  seeks at from ends later h inside = record { more = h.more; closed = closed-at h.closed; text = h.text; low = omega (arith, h.low, later) }
    where
      closed-at : (h.more ≡ []) ⊎ EndsWithSoh body → (h.more ≡ []) ⊎ ((from < length body) × EndsWithSoh body)
      closed-at (inl none) = inl none
      closed-at (inr closed) = inr (inside closed, closed)

  closed-of : (at : ℕ) (more : List ℕ) → (more ≡ []) ⊎ ((at < length body) × EndsWithSoh body) → (more ≡ []) ⊎ EndsWithSoh body
  closed-of at more (inl none) = inl none
  closed-of at more (inr closed) = inr closed.1

  pub holds-later : (at later : ℕ) (ends : MarkedText) → at ≤ later → SeeksEnd body at ends → HoldsEnds body later ends
  holds-later at later ends behind h = record { more = h.more; closed = closed-of at h.more h.closed; text = h.text; low = omega (arith, h.low, behind) }

  -- the first one in the text is the first in the body
  module _ (at : ℕ) (more : List ℕ) (closed : (more ≡ []) ⊎ ((at < length body) × EndsWithSoh body)) where
    inside-body : (more ≡ []) ⊎ ((at < length body) × EndsWithSoh body) → (end : ℕ) → IsFirst (IsEnd (body ++ more)) at (length (body ++ more)) (Some end) → end < length body
    inside-body (inl none) end first =
        omega (arith, first.0.high, ap (λ (xs : List ℕ). length (body ++ xs)) none ∙ ap length (append-nil body))
    inside-body (inr last) end first = elim (cases_lt end (length body)) [
      | inl low ↦ low
      | inr high ↦
          absurd (first.0.before (length body - 1) (omega (arith, last.0)) (omega (arith, high, last.0)) (passes-in more (length body - 1) (omega (arith, last.0)) last.1.1))
    ]

    first-in : (r : Option ℕ) → IsFirst (IsEnd (body ++ more)) at (length (body ++ more)) r → IsFirst (IsEnd body) at (length body) r
    first-in None none = λ k low high passes. none k low (omega (arith, high, length-append body more)) (passes-in more k high passes)
    first-in (Some end) first =
        let inside = inside-body closed end first in
        (record { low = first.0.low; high = inside; before = λ k low high passes. first.0.before k low high (passes-in more k (omega (arith, high, inside)) passes) }, passes-back more end inside first.1)

  pub first-of-text : (at : ℕ) (ends : MarkedText) (r : Option ℕ) → SeeksEnd body at ends → IsFirst (IsEnd ends.text.now) at (length ends.text.now) r
      → IsFirst (IsEnd body) at (length body) r
  first-of-text at ends r h first =
      first-in at h.more h.closed r (subst (λ (t : List ℕ). IsFirst (IsEnd t) at (length t) r) h.text first)

  -- after it the others are sought
  pub left-behind : (at : ℕ) (old new : MarkedText) (r : Option ℕ) → SeeksEnd body at old → new.text.now ≡ old.text.now → IfSome r (λ end. new.start ≤ end) → IfSome r (λ end. HoldsEnds body (end + 1) new)
  left-behind at old new None h same low = tt
  left-behind at old new (Some end) h same low =
      record { more = h.more; closed = closed-of at h.more h.closed; text = same ∙ h.text; low = omega (arith, low) }

  -- the same, counted from a byte on
  module _ (from : ℕ) (low : from ≤ length body) where
    pub none-from : IsFirst (IsEnd body) from (length body) None → IsFirstByte (is_byte 1) (drop from body) None
    none-from none = λ k _ high passes.
        none (from + k) (omega arith) (omega (arith, length-drop from body, low, high)) (ap (is_byte 1) (sym (get_or-drop from body k 0)) ∙ passes)

    pub first-from : (end : ℕ) → IsFirst (IsEnd body) from (length body) (Some end) → IsFirstByte (is_byte 1) (drop from body) (Some (end - from))
    first-from end first =
        let there : from + (end - from) ≡ end = omega (arith, first.0.low) in (
          record {
            low = omega arith;
            high = omega (arith, length-drop from body, first.0.low, first.0.high);
            before = λ k _ high passes.
                first.0.before (from + k) (omega arith) (omega (arith, first.0.low, high)) (ap (is_byte 1) (sym (get_or-drop from body k 0)) ∙ passes);
          },
          ap (is_byte 1) (get_or-drop from body (end - from) 0 ∙ ap (λ (n : ℕ). get_or body n 0) there) ∙ first.1,
        )

    pub left-from : (end : ℕ) (ends : MarkedText) → from ≤ end → HoldsEnds body (end + 1) ends → HoldsEnds body (from + (end - from) + 1) ends
    left-from end ends behind h = record { more = h.more; closed = h.closed; text = h.text; low = omega (arith, h.low, behind) }
