-- From what the shares trade with each pair to the share of each pair.
use Rattle.std.proofs.Common.{◌≡◌, ◌<◌, ℕ, List, [], ◌∷◌, refl, sym, ◌∙◌, arith, inl, inr, subst, All, AllPairs, get_or, sum_by, Result, Ok, Err}
use Rattle.std.specs.Prelude.{◌==◌, ◌&&◌, Contains, IfOk}
use Rattle.std.proofs.lemmas.Bool.{cases_Bool, and_parts, and_from, and_left, and_right, eqb-true, eq-eqb, ne_eqb, cond-true, cond-false}
use Rattle.std.proofs.lemmas.List.Elements.{All-nil, All-cons}
use Rattle.std.proofs.lemmas.List.Sums.{sum_by-cons}
use Rattle.audit_base.specs.declared.orders.Deal.{Deal}
use Rattle.audit_base.proofs.SumLemmas.{sum_by-none, AllPairs-head, AllPairs-tail, Contains-front, Contains-behind}
use Rattle.canonical_form.specs.declared.parts.DealPart.{DealPart}
use Rattle.canonical_form.specs.declared.shares.Share.{Share}
use Rattle.canonical_form.specs.Parts.{AreMergedShares, AreParts, share_of_pair}
use Rattle.canonical_form.specs.Shares.{AreShares, ShareBefore}

pub if_ok-weaker : {T E : Type 0} (r : Result T E) (P Q : T → Type 0) → ((t : T) → P t → Q t) → IfOk r P → IfOk r Q
if_ok-weaker (Ok t) P Q f h = f t h
if_ok-weaker (Err e) P Q f h = h

-- a share adds its quantity to its own pair, and nothing to that of one before or after it
own-pair : (s : Share) → share_of_pair s.bid s.ask s ≡ s.quantity
own-pair s = cond-true ((s.bid == s.bid) && (s.ask == s.ask)) s.quantity 0 (and_from _ _ (eq-eqb s.bid s.bid refl) (eq-eqb s.ask s.ask refl))

behind-none : (s t : Share) → ShareBefore s t → share_of_pair s.bid s.ask t ≡ 0
behind-none s t (inl less) = cond-false ((t.bid == s.bid) && (t.ask == s.ask)) t.quantity 0 (and_left _ _ (ne_eqb t.bid s.bid (λ e. absurd (omega arith))))
behind-none s t (inr same) = let less = same.1 in cond-false ((t.bid == s.bid) && (t.ask == s.ask)) t.quantity 0 (and_right _ _ (ne_eqb t.ask s.ask (λ e. absurd (omega arith))))

before-none : (s t : Share) → ShareBefore s t → share_of_pair t.bid t.ask s ≡ 0
before-none s t (inl less) = cond-false ((s.bid == t.bid) && (s.ask == t.ask)) s.quantity 0 (and_left _ _ (ne_eqb s.bid t.bid (λ e. absurd (omega arith))))
before-none s t (inr same) = let less = same.1 in cond-false ((s.bid == t.bid) && (s.ask == t.ask)) s.quantity 0 (and_right _ _ (ne_eqb s.ask t.ask (λ e. absurd (omega arith))))

rest-none : (s : Share) (xs : List Share) → All (ShareBefore s) xs → sum_by (share_of_pair s.bid s.ask) xs ≡ 0
rest-none s xs behind = sum_by-none (share_of_pair s.bid s.ask) xs (λ k d lt. behind-none s (get_or xs k d) (behind k d lt))

-- each share is all that its pair has
own-sums : (xs : List Share) → AllPairs ShareBefore xs → All (λ s. sum_by (share_of_pair s.bid s.ask) xs ≡ s.quantity) xs
own-sums [] up = All-nil (λ (s : Share). sum_by (share_of_pair s.bid s.ask) [] ≡ s.quantity)
own-sums (x ∷ xs) up =
    let behind = AllPairs-head ShareBefore x xs up in
    let rest = own-sums xs (AllPairs-tail ShareBefore x xs up) in
    All-cons (λ (s : Share). sum_by (share_of_pair s.bid s.ask) (x ∷ xs) ≡ s.quantity) x xs
    (omega (arith, sum_by-cons (share_of_pair x.bid x.ask) x xs, own-pair x, rest-none x xs behind))
    (λ k d lt. let s = get_or xs k d in omega (arith, sum_by-cons (share_of_pair s.bid s.ask) x xs, before-none x s (behind k d lt), rest k d lt))

-- a pair that has something has a share
has-share : (bid ask : ℕ) (xs : List Share) → AllPairs ShareBefore xs → 0 < sum_by (share_of_pair bid ask) xs → Contains xs (record { bid = bid; ask = ask; quantity = sum_by (share_of_pair bid ask) xs })
has-share bid ask [] up some = absurd (omega arith)
has-share bid ask (x ∷ xs) up some =
    let both = sum_by-cons (share_of_pair bid ask) x xs in
    elim (cases_Bool ((x.bid == bid) && (x.ask == ask))) [
      | inl t ↦
          let two = and_parts (x.bid == bid) (x.ask == ask) t in
          let b : x.bid ≡ bid = eqb-true x.bid bid two.0 in
          let a : x.ask ≡ ask = eqb-true x.ask ask two.1 in
          let here : share_of_pair bid ask x ≡ x.quantity = cond-true _ x.quantity 0 t in
          let none : sum_by (share_of_pair bid ask) xs ≡ 0 = (λ i. sum_by (share_of_pair (sym b i) (sym a i)) xs) ∙ rest-none x xs (AllPairs-head ShareBefore x xs up) in
          let q : x.quantity ≡ sum_by (share_of_pair bid ask) (x ∷ xs) = omega arith in
          let is : x ≡ record { bid = bid; ask = ask; quantity = sum_by (share_of_pair bid ask) (x ∷ xs) } = (λ i. record { bid = b i; ask = a i; quantity = q i }) in
          subst (Contains (x ∷ xs)) is (Contains-front x xs)
      | inr f ↦
          let none : share_of_pair bid ask x ≡ 0 = cond-false _ x.quantity 0 f in
          let q : sum_by (share_of_pair bid ask) xs ≡ sum_by (share_of_pair bid ask) (x ∷ xs) = omega arith in
          subst (λ (n : ℕ). Contains (x ∷ xs) (record { bid = bid; ask = ask; quantity = n })) q
          (Contains-behind x xs _ (has-share bid ask xs (AllPairs-tail ShareBefore x xs up) (omega arith)))
    ]

pub are-shares : (deals : List Deal) (parts : List DealPart) (shares : List Share) → AreParts deals parts → AreMergedShares parts shares → AreShares deals shares
are-shares deals parts shares are merged =
    let total = λ (bid ask : ℕ). merged.sums bid ask ∙ are bid ask in
    record {
      quantities = λ k d lt. let s = get_or shares k d in sym (own-sums shares merged.ascending k d lt) ∙ total s.bid s.ask;
      positive = merged.positive;
      complete = λ bid ask some. subst (λ (n : ℕ). Contains shares (record { bid = bid; ask = ask; quantity = n })) (total bid ask)
          (has-share bid ask shares merged.ascending (let t = total bid ask in omega arith));
      ascending = merged.ascending;
    }
