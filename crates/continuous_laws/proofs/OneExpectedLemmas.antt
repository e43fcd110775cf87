-- There is one list of Expected trades: each pair's share is fixed by what is traded before the place of its later order.
use Rattle.std.proofs.Common.{◌≡◌, ◌<◌, ℕ, List, length, sym, ◌∙◌, ap, subst, arith, inl, inr}
use Rattle.std.proofs.lemmas.Bool.{cases_eq}
use Rattle.audit_base.specs.declared.orders.Order.{Order}
use Rattle.audit_base.specs.declared.orders.Deal.{Deal}
use Rattle.audit_base.specs.Orders.{place_at}
use Rattle.audit_base.specs.Continuous.{traded_before, traded_at}
use Rattle.audit_base.specs.Expected.{pair_share, resting_limit, pair_deals, IsExpectedContinuous}
use Rattle.audit_base.proofs.SumLemmas.{below-same}
use Rattle.continuous_laws.specs.Accounts.{IsInLogOrder, ranks_ahead_against, traded_with_incoming, TradesAreShares}
use Rattle.continuous_laws.proofs.BuildLemmas.{share-same}
use Rattle.continuous_laws.proofs.ExpectedLemmas.{expected-shares, same-account}
use Rattle.continuous_laws.proofs.PlaceLemmas.{number-sum}
use Rattle.continuous_laws.proofs.StepLemmas.{number-other}
use Rattle.continuous_laws.proofs.UniqueLemmas.{Agrees, agree-by, available-agrees, size-agrees}

module _ (orders : List Order) (placed : IsInLogOrder orders) (ds es : List Deal) (ds_are : IsExpectedContinuous orders ds) (es_are : IsExpectedContinuous orders es) where
  of_ds : TradesAreShares orders ds
  of_ds = expected-shares orders ds placed ds_are

  of_es : TradesAreShares orders es
  of_es = expected-shares orders es placed es_are

  numbers-agree : (n k : ℕ) → n < length orders → k < length orders → Agrees orders (traded_before orders ds) (traded_before orders es) (place_at orders n) → traded_with_incoming orders ds n k ≡ traded_with_incoming orders es n k
  numbers-agree n k hn hk A =
      of_ds.shares n k hn hk
      ∙ share-same (length orders) (ranks_ahead_against orders n) _ _ _ _ k hk
      (λ j hj. available-agrees orders placed (traded_before orders ds) (traded_before orders es) (place_at orders n) A n j hj (omega arith))
      (size-agrees orders placed (traded_before orders ds) (traded_before orders es) (place_at orders n) A n hn (omega arith))
      ∙ sym (of_es.shares n k hn hk)

  step : (n : ℕ) → n < length orders → Agrees orders (traded_before orders ds) (traded_before orders es) (place_at orders n) → (k : ℕ) → k < length orders
      → traded_at orders ds (place_at orders n) k ≡ traded_at orders es (place_at orders n) k
  step n hn A k hk = elim (cases_eq k n) [
    | inr ne ↦ sym (number-other orders ds n k ne) ∙ numbers-agree n k hn hk A ∙ number-other orders es n k ne
    | inl own ↦ subst (λ j. traded_at orders ds (place_at orders n) j ≡ traded_at orders es (place_at orders n) j) (sym own)
        (sym (number-sum orders ds placed of_ds.sound n hn) ∙ below-same (traded_with_incoming orders ds n) (traded_with_incoming orders es n) (length orders) (λ j hj. numbers-agree n j hn hj A) ∙ number-sum orders es placed of_es.sound n hn)
  ]

  account : traded_before orders ds ≡ traded_before orders es
  account = same-account orders placed ds es of_ds.sound of_es.sound
      (λ n k hn hk. numbers-agree n k hn hk (agree-by orders ds es of_ds.sound of_es.sound step (place_at orders n)))

  pub one-expected : ds ≡ es
  one-expected = ds_are ∙ ap (λ (past : ℕ → ℕ → ℕ). pair_deals orders (pair_share orders past) (resting_limit orders)) account ∙ sym es_are
