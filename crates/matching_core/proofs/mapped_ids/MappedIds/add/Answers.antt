use Rattle.std.proofs.Common.{◌≡◌, List, ℕ, Bool, true, false, [], bytes_eq, refl, sym, ◌∙◌}
use Rattle.std.specs.Prelude.{◌&&◌}
use Rattle.indexmap.specs.IndexMap.{get}
use Rattle.audit_base.specs.Orders.{same_name}
use Rattle.seeded_hash.specs.ShortPairs.{same_block, short_pair_of}
use Rattle.seeded_hash.proofs.ShortPairLemmas.{adds_short}
use Rattle.matching_core.proofs.mapped_ids.MappedIds.add.Goals as goal

same-ids : (a b : List ℕ) → same_name a b ≡ (bytes_eq a b && bytes_eq [] [])
same-ids a b = go (same_name a b)
  where
    go : (b : Bool) → b ≡ (b && true)
    go true = refl
    go false = refl

pub returns-in_ok-insert-in-Some-clause-adds : goal.returns-in_ok-insert-in-Some-clause-adds
returns-in_ok-insert-in-Some-clause-adds c =
    adds_short same_name (λ id. id) (λ id. []) same-ids (get same_block c.insert.new.self) (get same_block c.args.self.now.short) (get same_name c.args.self.now.long)
    c.args.id.now c.args.place c.in-Some.short ((λ i. short_pair_of (sym c.bytes.ensures.same i) []) ∙ sym c.of.ensures ∙ c.in-Some.is) c.in_ok-insert-in-Some.ensures.updates.0
