use Rattle.std.proofs.Common.{◌≡◌, refl, sym, ap, subst, ◌∙◌, true, false}
use Rattle.indexmap.specs.IndexMap.{get}
use Rattle.indexmap.proofs.CallerLemmas.{insert_entry-new}
use Rattle.audit_base.specs.declared.names.Key.{Key}
use Rattle.audit_base.specs.Orders.{same_key}
use Rattle.seeded_hash.specs.ShortPairs.{same_block, short_pair_of}
use Rattle.seeded_hash.proofs.ShortPairLemmas.{adds_short}
use Rattle.order_list.specs.declared.keys.KeyNumber.{KeyNumber}
use Rattle.order_list.specs.Keys.{AddsNumber}
use Rattle.order_list.proofs.KeyLemmas.{adds-short, adds-long}
use Rattle.order_list.proofs.keys.Keys.put.Goals as goal

pub returns-in_ok-earlier-in-Some-clause-puts : goal.returns-in_ok-earlier-in-Some-clause-puts
returns-in_ok-earlier-in-Some-clause-puts c =
    adds_short same_key (λ (k : Key). k.firm) (λ (k : Key). k.id) (λ k q. refl) (get same_block c.insert.new.self) (get same_block c.args.self.now.short) (get same_key c.args.self.now.long)
    c.args.key.now c.args.kept c.in-Some.short ((λ i. short_pair_of (sym c.bytes.ensures.same i) (sym c.bytes-2.ensures.same i)) ∙ sym c.of.ensures ∙ c.in-Some.is) c.in_ok-earlier-in-Some.ensures.updates.0

pub returns-in_ok-earlier-in-Some-clause-number : goal.returns-in_ok-earlier-in-Some-clause-number
returns-in_ok-earlier-in-Some-clause-number c = λ none.
    let key = c.args.key.now in
    let is : short_pair_of key.firm key.id ≡ _ = (λ i. short_pair_of (sym c.bytes.ensures.same i) (sym c.bytes-2.ensures.same i)) ∙ sym c.of.ensures ∙ c.in-Some.is in
    let unseen = sym c.in_ok-earlier-in-Some.ensures.old ∙ none in
    let more = c.in_ok-earlier-in-Some.ensures.entries ∙ insert_entry-new same_block c.args.self.now.short c.in-Some.short c.args.kept unseen in
    let number = sym (c.short_number-number.ensures ∙ ap (λ n. record { index = n; is_short = true }) (c.in_ok-kept_index-in-Some.ensures ∙ c.len.ensures.len)) in
    subst (λ (n : KeyNumber). AddsNumber c.args.self.now (record { short = c.insert.new.self; long = c.args.self.now.long; listed = c.args.self.now.listed }) key n) number
    (adds-short c.args.self.now (record { short = c.insert.new.self; long = c.args.self.now.long; listed = c.args.self.now.listed }) key c.in-Some.short c.args.kept is c.bytes.ensures.in_form c.bytes-2.ensures.in_form more refl refl)

pub returns-in_ok-earlier-in-None-clause-number : goal.returns-in_ok-earlier-in-None-clause-number
returns-in_ok-earlier-in-None-clause-number c = λ none.
    let key = c.args.key.now in
    let unseen = sym c.in_ok-earlier-in-None.ensures.old ∙ none in
    let more = c.in_ok-earlier-in-None.ensures.entries ∙ insert_entry-new same_key c.args.self.now.long key c.args.kept unseen in
    let number = sym (c.long_number-number.ensures ∙ ap (λ n. record { index = n; is_short = false }) (c.in_ok-kept_index-in-None.ensures ∙ c.len-in-None.ensures.len)) in
    subst (λ (n : KeyNumber). AddsNumber c.args.self.now (record { short = c.args.self.now.short; long = c.insert-in-None.new.self; listed = c.args.self.now.listed }) key n) number
    (adds-long c.args.self.now (record { short = c.args.self.now.short; long = c.insert-in-None.new.self; listed = c.args.self.now.listed }) key c.args.kept more refl refl)
