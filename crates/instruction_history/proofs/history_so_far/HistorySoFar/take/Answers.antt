use Rattle.std.proofs.Common.{◌≡◌, ℕ, List, None, ap, arith, sym, ◌∙◌, subst, length}
use Rattle.audit_base.specs.declared.orders.Order.{Order}
use Rattle.audit_base.specs.Histories.{key_of}
use Rattle.instruction_history.specs.Draft.{seen_as, target_among}
use Rattle.order_list.specs.declared.keys.SeenRecord.{SeenRecord}
use Rattle.order_list.specs.Keys.{record_seen_in, AddsKey, HasNumber}
use Rattle.instruction_history.proofs.SoFarLemmas.{target_by, clear-unseen, draft-found, draft-takes}
use Rattle.instruction_history.proofs.history_so_far.HistorySoFar.take.Goals as goal

pub returns-in-Some-clause-knows : goal.returns-in-Some-clause-knows
returns-in-Some-clause-knows c =
    let by : c.target_of-target.result ≡ target_by c.args.self.now c.args.entry.now = c.target_of-target.ensures.value ∙ ap (λ (orders : List Order). target_among orders (record_seen_in c.args.self.now.keys) c.args.entry.now) c.list.ensures.same in
    λ h is.
    draft-found h c.args.self.now c.args.place c.args.entry.now c.target_of-target.result c.key.result.now c.in_ok-added.added.earlier c.in-Some.evidence is by c.key.ensures c.in_ok-added.ensures.earlier c.in-Some.ensures.first

pub returns-clause-knows : goal.returns-clause-knows
returns-clause-knows c =
    let by : c.target_of-target.result ≡ target_by c.args.self.now c.args.entry.now = c.target_of-target.ensures.value ∙ ap (λ (orders : List Order). target_among orders (record_seen_in c.args.self.now.keys) c.args.entry.now) c.list.ensures.same in
    let size : c.len.result ≡ length c.args.self.now.orders.items = omega (arith, c.len.ensures, c.args.self.now.orders.ok.0) in
    let clear = sym c.in_default.is ∙ c.record_evidence.ensures.first in
    let unseen : c.in_ok-added.added.earlier ≡ None = clear-unseen c.in_ok-added.added.earlier c.args.self.now.last c.args.entry.now c.target_of-target.result clear in
    let number = c.in_ok-added.ensures.number unseen in
    let has : HasNumber c.add.new.self (key_of c.args.entry.now) c.in_ok-added.added.number = record { inside = number.has.inside; is = number.has.is ∙ c.key.ensures } in
    λ h is.
    draft-takes h c.args.self.now c.add-2.new.self c.add.new.self c.args.place c.args.entry.now c.target_of-target.result c.key.result.now c.in_ok-added.added.earlier c.in_ok-added.added.number is by c.key.ensures c.in_ok-added.ensures.earlier clear number
    (subst (λ (s : SeenRecord). AddsKey c.args.self.now.keys c.add.new.self c.key.result.now s) (c.seen_as-seen.ensures ∙ ap (λ (n : ℕ). seen_as c.args.entry.now c.args.place n) size) c.in_ok-added.ensures.adds) (c.in_ok-add.ensures has)
