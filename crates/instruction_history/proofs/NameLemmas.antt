-- Each key names its order: when a record ends an order of the list and places one more, and
-- so in every history.
use Rattle.std.proofs.Common.{◌≡◌, ◌<◌, ℕ, Bool, true, false, Option, None, Some, List, [], ◌∷◌, ◌++◌, length, set, refl, sym, ap, ◌∙◌, arith, subst, inl, inr, length-set, get_or-set_same, get_or-set_other}
use Rattle.std.specs.Prelude.{is_some, option_map, option_and_then, if◌then◌else◌}
use Rattle.std.specs.Option.{option_or}
use Rattle.std.proofs.lemmas.Bool.{cases_eq}
use Rattle.std.proofs.lemmas.Option.{same_Some}
use Rattle.std.proofs.lemmas.List.{get_or_append_left, get_or_at}
use Rattle.audit_base.specs.declared.names.Key.{Key}
use Rattle.audit_base.specs.declared.orders.Order.{Order}
use Rattle.audit_base.specs.declared.records.OrderRecord.{OrderRecord}
use Rattle.audit_base.specs.declared.records.OrderRecord.TheVariants.{New, Cancel, Replace}
use Rattle.audit_base.specs.Least.{least_with, only_if}
use Rattle.audit_base.specs.Orders.{order_past_end, same_key, order_at, order_with_key}
use Rattle.audit_base.specs.Histories.{key_of, is_order, target_of, order_index}
use Rattle.order_list.specs.declared.keys.SeenRecord.{SeenRecord}
use Rattle.order_list.specs.Changed.{with_ending}
use Rattle.instruction_history.specs.Draft.{finding_in_history, orders_in, seen_by_key, duplicate_evidence, with_target_ended, order_by_target, orders_with_own, seen_as}
use Rattle.instruction_history.specs.Flaws.{finding_at}
use Rattle.instruction_history.proofs.CleanLemmas.{clean-at, option_map-none}
use Rattle.instruction_history.proofs.FirstLemmas.{least_with-same, option_or-nothing}
use Rattle.audit_base.proofs.HistoryLemmas.{same_key-is}
use Rattle.instruction_history.proofs.MadeLemmas.{IsAt, standing}
use Rattle.instruction_history.proofs.OrderLemmas.{IsEnded, is-ended, target_index, orders-step}
use Rattle.instruction_history.proofs.PushLemmas.{length-push, named_in-push}
use Rattle.instruction_history.proofs.RecordLemmas.{Records}
use Rattle.instruction_history.proofs.StepLemmas.{duplicate-step, seen-step}

length-ended_among : (orders : List Order) (target : Option ℕ) (at : ℕ) → length (with_target_ended orders target at) ≡ length orders
length-ended_among orders None at = refl
length-ended_among orders (Some t) at = length-set orders t (with_ending at (order_at orders t))

-- an order that is ended keeps its key
key-ended : (orders : List Order) (target : Option ℕ) (at : ℕ) → ((t : ℕ) → target ≡ Some t → t < length orders) → (i : ℕ) → (order_at (with_target_ended orders target at) i).key ≡ (order_at orders i).key
key-ended orders None at inside i = refl
key-ended orders (Some t) at inside i = elim (cases_eq i t) [
  | inl same ↦
      let there : order_at (set orders t (with_ending at (order_at orders t))) i ≡ with_ending at (order_at orders i) = rw same (get_or-set_same orders t (with_ending at (order_at orders t)) order_past_end (inside t refl)) in
      ap (λ (o : Order). o.key) there
  | inr apart ↦ ap (λ (o : Order). o.key) (get_or-set_other orders t i (with_ending at (order_at orders t)) order_past_end apart)
]

with_key-ended : (orders : List Order) (target : Option ℕ) (at : ℕ) → ((t : ℕ) → target ≡ Some t → t < length orders) → (key : Key) → order_with_key (with_target_ended orders target at) key ≡ order_with_key orders key
with_key-ended orders target at inside key =
    least_with-same (λ i. same_key (order_at (with_target_ended orders target at) i).key key) (λ i. same_key (order_at orders i).key key) (length (with_target_ended orders target at))
    (λ i lt. ap (λ (own : Key). same_key own key) (key-ended orders target at inside i))
    ∙ ap (least_with (λ i. same_key (order_at orders i).key key)) (length-ended_among orders target at)

with_key-push : (orders : List Order) (o : Order) (key : Key) → order_with_key (orders ++ o ∷ []) key ≡ option_or (order_with_key orders key) (only_if (same_key o.key key) (length orders))
with_key-push orders o key =
    let longer : List Order = orders ++ o ∷ [] in
    let before : order_with_key orders key ≡ least_with (λ i. same_key (order_at longer i).key key) (length orders) =
    least_with-same (λ i. same_key (order_at orders i).key key) (λ i. same_key (order_at longer i).key key) (length orders)
    (λ i lt. ap (λ (x : Order). same_key x.key key) (sym (get_or_append_left orders (o ∷ []) order_past_end i lt))) in
    let last : order_at longer (length orders) ≡ o = get_or_at orders o [] order_past_end (length orders) refl in
    ap (least_with (λ i. same_key (order_at longer i).key key)) (length-push orders o)
    ∙ ap (λ (first : Option ℕ). option_or first (only_if (same_key (order_at longer (length orders)).key key) (length orders))) (sym before)
    ∙ ap (λ (x : Order). option_or (order_with_key orders key) (only_if (same_key x.key key) (length orders))) last

-- the order that a record makes has its key
key-made : (orders : List Order) (r : OrderRecord) (target : Option ℕ) (at : ℕ) (o : Order) → order_by_target orders r target at ≡ Some o → o.key ≡ key_of r
key-made orders (New key time symbol side quantity price life) target at o e = sym (ap (λ (x : Order). x.key) (same_Some _ o e))
key-made orders (Cancel key time symbol named) target at o e = absurd cc
key-made orders (Replace key time symbol named side quantity price) target at o e = sym (ap (λ (x : Order). x.key) (same_Some _ o e))

is_some-order_made : (orders : List Order) (r : OrderRecord) (target : Option ℕ) (at : ℕ) → is_some (order_by_target orders r target at) ≡ is_order r
is_some-order_made orders (New key time symbol side quantity price life) target at = refl
is_some-order_made orders (Cancel key time symbol named) target at = refl
is_some-order_made orders (Replace key time symbol named side quantity price) target at = refl

mapped-some : {A : Type 0} (f : ℕ → A) (o : Option ℕ) (a : A) → option_map f o ≡ Some a → (k : ℕ) × (o ≡ Some k) × (f k ≡ a)
mapped-some f None a e = absurd cc
mapped-some f (Some k) a e = (k, refl, same_Some (f k) a e)

-- the target of a record is an order of the list
target-inside : (h : Records) (e : ℕ × OrderRecord) → finding_in_history (h ++ e ∷ []) ≡ None → (i : ℕ) → target_index h e ≡ Some i → i < length (orders_in h)
target-inside h e clean i is =
    let known = mapped-some (order_index h) (target_of (h ++ e ∷ []) (length h)) i is in
    let ending : IsEnded h e known.0 = is-ended h e known.0 clean known.1 in
    let at : IsAt h known.0 (standing h known.0 ending.within ending.ordered).0 = (standing h known.0 ending.within ending.ordered).1 in
    subst (λ (k : ℕ). k < length (orders_in h)) known.2 at.within

-- no earlier record has the key of the record
unnamed : (h : Records) (e : ℕ × OrderRecord) → finding_in_history (h ++ e ∷ []) ≡ None → seen_by_key h (key_of e.1) ≡ None
unnamed h e clean =
    let clear = sym (duplicate-step h e) ∙ (clean-at (h ++ e ∷ []) clean (length h) (let size = length-push h e in omega arith)).duplicate in
    option_map-none _ (seen_by_key h (key_of e.1)) (option_map-none (finding_at e.0) (duplicate_evidence (seen_by_key h (key_of e.1))) clear)

-- the order that a key names with one record more
named-next : (orders : List Order) (with_ending : List Order) (r : OrderRecord) (made : Option Order) (place : ℕ) (key : Key) (seen : Option SeenRecord) (b : Bool) →
    (order_with_key with_ending key ≡ option_and_then (λ s. s.index) seen) → is_some made ≡ is_order r → ((o : Order) → made ≡ Some o → o.key ≡ key_of r) → same_key (key_of r) key ≡ b → (b ≡ true → seen ≡ None) → length with_ending ≡ length orders →
    option_and_then (λ s. s.index) (option_or seen (only_if b (seen_as r place (length orders)))) ≡ order_with_key (orders_with_own with_ending made) key
named-next orders with_ending r None place key (Some s) b named makes keys is unseen size = sym named
named-next orders with_ending r None place key None true named makes keys is unseen size = ap (λ (c : Bool). if c then Some (length orders) else None) (sym makes) ∙ sym named
named-next orders with_ending r None place key None false named makes keys is unseen size = sym named
named-next orders with_ending r (Some o) place key (Some s) true named makes keys is unseen size = let none = unseen refl in absurd cc
named-next orders with_ending r (Some o) place key (Some s) false named makes keys is unseen size =
    sym (option_or-nothing s.index)
    ∙ ap (λ (first : Option ℕ). option_or first None) (sym named)
    ∙ ap (λ (c : Bool). option_or (order_with_key with_ending key) (only_if c (length with_ending))) (sym (ap (λ (own : Key). same_key own key) (keys o refl) ∙ is))
    ∙ sym (with_key-push with_ending o key)
named-next orders with_ending r (Some o) place key None true named makes keys is unseen size =
    ap (λ (c : Bool). if c then Some (length orders) else None) (sym makes)
    ∙ ap (λ (n : ℕ). Some n) (sym size)
    ∙ ap (λ (c : Bool). option_or None (only_if c (length with_ending))) (sym (ap (λ (own : Key). same_key own key) (keys o refl) ∙ is))
    ∙ ap (λ (first : Option ℕ). option_or first (only_if (same_key o.key key) (length with_ending))) (sym named)
    ∙ sym (with_key-push with_ending o key)
named-next orders with_ending r (Some o) place key None false named makes keys is unseen size =
    ap (λ (c : Bool). option_or None (only_if c (length with_ending))) (sym (ap (λ (own : Key). same_key own key) (keys o refl) ∙ is))
    ∙ ap (λ (first : Option ℕ). option_or first (only_if (same_key o.key key) (length with_ending))) (sym named)
    ∙ sym (with_key-push with_ending o key)

-- what a key names is its order in the order list
pub record IsNamed (h : Records) : Type 0 where
  pub named : (key : Key) → option_and_then (λ s. s.index) (seen_by_key h key) ≡ order_with_key (orders_in h) key

pub named-none : IsNamed []
named-none = record { named = λ key. refl }

pub named-push : (h : Records) (e : ℕ × OrderRecord) → IsNamed h → finding_in_history (h ++ e ∷ []) ≡ None → IsNamed (h ++ e ∷ [])
named-push h e before clean = record {
  named = λ key.
      let made : Option Order = order_by_target (orders_in h) e.1 (target_index h e) e.0 in
      ap (option_and_then (λ s. s.index)) (named_in-push h e key ∙ ap (λ (s : SeenRecord). option_or (seen_by_key h key) (only_if (same_key (key_of e.1) key) s)) (seen-step h e))
      ∙ named-next (orders_in h) (with_target_ended (orders_in h) (target_index h e) e.0) e.1 made e.0 key (seen_by_key h key) (same_key (key_of e.1) key)
      (with_key-ended (orders_in h) (target_index h e) e.0 (target-inside h e clean) key ∙ sym (before.named key))
      (is_some-order_made (orders_in h) e.1 (target_index h e) e.0)
      (key-made (orders_in h) e.1 (target_index h e) e.0)
      refl
      (λ same. ap (seen_by_key h) (sym (same_key-is (key_of e.1) key same)) ∙ unnamed h e clean)
      (length-ended_among (orders_in h) (target_index h e) e.0)
      ∙ ap (λ (orders : List Order). order_with_key orders key) (sym (orders-step h e clean));
}
