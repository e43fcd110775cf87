-- Orders as they are kept, beside a table of keys.
use Rattle.std.proofs.Common.{◌≡◌, ◌<◌, ◌∙◌, ℕ, Option, List, [], ◌∷◌, ◌++◌, length, get_or, refl, sym, ap, subst}
use Rattle.std.specs.Prelude.{slice_set}
use Rattle.std.proofs.lemmas.List.{get_or-map, map-append, map-set}
use Rattle.std.proofs.lemmas.List.Elements.{All-head, All-tail, All-weaker, All-set, All-push}
use Rattle.audit_base.specs.declared.names.Key.{Key}
use Rattle.audit_base.specs.declared.orders.Order.{Order}
use Rattle.audit_base.specs.Orders.{order_at, order_past_end}
use Rattle.order_list.specs.declared.keys.Keys.{Keys}
use Rattle.order_list.specs.declared.keys.KeyNumber.{KeyNumber}
use Rattle.order_list.specs.declared.stored.StoredOrder.{StoredOrder}
use Rattle.order_list.specs.Changed.{with_terms, with_ending}
use Rattle.order_list.specs.Keys.{key_in, IsNumbered, HasNumber}
use Rattle.order_list.specs.Stored.{number_of, order_of_stored_and_key, order_of, orders_of, AreKeysNumbered}

-- the order at an index is that of what is kept there
pub stored-at : (keys : Keys) (stored : List StoredOrder) (i : ℕ) (s : StoredOrder) → i < length stored → s ≡ get_or stored i s → order_at (orders_of keys stored) i ≡ order_of keys s
stored-at keys stored i s lt is = get_or-map (order_of keys) stored i s order_past_end lt ∙ ap (order_of keys) (sym is)

-- one order more at the end
pub stored-push : (keys : Keys) (stored : List StoredOrder) (s : StoredOrder) → orders_of keys (stored ++ s ∷ []) ≡ orders_of keys stored ++ order_of keys s ∷ []
stored-push keys stored s = map-append (order_of keys) stored (s ∷ [])

-- an order of other terms, added
pub changed-more : (keys : Keys) (source orders more : List StoredOrder) (i : ℕ) (s t : StoredOrder) (quantity : ℕ) (cancelled target : Option ℕ) → i < length source → s ≡ get_or source i s
    → number_of t ≡ number_of s → ((key : Key) → order_of_stored_and_key key t ≡ with_terms quantity cancelled target (order_of_stored_and_key key s)) → more ≡ orders ++ t ∷ []
    → orders_of keys more ≡ orders_of keys orders ++ with_terms quantity cancelled target (order_at (orders_of keys source) i) ∷ []
changed-more keys source orders more i s t quantity cancelled target lt is number order pushed =
    let terms : Order → Order = with_terms quantity cancelled target in
    let own : order_of keys t ≡ terms (order_of keys s) = order (key_in keys (number_of t)) ∙ ap (λ (n : KeyNumber). terms (order_of_stored_and_key (key_in keys n) s)) number in
    ap (orders_of keys) pushed ∙ stored-push keys orders t
    ∙ ap (λ (o : Order). orders_of keys orders ++ o ∷ []) (own ∙ ap terms (sym (stored-at keys source i s lt is)))

-- the orders stay where each number is still that of its key
pub stored-kept : (old new : Keys) (stored : List StoredOrder) → ((number : KeyNumber) → IsNumbered old number → HasNumber new (key_in old number) number) → AreKeysNumbered old stored
    → orders_of new stored ≡ orders_of old stored
stored-kept old new [] keeps are = refl
stored-kept old new (s ∷ rest) keeps are =
    let own : order_of new s ≡ order_of old s = ap (λ (key : Key). order_of_stored_and_key key s) (keeps (number_of s) (All-head (λ t. IsNumbered old (number_of t)) s rest are)).is in
    let others : orders_of new rest ≡ orders_of old rest = stored-kept old new rest keeps (All-tail (λ t. IsNumbered old (number_of t)) s rest are) in
    λ i. own i ∷ others i

pub numbered-kept : (old new : Keys) (stored : List StoredOrder) → ((number : KeyNumber) → IsNumbered old number → HasNumber new (key_in old number) number) → AreKeysNumbered old stored
    → AreKeysNumbered new stored
numbered-kept old new stored keeps are =
    All-weaker (λ t. IsNumbered old (number_of t)) (λ t. IsNumbered new (number_of t)) (λ t is. (keeps (number_of t) is).inside) stored are

-- the orders beside two tables in which each number is that of the same key
pub stored-same : (old new : Keys) (stored : List StoredOrder) → ((number : KeyNumber) → key_in new number ≡ key_in old number) → orders_of new stored ≡ orders_of old stored
stored-same old new [] same = refl
stored-same old new (s ∷ rest) same =
    let own : order_of new s ≡ order_of old s = ap (λ (key : Key). order_of_stored_and_key key s) (same (number_of s)) in
    let others : orders_of new rest ≡ orders_of old rest = stored-same old new rest same in
    λ i. own i ∷ others i

-- an order that a record ends
pub stored-end : (keys : Keys) (stored more : List StoredOrder) (i place : ℕ) (s t : StoredOrder) → i < length stored → s ≡ get_or stored i s → number_of t ≡ number_of s
    → ((key : Key) → order_of_stored_and_key key t ≡ with_ending place (order_of_stored_and_key key s)) → more ≡ slice_set stored i t
    → orders_of keys more ≡ slice_set (orders_of keys stored) i (with_ending place (order_at (orders_of keys stored) i))
stored-end keys stored more i place s t lt is number order set =
    let own : order_of keys t ≡ with_ending place (order_of keys s) = order (key_in keys (number_of t)) ∙ ap (λ (n : KeyNumber). with_ending place (order_of_stored_and_key (key_in keys n) s)) number in
    ap (orders_of keys) set ∙ map-set (order_of keys) stored i t
    ∙ ap (λ (o : Order). slice_set (orders_of keys stored) i o) (own ∙ ap (with_ending place) (sym (stored-at keys stored i s lt is)))

pub numbered-end : (keys : Keys) (stored more : List StoredOrder) (i : ℕ) (s t : StoredOrder) → i < length stored → s ≡ get_or stored i s → number_of t ≡ number_of s → more ≡ slice_set stored i t
    → AreKeysNumbered keys stored → AreKeysNumbered keys more
numbered-end keys stored more i s t lt is number set are =
    let own : IsNumbered keys (number_of s) = subst (λ (x : StoredOrder). IsNumbered keys (number_of x)) (sym is) (are i s lt) in
    subst (AreKeysNumbered keys) (sym set) (All-set (λ x. IsNumbered keys (number_of x)) stored i t (subst (IsNumbered keys) (sym number) own) are)

-- an order more
pub numbered-push : (keys : Keys) (stored more : List StoredOrder) (t : StoredOrder) (number : KeyNumber) → number_of t ≡ number → IsNumbered keys number → more ≡ stored ++ t ∷ []
    → AreKeysNumbered keys stored → AreKeysNumbered keys more
numbered-push keys stored more t number own numbered pushed are =
    subst (AreKeysNumbered keys) (sym pushed) (All-push (λ x. IsNumbered keys (number_of x)) stored t are (subst (IsNumbered keys) (sym own) numbered))

pub stored-more : (keys : Keys) (stored more : List StoredOrder) (t : StoredOrder) (number : KeyNumber) (made : Key → Order) → number_of t ≡ number → ((key : Key) → order_of_stored_and_key key t ≡ made key) → more ≡ stored ++ t ∷ []
    → orders_of keys more ≡ orders_of keys stored ++ made (key_in keys number) ∷ []
stored-more keys stored more t number made own order pushed =
    ap (orders_of keys) pushed ∙ stored-push keys stored t
    ∙ ap (λ (o : Order). orders_of keys stored ++ o ∷ []) (order (key_in keys (number_of t)) ∙ ap (λ (n : KeyNumber). made (key_in keys n)) own)
