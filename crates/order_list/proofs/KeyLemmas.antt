-- A key more in one of the two maps.
use Rattle.std.proofs.Common.{◌≡◌, ◌<◌, ◌==◌, ◌∙◌, eqb-true, ℕ, zero, suc, Bool, true, false, Option, None, Some, List, [], ◌∷◌, ◌++◌, length, refl, sym, ap, subst, arith}
use Rattle.std.specs.Prelude.{slice_get, option_map, if◌then◌else◌}
use Rattle.std.proofs.lemmas.List.{get_or_append_left, get_or_push, length_push}
use Rattle.std.proofs.lemmas.Option.{slice_get-get_or}
use Rattle.std.specs.Map.{keys_of}
use Rattle.audit_base.specs.declared.names.Key.{Key}
use Rattle.audit_base.specs.declared.terms.Side.{Side}
use Rattle.audit_base.specs.declared.terms.Side.TheVariants.{Buy, Sell}
use Rattle.audit_base.specs.Names.{is_name}
use Rattle.seeded_hash.specs.declared.short_pairs.ShortPair.{ShortPair}
use Rattle.seeded_hash.specs.ShortPairs.{short_pair_of, first_text, second_text}
use Rattle.seeded_hash.proofs.ShortPairLemmas.{given, texts-back}
use Rattle.order_list.specs.declared.keys.Keys.{Keys}
use Rattle.order_list.specs.declared.keys.KeyNumber.{KeyNumber}
use Rattle.order_list.specs.declared.keys.SeenRecord.{SeenRecord}
use Rattle.order_list.specs.declared.kept_seen.KeptSeen.{KeptSeen}
use Rattle.order_list.specs.KeptSeen.{side_number, side_from, seen_from}
use Rattle.order_list.specs.Keys.{key_of_pair, name_from, short_key, long_key, key_in, HasNumber, AddsNumber}

-- entries with one more
stays : {X : Type 0} (xs : List X) (x : X) (i : ℕ) → i < length xs → slice_get (xs ++ x ∷ []) i ≡ slice_get xs i
stays xs x i lt =
    slice_get-get_or (xs ++ x ∷ []) i x (omega (arith, length_push xs x)) ∙ ap (λ y. Some y) (get_or_append_left xs (x ∷ []) x i lt) ∙ sym (slice_get-get_or xs i x lt)

comes : {X : Type 0} (xs : List X) (x : X) → slice_get (xs ++ x ∷ []) (length xs) ≡ Some x
comes xs x = slice_get-get_or (xs ++ x ∷ []) (length xs) x (omega (arith, length_push xs x)) ∙ ap (λ y. Some y) (get_or_push xs x x (length xs) refl)

name-back : (text : List ℕ) → is_name text ≡ true → name_from text ≡ text
name-back text e = rw e refl

-- a pair gives its key back
pair-back : (key : Key) (pair : ShortPair) → short_pair_of key.firm key.id ≡ Some pair → is_name key.firm ≡ true → is_name key.id ≡ true → key_of_pair pair ≡ key
pair-back key pair is firm id =
    let own = given key.firm key.id pair is in
    let texts = texts-back key.firm key.id own.0 in
    let one : first_text pair.block ≡ key.firm = ap (λ (p : ShortPair). first_text p.block) (sym own.1) ∙ texts.0 in
    let two : second_text pair.block ≡ key.id = ap (λ (p : ShortPair). second_text p.block) (sym own.1) ∙ texts.1 in
    λ i. record { firm = (ap name_from one ∙ name-back key.firm firm) i; id = (ap name_from two ∙ name-back key.id id) i }

-- what is kept of a key more, as what it says
pub seen-put : (own : Bool) (kept : KeptSeen) (seen : SeenRecord) (before : Option KeptSeen) → seen_from kept ≡ seen
    → option_map seen_from (if own then Some kept else before) ≡ (if own then Some seen else option_map seen_from before)
seen-put true kept seen before is = ap (λ (s : SeenRecord). Some s) is
seen-put false kept seen before is = refl

pub seen-none : (kept : Option KeptSeen) → option_map seen_from kept ≡ None → kept ≡ None
seen-none None e = refl
seen-none (Some kept) e = cc

pub side-back : (side : Option Side) → side_from (side_number side) ≡ side
side-back None = refl
side-back (Some Buy) = refl
side-back (Some Sell) = refl

-- no pairs are listed where a test says so
pub none-listed : (pairs : List ShortPair) (count : ℕ) (empty : Bool) → count ≡ length pairs → empty ≡ (count == 0) → empty ≡ true → pairs ≡ []
none-listed [] count empty size is e = refl
none-listed (pair ∷ pairs) count empty size is e = let none : count ≡ 0 = eqb-true count 0 (sym is ∙ e) in absurd (omega (arith, size, none))

-- the keys of a map that are listed
listed-at : (entries : List (ShortPair × KeptSeen)) (i : ℕ) → short_key (slice_get (keys_of entries) i) None ≡ short_key None (slice_get entries i)
listed-at [] i = refl
listed-at (e ∷ es) zero = refl
listed-at (e ∷ es) (suc i) = listed-at es i

-- the keys are listed, and the map is empty
pub listed-same : (old new : Keys) → old.listed.items ≡ [] → new.short.entries ≡ [] → new.listed.items ≡ keys_of old.short.entries → new.long ≡ old.long
    → (number : KeyNumber) → key_in new number ≡ key_in old number
listed-same old new none empty listed long number = go number.index number.is_short
  where
    go : (index : ℕ) (short : Bool) → key_in new (record { index = index; is_short = short }) ≡ key_in old (record { index = index; is_short = short })
    go index true =
        ap (λ (es : List (ShortPair × KeptSeen)). short_key (slice_get new.listed.items index) (slice_get es index)) empty
        ∙ ap (λ (pairs : List ShortPair). short_key (slice_get pairs index) None) listed
        ∙ listed-at old.short.entries index
        ∙ ap (λ (pairs : List ShortPair). short_key (slice_get pairs index) (slice_get old.short.entries index)) (sym none)
    go index false = ap (λ m. long_key (slice_get m.entries index)) long

module _ (old new : Keys) where
  pub adds-short : (key : Key) (pair : ShortPair) (seen : KeptSeen) → short_pair_of key.firm key.id ≡ Some pair → is_name key.firm ≡ true → is_name key.id ≡ true
      → new.short.entries ≡ old.short.entries ++ (pair, seen) ∷ [] → new.long ≡ old.long → new.listed ≡ old.listed → AddsNumber old new key (record { index = length old.short.entries; is_short = true })
  adds-short key pair seen is firm id more same listed = record {
    has = record {
      inside = omega (arith, ap length more, length_push old.short.entries (pair, seen));
      is = ap (λ (es : List (ShortPair × KeptSeen)). short_key (slice_get new.listed.items (length old.short.entries)) (slice_get es (length old.short.entries))) more
          ∙ ap (short_key (slice_get new.listed.items (length old.short.entries))) (comes old.short.entries (pair, seen)) ∙ pair-back key pair is firm id;
    };
    keeps = λ number. kept number.index number.is_short;
  }
    where
      kept : (index : ℕ) (short : Bool) → index < (if short then length old.short.entries else length old.long.entries)
          → HasNumber new (key_in old (record { index = index; is_short = short })) (record { index = index; is_short = short })
      kept index true lt = record {
        inside = omega (arith, lt, ap length more, length_push old.short.entries (pair, seen));
        is = ap (λ (es : List (ShortPair × KeptSeen)). short_key (slice_get new.listed.items index) (slice_get es index)) more
            ∙ ap (short_key (slice_get new.listed.items index)) (stays old.short.entries (pair, seen) index lt)
            ∙ ap (λ v. short_key (slice_get v.items index) (slice_get old.short.entries index)) listed;
      }
      kept index false lt = record {
        inside = subst (λ m. index < length m.entries) (sym same) lt;
        is = ap (λ m. long_key (slice_get m.entries index)) same;
      }

  pub adds-long : (key : Key) (seen : KeptSeen) → new.long.entries ≡ old.long.entries ++ (key, seen) ∷ [] → new.short ≡ old.short → new.listed ≡ old.listed
      → AddsNumber old new key (record { index = length old.long.entries; is_short = false })
  adds-long key seen more same listed = record {
    has = record {
      inside = omega (arith, ap length more, length_push old.long.entries (key, seen));
      is = ap (λ (es : List (Key × KeptSeen)). long_key (slice_get es (length old.long.entries))) more ∙ ap long_key (comes old.long.entries (key, seen));
    };
    keeps = λ number. kept number.index number.is_short;
  }
    where
      kept : (index : ℕ) (short : Bool) → index < (if short then length old.short.entries else length old.long.entries)
          → HasNumber new (key_in old (record { index = index; is_short = short })) (record { index = index; is_short = short })
      kept index false lt = record {
        inside = omega (arith, lt, ap length more, length_push old.long.entries (key, seen));
        is = ap (λ (es : List (Key × KeptSeen)). long_key (slice_get es index)) more ∙ ap long_key (stays old.long.entries (key, seen) index lt);
      }
      kept index true lt = record {
        inside = subst (λ m. index < length m.entries) (sym same) lt;
        is = ap (λ m. short_key (slice_get new.listed.items index) (slice_get m.entries index)) same ∙ ap (λ v. short_key (slice_get v.items index) (slice_get old.short.entries index)) listed;
      }
