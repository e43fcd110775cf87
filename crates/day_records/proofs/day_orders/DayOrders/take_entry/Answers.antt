use Rattle.std.proofs.Common.{◌≡◌, ◌+◌, ◌++◌, ◌∷◌, [], ℕ, List, Some, false, length, length-append, refl, sym, ap, ◌∙◌, arith}
use Rattle.std.specs.Prelude.{map, slice_get}
use Rattle.std.proofs.lemmas.Result.{on_ok_weaker}
use Rattle.std.proofs.lemmas.Option.{slice_get_read}
use Rattle.audit_base.specs.Histories.{symbol_of}
use Rattle.day_symbols.specs.Shares.{DayShare, is_in_share}
use Rattle.day_symbols.specs.Symbols.{distinct_names}
use Rattle.day_records.proofs.DayOrderLemmas.{has-taken, is-own, met-inside, outside-more, symbols-more}
use Rattle.day_records.proofs.day_orders.DayOrders.take_entry.Goals as goal

pub returns-then-not-has : goal.returns-then-not-has
returns-then-not-has g c = λ entries has.
    let own : List ℕ = symbol_of c.args.entry.now in
    let met : c.meet.new.self ≡ distinct_names (map symbol_of entries ++ own ∷ []) =
    c.in_ok-index.ensures.meets (map symbol_of entries) has.symbols_are ∙ ap (λ (s : List ℕ). distinct_names (map symbol_of entries ++ s ∷ [])) c.symbol-symbol.ensures in
    let got : slice_get (distinct_names (map symbol_of entries ++ own ∷ [])) c.in_ok-index.index ≡ Some own =
    ap (λ (s : List (List ℕ)). slice_get s c.in_ok-index.index) (sym met) ∙ c.in_ok-index.ensures.index ∙ ap (λ (s : List ℕ). Some s) c.symbol-symbol.ensures in
    let outside : is_in_share g.D.ShareGhost.share c.in_ok-index.index ≡ false =
    ap (λ (share : DayShare). is_in_share share c.in_ok-index.index) (sym has.shared) ∙ sym c.has.ensures ∙ c.if-not-has.true in
    record {
      shared = has.shared;
      count = ap (λ (n : ℕ). n + 1) has.count ∙ sym (length-append entries (c.args.entry.now ∷ []));
      symbols_are = met ∙ sym (symbols-more entries c.args.entry.now);
      histories_are = outside-more g.D.ShareGhost.share c.args.self.now.kept.items entries c.args.entry.now c.in_ok-index.index got outside has.histories_are;
    }

pub index_mut-requires : goal.index_mut-requires
index_mut-requires g c =
    let has = c.requires.has in
    let met = met-inside g.D.ShareGhost.share c.args.self.now.share c.args.self.now.kept.items c.make_room.new.self.kept.items c.requires.entries c.args.entry.now c.args.self.now.symbols c.meet.new.self c.symbol-symbol.result.now c.in_ok-index.index c.index_in_share-share_index.result
    has.shared has.symbols_are c.in_ok-index.ensures.meets c.symbol-symbol.ensures c.in_ok-index.ensures.index (sym c.has.ensures ∙ c.if-not-has.false) c.index_in_share-share_index.ensures c.in_ok-make_room.ensures.room has.histories_are in
    omega (arith, met.within, c.make_room.new.self.kept.ok.0)

pub push-requires : goal.push-requires
push-requires g c =
    let has = c.requires.has in
    let met = met-inside g.D.ShareGhost.share c.args.self.now.share c.args.self.now.kept.items c.make_room.new.self.kept.items c.requires.entries c.args.entry.now c.args.self.now.symbols c.meet.new.self c.symbol-symbol.result.now c.in_ok-index.index c.index_in_share-share_index.result
    has.shared has.symbols_are c.in_ok-index.ensures.meets c.symbol-symbol.ensures c.in_ok-index.ensures.index (sym c.has.ensures ∙ c.if-not-has.false) c.index_in_share-share_index.ensures c.in_ok-make_room.ensures.room has.histories_are in
    let there : slice_get c.make_room.new.self.kept.items c.index_in_share-share_index.result ≡ Some c.index_mut.result.now =
    slice_get_read c.make_room.new.self.kept.items (length c.make_room.new.self.kept.items) c.index_in_share-share_index.result c.index_mut.result.now refl met.within c.index_mut.ensures.value in
    is-own g.D.ShareGhost.share c.requires.entries c.args.entry.now c.make_room.new.self.kept.items c.in_ok-index.index c.index_in_share-share_index.result c.index_mut.result.now met there

pub returns : goal.returns
returns g c = on_ok_weaker c.push.result
    (λ takes entries has.
    let met = met-inside g.D.ShareGhost.share c.args.self.now.share c.args.self.now.kept.items c.make_room.new.self.kept.items entries c.args.entry.now c.args.self.now.symbols c.meet.new.self c.symbol-symbol.result.now c.in_ok-index.index c.index_in_share-share_index.result
    has.shared has.symbols_are c.in_ok-index.ensures.meets c.symbol-symbol.ensures c.in_ok-index.ensures.index (sym c.has.ensures ∙ c.if-not-has.false) c.index_in_share-share_index.ensures c.in_ok-make_room.ensures.room has.histories_are in
    let there : slice_get c.make_room.new.self.kept.items c.index_in_share-share_index.result ≡ Some c.index_mut.result.now =
    slice_get_read c.make_room.new.self.kept.items (length c.make_room.new.self.kept.items) c.index_in_share-share_index.result c.index_mut.result.now refl met.within c.index_mut.ensures.value in
    let only = c.make_room.ensures.only in
    let counted : c.make_room.new.self.count ≡ length entries + 1 = only.count ∙ ap (λ (n : ℕ). n + 1) has.count in
    record {
      shared = only.shared ∙ has.shared;
      count = counted ∙ sym (length-append entries (c.args.entry.now ∷ []));
      symbols_are = only.symbols_are ∙ c.in_ok-index.ensures.meets (map symbol_of entries) has.symbols_are ∙ ap (λ (s : List ℕ). distinct_names (map symbol_of entries ++ s ∷ [])) c.symbol-symbol.ensures ∙ sym (symbols-more entries c.args.entry.now);
      histories_are = has-taken g.D.ShareGhost.share entries c.args.entry.now c.make_room.new.self.kept.items c.in_ok-index.index c.index_in_share-share_index.result c.make_room.new.self.count c.index_mut.result.now c.push.new.self met there counted takes;
    })
    c.push.ensures
