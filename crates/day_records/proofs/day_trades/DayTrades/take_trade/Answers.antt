use Rattle.std.proofs.Common.{◌≡◌, ◌+◌, ◌++◌, ◌∷◌, [], ℕ, List, Some, false, length, length-append, refl, sym, ap, ◌∙◌, arith}
use Rattle.std.specs.Prelude.{slice_get}
use Rattle.std.proofs.lemmas.Result.{on_ok_weaker}
use Rattle.std.proofs.lemmas.Option.{slice_get_read}
use Rattle.day_symbols.specs.Shares.{DayShare, is_in_share}
use Rattle.day_symbols.specs.Symbols.{distinct_names, symbols_of_logs}
use Rattle.day_records.proofs.DayTradesLemmas.{has-taken, is-own, met-inside, outside-more, traded-more}
use Rattle.day_records.proofs.day_trades.DayTrades.take_trade.Goals as goal

pub returns-then-not-has : goal.returns-then-not-has
returns-then-not-has g c = λ trades known. record {
  entries = known.entries;
  has = known.has;
  after_each = λ entries may.
      let has = known.after_each entries may in
      let own : List ℕ = c.args.trade.now.symbol in
      let before : List (List ℕ) = symbols_of_logs entries trades in
      let met : c.meet.new.self ≡ distinct_names (before ++ own ∷ []) = c.in_ok-index.ensures.meets before has.symbols_are in
      let got : slice_get (distinct_names (before ++ own ∷ [])) c.in_ok-index.index ≡ Some own =
      ap (λ (s : List (List ℕ)). slice_get s c.in_ok-index.index) (sym met) ∙ c.in_ok-index.ensures.index in
      let outside : is_in_share g.M.DayGhost.share c.in_ok-index.index ≡ false =
      ap (λ (share : DayShare). is_in_share share c.in_ok-index.index) (sym has.shared) ∙ sym c.has.ensures ∙ c.if-not-has.true in
      record {
        shared = has.shared;
        admits = has.admits;
        count = ap (λ (n : ℕ). n + 1) has.count ∙ sym (length-append trades (c.args.trade.now ∷ []));
        symbols_are = met ∙ sym (traded-more entries trades c.args.trade.now);
        records_are = outside-more g.M.DayGhost.share c.args.self.now.kept.items entries trades c.args.trade.now c.in_ok-index.index got outside has.records_are;
        fits_indices = has.fits_indices;
      };
}

pub index_mut-requires : goal.index_mut-requires
index_mut-requires g c =
    let has = c.requires.has.after_each c.requires.has.entries c.requires.has.has in
    let met = met-inside g.M.DayGhost.share c.args.self.now.share c.args.self.now.kept.items c.make_room.new.self.kept.items c.requires.has.entries c.requires.entries c.args.trade.now c.args.self.now.symbols c.meet.new.self c.in_ok-index.index c.index_in_share-share_index.result
    has.shared has.symbols_are c.in_ok-index.ensures.meets c.in_ok-index.ensures.index (sym c.has.ensures ∙ c.if-not-has.false) c.index_in_share-share_index.ensures c.in_ok-make_room.ensures.room has.records_are in
    omega (arith, met.within, c.make_room.new.self.kept.ok.0)

pub take-requires : goal.take-requires
take-requires g c =
    let has = c.requires.has.after_each c.requires.has.entries c.requires.has.has in
    let met = met-inside g.M.DayGhost.share c.args.self.now.share c.args.self.now.kept.items c.make_room.new.self.kept.items c.requires.has.entries c.requires.entries c.args.trade.now c.args.self.now.symbols c.meet.new.self c.in_ok-index.index c.index_in_share-share_index.result
    has.shared has.symbols_are c.in_ok-index.ensures.meets c.in_ok-index.ensures.index (sym c.has.ensures ∙ c.if-not-has.false) c.index_in_share-share_index.ensures c.in_ok-make_room.ensures.room has.records_are in
    let there : slice_get c.make_room.new.self.kept.items c.index_in_share-share_index.result ≡ Some c.index_mut.result.now =
    slice_get_read c.make_room.new.self.kept.items (length c.make_room.new.self.kept.items) c.index_in_share-share_index.result c.index_mut.result.now refl met.within c.index_mut.ensures.value in
    is-own g.M.DayGhost.share c.requires.has.entries c.requires.entries c.args.trade.now c.make_room.new.self.kept.items c.in_ok-index.index c.index_in_share-share_index.result c.index_mut.result.now met there

pub returns : goal.returns
returns g c = on_ok_weaker c.take.result
    (λ takes trades known. record {
      entries = known.entries;
      has = known.has;
      after_each = λ entries may.
          let has = known.after_each entries may in
          let met = met-inside g.M.DayGhost.share c.args.self.now.share c.args.self.now.kept.items c.make_room.new.self.kept.items entries trades c.args.trade.now c.args.self.now.symbols c.meet.new.self c.in_ok-index.index c.index_in_share-share_index.result
          has.shared has.symbols_are c.in_ok-index.ensures.meets c.in_ok-index.ensures.index (sym c.has.ensures ∙ c.if-not-has.false) c.index_in_share-share_index.ensures c.in_ok-make_room.ensures.room has.records_are in
          let there : slice_get c.make_room.new.self.kept.items c.index_in_share-share_index.result ≡ Some c.index_mut.result.now =
          slice_get_read c.make_room.new.self.kept.items (length c.make_room.new.self.kept.items) c.index_in_share-share_index.result c.index_mut.result.now refl met.within c.index_mut.ensures.value in
          let only = c.make_room.ensures.only in
          let counted : c.make_room.new.self.count ≡ length trades + 1 = only.count ∙ ap (λ (n : ℕ). n + 1) has.count in
          record {
            shared = only.shared ∙ has.shared;
            admits = only.admits ∙ has.admits;
            count = counted ∙ sym (length-append trades (c.args.trade.now ∷ []));
            symbols_are = only.symbols_are ∙ c.in_ok-index.ensures.meets (symbols_of_logs entries trades) has.symbols_are ∙ sym (traded-more entries trades c.args.trade.now);
            records_are = has-taken g.M.DayGhost.share entries trades c.args.trade.now c.make_room.new.self.kept.items c.in_ok-index.index c.index_in_share-share_index.result c.make_room.new.self.count c.index_mut.result.now c.take.new.self met there counted takes;
            fits_indices = has.fits_indices;
          };
    })
    c.take.ensures
