use Rattle.std.proofs.Common.{◌≡◌, ◌+◌, ℕ, true, false, sym, ap, ◌∙◌, subst, arith}
use Rattle.std.proofs.lemmas.Result.{on_ok_weaker}
use Rattle.audit_base.specs.Histories.{symbol_of}
use Rattle.audit_base.specs.Orders.{same_name}
use Rattle.instruction_history.proofs.DraftLemmas.{size-more}
use Rattle.instruction_history.proofs.HistoryOrFlawLemmas.{other-more}
use Rattle.instruction_history.proofs.history_draft.HistoryDraft.take_entry.Goals as goal

pub take-requires : goal.take-requires
take-requires g c = record {
  symbol = g.S.SymbolGhost.symbol;
  entries = c.requires.entries;
  is = c.requires.has.kept;
  fits_indices = omega (arith, c.requires.fits_places);
}

pub returns-then-not-has_symbol : goal.returns-then-not-has_symbol
returns-then-not-has_symbol g c = λ entries has.
    let other : same_name (symbol_of c.args.entry.now) c.args.self.now.symbol ≡ false = sym c.has_symbol.ensures ∙ c.if-not-has_symbol.true in
    record {
      named = has.named;
      count = size-more c.args.self.now.count entries c.args.entry.now has.count;
      kept = other-more g.S.SymbolGhost.symbol c.args.self.now.kept entries c.args.entry.now (subst (λ (s : _). same_name (symbol_of c.args.entry.now) s ≡ false) has.named other) has.kept;
    }

pub returns : goal.returns
returns g c =
    let own : same_name (symbol_of c.args.entry.now) c.args.self.now.symbol ≡ true = sym c.has_symbol.ensures ∙ c.if-not-has_symbol.false in
    on_ok_weaker c.take.result
    (λ takes entries has. record {
      named = has.named;
      count = size-more c.args.self.now.count entries c.args.entry.now has.count;
      kept = takes g.S.SymbolGhost.symbol entries has.kept (subst (λ (s : _). same_name (symbol_of c.args.entry.now) s ≡ true) has.named own) (ap (λ (n : ℕ). n + 1) has.count);
    })
    c.take.ensures
