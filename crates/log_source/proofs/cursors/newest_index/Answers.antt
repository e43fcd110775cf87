-- One log on: it is the newest of its name, and of other names nothing changes.
use Rattle.std.proofs.Common.{rules, ◌≡◌, ◌∙◌, sym, ap, true, false, subst, take, ◌+◌, ℕ}
use Rattle.std.specs.Prelude.{Option}
use Rattle.std.specs.Str.{bytes_eq}
use Rattle.log_source.specs.Cursors.{log_has_name}
use Rattle.log_source.proofs.CursorLemmas.{IsNewest, IsNewest-next}
use Rattle.log_source.proofs.cursors.newest_index.Goals as goal
use Rattle.log_source.proofs.cursors.newest_index.Goals.{then-eq, else-eq}

pub loop-index-preserved : goal.loop-index-preserved
loop-index-preserved c =
    let log = c.index-logs-index.result in
    let name = c.args.name.now in
    let logs = c.args.logs.now in
    let named : log_has_name name log ≡ c.eq.result = ap (λ l. bytes_eq l name) (sym c.as_str.ensures.value) ∙ sym c.eq.ensures in
    let next = IsNewest-next logs c.loop-index.index log name c.loop-index.found in
    elim c.if-eq.branch [
      | then-eq w ↦ subst (λ (o : Option ℕ). IsNewest (take (c.loop-index.index + 1) logs) name o) (sym w.found-is)
          (next true (search rules) c.index-logs-index.is (named ∙ w.if-eq.true) c.loop-index.invariant)
      | else-eq w ↦ subst (λ (o : Option ℕ). IsNewest (take (c.loop-index.index + 1) logs) name o) (sym w.found-is)
          (next false (search rules) c.index-logs-index.is (named ∙ w.if-eq.false) c.loop-index.invariant)
    ]
