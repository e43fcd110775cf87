use Rattle.std.proofs.Common.{◌≡◌, ◌∷◌, rules}
use Rattle.std.specs.Prelude.{decimal}
use Rattle.audit_base.proofs.LeastLemmas.{none_some}
use Rattle.canonical_form.proofs.TradeLemmas.{id_read}
use Rattle.canonical_form.proofs.trades.trade_id.Goals as goal

pub unreachable-requires : goal.unreachable-requires
unreachable-requires c =
    let text : c.deref.result.now ≡ 84 ∷ decimal c.args.number = search rules in
    none_some c.read_name.result _ c.in-None.is (id_read c.args.number c.deref.result.now c.read_name.result c.requires text c.read_name.ensures)
