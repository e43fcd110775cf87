use Rattle.std.proofs.Common.{◌≡◌, length, arith, refl}
use Rattle.std.specs.Prelude.{vec_len}
use Rattle.order_list.proofs.KeyLemmas.{listed-same, none-listed}
use Rattle.order_list.proofs.keys.Keys.for_numbers.Goals as goal

pub returns : goal.returns
returns c =
    let size : vec_len c.args.self.listed ≡ length c.args.self.listed.items = omega (arith, c.args.self.listed.ok.0) in
    let none = none-listed c.args.self.listed.items (vec_len c.args.self.listed) c.is_empty.result size c.is_empty.ensures c.if-not-is_empty.false in
    listed-same c.args.self (record { short = c.with_hasher.result; long = c.args.self.long; listed = c.keys_in_order.result }) none c.with_hasher.ensures.empty c.keys_in_order.ensures refl
