-- Each symbol is in one share.
use Rattle.std.proofs.Common.{◌≡◌, ◌+◌, ◌-◌, ◌%◌, arith}
use Rattle.std.proofs.lemmas.Bool.{eqb-true, eq-eqb}
use Rattle.day_symbols.specs.Laws.{SharesAreTheDay}

-- the share of the symbol at an index is the one whose number is one above the rest of the index
pub shares-are : SharesAreTheDay
shares-are count index some = (
  index % count + 1,
  record {
    first = omega arith;
    among = omega arith;
    has = eq-eqb (index % count) (index % count + 1 - 1) (omega arith);
    one = λ other first in_it. let is : index % count ≡ other - 1 = eqb-true (index % count) (other - 1) in_it in omega arith;
  },
)
