-- The unsigned compares are those of the numbers as they are.
use Rattle.std.proofs.Common.{eqb, ltb-true, lt-ltb, eq-eqb, ne_eqb, eqb-true, le-leb, leb-true}
use borrow.Author.Tests.{eqb-false, not-true}
use Rattle.ordering.specs.Claims.{UnsignedOrder}

pub unsigned-order : UnsignedOrder
unsigned-order x y = record {
  eq = (eqb-true x y, eq-eqb x y);
  ne = ((λ e. eqb-false x y (not-true (eqb x y) e)), (λ e. rw (ne_eqb x y e)));
  ugt = (ltb-true y x, lt-ltb y x);
  uge = (leb-true y x, le-leb y x);
  ult = (ltb-true x y, lt-ltb x y);
  ule = (leb-true x y, le-leb x y);
}
