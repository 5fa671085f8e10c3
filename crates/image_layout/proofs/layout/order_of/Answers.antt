-- `layout::order_of` meets its contract.
use Rattle.std.proofs.Common.{◌≡◌, refl}
use denote.Enum.Declared.{tag_of}
use Rattle.image_layout.specs.contracts.layout.Kind.{the_type}
use Rattle.image_layout.specs.Layout.{position_in, order_of}
use Rattle.image_layout.specs.Types.{Kind, Hd, Ti, Sr, Vr, Mm}
use Rattle.image_layout.proofs.layout.order_of.Goals as goal

-- the kinds are declared in their order
declared : (k : Kind) → tag_of the_type k ≡ order_of k
unfolding order_of position_in
declared Hd = refl
declared Ti = refl
declared Sr = refl
declared Vr = refl
declared Mm = refl

pub returns : goal.returns
returns c = declared c.args.kind
