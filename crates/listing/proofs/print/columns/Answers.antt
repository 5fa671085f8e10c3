-- `columns` meets its contract: the digits are those of the two numbers.
use Rattle.isa.specs.Text.{bytes}
use Rattle.listing.specs.Listing.{columns_of}
use Rattle.listing.proofs.print.columns.Goals as goal

pub returns : goal.returns
unfolding columns_of bytes
returns c = rw (c.hex_of-2.ensures, c.hex_of.ensures)
