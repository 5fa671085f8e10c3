-- `movei_fits` meets its contract: movei's number fits where the signed field says so.
use Rattle.word_layout.specs.Layout.{fits_signed}
use Rattle.isa.specs.Number.{fits_movei}
use Rattle.isa.proofs.field.movei_fits.Goals as goal

pub returns-in-Whole : goal.returns-in-Whole
unfolding fits_movei fits_signed
returns-in-Whole c = rw c.in-Whole.is c.fits.ensures
