use Rattle.lang.proofs.Fits.{trying_laws}
use Rattle.lang.proofs.matching.fits_anywhere.Goals as goal

pub loop-end-preserved-in-Char : goal.loop-end-preserved-in-Char
loop-end-preserved-in-Char c = search trying_laws
