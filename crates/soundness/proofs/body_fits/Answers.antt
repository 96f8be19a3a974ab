-- `soundness::body_fits` meets its contract: a body says one tap. Assumes nothing.
use mathlib.Core.Path.{sym, ap, ◌∙◌}
use Rattle.tally.proofs.BodyLaws.{fits_tap}
use Rattle.tally.specs.Tap.{tap_fits}
use Rattle.soundness.proofs.body_fits.Goals as goal

pub returns : goal.returns
returns c = c.fits.ensures ∙ ap tap_fits c.unpack.ensures ∙ sym (fits_tap _)
