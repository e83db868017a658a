use Rattle.record_codec.specs.Saved.{IsSavedBody, SavedFits, saved_in}
use Rattle.record_codec.proofs.Spelled.{answered_fits}
use Rattle.record_codec.proofs.SavedStates.{held_saved_that_fits, spelled_saved_is_held}
use Rattle.record_codec.proofs.saved.Saved.from_body.Goals as goal

pub returns : goal.returns
returns g c =
    let body = c.args.body.now in
    answered_fits SavedFits (IsSavedBody body) c.held.result (saved_in body) c.held.ensures.exact c.held.ensures.fits (held_saved_that_fits body) (spelled_saved_is_held body)
