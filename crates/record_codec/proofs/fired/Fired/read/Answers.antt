use Rattle.record_codec.specs.Fired.{FiredFits, IsFiredBodyUpTo, fired_up_to}
use Rattle.record_codec.proofs.Spelled.{answered_fits}
use Rattle.record_codec.proofs.Records.{held_fired_that_fits, spelled_fired_is_held}
use Rattle.record_codec.proofs.fired.Fired.read.Goals as goal

pub returns : goal.returns
returns g c =
    let most = c.args.most in
    let body = c.args.body.now in
    answered_fits FiredFits (IsFiredBodyUpTo most body) c.held.result (fired_up_to most body) c.held.ensures.exact c.held.ensures.fits (held_fired_that_fits most body) (spelled_fired_is_held most body)
