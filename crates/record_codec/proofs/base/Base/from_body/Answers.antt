use Rattle.record_codec.specs.Base.{IsBaseBody, base_in}
use Rattle.record_codec.proofs.Spelled.{answered}
use Rattle.record_codec.proofs.Bases.{held_base_is_spelled, spelled_base_is_held}
use Rattle.record_codec.proofs.base.Base.from_body.Goals as goal

pub returns : goal.returns
returns g c =
    let body = c.args.body.now in
    answered (IsBaseBody body) c.held.result (base_in body) c.held.ensures (held_base_is_spelled body) (spelled_base_is_held body)
