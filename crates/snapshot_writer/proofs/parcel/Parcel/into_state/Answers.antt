use Rattle.std.proofs.Common.{ap}
use Rattle.snapshot_writer.specs.Parcels.{local_in}
use Rattle.snapshot_writer.proofs.parcel.Parcel.into_state.Goals as goal

pub returns : goal.returns
returns c = ap local_in c.self.view_is
