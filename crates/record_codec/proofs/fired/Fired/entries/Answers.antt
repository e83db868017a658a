use Rattle.std.proofs.Common.{ap}
use Rattle.record_codec.specs.Fired.{FiredFields}
use Rattle.record_codec.proofs.fired.Fired.entries.Goals as goal

pub returns-clause-entries : goal.returns-clause-entries
returns-clause-entries c = ap (λ (f : FiredFields). f.entries) c.self.view_is
