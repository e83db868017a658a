use Rattle.std.proofs.Common.{ap}
use Rattle.record_codec.specs.Saved.{SavedFields}
use Rattle.record_codec.proofs.saved.Saved.count.Goals as goal

pub returns-clause-value : goal.returns-clause-value
returns-clause-value c = ap (λ (s : SavedFields). s.count) c.self.view_is
