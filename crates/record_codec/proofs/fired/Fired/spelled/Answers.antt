use Rattle.std.proofs.Common.{◌∙◌, ap, Some}
use Rattle.record_codec.specs.Fired.{FiredFields}
use Rattle.record_codec.proofs.fired.Fired.spelled.Goals as goal

pub returns-clause-reads_back : goal.returns-clause-reads_back
returns-clause-reads_back g c most few =
    c.spelled.ensures.reads_back most few ∙
    ap (λ (f : FiredFields). Some (record { number = f.number; connector = f.connector; entries = c.args.self.now.entries })) c.self.view_is
