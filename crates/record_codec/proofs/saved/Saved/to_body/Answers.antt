use Rattle.std.proofs.Common.{◌≡◌, All, FitsSigned, w64, subst, ap, ◌∙◌, rules}
use Rattle.record_codec.specs.Bytes.{padded}
use Rattle.record_codec.specs.Saved.{IsSaved, SavedFits, saved_bytes, saved_in}
use Rattle.record_codec.proofs.SavedStates.{saved_reads_back}
use Rattle.record_codec.proofs.saved.Saved.to_body.Goals as goal

pub returns-clause-spelled : goal.returns-clause-spelled
returns-clause-spelled g c = search rules

pub returns-clause-fits : goal.returns-clause-fits
returns-clause-fits g c = record { marking = search rules; values = subst (All (FitsSigned w64)) c.values-values.ensures.values c.signed_run.ensures.fits }

pub returns-clause-reads_back : goal.returns-clause-reads_back
returns-clause-reads_back g c =
    let spelled : c.body.result ≡ padded g.row.LENGTH (saved_bytes c.args.self.now) = returns-clause-spelled g c in
    let fits : SavedFits c.args.self.now = returns-clause-fits g c in
    ap saved_in spelled ∙ saved_reads_back c.args.self.now g.row.LENGTH c.requires.room (subst IsSaved c.self.view_is c.self.invariant.1) fits
