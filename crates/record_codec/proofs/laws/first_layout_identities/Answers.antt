use Rattle.record_codec.proofs.FirstLayout.{version_in-todays_identity, identity_in-todays_identity}
use Rattle.record_codec.proofs.laws.first_layout_identities.Goals as goal

pub returns-clause-version : goal.returns-clause-version
returns-clause-version c = version_in-todays_identity

pub returns-clause-identity : goal.returns-clause-identity
returns-clause-identity c = identity_in-todays_identity
