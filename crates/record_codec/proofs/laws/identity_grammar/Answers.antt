use Rattle.record_codec.specs.declared.layout.TheConstants.{VERSION}
use Rattle.record_codec.specs.Identity.{identity_in}
use Rattle.record_codec.proofs.Identities.{held_identity_is_spelled, spelled_identity_is_held}
use Rattle.record_codec.proofs.laws.identity_grammar.Goals as goal

pub returns-clause-this_layout : goal.returns-clause-this_layout
unfolding identity_in
returns-clause-this_layout c = λ body identity. (held_identity_is_spelled VERSION body identity, spelled_identity_is_held VERSION body identity)

pub returns-clause-any_layout : goal.returns-clause-any_layout
returns-clause-any_layout c = λ version body identity. (held_identity_is_spelled version body identity, spelled_identity_is_held version body identity)
