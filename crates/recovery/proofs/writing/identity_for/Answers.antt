use Rattle.std.proofs.Common.{rules, sym, subst}
use Rattle.record_codec.specs.Identity.{IsIdentity}
use Rattle.plant_model.specs.System.{plant_of}
use Rattle.recovery.proofs.Ranges.{identity_in_range}
use Rattle.recovery.proofs.writing.identity_for.Goals as goal

pub new-requires : goal.new-requires
new-requires c = identity_in_range (plant_of c.args.system.now) c.atoms.result.now c.digest_of.result c.args.ring c.keeps_its_rules.ensures.plant c.atoms.ensures c.requires.ring_from c.requires.ring_to (search rules)

pub returns-clause-in_range : goal.returns-clause-in_range
returns-clause-in_range c = subst IsIdentity (sym c.new.ensures) (identity_in_range (plant_of c.args.system.now) c.atoms.result.now c.digest_of.result c.args.ring c.keeps_its_rules.ensures.plant c.atoms.ensures c.requires.ring_from c.requires.ring_to (search rules))
