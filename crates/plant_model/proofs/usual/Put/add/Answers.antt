use Rattle.std.proofs.Common.{◌*◌, ◌%◌, ◌^◌, ◌∙◌, ap, arith}
use Rattle.std.specs.Prelude.{bit_or}
use Rattle.std.specs.Int.{w16}
use Rattle.connector_tree.specs.Masks.{is_set}
use Rattle.petri_atom.proofs.Sets.{has-put, has-set}
use Rattle.plant_model.specs.Usual.{is_nothing, is_several}
use Rattle.plant_model.proofs.usual.Put.add.Goals as goal

pub returns-clause-mask : goal.returns-clause-mask
returns-clause-mask c k = has-set w16 c.args.self.now.mask c.args.leaf k (omega arith)

pub returns-clause-off : goal.returns-clause-off
returns-clause-off c k =
    ap (λ x. is_set (bit_or c.args.self.now.off (x * 2 ^ c.args.leaf % 2 ^ 16)) k) c.from.ensures ∙
    has-put w16 c.args.self.now.off c.args.leaf k (is_nothing c.args.count) (omega arith)

pub returns-clause-many : goal.returns-clause-many
returns-clause-many c k =
    ap (λ x. is_set (bit_or c.args.self.now.many (x * 2 ^ c.args.leaf % 2 ^ 16)) k) c.from-2.ensures ∙
    has-put w16 c.args.self.now.many c.args.leaf k (is_several c.args.count) (omega arith)
