use Rattle.std.proofs.Common.{◌∙◌, ◌&&◌, ap, sym}
use Rattle.priority_filter.specs.Members.{has_bit}
use Rattle.plant_model.proofs.BitsLeft.{no-bit}
use Rattle.step_core.proofs.alone.word_where.Goals as goal

pub returns-then-is_so : goal.returns-then-is_so
returns-then-is_so c k = sym (ap (λ b. b && has_bit c.args.word k) c.if-is_so.true)

pub returns-else-is_so : goal.returns-else-is_so
returns-else-is_so c k = no-bit k ∙ sym (ap (λ b. b && has_bit c.args.word k) c.if-is_so.false)
