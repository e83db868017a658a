use Rattle.std.proofs.Common.{◌<◌, ◌^◌, ◌∙◌, sym, ap, eqb, arith}
use Rattle.std.proofs.lemmas.Bool.{le-ltb}
use Rattle.std.proofs.lemmas.Nat.Bits.{bit_at_above}
use Rattle.blocked_text.proofs.clauses.TakingPartVariableTestExport.passes.Goals as goal

pub returns-else-variable-lt16 : goal.returns-else-variable-lt16
returns-else-variable-lt16 c =
    let mask = c.args.self.now.mask in
    let leaf = c.args.variable.now.leaf in
    let small : mask < 2 ^ 16 = omega arith in
    le-ltb leaf 16 c.if-variable-lt16.false ∙ sym (ap (λ b. eqb b 1) (bit_at_above mask 16 leaf small c.if-variable-lt16.false))
