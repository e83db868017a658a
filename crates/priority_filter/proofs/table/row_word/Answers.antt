use Rattle.std.proofs.Common.{◌%◌, eqb, sym, ap, ◌∙◌, arith}
use Rattle.std.specs.FinSet as set
use Rattle.std.proofs.lemmas.Nat.Bits.{bit_at-zero}
use Rattle.priority_filter.proofs.TableLaws.{row_read, row_past}
use Rattle.priority_filter.proofs.table.row_word.Goals as goal

pub returns-in-Some : goal.returns-in-Some
returns-in-Some c n at =
    let found = c.in-Some.ensures.lookup in
    c.word.ensures n at ∙
    ap (λ s. set.contains s n) (row_read c.args.rows.now c.from.result c.args.interaction c.in-Some.row.now found.1 c.from.ensures (omega (arith, found.3.0, c.from.ensures)))

pub returns-in-None : goal.returns-in-None
returns-in-None c n at =
    ap (λ b. eqb b 1) (bit_at-zero (n % 64)) ∙
    sym (row_past c.args.rows.now c.args.interaction (omega (arith, c.in-None.ensures.lookup.3, c.from.ensures)) n)
