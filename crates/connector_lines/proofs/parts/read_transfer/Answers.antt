use Rattle.std.proofs.Common.{◌≡◌, ◌∙◌, ap, sym, refl, drop, codes, Ok}
use Rattle.plant_words.specs.Reading.{first_keyword}
use Rattle.plant_words.proofs.Exits.{passes}
use Rattle.connector_lines.specs.Rows.{whole_expression}
use Rattle.connector_lines.proofs.parts.read_transfer.Goals as goal

pub returns-clause-transfer : goal.returns-clause-transfer
returns-clause-transfer g c =
    let named = g.N.Variables.variable_named c.args.names.now in
    let assigns : first_keyword (codes ":=") (drop 1 c.args.words.now) ≡ Ok c.in_ok-next_keyword.field-0 =
    ap (first_keyword (codes ":=")) (sym c.read_target.ensures.taken) ∙ sym c.in_ok-next_keyword.ensures.keyword in
    let rest : drop 1 (drop 1 c.args.words.now) ≡ c.next_keyword.new.words = ap (drop 1) (sym c.read_target.ensures.taken) ∙ sym c.next_keyword.ensures.taken in
    passes _ (sym c.in_ok-target.ensures.target) (passes _ assigns (passes _ (ap (whole_expression named) rest ∙ c.in_ok-value.ensures.expression) refl))
