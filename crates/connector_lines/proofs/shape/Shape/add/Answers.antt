use Rattle.std.proofs.Common.{◌∙◌, refl, ap, ◌∷◌, ◌++◌, ◌&&◌, ◌||◌}
use Rattle.std.specs.Prelude.{nat_le}
use Rattle.connector_tree.specs.Faults.{atoms}
use Rattle.connector_tree.specs.declared.tree.TheConstants.{MAX_DEPTH}
use Rattle.connector_tree.specs.Tokens.{ports_in}
use Rattle.connector_lines.specs.declared.shape.Shape.{Shape}
use Rattle.connector_lines.specs.Judging.{is_too_wide_after}
use Rattle.connector_lines.proofs.Judging.{token_added, no_port}
use Rattle.connector_lines.proofs.shape.Shape.add.Goals as goal

pub returns-in-Leaf : goal.returns-in-Leaf
returns-in-Leaf c = λ next goes tokens.
    let old = c.args.self.now in
    let rest = c.add_atom.ensures.rest in
    token_added old c.add_atom.new.self c.args.token c.args.level next tokens
    (ap (λ token. is_too_wide_after old (atoms (ports_in (token ∷ tokens)))) c.in-Leaf.is ∙ c.add_atom.ensures.wide (atoms (ports_in tokens)))
    (λ few. ap (λ token. old.atoms.items ++ atoms (ports_in (token ∷ tokens))) c.in-Leaf.is ∙ c.add_atom.ensures.atoms (atoms (ports_in tokens)) few)
    (ap (λ shape. shape.is_too_deep) rest)
    (ap (λ shape. shape.has_empty_bracket) rest ∙ ap (λ close. old.has_empty_bracket || (old.is_behind_open && close)) c.is_close.ensures)
    (ap (λ shape. shape.is_behind_open) rest ∙ c.is_open-self.ensures)
    goes

pub returns-in_default : goal.returns-in_default
returns-in_default c = λ next goes tokens.
    let old = c.args.self.now in
    let new : Shape = record {
      atoms = old.atoms;
      is_too_wide = old.is_too_wide;
      is_too_deep = old.is_too_deep || nat_le MAX_DEPTH c.args.level;
      has_empty_bracket = old.has_empty_bracket || (old.is_behind_open && c.is_close.result);
      is_behind_open = c.is_open-self.result;
    } in
    let none = no_port c.args.token tokens c.in_default.not-Leaf in
    token_added old new c.args.token c.args.level next tokens
    (ap (λ ports. is_too_wide_after old (atoms ports)) none)
    (λ few. ap (λ ports. old.atoms.items ++ atoms ports) none)
    refl
    (ap (λ close. old.has_empty_bracket || (old.is_behind_open && close)) c.is_close.ensures)
    c.is_open-self.ensures
    goes
