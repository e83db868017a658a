use Rattle.std.proofs.Common.{◌≡◌, ◌≤◌, ◌+◌, ◌∙◌, ap, arith, drop, length, pos, refl, replicate, sym, take, w64, SFits, rules}
use Rattle.std.proofs.lemmas.Int.{to_z-of_z}
use Rattle.std.proofs.lemmas.List.{get_or-take, length-drop, length-take}
use Rattle.petri_atom.specs.StraightCode.{first_temporary, row_length}
use Rattle.petri_atom.proofs.Straight.{left-value, within-whole}
use Rattle.petri_atom.proofs.code.Code.value_by_steps.Goals as goal

pub value_in_cells-requires-else-self : goal.value_in_cells-requires-else-self
value_in_cells-requires-else-self c =
    (search rules, (omega (arith, c.told-variables), within-whole c.args.self.now.steps.items))

pub returns-then-self : goal.returns-then-self
returns-then-self c tree code =
    let own = c.args.self.now in
    let variables = c.args.variables.now in
    let result = c.value_in_cells.result in
    let fits : SFits w64 result = search rules in
    let first = take c.from.result variables in
    let rest = drop (length first) (replicate 8 (pos 0)) in
    let four : length first ≡ 4 = omega (arith, length-take c.from.result variables, c.told-variables, c.from.ensures) in
    let room : row_length own.is_small ≤ length first + length rest =
    omega (arith, ap row_length c.if-self.true, length-drop (length first) (replicate 8 (pos 0)), four) in
    to_z-of_z w64 result fits ∙ c.value_in_cells.ensures ∙
    left-value own tree variables first rest code c.requires (four ∙ sym (ap first_temporary c.if-self.true)) room
    (λ k low. get_or-take c.from.result variables k (pos 0) (omega (arith, low, four, c.from.ensures)))

pub returns-else-self : goal.returns-else-self
returns-else-self c tree code =
    let own = c.args.self.now in
    let variables = c.args.variables.now in
    let result = c.value_in_cells-else-self.result in
    let fits : SFits w64 result = search rules in
    let rest = drop (length variables) (replicate 24 (pos 0)) in
    let room : row_length own.is_small ≤ length variables + length rest =
    omega (arith, ap row_length c.if-self.false, length-drop (length variables) (replicate 24 (pos 0)), c.told-variables) in
    to_z-of_z w64 result fits ∙ c.value_in_cells-else-self.ensures ∙
    left-value own tree variables variables rest code c.requires (c.told-variables ∙ sym (ap first_temporary c.if-self.false)) room (λ k low. refl)
