use Rattle.std.proofs.Common.{◌≡◌, ◌∙◌, refl, sym, ap, subst, rules, ℤ, List, ◌++◌, length, Option, Some, None, w64, SFits}
use Rattle.std.specs.Prelude.{OnOk, slice_get}
use Rattle.std.specs.Option.{option_map_or}
use Rattle.std.proofs.lemmas.Int.{to_z-of_z}
use Rattle.std.proofs.lemmas.Option.{slice_get_read, slice_get_past}
use Rattle.restated_text.specs.Lines.{variable_line}
use Rattle.restated_text.proofs.Pieces.{ends_with}
use Rattle.restated_text.proofs.text.add_line_of_variable.Goals as goal

pub returns-in-Some : goal.returns-in-Some
returns-in-Some c =
    let line = c.args.line.now in
    let old = c.args.restated.now.items in
    let new = c.add_variable_line.new.text.items in
    let value = c.in-Some.value.now in
    let fits : SFits w64 c.in-Some.value.now = search rules in
    let read = c.in-Some.ensures.lookup in
    let found : slice_get c.args.state.now.values c.args.number ≡ Some value =
    ap (λ (xs : List ℤ). slice_get xs c.args.number) (sym c.values.ensures) ∙
    slice_get_read c.values.result.now (length c.values.result.now) c.args.number value refl read.3.0 read.1 in
    let added : OnOk c.add_variable_line.result (new ≡ old ++ variable_line value line) =
    subst (λ (v : ℤ). OnOk c.add_variable_line.result (new ≡ old ++ variable_line v line)) (to_z-of_z w64 value fits) c.add_variable_line.ensures in
    subst (λ (o : Option ℤ). OnOk c.add_variable_line.result (new ≡ old ++ option_map_or (λ value. variable_line value line) o line)) (sym found) added

pub returns-in-None : goal.returns-in-None
returns-in-None c =
    let line = c.args.line.now in
    let none : slice_get c.args.state.now.values c.args.number ≡ None =
    ap (λ (xs : List ℤ). slice_get xs c.args.number) (sym c.values.ensures) ∙ slice_get_past c.values.result.now c.args.number c.in-None.ensures.lookup.3 in
    ends_with c.extend_from_slice.result c.extend_from_slice.new.self.items c.args.restated.now.items line _ c.extend_from_slice.ensures.items
    (ap (λ (o : Option ℤ). c.args.restated.now.items ++ option_map_or (λ value. variable_line value line) o line) (sym none))
