use Rattle.std.proofs.Common.{◌≡◌, ◌+◌, ◌∙◌, ℕ, [], ◌∷◌, ap, sym, refl, subst, List, map, length, arith, Vec, Global}
use Rattle.std.specs.Prelude.{Option, Some, option_map, slice_get}
use Rattle.std.proofs.lemmas.List.{length-append, length-map}
use Rattle.std.proofs.lemmas.Option.{same_Some, slice_get-map, slice_get_read}
use Rattle.petri_atom.specs.Atom.{definition_of}
use Rattle.petri_atom.specs.Definition.{AtomDefinition}
use Rattle.plant_model.specs.Usual.{IsUsual}
use Rattle.plant_model.specs.declared.usual.Usual.{Usual}
use Rattle.plant_model.proofs.Pushed.{each-pushed}
use Rattle.plant_model.proofs.Putting.{made-of}
use Rattle.plant_model.proofs.usual.usual_of.Goals as goal

pub loop-number-preserved : goal.loop-number-preserved
loop-number-preserved c =
    let rows = c.loop-number.rows.items in
    let made = c.in_ok-usual_row.field-0 in
    let pushed = c.in_ok-push.ensures.items in
    let all = map (λ list. list.items) c.args.ports.now in
    let atoms = map definition_of c.args.atoms.now in
    let Right : ℕ → Vec (Option Usual) Global → Type 0 = λ n row. (a : AtomDefinition) → slice_get atoms n ≡ Some a →
    (length row.items ≡ length a.transitions) × ((t : ℕ) (u : Usual) → slice_get row.items t ≡ Some (Some u) → IsUsual a all n u) in
    let here : Right c.loop-number.number made = λ a at.
    let own : definition_of c.index-atoms-number.result ≡ a =
    same_Some _ a (sym (slice_get-map definition_of c.args.atoms.now c.loop-number.number ∙ ap (option_map definition_of) (slice_get_read c.args.atoms.now (length c.args.atoms.now) c.loop-number.number c.index-atoms-number.result refl c.loop-number-test.true c.index-atoms-number.is)) ∙ at) in
    subst (λ (x : AtomDefinition). (length made.items ≡ length x.transitions) × ((t : ℕ) (u : Usual) → slice_get made.items t ≡ Some (Some u) → IsUsual x all c.loop-number.number u)) own (c.in_ok-usual_row.ensures.as_many, c.in_ok-usual_row.ensures.right) in (
      ap length pushed ∙ length-append rows (made ∷ []) ∙ ap (λ n. n + 1) c.loop-number.invariant.0,
      λ n row there. each-pushed Right rows made c.loop-number.number c.loop-number.invariant.0 c.loop-number.invariant.1 here n row (sym (ap (λ xs. slice_get xs n) pushed) ∙ there),
    )

pub returns : goal.returns
returns c =
    let rows = c.loop-number.rows.items in
    let items : Vec (Option Usual) Global → List (Option Usual) = λ row. row.items in
    let made = c.loop-number.invariant in
    record {
      as_many = omega (arith, length-map rows items, length-map c.args.atoms.now definition_of, made.0, c.loop-number-test.false, c.loop-number.auto.number-end);
      in_row = λ n a row at there.
          let kept = made-of items rows n row there in
          ap length (sym kept.2) ∙ (made.1 n kept.0 kept.1 a at).0;
      right = λ n t a row u at there entry.
          let kept = made-of items rows n row there in
          (made.1 n kept.0 kept.1 a at).1 t u (ap (λ xs. slice_get xs t) kept.2 ∙ entry);
    }
