use Rattle.std.proofs.Common.{◌<◌, ◌++◌, [], ◌∷◌, ◌∙◌, sym, ap, arith, length, take, map, get_or}
use Rattle.std.proofs.lemmas.List.{take_more, take_more_set, map-append, length-set}
use Rattle.plant_model.specs.declared.choice.Move.{Move}
use Rattle.plant_model.proofs.choice.atoms_of.Goals as goal

pub loop-place-preserved : goal.loop-place-preserved
loop-place-preserved c =
    let n = c.loop-place.place in
    let atoms = c.loop-place.atoms in
    let moves = c.args.moves.now in
    let none : Move = record { atom = 0; transition = 0 } in
    let atom = (get_or moves n none).atom in
    let within : n < length atoms = omega (arith, c.loop-place.invariant.1, c.loop-place-test.true, c.requires) in (
      take_more_set atoms n atom within ∙
          ap (λ xs. xs ++ atom ∷ []) c.loop-place.invariant.0 ∙
          sym (ap (map (λ m. m.atom)) (take_more moves n none c.loop-place-test.true) ∙ map-append (λ m. m.atom) (take n moves) (get_or moves n none ∷ [])),
      length-set atoms n atom ∙ c.loop-place.invariant.1,
    )
