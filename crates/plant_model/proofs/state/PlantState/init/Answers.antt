use Rattle.std.proofs.Common.{◌≡◌, ◌<◌, ◌+◌, ◌++◌, ◌∷◌, [], ◌∙◌, sym, ap, subst, arith, map, length, take}
use Rattle.std.specs.Prelude.{slice_get}
use Rattle.std.proofs.lemmas.List.{take_all, take_more, map-append, length-append}
use Rattle.std.proofs.lemmas.Option.{slice_get_within}
use Rattle.petri_atom.specs.Atom.{definition_of}
use Rattle.petri_atom.specs.Definition.{initial}
use Rattle.petri_atom.specs.Local.{Local}
use Rattle.petri_atom.specs.declared.atom.Atom.{Atom}
use Rattle.plant_model.proofs.Initial.{FirstFit, one-more-fits, map-map}
use Rattle.plant_model.proofs.state.PlantState.init.Goals as goal

abbrev first : Atom → Local
first a = initial (definition_of a)

pub returns-clause-first : goal.returns-clause-first
returns-clause-first c =
    let atoms = c.atoms-atoms.result.now in
    c.loop-atom.invariant.0 ∙ ap (map (λ a. initial (definition_of a))) (take_all c.loop-atom.atom-index atoms c.loop-atom-test.false) ∙
    map-map initial definition_of atoms ∙ ap (map initial) c.atoms-atoms.ensures

pub returns-clause-fits : goal.returns-clause-fits
returns-clause-fits c n a s known state =
    let within : n < length c.loop-atom.states.items = slice_get_within c.loop-atom.states.items n s state in
    c.loop-atom.invariant.2 n a s (omega (arith, within, c.loop-atom.invariant.1)) (ap (λ xs. slice_get xs n) c.atoms-atoms.ensures ∙ known) state

pub loop-atom-preserved : goal.loop-atom-preserved
loop-atom-preserved c =
    let atoms = c.atoms-atoms.result.now in
    let i = c.loop-atom.atom-index in
    let states = c.loop-atom.states.items in
    let atom = c.atom-item.result in
    let added : c.push.new.self.items ≡ states ++ c.initial.result ∷ [] = c.in_ok-push.ensures.items in
    let taken : take (i + 1) atoms ≡ take i atoms ++ atom ∷ [] = take_more atoms i atom c.loop-atom-test.true ∙ ap (λ y. take i atoms ++ y ∷ []) (sym c.atom-item.is) in (
      added ∙ ap (λ xs. xs ++ c.initial.result ∷ []) c.loop-atom.invariant.0 ∙ ap (λ x. map first (take i atoms) ++ x ∷ []) c.initial.ensures.initial ∙
          sym (ap (map first) taken ∙ map-append first (take i atoms) (atom ∷ [])),
      ap length added ∙ length-append states (c.initial.result ∷ []) ∙ ap (λ n. n + 1) c.loop-atom.invariant.1,
      subst (λ xs. FirstFit atoms xs (i + 1)) (sym added) (one-more-fits atoms states i atom c.initial.result c.loop-atom.invariant.1 c.loop-atom-test.true c.atom-item.is c.initial.ensures.fits c.loop-atom.invariant.2),
    )
