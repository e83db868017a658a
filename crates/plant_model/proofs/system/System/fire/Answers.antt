use Rattle.std.proofs.Common.{◌≡◌, ◌==◌, ◌<◌, ◌∙◌, ℕ, List, sym, ap, subst, arith, length, map, take, get_or, set, true}
use Rattle.std.specs.Prelude.{Some, None, slice_get, find}
use Rattle.std.proofs.lemmas.List.{length-map, take_all}
use Rattle.std.proofs.lemmas.Option.{slice_get-get_or, get_or_from_slice_get}
use Rattle.petri_atom.specs.Atom.{definition_of}
use Rattle.petri_atom.specs.Definition.{fired}
use Rattle.petri_atom.specs.Local.{Local, Row}
use Rattle.plant_model.specs.Choice.{ChoiceDefinition, IsAllowed}
use Rattle.plant_model.specs.Chosen.{choice_of, firing_of}
use Rattle.plant_model.specs.Fitting.{AllFit}
use Rattle.plant_model.specs.Step.{transfer, stepped_from}
use Rattle.plant_model.specs.System.{plant_of}
use Rattle.plant_model.specs.declared.choice.Move.{Move}
use Rattle.plant_model.specs.declared.system.System.{System}
use Rattle.plant_model.proofs.FiringOfAll.{none-fired, offered-at, atom-within, offered-here, fired-here, fits-here}
use Rattle.plant_model.proofs.Judging.{atom-there}
use Rattle.plant_model.proofs.OwnAtoms.{are-apart, no-earlier}
use Rattle.plant_model.proofs.Stepping.{is_offered_move, no_move, length-stepped}
use Rattle.plant_model.proofs.system.System.fire.Goals as goal

pub deliver-requires-clause-apart : goal.deliver-requires-clause-apart
deliver-requires-clause-apart c = are-apart (plant_of c.args.self.now) c.args.states.now (choice_of c.args.choice.now) c.args.self.now.valid c.requires.allowed

pub loop-place-init : goal.loop-place-init
loop-place-init c = (
  c.states.view_is ∙ sym (none-fired (map definition_of c.args.self.now.atoms.items) (transfer (plant_of c.args.self.now) c.args.states.now (firing_of c.args.choice.now c.args.inputs.now)) 0 c.args.states.now),
  λ all. subst (AllFit (plant_of c.args.self.now)) (sym c.states.view_is) all,
)

-- the move at a place of an allowed choice fires: its atom, which has the number n, is there, offers its transition, and has no earlier move
record IsFiring (system : System) (old : List Local) (moves : List Move) (k n : ℕ) : Type 0 where
  pub offered : is_offered_move (map definition_of system.atoms.items) old (get_or moves k no_move) ≡ true
  pub within : n < length system.atoms.items
  pub fresh : find (λ j. j.atom == n) (take k moves) ≡ None

firing : (system : System) (old : List Local) (choice : ChoiceDefinition) → IsAllowed (plant_of system) old choice → (moves : List Move) → moves ≡ choice.moves
    → (k : ℕ) → k < length moves → (n : ℕ) → n ≡ (get_or moves k no_move).atom → IsFiring system old moves k n
firing system old choice allowed moves same k more n at =
    let offered = offered-at (plant_of system) old choice moves k same allowed more in
    record {
      offered = offered;
      within = omega (arith, atom-within (map definition_of system.atoms.items) old (get_or moves k no_move) offered, at, length-map system.atoms.items definition_of);
      fresh = no-earlier (plant_of system) old choice system.valid allowed moves same k no_move more n at;
    }

pub index-requires : goal.index-requires
index-requires c =
    let step = firing c.args.self.now c.args.states.now (choice_of c.args.choice.now) c.requires.allowed c.as_slice-moves.result.now c.as_slice-moves.ensures.moves c.loop-place.place c.loop-place-test.true c.from-number.result c.from-number.ensures in
    omega (arith, step.within, c.args.self.now.atoms.ok.0)

-- there are as many states as before
as-many : (system : System) (old now : List Local) (moves : List Move) (gets : ℕ → Row) → now ≡ stepped_from (map definition_of system.atoms.items) moves gets 0 old → length now ≡ length old
as-many system old now moves gets is = ap length is ∙ length-stepped (map definition_of system.atoms.items) moves gets 0 old

pub index_mut-requires : goal.index_mut-requires
index_mut-requires c =
    let items = c.loop-place.states-inside.states.items in
    let step = firing c.args.self.now c.args.states.now (choice_of c.args.choice.now) c.requires.allowed c.as_slice-moves.result.now c.as_slice-moves.ensures.moves c.loop-place.place c.loop-place-test.true c.from-number.result c.from-number.ensures in
    let long = as-many c.args.self.now c.args.states.now items _ _ c.loop-place.invariant.0 in
    omega (arith, step.within, long, c.requires.of_plant, length-map c.args.self.now.atoms.items definition_of, c.loop-place.states-inside.states.ok.0)

pub apply-requires : goal.apply-requires
apply-requires c =
    let moves = c.as_slice-moves.result.now in
    let now = c.index_mut.result.now in
    let step = firing c.args.self.now c.args.states.now (choice_of c.args.choice.now) c.requires.allowed moves c.as_slice-moves.ensures.moves c.loop-place.place c.loop-place-test.true c.from-number.result c.from-number.ensures in
    offered-here c.args.self.now.atoms.items c.args.states.now moves (transfer (plant_of c.args.self.now) c.args.states.now (firing_of c.args.choice.now c.args.inputs.now)) c.requires.of_plant c.loop-place.place c.from-number.result c.loop-place-test.true c.from-number.ensures step.fresh
    c.index.result.now step.within c.index.ensures now (c.index_mut.ensures.value ∙ ap (λ xs. get_or xs c.from-number.result now) c.loop-place.invariant.0) step.offered

pub loop-place-preserved : goal.loop-place-preserved
loop-place-preserved c =
    let system = c.args.self.now in
    let old = c.args.states.now in
    let choice = choice_of c.args.choice.now in
    let gets = transfer (plant_of system) old (firing_of c.args.choice.now c.args.inputs.now) in
    let moves = c.as_slice-moves.result.now in
    let k = c.loop-place.place in
    let n = c.from-number.result in
    let m = get_or moves k no_move in
    let step = firing system old choice c.requires.allowed moves c.as_slice-moves.ensures.moves k c.loop-place-test.true n c.from-number.ensures in
    let now = c.index_mut.result.now in
    let new = c.apply.new.state in
    let items = c.loop-place.states-inside.states.items in
    let read = c.index_mut.ensures.value ∙ ap (λ xs. get_or xs n now) c.loop-place.invariant.0 in
    let its : slice_get moves k ≡ Some m = slice_get-get_or moves k no_move c.loop-place-test.true in
    let first = ap (λ n. find (λ j. j.atom == n) (take k moves)) (sym c.from-number.ensures) ∙ step.fresh in
    let delivered = get_or_from_slice_get c.deliver.new.delivered k (gets m.atom) c.index-delivered-place.result (c.deliver.ensures k m (ap (λ ms. slice_get ms k) (sym c.as_slice-moves.ensures.moves) ∙ its) (ap (λ ms. find (λ j. j.atom == m.atom) (take k ms)) (sym c.as_slice-moves.ensures.moves) ∙ first)) in
    let went : new ≡ fired (definition_of c.index.result.now) m.transition (gets n) now =
    c.apply.ensures.fired ∙ ap (λ d. fired (definition_of c.index.result.now) m.transition d now) (delivered ∙ ap gets (sym c.from-number.ensures)) in
    let placed : n < length items = omega (arith, step.within, as-many system old items _ _ c.loop-place.invariant.0, c.requires.of_plant, length-map system.atoms.items definition_of) in (
      ap (λ xs. set xs n new) c.loop-place.invariant.0 ∙
          fired-here system.atoms.items old moves gets c.requires.of_plant k n c.loop-place-test.true c.from-number.ensures step.fresh c.index.result.now step.within c.index.ensures now read new went,
      λ all. fits-here (plant_of system) items n (definition_of c.index.result.now) now new (atom-there system.atoms.items n c.index.result.now step.within c.index.ensures) placed c.index_mut.ensures.value c.apply.ensures.fits (c.loop-place.invariant.1 all),
    )

pub returns-clause-of_plant : goal.returns-clause-of_plant
returns-clause-of_plant c = as-many c.args.self.now c.args.states.now _ _ _ c.loop-place.invariant.0 ∙ c.requires.of_plant

pub returns-clause-next : goal.returns-clause-next
returns-clause-next c =
    let system = c.args.self.now in
    let gets = transfer (plant_of system) c.args.states.now (firing_of c.args.choice.now c.args.inputs.now) in
    c.loop-place.invariant.0 ∙
    ap (λ ms. stepped_from (map definition_of system.atoms.items) ms gets 0 c.args.states.now) (take_all c.loop-place.place c.as_slice-moves.result.now c.loop-place-test.false ∙ c.as_slice-moves.ensures.moves)

pub returns-clause-delivered : goal.returns-clause-delivered
returns-clause-delivered c place m there =
    c.deliver.ensures place m there (are-apart (plant_of c.args.self.now) c.args.states.now (choice_of c.args.choice.now) c.args.self.now.valid c.requires.allowed place m there)
