use Rattle.std.proofs.Common.{◌≡◌, ◌<◌, ◌+◌, ◌-◌, ℕ, Bool, List, [], length, get_or, ap, sym, ◌∙◌, arith, ⊎_elim}
use Rattle.std.specs.Prelude.{Option, Some, slice_get}
use Rattle.std.specs.FinSet.{contains}
use Rattle.std.proofs.lemmas.Bool.{cases_lt}
use Rattle.std.proofs.lemmas.Option.{none-some, slice_get-get_or}
use Rattle.petri_atom.specs.Definition.{AtomDefinition}
use Rattle.plant_model.specs.Choice.{ChoiceDefinition, Interaction, choices_of}
use Rattle.plant_model.specs.Chosen.{choice_of}
use Rattle.plant_model.specs.System.{interactions_in, plant_of}
use Rattle.plant_model.specs.Ways.{ways_at}
use Rattle.step_core.specs.ChoicesIn.{choices_in}
use Rattle.step_core.specs.Weights.{AreWeighed, IsAtConnector, IsFound, choices_of_connector, sum_from}
use Rattle.step_core.specs.declared.weights.Weighing.{Weighing}
use Rattle.step_core.specs.declared.weights.Weights.{Weights}
use Rattle.step_core.proofs.ConnectorChoices.{entry-of, entry-past-some, from-first, from-past, from_connector}
use Rattle.step_core.proofs.ConnectorRange.{few-single}
use Rattle.step_core.proofs.ConnectorWords.{all-possible}
use Rattle.step_core.proofs.Counted.{no_interaction, ways-within}
use Rattle.step_core.proofs.OwnRows.{in-order}
use Rattle.step_core.proofs.Weighed.{known-connectors, small-connectors, sum-of-weights}
use Rattle.step_core.proofs.weights.Weighing.choose.Goals as goal

module _ (w : Weighing) where
  abbrev all : List ChoiceDefinition
  all = choices_in (plant_of w.system.now).atoms w.states.now (interactions_in w.system.now) (contains w.kept.now)

  abbrev later : ℕ → List ChoiceDefinition
  later k = from_connector (plant_of w.system.now).atoms w.states.now (interactions_in w.system.now) (contains w.kept.now) k

  -- where a choice is among those of the connectors from one on, this one is there
  connector-there : (place connector left : ℕ) → place < length all → slice_get all place ≡ slice_get (later connector) left → connector < length (plant_of w.system.now).wires
  connector-there place connector left inside is =
      let nothing : ChoiceDefinition = record { connector = 0; mask = 0; moves = [] } in
      ⊎_elim
      (λ there. there)
      (λ past. absurd (none-some (get_or all place nothing)
      (sym (is ∙ ap (λ ys. slice_get ys left) (from-past (plant_of w.system.now).atoms w.states.now (interactions_in w.system.now) (contains w.kept.now) connector
      (λ n i at. omega (arith, known-connectors w.system.now n i at, past)))) ∙ slice_get-get_or all place nothing inside)))
      (cases_lt connector (length (plant_of w.system.now).wires))

  -- what is found is the choice of its interaction
  choice-found : (found : Option ChoiceDefinition) (number ways place : ℕ) (choice : ChoiceDefinition) → IsFound (plant_of w.system.now).atoms w.states.now (interactions_in w.system.now) found number ways place
      → ((i : Interaction) → slice_get (interactions_in w.system.now) number ≡ Some i → slice_get (choices_of (plant_of w.system.now).atoms w.states.now i) place ≡ Some choice) → found ≡ Some choice
  choice-found found number ways place choice is its =
      let some : place < ways_at (plant_of w.system.now).atoms w.states.now (interactions_in w.system.now) number = omega (arith, is.its_ways, is.inside) in
      let i : Interaction = get_or (interactions_in w.system.now) number no_interaction in
      let there : slice_get (interactions_in w.system.now) number ≡ Some i =
      slice_get-get_or (interactions_in w.system.now) number no_interaction (ways-within (plant_of w.system.now).atoms w.states.now (interactions_in w.system.now) number place some) in
      is.is i there ∙ its i there

-- there is such a place, since the weights of all connectors together are how many choices there are
pub find-at-requires-clause-place : goal.find-at-requires-clause-place
find-at-requires-clause-place c =
    let w = c.args.self.now in
    let s = w.system.now in
    let ws = c.args.weights.now in
    let are = c.requires.weights in
    omega (
      arith,
      c.requires.place,
      are.sums.total,
      sum-of-weights (plant_of s).atoms w.states.now (interactions_in s) (contains w.kept.now) ws.of_connectors (λ n i there. omega (arith, are.sums.many, small-connectors s n i there)) are.each,
    )

module _ (w : Weighing) (ws : Weights) (weighed : AreWeighed (plant_of w.system.now).atoms w.states.now (interactions_in w.system.now) (contains w.kept.now) ws)
    (place k own : ℕ) (inside : place < length (all w)) (found : IsAtConnector ws.of_connectors place k own) where
  abbrev atoms : List AtomDefinition
  atoms = (plant_of w.system.now).atoms

  abbrev kept : ℕ → Bool
  kept = contains w.kept.now

  -- the choice stands among those of the connectors from the found one on
  standing : slice_get (all w) place ≡ slice_get (later w k) own
  standing =
      let all_of = interactions_in w.system.now in
      let rest : place - sum_from ws.of_connectors 0 k ≡ own = omega (arith, found.behind) in
      let start : 0 + k ≡ k = omega arith in
      ap (λ ys. slice_get ys place) (sym (from-first atoms w.states.now all_of kept)) ∙
      entry-past-some atoms w.states.now all_of kept (in-order w.system.now) ws.of_connectors weighed.each 0 k place (omega (arith, found.behind)) ∙
      ap (slice_get (later w (0 + k))) rest ∙ ap (λ n. slice_get (later w n) own) start

  -- so this one is there
  there : k < length (plant_of w.system.now).wires
  there = connector-there w place k own inside standing

  -- and what is found of it is the choice
  chosen : (number ways at : ℕ) (choice : ChoiceDefinition) → IsFound atoms w.states.now (interactions_in w.system.now) (slice_get (choices_of_connector atoms w.states.now (interactions_in w.system.now) kept k) own) number ways at
      → ((i : Interaction) → slice_get (interactions_in w.system.now) number ≡ Some i → slice_get (choices_of atoms w.states.now i) at ≡ Some choice)
      → slice_get (all w) place ≡ Some choice
  chosen number ways at choice is its =
      standing ∙
      entry-of atoms w.states.now (interactions_in w.system.now) kept (in-order w.system.now) k own (omega (arith, found.inside, weighed.each k)) ∙
      choice-found w _ number ways at choice is its

pub overflow_cast-at : goal.overflow_cast-at
overflow_cast-at c =
    let k = c.find-at.result.connector in
    omega (arith, few-single c.args.self.now k (all-possible c.args.self.now k c.requires.possible) c.if-self-at-eq0.true, c.requires.weights.each k, c.find-at.ensures.inside)

pub nth_kept-requires-clause-connector : goal.nth_kept-requires-clause-connector
nth_kept-requires-clause-connector c = there c.args.self.now c.args.weights.now c.requires.weights c.args.place c.find-at.result.connector c.find-at.result.place c.requires.place c.find-at.ensures

pub nth_kept-requires-clause-possible : goal.nth_kept-requires-clause-possible
nth_kept-requires-clause-possible c = all-possible c.args.self.now c.find-at.result.connector c.requires.possible

pub found-requires-clause-connector : goal.found-requires-clause-connector
found-requires-clause-connector c = there c.args.self.now c.args.weights.now c.requires.weights c.args.place c.find-at.result.connector c.find-at.result.place c.requires.place c.find-at.ensures

pub found-requires-clause-possible : goal.found-requires-clause-possible
found-requires-clause-possible c = all-possible c.args.self.now c.find-at.result.connector c.requires.possible

pub returns-then-self-at-eq0 : goal.returns-then-self-at-eq0
returns-then-self-at-eq0 c =
    chosen c.args.self.now c.args.weights.now c.requires.weights c.args.place c.find-at.result.connector c.find-at.result.place c.requires.place c.find-at.ensures
    c.nth_kept.result 1 0 (choice_of c.choose_only.new.choice) c.nth_kept.ensures c.choose_only.ensures

pub returns-else-self-at-eq0 : goal.returns-else-self-at-eq0
returns-else-self-at-eq0 c =
    chosen c.args.self.now c.args.weights.now c.requires.weights c.args.place c.find-at.result.connector c.find-at.result.place c.requires.place c.find-at.ensures
    c.found.result.number c.found.result.ways c.found.result.place (choice_of c.choose_found.new.choice) c.found.ensures c.choose_found.ensures
