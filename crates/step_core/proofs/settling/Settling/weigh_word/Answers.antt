use Rattle.std.proofs.Common.{◌≡◌, ◌∙◌, ℕ, sym, count_ones, eqb, true, arith, ⊎_elim}
use Rattle.std.specs.Prelude.{slice_index_or}
use Rattle.std.specs.FinSet.{contains}
use Rattle.std.proofs.lemmas.Bool.{and_parts, eqb-true, or_cases}
use Rattle.plant_model.specs.ConnectorRows.{is_of_connector}
use Rattle.plant_model.specs.System.{interactions_in, plant_of}
use Rattle.plant_model.specs.Ways.{ways_at}
use Rattle.step_core.specs.ChoicesIn.{AreAllPossible}
use Rattle.step_core.specs.Weights.{is_kept_of, weight_of}
use Rattle.step_core.proofs.BoundedWeights.{weight-bounded}
use Rattle.step_core.proofs.OneWord.{single-none, weight-word}
use Rattle.step_core.proofs.SingleChoices.{one-way}
use Rattle.step_core.proofs.settling.Settling.weigh_word.Goals.{Then-self-connector, Start}
use Rattle.step_core.proofs.settling.Settling.weigh_word.Goals as goal

-- what is kept of the connector is possible
all-possible : (c : Start) → AreAllPossible (plant_of c.args.self.now.system.now).atoms (plant_of c.args.self.now.system.now).wires c.args.self.now.states.now (interactions_in c.args.self.now.system.now) (is_kept_of (interactions_in c.args.self.now.system.now) (contains c.args.kept.now) c.args.connector)
all-possible c n yes_ =
    let s = c.args.self.now in
    let its = and_parts (contains c.args.kept.now n) (is_of_connector (interactions_in s.system.now) c.args.connector n) yes_ in
    sym (s.can n) ∙ (and_parts (contains s.possible.now n) _ (sym (c.requires.kept n its.1) ∙ its.0)).0

-- each has one choice, or there is none
counted : (c : Then-self-connector) → weight_of (plant_of c.args.self.now.system.now).atoms c.args.self.now.states.now (interactions_in c.args.self.now.system.now) (contains c.args.kept.now) c.args.connector ≡ count_ones c.args.word
counted c =
    let s = c.args.self.now in
    let system = s.system.now in
    let all = interactions_in system in
    let k = c.args.connector in
    let kept = contains c.args.kept.now in
    let possible = all-possible c.before.before in
    let each : (n : ℕ) → is_kept_of all kept k n ≡ true → ways_at (plant_of system).atoms s.states.now all n ≡ 1 =
    ⊎_elim
    (λ one. one-way system s.states.now s.offers.now.sets s.offers.now.counts s.leaves.now kept s.of_plant s.offering k possible (eqb-true (slice_index_or s.leaves.now.many k 0) 0 one))
    (λ none. single-none (plant_of system) all s.states.now k c.args.place c.requires.in_word kept possible c.args.word c.requires.word (eqb-true c.args.word 0 none))
    (or_cases (eqb (slice_index_or s.leaves.now.many k 0) 0) (eqb c.args.word 0) c.if-self-connector.true) in
    weight-word (plant_of system) all s.states.now k c.args.place c.requires.in_word kept possible c.args.word c.requires.word (omega arith) each

pub put_weight-requires-clause-few : goal.put_weight-requires-clause-few
put_weight-requires-clause-few c =
    let s = c.args.self.now in
    omega (arith, c.from.ensures, counted c.before.before, weight-bounded s.system.now s.states.now s.of_plant (contains c.args.kept.now) c.args.connector)

pub returns-then-self-connector-clause-weight : goal.returns-then-self-connector-clause-weight
returns-then-self-connector-clause-weight c = omega (arith, c.put_weight.ensures.weight, c.from.ensures, counted c.before.before.before)
