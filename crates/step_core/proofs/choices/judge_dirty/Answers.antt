use Rattle.std.proofs.Common.{◌≡◌, ◌∙◌, ◌<◌, ◌^◌, ℕ, ap, sym, refl, length, false, arith, ⊎_elim, w64}
use Rattle.std.specs.Int.{trailing_zeros}
use Rattle.std.specs.Option.{option_map_or}
use Rattle.std.proofs.lemmas.Bool.{cases_lt}
use Rattle.std.proofs.lemmas.Option.{slice_get_past}
use Rattle.priority_filter.specs.Members.{has_bit}
use Rattle.plant_model.specs.Choice.{is_possible, is_possible_at}
use Rattle.plant_model.specs.ConnectorRows.{is_of_connector}
use Rattle.plant_model.specs.System.{interactions_in, plant_of}
use Rattle.plant_model.proofs.OfConnector.{has-connector}
use Rattle.plant_model.proofs.WithoutLowest.{fewer-less}
use Rattle.plant_model.proofs.BitsLeft.{lowest-there, no-bit}
use Rattle.step_core.proofs.NextConnector.{left-within, past-next, right-next}
use Rattle.step_core.proofs.ToldConnectors.{told-more, told-still, within-more}
use Rattle.step_core.proofs.choices.judge_dirty.Goals as goal

pub loop-left-init : goal.loop-left-init
loop-left-init c = (c.requires.within, c.requires.others, c.requires.past, λ k past. no-bit k, λ n k its out. refl)

pub judge_connector-requires-clause-connector : goal.judge_connector-requires-clause-connector
judge_connector-requires-clause-connector c =
    lowest-there c.loop-left.left (omega (arith, c.loop-left-test.true)) (omega arith) (length (plant_of c.args.system.now).wires) c.loop-left.left c.loop-left.invariant.0 (λ k inside. inside)

pub loop-left-smaller-then-judge_connector : goal.loop-left-smaller-then-judge_connector
loop-left-smaller-then-judge_connector c = fewer-less w64 c.loop-left.left (omega (arith, c.loop-left-test.true)) (omega arith)

pub loop-left-smaller : goal.loop-left-smaller
loop-left-smaller c = fewer-less w64 c.loop-left.left (omega (arith, c.loop-left-test.true)) (omega arith)

pub loop-left-preserved-then-judge_connector : goal.loop-left-preserved-then-judge_connector
loop-left-preserved-then-judge_connector c =
    let system = c.args.system.now in
    let left = c.loop-left.left in
    let some : 0 < left = omega (arith, c.loop-left-test.true) in
    let small : left < 2 ^ 64 = omega arith in
    let before = c.loop-left.invariant in
    let one = c.judge_connector in
    let told = c.loop-left.changed in
    let old = c.args.possible.now in
    let between = c.loop-left.possible in
    let can = is_possible_at (plant_of system).atoms (plant_of system).wires c.args.states.now (interactions_in system) in
    let there = lowest-there left some small (length (plant_of system).wires) left before.0 (λ k inside. inside) in (
      left-within system can left some small between one.new.possible one.ensures.judged one.ensures.others (length (plant_of system).wires) before.0,
      right-next system can left some small between one.new.possible one.ensures.judged one.ensures.others before.1,
      past-next system can left some small between one.new.possible one.ensures.judged one.ensures.others before.2,
      within-more system told (trailing_zeros w64 left) there old between one.new.possible one.ensures.others before.4 before.3,
      told-more system told (trailing_zeros w64 left) there old between one.new.possible one.ensures.others before.4,
    )

pub loop-left-preserved : goal.loop-left-preserved
loop-left-preserved c =
    let system = c.args.system.now in
    let left = c.loop-left.left in
    let some : 0 < left = omega (arith, c.loop-left-test.true) in
    let small : left < 2 ^ 64 = omega arith in
    let before = c.loop-left.invariant in
    let one = c.judge_connector in
    let old = c.args.possible.now in
    let between = c.loop-left.possible in
    let can = is_possible_at (plant_of system).atoms (plant_of system).wires c.args.states.now (interactions_in system) in
    let there = lowest-there left some small (length (plant_of system).wires) left before.0 (λ k inside. inside) in (
      left-within system can left some small between one.new.possible one.ensures.judged one.ensures.others (length (plant_of system).wires) before.0,
      right-next system can left some small between one.new.possible one.ensures.judged one.ensures.others before.1,
      past-next system can left some small between one.new.possible one.ensures.judged one.ensures.others before.2,
      before.3,
      told-still system c.loop-left.changed (trailing_zeros w64 left) there old between one.new.possible one.ensures.others before.4 (one.ensures.same c.if-judge_connector.false),
    )

pub returns-clause-possible : goal.returns-clause-possible
returns-clause-possible c n =
    let system = c.args.system.now in
    let all = interactions_in system in
    let before = c.loop-left.invariant in
    let none : (k : ℕ) → has_bit c.loop-left.left k ≡ false = λ k. ap (λ w. has_bit w k) c.loop-left-test.false ∙ no-bit k in
    ⊎_elim
    (λ within.
    let found = has-connector (plant_of system) system.valid n (omega (arith, within, ap length system.listed)) in
    before.1 n found.0 (ap (λ xs. is_of_connector xs found.0 n) system.listed ∙ found.2) (none found.0))
    (λ past. before.2 n past ∙ sym (ap (λ o. option_map_or (is_possible (plant_of system).atoms (plant_of system).wires c.args.states.now) o false) (slice_get_past all n past)))
    (cases_lt n (length all))

pub returns-clause-changed_within : goal.returns-clause-changed_within
returns-clause-changed_within c = c.loop-left.invariant.3

pub returns-clause-same : goal.returns-clause-same
returns-clause-same c = c.loop-left.invariant.4
