use Rattle.std.proofs.Common.{◌≡◌, ◌*◌, ◌%◌, ◌^◌, ◌<◌, ◌∙◌, ℕ, ap, sym, length, true, arith, ⊎_elim}
use Rattle.std.specs.Prelude.{bit_or}
use Rattle.std.proofs.lemmas.Bool.{cases_eq, cases_lt, false≢true}
use Rattle.std.proofs.lemmas.List.{length-map}
use Rattle.priority_filter.specs.Members.{has_bit}
use Rattle.plant_model.specs.ConnectorRows.{is_of_connector}
use Rattle.plant_model.specs.System.{interactions_in, plant_of}
use Rattle.plant_model.specs.Wire.{wire_of}
use Rattle.step_core.proofs.OwnBits.{bit-set, bit-unset}
use Rattle.step_core.proofs.SystemConnectors.{few-connectors, of-there}
use Rattle.step_core.proofs.standing.live_of.Goals.{In-loop-connector, then-has_rival, else-has_rival}
use Rattle.step_core.proofs.standing.live_of.Goals as goal

-- the connectors are those of the loop
there : (c : In-loop-connector) → c.loop-connector.connector < length (plant_of c.args.system.now).wires
there c = omega (arith, c.loop-connector-test.true, c.len-connector-end.ensures, c.args.system.now.wires.ok.0, length-map c.args.system.now.wires.items wire_of)

pub has_rival-requires : goal.has_rival-requires
has_rival-requires c = there c

set-here : (live connector k : ℕ) → connector < 64 → k ≡ connector → has_bit (bit_or live (1 * 2 ^ connector % 2 ^ 64)) k ≡ true
set-here live connector k low same = ap (has_bit (bit_or live (1 * 2 ^ connector % 2 ^ 64))) same ∙ bit-set live connector low

pub loop-connector-preserved : goal.loop-connector-preserved
loop-connector-preserved c =
    let system = c.args.system.now in
    let connector = c.loop-connector.connector in
    let live = c.loop-connector.live in
    let before = c.loop-connector.invariant in
    let low : connector < 64 = omega (arith, there c.before.before, few-connectors system) in
    elim c.if-has_rival.branch [
      | then-has_rival w ↦ record {
        right = λ k below. ⊎_elim
            (λ same. (
              λ _. (let found = c.has_rival.ensures.0 w.if-has_rival.true in (found.0, ap (λ e. is_of_connector (interactions_in system) e found.0) same ∙ found.1, found.2)),
              λ _. ap (λ x. has_bit x k) w.live-is ∙ set-here live connector k low same,
            ))
            (λ other. let past = before.right k (omega (arith, below, other)) in (
              λ set. past.0 (sym (bit-unset live connector k low other) ∙ sym (ap (λ x. has_bit x k) w.live-is) ∙ set),
              λ rival. ap (λ x. has_bit x k) w.live-is ∙ bit-unset live connector k low other ∙ past.1 rival,
            ))
            (cases_eq k connector);
        none = λ k from. ap (λ x. has_bit x k) w.live-is ∙ bit-unset live connector k low (λ same. omega (arith, same, from)) ∙ before.none k (omega (arith, from));
      }
      | else-has_rival w ↦ record {
        right = λ k below. ⊎_elim
            (λ same. (
              λ set. absurd (false≢true (sym (ap (λ x. has_bit x k) w.live-is ∙ before.none k (omega (arith, same))) ∙ set)),
              λ rival. absurd (false≢true (sym w.if-has_rival.false ∙ c.has_rival.ensures.1 (rival.0, ap (λ e. is_of_connector (interactions_in system) e rival.0) (sym same) ∙ rival.1, rival.2))),
            ))
            (λ other. let past = before.right k (omega (arith, below, other)) in (
              λ set. past.0 (sym (ap (λ x. has_bit x k) w.live-is) ∙ set),
              λ rival. ap (λ x. has_bit x k) w.live-is ∙ past.1 rival,
            ))
            (cases_eq k connector);
        none = λ k from. ap (λ x. has_bit x k) w.live-is ∙ before.none k (omega (arith, from));
      }
    ]

pub returns : goal.returns
returns c k =
    let system = c.args.system.now in
    ⊎_elim
    (λ below. c.loop-connector.invariant.right k below)
    (λ from. (
      λ set. absurd (false≢true (sym (c.loop-connector.invariant.none k from) ∙ set)),
      λ rival. absurd (omega (arith, from, of-there system rival.0 k rival.1, c.loop-connector-test.false, c.len-connector-end.ensures, system.wires.ok.0, length-map system.wires.items wire_of)),
    ))
    (cases_lt k c.loop-connector.connector)
