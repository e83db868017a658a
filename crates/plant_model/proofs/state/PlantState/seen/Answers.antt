use Rattle.std.proofs.Common.{ℕ, ◌<◌, not, ◌||◌, length, sym, ap, ◌∙◌, ⊎_elim, arith}
use Rattle.std.proofs.lemmas.Bool.{cases_eq, cases_lt}
use Rattle.std.proofs.lemmas.List.{length-set, length-replicate}
use Rattle.priority_filter.specs.Members.{has_bit}
use Rattle.plant_model.proofs.Sighted.{unseen, seen-past, written-here, written-other, marked-past}
use Rattle.plant_model.proofs.state.PlantState.seen.Goals as goal

pub loop-atom-init : goal.loop-atom-init
loop-atom-init c = record {
  long = length-replicate 64 unseen;
  done = λ at never. absurd (omega arith);
}

pub loop-atom-preserved : goal.loop-atom-preserved
loop-atom-preserved c =
    let seen = c.loop-atom.seen in
    let atom : ℕ = c.loop-atom.atom in
    let now = c.sight_of.result in
    let within : atom < length seen = omega (arith, c.loop-atom.invariant.long, c.loop-atom-test.true) in
    record {
      long = length-set seen atom now ∙ c.loop-atom.invariant.long;
      done = λ at below. ⊎_elim
          (λ here. written-here seen atom now at within here ∙ ap (λ b. not b || has_bit now.places at.place) c.sight_of.ensures.known ∙ c.sight_of.ensures.places at here)
          (λ other. written-other seen atom now at other ∙ c.loop-atom.invariant.done at (omega arith))
          (cases_eq at.atom atom);
    }

pub returns-clause-shown : goal.returns-clause-shown
returns-clause-shown c = λ at shown. c.loop-atom.invariant.done at (omega (arith, shown, c.loop-atom-test.false))

pub returns-clause-all : goal.returns-clause-all
returns-clause-all c = λ few at.
    ⊎_elim
    (λ shown. c.loop-atom.invariant.done at (omega (arith, shown, c.loop-atom-test.false)))
    (λ past. seen-past c.loop-atom.seen at (omega (arith, past, c.loop-atom.invariant.long)) ∙ sym (marked-past c.args.self.now at (omega (arith, past, few))))
    (cases_lt at.atom 64)
