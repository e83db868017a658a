use Rattle.std.proofs.Common.{◌≡◌, ◌<◌, ◌^◌, ◌&&◌, ◌∙◌, not, ℕ, sym, ap, false, arith, ⊎_elim, w64}
use Rattle.std.specs.Prelude.{bit_and}
use Rattle.std.specs.Int.{bit_not}
use Rattle.std.proofs.lemmas.Bool.{cases_lt, or_parts}
use Rattle.std.proofs.lemmas.Nat.{and_le_l}
use Rattle.petri_atom.proofs.Sets.{has-or}
use Rattle.priority_filter.specs.Members.{has_bit}
use Rattle.priority_filter.proofs.Words.{no-bit-past}
use Rattle.plant_model.proofs.BitsLeft.{no-bit}
use Rattle.plant_model.proofs.WordSets.{bit-without}
use Rattle.step_core.proofs.Ranked.{stands-alone}
use Rattle.step_core.proofs.SettledBut.{fewer, judged}
use Rattle.step_core.proofs.Unsettled.{settled-but}
use Rattle.step_core.proofs.settling.settle.Goals as goal

pub settle_alone-requires-clause-within : goal.settle_alone-requires-clause-within
settle_alone-requires-clause-within c = c.requires.unsettled.within

pub settle_alone-requires-clause-alone : goal.settle_alone-requires-clause-alone
settle_alone-requires-clause-alone c k alone = stands-alone c.args.system.now k alone

pub settle_alone-requires-clause-settled : goal.settle_alone-requires-clause-settled
settle_alone-requires-clause-settled c =
    settled-but c.args.system.now c.args.states.now c.requires.of_plant c.args.changes c.args.is_seen_new c.args.judgement.now c.requires.unsettled
    (c.has_conditions.ensures c.if-has_conditions.false)

-- the bits that a word has without those of another
without : (word other k : ℕ) → word < 2 ^ 64 → other < 2 ^ 64 → has_bit (bit_and word (bit_not w64 other)) k ≡ (has_bit word k && not (has_bit other k))
without word other k small fits =
    ⊎_elim
    (λ low. bit-without word other k fits low)
    (λ past.
    no-bit-past (bit_and word (bit_not w64 other)) k (omega (arith, and_le_l word (bit_not w64 other), small)) past ∙ sym (ap (λ b. b && not (has_bit other k)) (no-bit-past word k small past)))
    (cases_lt k 64)

pub settle_others-requires-clause-within : goal.settle_others-requires-clause-within
settle_others-requires-clause-within c k past =
    let changes = c.args.changes in
    let alone = c.args.system.now.ranks.alone in
    let within = c.requires.unsettled.within k past in (
      without changes.dirty alone k (omega arith) (omega arith) ∙ ap (λ b. b && not (has_bit alone k)) within.0,
      without changes.heavy alone k (omega arith) (omega arith) ∙ ap (λ b. b && not (has_bit alone k)) within.1,
    )

pub settle_others-requires-clause-settled : goal.settle_others-requires-clause-settled
settle_others-requires-clause-settled c =
    let changes = c.args.changes in
    let alone = c.args.system.now.ranks.alone in
    fewer c.args.system.now c.args.states.now (λ k. has_bit changes.dirty k && not (has_bit alone k)) (λ k. has_bit changes.heavy k && not (has_bit alone k)) c.settle_alone.new.judgement c.settle_alone.ensures
    (has_bit (bit_and changes.dirty (bit_not w64 alone))) (has_bit (bit_and changes.heavy (bit_not w64 alone)))
    (λ k out. sym (without changes.dirty alone k (omega arith) (omega arith)) ∙ out)
    (λ k out. sym (without changes.heavy alone k (omega arith) (omega arith)) ∙ out)

pub returns-then-others-ne0 : goal.returns-then-others-ne0
returns-then-others-ne0 c = judged c.args.system.now c.args.states.now c.settle_others.new.judgement c.settle_others.ensures (c.has_conditions.ensures c.if-has_conditions.false)

-- where no other connector is reached, nothing is left
pub returns-else-others-ne0 : goal.returns-else-others-ne0
returns-else-others-ne0 c =
    let changes = c.args.changes in
    let alone = c.args.system.now.ranks.alone in
    let dirty = bit_and changes.dirty (bit_not w64 alone) in
    let heavy = bit_and changes.heavy (bit_not w64 alone) in
    let none : (k : ℕ) → (has_bit dirty k ≡ false) × (has_bit heavy k ≡ false) =
    λ k. or_parts (has_bit dirty k) (has_bit heavy k) (sym (has-or dirty heavy k) ∙ ap (λ w. has_bit w k) c.if-others-ne0.false ∙ no-bit k) in
    judged c.args.system.now c.args.states.now c.settle_alone.new.judgement
    (fewer c.args.system.now c.args.states.now (λ k. has_bit changes.dirty k && not (has_bit alone k)) (λ k. has_bit changes.heavy k && not (has_bit alone k)) c.settle_alone.new.judgement c.settle_alone.ensures
    (λ _. false) (λ _. false)
    (λ k _. sym (without changes.dirty alone k (omega arith) (omega arith)) ∙ (none k).0)
    (λ k _. sym (without changes.heavy alone k (omega arith) (omega arith)) ∙ (none k).1))
    (c.has_conditions.ensures c.if-has_conditions.false)
