use Rattle.std.proofs.Common.{◌≡◌, ◌<◌, ◌-◌, ◌==◌, ◌&&◌, ◌||◌, ◌^◌, ◌∙◌, not, ℕ, Bool, ap, sym, refl, length, true, false, arith, ⊎_elim, w64, bit_and, bit_or}
use Rattle.std.specs.Int.{trailing_zeros}
use Rattle.std.proofs.lemmas.Bool.{and_parts, cases_Bool, cases_eq, eq-eqb, or_from}
use Rattle.petri_atom.proofs.Sets.{has-and, has-or}
use Rattle.priority_filter.specs.Members.{has_bit}
use Rattle.plant_model.specs.System.{plant_of}
use Rattle.plant_model.proofs.WithoutLowest.{fewer-less}
use Rattle.step_core.specs.Settling.{but}
use Rattle.plant_model.proofs.BitsLeft.{fewer-in, fewer-out, lowest-set, lowest-there, no-bit}
use Rattle.step_core.proofs.SettledBut.{fewer, one-settled}
use Rattle.step_core.proofs.alone.settle_alone.Goals as goal

never : (b : Bool) → (b && false) ≡ false
never true = refl
never false = refl

-- what is left at first is what is alone of one of two words
first-left : (one other alone left : Bool) → left ≡ ((one || other) && alone) → (one && (left || not alone)) ≡ false → one ≡ false
first-left false other alone left is none = refl
first-left true other true left is none = sym (ap (λ b. b || false) is) ∙ none
first-left true other false left is none = sym (ap (λ b. b || true) is) ∙ none

second-left : (one other alone left : Bool) → left ≡ ((one || other) && alone) → (other && (left || not alone)) ≡ false → other ≡ false
second-left one false alone left is none = refl
second-left true true true left is none = sym (ap (λ b. b || false) is) ∙ none
second-left true true false left is none = sym (ap (λ b. b || true) is) ∙ none
second-left false true true left is none = sym (ap (λ b. b || false) is) ∙ none
second-left false true false left is none = sym (ap (λ b. b || true) is) ∙ none

pub loop-left-init : goal.loop-left-init
loop-left-init c =
    let dirty = c.args.changes.dirty in
    let heavy = c.args.changes.heavy in
    let alone = c.args.alone in
    let word = bit_and (bit_or dirty heavy) alone in
    let is : (k : ℕ) → has_bit word k ≡ ((has_bit dirty k || has_bit heavy k) && has_bit alone k) = λ k. has-and (bit_or dirty heavy) alone k ∙ ap (λ b. b && has_bit alone k) (has-or dirty heavy k) in
    record {
      part = λ k inside. inside;
      settled = fewer c.args.system.now c.args.states.now (has_bit dirty) (has_bit heavy) c.args.judgement.now c.requires.settled
          (λ k. has_bit dirty k && (has_bit word k || not (has_bit alone k))) (λ k. has_bit heavy k && (has_bit word k || not (has_bit alone k)))
          (λ k none. first-left (has_bit dirty k) (has_bit heavy k) (has_bit alone k) (has_bit word k) (is k) none)
          (λ k none. second-left (has_bit dirty k) (has_bit heavy k) (has_bit alone k) (has_bit word k) (is k) none);
    }

pub loop-left-smaller : goal.loop-left-smaller
loop-left-smaller c = fewer-less w64 c.loop-left.left (omega (arith, c.loop-left-test.true)) (omega arith)

-- all that can be left
abbrev reached : (dirty heavy alone : ℕ) → ℕ
reached dirty heavy alone = bit_and (bit_or dirty heavy) alone

none-past : (dirty heavy alone k : ℕ) → has_bit dirty k ≡ false → has_bit heavy k ≡ false → has_bit (reached dirty heavy alone) k ≡ false
none-past dirty heavy alone k clean light =
    has-and (bit_or dirty heavy) alone k ∙ ap (λ b. b && has_bit alone k) (has-or dirty heavy k ∙ or_from (has_bit dirty k) (has_bit heavy k) clean light)

pub invariant_of-apart : goal.invariant_of-apart
invariant_of-apart c =
    let settled = c.loop-left.invariant.settled in
    record {
      of_plant = c.requires.of_plant;
      offering = record { offered = settled.offered; counted = settled.counted; leaves = settled.leaves };
    }

pub settle-requires-clause-connector : goal.settle-requires-clause-connector
settle-requires-clause-connector c =
    let changes = c.args.changes in
    lowest-there c.loop-left.left (omega (arith, c.loop-left-test.true)) (omega arith) (length (plant_of c.args.system.now).wires) (reached changes.dirty changes.heavy c.args.alone)
    (λ k past. none-past changes.dirty changes.heavy c.args.alone k (c.requires.within k past).0 (c.requires.within k past).1)
    c.loop-left.invariant.part

pub settle-requires-clause-alone : goal.settle-requires-clause-alone
settle-requires-clause-alone c =
    let changes = c.args.changes in
    let left = c.loop-left.left in
    let lowest = trailing_zeros w64 left in
    let inside = c.loop-left.invariant.part lowest (lowest-set left (omega (arith, c.loop-left-test.true)) (omega arith)) in
    c.requires.alone lowest (and_parts (has_bit (bit_or changes.dirty changes.heavy) lowest) (has_bit c.args.alone lowest) (sym (has-and (bit_or changes.dirty changes.heavy) c.args.alone lowest) ∙ inside)).1

pub settle-requires-clause-clean : goal.settle-requires-clause-clean
settle-requires-clause-clean c out n its =
    let lowest = trailing_zeros w64 c.loop-left.left in
    c.loop-left.invariant.settled.possible n lowest its (ap (λ b. b && (has_bit c.loop-left.left lowest || not (has_bit c.args.alone lowest))) (sym c.has_connector-is_dirty.ensures ∙ out))

pub settle-requires-clause-standing : goal.settle-requires-clause-standing
settle-requires-clause-standing c = c.loop-left.invariant.settled.standing

pub settle-requires-clause-kept : goal.settle-requires-clause-kept
settle-requires-clause-kept c = c.loop-left.invariant.settled.kept

pub settle-requires-clause-weight : goal.settle-requires-clause-weight
settle-requires-clause-weight c out =
    let lowest = trailing_zeros w64 c.loop-left.left in
    c.loop-left.invariant.settled.weights lowest (ap (λ b. b && (has_bit c.loop-left.left lowest || not (has_bit c.args.alone lowest))) (sym c.has_connector-is_heavy.ensures ∙ out))

pub settle-requires-clause-sums : goal.settle-requires-clause-sums
settle-requires-clause-sums c = c.loop-left.invariant.settled.sums

pub settle-requires-clause-bounded : goal.settle-requires-clause-bounded
settle-requires-clause-bounded c = c.loop-left.invariant.settled.bounded

-- what is left of a word but the lowest
module _ (word alone left : ℕ) (some : 0 < left) (small : left < 2 ^ 64) where
  abbrev connector : ℕ
  connector = trailing_zeros w64 left

  abbrev stale : ℕ → Bool
  stale k = has_bit word k && (has_bit left k || not (has_bit alone k))

  left-next : (k : ℕ) → (has_bit word k && (has_bit (bit_and left (left - 1)) k || not (has_bit alone k))) ≡ false → but connector stale k ≡ false
  left-next k none =
      ⊎_elim
      (λ same. ap (λ b. stale k && not b) (eq-eqb k connector same) ∙ never (stale k))
      (λ other. ap (λ b. b && not (k == connector))
      (⊎_elim
      (λ inside.
      ap (λ b. has_bit word k && (b || not (has_bit alone k))) (fewer-in left some small k inside) ∙
      sym (ap (λ b. has_bit word k && (b || not (has_bit alone k))) inside) ∙ none)
      (λ out.
      ap (λ b. has_bit word k && (b || not (has_bit alone k))) (fewer-out left some small k other out) ∙
      sym (ap (λ b. has_bit word k && (b || not (has_bit alone k))) out) ∙ none)
      (cases_Bool (has_bit (bit_and left (left - 1)) k))))
      (cases_eq k connector)

pub loop-left-preserved : goal.loop-left-preserved
loop-left-preserved c =
    let system = c.args.system.now in
    let states = c.args.states.now in
    let changes = c.args.changes in
    let alone = c.args.alone in
    let left = c.loop-left.left in
    let some : 0 < left = omega (arith, c.loop-left-test.true) in
    let small : left < 2 ^ 64 = omega arith in
    let lowest = trailing_zeros w64 left in
    let old = c.loop-left.judgement in
    let one = c.settle in
    let told = one.ensures in
    let settled = one-settled system states (stale changes.dirty alone left some small) (stale changes.heavy alone left some small) old c.loop-left.invariant.settled
    lowest one.new.possible one.new.kept one.new.weights told.judged told.others told.standing told.kept told.other_kept told.weight told.other_weights told.sums told.bounded in
    record {
      part = λ k inside. c.loop-left.invariant.part k (fewer-in left some small k inside);
      settled = fewer system states (but lowest (stale changes.dirty alone left some small)) (but lowest (stale changes.heavy alone left some small))
          (record { offers = old.offers; leaves = old.leaves; possible = one.new.possible; seen = old.seen; standing = old.standing; kept = one.new.kept; weights = one.new.weights }) settled
          (λ k. has_bit changes.dirty k && (has_bit (bit_and left (left - 1)) k || not (has_bit alone k))) (λ k. has_bit changes.heavy k && (has_bit (bit_and left (left - 1)) k || not (has_bit alone k)))
          (left-next changes.dirty alone left some small) (left-next changes.heavy alone left some small);
    }

pub returns : goal.returns
returns c =
    let changes = c.args.changes in
    let alone = c.args.alone in
    let left = c.loop-left.left in
    let none : (k : ℕ) → has_bit left k ≡ false = λ k. ap (λ w. has_bit w k) c.loop-left-test.false ∙ no-bit k in
    fewer c.args.system.now c.args.states.now (λ k. has_bit changes.dirty k && (has_bit left k || not (has_bit alone k))) (λ k. has_bit changes.heavy k && (has_bit left k || not (has_bit alone k)))
    c.loop-left.judgement c.loop-left.invariant.settled
    (λ k. has_bit changes.dirty k && not (has_bit alone k)) (λ k. has_bit changes.heavy k && not (has_bit alone k))
    (λ k out. ap (λ b. has_bit changes.dirty k && (b || not (has_bit alone k))) (none k) ∙ out)
    (λ k out. ap (λ b. has_bit changes.heavy k && (b || not (has_bit alone k))) (none k) ∙ out)
