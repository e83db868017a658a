use Rattle.std.proofs.Common.{◌≡◌, ◌<◌, ◌==◌, ◌&&◌, ◌||◌, ◌^◌, ◌∙◌, not, ℕ, Bool, ap, sym, refl, length, true, false, arith, ⊎_elim, w64}
use Rattle.std.specs.Prelude.{bit_or, slice_index_or}
use Rattle.std.specs.FinSet.{contains}
use Rattle.std.specs.Int.{trailing_zeros}
use Rattle.std.specs.Option.{option_map_or}
use Rattle.std.proofs.lemmas.Bool.{and_from, cases_Bool, cases_eq, cases_lt, false≢true, or_from}
use Rattle.std.proofs.lemmas.Option.{slice_get_past}
use Rattle.petri_atom.proofs.Sets.{has-or}
use Rattle.priority_filter.specs.Members.{has_bit}
use Rattle.plant_model.specs.Choice.{Interaction}
use Rattle.plant_model.specs.ConnectorRows.{is_of_connector}
use Rattle.plant_model.specs.System.{interactions_in, plant_of}
use Rattle.plant_model.proofs.WithoutLowest.{fewer-less}
use Rattle.step_core.specs.Standing.{is_always_overruled}
use Rattle.step_core.specs.Weights.{weight_of}
use Rattle.plant_model.proofs.BitsLeft.{fewer, fewer-in, fewer-out, lowest-there, no-bit}
use Rattle.step_core.proofs.BoundedWeights.{weight-same}
use Rattle.step_core.proofs.Openness.{none-possible}
use Rattle.step_core.proofs.Ranked.{connector-of, of-no-other}
use Rattle.step_core.proofs.settling.Settling.settle_all.Goals as goal

pub loop-left-init : goal.loop-left-init
loop-left-init c =
    let affected = c.args.affected in
    let heavy = c.args.heavy in
    -- of the word that is left at first those that are not both in it and in one of the two are not in that one
    let out : (one other : Bool) → ((one || other) && one) ≡ false → one ≡ false = λ one other. first-out one other in
    let second : (one other : Bool) → ((one || other) && other) ≡ false → other ≡ false = λ one other. second-out one other in
    record {
      part = λ k inside. inside;
      kept = λ n k its none. c.requires.kept n k its (out (has_bit affected k) (has_bit heavy k) (ap (λ b. b && has_bit affected k) (sym (has-or affected heavy k)) ∙ none));
      past = c.requires.past;
      weights = λ k none. c.requires.weights k (second (has_bit affected k) (has_bit heavy k) (ap (λ b. b && has_bit heavy k) (sym (has-or affected heavy k)) ∙ none));
      sums = c.requires.sums;
      bounded = c.requires.bounded;
    }
  where
    first-out : (one other : Bool) → ((one || other) && one) ≡ false → one ≡ false
    first-out false other none = refl
    first-out true other none = none

    second-out : (one other : Bool) → ((one || other) && other) ≡ false → other ≡ false
    second-out one false none = refl
    second-out true true none = none
    second-out false true none = none

-- what is left are connectors
pub settle_one-requires-clause-connector : goal.settle_one-requires-clause-connector
settle_one-requires-clause-connector c =
    lowest-there c.loop-left.left (omega (arith, c.loop-left-test.true)) (omega arith) (length (plant_of c.args.self.now.system.now).wires) (bit_or c.args.affected c.args.heavy)
    (λ k past. has-or c.args.affected c.args.heavy k ∙ or_from (has_bit c.args.affected k) (has_bit c.args.heavy k) (c.requires.affected_within k past) (c.requires.heavy_within k past))
    c.loop-left.invariant.part

never : (b : Bool) → (b && false) ≡ false
never true = refl
never false = refl

pub settle_one-requires-clause-kept : goal.settle_one-requires-clause-kept
settle_one-requires-clause-kept c out n its =
    let lowest = trailing_zeros w64 c.loop-left.left in
    c.loop-left.invariant.kept n lowest its (ap (λ b. has_bit c.loop-left.left lowest && b) (sym c.has_connector-is_affected.ensures ∙ out) ∙ never (has_bit c.loop-left.left lowest))

pub settle_one-requires-clause-weight : goal.settle_one-requires-clause-weight
settle_one-requires-clause-weight c out =
    let lowest = trailing_zeros w64 c.loop-left.left in
    c.loop-left.invariant.weights lowest (ap (λ b. has_bit c.loop-left.left lowest && b) (sym c.has_connector-is_heavy.ensures ∙ out) ∙ never (has_bit c.loop-left.left lowest))

pub loop-left-smaller : goal.loop-left-smaller
loop-left-smaller c = fewer-less w64 c.loop-left.left (omega (arith, c.loop-left-test.true)) (omega arith)

pub loop-left-preserved : goal.loop-left-preserved
loop-left-preserved c =
    let s = c.args.self.now in
    let system = s.system.now in
    let all = interactions_in system in
    let left = c.loop-left.left in
    let some : 0 < left = omega (arith, c.loop-left-test.true) in
    let small : left < 2 ^ 64 = omega arith in
    let connector = trailing_zeros w64 left in
    let before = c.loop-left.invariant in
    let one = c.settle_one in
    let between = c.loop-left.kept in
    let new = one.new.kept in
    -- of another one that is not left in a word now it was not before
    let still : (k : ℕ) (x : Bool) → (k ≡ connector → ⊥) → (has_bit (fewer left some small) k && x) ≡ false → (has_bit left k && x) ≡ false =
    λ k x other none. ⊎_elim
    (λ inside. ap (λ b. has_bit left k && b) (⊎_elim
    (λ yes_. absurd (other (⊎_elim (λ same. same) (λ apart. absurd (false≢true (sym none ∙ both k x yes_ (⊎_elim (λ there. there) (λ gone. absurd (false≢true (sym (fewer-out left some small k apart gone) ∙ inside))) (cases_Bool (has_bit (fewer left some small) k)))))) (cases_eq k connector))))
    (λ no. no) (cases_Bool x)) ∙ never (has_bit left k))
    (λ out. ap (λ b. b && x) out)
    (cases_Bool (has_bit left k)) in
    record {
      part = λ k inside. before.part k (fewer-in left some small k inside);
      kept = λ n k its none. ⊎_elim
          (λ same. one.ensures.kept n (ap (λ j. is_of_connector all j n) (sym same) ∙ its))
          (λ other. one.ensures.others n (of-no-other system n k connector its other) ∙ before.kept n k its (still k (has_bit c.args.affected k) other none))
          (cases_eq k connector);
      past = λ n behind. one.ensures.others n (ap (λ o. option_map_or (λ (i : Interaction). i.connector == connector) o false) (slice_get_past all n behind)) ∙ before.past n behind;
      weights = λ k none. ⊎_elim
          (λ same. ap (λ j. slice_index_or one.new.weights.of_connectors j 0) same ∙ one.ensures.weight ∙ ap (weight_of (plant_of system).atoms s.states.now all (contains new)) (sym same))
          (λ other. one.ensures.other_weights k other ∙ before.weights k (still k (has_bit c.args.heavy k) other none) ∙
          sym (weight-same (plant_of system).atoms s.states.now all (contains between) (contains new) k (λ n its. one.ensures.others n (of-no-other system n k connector its other))))
          (cases_eq k connector);
      sums = one.ensures.sums;
      bounded = one.ensures.bounded;
    }
  where
    both : (k : ℕ) (x : Bool) {y : Bool} → x ≡ true → y ≡ true → (y && x) ≡ true
    both k x is there = and_from _ x there is

pub returns-clause-kept : goal.returns-clause-kept
returns-clause-kept c n =
    let s = c.args.self.now in
    let system = s.system.now in
    let all = interactions_in system in
    ⊎_elim
    (λ inside.
    let own = connector-of system n inside in
    c.loop-left.invariant.kept n own.0 own.2 (ap (λ b. b && has_bit c.args.affected own.0) (ap (λ w. has_bit w own.0) c.loop-left-test.false ∙ no-bit own.0)))
    (λ past. c.loop-left.invariant.past n past ∙
    sym (ap (λ b. b && not (is_always_overruled (plant_of system) all (contains s.possible.now) n)) (s.can n ∙ none-possible (plant_of system) s.states.now all n past)))
    (cases_lt n (length all))

pub returns-clause-weights : goal.returns-clause-weights
returns-clause-weights c = record {
  each = λ k. c.loop-left.invariant.weights k (ap (λ b. b && has_bit c.args.heavy k) (ap (λ w. has_bit w k) c.loop-left-test.false ∙ no-bit k));
  sums = c.loop-left.invariant.sums;
}
