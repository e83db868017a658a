use Rattle.std.proofs.Common.{◌≡◌, ◌∙◌, ◌||◌, Bool, true, false, refl, ap, sym, subst, map}
use Rattle.std.specs.Prelude.{Some}
use Rattle.std.specs.FinSet.{contains, contains-empty}
use Rattle.std.specs.Ordering.{nat_cmp}
use Rattle.plant_model.specs.System.{interactions_in, plant_of}
use Rattle.step_core.specs.EnabledTransitions.{AreMovable, AreOffered}
use Rattle.step_core.specs.Possible.{ArePossible}
use Rattle.step_core.specs.Standing.{IsStanding}
use Rattle.step_core.specs.Weights.{AreWeighed}
use Rattle.step_core.proofs.NoneAway.{marked-same, shown-whole, sure-same}
use Rattle.step_core.proofs.Openness.{all-some, none-open, whole-present}
use Rattle.step_core.proofs.sure.judge_sure.Goals as goal

or-none : (b : Bool) → (b || false) ≡ b
or-none true = refl
or-none false = refl

pub returns : goal.returns
returns c =
    let plant = plant_of c.args.system.now in
    let states = c.args.states.now in
    let all = interactions_in c.args.system.now in
    let judged = c.judge-judgement.ensures in
    let j = c.judge-judgement.result in
    let shown = sym (shown-whole states) in
    record {
      offered = subst (λ ss. AreOffered plant.atoms ss j.offers.sets) shown judged.offered;
      movable = subst (λ ss. AreMovable plant.atoms ss j.offers.movable) shown judged.movable;
      counted = judged.counted;
      leaves = judged.leaves;
      possible = subst (λ ss. ArePossible plant.atoms plant.wires ss all j.possible) shown judged.possible;
      seen = λ left right at there. judged.seen left right at there ∙ sym (marked-same plant states at);
      opened = λ n. ap (λ set. contains set n) c.new.ensures ∙ contains-empty nat_cmp n ∙ sym (none-open plant.atoms (map Some states) all (whole-present (map Some states) (all-some states)) n);
      rivals = λ n k its. ap (λ set. contains set n) c.copy-rivals.ensures ∙ sym (ap (λ b. contains j.possible n || b) (ap (λ set. contains set n) c.new.ensures ∙ contains-empty nat_cmp n) ∙ or-none (contains j.possible n));
      standing = subst (λ set. IsStanding plant all c.args.system.now.ranks (contains set) j.standing) (sym c.copy-rivals.ensures) judged.standing;
      sure = λ n. judged.allowed n ∙ sym (sure-same plant states all n);
      weights = subst (λ ss. AreWeighed plant.atoms ss all (contains j.kept) j.weights) shown judged.weights;
    }
