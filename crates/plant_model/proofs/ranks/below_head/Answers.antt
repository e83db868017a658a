use Rattle.std.proofs.Common.{◌≡◌, ◌∙◌, ℕ, Bool, false, ap, sym, refl, length, arith}
use Rattle.std.specs.FinSet.{contains}
use Rattle.std.specs.Option.{option_map_or}
use Rattle.std.proofs.lemmas.Option.{slice_get_past, slice_get_read}
use Rattle.priority_filter.specs.Members.{has_bit}
use Rattle.plant_model.specs.Ranks.{is_head_at}
use Rattle.plant_model.specs.declared.ranks.Shared.{Shared}
use Rattle.plant_model.proofs.Reaching.{bit-added, bit-passed, bits-over}
use Rattle.plant_model.proofs.ranks.below_head.Goals as goal
use Rattle.plant_model.proofs.ranks.below_head.Goals.{then-contains, else-contains}

pub loop-number-preserved : goal.loop-number-preserved
loop-number-preserved c k =
    let shared = c.args.shared.now in
    let n = c.loop-number.number in
    let word = c.loop-number.below in
    let test : ℕ → Bool = is_head_at shared c.args.interaction in
    let its = c.index-shared-number.result in
    let at = slice_get_read shared (length shared) n its refl c.loop-number-test.true c.index-shared-number.is in
    let is : test n ≡ c.contains.result = ap (λ o. option_map_or (λ (s : Shared). contains s.heads c.args.interaction) o false) at ∙ ap (λ (s : Shared). contains s.heads c.args.interaction) c.index-shared-number.is ∙ sym c.contains.ensures.held in
    elim c.if-contains.branch [
      | then-contains w ↦ ap (λ x. has_bit x k) w.below-is ∙ bit-added word n test c.loop-number.invariant (omega (arith, c.loop-number-test.true, c.requires)) (is ∙ w.if-contains.true) k
      | else-contains w ↦ ap (λ x. has_bit x k) w.below-is ∙ bit-passed word n test c.loop-number.invariant (is ∙ w.if-contains.false) k
    ]

pub returns : goal.returns
returns c =
    bits-over c.loop-number.below c.loop-number.number (is_head_at c.args.shared.now c.args.interaction) c.loop-number.invariant
    (λ k past. ap (λ o. option_map_or (λ (s : Shared). contains s.heads c.args.interaction) o false) (slice_get_past c.args.shared.now k (omega (arith, past, c.loop-number-test.false))))
