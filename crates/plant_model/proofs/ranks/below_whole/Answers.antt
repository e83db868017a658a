use Rattle.std.proofs.Common.{◌≡◌, ◌∙◌, ℕ, Bool, false, ap, sym, refl, length, arith}
use Rattle.std.specs.Option.{option_map_or}
use Rattle.std.proofs.lemmas.Option.{slice_get_past, slice_get_read}
use Rattle.priority_filter.specs.Members.{has_bit}
use Rattle.plant_model.specs.Ranks.{has_whole}
use Rattle.plant_model.specs.declared.ranks.Shared.{Shared}
use Rattle.plant_model.proofs.Reaching.{bit-added, bit-passed, bits-over}
use Rattle.plant_model.proofs.ranks.below_whole.Goals as goal
use Rattle.plant_model.proofs.ranks.below_whole.Goals.{then-has_connector, else-has_connector}

pub loop-number-preserved : goal.loop-number-preserved
loop-number-preserved c k =
    let shared = c.args.shared.now in
    let n = c.loop-number.number in
    let word = c.loop-number.below in
    let test : ℕ → Bool = has_whole shared c.args.connector in
    let its = c.index-shared-number.result in
    let at = slice_get_read shared (length shared) n its refl c.loop-number-test.true c.index-shared-number.is in
    let is : test n ≡ c.has_connector.result = ap (λ o. option_map_or (λ (s : Shared). has_bit s.whole c.args.connector) o false) at ∙ ap (λ (s : Shared). has_bit s.whole c.args.connector) c.index-shared-number.is ∙ sym c.has_connector.ensures in
    elim c.if-has_connector.branch [
      | then-has_connector w ↦ ap (λ x. has_bit x k) w.below-is ∙ bit-added word n test c.loop-number.invariant (omega (arith, c.loop-number-test.true, c.requires)) (is ∙ w.if-has_connector.true) k
      | else-has_connector w ↦ ap (λ x. has_bit x k) w.below-is ∙ bit-passed word n test c.loop-number.invariant (is ∙ w.if-has_connector.false) k
    ]

pub returns : goal.returns
returns c =
    bits-over c.loop-number.below c.loop-number.number (has_whole c.args.shared.now c.args.connector) c.loop-number.invariant
    (λ k past. ap (λ o. option_map_or (λ (s : Shared). has_bit s.whole c.args.connector) o false) (slice_get_past c.args.shared.now k (omega (arith, past, c.loop-number-test.false))))
