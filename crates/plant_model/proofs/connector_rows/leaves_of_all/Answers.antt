use Rattle.std.proofs.Common.{◌≡◌, ◌<◌, ◌-◌, ◌*◌, ◌%◌, ◌^◌, ◌∙◌, ℕ, true, ap, sym, map, get_or, eqb, arith, ⊎_elim}
use Rattle.std.proofs.lemmas.Bool.{and_from, and_parts, both_ways, cases_lt}
use Rattle.std.proofs.lemmas.Nat.{one_shl}
use Rattle.std.proofs.lemmas.Nat.Bits.{bit_at_ones, bit_at_ones_above}
use Rattle.connector_tree.specs.Masks.{is_set}
use Rattle.priority_filter.proofs.Words.{bit-and}
use Rattle.plant_model.specs.Interaction.{interaction_of}
use Rattle.plant_model.specs.declared.interaction.Interaction.{Interaction}
use Rattle.plant_model.proofs.ByConnector.{in-all-less, in-all-more, kept-at}
use Rattle.plant_model.proofs.connector_rows.leaves_of_all.Goals as goal

-- the bits of the first leaves
module _ (leaves : ℕ) (few : leaves < 32) where
  first-are : (j : ℕ) → is_set (1 * 2 ^ leaves % 2 ^ 32 - 1) j ≡ is_set (2 ^ leaves - 1) j
  first-are j = ap (λ w. is_set (w - 1) j) (one_shl leaves 32 few)

  first-in : (j : ℕ) → j < leaves → is_set (1 * 2 ^ leaves % 2 ^ 32 - 1) j ≡ true
  first-in j below = first-are j ∙ ap (λ b. eqb b 1) (bit_at_ones leaves j below)

  first-out : (j : ℕ) → is_set (1 * 2 ^ leaves % 2 ^ 32 - 1) j ≡ true → j < leaves
  first-out j set =
      ⊎_elim
      (λ below. below)
      (λ past. absurd (both_ways (is_set (1 * 2 ^ leaves % 2 ^ 32 - 1) j) (first-are j ∙ ap (λ b. eqb b 1) (bit_at_ones_above leaves j past)) set))
      (cases_lt j leaves)

pub loop-number-init : goal.loop-number-init
loop-number-init c j =
    let few : c.args.leaves < 32 = omega (arith, c.requires.leaves) in (
      λ set. (first-out c.args.leaves few j set, λ n i from below there. absurd (omega (arith, from, below))),
      λ is. first-in c.args.leaves few j is.0,
    )

pub loop-number-preserved : goal.loop-number-preserved
loop-number-preserved c j =
    let items = c.args.interactions.now in
    let number = c.loop-number.number in
    let item = c.index-interactions-number.result in
    let all = map interaction_of items in
    let there = kept-at items number item (omega (arith, c.loop-number-test.true, c.requires.end)) c.index-interactions-number.is in
    let mask = (get_or items number item).mask in
    let its = ap (λ (x : Interaction). x.mask) c.index-interactions-number.is in
    let both = bit-and c.loop-number.all mask j in (
      λ set.
          let parts = and_parts (is_set c.loop-number.all j) (is_set mask j) (sym both ∙ set) in
          let before = (c.loop-number.invariant j).0 parts.0 in
          (before.0, in-all-more all j c.args.first number (interaction_of item) there before.1 (ap (λ m. is_set m j) its ∙ parts.1)),
      λ is.
          let less = in-all-less all j c.args.first number (interaction_of item) there c.loop-number.auto.number is.1 in
          both ∙ and_from (is_set c.loop-number.all j) (is_set mask j) ((c.loop-number.invariant j).1 (is.0, less.0)) (ap (λ m. is_set m j) (sym its) ∙ less.1),
    )
