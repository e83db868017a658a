use Rattle.std.proofs.Common.{◌≡◌, ◌^◌, ◌<◌, ◌∙◌, ℕ, ap, sym, true, arith, ⊎_elim, w64}
use Rattle.std.specs.Prelude.{bit_and}
use Rattle.std.specs.FinSet.{contains}
use Rattle.std.specs.Int.{trailing_zeros}
use Rattle.std.proofs.Math.Bool.{Bool-set}
use Rattle.std.proofs.Math.Logic.{∥∥₁_elim}
use Rattle.std.proofs.lemmas.Bool.{and_from, and_parts, cases_Bool, false≢true, or_right}
use Rattle.std.proofs.lemmas.Nat.{and_le_r}
use Rattle.priority_filter.specs.Members.{has_bit}
use Rattle.priority_filter.proofs.Words.{bit-and}
use Rattle.plant_model.specs.System.{interactions_in, plant_of}
use Rattle.step_core.specs.Standing.{IsTied, is_always_below, is_always_overruled}
use Rattle.plant_model.proofs.BitsLeft.{lowest-set, no-bit}
use Rattle.step_core.proofs.Ranked.{head-above, over-by, whole-above, whole-there}
use Rattle.step_core.proofs.keeping.Keeping.is_out.Goals as goal

-- a connector in `whole` has a rival, which is above each
pub returns-then-rank-self-ne0-clause-out : goal.returns-then-rank-self-ne0-clause-out
returns-then-rank-self-ne0-clause-out c yes_ n own =
    let k = c.args.self.now in
    let system = k.system.now in
    let rank = c.args.rank.now in
    let rivals = contains k.rivals.now in
    let both = bit_and rank.whole k.standing.now.live in
    let some : 0 < both = omega (arith, c.if-rank-self-ne0.true) in
    let small : both < 2 ^ 64 = omega (arith, and_le_r rank.whole k.standing.now.live) in
    let e : ℕ = trailing_zeros w64 both in
    let bits = and_parts (has_bit rank.whole e) (has_bit k.standing.now.live e) (sym (bit-and rank.whole k.standing.now.live e) ∙ lowest-set both some small) in
    ∥∥₁_elim k.stands (Bool-set (is_always_overruled (plant_of system) (interactions_in system) rivals n) true)
    (λ stands.
    let there = whole-there system c.args.connector rank c.requires e bits.0 in
    let l : ℕ = there.1.0 in
    let up = whole-above system c.args.connector rank c.requires e n l bits.0 own there.1.1 in
    let rival = (stands.0 e (c.args.connector, l, n, (λ same. there.0 (sym same)), there.1.1, own, or_right (is_always_below (plant_of system) (interactions_in system) l n) (is_always_below (plant_of system) (interactions_in system) n l) up)).0 bits.1 in
    over-by system rivals n rival.0 rival.2 (whole-above system c.args.connector rank c.requires e n rival.0 bits.0 own rival.1))

-- a head that is a rival is above each
pub returns-else-rank-self-ne0-clause-out : goal.returns-else-rank-self-ne0-clause-out
returns-else-rank-self-ne0-clause-out c yes_ n own =
    let k = c.args.self.now in
    let system = k.system.now in
    ∥∥₁_elim k.stands (Bool-set (is_always_overruled (plant_of system) (interactions_in system) (contains k.rivals.now) n) true)
    (λ stands.
    let head = (stands.1.right c.args.connector n own).0 (sym c.has_connector.ensures ∙ yes_) in
    over-by system (contains k.rivals.now) n head.0 head.2 (head-above system n head.0 c.args.connector head.1 own))

-- where neither is so, what is above all of the connector is no rival
pub returns-else-rank-self-ne0-clause-free : goal.returns-else-rank-self-ne0-clause-free
returns-else-rank-self-ne0-clause-free c none =
    let k = c.args.self.now in
    let system = k.system.now in
    let all = interactions_in system in
    let rank = c.args.rank.now in
    let live = k.standing.now.live in
    record {
      whole = λ e n m own inside its. ⊎_elim
          (λ rival.
          let there = whole-there system c.args.connector rank c.requires e inside in
          let up = whole-above system c.args.connector rank c.requires e n m inside own its in
          let tied : IsTied (plant_of system) all e = (c.args.connector, m, n, (λ same. there.0 (sym same)), its, own, or_right (is_always_below (plant_of system) all m n) (is_always_below (plant_of system) all n m) up) in
          let lives : has_bit live e ≡ true = ∥∥₁_elim k.stands (Bool-set (has_bit live e) true) (λ stands. (stands.0 e tied).1 (m, its, rival)) in
          absurd (false≢true (sym (ap (λ w. has_bit w e) c.if-rank-self-ne0.false ∙ no-bit e) ∙ bit-and rank.whole live e ∙ and_from (has_bit rank.whole e) (has_bit live e) inside lives)))
          (λ no. no)
          (cases_Bool (contains k.rivals.now m));
      heads = λ n m own head. ⊎_elim
          (λ rival. absurd (false≢true (sym none ∙ c.has_connector.ensures ∙
          ∥∥₁_elim k.stands (Bool-set (has_bit k.standing.now.over c.args.connector) true) (λ stands. (stands.1.right c.args.connector n own).1 (m, head, rival)))))
          (λ no. no)
          (cases_Bool (contains k.rivals.now m));
    }
