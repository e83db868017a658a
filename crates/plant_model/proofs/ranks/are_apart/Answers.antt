use Rattle.std.proofs.Common.{ap, not}
use Rattle.std.proofs.lemmas.Bool.{and_from, and_parts, not-true}
use Rattle.plant_model.proofs.ranks.are_apart.Goals as goal

pub returns : goal.returns
returns c =
    let one = c.is_some_above in
    let other = c.is_some_above-2 in (
      λ apart.
          let parts = and_parts (not one.result) (not other.result) apart in
          λ n m own its. (one.ensures.0 (not-true one.result parts.0) n m own its, other.ensures.0 (not-true other.result parts.1) m n its own),
      λ none.
          and_from (not one.result) (not other.result)
          (ap not (one.ensures.1 (λ n m own its. (none n m own its).0)))
          (ap not (other.ensures.1 (λ m n its own. (none n m own its).1))),
    )
