-- The levels of operators, one after the other.
use Rattle.std.proofs.Common.{◌≡◌, ◌∙◌, ap, ℕ, suc, ◌+◌, ◌-◌, ◌<◌, arith, List, Option, Some, None}
use Rattle.std.specs.Option.{option_map_or}
use Rattle.shown_fault.specs.Prefix.{last_at, loosest}

-- a level has no operator, and the next ones are left
pub one_level : (count level : ℕ) (tokens : List (List ℕ)) → level < count → last_at None level 0 0 tokens ≡ None →
    loosest (count - level) level tokens ≡ loosest (count - (level + 1)) (level + 1) tokens
one_level count level tokens more none =
    let left : count - level ≡ suc (count - (level + 1)) = omega arith in
    ap (λ n. loosest n level tokens) left ∙
    ap (λ (found : Option ℕ). option_map_or (λ place. Some (level, place)) found (loosest (count - (level + 1)) (level + 1) tokens)) none
