-- How many brackets are open after tokens.
use Rattle.std.proofs.Common.{◌≡◌, ℕ, ◌+◌, ◌-◌, ◌<◌, ◌≤◌, ◌==◌, Bool, true, false, if◌then◌else◌, List, length, get_or, drop, Option, Some, None, IsSome, refl, ap, sym, ◌∙◌, arith}
use Rattle.std.proofs.lemmas.Bool.{both_ways}
use Rattle.std.proofs.lemmas.List.{drop_more}
use Rattle.std.specs.Option.{option_map_or}
use Rattle.connector_tree.specs.declared.token.Token.{Token}
use Rattle.connector_tree.specs.declared.token.Token.TheVariants.{Leaf, Open, Close}
use Rattle.connector_tree.specs.Tokens.{level_after, is_balanced}

is_some : (o : Option ℕ) (test : ℕ → Bool) → option_map_or test o false ≡ true → IsSome o
is_some None test h = absurd (both_ways false refl h)
is_some (Some level) test h = refl

-- if brackets are balanced after some tokens, the next token closes none that isn't open
pub next_level : (i level : ℕ) (tokens : List Token) (token : Token) → i < length tokens → is_balanced level (drop i tokens) ≡ true → IsSome (level_after (get_or tokens i token) level)
next_level i level tokens token within balanced =
    is_some (level_after (get_or tokens i token) level) (λ next. is_balanced next (drop (i + 1) tokens))
    (ap (is_balanced level) (sym (drop_more tokens i token within)) ∙ balanced)

-- two numbers that are there
pub some_same : (m n : ℕ) → ◌≡◌ {A = Option ℕ} (Some m) (Some n) → m ≡ n
some_same m n is = cc

one_level_less : (none : Bool) (level next : ℕ) → (if none then None else Some (level - 1)) ≡ Some next → next ≤ level + 1
one_level_less true level next is = absurd (cc)
one_level_less false level next is = let same : level - 1 ≡ next = some_same (level - 1) next is in omega (arith, same)

-- no more than one bracket more is open after a token
pub one_level_more : (token : Token) (level next : ℕ) → level_after token level ≡ Some next → next ≤ level + 1
one_level_more (Leaf port trigger) level next is = let same : level ≡ next = some_same level next is in omega (arith, same)
one_level_more Open level next is = let same : level + 1 ≡ next = some_same (level + 1) next is in omega (arith, same)
one_level_more (Close trigger) level next is = one_level_less (level == 0) level next is
