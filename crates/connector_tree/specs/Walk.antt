-- What one walk down a tree finds of a choice of its leaves, given as a test of leaf numbers.
use Rattle.std.specs.Prelude.{ℕ, ◌+◌, Bool, true, false, ◌||◌, ◌&&◌, not, if◌then◌else◌, List, [], ◌∷◌}
use Rattle.std.specs.List.{list_any}
use Rattle.connector_tree.specs.Masks.{is_set}
use Rattle.connector_tree.specs.Tree.{Tree, no_child, child, Branch, leaf, bracket}

-- of a branch: its number of leaves; whether one of them is chosen; whether the chosen ones are one of its sets
pub record Seen : Type 0 where
  pub count : ℕ
  pub some : (ℕ → Bool) → ℕ → Bool
  pub takes : (ℕ → Bool) → ℕ → Bool

pub record SeenChild : Type 0 where
  pub trigger : Bool
  pub seen : Seen

abbrev pub count_all : List SeenChild → ℕ
count_all [] = 0
count_all (c ∷ cs) = c.seen.count + count_all cs

-- some leaf is chosen
abbrev pub some_all : (ℕ → Bool) → ℕ → List SeenChild → Bool
some_all f at [] = false
some_all f at (c ∷ cs) = c.seen.some f at || some_all f (at + c.seen.count) cs

-- each child has one of its sets
abbrev pub every_takes : (ℕ → Bool) → ℕ → List SeenChild → Bool
every_takes f at [] = true
every_takes f at (c ∷ cs) = c.seen.takes f at && every_takes f (at + c.seen.count) cs

-- each child has one of its sets, or none of its leaves
abbrev pub every_may : (ℕ → Bool) → ℕ → List SeenChild → Bool
every_may f at [] = true
every_may f at (c ∷ cs) = (c.seen.takes f at || not (c.seen.some f at)) && every_may f (at + c.seen.count) cs

-- some trigger has one of its sets
abbrev pub some_leads : (ℕ → Bool) → ℕ → List SeenChild → Bool
some_leads f at [] = false
some_leads f at (c ∷ cs) = (c.trigger && c.seen.takes f at) || some_leads f (at + c.seen.count) cs

abbrev pub takes_all : (ℕ → Bool) → ℕ → List SeenChild → Bool
takes_all f at cs =
    if list_any (λ c. c.trigger) cs then every_may f at cs && some_leads f at cs
    else every_takes f at cs

-- what a walk sees of a bracket with these children
abbrev pub seen_all : List SeenChild → Seen
seen_all cs = record {
  count = count_all cs;
  some = λ f at. some_all f at cs;
  takes = λ f at. takes_all f at cs;
}

abbrev mutual
  pub seen_children : Tree → List SeenChild
  seen_children no_child = []
  seen_children (child trigger branch rest) = record { trigger = trigger; seen = seen branch } ∷ seen_children rest

  pub seen : Branch → Seen
  seen (leaf atom port) = record { count = 1; some = λ f at. f at; takes = λ f at. f at }
  seen (bracket tree) = seen_all (seen_children tree)

-- whether the walk over the bits of a mask takes the chosen leaves
abbrev pub takes : Tree → ℕ → Bool
takes tree mask = takes_all (is_set mask) 0 (seen_children tree)
