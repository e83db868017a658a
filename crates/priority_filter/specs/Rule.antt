-- What one written rule says of two interactions. An interaction is a connector and a leaf mask.
use Rattle.std.specs.Prelude.{◌≡◌, ℕ, IsBitSet}
use Rattle.priority_filter.specs.declared.rule.Side.{Side}
use Rattle.priority_filter.specs.declared.rule.Side.TheVariants.{Whole, One}
use Rattle.priority_filter.specs.declared.rule.Rule.{Rule}
use Rattle.priority_filter.specs.declared.rule.Rule.TheVariants.{Under, UnderAt, Maximal}

-- the leaf takes part in an interaction with this mask
abbrev pub HasLeaf : ℕ → ℕ → Type 0
HasLeaf mask leaf = IsBitSet mask leaf

-- each leaf of the first mask is one of the second
abbrev pub IsSubset : ℕ → ℕ → Type 0
IsSubset m n = (leaf : ℕ) → HasLeaf m leaf → HasLeaf n leaf

-- each leaf of the first mask is one of the second, and not the other way round
abbrev pub IsProperSubset : ℕ → ℕ → Type 0
IsProperSubset m n = IsSubset m n × ¬ IsSubset n m

-- the interaction is on the side: one of the whole connector, or the one that is named
abbrev pub IsOn : Side → ℕ × ℕ → Type 0
IsOn (Whole connector) i = i.0 ≡ connector
IsOn (One connector mask) i = (i.0 ≡ connector) × (i.1 ≡ mask)

-- the rule puts the first interaction below the second: one of the left side below one of the right,
-- or, in a connector that is to be maximal, an interaction below each that has its leaves and more; by itself a rule says nothing of
-- its condition
abbrev pub Puts : Rule → ℕ × ℕ → ℕ × ℕ → Type 0
Puts (Under left right) i j = IsOn left i × IsOn right j
Puts (UnderAt left right at) i j = IsOn left i × IsOn right j
Puts (Maximal connector) i j = (i.0 ≡ connector) × (j.0 ≡ connector) × IsProperSubset i.1 j.1
