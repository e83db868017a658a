-- Picks: how each says which choice it takes, and random ones: xorshift64* with the shifts 12, 25 and 27.
use Rattle.std.specs.Prelude.{◌≡◌, ℕ, zero, suc, ◌+◌, ◌*◌, ◌/◌, ◌%◌, ◌^◌, ◌==◌, if◌then◌else◌, bit_xor, List, [], ◌∷◌, Option, Some, None}
use Rattle.plant_model.specs.Choice.{ChoiceDefinition}
use Rattle.plant_model.specs.Chosen.{choice_of}
use Rattle.run_text.specs.declared.pick.Misread.{Misread}
use Rattle.run_text.specs.declared.pick.Numbers.{Numbers}
use Rattle.run_text.specs.declared.pick.Numbers.TheVariants.{Modulo, Strict}
use Rattle.run_text.specs.declared.pick.Pick.{Pick}
use Rattle.run_text.specs.declared.pick.Take.{Take}
use Rattle.run_text.specs.declared.pick.Take.TheVariants as kept
use Rattle.run_text.specs.declared.picks.TheConstants.{SEED, FACTOR}

-- how a pick says which choice it takes: by a number modulo how many there are, by a number and the weights of connectors, by its number in their list,
-- by itself; or it says none
pub data TakeDefinition : Type 0 where
  counted : ℕ → TakeDefinition
  weighted : ℕ → List ℕ → TakeDefinition
  numbered : ℕ → TakeDefinition
  named : ChoiceDefinition → TakeDefinition
  misread : Misread → TakeDefinition

-- a pick: its place, from 1, and what it takes
pub record PickDefinition : Type 0 where
  pub place : ℕ
  pub take : TakeDefinition

-- what a pick takes, as it is kept
abbrev pub take_of : Take → TakeDefinition
take_of (kept.Counted n) = counted n
take_of (kept.Weighted n weights) = weighted n weights
take_of (kept.Numbered n) = numbered n
take_of (kept.Named c) = named (choice_of c)
take_of (kept.Misread why) = misread why

-- a pick as it is kept
abbrev pub pick_of : Pick → PickDefinition
pick_of pick = record { place = pick.place; take = take_of pick.take }

-- what a number takes
abbrev pub number_as : Numbers → ℕ → TakeDefinition
number_as Modulo n = counted n
number_as Strict n = numbered n

-- numbers as picks, the first of them at this place
abbrev pub placed : (ℕ → TakeDefinition) → ℕ → List ℕ → List PickDefinition
placed take place [] = []
placed take place (n ∷ ns) = record { place = place; take = take n } ∷ placed take (place + 1) ns

-- numbers that are given, as picks
abbrev pub given_picks : Numbers → List ℕ → List PickDefinition
given_picks numbers picks = placed (number_as numbers) 1 picks

-- numbers that are taken modulo how many choices there are
abbrev pub counted_picks : List ℕ → List PickDefinition
counted_picks numbers = placed counted 1 numbers

-- what a number takes by the weights of connectors
abbrev pub by_weights : List ℕ → ℕ → TakeDefinition
by_weights weights n = weighted n weights

-- numbers that are taken by the weights of connectors
abbrev pub weighted_picks : List ℕ → List ℕ → List PickDefinition
weighted_picks weights numbers = placed (by_weights weights) 1 numbers

-- what a random number takes: by weights where there are some, else modulo how many choices there are
abbrev pub random_take : Option (List ℕ) → ℕ → TakeDefinition
random_take None n = counted n
random_take (Some weights) n = by_weights weights n

-- numbers that are taken as they are
abbrev pub numbered_picks : List ℕ → List PickDefinition
numbered_picks numbers = placed numbered 1 numbers

-- known picks lose the next one; none is given exactly where none is left
abbrev pub Gives : Option (List PickDefinition) → Option (List PickDefinition) → Option Pick → Type 0
Gives None new next = Unit {0}
Gives (Some picks) None next = ⊥
Gives (Some picks) (Some rest) None = (picks ≡ []) × (rest ≡ [])
Gives (Some picks) (Some rest) (Some pick) = picks ≡ pick_of pick ∷ rest

-- the state that a seed begins with
abbrev pub seeded : ℕ → ℕ
seeded seed = if seed == 0 then SEED else seed

-- a number with its own bits, moved down by some places, flipped in
abbrev pub flipped_down : ℕ → ℕ → ℕ
flipped_down places x = bit_xor x (x / 2 ^ places)

-- the same moved up, within 64 bits
abbrev pub flipped_up : ℕ → ℕ → ℕ
flipped_up places x = bit_xor x ((x * 2 ^ places) % 2 ^ 64)

-- the state after a state
abbrev pub shifted : ℕ → ℕ
shifted x = flipped_down 27 (flipped_up 25 (flipped_down 12 x))

-- the number of a state
abbrev pub pick_at : ℕ → ℕ
pick_at x = (x * FACTOR) % 2 ^ 64

-- so many numbers, from the one after a state on
abbrev pub random_from : ℕ → ℕ → List ℕ
random_from zero state = []
random_from (suc n) state = pick_at (shifted state) ∷ random_from n (shifted state)

-- so many numbers by a seed
abbrev pub random_picks : ℕ → ℕ → List ℕ
random_picks seed count = random_from count (seeded seed)
