-- What the words of a run's picks say.
use Rattle.std.specs.Prelude.{◌≡◌, ℕ, List, [], ◌∷◌, ◌++◌, Result, Ok, Err, IsOk}
use Rattle.std.specs.Option.{option_map_or}
use Rattle.plant_words.specs.Numbers.{pick_in}
use Rattle.command_line.specs.declared.picks.PickFault.{PickFault}
use Rattle.command_line.specs.declared.picks.PickFault.TheVariants.{NoPick, Memory}

-- these picks and those that words write after them, or the first word that writes none
abbrev pub picks_after : List ℕ → List (List ℕ) → Result (List ℕ) (List ℕ)
picks_after picks [] = Ok picks
picks_after picks (word ∷ words) = option_map_or (λ pick. picks_after (picks ++ pick ∷ []) words) (pick_in word) (Err word)

-- the picks that words write, in their order, or the first word that writes none
abbrev pub picks_in : List (List ℕ) → Result (List ℕ) (List ℕ)
picks_in words = picks_after [] words

-- a fault of words is the first of them that writes no pick, or that memory ran out, where each writes one
abbrev pub IsFaultOf : List (List ℕ) → PickFault → Type 0
IsFaultOf words (NoPick word) = picks_in words ≡ Err word.now
IsFaultOf words Memory = IsOk (picks_in words)
