-- How words say that the choices of a run are picked.
use Rattle.std.specs.Prelude.{◌≡◌, ◌≢◌, ℕ, Bool, true, false, List, [], Option, None, Some, Ok, Err, IsOk, if◌then◌else◌, unwrap_or}
use Rattle.plant_words.specs.Numbers.{pick_in}
use Rattle.command_line.specs.Picks.{picks_in}
use Rattle.command_line.specs.Said.{word_of, words_of}
use Rattle.command_line.specs.declared.picking.PickingFault.{PickingFault}
use Rattle.command_line.specs.declared.picking.PickingFault.TheVariants.{NoPick, NoCount, NoSeed, GivenAndRandom, GivenAndRecorded, StrictRandom, SeedAlone, Memory}
use Rattle.command_line.specs.declared.picking.TheConstants.{USUAL_SEED}
use Rattle.command_line.specs.declared.picks.PickFault.{PickFault}
use Rattle.command_line.specs.declared.picks.PickFault.TheVariants as pick
use Rattle.command_line.specs.declared.request.Numbers.{Numbers}
use Rattle.command_line.specs.declared.request.Numbers.TheVariants.{Modulo, Strict}
use Rattle.command_line.specs.declared.request.Picking.{Picking}
use Rattle.command_line.specs.declared.request.Picking.TheVariants.{Given, Recorded, Random}
use Rattle.command_line.specs.declared.said.Said.{Said}

-- the words for the picks of a run
abbrev pub pick_words : Said → List (List ℕ)
pick_words said = unwrap_or (words_of said.picks) []

-- the seed that is named, or the usual one
abbrev pub seed_in : Option (List ℕ) → Option ℕ
seed_in None = Some USUAL_SEED
seed_in (Some word) = pick_in word

-- the number that is named
abbrev pub count_in : Option (List ℕ) → Option ℕ
count_in None = None
count_in (Some word) = pick_in word

-- how many random picks come after those of a text: the number that is named, or none
abbrev pub more_in : Option (List ℕ) → Option ℕ
more_in None = Some 0
more_in (Some word) = pick_in word

-- a pick whose number is past the list of choices is refused where that is asked for
abbrev pub numbers_in : Bool → Numbers
numbers_in strict = if strict then Strict else Modulo

-- The words for picks that are given, and the other words of a command, say that choices are picked so: by the picks that are given, or by those of
-- the text that is named and so many random ones by a seed after them, and then a number of these past the list of choices is refused where that is asked for; or
-- by so many random ones by a seed. There is a word for a seed only where there is one for random picks.
abbrev pub IsSaid : Picking → List (List ℕ) → Said → Type 0
IsSaid (Given picks numbers) given said =
    (picks_in given ≡ Ok picks.items) × (numbers ≡ numbers_in said.strict) ×
    (word_of said.recorded ≡ None) × (word_of said.random ≡ None) × (word_of said.seed ≡ None)
IsSaid (Recorded path numbers many by) given said =
    (word_of said.recorded ≡ Some path.now) × (numbers ≡ numbers_in said.strict) × (given ≡ []) ×
    (more_in (word_of said.random) ≡ Some many) × (seed_in (word_of said.seed) ≡ Some by) × (word_of said.random ≡ None → word_of said.seed ≡ None)
IsSaid (Random many by) given said =
    (count_in (word_of said.random) ≡ Some many) × (seed_in (word_of said.seed) ≡ Some by) ×
    (given ≡ []) × (word_of said.recorded ≡ None) × (said.strict ≡ false)

-- the fault of words for picks
abbrev pub of_picks : PickFault → PickingFault
of_picks (pick.NoPick word) = NoPick word
of_picks pick.Memory = Memory

-- what is wrong with such words
abbrev pub IsWrong : PickingFault → List (List ℕ) → Said → Type 0
IsWrong (NoPick word) given said =
    (picks_in given ≡ Err word.now) × (word_of said.recorded ≡ None) × (word_of said.random ≡ None) × (word_of said.seed ≡ None)
IsWrong Memory given said =
    IsOk (picks_in given) × (word_of said.recorded ≡ None) × (word_of said.random ≡ None) × (word_of said.seed ≡ None)
IsWrong SeedAlone given said = (word_of said.random ≡ None) × (word_of said.seed ≢ None)
IsWrong GivenAndRecorded given said =
    (given ≢ []) × (word_of said.recorded ≢ None) × (word_of said.random ≡ None) × (word_of said.seed ≡ None)
IsWrong GivenAndRandom given said = (given ≢ []) × (word_of said.random ≢ None)
IsWrong StrictRandom given said =
    (given ≡ []) × (word_of said.recorded ≡ None) × (said.strict ≡ true) × (word_of said.random ≢ None)
IsWrong (NoCount word) given said =
    (given ≡ []) × (word_of said.recorded ≡ None → said.strict ≡ false) ×
    (word_of said.random ≡ Some word.now) × (pick_in word.now ≡ None)
IsWrong (NoSeed word) given said =
    (given ≡ []) × (word_of said.recorded ≡ None → said.strict ≡ false) × (count_in (word_of said.random) ≢ None) ×
    (word_of said.seed ≡ Some word.now) × (pick_in word.now ≡ None)
