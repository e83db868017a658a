-- Which seeds of several runs words name.
use Rattle.std.specs.Prelude.{◌≡◌, ◌≢◌, ℕ, true, false, ◌==◌, if◌then◌else◌, List, [], ◌∷◌, nat_le, Option, None, Some, option_and_then, slice_get}
use Rattle.std.specs.List.{after_first, before_first}
use Rattle.plant_words.specs.Numbers.{pick_in}
use Rattle.command_line.specs.Pickings.{pick_words}
use Rattle.command_line.specs.Said.{word_of}
use Rattle.command_line.specs.declared.said.Said.{Said}
use Rattle.command_line.specs.declared.seeds.SeedsFault.{SeedsFault}
use Rattle.command_line.specs.declared.seeds.SeedsFault.TheVariants.{Uncounted, NotRandom, WithGiven, WithRecorded, WithSeed, WithSaved, NoSeeds}

-- the last seed, by what stands behind the first `.` (46) of a word: another one, and digits alone
abbrev pub last_in : List ℕ → Option ℕ
last_in [] = None
last_in (byte ∷ bytes) = if byte == 46 then pick_in bytes else None

-- the first and the last seed, if they are in order
abbrev pub in_order : ℕ → ℕ → Option (ℕ × ℕ)
in_order first last = if nat_le first last then Some (first, last) else None

-- the first and the last seed that a word names by `A..B`
abbrev pub seeds_in : List ℕ → Option (ℕ × ℕ)
seeds_in word =
    option_and_then (λ first. option_and_then (in_order first) (last_in (after_first (λ byte. byte == 46) word)))
    (pick_in (before_first (λ byte. byte == 46) word))

-- runs are counted, and there are seeds and random picks
abbrev pub MaySeed : Said → Type 0
MaySeed said = (said.summary ≡ true) × (word_of said.seeds ≢ None) × (word_of said.random ≢ None)

-- the words name the first and the last of these seeds for random picks, and nothing that holds of one run alone: no pick, no text of picks, no seed, and
-- no file in which is saved what is fired; or they name no seeds
abbrev pub AreSeeds : Option (ℕ × ℕ) → Said → Type 0
AreSeeds None said = word_of said.seeds ≡ None
AreSeeds (Some seeds) said =
    (option_and_then seeds_in (word_of said.seeds) ≡ Some seeds) × (word_of said.random ≢ None) × (pick_words said ≡ []) ×
    (word_of said.recorded ≡ None) × (word_of said.seed ≡ None) × (word_of said.saved ≡ None)

-- what is wrong with the words for seeds: the first of these that they say
abbrev pub IsWrong : SeedsFault → Said → Type 0
IsWrong (Uncounted word) said = (said.summary ≡ false) × (word_of said.seeds ≡ Some word.now)
IsWrong (NotRandom word) said = (said.summary ≡ true) × (word_of said.seeds ≡ Some word.now) × (word_of said.random ≡ None)
IsWrong (WithGiven pick) said = MaySeed said × (slice_get (pick_words said) 0 ≡ Some pick.now)
IsWrong (WithRecorded path) said = MaySeed said × (pick_words said ≡ []) × (word_of said.recorded ≡ Some path.now)
IsWrong (WithSeed seed) said =
    MaySeed said × (pick_words said ≡ []) × (word_of said.recorded ≡ None) × (word_of said.seed ≡ Some seed.now)
IsWrong (WithSaved path) said =
    MaySeed said × (pick_words said ≡ []) × (word_of said.recorded ≡ None) × (word_of said.seed ≡ None) × (word_of said.saved ≡ Some path.now)
IsWrong (NoSeeds word) said =
    MaySeed said × (pick_words said ≡ []) × (word_of said.recorded ≡ None) × (word_of said.seed ≡ None) × (word_of said.saved ≡ None) ×
    (word_of said.seeds ≡ Some word.now) × (seeds_in word.now ≡ None)
