-- What a run is watched for, in the order of the words.
use Rattle.std.specs.Prelude.{ℕ, nat_lt, List, [], ◌∷◌, insert, map, Option, Some}
use Rattle.std.specs.List.{prefix_len}
use Rattle.std.specs.Borrow.{Bor}
use Rattle.command_line.specs.declared.request.WatchKind.{WatchKind}
use Rattle.command_line.specs.declared.request.WatchKind.TheVariants.{Never, Until}
use Rattle.command_line.specs.declared.request.WatchWords.{WatchWords}
use Rattle.command_line.specs.declared.said.Said.{Said}
use Rattle.command_line.specs.declared.watching.PlacedWords.{PlacedWords}

-- the words of an option, with their places; a word without a place has none
abbrev pub words_at : WatchKind → List (Bor (List ℕ)) → List ℕ → List PlacedWords
words_at kind [] places = []
words_at kind (text ∷ texts) [] = []
words_at kind (text ∷ texts) (at ∷ places) = record { at = at; words = record { kind = kind; text = text } } ∷ words_at kind texts places

-- the same of words that may be there
abbrev pub among : WatchKind → Option (Bor (List (Bor (List ℕ)))) → Option (Bor (List ℕ)) → List PlacedWords
among kind (Some words) (Some places) = words_at kind words.now places.now
among kind words places = []

-- words behind those that stand before them
abbrev pub added : PlacedWords → List PlacedWords → List PlacedWords
added one placed = insert placed (prefix_len (λ other. nat_lt other.at one.at) placed) one

-- each of these added
abbrev pub all_added : List PlacedWords → List PlacedWords → List PlacedWords
all_added [] placed = placed
all_added (one ∷ more) placed = all_added more (added one placed)

-- what the words watch a run for, in their order
abbrev pub watches_in : Said → List WatchWords
watches_in said = map (λ placed. placed.words) (all_added (among Until said.until said.until_at) (all_added (among Never said.never said.never_at) []))
