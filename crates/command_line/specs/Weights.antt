-- Which weights of connectors words give.
use Rattle.std.specs.Prelude.{◌≡◌, ◌≢◌, ℕ, Bool, ◌&&◌, ◌==◌, if◌then◌else◌, List, [], ◌∷◌, ◌++◌, map, nat_le, Option, None, Some, option_and_then, slice_get, unwrap_or, Result, Ok, Err, IsOk}
use Rattle.std.specs.List.{after_first, before_first}
use Rattle.std.specs.Option.{option_map_or}
use Rattle.plant_words.specs.Numbers.{pick_in}
use Rattle.plant_words.specs.Words.{is_filled}
use Rattle.command_line.specs.Said.{word_of, words_of}
use Rattle.command_line.specs.declared.request.TheConstants.{MOST_WEIGHT}
use Rattle.command_line.specs.declared.request.WeightWords.{WeightWords}
use Rattle.command_line.specs.declared.said.Said.{Said}
use Rattle.command_line.specs.declared.weights.WeightsFault.{WeightsFault}
use Rattle.command_line.specs.declared.weights.WeightsFault.TheVariants.{NotRandom, NoWeight, Memory}

-- a name and its weight, by their contents
abbrev pub weight_of : WeightWords → List ℕ × ℕ
weight_of words = (words.name.now, words.weight)

-- several of them
abbrev pub weights_of : List WeightWords → List (List ℕ × ℕ)
weights_of = map weight_of

-- what stands before the first `=` (61) of a word
abbrev pub before_equals : List ℕ → List ℕ
before_equals word = before_first (λ byte. byte == 61) word

-- what stands behind it: nothing, where a word has none
abbrev pub behind_equals : List ℕ → List ℕ
behind_equals word = after_first (λ byte. byte == 61) word

-- a word gives a weight to a name: there is a name, and the number is one that a weight may be
abbrev pub is_weight : List ℕ → ℕ → Bool
is_weight name number = is_filled name && nat_le number MOST_WEIGHT

-- the weight that a word gives: a name, `=`, and digits alone
abbrev pub weight_in : List ℕ → Option (List ℕ × ℕ)
weight_in word =
    option_and_then (λ number. if is_weight (before_equals word) number then Some (before_equals word, number) else None) (pick_in (behind_equals word))

-- these weights and those that words give after them, or the first word that gives none
abbrev pub weights_after : List (List ℕ × ℕ) → List (List ℕ) → Result (List (List ℕ × ℕ)) (List ℕ)
weights_after weights [] = Ok weights
weights_after weights (word ∷ words) = option_map_or (λ weight. weights_after (weights ++ weight ∷ []) words) (weight_in word) (Err word)

-- the weights that words give, in their order, or the first word that gives none
abbrev pub weights_in : List (List ℕ) → Result (List (List ℕ × ℕ)) (List ℕ)
weights_in words = weights_after [] words

-- the words for the weights of a run
abbrev pub weight_words : Said → List (List ℕ)
weight_words said = unwrap_or (words_of said.weights) []

-- the words give these weights, and there are some only where there are random picks
abbrev pub AreWeights : List WeightWords → Said → Type 0
AreWeights weights said = (weights_in (weight_words said) ≡ Ok (weights_of weights)) × (word_of said.random ≡ None → weight_words said ≡ [])

-- a fault of words is the first of them that gives no weight, or that memory ran out, where each gives one
abbrev pub IsFaultOf : List (List ℕ) → WeightsFault → Type 0
IsFaultOf words (NotRandom word) = ⊥
IsFaultOf words (NoWeight word) = weights_in words ≡ Err word.now
IsFaultOf words Memory = IsOk (weights_in words)

-- what is wrong with the words for the weights of a run: the first of them, where no picks are random; else it is a fault of them
abbrev pub IsWrong : WeightsFault → Said → Type 0
IsWrong (NotRandom word) said = (word_of said.random ≡ None) × (slice_get (weight_words said) 0 ≡ Some word.now)
IsWrong (NoWeight word) said = (word_of said.random ≢ None) × IsFaultOf (weight_words said) (NoWeight word)
IsWrong Memory said = (word_of said.random ≢ None) × IsFaultOf (weight_words said) Memory
