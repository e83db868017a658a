use Rattle.std.proofs.Common.{◌≡◌, ◌∙◌, ℕ, List, [], ◌∷◌, drop, sym, ap}
use Rattle.std.specs.Prelude.{Option, Some, None, MatchOption}
use denote.Bor.{Bor}
use Rattle.plant_words.proofs.words.Words.peek.Goals as goal

-- what stands after the word that is taken stands after the first of the words
taken : (found : Option (Bor (List ℕ))) (words rest : List (List ℕ)) → MatchOption found (words ≡ []) (λ word. words ≡ word.now ∷ rest) → MatchOption found (words ≡ []) (λ word. words ≡ word.now ∷ drop 1 words)
taken None words rest none = none
taken (Some word) words rest first = first ∙ ap (λ more. word.now ∷ more) (sym (ap (drop 1) first))

pub returns-clause-word : goal.returns-clause-word
returns-clause-word c = taken c.next_word-word.result c.args.self.now c.next_word-word.new.self c.next_word-word.ensures.word
