use Rattle.std.proofs.Common.{◌∷◌, [], ℕ, sym, subst}
use Rattle.front_word.specs.Rules.{IsPublished, first_pass}
use Rattle.atomic_table.specs.Table.{opening}
use Rattle.front_word.proofs.Steps.{starts}
use Rattle.front_word.proofs.word.Unnamed.new.Goals as goal

pub of_words-requires : goal.of_words-requires
of_words-requires g c =
    subst (λ (n : ℕ). IsPublished g.E.Fronted.front c.args.opening (opening (n ∷ []) [] (first_pass c.args.opening))) (sym c.pack.ensures) (starts g.E.Fronted.front c.args.opening c.requires)
