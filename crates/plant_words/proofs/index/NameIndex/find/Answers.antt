use Rattle.std.proofs.Common.{◌∙◌, ap, ℕ, List, position}
use Rattle.petri_atom.specs.Name.{is_same_text}
use Rattle.plant_words.proofs.Indexed.{place_of_key}
use Rattle.plant_words.proofs.index.NameIndex.find.Goals as goal

pub returns-clause-first : goal.returns-clause-first
returns-clause-first c =
    c.get_index_of.ensures.index ∙ place_of_key (λ key. key.items) c.args.name.now c.self.inside.names.keys ∙
    ap (λ (names : List (List ℕ)). position (λ known. is_same_text known c.args.name.now) names) c.self.view_is
