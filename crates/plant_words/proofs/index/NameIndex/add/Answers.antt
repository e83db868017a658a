use Rattle.std.proofs.Common.{◌≡◌, ◌∙◌, ap, [], ◌∷◌, ◌++◌, map, None, position}
use Rattle.petri_atom.specs.Name.{is_same_text}
use Rattle.plant_words.proofs.Indexed.{one_key_more}
use Rattle.plant_words.proofs.index.NameIndex.add.Goals as goal

pub returns-clause-added : goal.returns-clause-added
returns-clause-added c =
    let key = c.in_ok-bytes.bytes in
    let keys = c.self.inside.names.keys in
    let same : key.items ≡ c.args.name.now = c.in_ok-bytes.ensures.items_if_clones_equal (λ x y same. same) in
    let new : position (λ known. is_same_text known key.items) (map (λ k. k.items) keys) ≡ None =
    (λ j. position (λ known. is_same_text known (same j)) (c.self.view_is j)) ∙ c.requires in
    ap (map (λ k. k.items)) c.in_ok-insert.ensures.keys ∙ one_key_more (λ k. k.items) key keys new ∙
    (λ j. c.self.view_is j ++ same j ∷ [])
