use Rattle.std.proofs.Common.{◌∙◌, ap, ℕ, List, position}
use Rattle.petri_atom.specs.Name.{is_same_text}
use Rattle.plant_text.specs.Parts.{wire_listed}
use Rattle.plant_words.proofs.Indexed.{not_full}
use Rattle.plant_text.proofs.Indexed.{place_of_wire}
use Rattle.plant_text.proofs.draft.PlantDraft.push_wire.Goals as goal

pub add-requires : goal.add-requires
add-requires c =
    let self = c.args.self.now in
    ap (λ (name : List ℕ). position (λ known. is_same_text known name) self.wire_names) (c.as_bytes.ensures ∙ c.name.ensures) ∙
    place_of_wire self.wires.items self.wire_names (wire_listed c.args.wire).name self.wires_named ∙ c.requires.new

pub unwrap-requires : goal.unwrap-requires
unwrap-requires c = not_full c.push.result _ _ c.push.ensures.full c.in_ok-reserve.ensures.ok
