use Rattle.std.proofs.Common.{◌≡◌, ◌∙◌, sym, ap, ℕ, ◌+◌, List, [], ◌∷◌, ◌++◌, length, position, arith}
use Rattle.std.proofs.lemmas.List.{length-append}
use Rattle.petri_atom.specs.Definition.{AtomDefinition}
use Rattle.petri_atom.specs.Name.{is_same_text}
use Rattle.atom_lines.specs.Draft.{drafted}
use Rattle.atom_lines.specs.declared.draft.AtomDraft.{AtomDraft}
use Rattle.plant_words.proofs.Indexed.{not_full, was_pushed, one_name_more}
use Rattle.plant_text.proofs.Indexed.{place_of_atom}
use Rattle.plant_text.proofs.draft.PlantDraft.push_atom.Goals as goal

pub add-requires : goal.add-requires
add-requires c =
    let self = c.args.self.now in
    ap (λ (name : List ℕ). position (λ known. is_same_text known name) self.atom_names) c.as_bytes.ensures ∙
    place_of_atom self.atoms.items self.atom_names c.args.name self.atoms_named ∙ c.requires.new

-- the list has one atom more
pushed : (c : goal.After-push) → c.push.new.self.items ≡ c.args.self.now.atoms.items ++ c.new.result ∷ []
pushed c =
    was_pushed c.push.result c.reserve.new.self.items c.push.new.self.items c.new.result (not_full c.push.result _ _ c.push.ensures.full c.in_ok-reserve.ensures.ok) c.push.ensures.items ∙
    ap (λ list. list ++ c.new.result ∷ []) c.reserve.ensures.items

pub invariant_of-self-2 : goal.invariant_of-self-2
invariant_of-self-2 c =
    let self = c.args.self.now in
    let longer : length c.push.new.self.items ≡ length self.atoms.items + 1 = ap length (pushed c) ∙ length-append self.atoms.items (c.new.result ∷ []) in
    let same : c.as_bytes.result.now ≡ (drafted c.new.result).name = c.as_bytes.ensures ∙ ap (λ (a : AtomDefinition). a.name) (sym c.new.ensures) in
    record {
      few_atoms = omega (arith, longer, c.requires.few);
      few_wires = self.few_wires;
      few_rules = self.few_rules;
      atoms_named = one_name_more (λ (d : AtomDraft). (drafted d).name) self.atoms.items c.push.new.self.items c.new.result self.atom_names c.add.new.self c.as_bytes.result.now self.atoms_named c.in_ok-add.ensures.added same (pushed c);
      wires_named = self.wires_named;
    }

pub unwrap-requires : goal.unwrap-requires
unwrap-requires c = not_full c.push.result _ _ c.push.ensures.full c.in_ok-reserve.ensures.ok
