use Rattle.std.proofs.Common.{◌≡◌, sym, subst, ◌∷◌, [], List, map, length, true}
use Rattle.std.specs.Prelude.{is_ok}
use Rattle.std.specs.List.{list_all}
use Rattle.std.proofs.Math.ListN.{length-map}
use Rattle.std.proofs.lemmas.List.{map-append}
use Rattle.petri_atom.specs.Definition.{TransitionDefinition}
use Rattle.petri_atom.specs.Parts.{port_of}
use Rattle.petri_atom.specs.Transition.{transition_of}
use Rattle.petri_atom.specs.declared.transition.Transition.{Transition}
use Rattle.atom_lines.specs.Draft.{drafted}
use Rattle.atom_lines.specs.Sound.{is_sound_transition}
use Rattle.plant_words.proofs.Steps.{after_push}
use Rattle.plant_words.proofs.Once.{all_and_one}
use Rattle.atom_lines.proofs.SoundParts.{transition_sound}
use Rattle.atom_lines.proofs.draft.AtomDraft.add_transition.Goals as goal

pub invariant_of-self-clause-sound_transitions : goal.invariant_of-self-clause-sound_transitions
invariant_of-self-clause-sound_transitions c =
    let d = c.args.self.now in
    let t : Transition = c.in_ok-transition.transition in
    let is_sound = is_sound_transition (length d.ports.items) (length d.places.items) (length d.variables.items) in
    let sound : List TransitionDefinition → Type 0 = λ ts. list_all is_sound ts ≡ true in
    let new : is_sound (transition_of t) ≡ true =
    subst (λ n. is_sound_transition n (length d.places.items) (length d.variables.items) (transition_of t) ≡ true) (length-map d.ports.items port_of)
    (transition_sound (drafted d) c.args.words.now (transition_of t) c.in_ok-transition.ensures.transition) in
    after_push (λ ts. sound (map transition_of ts)) (is_ok c.push.result) d.transitions.items c.push.new.self.items t c.push.ensures.items d.sound_transitions
    (subst sound (sym (map-append transition_of d.transitions.items (t ∷ []))) (all_and_one is_sound (map transition_of d.transitions.items) (transition_of t) d.sound_transitions new))
