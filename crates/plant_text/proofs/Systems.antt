-- A system made of drafts.
use Rattle.std.proofs.Common.{◌≡◌, ◌≢◌, ◌∙◌, ap, sym, refl, Bool, true, false, List, map, Option, Some, None, Ok, Err}
use Rattle.std.specs.Prelude.{option_map}
use Rattle.std.specs.Option.{option_map_or}
use Rattle.std.proofs.lemmas.Simd.{map-map}
use Rattle.petri_atom.specs.Atom.{definition_of}
use Rattle.petri_atom.specs.declared.atom.Atom.{Atom}
use Rattle.priority_filter.specs.Decided.{order_fault}
use Rattle.priority_filter.specs.declared.fault.OrderFault.{OrderFault}
use Rattle.priority_filter.specs.declared.rule.Rule.{Rule}
use Rattle.plant_model.specs.Plant.{PlantDefinition}
use Rattle.plant_model.specs.Choice.{named, plant_interactions}
use Rattle.plant_model.specs.Made.{plant_by}
use Rattle.plant_model.specs.Rules.{IsFaultOf, fault_of}
use Rattle.plant_model.specs.Wire.{wire_of}
use Rattle.plant_model.specs.declared.fault.SystemFault.{SystemFault}
use Rattle.plant_model.specs.declared.fault.SystemFault.TheVariants as system
use Rattle.plant_model.specs.declared.wire.Wire.{Wire}
use Rattle.atom_lines.specs.Draft.{drafted as atom_drafted}
use Rattle.atom_lines.specs.declared.draft.AtomDraft.{AtomDraft}
use Rattle.plant_text.specs.Fault.{of_no_line, of_system}
use Rattle.plant_text.specs.Meaning.{IsWritten, with_an_order}
use Rattle.plant_text.specs.Parts.{plant_drafted, wire_defined}
use Rattle.plant_text.specs.Text.{PlantText, wire_text_of, text_of}
use Rattle.plant_text.specs.declared.fault.Fault.TheVariants.{Order, Memory}
use Rattle.plant_text.specs.declared.listed.ListedWire.{ListedWire}
use Rattle.plant_text.proofs.Numbered.{order_found, order_sound}
use Rattle.plant_text.proofs.Sound.{sound_but_order}

-- atoms and wires that are those of drafts are written as the drafts are
pub written_as_drafted : (atoms : List Atom) (wires : List Wire) (rules : List Rule) (atom_drafts : List AtomDraft) (wire_drafts : List ListedWire) →
    map definition_of atoms ≡ map atom_drafted atom_drafts → map wire_of wires ≡ map wire_defined wire_drafts → text_of (plant_by atoms wires rules) ≡ plant_drafted atom_drafts wire_drafts rules
written_as_drafted atoms wires rules atom_drafts wire_drafts same_atoms same_wires =
    let of_wires : map wire_text_of (map wire_of wires) ≡ map (λ d. wire_text_of (wire_defined d)) wire_drafts =
    ap (map wire_text_of) same_wires ∙ map-map wire_text_of wire_defined wire_drafts in
    ap (λ atoms. record { atoms = atoms; wires = map wire_text_of (map wire_of wires); rules = rules }) same_atoms ∙
    ap (λ wires. record { atoms = map atom_drafted atom_drafts; wires = wires; rules = rules }) of_wires

-- a plant that breaks no rule has an order, as it is written
pub ordered_as_written : (plant : PlantDefinition) (written : PlantText) → fault_of plant ≡ None → text_of plant ≡ written → with_an_order written ≡ Ok written
ordered_as_written plant written sound is =
    ap with_an_order (sym is) ∙ ap (λ (o : Option OrderFault). option_map_or (λ fault. Err (of_no_line (Order fault))) o (Ok (text_of plant))) (order_sound plant sound) ∙ ap Ok is

-- a plant whose rules are at fault has no order, as it is written
unordered_as_written : (plant : PlantDefinition) (written : PlantText) (fault : OrderFault) → fault_of plant ≡ Some (system.Order fault) → text_of plant ≡ written → with_an_order written ≡ Err (of_no_line (Order fault))
unordered_as_written plant written fault told is =
    ap with_an_order (sym is) ∙ ap (λ (o : Option OrderFault). option_map_or (λ fault. Err (of_no_line (Order fault))) o (Ok (text_of plant))) (order_found plant fault told)

-- whether the fault is one of the order
abbrev is_of_order : SystemFault → Bool
is_of_order (system.Order fault) = true
is_of_order fault = false

-- a fault that is the order's, if there is one, is no other
no_other : {A : Type 0} (order : Option OrderFault) (fault : SystemFault) → is_of_order fault ≡ false → option_map system.Order order ≡ Some fault → A
no_other None fault other is = absurd (cc)
no_other (Some told) fault other is =
    let same : true ≡ is_of_order fault = ap (λ (o : Option SystemFault). option_map_or is_of_order o true) is in
    absurd (cc)

-- the fault of a system that lines write is that of the order, as one of no line
pub found_of_system : (fault : SystemFault) (plant : PlantDefinition) (written : PlantText) → IsWritten written → IsFaultOf fault plant → text_of plant ≡ written → of_no_line (of_system fault) ≢ of_no_line Memory → with_an_order written ≡ Err (of_no_line (of_system fault))
found_of_system fault plant written by told is other = each fault told other
  where
    of_the_order : (f : SystemFault) → fault_of plant ≡ Some f → option_map system.Order (order_fault plant.rules (map named (plant_interactions plant))) ≡ Some f
    of_the_order f told = sym (sound_but_order by.0 1 written plant by.1 by.2 is) ∙ told

    impossible : {A : Type 0} (f : SystemFault) → is_of_order f ≡ false → fault_of plant ≡ Some f → A
    impossible f other told = no_other (order_fault plant.rules (map named (plant_interactions plant))) f other (of_the_order f told)

    each : (f : SystemFault) → IsFaultOf f plant → of_no_line (of_system f) ≢ of_no_line Memory → with_an_order written ≡ Err (of_no_line (of_system f))
    each system.Limit told other = impossible system.Limit refl told
    each (system.BadAtom n) told other = impossible (system.BadAtom n) refl told
    each (system.BadConnector n f) told other = impossible (system.BadConnector n f) refl told
    each (system.BadWire n f) told other = impossible (system.BadWire n f) refl told
    each (system.Order f) told other = unordered_as_written plant written f told is
    each system.Memory told other = absurd (other refl)
