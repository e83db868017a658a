-- What a port of an atom exports.
use Rattle.std.proofs.Common.{◌≡◌, ◌∙◌, refl, sym, ap, ℕ, ◌<◌, ◌≤◌, true, ◌&&◌, List, length, map, get_or, Some}
use Rattle.std.specs.Prelude.{slice_get}
use Rattle.std.specs.List.{list_all}
use Rattle.std.specs.Option.{option_map}
use Rattle.std.proofs.lemmas.Bool.{and_parts, leb-true}
use Rattle.std.proofs.lemmas.Option.{slice_get_read, slice_get-map}
use Rattle.petri_atom.specs.Definition.{PortDefinition, exports_few, exports_once, exports_known}
use Rattle.petri_atom.specs.Parts.{port_of}
use Rattle.petri_atom.specs.declared.parts.Port.{Port}
use Rattle.petri_atom.specs.declared.state.TheConstants.{MAX_EXPORTS}
use Rattle.petri_atom.proofs.Fitting.{all_get}
use Rattle.atom_lines.specs.Sound.{is_sound_port}

-- the port with the number, as it was written
pub port_there : (ports seen : List Port) (i k : ℕ) (p : Port) → seen ≡ ports → k ≡ i → k < length seen → p ≡ get_or seen k p → slice_get (map port_of ports) i ≡ Some (port_of p)
port_there ports seen i k p same number inside read =
    let there : slice_get seen k ≡ Some p = slice_get_read seen (length seen) k p refl inside read in
    slice_get-map port_of ports i ∙ ap (option_map port_of) (ap (λ n. slice_get ports n) (sym number) ∙ ap (λ ps. slice_get ps k) (sym same) ∙ there)

-- it exports few variables
pub few_exports : (variables : ℕ) (ports : List PortDefinition) (i : ℕ) (p : PortDefinition) → list_all (is_sound_port variables) ports ≡ true → slice_get ports i ≡ Some p → length p.exports ≤ MAX_EXPORTS
few_exports variables ports i p sound there =
    let passes = all_get (is_sound_port variables) ports i p sound there in
    leb-true _ _ (and_parts (exports_few p) (exports_once p) (and_parts (exports_few p && exports_once p) (exports_known variables p) passes).0).0
