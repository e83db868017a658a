use Rattle.std.proofs.Common.{cond, ◌∙◌, sym, ap, take}
use Rattle.std.specs.Prelude.{Some, None}
use Rattle.std.specs.List.{list_any}
use Rattle.petri_atom.specs.Atom.{definition_of}
use Rattle.petri_atom.specs.Name.{is_same_text}
use Rattle.plant_model.specs.declared.fault.SystemFault.TheVariants.{BadAtom}
use Rattle.plant_model.proofs.FirstFault.{any-of-first}
use Rattle.plant_model.proofs.rules.atom_fault.Goals as goal

pub returns-then-has_name : goal.returns-then-has_name
returns-then-has_name c =
    let n = c.args.number in
    let same = ap (λ name. list_any (λ a. is_same_text (definition_of a).name name) (take n c.args.atoms.now)) c.name.ensures in
    sym (ap (λ b. cond b (Some (BadAtom n)) None) (any-of-first (λ a. is_same_text a.name (definition_of c.args.atom.now).name) definition_of n c.args.atoms.now ∙ sym same ∙ sym c.has_name.ensures ∙ c.if-has_name.true))

pub returns-else-has_name : goal.returns-else-has_name
returns-else-has_name c =
    let n = c.args.number in
    let same = ap (λ name. list_any (λ a. is_same_text (definition_of a).name name) (take n c.args.atoms.now)) c.name.ensures in
    sym (ap (λ b. cond b (Some (BadAtom n)) None) (any-of-first (λ a. is_same_text a.name (definition_of c.args.atom.now).name) definition_of n c.args.atoms.now ∙ sym same ∙ sym c.has_name.ensures ∙ c.if-has_name.false))
