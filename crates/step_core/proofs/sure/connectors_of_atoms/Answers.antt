use Rattle.std.proofs.Common.{◌==◌, ◌+◌, ◌∙◌, ℕ, ap, sym, drop, get_or, ⊎_elim}
use Rattle.std.proofs.lemmas.Bool.{cases_Bool, eqb-true, false≢true, or_from, or_parts}
use Rattle.std.proofs.lemmas.List.{drop_more, drop_all}
use Rattle.petri_atom.specs.Local.{is_in}
use Rattle.petri_atom.proofs.Sets.{has-or}
use Rattle.priority_filter.specs.Members.{has_bit}
use Rattle.plant_model.specs.System.{plant_of}
use Rattle.step_core.specs.SureJudgement.{has_leaf_of}
use Rattle.plant_model.proofs.BitsLeft.{no-bit}
use Rattle.step_core.proofs.sure.connectors_of_atoms.Goals as goal

pub loop-atom-init : goal.loop-atom-init
loop-atom-init c = record {
  told = λ k atom none its out. absurd (false≢true (sym out ∙ its));
  within = λ k past. no-bit k;
}

pub loop-atom-preserved : goal.loop-atom-preserved
loop-atom-preserved c =
    let atoms = c.args.atoms.now in
    let index : ℕ = c.loop-atom.atom-index in
    let number : ℕ = get_or atoms index 0 in
    let before = c.loop-atom.connectors in
    let more = c.connectors_of_atom-connectors.result in
    let one = c.connectors_of_atom-connectors.ensures in
    record {
      told = λ k atom none its out.
          let both = or_parts (has_bit before k) (has_bit more k) (sym (has-or before more k) ∙ none) in
          ⊎_elim
          (λ same. ap (λ a. has_leaf_of (plant_of c.args.system.now).wires a k) (sym (eqb-true number atom same)) ∙ one.told k both.1)
          (λ other. c.loop-atom.invariant.told k atom both.0 its (ap (λ ks. is_in ks atom) (drop_more atoms index 0 c.loop-atom-test.true) ∙ or_from (number == atom) (is_in (drop (index + 1) atoms) atom) other out))
          (cases_Bool (number == atom));
      within = λ k past. has-or before more k ∙ or_from (has_bit before k) (has_bit more k) (c.loop-atom.invariant.within k past) (one.within k past);
    }

pub returns-clause-told : goal.returns-clause-told
returns-clause-told c k atom none its =
    c.loop-atom.invariant.told k atom none its (ap (λ ks. is_in ks atom) (drop_all c.loop-atom.atom-index c.args.atoms.now c.loop-atom-test.false))
