use Rattle.std.proofs.Common.{◌≡◌, refl, sym, ◌∙◌, ap, arith, length, Some}
use Rattle.std.specs.Prelude.{slice_get}
use Rattle.std.specs.Int.{w128}
use Rattle.std.proofs.lemmas.Bool.{and_parts}
use Rattle.petri_atom.specs.Atom.{definition_of}
use Rattle.petri_atom.proofs.Fitting.{few_transitions}
use Rattle.petri_atom.proofs.Judging.{asked-within, can-within, movable-behind, offered-behind, offered-below}
use Rattle.petri_atom.proofs.Lists.{got-at}
use Rattle.petri_atom.proofs.Sets.{has-and}
use Rattle.petri_atom.proofs.atom.Atom.judge_many.Goals as goal

pub moving-asked-requires : goal.moving-asked-requires
moving-asked-requires c =
    let atom = c.args.self.now in
    let a = definition_of atom in
    let found = c.in-Some.ensures.lookup in
    let got : slice_get atom.behind.items c.args.transition ≡ Some c.in-Some.told.now =
    got-at atom.behind.items c.deref.result.now c.from.result c.args.transition c.in-Some.told.now c.deref.ensures.value c.from.ensures found.3.0 found.1 in
    asked-within a w128 (few_transitions a atom.well_formed) atom.behind.items atom.told c.args.transition c.in-Some.told.now got

pub unguarded_in-passed-requires : goal.unguarded_in-passed-requires
unguarded_in-passed-requires c n inside =
    let atom = c.args.self.now in
    let a = definition_of atom in
    let found = c.in-Some.ensures.lookup in
    let got : slice_get atom.behind.items c.args.transition ≡ Some c.in-Some.told.now =
    got-at atom.behind.items c.deref.result.now c.from.result c.args.transition c.in-Some.told.now c.deref.ensures.value c.from.ensures found.3.0 found.1 in
    can-within a w128 (few_transitions a atom.well_formed) atom.behind.items atom.told c.args.transition c.in-Some.told.now got c.args.state.now.marking c.movable.inside.word c.moving-asked.result n c.moving-asked.ensures
    (and_parts _ _ (sym (has-and _ _ n) ∙ (and_parts _ _ (sym (has-and _ _ n) ∙ inside)).0)).0

pub returns-in-Some-clause-movable : goal.returns-in-Some-clause-movable
returns-in-Some-clause-movable c before row offered moved is =
    let atom = c.args.self.now in
    let a = definition_of atom in
    let told = c.in-Some.told.now in
    let found = c.in-Some.ensures.lookup in
    let got : slice_get atom.behind.items c.args.transition ≡ Some told =
    got-at atom.behind.items c.deref.result.now c.from.result c.args.transition told c.deref.ensures.value c.from.ensures found.3.0 found.1 in
    movable-behind a w128 (few_transitions a atom.well_formed) atom.behind.items atom.told c.args.transition told got before c.args.state.now row offered is c.movable.inside.word c.moving-asked.result (c.movable.view_is ∙ moved)
    c.moving-asked.ensures

pub returns-in-Some-clause-offered : goal.returns-in-Some-clause-offered
returns-in-Some-clause-offered c before row offered moved was is =
    let atom = c.args.self.now in
    let a = definition_of atom in
    let told = c.in-Some.told.now in
    let could = c.movable.inside.word in
    let found = c.in-Some.ensures.lookup in
    let got : slice_get atom.behind.items c.args.transition ≡ Some told =
    got-at atom.behind.items c.deref.result.now c.from.result c.args.transition told c.deref.ensures.value c.from.ensures found.3.0 found.1 in
    let few = few_transitions a atom.well_formed in
    let moves = movable-behind a w128 few atom.behind.items atom.told c.args.transition told got before c.args.state.now row offered is could c.moving-asked.result (c.movable.view_is ∙ moved) c.moving-asked.ensures in
    offered-behind a w128 few atom.behind.items atom.told c.args.transition told got before c.args.state.now row offered is could _ c.offered.inside.word atom.unguarded _ c.unguarded_in-passed.result (c.movable.view_is ∙ moved) moves (c.offered.view_is ∙ was) atom.unguarded_bits refl c.unguarded_in-passed.ensures

pub returns-in_default-clause-movable : goal.returns-in_default-clause-movable
returns-in_default-clause-movable c before row offered moved is =
    let atom = c.args.self.now in
    let below = offered-below (definition_of atom) atom.behind.items atom.told before c.args.transition offered in
    absurd (omega (arith, below, c.in_default.ensures.lookup.3, c.from.ensures, ap length c.deref.ensures.value))

pub returns-in_default-clause-offered : goal.returns-in_default-clause-offered
returns-in_default-clause-offered c before row offered moved was is =
    let atom = c.args.self.now in
    let below = offered-below (definition_of atom) atom.behind.items atom.told before c.args.transition offered in
    absurd (omega (arith, below, c.in_default.ensures.lookup.3, c.from.ensures, ap length c.deref.ensures.value))
