use Rattle.std.proofs.Common.{◌≡◌, ◌∙◌, ap, arith, length, Some}
use Rattle.std.specs.Prelude.{slice_get}
use Rattle.petri_atom.specs.Atom.{definition_of}
use Rattle.petri_atom.proofs.Few.{asked-there, asked-same, judged-there, movable-few, offered-few, low-same}
use Rattle.petri_atom.proofs.Judging.{offered-below}
use Rattle.petri_atom.proofs.Lists.{got-at}
use Rattle.petri_atom.proofs.atom.Atom.judge_few.Goals as goal

pub moving_few-asked-requires : goal.moving_few-asked-requires
moving_few-asked-requires c =
    let atom = c.args.self.now in
    let a = definition_of atom in
    let told = c.in-Some.told.now in
    let found = c.in-Some.ensures.lookup in
    let got : slice_get atom.behind.items c.args.transition ≡ Some told =
    got-at atom.behind.items c.deref.result.now c.from.result c.args.transition told c.deref.ensures.value c.from.ensures found.3.0 found.1 in
    asked-there a c.requires.few atom.behind.items atom.told c.args.transition told got c.low_word.result c.low_word.ensures

pub bare_from-holding-requires-clause-there : goal.bare_from-holding-requires-clause-there
bare_from-holding-requires-clause-there c =
    let atom = c.args.self.now in
    let a = definition_of atom in
    let told = c.in-Some.told.now in
    let found = c.in-Some.ensures.lookup in
    let got : slice_get atom.behind.items c.args.transition ≡ Some told =
    got-at atom.behind.items c.deref.result.now c.from.result c.args.transition told c.deref.ensures.value c.from.ensures found.3.0 found.1 in
    let asks = asked-same a c.requires.few atom.behind.items atom.told c.args.transition told got c.low_word.result c.low_word.ensures c.args.state.now.marking c.moving_few-asked.result c.moving_few-asked.ensures in
    judged-there a c.requires.few atom.behind.items atom.told c.args.transition told got c.low_word-could.result c.low_word-in-Some.result c.low_word-in-Some-2.result c.moving_few-asked.result c.low_word-in-Some.ensures c.low_word-in-Some-2.ensures c.args.state.now.marking _ _ asks

pub returns-in-Some-clause-movable : goal.returns-in-Some-clause-movable
returns-in-Some-clause-movable c before row offered moved is =
    let atom = c.args.self.now in
    let a = definition_of atom in
    let told = c.in-Some.told.now in
    let found = c.in-Some.ensures.lookup in
    let got : slice_get atom.behind.items c.args.transition ≡ Some told =
    got-at atom.behind.items c.deref.result.now c.from.result c.args.transition told c.deref.ensures.value c.from.ensures found.3.0 found.1 in
    let asks = asked-same a c.requires.few atom.behind.items atom.told c.args.transition told got c.low_word.result c.low_word.ensures c.args.state.now.marking c.moving_few-asked.result c.moving_few-asked.ensures in
    let could = low-same a.transitions _ c.movable.inside.word c.low_word-could.result c.requires.few c.low_word-could.ensures (c.movable.view_is ∙ moved) in
    c.from-movable-inside.ensures ∙ movable-few a c.requires.few atom.behind.items atom.told c.args.transition told got c.low_word-could.result c.low_word-in-Some.result c.low_word-in-Some-2.result c.moving_few-asked.result c.low_word-in-Some.ensures c.low_word-in-Some-2.ensures before c.args.state.now row offered is could asks

pub returns-in-Some-clause-offered : goal.returns-in-Some-clause-offered
returns-in-Some-clause-offered c before row offered moved was is =
    let atom = c.args.self.now in
    let a = definition_of atom in
    let told = c.in-Some.told.now in
    let found = c.in-Some.ensures.lookup in
    let got : slice_get atom.behind.items c.args.transition ≡ Some told =
    got-at atom.behind.items c.deref.result.now c.from.result c.args.transition told c.deref.ensures.value c.from.ensures found.3.0 found.1 in
    let asks = asked-same a c.requires.few atom.behind.items atom.told c.args.transition told got c.low_word.result c.low_word.ensures c.args.state.now.marking c.moving_few-asked.result c.moving_few-asked.ensures in
    let could = low-same a.transitions _ c.movable.inside.word c.low_word-could.result c.requires.few c.low_word-could.ensures (c.movable.view_is ∙ moved) in
    let old = low-same a.transitions _ c.offered.inside.word c.low_word-was.result c.requires.few c.low_word-was.ensures (c.offered.view_is ∙ was) in
    c.from-offered-inside.ensures ∙ offered-few a c.requires.few atom.behind.items atom.told c.args.transition told got c.low_word-could.result c.low_word-in-Some.result c.low_word-in-Some-2.result c.moving_few-asked.result c.low_word-in-Some.ensures c.low_word-in-Some-2.ensures before c.args.state.now row offered is could asks c.low_word-was.result atom.unguarded c.low_word-in-Some-3.result atom.turned c.low_word-in-Some-5.result c.low_word-in-Some-4.result c.bare_from-holding.result old c.low_word-in-Some-3.ensures atom.unguarded_bits c.low_word-in-Some-5.ensures atom.turned_bits c.low_word-in-Some-4.ensures c.bare_from-holding.ensures

pub returns-in_default-clause-movable : goal.returns-in_default-clause-movable
returns-in_default-clause-movable c before row offered moved is =
    let atom = c.args.self.now in
    let below = offered-below (definition_of atom) atom.behind.items atom.told before c.args.transition offered in
    absurd (omega (arith, below, c.in_default.ensures.lookup.3, c.from.ensures, ap length c.deref.ensures.value))

pub returns-in_default-clause-offered : goal.returns-in_default-clause-offered
returns-in_default-clause-offered c before row offered moved was is =
    let atom = c.args.self.now in
    let below = offered-below (definition_of atom) atom.behind.items atom.told before c.args.transition offered in
    absurd (omega (arith, below, c.in_default.ensures.lookup.3, c.from.ensures, ap length c.deref.ensures.value))
