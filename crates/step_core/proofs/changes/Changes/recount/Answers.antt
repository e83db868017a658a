use Rattle.std.proofs.Common.{◌<◌, ◌∙◌, refl, sym, subst, length, get_or, set, arith, get_or-set_same}
use Rattle.std.proofs.lemmas.Bool.{eqb-true}
use Rattle.std.proofs.lemmas.List.{get_or_default, length-set}
use Rattle.petri_atom.specs.Atom.{definition_of}
use Rattle.plant_model.specs.System.{plant_of}
use Rattle.plant_model.proofs.Judging.{atom-at}
use Rattle.step_core.specs.EnabledTransitions.{AreCounted}
use Rattle.step_core.specs.Leaves.{count_of}
use Rattle.step_core.proofs.OfSystem.{atom-within, few-atoms}
use Rattle.step_core.proofs.Recounted.{counted-alike, put-back, put-same, recounted}
use Rattle.step_core.proofs.Telling.{none-told, row-written}
use Rattle.step_core.proofs.changes.Changes.recount.Goals as goal

pub returns-clause-counted : goal.returns-clause-counted
returns-clause-counted c =
    let s = c.args.system.now in
    let atoms = (plant_of s).atoms in
    let i = c.from-index.result in
    let sets = c.args.offers.now.sets in
    let counts = c.args.offers.now.counts in
    let item = c.index.result.now in
    let atom = definition_of item in
    let row = c.recount-ports.new.counts in
    let here = c.index-offers-index-2.result in
    let low = few-atoms s in
    let within : i < length sets = omega (arith, c.requires.atom, low, c.from-index.ensures) in
    let in-counts : i < length counts = omega (arith, c.requires.atom, low, c.from-index.ensures) in
    let behind = set sets i c.args.before in
    let in-behind : i < length behind = omega (arith, length-set sets i c.args.before, within) in
    let there : i < length s.atoms.items = atom-within s i (omega (arith, c.requires.atom, c.from-index.ensures)) in
    let known = atom-at s.atoms.items i i item refl there c.index.ensures in
    let before : AreCounted atoms behind counts = subst (λ k. AreCounted atoms (set sets k c.args.before) counts) (sym c.from-index.ensures) c.requires.counted in
    let was = c.requires.before atom (atom-at s.atoms.items i c.args.atom item c.from-index.ensures there c.index.ensures) in
    counted-alike atoms (set behind i here) sets (set counts i row) (put-back sets i c.args.before here within (c.index-offers-index-2.is ∙ get_or_default sets i here 0 within))
    (recounted behind counts i here row in-behind in-counts atom
    (λ t port told. c.recount-ports.ensures.counts was.0 t was.1 (sym c.index-offers-index-2.is ∙ told) port (before.at_ports i atom was.0 port known (get_or-set_same sets i c.args.before 0 within ∙ was.1)))
    (λ port beyond. c.recount-ports.ensures.past port beyond ∙ before.past_ports i atom port known beyond)
    (λ port. c.recount-ports.ensures.few (λ k. before.few i k) port)
    atoms known before)

pub returns-clause-leaves : goal.returns-clause-leaves
returns-clause-leaves c = c.tell_ports.ensures.leaves _ _ (row-written c.args.atom c.from-index.result c.args.offers.now.counts c.recount-ports.new.counts c.from-index.ensures) c.requires.leaves

-- ---- where it offers the same as before

pub returns-then-eq-clause-counted : goal.returns-then-eq-clause-counted
returns-then-eq-clause-counted c =
    let s = c.args.system.now in
    let i = c.from-index.result in
    let sets = c.args.offers.now.sets in
    let within : i < length sets = omega (arith, c.requires.atom, few-atoms s, c.from-index.ensures) in
    counted-alike (plant_of s).atoms (set sets c.args.atom c.args.before) sets c.args.offers.now.counts
    (put-same sets i c.args.atom c.args.before c.from-index.ensures within
    (sym (eqb-true (get_or sets i c.index-offers-index.result) c.args.before (sym c.eq.ensures ∙ c.if-eq.true)) ∙ get_or_default sets i c.index-offers-index.result 0 within))
    c.requires.counted

pub returns-then-eq-clause-told : goal.returns-then-eq-clause-told
returns-then-eq-clause-told c = none-told (plant_of c.args.system.now).wires (count_of c.args.offers.now.counts) c.args.self.now
