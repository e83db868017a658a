use Rattle.std.proofs.Common.{◌<◌, ◌∙◌, ap, sym, refl, length, arith}
use Rattle.std.proofs.lemmas.List.{length-map}
use Rattle.std.proofs.lemmas.Option.{slice_get_within}
use Rattle.petri_atom.specs.Atom.{definition_of}
use Rattle.plant_model.specs.System.{plant_of}
use Rattle.step_core.specs.Leaves.{count_of}
use Rattle.step_core.proofs.OfSystem.{none-reads, none-reads-past, readers-are}
use Rattle.step_core.proofs.Telling.{more-told, told-alike, told-more, told-then}
use Rattle.step_core.proofs.changes.Changes.judge_atom.Goals as goal

pub returns-then-index-len-clause-told : goal.returns-then-index-len-clause-told
returns-then-index-len-clause-told c =
    let s = c.args.system.now in
    let wires = (plant_of s).wires in
    let old = c.args.offers.now.counts in
    let new = c.recount.new.offers.counts in
    let there : c.args.number < length (plant_of s).atoms = omega (arith, length-map s.atoms.items definition_of, c.if-index-len.true, c.len.ensures, c.from-index.ensures, s.atoms.ok.0) in
    let readers = readers-are s c.from-index.result c.args.number c.index.result.now c.from-index.ensures there c.index.ensures in
    told-then wires (count_of old) (count_of old) (count_of new) c.args.self.now _ c.recount.new.self
    (told-more wires (count_of old) c.args.self.now _ c.index.result.now refl refl (λ k past. readers k ∙ none-reads wires c.args.number k past))
    (told-alike wires (count_of c.judge_one.new.self.counts) (count_of new) (count_of old) (count_of new) _ c.recount.new.self (λ p. ap (λ x. count_of x p) c.judge_one.ensures.counts) (λ p. refl) c.recount.ensures.told)

pub returns-then-index-len-clause-read : goal.returns-then-index-len-clause-read
returns-then-index-len-clause-read c k out =
    let s = c.args.system.now in
    let wires = (plant_of s).wires in
    let there : c.args.number < length (plant_of s).atoms = omega (arith, length-map s.atoms.items definition_of, c.if-index-len.true, c.len.ensures, c.from-index.ensures, s.atoms.ok.0) in
    let readers = readers-are s c.from-index.result c.args.number c.index.result.now c.from-index.ensures there c.index.ensures in
    sym (readers k) ∙ more-told wires (count_of c.args.offers.now.counts) c.args.self.now _ c.index.result.now refl refl k (c.recount.ensures.told.not_dirty k out)

pub returns-else-index-len-clause-offered : goal.returns-else-index-len-clause-offered
returns-else-index-len-clause-offered c a s known there =
    let plant = plant_of c.args.system.now in
    absurd (omega (arith, slice_get_within plant.atoms c.args.number a known, length-map c.args.system.now.atoms.items definition_of, c.if-index-len.false, c.len.ensures, c.from-index.ensures, c.args.system.now.atoms.ok.0))

pub returns-else-index-len-clause-movable : goal.returns-else-index-len-clause-movable
returns-else-index-len-clause-movable c a s known there =
    let plant = plant_of c.args.system.now in
    absurd (omega (arith, slice_get_within plant.atoms c.args.number a known, length-map c.args.system.now.atoms.items definition_of, c.if-index-len.false, c.len.ensures, c.from-index.ensures, c.args.system.now.atoms.ok.0))

pub returns-else-index-len-clause-read : goal.returns-else-index-len-clause-read
returns-else-index-len-clause-read c k out =
    let s = c.args.system.now in
    none-reads-past s c.args.number (omega (arith, length-map s.atoms.items definition_of, c.if-index-len.false, c.len.ensures, c.from-index.ensures, s.atoms.ok.0)) k
