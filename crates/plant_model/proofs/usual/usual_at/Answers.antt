use Rattle.std.proofs.Common.{refl, subst, map, arith}
use Rattle.std.proofs.lemmas.List.{length-map}
use Rattle.std.proofs.lemmas.Option.{same_Some}
use Rattle.petri_atom.specs.Atom.{definition_of}
use Rattle.plant_model.specs.Usual.{IsUsual}
use Rattle.plant_model.specs.declared.usual.Usual.{Usual}
use Rattle.plant_model.proofs.Putting.{is-usual}
use Rattle.plant_model.proofs.usual.usual_at.Goals as goal

pub returns : goal.returns
returns c found is =
    let a = definition_of c.args.atom.now in
    let ports = c.args.ports.now in
    let all = map (λ list. list.items) ports in
    let made : Usual = record {
      before = c.offered_from-before.result;
      places = c.targets_of-places.result;
      after = c.in-Some.after;
      counts = c.counts_among-2.result;
      dirty = c.differing.result;
      heavy = c.differing-heavy.result;
      puts = c.in_ok-puts.puts;
    } in
    subst (IsUsual a all c.args.number) (same_Some made found is)
    (is-usual a all c.args.number made c.counts_among.result
    (c.in-Some.ensures.movable c.in-Some.after refl) (c.in-Some.ensures.offered c.in-Some.after refl)
    c.counts_among.ensures.counts c.counts_among.ensures.few
    c.counts_among-2.ensures.counts c.counts_among-2.ensures.past c.counts_among-2.ensures.few
    c.differing-heavy.ensures c.differing.ensures
    (λ k below. c.in_ok-puts.ensures.each k (omega (arith, below, length-map ports (λ list. list.items)))) c.in_ok-puts.ensures.right)
