use Rattle.std.proofs.Common.{◌∙◌, ap, sym, arith, length}
use Rattle.std.specs.Prelude.{slice_get}
use Rattle.engine_tests.proofs.tests.steps.counts_of_a_return.Goals as goal

pub set-requires : goal.set-requires
set-requires c = record {
  there = omega (arith, c.fire.new.self.of_plant, ap (λ p. length p.atoms) c.fire.ensures.plant, c.args.run.now.of_plant, c.requires.there);
  fits = λ a known. c.state-before.ensures.fits a (ap (λ p. slice_get p.atoms 0) (sym c.fire.ensures.plant) ∙ known);
}
