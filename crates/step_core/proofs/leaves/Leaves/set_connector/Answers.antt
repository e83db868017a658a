use Rattle.std.proofs.Common.{◌≡◌, ℕ, ◌∙◌, ap, Bool, cond, ◌&&◌, eqb, arith, get_or}
use Rattle.std.proofs.lemmas.Option.{slice_get-get_or, slice_get_within}
use Rattle.connector_tree.specs.Masks.{is_set}
use Rattle.step_core.specs.Leaves.{count_of, is_many, is_none}
use Rattle.step_core.proofs.Written.{one-leaf-written}
use Rattle.step_core.proofs.leaves.Leaves.set_connector.Goals as goal

pub loop-leaf-preserved : goal.loop-leaf-preserved
loop-leaf-preserved c =
    let ports = c.args.ports.now in
    let connector = c.args.connector in
    let n = c.loop-leaf.leaf in
    let counts = c.args.offers.now.counts in
    let port = get_or ports n (record { atom = 0; port = 0 }) in
    let there = slice_get-get_or ports n (record { atom = 0; port = 0 }) c.loop-leaf-test.true in
    let told : (test : ℕ → Bool) (old new : ℕ → ℕ → Bool) → ((k j : ℕ) → new k j ≡ cond (eqb k connector && eqb j n) (test c.count_at.result) (old k j))
    → (k j : ℕ) → new k j ≡ cond (eqb k connector && eqb j n) (test (count_of counts port)) (old k j) =
    λ test old new wrote k j. wrote k j ∙ ap (λ x. cond (eqb k connector && eqb j n) (test x) (old k j)) c.count_at.ensures in
    record {
      off = one-leaf-written ports connector n (λ p. is_none (count_of counts p)) _ _ _ port there
          (told is_none (λ k j. is_set (get_or c.loop-leaf.self.off k 0) j) (λ k j. is_set (get_or c.set.new.self.off k 0) j) c.set.ensures.off) c.loop-leaf.invariant.off;
      many = one-leaf-written ports connector n (λ p. is_many (count_of counts p)) _ _ _ port there
          (told is_many (λ k j. is_set (get_or c.loop-leaf.self.many k 0) j) (λ k j. is_set (get_or c.set.new.self.many k 0) j) c.set.ensures.many) c.loop-leaf.invariant.many;
    }

pub returns-clause-off : goal.returns-clause-off
returns-clause-off c leaf p there = c.loop-leaf.invariant.off.here leaf p (omega (arith, slice_get_within c.args.ports.now leaf p there, c.loop-leaf-test.false)) there

pub returns-clause-many : goal.returns-clause-many
returns-clause-many c leaf p there = c.loop-leaf.invariant.many.here leaf p (omega (arith, slice_get_within c.args.ports.now leaf p there, c.loop-leaf-test.false)) there
