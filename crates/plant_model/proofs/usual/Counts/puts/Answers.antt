use Rattle.std.proofs.Common.{◌≡◌, ◌==◌, ◌∙◌, ap, sym, refl, map, length, arith, [], ◌∷◌, ◌++◌, ⊎_elim, Vec, Global}
use Rattle.std.specs.Prelude.{slice_get}
use Rattle.std.proofs.lemmas.Bool.{cases_eq, eq-eqb, eqb-true}
use Rattle.std.proofs.lemmas.Nat.Bits.{shr_and_one}
use Rattle.priority_filter.specs.Members.{has_bit}
use Rattle.plant_model.specs.Usual.{IsPut, has_put}
use Rattle.plant_model.specs.declared.usual.Put.{Put}
use Rattle.plant_model.proofs.Pushed.{each-pushed}
use Rattle.plant_model.proofs.Putting.{last-passes, lent-at, still-passes}
use Rattle.plant_model.proofs.usual.Counts.puts.Goals as goal
use Rattle.plant_model.proofs.usual.Counts.puts.Goals.{then-connectors-number-eq1+in_ok-push, else-connectors-number-eq1}

pub put-requires : goal.put-requires
put-requires c =
    let ports = c.args.ports.now in
    c.requires.few_leaves c.loop-number.number c.deref.result.now
    (lent-at (λ list. list.items) ports c.loop-number.number c.index-ports-number.result c.deref.result.now c.loop-number-test.true c.index-ports-number.is c.deref.ensures.value)

pub loop-number-preserved : goal.loop-number-preserved
loop-number-preserved c =
    let own = c.args.self.now in
    let ports = c.args.ports.now in
    let all = map (λ list. list.items) ports in
    let n = c.loop-number.number in
    let puts = c.loop-number.puts.items in
    let before = c.loop-number.invariant in
    elim c.if-connectors-number-eq1.branch [
      | then-connectors-number-eq1+in_ok-push w ↦
          let made = w.put.result in
          let pushed : c.if-connectors-number-eq1.puts.items ≡ puts ++ made ∷ [] =
          ap (λ (v : Vec Put Global). v.items) w.puts-is ∙ w.in_ok-push.ensures.items in (
            λ k below bit.
                ⊎_elim
                (λ here. ap (λ ps. has_put ps k) pushed ∙ last-passes (λ p. p.connector == k) puts made (eq-eqb made.connector k (w.put.ensures.connector ∙ sym here)))
                (λ other. ap (λ ps. has_put ps k) pushed ∙ still-passes (λ p. p.connector == k) puts made (before.0 k (omega (arith, below, other)) bit))
                (cases_eq k n),
            λ j p there.
                each-pushed (λ i q. IsPut all own.atom own.after q) puts made (length puts) refl before.1
                (w.put.ensures.right all (lent-at (λ list. list.items) ports n w.index-ports-number.result w.deref.result.now c.loop-number-test.true w.index-ports-number.is w.deref.ensures.value))
                j p (sym (ap (λ xs. slice_get xs j) pushed) ∙ there),
          )
      | else-connectors-number-eq1 w ↦ (
        λ k below bit.
            ⊎_elim
            (λ here. absurd (w.if-connectors-number-eq1.false (shr_and_one c.args.connectors n ∙ eqb-true _ _ (sym (ap (has_bit c.args.connectors) here) ∙ bit))))
            (λ other. ap (λ (v : Vec Put Global). has_put v.items k) w.puts-is ∙ before.0 k (omega (arith, below, other)) bit)
            (cases_eq k n),
        λ j p there. before.1 j p (ap (λ (v : Vec Put Global). slice_get v.items j) (sym w.puts-is) ∙ there),
      )
    ]
