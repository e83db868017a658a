use Rattle.std.proofs.Common.{◌≡◌, ◌==◌, ◌&&◌, ◌||◌, ◌≤◌, ◌∙◌, ℕ, Bool, ap, sym, arith, refl, true, false, get_or, Some}
use Rattle.std.specs.Prelude.{slice_get}
use Rattle.std.specs.Option.{option_map_or}
use Rattle.std.proofs.Math.Bool.{and-true}
use Rattle.std.proofs.lemmas.Bool.{eq-eqb, ne_eqb}
use Rattle.std.proofs.lemmas.Nat.{pow_pos}
use Rattle.std.proofs.lemmas.Option.{slice_get-get_or, slice_get_past, slice_get_within}
use Rattle.connector_tree.specs.Masks.{is_set}
use Rattle.connector_tree.specs.declared.tree.Port.{Port}
use Rattle.petri_atom.proofs.Sets.{has-above}
use Rattle.plant_model.specs.Usual.{count_in, is_leaf_on, is_nothing, is_on, is_several}
use Rattle.plant_model.specs.declared.usual.Put.{Put}
use Rattle.plant_model.proofs.Putting.{none-more, none-yet, put-all, put-more}
use Rattle.plant_model.proofs.usual.Counts.put.Goals as goal
use Rattle.plant_model.proofs.usual.Counts.put.Goals.{then-leaf-self, else-leaf-self}

pub loop-number-init : goal.loop-number-init
loop-number-init c =
    let atom = c.args.self.now.atom in
    let after = c.args.self.now.after in
    let leaves = c.args.leaves.now in
    let none : (k : ℕ) → is_set 0 k ≡ false = λ k. has-above 0 0 k (pow_pos 0) (omega arith) in (
      refl,
      λ k. none k ∙ none-yet (is_on (λ count. true) atom after leaves) k,
      λ k. none k ∙ none-yet (is_on is_nothing atom after leaves) k,
      λ k. none k ∙ none-yet (is_on is_several atom after leaves) k,
    )

pub loop-number-preserved : goal.loop-number-preserved
loop-number-preserved c =
    let atom = c.args.self.now.atom in
    let after = c.args.self.now.after in
    let leaves = c.args.leaves.now in
    let n = c.loop-number.number in
    let put = c.loop-number.put in
    let before = c.loop-number.invariant in
    let p : Port = get_or leaves n (record { atom = 0; port = 0 }) in
    let its : (test : ℕ → Bool) → is_on test atom after leaves n ≡ (p.atom == atom && test (count_in after p.port)) =
    λ test. ap (λ o. option_map_or (λ q. q.atom == atom && test (count_in after q.port)) o false) (slice_get-get_or leaves n (record { atom = 0; port = 0 }) c.loop-number-test.true) in
    elim c.if-leaf-self.branch [
      | then-leaf-self w ↦
          let own : (p.atom == atom) ≡ true = eq-eqb p.atom atom w.if-leaf-self.true in
          let here : (test : ℕ → Bool) → is_on test atom after leaves n ≡ test w.count_in.result =
          λ test. its test ∙ ap (λ x. x && test (count_in after p.port)) own ∙ ap test (sym w.count_in.ensures) in (
            ap (λ (x : Put). x.connector) w.put-is ∙ w.add.ensures.connector ∙ before.0,
            put-more (is_set put.mask) n (is_on (λ count. true) atom after leaves) before.1 (is_set c.if-leaf-self.put.mask) true (here (λ count. true)) (λ k. ap (λ (x : Put). is_set x.mask k) w.put-is ∙ w.add.ensures.mask k ∙ ap (λ x. is_set put.mask k || x) (sym (and-true (k == n)))),
            put-more (is_set put.off) n (is_on is_nothing atom after leaves) before.2 (is_set c.if-leaf-self.put.off) (is_nothing w.count_in.result) (here is_nothing) (λ k. ap (λ (x : Put). is_set x.off k) w.put-is ∙ w.add.ensures.off k),
            put-more (is_set put.many) n (is_on is_several atom after leaves) before.3 (is_set c.if-leaf-self.put.many) (is_several w.count_in.result) (here is_several) (λ k. ap (λ (x : Put). is_set x.many k) w.put-is ∙ w.add.ensures.many k),
          )
      | else-leaf-self w ↦
          let gone : (test : ℕ → Bool) → is_on test atom after leaves n ≡ false =
          λ test. its test ∙ ap (λ x. x && test (count_in after p.port)) (ne_eqb p.atom atom w.if-leaf-self.false) in (
            ap (λ (x : Put). x.connector) w.put-is ∙ before.0,
            λ k. ap (λ (x : Put). is_set x.mask k) w.put-is ∙ none-more (is_set put.mask) n (is_on (λ count. true) atom after leaves) before.1 (gone (λ count. true)) k,
            λ k. ap (λ (x : Put). is_set x.off k) w.put-is ∙ none-more (is_set put.off) n (is_on is_nothing atom after leaves) before.2 (gone is_nothing) k,
            λ k. ap (λ (x : Put). is_set x.many k) w.put-is ∙ none-more (is_set put.many) n (is_on is_several atom after leaves) before.3 (gone is_several) k,
          )
    ]

pub returns-clause-right : goal.returns-clause-right
returns-clause-right c all there =
    let atom = c.args.self.now.atom in
    let after = c.args.self.now.after in
    let leaves = c.args.leaves.now in
    let n = c.loop-number.number in
    let put = c.loop-number.put in
    let made = c.loop-number.invariant in
    let at : slice_get all put.connector ≡ Some leaves = ap (slice_get all) made.0 ∙ there in
    let past : (test : ℕ → Bool) (k : ℕ) → n ≤ k → is_on test atom after leaves k ≡ false =
    λ test k beyond. ap (λ o. option_map_or (λ q. q.atom == atom && test (count_in after q.port)) o false) (slice_get_past leaves k (omega (arith, beyond, c.loop-number-test.false))) in
    let on : (test : ℕ → Bool) (k : ℕ) → is_on test atom after leaves k ≡ is_leaf_on test all atom after put.connector k =
    λ test k. sym (ap (λ o. option_map_or (λ ports. is_on test atom after ports k) o false) at) in
    record {
      there = slice_get_within all put.connector leaves at;
      mask = λ k. put-all (is_set put.mask) n (is_on (λ count. true) atom after leaves) made.1 (past (λ count. true)) k ∙ on (λ count. true) k;
      off = λ k. put-all (is_set put.off) n (is_on is_nothing atom after leaves) made.2 (past is_nothing) k ∙ on is_nothing k;
      many = λ k. put-all (is_set put.many) n (is_on is_several atom after leaves) made.3 (past is_several) k ∙ on is_several k;
    }
