use Rattle.std.proofs.Common.{◌≡◌, ◌≤◌, ◌<◌, ◌^◌, ◌==◌, ◌&&◌, ◌∙◌, not, ℕ, Bool, List, ap, sym, refl, length, true, false, arith, ⊎_elim, w64}
use Rattle.std.specs.FinSet.{FinSet, contains}
use Rattle.std.specs.Ordering.{nat_cmp}
use Rattle.std.specs.Int.{trailing_zeros}
use Rattle.std.specs.Option.{option_map_or}
use Rattle.std.proofs.lemmas.Bool.{cases_eq, cases_lt, false≢true}
use Rattle.std.proofs.lemmas.Option.{slice_get_past}
use Rattle.priority_filter.specs.Members.{has_bit}
use Rattle.plant_model.specs.Choice.{Interaction}
use Rattle.plant_model.specs.ConnectorRows.{is_of_connector}
use Rattle.plant_model.specs.System.{interactions_in, plant_of}
use Rattle.plant_model.specs.declared.system.System.{System}
use Rattle.plant_model.proofs.WithoutLowest.{fewer-less}
use Rattle.step_core.specs.declared.keeping.Keeping.{Keeping}
use Rattle.step_core.specs.Standing.{is_always_overruled}
use Rattle.plant_model.proofs.BitsLeft.{fewer, fewer-in, fewer-out, lowest-set, no-bit}
use Rattle.step_core.proofs.ToldConnectors.{elsewhere, told-more, told-still, within-more}
use Rattle.step_core.proofs.keeping.Keeping.keep_connectors.Goals as goal

-- what is kept of the possible interactions
abbrev kept_by : Keeping → ℕ → Bool
kept_by k n = contains k.possible.now n && not (is_always_overruled (plant_of k.system.now) (interactions_in k.system.now) (contains k.rivals.now) n)

pub loop-left-init : goal.loop-left-init
loop-left-init c = record {
  part = λ k inside. inside;
  kept = λ n k its inside out. absurd (false≢true (sym out ∙ inside));
  others = λ n k its out. refl;
  past = λ n past. refl;
  within = λ k past. no-bit k;
  told = λ n k its out. refl;
}

-- what is left are connectors that are there
module _ (wires affected left : ℕ) (some : 0 < left) (small : left < 2 ^ 64) (within : (k : ℕ) → wires ≤ k → has_bit affected k ≡ false) (part : (k : ℕ) → has_bit left k ≡ true → has_bit affected k ≡ true) where
  lowest-there : trailing_zeros w64 left < wires
  lowest-there =
      ⊎_elim (λ low. low)
      (λ past. absurd (false≢true (sym (within (trailing_zeros w64 left) past) ∙ part (trailing_zeros w64 left) (lowest-set left some small))))
      (cases_lt (trailing_zeros w64 left) wires)

pub keep_connector-requires : goal.keep_connector-requires
keep_connector-requires c =
    lowest-there (length (plant_of c.args.self.now.system.now).wires) c.args.affected c.loop-left.left (omega (arith, c.loop-left-test.true)) (omega arith) c.requires c.loop-left.invariant.part

pub loop-left-smaller-then-keep_connector : goal.loop-left-smaller-then-keep_connector
loop-left-smaller-then-keep_connector c = fewer-less w64 c.loop-left.left (omega (arith, c.loop-left-test.true)) (omega arith)

pub loop-left-smaller : goal.loop-left-smaller
loop-left-smaller c = fewer-less w64 c.loop-left.left (omega (arith, c.loop-left-test.true)) (omega arith)

-- what holds of one more connector, whether it is told or not
module _ (k : Keeping) (affected left told : ℕ) (some : 0 < left) (small : left < 2 ^ 64) (old between new : FinSet nat_cmp) (connector : ℕ) (is : connector ≡ trailing_zeros w64 left)
    (there : connector < length (plant_of k.system.now).wires) (affects : has_bit affected connector ≡ true)
    (right : (n : ℕ) → is_of_connector (interactions_in k.system.now) connector n ≡ true → contains new n ≡ kept_by k n)
    (apart : (n : ℕ) → is_of_connector (interactions_in k.system.now) connector n ≡ false → contains new n ≡ contains between n)
    (told_so_far : (n j : ℕ) → is_of_connector (interactions_in k.system.now) j n ≡ true → has_bit told j ≡ false → contains between n ≡ contains old n) where
  abbrev system : System
  system = k.system.now

  abbrev all : List Interaction
  all = interactions_in system

  kept-more : ((n j : ℕ) → is_of_connector all j n ≡ true → has_bit affected j ≡ true → has_bit left j ≡ false → contains between n ≡ kept_by k n)
      → (n j : ℕ) → is_of_connector all j n ≡ true → has_bit affected j ≡ true → has_bit (fewer left some small) j ≡ false → contains new n ≡ kept_by k n
  kept-more so_far n j its inside out =
      ⊎_elim
      (λ same. right n (ap (λ e. is_of_connector all e n) (sym same) ∙ its))
      (λ other. elsewhere system told connector there old between new apart told_so_far n j its other ∙ so_far n j its inside (fewer-out left some small j (λ same. other (same ∙ sym is)) out))
      (cases_eq j connector)

  others-more : ((n j : ℕ) → is_of_connector all j n ≡ true → has_bit affected j ≡ false → contains between n ≡ contains old n)
      → (n j : ℕ) → is_of_connector all j n ≡ true → has_bit affected j ≡ false → contains new n ≡ contains old n
  others-more so_far n j its out =
      elsewhere system told connector there old between new apart told_so_far n j its (λ same. false≢true (sym out ∙ ap (has_bit affected) same ∙ affects)) ∙ so_far n j its out

  past-more : ((n : ℕ) → length all ≤ n → contains between n ≡ contains old n) → (n : ℕ) → length all ≤ n → contains new n ≡ contains old n
  past-more so_far n behind = apart n (ap (λ o. option_map_or (λ (i : Interaction). i.connector == connector) o false) (slice_get_past all n behind)) ∙ so_far n behind

pub loop-left-preserved-then-keep_connector : goal.loop-left-preserved-then-keep_connector
loop-left-preserved-then-keep_connector c =
    let k = c.args.self.now in
    let left = c.loop-left.left in
    let some : 0 < left = omega (arith, c.loop-left-test.true) in
    let small : left < 2 ^ 64 = omega arith in
    let before = c.loop-left.invariant in
    let one = c.keep_connector in
    let told = c.loop-left.told in
    let old = c.args.kept.now in
    let between = c.loop-left.kept in
    let connector = trailing_zeros w64 left in
    let there = lowest-there (length (plant_of k.system.now).wires) c.args.affected left some small c.requires before.part in
    let affects = before.part connector (lowest-set left some small) in
    record {
      part = λ j inside. before.part j (fewer-in left some small j inside);
      kept = kept-more k c.args.affected left told some small old between one.new.kept connector refl there affects one.ensures.kept one.ensures.others before.told before.kept;
      others = others-more k c.args.affected left told some small old between one.new.kept connector refl there affects one.ensures.kept one.ensures.others before.told before.others;
      past = past-more k c.args.affected left told some small old between one.new.kept connector refl there affects one.ensures.kept one.ensures.others before.told before.past;
      within = within-more k.system.now told connector there old between one.new.kept one.ensures.others before.told before.within;
      told = told-more k.system.now told connector there old between one.new.kept one.ensures.others before.told;
    }

pub loop-left-preserved : goal.loop-left-preserved
loop-left-preserved c =
    let k = c.args.self.now in
    let left = c.loop-left.left in
    let some : 0 < left = omega (arith, c.loop-left-test.true) in
    let small : left < 2 ^ 64 = omega arith in
    let before = c.loop-left.invariant in
    let one = c.keep_connector in
    let told = c.loop-left.told in
    let old = c.args.kept.now in
    let between = c.loop-left.kept in
    let connector = trailing_zeros w64 left in
    let there = lowest-there (length (plant_of k.system.now).wires) c.args.affected left some small c.requires before.part in
    let affects = before.part connector (lowest-set left some small) in
    record {
      part = λ j inside. before.part j (fewer-in left some small j inside);
      kept = kept-more k c.args.affected left told some small old between one.new.kept connector refl there affects one.ensures.kept one.ensures.others before.told before.kept;
      others = others-more k c.args.affected left told some small old between one.new.kept connector refl there affects one.ensures.kept one.ensures.others before.told before.others;
      past = past-more k c.args.affected left told some small old between one.new.kept connector refl there affects one.ensures.kept one.ensures.others before.told before.past;
      within = before.within;
      told = told-still k.system.now told connector there old between one.new.kept one.ensures.others before.told (one.ensures.same c.if-keep_connector.false);
    }

pub returns-clause-kept : goal.returns-clause-kept
returns-clause-kept c n k its inside = c.loop-left.invariant.kept n k its inside (ap (λ w. has_bit w k) c.loop-left-test.false ∙ no-bit k)

pub returns-clause-others : goal.returns-clause-others
returns-clause-others c = c.loop-left.invariant.others

pub returns-clause-past : goal.returns-clause-past
returns-clause-past c = c.loop-left.invariant.past

pub returns-clause-within : goal.returns-clause-within
returns-clause-within c = c.loop-left.invariant.within

pub returns-clause-told : goal.returns-clause-told
returns-clause-told c = c.loop-left.invariant.told
