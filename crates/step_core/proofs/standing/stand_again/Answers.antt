use Rattle.std.proofs.Common.{◌≡◌, ◌<◌, ◌^◌, ◌≤◌, ◌∙◌, ℕ, ap, sym, refl, subst, length, true, false, arith, ⊎_elim, w64}
use Rattle.std.specs.Prelude.{bit_and}
use Rattle.std.specs.FinSet.{contains}
use Rattle.std.specs.Int.{trailing_zeros}
use Rattle.std.proofs.Math.Bool.{Bool-set}
use Rattle.std.proofs.Math.Logic.{∥∥₁_elim, ∥∥₁_map}
use Rattle.std.proofs.lemmas.Bool.{cases_Bool, cases_eq, false≢true, or_from, or_left, or_parts}
use Rattle.petri_atom.proofs.Sets.{has-or}
use Rattle.priority_filter.specs.Members.{has_bit}
use Rattle.plant_model.specs.ConnectorRows.{is_of_connector}
use Rattle.plant_model.specs.System.{interactions_in, plant_of}
use Rattle.plant_model.proofs.WithoutLowest.{fewer-less}
use Rattle.plant_model.proofs.BitsLeft.{fewer-in, fewer-out, lowest-set, lowest-there, no-bit}
use Rattle.step_core.proofs.Ranked.{of-no-other}
use Rattle.step_core.specs.Standing.{IsStanding, is_always_overruled}
use Rattle.step_core.proofs.Restood.{affected-within, stands-anew, stands-still, told-affected, told-anew, told-still, within-anew}
use Rattle.step_core.proofs.standing.stand_again.Goals.{Joined-is_head_new, then-is_head_new, else-is_head_new}
use Rattle.step_core.proofs.standing.stand_again.Goals as goal

pub loop-left-init : goal.loop-left-init
loop-left-init c = record {
  part = λ k inside. inside;
  live = ∥∥₁_map c.requires.standing (λ both. both.0);
  over = refl;
  done = c.requires.others;
  within = λ k _. no-bit k;
  same = λ n k its out. refl;
  heads = λ none m head. refl;
  told = λ n k its unchanged unreached. refl;
}

pub copy_own-rivalry-requires : goal.copy_own-rivalry-requires
copy_own-rivalry-requires c =
    lowest-there c.loop-left.left (omega (arith, c.loop-left-test.true)) (omega arith) (length (plant_of c.args.system.now).wires) c.args.changed c.requires.within c.loop-left.invariant.part

pub stand_one-reached-requires : goal.stand_one-reached-requires
stand_one-reached-requires c =
    lowest-there c.loop-left.left (omega (arith, c.loop-left-test.true)) (omega arith) (length (plant_of c.args.system.now).wires) c.args.changed c.requires.within c.loop-left.invariant.part

pub loop-left-smaller : goal.loop-left-smaller
loop-left-smaller c = fewer-less w64 c.loop-left.left (omega (arith, c.loop-left-test.true)) (omega arith)

pub loop-left-preserved : goal.loop-left-preserved
loop-left-preserved c =
    let system = c.args.system.now in
    let all = interactions_in system in
    let left = c.loop-left.left in
    let some : 0 < left = omega (arith, c.loop-left-test.true) in
    let small : left < 2 ^ 64 = omega arith in
    let connector = trailing_zeros w64 left in
    let before = c.loop-left.invariant in
    let copied = c.copy_own-rivalry in
    let rivalry = copied.ensures.rivalry in
    let one = c.stand_one-reached in
    let unchanged-other : (k : ℕ) → has_bit c.args.changed k ≡ false → k ≡ connector → ⊥ =
    λ k unchanged same. false≢true (sym unchanged ∙ ap (has_bit c.args.changed) same ∙ before.part connector (lowest-set left some small)) in
    record {
      part = λ k inside. before.part k (fewer-in left some small k inside);
      live = ∥∥₁_map before.live (one.ensures.live (contains c.loop-left.rivals) (contains copied.new.set) rivalry);
      over = before.over;
      done = λ n k its out. ⊎_elim
          (λ same. copied.ensures.own n (ap (λ j. is_of_connector all j n) (sym same) ∙ its))
          (λ other. rivalry.others n (of-no-other system n k connector its other) ∙ before.done n k its (fewer-out left some small k other out))
          (cases_eq k connector);
      within = λ k past. has-or c.loop-left.reached one.result k ∙ or_from (has_bit c.loop-left.reached k) (has_bit one.result k) (before.within k past) (one.ensures.within k past);
      same = λ n k its unchanged. rivalry.others n (of-no-other system n k connector its (unchanged-other k unchanged)) ∙ before.same n k its unchanged;
      heads = λ none m head.
          let parts = or_parts c.loop-left.is_head_new copied.result.is_head_new none in
          ⊎_elim (λ own. rivalry.same_heads parts.1 m own head) (λ out. rivalry.others m out) (cases_Bool (is_of_connector all connector m)) ∙ before.heads parts.0 m head;
      told = λ n k its unchanged unreached.
          let parts = or_parts (has_bit c.loop-left.reached k) (has_bit one.result k) (sym (has-or c.loop-left.reached one.result k) ∙ unreached) in
          ∥∥₁_elim before.live (Bool-set _ _) (λ lives. one.ensures.told (contains c.loop-left.rivals) (contains copied.new.set) rivalry lives n k its (unchanged-other k unchanged) parts.1) ∙ before.told n k its unchanged parts.0;
    }

-- in the end the rivals of each connector are right
pub returns-clause-rivals : goal.returns-clause-rivals
returns-clause-rivals c n k its = c.loop-left.invariant.done n k its (ap (λ w. has_bit w k) c.loop-left-test.false ∙ no-bit k)

-- what stands and what is told, whether heads were looked at again or not
record Ending (c : Joined-is_head_new) : Type 0 where
  stands : IsStanding (plant_of c.args.system.now) (interactions_in c.args.system.now) c.args.system.now.ranks (contains c.loop-left.rivals) c.if-is_head_new.standing
  within : (k : ℕ) → length (plant_of c.args.system.now).wires ≤ k → has_bit c.if-is_head_new.reached k ≡ false
  told : (n k : ℕ) → is_of_connector (interactions_in c.args.system.now) k n ≡ true → has_bit c.args.changed k ≡ false → has_bit c.if-is_head_new.reached k ≡ false
      → is_always_overruled (plant_of c.args.system.now) (interactions_in c.args.system.now) (contains c.loop-left.rivals) n ≡ is_always_overruled (plant_of c.args.system.now) (interactions_in c.args.system.now) (contains c.args.rivals.now) n

ending : (c : Joined-is_head_new) → Ending c
ending c =
    let system = c.args.system.now in
    let old = contains c.args.rivals.now in
    let new = contains c.loop-left.rivals in
    let was = c.args.standing.now in
    let live = c.loop-left.standing.live in
    let before = c.loop-left.invariant in
    elim c.if-is_head_new.branch [
      | then-is_head_new w ↦
          let over = w.stand_over-reached.new.over in
          let differing = w.stand_over-reached.result in
          let same : (k : ℕ) → has_bit differing k ≡ false → has_bit over k ≡ has_bit was.over k =
          λ k out. w.stand_over-reached.ensures.told k out ∙ ap (λ word. has_bit word k) before.over in
          record {
            stands = subst (IsStanding (plant_of system) (interactions_in system) system.ranks new) (sym w.standing-is)
                (stands-anew system old new was c.requires.standing c.args.changed c.loop-left.reached live before.live before.told over differing w.stand_over-reached.ensures.over same);
            within = λ k past. ap (λ word. has_bit word k) w.reached-is ∙
                within-anew system old new was c.requires.standing c.args.changed c.loop-left.reached live before.live before.told over differing w.stand_over-reached.ensures.over same
                (length (plant_of system).wires) before.within (λ j behind. w.stand_over-reached.ensures.within j behind (ap (λ word. has_bit word j) before.over ∙ ∥∥₁_elim c.requires.standing (Bool-set _ _) (λ both. both.1.within j behind))) k past;
            told = λ n k its unchanged out. told-anew system old new was c.requires.standing c.args.changed c.loop-left.reached live before.live before.told over differing w.stand_over-reached.ensures.over same
                n k its unchanged (sym (ap (λ word. has_bit word k) w.reached-is) ∙ out);
          }
      | else-is_head_new w ↦ record {
        stands = subst (IsStanding (plant_of system) (interactions_in system) system.ranks new) (sym w.standing-is)
            (subst (λ over. IsStanding (plant_of system) (interactions_in system) system.ranks new (record { live = live; over = over })) (sym before.over) (stands-still system old new was c.requires.standing c.args.changed c.loop-left.reached live before.live before.told (before.heads w.if-is_head_new.false)));
        within = λ k past. ap (λ word. has_bit word k) w.reached-is ∙ before.within k past;
        told = λ n k its unchanged out. told-still system old new was c.requires.standing c.args.changed c.loop-left.reached live before.live before.told (before.heads w.if-is_head_new.false)
            n k its unchanged (sym (ap (λ word. has_bit word k) w.reached-is) ∙ out);
      }
    ]

pub returns-clause-standing : goal.returns-clause-standing
returns-clause-standing c = (ending c.before).stands

pub returns-clause-within : goal.returns-clause-within
returns-clause-within c k past =
    affected-within c.args.system.now (contains c.args.possible.now) (contains c.args.rivals.now) (contains c.loop-left.rivals) c.if-is_head_new.standing c.args.changed c.if-is_head_new.reached
    (ending c.before).stands
    (λ n j its can. c.loop-left.invariant.done n j its (ap (λ w. has_bit w j) c.loop-left-test.false ∙ no-bit j) ∙ or_left (contains c.args.possible.now n) (contains c.args.opened.now n) can)
    c.loop-left.invariant.same (ending c.before).told
    k (c.requires.within k past) ((ending c.before).within k past)

pub returns-clause-changed : goal.returns-clause-changed
returns-clause-changed c k inside =
    let affected = bit_and c.if-is_head_new.reached c.if-is_head_new.standing.live in
    has-or c.args.changed affected k ∙ or_left (has_bit c.args.changed k) (has_bit affected k) inside

pub returns-clause-told : goal.returns-clause-told
returns-clause-told c =
    told-affected c.args.system.now (contains c.args.possible.now) (contains c.args.rivals.now) (contains c.loop-left.rivals) c.if-is_head_new.standing c.args.changed c.if-is_head_new.reached
    (ending c.before).stands
    (λ n j its can. c.loop-left.invariant.done n j its (ap (λ w. has_bit w j) c.loop-left-test.false ∙ no-bit j) ∙ or_left (contains c.args.possible.now n) (contains c.args.opened.now n) can)
    c.loop-left.invariant.same (ending c.before).told
