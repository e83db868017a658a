use Rattle.std.proofs.Common.{◌≡◌, ◌*◌, ◌%◌, ◌<◌, ◌^◌, ◌≤◌, ◌∙◌, ℕ, ap, sym, refl, subst, length, true, false, arith, ⊎_elim, w64}
use Rattle.std.specs.Prelude.{bit_and, bit_or}
use Rattle.std.specs.FinSet.{contains}
use Rattle.std.specs.Int.{trailing_zeros}
use Rattle.std.proofs.Math.Bool.{Bool-set}
use Rattle.std.proofs.Math.Logic.{∥∥₁_elim, ∥∥₁_map}
use Rattle.std.proofs.lemmas.Bool.{cases_Bool, cases_lt, or_from, or_parts, true≢false}
use Rattle.petri_atom.proofs.Sets.{has-or}
use Rattle.priority_filter.specs.Members.{has_bit}
use Rattle.plant_model.specs.Choice.{is_possible_at}
use Rattle.plant_model.specs.ConnectorRows.{is_of_connector}
use Rattle.plant_model.specs.System.{interactions_in, plant_of}
use Rattle.plant_model.proofs.WithoutLowest.{fewer-less}
use Rattle.step_core.specs.Standing.{AreLive, IsStanding, but_heads, is_always_overruled}
use Rattle.plant_model.proofs.BitsLeft.{lowest-there, no-bit}
use Rattle.step_core.proofs.NextConnector.{left-within, past-next, right-next}
use Rattle.step_core.proofs.OwnBits.{bit-set, bit-unset}
use Rattle.step_core.proofs.Ranked.{connector-of}
use Rattle.step_core.proofs.Restood.{affected-within, stands-anew, stands-still, told-affected, told-anew, told-still, within-anew}
use Rattle.step_core.proofs.SystemConnectors.{few-connectors}
use Rattle.step_core.proofs.ToldConnectors.{told-more, within-more}
use Rattle.step_core.proofs.Openness.{none-possible}
use Rattle.step_core.proofs.settling.judge_standing.Goals.{Joined-is_head_new, then-is_head_new, else-is_head_new}
use Rattle.step_core.proofs.settling.judge_standing.Goals as goal

pub loop-left-init : goal.loop-left-init
loop-left-init c = record {
  left = c.requires.within;
  right = c.requires.others;
  past = c.requires.past;
  live = ∥∥₁_map c.requires.standing (λ both. both.0);
  over = refl;
  within = λ k _. no-bit k;
  reached_within = λ k _. no-bit k;
  same = λ n k its out. refl;
  heads = λ none m head. refl;
  told = λ n k its unchanged unreached. refl;
}

pub judge_own-requires-clause-connector : goal.judge_own-requires-clause-connector
judge_own-requires-clause-connector c =
    lowest-there c.loop-left.left (omega (arith, c.loop-left-test.true)) (omega arith) (length (plant_of c.args.system.now).wires) c.loop-left.left c.loop-left.invariant.left (λ k inside. inside)

pub stand_one-reached-requires : goal.stand_one-reached-requires
stand_one-reached-requires c =
    lowest-there c.loop-left.left (omega (arith, c.loop-left-test.true)) (omega arith) (length (plant_of c.args.system.now).wires) c.loop-left.left c.loop-left.invariant.left (λ k inside. inside)

pub loop-left-smaller-in-Some : goal.loop-left-smaller-in-Some
loop-left-smaller-in-Some c = fewer-less w64 c.loop-left.left (omega (arith, c.loop-left-test.true)) (omega arith)

pub loop-left-smaller : goal.loop-left-smaller
loop-left-smaller c = fewer-less w64 c.loop-left.left (omega (arith, c.loop-left-test.true)) (omega arith)

pub loop-left-preserved-in-Some : goal.loop-left-preserved-in-Some
loop-left-preserved-in-Some c =
    let system = c.args.system.now in
    let all = interactions_in system in
    let left = c.loop-left.left in
    let some : 0 < left = omega (arith, c.loop-left-test.true) in
    let small : left < 2 ^ 64 = omega arith in
    let connector = trailing_zeros w64 left in
    let before = c.loop-left.invariant in
    let can = is_possible_at (plant_of system).atoms (plant_of system).wires c.args.states.now all in
    let there = lowest-there left some small (length (plant_of system).wires) left before.left (λ k inside. inside) in
    let low : connector < 64 = omega (arith, there, few-connectors system) in
    let rivalry = c.in-Some.ensures.some in
    let new = c.judge_own.new.possible in
    let between = c.loop-left.possible in
    let judged = c.judge_own.ensures.judged in
    let one = c.stand_one-reached in
    let changed = c.loop-left.changed in
    let reached = c.loop-left.reached in
    let more = bit_or changed (1 * 2 ^ connector % 2 ^ 64) in
    let other-one : (k : ℕ) → has_bit more k ≡ false → k ≡ connector → ⊥ =
    λ k out same. true≢false (sym (bit-set changed connector low) ∙ sym (ap (has_bit more) same) ∙ out) in
    record {
      left = left-within system can left some small between new judged rivalry.others (length (plant_of system).wires) before.left;
      right = right-next system can left some small between new judged rivalry.others before.right;
      past = past-next system can left some small between new judged rivalry.others before.past;
      live = ∥∥₁_map before.live (one.ensures.live (contains between) (contains new) rivalry);
      over = before.over;
      within = within-more system changed connector there c.args.possible.now between new rivalry.others before.same before.within;
      reached_within = λ k past. has-or reached one.result k ∙ or_from (has_bit reached k) (has_bit one.result k) (before.reached_within k past) (one.ensures.within k past);
      same = told-more system changed connector there c.args.possible.now between new rivalry.others before.same;
      heads = λ none m head.
          let parts = or_parts c.loop-left.is_head_new c.in-Some.rivalry.is_head_new none in
          ⊎_elim (λ own. rivalry.same_heads parts.1 m own head) (λ out. rivalry.others m out) (cases_Bool (is_of_connector all connector m)) ∙ before.heads parts.0 m head;
      told = λ n k its unchanged unreached.
          let other = other-one k unchanged in
          let parts = or_parts (has_bit reached k) (has_bit one.result k) (sym (has-or reached one.result k) ∙ unreached) in
          ∥∥₁_elim before.live (Bool-set _ _) (λ lives. one.ensures.told (contains between) (contains new) rivalry lives n k its other parts.1) ∙
          before.told n k its (sym (bit-unset changed connector k low other) ∙ unchanged) parts.0;
    }

pub loop-left-preserved : goal.loop-left-preserved
loop-left-preserved c =
    let system = c.args.system.now in
    let all = interactions_in system in
    let left = c.loop-left.left in
    let some : 0 < left = omega (arith, c.loop-left-test.true) in
    let small : left < 2 ^ 64 = omega arith in
    let before = c.loop-left.invariant in
    let can = is_possible_at (plant_of system).atoms (plant_of system).wires c.args.states.now all in
    let new = c.judge_own.new.possible in
    let between = c.loop-left.possible in
    let judged = c.judge_own.ensures.judged in
    let still : (n : ℕ) → contains new n ≡ contains between n = c.in_default.ensures.none refl in
    let apart : (n : ℕ) → is_of_connector all (trailing_zeros w64 left) n ≡ false → contains new n ≡ contains between n = λ n _. still n in
    let as_before : contains between ≡ contains new = λ i n. sym (still n) i in
    record {
      left = left-within system can left some small between new judged apart (length (plant_of system).wires) before.left;
      right = right-next system can left some small between new judged apart before.right;
      past = past-next system can left some small between new judged apart before.past;
      live = subst (λ rivals. ∥ AreLive (plant_of system) all rivals c.loop-left.standing.live ∥₁) as_before before.live;
      over = before.over;
      within = before.within;
      reached_within = before.reached_within;
      same = λ n k its out. still n ∙ before.same n k its out;
      heads = λ none m head. still m ∙ before.heads none m head;
      told = λ n k its unchanged unreached. ap (λ rivals. is_always_overruled (plant_of system) all (but_heads system.ranks all k rivals) n) (sym as_before) ∙ before.told n k its unchanged unreached;
    }

-- what stands and what is told, whether heads were looked at again or not
record Ending (c : Joined-is_head_new) : Type 0 where
  stands : IsStanding (plant_of c.args.system.now) (interactions_in c.args.system.now) c.args.system.now.ranks (contains c.loop-left.possible) c.if-is_head_new.standing
  within : (k : ℕ) → length (plant_of c.args.system.now).wires ≤ k → has_bit c.if-is_head_new.reached k ≡ false
  told : (n k : ℕ) → is_of_connector (interactions_in c.args.system.now) k n ≡ true → has_bit c.loop-left.changed k ≡ false → has_bit c.if-is_head_new.reached k ≡ false
      → is_always_overruled (plant_of c.args.system.now) (interactions_in c.args.system.now) (contains c.loop-left.possible) n ≡ is_always_overruled (plant_of c.args.system.now) (interactions_in c.args.system.now) (contains c.args.possible.now) n

ending : (c : Joined-is_head_new) → Ending c
ending c =
    let system = c.args.system.now in
    let old = contains c.args.possible.now in
    let new = contains c.loop-left.possible in
    let was = c.args.standing.now in
    let live = c.loop-left.standing.live in
    let before = c.loop-left.invariant in
    elim c.if-is_head_new.branch [
      | then-is_head_new w ↦
          let over = w.stand_over-reached.new.over in
          let differing = w.stand_over-reached.result in
          let same : (k : ℕ) → has_bit differing k ≡ false → has_bit over k ≡ has_bit was.over k =
          λ k out. w.stand_over-reached.ensures.told k out ∙ ap (λ word. has_bit word k) before.over in
          record {
            stands = subst (IsStanding (plant_of system) (interactions_in system) system.ranks new) (sym w.standing-is)
                (stands-anew system old new was c.requires.standing c.loop-left.changed c.loop-left.reached live before.live before.told over differing w.stand_over-reached.ensures.over same);
            within = λ k past. ap (λ word. has_bit word k) w.reached-is ∙
                within-anew system old new was c.requires.standing c.loop-left.changed c.loop-left.reached live before.live before.told over differing w.stand_over-reached.ensures.over same
                (length (plant_of system).wires) before.reached_within (λ j behind. w.stand_over-reached.ensures.within j behind (ap (λ word. has_bit word j) before.over ∙ ∥∥₁_elim c.requires.standing (Bool-set _ _) (λ both. both.1.within j behind))) k past;
            told = λ n k its unchanged out. told-anew system old new was c.requires.standing c.loop-left.changed c.loop-left.reached live before.live before.told over differing w.stand_over-reached.ensures.over same
                n k its unchanged (sym (ap (λ word. has_bit word k) w.reached-is) ∙ out);
          }
      | else-is_head_new w ↦ record {
        stands = subst (IsStanding (plant_of system) (interactions_in system) system.ranks new) (sym w.standing-is)
            (subst (λ over. IsStanding (plant_of system) (interactions_in system) system.ranks new (record { live = live; over = over })) (sym before.over) (stands-still system old new was c.requires.standing c.loop-left.changed c.loop-left.reached live before.live before.told (before.heads w.if-is_head_new.false)));
        within = λ k past. ap (λ word. has_bit word k) w.reached-is ∙ before.reached_within k past;
        told = λ n k its unchanged out. told-still system old new was c.requires.standing c.loop-left.changed c.loop-left.reached live before.live before.told (before.heads w.if-is_head_new.false)
            n k its unchanged (sym (ap (λ word. has_bit word k) w.reached-is) ∙ out);
      }
    ]

pub returns-clause-possible : goal.returns-clause-possible
returns-clause-possible c n =
    let system = c.args.system.now in
    let all = interactions_in system in
    let before = c.loop-left.invariant in
    ⊎_elim
    (λ inside. let own = connector-of system n inside in before.right n own.0 own.2 (ap (λ w. has_bit w own.0) c.loop-left-test.false ∙ no-bit own.0))
    (λ past. before.past n past ∙ sym (none-possible (plant_of system) c.args.states.now all n past))
    (cases_lt n (length all))

pub returns-clause-standing : goal.returns-clause-standing
returns-clause-standing c = (ending c.before).stands

pub returns-clause-within : goal.returns-clause-within
returns-clause-within c k past =
    affected-within c.args.system.now (contains c.loop-left.possible) (contains c.args.possible.now) (contains c.loop-left.possible) c.if-is_head_new.standing c.loop-left.changed c.if-is_head_new.reached
    (ending c.before).stands (λ n j its can. can) c.loop-left.invariant.same (ending c.before).told
    k (c.loop-left.invariant.within k past) ((ending c.before).within k past)

pub returns-clause-same : goal.returns-clause-same
returns-clause-same c n k its out =
    let changed = c.loop-left.changed in
    let reached = bit_and c.if-is_head_new.reached c.if-is_head_new.standing.live in
    c.loop-left.invariant.same n k its (or_parts (has_bit changed k) (has_bit reached k) (sym (has-or changed reached k) ∙ out)).0

pub returns-clause-told : goal.returns-clause-told
returns-clause-told c =
    told-affected c.args.system.now (contains c.loop-left.possible) (contains c.args.possible.now) (contains c.loop-left.possible) c.if-is_head_new.standing c.loop-left.changed c.if-is_head_new.reached
    (ending c.before).stands (λ n j its can. can) c.loop-left.invariant.same (ending c.before).told
