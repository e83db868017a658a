use Rattle.std.proofs.Common.{◌≡◌, ◌∙◌, ◌||◌, ℕ, false, ap, sym, subst, arith, length, ⊎_elim}
use Rattle.std.specs.Prelude.{bit_or, slice_index_or}
use Rattle.std.specs.FinSet.{contains}
use Rattle.std.proofs.lemmas.Bool.{cases_Bool, false≢true, or_from, or_parts}
use Rattle.petri_atom.proofs.Sets.{has-or}
use Rattle.priority_filter.specs.Members.{has_bit}
use Rattle.plant_model.specs.Choice.{is_possible_at}
use Rattle.plant_model.specs.ConnectorRows.{IsOff}
use Rattle.plant_model.specs.System.{interactions_in, plant_of}
use Rattle.plant_model.proofs.OfInteractions.{within-limits}
use Rattle.plant_model.specs.Sights.{AreSeen}
use Rattle.plant_model.proofs.RulesKept.{well_formed}
use Rattle.step_core.specs.EnabledTransitions.{AreCounted, AreMovable, AreOffered}
use Rattle.step_core.specs.Leaves.{AreLeaves}
use Rattle.step_core.specs.Parts.{may_be_marked_in, shown_in}
use Rattle.step_core.specs.Standing.{IsStanding}
use Rattle.step_core.specs.Sure.{is_sure_at}
use Rattle.step_core.specs.Weights.{AreWeighed, weight_of}
use Rattle.step_core.specs.declared.enabled_transitions.EnabledTransitions.{EnabledTransitions}
use Rattle.step_core.proofs.LeafStates.{off-of}
use Rattle.step_core.proofs.Openness.{none-possible, sure-possible}
use Rattle.step_core.proofs.SureSettled.{few-before, kept-behind, none-opened, of_shown, open-here, opened-past, possible-here, possible-past, rivals-here, sure-anew, touched-within, weights-here}
use Rattle.step_core.proofs.sure.settle_sure.Goals as goal

pub judge_dirty-changed-requires-clause-off : goal.judge_dirty-changed-requires-clause-off
judge_dirty-changed-requires-clause-off c k =
    let system = c.args.system.now in
    let plant = plant_of system in
    let parts = c.args.parts.now in
    let j = c.args.judgement.now in
    let u = c.requires.unsettled in
    let off = off-of plant (shown_in parts) j.judgement.offers.sets j.judgement.offers.counts j.judgement.leaves
    (of_shown system parts c.requires.of_plant c.args.changes c.args.flipped c.args.is_seen_new j u) u.offered u.counted u.leaves k in
    subst (λ states. IsOff plant.atoms plant.wires states k (slice_index_or j.judgement.leaves.off k 0)) (sym c.shown-states.ensures.states) off

pub judge_dirty-changed-requires-clause-others : goal.judge_dirty-changed-requires-clause-others
judge_dirty-changed-requires-clause-others c n k its clean =
    let system = c.args.system.now in
    let plant = plant_of system in
    possible-here system c.args.parts.now c.requires.of_plant c.args.changes c.args.flipped c.args.is_seen_new c.args.judgement.now c.requires.unsettled n k its clean ∙
    ap (λ states. is_possible_at plant.atoms plant.wires states (interactions_in system) n) (sym c.shown-states.ensures.states)

pub judge_dirty-changed-requires-clause-past : goal.judge_dirty-changed-requires-clause-past
judge_dirty-changed-requires-clause-past c =
    possible-past c.args.system.now c.args.parts.now c.requires.of_plant c.args.changes c.args.flipped c.args.is_seen_new c.args.judgement.now c.requires.unsettled

pub open_again-opened-requires-clause-within : goal.open_again-opened-requires-clause-within
open_again-opened-requires-clause-within c =
    touched-within c.args.system.now c.args.parts.now c.requires.of_plant c.args.changes c.args.flipped c.args.is_seen_new c.args.judgement.now c.requires.unsettled

pub open_again-opened-requires-clause-others : goal.open_again-opened-requires-clause-others
open_again-opened-requires-clause-others c =
    open-here c.args.system.now c.args.parts.now c.requires.of_plant c.args.changes c.args.flipped c.args.is_seen_new c.args.judgement.now c.requires.unsettled

pub open_again-opened-requires-clause-past : goal.open_again-opened-requires-clause-past
open_again-opened-requires-clause-past c =
    opened-past c.args.system.now c.args.parts.now c.requires.of_plant c.args.changes c.args.flipped c.args.is_seen_new c.args.judgement.now c.requires.unsettled

pub open_again-opened-requires-clause-whole : goal.open_again-opened-requires-clause-whole
open_again-opened-requires-clause-whole c =
    none-opened c.args.system.now c.args.parts.now c.requires.of_plant c.args.changes c.args.flipped c.args.is_seen_new c.args.judgement.now c.requires.unsettled

-- what is possible is so in the states that the parts show
can : (c : goal.After-struct_known-2-1) (n : ℕ) → contains c.judge_dirty-changed.new.possible n ≡ is_possible_at (plant_of c.args.system.now).atoms (plant_of c.args.system.now).wires (shown_in c.args.parts.now) (interactions_in c.args.system.now) n
can c n =
    let plant = plant_of c.args.system.now in
    c.judge_dirty-changed.ensures.possible n ∙ ap (λ states. is_possible_at plant.atoms plant.wires states (interactions_in c.args.system.now) n) c.shown-states.ensures.states

pub stand_again-affected-requires-clause-within : goal.stand_again-affected-requires-clause-within
stand_again-affected-requires-clause-within c k past =
    let first = c.judge_dirty-changed.result in
    let second = c.open_again-opened.result in
    has-or first second k ∙ or_from (has_bit first k) (has_bit second k) (c.judge_dirty-changed.ensures.changed_within k past) (c.open_again-opened.ensures.changed_within k past)

pub stand_again-affected-requires-clause-standing : goal.stand_again-affected-requires-clause-standing
stand_again-affected-requires-clause-standing c = c.requires.unsettled.standing

pub stand_again-affected-requires-clause-others : goal.stand_again-affected-requires-clause-others
stand_again-affected-requires-clause-others c =
    let first = c.judge_dirty-changed.result in
    let second = c.open_again-opened.result in
    let both : (k : ℕ) → has_bit (bit_or first second) k ≡ false → (has_bit first k ≡ false) × (has_bit second k ≡ false) = λ k out. or_parts (has_bit first k) (has_bit second k) (sym (has-or first second k) ∙ out) in
    rivals-here c.args.system.now c.args.parts.now c.requires.of_plant c.args.changes c.args.flipped c.args.is_seen_new c.args.judgement.now c.requires.unsettled
    (bit_or first second) c.judge_dirty-changed.new.possible c.open_again-opened.new.opened
    (λ n k its out. c.judge_dirty-changed.ensures.same n k its (both k out).0)
    (λ n k its out. c.open_again-opened.ensures.same n k its (both k out).1)

pub keep_again-told-requires-clause-within : goal.keep_again-told-requires-clause-within
keep_again-told-requires-clause-within c = c.stand_again-affected.ensures.within

pub keep_again-told-requires-clause-past : goal.keep_again-told-requires-clause-past
keep_again-told-requires-clause-past c n past =
    c.judge_dirty-changed.ensures.possible n ∙ none-possible (plant_of c.args.system.now) c.shown-states.result.now (interactions_in c.args.system.now) n past

pub keep_again-told-requires-clause-standing : goal.keep_again-told-requires-clause-standing
keep_again-told-requires-clause-standing c = c.stand_again-affected.ensures.standing

pub keep_again-told-requires-clause-behind : goal.keep_again-told-requires-clause-behind
keep_again-told-requires-clause-behind c =
    let first = c.judge_dirty-changed.result in
    let second = c.open_again-opened.result in
    let stood = c.stand_again-affected in
    let possible = c.judge_dirty-changed.new.possible in
    let opened = c.open_again-opened.new.opened in
    let old = c.args.judgement.now in
    -- what is not affected did not change
    let both : (k : ℕ) → has_bit stood.result k ≡ false → (has_bit first k ≡ false) × (has_bit second k ≡ false) = λ k out.
    or_parts (has_bit first k) (has_bit second k) (sym (has-or first second k) ∙ ⊎_elim
    (λ inside. absurd (false≢true (sym out ∙ stood.ensures.changed k inside)))
    (λ none. none)
    (cases_Bool (has_bit (bit_or first second) k))) in
    kept-behind c.args.system.now c.args.parts.now c.requires.of_plant c.args.changes c.args.flipped c.args.is_seen_new old c.requires.unsettled
    stood.result possible stood.new.rivals
    (λ n k its out. c.judge_dirty-changed.ensures.same n k its (both k out).0)
    (λ n k its out.
    stood.ensures.rivals n k its ∙ ap (λ b. b || contains opened n) (c.judge_dirty-changed.ensures.same n k its (both k out).0) ∙
    ap (λ b. contains old.judgement.possible n || b) (c.open_again-opened.ensures.same n k its (both k out).1) ∙ sym (c.requires.unsettled.rivals n k its))
    stood.ensures.told

-- what is kept is sure
sure : (c : goal.After-struct_known-2-1) (n : ℕ) → contains c.keep_again-told.new.kept n ≡ is_sure_at (plant_of c.args.system.now) c.args.parts.now (interactions_in c.args.system.now) n
sure c =
    sure-anew c.args.system.now c.args.parts.now c.requires.of_plant c.args.changes c.args.flipped c.args.is_seen_new c.args.judgement.now c.requires.unsettled
    c.judge_dirty-changed.new.possible c.open_again-opened.new.opened c.stand_again-affected.new.rivals c.keep_again-told.new.kept
    (can c) c.open_again-opened.ensures.opened c.stand_again-affected.ensures.rivals c.keep_again-told.ensures.kept

pub weigh-requires-clause-offering : goal.weigh-requires-clause-offering
weigh-requires-clause-offering c =
    let system = c.args.system.now in
    let plant = plant_of system in
    let u = c.requires.unsettled in
    let states = sym c.shown-states.ensures.states in
    let sets = c.args.judgement.now.judgement.offers.sets in
    record {
      offers = record {
        offered = subst (λ ss. AreOffered plant.atoms ss sets) states u.offered;
        counted = u.counted;
        leaves = u.leaves;
      };
      kept = λ n yes_.
          ap (λ ss. is_possible_at plant.atoms plant.wires ss (interactions_in system) n) c.shown-states.ensures.states ∙
          sure-possible plant (well_formed system.atoms.items) c.args.parts.now (interactions_in system) n (sym (sure c n) ∙ yes_);
    }

pub weigh-requires-clause-within : goal.weigh-requires-clause-within
weigh-requires-clause-within c k past =
    let changes = c.args.changes in
    let more = c.keep_again-told.result in
    has-or changes.heavy more k ∙ or_from (has_bit changes.heavy k) (has_bit more k) (c.requires.unsettled.within k past).1 (c.keep_again-told.ensures.within k past)

pub weigh-requires-clause-others : goal.weigh-requires-clause-others
weigh-requires-clause-others c k none =
    let system = c.args.system.now in
    let kept = c.keep_again-told.new.kept in
    let changes = c.args.changes in
    let more = c.keep_again-told.result in
    let both = or_parts (has_bit changes.heavy k) (has_bit more k) (sym (has-or changes.heavy more k) ∙ none) in
    weights-here system c.args.parts.now c.requires.of_plant changes c.args.flipped c.args.is_seen_new c.args.judgement.now c.requires.unsettled k both.0 (contains kept) (λ n its. c.keep_again-told.ensures.told n k its both.1) ∙
    ap (λ ss. weight_of (plant_of system).atoms ss (interactions_in system) (contains kept) k) (sym c.shown-states.ensures.states)

pub weigh-requires-clause-sums : goal.weigh-requires-clause-sums
weigh-requires-clause-sums c = c.requires.unsettled.weights.sums

pub weigh-requires-clause-few : goal.weigh-requires-clause-few
weigh-requires-clause-few c =
    let system = c.args.system.now in
    few-before c.args.system.now c.args.parts.now c.requires.of_plant c.args.changes c.args.flipped c.args.is_seen_new c.args.judgement.now c.requires.unsettled
    (omega (arith, ap length system.listed, (within-limits (plant_of system) system.valid).interactions))

pub returns : goal.returns
returns c =
    let system = c.args.system.now in
    let plant = plant_of system in
    let parts = c.args.parts.now in
    let all = interactions_in system in
    let u = c.requires.unsettled in
    let new = c.weigh.new.judgement in
    let told = c.weigh.ensures in
    let opened = c.open_again-opened.new.opened in
    record {
      offered = subst (λ (o : EnabledTransitions). AreOffered plant.atoms (shown_in parts) o.sets) (sym told.offers) u.offered;
      movable = subst (λ (o : EnabledTransitions). AreMovable plant.atoms (shown_in parts) o.movable) (sym told.offers) u.movable;
      counted = subst (λ (o : EnabledTransitions). AreCounted plant.atoms o.sets o.counts) (sym told.offers) u.counted;
      leaves = subst (λ (o : EnabledTransitions). AreLeaves plant.wires o.counts new.leaves) (sym told.offers) (subst (λ l. AreLeaves plant.wires c.args.judgement.now.judgement.offers.counts l) (sym told.leaves) u.leaves);
      possible = λ n. ap (λ set. contains set n) told.possible ∙ can c.before n;
      seen = subst (λ rows. AreSeen plant.rules (may_be_marked_in parts) rows) (sym told.seen) u.seen;
      opened = c.open_again-opened.ensures.opened;
      rivals = λ n k its. c.stand_again-affected.ensures.rivals n k its ∙ ap (λ set. contains set n || contains opened n) (sym told.possible);
      standing = subst (IsStanding plant all system.ranks (contains c.stand_again-affected.new.rivals)) (sym told.standing) c.stand_again-affected.ensures.standing;
      sure = λ n. ap (λ set. contains set n) told.kept ∙ sure c.before n;
      weights = subst (λ ss. AreWeighed plant.atoms ss all (contains new.kept) new.weights) c.shown-states.ensures.states told.weights;
    }
