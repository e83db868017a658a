use Rattle.std.proofs.Common.{◌≡◌, ◌∙◌, ◌≤◌, ℕ, ap, sym, subst, length, map, arith, false, ⊎_elim, nat_lt}
use Rattle.std.specs.FinSet.{contains, contains-empty}
use Rattle.std.specs.Ordering.{nat_cmp}
use Rattle.std.proofs.lemmas.Bool.{and_right, cases_Bool, false≢true, le-ltb, lt-ltb}
use Rattle.std.proofs.lemmas.List.{length-map}
use Rattle.petri_atom.specs.Atom.{definition_of}
use Rattle.priority_filter.specs.Members.{has_bit}
use Rattle.plant_model.specs.Choice.{is_marked_at}
use Rattle.plant_model.specs.ConnectorRows.{is_of_connector}
use Rattle.plant_model.specs.Sights.{AreSeen}
use Rattle.plant_model.specs.System.{interactions_in, plant_of}
use Rattle.plant_model.specs.Wire.{wire_of}
use Rattle.plant_model.specs.declared.system.System.{System}
use Rattle.plant_model.proofs.RulesKept.{few_atoms_of_plant}
use Rattle.step_core.specs.EnabledTransitions.{AreCounted, AreMovable, AreOffered}
use Rattle.step_core.specs.Weights.{is_kept_of}
use Rattle.step_core.proofs.LeafStates.{off-of}
use Rattle.step_core.proofs.SystemConnectors.{of-there}
use Rattle.step_core.proofs.Unsettled.{allowed-anew, none-past}
use Rattle.step_core.proofs.Unchanged.{none-kept}
use Rattle.step_core.proofs.choices.judge.Goals as goal

-- all connectors are to be judged
module _ (s : System) (word count : ℕ) (many : count ≡ length s.wires.items) (below : (k : ℕ) → has_bit word k ≡ nat_lt k count) where
  its-bit : (k : ℕ) → has_bit word k ≡ nat_lt k (length (plant_of s).wires)
  its-bit k = below k ∙ ap (nat_lt k) (many ∙ sym (length-map s.wires.items wire_of))

  none-past-all : (k : ℕ) → length (plant_of s).wires ≤ k → has_bit word k ≡ false
  none-past-all k past = its-bit k ∙ le-ltb k (length (plant_of s).wires) past

  none-out : (n k : ℕ) → has_bit word k ≡ false → is_of_connector (interactions_in s) k n ≡ false
  none-out n k out =
      ⊎_elim
      (λ its. absurd (false≢true (sym out ∙ its-bit k ∙ lt-ltb k (length (plant_of s).wires) (of-there s n k its))))
      (λ no. no)
      (cases_Bool (is_of_connector (interactions_in s) k n))

pub judge_dirty-requires-clause-off : goal.judge_dirty-requires-clause-off
judge_dirty-requires-clause-off c =
    off-of (plant_of c.args.system.now) c.args.states.now c.of-offers.result.sets c.of-offers.result.counts c.of-leaves.result c.requires
    (subst (λ list. AreOffered (map definition_of list) c.args.states.now c.of-offers.result.sets) c.deref.ensures.value c.of-offers.ensures.offered)
    (subst (λ list. AreCounted (map definition_of list) c.of-offers.result.sets c.of-offers.result.counts) c.deref.ensures.value c.of-offers.ensures.counted)
    c.of-leaves.ensures

pub judge_dirty-requires-clause-within : goal.judge_dirty-requires-clause-within
judge_dirty-requires-clause-within c = none-past-all c.args.system.now c.all_below-all.result c.len.result (c.len.ensures ∙ c.args.system.now.wires.ok.0) c.all_below-all.ensures

pub judge_dirty-requires-clause-others : goal.judge_dirty-requires-clause-others
judge_dirty-requires-clause-others c n k its out = absurd (false≢true (sym (none-out c.args.system.now c.all_below-all.result c.len.result (c.len.ensures ∙ c.args.system.now.wires.ok.0) c.all_below-all.ensures n k out) ∙ its))

pub judge_dirty-requires-clause-past : goal.judge_dirty-requires-clause-past
judge_dirty-requires-clause-past c n past = ap (λ set. contains set n) c.new-possible.ensures ∙ contains-empty nat_cmp n

pub keep-requires : goal.keep-requires
keep-requires c = none-past c.args.system.now c.args.states.now c.judge_dirty.new.possible c.judge_dirty.ensures.possible

pub weigh_again-requires-clause-within : goal.weigh_again-requires-clause-within
weigh_again-requires-clause-within c = none-past-all c.args.system.now c.all_below-all.result c.len.result (c.len.ensures ∙ c.args.system.now.wires.ok.0) c.all_below-all.ensures

pub weigh_again-requires-clause-others : goal.weigh_again-requires-clause-others
weigh_again-requires-clause-others c k out =
    let all = interactions_in c.args.system.now in
    let kept = contains c.keep.new.kept in
    c.none-weights.ensures.weights k ∙
    sym (ap length (none-kept (plant_of c.args.system.now).atoms c.args.states.now (is_kept_of all kept k)
    (λ n. and_right (kept n) (is_of_connector all k n) (none-out c.args.system.now c.all_below-all.result c.len.result (c.len.ensures ∙ c.args.system.now.wires.ok.0) c.all_below-all.ensures n k out)) 0 all))

pub returns : goal.returns
returns c =
    let s = c.args.system.now in
    let states = c.args.states.now in
    let few = few_atoms_of_plant (plant_of s) s.valid in
    let seen : AreSeen (plant_of s).rules (is_marked_at states) c.seen-seen.result = λ left right at there. c.seen-seen.ensures.all (omega (arith, few, c.requires)) at in
    record {
      offered = subst (λ list. AreOffered (map definition_of list) states c.of-offers.result.sets) c.deref.ensures.value c.of-offers.ensures.offered;
      movable = subst (λ list. AreMovable (map definition_of list) states c.of-offers.result.movable) c.deref.ensures.value c.of-offers.ensures.movable;
      counted = subst (λ list. AreCounted (map definition_of list) c.of-offers.result.sets c.of-offers.result.counts) c.deref.ensures.value c.of-offers.ensures.counted;
      leaves = c.of-leaves.ensures;
      possible = c.judge_dirty.ensures.possible;
      seen = seen;
      standing = c.standing_of-standing.ensures;
      allowed = allowed-anew (plant_of s) states (interactions_in s) c.seen-seen.result seen c.judge_dirty.new.possible c.keep.new.kept c.judge_dirty.ensures.possible c.keep.ensures.kept;
      weights = c.weigh_again.ensures;
    }
