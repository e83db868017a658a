use Rattle.std.proofs.Common.{◌≡◌, ◌∙◌, [], true, false, cond, not, sym, ap}
use Rattle.std.specs.Prelude.{Some, None}
use Rattle.petri_atom.specs.Definition.{AtomDefinition, fault_of, is_within_limits, has_each_once, has_known_numbers, has_sources_and_targets}
use Rattle.petri_atom.specs.declared.fault.AtomFault.TheVariants.{Limit, Twice, Unknown, NoPlace}
use Rattle.petri_atom.specs.Parts.{definition_by}
use Rattle.petri_atom.proofs.rules.fault_of.Goals as goal

-- a limit that is passed is found first
past_limits : (a : AtomDefinition) → is_within_limits a ≡ false → Some Limit ≡ fault_of a
past_limits a e =
    sym (ap (λ b. cond (not b) (Some Limit) (cond (not (has_each_once a)) (Some Twice) (cond (not (has_known_numbers a)) (Some Unknown) (cond (not (has_sources_and_targets a)) (Some NoPlace) None)))) e)

-- no rule is broken if each is kept
unbroken : (a : AtomDefinition) → is_within_limits a ≡ true → has_each_once a ≡ true → has_known_numbers a ≡ true → has_sources_and_targets a ≡ true → None ≡ fault_of a
unbroken a within once known places =
    sym (ap (λ b. cond (not b) (Some Limit) (cond (not (has_each_once a)) (Some Twice) (cond (not (has_known_numbers a)) (Some Unknown) (cond (not (has_sources_and_targets a)) (Some NoPlace) None)))) within ∙
    ap (λ b. cond (not b) (Some Twice) (cond (not (has_known_numbers a)) (Some Unknown) (cond (not (has_sources_and_targets a)) (Some NoPlace) None))) once ∙
    ap (λ b. cond (not b) (Some Unknown) (cond (not (has_sources_and_targets a)) (Some NoPlace) None)) known ∙
    ap (λ b. cond (not b) (Some NoPlace) None) places)

pub returns-then-not-is_within_limits : goal.returns-then-not-is_within_limits
returns-then-not-is_within_limits c =
    past_limits (definition_by [] c.args.places.now c.args.variables.now c.args.ports.now c.args.transitions.now)
    (sym c.is_within_limits.ensures ∙ c.if-not-is_within_limits.true)

pub returns-else-not-has_sources_and_targets : goal.returns-else-not-has_sources_and_targets
returns-else-not-has_sources_and_targets c =
    let a = definition_by [] c.args.places.now c.args.variables.now c.args.ports.now c.args.transitions.now in
    unbroken a (sym c.is_within_limits.ensures ∙ c.if-not-is_within_limits.false) (sym c.has_each_once.ensures ∙ c.if-not-has_each_once.false)
    (sym c.has_known_numbers.ensures ∙ c.if-not-has_known_numbers.false)
    (sym c.has_sources_and_targets.ensures ∙ c.if-not-has_sources_and_targets.false)
