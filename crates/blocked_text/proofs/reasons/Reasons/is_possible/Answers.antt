use Rattle.std.proofs.Common.{◌≡◌, ◌∙◌, ap, sym, true, false, ◌&&◌}
use Rattle.std.specs.Prelude.{is_none}
use Rattle.plant_model.specs.Interaction.{interaction_of}
use Rattle.blocked_text.specs.Asked.{plant_asked}
use Rattle.blocked_text.specs.Reason.{first_idle, zero_of}
use Rattle.blocked_text.proofs.Finding.{none-by}
use Rattle.blocked_text.proofs.Reasoning.{possible-known}
use Rattle.blocked_text.proofs.reasons.Reasons.is_possible.Goals as goal

pub returns-then-is_none : goal.returns-then-is_none
returns-then-is_none c =
    let plant = plant_asked c.args.self.now in
    let states = c.args.states.now in
    let i = interaction_of c.args.interaction.now in
    let zero = zero_of plant.atoms plant.wires states i in
    let ready : is_none (first_idle plant.atoms states i.ports) ≡ true =
    sym (ap is_none (c.first_idle.ensures ∙ ap (λ atoms. first_idle atoms states c.deref.result.now) c.atoms.ensures ∙ ap (first_idle plant.atoms states) c.deref.ensures.value)) ∙
    none-by c.first_idle.result c.is_none.result c.is_none.ensures ∙ c.if-is_none.true in
    sym (none-by c.zero_of.result c.is_none-then-is_none.result c.is_none-then-is_none.ensures) ∙ ap is_none c.zero_of.ensures ∙
    sym (ap (λ b. b && is_none zero) ready) ∙ possible-known plant.atoms plant.wires states i

pub returns-else-is_none : goal.returns-else-is_none
returns-else-is_none c =
    let plant = plant_asked c.args.self.now in
    let states = c.args.states.now in
    let i = interaction_of c.args.interaction.now in
    let zero = zero_of plant.atoms plant.wires states i in
    let idle : is_none (first_idle plant.atoms states i.ports) ≡ false =
    sym (ap is_none (c.first_idle.ensures ∙ ap (λ atoms. first_idle atoms states c.deref.result.now) c.atoms.ensures ∙ ap (first_idle plant.atoms states) c.deref.ensures.value)) ∙
    none-by c.first_idle.result c.is_none.result c.is_none.ensures ∙ c.if-is_none.false in
    c.if-is_none.false ∙ sym (ap (λ b. b && is_none zero) idle) ∙ possible-known plant.atoms plant.wires states i
