use Rattle.std.proofs.Common.{◌∙◌, ap, sym, refl, arith, length, map, take, get_or, ◌≡◌, ◌<◌, ◌+◌, ◌++◌, ◌∷◌, [], ℕ, List, Bool, true, cond}
use Rattle.std.specs.Result.{is_ok}
use Rattle.std.proofs.lemmas.List.{take_more, map-append}
use Rattle.connector_tree.specs.Masks.{chosen}
use Rattle.connector_tree.specs.Tree as tree
use Rattle.connector_tree.specs.declared.tree.Port.{Port}
use Rattle.plant_model.specs.Choice as choice
use Rattle.plant_model.specs.Choice.{by_atom, interaction_by}
use Rattle.plant_model.specs.Interaction.{interaction_of}
use Rattle.plant_model.specs.declared.interaction.Interaction.{Interaction}
use Rattle.plant_model.proofs.Ports.{few_ports}
use Rattle.plant_model.proofs.interactions.connector_interactions.Goals as goal

abbrev made : ℕ → ℕ → List Port → choice.Interaction
made connector mask ports = record { connector = connector; mask = mask; ports = ports }

-- the interactions of one more mask
one-more : (atoms number : ℕ) (leaves : List Port) (masks : List ℕ) (i : ℕ) (before now : List Interaction) (its : Interaction) (is_in : Bool) → i < length masks → is_in ≡ true → now ≡ cond is_in (before ++ its ∷ []) before → its.connector ≡ number → its.mask ≡ get_or masks i 0 → its.ports.items ≡ by_atom atoms (chosen (get_or masks i 0) 0 leaves) → map interaction_of before ≡ map (interaction_by atoms number leaves) (take i masks) → map interaction_of now ≡ map (interaction_by atoms number leaves) (take (i + 1) masks)
one-more atoms number leaves masks i before now its is_in within pushed told connector mask ports so_far =
    ap (map interaction_of) (told ∙ ap (λ b. cond b (before ++ its ∷ []) before) pushed) ∙ map-append interaction_of before (its ∷ []) ∙
    ap (λ xs. xs ++ interaction_of its ∷ []) so_far ∙
    ap (λ x. map (interaction_by atoms number leaves) (take i masks) ++ x ∷ []) same ∙
    sym (ap (map (interaction_by atoms number leaves)) (take_more masks i 0 within) ∙ map-append (interaction_by atoms number leaves) (take i masks) (get_or masks i 0 ∷ []))
  where
    same : interaction_of its ≡ interaction_by atoms number leaves (get_or masks i 0)
    same =
        ap (λ k. made k its.mask its.ports.items) connector ∙ ap (λ m. made number m its.ports.items) mask ∙
        ap (made number (get_or masks i 0)) ports

pub invariant_of-interaction : goal.invariant_of-interaction
invariant_of-interaction c =
    let mask = get_or c.deref-mask-items.result.now c.loop-mask.mask-index 0 in
    let leaves = c.deref.result.now in
    let lent : length leaves ≡ length (tree.leaves (tree.tree_of c.args.connector.now)) = ap length (c.deref.ensures.value ∙ c.in_ok-leaves.ensures) in
    record { few = omega (arith, ap length c.in_ok-ports.ensures, few_ports c.args.atoms mask leaves, lent, c.in_ok-masks.ensures.sound.few_leaves) }

pub loop-mask-preserved : goal.loop-mask-preserved
loop-mask-preserved c =
    let masks = c.deref-mask-items.result.now in
    let i = c.loop-mask.mask-index in
    one-more c.args.atoms c.args.number c.in_ok-leaves.leaves.items masks i c.loop-mask.all.items c.push.new.self.items _ (is_ok c.push.result) c.loop-mask-test.true
    (sym c.map_err.ensures.variant ∙ ap is_ok c.in_ok-map_err.was) c.push.ensures.items
    refl refl
    (c.in_ok-ports.ensures ∙ ap (λ ports. by_atom c.args.atoms (chosen (get_or masks i 0) 0 ports)) c.deref.ensures.value)
    c.loop-mask.invariant
