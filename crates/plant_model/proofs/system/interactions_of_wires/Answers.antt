use Rattle.std.proofs.Common.{◌≡◌, ℕ, ◌+◌, ◌<◌, ◌++◌, ◌∙◌, List, ap, sym, add-one, map, drop, get_or, length}
use Rattle.std.proofs.Math.Seq.{drop-cons}
use Rattle.std.proofs.lemmas.List.{append_assoc, map-append}
use Rattle.plant_model.specs.Choice as choice
use Rattle.plant_model.specs.Choice.{interactions_from, interactions_of_connector}
use Rattle.plant_model.specs.Interaction.{interaction_of}
use Rattle.plant_model.specs.Wire.{wire_of}
use Rattle.plant_model.specs.declared.interaction.Interaction.{Interaction}
use Rattle.plant_model.specs.declared.wire.Wire.{Wire}
use Rattle.plant_model.proofs.system.interactions_of_wires.Goals as goal

-- the interactions of one more wire, after those of the wires before it
one-more : (atoms i : ℕ) (wires : List Wire) (wire : Wire) (before added now : List Interaction) (all : List choice.Interaction) → i < length wires → wire ≡ get_or wires i wire → now ≡ before ++ added → map interaction_of added ≡ interactions_of_connector atoms i (wire_of wire).connector → map interaction_of before ++ interactions_from atoms i (map wire_of (drop i wires)) ≡ all → map interaction_of now ++ interactions_from atoms (i + 1) (map wire_of (drop (i + 1) wires)) ≡ all
one-more atoms i wires wire before added now all within here joined made so_far =
    ap (λ xs. map interaction_of xs ++ later) joined ∙
    ap (λ xs. xs ++ later) (map-append interaction_of before added) ∙
    append_assoc (map interaction_of before) (map interaction_of added) later ∙
    ap (λ xs. map interaction_of before ++ xs) (ap (λ xs. xs ++ later) made ∙ sym rest) ∙
    so_far
  where
    later : List choice.Interaction
    later = interactions_from atoms (i + 1) (map wire_of (drop (i + 1) wires))

    rest : interactions_from atoms i (map wire_of (drop i wires)) ≡ interactions_of_connector atoms i (wire_of wire).connector ++ later
    rest =
        ap (λ ws. interactions_from atoms i (map wire_of ws)) (drop-cons wires i wire within) ∙
        ap (λ k. interactions_of_connector atoms i (wire_of (get_or wires i wire)).connector ++ interactions_from atoms k (map wire_of (drop k wires))) (sym (add-one i)) ∙
        ap (λ w. interactions_of_connector atoms i (wire_of w).connector ++ later) (sym here)

pub loop-number-preserved : goal.loop-number-preserved
loop-number-preserved c =
    one-more c.args.atoms c.loop-number.number c.args.wires.now c.index-wires-number.result c.loop-number.all.items c.in-Ok.added.items c.append.new.self.items _ c.loop-number-test.true c.index-wires-number.is c.in_ok-append-in-Ok.ensures.items c.in-Ok.ensures.list c.loop-number.invariant
