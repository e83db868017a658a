-- What is kept of what is sure where it is that of earlier parts: it is right for each atom that did not change.
use Rattle.std.proofs.Common.{◌≡◌, ℕ, ◌≤◌, sym, ◌∙◌, ap, List, length, Bool, true, false}
use Rattle.std.specs.Prelude.{Option, slice_get, option_map}
use Rattle.std.specs.Option.{option_map_or}
use Rattle.std.proofs.lemmas.List.{length-map}
use Rattle.std.proofs.lemmas.Option.{slice_get-map}
use Rattle.petri_atom.specs.Local.{Local, has, is_in}
use Rattle.connector_tree.specs.declared.tree.Port.{Port}
use Rattle.priority_filter.specs.Active.{AskAlike, may_be_marked}
use Rattle.priority_filter.specs.Members.{has_bit}
use Rattle.priority_filter.specs.declared.seen.Seen.{Seen}
use Rattle.plant_model.specs.Choice.{Interaction, moves_of}
use Rattle.plant_model.specs.Plant.{PlantDefinition}
use Rattle.plant_model.specs.Sights.{AreSeen, AreSeenBut}
use Rattle.plant_model.specs.declared.ranks.Ranks.{Ranks}
use Rattle.step_core.specs.Dispatching.{ArePartsOf}
use Rattle.step_core.specs.EnabledTransitions.{AreCounted, AreMovable, AreMovableBut, AreOffered, AreOfferedBut}
use Rattle.step_core.specs.Leaves.{AreLeaves, AreToldOf, count_of}
use Rattle.step_core.specs.Parts.{may_be_marked_in, shown, shown_in}
use Rattle.step_core.specs.SureJudgement.{IsSureBehind, IsSureUnsettled, has_leaf_of}
use Rattle.step_core.specs.declared.changes.Changes.{Changes}
use Rattle.step_core.specs.declared.enabled_transitions.EnabledTransitions.{EnabledTransitions}
use Rattle.step_core.specs.declared.leaves.Leaves.{Leaves}
use Rattle.step_core.specs.declared.sure.SureJudgement.{SureJudgement}
use Rattle.step_core.proofs.Judging.{counted-moves}
use Rattle.step_core.proofs.Refreshing.{offered-still}

module _ (plant : PlantDefinition) (all : List Interaction) (ranks : Ranks) (parts : List (Option Local)) (of_plant : ArePartsOf plant parts) (changed flipped : List ℕ) (j : SureJudgement)
    (behind : IsSureBehind plant all ranks changed flipped parts j) where
  -- the parts from before are of the plant too
  pub before-of-plant : length (shown_in behind.before) ≡ length plant.atoms
  before-of-plant = length-map behind.before shown ∙ behind.as_many ∙ of_plant

  -- an atom that did not change shows what it did
  shown-stays : (n : ℕ) → is_in changed n ≡ false → slice_get (shown_in parts) n ≡ slice_get (shown_in behind.before) n
  shown-stays n out = slice_get-map shown parts n ∙ ap (option_map shown) (behind.stays n out) ∙ sym (slice_get-map shown behind.before n)

  -- so what is kept of it is right
  pub offered-others : AreOfferedBut changed plant.atoms (shown_in parts) j.judgement.offers.sets
  offered-others = offered-still plant.atoms changed (shown_in behind.before) (shown_in parts) j.judgement.offers.sets shown-stays behind.judged.offered

  pub movable-others : AreMovableBut changed plant.atoms (shown_in parts) j.judgement.offers.movable
  movable-others n a s out known there = behind.judged.movable n a s known (sym (shown-stays n out) ∙ there)

  pub seen-others : AreSeenBut changed plant.rules (may_be_marked_in parts) j.judgement.seen
  seen-others left right at there out =
      behind.judged.seen left right at there ∙
      ap (λ o. option_map_or (λ part. option_map_or (λ (s : Local). has s.marking at.place) part true) o false) (sym (behind.stays at.atom out))

  were-counted : (p : Port) → count_of j.judgement.offers.counts p ≡ length (moves_of plant.atoms (shown_in behind.before) p)
  were-counted = counted-moves plant.atoms (shown_in behind.before) j.judgement.offers.sets j.judgement.offers.counts before-of-plant behind.judged.offered behind.judged.counted

  -- once what atoms and leaves offer and what is seen is judged again, the rest is left to settle
  module _ (changes : Changes) (told : ℕ) (is_seen_new : Bool) (offers : EnabledTransitions) (l : Leaves) (seen : List Seen)
      (flipped_told : (k atom : ℕ) → has_bit told k ≡ false → is_in flipped atom ≡ true → has_leaf_of plant.wires atom k ≡ false)
      (flipped_within : (k : ℕ) → length plant.wires ≤ k → has_bit told k ≡ false)
      (offered : AreOffered plant.atoms (shown_in parts) offers.sets) (movable : AreMovable plant.atoms (shown_in parts) offers.movable)
      (counted : AreCounted plant.atoms offers.sets offers.counts) (leaves : AreLeaves plant.wires offers.counts l)
      (within : (k : ℕ) → length plant.wires ≤ k → (has_bit changes.dirty k ≡ false) × (has_bit changes.heavy k ≡ false))
      (reached : AreToldOf plant.wires changed j.judgement.offers.counts offers.counts changes)
      (sighted : AreSeen plant.rules (may_be_marked_in parts) seen)
      (same : is_seen_new ≡ false → AskAlike plant.rules (may_be_marked seen) (may_be_marked j.judgement.seen)) where
    pub unsettled : IsSureUnsettled plant all ranks parts changes told is_seen_new (record {
      judgement = record {
        offers = offers;
        leaves = l;
        possible = j.judgement.possible;
        seen = seen;
        standing = j.judgement.standing;
        kept = j.judgement.kept;
        weights = j.judgement.weights;
      };
      opened = j.opened;
      rivals = j.rivals;
    })
    unsettled = record {
      changed = changed;
      flipped = flipped;
      before = behind.before;
      as_many = behind.as_many;
      stays = behind.stays;
      present = behind.present;
      flipped_told = flipped_told;
      counts = j.judgement.offers.counts;
      were_counted = were-counted;
      offered = offered;
      movable = movable;
      counted = counted;
      leaves = leaves;
      told = reached;
      within = within;
      flipped_within = flipped_within;
      possible = behind.judged.possible;
      seen = sighted;
      seen_alike = λ unseen left right at there. sym (sighted left right at there) ∙ same unseen left right at there ∙ behind.judged.seen left right at there;
      opened = behind.judged.opened;
      rivals = behind.judged.rivals;
      standing = behind.judged.standing;
      sure = behind.judged.sure;
      weights = behind.judged.weights;
    }
