-- What was judged before some atoms changed, and what of it is judged again: what is left to settle.
use Rattle.std.proofs.Common.{◌≡◌, ◌≤◌, ℕ, List, sym, ◌∙◌, ap, false, length}
use Rattle.std.specs.Option.{option_map_or}
use Rattle.petri_atom.specs.Local.{Local, has}
use Rattle.priority_filter.specs.Active.{AskAlike, may_be_marked}
use Rattle.priority_filter.specs.Members.{has_bit}
use Rattle.priority_filter.specs.declared.seen.Seen.{Seen}
use Rattle.plant_model.specs.Choice.{is_marked_at}
use Rattle.plant_model.specs.Fitting.{IsOf}
use Rattle.plant_model.specs.Sights.{AreSeen, AreSeenBut}
use Rattle.plant_model.specs.System.{interactions_in, plant_of}
use Rattle.plant_model.specs.declared.system.System.{System}
use Rattle.step_core.specs.EnabledTransitions.{AreCounted, AreMovable, AreOffered}
use Rattle.step_core.specs.Judgement.{IsBehind, IsUnsettled}
use Rattle.step_core.specs.Leaves.{AreLeaves, AreToldOf}
use Rattle.step_core.specs.declared.changes.Changes.{Changes}
use Rattle.step_core.specs.declared.enabled_transitions.EnabledTransitions.{EnabledTransitions}
use Rattle.step_core.specs.declared.judgement.Judgement.{Judgement}
use Rattle.step_core.specs.declared.leaves.Leaves.{Leaves}
use Rattle.step_core.proofs.Judging.{counted-moves}

module _ (s : System) (changed : List ℕ) (states : List Local) (of_plant : IsOf (plant_of s) states) (old : Judgement) (behind : IsBehind (plant_of s) (interactions_in s) s.ranks changed states old) where
  -- what is seen is right of the atoms that did not change
  pub seen-before : AreSeenBut changed (plant_of s).rules (is_marked_at states) old.seen
  seen-before left right at there out =
      behind.judged.seen left right at there ∙ ap (λ o. option_map_or (λ b. has b.marking at.place) o false) (sym (behind.stays at.atom out))

  pub unsettled : (changes : Changes) (is_seen_new : _) (offers : EnabledTransitions) (leaves : Leaves) (seen : List Seen)
      → AreOffered (plant_of s).atoms states offers.sets → AreMovable (plant_of s).atoms states offers.movable → AreCounted (plant_of s).atoms offers.sets offers.counts
      → AreLeaves (plant_of s).wires offers.counts leaves
      → ((k : ℕ) → length (plant_of s).wires ≤ k → (has_bit changes.dirty k ≡ false) × (has_bit changes.heavy k ≡ false))
      → AreToldOf (plant_of s).wires changed old.offers.counts offers.counts changes
      → AreSeen (plant_of s).rules (is_marked_at states) seen
      → (is_seen_new ≡ false → AskAlike (plant_of s).rules (may_be_marked seen) (may_be_marked old.seen))
      → IsUnsettled (plant_of s) (interactions_in s) s.ranks states changes is_seen_new
      (record { offers = offers; leaves = leaves; possible = old.possible; seen = seen; standing = old.standing; kept = old.kept; weights = old.weights })
  unsettled changes is_seen_new offers leaves seen offered movable counted are_leaves within told sighted same =
      let judged = behind.judged in
      record {
        changed = changed;
        before = behind.before;
        as_many = behind.as_many;
        stays = behind.stays;
        counts = old.offers.counts;
        were_counted = counted-moves (plant_of s).atoms behind.before old.offers.sets old.offers.counts (behind.as_many ∙ of_plant) judged.offered judged.counted;
        offered = offered;
        movable = movable;
        counted = counted;
        leaves = are_leaves;
        told = told;
        within = within;
        possible = judged.possible;
        seen = sighted;
        seen_alike = λ none left right at there. sym (sighted left right at there) ∙ same none left right at there ∙ judged.seen left right at there;
        standing = judged.standing;
        allowed = judged.allowed;
        weights = judged.weights;
      }
