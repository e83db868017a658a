-- What the firing of an allowed choice leaves behind of what was judged before.
use Rattle.std.proofs.Common.{◌≡◌, ℕ, ◌<◌, IsTrue, refl, sym, ◌∙◌, ap, List, length, true, false}
use Rattle.std.specs.Prelude.{Option, Some, None, slice_get}
use Rattle.std.specs.List.{list_all}
use Rattle.std.specs.Option.{option_map_or}
use Rattle.std.proofs.lemmas.Bool.{false≢true}
use Rattle.std.proofs.lemmas.Option.{same_Some, slice_get_within}
use Rattle.petri_atom.specs.Definition.{AtomDefinition, fired, offers_number}
use Rattle.petri_atom.specs.Local.{Local, Row}
use Rattle.plant_model.specs.Choice.{IsAllowed, choices}
use Rattle.plant_model.specs.Firing.{FiringDefinition, choice_in}
use Rattle.plant_model.specs.Step.{next, transfer}
use Rattle.plant_model.specs.System.{interactions_in, plant_of}
use Rattle.plant_model.specs.declared.choice.Move.{Move}
use Rattle.plant_model.specs.declared.system.System.{System}
use Rattle.plant_model.proofs.ByAtom.{first-of-atom, moves-on}
use Rattle.plant_model.proofs.Membership.{all-in, entry-in}
use Rattle.plant_model.proofs.Stepping.{is_offered_move, length-stepped, offered-choices}
use Rattle.step_core.specs.Judgement.{IsJudgement, IsMovedBehind}
use Rattle.step_core.specs.declared.judgement.Judgement.{Judgement}
use Rattle.step_core.proofs.Refreshing.{of-no-move, stays}

module _ (s : System) (before : List Local) (c : FiringDefinition) (allowed : IsAllowed (plant_of s) before (choice_in c)) where
  -- each move's transition is offered
  is-offered : (k : ℕ) (m : Move) → slice_get c.moves k ≡ Some m → is_offered_move (plant_of s).atoms before m ≡ true
  is-offered k m at =
      all-in (is_offered_move (plant_of s).atoms before) c.moves
      (all-in (λ d. list_all (is_offered_move (plant_of s).atoms before) d.moves) (choices (plant_of s) before) (offered-choices (plant_of s) before) (choice_in c) allowed)
      m (entry-in c.moves k m at)

  -- so its atom is there
  pub atom-there : (k : ℕ) (m : Move) → slice_get c.moves k ≡ Some m → m.atom < length (plant_of s).atoms
  atom-there k m at = each (slice_get (plant_of s).atoms m.atom) refl
    where
      each : (o : Option AtomDefinition) → slice_get (plant_of s).atoms m.atom ≡ o → m.atom < length (plant_of s).atoms
      each None none = absurd (false≢true (sym (ap (λ o. option_map_or (λ a. option_map_or (λ b. offers_number a b m.transition) (slice_get before m.atom) false) o false) none) ∙ is-offered k m at))
      each (Some a) some = slice_get_within (plant_of s).atoms m.atom a some

  -- and fires it, from what it was
  its-firing : (k : ℕ) (m : Move) (a : AtomDefinition) (b new : Local) → slice_get c.moves k ≡ Some m → slice_get (plant_of s).atoms m.atom ≡ Some a → slice_get before m.atom ≡ Some b → slice_get (next (plant_of s) before c) m.atom ≡ Some new
      → IsTrue (offers_number a b m.transition) × ((d : Row) × (new ≡ fired a m.transition d b))
  its-firing k m a b new at known was now = (
    sym (ap (λ o. option_map_or (λ x. option_map_or (λ y. offers_number x y m.transition) (slice_get before m.atom) false) o false) known ∙ ap (λ o. option_map_or (λ y. offers_number a y m.transition) o false) was) ∙ is-offered k m at,
    (
      transfer (plant_of s) before c m.atom,
      same_Some new (fired a m.transition (transfer (plant_of s) before c m.atom) b)
          (sym now ∙ moves-on (plant_of s).atoms c.moves (transfer (plant_of s) before c) m.atom before m a b (first-of-atom (plant_of s) before (choice_in c) s.valid allowed m (entry-in c.moves k m at)) known was),
    ),
  )

  pub moved-behind : (j : Judgement) → IsJudgement (plant_of s) (interactions_in s) s.ranks before j → IsMovedBehind (plant_of s) (interactions_in s) s.ranks c.moves (next (plant_of s) before c) j
  moved-behind j judged = record {
    behind = record {
      before = before;
      judged = judged;
      as_many = sym (length-stepped (plant_of s).atoms c.moves (transfer (plant_of s) before c) 0 before);
      stays = λ n out. stays (plant_of s) before c n (of-no-move c.moves n out);
    };
    fired = its-firing;
  }
