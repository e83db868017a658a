-- How many moves are offered at a port.
use Rattle.std.proofs.Common.{◌≡◌, ℕ, ◌<◌, ◌≤◌, refl, sym, ◌∙◌, List, [], ◌∷◌, length, map, get_or, arith, ⊎_elim}
use Rattle.std.specs.Prelude.{Option, Some, None, slice_get}
use Rattle.std.specs.Option.{option_map_or}
use Rattle.std.proofs.lemmas.Bool.{cases_lt}
use Rattle.std.proofs.lemmas.List.{length-map}
use Rattle.std.proofs.lemmas.Option.{slice_get_within, slice_get-get_or, none-some}
use Rattle.petri_atom.specs.Local.{Local}
use Rattle.petri_atom.specs.Definition.{AtomDefinition, enabled}
use Rattle.connector_tree.specs.declared.tree.Port.{Port}
use Rattle.plant_model.specs.Choice.{move_of, moves_of}
use Rattle.step_core.specs.EnabledTransitions.{count_at, AreOffered, AreCounted}

-- a list has nothing at a number past its end alone
past-none : {X : Type 0} (xs : List X) (n : ℕ) → slice_get xs n ≡ None → length xs ≤ n
past-none xs n none = ⊎_elim
    (λ within. elim xs as (λ ys. slice_get ys n ≡ None → n < length ys → length ys ≤ n) [
      | [] ↦ λ _ below. absurd (omega arith)
      | y ∷ ys ↦ λ missing below. absurd (none-some (get_or (y ∷ ys) n y) (sym missing ∙ slice_get-get_or (y ∷ ys) n y below))
    ] none within)
    (λ past. past)
    (cases_lt n (length xs))

-- what is kept for a port is how many moves its atom can make
pub counted-moves : (atoms : List AtomDefinition) (states : List Local) (sets : List ℕ) (counts : List (List ℕ)) → length states ≡ length atoms → AreOffered atoms states sets → AreCounted atoms sets counts → (p : Port) → count_at counts p.atom p.port ≡ length (moves_of atoms states p)
counted-moves atoms states sets counts as_many exact counted p = each (slice_get atoms p.atom) refl (slice_get states p.atom) refl
  where
    each : (o : Option AtomDefinition) → slice_get atoms p.atom ≡ o → (w : Option Local) → slice_get states p.atom ≡ w → count_at counts p.atom p.port ≡ length (option_map_or (λ a. option_map_or (λ s. map (move_of p.atom) (enabled a s p.port)) w []) o [])
    each None none w there = counted.past_atoms p.atom p.port (past-none atoms p.atom none)
    each (Some a) known None none = absurd (omega (arith, as_many, slice_get_within atoms p.atom a known, past-none states p.atom none))
    each (Some a) known (Some s) there =
        counted.at_ports p.atom a s p.port known (exact p.atom a s known there) ∙ sym (length-map (enabled a s p.port) (move_of p.atom))
