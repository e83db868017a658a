-- The first move of a port that offers one.
use Rattle.std.proofs.Common.{◌≡◌, ℕ, ◌<◌, refl, sym, ◌∙◌, ap, subst, List, [], length, map, arith, ⊎_elim}
use Rattle.std.specs.Prelude.{Option, Some, None, bit_and, option_map, slice_get, slice_index_or}
use Rattle.std.specs.Option.{option_map_or}
use Rattle.std.proofs.lemmas.Bool.{cases_lt}
use Rattle.std.proofs.lemmas.List.{get_or_past, length-map}
use Rattle.std.proofs.lemmas.Nat.{and_le_l}
use Rattle.std.proofs.lemmas.Option.{same_Some, slice_get-map}
use Rattle.petri_atom.specs.Local.{Local}
use Rattle.petri_atom.specs.Definition.{AtomDefinition, enabled, offered_set, offers_number}
use Rattle.petri_atom.specs.Parts.{set_of_port}
use Rattle.petri_atom.proofs.PortSets.{some-of_port}
use Rattle.connector_tree.specs.declared.tree.Port.{Port}
use Rattle.plant_model.specs.Choice.{move_of, moves_of}
use Rattle.step_core.specs.EnabledTransitions.{AreOffered}

module _ (atoms : List AtomDefinition) (states : List Local) (p : Port) (some : 0 < length (moves_of atoms states p)) where
  -- its atom is there, in a state in which it offers a transition of the port
  pub its-atom : (a : AtomDefinition) × (s : Local) × (slice_get atoms p.atom ≡ Some a) × (slice_get states p.atom ≡ Some s) × (0 < length (enabled a s p.port))
  its-atom = each (slice_get atoms p.atom) (slice_get states p.atom) refl refl some
    where
      each : (o : Option AtomDefinition) (w : Option Local) → slice_get atoms p.atom ≡ o → slice_get states p.atom ≡ w
          → 0 < length (option_map_or (λ a. option_map_or (λ s. map (move_of p.atom) (enabled a s p.port)) w []) o [])
          → (a : AtomDefinition) × (s : Local) × (slice_get atoms p.atom ≡ Some a) × (slice_get states p.atom ≡ Some s) × (0 < length (enabled a s p.port))
      each None w known there more = absurd (omega (arith, more))
      each (Some a) None known there more = absurd (omega (arith, more))
      each (Some a) (Some s) known there more = (a, s, known, there, subst (λ n. 0 < n) (length-map (enabled a s p.port) (move_of p.atom)) more)

  -- what the atom offers has a transition of the port, and the first of these is that of the first move
  module _ (sets : List ℕ) (exact : AreOffered atoms states sets) (word : ℕ) (is : word ≡ slice_index_or sets p.atom 0) (a : AtomDefinition) (known : slice_get atoms p.atom ≡ Some a) where
    abbrev state : Local
    state = its-atom.1

    offers : word ≡ offered_set a state
    offers = is ∙ exact p.atom a state known its-atom.3

    pub some-set : 0 < bit_and word (set_of_port p.port a.transitions)
    some-set =
        subst (λ w. 0 < bit_and w (set_of_port p.port a.transitions)) (sym offers)
        (some-of_port (offers_number a state) p.port a.transitions
        (subst (λ b. 0 < length (enabled b state p.port)) (same_Some its-atom.0 a (sym its-atom.2 ∙ known)) its-atom.4))

    pub first-is : (n : ℕ) → ((s : Local) → word ≡ offered_set a s → slice_get (enabled a s p.port) 0 ≡ Some n) → slice_get (moves_of atoms states p) 0 ≡ Some (move_of p.atom n)
    first-is n first =
        ap (λ o. slice_get (option_map_or (λ b. option_map_or (λ s. map (move_of p.atom) (enabled b s p.port)) (slice_get states p.atom) []) o []) 0) known ∙
        ap (λ o. slice_get (option_map_or (λ s. map (move_of p.atom) (enabled a s p.port)) o []) 0) its-atom.3 ∙
        slice_get-map (move_of p.atom) (enabled a state p.port) 0 ∙ ap (option_map (move_of p.atom)) (first state offers)

  -- so its number is one that the sets have
  pub set-there : (sets : List ℕ) → AreOffered atoms states sets → p.atom < length sets
  set-there sets exact =
      ⊎_elim
      (λ there. there)
      (λ past. absurd (omega (
        arith,
        some-set sets exact 0 (sym (get_or_past sets p.atom 0 past)) its-atom.0 its-atom.2,
        and_le_l 0 (set_of_port p.port its-atom.0.transitions),
      )))
      (cases_lt p.atom (length sets))
