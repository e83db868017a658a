-- Moves of ports: what a state offers at a port, and one move for each of several ports.
use Rattle.std.proofs.Common.{◌≡◌, ⊎_elim, ℕ, zero, suc, ◌+◌, ◌==◌, ◌<◌, refl, sym, ◌∙◌, ap, subst, List, [], ◌∷◌, length, map, Contains, arith, Bool, true, false, cond, ◌&&◌}
use Rattle.std.specs.Prelude.{Option, Some, None, slice_get}
use Rattle.std.specs.Option.{option_map_or}
use Rattle.std.proofs.lemmas.Bool.{and_parts, and_from, cases_lt, eq-eqb, eqb-true, false≢true}
use Rattle.std.proofs.lemmas.Option.{slice_get_past}
use Rattle.petri_atom.specs.Local.{Local}
use Rattle.petri_atom.specs.Definition.{AtomDefinition, TransitionDefinition, enabled, numbers_from, numbers_of, offers_number}
use Rattle.connector_tree.specs.declared.tree.Port.{Port}
use Rattle.plant_model.specs.Choice.{combinations, move_of, moves_of}
use Rattle.plant_model.specs.Laws.{is_of_port, is_move_at, are_moves_at}
use Rattle.plant_model.specs.declared.choice.Move.{Move}
use Rattle.plant_model.proofs.Membership.{here-or-later, here, later, from-map, to-map, from-filter, to-filter, from-flat_map, to-flat_map}

-- the numbers of a port's transitions
module _ (port : ℕ) where
  abbrev is_of : TransitionDefinition → Bool
  is_of t = t.port == port

  from-numbers : (n : ℕ) (ts : List TransitionDefinition) (k : ℕ) → Contains (numbers_from n port ts) k → (j : ℕ) × (n + j ≡ k) × (option_map_or is_of (slice_get ts j) false ≡ true)
  from-numbers n [] k at = absurd (omega (arith, at.1))
  from-numbers n (t ∷ ts) k at = each (λ more. let rest = from-numbers (suc n) ts k more in (suc rest.0, omega (arith, rest.1), rest.2)) (is_of t) refl at
    where
      Found : Type 0
      Found = (j : ℕ) × (n + j ≡ k) × (option_map_or is_of (slice_get (t ∷ ts) j) false ≡ true)

      each : (Contains (numbers_from (suc n) port ts) k → Found) → (b : Bool) → is_of t ≡ b → Contains (cond b (n ∷ numbers_from (suc n) port ts) (numbers_from (suc n) port ts)) k → Found
      each behind true told in_it = ⊎_elim (λ is. (zero, omega (arith, is), told)) behind (here-or-later n (numbers_from (suc n) port ts) k in_it)
      each behind false told in_it = behind in_it

  to-numbers : (n : ℕ) (ts : List TransitionDefinition) (j : ℕ) → option_map_or is_of (slice_get ts j) false ≡ true → Contains (numbers_from n port ts) (n + j)
  to-numbers n [] j passes = absurd (false≢true passes)
  to-numbers n (t ∷ ts) zero passes =
      let e : n ≡ n + zero = omega arith in
      subst (λ b. Contains (cond b (n ∷ numbers_from (suc n) port ts) (numbers_from (suc n) port ts)) (n + zero)) (sym passes)
      (subst (Contains (n ∷ numbers_from (suc n) port ts)) e (here n (numbers_from (suc n) port ts)))
  to-numbers n (t ∷ ts) (suc j) passes =
      let e : suc n + j ≡ n + suc j = omega arith in
      let rest : Contains (numbers_from (suc n) port ts) (n + suc j) = subst (Contains (numbers_from (suc n) port ts)) e (to-numbers (suc n) ts j passes) in
      elim (is_of t) as (λ b. Contains (cond b (n ∷ numbers_from (suc n) port ts) (numbers_from (suc n) port ts)) (n + suc j)) [
        | true ↦ later n (numbers_from (suc n) port ts) (n + suc j) rest
        | false ↦ rest
      ]

-- the transitions of a port that a state offers
from-enabled : (a : AtomDefinition) (s : Local) (port n : ℕ) → Contains (enabled a s port) n → (is_of_port a port n && offers_number a s n) ≡ true
from-enabled a s port n at =
    let kept = from-filter (offers_number a s) (numbers_of port a.transitions) n at in
    let found = from-numbers port 0 a.transitions n kept.0 in
    let e : found.0 ≡ n = omega (arith, found.1) in
    and_from (is_of_port a port n) (offers_number a s n) (subst (λ k. is_of_port a port k ≡ true) e found.2) kept.1

to-enabled : (a : AtomDefinition) (s : Local) (port n : ℕ) → (is_of_port a port n && offers_number a s n) ≡ true → Contains (enabled a s port) n
to-enabled a s port n passes =
    let parts = and_parts (is_of_port a port n) (offers_number a s n) passes in
    let e : 0 + n ≡ n = omega arith in
    to-filter (offers_number a s) (numbers_of port a.transitions) n (subst (Contains (numbers_of port a.transitions)) e (to-numbers port 0 a.transitions n parts.0)) parts.1

module _ (atoms : List AtomDefinition) (states : List Local) where
  -- a move is one of a port's exactly where it is of the port's atom, by an offered transition of the port
  module _ (p : Port) (m : Move) where
    -- what the port's atom can do, and whether the move is among it
    abbrev given : Option AtomDefinition → Option Local → List Move
    given o w = option_map_or (λ a. option_map_or (λ s. map (move_of p.atom) (enabled a s p.port)) w []) o []

    abbrev taken : Option AtomDefinition → Option Local → Bool
    taken o w = option_map_or (λ a. option_map_or (λ s. is_of_port a p.port m.transition && offers_number a s m.transition) w false) o false

    from-given : (o : Option AtomDefinition) (w : Option Local) → Contains (given o w) m → (m.atom == p.atom && taken o w) ≡ true
    from-given None w at = absurd (omega (arith, at.1))
    from-given (Some a) None at = absurd (omega (arith, at.1))
    from-given (Some a) (Some s) at =
        let made = from-map (move_of p.atom) (enabled a s p.port) m at in
        let own : m.atom ≡ p.atom = ap (λ (x : Move). x.atom) (sym made.2) in
        let number : made.0 ≡ m.transition = ap (λ (x : Move). x.transition) made.2 in
        and_from (m.atom == p.atom) (is_of_port a p.port m.transition && offers_number a s m.transition) (eq-eqb m.atom p.atom own)
        (subst (λ n. (is_of_port a p.port n && offers_number a s n) ≡ true) number (from-enabled a s p.port made.0 made.1))

    to-given : (o : Option AtomDefinition) (w : Option Local) → (m.atom == p.atom && taken o w) ≡ true → Contains (given o w) m
    to-given None w passes = absurd (false≢true (and_parts (m.atom == p.atom) false passes).1)
    to-given (Some a) None passes = absurd (false≢true (and_parts (m.atom == p.atom) false passes).1)
    to-given (Some a) (Some s) passes =
        let parts = and_parts (m.atom == p.atom) (is_of_port a p.port m.transition && offers_number a s m.transition) passes in
        let own : m.atom ≡ p.atom = eqb-true m.atom p.atom parts.0 in
        let its : move_of p.atom m.transition ≡ m = ap (λ n. move_of n m.transition) (sym own) in
        subst (Contains (map (move_of p.atom) (enabled a s p.port))) its (to-map (move_of p.atom) (enabled a s p.port) m.transition (to-enabled a s p.port m.transition parts.1))

    pub move-of-port : Contains (moves_of atoms states p) m → is_move_at atoms states p m ≡ true
    move-of-port at = from-given (slice_get atoms p.atom) (slice_get states p.atom) at

    pub move-to-port : is_move_at atoms states p m ≡ true → Contains (moves_of atoms states p) m
    move-to-port passes = to-given (slice_get atoms p.atom) (slice_get states p.atom) passes

  -- the transition of such a move is one that the atom has, and is of the port
  module _ (p : Port) (m : Move) (moves : is_move_at atoms states p m ≡ true) (a : AtomDefinition) (its_atom : slice_get atoms p.atom ≡ Some a) where
    transition-there : is_of_port a p.port m.transition ≡ true
    transition-there =
        each (slice_get states p.atom) (sym (ap (λ o. option_map_or (λ b. option_map_or (λ s. is_of_port b p.port m.transition && offers_number b s m.transition) (slice_get states p.atom) false) o false) its_atom) ∙ (and_parts (m.atom == p.atom) _ moves).1)
      where
        each : (w : Option Local) → option_map_or (λ s. is_of_port a p.port m.transition && offers_number a s m.transition) w false ≡ true → is_of_port a p.port m.transition ≡ true
        each None never = absurd (false≢true never)
        each (Some s) both = (and_parts (is_of_port a p.port m.transition) (offers_number a s m.transition) both).0

    pub transition-within : m.transition < length a.transitions
    transition-within = ⊎_elim
        (λ within. within)
        (λ past. absurd (false≢true (sym (ap (λ o. option_map_or (λ t. t.port == p.port) o false) (slice_get_past a.transitions m.transition past)) ∙ transition-there)))
        (cases_lt m.transition (length a.transitions))

    pub port-of-transition : (t : TransitionDefinition) → slice_get a.transitions m.transition ≡ Some t → t.port ≡ p.port
    port-of-transition t there = eqb-true t.port p.port (sym (ap (λ o. option_map_or (λ u. u.port == p.port) o false) there) ∙ transition-there)

  -- rows of one move for each port
  abbrev rows_of : List Port → List (List Move)
  rows_of ports = combinations (map (moves_of atoms states) ports)

  pub row-of-ports : (ports : List Port) (moves : List Move) → Contains (rows_of ports) moves → are_moves_at atoms states ports moves ≡ true
  row-of-ports [] moves at = ⊎_elim
      (λ is. ap (are_moves_at atoms states []) (sym is))
      (λ more. absurd (omega (arith, more.1)))
      (here-or-later [] [] moves at)
  row-of-ports (p ∷ ps) moves at =
      let begun = from-flat_map (λ x. map (λ row. x ∷ row) (rows_of ps)) (moves_of atoms states p) moves at in
      let rest = from-map (λ row. begun.0 ∷ row) (rows_of ps) moves begun.2 in
      ap (are_moves_at atoms states (p ∷ ps)) (sym rest.2) ∙
      and_from (is_move_at atoms states p begun.0) (are_moves_at atoms states ps rest.0) (move-of-port p begun.0 begun.1) (row-of-ports ps rest.0 rest.1)

  pub row-to-ports : (ports : List Port) (moves : List Move) → are_moves_at atoms states ports moves ≡ true → Contains (rows_of ports) moves
  row-to-ports [] [] all = here [] []
  row-to-ports [] (m ∷ ms) all = absurd (false≢true all)
  row-to-ports (p ∷ ps) [] all = absurd (false≢true all)
  row-to-ports (p ∷ ps) (m ∷ ms) all =
      let parts = and_parts (is_move_at atoms states p m) (are_moves_at atoms states ps ms) all in
      to-flat_map (λ x. map (λ row. x ∷ row) (rows_of ps)) (moves_of atoms states p) m (m ∷ ms) (move-to-port p m parts.0)
      (to-map (λ row. m ∷ row) (rows_of ps) ms (row-to-ports ps ms parts.1))

  -- their atoms are those of the ports, and there are as many
  pub atoms-by-place : (ports : List Port) (moves : List Move) → are_moves_at atoms states ports moves ≡ true → map (λ m. m.atom) moves ≡ map (λ p. p.atom) ports
  atoms-by-place [] [] all = refl
  atoms-by-place [] (m ∷ ms) all = absurd (false≢true all)
  atoms-by-place (p ∷ ps) [] all = absurd (false≢true all)
  atoms-by-place (p ∷ ps) (m ∷ ms) all =
      let parts = and_parts (is_move_at atoms states p m) (are_moves_at atoms states ps ms) all in
      let own = eqb-true m.atom p.atom (and_parts (m.atom == p.atom) _ parts.0).0 in
      ap (λ n. n ∷ map (λ x. x.atom) ms) own ∙ ap (λ ns. p.atom ∷ ns) (atoms-by-place ps ms parts.1)

  pub as-many-moves : (ports : List Port) (moves : List Move) → are_moves_at atoms states ports moves ≡ true → length moves ≡ length ports
  as-many-moves [] [] all = refl
  as-many-moves [] (m ∷ ms) all = absurd (false≢true all)
  as-many-moves (p ∷ ps) [] all = absurd (false≢true all)
  as-many-moves (p ∷ ps) (m ∷ ms) all =
      ap suc (as-many-moves ps ms (and_parts (is_move_at atoms states p m) (are_moves_at atoms states ps ms) all).1)

  -- each move is of one of the ports
  pub port-of-move : (ports : List Port) (moves : List Move) → are_moves_at atoms states ports moves ≡ true → (m : Move) → Contains moves m → (p : Port) × Contains ports p × (is_move_at atoms states p m ≡ true)
  port-of-move [] [] all m at = absurd (omega (arith, at.1))
  port-of-move [] (k ∷ ks) all m at = absurd (false≢true all)
  port-of-move (p ∷ ps) [] all m at = absurd (false≢true all)
  port-of-move (p ∷ ps) (k ∷ ks) all m at =
      let parts = and_parts (is_move_at atoms states p k) (are_moves_at atoms states ps ks) all in
      ⊎_elim
      (λ is. (p, here p ps, ap (is_move_at atoms states p) (sym is) ∙ parts.0))
      (λ more. let rest = port-of-move ps ks parts.1 m more in (rest.0, later p ps rest.0 rest.1, rest.2))
      (here-or-later k ks m at)
