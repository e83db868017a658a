-- There is a row of moves exactly where each port is offered.
use Rattle.std.proofs.Common.{◌≡◌, ℕ, suc, zero, ◌*◌, ◌<◌, ◌≤◌, refl, sym, ◌∙◌, ap, subst, List, [], ◌∷◌, length, map, filter, arith, Bool, true, false, not, cond, ◌||◌, ◌&&◌, ◌==◌, ⊎_elim, inl, inr}
use Rattle.std.specs.Prelude.{◌⊎◌, Option, Some, None, slice_get}
use Rattle.std.specs.List.{list_all, list_any}
use Rattle.std.specs.Option.{option_map_or}
use Rattle.std.proofs.lemmas.Bool.{and_from, false_from_ne_true, cases_eq, eq-eqb, ne_eqb}
use Rattle.std.proofs.lemmas.List.{length-map}
use Rattle.petri_atom.specs.Local.{Local}
use Rattle.petri_atom.specs.Definition.{AtomDefinition, enabled, numbers_of, offers_number, offers_port}
use Rattle.connector_tree.specs.declared.tree.Port.{Port}
use Rattle.plant_model.specs.Plant.{WireDefinition}
use Rattle.plant_model.specs.Choice.{Interaction, is_offered_port, passes_guards, is_possible, move_of, moves_of, combinations}
use Rattle.plant_model.proofs.NoDeadlock.{some-moves, some-rows}
use Rattle.plant_model.proofs.Combinations.{length-rows}

-- where something is kept, something passes
kept-some : {X : Type 0} (f : X → Bool) (xs : List X) → 1 ≤ length (filter f xs) → list_any f xs ≡ true
kept-some f [] some = absurd (omega arith)
kept-some f (x ∷ xs) some = each (kept-some f xs) (f x) some
  where
    each : (1 ≤ length (filter f xs) → list_any f xs ≡ true) → (b : Bool) → 1 ≤ length (cond b (x ∷ filter f xs) (filter f xs)) → (b || list_any f xs) ≡ true
    each more true some = refl
    each more false some = more some

-- the factors of a product that is not 0
factors : (a b : ℕ) → 1 ≤ a * b → (1 ≤ a) × (1 ≤ b)
factors zero b some = absurd (omega arith)
factors (suc a) zero some = absurd (omega arith)
factors (suc a) (suc b) some = (omega arith, omega arith)

module _ (atoms : List AtomDefinition) (states : List Local) where
  -- an atom that can move offers the port
  moves-some : (p : Port) → 1 ≤ length (moves_of atoms states p) → is_offered_port atoms states p ≡ true
  moves-some p = each (slice_get atoms p.atom) (slice_get states p.atom)
    where
      each : (o : Option AtomDefinition) (w : Option Local) → 1 ≤ length (option_map_or (λ a. option_map_or (λ s. map (move_of p.atom) (enabled a s p.port)) w []) o []) → option_map_or (λ a. option_map_or (λ s. offers_port a s p.port) w false) o false ≡ true
      each None w some = absurd (omega arith)
      each (Some a) None some = absurd (omega arith)
      each (Some a) (Some s) some =
          kept-some (offers_number a s) (numbers_of p.port a.transitions) (subst (λ n. 1 ≤ n) (length-map (enabled a s p.port) (move_of p.atom)) some)

  -- so how many moves it can make tells whether the port is offered
  pub offered-told : (p : Port) (n : ℕ) → n ≡ length (moves_of atoms states p) → not (n == 0) ≡ is_offered_port atoms states p
  offered-told p n count = ⊎_elim
      (λ none. ap (λ b. not b) (eq-eqb n 0 none) ∙ sym (false_from_ne_true (is_offered_port atoms states p) (λ can. omega (arith, none, count, some-moves atoms states p can))))
      (λ some. ap (λ b. not b) (ne_eqb n 0 some) ∙ sym (moves-some p (omega (arith, some, count))))
      (cases_eq n 0)

  rows-some : (ports : List Port) → 1 ≤ length (combinations (map (moves_of atoms states) ports)) → list_all (is_offered_port atoms states) ports ≡ true
  rows-some [] some = refl
  rows-some (p ∷ ports) some =
      let rest = combinations (map (moves_of atoms states) ports) in
      let parts = factors (length (moves_of atoms states p)) (length rest) (subst (λ n. 1 ≤ n) (length-rows rest (moves_of atoms states p)) some) in
      and_from (is_offered_port atoms states p) (list_all (is_offered_port atoms states) ports) (moves-some p parts.0) (rows-some ports parts.1)

  module _ (wires : List WireDefinition) (i : Interaction) (count : ℕ) (counted : count ≡ length (combinations (map (moves_of atoms states) i.ports))) where
    abbrev is_ready : Bool
    is_ready = list_all (is_offered_port atoms states) i.ports

    abbrev unguarded : Bool
    unguarded = passes_guards atoms wires states i

    -- an interaction that has rows of moves is possible where no guard forbids it
    pub possible-told : 0 < count → unguarded ≡ true → is_possible atoms wires states i ≡ true
    possible-told some free = and_from is_ready unguarded (rows-some i.ports (omega (arith, counted))) free

    -- and not where it has none, or a guard does
    pub not-possible : (count ≤ 0) ⊎ (unguarded ≡ false) → is_possible atoms wires states i ≡ false
    not-possible (inl none) = ap (λ b. b && unguarded) (false_from_ne_true is_ready (λ all. omega (arith, counted, some-rows atoms states i.ports all)))
    not-possible (inr guarded) = ap (λ b. is_ready && b) guarded ∙ never is_ready
      where
        never : (b : Bool) → (b && false) ≡ false
        never true = refl
        never false = refl

    -- so where it has rows, its guards say whether it is possible
    pub possible-is : 0 < count → is_possible atoms wires states i ≡ unguarded
    possible-is some = each unguarded refl
      where
        each : (b : Bool) → unguarded ≡ b → is_possible atoms wires states i ≡ unguarded
        each true free = possible-told some free ∙ sym free
        each false guarded = not-possible (inr guarded) ∙ sym guarded
