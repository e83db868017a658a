-- What is asked of the participants of an interaction has the same answer in two states that agree on these.
use Rattle.std.proofs.Common.{◌≡◌, ℕ, zero, suc, ◌+◌, ◌<◌, ◌==◌, ℤ, pos, refl, sym, ◌∙◌, ap, subst, List, [], ◌∷◌, length, map, Contains, arith, Bool, true, false, cond, ◌||◌, ◌&&◌, not, ⊎_elim}
use Rattle.std.specs.Prelude.{Option, Some, None, find, option_map, slice_get}
use Rattle.std.specs.List.{list_all, range_with_len}
use Rattle.std.specs.Option.{option_map_or}
use Rattle.std.proofs.lemmas.Bool.{and_parts, cases_lt}
use Rattle.std.proofs.lemmas.Option.{none-some, same_Some, slice_get_past}
use Rattle.petri_atom.specs.Expression.{Tree, number, variable, negation, operation, all_variables, is_true, operated, truth, value_of}
use Rattle.petri_atom.specs.Local.{Local}
use Rattle.petri_atom.specs.Definition.{AtomDefinition, exported_value, offers_number, offers_port}
use Rattle.petri_atom.specs.declared.state.TheConstants.{MAX_EXPORTS}
use Rattle.connector_tree.specs.Masks.{chosen, is_set}
use Rattle.connector_tree.specs.declared.tree.Port.{Port}
use Rattle.plant_model.specs.Choice.{is_offered_port}
use Rattle.plant_model.specs.Exports.{clause_applies, exported_at, guards_hold, takes_part, value_at}
use Rattle.plant_model.specs.Laws.{are_moves_at, is_move_at, is_of_port}
use Rattle.plant_model.specs.Plant.{TransferDefinition, of_atom}
use Rattle.plant_model.specs.Step.{applies, delivered_by, is_to, transfer_to, value_to}
use Rattle.plant_model.specs.declared.choice.Move.{Move}
use Rattle.plant_model.specs.declared.wire.Export.{Export}
use Rattle.plant_model.proofs.Membership.{here, later}

-- what is found passes
found-passes : {X : Type 0} (f : X → Bool) (xs : List X) (x : X) → find f xs ≡ Some x → f x ≡ true
found-passes f [] x found = absurd (none-some x found)
found-passes f (y ∷ ys) x found = each (found-passes f ys x) (f y) refl found
  where
    each : (find f ys ≡ Some x → f x ≡ true) → (b : Bool) → f y ≡ b → cond b (Some y) (find f ys) ≡ Some x → f x ≡ true
    each behind true told is = ap f (sym (same_Some y x is)) ∙ told
    each behind false told is = behind is

-- a leaf whose bit is set is chosen
pub to-chosen : (mask j : ℕ) (ps : List Port) (k : ℕ) (p : Port) → slice_get ps k ≡ Some p → is_set mask (j + k) ≡ true → Contains (chosen mask j ps) p
to-chosen mask j [] k p there set = absurd (none-some p there)
to-chosen mask j (q ∷ qs) zero p there set =
    let bit : is_set mask j ≡ true = ap (is_set mask) (omega arith) ∙ set in
    let is : q ≡ p = same_Some q p there in
    subst (λ b. Contains (cond b (q ∷ chosen mask (j + 1) qs) (chosen mask (j + 1) qs)) p) (sym bit) (subst (Contains (q ∷ chosen mask (j + 1) qs)) is (here q (chosen mask (j + 1) qs)))
to-chosen mask j (q ∷ qs) (suc k) p there set =
    let e : j + suc k ≡ (j + 1) + k = omega arith in
    behind (to-chosen mask (j + 1) qs k p there (ap (is_set mask) (sym e) ∙ set)) (is_set mask j)
  where
    behind : Contains (chosen mask (j + 1) qs) p → (b : Bool) → Contains (cond b (q ∷ chosen mask (j + 1) qs) (chosen mask (j + 1) qs)) p
    behind rest true = later q (chosen mask (j + 1) qs) p rest
    behind rest false = rest

-- an expression whose variables have the same values has the same value
module _ {V : Type 0} (f g : V → ℤ) (test : V → Bool) (same : (v : V) → test v ≡ true → f v ≡ g v) where
  value-alike : (e : Tree V) → all_variables test e ≡ true → value_of f e ≡ value_of g e
  value-alike (number n) all = refl
  value-alike (variable v) all = same v all
  value-alike (negation e) all = ap (λ x. truth (not (is_true x))) (value-alike e all)
  value-alike (operation op e h) all =
      let both = and_parts (all_variables test e) (all_variables test h) all in
      ap (λ x. operated op x (value_of f h)) (value-alike e both.0) ∙ ap (operated op (value_of g e)) (value-alike h both.1)

module _ (atoms : List AtomDefinition) (one other : List Local) (alike : ℕ → Bool) (same : (k : ℕ) → alike k ≡ true → slice_get one k ≡ slice_get other k) where
  asked-alike : {X : Type 0} (n : ℕ) (read : AtomDefinition → Local → X) (nothing : X) → alike n ≡ true → of_atom atoms one n read nothing ≡ of_atom atoms other n read nothing
  asked-alike n read nothing here = ap (λ o. option_map_or (λ a. option_map_or (λ s. read a s) o nothing) (slice_get atoms n) nothing) (same n here)

  -- ---- ports

  pub offered-alike : (p : Port) → alike p.atom ≡ true → is_offered_port atoms one p ≡ is_offered_port atoms other p
  offered-alike p here = asked-alike p.atom (λ a s. offers_port a s p.port) false here

  pub ports-alike : (ports : List Port) → list_all (λ p. alike p.atom) ports ≡ true → list_all (is_offered_port atoms one) ports ≡ list_all (is_offered_port atoms other) ports
  ports-alike [] all = refl
  ports-alike (p ∷ ps) all =
      let both = and_parts (alike p.atom) (list_all (λ q. alike q.atom) ps) all in
      ap (λ b. b && list_all (is_offered_port atoms one) ps) (offered-alike p both.0) ∙ ap (λ b. is_offered_port atoms other p && b) (ports-alike ps both.1)

  pub moves-alike : (ports : List Port) (moves : List Move) → list_all (λ p. alike p.atom) ports ≡ true → are_moves_at atoms one ports moves ≡ are_moves_at atoms other ports moves
  moves-alike [] [] all = refl
  moves-alike [] (m ∷ ms) all = refl
  moves-alike (p ∷ ps) [] all = refl
  moves-alike (p ∷ ps) (m ∷ ms) all =
      let both = and_parts (alike p.atom) (list_all (λ q. alike q.atom) ps) all in
      ap (λ b. ((m.atom == p.atom) && b) && are_moves_at atoms one ps ms) (asked-alike p.atom (λ a s. is_of_port a p.port m.transition && offers_number a s m.transition) false both.0) ∙
      ap (λ b. is_move_at atoms other p m && b) (moves-alike ps ms both.1)

  -- ---- leaves that take part

  module _ (mask : ℕ) (ports : List Port) (all : (k : ℕ) (p : Port) → slice_get ports k ≡ Some p → is_set mask k ≡ true → p.atom < length atoms → alike p.atom ≡ true) where
    export-alike : (e : Export) → takes_part mask e ≡ true → value_at atoms one ports e ≡ value_at atoms other ports e
    export-alike e takes = each (slice_get ports e.leaf) refl
      where
        each : (o : Option Port) → slice_get ports e.leaf ≡ o → option_map_or (λ p. exported_at atoms one p e.export) o (pos 0) ≡ option_map_or (λ p. exported_at atoms other p e.export) o (pos 0)
        each None there = refl
        each (Some p) there = ⊎_elim
            (λ within. asked-alike p.atom (λ a s. exported_value a s p.port e.export) (pos 0) (all e.leaf p there takes within))
            (λ past.
            let none : slice_get atoms p.atom ≡ None = slice_get_past atoms p.atom past in
            ap (λ o. option_map_or (λ a. option_map_or (λ s. exported_value a s p.port e.export) (slice_get one p.atom) (pos 0)) o (pos 0)) none ∙
            sym (ap (λ o. option_map_or (λ a. option_map_or (λ s. exported_value a s p.port e.export) (slice_get other p.atom) (pos 0)) o (pos 0)) none))
            (cases_lt p.atom (length atoms))

    of-part : (e : Tree Export) → all_variables (takes_part mask) e ≡ true → value_of (value_at atoms one ports) e ≡ value_of (value_at atoms other ports) e
    of-part e part = value-alike (value_at atoms one ports) (value_at atoms other ports) (takes_part mask) export-alike e part

    -- the guards say the same
    pub guards-alike : (clauses : List (Tree Export)) → guards_hold atoms one ports mask clauses ≡ guards_hold atoms other ports mask clauses
    guards-alike [] = refl
    guards-alike (g ∷ gs) =
        ap (λ b. b && guards_hold atoms one ports mask gs) (each (clause_applies mask g) refl) ∙
        ap (λ b. (not (clause_applies mask g) || is_true (value_of (value_at atoms other ports) g)) && b) (guards-alike gs)
      where
        each : (b : Bool) → clause_applies mask g ≡ b → (not (clause_applies mask g) || is_true (value_of (value_at atoms one ports) g)) ≡ (not (clause_applies mask g) || is_true (value_of (value_at atoms other ports) g))
        each true told = ap (λ x. not (clause_applies mask g) || is_true x) (of-part g told)
        each false told =
            ap (λ b. not b || is_true (value_of (value_at atoms one ports) g)) told ∙
            sym (ap (λ b. not b || is_true (value_of (value_at atoms other ports) g)) told)

    -- and the same is delivered
    pub delivered-alike : (transfers : List TransferDefinition) (atom : ℕ) → delivered_by atoms one ports transfers mask atom ≡ delivered_by atoms other ports transfers mask atom
    delivered-alike transfers atom = ap (λ give. map give (range_with_len 0 MAX_EXPORTS)) (λ j export. value-to export j)
      where
        value-to : (export : ℕ) → value_to atoms one ports transfers mask atom export ≡ value_to atoms other ports transfers mask atom export
        value-to export = each (transfer_to ports transfers mask atom export) refl
          where
            each : (o : Option TransferDefinition) → transfer_to ports transfers mask atom export ≡ o → option_map (λ t. value_of (value_at atoms one ports) t.value) o ≡ option_map (λ t. value_of (value_at atoms other ports) t.value) o
            each None found = refl
            each (Some t) found =
                let passes = and_parts (applies mask t) (is_to ports atom export t.target) (found-passes (λ u. applies mask u && is_to ports atom export u.target) transfers t found) in
                ap Some (of-part t.value (and_parts (takes_part mask t.target) (all_variables (takes_part mask) t.value) passes.0).1)
