-- What is sure while some atoms are away is allowed in the whole state, and leads from its parts to those of the next state.
use Rattle.std.proofs.Common.{◌≡◌, ℕ, zero, suc, ◌+◌, ◌<◌, ◌==◌, refl, sym, ◌∙◌, ap, subst, List, [], ◌∷◌, length, map, Contains, arith, Bool, true, false, cond, ◌||◌, ◌&&◌, not}
use Rattle.std.specs.Prelude.{Option, Some, None, find, is_none, option_map, slice_get}
use Rattle.std.specs.List.{list_all}
use Rattle.std.specs.Option.{option_map_or}
use Rattle.std.proofs.lemmas.Bool.{and_parts, and_from, false≢true, false_from_ne_true, or_parts}
use Rattle.std.proofs.lemmas.Option.{slice_get-map}
use Rattle.petri_atom.specs.Local.{Local, Row, has}
use Rattle.petri_atom.specs.Definition.{AtomDefinition, fired}
use Rattle.connector_tree.specs.Masks.{is_set, ports_of}
use Rattle.connector_tree.specs.Tree.{leaves}
use Rattle.connector_tree.specs.declared.tree.Port.{Port}
use Rattle.priority_filter.proofs.Counting.{below-more}
use Rattle.priority_filter.specs.declared.seen.At.{At}
use Rattle.plant_model.specs.Choice.{ChoiceDefinition, Interaction, IsAllowed, is_marked_at, is_offered_port, is_possible, is_possible_at, named, passes_guards, plant_interactions}
use Rattle.plant_model.specs.Exports.{guards_hold}
use Rattle.plant_model.specs.Firing.{FiringDefinition, choice_in}
use Rattle.plant_model.specs.Laws.{IsOnTop}
use Rattle.plant_model.specs.Plant.{PlantDefinition, WireDefinition}
use Rattle.plant_model.specs.Step.{delivered_by, next, nothing_delivered, stepped, stepped_from, transfer, transfers_with}
use Rattle.plant_model.specs.declared.choice.Move.{Move}
use Rattle.plant_model.proofs.Membership.{all-in, entry-in}
use Rattle.plant_model.proofs.OfChoices.{allowed-of}
use Rattle.plant_model.proofs.OfInteractions.{of-wire, to-by_atom}
use Rattle.step_core.specs.Laws.{IsSurelyOnTop}
use Rattle.step_core.specs.Parts.{is_present, may_be_marked_in, parts_from, parts_of, shown, shown_in}
use Rattle.step_core.specs.Sure.{IsSure, has_move, is_ruled_out, is_whole, left_by, left_from, may_come, moved_parts, went_on}
use Rattle.step_core.proofs.Alike.{delivered-alike, guards-alike, moves-alike, offered-alike, ports-alike, to-chosen}
use Rattle.step_core.proofs.OfParts.{some-fails}
use Rattle.step_core.proofs.OfSure.{sure-choice-of}

-- moves leave the parts of a state as parts of what they leave of the state
moved-from : (atoms : List AtomDefinition) (moves : List Move) (d : ℕ → Row) (away : ℕ → Bool) (n : ℕ) (ss : List Local) → moved_parts atoms moves d n (parts_from away n ss) ≡ parts_from away n (stepped_from atoms moves d n ss)
moved-from atoms moves d away n [] = refl
moved-from atoms moves d away n (s ∷ ss) =
    ap (λ part. part ∷ moved_parts atoms moves d (suc n) (parts_from away (suc n) ss)) (each (away n)) ∙
    ap (λ ps. cond (away n) None (Some (stepped atoms moves d n s)) ∷ ps) (moved-from atoms moves d away (suc n) ss)
  where
    each : (b : Bool) → option_map (stepped atoms moves d n) (cond b None (Some s)) ≡ cond b None (Some (stepped atoms moves d n s))
    each true = refl
    each false = refl

-- and where the atoms of the moves leave, what is left are the parts of what the moves leave, without these atoms
left-of : (atoms : List AtomDefinition) (moves : List Move) (d : ℕ → Row) (away : ℕ → Bool) (n : ℕ) (ss : List Local) → left_from moves n (parts_from away n ss) ≡ parts_from (λ k. away k || has_move moves k) n (stepped_from atoms moves d n ss)
left-of atoms moves d away n [] = refl
left-of atoms moves d away n (s ∷ ss) =
    ap (λ part. part ∷ left_from moves (suc n) (parts_from away (suc n) ss)) (each (has_move moves n) refl (away n)) ∙
    ap (λ ps. cond (away n || has_move moves n) None (Some (stepped atoms moves d n s)) ∷ ps) (left-of atoms moves d away (suc n) ss)
  where
    none : (ms : List Move) → has_move ms n ≡ false → find (λ m. m.atom == n) ms ≡ None
    none [] out = refl
    none (m ∷ ms) out =
        let both = or_parts (m.atom == n) (has_move ms n) out in
        ap (λ b. cond b (Some m) (find (λ k. k.atom == n) ms)) both.0 ∙ none ms both.1

    stays : has_move moves n ≡ false → stepped atoms moves d n s ≡ s
    stays out =
        ap (λ o. option_map_or (λ a. option_map_or (λ m. fired a m.transition (d n) s) o s) (slice_get atoms n) s) (none moves out) ∙ at (slice_get atoms n)
      where
        at : (o : Option AtomDefinition) → option_map_or (λ a. s) o s ≡ s
        at None = refl
        at (Some a) = refl

    each : (moves_it : Bool) → has_move moves n ≡ moves_it → (b : Bool) → cond moves_it None (cond b None (Some s)) ≡ cond (b || moves_it) None (Some (stepped atoms moves d n s))
    each true told true = refl
    each true told false = refl
    each false told true = refl
    each false told false = ap Some (sym (stays told))

pub leaves-behind : (plant : PlantDefinition) (states : List Local) (away : ℕ → Bool) (c : FiringDefinition) → left_by (parts_of away states) c.moves ≡ parts_of (λ n. away n || has_move c.moves n) (next plant states c)
leaves-behind plant states away c = left-of plant.atoms c.moves (transfer plant states c) away 0 states

module _ (plant : PlantDefinition) (states : List Local) (away : ℕ → Bool) where
  abbrev parts : List (Option Local)
  parts = parts_of away states

  abbrev all : List Interaction
  all = plant_interactions plant

  -- the part of an atom
  part-from : (n i : ℕ) (ss : List Local) → slice_get (parts_from away n ss) i ≡ option_map (λ s. cond (away (n + i)) None (Some s)) (slice_get ss i)
  part-from n i [] = refl
  part-from n zero (s ∷ ss) = ap (λ k. Some (cond (away k) None (Some s))) (omega arith)
  part-from n (suc i) (s ∷ ss) =
      let e : suc n + i ≡ n + suc i = omega arith in
      part-from (suc n) i ss ∙ ap (λ k. option_map (λ s. cond (away k) None (Some s)) (slice_get ss i)) e

  part-at : (i : ℕ) → slice_get parts i ≡ option_map (λ s. cond (away i) None (Some s)) (slice_get states i)
  part-at i =
      let e : 0 + i ≡ i = omega arith in
      part-from 0 i states ∙ ap (λ k. option_map (λ s. cond (away k) None (Some s)) (slice_get states i)) e

  -- an atom that is present shows its state
  seen-part : (n : ℕ) → is_present parts n ≡ true → slice_get (shown_in parts) n ≡ slice_get states n
  seen-part n present =
      slice_get-map shown parts n ∙ ap (option_map shown) (part-at n) ∙
      each (slice_get states n) (away n) (sym (ap (λ o. not (option_map_or is_none o false)) (part-at n)) ∙ present)
    where
      each : (o : Option Local) (b : Bool) → not (option_map_or is_none (option_map (λ s. cond b None (Some s)) o) false) ≡ true → option_map shown (option_map (λ s. cond b None (Some s)) o) ≡ o
      each None b here = refl
      each (Some s) true here = absurd (false≢true here)
      each (Some s) false here = refl

  -- a place that is marked may be
  counts-may : (at : At) → is_marked_at states at ≡ true → may_be_marked_in parts at ≡ true
  counts-may at marked =
      ap (λ o. option_map_or (λ part. option_map_or (λ s. has s.marking at.place) part true) o false) (part-at at.atom) ∙
      each (slice_get states at.atom) (away at.atom) marked
    where
      each : (o : Option Local) (b : Bool) → option_map_or (λ s. has s.marking at.place) o false ≡ true → option_map_or (λ part. option_map_or (λ s. has s.marking at.place) part true) (option_map (λ s. cond b None (Some s)) o) false ≡ true
      each None b here = here
      each (Some s) true here = refl
      each (Some s) false here = here

  -- ---- an interaction of the plant whose participants are all present

  module _ (i : Interaction) (at : Contains all i) (whole : is_whole parts i ≡ true) where
    abbrev wire : WireDefinition
    wire = (of-wire plant i at).0

    -- so are the atoms of the leaves that take part
    leaves-present : (k : ℕ) (p : Port) → slice_get (leaves wire.connector) k ≡ Some p → is_set i.mask k ≡ true → p.atom < length plant.atoms → is_present parts p.atom ≡ true
    leaves-present k p there set below =
        let found = of-wire plant i at in
        let in_mask : Contains (ports_of wire.connector i.mask) p = to-chosen i.mask 0 (leaves wire.connector) k p there (ap (is_set i.mask) (omega arith) ∙ set) in
        all-in (λ q. is_present parts q.atom) i.ports whole p (subst (λ ps. Contains ps p) found.3 (to-by_atom (length plant.atoms) (ports_of wire.connector i.mask) p in_mask below))

    guards-whole : passes_guards plant.atoms plant.wires (shown_in parts) i ≡ passes_guards plant.atoms plant.wires states i
    guards-whole =
        let there = (of-wire plant i at).1 in
        ap (λ o. option_map_or (λ w. guards_hold plant.atoms (shown_in parts) (leaves w.connector) i.mask w.guards) o true) there ∙
        guards-alike plant.atoms (shown_in parts) states (is_present parts) seen-part i.mask (leaves wire.connector) leaves-present wire.guards ∙
        sym (ap (λ o. option_map_or (λ w. guards_hold plant.atoms states (leaves w.connector) i.mask w.guards) o true) there)

    possible-whole : is_possible plant.atoms plant.wires (shown_in parts) i ≡ is_possible plant.atoms plant.wires states i
    possible-whole =
        ap (λ b. b && passes_guards plant.atoms plant.wires (shown_in parts) i) (ports-alike plant.atoms (shown_in parts) states (is_present parts) seen-part i.ports whole) ∙
        ap (λ b. list_all (is_offered_port plant.atoms states) i.ports && b) guards-whole

  -- ---- what is possible in the whole state may come

  not-ruled-out : (i : Interaction) → Contains all i → is_possible plant.atoms plant.wires states i ≡ true → not (is_ruled_out plant.atoms plant.wires parts i) ≡ true
  not-ruled-out i at can =
      let both = and_parts (list_all (is_offered_port plant.atoms states) i.ports) (passes_guards plant.atoms plant.wires states i) can in
      ap (λ b. not (b || (is_whole parts i && not (passes_guards plant.atoms plant.wires (shown_in parts) i)))) (some-fails (λ p. is_present parts p.atom) (is_offered_port plant.atoms (shown_in parts)) i.ports) ∙
      ap (λ b. not (not b || (is_whole parts i && not (passes_guards plant.atoms plant.wires (shown_in parts) i)))) (held i.ports both.0) ∙
      each (is_whole parts i) refl both.1
    where
      held : (ports : List Port) → list_all (is_offered_port plant.atoms states) ports ≡ true → list_all (λ p. not (is_present parts p.atom) || is_offered_port plant.atoms (shown_in parts) p) ports ≡ true
      held [] ready = refl
      held (p ∷ ps) ready =
          let both = and_parts (is_offered_port plant.atoms states p) (list_all (is_offered_port plant.atoms states) ps) ready in
          and_from _ _ (one (is_present parts p.atom) refl both.0) (held ps both.1)
        where
          one : (b : Bool) → is_present parts p.atom ≡ b → is_offered_port plant.atoms states p ≡ true → (not b || is_offered_port plant.atoms (shown_in parts) p) ≡ true
          one true here offered = offered-alike plant.atoms (shown_in parts) states (is_present parts) seen-part p here ∙ offered
          one false here offered = refl

      each : (b : Bool) → is_whole parts i ≡ b → passes_guards plant.atoms plant.wires states i ≡ true → not (not true || (b && not (passes_guards plant.atoms plant.wires (shown_in parts) i))) ≡ true
      each true whole passes = ap (λ g. not (not g)) (guards-whole i at whole ∙ passes)
      each false whole passes = refl

  may-is-monotone : (n : ℕ) → is_possible_at plant.atoms plant.wires states all n ≡ true → may_come plant.atoms plant.wires parts all n ≡ true
  may-is-monotone n = each (slice_get all n) refl
    where
      each : (o : Option Interaction) → slice_get all n ≡ o → option_map_or (is_possible plant.atoms plant.wires states) o false ≡ true → option_map_or (λ i. not (is_ruled_out plant.atoms plant.wires parts i)) o false ≡ true
      each None there can = can
      each (Some i) there can = not-ruled-out i (entry-in all n i there) can

  -- ---- what is sure is allowed

  module _ (c : ChoiceDefinition) (sure : IsSure plant parts c) where
    pub sure-allowed : IsAllowed plant states c
    sure-allowed =
        let chosen = sure-choice-of plant parts c sure in
        let takes = chosen.takes in
        let i : Interaction = takes.interaction in
        allowed-of plant states c (record {
          number = chosen.number;
          takes = record {
            interaction = i;
            there = takes.there;
            connector = takes.connector;
            mask = takes.mask;
            moves = sym (moves-alike plant.atoms (shown_in parts) states (is_present parts) seen-part i.ports c.moves chosen.whole) ∙ takes.moves;
          };
          possible = sym (possible-whole i (entry-in all chosen.number i takes.there) chosen.whole) ∙ chosen.possible;
          on_top = on-top chosen.number chosen.on_top;
        })
      where
        on-top : (n : ℕ) → IsSurelyOnTop plant parts n → IsOnTop plant states n
        on-top n top above below = false_from_ne_true (is_possible_at plant.atoms plant.wires states all above) (λ can.
            false≢true (sym (top above (below-more plant.rules (map named all) (is_marked_at states) (may_be_marked_in parts) counts-may n above below)) ∙ may-is-monotone above can))

  module _ (c : FiringDefinition) (sure : IsSure plant parts (choice_in c)) where
    -- what it delivers is read of present atoms alone
    pub delivered-same : (atom : ℕ) → transfer plant (shown_in parts) c atom ≡ transfer plant states c atom
    delivered-same atom =
        let chosen = sure-choice-of plant parts (choice_in c) sure in
        let takes = chosen.takes in
        let i : Interaction = takes.interaction in
        let at : Contains all i = entry-in all chosen.number i takes.there in
        let w : WireDefinition = wire i at chosen.whole in
        let there : slice_get plant.wires c.connector ≡ Some w = ap (slice_get plant.wires) takes.connector ∙ (of-wire plant i at).1 in
        let leaf : (k : ℕ) (p : Port) → slice_get (leaves w.connector) k ≡ Some p → is_set c.mask k ≡ true → p.atom < length plant.atoms → is_present parts p.atom ≡ true = λ k p here set below.
        leaves-present i at chosen.whole k p here (ap (λ m. is_set m k) (sym takes.mask) ∙ set) below in
        ap (λ o. option_map_or (λ v. delivered_by plant.atoms (shown_in parts) (leaves v.connector) (transfers_with v c.inputs) c.mask atom) o nothing_delivered) there ∙
        delivered-alike plant.atoms (shown_in parts) states (is_present parts) seen-part c.mask (leaves w.connector) leaf (transfers_with w c.inputs) atom ∙
        sym (ap (λ o. option_map_or (λ v. delivered_by plant.atoms states (leaves v.connector) (transfers_with v c.inputs) c.mask atom) o nothing_delivered) there)

    -- its participants fire, and the same atoms are away
    pub goes-on : went_on plant parts c ≡ parts_of away (next plant states c)
    goes-on = ap (λ d. moved_parts plant.atoms c.moves d 0 parts) (λ j atom. delivered-same atom j) ∙ moved-from plant.atoms c.moves (transfer plant states c) away 0 states
