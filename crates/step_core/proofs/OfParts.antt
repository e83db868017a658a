-- What the parts of a state show: an atom that is away offers nothing. So what is possible is whole, and what is not ruled out is
-- possible or open.
use Rattle.std.proofs.Common.{◌≡◌, ℕ, eqb, ltb, refl, sym, ◌∙◌, ap, List, [], ◌∷◌, length, Bool, true, false, ◌||◌, ◌&&◌, not}
use Rattle.std.specs.Prelude.{Option, Some, None, is_none, option_map, slice_get}
use Rattle.std.specs.List.{list_all, list_any}
use Rattle.std.specs.Option.{option_map_or}
use Rattle.std.proofs.lemmas.Bool.{and_left, and_parts, and_from, false≢true, false_from_ne_true}
use Rattle.std.proofs.lemmas.Nat.Bits.{bit_at-zero}
use Rattle.std.proofs.lemmas.Option.{slice_get-map}
use Rattle.petri_atom.specs.Local.{Local, all_marked}
use Rattle.petri_atom.specs.Definition.{AtomDefinition, TransitionDefinition, has_each_once, has_known_numbers, has_source_and_target, has_sources_and_targets, is_well_formed, is_within_limits, numbers_of, offers, offers_number, offers_port}
use Rattle.connector_tree.specs.declared.tree.Port.{Port}
use Rattle.plant_model.specs.Choice.{Interaction, is_offered_port, is_possible, is_possible_at, passes_guards}
use Rattle.plant_model.specs.Plant.{WireDefinition}
use Rattle.plant_model.proofs.Membership.{all-in, entry-in}
use Rattle.step_core.specs.Parts.{is_present, nothing_shown, shown, shown_in}
use Rattle.step_core.specs.Sure.{is_open, is_open_at, is_ruled_out, is_whole, may_come}

-- ---- an atom that is away

-- no place of an empty marking is marked
none-marked : (places : List ℕ) → ltb 0 (length places) ≡ true → all_marked 0 places ≡ false
none-marked [] some = absurd (false≢true some)
none-marked (k ∷ ks) some = ap (λ b. eqb b 1 && all_marked 0 ks) (bit_at-zero k)

-- so no transition is offered there: each has a source
never-offered : (t : TransitionDefinition) → has_source_and_target t ≡ true → offers nothing_shown t ≡ false
never-offered t formed =
    and_left _ _ (and_left _ _ (none-marked t.sources (and_parts (ltb 0 (length t.sources)) (ltb 0 (length t.targets)) formed).0))

-- nor any with a number
none-offered : (a : AtomDefinition) → is_well_formed a ≡ true → (n : ℕ) → offers_number a nothing_shown n ≡ false
none-offered a formed n = each (slice_get a.transitions n) refl
  where
    each : (o : Option TransitionDefinition) → slice_get a.transitions n ≡ o → option_map_or (offers nothing_shown) o false ≡ false
    each None there = refl
    each (Some t) there =
        let both = and_parts (is_within_limits a && has_each_once a && has_known_numbers a) (has_sources_and_targets a) formed in
        never-offered t (all-in has_source_and_target a.transitions both.1 t (entry-in a.transitions n t there))

-- an atom that is away offers no port
pub offers-nothing : (a : AtomDefinition) → is_well_formed a ≡ true → (port : ℕ) → offers_port a nothing_shown port ≡ false
offers-nothing a formed port = none (numbers_of port a.transitions)
  where
    none : (ns : List ℕ) → list_any (offers_number a nothing_shown) ns ≡ false
    none [] = refl
    none (n ∷ ns) = ap (λ b. b || list_any (offers_number a nothing_shown) ns) (none-offered a formed n) ∙ none ns

-- ---- tests of ports

-- some port passes one test and fails another exactly where not each fails the first or passes the other
module _ {X : Type 0} (f g : X → Bool) where
  pub some-fails : (xs : List X) → list_any (λ x. f x && not (g x)) xs ≡ not (list_all (λ x. not (f x) || g x) xs)
  some-fails [] = refl
  some-fails (x ∷ xs) = each (f x) (g x) (some-fails xs)
    where
      each : (a b : Bool) → list_any (λ y. f y && not (g y)) xs ≡ not (list_all (λ y. not (f y) || g y) xs) → ((a && not b) || list_any (λ y. f y && not (g y)) xs) ≡ not ((not a || b) && list_all (λ y. not (f y) || g y) xs)
      each true true rest = rest
      each true false rest = refl
      each false b rest = rest

  -- where each passes the first, each passes the other exactly where each fails the first or passes the other
  pub all-first : (xs : List X) → list_all f xs ≡ true → list_all (λ x. not (f x) || g x) xs ≡ list_all g xs
  all-first [] all = refl
  all-first (x ∷ xs) all =
      let both = and_parts (f x) (list_all f xs) all in
      ap (λ b. (not b || g x) && list_all (λ y. not (f y) || g y) xs) both.0 ∙ ap (λ b. g x && b) (all-first xs both.1)

  -- where each that passes the other passes the first, and each passes the other, each passes the first
  pub all-other : ((x : X) → g x ≡ true → f x ≡ true) → (xs : List X) → list_all g xs ≡ true → list_all f xs ≡ true
  all-other first [] all = refl
  all-other first (x ∷ xs) all =
      let both = and_parts (g x) (list_all g xs) all in
      and_from (f x) (list_all f xs) (first x both.0) (all-other first xs both.1)

-- a test that another follows from may be left out beside it
pub follows : (a b : Bool) → (b ≡ true → a ≡ true) → (a && b) ≡ b
follows true b first = refl
follows false true first = absurd (false≢true (first refl))
follows false false first = refl

-- not ruled out, by truth values: whole, each port offered, no guard fails, each port of a present atom offered
in-cases : (whole offered passes held : Bool) → (whole ≡ true → held ≡ offered) → ((offered && passes) ≡ true → whole ≡ true)
    → not (not held || (whole && not passes)) ≡ ((offered && passes) || (not whole && held))
in-cases true offered passes held same first = ap (λ b. not (not b || not passes)) (same refl) ∙ each offered passes
  where
    each : (a b : Bool) → not (not a || not b) ≡ ((a && b) || false)
    each true true = refl
    each true false = refl
    each false b = refl
in-cases false offered passes held same first =
    each held ∙ sym (ap (λ b. b || held) (false_from_ne_true (offered && passes) (λ can. false≢true (first can))))
  where
    each : (a : Bool) → not (not a || false) ≡ a
    each true = refl
    each false = refl

-- ---- what parts show

-- where a part is, and what it shows
pub shown-at : (parts : List (Option Local)) (n : ℕ) (part : Option Local) → slice_get parts n ≡ Some part → slice_get (shown_in parts) n ≡ Some (shown part)
shown-at parts n part there = slice_get-map shown parts n ∙ ap (option_map shown) there

module _ (atoms : List AtomDefinition) (formed : list_all is_well_formed atoms ≡ true) (parts : List (Option Local)) where
  -- the atom of a port that is offered is present
  pub offered-is-present : (p : Port) → is_offered_port atoms (shown_in parts) p ≡ true → is_present parts p.atom ≡ true
  offered-is-present p offered = each (slice_get parts p.atom) refl
    where
      away : (a : Option AtomDefinition) → slice_get atoms p.atom ≡ a → option_map_or (λ a. offers_port a nothing_shown p.port) a false ≡ false
      away None there = refl
      away (Some a) there = offers-nothing a (all-in is_well_formed atoms formed a (entry-in atoms p.atom a there)) p.port

      each : (o : Option (Option Local)) → slice_get parts p.atom ≡ o → not (option_map_or is_none o false) ≡ true
      each None there = refl
      each (Some (Some s)) there = refl
      each (Some None) there =
          let none : is_offered_port atoms (shown_in parts) p ≡ false =
          ap (λ w. option_map_or (λ a. option_map_or (λ s. offers_port a s p.port) w false) (slice_get atoms p.atom) false) (shown-at parts p.atom None there) ∙
          away (slice_get atoms p.atom) refl in
          absurd (false≢true (sym none ∙ offered))

  module _ (wires : List WireDefinition) where
    -- what is possible is whole
    pub possible-is-whole : (i : Interaction) → is_possible atoms wires (shown_in parts) i ≡ true → is_whole parts i ≡ true
    possible-is-whole i can =
        all-other (λ p. is_present parts p.atom) (is_offered_port atoms (shown_in parts)) offered-is-present i.ports
        (and_parts (list_all (is_offered_port atoms (shown_in parts)) i.ports) (passes_guards atoms wires (shown_in parts) i) can).0

    -- an interaction is not ruled out exactly where it is possible or open
    pub may-come-is : (i : Interaction) → not (is_ruled_out atoms wires parts i) ≡ (is_possible atoms wires (shown_in parts) i || is_open atoms parts i)
    may-come-is i =
        ap (λ b. not (b || (is_whole parts i && not (passes_guards atoms wires (shown_in parts) i)))) (some-fails (λ p. is_present parts p.atom) (is_offered_port atoms (shown_in parts)) i.ports) ∙
        in-cases (is_whole parts i) (list_all (is_offered_port atoms (shown_in parts)) i.ports) (passes_guards atoms wires (shown_in parts) i)
        (list_all (λ p. not (is_present parts p.atom) || is_offered_port atoms (shown_in parts) p) i.ports)
        (all-first (λ p. is_present parts p.atom) (is_offered_port atoms (shown_in parts)) i.ports)
        (possible-is-whole i)

    pub may-by-sets : (interactions : List Interaction) (n : ℕ) → may_come atoms wires parts interactions n ≡ (is_possible_at atoms wires (shown_in parts) interactions n || is_open_at atoms parts interactions n)
    may-by-sets interactions n = each (slice_get interactions n)
      where
        each : (o : Option Interaction) → option_map_or (λ i. not (is_ruled_out atoms wires parts i)) o false ≡ (option_map_or (is_possible atoms wires (shown_in parts)) o false || option_map_or (is_open atoms parts) o false)
        each None = refl
        each (Some i) = may-come-is i

    -- so to be present and possible is to be possible
    pub possible-in : (interactions : List Interaction) (n : ℕ) → option_map_or (λ i. is_whole parts i && is_possible atoms wires (shown_in parts) i) (slice_get interactions n) false ≡ is_possible_at atoms wires (shown_in parts) interactions n
    possible-in interactions n = each (slice_get interactions n)
      where
        each : (o : Option Interaction) → option_map_or (λ i. is_whole parts i && is_possible atoms wires (shown_in parts) i) o false ≡ option_map_or (is_possible atoms wires (shown_in parts)) o false
        each None = refl
        each (Some i) = follows (is_whole parts i) (is_possible atoms wires (shown_in parts) i) (possible-is-whole i)
