-- The word of a participant names the move that it is printed for.
use Rattle.std.proofs.Common.{◌≡◌, ℕ, ◌<◌, ◌≤◌, ◌^◌, ◌==◌, Bool, true, false, not, cond, refl, sym, ◌∙◌, ap, List, [], ◌∷◌, ◌++◌, length, take, map, codes, Contains, arith, lit≤}
use Rattle.std.specs.Prelude.{Some, None, Ok, option_map, slice_get, decimal, nat_eq, nat_lt}
use Rattle.std.specs.List.{after_first, before_first, position_or_len}
use Rattle.std.specs.Option.{ok_or, option_and_then, option_map_or}
use Rattle.std.proofs.lemmas.Bool.{and_from, eq-eqb, lt-ltb, ltb-false}
use Rattle.std.proofs.lemmas.Fmt.{length-decimal-le}
use Rattle.std.proofs.lemmas.List.{get_or-take, length-take}
use Rattle.std.proofs.lemmas.List.Splits.{slice_split_at, slice_split_none}
use Rattle.std.proofs.lemmas.List.Sums.{fails_before_first, position_or_len_is}
use Rattle.std.proofs.lemmas.Option.{get_or_from_slice_get, slice_get-map, slice_get_within}
use Rattle.petri_atom.specs.Definition.{AtomDefinition, PortDefinition, TransitionDefinition, port_name}
use Rattle.petri_atom.specs.Name.{is_name, is_same_text}
use Rattle.petri_atom.specs.declared.parts.TheConstants.{MAX_TRANSITIONS}
use Rattle.plant_words.specs.Numbers.{below}
use Rattle.plant_words.specs.Reading.{◌>>=◌}
use Rattle.plant_words.specs.Splits.{both_of, export_parts}
use Rattle.plant_words.specs.Words.{is_blank, is_filled}
use Rattle.plant_model.specs.Choice.{move_of}
use Rattle.plant_model.specs.Plant.{PlantDefinition}
use Rattle.plant_model.specs.declared.choice.Move.{Move}
use Rattle.run_text.specs.Line.{fired_port_name, participant}
use Rattle.run_text.specs.ShownWord.{shown_word}
use Rattle.run_text.specs.declared.pick.Misread.TheVariants.{UnknownMove}
use Rattle.recorded_picks.specs.Moves.{is_fired_at, is_of_named_port, is_slash, move_at, move_in, move_named, moves_in, transition_in}
use Rattle.recorded_picks.specs.Names.{AreApart, atom_named, atom_names, place_of}
use Rattle.plant_model.proofs.Membership.{here, later}
use Rattle.recorded_picks.proofs.FiredWords.{IsPlain, length-participant, none-in-participant, regrouped}
use Rattle.recorded_picks.proofs.Plain.{Spares, after-it, before-it, decimal-none, decimal-read, name-filled, name-none, name-short, none-at, none_is, spares-blanks, spares-byte}
use Rattle.std.proofs.lemmas.List.Folds.{list_all-append}

-- a text is the same as itself
pub same-text : (text : List ℕ) → is_same_text text text ≡ true
same-text [] = refl
same-text (b ∷ bs) = and_from (nat_eq b b) (is_same_text bs bs) (eq-eqb b b refl) (same-text bs)

-- where none was found, the test of its place failed
not-found : (b : Bool) (i : ℕ) → cond b (Some i) None ≡ None → b ≡ false
not-found true i none = absurd (cc)
not-found false i none = refl

-- a name that stands apart is found where it stands
pub found-there : (names : List (List ℕ)) (k : ℕ) (name : List ℕ) → AreApart names → slice_get names k ≡ Some name → place_of names name ≡ Some k
found-there names k name apart there =
    let test = λ (known : List ℕ). is_same_text known name in
    let within : k < length names = slice_get_within names k name there in
    let long = length-take k names in
    let none : length (take k names) ≤ position_or_len test (take k names) =
    ltb-false (position_or_len test (take k names)) (length (take k names)) (not-found (nat_lt (position_or_len test (take k names)) (length (take k names))) (position_or_len test (take k names)) (apart k name there)) in
    let at : position_or_len test names ≡ k =
    position_or_len_is test names k name (omega (arith, within))
    (λ j less. ap test (sym (get_or-take k names j name less)) ∙ fails_before_first test (take k names) j name (omega (arith, less, none, long, within)))
    (λ less. ap test (get_or_from_slice_get names k name name there) ∙ same-text name) in
    ap (λ n. cond (nat_lt n (length names)) (Some n) None) at ∙ ap (λ b. cond b (Some k) None) (lt-ltb k (length names) within)

-- a move is one of a plant: its atom has the transition, and the transition's port
pub record IsMoveOf (plant : PlantDefinition) (m : Move) : Type 0 where
  pub atom : AtomDefinition
  pub transition : TransitionDefinition
  pub port : PortDefinition
  pub its_atom : slice_get plant.atoms m.atom ≡ Some atom
  pub its_transition : slice_get atom.transitions m.transition ≡ Some transition
  pub its_port : slice_get atom.ports transition.port ≡ Some port
  pub atom_named : is_name atom.name ≡ true
  pub port_named : is_name port.name ≡ true
  pub few : length atom.transitions ≤ MAX_TRANSITIONS

module _ (plant : PlantDefinition) (m : Move) (of : IsMoveOf plant m) where
  abbrev atom : List ℕ
  atom = of.atom.name

  abbrev port : List ℕ
  port = of.port.name

  abbrev number : List ℕ
  number = decimal m.transition

  its-port-name : port_name of.atom of.transition.port ≡ port
  its-port-name = ap (λ o. option_map_or (λ (p : PortDefinition). p.name) o []) of.its_port

  fired-name : fired_port_name of.atom m.transition ≡ port
  fired-name = ap (λ o. option_map_or (λ (t : TransitionDefinition). port_name of.atom t.port) o []) of.its_transition ∙ its-port-name

  -- how it is printed
  printed : participant plant.atoms m ≡ atom ++ codes "." ++ port ++ codes "/" ++ number
  printed =
      ap (λ o. option_map_or (λ (a : AtomDefinition). a.name ++ codes "." ++ fired_port_name a m.transition ++ codes "/" ++ number) o []) of.its_atom
      ∙ ap (λ name. atom ++ codes "." ++ name ++ codes "/" ++ number) fired-name

  below-limit : m.transition < MAX_TRANSITIONS
  below-limit = omega (arith, slice_get_within of.atom.transitions m.transition of.transition of.its_transition, of.few)

  small : m.transition < 2 ^ 64
  small = let limit : MAX_TRANSITIONS ≤ 2 ^ 64 = lit≤ tt in omega (arith, below-limit, limit)

  -- none of its bytes passes a test that spares letters, digits, `_`, the dot and the slash
  pub printed-none : (p : ℕ → Bool) → Spares p → p 46 ≡ false → p 47 ≡ false → none_is p (participant plant.atoms m) ≡ true
  printed-none p spares no_dot no_slash =
      ap (none_is p) printed
      ∙ none-in-participant atom port number p no_dot no_slash (name-none atom of.atom_named p spares) (name-none port of.port_named p spares) (decimal-none m.transition small p spares)

  -- it is one word
  pub printed-plain : IsPlain (participant plant.atoms m)
  printed-plain = record {
    unblank = printed-none is_blank spares-blanks refl refl;
    some = ap is_filled printed ∙ filled-front atom (name-filled atom of.atom_named);
  }
    where
      filled-front : (name : List ℕ) → is_filled name ≡ true → is_filled (name ++ codes "." ++ port ++ codes "/" ++ number) ≡ true
      filled-front [] some = absurd (cc)
      filled-front (b ∷ bs) some = refl

  -- of so many bytes at most
  pub printed-short : length (participant plant.atoms m) ≤ 69
  printed-short =
      let limit : m.transition < 10 ^ 3 = let hundred : MAX_TRANSITIONS ≤ 10 ^ 3 = lit≤ tt in omega (arith, below-limit, hundred) in
      omega (arith, ap length printed, length-participant atom port number, name-short atom of.atom_named, name-short port of.port_named, length-decimal-le 3 m.transition (omega arith) limit small)

  -- which names the move
  module _ (apart : AreApart (atom_names plant)) where
    no-slash : none_is is_slash (atom ++ 46 ∷ port) ≡ true
    no-slash =
        list_all-append (λ (b : ℕ). not (is_slash b)) atom (46 ∷ port)
        ∙ and_from (none_is is_slash atom) (none_is is_slash (46 ∷ port)) (name-none atom of.atom_named is_slash (spares-byte 47 refl)) (name-none port of.port_named is_slash (spares-byte 47 refl))

    -- what stands around the slash
    front : before_first is_slash (participant plant.atoms m) ≡ atom ++ 46 ∷ port
    front = ap (before_first is_slash) (printed ∙ regrouped atom port number) ∙ before-it is_slash (atom ++ 46 ∷ port) number 47 no-slash refl

    back : after_first is_slash (participant plant.atoms m) ≡ number
    back = ap (after_first is_slash) (printed ∙ regrouped atom port number) ∙ after-it is_slash (atom ++ 46 ∷ port) number 47 no-slash refl

    -- and around the dot
    names : export_parts (atom ++ 46 ∷ port) ≡ Some (atom, port)
    names =
        let dot = λ (b : ℕ). b == 46 in
        let spares = spares-byte 46 refl in
        ap both_of (slice_split_at dot atom 46 port (none-at dot atom (name-none atom of.atom_named dot spares)) refl ∙ ap (λ parts. atom ∷ parts) (slice_split_none dot port (none-at dot port (name-none port of.port_named dot spares))))
        ∙ ap (λ b. cond b (Some (atom, port)) None) (and_from (is_filled atom) (is_filled port) (name-filled atom of.atom_named) (name-filled port of.port_named))

    transition : transition_in number ≡ Some m.transition
    transition = ap (below MAX_TRANSITIONS) (decimal-read m.transition small) ∙ ap (λ b. cond b (Some m.transition) None) (lt-ltb m.transition MAX_TRANSITIONS below-limit)

    fired : is_fired_at plant.atoms m.atom port m.transition ≡ true
    fired =
        ap (λ o. option_map_or (λ (a : AtomDefinition). is_of_named_port a m.transition port) o false) of.its_atom
        ∙ ap (λ o. option_map_or (λ (t : TransitionDefinition). is_same_text (port_name of.atom t.port) port) o false) of.its_transition
        ∙ ap (λ name. is_same_text name port) its-port-name ∙ same-text port

    place : atom_named plant atom ≡ Some m.atom
    place = found-there (atom_names plant) m.atom atom apart (slice_get-map (λ (a : AtomDefinition). a.name) plant.atoms m.atom ∙ ap (option_map (λ (a : AtomDefinition). a.name)) of.its_atom)

    pub read-move : move_in plant (participant plant.atoms m) ≡ Some m
    read-move =
        ap (λ word. option_and_then (λ parts. option_and_then (move_named plant parts) (transition_in (after_first is_slash (participant plant.atoms m)))) (export_parts word)) front
        ∙ ap (λ word. option_and_then (λ parts. option_and_then (move_named plant parts) (transition_in word)) (export_parts (atom ++ 46 ∷ port))) back
        ∙ ap (option_and_then (λ parts. option_and_then (move_named plant parts) (transition_in number))) names
        ∙ ap (option_and_then (move_named plant (atom, port))) transition
        ∙ ap (option_and_then (move_at plant.atoms port m.transition)) place
        ∙ ap (λ b. cond b (Some (move_of m.atom m.transition)) None) fired

-- the words of moves of a plant name them
pub read-moves : (plant : PlantDefinition) (moves : List Move) → AreApart (atom_names plant) → ((m : Move) → Contains moves m → IsMoveOf plant m) → moves_in plant (map (participant plant.atoms) moves) ≡ Ok moves
read-moves plant [] apart of = refl
read-moves plant (m ∷ ms) apart of =
    let word = participant plant.atoms m in
    let words = map (participant plant.atoms) ms in
    let rest = read-moves plant ms apart (λ k at. of k (later m ms k at)) in
    ap (λ o. ok_or o (UnknownMove (shown_word word)) >>= λ k. moves_in plant words >>= λ more. Ok (k ∷ more)) (read-move plant m (of m (here m ms)) apart)
    ∙ ap (λ moves. moves >>= λ more. Ok (m ∷ more)) rest
