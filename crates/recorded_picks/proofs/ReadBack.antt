-- A choice of a plant is read back from its fired line without the number.
use Rattle.std.proofs.Common.{◌≡◌, ◌⊎◌, inl, inr, ℕ, zero, suc, ◌+◌, ◌-◌, ◌*◌, ◌<◌, ◌≤◌, ◌==◌, Bool, true, false, not, cond, ◌&&◌, refl, sym, ◌∙◌, ap, subst, List, [], ◌∷◌, ◌++◌, append_assoc, length, length-append, take, map, codes, Contains, arith, Ok}
use Rattle.std.specs.Prelude.{Option, Some, None, option_map, slice_get, slice_index, find, flat_map, nat_lt}
use Rattle.std.specs.Cmp.Lexicographic.{pointwise}
use Rattle.std.specs.List.{after_first, list_all, position_or_len}
use Rattle.std.specs.Option.{ok_or, option_map_or, option_to_list}
use Rattle.std.specs.Str.Lines.{strip_carriage_return}
use Rattle.std.proofs.lemmas.Bool.{and_from, and_parts, eq-eqb, eqb-true, false≢true, le-ltb, leb-true, ltb-true}
use Rattle.std.proofs.lemmas.List.{take_all}
use Rattle.std.proofs.lemmas.List.Folds.{list_all-append}
use Rattle.std.proofs.lemmas.Option.{same_Some, slice_get-map}
use Rattle.petri_atom.specs.Definition.{AtomDefinition, TransitionDefinition, is_well_formed, is_within_limits, offers_number}
use Rattle.petri_atom.specs.declared.parts.TheConstants.{MAX_TRANSITIONS}
use Rattle.petri_atom.specs.Local.{Local}
use Rattle.petri_atom.specs.Name.{is_name}
use Rattle.connector_tree.specs.declared.tree.Port.{Port}
use Rattle.connector_tree.specs.Masks.{interactions_of, ports_of}
use Rattle.plant_words.specs.Lines.{lines_of}
use Rattle.plant_words.specs.Words.{is_blank, words_of}
use Rattle.plant_words.proofs.Cuts.{lines_of-first}
use Rattle.plant_model.specs.Choice.{ChoiceDefinition, Interaction, IsAllowed, plant_interactions}
use Rattle.plant_model.specs.Laws.{IsInRange, IsInteractionOf, IsTaking, are_moves_at, is_move_at, is_of_port}
use Rattle.plant_model.specs.Plant.{PlantDefinition, WireDefinition, of_atom}
use Rattle.plant_model.specs.Rules.{fault_of}
use Rattle.plant_model.specs.declared.choice.Move.{Move}
use Rattle.plant_model.proofs.Membership.{all-in, entry-in, here, here-or-later, later}
use Rattle.plant_model.proofs.OfChoices.{in-range, taking}
use Rattle.plant_model.proofs.OfInteractions.{interaction-of, sound-tree}
use Rattle.plant_model.proofs.OfPorts.{port-of-move, port-of-transition}
use Rattle.text_io.specs.Numbered.{numbered}
use Rattle.run_text.specs.Line.{interaction_line, participant}
use Rattle.run_text.specs.Picks.{misread, named, number_as}
use Rattle.run_text.specs.ShownWord.{shown_word}
use Rattle.run_text.specs.Steps.{saved_line}
use Rattle.run_text.specs.declared.pick.Misread.TheVariants.{NoInteraction, TooLong, UnknownConnector}
use Rattle.run_text.specs.declared.pick.Numbers.{Numbers}
use Rattle.recorded_picks.specs.Choices.{choice_in, fires, is_at_port, is_fired_by, mask_of, moves_read}
use Rattle.recorded_picks.specs.Files.{picks_from, picks_of_line}
use Rattle.recorded_picks.specs.Laws.{AreNames, has_names, named_picks}
use Rattle.recorded_picks.specs.Lines.{is_remark, lone_number, said_in, take_in, take_of_choice}
use Rattle.recorded_picks.specs.Moves.{moves_in}
use Rattle.recorded_picks.specs.Names.{connector_named, connector_names}
use Rattle.recorded_picks.specs.declared.kept_line.TheConstants.{MAX_PICK_LINE}
use Rattle.recorded_picks.proofs.Apart.{atoms-apart, connectors-apart}
use Rattle.recorded_picks.proofs.Feeds.{is_feed}
use Rattle.recorded_picks.proofs.FiredWords.{length-spaced, none-spaced, words-spaced}
use Rattle.recorded_picks.proofs.NamedMoves.{IsMoveOf, found-there, printed-none, printed-plain, printed-short, read-moves}
use Rattle.recorded_picks.proofs.Plain.{Spares, after-it, before-it, name-filled, name-no-comment, name-none, name-short, none-at, none_is, place-of-first, spares-blanks, spares-byte}
use Rattle.recorded_picks.proofs.Reading.{few, found, with-moves}
use Rattle.recorded_picks.proofs.SameMask.{same-mask}

-- ---- ports and the moves that fire them

-- an entry within a list is there
within-some : {X : Type 0} (xs : List X) (k : ℕ) → k < length xs → (x : X) × (slice_get xs k ≡ Some x)
within-some [] k less = absurd (omega (arith, less))
within-some (x ∷ xs) zero less = (x, refl)
within-some (x ∷ xs) (suc k) less = within-some xs k (omega (arith, less))

module _ (atoms : List AtomDefinition) where
  -- an offered move of a port fires it
  fires-at : (states : List Local) (p : Port) (m : Move) → is_move_at atoms states p m ≡ true → fires atoms p m ≡ true
  fires-at states p m moves =
      let parts = and_parts (m.atom == p.atom) (of_atom atoms states p.atom (λ a s. is_of_port a p.port m.transition && offers_number a s m.transition) false) moves in
      and_from (m.atom == p.atom) (is_at_port atoms p m.transition) parts.0 (each (slice_get atoms p.atom) (slice_get states p.atom) parts.1)
    where
      each : (o : Option AtomDefinition) (w : Option Local)
          → option_map_or (λ a. option_map_or (λ s. is_of_port a p.port m.transition && offers_number a s m.transition) w false) o false ≡ true
          → option_map_or (λ a. is_of_port a p.port m.transition) o false ≡ true
      each None w never = never
      each (Some a) None never = absurd (false≢true never)
      each (Some a) (Some s) both = (and_parts (is_of_port a p.port m.transition) (offers_number a s m.transition) both).0

  fires-all : (states : List Local) (ports : List Port) (moves : List Move) → are_moves_at atoms states ports moves ≡ true → pointwise (fires atoms) ports moves ≡ true
  fires-all states [] [] all = refl
  fires-all states [] (m ∷ ms) all = absurd (false≢true all)
  fires-all states (p ∷ ps) [] all = absurd (false≢true all)
  fires-all states (p ∷ ps) (m ∷ ms) all =
      let parts = and_parts (is_move_at atoms states p m) (are_moves_at atoms states ps ms) all in
      and_from (fires atoms p m) (pointwise (fires atoms) ps ms) (fires-at states p m parts.0) (fires-all states ps ms parts.1)

  -- a move fires one port alone
  one-port : (p q : Port) (m : Move) → fires atoms p m ≡ true → fires atoms q m ≡ true → p ≡ q
  one-port p q m first second =
      let ps = and_parts (m.atom == p.atom) (is_at_port atoms p m.transition) first in
      let qs = and_parts (m.atom == q.atom) (is_at_port atoms q m.transition) second in
      let own : p.atom ≡ q.atom = sym (eqb-true m.atom p.atom ps.0) ∙ eqb-true m.atom q.atom qs.0 in
      let port : p.port ≡ q.port =
      each (slice_get atoms p.atom) ps.1 (ap (λ n. option_map_or (λ a. is_of_port a q.port m.transition) (slice_get atoms n) false) own ∙ qs.1) in
      ap (λ n. record { atom = n; port = p.port }) own ∙ ap (λ n. record { atom = q.atom; port = n }) port
    where
      of-transition : (o : Option TransitionDefinition) → option_map_or (λ t. t.port == p.port) o false ≡ true → option_map_or (λ t. t.port == q.port) o false ≡ true → p.port ≡ q.port
      of-transition None never other = absurd (false≢true never)
      of-transition (Some t) is also = sym (eqb-true t.port p.port is) ∙ eqb-true t.port q.port also

      each : (o : Option AtomDefinition) → option_map_or (λ a. is_of_port a p.port m.transition) o false ≡ true → option_map_or (λ a. is_of_port a q.port m.transition) o false ≡ true → p.port ≡ q.port
      each None never other = absurd (false≢true never)
      each (Some a) is also = of-transition (slice_get a.transitions m.transition) is also

  one-row : (ps qs : List Port) (moves : List Move) → pointwise (fires atoms) ps moves ≡ true → pointwise (fires atoms) qs moves ≡ true → ps ≡ qs
  one-row [] [] [] first second = refl
  one-row [] (q ∷ qs) [] first second = absurd (false≢true second)
  one-row (p ∷ ps) qs [] first second = absurd (false≢true first)
  one-row [] qs (m ∷ ms) first second = absurd (false≢true first)
  one-row (p ∷ ps) [] (m ∷ ms) first second = absurd (false≢true second)
  one-row (p ∷ ps) (q ∷ qs) (m ∷ ms) first second =
      let one = and_parts (fires atoms p m) (pointwise (fires atoms) ps ms) first in
      let two = and_parts (fires atoms q m) (pointwise (fires atoms) qs ms) second in
      ap (λ r. r ∷ ps) (one-port p q m one.0 two.0) ∙ ap (λ rs. q ∷ rs) (one-row ps qs ms one.1 two.1)

-- what is in a list and passes a test keeps the search from failing
not-missing : {X : Type 0} (test : X → Bool) (xs : List X) (x : X) → Contains xs x → test x ≡ true → find test xs ≡ None → ⊥
not-missing test [] x at passes none = absurd (omega (arith, at.1))
not-missing {X} test (y ∷ ys) x at passes none = each (λ more told. not-missing test ys x more passes told) (test y) refl none (here-or-later y ys x at)
  where
    each : (Contains ys x → find test ys ≡ None → ⊥) → (b : Bool) → test y ≡ b → cond b (Some y) (find test ys) ≡ None → (y ≡ x) ⊎ Contains ys x → ⊥
    each behind true is told at = absurd (cc)
    each behind false is told (inl same) = false≢true (sym is ∙ ap test same ∙ passes)
    each behind false is told (inr more) = behind more told

-- a well-formed atom has few transitions
few-transitions : (a : AtomDefinition) → is_well_formed a ≡ true → length a.transitions ≤ MAX_TRANSITIONS
few-transitions a formed =
    let limits : is_within_limits a ≡ true = (and_parts _ _ (and_parts _ _ (and_parts _ _ formed).0).0).0 in
    leb-true (length a.transitions) MAX_TRANSITIONS (and_parts _ _ (and_parts _ _ (and_parts _ _ limits).0).0).1

-- ---- one choice

module _ (plant : PlantDefinition) (valid : fault_of plant ≡ None) (formed : list_all is_well_formed plant.atoms ≡ true) (are_names : AreNames plant) where
  wires-named : list_all (λ w. is_name w.name) plant.wires ≡ true
  wires-named = (and_parts (list_all (λ w. is_name w.name) plant.wires) (list_all has_names plant.atoms) are_names).0

  atoms-named : list_all has_names plant.atoms ≡ true
  atoms-named = (and_parts (list_all (λ w. is_name w.name) plant.wires) (list_all has_names plant.atoms) are_names).1

  module _ (states : List Local) (c : ChoiceDefinition) (allowed : IsAllowed plant states c) where
    takes : IsTaking plant states (taking plant states c allowed).0 c
    takes = (taking plant states c allowed).1

    abbrev i : Interaction
    i = takes.interaction

    there : Contains (plant_interactions plant) i
    there = entry-in (plant_interactions plant) (taking plant states c allowed).0 i takes.there

    whole : IsInteractionOf plant i
    whole = interaction-of plant valid i there

    range : IsInRange plant c
    range = in-range plant states c valid allowed

    abbrev wire : WireDefinition
    wire = whole.wire

    its-wire : slice_get plant.wires c.connector ≡ Some wire
    its-wire = ap (slice_get plant.wires) takes.connector ∙ whole.there

    named-wire : is_name wire.name ≡ true
    named-wire = all-in (λ w. is_name w.name) plant.wires wires-named wire (entry-in plant.wires c.connector wire its-wire)

    -- each of its moves is one of the plant
    of-plant : (m : Move) → Contains c.moves m → IsMoveOf plant m
    of-plant m at =
        let port = port-of-move plant.atoms states i.ports c.moves takes.moves m at in
        let p : Port = port.0 in
        let own : m.atom ≡ p.atom = eqb-true m.atom p.atom (and_parts (m.atom == p.atom) _ port.2).0 in
        let atom = within-some plant.atoms m.atom (range.of_plant m at) in
        let a : AtomDefinition = atom.0 in
        let its : slice_get plant.atoms p.atom ≡ Some a = ap (slice_get plant.atoms) (sym own) ∙ atom.1 in
        let transition = within-some a.transitions m.transition (range.of_atom m a at atom.1) in
        let t : TransitionDefinition = transition.0 in
        let same : t.port ≡ p.port = port-of-transition plant.atoms states p m port.2 a its t transition.1 in
        let known_port : nat_lt p.port (length a.ports) ≡ true = sym (ap (λ o. option_map_or (λ (b : AtomDefinition). nat_lt p.port (length b.ports)) o false) its) ∙ whole.known p port.1 in
        let definition = within-some a.ports t.port (subst (λ n. n < length a.ports) (sym same) (ltb-true p.port (length a.ports) known_port)) in
        let in_plant : Contains plant.atoms a = entry-in plant.atoms m.atom a atom.1 in
        let names = and_parts (is_name a.name) (list_all (λ q. is_name q.name) a.ports) (all-in has_names plant.atoms atoms-named a in_plant) in
        record {
          atom = a;
          transition = t;
          port = definition.0;
          its_atom = atom.1;
          its_transition = transition.1;
          its_port = definition.1;
          atom_named = names.0;
          port_named = all-in (λ q. is_name q.name) a.ports names.1 definition.0 (entry-in a.ports t.port definition.0 definition.1);
          few = few-transitions a (all-in is_well_formed plant.atoms formed a in_plant);
        }

    -- its line
    abbrev words : List (List ℕ)
    words = map (participant plant.atoms) c.moves

    line-is : interaction_line plant c ≡ wire.name ++ flat_map (λ m. codes " " ++ participant plant.atoms m) c.moves
    line-is = ap (λ o. option_map_or (λ (w : WireDefinition). w.name) o [] ++ flat_map (λ m. codes " " ++ participant plant.atoms m) c.moves) its-wire

    line-words : words_of (interaction_line plant c) ≡ wire.name ∷ words
    line-words =
        ap words_of line-is
        ∙ words-spaced (participant plant.atoms) wire.name c.moves (record { unblank = name-none wire.name named-wire is_blank spares-blanks; some = name-filled wire.name named-wire }) (λ m at. printed-plain plant m (of-plant m at))

    line-short : length (interaction_line plant c) ≤ MAX_PICK_LINE
    line-short =
        let many : length (flat_map (λ m. codes " " ++ participant plant.atoms m) c.moves) ≤ length c.moves * (69 + 1) = length-spaced (participant plant.atoms) 69 c.moves (λ m at. printed-short plant m (of-plant m at)) in
        omega (arith, ap length line-is, length-append wire.name (flat_map (λ m. codes " " ++ participant plant.atoms m) c.moves), name-short wire.name named-wire, many, range.few)

    -- the interaction that its moves fire is its own
    fired : pointwise (fires plant.atoms) i.ports c.moves ≡ true
    fired = fires-all plant.atoms states i.ports c.moves takes.moves

    mask-of-found : (j : Interaction) → is_fired_by plant.atoms c.connector c.moves j ≡ true → Contains (plant_interactions plant) j → j.mask ≡ c.mask
    mask-of-found j test at =
        let parts = and_parts (j.connector == c.connector) (pointwise (fires plant.atoms) j.ports c.moves) test in
        let other = interaction-of plant valid j at in
        let ports : j.ports ≡ i.ports = one-row plant.atoms j.ports i.ports c.moves parts.1 fired in
        let same : other.wire ≡ wire = same_Some other.wire wire (sym other.there ∙ ap (slice_get plant.wires) (eqb-true j.connector c.connector parts.0) ∙ its-wire) in
        let tree : other.wire.connector ≡ wire.connector = ap (λ (w : WireDefinition). w.connector) same in
        same-mask wire.connector j.mask i.mask (sound-tree plant valid c.connector wire its-wire).distinct_atoms
        (subst (λ t. Contains (interactions_of t) j.mask) tree other.mask) whole.mask
        (λ p held. (whole.of_mask p).0 (subst (λ ps. Contains ps p) ports ((other.of_mask p).1 (subst (λ t. Contains (ports_of t j.mask) p) (sym tree) held))))
        (λ p held. subst (λ t. Contains (ports_of t j.mask) p) tree ((other.of_mask p).0 (subst (λ ps. Contains ps p) (sym ports) ((whole.of_mask p).1 held))))
        ∙ sym takes.mask

    the-mask : mask_of plant c.connector c.moves ≡ Some c.mask
    the-mask = each (find (is_fired_by plant.atoms c.connector c.moves) (plant_interactions plant)) refl
      where
        each : (o : Option Interaction) → find (is_fired_by plant.atoms c.connector c.moves) (plant_interactions plant) ≡ o → option_map (λ j. j.mask) o ≡ Some c.mask
        each None none = absurd (not-missing (is_fired_by plant.atoms c.connector c.moves) (plant_interactions plant) i there (and_from (i.connector == c.connector) (pointwise (fires plant.atoms) i.ports c.moves) (eq-eqb i.connector c.connector (sym takes.connector)) fired) none)
        each (Some j) is =
            let at = found (is_fired_by plant.atoms c.connector c.moves) (plant_interactions plant) j is in
            ap Some (mask-of-found j at.0 at.1)

    -- so its words name it
    choice-read : choice_in plant wire.name words ≡ Ok c
    choice-read =
        let its_name : slice_get (connector_names plant) c.connector ≡ Some wire.name = slice_get-map (λ (w : WireDefinition). w.name) plant.wires c.connector ∙ ap (option_map (λ (w : WireDefinition). w.name)) its-wire in
        let connector : connector_named plant wire.name ≡ Some c.connector = found-there (connector_names plant) c.connector wire.name (connectors-apart plant valid) its_name in
        let moves : moves_read (moves_in plant words) ≡ Ok c.moves = ap moves_read (read-moves plant c.moves (atoms-apart plant valid) of-plant) ∙ ap (λ o. ok_or o NoInteraction) (few c.moves range.few) in
        with-moves plant wire.name words c.connector (ap (λ o. ok_or o (UnknownConnector (shown_word wire.name))) connector) c.moves moves
        ∙ ap (λ o. ok_or (option_map (λ mask. record { connector = c.connector; mask = mask; moves = c.moves }) o) NoInteraction) the-mask

    -- and its line
    pub line-read : (numbers : Numbers) → said_in numbers plant (interaction_line plant c) ≡ Some (named c)
    line-read numbers =
        let line = interaction_line plant c in
        let front : words_of (take MAX_PICK_LINE line) ≡ wire.name ∷ words = ap words_of (take_all MAX_PICK_LINE line line-short) ∙ line-words in
        ap (λ ws. cond (is_remark ws) None (cond (nat_lt MAX_PICK_LINE (length line)) (Some (misread TooLong)) (take_in numbers plant (words_of line)))) front
        ∙ ap (λ b. cond b None (cond (nat_lt MAX_PICK_LINE (length line)) (Some (misread TooLong)) (take_in numbers plant (words_of line)))) (name-no-comment wire.name named-wire)
        ∙ ap (λ b. cond b (Some (misread TooLong)) (take_in numbers plant (words_of line))) (le-ltb MAX_PICK_LINE (length line) line-short)
        ∙ ap (take_in numbers plant) line-words
        ∙ ap Some (each c.moves range.some)
      where
        each : (moves : List Move) → 1 ≤ length moves → option_map_or (number_as numbers) (lone_number wire.name (map (participant plant.atoms) moves)) (take_of_choice (choice_in plant wire.name words)) ≡ named c
        each [] none = absurd (omega (arith, none))
        each (m ∷ ms) some = ap take_of_choice choice-read

    -- none of its bytes passes a test that spares those of names, the dot, the slash and the space
    pub line-none : (p : ℕ → Bool) → Spares p → p 32 ≡ false → p 46 ≡ false → p 47 ≡ false → none_is p (interaction_line plant c) ≡ true
    line-none p spares no_space no_dot no_slash =
        let test = λ (b : ℕ). not (p b) in
        let spaced = flat_map (λ m. codes " " ++ participant plant.atoms m) c.moves in
        ap (none_is p) line-is ∙ list_all-append test wire.name spaced
        ∙ and_from (none_is p wire.name) (none_is p spaced) (name-none wire.name named-wire p spares)
        (none-spaced (participant plant.atoms) p no_space c.moves (λ m at. printed-none plant m (of-plant m at) p spares no_dot no_slash))

-- ---- a file

-- a line without line feeds and returns, before a line feed
module _ (line rest : List ℕ) (no_feed : none_is is_feed line ≡ true) (no_return : none_is (λ b. b == 13) line ≡ true) where
  kept-whole : strip_carriage_return line ≡ line
  kept-whole = ap (λ b. cond b (take (length line - 1) line) line) (last-other line no_return)
    where
      last-other : (bytes : List ℕ) → none_is (λ b. b == 13) bytes ≡ true → (slice_index bytes (length bytes - 1) == 13) ≡ false
      last-other [] none = refl
      last-other (b ∷ bs) none = none-at (λ x. x == 13) (b ∷ bs) none (length (b ∷ bs) - 1) 0 (omega arith)

  pub line-first : lines_of (line ++ 10 ∷ rest) ≡ line ∷ lines_of rest
  line-first =
      let text = line ++ 10 ∷ rest in
      let inside : position_or_len is_feed text < length text = omega (arith, place-of-first is_feed line rest 10 no_feed refl, length-append line (10 ∷ rest)) in
      lines_of-first text inside
      ∙ ap (λ front. strip_carriage_return front ∷ lines_of (after_first is_feed text)) (before-it is_feed line rest 10 no_feed refl)
      ∙ ap (λ back. strip_carriage_return line ∷ lines_of back) (after-it is_feed line rest 10 no_feed refl)
      ∙ ap (λ front. front ∷ lines_of rest) kept-whole

module _ (plant : PlantDefinition) (valid : fault_of plant ≡ None) (formed : list_all is_well_formed plant.atoms ≡ true) (are_names : AreNames plant) (numbers : Numbers) where
  -- choices that some states allow
  abbrev AreAllowed : List ChoiceDefinition → Type 0
  AreAllowed cs = (c : ChoiceDefinition) → Contains cs c → (states : List Local) × IsAllowed plant states c

  -- their saved lines are read as picks of them
  pub file-read : (place : ℕ) (cs : List ChoiceDefinition) → AreAllowed cs → picks_from numbers plant place (flat_map (saved_line plant) cs) ≡ named_picks place cs
  file-read place [] allowed = refl
  file-read place (c ∷ cs) allowed =
      let own = allowed c (here c cs) in
      let states : List Local = own.0 in
      let line = interaction_line plant c in
      let rest = flat_map (saved_line plant) cs in
      let none = λ (p : ℕ → Bool) (spares : Spares p). line-none plant valid formed are_names states c own.1 p spares in
      let joined : (line ++ codes "\n") ++ rest ≡ line ++ 10 ∷ rest = append_assoc line (codes "\n") rest in
      let split : lines_of ((line ++ codes "\n") ++ rest) ≡ line ∷ lines_of rest = ap lines_of joined ∙ line-first line rest (none is_feed (spares-byte 10 refl) refl refl refl) (none (λ b. b == 13) (spares-byte 13 refl) refl refl refl) in
      ap (numbered (picks_of_line numbers plant) place) split
      ∙ ap (λ said. option_to_list (option_map (λ take. record { place = place; take = take }) said) ++ picks_from numbers plant (place + 1) rest) (line-read plant valid formed are_names states c own.1 numbers)
      ∙ ap (λ picks. record { place = place; take = named c } ∷ picks) (file-read (place + 1) cs (λ d at. allowed d (later c cs d at)))
