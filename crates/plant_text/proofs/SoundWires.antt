-- What holds of each connector that lines write, by the atoms and the connectors before it.
use Rattle.std.proofs.Common.{◌≡◌, ◌∙◌, refl, ap, subst, sym, ℕ, suc, ◌+◌, ◌<◌, arith, Bool, true, false, ◌&&◌, List, [], ◌∷◌, ◌++◌, length, drop, None, Result, Ok, Err}
use Rattle.std.specs.Prelude.{nat_lt, is_none}
use Rattle.std.specs.List.{list_all, list_any}
use Rattle.std.proofs.lemmas.Bool.{and_from, and_parts, ltb-true}
use Rattle.std.proofs.lemmas.List.{length-append, length-map, map-append}
use Rattle.petri_atom.specs.Definition.{AtomDefinition}
use Rattle.petri_atom.specs.Expression.{Tree, all_variables}
use Rattle.petri_atom.specs.Name.{is_same_text}
use Rattle.petri_atom.proofs.Fitting.{all_weaker}
use Rattle.connector_tree.specs.declared.tree.Port.{Port}
use Rattle.plant_model.specs.Plant.{TransferDefinition}
use Rattle.plant_model.specs.Rules.{is_known_port, is_known_export}
use Rattle.plant_model.specs.declared.limits.TheConstants.{MAX_WIRES}
use Rattle.plant_model.specs.declared.wire.Export.{Export}
use Rattle.plant_words.specs.Reading.{first_name, ◌>>=◌, check}
use Rattle.plant_words.specs.declared.line_fault.LineFault.{LineFault}
use Rattle.plant_words.specs.declared.line_kind.WirePart.{WirePart}
use Rattle.plant_words.specs.declared.line_kind.WirePart.TheVariants.{Guard, Transfer}
use Rattle.plant_words.proofs.Positions.{none-passes}
use Rattle.connector_tree.specs.TokenMeaning.{interactions_in}
use Rattle.connector_tree.specs.Tokens.{ports_in}
use Rattle.connector_tree.specs.TokenFaults.{fault_in}
use Rattle.connector_tree.specs.declared.token.Token.{Token}
use Rattle.connector_lines.specs.Tokens.{Reading}
use Rattle.connector_lines.specs.Trees.{tree_in}
use Rattle.connector_lines.proofs.NamedPorts.{tree-sound, ports-pass}
use Rattle.connector_lines.specs.Rows.{guards_with, transfers_with}
use Rattle.connector_lines.proofs.Added.{SoundGuards, SoundTransfers, guards_sound, transfers_sound}
use Rattle.plant_text.specs.Text.{WireText, PlantText}
use Rattle.plant_text.specs.Interactions.{interactions_at, interactions_from, interactions_of, trees_of}
use Rattle.plant_text.specs.Names.{wire_number, port_named}
use Rattle.plant_text.specs.Rows.{told, found_tree, named_in, wire_part_row, has_room, connector_row}
use Rattle.plant_text.specs.declared.fault.Fault.TheVariants.{Twice, Limit}
use Rattle.plant_words.proofs.Steps.{adds_named, led_on, passed, same_end}
use Rattle.plant_text.proofs.SoundLists.{was_none}
use Rattle.plant_text.proofs.SoundAtoms.{Extends, port_known, variables_known, exports_stay, variables_weaker}

-- ---- one connector

-- the tree has no fault; ports and exported variables that it names are there; guards and transfers are within the limits, and
-- targets are all different; and it has no inputs, since no line writes one
pub record SoundWire (atoms : List AtomDefinition) (w : WireText) : Type 0 where
  pub tree : fault_in w.tree ≡ None
  pub ports : list_all (is_known_port atoms) (ports_in w.tree) ≡ true
  pub guards : SoundGuards (is_known_export atoms (ports_in w.tree)) w.guards
  pub transfers : SoundTransfers (is_known_export atoms (ports_in w.tree)) w.transfers
  pub inputs : w.inputs ≡ []

-- the same, and none before it has its name
pub record SoundAfter (atoms : List AtomDefinition) (before : List WireText) (w : WireText) : Type 0 where
  pub name : list_any (λ v. is_same_text v.name w.name) before ≡ false
  pub sound : SoundWire atoms w

-- it stays so with more of the atoms
wire_stays : (atoms next : List AtomDefinition) → Extends atoms next → (w : WireText) → SoundWire atoms w → SoundWire next w
wire_stays atoms next extends w sound =
    let ports : List Port = ports_in w.tree in
    let known : Export → Bool = is_known_export atoms ports in
    let later : Export → Bool = is_known_export next ports in
    let stays : (e : Export) → known e ≡ true → later e ≡ true = exports_stay atoms next extends ports in
    let variables : (e : Tree Export) → all_variables known e ≡ true → all_variables later e ≡ true = variables_weaker known later stays in
    record {
      tree = sound.tree;
      ports = all_weaker (is_known_port atoms) (is_known_port next) extends.ports ports sound.ports;
      guards = record {
        small = sound.guards.small;
        passing = all_weaker (all_variables known) (all_variables later) variables w.guards sound.guards.passing;
      };
      transfers = record {
        small = sound.transfers.small;
        passing = all_weaker (λ t. known t.target && all_variables known t.value) (λ t. later t.target && all_variables later t.value)
            (λ t all. let parts = and_parts (known t.target) (all_variables known t.value) all in and_from _ _ (stays t.target parts.0) (variables t.value parts.1))
            w.transfers sound.transfers.passing;
        once = sound.transfers.once;
      };
      inputs = sound.inputs;
    }

pub stays_after : (atoms next : List AtomDefinition) → Extends atoms next → (before : List WireText) (w : WireText) →
    SoundAfter atoms before w → SoundAfter next before w
stays_after atoms next extends before w sound = record { name = sound.name; sound = wire_stays atoms next extends w sound.sound }

-- ---- a part more

-- a connector with one part more has its name and its tree, and is sound
pub record KeepsWire (atoms : List AtomDefinition) (w changed : WireText) : Type 0 where
  pub name : changed.name ≡ w.name
  pub tree : changed.tree ≡ w.tree
  pub sound : SoundWire atoms changed

pub part_kept : (part : WirePart) (atoms : List AtomDefinition) (words : List (List ℕ)) (w changed : WireText) →
    SoundWire atoms w → wire_part_row part atoms words w ≡ Ok changed → KeepsWire atoms w changed
part_kept Guard atoms words w changed sound is =
    let made : List (Tree Export) → Result WireText LineFault = λ guards. Ok (record w { guards = guards }) in
    let guards = led_on (guards_with (named_in atoms w) words w.guards) made changed is in
    let same : record w { guards = guards.0 } ≡ changed = same_end (record w { guards = guards.0 }) changed guards.2 in
    subst (KeepsWire atoms w) same (record {
      name = refl;
      tree = refl;
      sound = record {
        tree = sound.tree;
        ports = sound.ports;
        guards = guards_sound (is_known_export atoms (ports_in w.tree)) (named_in atoms w) (variables_known atoms (ports_in w.tree)) words w.guards guards.0 sound.guards guards.1;
        transfers = sound.transfers;
        inputs = sound.inputs;
      };
    })
part_kept Transfer atoms words w changed sound is =
    let made : List TransferDefinition → Result WireText LineFault = λ transfers. Ok (record w { transfers = transfers }) in
    let transfers = led_on (transfers_with (named_in atoms w) words w.transfers) made changed is in
    let same : record w { transfers = transfers.0 } ≡ changed = same_end (record w { transfers = transfers.0 }) changed transfers.2 in
    subst (KeepsWire atoms w) same (record {
      name = refl;
      tree = refl;
      sound = record {
        tree = sound.tree;
        ports = sound.ports;
        guards = sound.guards;
        transfers = transfers_sound (is_known_export atoms (ports_in w.tree)) (named_in atoms w) (variables_known atoms (ports_in w.tree)) words w.transfers transfers.0 sound.transfers transfers.1;
        inputs = sound.inputs;
      };
    })

-- ---- a connector more

-- what a line `connector` adds to a plant
pub record AddsWire (plant next : PlantText) : Type 0 where
  pub added : WireText
  pub is : record plant { wires = plant.wires ++ added ∷ [] } ≡ next
  pub room : length plant.wires < MAX_WIRES
  pub has_room : has_room plant.wires added.tree ≡ true
  pub sound : SoundAfter plant.atoms plant.wires added

no_guards : (test : Export → Bool) → SoundGuards test []
no_guards test = record { small = refl; passing = refl }

no_transfers : (test : Export → Bool) → SoundTransfers test []
no_transfers test = record { small = refl; passing = refl; once = refl }

pub tree_found : (read : Reading) (tokens : List Token) → found_tree read ≡ Ok tokens → read ≡ Ok tokens
tree_found (Ok other) tokens is = cc
tree_found (Err fault) tokens is = absurd (cc)

pub connector_added : (words : List (List ℕ)) (plant next : PlantText) → connector_row words plant ≡ Ok next → AddsWire plant next
connector_added words plant next is =
    let line = adds_named (nat_lt (length plant.wires) MAX_WIRES) Limit Twice (told (first_name words)) (λ name. is_none (wire_number plant.wires name)) (found_tree (tree_in (port_named plant.atoms) (drop 1 words)))
    (λ name tree. check (has_room plant.wires tree) Limit >>= λ _. Ok (record plant { wires = plant.wires ++ record { name = name; tree = tree; guards = []; transfers = []; inputs = [] } ∷ [] })) next is in
    let tree = line.value in
    let wire : WireText = record { name = line.name; tree = tree; guards = []; transfers = []; inputs = [] } in
    let room = led_on (check (has_room plant.wires tree) Limit) (λ _. Ok (record plant { wires = plant.wires ++ wire ∷ [] })) next line.gives in
    let read = tree_found (tree_in (port_named plant.atoms) (drop 1 words)) tree line.valued in
    let none = was_none (wire_number plant.wires line.name) line.new in
    record {
      added = wire;
      is = same_end (record plant { wires = plant.wires ++ wire ∷ [] }) next room.2;
      room = ltb-true (length plant.wires) MAX_WIRES line.has_room;
      has_room = passed (has_room plant.wires tree) Limit room.0 room.1;
      sound = record {
        name = none-passes (λ v. is_same_text v.name line.name) plant.wires none;
        sound = record {
          tree = tree-sound (port_named plant.atoms) (drop 1 words) tree read;
          ports = ports-pass (is_known_port plant.atoms) (port_named plant.atoms) (port_known plant.atoms) (drop 1 words) tree read;
          guards = no_guards (is_known_export plant.atoms (ports_in tree));
          transfers = no_transfers (is_known_export plant.atoms (ports_in tree));
          inputs = refl;
        };
      };
    }

-- ---- interactions

-- one tree more has its interactions after the others
more_interactions : (k : ℕ) (trees : List (List Token)) (tree : List Token) →
    length (interactions_from k (trees ++ tree ∷ [])) ≡ length (interactions_from k trees) + length (interactions_in tree)
more_interactions k [] tree =
    let one : length (interactions_at k tree) ≡ length (interactions_in tree) = length-map (interactions_in tree) (λ mask. (k, mask)) in
    let all : length (interactions_at k tree ++ []) ≡ length (interactions_at k tree) + 0 = length-append (interactions_at k tree) [] in
    omega (arith, one, all)
more_interactions k (first ∷ trees) tree =
    let rest = more_interactions (suc k) trees tree in
    let all : length (interactions_at k first ++ interactions_from (suc k) (trees ++ tree ∷ [])) ≡ length (interactions_at k first) + length (interactions_from (suc k) (trees ++ tree ∷ [])) =
    length-append (interactions_at k first) (interactions_from (suc k) (trees ++ tree ∷ [])) in
    let before : length (interactions_at k first ++ interactions_from (suc k) trees) ≡ length (interactions_at k first) + length (interactions_from (suc k) trees) =
    length-append (interactions_at k first) (interactions_from (suc k) trees) in
    omega (arith, rest, all, before)

pub interactions_and_more : (wires : List WireText) (w : WireText) →
    length (interactions_of (wires ++ w ∷ [])) ≡ length (interactions_of wires) + length (interactions_in w.tree)
interactions_and_more wires w =
    ap (λ trees. length (interactions_from 0 trees)) (map-append (λ v. v.tree) wires (w ∷ [])) ∙ more_interactions 0 (trees_of wires) w.tree

-- another last one of the same tree leaves them as they are
pub same_interactions : (front : List WireText) (last changed : WireText) → changed.tree ≡ last.tree →
    interactions_of (front ++ changed ∷ []) ≡ interactions_of (front ++ last ∷ [])
same_interactions front last changed same =
    ap (interactions_from 0)
    (map-append (λ v. v.tree) front (changed ∷ []) ∙ ap (λ tree. trees_of front ++ tree ∷ []) same ∙ sym (map-append (λ v. v.tree) front (last ∷ [])))
