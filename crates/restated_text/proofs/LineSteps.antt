-- Lines, restated one after another, write the plant in its states.
use Rattle.std.proofs.Common.{◌≡◌, ◌∙◌, refl, sym, ap, subst, ℕ, zero, suc, ◌+◌, ◌-◌, arith, Bool, true, false, eqb-true, if◌then◌else◌, ◌==◌, List, [], ◌∷◌, ◌++◌, length, drop, Option, Some, None, Result, Ok, Err}
use Rattle.std.specs.Prelude.{slice_get}
use Rattle.std.specs.List.{list_all}
use Rattle.std.specs.Option.{ok_or, option_map_or}
use Rattle.std.proofs.lemmas.Bool.{false≢true}
use Rattle.std.proofs.lemmas.List.{length-append}
use Rattle.petri_atom.specs.Definition.{AtomDefinition}
use Rattle.petri_atom.specs.Local.{Local}
use Rattle.plant_words.specs.Lines.{is_legal_line}
use Rattle.plant_words.specs.LineKinds.{kind_in}
use Rattle.plant_words.specs.Reading.{◌>>=◌, check}
use Rattle.plant_words.specs.Words.{words_of, begins_with, is_comment, is_passed_over}
use Rattle.plant_words.specs.declared.line_fault.LineFault.{LineFault}
use Rattle.plant_words.specs.declared.line_kind.AtomPart.{AtomPart}
use Rattle.plant_words.specs.declared.line_kind.AtomPart.TheVariants as part
use Rattle.plant_words.specs.declared.line_kind.LineKind.{LineKind}
use Rattle.plant_words.specs.declared.line_kind.LineKind.TheVariants.{Atom, Connector, OfAtom, OfConnector, Rule as OfRule}
use Rattle.plant_words.proofs.Steps.{led_on, passed, was_there, same_end}
use Rattle.part_lines.specs.Table.{kind_of_words}
use Rattle.plant_text.specs.Meaning.{on_line, lines_row}
use Rattle.plant_text.specs.Rows.{last_changed, atom_part_row, row_of, words_row, passed_row, line_row}
use Rattle.plant_text.specs.Text.{PlantText}
use Rattle.plant_text.specs.declared.fault.Fault.{Fault}
use Rattle.plant_text.specs.declared.fault.Fault.TheVariants.{NotAscii, UnknownWord}
use Rattle.plant_text.specs.declared.fault.PlantFault.{PlantFault}
use Rattle.restated_text.specs.Counts.{kind_of, after_part, after_kind, after}
use Rattle.restated_text.specs.Plants.{each_numbered, atom_in_state, atom_with, with_first_states, has_ranged_values}
use Rattle.restated_text.specs.Text.{part_line, line_in_state, latest_state, restated_line}
use Rattle.restated_text.specs.declared.counts.Counts.{Counts}
use Rattle.restated_text.proofs.LegalLines.{got_passes}
use Rattle.restated_text.proofs.Numbered.{numbered_and_one}
use Rattle.restated_text.proofs.PartSteps.{go_on, PartRestated, Counted, part_restated, counted_after}
use Rattle.restated_text.proofs.PlantSteps.{ChangedLast, changed_last, changes_last, counts_of, counts_with, counts_at_last, counted_atoms, IsPlain, Same, plain_restated}
use Rattle.restated_text.proofs.TextLines.{line_of_no_kind, restated_lines}

-- the words of a restated line, and what they add to the plant in its states
record Adds (states : List Local) (kind : LineKind) (line keyword : List ℕ) (plant next : PlantText) : Type 0 where
  pub more : List (List ℕ)
  pub are : words_of (restated_line states (counts_of plant) line) ≡ keyword ∷ more
  pub row : row_of kind more (with_first_states states plant) ≡ Ok (with_first_states states next)
  pub counts : after_kind kind (counts_of plant) ≡ counts_of next

kind_is : (line keyword : List ℕ) (words : List (List ℕ)) (kind : LineKind) → words_of line ≡ keyword ∷ words → kind_in keyword ≡ Some kind → kind_of line ≡ Some kind
kind_is line keyword words kind are is = ap kind_of_words are ∙ is

module _ (states : List Local) (fit : list_all has_ranged_values states ≡ true) where
  -- ---- a part of the latest atom

  module _ (p : AtomPart) (line keyword : List ℕ) (words : List (List ℕ)) (are : words_of line ≡ keyword ∷ words) (kind : kind_in keyword ≡ Some (OfAtom p))
      (plant next : PlantText) (atoms : List AtomDefinition) (last : ChangedLast (atom_part_row p words) plant.atoms atoms) (same : record plant { atoms = atoms } ≡ next) where
    abbrev k : ℕ
    k = 0 + length last.front

    counts_are : counts_of plant ≡ counts_with (length last.front + 1) last.last
    counts_are = counts_at_last last.front last.last plant last.before

    counted : Counted (counts_of plant) last.last
    counted = record { places = ap (λ (c : Counts). c.places) counts_are; variables = ap (λ (c : Counts). c.variables) counts_are }

    latest : (counts_of plant).atoms - 1 ≡ k
    latest = let count : (counts_of plant).atoms ≡ length last.front + 1 = ap (λ (c : Counts). c.atoms) counts_are in omega (arith, count)

    line_is : restated_line states (counts_of plant) line ≡ option_map_or (λ s. part_line p s (counts_of plant) line) (slice_get states k) line
    line_is =
        ap (λ (found : Option LineKind). option_map_or (λ s. line_in_state found s (counts_of plant) line) (latest_state states (counts_of plant)) line) (kind_is line keyword words (OfAtom p) are kind) ∙
        ap (λ (n : ℕ). option_map_or (λ s. part_line p s (counts_of plant) line) (slice_get states n) line) latest

    -- the words, and what they make of the atom
    abbrev Changes : Type 0
    Changes = (more : List (List ℕ)) × (words_of (restated_line states (counts_of plant) line) ≡ keyword ∷ more) × (atom_part_row p more (atom_with states k last.last) ≡ Ok (atom_with states k last.changed))

    with_state : (o : Option Local) → slice_get states k ≡ o → (a : AtomDefinition) → atom_with states k a ≡ option_map_or (atom_in_state a) o a
    with_state o is a = ap (λ (found : Option Local). option_map_or (atom_in_state a) found a) is

    changes : (o : Option Local) → slice_get states k ≡ o → Changes
    changes None is = (
      words,
      ap words_of (line_is ∙ ap (λ (found : Option Local). option_map_or (λ s. part_line p s (counts_of plant) line) found line) is) ∙ are,
      ap (atom_part_row p words) (with_state None is last.last) ∙ last.by ∙ ap (λ a. Ok a) (sym (with_state None is last.changed)),
    )
    changes (Some s) is =
        let part = part_restated line keyword words are last.last last.changed s (counts_of plant) counted p (got_passes has_ranged_values states k s fit is) last.by in (
          part.more,
          ap words_of (line_is ∙ ap (λ (found : Option Local). option_map_or (λ s. part_line p s (counts_of plant) line) found line) is) ∙ part.are,
          ap (atom_part_row p part.more) (with_state (Some s) is last.last) ∙ part.adds ∙ ap (λ a. Ok a) (sym (with_state (Some s) is last.changed)),
        )

    counts_next : after_part p (counts_of plant) ≡ counts_of next
    counts_next =
        let behind = counted_after p words last.last last.changed (counts_of plant) counted last.by in
        joined (after_part p (counts_of plant)) last.changed (length last.front + 1) (atoms_stay p (counts_of plant) ∙ ap (λ (c : Counts). c.atoms) counts_are) behind ∙
        sym (counts_at_last last.front last.changed (record plant { atoms = atoms }) last.after) ∙ ap counts_of same
      where
        atoms_stay : (p : AtomPart) (counts : Counts) → (after_part p counts).atoms ≡ counts.atoms
        atoms_stay part.Place counts = refl
        atoms_stay part.Variable counts = refl
        atoms_stay part.Port counts = refl
        atoms_stay part.Transition counts = refl

        joined : (counts : Counts) (a : AtomDefinition) (n : ℕ) → counts.atoms ≡ n → Counted counts a → counts ≡ counts_with n a
        joined counts a n many counted =
            ap (λ (m : ℕ). record { atoms = m; places = counts.places; variables = counts.variables }) many ∙
            ap (λ (m : ℕ). record { atoms = n; places = m; variables = counts.variables }) counted.places ∙
            ap (λ (m : ℕ). record { atoms = n; places = length a.places; variables = m }) counted.variables

    part_adds : Adds states (OfAtom p) line keyword plant next
    part_adds =
        let change = changes (slice_get states k) refl in
        let others : List AtomDefinition = each_numbered (atom_with states) 0 last.front in
        let other : PlantText = with_first_states states plant in
        let before : other.atoms ≡ others ++ atom_with states k last.last ∷ [] = ap (each_numbered (atom_with states) 0) last.before ∙ numbered_and_one (atom_with states) 0 last.front last.last in
        let behind : others ++ atom_with states k last.changed ∷ [] ≡ each_numbered (atom_with states) 0 atoms =
        sym (ap (each_numbered (atom_with states) 0) last.after ∙ numbered_and_one (atom_with states) 0 last.front last.changed) in
        let changed : last_changed (atom_part_row p change.0) other.atoms ≡ Ok (others ++ atom_with states k last.changed ∷ []) =
        ap (last_changed (atom_part_row p change.0)) before ∙ changes_last (atom_part_row p change.0) others (atom_with states k last.last) (atom_with states k last.changed) change.2 in
        record {
          more = change.0;
          are = change.1;
          row = go_on (last_changed (atom_part_row p change.0) other.atoms) (λ l. Ok (record other { atoms = l })) (others ++ atom_with states k last.changed ∷ []) (with_first_states states next) changed
              (ap (λ (l : List AtomDefinition). Ok (record plant { atoms = l })) behind ∙ ap (λ (q : PlantText). Ok (with_first_states states q)) same);
          counts = counts_next;
        }

  -- ---- any line with words

  plain_line : (kind : LineKind) (line keyword : List ℕ) (words : List (List ℕ)) → words_of line ≡ keyword ∷ words → kind_in keyword ≡ Some kind → IsPlain kind →
      (plant next : PlantText) → row_of kind words plant ≡ Ok next → Adds states kind line keyword plant next
  plain_line kind line keyword words are is plain plant next told =
      let row = plain_restated states kind words plant next plain told in
      record {
        more = words;
        are = ap words_of (stays (latest_state states (counts_of plant))) ∙ are;
        row = row.0;
        counts = row.1;
      }
    where
      as_it_was : (kind : LineKind) → IsPlain kind → (s : Local) (counts : Counts) → line_in_state (Some kind) s counts line ≡ line
      as_it_was Atom plain s counts = refl
      as_it_was Connector plain s counts = refl
      as_it_was (OfAtom p) plain s counts = absurd plain
      as_it_was (OfConnector p) plain s counts = refl
      as_it_was (OfRule r) plain s counts = refl

      stays : (o : Option Local) → option_map_or (λ s. line_in_state (kind_of line) s (counts_of plant) line) o line ≡ line
      stays None = refl
      stays (Some s) =
          ap (λ (found : Option LineKind). line_in_state found s (counts_of plant) line) (kind_is line keyword words kind are is) ∙ as_it_was kind plain s (counts_of plant)

  line_adds : (kind : LineKind) (line keyword : List ℕ) (words : List (List ℕ)) → words_of line ≡ keyword ∷ words → kind_in keyword ≡ Some kind →
      (plant next : PlantText) → row_of kind words plant ≡ Ok next → Adds states kind line keyword plant next
  line_adds Atom line keyword words are is plant next told = plain_line Atom line keyword words are is tt plant next told
  line_adds Connector line keyword words are is plant next told = plain_line Connector line keyword words are is tt plant next told
  line_adds (OfAtom p) line keyword words are is plant next told =
      let read = led_on (last_changed (atom_part_row p words) plant.atoms) (λ atoms. Ok (record plant { atoms = atoms })) next told in
      part_adds p line keyword words are is plant next read.0 (changed_last (atom_part_row p words) plant.atoms read.0 read.1) (same_end (record plant { atoms = read.0 }) next read.2)
  line_adds (OfConnector p) line keyword words are is plant next told = plain_line (OfConnector p) line keyword words are is tt plant next told
  line_adds (OfRule r) line keyword words are is plant next told = plain_line (OfRule r) line keyword words are is tt plant next told

  -- ---- a line

  -- a line adds to the plant in its states what it adds to the plant, and the counts after it are those of the plant that it came to
  record Restated (line : List ℕ) (plant next : PlantText) : Type 0 where
    pub row : line_row (restated_line states (counts_of plant) line) (with_first_states states plant) ≡ Ok (with_first_states states next)
    pub counts : after (kind_of line) (counts_of plant) ≡ counts_of next

  -- a line with words that is no comment
  row_by_words : (line keyword : List ℕ) (words : List (List ℕ)) (kind : LineKind) (plant next : PlantText) → words_of line ≡ keyword ∷ words → begins_with 35 keyword ≡ false →
      is_legal_line keyword ≡ true → kind_in keyword ≡ Some kind → row_of kind words plant ≡ Ok next → line_row line plant ≡ Ok next
  row_by_words line keyword words kind plant next are plain legal is row =
      ap (λ (b : Bool). if b then passed_row line plant else words_row (words_of line) plant) (ap is_comment are ∙ plain) ∙
      ap (λ (ws : List (List ℕ)). words_row ws plant) are ∙
      go_on (check (is_legal_line keyword) NotAscii) (λ _. ok_or (kind_in keyword) UnknownWord >>= λ found. row_of found words plant) tt next (ap (λ (b : Bool). check b NotAscii) legal)
      (go_on (ok_or (kind_in keyword) UnknownWord) (λ found. row_of found words plant) kind next (ap (λ (o : Option LineKind). ok_or o UnknownWord) is) row)

  comment_has_no_kind : (word : List ℕ) → begins_with 35 word ≡ true → kind_in word ≡ None
  comment_has_no_kind [] begins = absurd (false≢true begins)
  comment_has_no_kind (byte ∷ bytes) begins = ap (λ (b : ℕ). kind_in (b ∷ bytes)) (eqb-true byte 35 begins)

  no_kind : (words : List (List ℕ)) → is_comment words ≡ true → kind_of_words words ≡ None
  no_kind [] over = refl
  no_kind (word ∷ words) over = comment_has_no_kind word over

  passed_line : (line : List ℕ) (plant next : PlantText) → is_passed_over line ≡ true → passed_row line plant ≡ Ok next → Restated line plant next
  passed_line line plant next over told =
      let legal = led_on (check (is_legal_line line) NotAscii) (λ _. Ok plant) next told in
      let same : plant ≡ next = same_end plant next legal.2 in
      let none : kind_of line ≡ None = no_kind (words_of line) over in
      let other : PlantText = with_first_states states plant in
      let row : line_row line other ≡ Ok (with_first_states states next) =
      ap (λ (b : Bool). if b then passed_row line other else words_row (words_of line) other) over ∙
      go_on (check (is_legal_line line) NotAscii) (λ _. Ok other) legal.0 (with_first_states states next) legal.1 (ap (λ (q : PlantText). Ok (with_first_states states q)) same) in
      record {
        row = ap (λ (l : List ℕ). line_row l other) (line_of_no_kind states (counts_of plant) line none) ∙ row;
        counts = ap (λ (found : Option LineKind). after found (counts_of plant)) none ∙ ap counts_of same;
      }

  words_line : (line : List ℕ) (plant next : PlantText) → is_passed_over line ≡ false → (words : List (List ℕ)) → words_of line ≡ words → words_row words plant ≡ Ok next → Restated line plant next
  words_line line plant next over [] are told = absurd (false≢true (sym over ∙ ap is_comment are))
  words_line line plant next over (keyword ∷ words) are told =
      let legal = led_on (check (is_legal_line keyword) NotAscii) (λ _. ok_or (kind_in keyword) UnknownWord >>= λ kind. row_of kind words plant) next told in
      let kind = led_on (ok_or (kind_in keyword) UnknownWord) (λ kind. row_of kind words plant) next legal.2 in
      let is : kind_in keyword ≡ Some kind.0 = was_there (kind_in keyword) UnknownWord kind.0 kind.1 in
      let adds = line_adds kind.0 line keyword words are is plant next kind.2 in
      record {
        row = row_by_words (restated_line states (counts_of plant) line) keyword adds.more kind.0 (with_first_states states plant) (with_first_states states next) adds.are
            (sym (ap is_comment are) ∙ over) (passed (is_legal_line keyword) NotAscii legal.0 legal.1) is adds.row;
        counts = ap (λ (found : Option LineKind). after found (counts_of plant)) (kind_is line keyword words kind.0 are is) ∙ adds.counts;
      }

  line_restated : (line : List ℕ) (plant next : PlantText) → line_row line plant ≡ Ok next → Restated line plant next
  line_restated line plant next told = by (is_passed_over line) refl told
    where
      by : (b : Bool) → is_passed_over line ≡ b → (if b then passed_row line plant else words_row (words_of line) plant) ≡ Ok next → Restated line plant next
      by true over told = passed_line line plant next over told
      by false over told = words_line line plant next over (words_of line) refl told

  -- ---- lines

  found_on_line : {A : Type 0} (number : ℕ) (r : Result A Fault) (x : A) → on_line number r ≡ Ok x → r ≡ Ok x
  found_on_line number (Ok y) x is = cc
  found_on_line number (Err fault) x is = absurd (cc)

  pub lines_in_states : (number : ℕ) (lines : List (List ℕ)) (plant next : PlantText) → lines_row number lines plant ≡ Ok next →
      lines_row number (restated_lines states (counts_of plant) lines) (with_first_states states plant) ≡ Ok (with_first_states states next)
  lines_in_states number [] plant next told = ap (λ (q : PlantText). Ok (with_first_states states q)) (same_end plant next told)
  lines_in_states number (line ∷ lines) plant next told =
      let first = led_on (on_line number (line_row line plant)) (λ q. lines_row (number + 1) lines q) next told in
      let restated = line_restated line plant first.0 (found_on_line number (line_row line plant) first.0 first.1) in
      let behind : List (List ℕ) = restated_lines states (after (kind_of line) (counts_of plant)) lines in
      go_on (on_line number (line_row (restated_line states (counts_of plant) line) (with_first_states states plant))) (λ q. lines_row (number + 1) behind q) (with_first_states states first.0) (with_first_states states next)
      (ap (on_line number) restated.row)
      (ap (λ (c : Counts). lines_row (number + 1) (restated_lines states c lines) (with_first_states states first.0)) restated.counts ∙ lines_in_states (number + 1) lines first.0 next first.2)
