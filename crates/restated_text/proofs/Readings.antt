-- What lines of ports and of transitions say of an atom is what they say of it in any first state.
use Rattle.std.proofs.Common.{◌≡◌, ◌∙◌, refl, sym, ap, ℕ, zero, suc, Bool, true, false, not, if◌then◌else◌, pos, List, [], ◌∷◌, ◌++◌, length, drop, codes, Option, Result, Ok, Err}
use Rattle.std.specs.Prelude.{nat_lt, nat_eq}
use Rattle.std.specs.List.{list_any}
use Rattle.std.specs.Option.{ok_or}
use std.Path.{fun_ext}
use Rattle.petri_atom.specs.Definition.{AtomDefinition, TransitionDefinition, UpdateDefinition}
use Rattle.petri_atom.specs.Expression.{Tree, number}
use Rattle.petri_atom.specs.Local.{Local}
use Rattle.petri_atom.specs.declared.state.TheConstants.{MAX_EXPORTS}
use Rattle.petri_atom.specs.declared.parts.TheConstants.{MAX_UPDATES}
use Rattle.plant_words.specs.Expressions.{expression_in}
use Rattle.plant_words.specs.Lines.{is_legal_line}
use Rattle.plant_words.specs.Reading.{◌>>=◌, check, first_word, first_keyword, leads, on_line}
use Rattle.plant_words.specs.declared.line_fault.LineFault.{LineFault}
use Rattle.plant_words.specs.declared.line_fault.LineFault.TheVariants.{NotAscii, Twice, UnknownName, Shape, Limit}
use Rattle.atom_lines.specs.Lookup.{place_number, variable_number}
use Rattle.atom_lines.specs.Reading.{goes_on}
use Rattle.atom_lines.specs.Rows.{export_in, exports_in}
use Rattle.atom_lines.specs.Transitions.{ends_places, port_in, place_in, places_in, places_after, expression_on, guard_in, update_in, updates_from, updates_in, transition_in}
use Rattle.restated_text.specs.Plants.{atom_in_state}
use Rattle.restated_text.proofs.Lookups.{same_places, same_variables}

module _ (a : AtomDefinition) (s : Local) where
  abbrev other : AtomDefinition
  other = atom_in_state a s

  -- ---- ports

  one_export : (before word : List ℕ) → export_in other before word ≡ export_in a before word
  one_export before word =
      ap (λ (g : List ℕ → Option ℕ). check (nat_lt (length before) MAX_EXPORTS) Limit >>= λ _. check (is_legal_line word) NotAscii >>= λ _.
      ok_or (g word) UnknownName >>= λ n. check (not (list_any (λ k. nat_eq k n) before)) Twice >>= λ _. Ok n) (same_variables a s)

  pub exports_alike : (before : List ℕ) (words : List (List ℕ)) → exports_in other before words ≡ exports_in a before words
  exports_alike before [] = refl
  exports_alike before (word ∷ words) =
      ap (λ (r : Result ℕ LineFault). r >>= λ n. exports_in other (before ++ n ∷ []) words) (one_export before word) ∙
      ap (λ (next : ℕ → Result (List ℕ) LineFault). export_in a before word >>= next) (fun_ext (λ n. exports_alike (before ++ n ∷ []) words))

  -- ---- places of a transition

  abbrev Listed : Type 0
  Listed = Result (List ℕ × List (List ℕ)) LineFault

  one_place : (before word : List ℕ) → place_in other before word ≡ place_in a before word
  one_place before word =
      ap (λ (g : List ℕ → Option ℕ). check (is_legal_line word) NotAscii >>= λ _. ok_or (g word) UnknownName >>= λ place.
      check (not (list_any (λ k. nat_eq k place) before)) Twice >>= λ _. Ok place) (same_places a s)

  places_alike : (before : List ℕ) (words : List (List ℕ)) → places_in other before words ≡ places_in a before words
  places_alike before [] = refl
  places_alike before (word ∷ words) =
      ap (λ (r : Listed). if ends_places (word ∷ words) then Ok (before, word ∷ words) else r)
      (ap (λ (r : Result ℕ LineFault). r >>= λ place. places_in other (before ++ place ∷ []) words) (one_place before word) ∙
      ap (λ (next : ℕ → Listed). place_in a before word >>= next) (fun_ext (λ place. places_alike (before ++ place ∷ []) words)))

  list_alike : (keyword : List ℕ) → places_after keyword other ≡ places_after keyword a
  list_alike keyword =
      ap (λ (g : List (List ℕ) → Listed). λ (words : List (List ℕ)). first_keyword keyword words >>= λ _. g (drop 1 words) >>= λ listed.
      check (nat_lt 0 (length listed.0)) Shape >>= λ _. Ok listed) (fun_ext (λ words. places_alike [] words))

  -- ---- expressions of a transition

  abbrev Expressed : Type 0
  Expressed = Result (Tree ℕ × List (List ℕ)) LineFault

  expression_alike : expression_on other ≡ expression_on a
  expression_alike = ap (λ (g : List ℕ → Option ℕ). λ (words : List (List ℕ)). on_line (expression_in g words)) (same_variables a s)

  guard_alike : guard_in other ≡ guard_in a
  guard_alike =
      ap (λ (g : List (List ℕ) → Expressed). λ (words : List (List ℕ)). if leads (codes "when") words then g (drop 1 words) else Ok (number (pos 1), words)) expression_alike

  abbrev one_update : (List ℕ → Option ℕ) → (List (List ℕ) → Expressed) → List (List ℕ) → Result (UpdateDefinition × List (List ℕ)) LineFault
  one_update g e words =
      first_word words >>= λ word. ok_or (g word) UnknownName >>= λ variable. first_keyword (codes ":=") (drop 1 words) >>= λ _.
      e (drop 1 (drop 1 words)) >>= λ value. Ok (record { variable = variable; value = value.0 }, value.1)

  update_alike : (words : List (List ℕ)) → update_in other words ≡ update_in a words
  update_alike words =
      ap (λ (g : List ℕ → Option ℕ). one_update g (expression_on other) words) (same_variables a s) ∙
      ap (λ (e : List (List ℕ) → Expressed). one_update (variable_number a) e words) expression_alike

  updates_alike : (left : ℕ) (before : List UpdateDefinition) (more : Bool) (words : List (List ℕ)) → updates_from other left before more words ≡ updates_from a left before more words
  unfolding updates_from
  updates_alike left before false words = refl
  updates_alike zero before true words = refl
  updates_alike (suc left) before true words =
      ap (λ (r : Result (UpdateDefinition × List (List ℕ)) LineFault). r >>= λ update. goes_on (codes ";") update.1 >>= λ more.
      updates_from other left (before ++ update.0 ∷ []) more (drop 1 update.1)) (update_alike words) ∙
      ap (λ (next : UpdateDefinition × List (List ℕ) → Result (List UpdateDefinition) LineFault). update_in a words >>= next)
      (fun_ext (λ update. ap (λ (next : Bool → Result (List UpdateDefinition) LineFault). goes_on (codes ";") update.1 >>= next)
      (fun_ext (λ more. updates_alike left (before ++ update.0 ∷ []) more (drop 1 update.1)))))

  all_updates_alike : updates_in other ≡ updates_in a
  all_updates_alike =
      fun_ext (λ words. ap (λ (next : Bool → Result (List UpdateDefinition) LineFault). goes_on (codes "do") words >>= next)
      (fun_ext (λ more. updates_alike MAX_UPDATES [] more (drop 1 words))))

  -- ---- the transition

  abbrev read_by : (List (List ℕ) → Listed) → (List (List ℕ) → Listed) → (List (List ℕ) → Expressed) → (List (List ℕ) → Result (List UpdateDefinition) LineFault) →
      List (List ℕ) → Result TransitionDefinition LineFault
  read_by from to guard updates words =
      port_in a words >>= λ port. from (drop 1 words) >>= λ sources. to sources.1 >>= λ targets. guard targets.1 >>= λ g. updates g.1 >>= λ us.
      Ok (record { port = port; sources = sources.0; targets = targets.0; guard = g.0; updates = us })

  pub transition_alike : (words : List (List ℕ)) → transition_in other words ≡ transition_in a words
  transition_alike words =
      ap (λ (f : List (List ℕ) → Listed). read_by f (places_after (codes "to") other) (guard_in other) (updates_in other) words) (list_alike (codes "from")) ∙
      ap (λ (f : List (List ℕ) → Listed). read_by (places_after (codes "from") a) f (guard_in other) (updates_in other) words) (list_alike (codes "to")) ∙
      ap (λ (f : List (List ℕ) → Expressed). read_by (places_after (codes "from") a) (places_after (codes "to") a) f (updates_in other) words) guard_alike ∙
      ap (λ (f : List (List ℕ) → Result (List UpdateDefinition) LineFault). read_by (places_after (codes "from") a) (places_after (codes "to") a) (guard_in a) f words) all_updates_alike
