-- A text is restated part by part.
use Rattle.std.proofs.Common.{◌≡◌, ◌∙◌, refl, sym, ap, ℕ, suc, ◌+◌, ◌-◌, ◌<◌, ◌≤◌, arith, not, List, [], ◌∷◌, ◌++◌, append_assoc, length, take, drop, Option, Some, None}
use Rattle.std.specs.List.{position_or_len, slice_split}
use Rattle.std.proofs.Math.Seq.{take-length}
use Rattle.std.proofs.lemmas.List.{length-drop, drop-drop}
use Rattle.std.proofs.lemmas.List.Splits.{slice_split_first, length-slice_split}
use Rattle.petri_atom.specs.Local.{Local}
use Rattle.plant_words.specs.declared.line_kind.AtomPart.TheVariants as part
use Rattle.plant_words.specs.declared.line_kind.LineKind.{LineKind}
use Rattle.plant_words.specs.declared.line_kind.LineKind.TheVariants.{Atom, Connector, OfAtom, OfConnector, Rule}
use Rattle.plant_words.proofs.Cuts.{prefix_len-le, uncut}
use Rattle.std.specs.Str.Lines.{strip_carriage_return}
use Rattle.restated_text.specs.Counts.{AreWithin, kind_of, no_parts, after}
use Rattle.restated_text.specs.Text.{is_line_feed, restated_part, after_part_of_text, restated_parts, restated_text}
use Rattle.restated_text.specs.declared.counts.Counts.{Counts}

-- ---- a text, cut at its first line feed

pub cut_first : (text part behind : List ℕ) (n : ℕ) → n ≡ position_or_len is_line_feed text → part ≡ take n text → behind ≡ drop n text → 1 ≤ length behind →
    slice_split is_line_feed text ≡ part ∷ slice_split is_line_feed (drop 1 behind)
cut_first text part behind n value front back some =
    let m : ℕ = position_or_len is_line_feed text in
    let within : m < length text = omega (arith, value, some, ap length back, length-drop n text) in
    let one : n + 1 ≡ m + 1 = omega (arith, value) in
    let first : part ≡ take m text = front ∙ ap (λ (k : ℕ). take k text) value in
    let rest : drop 1 behind ≡ drop (m + 1) text = ap (drop 1) back ∙ drop-drop 1 n text ∙ ap (λ (k : ℕ). drop k text) one in
    slice_split_first is_line_feed text 0 within ∙ sym (ap (λ (l : List ℕ). l ∷ slice_split is_line_feed (drop (m + 1) text)) first) ∙ sym (ap (λ (l : List ℕ). part ∷ slice_split is_line_feed l) rest)

pub cut_nowhere : (text behind : List ℕ) (n : ℕ) → n ≡ position_or_len is_line_feed text → behind ≡ drop n text → length behind < 1 → slice_split is_line_feed text ≡ text ∷ []
cut_nowhere text behind n value back none =
    let short = prefix_len-le (λ byte. not (is_line_feed byte)) text in
    uncut is_line_feed text (omega (arith, value, short, none, ap length back, length-drop n text))

-- ---- counts

grown : (bound : ℕ) (kind : Option LineKind) (counts : Counts) → AreWithin counts bound → AreWithin (after kind counts) (bound + 1)
grown bound None counts within = record { atoms = omega (arith, within.atoms); places = omega (arith, within.places); variables = omega (arith, within.variables) }
grown bound (Some Atom) counts within = record { atoms = omega (arith, within.atoms); places = omega arith; variables = omega arith }
grown bound (Some Connector) counts within = record { atoms = omega (arith, within.atoms); places = omega (arith, within.places); variables = omega (arith, within.variables) }
grown bound (Some (OfAtom part.Place)) counts within = record { atoms = omega (arith, within.atoms); places = omega (arith, within.places); variables = omega (arith, within.variables) }
grown bound (Some (OfAtom part.Variable)) counts within = record { atoms = omega (arith, within.atoms); places = omega (arith, within.places); variables = omega (arith, within.variables) }
grown bound (Some (OfAtom part.Port)) counts within = record { atoms = omega (arith, within.atoms); places = omega (arith, within.places); variables = omega (arith, within.variables) }
grown bound (Some (OfAtom part.Transition)) counts within = record { atoms = omega (arith, within.atoms); places = omega (arith, within.places); variables = omega (arith, within.variables) }
grown bound (Some (OfConnector p)) counts within = record { atoms = omega (arith, within.atoms); places = omega (arith, within.places); variables = omega (arith, within.variables) }
grown bound (Some (Rule r)) counts within = record { atoms = omega (arith, within.atoms); places = omega (arith, within.places); variables = omega (arith, within.variables) }

pub wider : (low high : ℕ) (counts : Counts) → low ≤ high → AreWithin counts low → AreWithin counts high
wider low high counts less within = record { atoms = omega (arith, less, within.atoms); places = omega (arith, less, within.places); variables = omega (arith, less, within.variables) }

-- ---- the text so far

-- what is restated so far, and what the rest of the text comes to, are the whole; and the counts are no more than the bytes so far
pub record Restating (states : List Local) (text restated : List ℕ) (counts : Counts) (rest : List ℕ) : Type 0 where
  pub is : restated ++ restated_parts states counts (slice_split is_line_feed rest) ≡ restated_text states text
  pub shorter : length rest ≤ length text
  pub within : AreWithin counts (length text - length rest)

pub at_first : (states : List Local) (text : List ℕ) → Restating states text [] no_parts text
at_first states text = record { is = refl; shorter = omega arith; within = record { atoms = omega arith; places = omega arith; variables = omega arith } }

more_parts : (states : List Local) (counts : Counts) (part : List ℕ) (parts : List (List ℕ)) → 0 < length parts →
    restated_parts states counts (part ∷ parts) ≡ restated_part states counts part ++ 10 ∷ restated_parts states (after_part_of_text counts part) parts
more_parts states counts part [] some = absurd (omega (arith, some))
more_parts states counts part (next ∷ more) some = refl

pub one_more : (states : List Local) (text restated : List ℕ) (counts : Counts) (rest part behind : List ℕ) → Restating states text restated counts rest →
    slice_split is_line_feed rest ≡ part ∷ slice_split is_line_feed behind → length behind < length rest →
    Restating states text ((restated ++ restated_part states counts part) ++ 10 ∷ []) (after_part_of_text counts part) behind
one_more states text restated counts rest part behind so_far cut less =
    let line : List ℕ = restated_part states counts part in
    let later : List ℕ = restated_parts states (after_part_of_text counts part) (slice_split is_line_feed behind) in
    let next : restated_parts states counts (slice_split is_line_feed rest) ≡ line ++ 10 ∷ later =
    ap (restated_parts states counts) cut ∙ more_parts states counts part (slice_split is_line_feed behind) (omega (arith, length-slice_split is_line_feed behind)) in
    record {
      is =
          append_assoc (restated ++ line) (10 ∷ []) later ∙ append_assoc restated line (10 ∷ later) ∙
          sym (ap (λ (l : List ℕ). restated ++ l) next) ∙ so_far.is;
      shorter = omega (arith, so_far.shorter, less);
      within = wider (length text - length rest + 1) (length text - length behind) (after_part_of_text counts part) (omega (arith, so_far.shorter, less))
          (grown (length text - length rest) (kind_of (strip_carriage_return part)) counts so_far.within);
    }

pub at_last : (states : List Local) (text restated : List ℕ) (counts : Counts) (rest : List ℕ) → Restating states text restated counts rest →
    slice_split is_line_feed rest ≡ rest ∷ [] → restated ++ restated_part states counts rest ≡ restated_text states text
at_last states text restated counts rest so_far cut = sym (ap (λ (parts : List (List ℕ)). restated ++ restated_parts states counts parts) cut) ∙ so_far.is
