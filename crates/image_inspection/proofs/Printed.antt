-- The parts of an inspection, printed one after another, are its text, and what it comes to is its verdict.
use Rattle.std.proofs.Common.{◌≡◌, ◌∙◌, ◌||◌, ap, ℕ, nat_lt, Bool, List, ◌++◌, Option}
use Rattle.std.specs.Prelude.{flat_map}
use Rattle.std.specs.List.{list_any, range_with_len}
use Rattle.std.specs.Io.KnownBytes.{Appends, Keeps}
use Rattle.std.proofs.KnownBytes.{Appends-kept, Appends-trans}
use Rattle.disk_model.specs.Cells.{Cell}
use Rattle.gated_journal.specs.Bases.{base_of}
use Rattle.record_codec.specs.Fired.{FiredFields}
use Rattle.record_codec.specs.Identity.{IdentityFields}
use Rattle.plant_model.specs.declared.system.System.{System}
use Rattle.trimmer.specs.Covered.{MarkFields}
use Rattle.trimmer.specs.declared.saved.SavedAt.{SavedAt}
use Rattle.plant_image.specs.Contents.{Contents, contents_of, identity_held, last_number}
use Rattle.plant_image.specs.declared.fault.ImageFault.{ImageFault}
use Rattle.image_inspection.specs.Holding.{missing}
use Rattle.image_inspection.specs.Inspected.{atoms_told, marks_in_contents, names_told, saved_in_contents}
use Rattle.image_inspection.specs.Lines.{answer_line, atom_line, base_line, contents_text, held_line, image_line, inspection_text, missing_line}
use Rattle.image_inspection.specs.Listing.{records_text, slots_text}
use Rattle.image_inspection.specs.Open.{ahead_of, is_doubted, open_line}
use Rattle.image_inspection.specs.Verdicts.{fault_told, is_doubtful, verdict_on}
use Rattle.image_inspection.specs.declared.shown.Shown.{Shown}
use Rattle.image_inspection.specs.declared.verdict.Verdict.{Verdict}

module _ (shown : Shown) (names : Option System) (atoms : ℕ) (cells : List Cell) (c : Contents) where
  -- the lines of the contents by what is told of the saved states and of the records
  abbrev lines : List SavedAt → List MarkFields → List FiredFields → ℕ → List ℕ
  lines saved marks records count =
      flat_map (atom_line names cells saved marks) (range_with_len 0 atoms) ++ held_line names atoms saved marks ++ records_text shown.records names records ++
      slots_text shown.states names cells atoms ++ flat_map (open_line cells atoms c) (ahead_of c) ++ missing_line count

  -- they are those of the contents
  pub lines-are : (saved : List SavedAt) (marks : List MarkFields) (records : List FiredFields) (count : ℕ) → saved ≡ saved_in_contents c → marks ≡ marks_in_contents c → records ≡ c.records
      → count ≡ missing (last_number c) saved marks atoms → lines saved marks records count ≡ contents_text shown names atoms cells c
  lines-are saved marks records count of_saved of_marks of_records of_count =
      ap (λ (n : ℕ). lines saved marks records n) of_count
      ∙ ap (λ (r : List FiredFields). lines saved marks r (missing (last_number c) saved marks atoms)) of_records
      ∙ ap (λ (m : List MarkFields). lines saved m c.records (missing (last_number c) saved m atoms)) of_marks
      ∙ ap (λ (s : List SavedAt). lines s (marks_in_contents c) c.records (missing (last_number c) s (marks_in_contents c) atoms)) of_saved

  -- and there is a doubt if some interactions are missing, or a full cell past the end is a doubt
  pub doubtful-is : (saved : List SavedAt) (marks : List MarkFields) (count : ℕ) (doubted : Bool) → saved ≡ saved_in_contents c → marks ≡ marks_in_contents c
      → count ≡ missing (last_number c) saved marks atoms → doubted ≡ list_any (is_doubted cells atoms c) (ahead_of c) → (nat_lt 0 count || doubted) ≡ is_doubtful atoms cells c
  doubtful-is saved marks count doubted of_saved of_marks of_count of_doubted =
      ap (λ (d : Bool). nat_lt 0 count || d) of_doubted
      ∙ ap (λ (n : ℕ). nat_lt 0 n || list_any (is_doubted cells atoms c) (ahead_of c))
      (of_count ∙ ap (λ (m : List MarkFields). missing (last_number c) saved m atoms) of_marks ∙ ap (λ (s : List SavedAt). missing (last_number c) s (marks_in_contents c) atoms) of_saved)

  -- the lines are printed
  pub lines-printed : (saved : List SavedAt) (marks : List MarkFields) (records : List FiredFields) (count : ℕ) (old a b d e f new : Option (List ℕ))
      → Appends old a (flat_map (atom_line names cells saved marks) (range_with_len 0 atoms)) → Appends a b (held_line names atoms saved marks)
      → Appends b d (records_text shown.records names records) → Appends d e (slots_text shown.states names cells atoms)
      → Appends e f (flat_map (open_line cells atoms c) (ahead_of c)) → Appends f new (missing_line count) → Appends old new (lines saved marks records count)
  lines-printed saved marks records count old a b d e f new first second third fourth fifth sixth =
      Appends-trans old f new _ _ (Appends-trans old e f _ _ (Appends-trans old d e _ _ (Appends-trans old b d _ _ (Appends-trans old a b _ _ first second) third) fourth) fifth) sixth

module _ (shown : Shown) (plant : Option System) (bytes : ℕ) (cells : List Cell) where
  -- the text by what is known of an image
  abbrev text : Option IdentityFields → ℕ → Option System → Option ℕ → Contents → Option ImageFault → List ℕ
  text identity atoms names base held fault = image_line identity bytes ++ base_line base held ++ contents_text shown names atoms cells held ++ answer_line plant names atoms held fault

  -- the parts are printed
  pub all-printed : (identity : Option IdentityFields) (atoms : ℕ) (names : Option System) (base : Option ℕ) (held : Contents) (fault : Option ImageFault) (old a b d e new : Option (List ℕ))
      → Appends old a (image_line identity bytes) → Appends a b (base_line base held) → Appends b d (contents_text shown names atoms cells held) → Appends d e (answer_line plant names atoms held fault)
      → Keeps e new → Appends old new (text identity atoms names base held fault)
  all-printed identity atoms names base held fault old a b d e new first second third fourth kept =
      Appends-kept old e new _ (Appends-trans old d e _ _ (Appends-trans old b d _ _ (Appends-trans old a b _ _ first second) third) fourth) kept

  -- what is known is what the cells say
  pub text-is : (identity : Option IdentityFields) (atoms : ℕ) (names : Option System) (base : Option ℕ) (held : Contents) (fault : Option ImageFault)
      → identity ≡ identity_held cells → atoms ≡ atoms_told plant identity → names ≡ names_told plant identity → base ≡ base_of cells → held ≡ contents_of atoms cells → fault ≡ fault_told plant bytes cells
      → text identity atoms names base held fault ≡ inspection_text shown plant bytes cells
  text-is identity atoms names base held fault of_identity of_atoms of_names of_base of_held of_fault =
      ap (λ (f : Option ImageFault). text identity atoms names base held f) of_fault
      ∙ ap (λ (c : Contents). text identity atoms names base c (fault_told plant bytes cells)) of_held
      ∙ ap (λ (b : Option ℕ). text identity atoms names b (contents_of atoms cells) (fault_told plant bytes cells)) of_base
      ∙ ap (λ (s : Option System). text identity atoms s (base_of cells) (contents_of atoms cells) (fault_told plant bytes cells)) of_names
      ∙ ap (λ (n : ℕ). text identity n (names_told plant identity) (base_of cells) (contents_of n cells) (fault_told plant bytes cells)) of_atoms
      ∙ ap (λ (i : Option IdentityFields). text i (atoms_told plant i) (names_told plant i) (base_of cells) (contents_of (atoms_told plant i) cells) (fault_told plant bytes cells)) of_identity

  -- and so is the verdict
  pub verdict-is : (atoms : ℕ) (held : Contents) (fault : Option ImageFault) (doubtful : Bool)
      → atoms ≡ atoms_told plant (identity_held cells) → held ≡ contents_of atoms cells → fault ≡ fault_told plant bytes cells → doubtful ≡ is_doubtful atoms cells held
      → record { fault = fault; doubtful = doubtful } ≡ verdict_on plant bytes cells
  verdict-is atoms held fault doubtful of_atoms of_held of_fault of_doubt =
      let verdict : Option ImageFault → Bool → Verdict = λ f d. record { fault = f; doubtful = d } in
      ap (λ (f : Option ImageFault). verdict f doubtful) of_fault
      ∙ ap (verdict (fault_told plant bytes cells)) (of_doubt ∙ ap (is_doubtful atoms cells) of_held ∙ ap (λ (n : ℕ). is_doubtful n cells (contents_of n cells)) of_atoms)
