-- Seeking the entries after the one with a number among those of its kind.
use Rattle.std.proofs.Common.{◌≡◌, ◌∙◌, ap, sym, ℕ, zero, suc, ◌+◌, ◌<◌, true, false, cond, List, ◌∷◌, drop, get_or, length}
use Rattle.std.proofs.lemmas.List.{drop_more}
use Rattle.plant_words.specs.declared.line_kind.LineKind.{LineKind}
use Rattle.part_lines.specs.Kind.{is_same_kind}
use Rattle.part_lines.specs.Lookup.{behind}
use Rattle.part_lines.specs.declared.table.PartLine.{PartLine}

-- where the first entry is of another kind, the one with the number is sought after it
after-other : (kind : LineKind) (number : ℕ) (entry : PartLine) (entries : List PartLine) → is_same_kind entry.kind kind ≡ false
    → behind kind number (entry ∷ entries) ≡ behind kind number entries
after-other kind zero entry entries other = ap (λ b. cond b entries (behind kind zero entries)) other
after-other kind (suc number) entry entries other = ap (λ b. cond b (behind kind number entries) (behind kind (suc number) entries)) other

-- the entry at a place of a list is passed, or found
module _ (kind : LineKind) (entries : List PartLine) (i : ℕ) (d : PartLine) (all : List PartLine) (within : i < length entries) (left : ℕ) (before : behind kind left (drop i entries) ≡ all) where
  from-here : behind kind left (get_or entries i d ∷ drop (i + 1) entries) ≡ all
  from-here = sym (ap (behind kind left) (drop_more entries i d within)) ∙ before

  -- it is of another kind
  pub passed-other : is_same_kind (get_or entries i d).kind kind ≡ false → behind kind left (drop (i + 1) entries) ≡ all
  passed-other other = sym (after-other kind left (get_or entries i d) (drop (i + 1) entries) other) ∙ from-here

  -- it is of the kind, and the one that is sought
  pub passed-found : left ≡ 0 → is_same_kind (get_or entries i d).kind kind ≡ true → drop (i + 1) entries ≡ all
  passed-found none same =
      sym (ap (λ b. cond b (drop (i + 1) entries) (behind kind zero (drop (i + 1) entries))) same) ∙ ap (λ n. behind kind n (get_or entries i d ∷ drop (i + 1) entries)) (sym none) ∙ from-here

  -- it is of the kind, and a later one is sought
  pub passed-later : (less : ℕ) → left ≡ suc less → is_same_kind (get_or entries i d).kind kind ≡ true → behind kind less (drop (i + 1) entries) ≡ all
  passed-later less more same =
      sym (ap (λ b. cond b (behind kind less (drop (i + 1) entries)) (behind kind (suc less) (drop (i + 1) entries))) same) ∙ ap (λ n. behind kind n (get_or entries i d ∷ drop (i + 1) entries)) (sym more) ∙ from-here
