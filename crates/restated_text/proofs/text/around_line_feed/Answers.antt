use Rattle.std.proofs.Common.{◌≡◌, ◌∙◌, sym, ap, ℕ, ◌-◌, List, ◌∷◌, length, take, drop}
use Rattle.std.specs.List.{slice_split}
use Rattle.std.proofs.Math.Seq.{take-length}
use Rattle.std.proofs.lemmas.List.{length-drop}
use Rattle.restated_text.specs.Text.{is_line_feed}
use Rattle.restated_text.proofs.Restating.{cut_first, cut_nowhere}
use Rattle.restated_text.proofs.text.around_line_feed.Goals as goal

-- what stands behind the first element
rest_is : (xs : List ℕ) → take (length xs - 1) (drop 1 xs) ≡ drop 1 xs
rest_is xs = sym (ap (λ (k : ℕ). take k (drop 1 xs)) (length-drop 1 xs)) ∙ take-length (drop 1 xs)

pub returns-in-empty-clause-parts : goal.returns-in-empty-clause-parts
returns-in-empty-clause-parts c = cut_nowhere c.args.text.now c.split_at.result.1.now c.line_len.result c.line_len.ensures.value c.split_at.ensures.back c.in-empty.len_below

pub returns-in-len1-up-clause-parts : goal.returns-in-len1-up-clause-parts
returns-in-len1-up-clause-parts c =
    cut_first c.args.text.now c.split_at.result.0.now c.split_at.result.1.now c.line_len.result c.line_len.ensures.value c.split_at.ensures.front c.split_at.ensures.back c.in-len1-up.len_at_least ∙
    sym (ap (λ (l : List ℕ). c.split_at.result.0.now ∷ slice_split is_line_feed l) (rest_is c.split_at.result.1.now))
