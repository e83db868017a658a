-- Widening the bounds of variables by one more value of each.
use Rattle.std.proofs.Common.{◌≡◌, ◌+◌, ◌<◌, ◌≤◌, ◌∙◌, ℕ, ℤ, refl, sym, ap, arith, List, [], ◌∷◌, ◌++◌, length, map, take, drop, get_or, set}
use Rattle.std.proofs.lemmas.List.{append-nil, append_assoc, drop-set-lt, drop_all, drop_more, take_all, take_more_set}
use Rattle.petri_atom.specs.Local.{value_in}
use Rattle.petri_atom.specs.declared.parts.Variable.{Variable}
use Rattle.run_summary.specs.Bounds.{bounds_of, widened, widened_from}
use Rattle.run_summary.specs.Moves.{Moved}
use Rattle.run_summary.specs.Totals.{bounds_from}
use Rattle.run_summary.specs.declared.bounds.Bounds.{Bounds}

-- the bounds with one more move
pub widened-move : (k : ℕ) (vs : List Variable) (m : Moved) (moves : List Moved) → widened_from k (bounds_from k vs moves) m.values ≡ bounds_from k vs (m ∷ moves)
widened-move k [] m moves = refl
widened-move k (v ∷ vs) m moves = ap (λ bs. widened (bounds_of v.first (map (λ n. value_in n.values k) moves)) (value_in m.values k) ∷ bs) (widened-move (k + 1) vs m moves)

-- a variable more is there at first
pub first-more : (k : ℕ) (vs : List Variable) (v : Variable) → bounds_from k (vs ++ v ∷ []) [] ≡ bounds_from k vs [] ++ bounds_of v.first [] ∷ []
first-more k [] v = refl
first-more k (w ∷ ws) v = ap (λ bs. bounds_of w.first [] ∷ bs) (first-more (k + 1) ws v)

-- one more is widened, and those after it are left
pub widened-more : (bs : List Bounds) (i : ℕ) (b : Bounds) (values : List ℤ) (all : List Bounds) → i < length bs → b ≡ widened (get_or bs i b) (value_in values i)
    → take i bs ++ widened_from i (drop i bs) values ≡ all → take (i + 1) (set bs i b) ++ widened_from (i + 1) (drop (i + 1) (set bs i b)) values ≡ all
widened-more bs i b values all within is so_far =
    let later = widened_from (i + 1) (drop (i + 1) bs) values in
    ap (λ front. front ++ widened_from (i + 1) (drop (i + 1) (set bs i b)) values) (take_more_set bs i b within)
    ∙ ap (λ rest. (take i bs ++ b ∷ []) ++ widened_from (i + 1) rest values) (drop-set-lt (i + 1) bs i b (omega arith))
    ∙ append_assoc (take i bs) (b ∷ []) later
    ∙ ap (λ x. take i bs ++ x ∷ later) is
    ∙ ap (λ rest. take i bs ++ widened_from i rest values) (sym (drop_more bs i b within))
    ∙ so_far

-- where none is left, all are
pub widened-all : (bs : List Bounds) (i : ℕ) (values : List ℤ) (all : List Bounds) → length bs ≤ i → take i bs ++ widened_from i (drop i bs) values ≡ all → bs ≡ all
widened-all bs i values all past so_far =
    sym (append-nil bs) ∙ ap (λ front. front ++ []) (sym (take_all i bs past)) ∙ ap (λ rest. take i bs ++ widened_from i rest values) (sym (drop_all i bs past)) ∙ so_far
