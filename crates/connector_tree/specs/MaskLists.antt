-- The masks of a part of a tree, and how those of a bracket are made of those of its children.
use Rattle.std.specs.Prelude.{ℕ, ◌+◌, ◌*◌, ◌^◌, ◌==◌, Bool, false, ◌||◌, not, if◌then◌else◌, List, [], ◌∷◌, ◌++◌, map, filter}
use Rattle.std.specs.List.{range_with_len, flat_map}
use Rattle.connector_tree.specs.declared.walk.Candidate.{Candidate}
use Rattle.connector_tree.specs.Masks.{is_set}
use Rattle.connector_tree.specs.Walk.{Seen}

-- the masks over the part's leaves, in rising order, that the walk takes
abbrev pub masks_seen : Seen → List ℕ
masks_seen part = filter (λ mask. part.takes (is_set mask) 0) (range_with_len 0 (2 ^ part.count))

-- each mask as a candidate, and whether it leads
abbrev pub tagged : (ℕ → Bool) → List ℕ → List Candidate
tagged leads masks = map (λ mask. record { mask = mask; leads = leads mask }) masks

-- the candidate of no leaf, unless the masks begin with that of none
abbrev pub none_before : List ℕ → List Candidate
none_before [] = record { mask = 0; leads = false } ∷ []
none_before (mask ∷ masks) = if mask == 0 then [] else record { mask = 0; leads = false } ∷ []

-- the candidates of a child with these masks, which is a trigger or is none, and which must act or may stay away
abbrev pub choices : List ℕ → Bool → Bool → List Candidate
choices own trigger may_stay_away = (if may_stay_away then none_before own else []) ++ tagged (λ _. trigger) own

-- a candidate with the leaves of a later child's
abbrev pub with_later : ℕ → Bool → Candidate → Candidate
with_later moved leads candidate = record { mask = moved + candidate.mask; leads = candidate.leads || leads }

-- each candidate of a later child, moved up by so many leaves, with each of the children before it
abbrev pub joined : List Candidate → ℕ → List Candidate → List Candidate
joined low at high = flat_map (λ later. map (with_later (later.mask * 2 ^ at) later.leads) low) high

-- the masks of the candidates; with triggers, of those that lead
abbrev pub masks_taken : Bool → List Candidate → List ℕ
masks_taken triggers candidates = map (λ candidate. candidate.mask) (filter (λ candidate. candidate.leads || not triggers) candidates)
