-- What stands in a row of places.
use Rattle.std.specs.Prelude.{◌≡◌, ◌≤◌, ℕ, List, None, slice_index_or}
use Rattle.std.specs.List.{filter_map}
use Rattle.step_core.specs.declared.queue.Queue.{Queue}

-- the items that stand there, in the order of their places
abbrev pub items_in : {T : Type 0} → Queue T → List T
items_in q = filter_map (λ item. item) q.places

-- from a place on all are empty
abbrev pub IsFreeFrom : {T : Type 0} → ℕ → Queue T → Type 0
IsFreeFrom place q = (n : ℕ) → place ≤ n → slice_index_or q.places n None ≡ None
