-- What a stop leaves of an append and a move of the base behind it.
use Rattle.std.specs.Prelude.{◌≡◌, ◌⊎◌, ℕ, ◌-◌, ◌≤◌, List, [], ◌∷◌, ◌++◌, length, take, drop, None}
use Rattle.disk_model.specs.Cells.{Cell}
use Rattle.record_codec.specs.Fired.{FiredFields}
use Rattle.gated_journal.specs.declared.ring.Ring.{Ring}
use Rattle.gated_journal.specs.Live.{live}
use Rattle.gated_journal.specs.Bases.{IsBased}
use Rattle.gated_journal.specs.Stops.{moved}

-- The base is the old one, and behind the records that were live are live the first ones of the new.
pub record IsFollowed (j : Ring) (news : List FiredFields) (before cells : List Cell) : Type 0 where
  pub based : IsBased j cells
  pub count : ℕ
  pub within : count ≤ length news
  pub reads : live j cells ≡ live j before ++ take count news

-- The base is the new one, and of the records that were live and the new ones those from the base on are live.
pub record IsCut (base : ℕ) (j : Ring) (news : List FiredFields) (before cells : List Cell) : Type 0 where
  pub based : IsBased (moved base j) cells
  pub reads : live (moved base j) cells ≡ drop (base - j.base) (live j before ++ news)

-- One of the two.
abbrev pub IsFollowedOrCut : ℕ → Ring → List FiredFields → List Cell → List Cell → Type 0
IsFollowedOrCut base j news before cells = IsFollowed j news before cells ⊎ IsCut base j news before cells

-- a journal of eight records behind two atoms, into which nothing was appended
abbrev pub empty_journal : Ring
empty_journal = record { atoms = 2; ring = 8; base_cell = 1; base = 1; last = 0 }

-- record n: atom 0 fired for the first time
abbrev pub record_of : ℕ → FiredFields
record_of n = record { number = n; connector = 0; entries = record { atom = 0; transition = 0; participation = 1; delivered = None ∷ None ∷ None ∷ None ∷ [] } ∷ [] }
