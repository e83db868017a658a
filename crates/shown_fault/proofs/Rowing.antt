-- Lists of which only the first ones are shown.
use Rattle.std.proofs.Common.{◌≡◌, refl, ℕ, zero, suc, ◌<◌, arith, List, [], ◌∷◌, length, codes}
use Rattle.std.specs.Borrow.{Bor}
use Rattle.shown_fault.specs.Lent.{lists_of}
use Rattle.shown_fault.specs.Masks.{more_masks}
use Rattle.shown_fault.specs.Missing.{more_names}

-- if there is no room for a name, dots stand for it
pub no_room : (room : ℕ) (names : List (Bor (List ℕ))) → room ≡ 0 → 0 < length names → more_names room (lists_of names) ≡ codes ", .."
no_room zero [] none some = absurd (omega arith)
no_room zero (name ∷ names) none some = refl
no_room (suc room) names none some = absurd (omega arith)

-- and for a mask
pub no_room_for_mask : (room : ℕ) (masks : List ℕ) → room ≡ 0 → 0 < length masks → more_masks room masks ≡ codes ", .."
no_room_for_mask zero [] none some = absurd (omega arith)
no_room_for_mask zero (mask ∷ masks) none some = refl
no_room_for_mask (suc room) masks none some = absurd (omega arith)
