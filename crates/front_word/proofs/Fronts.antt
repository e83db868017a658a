-- Fronts that rise.
use Rattle.std.proofs.Common.{◌≡◌, List, [], ◌∷◌, ◌++◌, map, refl, ap}
use Rattle.plant_core.specs.declared.front.Front.{Front}
use Rattle.front_word.specs.Fronts.{IsNotBelow, IsRising, IsWithin, last_of}

pub last_of-snoc : (f g : Front) (fs : List Front) → last_of f (fs ++ g ∷ []) ≡ g
last_of-snoc f g [] = refl
last_of-snoc f g (h ∷ fs) = last_of-snoc h g fs

pub rising-snoc : (opening f g : Front) (fs : List Front) → IsRising opening f fs → IsWithin opening g → IsNotBelow (last_of f fs) g → IsRising opening f (fs ++ g ∷ [])
rising-snoc opening f g [] r within rises = (within, rises, tt)
rising-snoc opening f g (h ∷ fs) r within rises = (r.0, r.1, rising-snoc opening h g fs r.2 within rises)

pub last-within : (opening f : Front) (fs : List Front) → IsWithin opening f → IsRising opening f fs → IsWithin opening (last_of f fs)
last-within opening f [] w r = w
last-within opening f (g ∷ fs) w r = last-within opening g fs r.0 r.2

pub map-snoc : {E : Type 0} (front : E → Front) (es : List E) (e : E) → map front (es ++ e ∷ []) ≡ map front es ++ front e ∷ []
map-snoc front [] e = refl
map-snoc front (x ∷ es) e = ap (λ fs. front x ∷ fs) (map-snoc front es e)
