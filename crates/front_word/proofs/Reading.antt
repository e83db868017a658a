-- What a read finds.
use Rattle.std.proofs.Common.{◌≡◌, ℕ, map, ap, ◌∙◌, subst}
use Rattle.plant_core.specs.declared.front.Front.{Front}
use Rattle.front_word.specs.declared.knowing.Known.{Known}
use Rattle.front_word.specs.Fronts.{IsRising, IsWithin, last_of, packed}
use Rattle.front_word.specs.Rules.{IsRead}
use Rattle.front_word.proofs.Fronts.{last-within}

-- the number that was found holds the last front of what was seen
pub found_front : {E : Type 0} (front : E → Front) (v : Known E) (found : ℕ) (w : Known E) (opening : Front) → v.opening ≡ opening → IsWithin opening opening → IsRead front v found w
    → IsWithin opening (last_of opening (map front w.seen)) × (found ≡ packed opening (last_of opening (map front w.seen)))
found_front front v found w opening here opens read =
    let rises : IsRising opening opening (map front w.seen) = subst (λ (f : Front). IsRising f f (map front w.seen)) here read.rises in
    (last-within opening opening (map front w.seen) opens rises, read.word ∙ ap (λ (f : Front). packed f (last_of f (map front w.seen))) here)
