-- The parts of the line that tells how much room there is, one after another.
use Rattle.std.proofs.Common.{◌≡◌, ◌∙◌, ◌+◌, ◌-◌, ◌++◌, ap, subst, arith, codes, length, ℕ, List, Option}
use Rattle.std.proofs.lemmas.Grind.{common_steps}
use Rattle.std.specs.Io.KnownBytes.{Appends}
use Rattle.std.proofs.KnownBytes.{Appends-trans}
use Rattle.plant_model.specs.Plant.{PlantDefinition}
use Rattle.plant_core.specs.View.{View, fired_number}
use Rattle.plant_service.specs.Queries.{held_text, live_in, part_text, room_text}

-- part by part
abbrev parts : PlantDefinition → View → List ℕ
parts plant v =
    part_text (codes "ring ") v.ring ++ (part_text (codes " live ") (live_in v) ++ (part_text (codes " free ") (v.ring - live_in v)
    ++ (part_text (codes " tail ") (length v.tail) ++ (codes " held" ++ (held_text plant v ++ codes "\n")))))

grouped : (plant : PlantDefinition) (v : View) → parts plant v ≡ room_text plant v
grouped plant v = grind (arith, common_steps)

pub room-printed : (plant : PlantDefinition) (v : View) (fired acked base : ℕ) → fired ≡ fired_number v → acked ≡ v.number → base ≡ v.base → (o0 o1 o2 o3 o4 o5 o6 o7 : Option (List ℕ))
    → Appends o0 o1 (part_text (codes "ring ") v.ring) → Appends o1 o2 (part_text (codes " live ") (fired + 1 - base)) → Appends o2 o3 (part_text (codes " free ") (v.ring - (fired + 1 - base)))
    → Appends o3 o4 (part_text (codes " tail ") (fired - acked)) → Appends o4 o5 (codes " held") → Appends o5 o6 (held_text plant v) → Appends o6 o7 (codes "\n") → Appends o0 o7 (room_text plant v)
room-printed plant v fired acked base is_fired is_acked is_base o0 o1 o2 o3 o4 o5 o6 o7 ring live free tail held names ended =
    let is_live : fired + 1 - base ≡ live_in v = ap (λ n. n + 1 - base) is_fired ∙ ap (λ n. fired_number v + 1 - n) is_base in
    let is_tail : fired - acked ≡ length v.tail = ap (λ n. n - acked) is_fired ∙ ap (λ n. fired_number v - n) is_acked ∙ (let e : fired_number v - v.number ≡ length v.tail = omega arith in e) in
    subst (Appends o0 o7) (grouped plant v)
    (Appends-trans o0 o1 o7 _ _ ring
    (Appends-trans o1 o2 o7 _ _ (subst (λ n. Appends o1 o2 (part_text (codes " live ") n)) is_live live)
    (Appends-trans o2 o3 o7 _ _ (subst (λ n. Appends o2 o3 (part_text (codes " free ") (v.ring - n))) is_live free)
    (Appends-trans o3 o4 o7 _ _ (subst (λ n. Appends o3 o4 (part_text (codes " tail ") n)) is_tail tail)
    (Appends-trans o4 o5 o7 _ _ held
    (Appends-trans o5 o6 o7 _ _ names ended))))))
