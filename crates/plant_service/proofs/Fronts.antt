-- How far a plant is, as it is printed.
use Rattle.std.proofs.Common.{◌≡◌, ◌∙◌, ap, ◌++◌, codes}
use Rattle.std.specs.Prelude.{decimal}
use Rattle.plant_core.specs.View.{View, fired_number}
use Rattle.plant_core.specs.declared.front.Front.{Front}
use Rattle.script_lines.specs.Answers.{front_line, front_of}

pub front-same : (v : View) (f : Front) → f.fired ≡ fired_number v → f.acked ≡ v.number → f.base ≡ v.base → front_line f ≡ front_line (front_of v)
front-same v f fired acked base =
    ap (λ n. codes "front " ++ decimal n ++ codes " " ++ decimal f.acked ++ codes " " ++ decimal f.base) fired ∙
    ap (λ n. codes "front " ++ decimal (fired_number v) ++ codes " " ++ decimal n ++ codes " " ++ decimal f.base) acked ∙
    ap (λ n. codes "front " ++ decimal (fired_number v) ++ codes " " ++ decimal v.number ++ codes " " ++ decimal n) base
