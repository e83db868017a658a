-- How many interactions the connectors of a text have.
use Rattle.std.proofs.Common.{◌≡◌, ◌∙◌, sym, ap, refl, ℕ, suc, ◌+◌, List, [], ◌∷◌, length, map}
use Rattle.std.proofs.lemmas.List.{length-map, length-append}
use Rattle.connector_tree.specs.TokenMeaning.{interactions_in}
use Rattle.plant_text.specs.Interactions.{interactions_at, interactions_from, trees_of}
use Rattle.plant_text.specs.Parts.{wire_listed}
use Rattle.plant_text.specs.declared.listed.ListedWire.{ListedWire}

-- how many interactions are listed
abbrev pub count_of : List ListedWire → ℕ
count_of [] = 0
count_of (w ∷ ws) = length w.masks.items + count_of ws

-- as many as the trees have
pub count_is : (k : ℕ) (wires : List ListedWire) → count_of wires ≡ length (interactions_from k (trees_of (map wire_listed wires)))
count_is k [] = refl
count_is k (w ∷ ws) =
    let tree = (wire_listed w).tree in
    let here : length w.masks.items ≡ length (interactions_at k tree) = ap length w.all ∙ sym (length-map (interactions_in tree) (λ (mask : ℕ). (k, mask))) in
    ap (λ n. n + count_of ws) here ∙ ap (λ n. length (interactions_at k tree) + n) (count_is (suc k) ws)
    ∙ sym (length-append (interactions_at k tree) (interactions_from (suc k) (trees_of (map wire_listed ws))))
