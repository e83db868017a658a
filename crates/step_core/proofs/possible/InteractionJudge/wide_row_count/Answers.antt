use Rattle.std.proofs.Common.{◌≡◌, ◌+◌, ◌*◌, ◌-◌, ◌++◌, ℕ, List, length, map, take, drop, ap, sym, ◌∙◌, arith, length-drop}
use Rattle.std.proofs.lemmas.List.{length-append, map-append, take_all, take-append-drop}
use Rattle.petri_atom.specs.Atom.{definition_of}
use Rattle.connector_tree.specs.declared.tree.Port.{Port}
use Rattle.plant_model.specs.Choice.{moves_of, combinations}
use Rattle.plant_model.proofs.Combinations.{length-combinations-append, parts-bound}
use Rattle.step_core.proofs.possible.InteractionJudge.wide_row_count.Goals as goal

-- the ports in two parts are the ports
joined : (ports : List Port) (m : ℕ) → take m ports ++ take (length ports - m) (drop m ports) ≡ ports
joined ports m =
    let long = length-drop m ports in
    ap (λ rest. take m ports ++ rest) (take_all (length ports - m) (drop m ports) (omega (arith, long))) ∙ take-append-drop m ports

pub returns-clause-few : goal.returns-clause-few
returns-clause-few c =
    let ports : List Port = c.args.ports.now in
    let m : ℕ = 9 in
    let parts : length (take m ports) + length (take (length ports - m) (drop m ports)) ≡ length ports =
    sym (length-append (take m ports) (take (length ports - m) (drop m ports))) ∙ ap length (joined ports m) in
    rw (c.from.ensures, c.from-2.ensures)
    (parts-bound c.row_count.result c.row_count-2.result (length (take m ports)) (length (take (length ports - m) (drop m ports))) (length ports) c.row_count.ensures.few c.row_count-2.ensures.few parts)

pub returns-clause-count : goal.returns-clause-count
returns-clause-count c =
    let judged = c.args.self.now in
    let moves = moves_of (map definition_of judged.atoms.now) judged.states.now in
    let ports : List Port = c.args.ports.now in
    let m : ℕ = 9 in
    let front = take m ports in
    let rest = take (length ports - m) (drop m ports) in
    ap (λ n. n * c.from-2.result) (c.from.ensures ∙ c.row_count.ensures.count)
    ∙ ap (λ n. length (combinations (map moves front)) * n) (c.from-2.ensures ∙ c.row_count-2.ensures.count)
    ∙ sym (length-combinations-append (map moves front) (map moves rest))
    ∙ ap (λ lists. length (combinations lists)) (sym (map-append moves front rest))
    ∙ ap (λ list. length (combinations (map moves list))) (joined ports m)
