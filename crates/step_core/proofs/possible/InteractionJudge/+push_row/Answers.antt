use Rattle.std.proofs.Common.{◌≡◌, subst, ◌/◌, ◌%◌, ◌++◌, ◌∷◌, [], ◌∙◌, ap, sym, arith, map, get_or, length, take, drop, ◌-◌}
use Rattle.std.specs.Prelude.{Some, slice_get}
use Rattle.std.proofs.lemmas.List.{append_assoc, length-append}
use Rattle.petri_atom.specs.Atom.{definition_of}
use Rattle.connector_tree.specs.declared.tree.Port.{Port}
use Rattle.plant_model.specs.Choice.{moves_of, combinations}
use Rattle.plant_model.proofs.Combinations.{count-positive, below-positive, first-within, later-within, below-is, row-by-first, length-later}
use Rattle.step_core.proofs.possible.InteractionJudge.+push_row.Goals as goal

pub split_place-split-requires : goal.split_place-split-requires
split_place-split-requires t c =
    let judged = c.args.self.now in
    let moves = moves_of (map definition_of judged.atoms.now) judged.states.now in
    let none : Port = record { atom = 0; port = 0 } in
    record {
      some = count-positive moves c.args.ports.now none c.in-len1-up.len_at_least c.args.total c.from-count.result c.args.place c.requires.total (c.from-count.ensures ∙ c.move_count.ensures.count) c.requires.place;
      whole = below-positive moves c.args.ports.now none c.in-len1-up.len_at_least c.args.total c.from-count.result c.args.place c.requires.total (c.from-count.ensures ∙ c.move_count.ensures.count) c.requires.place;
      place = c.requires.place;
    }

pub nth_move-requires : goal.nth_move-requires
nth_move-requires t c =
    let judged = c.args.self.now in
    let moves = moves_of (map definition_of judged.atoms.now) judged.states.now in
    let none : Port = record { atom = 0; port = 0 } in
    rw c.split_place-split.ensures.own
    (first-within moves c.args.ports.now none c.in-len1-up.len_at_least c.args.total c.from-count.result c.args.place c.requires.total (c.from-count.ensures ∙ c.move_count.ensures.count) c.requires.place)

pub push_row-requires : goal.push_row-requires
push_row-requires t c =
    let judged = c.args.self.now in
    let moves = moves_of (map definition_of judged.atoms.now) judged.states.now in
    let none : Port = record { atom = 0; port = 0 } in
    let long = length-later c.args.ports.now c.in-len1-up.len_at_least in (
      omega (arith, long, c.decreases),
      (
        omega (arith, long, c.requires.room, ap length c.push.ensures, length-append c.args.moves.now (c.nth_move.result ∷ [])),
        (c.split_place-split.ensures.below ∙ below-is moves c.args.ports.now none c.in-len1-up.len_at_least c.args.total c.from-count.result c.args.place c.requires.total (c.from-count.ensures ∙ c.move_count.ensures.count) c.requires.place, rw (c.split_place-split.ensures.rest, c.split_place-split.ensures.below) (later-within moves c.args.ports.now none c.in-len1-up.len_at_least c.args.total c.from-count.result c.args.place c.requires.total (c.from-count.ensures ∙ c.move_count.ensures.count) c.requires.place)),
      ),
    )

pub returns-in-len1-up : goal.returns-in-len1-up
returns-in-len1-up t c =
    let judged = c.args.self.now in
    let moves = moves_of (map definition_of judged.atoms.now) judged.states.now in
    let none : Port = record { atom = 0; port = 0 } in
    let nth = c.nth_move.ensures in
    let row = row-by-first moves c.args.ports.now none c.in-len1-up.len_at_least c.args.total c.from-count.result c.args.place c.requires.total (c.from-count.ensures ∙ c.move_count.ensures.count) c.requires.place c.nth_move.result (subst (λ k. slice_get (moves (get_or c.args.ports.now 0 none)) k ≡ Some c.nth_move.result) c.split_place-split.ensures.own nth) in
    let rest = get_or (combinations (map moves (take (length c.args.ports.now - 1) (drop 1 c.args.ports.now)))) (c.args.place % (c.args.total / c.from-count.result)) [] in
    c.push_row.ensures ∙ ap (λ k. c.push.new.self ++ get_or (combinations (map moves (take (length c.args.ports.now - 1) (drop 1 c.args.ports.now)))) k []) c.split_place-split.ensures.rest ∙ ap (λ xs. xs ++ rest) c.push.ensures ∙ append_assoc c.args.moves.now (c.nth_move.result ∷ []) rest ∙ ap (λ xs. c.args.moves.now ++ xs) (sym row)
