use Rattle.std.proofs.Common.{◌==◌, ◌<◌, ◌*◌, ◌^◌, ◌%◌, ◌∙◌, ap, bit_or, get_or, arith, ◌||◌, ◌&&◌}
use Rattle.std.specs.Int.{w16}
use Rattle.std.proofs.lemmas.Option.{slice_get-get_or}
use Rattle.petri_atom.proofs.Sets.{has-put}
use Rattle.connector_tree.specs.Masks.{is_set}
use Rattle.connector_tree.specs.declared.tree.Port.{Port}
use Rattle.record_replay.proofs.NamedInteractions.{leaf-more, leaves-all}
use Rattle.record_replay.proofs.finding.leaves_of.Goals as goal

pub loop-leaf-preserved : goal.loop-leaf-preserved
loop-leaf-preserved c =
    let leaves = c.args.leaves.now in
    let leaf = c.loop-leaf.leaf in
    let mask = c.loop-leaf.mask in
    let none : Port = record { atom = 0; port = 0 } in
    let below : leaf < 16 = omega (arith, c.loop-leaf-test.true, c.requires) in
    leaf-more leaves c.args.atoms leaf (get_or leaves leaf none) (slice_get-get_or leaves leaf none c.loop-leaf-test.true) (is_set mask) (is_set (bit_or mask (c.from.result * 2 ^ leaf % 65536))) c.loop-leaf.invariant
    (λ j. ap (λ n. is_set (bit_or mask (n * 2 ^ leaf % 65536)) j) c.from.ensures ∙ has-put w16 mask leaf j c.has_atom.result below ∙ ap (λ b. is_set mask j || (j == leaf) && b) c.has_atom.ensures)

pub returns : goal.returns
returns c j = c.loop-leaf.invariant j ∙ leaves-all c.args.leaves.now c.args.atoms c.loop-leaf.leaf (omega (arith, c.loop-leaf-test.false)) j
