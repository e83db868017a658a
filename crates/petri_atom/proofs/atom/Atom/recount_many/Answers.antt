use Rattle.std.proofs.Common.{◌<◌, ◌^◌, ap, arith, length}
use Rattle.std.specs.Int.{w128, trailing_zeros}
use Rattle.petri_atom.specs.Atom.{definition_of}
use Rattle.petri_atom.proofs.Drawn.{own_port}
use Rattle.petri_atom.proofs.Fitting.{few_ports, few_transitions}
use Rattle.petri_atom.proofs.Members.{there}
use Rattle.petri_atom.proofs.Recounting.{empty-left, fewer-left, past-left, port_there, recounted-all, recounting-more}
use Rattle.petri_atom.proofs.atom.Atom.recount_many.Goals as goal

pub set_count-changed-requires : goal.set_count-changed-requires
set_count-changed-requires c =
    let atom = c.args.self.now in
    let a = definition_of atom in
    let found = c.in-Some.ensures.lookup in
    let n = trailing_zeros w128 c.loop-left.left in
    let of = own_port atom.arcs.items c.deref.result.now a.transitions n c.in-Some.arcs.now c.deref.ensures.value atom.drawn found.3.0 found.1 in
    omega (arith, port_there a atom.well_formed n c.in-Some.arcs.now.port of, few_ports a atom.well_formed)

pub loop-left-smaller : goal.loop-left-smaller
loop-left-smaller c =
    let atom = c.args.self.now in
    let a = definition_of atom in
    let left = c.loop-left.left in
    let found = c.in-Some.ensures.lookup in
    let some : 0 < left = omega (arith, c.loop-left-test.true) in
    let small : left < 2 ^ 128 = omega arith in
    let n = trailing_zeros w128 left in
    let of = own_port atom.arcs.items c.deref.result.now a.transitions n c.in-Some.arcs.now c.deref.ensures.value atom.drawn found.3.0 found.1 in
    fewer-left a.transitions w128 (few_transitions a atom.well_formed) left small c.in-Some.arcs.now.port c.mask_of-mask.result n c.mask_of-mask.ensures of (there w128 left some small)

pub loop-left-preserved : goal.loop-left-preserved
loop-left-preserved c =
    let atom = c.args.self.now in
    let a = definition_of atom in
    let left = c.loop-left.left in
    let found = c.in-Some.ensures.lookup in
    let some : 0 < left = omega (arith, c.loop-left-test.true) in
    let of = own_port atom.arcs.items c.deref.result.now a.transitions (trailing_zeros w128 left) c.in-Some.arcs.now c.deref.ensures.value atom.drawn found.3.0 found.1 in
    recounting-more a atom.well_formed w128 (omega arith) (few_transitions a atom.well_formed) left some (omega arith) c.in-Some.arcs.now.port c.mask_of-mask.result c.mask_of-mask.ensures of c.args.before c.args.after c.loop-left.changed c.set_count-changed.result c.args.counts.now c.loop-left.counts c.set_count-changed.new.counts c.set_count-changed.ensures.counts c.set_count-changed.ensures.exact c.set_count-changed.array_long c.loop-left.invariant

pub returns-after-loop-left-clause-counts : goal.returns-after-loop-left-clause-counts
returns-after-loop-left-clause-counts c =
    let a = definition_of c.args.self.now in
    recounted-all a c.args.before c.args.after c.loop-left.left c.args.counts.now c.loop-left.counts c.loop-left.invariant.0
    (empty-left a.transitions c.loop-left.left (omega (arith, c.loop-left-test.false)))

pub returns-in_default-clause-counts : goal.returns-in_default-clause-counts
returns-in_default-clause-counts c =
    let atom = c.args.self.now in
    let a = definition_of atom in
    let left = c.loop-left.left in
    let some : 0 < left = omega (arith, c.loop-left-test.true) in
    recounted-all a c.args.before c.args.after left c.args.counts.now c.loop-left.counts c.loop-left.invariant.0
    (past-left a.transitions w128 left some (omega arith) (omega (arith, c.in_default.ensures.lookup.3, atom.drawn.0, ap length c.deref.ensures.value)))
