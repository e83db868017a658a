use Rattle.std.proofs.Common.{map, ap, sym, ◌∙◌}
use Rattle.front_word.specs.Fronts.{last_of}
use Rattle.front_word.proofs.Fronts.{last_of-snoc, map-snoc}
use Rattle.front_word.proofs.passes.Publisher.publish.Goals as goal

pub invariant_of-self : goal.invariant_of-self
invariant_of-self g c =
    let opening = g.N.WordNaming.opening in
    let front = g.E.Fronted.front in
    let es = c.self.inside.seat.me.0.seen in
    let e = c.args.entry.now in (
      c.publish.ensures.pass,
      c.front-self-inside.ensures ∙ sym (ap (λ xs. last_of opening (map front xs)) c.publish.ensures.seen ∙ (ap (last_of opening) (map-snoc front es e) ∙ last_of-snoc opening (front e) (map front es))),
    )
