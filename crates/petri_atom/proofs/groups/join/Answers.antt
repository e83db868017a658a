use Rattle.std.proofs.Common.{◌*◌, ◌%◌, ◌^◌, ◌<◌, ◌∙◌, sym, ap, arith}
use Rattle.std.specs.Prelude.{bit_or, position}
use Rattle.std.proofs.lemmas.List.Quantifiers.{position-Some}
use Rattle.petri_atom.specs.Groups.{asks_same, is_movable}
use Rattle.petri_atom.specs.declared.groups.Group.{Group}
use Rattle.petri_atom.proofs.Grouping.{movable-joined, movable-made}
use Rattle.petri_atom.proofs.groups.join.Goals as goal

pub returns-in-Some : goal.returns-in-Some
returns-in-Some c =
    let groups = c.args.groups.now.items in
    let place = c.in-Some.place in
    let transition = c.args.transition.now in
    let one = c.args.number in
    let old = c.index_mut.result.now in
    let below : one < 128 = omega arith in
    let found = position-Some (λ g. asks_same g transition) groups place old (ap (position (λ g. asks_same g transition)) (sym c.deref.ensures.value) ∙ sym c.find_group.ensures ∙ c.in-Some.is) in
    let new : Group = record { sources = old.sources; blocking = old.blocking; members = bit_or old.members (1 * 2 ^ one % 2 ^ 128) } in
    let read = c.index_mut.ensures.value in
    record {
      joined = λ m n. movable-joined groups place one old new transition m n found.0 below found.1 (ap (λ g. g.sources) read) (ap (λ g. g.blocking) read) (ap (λ g. bit_or g.members (1 * 2 ^ one % 2 ^ 128)) read);
    }

pub returns-in_ok-push-in-None : goal.returns-in_ok-push-in-None
returns-in_ok-push-in-None c =
    record {
      joined = λ m n. ap (λ groups. is_movable groups m n) c.in_ok-push-in-None.ensures.items ∙ movable-made c.args.groups.now.items c.args.number c.of.result c.args.transition.now m n c.of.ensures.asks c.of.ensures.members;
    }
