use Rattle.std.proofs.Common.{rules, ◌≡◌, ℕ, ◌<◌, slice_index_or, ◌++◌, ◌∷◌, [], List, All, length, map, refl, ap, sym, ◌∙◌, subst, arith}
use Rattle.std.proofs.lemmas.Grind.{common_steps}
use Rattle.std.proofs.lemmas.Iterator.Adapters.{YieldsList-from_vec}
use Rattle.std.proofs.lemmas.Iterator.Consumers.{YieldsList-end}
use Rattle.std.proofs.lemmas.List.Elements.{All-push, All-same}
use mathlib.Core.List.{IsPrefix}
use Rattle.engine_host.specs.declared.entry.Entry.{Entry}
use Rattle.engine_host.specs.declared.seat.Seat.{Seat}
use Rattle.engine_host.proofs.closing.gather.Goals as goal

map-id : {A : Type 0} (xs : List A) → map (λ y. y) xs ≡ xs
map-id [] = refl
map-id (x ∷ xs) = ap (λ ys. x ∷ ys) (map-id xs)

pub loop-share-preserved : goal.loop-share-preserved
loop-share-preserved g c =
    let whole = c.hear.new.self in
    let same : c.loop-share.publisher ≡ whole = c.loop-share.invariant.3 in
    let begins : IsPrefix c.in-Some-2.field-0.watch whole = subst (λ (xs : List Entry). IsPrefix c.in-Some-2.field-0.watch xs) same c.hear-in-loop-share.ensures.begins in (
      grind (arith, common_steps),
      grind (arith, common_steps),
      search rules,
      search rules,
      All-push (λ s. IsPrefix s.watch whole) c.loop-share.yielded c.in-Some-2.field-0 c.loop-share.invariant.4 begins,
    )

pub returns-clause-known : goal.returns-clause-known
returns-clause-known g c =
    let whole = c.hear.new.self in
    let given = c.into_iter-share-iterator.ensures.into_iter_gives in
    let end = YieldsList-end (YieldsList-from_vec {s = c.into_iter-share-iterator.result} c.pop.new.self.items given.0 (given.1 ∙ c.pop.new.self.ok.0)) c.loop-share.yielded c.loop-share.share-iterator c.loop-share.yielded_by c.next.result c.next.new.self c.in-None.is c.next.ensures.steps in
    let all : c.loop-share.yielded ≡ c.pop.new.self.items = sym (map-id c.loop-share.yielded) ∙ end.0 in
    let items : c.args.seats.items ≡ c.loop-share.yielded ++ c.in-Some.field-0 ∷ [] = search rules in
    let begins : IsPrefix c.in-Some.field-0.watch c.args.publisher.now = c.hear.ensures.begins in
    let P : Seat g.row.N.Denot g.N.Naming g.N.WordNaming → Type 0 = λ s. IsPrefix s.watch c.args.publisher.now in
    let before : All P c.loop-share.yielded = subst (λ (xs : List Entry). (k : ℕ) (d : Seat g.row.N.Denot g.N.Naming g.N.WordNaming) → k < length c.loop-share.yielded → IsPrefix (slice_index_or c.loop-share.yielded k d).watch xs) c.hear.ensures.same c.loop-share.invariant.4 in
    All-same P c.args.seats.items (c.loop-share.yielded ++ c.in-Some.field-0 ∷ []) items (All-push P c.loop-share.yielded c.in-Some.field-0 before begins)
