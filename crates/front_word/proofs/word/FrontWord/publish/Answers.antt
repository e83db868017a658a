use Rattle.std.proofs.Common.{◌≡◌, map, ap, sym, ◌∙◌, subst, refl, arith}
use Rattle.plant_core.specs.declared.front.Front.{Front}
use Rattle.front_word.specs.Fronts.{IsNotBelow, IsWithin, last_of, packed}
use Rattle.front_word.proofs.Fronts.{last-within}
use Rattle.front_word.proofs.Publishing.{published_pass}
use Rattle.front_word.proofs.Steps.{publishes}
use Rattle.front_word.proofs.word.FrontWord.publish.Goals as goal

pub pack-old-requires : goal.pack-old-requires
pack-old-requires g c =
    let w = c.args.self.now in
    let pass = c.requires.pass in
    let fs = map g.E.Fronted.front c.args.seat.now.me.0.seen in
    subst (λ (f : Front). IsWithin f c.args.last) (sym w.opening_is) (subst (λ (f : Front). IsWithin g.N.WordNaming.opening f) (sym c.requires.last) (last-within g.N.WordNaming.opening g.N.WordNaming.opening fs pass.opens pass.rises))

pub compare_exchange_with-requires : goal.compare_exchange_with-requires
compare_exchange_with-requires g c =
    let w = c.args.self.now in
    let front = g.E.Fronted.front in
    let pass = c.requires.pass in
    let key = w.table.shared.key in
    let one : w.table.shared.table_id.words ≡ 1 = ap (λ t. t.words) w.table_is ∙ w.words_are in
    let here : w.opening ≡ key = w.opening_is ∙ sym w.key_is in
    let fs = map front c.args.seat.now.me.0.seen in (
      pass.of_table ∙ sym w.table_is,
      omega arith,
      publishes front _ _ _ key c.args.last c.args.entry.now _ _ (ap (λ v. v.spent) pass.knows_it) (ap (λ v. v.publishes) pass.knows_it)
          (c.requires.last ∙ ap (λ (f : Front). last_of f fs) (sym w.key_is))
          (subst (λ (f : Front). IsWithin f (front c.args.entry.now)) (sym w.key_is) c.requires.within)
          c.requires.rises
          (c.pack-old.ensures ∙ ap (λ (f : Front). packed f c.args.last) here)
          (c.pack-new.ensures ∙ (ap (packed w.opening) c.front.ensures ∙ ap (λ (f : Front). packed f (front c.args.entry.now)) here)),
    )

pub returns-clause-pass : goal.returns-clause-pass
returns-clause-pass g c =
    let told = c.compare_exchange_with.ensures.2 c.args.entry.now refl in
    published_pass g.E.Fronted.front _ _ _ _ c.args.entry.now c.requires.pass c.compare_exchange_with.ensures.0 told.0 told.1 c.requires.within (subst (λ (f : Front). IsNotBelow f (g.E.Fronted.front c.args.entry.now)) c.requires.last c.requires.rises)
