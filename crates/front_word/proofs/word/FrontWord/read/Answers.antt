use Rattle.std.proofs.Common.{◌≡◌, map, ap, sym, ◌∙◌, subst, arith}
use Rattle.plant_core.specs.declared.front.Front.{Front}
use Rattle.front_word.specs.Fronts.{IsWithin, last_of}
use Rattle.front_word.proofs.Reading.{found_front}
use Rattle.front_word.proofs.Steps.{reads}
use Rattle.front_word.proofs.word.FrontWord.read.Goals as goal

pub load-found-requires : goal.load-found-requires
load-found-requires g c =
    let w = c.args.self.now in
    let one : w.table.shared.table_id.words ≡ 1 = ap (λ t. t.words) w.table_is ∙ w.words_are in (
      c.requires.table ∙ sym w.table_is,
      omega arith,
      reads g.E.Fronted.front _ _ _ w.table.shared.key (c.requires.opening ∙ sym w.key_is) c.requires.unspent,
    )

pub unpack-requires : goal.unpack-requires
unpack-requires g c =
    let w = c.args.self.now in
    let p = found_front g.E.Fronted.front _ _ _ w.opening (c.requires.opening ∙ sym w.opening_is) (subst (λ (f : Front). IsWithin f f) (sym w.opening_is) c.requires.opens) c.load-found.ensures.2.0 in
    (last_of w.opening (map g.E.Fronted.front c.load-found.new.seat.me.0.seen), p.0, p.1)

pub returns-clause-front : goal.returns-clause-front
returns-clause-front g c =
    let w = c.args.self.now in
    let fs = map g.E.Fronted.front c.load-found.new.seat.me.0.seen in
    let p = found_front g.E.Fronted.front _ _ _ w.opening (c.requires.opening ∙ sym w.opening_is) (subst (λ (f : Front). IsWithin f f) (sym w.opening_is) c.requires.opens) c.load-found.ensures.2.0 in
    c.unpack.ensures (last_of w.opening fs) p.0 p.1 ∙ ap (λ (f : Front). last_of f fs) w.opening_is

pub returns-clause-within : goal.returns-clause-within
returns-clause-within g c =
    let w = c.args.self.now in
    let fs = map g.E.Fronted.front c.load-found.new.seat.me.0.seen in
    let p = found_front g.E.Fronted.front _ _ _ w.opening (c.requires.opening ∙ sym w.opening_is) (subst (λ (f : Front). IsWithin f f) (sym w.opening_is) c.requires.opens) c.load-found.ensures.2.0 in
    subst (λ (f : Front). IsWithin g.N.WordNaming.opening f) (sym (c.unpack.ensures (last_of w.opening fs) p.0 p.1)) (subst (λ (f : Front). IsWithin f (last_of w.opening fs)) w.opening_is p.0)
