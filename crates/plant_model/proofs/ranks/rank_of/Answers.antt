use Rattle.std.proofs.Common.{◌∙◌, not, sym, ap, refl, length, arith}
use Rattle.std.proofs.lemmas.Bool.{not-true}
use Rattle.std.proofs.lemmas.Option.{slice_get_read}
use Rattle.plant_model.specs.declared.ranks.Shared.{Shared}
use Rattle.plant_model.proofs.Ranking.{own-at, read-at}
use Rattle.plant_model.proofs.ranks.rank_of.Goals as goal

pub is_some_above-requires-clause-below : goal.is_some_above-requires-clause-below
is_some_above-requires-clause-below c =
    let rows = c.args.rows.now in
    let row = c.index-rows-connector.result in
    c.requires.ranges c.args.connector row (slice_get_read rows (length rows) c.args.connector row refl c.requires.connector c.index-rows-connector.is)

pub is_some_above-requires-clause-above : goal.is_some_above-requires-clause-above
is_some_above-requires-clause-above c =
    let rows = c.args.rows.now in
    let row = c.index-rows-connector.result in
    c.requires.ranges c.args.connector row (slice_get_read rows (length rows) c.args.connector row refl c.requires.connector c.index-rows-connector.is)

pub returns : goal.returns
returns c =
    let rows = c.args.rows.now in
    let k = c.args.connector in
    let row = c.index-rows-connector.result in
    let at = slice_get_read rows (length rows) k row refl c.requires.connector c.index-rows-connector.is in
    let some = c.is_some_above in
    record {
      whole = λ s there. ap (λ (x : Shared). x.whole) (read-at c.args.shared.now k c.index-shared-connector.result (omega (arith, c.requires.as_many, c.requires.connector)) c.index-shared-connector.is s there);
      flat = (
        λ is n m own its. some.ensures.0 (not-true some.result is) n m (sym (own-at rows k n row at) ∙ own) (sym (own-at rows k m row at) ∙ its),
        λ none. ap not (some.ensures.1 (λ n m own its. none n m (own-at rows k n row at ∙ own) (own-at rows k m row at ∙ its))),
      );
      below_whole = c.below_whole.ensures;
      below_rest = c.below_rest.ensures;
    }
