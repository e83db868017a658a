use Rattle.std.proofs.Common.{◌∙◌, sym}
use Rattle.std.specs.FinSet.{contains}
use Rattle.std.proofs.lemmas.Bool.{and_parts}
use Rattle.plant_model.specs.ConnectorRows.{is_of_connector}
use Rattle.plant_model.specs.System.{interactions_in}
use Rattle.step_core.proofs.Ranked.{rank-at}
use Rattle.step_core.proofs.TopAlone.{all-top, flat-top, word-top}
use Rattle.step_core.proofs.alone.Apart.top_of_word.Goals as goal

pub returns-then-index-clause-top : goal.returns-then-index-clause-top
returns-then-index-clause-top c =
    let system = c.args.self.now.system.now in
    let possible = contains c.args.possible.now in
    let rank = c.index.result.now in
    all-top system c.args.connector c.requires.alone c.args.place c.args.word possible c.requires.in_word c.requires.word
    (flat-top system c.args.connector c.requires.alone rank (rank-at system c.args.connector rank c.requires.connector c.index.ensures) c.if-index.true possible)

pub without_below-requires-clause-rivals : goal.without_below-requires-clause-rivals
without_below-requires-clause-rivals c m here inside =
    (and_parts (contains c.args.possible.now m) (is_of_connector (interactions_in c.args.self.now.system.now) c.args.connector m) (sym (c.requires.word m here) ∙ inside)).0

pub returns-clause-top : goal.returns-clause-top
returns-clause-top c =
    let told = c.without_below.ensures in
    word-top c.args.self.now.system.now c.args.connector c.requires.alone c.args.place c.args.word (contains c.args.possible.now) c.requires.in_word c.requires.word
    c.without_below.result told.within told.goes told.gone
