-- The watches are read first, and the weights where all of them can be.
use Rattle.std.proofs.Common.{◌≡◌, ℕ, List, ap, subst}
use Rattle.std.specs.Option.{option_or}
use Rattle.std.specs.Prelude.{None, Option}
use Rattle.std.proofs.lemmas.Result.{err_from_is_err_and}
use Rattle.plant_model.specs.System.{plant_of}
use Rattle.plant_tasks.specs.Watches.{first_bad}
use Rattle.plant_tasks.specs.Weights.{first_unnamed}
use Rattle.plant_tasks.specs.Words.{first_misread}
use Rattle.plant_tasks.specs.declared.words.RunWords.{RunWords}
use Rattle.plant_tasks.proofs.Traced.{read_well}
use Rattle.plant_tasks.proofs.Unread.{told_bad, told_behind}
use Rattle.plant_tasks.proofs.words.read_words.Goals as goal

pub returns-in_err-read-clause-read : goal.returns-in_err-read-clause-read
returns-in_err-read-clause-read c =
    let told = err_from_is_err_and c.from_residual.result c.from_residual.ensures.1 in
    let plant = plant_of c.args.system.now in
    rw (told.1, told.2)
    (told_bad RunWords c.in_err-read.field-0.0 (first_misread plant c.args.watches.now c.args.weights.now) c.in_err-read.ensures.silent
    (λ other. ap (λ first. option_or first (first_unnamed plant c.args.weights.now)) (c.in_err-read.ensures.bad other)))

pub returns-in_err-given-clause-read : goal.returns-in_err-given-clause-read
returns-in_err-given-clause-read c =
    let told = err_from_is_err_and c.from_residual-in_err-given.result c.from_residual-in_err-given.ensures.1 in
    let plant = plant_of c.args.system.now in
    rw (told.1, told.2)
    (told_behind (Option (List ℕ)) RunWords c.in_err-given.field-0.0 (first_bad plant c.args.watches.now) (first_unnamed plant c.args.weights.now)
    (read_well plant c.args.watches.now c.in_ok-read.read.items c.in_ok-read.ensures.watches) c.in_err-given.ensures.silent c.in_err-given.ensures.read)

pub returns-clause-read : goal.returns-clause-read
returns-clause-read c =
    let plant = plant_of c.args.system.now in
    subst (λ first. None ≡ option_or first (first_unnamed plant c.args.weights.now))
    (read_well plant c.args.watches.now c.in_ok-read.read.items c.in_ok-read.ensures.watches) c.in_ok-given.ensures.read

pub returns-clause-words : goal.returns-clause-words
returns-clause-words c =
    let plant = plant_of c.args.system.now in
    record {
      read = c.in_ok-read.ensures.watches;
      given = c.in_ok-given.ensures.weights;
      all = subst (λ first. None ≡ option_or first (first_unnamed plant c.args.weights.now))
          (read_well plant c.args.watches.now c.in_ok-read.read.items c.in_ok-read.ensures.watches) c.in_ok-given.ensures.read;
    }
