use Rattle.std.proofs.Common.{◌≡◌, ℕ, zero, suc, refl, sym, ◌∙◌, ap, subst, List, [], ◌∷◌, length, map, get_or, replicate, false}
use Rattle.std.specs.Prelude.{Option, Some, None, is_some}
use Rattle.std.proofs.lemmas.Bool.{false≢true}
use Rattle.std.proofs.lemmas.List.{length-map, length-replicate}
use Rattle.std.proofs.lemmas.Option.{none-some}
use Rattle.petri_atom.specs.Local.{Local}
use Rattle.plant_model.specs.Fitting.{AllFit}
use Rattle.plant_model.specs.Plant.{PlantDefinition}
use Rattle.plant_model.specs.System.{plant_of}
use Rattle.plant_model.specs.declared.system.System.{System}
use Rattle.step_core.specs.Dispatcher.{parts_in}
use Rattle.step_core.specs.Job.{JobDefinition}
use Rattle.step_core.specs.Parts.{nothing_shown}
use Rattle.step_executor.specs.Outstanding.{AreCommitted, AreKept, AreMarked, committed_by, ended_at, filled, is_part_away, kept_in, whole_of}
use Rattle.step_executor.proofs.Marked.{none-marked}
use Rattle.step_executor.proofs.executor.Executor.at.Goals as goal

-- no atom has a job
abbrev jobs-none : ℕ → List (Option JobDefinition)
jobs-none n = replicate n None

none-kept : (n : ℕ) → kept_in (replicate n None) ≡ jobs-none n
none-kept zero = refl
none-kept (suc n) = ap (λ js. None ∷ js) (none-kept n)

none-at : (n k : ℕ) → get_or (jobs-none n) k None ≡ None
none-at zero k = refl
none-at (suc n) zero = refl
none-at (suc n) (suc k) = none-at n k

-- each part of a whole state is present
no-away : (states : List Local) (k : ℕ) → is_part_away (map Some states) k ≡ false
no-away [] k = refl
no-away (s ∷ ss) zero = refl
no-away (s ∷ ss) (suc k) = no-away ss k

filled-whole : (others : ℕ → Local) (n : ℕ) (states : List Local) → filled others n (map Some states) ≡ states
filled-whole others n [] = refl
filled-whole others n (s ∷ ss) = ap (λ ws. s ∷ ws) (filled-whole others (suc n) ss)

pub invariant_of-result : goal.invariant_of-result
invariant_of-result c =
    let states : List Local = c.args.states in
    let plant : PlantDefinition = plant_of c.args.system.now in
    let jobs : kept_in c.in_ok-kept.kept.items ≡ jobs-none (length states) = ap kept_in c.in_ok-kept.ensures ∙ none-kept c.len.result ∙ ap jobs-none c.len.ensures in
    let parts : parts_in c.at.result ≡ map Some states = c.at.ensures.parts in
    let same = c.at.ensures.system in
    let committed : c.all.result ≡ map Some states = c.all.ensures ∙ ap (map Some) c.in_ok-committed.ensures in
    record {
      outstanding = subst (λ (s : System). AreKept (plant_of s) (parts_in c.at.result) (kept_in c.in_ok-kept.kept.items)) (sym same)
          (subst (λ ps. AreKept plant ps (kept_in c.in_ok-kept.kept.items)) (sym parts)
          (subst (AreKept plant (map Some states)) (sym jobs) (record {
            many = length-replicate (length states) None ∙ c.requires.of_plant;
            away = λ n. no-away states n ∙ sym (ap is_some (none-at (length states) n));
            own = λ n job its. absurd (none-some job (sym (none-at (length states) n) ∙ its));
          })));
      fits = subst (λ (s : System). AllFit (plant_of s) (whole_of (kept_in c.in_ok-kept.kept.items) (parts_in c.at.result))) (sym same)
          (subst (AllFit plant) (sym (ap (whole_of (kept_in c.in_ok-kept.kept.items)) parts ∙ filled-whole (ended_at (kept_in c.in_ok-kept.kept.items)) 0 states)) c.requires.fits);
      behind = subst (λ (s : System). AreCommitted (plant_of s) c.all.result (kept_in c.in_ok-kept.kept.items)) (sym same)
          (subst (λ ps. AreCommitted plant ps (kept_in c.in_ok-kept.kept.items)) (sym committed) (record {
            many = length-map states Some ∙ c.requires.of_plant;
            away = λ n away. absurd (false≢true (sym (no-away states n) ∙ away));
          }));
      marked = subst (λ ps. AreMarked 0 ps (parts_in c.at.result)) (sym committed)
          (subst (AreMarked 0 (map Some states)) (sym parts) (none-marked (map Some states)));
    }

pub returns-clause-states : goal.returns-clause-states
returns-clause-states c =
    ap (whole_of (kept_in c.in_ok-kept.kept.items)) c.at.ensures.parts ∙ filled-whole (ended_at (kept_in c.in_ok-kept.kept.items)) 0 c.args.states

pub returns-clause-committed : goal.returns-clause-committed
returns-clause-committed c =
    let states : List Local = c.args.states in
    let whole : List Local = whole_of (kept_in c.in_ok-kept.kept.items) (parts_in c.at.result) in
    ap (λ ps. committed_by ps whole) (c.all.ensures ∙ ap (map Some) c.in_ok-committed.ensures) ∙ filled-whole (λ n. get_or whole n nothing_shown) 0 states

pub returns-clause-none_away : goal.returns-clause-none_away
returns-clause-none_away c = ap kept_in c.in_ok-kept.ensures ∙ none-kept c.len.result ∙ ap jobs-none c.len.ensures
