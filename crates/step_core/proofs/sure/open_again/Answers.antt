use Rattle.std.proofs.Common.{◌≡◌, ◌<◌, ◌≤◌, ◌∙◌, ℕ, Bool, List, true, false, arith, ap, sym, map, length, ⊎_elim}
use Rattle.std.specs.Prelude.{Option}
use Rattle.std.specs.FinSet.{contains}
use Rattle.std.proofs.lemmas.Bool.{cases_lt, false≢true, false_from_ne_true}
use Rattle.std.proofs.lemmas.List.{length-map}
use Rattle.petri_atom.specs.Atom.{definition_of}
use Rattle.petri_atom.specs.Local.{Local}
use Rattle.priority_filter.specs.Members.{has_bit}
use Rattle.plant_model.specs.ConnectorRows.{is_of_connector}
use Rattle.plant_model.specs.Interaction.{interaction_of}
use Rattle.plant_model.specs.System.{interactions_in, plant_of}
use Rattle.plant_model.specs.declared.system.System.{System}
use Rattle.step_core.specs.Sure.{is_open_at}
use Rattle.plant_model.proofs.BitsLeft.{no-bit}
use Rattle.step_core.proofs.ConnectorsOf.{own-connector}
use Rattle.step_core.proofs.Openness.{none-open, open-past, whole-present}
use Rattle.step_core.proofs.sure.open_again.Goals as goal

-- what is kept of an interaction of which no connector is touched is right
module _ (system : System) (parts : List (Option Local)) (opened : ℕ → Bool) (touched : ℕ)
    (others : (n k : ℕ) → is_of_connector (interactions_in system) k n ≡ true → has_bit touched k ≡ false → opened n ≡ is_open_at (plant_of system).atoms parts (interactions_in system) n)
    (past : (n : ℕ) → length (interactions_in system) ≤ n → opened n ≡ false) (n : ℕ)
    (clean : (k : ℕ) → n < length (interactions_in system) → is_of_connector (interactions_in system) k n ≡ true → has_bit touched k ≡ false) where
  untouched : opened n ≡ is_open_at (plant_of system).atoms parts (interactions_in system) n
  untouched =
      ⊎_elim
      (λ within. let its = own-connector (interactions_in system) n within in others n its.0 its.1 (clean its.0 within its.1))
      (λ after. past n after ∙ sym (open-past (plant_of system).atoms parts (interactions_in system) n after))
      (cases_lt n (length (interactions_in system)))

pub returns-then-touched-eq0-clause-opened : goal.returns-then-touched-eq0-clause-opened
returns-then-touched-eq0-clause-opened c n =
    untouched c.args.system.now c.args.parts.now (contains c.args.opened.now) c.args.touched c.requires.others c.requires.past n (λ k within its. ap (λ w. has_bit w k) c.if-touched-eq0.true ∙ no-bit k)

pub returns-then-is_whole-clause-opened : goal.returns-then-is_whole-clause-opened
returns-then-is_whole-clause-opened c n =
    let parts = c.args.parts.now in
    let whole = sym c.is_whole.ensures ∙ c.if-is_whole.true in
    c.requires.whole c.if-flipped-eq0.true whole n ∙
    sym (none-open (plant_of c.args.system.now).atoms parts (interactions_in c.args.system.now) (whole-present parts whole) n)

-- an interaction that is not in is of none of the connectors
pub judge_touched-is_new-requires-clause-others : goal.judge_touched-is_new-requires-clause-others
judge_touched-is_new-requires-clause-others c n out =
    let system = c.args.system.now in
    let parts = c.args.parts.now in
    let all = interactions_in system in
    untouched system parts (contains c.args.opened.now) c.args.touched c.requires.others c.requires.past n
    (λ k within its. false_from_ne_true (has_bit c.args.touched k) (λ inside.
    false≢true (sym (out (omega (arith, within, ap length c.deref-2.ensures.value, length-map system.interactions.items interaction_of))) ∙ c.interactions_of.ensures n k its inside))) ∙
    ap (λ list. is_open_at (map definition_of list) parts all n) (sym c.deref.ensures.value) ∙
    ap (λ list. is_open_at (map definition_of c.deref.result.now) parts (map interaction_of list) n) (sym c.deref-2.ensures.value)

-- where another one is open, each of a connector that is not touched is as it was
pub returns-then-is_new-clause-same : goal.returns-then-is_new-clause-same
returns-then-is_new-clause-same c n k its out =
    let system = c.args.system.now in
    let parts = c.args.parts.now in
    c.judge_touched-is_new.ensures.opened n ∙
    ap (λ list. is_open_at (map definition_of c.deref.result.now) parts (map interaction_of list) n) c.deref-2.ensures.value ∙
    ap (λ list. is_open_at (map definition_of list) parts (interactions_in system) n) c.deref.ensures.value ∙
    sym (c.requires.others n k its out)
