-- What holds of the guard clauses and of the transfers of a connector holds of them with the one that a line adds.
use Rattle.std.proofs.Common.{◌≡◌, subst, Bool, true, false, not, ◌&&◌, List, [], ◌∷◌, ◌++◌, length, Result, Ok, ℕ}
use Rattle.std.specs.Prelude.{nat_lt, nat_le}
use Rattle.std.specs.List.{list_all}
use Rattle.std.specs.Option.{ok_or}
use Rattle.std.proofs.lemmas.Bool.{and_from, and_parts, le-leb, ltb-true, not-true}
use Rattle.petri_atom.specs.Expression.{Tree, word_count, all_variables}
use Rattle.petri_atom.specs.declared.parts.TheConstants.{MAX_WORDS}
use Rattle.plant_model.specs.Plant.{TransferDefinition}
use Rattle.plant_model.specs.Rules.{are_small_guards, are_small_transfers}
use Rattle.plant_model.specs.declared.limits.TheConstants.{MAX_GUARDS, MAX_TRANSFERS}
use Rattle.plant_model.specs.declared.wire.Export.{Export}
use Rattle.plant_words.specs.declared.line_fault.LineFault.{LineFault}
use Rattle.plant_words.specs.declared.line_fault.LineFault.TheVariants.{Twice, UnknownName, Limit}
use Rattle.plant_words.specs.Reading.{◌>>=◌, check, first_word}
use Rattle.plant_words.proofs.Exits.{room_for_one}
use Rattle.plant_words.proofs.Once.{all_and_one}
use Rattle.plant_words.proofs.Steps.{led_on, passed, same_end}
use Rattle.connector_lines.specs.Rows.{Named, whole_expression, has_target, has_targets_once, target_in, transfer_in, guards_with, transfers_with}
use Rattle.connector_lines.specs.Parts.{Passes}
use Rattle.connector_lines.proofs.Expressions.{expression_is_kept}
use Rattle.connector_lines.proofs.OnePartMore.{transfer_is_kept}
use Rattle.connector_lines.proofs.TransferSteps.{transfer_read}
use Rattle.connector_lines.proofs.Targets.{targets_once_with_another}

-- ---- guard clauses

-- guard clauses within the limits, whose variables pass the test
pub record SoundGuards (test : Export → Bool) (guards : List (Tree Export)) : Type 0 where
  pub small : are_small_guards guards ≡ true
  pub passing : list_all (all_variables test) guards ≡ true

pub guards_sound : (test : Export → Bool) (named : Named) → Passes test named → (words : List (List ℕ)) (guards next : List (Tree Export)) →
    SoundGuards test guards → guards_with named words guards ≡ Ok next → SoundGuards test next
guards_sound test named passing words guards next sound told =
    let added : Tree Export → Result (List (Tree Export)) LineFault = λ guard. Ok (guards ++ guard ∷ []) in
    let room = led_on (check (nat_lt (length guards) MAX_GUARDS) Limit) (λ _. whole_expression named words >>= added) next told in
    let guard = led_on (whole_expression named words) added next room.2 in
    let kept = expression_is_kept test named passing words guard.0 guard.1 in
    let small = and_parts (nat_le (length guards) MAX_GUARDS) (list_all (λ clause. nat_le (word_count clause) MAX_WORDS) guards) sound.small in
    let same : guards ++ guard.0 ∷ [] ≡ next = same_end (guards ++ guard.0 ∷ []) next guard.2 in
    subst (SoundGuards test) same (record {
      small = and_from _ _ (le-leb _ _ (room_for_one MAX_GUARDS guards guard.0 (ltb-true (length guards) MAX_GUARDS (passed (nat_lt (length guards) MAX_GUARDS) Limit room.0 room.1))))
          (all_and_one (λ clause. nat_le (word_count clause) MAX_WORDS) guards guard.0 small.1 (le-leb (word_count guard.0) MAX_WORDS kept.within));
      passing = all_and_one (all_variables test) guards guard.0 sound.passing kept.passing;
    })

-- ---- transfers

-- transfers within the limits, whose variables pass the test, and whose targets are all different
pub record SoundTransfers (test : Export → Bool) (transfers : List TransferDefinition) : Type 0 where
  pub small : are_small_transfers transfers ≡ true
  pub passing : list_all (λ t. test t.target && all_variables test t.value) transfers ≡ true
  pub once : has_targets_once transfers ≡ true

-- a target that a line names is none of those before
target_is_new : (named : Named) (before : List TransferDefinition) (words : List (List ℕ)) (target : Export) →
    target_in named before words ≡ Ok target → has_target before target ≡ false
target_is_new named before words target told =
    let tested : Export → Result Export LineFault = λ variable. check (not (has_target before variable)) Twice >>= λ _. Ok variable in
    let word = led_on (first_word words) (λ word. ok_or (named word) UnknownName >>= tested) target told in
    let variable = led_on (ok_or (named word.0) UnknownName) tested target word.2 in
    let new = led_on (check (not (has_target before variable.0)) Twice) (λ _. Ok variable.0) target variable.2 in
    let same : variable.0 ≡ target = same_end variable.0 target new.2 in
    subst (λ t. has_target before t ≡ false) same (not-true (has_target before variable.0) (passed (not (has_target before variable.0)) Twice new.0 new.1))

transfer_is_new : (named : Named) (before : List TransferDefinition) (words : List (List ℕ)) (t : TransferDefinition) →
    transfer_in named before words ≡ Ok t → has_target before t.target ≡ false
transfer_is_new named before words t told =
    let read = transfer_read named before words t told in
    subst (λ s. has_target before s.target ≡ false) read.is (target_is_new named before words read.target read.targeted)

pub transfers_sound : (test : Export → Bool) (named : Named) → Passes test named →
    (words : List (List ℕ)) (transfers next : List TransferDefinition) →
    SoundTransfers test transfers → transfers_with named words transfers ≡ Ok next → SoundTransfers test next
transfers_sound test named passing words transfers next sound told =
    let added : TransferDefinition → Result (List TransferDefinition) LineFault = λ t. Ok (transfers ++ t ∷ []) in
    let room = led_on (check (nat_lt (length transfers) MAX_TRANSFERS) Limit) (λ _. transfer_in named transfers words >>= added) next told in
    let t = led_on (transfer_in named transfers words) added next room.2 in
    let kept = transfer_is_kept test named passing transfers words t.0 t.1 in
    let small = and_parts (nat_le (length transfers) MAX_TRANSFERS) (list_all (λ u. nat_le (word_count u.value) MAX_WORDS) transfers) sound.small in
    let same : transfers ++ t.0 ∷ [] ≡ next = same_end (transfers ++ t.0 ∷ []) next t.2 in
    subst (SoundTransfers test) same (record {
      small = and_from _ _ (le-leb _ _ (room_for_one MAX_TRANSFERS transfers t.0 (ltb-true (length transfers) MAX_TRANSFERS (passed (nat_lt (length transfers) MAX_TRANSFERS) Limit room.0 room.1))))
          (all_and_one (λ u. nat_le (word_count u.value) MAX_WORDS) transfers t.0 small.1 (le-leb (word_count t.0.value) MAX_WORDS kept.value.within));
      passing = all_and_one (λ u. test u.target && all_variables test u.value) transfers t.0 sound.passing (and_from _ _ kept.target kept.value.passing);
      once = targets_once_with_another transfers t.0 sound.once (transfer_is_new named transfers words t.0 t.1);
    })
