-- Which interactions of a word of a connector are possible by its rows, and a set that they are put into.
use Rattle.std.proofs.Common.{◌≡◌, ⊎_elim, ℕ, ◌/◌, ◌%◌, ◌<◌, ◌^◌, ◌==◌, ◌∙◌, ap, sym, refl, List, true, false, not, ◌&&◌, arith, w64}
use Rattle.std.specs.Prelude.{Some, bit_and, slice_get}
use Rattle.std.specs.Int.{bit_not, trailing_zeros}
use Rattle.std.specs.FinSet.{FinSet, contains}
use Rattle.std.specs.Ordering.{nat_cmp}
use Rattle.std.proofs.lemmas.Bool.{and_parts, and_right, both_ways, cases_Bool, cases_eq, eq-eqb, eqb-true}
use Rattle.std.proofs.lemmas.Nat.{and_le_l}
use Rattle.connector_tree.specs.Masks.{is_set}
use Rattle.petri_atom.specs.Expression.{is_true, value_of}
use Rattle.petri_atom.specs.Local.{Local}
use Rattle.priority_filter.specs.Members.{has_bit}
use Rattle.priority_filter.proofs.Words.{bit-and}
use Rattle.plant_model.specs.BoundExpressions.{clause_of}
use Rattle.plant_model.specs.Values.{value_there}
use Rattle.plant_model.specs.ConnectorRows.{ArePossibleAt, IsJudged, is_in_row}
use Rattle.plant_model.specs.declared.bound_expressions.Clause.{Clause}
use Rattle.plant_model.specs.declared.connector_rows.ConnectorRows.{ConnectorRows}
use Rattle.plant_model.proofs.BitsLeft.{lowest-set, no-bit}
use Rattle.plant_model.proofs.WordSets.{bit-without}

-- two masks that have a bit in common
common-bit : (a b : ℕ) → a < 2 ^ 16 → 0 < bit_and a b → (j : ℕ) × (is_set a j ≡ true) × (is_set b j ≡ true)
common-bit a b small some =
    let both = bit_and a b in
    let low : ℕ = trailing_zeros w64 both in
    let bits = and_parts (is_set a low) (is_set b low) (sym (bit-and a b low) ∙ lowest-set both some (omega (arith, small, and_le_l a b))) in
    (low, bits.0, bits.1)

module _ (r : ConnectorRows) (off : ℕ) (clauses : List Clause) (states : List Local) (place : ℕ) where
  -- none is, where a leaf that takes part in all of them offers nothing
  pub none-possible : ((n j : ℕ) → contains r.own n ≡ true → is_set r.must j ≡ true → is_in_row r.on_leaf.items n j ≡ true) → off < 2 ^ 16 → 0 < bit_and off r.must → ArePossibleAt place r off clauses states 0
  none-possible must small some =
      let found = common-bit off r.must small some in record {
        put = λ n at its none all_true. absurd (both_ways (is_in_row r.on_leaf.items n found.0) (none found.0 found.1) (must n found.0 its found.2));
        blocked = λ n j at set inside. no-bit (n % 64);
        forbidden = λ n k clause at there inside zero. no-bit (n % 64);
        within = λ n at out. no-bit (n % 64);
      }

  module _ (own : ℕ) (own_is : (n : ℕ) → n / 64 ≡ place → has_bit own (n % 64) ≡ contains r.own n) where
    -- and else they are those on none of these leaves that the clauses leave
    pub word-possible : (on word : ℕ) → on < 2 ^ 64
        → ((n j : ℕ) → n / 64 ≡ place → is_set off j ≡ true → is_in_row r.on_leaf.items n j ≡ true → has_bit on (n % 64) ≡ true)
        → ((n : ℕ) → n / 64 ≡ place → ((j : ℕ) → is_set off j ≡ true → is_in_row r.on_leaf.items n j ≡ false) → has_bit on (n % 64) ≡ false)
        → ((n : ℕ) → n / 64 ≡ place → ((k : ℕ) (clause : Clause) → slice_get clauses k ≡ Some clause → is_in_row r.under_clause.items n k ≡ true → is_true (value_of (value_there states) (clause_of clause).value) ≡ true) → has_bit word (n % 64) ≡ has_bit (bit_and own (bit_not w64 on)) (n % 64))
        → ((n k : ℕ) (clause : Clause) → n / 64 ≡ place → slice_get clauses k ≡ Some clause → is_in_row r.under_clause.items n k ≡ true → is_true (value_of (value_there states) (clause_of clause).value) ≡ false → has_bit word (n % 64) ≡ false)
        → ((k : ℕ) → k < 64 → has_bit (bit_and own (bit_not w64 on)) k ≡ false → has_bit word k ≡ false)
        → ArePossibleAt place r off clauses states word
    word-possible on word small one none stays goes within = record {
      put = λ n at its free all_true.
          stays n at all_true ∙ bit-without own on (n % 64) small (omega arith) ∙ ap (λ x. x && not (has_bit on (n % 64))) (own_is n at ∙ its) ∙ ap not (none n at free);
      blocked = λ n j at set inside.
          within (n % 64) (omega arith)
          (bit-without own on (n % 64) small (omega arith) ∙ ap (λ x. has_bit own (n % 64) && not x) (one n j at set inside) ∙ and_right (has_bit own (n % 64)) false refl);
      forbidden = goes;
      within = λ n at out.
          within (n % 64) (omega arith) (bit-without own on (n % 64) small (omega arith) ∙ ap (λ x. x && not (has_bit on (n % 64))) (own_is n at ∙ out));
    }

    -- a set that has of its own interactions of a word exactly these is right at them
    module _ (word : ℕ) (possible : ArePossibleAt place r off clauses states word) (old new : FinSet nat_cmp)
        (put : (n : ℕ) → n / 64 ≡ place → has_bit own (n % 64) ≡ true → contains new n ≡ has_bit word (n % 64))
        (kept : (n : ℕ) → n / 64 ≡ place → has_bit own (n % 64) ≡ false → has_bit word (n % 64) ≡ false → contains new n ≡ contains old n)
        (others : (n : ℕ) → (n / 64 ≡ place → ⊥) → contains new n ≡ contains old n) where
      is : (n : ℕ) → (contains r.own n && (n / 64 == place)) ≡ true → (contains r.own n ≡ true) × (n / 64 ≡ place)
      is n its = let parts = and_parts (contains r.own n) (n / 64 == place) its in (parts.0, eqb-true (n / 64) place parts.1)

      apart : (n : ℕ) → (contains r.own n && (n / 64 == place)) ≡ false → n / 64 ≡ place → contains r.own n ≡ false
      apart n out at =
          ⊎_elim
          (λ its. absurd (both_ways (n / 64 == place) (sym (ap (λ b. b && (n / 64 == place)) its) ∙ out) (eq-eqb (n / 64) place at)))
          (λ no. no)
          (cases_Bool (contains r.own n))

      pub judged-word : IsJudged (λ n. contains r.own n && (n / 64 == place)) r off clauses states old new
      judged-word = record {
        put = λ n its none all_true. let at = is n its in put n at.1 (own_is n at.1 ∙ at.0) ∙ possible.put n at.1 at.0 none all_true;
        blocked = λ n j its set inside. let at = is n its in put n at.1 (own_is n at.1 ∙ at.0) ∙ possible.blocked n j at.1 set inside;
        forbidden = λ n k clause its there inside zero. let at = is n its in put n at.1 (own_is n at.1 ∙ at.0) ∙ possible.forbidden n k clause at.1 there inside zero;
        others = λ n out.
            ⊎_elim
            (λ at. let no = apart n out at in kept n at (own_is n at ∙ no) (possible.within n at no))
            (λ other. others n other)
            (cases_eq (n / 64) place);
      }
