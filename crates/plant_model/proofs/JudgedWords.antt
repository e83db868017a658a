-- Interactions of a connector that are judged word by word: a set that is right at those of some words is so at those of one word more.
use Rattle.std.proofs.Common.{◌≡◌, ⊎_elim, ℕ, ◌+◌, ◌/◌, ◌==◌, ◌∙◌, ap, sym, refl, List, Bool, true, false, nat_lt, ◌&&◌, arith}
use Rattle.std.specs.FinSet.{FinSet, contains}
use Rattle.std.specs.Ordering.{nat_cmp}
use Rattle.std.proofs.lemmas.Bool.{and_from, and_parts, both_ways, cases_Bool, cases_eq, eq-eqb, lt-ltb, ltb-true, ne_eqb}
use Rattle.petri_atom.specs.Local.{Local}
use Rattle.plant_model.specs.ConnectorRows.{IsJudged}
use Rattle.plant_model.specs.declared.bound_expressions.Clause.{Clause}
use Rattle.plant_model.specs.declared.connector_rows.ConnectorRows.{ConnectorRows}

module _ (r : ConnectorRows) (off : ℕ) (clauses : List Clause) (states : List Local) where
  -- at the same interactions
  pub judged-as : (p q : ℕ → Bool) (old new : FinSet nat_cmp) → ((n : ℕ) → p n ≡ q n) → IsJudged p r off clauses states old new → IsJudged q r off clauses states old new
  judged-as p q old new same judged = record {
    put = λ n own. judged.put n (same n ∙ own);
    blocked = λ n j own. judged.blocked n j (same n ∙ own);
    forbidden = λ n k clause own. judged.forbidden n k clause (same n ∙ own);
    others = λ n out. judged.others n (same n ∙ out);
  }

  -- at none
  pub judged-none : (p : ℕ → Bool) (old : FinSet nat_cmp) → ((n : ℕ) → p n ≡ false) → IsJudged p r off clauses states old old
  judged-none p old none = record {
    put = λ n own. absurd (both_ways (p n) (none n) own);
    blocked = λ n j own. absurd (both_ways (p n) (none n) own);
    forbidden = λ n k clause own. absurd (both_ways (p n) (none n) own);
    others = λ n _. refl;
  }

  -- at those of one word more
  module _ (own : ℕ → Bool) (place : ℕ) (old mid new : FinSet nat_cmp)
      (before : IsJudged (λ n. own n && nat_lt (n / 64) place) r off clauses states old mid)
      (here : IsJudged (λ n. own n && (n / 64 == place)) r off clauses states mid new) where
    in-it : (n : ℕ) → own n ≡ true → n / 64 ≡ place → (own n && (n / 64 == place)) ≡ true
    in-it n its at = and_from (own n) (n / 64 == place) its (eq-eqb (n / 64) place at)

    earlier : (n : ℕ) → own n ≡ true → (n / 64 ≡ place → ⊥) → nat_lt (n / 64) (place + 1) ≡ true → (own n && nat_lt (n / 64) place) ≡ true
    earlier n its other below = and_from (own n) (nat_lt (n / 64) place) its (lt-ltb (n / 64) place (omega (arith, other, ltb-true (n / 64) (place + 1) below)))

    kept : (n : ℕ) → (n / 64 ≡ place → ⊥) → contains new n ≡ contains mid n
    kept n other = here.others n (⊎_elim (λ yes_. ap (λ b. b && (n / 64 == place)) yes_ ∙ ne_eqb (n / 64) place other) (λ no. ap (λ b. b && (n / 64 == place)) no) (cases_Bool (own n)))

    pub judged-more : IsJudged (λ n. own n && nat_lt (n / 64) (place + 1)) r off clauses states old new
    judged-more = record {
      put = λ n is none all_true.
          let parts = and_parts (own n) (nat_lt (n / 64) (place + 1)) is in
          ⊎_elim
          (λ at. here.put n (in-it n parts.0 at) none all_true)
          (λ other. kept n other ∙ before.put n (earlier n parts.0 other parts.1) none all_true)
          (cases_eq (n / 64) place);
      blocked = λ n j is set inside.
          let parts = and_parts (own n) (nat_lt (n / 64) (place + 1)) is in
          ⊎_elim
          (λ at. here.blocked n j (in-it n parts.0 at) set inside)
          (λ other. kept n other ∙ before.blocked n j (earlier n parts.0 other parts.1) set inside)
          (cases_eq (n / 64) place);
      forbidden = λ n k clause is there inside zero.
          let parts = and_parts (own n) (nat_lt (n / 64) (place + 1)) is in
          ⊎_elim
          (λ at. here.forbidden n k clause (in-it n parts.0 at) there inside zero)
          (λ other. kept n other ∙ before.forbidden n k clause (earlier n parts.0 other parts.1) there inside zero)
          (cases_eq (n / 64) place);
      others = λ n out. ⊎_elim
          (λ its.
          let past : nat_lt (n / 64) (place + 1) ≡ false = sym (ap (λ b. b && nat_lt (n / 64) (place + 1)) its) ∙ out in
          let other : n / 64 ≡ place → ⊥ = λ at. both_ways (nat_lt (n / 64) (place + 1)) past (lt-ltb (n / 64) (place + 1) (omega (arith, at))) in
          let late : nat_lt (n / 64) place ≡ false = ⊎_elim (λ less. absurd (both_ways (nat_lt (n / 64) (place + 1)) past (lt-ltb (n / 64) (place + 1) (omega (arith, ltb-true (n / 64) place less))))) (λ no. no) (cases_Bool (nat_lt (n / 64) place)) in
          kept n other ∙ before.others n (ap (λ b. b && nat_lt (n / 64) place) its ∙ late))
          (λ no. here.others n (ap (λ b. b && (n / 64 == place)) no) ∙ before.others n (ap (λ b. b && nat_lt (n / 64) place) no))
          (cases_Bool (own n));
    }
