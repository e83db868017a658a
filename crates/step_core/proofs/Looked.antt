-- What other connectors see of a connector, word by word of its interactions.
use Rattle.std.proofs.Common.{◌≡◌, ◌⊎◌, ◌↔◌, inl, inr, ⊎_elim, ℕ, ◌+◌, ◌*◌, ◌/◌, ◌%◌, ◌<◌, refl, sym, ◌∙◌, ap, List, Bool, true, false, ◌&&◌, arith}
use Rattle.std.specs.FinSet.{contains}
use Rattle.std.proofs.lemmas.Bool.{and_parts, cases_eq, false≢true}
use Rattle.priority_filter.specs.Members.{has_bit}
use Rattle.plant_model.specs.Choice.{Interaction}
use Rattle.plant_model.specs.ConnectorRows.{is_of_connector}
use Rattle.plant_model.specs.Ranks.{HasRival}
use Rattle.plant_model.specs.declared.ranks.Ranks.{Ranks}
use Rattle.step_core.specs.Standing.{IsRivalry}
use Rattle.step_core.specs.declared.standing.Rivalry.{Rivalry}

-- it is what is known of the interactions of the connector in the words before one
pub record IsLooked (interactions : List Interaction) (ranks : Ranks) (connector place : ℕ) (old new : ℕ → Bool) (r : Rivalry) : Type 0 where
  pub some : r.has_rival ≡ true → HasRival interactions new connector
  pub none : (n : ℕ) → is_of_connector interactions connector n ≡ true → n / 64 < place → new n ≡ true → r.has_rival ≡ true
  pub same : r.is_watched_new ≡ false → (n : ℕ) → is_of_connector interactions connector n ≡ true → n / 64 < place → contains ranks.watched n ≡ true → new n ≡ old n
  pub same_heads : r.is_head_new ≡ false → (n : ℕ) → is_of_connector interactions connector n ≡ true → n / 64 < place → contains ranks.heads n ≡ true → new n ≡ old n

and-true : (b : Bool) → (b && true) ≡ b
and-true true = refl
and-true false = refl

module _ (interactions : List Interaction) (ranks : Ranks) (connector place : ℕ) (old new : ℕ → Bool) where
  -- before its first word nothing is
  pub none-looked : (r : Rivalry) → r.has_rival ≡ false → ((n : ℕ) → is_of_connector interactions connector n ≡ true → n / 64 < place → ⊥) → IsLooked interactions ranks connector place old new r
  none-looked r none before = record {
    some = λ yes_. absurd (false≢true (sym none ∙ yes_));
    none = λ n own below is. absurd (before n own below);
    same = λ still n own below seen. absurd (before n own below);
    same_heads = λ still n own below head. absurd (before n own below);
  }

  -- one word more is looked at
  pub look-next : (before now : ℕ) (was is : Rivalry) → IsLooked interactions ranks connector place old new was
      → ((n : ℕ) → n / 64 ≡ place → has_bit before (n % 64) ≡ (old n && is_of_connector interactions connector n))
      → ((n : ℕ) → n / 64 ≡ place → has_bit now (n % 64) ≡ (new n && is_of_connector interactions connector n))
      → ((is.has_rival ≡ true) ↔ ((was.has_rival ≡ true) ⊎ ((k : ℕ) × (k < 64) × (has_bit now k ≡ true))))
      → (is.is_watched_new ≡ false → was.is_watched_new ≡ false)
      → (is.is_watched_new ≡ false → (n : ℕ) → n / 64 ≡ place → contains ranks.watched n ≡ true → has_bit now (n % 64) ≡ has_bit before (n % 64))
      → (is.is_head_new ≡ false → was.is_head_new ≡ false)
      → (is.is_head_new ≡ false → (n : ℕ) → n / 64 ≡ place → contains ranks.heads n ≡ true → has_bit now (n % 64) ≡ has_bit before (n % 64))
      → IsLooked interactions ranks connector (place + 1) old new is
  look-next before now was is so_far before_is now_is rival was_watched watched was_head head =
      let own-bit : (word : ℕ) (test : ℕ → Bool) → ((n : ℕ) → n / 64 ≡ place → has_bit word (n % 64) ≡ (test n && is_of_connector interactions connector n)) → (n : ℕ) → n / 64 ≡ place → is_of_connector interactions connector n ≡ true → has_bit word (n % 64) ≡ test n =
      λ word test word_is n here own. word_is n here ∙ ap (λ b. test n && b) own ∙ and-true (test n) in
      record {
        some = λ yes_. ⊎_elim so_far.some
            (λ found.
            let n : ℕ = 64 * place + found.0 in
            let here : n / 64 ≡ place = omega (arith, found.1) in
            let bit : n % 64 ≡ found.0 = omega (arith, found.1) in
            let parts = and_parts (new n) (is_of_connector interactions connector n) (sym (now_is n here) ∙ ap (has_bit now) bit ∙ found.2) in
            (n, parts.1, parts.0))
            (rival.0 yes_);
        none = λ n own below yes_. ⊎_elim
            (λ here. let low : n % 64 < 64 = omega arith in rival.1 (inr (n % 64, low, own-bit now new now_is n here own ∙ yes_)))
            (λ apart. rival.1 (inl (so_far.none n own (omega (arith, below, apart)) yes_)))
            (cases_eq (n / 64) place);
        same = λ still n own below seen. ⊎_elim
            (λ here. sym (own-bit now new now_is n here own) ∙ watched still n here seen ∙ own-bit before old before_is n here own)
            (λ apart. so_far.same (was_watched still) n own (omega (arith, below, apart)) seen)
            (cases_eq (n / 64) place);
        same_heads = λ still n own below seen. ⊎_elim
            (λ here. sym (own-bit now new now_is n here own) ∙ head still n here seen ∙ own-bit before old before_is n here own)
            (λ apart. so_far.same_heads (was_head still) n own (omega (arith, below, apart)) seen)
            (cases_eq (n / 64) place);
      }

  -- once all of its words are, it is known what other connectors see of it
  pub all-looked : (r : Rivalry) → ((n : ℕ) → is_of_connector interactions connector n ≡ true → n / 64 < place) → ((n : ℕ) → is_of_connector interactions connector n ≡ false → new n ≡ old n)
      → IsLooked interactions ranks connector place old new r → IsRivalry interactions ranks connector old new r
  all-looked r within others looked = record {
    others = others;
    some = (looked.some, λ rival. looked.none rival.0 rival.1 (within rival.0 rival.1) rival.2);
    same = λ still n own seen. looked.same still n own (within n own) seen;
    same_heads = λ still n own seen. looked.same_heads still n own (within n own) seen;
  }
